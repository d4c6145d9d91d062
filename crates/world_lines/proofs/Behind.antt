-- A line of a device that stands behind other words.
use Rattle.std.proofs.Common.{◌≡◌, ℕ, ◌+◌, ◌≤◌, ◌<◌, ◌^◌, List, Bool, false, cond, Result, Ok, Err, length, sym, ap, ◌∙◌, arith}
use Rattle.std.proofs.lemmas.Bool.Decides.{nat_tests}
use Rattle.field_merge.specs.Lines.{parts}
use Rattle.command_lines.specs.declared.command.Command.{Command}
use Rattle.command_lines.specs.declared.command.CommandFault.TheVariants.{BadCommand}
use Rattle.command_lines.specs.Commands.{longest_line, is_too_long, of_words, command}
use Rattle.command_lines.specs.FirstBad.{FirstBadIsTold}
use Rattle.world_lines.specs.Lines.{placed}
use Rattle.world_lines.proofs.Weights.{few_parts}

pub short_line : (line : List ℕ) → length line ≤ longest_line → command line ≡ of_words (parts line)
short_line line le =
    let short : is_too_long line ≡ false = grind (arith, nat_tests) in
    ap (λ (b : Bool). cond b (Err 0) (of_words (parts line))) short

pub words_of_rest : (text rest : List ℕ) (r : Result Command ℕ) → text ≡ rest → length rest ≤ longest_line → command text ≡ r → of_words (parts rest) ≡ r
words_of_rest text rest r same le is = sym (short_line rest le) ∙ ap command (sym same) ∙ is

pub placed_ok : (index : ℕ) (text rest : List ℕ) (c : Command) → text ≡ rest → length rest ≤ longest_line → command text ≡ Ok c → placed index (of_words (parts rest)) ≡ Ok c
placed_ok index text rest c same le is = ap (placed index) (words_of_rest text rest (Ok c) same le is)

pub placed_bad : (index word : ℕ) (text rest : List ℕ) → text ≡ rest → length rest ≤ longest_line → command text ≡ Err word → placed index (of_words (parts rest)) ≡ Err (BadCommand (word + index))
placed_bad index word text rest same le is = ap (placed index) (words_of_rest text rest (Err word) same le is)

pub word_within : FirstBadIsTold → (index word : ℕ) (text rest : List ℕ) → text ≡ rest → length rest ≤ longest_line → index < 8 → command text ≡ Err word → word + index < 2 ^ 32
word_within told index word text rest same le small is =
    let within = (told (parts rest) word (words_of_rest text rest (Err word) same le is)).within in
    let few = few_parts rest in
    omega (arith, within, few, le, small)
