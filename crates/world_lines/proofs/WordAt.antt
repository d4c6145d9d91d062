-- A word that is read, and one that is missing.
use Rattle.std.proofs.Common.{◌≡◌, ℕ, ◌≤◌, List, Bool, true, false, cond, drop, Option, Some, Result, Err, length, ap, sym, ◌∙◌, subst}
use Rattle.std.specs.List.{slice_get}
use Rattle.std.specs.Option.{ok_or}
use Rattle.std.proofs.lemmas.Option.{slice_get_past}
use Rattle.field_merge.specs.Lines.{parts}
use Rattle.command_lines.specs.declared.command.Command.{Command}
use Rattle.command_lines.specs.Commands.{of_words}
use Rattle.command_lines.specs.declared.command.CommandFault.{CommandFault}
use Rattle.command_lines.specs.declared.command.CommandFault.TheVariants.{BadCommand}
use Rattle.world_lines.specs.Words.{◌>>=◌, word_at, IsReadAs}
use Rattle.world_lines.specs.Lines.{command_at, is_barred, is_wanted, placed}

pub reads_word : {A : Type 0} (words : List (List ℕ)) (index : ℕ) (word : List ℕ) (next : List ℕ → Result A CommandFault) → slice_get words index ≡ Some word → (word_at words index >>= next) ≡ next word
reads_word words index word next is = ap (λ (o : Option (List ℕ)). ok_or o (BadCommand index) >>= next) is

pub lacks_word : {A : Type 0} (words : List (List ℕ)) (index : ℕ) (next : List ℕ → Result A CommandFault) → length words ≤ index → (word_at words index >>= next) ≡ Err (BadCommand index)
lacks_word words index next past = ap (λ (o : Option (List ℕ)). ok_or o (BadCommand index) >>= next) (slice_get_past words index past)

-- the words of a line of the wanted kind that stands at an index are read behind it
pub reads_behind : (words : List (List ℕ)) (index : ℕ) (reads : Bool) (name rest : List ℕ) (r : Result Command CommandFault) → slice_get words index ≡ Some name → is_barred name ≡ false → is_wanted reads name ≡ true
    → parts rest ≡ drop index words → IsReadAs (placed index (of_words (parts rest))) r → IsReadAs (command_at words index reads) r
reads_behind words index reads name rest r at free wanted behind read =
    subst (λ (m : Result Command CommandFault). IsReadAs m r) (sym path) (subst (λ (ws : List (List ℕ)). IsReadAs (placed index (of_words ws)) r) behind read)
  where
    found : Result Command CommandFault
    found = placed index (of_words (drop index words))

    path : command_at words index reads ≡ found
    path =
        reads_word words index name (λ (n : List ℕ). cond (is_barred n) (Err (BadCommand 0)) (cond (is_wanted reads n) found (Err (BadCommand index)))) at
        ∙ ap (λ (b : Bool). cond b (Err (BadCommand 0)) (cond (is_wanted reads name) found (Err (BadCommand index)))) free
        ∙ ap (λ (b : Bool). cond b found (Err (BadCommand index))) wanted
