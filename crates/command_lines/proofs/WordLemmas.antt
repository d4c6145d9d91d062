-- The words of a line, and the command of words.
use Rattle.std.proofs.Common.{◌≡◌, ◌≢◌, ℕ, ◌+◌, ◌<◌, ◌≤◌, Bool, true, false, cond, eqb, List, [], ◌∷◌, length, None, Some, Result, Ok, Err, refl, ap, sym, subst, arith}
use Rattle.std.specs.Result.{IsErrAnd}
use Rattle.std.specs.Prelude.{◌==◌, ◌^◌, IfErr}
use Rattle.std.specs.List.{onto_first}
use Rattle.std.proofs.lemmas.List.Splits.{length-slice_split}
use Rattle.std.proofs.lemmas.List.Sums.{count_by-le-length}
use Rattle.field_values.specs.declared.name.NameFault.{NameFault}
use Rattle.field_values.specs.Names.{IsName, field_of, names_fault}
use Rattle.field_values.proofs.NameLemmas.{names_fault-none}
use Rattle.field_merge.specs.Escapes.{bad_escape}
use Rattle.field_merge.specs.Lines.{parts}
use Rattle.command_lines.specs.declared.command.Command.{Command}
use Rattle.command_lines.specs.declared.command.CommandFault.{CommandFault}
use Rattle.command_lines.specs.Commands.{IsCommandFault, IsRead}
use Rattle.command_lines.specs.Forms.{no_more, unescaped_for, behind, command_of}

surplus_word : (c : Command) (last : ℕ) (w : List ℕ) (ws : List (List ℕ)) → command_of (no_more c) last (w ∷ ws) ≡ Err (last + 1)
surplus_word c last w ws =
    elim (bad_escape w) as (λ bad. command_of (unescaped_for (behind (no_more c)) w bad) (last + 1) ws ≡ Err (last + 1)) [
      | None ↦ refl
      | Some at ↦ refl
    ]

surplus_front : (c : Command) (last x : ℕ) (ps : List (List ℕ)) → command_of (no_more c) last (onto_first x ps) ≡ Err (last + 1)
surplus_front c last x [] = surplus_word c last (x ∷ []) []
surplus_front c last x (p ∷ ps) = surplus_word c last (x ∷ p) ps

surplus_at : (c : Command) (last x : ℕ) (b : Bool) (ps : List (List ℕ)) → command_of (no_more c) last (cond b ([] ∷ ps) (onto_first x ps)) ≡ Err (last + 1)
surplus_at c last x true ps = surplus_word c last [] ps
surplus_at c last x false ps = surplus_front c last x ps

-- what is left of a line has a word, which is one too many behind the last
pub surplus : (c : Command) (last : ℕ) (text : List ℕ) → command_of (no_more c) last (parts text) ≡ Err (last + 1)
surplus c last [] = surplus_word c last [] []
surplus c last (x ∷ xs) = surplus_at c last x (eqb x 9) (parts xs)

-- what is left of a line has a word
pub some_parts : (text : List ℕ) → parts text ≢ []
some_parts [] = λ e. cc
some_parts (x ∷ xs) = by (eqb x 9) (parts xs)
  where
    by : (b : Bool) (ps : List (List ℕ)) → cond b ([] ∷ ps) (onto_first x ps) ≢ []
    by true ps = λ e. cc
    by false [] = λ e. cc
    by false (p ∷ ps) = λ e. cc

-- the fault with which a `?` leaves a function is what the call gave
pub at_exit : (meant : Result Command ℕ) (r : Result Command CommandFault) (fault : CommandFault) → IsErrAnd r (λ given. given ≡ fault) → IsCommandFault meant fault → IsRead meant r
at_exit meant (Ok c) fault h f = absurd h
at_exit meant (Err given) fault h f = subst (IsCommandFault meant) (sym h) f

-- the same where the words before the fault were read
pub at_later_exit : (meant left : Result Command ℕ) (r : Result Command CommandFault) (fault : CommandFault) → meant ≡ left → IsErrAnd r (λ given. given ≡ fault) → IsCommandFault left fault → IsRead meant r
at_later_exit meant left r fault e h f = at_exit meant r fault h (subst (λ m. IsCommandFault m fault) (sym e) f)

-- the same of a call that gives something else
pub at_err : {A : Type 0} (P : CommandFault → Type 0) (r : Result A CommandFault) (fault : CommandFault) → IsErrAnd r (λ given. given ≡ fault) → P fault → IfErr r P
at_err P (Ok a) fault h f = tt
at_err P (Err given) fault h f = subst P (sym h) f

-- the same fault of what is the same
pub err_by : {A : Type 0} (meant other : List ℕ → Result Command ℕ) (r : Result A CommandFault) → ((id : List ℕ) → meant id ≡ other id)
    → IfErr r (λ fault. (id : List ℕ) → IsCommandFault (meant id) fault) → IfErr r (λ fault. (id : List ℕ) → IsCommandFault (other id) fault)
err_by meant other (Ok a) same h = tt
err_by meant other (Err fault) same h = λ id. subst (λ m. IsCommandFault m fault) (same id) (h id)

-- a line that is not too long has few words: at most one more than bytes
pub few_words : (line name : List ℕ) (ws : List (List ℕ)) → parts line ≡ name ∷ ws → length line ≤ 1_048_576 → length ws < 2 ^ 31
few_words line name ws e short =
    omega (arith, ap length e, length-slice_split (λ b. b == 9) line, count_by-le-length (λ b. b == 9) line)

-- three names have no fault together
pub names_are_fine : (d r c : List ℕ) (fault : NameFault) → IsName d → IsName r → IsName c → names_fault (field_of d r c) ≡ Some fault → ⊥
names_are_fine d r c fault first second third bad =
    let none : names_fault (field_of d r c) ≡ None = names_fault-none (field_of d r c) (record { dataset = first; row = second; column = third }) in cc
