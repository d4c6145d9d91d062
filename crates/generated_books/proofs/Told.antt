-- What is told of messages, as the calls of a device tell it.
use Rattle.std.proofs.Common.{◌≡◌, ℕ, ℤ, List, [], Option, Some, None, refl, sym, ap, ◌∙◌, subst}
use Rattle.std.specs.Prelude.{IsSome}
use Rattle.std.specs.Int.{w32, cast_signed}
use Rattle.field_merge.specs.declared.message.Message.{Message}
use Rattle.minute_trie.specs.Held.{Held, or_zero}
use Rattle.minute_trie.specs.Trie.{trie_of, held, IsTrieOf}
use Rattle.minute_trie.specs.declared.trie.Trie.{Trie}
use Rattle.kept_messages.specs.Pairs.{pairs_of}
use Rattle.envelope_cells.specs.BudgetOf.{budget_of}
use Rattle.envelope_cells.specs.CellOf.{cell_of}
use Rattle.envelope_cells.specs.declared.name.CellName.{CellName}
use Rattle.envelope_cells.specs.declared.name.CellKind.TheVariants.{ToBudget}
use Rattle.device_core.specs.Books.{rows_of}
use Rattle.generated_books.specs.Summary.{root_of, december_of}

pub root_is : (ms : List Message) (trie : Trie) → IsTrieOf (pairs_of ms) trie → cast_signed w32 (or_zero (held trie [])) ≡ root_of ms
unfolding root_of
root_is ms trie is = ap (λ (h : Held). cast_signed w32 (or_zero (h []))) is.same

pub december_is : (ms : List Message) (id : List ℕ) → id ≡ [] → cell_of (budget_of (rows_of ms)) (record { month = 202_412; kind = ToBudget; id = id }) ≡ Some (december_of ms)
unfolding december_of
december_is ms id none = ap (λ (x : List ℕ). cell_of (budget_of (rows_of ms)) (record { month = 202_412; kind = ToBudget; id = x })) none

pub some_is_there : {A : Type 0} (o : Option A) (x : A) → o ≡ Some x → IsSome o
some_is_there o x is = subst IsSome (sym is) refl

pub same_value : (z x : ℤ) (o : Option ℤ) → Some z ≡ o → o ≡ Some x → z ≡ x
same_value z x o p q = cc
