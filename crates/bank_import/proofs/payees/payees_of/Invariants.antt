use Rattle.std.proofs.Common.{◌≡◌}
use Rattle.std.specs.Option.{option_or}
use Rattle.std.specs.BTreeMap as tree
use Rattle.std.specs.FinMap.{entries}
use Rattle.finite_sums.specs.Maps.{Text, text_cmp}
use Rattle.book_edits.specs.Checks.{least_where}
use Rattle.bank_import.specs.Drafts.{is_called}
use Rattle.bank_import.proofs.payees.payees_of.Given as goal

abbrev pub invariant-loop-id : goal.invariant-loop-id
invariant-loop-id l = (key : Text) → option_or (tree.get text_cmp l.found key) (least_where (is_called key) l.id-iterator) ≡ least_where (is_called key) (entries l.book.rows.payees)
