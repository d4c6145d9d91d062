-- What is kept of payees, by which records find theirs.
use Rattle.std.specs.Prelude.{◌≡◌}
use Rattle.std.specs.BTreeMap as tree
use Rattle.std.specs.BTreeMap.{BTreeMap}
use Rattle.std.specs.FinMap as map
use Rattle.finite_sums.specs.Maps.{Text, text_cmp}
use Rattle.book_rows.specs.declared.rows.Rows.{Rows}
use Rattle.book_edits.specs.Checks.{least_where}
use Rattle.bank_import.specs.Drafts.{is_called}

-- under each name stands the least id of the payees that are found by it
abbrev pub ArePayees : BTreeMap Text Text → Rows → Type 0
ArePayees found rows = (key : Text) → tree.get text_cmp found key ≡ least_where (is_called key) (map.entries rows.payees)
