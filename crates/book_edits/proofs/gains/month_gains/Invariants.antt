use Rattle.std.proofs.Common.{◌≡◌, ◌++◌, drop, map as list_map}
use Rattle.book_edits.specs.declared.gains.Gain.{Gain}
use Rattle.book_edits.specs.Faults.{each}
use Rattle.book_edits.specs.Checks.{an_amount}
use Rattle.book_edits.specs.Mappings.{month_gain}
use Rattle.book_edits.proofs.gains.month_gains.Given as goal

abbrev pub invariant-loop-month : goal.invariant-loop-month
invariant-loop-month l = record {
  listed : l.gains.items ++ list_map (month_gain l.book.rows l.id l.to) (drop l.month-index l.months) ≡ list_map (month_gain l.book.rows l.id l.to) l.months;
  amounts : each (λ (g : Gain). an_amount g.amount) (list_map (month_gain l.book.rows l.id l.to) (drop l.month-index l.months)) ≡ each (λ (g : Gain). an_amount g.amount) (list_map (month_gain l.book.rows l.id l.to) l.months);
}
