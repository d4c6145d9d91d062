use Rattle.std.proofs.Common.{◌≡◌, ◌++◌, drop, filter}
use Rattle.std.specs.Prelude.{flat_map}
use Rattle.book_edits.specs.Checks.{distinct}
use Rattle.rule_engine.specs.Edits.{changes}
use Rattle.book_edits.proofs.Once.{is_new}
use Rattle.rule_engine.proofs.making.all_changes.Given as goal

abbrev pub invariant-loop-id : goal.invariant-loop-id
invariant-loop-id l =
    l.writes.items ++ flat_map (changes l.book.rows l.rules) (filter (is_new l.seen) (distinct (drop l.id-index l.ids)))
    ≡ flat_map (changes l.book.rows l.rules) (distinct l.ids)
