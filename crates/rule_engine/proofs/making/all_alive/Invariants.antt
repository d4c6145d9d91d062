use Rattle.std.proofs.Common.{◌≡◌, drop}
use Rattle.book_rows.specs.declared.fault.EditFault.TheVariants.{NoSuchTransaction}
use Rattle.book_rows.specs.Live.{is_alive}
use Rattle.book_edits.specs.Faults.{must, each}
use Rattle.rule_engine.proofs.making.all_alive.Given as goal

abbrev pub invariant-loop-id : goal.invariant-loop-id
invariant-loop-id l =
    each (λ id. must (is_alive l.book.rows id) (NoSuchTransaction id)) (drop l.id-index l.ids)
    ≡ each (λ id. must (is_alive l.book.rows id) (NoSuchTransaction id)) l.ids
