use Rattle.std.proofs.Common.{◌≡◌, sym, subst, ◌∙◌, ap, ap₂}
use Rattle.sqlite_value.specs.Order.{bytes, column}
use Rattle.budget_ports.specs.Keeper.{Rise}
use Rattle.budget_ports.specs.declared.keeper.Record.{Record}
use Rattle.sqlite_keeper.specs.Queries.{record_in}
use Rattle.sqlite_keeper.proofs.Ordered.{one_shown, rise_push}
use Rattle.sqlite_keeper.proofs.reading.records_in.Goals as goal

pub loop-row-preserved : goal.loop-row-preserved
loop-row-preserved c =
    let made : Record = record { key = c.new.result; body = c.new-in-loop-row.result } in
    let key : c.new.result ≡ bytes (column c.row-item.result 0) = c.new.ensures ∙ sym (ap bytes c.in_ok-get.ensures.ok.1) in
    let body : c.new-in-loop-row.result ≡ bytes (column c.row-item.result 1) = c.new-in-loop-row.ensures ∙ sym (ap bytes c.in_ok-get-2.ensures.ok.1) in
    let low = sym (rw (c.deref.ensures.value) at c.if-not-is_above.ensures) in
    let items = c.in_ok-push.ensures.items in (
      one_shown record_in c.args.rows.now c.loop-row.row-index c.row-item.result c.loop-row.found.items c.push.new.self.items made c.loop-row-test.true c.row-item.is c.loop-row.invariant.0 (ap₂ (λ k b. record { key = k; body = b }) key body) items,
      subst Rise (sym items) (rise_push c.loop-row.found.items made c.loop-row.invariant.1 low),
    )
