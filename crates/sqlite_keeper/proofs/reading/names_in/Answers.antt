use Rattle.std.proofs.Common.{◌≡◌, sym, subst, ◌∙◌, ap}
use Rattle.sqlite_value.specs.Order.{bytes, column}
use Rattle.sqlite_keeper.specs.Queries.{name_in, Climb}
use Rattle.sqlite_keeper.proofs.Ordered.{one_shown, climb_push}
use Rattle.sqlite_keeper.proofs.reading.names_in.Goals as goal

pub loop-row-preserved : goal.loop-row-preserved
loop-row-preserved c =
    let name : c.new-name.result ≡ bytes (column c.row-item.result 0) = c.new-name.ensures ∙ sym (ap bytes c.in_ok-get.ensures.ok.1) in
    let low = sym (rw (c.deref.ensures.value) at c.if-not-is_next.ensures) in
    let items = c.in_ok-push.ensures.items in (
      one_shown name_in c.args.rows.now c.loop-row.row-index c.row-item.result c.loop-row.found.items c.push.new.self.items c.new-name.result c.loop-row-test.true c.row-item.is c.loop-row.invariant.0 name items,
      subst Climb (sym items) (climb_push c.loop-row.found.items c.new-name.result c.loop-row.invariant.1 low),
    )
