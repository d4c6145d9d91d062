use Rattle.std.proofs.Common.{◌∙◌, ◌++◌, ap, sym, rules}
use Rattle.budget_ports.specs.Groups.{bodies_after}
use Rattle.budget_ports.proofs.Latest.{records_back, scan_back, next_back, all_back}
use Rattle.budget_ports.proofs.group_records.GroupRecords.after.Goals as goal

pub loop-latest-init : goal.loop-latest-init
loop-latest-init c =
    let es = c.self.inside.records.keys in
    ap (λ l. l ++ records_back c.range-above.result) c.new-found.ensures.items ∙ ap records_back (c.range-above.ensures.between tt)
    ∙ scan_back c.in_ok-end.end es c.args.self.now c.self.view_is c.range-above.ensures.ordered
    ∙ ap (bodies_after c.args.self.now) (c.in_ok-end.ensures.key ∙ c.as_str.ensures)

pub loop-latest-smaller : goal.loop-latest-smaller
loop-latest-smaller c = Prim.search rules

pub loop-latest-preserved : goal.loop-latest-preserved
loop-latest-preserved c =
    next_back c.loop-latest.found.items c.push.new.self.items c.loop-latest.above c.next_back.new.self c.in-Some.latest.now _ c.in_ok-push.ensures.items c.in-Some.ensures.steps c.in_ok-record.ensures
    ∙ c.loop-latest.invariant

pub returns : goal.returns
returns c = c.new.ensures ∙ sym (all_back c.loop-latest.found.items c.loop-latest.above c.in_default.ensures.steps.0) ∙ c.loop-latest.invariant
