use Rattle.std.proofs.Common.{◌-◌, length, sym, ap, ◌∙◌, arith}
use Rattle.std.proofs.lemmas.Option.{slice_get_read}
use Rattle.sync_world.specs.Whole.{WorldModel}
use Rattle.sync_world.proofs.Wholes.{lent, lent_covered, lent_covered_none, lent_covered_past, lent_none, lent_past, lent_ready}
use Rattle.sync_world.proofs.world.World.device.Goals as goal

pub returns-then-number-eq0-clause-state : goal.returns-then-number-eq0-clause-state
returns-then-number-eq0-clause-state c = lent_none c.args.self.now.world c.args.number c.if-number-eq0.true

pub returns-then-index-as_slice-clause-state : goal.returns-then-index-as_slice-clause-state
returns-then-index-as_slice-clause-state c =
    let devices = c.self.inside.devices.items in
    let count = ap length c.as_slice.ensures.value in
    lent_past devices c.args.self.now.world c.args.number (sym (ap (λ (m : WorldModel). m.world.devices) c.self.view_is)) (omega (arith, c.if-number-eq0.false)) (omega (arith, c.if-index-as_slice.true, count))

pub returns-clause-state : goal.returns-clause-state
returns-clause-state c =
    let devices = c.self.inside.devices.items in
    lent devices c.args.self.now.world c.args.number c.index.result.now (sym (ap (λ (m : WorldModel). m.world.devices) c.self.view_is)) (omega (arith, c.if-number-eq0.false))
    (slice_get_read devices (length c.as_slice.result.now) (c.args.number - 1) c.index.result.now (ap length c.as_slice.ensures.value) c.if-index-as_slice.false c.index.ensures)

pub returns-then-number-eq0-clause-covered : goal.returns-then-number-eq0-clause-covered
returns-then-number-eq0-clause-covered c = lent_covered_none c.args.self.now c.args.number c.if-number-eq0.true

pub returns-then-index-as_slice-clause-covered : goal.returns-then-index-as_slice-clause-covered
returns-then-index-as_slice-clause-covered c =
    let count = ap length c.as_slice.ensures.value in
    lent_covered_past c.self.inside.devices.items c.args.self.now c.args.number (sym (ap (λ (m : WorldModel). m.covered) c.self.view_is)) (omega (arith, c.if-number-eq0.false)) (omega (arith, c.if-index-as_slice.true, count))

pub returns-clause-covered : goal.returns-clause-covered
returns-clause-covered c =
    let devices = c.self.inside.devices.items in
    lent_covered devices c.args.self.now c.args.number c.index.result.now (sym (ap (λ (m : WorldModel). m.covered) c.self.view_is)) (omega (arith, c.if-number-eq0.false))
    (slice_get_read devices (length c.as_slice.result.now) (c.args.number - 1) c.index.result.now (ap length c.as_slice.ensures.value) c.if-index-as_slice.false c.index.ensures)

pub returns-clause-ready : goal.returns-clause-ready
returns-clause-ready c =
    let devices = c.self.inside.devices.items in
    let holds = c.self.invariant (ap (λ (m : WorldModel). m.spent) c.self.view_is ∙ c.requires) in
    lent_ready devices (c.args.number - 1) c.index.result.now holds.ready
    (slice_get_read devices (length c.as_slice.result.now) (c.args.number - 1) c.index.result.now (ap length c.as_slice.ensures.value) c.if-index-as_slice.false c.index.ensures)
