use Rattle.std.proofs.Common.{Some, refl, ap}
use Rattle.hybrid_clock.specs.declared.clock.ClockFault.TheVariants.{Beyond}
use Rattle.device_core.specs.Device.{DeviceState}
use Rattle.device_sync.specs.declared.fault.SyncFault.TheVariants.{Clock}
use Rattle.device_sync.specs.declared.target.Target.{Target}
use Rattle.device_sync.specs.Sync.{Told, told}
use Rattle.peer_link.proofs.Meetings.{agrees_if, talks_if, grows_if}
use Rattle.peer_link.proofs.meeting.sync_peer.Goals as goal

pub returns-clause-agrees : goal.returns-clause-agrees
returns-clause-agrees g c =
    let k = c.args.keeper.now in
    let n = c.sync-ended.new.keeper in
    let old : Told = told (Some c.args.link.now.exchanges) (g.K.Keeper.tells k) (g.K.Keeper.contents k) (g.K.Keeper.left k) in
    let new : Told = told (Some c.sync-ended.new.link.exchanges) (g.K.Keeper.tells n) (g.K.Keeper.contents n) (g.K.Keeper.left n) in
    agrees_if c.args.target.now c.args.group.now c.args.reading (Clock (Beyond c.args.reading)) c.args.device.now.state old new c.sync-ended.new.device.state c.args.link.now c.sync-ended.new.link
    c.sync-ended.result (ap (λ (t : Target). t.token) c.requires.target) c.count-before.ensures.peer c.count-after.ensures.peer c.requires.told refl refl (λ w. (c.sync-ended.ensures.beyond w).0) c.sync-ended.ensures.talked c.sync-ended.ensures.met

pub returns-clause-talks : goal.returns-clause-talks
returns-clause-talks g c =
    let k = c.args.keeper.now in
    let n = c.sync-ended.new.keeper in
    let old : Told = told (Some c.args.link.now.exchanges) (g.K.Keeper.tells k) (g.K.Keeper.contents k) (g.K.Keeper.left k) in
    let new : Told = told (Some c.sync-ended.new.link.exchanges) (g.K.Keeper.tells n) (g.K.Keeper.contents n) (g.K.Keeper.left n) in
    talks_if c.args.target.now c.args.group.now c.args.reading (Clock (Beyond c.args.reading)) c.args.device.now.state old new c.sync-ended.new.device.state c.args.link.now c.sync-ended.new.link
    c.sync-ended.result c.requires.target refl refl (λ w. (c.sync-ended.ensures.beyond w).0) c.sync-ended.ensures.talked

pub returns-clause-grows : goal.returns-clause-grows
returns-clause-grows g c =
    let k = c.args.keeper.now in
    let n = c.sync-ended.new.keeper in
    let old : Told = told (Some c.args.link.now.exchanges) (g.K.Keeper.tells k) (g.K.Keeper.contents k) (g.K.Keeper.left k) in
    let new : Told = told (Some c.sync-ended.new.link.exchanges) (g.K.Keeper.tells n) (g.K.Keeper.contents n) (g.K.Keeper.left n) in
    grows_if c.received_are_joined.ensures c.args.target.now c.args.group.now c.args.reading c.args.device.now.state old new c.sync-ended.new.device.state c.sync-ended.result
    (λ w. ap (λ (d : DeviceState). d.state) (c.sync-ended.ensures.beyond w).1.0) c.sync-ended.ensures.talked
