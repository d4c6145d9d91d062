use Rattle.device_sync.specs.Sync.{told}
use Rattle.sync_laws.proofs.Completing.{completes}
use Rattle.sync_laws.proofs.honest.sync_completely.Goals as goal

pub returns : goal.returns
returns g c = record {
  complete =
      completes c.talks_are_valid.ensures c.args.target.now c.args.group.now c.args.reading c.args.device.now.state
      (told (g.L.Link.exchanges c.args.link.now) (g.K.Keeper.tells c.args.keeper.now) (g.K.Keeper.contents c.args.keeper.now) (g.K.Keeper.left c.args.keeper.now))
      (told (g.L.Link.exchanges c.sync.new.link) (g.K.Keeper.tells c.sync.new.keeper) (g.K.Keeper.contents c.sync.new.keeper) (g.K.Keeper.left c.sync.new.keeper)) c.sync.new.device.state
      _ _ _ _ _ c.sync.result c.log-messages.ensures.valid (λ above. (c.sync.ensures.beyond above).0) c.sync.ensures.talked c.sync.ensures.met c.sync.ensures.link_count c.sync.ensures.count;
}
