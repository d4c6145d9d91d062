use Rattle.std.proofs.Common.{◌≡◌, ◌≤◌, ◌⊎◌, false, []}
use Rattle.budget_ports.specs.Contents.{Contents}
use Rattle.device_sync.specs.Sync.{told}
use Rattle.device_sync.proofs.Loop.{Goes}
use Rattle.device_sync.proofs.syncing.converse.Given as goal

abbrev pub invariant-rounds : goal.invariant-rounds
invariant-rounds g l = record {
  goes : Goes l.fn.target l.fn.group l.fn.reading l.fn.first l.initial.device.state
      (told (g.L.Link.exchanges l.initial.link) (g.K.Keeper.tells l.initial.keeper) (g.K.Keeper.contents l.initial.keeper) (g.K.Keeper.left l.initial.keeper))
      (told (g.L.Link.exchanges l.link) (g.K.Keeper.tells l.keeper) (g.K.Keeper.contents l.keeper) (g.K.Keeper.left l.keeper)) l.since l.left l.device.state;
  live : l.device.spent ≡ false;
  idle : l.device.batch ≡ [];
  most : l.left ≤ 99;
  before : (k : Contents) → g.K.Keeper.left l.keeper k → g.K.Keeper.left l.initial.keeper k ⊎ g.K.Keeper.tells l.initial.keeper;
  back : g.K.Keeper.tells l.keeper → g.K.Keeper.tells l.initial.keeper;
  count : g.K.Keeper.faults l.keeper ≡ g.K.Keeper.faults l.initial.keeper;
  link_count : g.L.Link.faults l.link ≡ g.L.Link.faults l.initial.link;
}

abbrev pub decreases-rounds : goal.decreases-rounds
decreases-rounds g l = l.left
