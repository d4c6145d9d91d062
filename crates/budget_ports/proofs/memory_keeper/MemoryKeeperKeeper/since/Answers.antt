use Rattle.std.proofs.Common.{sym, subst}
use Rattle.budget_ports.specs.Keeper.{Rise}
use Rattle.budget_ports.proofs.Rising.{records_rise}
use Rattle.budget_ports.proofs.memory_keeper.MemoryKeeperKeeper.since.Goals as goal

pub returns-clause-rise : goal.returns-clause-rise
returns-clause-rise c = subst Rise (sym c.in_ok-after.ensures) (records_rise _ c.args.group.now c.args.after.now)
