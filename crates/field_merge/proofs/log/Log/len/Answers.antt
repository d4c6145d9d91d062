use Rattle.field_merge.proofs.Stored.{rising_from}
use Rattle.field_merge.proofs.log.Log.len.Goals as goal

pub returns-clause-rising : goal.returns-clause-rising
returns-clause-rising c = rw (← c.self.view_is) (rising_from c.self.inside.messages.entries c.self.invariant.entries_stand.own c.self.invariant.entries_stand.rising)
