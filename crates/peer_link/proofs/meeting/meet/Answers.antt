use Rattle.std.proofs.Common.{ap, subst}
use Rattle.field_merge.specs.Log.{LogState, IsRising}
use Rattle.peer_link.proofs.Meetings.{all_meet}
use Rattle.peer_link.proofs.meeting.meet.Goals as goal

pub returns-in-Ok-sync_peer-3-clause-meet : goal.returns-in-Ok-sync_peer-3-clause-meet
returns-in-Ok-sync_peer-3-clause-meet g c =
    all_meet c.args.one.now.state.messages c.args.other.now.state.messages c.sync_peer.new.device.state.messages c.sync_peer-2.new.device.state.messages c.sync_peer-3.new.device.state.messages
    c.args.link.now c.sync_peer.new.link c.sync_peer-2.new.link c.sync_peer-3.new.link
    (subst IsRising (ap (λ (l : LogState). l.messages) c.log.ensures.log) c.len-one.ensures.rising) (subst IsRising (ap (λ (l : LogState). l.messages) c.log-2.ensures.log) c.len-other.ensures.rising)
    c.requires.empty c.in-Ok-sync_peer.ensures.agrees c.in-Ok-sync_peer-2.ensures.agrees c.in-Ok-sync_peer-3.ensures.agrees

pub returns-in-Ok-sync_peer-3-clause-talk : goal.returns-in-Ok-sync_peer-3-clause-talk
returns-in-Ok-sync_peer-3-clause-talk g c = record {
  between = c.sync_peer.new.device.state;
  then = c.sync_peer.new.link.exchanges;
  later = c.sync_peer-2.new.link.exchanges;
  first = c.in-Ok-sync_peer.ensures.talks;
  second = c.in-Ok-sync_peer-2.ensures.talks;
  third = c.in-Ok-sync_peer-3.ensures.talks;
}
