-- A device of a world, before and after an event.
use Rattle.std.proofs.Common.{◌≡◌, ℕ, List, [], Bool, true, false, Result, refl, sym, ap, ◌∙◌, subst}
use Rattle.field_merge.specs.declared.message.Message.{Message}
use Rattle.field_merge.specs.Messages.{AreMessages}
use Rattle.field_merge.specs.Log.{LogState, IsRising, messages_after}
use Rattle.hybrid_clock.specs.declared.stamp.Stamp.{Stamp}
use Rattle.device_core.specs.declared.edit.LineRefusal.{LineRefusal}
use Rattle.device_core.specs.Device.{State, DeviceState, Accepted, IsAhead, IsAccepted, accepted_as, at_rest, begun}
use Rattle.sync_world.specs.declared.event.WorldEdit.{WorldEdit}
use Rattle.sync_world.specs.declared.member.Changed.{Changed}
use Rattle.sync_world.specs.World.{changed}
use Rattle.sync_world.specs.Members.{HasChanged, HasStopped, last_text}
use Rattle.sync_world.specs.News.{LinesMakeNews}

-- the messages of a device's log rise
pub log_rises : (log : LogState) (ms : List Message) → log ≡ record { messages = ms; spent = false } → IsRising log.messages → IsRising ms
log_rises log ms is up = subst IsRising (ap (λ (l : LogState). l.messages) is) up

-- its clock is behind none of them
pub clock_ahead : (clock last : Stamp) (ms : List Message) → last ≡ clock → IsAhead last ms → IsAhead clock ms
clock_ahead clock last ms is h = subst (λ (s : Stamp). IsAhead s ms) is h

pub has_changed : LinesMakeNews → (old new after : DeviceState) (edit : WorldEdit) (reading writes : ℕ) (made : List (List ℕ)) (told : List Message) (since : List ℕ)
    → IsAhead old.state.clock old.state.messages → IsRising old.state.messages → AreMessages old.state.messages → AreMessages new.state.messages → IsRising new.state.messages
    → IsAccepted (changed old.state edit reading) new writes → new.spent ≡ false → after ≡ record new { batch = [] }
    → made ≡ after.made → since ≡ last_text old.state.messages → told ≡ messages_after since after.state.messages
    → HasChanged (changed old.state edit reading) old after (record { writes = writes; made = made; news = told })
has_changed law old new after edit reading writes made told since ahead rises valid later up is live commits made_is since_is told_is =
    let m = law old.state edit reading (accepted_as new writes) ahead rises valid later up is in
    let state : after.state ≡ new.state = ap (λ (d : DeviceState). d.state) commits in record {
      accepted = accepted_as new writes;
      is = is;
      at = record { state = state; ready = record { live = ap (λ (d : DeviceState). d.spent) commits ∙ live; idle = ap (λ (d : DeviceState). d.batch) commits } };
      node = ap (λ (s : State). s.clock.node) state ∙ m.node;
      writes = refl;
      made = made_is ∙ ap (λ (d : DeviceState). d.made) commits;
      told = told_is ∙ ap (λ (t : List ℕ). messages_after t after.state.messages) since_is ∙ ap (λ (s : State). messages_after (last_text old.state.messages) s.messages) state ∙ m.later;
    }

pub has_stopped : (meant : Result Accepted LineRefusal) (old new after : DeviceState) (c : Changed) (whole : Bool) (range : ℕ × ℕ) → whole ≡ true → HasChanged meant old new c
    → after ≡ record (at_rest (begun new.state.clock.node new.state.messages)) { covered = range } → HasStopped meant old after whole c.news
has_stopped meant old new after c whole range stays h is =
    let state : after.state ≡ begun old.state.clock.node h.accepted.state.messages =
    ap (λ (d : DeviceState). d.state) is ∙ ap (λ (n : List ℕ). begun n new.state.messages) h.node ∙ ap (λ (t : State). begun old.state.clock.node t.messages) h.at.state in
    record {
      accepted = h.accepted;
      is = h.is;
      with = λ e. (record { state = state; ready = record { live = ap (λ (d : DeviceState). d.spent) is; idle = ap (λ (d : DeviceState). d.batch) is } }, h.told);
      without = λ lost. let x : true ≡ false = sym stays ∙ lost in cc;
    }
