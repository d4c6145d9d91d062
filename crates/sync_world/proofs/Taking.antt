-- An undo takes back what an edit wrote over, and a redo what an undo did.
use Rattle.std.proofs.Common.{◌≡◌, ℕ, ◌<◌, List, ◌++◌, Some, Result, Ok, Err, refl, sym, ap, ◌∙◌, subst}
use Rattle.std.proofs.lemmas.Option.{same_Some}
use Rattle.device_core.specs.declared.edit.LineRefusal.{LineRefusal}
use Rattle.device_core.specs.Device.{State, Accepted}
use Rattle.device_core.specs.Undoing.{IsRestored, LinesAreUndone}
use Rattle.sync_world.specs.declared.event.Event.TheVariants as events
use Rattle.sync_world.specs.declared.event.Outcome.{Outcome}
use Rattle.sync_world.specs.declared.event.Outcome.TheVariants.{Wrote}
use Rattle.sync_world.specs.declared.event.WorldEdit.{WorldEdit}
use Rattle.sync_world.specs.declared.event.WorldEdit.TheVariants.{Line, Undo, Redo}
use Rattle.sync_world.specs.declared.making.Making.{Making}
use Rattle.sync_world.specs.World.{WorldState, device_of, with_device, made_by, changed, news, wrote, edits_at, stepped}
use Rattle.sync_world.specs.Taking.{EditsAreTakenBack}
use Rattle.sync_world.proofs.Numbered.{same_ok, device_same}

-- what a device made of an edit that happened
record IsEdited (s t : State) (edit : WorldEdit) (reading n : ℕ) : Type 0 where
  accepted : Accepted
  is : changed s edit reading ≡ Ok accepted
  state : accepted.state ≡ t
  count : accepted.count ≡ n

same_writes : (n m : ℕ) (made ids : List (List ℕ)) → ◌≡◌ {A = Outcome} (Wrote n made) (Wrote m ids) → n ≡ m
same_writes n m made ids e = cc

is_edited : (w v : WorldState) (i : ℕ) (edit : WorldEdit) (reading n : ℕ) (made : List (List ℕ)) (s t : State)
    → device_of w.devices i ≡ Some s → stepped w (events.Edit i edit reading) ≡ Ok (v, Wrote n made) → device_of v.devices i ≡ Some t → IsEdited s t edit reading n
is_edited w v i edit reading n made s t h is k = by (changed s edit reading) refl (sym (ap (edits_at w i edit reading) h) ∙ is)
  where
    by : (x : Result Accepted LineRefusal) → changed s edit reading ≡ x → wrote w i s x ≡ Ok (v, Wrote n made) → IsEdited s t edit reading n
    by (Err refusal) e is = absurd (cc)
    by (Ok a) e is =
        let more : List Making = made_by i (news s a) in
        let u : WorldState = record w { devices = with_device w.devices i a.state; made = w.made ++ more; acknowledged = w.acknowledged ++ more } in
        let same = same_ok (u, Wrote a.count a.made) (v, Wrote n made) is in
        let world : u ≡ v = ap (λ (p : WorldState × Outcome). p.0) same in
        let outcome : Wrote a.count a.made ≡ Wrote n made = ap (λ (p : WorldState × Outcome). p.1) same in record {
          accepted = a;
          is = e;
          state = same_Some a.state t (sym (device_same w.devices i s a.state h) ∙ ap (λ (z : WorldState). device_of z.devices i) world ∙ k);
          count = same_writes a.count n a.made made outcome;
        }

pub take_back : LinesAreUndone → EditsAreTakenBack
take_back law = record {
  edits = λ edit nodes w v x u i reading later n m made ids before after back r some h is k l also j.
      let first = is_edited w v i (Line edit) reading n made before after h is k in
      let second = is_edited x u i Undo later m ids after back l also j in
      restored before after back first.accepted.state second.accepted.state first.state second.state
      (law.edits before edit reading later first.accepted second.accepted (r.ahead i before h) (subst (λ (c : ℕ). 0 < c) (sym first.count) some) first.is
      (ap (λ (s : State). changed s Undo later) first.state ∙ second.is));
  undos = λ nodes w v x u i reading later n m made ids before after back r some h is k l also j.
      let first = is_edited w v i Undo reading n made before after h is k in
      let second = is_edited x u i Redo later m ids after back l also j in
      restored before after back first.accepted.state second.accepted.state first.state second.state
      (law.undos before reading later first.accepted second.accepted (r.ahead i before h) (subst (λ (c : ℕ). 0 < c) (sym first.count) some) first.is
      (ap (λ (s : State). changed s Redo later) first.state ∙ second.is));
  redos = λ nodes w v x u i reading later n m made ids before after back r some h is k l also j.
      let first = is_edited w v i Redo reading n made before after h is k in
      let second = is_edited x u i Undo later m ids after back l also j in
      restored before after back first.accepted.state second.accepted.state first.state second.state
      (law.redos before reading later first.accepted second.accepted (r.ahead i before h) (subst (λ (c : ℕ). 0 < c) (sym first.count) some) first.is
      (ap (λ (s : State). changed s Undo later) first.state ∙ second.is));
}
  where
    restored : (before after back t b : State) → t ≡ after → b ≡ back → IsRestored before t b → IsRestored before after back
    restored before after back t b at is h = subst (λ (x : State). IsRestored before after x) is (subst (λ (x : State). IsRestored before x b) at h)
