-- The devices of a world, before and after an event.
use Rattle.std.proofs.Common.{append-nil, ◌≡◌, ℕ, zero, suc, ◌-◌, ◌<◌, ◌≤◌, List, [], ◌∷◌, ◌++◌, Bool, true, false, Some, Ok, Err, map, length, refl, sym, ap, ap₂, ◌∙◌, subst, arith, slice_set, slice_index_or}
use Rattle.std.specs.Prelude.{option_map}
use Rattle.std.specs.List.{AllByRecursion, slice_get}
use Rattle.std.proofs.lemmas.Option.{slice_get-map, slice_get-get_or, slice_get_past}
use Rattle.device_core.specs.declared.edit.LineRefusal.{LineRefusal}
use Rattle.device_core.specs.declared.edit.LineRefusal.TheVariants.{NoMemory}
use Rattle.device_core.specs.Device.{State, DeviceState, begun, received}
use Rattle.field_merge.specs.declared.message.Message.{Message}
use Rattle.sync_wire.specs.declared.response.SyncResponse.{SyncResponse}
use Rattle.sync_world.specs.declared.event.Event.TheVariants as events
use Rattle.sync_world.specs.declared.event.Outcome.TheVariants.{Wrote, Took, Stopped}
use Rattle.sync_world.specs.declared.event.WorldEdit.{WorldEdit}
use Rattle.sync_world.specs.declared.event.WorldFault.TheVariants.{NoSuchDevice, Line}
use Rattle.sync_world.specs.declared.making.Making.{Making}
use Rattle.sync_world.specs.declared.member.Changed.{Changed}
use Rattle.sync_world.specs.World.{WorldState, device_of, with_device, made_by, changed, wrote, edits_at, took, takes_at, stopped, stops_at, stepped}
use Rattle.sync_world.specs.Members.{IsReady, HasChanged, HasReceived, HasStopped, IsAt, IsRefusedBy}
use Rattle.sync_world.specs.Steps.{states, fault_of, EditsTo, Refuses, TakesTo, RefusesReply, StopsTo}

pub all_set : {A : Type 0} (P : A → Type 0) (xs : List A) (i : ℕ) (x : A) → AllByRecursion P xs → P x → AllByRecursion P (slice_set xs i x)
all_set P [] i x h p = h
all_set P (y ∷ xs) zero x h p = (p, h.1)
all_set P (y ∷ xs) (suc i) x h p = (h.0, all_set P xs i x h.1 p)

pub map_set : {A B : Type 0} (f : A → B) (xs : List A) (i : ℕ) (x : A) → map f (slice_set xs i x) ≡ slice_set (map f xs) i (f x)
map_set f [] i x = refl
map_set f (y ∷ xs) zero x = refl
map_set f (y ∷ xs) (suc i) x = ap (λ l. f y ∷ l) (map_set f xs i x)

-- the device at a place has the number behind it
pub state_at : (old : List DeviceState) (w : WorldState) (k : ℕ) (s : DeviceState) → w.devices ≡ states old → slice_get old k ≡ Some s → device_of w.devices (suc k) ≡ Some s.state
state_at old w k s is h =
    ap (λ (ds : List State). slice_get ds k) is ∙ slice_get-map (λ (d : DeviceState). d.state) old k ∙ ap (option_map (λ (d : DeviceState). d.state)) h

pub edits_to : (old : List DeviceState) (k : ℕ) (edit : WorldEdit) (reading : ℕ) (s t : DeviceState) (c : Changed) → slice_get old k ≡ Some s → AllByRecursion IsReady old
    → HasChanged (changed s.state edit reading) s t c → EditsTo (suc k) edit reading old (slice_set old k t) c
edits_to old k edit reading s t c h ready m = record {
  ready = all_set IsReady old k t ready m.at.ready;
  steps = λ w is.
      let set : with_device w.devices (suc k) m.accepted.state ≡ states (slice_set old k t) =
      ap (λ (ds : List State). slice_set ds k m.accepted.state) is ∙ ap (slice_set (states old) k) (sym m.at.state) ∙ sym (map_set (λ (d : DeviceState). d.state) old k t) in
      ap (edits_at w (suc k) edit reading) (state_at old w k s is h)
      ∙ ap (wrote w (suc k) s.state) m.is
      ∙ ap₂ (λ (ds : List State) (ms : List Message). Ok (record w { devices = ds; made = w.made ++ made_by (suc k) ms; acknowledged = w.acknowledged ++ made_by (suc k) ms }, Wrote m.accepted.count m.accepted.made)) set (sym m.told)
      ∙ ap₂ (λ (n : ℕ) (ids : List (List ℕ)). Ok (record w { devices = states (slice_set old k t); made = w.made ++ made_by (suc k) c.news; acknowledged = w.acknowledged ++ made_by (suc k) c.news }, Wrote n ids)) (sym m.writes) (sym m.made);
}

pub nobody : (old : List DeviceState) (i : ℕ) (edit : WorldEdit) (reading : ℕ) → ((k : ℕ) → i ≡ suc k → length old ≤ k) → (w : WorldState) → w.devices ≡ states old → stepped w (events.Edit i edit reading) ≡ Err (NoSuchDevice i)
nobody old zero edit reading past w is = refl
nobody old (suc k) edit reading past w is =
    ap (edits_at w (suc k) edit reading)
    (ap (λ (ds : List State). slice_get ds k) is ∙ slice_get-map (λ (d : DeviceState). d.state) old k ∙ ap (option_map (λ (d : DeviceState). d.state)) (slice_get_past old k (past k refl)))

pub refuses : (old : List DeviceState) (k : ℕ) (edit : WorldEdit) (reading : ℕ) (s : DeviceState) (refusal : LineRefusal) → slice_get old k ≡ Some s → changed s.state edit reading ≡ Err refusal
    → (w : WorldState) → w.devices ≡ states old → stepped w (events.Edit (suc k) edit reading) ≡ Err (Line refusal)
refuses old k edit reading s refusal h is w same = ap (edits_at w (suc k) edit reading) (state_at old w k s same h) ∙ ap (wrote w (suc k) s.state) is

pub set_itself : {A : Type 0} (xs : List A) (k : ℕ) (x y : A) → slice_get xs k ≡ Some x → y ≡ x → slice_set xs k y ≡ xs
set_itself [] k x y h e = refl
set_itself (z ∷ xs) zero x y h e = let same : z ≡ x = cc in ap (λ w. w ∷ xs) (e ∙ sym same)
set_itself (z ∷ xs) (suc k) x y h e = ap (λ l. z ∷ l) (set_itself xs k x y h e)

pub with_number : (n : ℕ) → 0 < n → n ≡ suc (n - 1)
with_number n some = omega arith

pub edited_at : (old : List DeviceState) (n : ℕ) (edit : WorldEdit) (reading : ℕ) (d t : DeviceState) (c : Changed) → 0 < n → n - 1 < length old → AllByRecursion IsReady old
    → HasChanged (changed (slice_index_or old (n - 1) d).state edit reading) (slice_index_or old (n - 1) d) t c → EditsTo n edit reading old (slice_set old (n - 1) t) c
edited_at old n edit reading d t c some within ready m =
    subst (λ (i : ℕ). EditsTo i edit reading old (slice_set old (n - 1) t) c) (sym (with_number n some))
    (edits_to old (n - 1) edit reading (slice_index_or old (n - 1) d) t c (slice_get-get_or old (n - 1) d within) ready m)

pub refused_at : (old : List DeviceState) (n : ℕ) (edit : WorldEdit) (reading : ℕ) (d t : DeviceState) (refusal : LineRefusal) → 0 < n → n - 1 < length old
    → IsRefusedBy (changed (slice_index_or old (n - 1) d).state edit reading) (slice_index_or old (n - 1) d) t refusal → Refuses (events.Edit n edit reading) old (slice_set old (n - 1) t) (fault_of refusal)
refused_at old n edit reading d t refusal some within h = by refusal h
  where
    s : DeviceState
    s = slice_index_or old (n - 1) d

    at : slice_get old (n - 1) ≡ Some s
    at = slice_get-get_or old (n - 1) d within

    told : (refusal : LineRefusal) → changed s.state edit reading ≡ Err refusal → (w : WorldState) → w.devices ≡ states old → stepped w (events.Edit n edit reading) ≡ Err (Line refusal)
    told refusal is w same = subst (λ (i : ℕ). stepped w (events.Edit i edit reading) ≡ Err (Line refusal)) (sym (with_number n some)) (refuses old (n - 1) edit reading s refusal at is w same)

    by : (refusal : LineRefusal) → IsRefusedBy (changed s.state edit reading) s t refusal → Refuses (events.Edit n edit reading) old (slice_set old (n - 1) t) (fault_of refusal)
    by NoMemory h = tt
    by (LineRefusal.Edit fault) h = (set_itself old (n - 1) s t at h.1, told (LineRefusal.Edit fault) h.0)
    by (LineRefusal.Clock fault) h = (set_itself old (n - 1) s t at h.1, told (LineRefusal.Clock fault) h.0)

-- the same, of a device that was read there
pub edited_there : (old : List DeviceState) (n count : ℕ) (edit : WorldEdit) (reading : ℕ) (s t : DeviceState) (c : Changed) → 0 < n → n - 1 < count → count ≡ length old → s ≡ slice_index_or old (n - 1) s → AllByRecursion IsReady old
    → HasChanged (changed s.state edit reading) s t c → EditsTo n edit reading old (slice_set old (n - 1) t) c
edited_there old n count edit reading s t c some within number value ready m =
    edited_at old n edit reading s t c some (omega (arith, within, number)) ready (subst (λ (x : DeviceState). HasChanged (changed x.state edit reading) x t c) value m)

pub refused_there : (old : List DeviceState) (n count : ℕ) (edit : WorldEdit) (reading : ℕ) (s t : DeviceState) (refusal : LineRefusal) → 0 < n → n - 1 < count → count ≡ length old → s ≡ slice_index_or old (n - 1) s
    → IsRefusedBy (changed s.state edit reading) s t refusal → Refuses (events.Edit n edit reading) old (slice_set old (n - 1) t) (fault_of refusal)
refused_there old n count edit reading s t refusal some within number value h =
    refused_at old n edit reading s t refusal some (omega (arith, within, number)) (subst (λ (x : DeviceState). IsRefusedBy (changed x.state edit reading) x t refusal) value h)

-- ---- a reply comes

takes_to : (old : List DeviceState) (j k reading : ℕ) (replies : List SyncResponse) (s t : DeviceState) (reply : SyncResponse) (ms : List Message) (count : ℕ) → slice_get old j ≡ Some s → slice_get replies k ≡ Some reply → ms ≡ reply.messages
    → AllByRecursion IsReady old → HasReceived (received s.state ms reading) s t count → TakesTo (suc j) k reading replies old (slice_set old j t) count
takes_to old j k reading replies s t reply ms count h l same ready m = record {
  ready = all_set IsReady old j t ready m.at.ready;
  steps = λ w is also.
      let set : with_device w.devices (suc j) m.accepted.state ≡ states (slice_set old j t) =
      ap (λ (ds : List State). slice_set ds j m.accepted.state) is ∙ ap (slice_set (states old) j) (sym m.at.state) ∙ sym (map_set (λ (d : DeviceState). d.state) old j t) in
      ap₂ (takes_at w (suc j) k reading) (state_at old w j s is h) (ap (λ (rs : List SyncResponse). slice_get rs k) also ∙ l)
      ∙ ap (λ (ns : List Message). took w (suc j) (received s.state ns reading)) (sym same)
      ∙ ap (took w (suc j)) m.is
      ∙ ap₂ (λ (ds : List State) (n : ℕ). Ok (record w { devices = ds }, Took n)) set m.counted;
}

pub taken_there : (old : List DeviceState) (n k reading : ℕ) (replies : List SyncResponse) (s t : DeviceState) (reply : SyncResponse) (ms : List Message) (count : ℕ) → 0 < n → slice_get old (n - 1) ≡ Some s → slice_get replies k ≡ Some reply → ms ≡ reply.messages
    → AllByRecursion IsReady old → HasReceived (received s.state ms reading) s t count → TakesTo n k reading replies old (slice_set old (n - 1) t) count
taken_there old n k reading replies s t reply ms count some h l same ready m =
    subst (λ (i : ℕ). TakesTo i k reading replies old (slice_set old (n - 1) t) count) (sym (with_number n some)) (takes_to old (n - 1) k reading replies s t reply ms count h l same ready m)

pub untaken_there : (old : List DeviceState) (n k reading : ℕ) (replies : List SyncResponse) (s t : DeviceState) (reply : SyncResponse) (ms : List Message) (refusal : LineRefusal) → 0 < n → slice_get old (n - 1) ≡ Some s → slice_get replies k ≡ Some reply → ms ≡ reply.messages
    → IsRefusedBy (received s.state ms reading) s t refusal → RefusesReply n k reading replies old (slice_set old (n - 1) t) (fault_of refusal)
untaken_there old n k reading replies s t reply ms refusal some h l same r = by refusal r
  where
    told : (refusal : LineRefusal) → received s.state ms reading ≡ Err refusal → (w : WorldState) → w.devices ≡ states old → w.replies ≡ replies → stepped w (events.Take n k reading) ≡ Err (Line refusal)
    told refusal is w at also =
        subst (λ (i : ℕ). stepped w (events.Take i k reading) ≡ Err (Line refusal)) (sym (with_number n some))
        (ap₂ (takes_at w (suc (n - 1)) k reading) (state_at old w (n - 1) s at h) (ap (λ (rs : List SyncResponse). slice_get rs k) also ∙ l)
        ∙ ap (λ (ns : List Message). took w (suc (n - 1)) (received s.state ns reading)) (sym same)
        ∙ ap (took w (suc (n - 1))) is)

    by : (refusal : LineRefusal) → IsRefusedBy (received s.state ms reading) s t refusal → RefusesReply n k reading replies old (slice_set old (n - 1) t) (fault_of refusal)
    by NoMemory r = tt
    by (LineRefusal.Edit fault) r = (set_itself old (n - 1) s t h r.1, told (LineRefusal.Edit fault) r.0)
    by (LineRefusal.Clock fault) r = (set_itself old (n - 1) s t h r.1, told (LineRefusal.Clock fault) r.0)

-- ---- a stop

stops_to : (old : List DeviceState) (j : ℕ) (edit : WorldEdit) (reading : ℕ) (whole : Bool) (s t : DeviceState) (told : List Message) → slice_get old j ≡ Some s → AllByRecursion IsReady old
    → HasStopped (changed s.state edit reading) s t whole told → StopsTo (suc j) edit reading whole old (slice_set old j t) told
stops_to old j edit reading whole s t told h ready m = by whole refl
  where
    set : (state : State) (w : WorldState) → IsAt state t → w.devices ≡ states old → with_device w.devices (suc j) state ≡ states (slice_set old j t)
    set state w at is = ap (λ (ds : List State). slice_set ds j state) is ∙ ap (slice_set (states old) j) (sym at.state) ∙ sym (map_set (λ (d : DeviceState). d.state) old j t)

    by : (b : Bool) → whole ≡ b → StopsTo (suc j) edit reading whole old (slice_set old j t) told
    by true e =
        let kept = m.with e in record {
          ready = all_set IsReady old j t ready kept.0.ready;
          steps = λ w is.
              ap (stops_at w (suc j) edit reading whole) (state_at old w j s is h)
              ∙ ap₂ (stopped w (suc j) s.state) e m.is
              ∙ ap₂ (λ (ds : List State) (ms : List Message). Ok (record w { devices = ds; made = w.made ++ made_by (suc j) ms }, Stopped)) (set (begun s.state.clock.node m.accepted.state.messages) w kept.0 is) (sym kept.1);
        }
    by false e =
        let lost = m.without e in record {
          ready = all_set IsReady old j t ready lost.0.ready;
          steps = λ w is.
              ap (stops_at w (suc j) edit reading whole) (state_at old w j s is h)
              ∙ ap₂ (stopped w (suc j) s.state) e m.is
              ∙ ap₂ (λ (ds : List State) (xs : List Making). Ok (record w { devices = ds; made = xs }, Stopped)) (set (begun s.state.clock.node s.state.messages) w lost.0 is)
              (sym (ap (λ (ms : List Message). w.made ++ made_by (suc j) ms) lost.1 ∙ append-nil w.made));
        }

pub stopped_there : (old : List DeviceState) (n : ℕ) (edit : WorldEdit) (reading : ℕ) (whole : Bool) (s t : DeviceState) (told : List Message) → 0 < n → slice_get old (n - 1) ≡ Some s → AllByRecursion IsReady old
    → HasStopped (changed s.state edit reading) s t whole told → StopsTo n edit reading whole old (slice_set old (n - 1) t) told
stopped_there old n edit reading whole s t told some h ready m =
    subst (λ (i : ℕ). StopsTo i edit reading whole old (slice_set old (n - 1) t) told) (sym (with_number n some)) (stops_to old (n - 1) edit reading whole s t told h ready m)

pub unstopped_there : (old : List DeviceState) (n : ℕ) (edit : WorldEdit) (reading : ℕ) (whole : Bool) (s t : DeviceState) (refusal : LineRefusal) → 0 < n → slice_get old (n - 1) ≡ Some s
    → IsRefusedBy (changed s.state edit reading) s t refusal → Refuses (events.Stop n edit reading whole) old (slice_set old (n - 1) t) (fault_of refusal)
unstopped_there old n edit reading whole s t refusal some h r = by refusal r
  where
    told : (refusal : LineRefusal) → changed s.state edit reading ≡ Err refusal → (w : WorldState) → w.devices ≡ states old → stepped w (events.Stop n edit reading whole) ≡ Err (Line refusal)
    told refusal is w at =
        subst (λ (i : ℕ). stepped w (events.Stop i edit reading whole) ≡ Err (Line refusal)) (sym (with_number n some))
        (ap (stops_at w (suc (n - 1)) edit reading whole) (state_at old w (n - 1) s at h) ∙ ap (stopped w (suc (n - 1)) s.state whole) is)

    by : (refusal : LineRefusal) → IsRefusedBy (changed s.state edit reading) s t refusal → Refuses (events.Stop n edit reading whole) old (slice_set old (n - 1) t) (fault_of refusal)
    by NoMemory r = tt
    by (LineRefusal.Edit fault) r = (set_itself old (n - 1) s t h r.1, told (LineRefusal.Edit fault) r.0)
    by (LineRefusal.Clock fault) r = (set_itself old (n - 1) s t h r.1, told (LineRefusal.Clock fault) r.0)
