-- A device of a world covers a month.
use Rattle.std.proofs.Common.{◌≡◌, ◌≢◌, ℕ, zero, suc, ◌-◌, ◌<◌, ◌≤◌, arith, List, [], ◌∷◌, Bool, true, false, Option, None, Some, length, refl, sym, ap, ◌∙◌, subst, slice_set}
use Rattle.std.specs.Prelude.{option_map}
use Rattle.std.specs.List.{AllByRecursion, slice_get}
use Rattle.std.proofs.lemmas.Option.{slice_get-map, slice_get_past}
use Rattle.envelope_cells.specs.Ids.{month_number}
use Rattle.dirty_cells.specs.Stands.{with_month}
use Rattle.device_core.specs.Device.{State, DeviceState, is_covered}
use Rattle.field_merge.specs.declared.message.Message.{Message}
use Rattle.field_merge.specs.Log.{LogState}
use Rattle.minute_trie.specs.declared.trie.Trie.{Trie}
use Rattle.sync_wire.specs.declared.request.SyncRequest.{SyncRequest}
use Rattle.sync_wire.specs.declared.response.SyncResponse.{SyncResponse}
use Rattle.sync_world.specs.declared.event.WorldFault.{WorldFault}
use Rattle.sync_world.specs.declared.event.WorldFault.TheVariants as faults
use Rattle.sync_world.specs.declared.making.Making.{Making}
use Rattle.sync_world.specs.World.{WorldState, device_of, with_device}
use Rattle.sync_world.specs.Members.{IsReady}
use Rattle.sync_world.specs.Steps.{states}
use Rattle.sync_world.specs.Covering.{ranges, covers, CoversTo, CoversNone}
use Rattle.sync_world.specs.Whole.{WorldModel, world_of, model_of, Holds, HasCovered, IsNotCovered, wants_memory}
use Rattle.sync_world.proofs.Steps.{all_set, map_set, set_itself, with_number}
use Rattle.sync_world.proofs.Wholes.{lent_ready}

get_set : {A : Type 0} (xs : List A) (k : ℕ) (x y : A) → slice_get xs k ≡ Some x → slice_get (slice_set xs k y) k ≡ Some y
get_set [] k x y h = absurd (cc)
get_set (z ∷ xs) zero x y h = refl
get_set (z ∷ xs) (suc k) x y h = get_set xs k x y h

at_place : (old : List DeviceState) (k month : ℕ) (s t : DeviceState) → slice_get old k ≡ Some s → AllByRecursion IsReady old
    → t ≡ record s { covered = with_month s.covered (month_number month) } → is_covered t month ≡ true → CoversTo (suc k) month old (slice_set old k t)
at_place old k month s t h ready is in_it =
    let r : IsReady s = lent_ready old k s ready h in record {
      ready = all_set IsReady old k t ready (record { live = ap (λ (d : DeviceState). d.spent) is ∙ r.live; idle = ap (λ (d : DeviceState). d.batch) is ∙ r.idle });
      same =
          map_set (λ (d : DeviceState). d.state) old k t
          ∙ set_itself (states old) k s.state t.state (slice_get-map (λ (d : DeviceState). d.state) old k ∙ ap (option_map (λ (d : DeviceState). d.state)) h) (ap (λ (d : DeviceState). d.state) is);
      range = s.covered;
      there = slice_get-map (λ (d : DeviceState). d.covered) old k ∙ ap (option_map (λ (d : DeviceState). d.covered)) h;
      is = map_set (λ (d : DeviceState). d.covered) old k t ∙ ap (slice_set (ranges old) k) (ap (λ (d : DeviceState). d.covered) is);
      covers =
          ap (λ (o : Option (ℕ × ℕ)). covers o month)
          (slice_get-map (λ (d : DeviceState). d.covered) (slice_set old k t) k ∙ ap (option_map (λ (d : DeviceState). d.covered)) (get_set old k s t h))
          ∙ in_it;
    }

pub covers_there : (old : List DeviceState) (n month : ℕ) (s t : DeviceState) → 0 < n → slice_get old (n - 1) ≡ Some s → AllByRecursion IsReady old
    → t ≡ record s { covered = with_month s.covered (month_number month) } → is_covered t month ≡ true → CoversTo n month old (slice_set old (n - 1) t)
covers_there old n month s t some h ready is in_it =
    subst (λ (i : ℕ). CoversTo i month old (slice_set old (n - 1) t)) (sym (with_number n some)) (at_place old (n - 1) month s t h ready is in_it)

-- ---- where there is no such device, and where there is one

pub none_at_zero : (old : List DeviceState) (n : ℕ) → n ≡ 0 → device_of (states old) n ≡ None
none_at_zero old n none = ap (device_of (states old)) none

pub none_past : (old : List DeviceState) (n : ℕ) → 0 < n → length old ≤ n - 1 → device_of (states old) n ≡ None
none_past old n some past =
    ap (device_of (states old)) (with_number n some)
    ∙ slice_get-map (λ (d : DeviceState). d.state) old (n - 1)
    ∙ ap (option_map (λ (d : DeviceState). d.state)) (slice_get_past old (n - 1) past)

pub there_is : (old : List DeviceState) (n : ℕ) (s : DeviceState) → 0 < n → slice_get old (n - 1) ≡ Some s → device_of (states old) n ≢ None
there_is old n s some h none =
    let is : device_of (states old) n ≡ Some s.state =
    ap (device_of (states old)) (with_number n some) ∙ slice_get-map (λ (d : DeviceState). d.state) old (n - 1) ∙ ap (option_map (λ (d : DeviceState). d.state)) h in
    cc

-- ---- the world of these devices

pub covered_holds : (i month : ℕ) (old new : List DeviceState) (server : LogState) (trie : Trie) (made acknowledged : List Making) (kept : List Message) (requests : List SyncRequest) (replies : List SyncResponse)
    → Holds old server trie (world_of old server made acknowledged kept requests replies) → CoversTo i month old new → Holds new server trie (world_of new server made acknowledged kept requests replies)
covered_holds i month old new server trie made acknowledged kept requests replies h c =
    let v : WorldState = world_of old server made acknowledged kept requests replies in
    let same : v ≡ world_of new server made acknowledged kept requests replies = ap (λ ss. record v { devices = ss }) (sym c.same) in
    subst (Holds new server trie) same (record {
      ready = c.ready;
      live = h.live;
      trie_live = h.trie_live;
      trie_right = h.trie_right;
      asked = h.asked;
      replied = h.replied;
      world = h.world;
    })

pub covered_done : (i month : ℕ) (old new : List DeviceState) (server : LogState) (made acknowledged : List Making) (kept : List Message) (requests : List SyncRequest) (replies : List SyncResponse) → CoversTo i month old new
    → HasCovered i month (model_of old server made acknowledged kept requests replies false) (model_of new server made acknowledged kept requests replies false)
covered_done i month old new server made acknowledged kept requests replies c = record {
  range = c.range;
  there = c.there;
  is =
      let v : WorldState = world_of old server made acknowledged kept requests replies in
      ap (λ ss. record { world = record v { devices = ss }; covered = ranges new; spent = false }) c.same
      ∙ ap (λ rs. record { world = v; covered = rs; spent = false }) c.is;
}

pub not_covered_holds : (i : ℕ) (old new : List DeviceState) (server : LogState) (trie : Trie) (made acknowledged : List Making) (kept : List Message) (requests : List SyncRequest) (replies : List SyncResponse) (fault : WorldFault)
    → Holds old server trie (world_of old server made acknowledged kept requests replies) → CoversNone i old new fault → wants_memory fault ≡ false
    → Holds new server trie (world_of new server made acknowledged kept requests replies)
not_covered_holds i old new server trie made acknowledged kept requests replies fault h c other =
    subst (λ (ds : List DeviceState). Holds ds server trie (world_of ds server made acknowledged kept requests replies)) (sym (same fault c other)) h
  where
    same : (fault : WorldFault) → CoversNone i old new fault → wants_memory fault ≡ false → new ≡ old
    same faults.NoMemory c other = absurd (cc)
    same (faults.NoSuchDevice k) c other = c.2
    same (faults.NoSuchRequest k) c other = absurd c
    same (faults.NoSuchReply k) c other = absurd c
    same (faults.Line refusal) c other = absurd c

pub not_covered : (i : ℕ) (old new : List DeviceState) (server : LogState) (made acknowledged : List Making) (kept : List Message) (requests : List SyncRequest) (replies : List SyncResponse) (fault : WorldFault) → CoversNone i old new fault
    → IsNotCovered i (model_of old server made acknowledged kept requests replies false) (model_of new server made acknowledged kept requests replies (wants_memory fault)) fault
not_covered i old new server made acknowledged kept requests replies fault c = by fault c
  where
    by : (fault : WorldFault) → CoversNone i old new fault
        → IsNotCovered i (model_of old server made acknowledged kept requests replies false) (model_of new server made acknowledged kept requests replies (wants_memory fault)) fault
    by faults.NoMemory c = (c, refl)
    by (faults.NoSuchDevice k) c = (c.0, c.1, ap (λ (ds : List DeviceState). model_of ds server made acknowledged kept requests replies false) c.2)
    by (faults.NoSuchRequest k) c = c
    by (faults.NoSuchReply k) c = c
    by (faults.Line refusal) c = c
