-- A world that goes on.
use Rattle.std.proofs.Common.{◌≡◌, ℕ, zero, suc, ◌-◌, ◌<◌, ◌≤◌, arith, List, [], ◌∷◌, ◌++◌, Bool, true, false, Ok, map, refl, sym, ap, ap₂, ◌∙◌, subst}
use Rattle.std.specs.List.{AllByRecursion, slice_get}
use Rattle.std.specs.Prelude.{length, None, Some, option_map}
use Rattle.std.proofs.lemmas.Option.{slice_get-map, slice_get_past, same_Some}
use Rattle.field_merge.specs.Log.{join}
use Rattle.field_merge.specs.Messages.{AreMessages}
use Rattle.minute_trie.specs.Trie.{is_spent, IsTrieOf}
use Rattle.kept_messages.specs.Pairs.{pairs_of}
use Rattle.sync_server.specs.Answer.{answer_of}
use Rattle.field_merge.specs.declared.message.Message.{Message}
use Rattle.field_merge.specs.Log.{LogState}
use Rattle.minute_trie.specs.declared.trie.Trie.{Trie}
use Rattle.device_core.specs.Covering.{covered_by}
use Rattle.device_core.specs.Device.{State, DeviceState, at_rest, begun}
use Rattle.sync_wire.specs.declared.request.SyncRequest.{SyncRequest}
use Rattle.sync_wire.specs.declared.response.SyncResponse.{SyncResponse}
use Rattle.sync_world.specs.declared.event.Event.{Event}
use Rattle.sync_world.specs.declared.event.Event.TheVariants as events
use Rattle.sync_world.specs.declared.event.Outcome.{Outcome}
use Rattle.sync_world.specs.declared.event.Outcome.TheVariants.{Wrote, Asked, Served, Took, Stopped, Halted}
use Rattle.sync_world.specs.declared.event.WorldEdit.{WorldEdit}
use Rattle.sync_world.specs.declared.event.WorldFault.{WorldFault}
use Rattle.sync_world.specs.declared.event.WorldFault.TheVariants as faults
use Rattle.sync_world.specs.declared.making.Making.{Making}
use Rattle.sync_world.specs.declared.member.Changed.{Changed}
use Rattle.sync_world.specs.World.{WorldState, Answer, start, device_of, made_by, request_of, asks_at, serves, halts, stepped, left_by}
use Rattle.sync_world.specs.Right.{AreDifferent, IsRight, StepsStayRight}
use Rattle.sync_world.specs.Steps.{states, EditsTo, Refuses, TakesTo, StopsTo}
use Rattle.sync_world.specs.Covering.{ranges}
use Rattle.sync_world.specs.Members.{IsReady}
use Rattle.sync_world.proofs.Steps.{state_at}
use Rattle.sync_world.proofs.Worlds.{own_start, start_right}
use Rattle.sync_world.specs.Whole.{WorldModel, world_of, model_of, nodes_of, IsWorld, Holds, IsNotDone, wants_memory}

-- a step leaves a world
pub goes_on : StepsStayRight → (w v : WorldState) (e : Event) (o : Outcome) → stepped w e ≡ Ok (v, o) → IsWorld w → IsWorld v
goes_on law w v e o is holds =
    let r : IsRight (nodes_of w) v = subst (λ (a : Answer). IsRight (nodes_of w) (left_by w a)) is (law (nodes_of w) w e holds.different holds.right) in record {
      different = subst AreDifferent (sym r.own) holds.different;
      right = subst (λ (ns : List (List ℕ)). IsRight ns v) (sym r.own) r;
    }

pub edit_done : (devices new : List DeviceState) (server : LogState) (made acknowledged more most : List Making) (kept : List Message) (requests : List SyncRequest) (replies : List SyncResponse)
    (i : ℕ) (edit : WorldEdit) (reading : ℕ) (c : Changed) → EditsTo i edit reading devices new c → more ≡ made ++ made_by i c.news → most ≡ acknowledged ++ made_by i c.news
    → stepped (world_of devices server made acknowledged kept requests replies) (events.Edit i edit reading) ≡ Ok (world_of new server more most kept requests replies, Wrote c.writes c.made)
edit_done devices new server made acknowledged more most kept requests replies i edit reading c to a b =
    to.steps (world_of devices server made acknowledged kept requests replies) refl
    ∙ ap₂ (λ (xs ys : List Making). Ok (world_of new server xs ys kept requests replies, Wrote c.writes c.made)) (sym a) (sym b)

pub edit_holds : StepsStayRight → (devices new : List DeviceState) (server : LogState) (trie : Trie) (made acknowledged more most : List Making) (kept : List Message) (requests : List SyncRequest) (replies : List SyncResponse)
    (i : ℕ) (edit : WorldEdit) (reading : ℕ) (c : Changed) → Holds devices server trie (world_of devices server made acknowledged kept requests replies)
    → EditsTo i edit reading devices new c → more ≡ made ++ made_by i c.news → most ≡ acknowledged ++ made_by i c.news → Holds new server trie (world_of new server more most kept requests replies)
edit_holds law devices new server trie made acknowledged more most kept requests replies i edit reading c h to a b = record {
  ready = to.ready;
  live = h.live;
  trie_live = h.trie_live;
  trie_right = h.trie_right;
  asked = h.asked;
  replied = h.replied;
  world = goes_on law (world_of devices server made acknowledged kept requests replies) (world_of new server more most kept requests replies) (events.Edit i edit reading) (Wrote c.writes c.made)
      (edit_done devices new server made acknowledged more most kept requests replies i edit reading c to a b) h.world;
}

pub refused_holds : (e : Event) (devices new : List DeviceState) (server : LogState) (trie : Trie) (made acknowledged : List Making) (kept : List Message) (requests : List SyncRequest) (replies : List SyncResponse) (fault : WorldFault)
    → Holds devices server trie (world_of devices server made acknowledged kept requests replies) → Refuses e devices new fault → wants_memory fault ≡ false → Holds new server trie (world_of new server made acknowledged kept requests replies)
refused_holds e devices new server trie made acknowledged kept requests replies fault h r other =
    subst (λ (ds : List DeviceState). Holds ds server trie (world_of ds server made acknowledged kept requests replies)) (sym (same fault r other)) h
  where
    same : (fault : WorldFault) → Refuses e devices new fault → wants_memory fault ≡ false → new ≡ devices
    same faults.NoMemory r other = absurd (cc)
    same (faults.NoSuchDevice i) r other = r.0
    same (faults.NoSuchRequest i) r other = r.0
    same (faults.NoSuchReply i) r other = r.0
    same (faults.Line refusal) r other = r.0

pub refused_done : (e : Event) (devices new : List DeviceState) (server : LogState) (made acknowledged : List Making) (kept : List Message) (requests : List SyncRequest) (replies : List SyncResponse) (fault : WorldFault)
    → Refuses e devices new fault
    → IsNotDone e (model_of devices server made acknowledged kept requests replies false) (model_of new server made acknowledged kept requests replies (wants_memory fault)) fault
refused_done e devices new server made acknowledged kept requests replies fault r = by fault r
  where
    again : new ≡ devices → model_of new server made acknowledged kept requests replies false ≡ model_of devices server made acknowledged kept requests replies false
    again e = ap (λ (ds : List DeviceState). model_of ds server made acknowledged kept requests replies false) e

    by : (fault : WorldFault) → Refuses e devices new fault
        → IsNotDone e (model_of devices server made acknowledged kept requests replies false) (model_of new server made acknowledged kept requests replies (wants_memory fault)) fault
    by faults.NoMemory r = refl
    by (faults.NoSuchDevice i) r = (r.1 (world_of devices server made acknowledged kept requests replies) refl, again r.0)
    by (faults.NoSuchRequest i) r = (r.1 (world_of devices server made acknowledged kept requests replies) refl, again r.0)
    by (faults.NoSuchReply i) r = (r.1 (world_of devices server made acknowledged kept requests replies) refl, again r.0)
    by (faults.Line refusal) r = (r.1 (world_of devices server made acknowledged kept requests replies) refl, again r.0)

-- ---- the server answers

pub serve_done : (devices : List DeviceState) (server later : LogState) (made acknowledged : List Making) (kept more : List Message) (requests : List SyncRequest) (replies sent : List SyncResponse) (k n : ℕ) (q : SyncRequest)
    → slice_get requests k ≡ Some q → later.messages ≡ join server.messages q.messages → more ≡ kept ++ q.messages → sent ≡ replies ++ answer_of server.messages q ∷ [] → n ≡ length (answer_of server.messages q).messages
    → stepped (world_of devices server made acknowledged kept requests replies) (events.Serve k) ≡ Ok (world_of devices later made acknowledged more requests sent, Served (length replies) n)
serve_done devices server later made acknowledged kept more requests replies sent k n q h a b d e =
    ap (serves (world_of devices server made acknowledged kept requests replies) k) h
    ∙ ap₂ (λ (ms ks : List Message). result ms ks (replies ++ answer_of server.messages q ∷ []) (length (answer_of server.messages q).messages)) (sym a) (sym b)
    ∙ ap₂ (λ (rs : List SyncResponse) (m : ℕ). result later.messages more rs m) (sym d) (sym e)
  where
    result : List Message → List Message → List SyncResponse → ℕ → Answer
    result ms ks rs m = Ok (record { devices = states devices; server = ms; made = made; acknowledged = acknowledged; kept = ks; requests = requests; replies = rs }, Served (length replies) m)

all_both : {A : Type 0} (P : A → Type 0) (xs : List A) (x : A) → AllByRecursion P xs → P x → AllByRecursion P (xs ++ x ∷ [])
all_both P [] x h p = (p, tt)
all_both P (y ∷ xs) x h p = (h.0, all_both P xs x h.1 p)

pub serve_holds : StepsStayRight → (devices : List DeviceState) (server later : LogState) (trie grown : Trie) (made acknowledged : List Making) (kept more : List Message) (requests : List SyncRequest) (replies sent : List SyncResponse) (k n : ℕ) (q : SyncRequest)
    → Holds devices server trie (world_of devices server made acknowledged kept requests replies)
    → slice_get requests k ≡ Some q → later.messages ≡ join server.messages q.messages → more ≡ kept ++ q.messages → sent ≡ replies ++ answer_of server.messages q ∷ [] → n ≡ length (answer_of server.messages q).messages
    → later.spent ≡ false → is_spent grown ≡ false → IsTrieOf (pairs_of later.messages) grown → AreMessages (answer_of server.messages q).messages
    → Holds devices later grown (world_of devices later made acknowledged more requests sent)
serve_holds law devices server later trie grown made acknowledged kept more requests replies sent k n q holds h a b d e live trie_live right valid = record {
  ready = holds.ready;
  live = live;
  trie_live = trie_live;
  trie_right = right;
  asked = holds.asked;
  replied = subst (AllByRecursion (λ (r : SyncResponse). AreMessages r.messages)) (sym d) (all_both (λ (r : SyncResponse). AreMessages r.messages) replies (answer_of server.messages q) holds.replied valid);
  world = goes_on law (world_of devices server made acknowledged kept requests replies) (world_of devices later made acknowledged more requests sent) (events.Serve k) (Served (length replies) n)
      (serve_done devices server later made acknowledged kept more requests replies sent k n q h a b d e) holds.world;
}

-- ---- a device sends a request

pub ask_done : (devices : List DeviceState) (server : LogState) (made acknowledged : List Making) (kept : List Message) (requests more : List SyncRequest) (replies : List SyncResponse) (i : ℕ) (s : DeviceState) (since : List ℕ)
    → 0 < i → slice_get devices (i - 1) ≡ Some s → more ≡ requests ++ request_of s.state.messages since ∷ []
    → stepped (world_of devices server made acknowledged kept requests replies) (events.Ask i since) ≡ Ok (world_of devices server made acknowledged kept more replies, Asked (length requests))
ask_done devices server made acknowledged kept requests more replies i s since some h a =
    let w : WorldState = world_of devices server made acknowledged kept requests replies in
    let number : i ≡ suc (i - 1) = omega arith in
    ap (asks_at w i since) (ap (device_of w.devices) number ∙ state_at devices w (i - 1) s refl h)
    ∙ ap (λ (qs : List SyncRequest). Ok (world_of devices server made acknowledged kept qs replies, Asked (length requests))) (sym a)

pub ask_holds : StepsStayRight → (devices : List DeviceState) (server : LogState) (trie : Trie) (made acknowledged : List Making) (kept : List Message) (requests more : List SyncRequest) (replies : List SyncResponse) (i : ℕ) (s : DeviceState) (since : List ℕ)
    → Holds devices server trie (world_of devices server made acknowledged kept requests replies)
    → 0 < i → slice_get devices (i - 1) ≡ Some s → more ≡ requests ++ request_of s.state.messages since ∷ [] → AreMessages (request_of s.state.messages since).messages
    → Holds devices server trie (world_of devices server made acknowledged kept more replies)
ask_holds law devices server trie made acknowledged kept requests more replies i s since holds some h a valid = record {
  ready = holds.ready;
  live = holds.live;
  trie_live = holds.trie_live;
  trie_right = holds.trie_right;
  asked = subst (AllByRecursion (λ (q : SyncRequest). AreMessages q.messages)) (sym a) (all_both (λ (q : SyncRequest). AreMessages q.messages) requests (request_of s.state.messages since) holds.asked valid);
  replied = holds.replied;
  world = goes_on law (world_of devices server made acknowledged kept requests replies) (world_of devices server made acknowledged kept more replies) (events.Ask i since) (Asked (length requests))
      (ask_done devices server made acknowledged kept requests more replies i s since some h a) holds.world;
}

-- ---- the server stops during a request, which it kept

pub halt_done : (devices : List DeviceState) (server later : LogState) (made acknowledged : List Making) (kept : List Message) (requests : List SyncRequest) (replies : List SyncResponse) (k : ℕ) (whole : Bool) (q : SyncRequest)
    → whole ≡ true → slice_get requests k ≡ Some q → later.messages ≡ join server.messages q.messages
    → stepped (world_of devices server made acknowledged kept requests replies) (events.Halt k whole) ≡ Ok (world_of devices later made acknowledged kept requests replies, Halted)
halt_done devices server later made acknowledged kept requests replies k whole q all h a =
    let w : WorldState = world_of devices server made acknowledged kept requests replies in
    ap (λ (b : Bool). halts w k b (slice_get requests k)) all
    ∙ ap (halts w k true) h
    ∙ ap (λ (ms : List Message). Ok (record w { server = ms }, Halted)) (sym a)

pub halt_holds : StepsStayRight → (devices : List DeviceState) (server later : LogState) (trie grown : Trie) (made acknowledged : List Making) (kept : List Message) (requests : List SyncRequest) (replies : List SyncResponse) (k : ℕ) (whole : Bool) (q : SyncRequest)
    → Holds devices server trie (world_of devices server made acknowledged kept requests replies)
    → whole ≡ true → slice_get requests k ≡ Some q → later.messages ≡ join server.messages q.messages → later.spent ≡ false → is_spent grown ≡ false → IsTrieOf (pairs_of later.messages) grown
    → Holds devices later grown (world_of devices later made acknowledged kept requests replies)
halt_holds law devices server later trie grown made acknowledged kept requests replies k whole q holds all h a live trie_live right = record {
  ready = holds.ready;
  live = live;
  trie_live = trie_live;
  trie_right = right;
  asked = holds.asked;
  replied = holds.replied;
  world = goes_on law (world_of devices server made acknowledged kept requests replies) (world_of devices later made acknowledged kept requests replies) (events.Halt k whole) Halted
      (halt_done devices server later made acknowledged kept requests replies k whole q all h a) holds.world;
}

-- ---- a reply comes

pub take_done : (devices new : List DeviceState) (server : LogState) (made acknowledged : List Making) (kept : List Message) (requests : List SyncRequest) (replies : List SyncResponse) (i k reading n : ℕ) → TakesTo i k reading replies devices new n
    → stepped (world_of devices server made acknowledged kept requests replies) (events.Take i k reading) ≡ Ok (world_of new server made acknowledged kept requests replies, Took n)
take_done devices new server made acknowledged kept requests replies i k reading n to = to.steps (world_of devices server made acknowledged kept requests replies) refl refl

pub take_holds : StepsStayRight → (devices new : List DeviceState) (server : LogState) (trie : Trie) (made acknowledged : List Making) (kept : List Message) (requests : List SyncRequest) (replies : List SyncResponse) (i k reading n : ℕ)
    → Holds devices server trie (world_of devices server made acknowledged kept requests replies) → TakesTo i k reading replies devices new n
    → Holds new server trie (world_of new server made acknowledged kept requests replies)
take_holds law devices new server trie made acknowledged kept requests replies i k reading n h to = record {
  ready = to.ready;
  live = h.live;
  trie_live = h.trie_live;
  trie_right = h.trie_right;
  asked = h.asked;
  replied = h.replied;
  world = goes_on law (world_of devices server made acknowledged kept requests replies) (world_of new server made acknowledged kept requests replies) (events.Take i k reading) (Took n)
      (take_done devices new server made acknowledged kept requests replies i k reading n to) h.world;
}

-- ---- a stop

pub stop_done : (devices new : List DeviceState) (server : LogState) (made more acknowledged : List Making) (kept : List Message) (requests : List SyncRequest) (replies : List SyncResponse) (i : ℕ) (edit : WorldEdit) (reading : ℕ) (whole : Bool) (told : List Message)
    → StopsTo i edit reading whole devices new told → more ≡ made ++ made_by i told
    → stepped (world_of devices server made acknowledged kept requests replies) (events.Stop i edit reading whole) ≡ Ok (world_of new server more acknowledged kept requests replies, Stopped)
stop_done devices new server made more acknowledged kept requests replies i edit reading whole told to a =
    to.steps (world_of devices server made acknowledged kept requests replies) refl
    ∙ ap (λ (xs : List Making). Ok (world_of new server xs acknowledged kept requests replies, Stopped)) (sym a)

pub stop_holds : StepsStayRight → (devices new : List DeviceState) (server : LogState) (trie : Trie) (made more acknowledged : List Making) (kept : List Message) (requests : List SyncRequest) (replies : List SyncResponse) (i : ℕ) (edit : WorldEdit) (reading : ℕ) (whole : Bool) (told : List Message)
    → Holds devices server trie (world_of devices server made acknowledged kept requests replies) → StopsTo i edit reading whole devices new told → more ≡ made ++ made_by i told
    → Holds new server trie (world_of new server more acknowledged kept requests replies)
stop_holds law devices new server trie made more acknowledged kept requests replies i edit reading whole told h to a = record {
  ready = to.ready;
  live = h.live;
  trie_live = h.trie_live;
  trie_right = h.trie_right;
  asked = h.asked;
  replied = h.replied;
  world = goes_on law (world_of devices server made acknowledged kept requests replies) (world_of new server more acknowledged kept requests replies) (events.Stop i edit reading whole) Stopped
      (stop_done devices new server made more acknowledged kept requests replies i edit reading whole told to a) h.world;
}

-- ---- where a world begins

begun_states : (nodes : List (List ℕ)) → states (map (λ (node : List ℕ). at_rest (begun node [])) nodes) ≡ map (λ (node : List ℕ). begun node []) nodes
begun_states [] = refl
begun_states (node ∷ nodes) = ap (λ (ss : List State). begun node [] ∷ ss) (begun_states nodes)

begun_ready : (nodes : List (List ℕ)) → AllByRecursion IsReady (map (λ (node : List ℕ). at_rest (begun node [])) nodes)
begun_ready [] = tt
begun_ready (node ∷ nodes) = (record { live = refl; idle = refl }, begun_ready nodes)

pub begins_world : (nodes : List (List ℕ)) (devices : List DeviceState) (server : LogState) (made acknowledged : List Making) (kept : List Message) (requests : List SyncRequest) (replies : List SyncResponse)
    → devices ≡ map (λ (node : List ℕ). at_rest (begun node [])) nodes → server ≡ record { messages = []; spent = false } → made ≡ [] → acknowledged ≡ [] → kept ≡ [] → requests ≡ [] → replies ≡ []
    → world_of devices server made acknowledged kept requests replies ≡ start nodes
begins_world nodes devices server made acknowledged kept requests replies at s a b c d e =
    ap₂ (λ (ds : List State) (ms : List Message). record { devices = ds; server = ms; made = made; acknowledged = acknowledged; kept = kept; requests = requests; replies = replies })
    (ap states at ∙ begun_states nodes) (ap (λ (l : LogState). l.messages) s)
    ∙ ap₂ (λ (xs ys : List Making). record { devices = map (λ (node : List ℕ). begun node []) nodes; server = []; made = xs; acknowledged = ys; kept = kept; requests = requests; replies = replies }) a b
    ∙ ap₂ (λ (ms : List Message) (qs : List SyncRequest). record { devices = map (λ (node : List ℕ). begun node []) nodes; server = []; made = []; acknowledged = []; kept = ms; requests = qs; replies = replies }) c d
    ∙ ap (λ (rs : List SyncResponse). record { devices = map (λ (node : List ℕ). begun node []) nodes; server = []; made = []; acknowledged = []; kept = []; requests = []; replies = rs }) e

pub begins_covered : (nodes : List (List ℕ)) (devices : List DeviceState) → devices ≡ map (λ (node : List ℕ). at_rest (begun node [])) nodes → ranges devices ≡ map (λ (node : List ℕ). covered_by (0, 0) []) nodes
begins_covered nodes devices at = ap ranges at ∙ by nodes
  where
    by : (nodes : List (List ℕ)) → ranges (map (λ (node : List ℕ). at_rest (begun node [])) nodes) ≡ map (λ (node : List ℕ). covered_by (0, 0) []) nodes
    by [] = refl
    by (node ∷ nodes) = ap (λ (rs : List (ℕ × ℕ)). covered_by (0, 0) [] ∷ rs) (by nodes)

start_world : (nodes : List (List ℕ)) → AreDifferent nodes → IsWorld (start nodes)
start_world nodes differ = record {
  different = subst AreDifferent (sym (own_start nodes)) differ;
  right = subst (λ (ns : List (List ℕ)). IsRight ns (start nodes)) (sym (own_start nodes)) (start_right nodes);
}

pub begins_holds : (nodes : List (List ℕ)) (devices : List DeviceState) (server : LogState) (trie : Trie) (made acknowledged : List Making) (kept : List Message) (requests : List SyncRequest) (replies : List SyncResponse)
    → AreDifferent nodes → devices ≡ map (λ (node : List ℕ). at_rest (begun node [])) nodes → server ≡ record { messages = []; spent = false } → is_spent trie ≡ false → IsTrieOf [] trie
    → made ≡ [] → acknowledged ≡ [] → kept ≡ [] → requests ≡ [] → replies ≡ []
    → Holds devices server trie (world_of devices server made acknowledged kept requests replies)
begins_holds nodes devices server trie made acknowledged kept requests replies differ at s live empty a b c d e = record {
  ready = subst (AllByRecursion IsReady) (sym at) (begun_ready nodes);
  live = ap (λ (l : LogState). l.spent) s;
  trie_live = live;
  trie_right = subst (λ (l : LogState). IsTrieOf (pairs_of l.messages) trie) (sym s) empty;
  asked = subst (AllByRecursion (λ (q : SyncRequest). AreMessages q.messages)) (sym d) tt;
  replied = subst (AllByRecursion (λ (r : SyncResponse). AreMessages r.messages)) (sym e) tt;
  world = subst IsWorld (sym (begins_world nodes devices server made acknowledged kept requests replies at s a b c d e)) (start_world nodes differ);
}

-- ---- what a world lends

pub lent : (devices : List DeviceState) (w : WorldState) (i : ℕ) (d : DeviceState) → w.devices ≡ states devices → 0 < i → slice_get devices (i - 1) ≡ Some d
    → option_map (λ (x : DeviceState). x.state) (Some d) ≡ device_of w.devices i
lent devices w i d is some h = let number : i ≡ suc (i - 1) = omega arith in sym (ap (device_of w.devices) number ∙ state_at devices w (i - 1) d is h)

pub lent_none : (w : WorldState) (i : ℕ) → i ≡ 0 → option_map (λ (x : DeviceState). x.state) None ≡ device_of w.devices i
lent_none w i none = sym (ap (device_of w.devices) none)

pub lent_past : (devices : List DeviceState) (w : WorldState) (i : ℕ) → w.devices ≡ states devices → 0 < i → length devices ≤ i - 1 → option_map (λ (x : DeviceState). x.state) None ≡ device_of w.devices i
lent_past devices w i is some past =
    let number : i ≡ suc (i - 1) = omega arith in
    sym (ap (device_of w.devices) number
    ∙ ap (λ (ds : List State). slice_get ds (i - 1)) is
    ∙ slice_get-map (λ (x : DeviceState). x.state) devices (i - 1)
    ∙ ap (option_map (λ (x : DeviceState). x.state)) (slice_get_past devices (i - 1) past))

pub lent_ready : (devices : List DeviceState) (k : ℕ) (d : DeviceState) → AllByRecursion IsReady devices → slice_get devices k ≡ Some d → IsReady d
lent_ready [] k d ready h = absurd (cc)
lent_ready (x ∷ devices) zero d ready h = subst IsReady (same_Some x d h) ready.0
lent_ready (x ∷ devices) (suc k) d ready h = lent_ready devices k d ready.1 h

pub server_is : (server : LogState) (ms : List Message) → server.spent ≡ false → server.messages ≡ ms → server ≡ record { messages = ms; spent = false }
server_is server ms live is = ap₂ (λ (ns : List Message) (spent : Bool). record { messages = ns; spent = spent }) is live

pub lent_covered : (devices : List DeviceState) (w : WorldModel) (i : ℕ) (d : DeviceState) → w.covered ≡ ranges devices → 0 < i → slice_get devices (i - 1) ≡ Some d
    → option_map (λ (x : DeviceState). x.covered) (Some d) ≡ device_of w.covered i
lent_covered devices w i d is some h =
    let number : i ≡ suc (i - 1) = omega arith in
    sym (ap (device_of w.covered) number
    ∙ ap (λ (rs : List (ℕ × ℕ)). slice_get rs (i - 1)) is
    ∙ slice_get-map (λ (x : DeviceState). x.covered) devices (i - 1)
    ∙ ap (option_map (λ (x : DeviceState). x.covered)) h)

pub lent_covered_none : (w : WorldModel) (i : ℕ) → i ≡ 0 → option_map (λ (x : DeviceState). x.covered) None ≡ device_of w.covered i
lent_covered_none w i none = sym (ap (device_of w.covered) none)

pub lent_covered_past : (devices : List DeviceState) (w : WorldModel) (i : ℕ) → w.covered ≡ ranges devices → 0 < i → length devices ≤ i - 1 → option_map (λ (x : DeviceState). x.covered) None ≡ device_of w.covered i
lent_covered_past devices w i is some past =
    let number : i ≡ suc (i - 1) = omega arith in
    sym (ap (device_of w.covered) number
    ∙ ap (λ (rs : List (ℕ × ℕ)). slice_get rs (i - 1)) is
    ∙ slice_get-map (λ (x : DeviceState). x.covered) devices (i - 1)
    ∙ ap (option_map (λ (x : DeviceState). x.covered)) (slice_get_past devices (i - 1) past))
