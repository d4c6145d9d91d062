-- What is said of an event determines what it leaves and what it comes to.
use Rattle.std.proofs.Common.{◌≡◌, ◌⊎◌, inl, inr, ℕ, zero, suc, ◌<◌, List, [], ◌∷◌, ◌++◌, Bool, true, false, Option, None, Some, Ok, Err, length, refl, sym, ap, ap₂, ◌∙◌, subst, arith}
use Rattle.std.specs.Prelude.{drop}
use Rattle.std.specs.List.{AllByRecursion, slice_get}
use Rattle.std.proofs.lemmas.List.{drop_at}
use Rattle.std.proofs.lemmas.Option.{same_Some, slice_get_past}
use Rattle.hybrid_clock.specs.declared.stamp.Stamp.{Stamp}
use Rattle.field_merge.specs.declared.message.Message.{Message}
use Rattle.field_merge.specs.Joining.{HaveSame}
use Rattle.field_merge.specs.Laws.{JoinsInAnyOrder}
use Rattle.field_merge.specs.Log.{IsRising, join}
use Rattle.minute_trie.specs.Json.{trie_text}
use Rattle.minute_trie.specs.Trie.{trie_of}
use Rattle.kept_messages.specs.Pairs.{pairs_of}
use Rattle.edit_history.specs.declared.before.Before.{Before}
use Rattle.edit_history.specs.History.{Entries}
use Rattle.device_core.specs.Device.{State, Accepted, begun, received}
use Rattle.sync_wire.specs.declared.request.SyncRequest.{SyncRequest}
use Rattle.sync_wire.specs.declared.response.SyncResponse.{SyncResponse}
use Rattle.sync_server.specs.Answer.{answer_of}
use Rattle.sync_world.specs.declared.event.Event.{Event}
use Rattle.sync_world.specs.declared.event.Event.TheVariants as events
use Rattle.sync_world.specs.declared.event.Outcome.{Outcome}
use Rattle.sync_world.specs.declared.event.Outcome.TheVariants.{Wrote, Asked, Served, Took, Stopped, Halted}
use Rattle.sync_world.specs.declared.event.WorldEdit.{WorldEdit}
use Rattle.sync_world.specs.declared.event.WorldFault.{WorldFault}
use Rattle.sync_world.specs.declared.making.Making.{Making}
use Rattle.sync_world.specs.World.{WorldState, device_of, with_device, messages_of, made_by, changed, news, request_of, wrote, edits_at, asks_at, serves, took, takes_at, stopped, stops_at, halts, stepped}
use Rattle.sync_world.specs.Happening.{HasBoth, AreLater, GrowsBy, GoesTo, Accepts, BeginsWith, EditHappens, AskHappens, ServeHappens, TakeHappens, StopHappens, HaltHappens, Happens, LacksDevice, LacksReply, RefusesEdit, RefusesReply, IsPrevented}
use Rattle.sync_world.proofs.Numbered.{same_ok, same_places, alike}
use Rattle.sync_world.proofs.Apart.{rise_apart, one_each}
use Rattle.sync_world.proofs.Promises.{same_rising}

-- ---- the words determine what they speak of

one_rising : JoinsInAnyOrder → (ms ns : List Message) → IsRising ms → IsRising ns → HaveSame ms ns → ms ≡ ns
one_rising order ms ns up also have = same_rising order ms ns (one_each ms (rise_apart ms up)) up also have

one_both : JoinsInAnyOrder → (ms ns a b : List Message) → HasBoth ms ns a → HasBoth ms ns b → IsRising a → IsRising b → a ≡ b
one_both order ms ns a b in_a in_b up also = one_rising order a b up also (λ m. (λ c. (in_b m).1 ((in_a m).0 c), λ c. (in_a m).1 ((in_b m).0 c)))

one_later : JoinsInAnyOrder → (since : List ℕ) (ms a b : List Message) → AreLater since ms a → AreLater since ms b → a ≡ b
one_later order since ms a b h k = one_rising order a b h.in_order k.in_order (λ m. (λ c. (k.exactly m).1 ((h.exactly m).0 c), λ c. (h.exactly m).1 ((k.exactly m).0 c)))

one_making : (i : ℕ) (x y : Making) → x.device ≡ i → y.device ≡ i → x.message ≡ y.message → x ≡ y
one_making i x y h k e = ap₂ (λ (n : ℕ) (m : Message). record { device = n; message = m }) (h ∙ sym k) e

first_same : (m n : Message) (ms ns : List Message) → m ∷ ms ≡ n ∷ ns → m ≡ n
first_same m n ms ns e = cc

rest_same : (m n : Message) (ms ns : List Message) → m ∷ ms ≡ n ∷ ns → ms ≡ ns
rest_same m n ms ns e = cc

one_makings : (i : ℕ) (xs ys : List Making) → messages_of xs ≡ messages_of ys → AllByRecursion (λ (x : Making). x.device ≡ i) xs → AllByRecursion (λ (x : Making). x.device ≡ i) ys → xs ≡ ys
one_makings i [] [] e h k = refl
one_makings i [] (y ∷ ys) e h k = absurd (cc)
one_makings i (x ∷ xs) [] e h k = absurd (cc)
one_makings i (x ∷ xs) (y ∷ ys) e h k =
    ap₂ (λ (z : Making) (zs : List Making). z ∷ zs)
    (one_making i x y h.0 k.0 (first_same x.message y.message (messages_of xs) (messages_of ys) e))
    (one_makings i xs ys (rest_same x.message y.message (messages_of xs) (messages_of ys) e) h.1 k.1)

one_grown : (i : ℕ) (ms ns : List Message) (old a b : List Making) → ms ≡ ns → GrowsBy i ms old a → GrowsBy i ns old b → a ≡ b
one_grown i ms ns old a b e h k = h.grown ∙ ap (λ (xs : List Making). old ++ xs) (one_makings i h.more k.more (h.messages ∙ e ∙ sym k.messages) h.maker k.maker) ∙ sym k.grown

-- a device goes to one state, and the others stay
one_devices : (i : ℕ) (old a b : WorldState) (s t s2 t2 : State) → t ≡ t2 → GoesTo i old a s t → GoesTo i old b s2 t2 → a.devices ≡ b.devices
one_devices i old a b s t s2 t2 e h k = same_places a.devices b.devices (λ j. at (suc j))
  where
    at : (j : ℕ) → device_of a.devices j ≡ device_of b.devices j
    at j = elim (alike j i) [
      | inl same ↦ ap (device_of a.devices) same ∙ h.now ∙ ap (λ (x : State). Some x) e ∙ sym k.now ∙ ap (device_of b.devices) (sym same)
      | inr other ↦ h.others j other ∙ sym (k.others j other)
    ]

back_of : (ms ns all : List Message) → all ≡ ms ++ ns → drop (length ms) all ≡ ns
back_of ms ns all e = ap (drop (length ms)) e ∙ drop_at ms ns (length ms) refl

one_accepted : (s t : State) (edit : WorldEdit) (reading : ℕ) (a b : Accepted) (ms ns : List Message) → s ≡ t → Accepts s edit reading a ms → Accepts t edit reading b ns → a ≡ b
one_accepted s t edit reading a b ms ns e h k = same_ok a b (sym h.answer ∙ ap (λ (x : State). changed x edit reading) e ∙ k.answer)

one_news : (s t : State) (edit : WorldEdit) (reading : ℕ) (a b : Accepted) (ms ns : List Message) → s ≡ t → a ≡ b → Accepts s edit reading a ms → Accepts t edit reading b ns → ms ≡ ns
one_news s t edit reading a b ms ns e same h k =
    sym (back_of s.messages ms a.state.messages h.behind)
    ∙ ap₂ (λ (x : State) (y : Accepted). drop (length x.messages) y.state.messages) e same
    ∙ back_of t.messages ns b.state.messages k.behind

-- messages are none, or there is a last one
abbrev HasEnd : List Message → Type 0
HasEnd ms = (ms ≡ []) ⊎ ((front : List Message) × (last : Message) × (ms ≡ front ++ last ∷ []))

has_end : (ms : List Message) → HasEnd ms
has_end [] = inl refl
has_end (m ∷ ms) = elim (has_end ms) [
  | inl none ↦ inr ([], m, ap (λ (l : List Message). m ∷ l) none)
  | inr some ↦ inr (m ∷ some.0, some.1, ap (λ (l : List Message). m ∷ l) some.2)
]

-- where a clock begins
abbrev StandAlike : State → State → Type 0
StandAlike s t = (s.clock.millis ≡ t.clock.millis) × (s.clock.counter ≡ t.clock.counter)

stand_alike : (node : List ℕ) (ms : List Message) (s t : State) → BeginsWith node ms s → BeginsWith node ms t → StandAlike s t
stand_alike node ms s t h k = elim (has_end ms) [
  | inl none ↦ let a = h.begun.at_start none in let b = k.begun.at_start none in (a.0 ∙ sym b.0, a.1 ∙ sym b.1)
  | inr some ↦ let a = h.begun.at_last some.0 some.1 some.2 in let b = k.begun.at_last some.0 some.1 some.2 in (a.0 ∙ sym b.0, a.1 ∙ sym b.1)
]

one_stamp : (s t : Stamp) → s.millis ≡ t.millis → s.counter ≡ t.counter → s.node ≡ t.node → s ≡ t
one_stamp s t a b c =
    ap₂ (λ (m c : ℕ). record { millis = m; counter = c; node = s.node }) a b
    ∙ ap (λ (n : List ℕ). record { millis = t.millis; counter = t.counter; node = n }) c

one_history : (h k : Entries) → h.undo ≡ k.undo → h.redo ≡ k.redo → h ≡ k
one_history h k a b = ap₂ (λ (u r : List (List Before)). record { undo = u; redo = r }) a b

one_state : (s t : State) → s.messages ≡ t.messages → s.clock ≡ t.clock → s.history ≡ t.history → s ≡ t
one_state s t a b c =
    ap₂ (λ (ms : List Message) (k : Stamp). record { messages = ms; clock = k; history = s.history }) a b
    ∙ ap (λ (h : Entries). record { messages = t.messages; clock = t.clock; history = h }) c

one_begun : (node : List ℕ) (ms : List Message) (s t : State) → BeginsWith node ms s → BeginsWith node ms t → s ≡ t
one_begun node ms s t h k =
    let at = stand_alike node ms s t h k in
    one_state s t (h.begun.messages ∙ sym k.begun.messages)
    (one_stamp s.clock t.clock at.0 at.1 (h.begun.own ∙ sym k.begun.own))
    (one_history s.history t.history (h.no_undo ∙ sym k.no_undo) (h.no_redo ∙ sym k.no_redo))

-- the same, of a node and messages that are one
begun_alike : (node node2 : List ℕ) (ms ms2 : List Message) (s t : State) → node ≡ node2 → ms ≡ ms2 → BeginsWith node ms s → BeginsWith node2 ms2 t → s ≡ t
begun_alike node node2 ms ms2 s t e f h k =
    one_begun node2 ms2 s t (subst (λ (l : List Message). BeginsWith node2 l s) f (subst (λ (n : List ℕ). BeginsWith n ms s) e h)) k

one_request : (p q : SyncRequest) → p.messages ≡ q.messages → p.encrypted ≡ q.encrypted → p.file ≡ q.file → p.group ≡ q.group → p.since ≡ q.since → p ≡ q
one_request p q a b c d e =
    ap₂ (λ (ms : List Message) (x : Bool). record { messages = ms; encrypted = x; file = p.file; group = p.group; since = p.since }) a b
    ∙ ap₂ (λ (f g : List ℕ). record { messages = q.messages; encrypted = q.encrypted; file = f; group = g; since = p.since }) c d
    ∙ ap (λ (t : List ℕ). record { messages = q.messages; encrypted = q.encrypted; file = q.file; group = q.group; since = t }) e

one_reply : (p q : SyncResponse) → p.messages ≡ q.messages → p.encrypted ≡ q.encrypted → p.merkle ≡ q.merkle → p ≡ q
one_reply p q a b c =
    ap₂ (λ (ms : List Message) (x : Bool). record { messages = ms; encrypted = x; merkle = p.merkle }) a b
    ∙ ap (λ (t : List ℕ). record { messages = q.messages; encrypted = q.encrypted; merkle = t }) c

-- ---- one event leaves one world and comes to one thing

abbrev IsOne : WorldState → WorldState → Outcome → Outcome → Type 0
IsOne a b o p = (a ≡ b) × (o ≡ p)

module _ (order : JoinsInAnyOrder) (w a b : WorldState) (o p : Outcome) where
  edit_one : (i : ℕ) (edit : WorldEdit) (reading : ℕ) → EditHappens i edit reading w a o → EditHappens i edit reading w b p → IsOne a b o p
  edit_one i edit reading h k =
      let device = same_Some h.device k.device (sym h.goes.there ∙ k.goes.there) in
      let accepted = one_accepted h.device k.device edit reading h.accepted k.accepted h.messages k.messages device h.accepts k.accepts in
      let messages = one_news h.device k.device edit reading h.accepted k.accepted h.messages k.messages device accepted h.accepts k.accepts in
      let devices = one_devices i w a b h.device h.accepted.state k.device k.accepted.state (ap (λ (x : Accepted). x.state) accepted) h.goes k.goes in
      let made = one_grown i h.messages k.messages w.made a.made b.made messages h.made k.made in
      let acknowledged = one_grown i h.messages k.messages w.acknowledged a.acknowledged b.acknowledged messages h.acknowledged k.acknowledged in (
        h.rest
            ∙ ap (λ (ds : List State). record w { devices = ds; made = a.made; acknowledged = a.acknowledged }) devices
            ∙ ap₂ (λ (xs ys : List Making). record w { devices = b.devices; made = xs; acknowledged = ys }) made acknowledged
            ∙ sym k.rest,
        h.told ∙ ap₂ (λ (ms : List Message) (x : Accepted). Wrote (length ms) x.made) messages accepted ∙ sym k.told,
      )

  ask_one : (i : ℕ) (since : List ℕ) → AskHappens i since w a o → AskHappens i since w b p → IsOne a b o p
  ask_one i since h k =
      let device = same_Some h.device k.device (sym h.there ∙ k.there) in
      let messages = one_later order since k.device.messages h.request.messages k.request.messages (subst (λ (x : State). AreLater since x.messages h.request.messages) device h.messages) k.messages in
      let request = one_request h.request k.request messages (h.plain ∙ sym k.plain) (h.file ∙ sym k.file) (h.group ∙ sym k.group) (h.asked_from ∙ sym k.asked_from) in (
        h.rest ∙ ap (λ (qs : List SyncRequest). record w { requests = qs }) (h.sent ∙ ap (λ (q : SyncRequest). w.requests ++ q ∷ []) request ∙ sym k.sent) ∙ sym k.rest,
        h.told ∙ sym k.told,
      )

  serve_one : (k : ℕ) → ServeHappens k w a o → ServeHappens k w b p → IsOne a b o p
  serve_one n h k =
      let request = same_Some h.request k.request (sym h.there ∙ k.there) in
      let server = one_both order w.server k.request.messages a.server b.server (subst (λ (q : SyncRequest). HasBoth w.server q.messages a.server) request h.joined) k.joined h.in_order k.in_order in
      let messages = one_later order k.request.since w.server h.reply.messages k.reply.messages (subst (λ (q : SyncRequest). AreLater q.since w.server h.reply.messages) request h.messages) k.messages in
      let reply = one_reply h.reply k.reply messages (h.plain ∙ sym k.plain) (h.trie ∙ ap (λ (ms : List Message). trie_text (trie_of (pairs_of ms))) server ∙ sym k.trie) in
      let kept = h.acknowledged ∙ ap (λ (q : SyncRequest). w.kept ++ q.messages) request ∙ sym k.acknowledged in
      let replies = h.sent ∙ ap (λ (r : SyncResponse). w.replies ++ r ∷ []) reply ∙ sym k.sent in (
        h.rest
            ∙ ap (λ (ms : List Message). record w { server = ms; kept = a.kept; replies = a.replies }) server
            ∙ ap₂ (λ (ms : List Message) (rs : List SyncResponse). record w { server = b.server; kept = ms; replies = rs }) kept replies
            ∙ sym k.rest,
        h.told ∙ ap (λ (r : SyncResponse). Served (length w.replies) (length r.messages)) reply ∙ sym k.told,
      )

  take_one : (i n reading : ℕ) → TakeHappens i n reading w a o → TakeHappens i n reading w b p → IsOne a b o p
  take_one i n reading h k =
      let device = same_Some h.device k.device (sym h.goes.there ∙ k.goes.there) in
      let reply = same_Some h.reply k.reply (sym h.there ∙ k.there) in
      let accepted = same_ok h.accepted k.accepted (sym h.takes.answer ∙ ap₂ (λ (s : State) (r : SyncResponse). received s r.messages reading) device reply ∙ k.takes.answer) in
      let devices = one_devices i w a b h.device h.accepted.state k.device k.accepted.state (ap (λ (x : Accepted). x.state) accepted) h.goes k.goes in (
        h.rest ∙ ap (λ (ds : List State). record w { devices = ds }) devices ∙ sym k.rest,
        h.told ∙ ap (λ (x : Accepted). Took x.count) accepted ∙ sym k.told,
      )

  stop_one : (i : ℕ) (edit : WorldEdit) (reading : ℕ) (whole : Bool) → StopHappens i edit reading whole w a o → StopHappens i edit reading whole w b p → IsOne a b o p
  stop_one i edit reading whole h k = both whole refl
    where
      device : h.device ≡ k.device
      device = same_Some h.device k.device (sym h.goes.there ∙ k.goes.there)

      messages : h.messages ≡ k.messages
      messages = one_news h.device k.device edit reading h.accepted k.accepted h.messages k.messages device
          (one_accepted h.device k.device edit reading h.accepted k.accepted h.messages k.messages device h.accepts k.accepts) h.accepts k.accepts

      node : h.device.clock.node ≡ k.device.clock.node
      node = ap (λ (s : State). s.clock.node) device

      so : h.begun ≡ k.begun → a.made ≡ b.made → IsOne a b o p
      so begun made = (
        h.rest
            ∙ ap₂ (λ (ds : List State) (xs : List Making). record w { devices = ds; made = xs }) (one_devices i w a b h.device h.begun k.device k.begun begun h.goes k.goes) made
            ∙ sym k.rest,
        h.told ∙ sym k.told,
      )

      both : (x : Bool) → whole ≡ x → IsOne a b o p
      both true is =
          let one = h.kept is in
          let other = k.kept is in
          so
          (begun_alike h.device.clock.node k.device.clock.node (h.device.messages ++ h.messages) (k.device.messages ++ k.messages) h.begun k.begun node
          (ap₂ (λ (s : State) (ms : List Message). s.messages ++ ms) device messages) one.0 other.0)
          (one_grown i h.messages k.messages w.made a.made b.made messages one.1 other.1)
      both false is =
          let one = h.lost is in
          let other = k.lost is in
          so (begun_alike h.device.clock.node k.device.clock.node h.device.messages k.device.messages h.begun k.begun node (ap (λ (s : State). s.messages) device) one.0 other.0) (one.1 ∙ sym other.1)

  halt_one : (n : ℕ) (whole : Bool) → HaltHappens n whole w a o → HaltHappens n whole w b p → IsOne a b o p
  halt_one n whole h k = (
    h.rest ∙ ap (λ (ms : List Message). record w { server = ms }) (both whole refl) ∙ sym k.rest,
    h.told ∙ sym k.told,
  )
    where
      both : (x : Bool) → whole ≡ x → a.server ≡ b.server
      both true is =
          let request = same_Some h.request k.request (sym h.there ∙ k.there) in
          one_both order w.server k.request.messages a.server b.server (subst (λ (q : SyncRequest). HasBoth w.server q.messages a.server) request (h.kept is)) (k.kept is) h.in_order k.in_order
      both false is = h.lost is ∙ sym (k.lost is)

  one_so : (e : Event) → Happens w e a o → Happens w e b p → IsOne a b o p
  one_so (events.Edit i edit reading) h k = edit_one i edit reading h k
  one_so (events.Ask i since) h k = ask_one i since h k
  one_so (events.Serve n) h k = serve_one n h k
  one_so (events.Take i n reading) h k = take_one i n reading h k
  one_so (events.Stop i edit reading whole) h k = stop_one i edit reading whole h k
  one_so (events.Halt n whole) h k = halt_one n whole h k

pub one_world : JoinsInAnyOrder → (e : Event) (w a b : WorldState) (o p : Outcome) → Happens w e a o → Happens w e b p → (a ≡ b) × (o ≡ p)
one_world order e w a b o p h k = one_so order w a b o p e h k

-- ---- what is said to happen is not refused

stop_some : (w : WorldState) (i : ℕ) (s : State) (a : Accepted) (whole : Bool) → (p : WorldState × Outcome) × (stopped w i s whole (Ok a) ≡ Ok p)
stop_some w i s a true = ((record w { devices = with_device w.devices i (begun s.clock.node a.state.messages); made = w.made ++ made_by i (news s a) }, Stopped), refl)
stop_some w i s a false = ((record w { devices = with_device w.devices i (begun s.clock.node s.messages) }, Stopped), refl)

halt_some : (w : WorldState) (k : ℕ) (q : SyncRequest) (whole : Bool) → (p : WorldState × Outcome) × (halts w k whole (Some q) ≡ Ok p)
halt_some w k q true = ((record w { server = join w.server q.messages }, Halted), refl)
halt_some w k q false = ((w, Halted), refl)

pub some_happens : (e : Event) (w new : WorldState) (outcome : Outcome) → Happens w e new outcome → (p : WorldState × Outcome) × (stepped w e ≡ Ok p)
some_happens (events.Edit i edit reading) w new outcome h =
    let made : List Making = made_by i (news h.device h.accepted) in (
      (record w { devices = with_device w.devices i h.accepted.state; made = w.made ++ made; acknowledged = w.acknowledged ++ made }, Wrote h.accepted.count h.accepted.made),
      ap (edits_at w i edit reading) h.goes.there ∙ ap (wrote w i h.device) h.accepts.answer,
    )
some_happens (events.Ask i since) w new outcome h =
    ((record w { requests = w.requests ++ request_of h.device.messages since ∷ [] }, Asked (length w.requests)), ap (asks_at w i since) h.there)
some_happens (events.Serve k) w new outcome h =
    let reply : SyncResponse = answer_of w.server h.request in (
      (record w { server = join w.server h.request.messages; kept = w.kept ++ h.request.messages; replies = w.replies ++ reply ∷ [] }, Served (length w.replies) (length reply.messages)),
      ap (serves w k) h.there,
    )
some_happens (events.Take i k reading) w new outcome h =
    ((record w { devices = with_device w.devices i h.accepted.state }, Took h.accepted.count), ap₂ (takes_at w i k reading) h.goes.there h.there ∙ ap (took w i) h.takes.answer)
some_happens (events.Stop i edit reading whole) w new outcome h =
    let some = stop_some w i h.device h.accepted whole in
    (some.0, ap (stops_at w i edit reading whole) h.goes.there ∙ ap (stopped w i h.device whole) h.accepts.answer ∙ some.1)
some_happens (events.Halt k whole) w new outcome h =
    let some = halt_some w k h.request whole in
    (some.0, ap (halts w k whole) h.there ∙ some.1)

-- ---- what is said to prevent it does

lacks : (ds : List State) (i : ℕ) → (i ≡ 0) ⊎ (length ds < i) → device_of ds i ≡ None
lacks ds zero h = refl
lacks ds (suc i) (inl e) = absurd (cc)
lacks ds (suc i) (inr e) = slice_get_past ds i (omega (arith, e))

module _ (w : WorldState) (fault : WorldFault) where
  edit_none : (i : ℕ) (edit : WorldEdit) (reading : ℕ) → LacksDevice w i fault ⊎ RefusesEdit w i edit reading fault → edits_at w i edit reading (device_of w.devices i) ≡ Err fault
  edit_none i edit reading (inl h) = ap (edits_at w i edit reading) (lacks w.devices i h.none) ∙ ap (λ (f : WorldFault). Err f) (sym h.told)
  edit_none i edit reading (inr h) = ap (edits_at w i edit reading) h.there ∙ ap (wrote w i h.device) h.answer ∙ ap (λ (f : WorldFault). Err f) (sym h.told)

  take_none : (i k reading : ℕ) → LacksDevice w i fault ⊎ (LacksReply w i k fault ⊎ RefusesReply w i k reading fault) → takes_at w i k reading (device_of w.devices i) (slice_get w.replies k) ≡ Err fault
  take_none i k reading (inl h) = ap (λ (o : Option State). takes_at w i k reading o (slice_get w.replies k)) (lacks w.devices i h.none) ∙ ap (λ (f : WorldFault). Err f) (sym h.told)
  take_none i k reading (inr (inl h)) = ap₂ (takes_at w i k reading) h.there (slice_get_past w.replies k h.none) ∙ ap (λ (f : WorldFault). Err f) (sym h.told)
  take_none i k reading (inr (inr h)) = ap₂ (takes_at w i k reading) h.there h.sent ∙ ap (took w i) h.answer ∙ ap (λ (f : WorldFault). Err f) (sym h.told)

  stop_none : (i : ℕ) (edit : WorldEdit) (reading : ℕ) (whole : Bool) → LacksDevice w i fault ⊎ RefusesEdit w i edit reading fault → stops_at w i edit reading whole (device_of w.devices i) ≡ Err fault
  stop_none i edit reading whole (inl h) = ap (stops_at w i edit reading whole) (lacks w.devices i h.none) ∙ ap (λ (f : WorldFault). Err f) (sym h.told)
  stop_none i edit reading whole (inr h) = ap (stops_at w i edit reading whole) h.there ∙ ap (stopped w i h.device whole) h.answer ∙ ap (λ (f : WorldFault). Err f) (sym h.told)

pub none_happens : (e : Event) (w : WorldState) (fault : WorldFault) → IsPrevented w e fault → stepped w e ≡ Err fault
none_happens (events.Edit i edit reading) w fault h = edit_none w fault i edit reading h
none_happens (events.Ask i since) w fault h = ap (asks_at w i since) (lacks w.devices i h.none) ∙ ap (λ (f : WorldFault). Err f) (sym h.told)
none_happens (events.Serve k) w fault h = ap (serves w k) (slice_get_past w.requests k h.none) ∙ ap (λ (f : WorldFault). Err f) (sym h.told)
none_happens (events.Take i k reading) w fault h = take_none w fault i k reading h
none_happens (events.Stop i edit reading whole) w fault h = stop_none w fault i edit reading whole h
none_happens (events.Halt k whole) w fault h = ap (halts w k whole) (slice_get_past w.requests k h.none) ∙ ap (λ (f : WorldFault). Err f) (sym h.told)
