-- Each event does what is said of it, and is prevented by what is said to prevent it.
use Rattle.std.proofs.Common.{◌≡◌, ◌⊎◌, inl, inr, ℕ, zero, suc, ◌<◌, List, [], ◌∷◌, ◌++◌, Bool, true, false, Option, None, Some, Result, Ok, Err, length, refl, sym, ap, ap₂, ◌∙◌, subst, arith}
use Rattle.std.specs.List.{Contains, AllByRecursion, slice_get}
use Rattle.field_merge.specs.declared.message.Message.{Message}
use Rattle.field_merge.specs.Laws.{JoinsInAnyOrder}
use Rattle.field_merge.specs.Log.{IsRising, join}
use Rattle.device_core.specs.declared.edit.LineRefusal.{LineRefusal}
use Rattle.device_core.specs.Device.{State, Accepted, begun, received}
use Rattle.sync_wire.specs.declared.request.SyncRequest.{SyncRequest}
use Rattle.sync_wire.specs.declared.response.SyncResponse.{SyncResponse}
use Rattle.sync_server.specs.Answer.{answer_of}
use Rattle.sync_world.specs.declared.event.Event.{Event}
use Rattle.sync_world.specs.declared.event.Event.TheVariants as events
use Rattle.sync_world.specs.declared.event.Outcome.{Outcome}
use Rattle.sync_world.specs.declared.event.Outcome.TheVariants.{Wrote, Asked, Served, Took, Stopped, Halted}
use Rattle.sync_world.specs.declared.event.WorldEdit.{WorldEdit}
use Rattle.sync_world.specs.declared.event.WorldFault.{WorldFault}
use Rattle.sync_world.specs.declared.event.WorldFault.TheVariants.{NoSuchDevice, NoSuchRequest, NoSuchReply, Line}
use Rattle.sync_world.specs.declared.making.Making.{Making}
use Rattle.sync_world.specs.World.{WorldState, Answer, device_of, with_device, messages_of, made_by, changed, news, request_of, wrote, edits_at, asks_at, serves, took, takes_at, stopped, stops_at, halts, stepped}
use Rattle.sync_world.specs.Right.{AreDifferent, IsRight}
use Rattle.sync_world.specs.Happening.{HasBoth, GrowsBy, GoesTo, Accepts, BeginsWith, EditHappens, AskHappens, ServeHappens, TakeHappens, StopHappens, HaltHappens, Happens, LacksDevice, LacksRequest, LacksReply, RefusesEdit, RefusesReply, IsPrevented, EventsHappen}
use Rattle.sync_world.proofs.Numbered.{same_ok, same_err, past_end, at_member, device_same, device_other}
use Rattle.sync_world.proofs.Apart.{one_each, join_stays, join_takes}
use Rattle.sync_world.proofs.Grown.{changed_makes, changed_counts}
use Rattle.sync_world.proofs.Moved.{made_back}
use Rattle.sync_world.proofs.Events.{Below}
use Rattle.sync_world.proofs.Determined.{one_world, some_happens, none_happens}

-- ---- parts of what is said

makers : (i : ℕ) (ms : List Message) → AllByRecursion (λ (x : Making). x.device ≡ i) (made_by i ms)
makers i [] = tt
makers i (m ∷ ms) = (refl, makers i ms)

grows : (i : ℕ) (ms : List Message) (old : List Making) → GrowsBy i ms old (old ++ made_by i ms)
grows i ms old = record { more = made_by i ms; grown = refl; messages = made_back i ms; maker = makers i ms }

goes_to : (w v : WorldState) (i : ℕ) (s t : State) → device_of w.devices i ≡ Some s → v.devices ≡ with_device w.devices i t → GoesTo i w v s t
goes_to w v i s t h is = record {
  there = h;
  now = ap (λ (ds : List State). device_of ds i) is ∙ device_same w.devices i s t h;
  others = λ j other. ap (λ (ds : List State). device_of ds j) is ∙ device_other w.devices i j s t h other;
}

-- ---- what happens

module _ (below : Below) (nodes : List (List ℕ)) (w new : WorldState) (o : Outcome) (differ : AreDifferent nodes) (r : IsRight nodes w) where
  -- an answer is this one
  is_so : (P : WorldState × Outcome → Type 0) (p : WorldState × Outcome) → ◌≡◌ {A = Answer} (Ok p) (Ok (new, o)) → P p → P (new, o)
  is_so P p is h = subst P (same_ok p (new, o) is) h

  -- messages that were made join
  joins_both : (ms ns : List Message) → ((m : Message) → Contains ms m → Contains (messages_of w.made) m) → ((m : Message) → Contains ns m → Contains (messages_of w.made) m) → HasBoth ms ns (join ms ns)
  joins_both ms ns in_ms in_ns m = (
    (below.joined ms ns).no_other m,
    λ c. elim c [
      | inl old ↦ join_stays ms ns m old
      | inr come ↦ join_takes ms ns (messages_of w.made) (one_each (messages_of w.made) r.apart) in_ms in_ns (below.joined ms ns) m come
    ],
  )

  accepts : (i : ℕ) (s : State) (edit : WorldEdit) (reading : ℕ) (a : Accepted) → device_of w.devices i ≡ Some s → changed s edit reading ≡ Ok a → Accepts s edit reading a (news s a)
  accepts i s edit reading a h is =
      let m = changed_makes below.writes below.accepted s edit reading a (r.ahead i s h) is in record {
        answer = is;
        behind = m.behind;
        own = λ n c. (m.own n c, m.later n c);
        counted = changed_counts below.writes s edit reading a (r.ahead i s h) is;
      }

  begins : (node : List ℕ) (ms : List Message) → BeginsWith node ms (begun node ms)
  begins node ms = record { begun = below.begins node ms; no_undo = refl; no_redo = refl }

  edit_so : (i : ℕ) (edit : WorldEdit) (reading : ℕ) → edits_at w i edit reading (device_of w.devices i) ≡ Ok (new, o) → EditHappens i edit reading w new o
  edit_so i edit reading = at (device_of w.devices i) refl
    where
      by : (s : State) (x : Result Accepted LineRefusal) → device_of w.devices i ≡ Some s → changed s edit reading ≡ x → wrote w i s x ≡ Ok (new, o) → EditHappens i edit reading w new o
      by s (Err refusal) h e is = absurd (cc)
      by s (Ok a) h e is =
          let made : List Making = made_by i (news s a) in
          let v : WorldState = record w { devices = with_device w.devices i a.state; made = w.made ++ made; acknowledged = w.acknowledged ++ made } in
          let accepted = accepts i s edit reading a h e in
          is_so (λ (p : WorldState × Outcome). EditHappens i edit reading w p.0 p.1) (v, Wrote a.count a.made) is (record {
            device = s;
            accepted = a;
            messages = news s a;
            accepts = accepted;
            goes = goes_to w v i s a.state h refl;
            made = grows i (news s a) w.made;
            acknowledged = grows i (news s a) w.acknowledged;
            rest = refl;
            told = ap (λ (n : ℕ). Wrote n a.made) accepted.counted;
          })

      at : (d : Option State) → device_of w.devices i ≡ d → edits_at w i edit reading d ≡ Ok (new, o) → EditHappens i edit reading w new o
      at None h is = absurd (cc)
      at (Some s) h is = by s (changed s edit reading) h refl is

  ask_so : (i : ℕ) (since : List ℕ) → asks_at w i since (device_of w.devices i) ≡ Ok (new, o) → AskHappens i since w new o
  ask_so i since = at (device_of w.devices i) refl
    where
      at : (d : Option State) → device_of w.devices i ≡ d → asks_at w i since d ≡ Ok (new, o) → AskHappens i since w new o
      at None h is = absurd (cc)
      at (Some s) h is =
          let q : SyncRequest = request_of s.messages since in
          let v : WorldState = record w { requests = w.requests ++ q ∷ [] } in
          is_so (λ (p : WorldState × Outcome). AskHappens i since w p.0 p.1) (v, Asked (length w.requests)) is (record {
            device = s;
            there = h;
            request = q;
            messages = record { in_order = below.tells.in_order s.messages q (r.rising i s h); exactly = below.tells.exactly s.messages q };
            plain = refl;
            file = refl;
            group = refl;
            asked_from = refl;
            sent = refl;
            rest = refl;
            told = refl;
          })

  serve_so : (k : ℕ) → serves w k (slice_get w.requests k) ≡ Ok (new, o) → ServeHappens k w new o
  serve_so k = at (slice_get w.requests k) refl
    where
      at : (x : Option SyncRequest) → slice_get w.requests k ≡ x → serves w k x ≡ Ok (new, o) → ServeHappens k w new o
      at None h is = absurd (cc)
      at (Some q) h is =
          let reply : SyncResponse = answer_of w.server q in
          let v : WorldState = record w { server = join w.server q.messages; kept = w.kept ++ q.messages; replies = w.replies ++ reply ∷ [] } in
          is_so (λ (p : WorldState × Outcome). ServeHappens k w p.0 p.1) (v, Served (length w.replies) (length reply.messages)) is (record {
            request = q;
            there = h;
            in_order = (below.joined w.server q.messages).rising r.server_rising;
            joined = joins_both w.server q.messages r.server (r.requests q (at_member w.requests k q h));
            acknowledged = refl;
            reply = reply;
            messages = record { in_order = below.tells.in_order w.server q r.server_rising; exactly = below.tells.exactly w.server q };
            plain = refl;
            trie = refl;
            sent = refl;
            rest = refl;
            told = refl;
          })

  take_so : (i k reading : ℕ) → takes_at w i k reading (device_of w.devices i) (slice_get w.replies k) ≡ Ok (new, o) → TakeHappens i k reading w new o
  take_so i k reading = at (device_of w.devices i) (slice_get w.replies k) refl refl
    where
      by : (s : State) (reply : SyncResponse) (x : Result Accepted LineRefusal) → device_of w.devices i ≡ Some s → slice_get w.replies k ≡ Some reply → received s reply.messages reading ≡ x → took w i x ≡ Ok (new, o)
          → TakeHappens i k reading w new o
      by s reply (Err refusal) h l e is = absurd (cc)
      by s reply (Ok a) h l e is =
          let v : WorldState = record w { devices = with_device w.devices i a.state } in
          let taken = below.received s reply.messages reading a e in
          is_so (λ (p : WorldState × Outcome). TakeHappens i k reading w p.0 p.1) (v, Took a.count) is (record {
            device = s;
            reply = reply;
            there = l;
            accepted = a;
            takes = record {
              answer = e;
              in_order = subst IsRising (sym taken.joined) ((below.joined s.messages reply.messages).rising (r.rising i s h));
              joined = subst (HasBoth s.messages reply.messages) (sym taken.joined) (joins_both s.messages reply.messages (r.sets i s h) (r.replies reply (at_member w.replies k reply l)));
              counted = taken.grown;
              history = taken.same_history;
            };
            goes = goes_to w v i s a.state h refl;
            rest = refl;
            told = refl;
          })

      at : (d : Option State) (x : Option SyncResponse) → device_of w.devices i ≡ d → slice_get w.replies k ≡ x → takes_at w i k reading d x ≡ Ok (new, o) → TakeHappens i k reading w new o
      at None x h l is = absurd (cc)
      at (Some s) None h l is = absurd (cc)
      at (Some s) (Some reply) h l is = by s reply (received s reply.messages reading) h l refl is

  stop_so : (i : ℕ) (edit : WorldEdit) (reading : ℕ) (whole : Bool) → stops_at w i edit reading whole (device_of w.devices i) ≡ Ok (new, o) → StopHappens i edit reading whole w new o
  stop_so i edit reading whole = at (device_of w.devices i) refl
    where
      by : (s : State) (b : Bool) (x : Result Accepted LineRefusal) → device_of w.devices i ≡ Some s → changed s edit reading ≡ x → stopped w i s b x ≡ Ok (new, o) → StopHappens i edit reading b w new o
      by s b (Err refusal) h e is = absurd (cc)
      by s true (Ok a) h e is =
          let t : State = begun s.clock.node a.state.messages in
          let v : WorldState = record w { devices = with_device w.devices i t; made = w.made ++ made_by i (news s a) } in
          let accepted = accepts i s edit reading a h e in
          is_so (λ (p : WorldState × Outcome). StopHappens i edit reading true w p.0 p.1) (v, Stopped) is (record {
            device = s;
            accepted = a;
            messages = news s a;
            accepts = accepted;
            begun = t;
            goes = goes_to w v i s t h refl;
            kept = λ _. (subst (λ (ms : List Message). BeginsWith s.clock.node ms t) accepted.behind (begins s.clock.node a.state.messages), grows i (news s a) w.made);
            lost = λ no. let x : true ≡ false = no in absurd (cc);
            rest = refl;
            told = refl;
          })
      by s false (Ok a) h e is =
          let t : State = begun s.clock.node s.messages in
          let v : WorldState = record w { devices = with_device w.devices i t } in
          is_so (λ (p : WorldState × Outcome). StopHappens i edit reading false w p.0 p.1) (v, Stopped) is (record {
            device = s;
            accepted = a;
            messages = news s a;
            accepts = accepts i s edit reading a h e;
            begun = t;
            goes = goes_to w v i s t h refl;
            kept = λ no. let x : false ≡ true = no in absurd (cc);
            lost = λ _. (begins s.clock.node s.messages, refl);
            rest = refl;
            told = refl;
          })

      at : (d : Option State) → device_of w.devices i ≡ d → stops_at w i edit reading whole d ≡ Ok (new, o) → StopHappens i edit reading whole w new o
      at None h is = absurd (cc)
      at (Some s) h is = by s whole (changed s edit reading) h refl is

  halt_so : (k : ℕ) (whole : Bool) → halts w k whole (slice_get w.requests k) ≡ Ok (new, o) → HaltHappens k whole w new o
  halt_so k whole = at whole (slice_get w.requests k) refl
    where
      at : (b : Bool) (x : Option SyncRequest) → slice_get w.requests k ≡ x → halts w k b x ≡ Ok (new, o) → HaltHappens k b w new o
      at b None h is = absurd (cc)
      at true (Some q) h is =
          is_so (λ (p : WorldState × Outcome). HaltHappens k true w p.0 p.1) (record w { server = join w.server q.messages }, Halted) is (record {
            request = q;
            there = h;
            in_order = (below.joined w.server q.messages).rising r.server_rising;
            kept = λ _. joins_both w.server q.messages r.server (r.requests q (at_member w.requests k q h));
            lost = λ no. let x : true ≡ false = no in absurd (cc);
            rest = refl;
            told = refl;
          })
      at false (Some q) h is =
          is_so (λ (p : WorldState × Outcome). HaltHappens k false w p.0 p.1) (w, Halted) is (record {
            request = q;
            there = h;
            in_order = r.server_rising;
            kept = λ no. let x : false ≡ true = no in absurd (cc);
            lost = λ _. refl;
            rest = refl;
            told = refl;
          })

  so_it_happens : (e : Event) → stepped w e ≡ Ok (new, o) → Happens w e new o
  so_it_happens (events.Edit i edit reading) is = edit_so i edit reading is
  so_it_happens (events.Ask i since) is = ask_so i since is
  so_it_happens (events.Serve k) is = serve_so k is
  so_it_happens (events.Take i k reading) is = take_so i k reading is
  so_it_happens (events.Stop i edit reading whole) is = stop_so i edit reading whole is
  so_it_happens (events.Halt k whole) is = halt_so k whole is

-- ---- what prevents it

no_device : (ds : List State) (i : ℕ) → device_of ds i ≡ None → (i ≡ 0) ⊎ (length ds < i)
no_device ds zero h = inl refl
no_device ds (suc i) h = let past = past_end ds i h in inr (omega (arith, past))

module _ (w : WorldState) (fault : WorldFault) where
  is_fault : (f : WorldFault) → ◌≡◌ {A = Answer} (Err f) (Err fault) → fault ≡ f
  is_fault f is = sym (same_err f fault is)

  lacks_device : (i : ℕ) → device_of w.devices i ≡ None → ◌≡◌ {A = Answer} (Err (NoSuchDevice i)) (Err fault) → LacksDevice w i fault
  lacks_device i h is = record { none = no_device w.devices i h; told = is_fault (NoSuchDevice i) is }

  lacks_request : (k : ℕ) → slice_get w.requests k ≡ None → ◌≡◌ {A = Answer} (Err (NoSuchRequest k)) (Err fault) → LacksRequest w k fault
  lacks_request k h is = record { none = past_end w.requests k h; told = is_fault (NoSuchRequest k) is }

  edit_not : (i : ℕ) (edit : WorldEdit) (reading : ℕ) → edits_at w i edit reading (device_of w.devices i) ≡ Err fault → LacksDevice w i fault ⊎ RefusesEdit w i edit reading fault
  edit_not i edit reading = at (device_of w.devices i) refl
    where
      by : (s : State) (x : Result Accepted LineRefusal) → device_of w.devices i ≡ Some s → changed s edit reading ≡ x → wrote w i s x ≡ Err fault → RefusesEdit w i edit reading fault
      by s (Err refusal) h e is = record { device = s; there = h; refusal = refusal; answer = e; told = is_fault (Line refusal) is }
      by s (Ok a) h e is = absurd (cc)

      at : (d : Option State) → device_of w.devices i ≡ d → edits_at w i edit reading d ≡ Err fault → LacksDevice w i fault ⊎ RefusesEdit w i edit reading fault
      at None h is = inl (lacks_device i h is)
      at (Some s) h is = inr (by s (changed s edit reading) h refl is)

  ask_not : (i : ℕ) (since : List ℕ) → asks_at w i since (device_of w.devices i) ≡ Err fault → LacksDevice w i fault
  ask_not i since = at (device_of w.devices i) refl
    where
      at : (d : Option State) → device_of w.devices i ≡ d → asks_at w i since d ≡ Err fault → LacksDevice w i fault
      at None h is = lacks_device i h is
      at (Some s) h is = absurd (cc)

  serve_not : (k : ℕ) → serves w k (slice_get w.requests k) ≡ Err fault → LacksRequest w k fault
  serve_not k = at (slice_get w.requests k) refl
    where
      at : (x : Option SyncRequest) → slice_get w.requests k ≡ x → serves w k x ≡ Err fault → LacksRequest w k fault
      at None h is = lacks_request k h is
      at (Some q) h is = absurd (cc)

  take_not : (i k reading : ℕ) → takes_at w i k reading (device_of w.devices i) (slice_get w.replies k) ≡ Err fault → LacksDevice w i fault ⊎ (LacksReply w i k fault ⊎ RefusesReply w i k reading fault)
  take_not i k reading = at (device_of w.devices i) (slice_get w.replies k) refl refl
    where
      by : (s : State) (reply : SyncResponse) (x : Result Accepted LineRefusal) → device_of w.devices i ≡ Some s → slice_get w.replies k ≡ Some reply → received s reply.messages reading ≡ x → took w i x ≡ Err fault
          → RefusesReply w i k reading fault
      by s reply (Err refusal) h l e is = record { device = s; there = h; reply = reply; sent = l; refusal = refusal; answer = e; told = is_fault (Line refusal) is }
      by s reply (Ok a) h l e is = absurd (cc)

      at : (d : Option State) (x : Option SyncResponse) → device_of w.devices i ≡ d → slice_get w.replies k ≡ x → takes_at w i k reading d x ≡ Err fault
          → LacksDevice w i fault ⊎ (LacksReply w i k fault ⊎ RefusesReply w i k reading fault)
      at None x h l is = inl (lacks_device i h is)
      at (Some s) None h l is = inr (inl (record { device = s; there = h; none = past_end w.replies k l; told = is_fault (NoSuchReply k) is }))
      at (Some s) (Some reply) h l is = inr (inr (by s reply (received s reply.messages reading) h l refl is))

  stop_not : (i : ℕ) (edit : WorldEdit) (reading : ℕ) (whole : Bool) → stops_at w i edit reading whole (device_of w.devices i) ≡ Err fault → LacksDevice w i fault ⊎ RefusesEdit w i edit reading fault
  stop_not i edit reading whole = at (device_of w.devices i) refl
    where
      by : (s : State) (b : Bool) (x : Result Accepted LineRefusal) → device_of w.devices i ≡ Some s → changed s edit reading ≡ x → stopped w i s b x ≡ Err fault → RefusesEdit w i edit reading fault
      by s b (Err refusal) h e is = record { device = s; there = h; refusal = refusal; answer = e; told = is_fault (Line refusal) is }
      by s true (Ok a) h e is = absurd (cc)
      by s false (Ok a) h e is = absurd (cc)

      at : (d : Option State) → device_of w.devices i ≡ d → stops_at w i edit reading whole d ≡ Err fault → LacksDevice w i fault ⊎ RefusesEdit w i edit reading fault
      at None h is = inl (lacks_device i h is)
      at (Some s) h is = inr (by s whole (changed s edit reading) h refl is)

  halt_not : (k : ℕ) (whole : Bool) → halts w k whole (slice_get w.requests k) ≡ Err fault → LacksRequest w k fault
  halt_not k whole = at whole (slice_get w.requests k) refl
    where
      at : (b : Bool) (x : Option SyncRequest) → slice_get w.requests k ≡ x → halts w k b x ≡ Err fault → LacksRequest w k fault
      at b None h is = lacks_request k h is
      at true (Some q) h is = absurd (cc)
      at false (Some q) h is = absurd (cc)

  so_it_is_prevented : (e : Event) → stepped w e ≡ Err fault → IsPrevented w e fault
  so_it_is_prevented (events.Edit i edit reading) is = edit_not i edit reading is
  so_it_is_prevented (events.Ask i since) is = ask_not i since is
  so_it_is_prevented (events.Serve k) is = serve_not k is
  so_it_is_prevented (events.Take i k reading) is = take_not i k reading is
  so_it_is_prevented (events.Stop i edit reading whole) is = stop_not i edit reading whole is
  so_it_is_prevented (events.Halt k whole) is = halt_not k whole is

pub events_happen : Below → JoinsInAnyOrder → EventsHappen
events_happen below order = record {
  happens = λ nodes old new e outcome differ r. (
    so_it_happens below nodes old new outcome differ r e,
    λ h.
        let some = some_happens e old new outcome h in
        let also = so_it_happens below nodes old some.0.0 some.0.1 differ r e some.1 in
        let one = one_world order e old new some.0.0 outcome some.0.1 h also in
        some.1 ∙ ap₂ (λ (v : WorldState) (o : Outcome). Ok (v, o)) (sym one.0) (sym one.1),
  );
  prevented = λ w e fault. (so_it_is_prevented w fault e, none_happens e w fault);
}
