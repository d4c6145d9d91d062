-- Each event leaves right what is right of a world.
use Rattle.std.proofs.Common.{◌≡◌, inl, inr, ℕ, List, [], ◌++◌, append-nil, Bool, true, false, Option, None, Some, Result, Ok, Err, refl, sym, subst}
use Rattle.std.specs.List.{Contains, slice_get}
use Rattle.std.proofs.lemmas.List.Elements.{Contains-append_left, Contains-append_right, Contains-append_cases, Contains-push_cases}
use Rattle.field_merge.specs.declared.message.Message.{Message}
use Rattle.field_merge.specs.Log.{IsRising, join}
use Rattle.field_merge.specs.Laws.{JoinsAreJoins}
use Rattle.device_core.specs.declared.edit.LineRefusal.{LineRefusal}
use Rattle.device_core.specs.Device.{State, Accepted, begun, received}
use Rattle.device_core.specs.Beginning.{DevicesBegin}
use Rattle.device_core.specs.Accepting.{AcceptedAreJoined}
use Rattle.device_core.specs.ReadBack.{ReceivedAreJoined}
use Rattle.device_core.specs.Several.{WritesAreJoined}
use Rattle.sync_wire.specs.declared.request.SyncRequest.{SyncRequest}
use Rattle.sync_wire.specs.declared.response.SyncResponse.{SyncResponse}
use Rattle.sync_server.specs.Answer.{answer_of}
use Rattle.sync_server.specs.Laws.{AnswersTell}
use Rattle.sync_world.specs.declared.event.WorldEdit.{WorldEdit}
use Rattle.sync_world.specs.declared.event.Event.{Event}
use Rattle.sync_world.specs.declared.event.Event.TheVariants as events
use Rattle.sync_world.specs.World.{WorldState, device_of, with_device, messages_of, made_by, changed, news, request_of, wrote, edits_at, asks_at, serves, took, takes_at, stopped, stops_at, halts, stepped, left_by}
use Rattle.sync_world.specs.Right.{AreDifferent, IsRight}
use Rattle.sync_world.proofs.Numbered.{no_member, at_member}
use Rattle.sync_world.proofs.Apart.{rise_apart, back_rises, one_each, join_stays, join_takes}
use Rattle.sync_world.proofs.Grown.{Makes, changed_makes}
use Rattle.sync_world.proofs.Moved.{Moves, moved}

-- what the crates below promise
pub record Below : Type 0 where
  pub begins : DevicesBegin
  pub accepted : AcceptedAreJoined
  pub writes : WritesAreJoined
  pub received : ReceivedAreJoined
  pub joined : JoinsAreJoins
  pub tells : AnswersTell

module _ (below : Below) (nodes : List (List ℕ)) (differ : AreDifferent nodes) (w : WorldState) (r : IsRight nodes w) where
  -- a device that makes messages and goes on, or begins anew with them
  pub makes_moves : (i : ℕ) (s t : State) (ms : List Message) → device_of w.devices i ≡ Some s → Makes s t ms → Moves w s t ms
  makes_moves i s t ms h m =
      let rising : IsRising t.messages = subst IsRising (sym m.joined) ((below.joined s.messages ms).rising (r.rising i s h)) in record {
        node = m.node;
        rising = rising;
        ahead = m.ahead;
        stays = λ n c. subst (λ (l : List Message). Contains l n) (sym m.behind) (Contains-append_left s.messages ms n c);
        come = λ n c. elim (Contains-append_cases s.messages ms n (subst (λ (l : List Message). Contains l n) m.behind c)) [ inl old ↦ inl (r.sets i s h n old) | inr new ↦ inr new ];
        there = λ n c. subst (λ (l : List Message). Contains l n) (sym m.behind) (Contains-append_right s.messages ms n c);
        own = m.own;
        later = m.later;
        apart = rise_apart ms (back_rises s.messages ms (subst IsRising m.behind rising));
      }

  pub begins_so : (s t : State) (ms : List Message) → Moves w s t ms → Moves w s (begun s.clock.node t.messages) ms
  begins_so s t ms m = record {
    node = (below.begins s.clock.node t.messages).own;
    rising = m.rising;
    ahead = (below.begins s.clock.node t.messages).ahead m.rising;
    stays = m.stays;
    come = m.come;
    there = m.there;
    own = m.own;
    later = m.later;
    apart = m.apart;
  }

  pub stands_still : (i : ℕ) (s : State) → device_of w.devices i ≡ Some s → Moves w s s []
  stands_still i s h = record {
    node = refl;
    rising = r.rising i s h;
    ahead = r.ahead i s h;
    stays = λ n c. c;
    come = λ n c. inl (r.sets i s h n c);
    there = λ n c. absurd (no_member n c);
    own = λ n c. absurd (no_member n c);
    later = λ n c. absurd (no_member n c);
    apart = tt;
  }

  pub takes_moves : (i : ℕ) (s : State) (reply : SyncResponse) (reading : ℕ) (a : Accepted) → device_of w.devices i ≡ Some s → Contains w.replies reply → received s reply.messages reading ≡ Ok a → Moves w s a.state []
  takes_moves i s reply reading a h there is =
      let taken = below.received s reply.messages reading a is in
      let joins = below.joined s.messages reply.messages in record {
        node = taken.own;
        rising = subst IsRising (sym taken.joined) (joins.rising (r.rising i s h));
        ahead = taken.ahead (r.ahead i s h);
        stays = λ n c. subst (λ (l : List Message). Contains l n) (sym taken.joined) (join_stays s.messages reply.messages n c);
        come = λ n c. elim (joins.no_other n (subst (λ (l : List Message). Contains l n) taken.joined c)) [ inl old ↦ inl (r.sets i s h n old) | inr new ↦ inl (r.replies reply there n new) ];
        there = λ n c. absurd (no_member n c);
        own = λ n c. absurd (no_member n c);
        later = λ n c. absurd (no_member n c);
        apart = tt;
      }

  -- a device goes on, and nothing is made
  quietly : (i : ℕ) (s t : State) → device_of w.devices i ≡ Some s → Moves w s t [] → IsRight nodes (record w { devices = with_device w.devices i t })
  quietly i s t h m = moved nodes w i s t [] w.made w.acknowledged differ r h m (sym (append-nil w.made)) (λ x c. inl c)

  -- ---- an edit

  edit_right : (i : ℕ) (edit : WorldEdit) (reading : ℕ) → IsRight nodes (left_by w (edits_at w i edit reading (device_of w.devices i)))
  edit_right i edit reading = at (device_of w.devices i) refl
    where
      by : (s : State) (o : Result Accepted LineRefusal) → device_of w.devices i ≡ Some s → changed s edit reading ≡ o → IsRight nodes (left_by w (wrote w i s o))
      by s (Err refusal) h e = r
      by s (Ok a) h e =
          moved nodes w i s a.state (news s a) (w.made ++ made_by i (news s a)) (w.acknowledged ++ made_by i (news s a)) differ r h
          (makes_moves i s a.state (news s a) h (changed_makes below.writes below.accepted s edit reading a (r.ahead i s h) e)) refl
          (λ x c. Contains-append_cases w.acknowledged (made_by i (news s a)) x c)

      at : (o : Option State) → device_of w.devices i ≡ o → IsRight nodes (left_by w (edits_at w i edit reading o))
      at None h = r
      at (Some s) h = by s (changed s edit reading) h refl

  -- ---- a request

  ask_right : (i : ℕ) (since : List ℕ) → IsRight nodes (left_by w (asks_at w i since (device_of w.devices i)))
  ask_right i since = at (device_of w.devices i) refl
    where
      at : (o : Option State) → device_of w.devices i ≡ o → IsRight nodes (left_by w (asks_at w i since o))
      at None h = r
      at (Some s) h = record {
        own = r.own;
        rising = r.rising;
        ahead = r.ahead;
        server_rising = r.server_rising;
        made = r.made;
        sets = r.sets;
        server = r.server;
        requests = λ q c m d. elim (Contains-push_cases w.requests (request_of s.messages since) q c) [
          | inl old ↦ r.requests q old m d
          | inr new ↦ r.sets i s h m ((below.tells.exactly s.messages (request_of s.messages since) m).0 (subst (λ (x : SyncRequest). Contains x.messages m) (sym new) d)).0
        ];
        replies = r.replies;
        kept = r.kept;
        acknowledged = r.acknowledged;
        apart = r.apart;
      }

  -- ---- the server

  server_made : (q : SyncRequest) → Contains w.requests q → (m : Message) → Contains (join w.server q.messages) m → Contains (messages_of w.made) m
  server_made q there m c = elim ((below.joined w.server q.messages).no_other m c) [ inl old ↦ r.server m old | inr new ↦ r.requests q there m new ]

  serve_right : (k : ℕ) → IsRight nodes (left_by w (serves w k (slice_get w.requests k)))
  serve_right k = at (slice_get w.requests k) refl
    where
      at : (o : Option SyncRequest) → slice_get w.requests k ≡ o → IsRight nodes (left_by w (serves w k o))
      at None h = r
      at (Some q) h =
          let there = at_member w.requests k q h in record {
            own = r.own;
            rising = r.rising;
            ahead = r.ahead;
            server_rising = (below.joined w.server q.messages).rising r.server_rising;
            made = r.made;
            sets = r.sets;
            server = server_made q there;
            requests = r.requests;
            replies = λ x c m d. elim (Contains-push_cases w.replies (answer_of w.server q) x c) [
              | inl old ↦ r.replies x old m d
              | inr new ↦ r.server m ((below.tells.exactly w.server q m).0 (subst (λ (y : SyncResponse). Contains y.messages m) (sym new) d)).0
            ];
            kept = λ m c. elim (Contains-append_cases w.kept q.messages m c) [
              | inl old ↦ join_stays w.server q.messages m (r.kept m old)
              | inr new ↦ join_takes w.server q.messages (messages_of w.made) (one_each (messages_of w.made) r.apart) r.server (r.requests q there) (below.joined w.server q.messages) m new
            ];
            acknowledged = r.acknowledged;
            apart = r.apart;
          }

  halt_right : (k : ℕ) (whole : Bool) → IsRight nodes (left_by w (halts w k whole (slice_get w.requests k)))
  halt_right k whole = at whole (slice_get w.requests k) refl
    where
      at : (b : Bool) (o : Option SyncRequest) → slice_get w.requests k ≡ o → IsRight nodes (left_by w (halts w k b o))
      at b None h = r
      at false (Some q) h = r
      at true (Some q) h = record {
        own = r.own;
        rising = r.rising;
        ahead = r.ahead;
        server_rising = (below.joined w.server q.messages).rising r.server_rising;
        made = r.made;
        sets = r.sets;
        server = server_made q (at_member w.requests k q h);
        requests = r.requests;
        replies = r.replies;
        kept = λ m c. join_stays w.server q.messages m (r.kept m c);
        acknowledged = r.acknowledged;
        apart = r.apart;
      }

  -- ---- a reply

  take_right : (i k reading : ℕ) → IsRight nodes (left_by w (takes_at w i k reading (device_of w.devices i) (slice_get w.replies k)))
  take_right i k reading = at (device_of w.devices i) (slice_get w.replies k) refl refl
    where
      by : (s : State) (reply : SyncResponse) (o : Result Accepted LineRefusal) → device_of w.devices i ≡ Some s → Contains w.replies reply → received s reply.messages reading ≡ o → IsRight nodes (left_by w (took w i o))
      by s reply (Err refusal) h there e = r
      by s reply (Ok a) h there e = quietly i s a.state h (takes_moves i s reply reading a h there e)

      at : (o : Option State) (p : Option SyncResponse) → device_of w.devices i ≡ o → slice_get w.replies k ≡ p → IsRight nodes (left_by w (takes_at w i k reading o p))
      at None p h l = r
      at (Some s) None h l = r
      at (Some s) (Some reply) h l = by s reply (received s reply.messages reading) h (at_member w.replies k reply l) refl

  -- ---- a stop

  stop_right : (i : ℕ) (edit : WorldEdit) (reading : ℕ) (whole : Bool) → IsRight nodes (left_by w (stops_at w i edit reading whole (device_of w.devices i)))
  stop_right i edit reading whole = at (device_of w.devices i) refl
    where
      by : (s : State) (b : Bool) (o : Result Accepted LineRefusal) → device_of w.devices i ≡ Some s → changed s edit reading ≡ o → IsRight nodes (left_by w (stopped w i s b o))
      by s b (Err refusal) h e = r
      by s true (Ok a) h e =
          moved nodes w i s (begun s.clock.node a.state.messages) (news s a) (w.made ++ made_by i (news s a)) w.acknowledged differ r h
          (begins_so s a.state (news s a) (makes_moves i s a.state (news s a) h (changed_makes below.writes below.accepted s edit reading a (r.ahead i s h) e))) refl
          (λ x c. inl c)
      by s false (Ok a) h e = quietly i s (begun s.clock.node s.messages) h (begins_so s s [] (stands_still i s h))

      at : (o : Option State) → device_of w.devices i ≡ o → IsRight nodes (left_by w (stops_at w i edit reading whole o))
      at None h = r
      at (Some s) h = by s whole (changed s edit reading) h refl

  pub step_right : (e : Event) → IsRight nodes (left_by w (stepped w e))
  step_right (events.Edit i edit reading) = edit_right i edit reading
  step_right (events.Ask i since) = ask_right i since
  step_right (events.Serve k) = serve_right k
  step_right (events.Take i k reading) = take_right i k reading
  step_right (events.Stop i edit reading whole) = stop_right i edit reading whole
  step_right (events.Halt k whole) = halt_right k whole
