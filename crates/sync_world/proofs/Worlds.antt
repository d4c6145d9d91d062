-- A world stays right through all events.
use Rattle.std.proofs.Common.{◌≡◌, ℕ, zero, suc, List, [], ◌∷◌, Some, map, refl, sym, ap, subst}
use Rattle.std.specs.List.{Contains, slice_get}
use Rattle.field_merge.specs.declared.message.Message.{Message}
use Rattle.field_merge.specs.Log.{IsRising}
use Rattle.field_merge.proofs.Ordered.{in_order_nil}
use Rattle.field_merge.proofs.Joining.{stamp_of}
use Rattle.hybrid_clock.specs.Order.{stamp_cmp}
use Rattle.device_core.specs.Device.{State, IsAhead, begun}
use Rattle.sync_world.specs.declared.event.Event.{Event}
use Rattle.sync_world.specs.World.{WorldState, device_of, start, stepped, left_by, after}
use Rattle.sync_world.specs.Right.{AreDifferent, IsRight, WorldsStayRight}
use Rattle.sync_world.proofs.Numbered.{no_member}
use Rattle.sync_world.specs.Promises.{WorldsKeepPromises, ComesOf}
use Rattle.field_merge.specs.Laws.{JoinsInAnyOrder}
use Rattle.sync_world.proofs.Promises.{keeps}
use Rattle.sync_world.proofs.Coming.{all_come, after_both}
use Rattle.sync_world.proofs.Events.{Below, step_right}

pub own_start : (nodes : List (List ℕ)) → map (λ (s : State). s.clock.node) (map (λ (node : List ℕ). begun node []) nodes) ≡ nodes
own_start [] = refl
own_start (node ∷ nodes) = ap (λ (ns : List (List ℕ)). node ∷ ns) (own_start nodes)

begun_at : (P : State → Type 0) → ((node : List ℕ) → P (begun node [])) → (nodes : List (List ℕ)) (k : ℕ) (s : State) → slice_get (map (λ (node : List ℕ). begun node []) nodes) k ≡ Some s → P s
begun_at P f [] k s h = absurd (cc)
begun_at P f (node ∷ nodes) zero s h = let same : begun node [] ≡ s = cc in subst P same (f node)
begun_at P f (node ∷ nodes) (suc k) s h = begun_at P f nodes k s h

device_begun : (P : State → Type 0) → ((node : List ℕ) → P (begun node [])) → (nodes : List (List ℕ)) (i : ℕ) (s : State) → device_of (map (λ (node : List ℕ). begun node []) nodes) i ≡ Some s → P s
device_begun P f nodes zero s h = absurd (cc)
device_begun P f nodes (suc i) s h = begun_at P f nodes i s h

pub start_right : (nodes : List (List ℕ)) → IsRight nodes (start nodes)
start_right nodes = record {
  own = own_start nodes;
  rising = device_begun (λ (s : State). IsRising s.messages) (λ node. in_order_nil stamp_of stamp_cmp) nodes;
  ahead = device_begun (λ (s : State). IsAhead s.clock s.messages) (λ node. tt) nodes;
  made = λ x c. absurd (no_member x c);
  sets = device_begun (λ (s : State). (m : Message) → Contains s.messages m → Contains [] m) (λ node m c. c) nodes;
  server_rising = in_order_nil stamp_of stamp_cmp;
  server = λ m c. c;
  requests = λ q c. absurd (no_member q c);
  replies = λ q c. absurd (no_member q c);
  kept = λ m c. c;
  acknowledged = λ x c. c;
  apart = tt;
}

after_right : Below → (nodes : List (List ℕ)) → AreDifferent nodes → (es : List Event) (w : WorldState) → IsRight nodes w → IsRight nodes (after es w)
after_right below nodes differ [] w r = r
after_right below nodes differ (e ∷ es) w r = after_right below nodes differ es (left_by w (stepped w e)) (step_right below nodes differ w r e)

pub stay_right : Below → WorldsStayRight
stay_right below nodes differ es = after_right below nodes differ es (start nodes) (start_right nodes)

pub keep_promises : Below → JoinsInAnyOrder → WorldsKeepPromises
keep_promises below order = record {
  promises = λ nodes differ es. keeps order nodes (after es (start nodes)) (stay_right below nodes differ es);
  comes = λ nodes differ es more. subst (ComesOf (after es (start nodes))) (sym (after_both es more (start nodes))) (all_come below nodes differ more (after es (start nodes)) (stay_right below nodes differ es));
}
