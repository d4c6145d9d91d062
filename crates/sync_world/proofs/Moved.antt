-- One device of a world goes on to another state.
use Rattle.std.proofs.Common.{◌≡◌, ◌≢◌, ◌⊎◌, inl, inr, ℕ, zero, suc, List, [], ◌∷◌, ◌++◌, Some, map, refl, sym, ap, ◌∙◌, subst, arith}
use Rattle.std.specs.List.{Contains, slice_get}
use Rattle.std.proofs.lemmas.List.{map-append}
use Rattle.std.proofs.lemmas.List.Elements.{Contains-append_left, Contains-append_right, Contains-append_cases}
use Rattle.std.proofs.lemmas.Option.{same_Some, slice_get-map}
use Rattle.std.specs.Prelude.{option_map}
use Rattle.hybrid_clock.specs.declared.stamp.Stamp.{Stamp}
use Rattle.hybrid_clock.specs.Clock.{IsLater}
use Rattle.field_merge.specs.declared.message.Message.{Message}
use Rattle.field_merge.specs.Log.{IsRising}
use Rattle.field_merge.proofs.Members.{all_of}
use Rattle.device_core.specs.Device.{State, IsUpTo, IsAhead}
use Rattle.sync_world.specs.declared.making.Making.{Making}
use Rattle.sync_world.specs.World.{WorldState, device_of, with_device, messages_of, made_by}
use Rattle.sync_world.specs.Right.{AreDifferent, AreApart, IsAtMaker, IsRight}
use Rattle.sync_world.proofs.Numbered.{from_mapped, alike, device_same, device_other, device_new, device_map}
use Rattle.sync_world.proofs.Apart.{apart_both}

-- a device goes on from s to t, and makes these messages
pub record Moves (w : WorldState) (s t : State) (ms : List Message) : Type 0 where
  pub node : t.clock.node ≡ s.clock.node
  pub rising : IsRising t.messages
  pub ahead : IsAhead t.clock t.messages
  pub stays : (m : Message) → Contains s.messages m → Contains t.messages m
  pub come : (m : Message) → Contains t.messages m → Contains (messages_of w.made) m ⊎ Contains ms m
  pub there : (m : Message) → Contains ms m → Contains t.messages m
  pub own : (m : Message) → Contains ms m → m.stamp.node ≡ s.clock.node
  pub later : (m : Message) → Contains ms m → IsLater s.clock m.stamp
  pub apart : AreApart ms

not_both : (clock s : Stamp) → IsLater clock s → IsUpTo clock s → ⊥
not_both clock s (inl p) (inl q) = omega arith
not_both clock s (inl p) (inr q) = let e = q.0 in omega arith
not_both clock s (inr p) (inl q) = let e = p.0 in omega arith
not_both clock s (inr p) (inr q) = let x = p.1 in let y = q.1 in omega arith

node_at : (ds : List State) (nodes : List (List ℕ)) (k : ℕ) (s : State) → map (λ (x : State). x.clock.node) ds ≡ nodes → slice_get ds k ≡ Some s → slice_get nodes k ≡ Some s.clock.node
node_at ds nodes k s own h =
    ap (λ (ns : List (List ℕ)). slice_get ns k) (sym own) ∙ slice_get-map (λ (x : State). x.clock.node) ds k ∙ ap (option_map (λ (x : State). x.clock.node)) h

-- devices with one node are one
same_device : (nodes : List (List ℕ)) (ds : List State) (i j : ℕ) (s u : State) → AreDifferent nodes → map (λ (x : State). x.clock.node) ds ≡ nodes → device_of ds i ≡ Some s → device_of ds j ≡ Some u → u.clock.node ≡ s.clock.node → j ≡ i
same_device nodes ds zero j s u differ own h k e = absurd (cc)
same_device nodes ds (suc i) zero s u differ own h k e = absurd (cc)
same_device nodes ds (suc i) (suc j) s u differ own h k e =
    ap suc (differ j i s.clock.node (node_at ds nodes j u own k ∙ ap (λ (n : List ℕ). Some n) e) (node_at ds nodes i s own h))

pub made_back : (i : ℕ) (ms : List Message) → messages_of (made_by i ms) ≡ ms
made_back i [] = refl
made_back i (m ∷ ms) = ap (λ (l : List Message). m ∷ l) (made_back i ms)

pub moved : (nodes : List (List ℕ)) (w : WorldState) (i : ℕ) (s t : State) (ms : List Message) (made acknowledged : List Making)
    → AreDifferent nodes → IsRight nodes w → device_of w.devices i ≡ Some s → Moves w s t ms → made ≡ w.made ++ made_by i ms
    → ((x : Making) → Contains acknowledged x → Contains w.acknowledged x ⊎ Contains (made_by i ms) x)
    → IsRight nodes (record w { devices = with_device w.devices i t; made = made; acknowledged = acknowledged })
moved nodes w i s t ms made acknowledged differ r h m is acks =
    record {
      own = device_map (λ (x : State). x.clock.node) w.devices i s t h m.node ∙ r.own;
      rising = λ j u k. elim (device_new w.devices i j s t u h k) [
        | inl p ↦ subst (λ (x : State). IsRising x.messages) p.1 m.rising
        | inr p ↦ r.rising j u p.1
      ];
      ahead = λ j u k. elim (device_new w.devices i j s t u h k) [
        | inl p ↦ subst (λ (x : State). IsAhead x.clock x.messages) p.1 m.ahead
        | inr p ↦ r.ahead j u p.1
      ];
      made = λ x c. elim (Contains-append_cases w.made (made_by i ms) x (subst (λ (l : List Making). Contains l x) is c)) [
        | inl old ↦ stays_made x (r.made x old)
        | inr new ↦ let f = from_mapped (λ (n : Message). record { device = i; message = n }) ms x new in
            subst (IsAtMaker (with_device w.devices i t)) f.1.1
            (record { maker = t; there = device_same w.devices i s t h; node = m.own f.0 f.1.0 ∙ sym m.node; held = m.there f.0 f.1.0 })
      ];
      sets = λ j u k n c. elim (device_new w.devices i j s t u h k) [
        | inl p ↦ elim (m.come n (subst (λ (x : State). Contains x.messages n) (sym p.1) c)) [ inl old ↦ wider n old | inr new ↦ newer n new ]
        | inr p ↦ wider n (r.sets j u p.1 n c)
      ];
      server_rising = r.server_rising;
      server = λ n c. wider n (r.server n c);
      requests = λ q c n d. wider n (r.requests q c n d);
      replies = λ q c n d. wider n (r.replies q c n d);
      kept = r.kept;
      acknowledged = λ x c. subst (λ (l : List Making). Contains l x) (sym is) (elim (acks x c) [
        | inl old ↦ Contains-append_left w.made (made_by i ms) x (r.acknowledged x old)
        | inr new ↦ Contains-append_right w.made (made_by i ms) x new
      ]);
      apart = subst AreApart (sym all) (apart_both (messages_of w.made) ms r.apart m.apart crossed);
    }
  where
    all : messages_of made ≡ messages_of w.made ++ ms
    all = ap messages_of is ∙ map-append (λ (x : Making). x.message) w.made (made_by i ms) ∙ ap (λ (l : List Message). messages_of w.made ++ l) (made_back i ms)

    wider : (n : Message) → Contains (messages_of w.made) n → Contains (messages_of made) n
    wider n c = subst (λ (l : List Message). Contains l n) (sym all) (Contains-append_left (messages_of w.made) ms n c)

    newer : (n : Message) → Contains ms n → Contains (messages_of made) n
    newer n c = subst (λ (l : List Message). Contains l n) (sym all) (Contains-append_right (messages_of w.made) ms n c)

    stays_made : (x : Making) → IsAtMaker w.devices x → IsAtMaker (with_device w.devices i t) x
    stays_made x at = elim (alike x.device i) [
      | inl same ↦
          let maker : at.maker ≡ s = same_Some at.maker s (sym at.there ∙ ap (device_of w.devices) same ∙ h) in
          record {
            maker = t;
            there = ap (device_of (with_device w.devices i t)) same ∙ device_same w.devices i s t h;
            node = at.node ∙ ap (λ (y : State). y.clock.node) maker ∙ sym m.node;
            held = m.stays x.message (subst (λ (y : State). Contains y.messages x.message) maker at.held);
          }
      | inr other ↦ record { maker = at.maker; there = device_other w.devices i x.device s t h other ∙ at.there; node = at.node; held = at.held }
    ]

    -- a message that is made now has a timestamp that no message had which was made before
    crossed : (old new : Message) → Contains (messages_of w.made) old → Contains ms new → new.stamp ≢ old.stamp
    crossed old new c d e =
        let f = from_mapped (λ (x : Making). x.message) w.made old c in
        let at = r.made f.0 f.1.0 in
        let node : at.maker.clock.node ≡ s.clock.node = sym at.node ∙ ap (λ (n : Message). n.stamp.node) f.1.1 ∙ ap (λ (u : Stamp). u.node) (sym e) ∙ m.own new d in
        let same : f.0.device ≡ i = same_device nodes w.devices i f.0.device s at.maker differ r.own h at.there node in
        let maker : at.maker ≡ s = same_Some at.maker s (sym at.there ∙ ap (device_of w.devices) same ∙ h) in
        let held : Contains s.messages old = subst (λ (n : Message). Contains s.messages n) f.1.1 (subst (λ (y : State). Contains y.messages f.0.message) maker at.held) in
        let upto : IsUpTo s.clock old.stamp = all_of (λ (n : Message). IsUpTo s.clock n.stamp) s.messages (r.ahead i s h) old held in
        not_both s.clock old.stamp (subst (IsLater s.clock) e (m.later new d)) upto
