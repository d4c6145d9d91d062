-- What a link is after a reply.
use Rattle.std.proofs.Common.{◌≡◌, ℕ, ◌+◌, List, [], ◌∷◌, ◌++◌, length, true, false, Option, None, Some, refl, sym, ap, ◌∙◌, subst, append-nil, length-append, arith}
use Rattle.std.specs.List.{AllByRecursion}
use Rattle.budget_ports.specs.Exchanges.{Exchange, begun, ended, IsOpen}
use Rattle.budget_ports.specs.Script.{open_one}
use Rattle.field_merge.specs.declared.message.Message.{Message}
use Rattle.device_sync.specs.Honest.{Honest, AreWithin}
use Rattle.peer_link.specs.Place.{token}
use Rattle.peer_link.specs.Peer.{PeerState, IsPeer, HasEnded, AsksGroup, Answers, IsForeign, answered, peer_of, IsLinked}
use Rattle.peer_link.proofs.Exchanges.{all_both, answered_begun, answered_ended, honest_both, within_ended, last_from, last_both}

same_some : {A : Type 0} {a b : A} → Some a ≡ Some b → a ≡ b
same_some e = cc

none_open : (xs : List Exchange) (sent got : List ℕ) → IsOpen (Some (xs ++ ended sent got ∷ [])) → ⊥
none_open xs sent got (front, other, e) =
    let yes : last_from false (xs ++ ended sent got ∷ []) ≡ true = last_both false xs (ended sent got ∷ []) in
    let no : last_from false (front ++ begun other ∷ []) ≡ false = last_both false front (begun other ∷ []) in
    absurd (let h : true ≡ false = sym yes ∙ ap (last_from false) e ∙ no in cc)

-- the reply came back
pub linked_after : (done : List Exchange) (sent got : List ℕ) (old new : Option (List Message)) (faults : ℕ) → IsPeer (peer_of done (Some sent) old faults) → Answers old new sent got
    → IsPeer (record { exchanges = done ++ ended sent got ∷ []; messages = new; faults = faults }) × (IsOpen (Some (done ++ ended sent got ∷ [])) → ⊥)
linked_after done sent got old new faults was a =
    let x = ended sent got in
    let before : answered (done ++ begun sent ∷ []) ≡ answered done = answered_begun done sent in
    let after : answered (done ++ x ∷ []) ≡ answered done ++ x ∷ [] = answered_ended done sent got in
    let honest : Honest token [] (answered done) a.had = subst (λ (l : List Exchange). Honest token [] l a.had) before (was.honest a.had a.had_it) in
    let within : AreWithin (answered done) = subst AreWithin before was.within in
    let asked : AllByRecursion (λ (e : Exchange). AsksGroup e.sent) (answered done) = subst (AllByRecursion (λ (e : Exchange). AsksGroup e.sent)) before was.asked in
    let more : Honest token [] (answered done ++ x ∷ []) a.has = honest_both token [] a.had a.has (answered done) (x ∷ []) honest (a.has, a.answered_so.served, refl) in (
      record {
        honest = λ ms told. subst (λ (z : List Message). Honest token [] (answered (done ++ x ∷ [])) z) (same_some (sym a.has_it ∙ told)) (subst (λ (l : List Exchange). Honest token [] l a.has) (sym after) more);
        within = subst AreWithin (sym after) (all_both _ (answered done) (x ∷ []) within (within_ended sent got a.answered_so.within));
        asked = subst (AllByRecursion (λ (e : Exchange). AsksGroup e.sent)) (sym after) (all_both (λ (e : Exchange). AsksGroup e.sent) (answered done) (x ∷ []) asked (a.asks, tt));
        lost = λ none. absurd (let h : Some a.has ≡ None = sym a.has_it ∙ none in cc);
      },
      none_open done sent got,
    )

-- the same, where the parts of the link stand in other words
pub linked_now : (done now : List Exchange) (asked_then asked_now : Option (List ℕ)) (sent got : List ℕ) (old new : Option (List Message)) (faults : ℕ)
    → asked_then ≡ Some sent → asked_now ≡ None → now ≡ done ++ ended sent got ∷ [] → IsPeer (peer_of done asked_then old faults) → Answers old new sent got → IsLinked now asked_now new faults
linked_now done now asked_then asked_now sent got old new faults then none are was a =
    let all = linked_after done sent got old new faults (subst (λ (o : Option (List ℕ)). IsPeer (peer_of done o old faults)) then was) a in
    let whole : now ++ open_one asked_now ≡ done ++ ended sent got ∷ [] = ap (λ (o : Option (List ℕ)). now ++ open_one o) none ∙ append-nil now ∙ are in
    record {
      peer = subst (λ (xs : List Exchange). IsPeer (record { exchanges = xs; messages = new; faults = faults })) (sym whole) all.0;
      closed = λ no. subst (λ (xs : List Exchange). IsOpen (Some xs) → ⊥) (sym are) all.1;
    }

-- where nothing was sent, or what was sent came back, nothing is open
pub none_last : (done : List Exchange) (asked : Option (List ℕ)) (p : PeerState) → done ++ open_one asked ≡ p.exchanges → asked ≡ None → (IsOpen (Some done) → ⊥) → IsForeign p
none_last done asked p is none closed = λ sent last asks. closed (last.0, sent, sym (append-nil done) ∙ ap (λ (o : Option (List ℕ)). done ++ open_one o) (sym none) ∙ is ∙ last.1)

pub none_of : {A : Type 0} (o : Option A) → ((x : A) → o ≡ Some x → ⊥) → o ≡ None
none_of None h = refl
none_of (Some x) h = absurd (h x refl)

-- all exchanges but an open one are at an end
pub all_ended : (done : List Exchange) (asked : Option (List ℕ)) (p : PeerState) (n : ℕ) → done ++ open_one asked ≡ p.exchanges → (asked ≡ None → IsOpen (Some done) → ⊥) → n ≡ length done → HasEnded p n
all_ended done None p n is closed count =
    let same : done ≡ p.exchanges = sym (append-nil done) ∙ is in
    record {
      one_open = λ open_. absurd (closed refl (subst (λ (xs : List Exchange). IsOpen (Some xs)) (sym same) open_));
      none_open = λ shut. sym (ap length same) ∙ sym count;
    }
all_ended done (Some sent) p n is closed count =
    let long : length done + 1 ≡ length p.exchanges = sym (length-append done (begun sent ∷ [])) ∙ ap length is in
    record {
      one_open = λ open_. omega (arith, long, count);
      none_open = λ shut. absurd (shut (done, sent, sym is));
    }
