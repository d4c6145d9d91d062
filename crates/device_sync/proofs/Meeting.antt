-- What both sides of a conversation have at the end.
use Rattle.std.proofs.Common.{◌≡◌, ◌⊎◌, inl, inr, ℕ, List, [], ◌∷◌, Bool, true, false, ◌||◌, cond, Option, Some, None, map, refl, sym, ap, ◌∙◌}
use Rattle.std.specs.Ordering.{is_eq}
use Rattle.std.specs.Option.{is_some, option_or}
use Rattle.std.specs.List.{list_any}
use Rattle.hybrid_clock.specs.declared.stamp.Stamp.{Stamp}
use Rattle.hybrid_clock.specs.Order.{stamp_cmp}
use Rattle.field_merge.specs.declared.message.Message.{Message}
use Rattle.field_merge.specs.Log.{IsRising, at_stamp, has_stamp, join, messages_after}
use Rattle.field_merge.proofs.Joining.{found, rising, stamp_of}
use Rattle.field_merge.proofs.Members.{is_some-find}
use Rattle.field_merge.proofs.Ordered.{same}
use Rattle.field_merge.proofs.Orders.{stamps_total}
use Rattle.device_sync.specs.Laws.{HaveOneEach, HaveSameStamps}
use Rattle.device_sync.proofs.Sets.{has, at_those}
use Rattle.device_sync.proofs.Rounds.{is_later}

-- two sets grew into others, and only by what one of them had
pub record Grown (m r n s : List Message) : Type 0 where
  pub left : (k : Stamp) (a : Message) → at_stamp m k ≡ Some a → at_stamp n k ≡ Some a
  pub right : (k : Stamp) (a : Message) → at_stamp r k ≡ Some a → at_stamp s k ≡ Some a
  pub from_left : (k : Stamp) (a : Message) → at_stamp n k ≡ Some a → (at_stamp m k ≡ Some a) ⊎ (at_stamp r k ≡ Some a)
  pub from_right : (k : Stamp) (a : Message) → at_stamp s k ≡ Some a → (at_stamp m k ≡ Some a) ⊎ (at_stamp r k ≡ Some a)
  pub rises_left : IsRising n
  pub rises_right : IsRising s

pub grown_none : (m r : List Message) → IsRising m → IsRising r → Grown m r m r
grown_none m r up down = record {
  left = λ k a h. h;
  right = λ k a h. h;
  from_left = λ k a h. inl h;
  from_right = λ k a h. inr h;
  rises_left = up;
  rises_right = down;
}

pub grown_both : (m r p q n s : List Message) → Grown m r p q → Grown p q n s → Grown m r n s
grown_both m r p q n s g h = record {
  left = λ k a e. h.left k a (g.left k a e);
  right = λ k a e. h.right k a (g.right k a e);
  from_left = λ k a e. elim (h.from_left k a e) [ inl x ↦ g.from_left k a x | inr x ↦ g.from_right k a x ];
  from_right = λ k a e. elim (h.from_right k a e) [ inl x ↦ g.from_left k a x | inr x ↦ g.from_right k a x ];
  rises_left = h.rises_left;
  rises_right = h.rises_right;
}

-- a join keeps its own, and takes only what is there
join_keeps : (m r : List Message) (k : Stamp) (a : Message) → at_stamp m k ≡ Some a → at_stamp (join m r) k ≡ Some a
join_keeps m r k a h = found m r k ∙ ap (λ (o : Option Message). option_or o (at_stamp r k)) h

join_from : (m r : List Message) (t : List ℕ) (k : Stamp) (a : Message) → at_stamp (join m (messages_after t r)) k ≡ Some a → (at_stamp m k ≡ Some a) ⊎ (at_stamp r k ≡ Some a)
join_from m r t k a h =
    cases (at_stamp m k) (is_later t k) (at_stamp r k) (ap (option_or (at_stamp m k)) (sym (at_those (is_later t) k r)) ∙ sym (found m (messages_after t r) k) ∙ h)
  where
    cases : (x : Option Message) (b : Bool) (y : Option Message) → option_or x (cond b y None) ≡ Some a → (x ≡ Some a) ⊎ (y ≡ Some a)
    cases (Some c) b y e = inl e
    cases None true y e = inr e
    cases None false y e = absurd (cc)

swap : {A B : Type 0} → A ⊎ B → B ⊎ A
swap (inl x) = inr x
swap (inr x) = inl x

pub grown_round : (m r : List Message) (t : List ℕ) → IsRising m → IsRising r → Grown m r (join m (messages_after t r)) (join r (messages_after t m))
grown_round m r t up down = record {
  left = λ k a h. join_keeps m (messages_after t r) k a h;
  right = λ k a h. join_keeps r (messages_after t m) k a h;
  from_left = λ k a h. join_from m r t k a h;
  from_right = λ k a h. swap (join_from r m t k a h);
  rises_left = rising m (messages_after t r) up;
  rises_right = rising r (messages_after t m) down;
}

pub grown_server : (m r : List Message) (t : List ℕ) → IsRising m → IsRising r → Grown m r m (join r (messages_after t m))
grown_server m r t up down = let all = grown_round m r t up down in record {
  left = λ k a h. h;
  right = all.right;
  from_left = λ k a h. inl h;
  from_right = all.from_right;
  rises_left = up;
  rises_right = all.rises_right;
}

has_stamps : (k : Stamp) (ms : List Message) → has k ms ≡ list_any (λ s. is_eq (stamp_cmp k s)) (map stamp_of ms)
has_stamps k [] = refl
has_stamps k (m ∷ ms) = ap (λ (b : Bool). has_stamp k m || b) (has_stamps k ms)

pub same_known : (n s : List Message) → HaveSameStamps n s → (k : Stamp) → is_some (at_stamp n k) ≡ is_some (at_stamp s k)
same_known n s h k =
    is_some-find (has_stamp k) n ∙ has_stamps k n ∙ ap (list_any (λ s. is_eq (stamp_cmp k s))) h ∙ sym (has_stamps k s) ∙ sym (is_some-find (has_stamp k) s)

pub same_sets : (m r n s : List Message) → IsRising m → HaveOneEach m r → Grown m r n s → ((k : Stamp) → is_some (at_stamp n k) ≡ is_some (at_stamp s k))
    → (n ≡ join m r) × (s ≡ join m r)
same_sets m r n s up one g known = (whole n g.rises_left left, whole s g.rises_right right)
  where
    whole : (xs : List Message) → IsRising xs → ((k : Stamp) → at_stamp xs k ≡ option_or (at_stamp m k) (at_stamp r k)) → xs ≡ join m r
    whole xs rise h = same stamp_of stamp_cmp stamps_total xs (join m r) rise (rising m r up) (λ k. h k ∙ sym (found m r k))

    left : (k : Stamp) → at_stamp n k ≡ option_or (at_stamp m k) (at_stamp r k)
    left k = cases (at_stamp m k) (at_stamp r k) (at_stamp n k) (at_stamp s k) (g.left k) (g.right k) (g.from_left k) (known k)
      where
        cases : (x y z w : Option Message) → ((a : Message) → x ≡ Some a → z ≡ Some a) → ((a : Message) → y ≡ Some a → w ≡ Some a)
            → ((a : Message) → z ≡ Some a → (x ≡ Some a) ⊎ (y ≡ Some a)) → is_some z ≡ is_some w → z ≡ option_or x y
        cases (Some a) y z w l q f e = l a refl
        cases None (Some b) None w l q f e = let k = q b refl in absurd (let no : false ≡ true = e ∙ ap is_some k in cc)
        cases None (Some b) (Some c) w l q f e = elim (f c refl) [ inl x ↦ absurd (cc) | inr x ↦ sym x ]
        cases None None None w l q f e = refl
        cases None None (Some c) w l q f e = elim (f c refl) [ inl x ↦ absurd (cc) | inr x ↦ absurd (cc) ]

    right : (k : Stamp) → at_stamp s k ≡ option_or (at_stamp m k) (at_stamp r k)
    right k = cases (at_stamp m k) (at_stamp r k) (at_stamp n k) (at_stamp s k) (g.left k) (g.right k) (g.from_right k) (known k) (one k)
      where
        cases : (x y z w : Option Message) → ((a : Message) → x ≡ Some a → z ≡ Some a) → ((a : Message) → y ≡ Some a → w ≡ Some a)
            → ((a : Message) → w ≡ Some a → (x ≡ Some a) ⊎ (y ≡ Some a)) → is_some z ≡ is_some w → ((a b : Message) → x ≡ Some a → y ≡ Some b → a ≡ b) → w ≡ option_or x y
        cases (Some a) y z None l q f e o = let k = l a refl in absurd (let no : true ≡ false = sym (ap is_some k) ∙ e in cc)
        cases (Some a) y z (Some c) l q f e o = elim (f c refl) [ inl x ↦ sym x | inr x ↦ ap (λ (i : Message). Some i) (sym (o a c refl x)) ]
        cases None (Some b) z w l q f e o = q b refl
        cases None None z None l q f e o = refl
        cases None None z (Some c) l q f e o = elim (f c refl) [ inl x ↦ absurd (cc) | inr x ↦ absurd (cc) ]
