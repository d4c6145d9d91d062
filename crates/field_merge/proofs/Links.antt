-- Timestamps in buckets: what one more makes of them, and how one is looked up.
use Rattle.std.proofs.Common.{◌≡◌, ◌≢◌, ◌≤◌, ◌<◌, ◌+◌, ◌-◌, ◌==◌, ◌^◌, ◌∷◌, ◌++◌, [], ℕ, List, length, map, get_or, set, arith, below_more, ltb, Bool, true, false, refl, sym, ap, ◌∙◌, subst}
use Rattle.std.specs.Ordering.{is_eq}
use Rattle.std.proofs.lemmas.Bool.{eqb-true, eqb-false, ltb-true, ltb-false}
use Rattle.std.proofs.lemmas.List.{get_or-map, get_or-set_other, get_or-set_same, get_or_append_left, get_or_default, get_or_push, length-append, length-map, length-set, map-set, map_push}
use Rattle.std.proofs.Math.Seq.{map-set_same}
use Rattle.std.proofs.lemmas.List.Folds.{list_any_at, list_any_none}
use Rattle.std.proofs.lemmas.List.Elements.{All-from_get_or}
use Rattle.hybrid_clock.specs.declared.stamp.Stamp.{Stamp}
use Rattle.hybrid_clock.specs.Order.{stamp_cmp}
use Rattle.field_merge.specs.declared.stamps.Kept.{Kept}
use Rattle.field_merge.specs.Latest.{is_among}
use Rattle.field_merge.specs.Stamps.{IsLink, IsLinked, IsStored, before_of, bucket_of, buckets_of, stamp_of}
use Rattle.field_merge.proofs.Ordered.{equal}
use Rattle.field_merge.proofs.Orders.{stamps_exact}

-- a link stays one where the buckets below stay
carried : (old new : List ℕ) (b at upto : ℕ) → ((j : ℕ) → j < upto → get_or new j 0 ≡ get_or old j 0) → IsLink old b at upto → IsLink new b at upto
carried old new b at upto same link =
    let within = link.within in
    record {
      within = link.within;
      last = λ some. same (at - 1) (omega (arith, some, within)) ∙ link.last some;
      none = λ j from below is. link.none j from below (sym (same j below) ∙ is);
    }

-- and where one more is of another bucket
past : (buckets : List ℕ) (b at i : ℕ) → get_or buckets i 0 ≢ b → IsLink buckets b at i → IsLink buckets b at (i + 1)
past buckets b at i other link =
    let within = link.within in
    record {
      within = omega (arith, within);
      last = link.last;
      none = λ j from below. below_more (λ k. at ≤ k → get_or buckets k 0 ≢ b) i (λ k h f. link.none k f h) (λ f. other) j below from;
    }

-- one more is the last of its bucket
newest : (buckets : List ℕ) (b at i : ℕ) → at ≡ i + 1 → get_or buckets i 0 ≡ b → IsLink buckets b at (i + 1)
newest buckets b at i is its =
    record {
      within = omega (arith, is);
      last = λ some. let e : at - 1 ≡ i = omega (arith, is) in ap (λ k. get_or buckets k 0) e ∙ its;
      none = λ j from below. absurd (omega (arith, is, from, below));
    }

moved : (buckets : List ℕ) (b c at to upto : ℕ) → b ≡ c → at ≡ to → IsLink buckets b at upto → IsLink buckets c to upto
moved buckets b c at to upto same_bucket same_place link =
    subst (λ x. IsLink buckets c x upto) same_place (subst (λ x. IsLink buckets x at upto) same_bucket link)

-- one more at the place i, in the bucket b
linked_more : (heads before buckets heads' before' buckets' : List ℕ) (i b : ℕ) → IsLinked heads before buckets i → b < length heads → length heads' ≡ length heads → get_or heads' b 0 ≡ i + 1 → ((c : ℕ) → c ≢ b → get_or heads' c 0 ≡ get_or heads c 0) → get_or before' i 0 ≡ get_or heads b 0 → ((j : ℕ) → j < i → get_or before' j 0 ≡ get_or before j 0) → get_or buckets' i 0 ≡ b → ((j : ℕ) → j < i → get_or buckets' j 0 ≡ get_or buckets j 0) → IsLinked heads' before' buckets' (i + 1)
linked_more heads before buckets heads' before' buckets' i b linked within as_many head others prior priors its stay = record {
  in_buckets = λ c h.
      let h' : c < length heads = omega (arith, h, as_many) in
      elim (c == b) as (λ r. (c == b) ≡ r → IsLink buckets' c (get_or heads' c 0) (i + 1)) [
        | true ↦ λ e.
            let same : c ≡ b = eqb-true c b e in
            newest buckets' c (get_or heads' c 0) i (ap (λ x. get_or heads' x 0) same ∙ head) (its ∙ sym same)
        | false ↦ λ e.
            let other : c ≢ b = eqb-false c b e in
            past buckets' c (get_or heads' c 0) i (λ is. other (sym is ∙ its))
            (moved buckets' c c (get_or heads c 0) (get_or heads' c 0) i refl (sym (others c other)) (carried buckets buckets' c (get_or heads c 0) i stay (linked.in_buckets c h')))
      ] refl;
  behind =
      below_more (λ k. IsLink buckets' (get_or buckets' k 0) (get_or before' k 0) k) i
      (λ k h.
      moved buckets' (get_or buckets k 0) (get_or buckets' k 0) (get_or before k 0) (get_or before' k 0) k (sym (stay k h)) (sym (priors k h))
      (carried buckets buckets' (get_or buckets k 0) (get_or before k 0) k (λ j below. stay j (omega (arith, h, below))) (linked.behind k h)))
      (moved buckets' b (get_or buckets' i 0) (get_or heads b 0) (get_or before' i 0) i (sym its) (sym prior)
      (carried buckets buckets' b (get_or heads b 0) i stay (linked.in_buckets b within)));
}

-- ---- looking one up
-- from the place `at` on the timestamp s did not come, and the one before that place is of its bucket
pub record IsLookedThrough (count : ℕ) (ks : List Kept) (b : ℕ) (s : Stamp) (at : ℕ) : Type 0 where
  pub within : at ≤ length ks
  pub last : 0 < at → get_or (buckets_of count ks) (at - 1) 0 ≡ b
  pub none : (j : ℕ) (d : Kept) → at ≤ j → j < length ks → is_eq (stamp_cmp s (stamp_of (get_or ks j d))) ≡ false

not_true : (b : Bool) → (b ≡ true → ⊥) → b ≡ false
not_true true h = absurd (h refl)
not_true false h = refl

-- one of another bucket is another one
other_bucket : (count : ℕ) (ks : List Kept) (s : Stamp) (j : ℕ) (d : Kept) → j < length ks → get_or (buckets_of count ks) j 0 ≢ bucket_of count s → is_eq (stamp_cmp s (stamp_of (get_or ks j d))) ≡ false
other_bucket count ks s j d below other =
    not_true _ (λ same.
    let is : s ≡ stamp_of (get_or ks j d) = stamps_exact s (stamp_of (get_or ks j d)) (equal _ same) in
    other (get_or-map (λ k. bucket_of count (stamp_of k)) ks j d 0 below ∙ sym (ap (bucket_of count) is)))

pub looked_first : (heads : List ℕ) (ks : List Kept) (b : ℕ) (s : Stamp) → IsStored heads ks → b < length heads → b ≡ bucket_of (length heads) s → IsLookedThrough (length heads) ks b s (get_or heads b 0)
looked_first heads ks b s stored within its =
    let link = stored.linked.in_buckets b within in
    record {
      within = link.within;
      last = link.last;
      none = λ j d from below. other_bucket (length heads) ks s j d below (λ is. link.none j from below (is ∙ sym its));
    }

pub looked_next : (heads : List ℕ) (ks : List Kept) (b : ℕ) (s : Stamp) (at : ℕ) (k : Kept) → IsStored heads ks → b ≡ bucket_of (length heads) s → IsLookedThrough (length heads) ks b s at → 0 < at → k ≡ get_or ks (at - 1) k → is_eq (stamp_cmp s (stamp_of k)) ≡ false → IsLookedThrough (length heads) ks b s k.before
looked_next heads ks b s at k stored its looked some at_place other =
    let within = looked.within in
    let inside : at - 1 < length ks = omega (arith, within, some) in
    let prior : get_or (before_of ks) (at - 1) 0 ≡ k.before = get_or-map (λ (k : Kept). k.before) ks (at - 1) k 0 inside ∙ sym (ap (λ (k : Kept). k.before) at_place) in
    let link : IsLink (buckets_of (length heads) ks) b k.before (at - 1) =
    moved (buckets_of (length heads) ks) _ b _ k.before (at - 1) (looked.last some) prior (stored.linked.behind (at - 1) inside) in
    let nearer = link.within in
    record {
      within = omega (arith, nearer, inside);
      last = link.last;
      none = λ j d from below.
          elim (ltb j (at - 1)) as (λ r. ltb j (at - 1) ≡ r → is_eq (stamp_cmp s (stamp_of (get_or ks j d))) ≡ false) [
            | true ↦ λ e. other_bucket (length heads) ks s j d below (λ is. link.none j from (ltb-true j (at - 1) e) (is ∙ sym its))
            | false ↦ λ e.
                elim (j == at - 1) as (λ r. (j == at - 1) ≡ r → is_eq (stamp_cmp s (stamp_of (get_or ks j d))) ≡ false) [
                  | true ↦ λ f.
                      let same : get_or ks j d ≡ k = ap (λ x. get_or ks x d) (eqb-true j (at - 1) f) ∙ get_or_default ks (at - 1) d k inside ∙ sym at_place in
                      ap (λ (x : Kept). is_eq (stamp_cmp s (stamp_of x))) same ∙ other
                  | false ↦ λ f. let apart = eqb-false j (at - 1) f in let later = ltb-false j (at - 1) e in looked.none j d (omega (arith, apart, later, some)) below
                ] refl
          ] refl;
    }

pub looked_found : (count : ℕ) (ks : List Kept) (b : ℕ) (s : Stamp) (at : ℕ) (k : Kept) → IsLookedThrough count ks b s at → 0 < at → k ≡ get_or ks (at - 1) k → is_eq (stamp_cmp s (stamp_of k)) ≡ true → is_among s (map stamp_of ks) ≡ true
looked_found count ks b s at k looked some at_place same =
    let within = looked.within in
    let inside : at - 1 < length ks = omega (arith, within, some) in
    let long = length-map ks stamp_of in
    list_any_at (λ t. is_eq (stamp_cmp s t)) (map stamp_of ks) (at - 1) (stamp_of k) (omega (arith, inside, long))
    (ap (λ t. is_eq (stamp_cmp s t)) (get_or-map stamp_of ks (at - 1) k (stamp_of k) inside ∙ sym (ap stamp_of at_place)) ∙ same)

pub looked_all : (count : ℕ) (ks : List Kept) (b : ℕ) (s : Stamp) (at : ℕ) → IsLookedThrough count ks b s at → at ≡ 0 → is_among s (map stamp_of ks) ≡ false
looked_all count ks b s at looked none_left =
    let d : Kept = record { minute = 0; millis = s.millis; node = s.node; counter = s.counter; before = 0 } in
    let long = length-map ks stamp_of in
    list_any_none (λ t. is_eq (stamp_cmp s t)) (map stamp_of ks)
    (All-from_get_or (λ t. is_eq (stamp_cmp s t) ≡ false) (map stamp_of ks) s
    (λ i below.
    let inside : i < length ks = omega (arith, below, long) in
    ap (λ t. is_eq (stamp_cmp s t)) (get_or-map stamp_of ks i d s inside) ∙ looked.none i d (omega (arith, none_left)) inside))

-- ---- where one more is kept
pushed_last : (f : Kept → ℕ) (ks : List Kept) (k : Kept) → get_or (map f (ks ++ k ∷ [])) (length ks) 0 ≡ f k
pushed_last f ks k = ap (λ (xs : List ℕ). get_or xs (length ks) 0) (map_push f ks k) ∙ get_or_push (map f ks) (f k) 0 (length ks) (length-map ks f)

pushed_other : (f : Kept → ℕ) (ks : List Kept) (k : Kept) (j : ℕ) → j < length ks → get_or (map f (ks ++ k ∷ [])) j 0 ≡ get_or (map f ks) j 0
pushed_other f ks k j h =
    let long = length-map ks f in
    ap (λ (xs : List ℕ). get_or xs j 0) (map_push f ks k) ∙ get_or_append_left (map f ks) (f k ∷ []) 0 j (omega (arith, h, long))

pub stored_more : (heads : List ℕ) (ks : List Kept) (b last : ℕ) (s : Stamp) (k : Kept) → IsStored heads ks → b < length heads → b ≡ bucket_of (length heads) s → stamp_of k ≡ s → k.before ≡ get_or heads b 0 → last ≡ length ks + 1 → last < 2 ^ 32 → IsStored (set heads b last) (ks ++ k ∷ [])
stored_more heads ks b last s k stored within its is prior counted small =
    let as_many = length-set heads b last in
    let longer : length (ks ++ k ∷ []) ≡ length ks + 1 = length-append ks (k ∷ []) in
    record {
      few = omega (arith, longer, counted, small);
      linked =
          subst (λ count. IsLinked (set heads b last) (before_of (ks ++ k ∷ [])) (buckets_of count (ks ++ k ∷ [])) (length (ks ++ k ∷ []))) (sym as_many)
          (subst (λ n. IsLinked (set heads b last) (before_of (ks ++ k ∷ [])) (buckets_of (length heads) (ks ++ k ∷ [])) n) (sym longer)
          (linked_more heads (before_of ks) (buckets_of (length heads) ks) (set heads b last) (before_of (ks ++ k ∷ [])) (buckets_of (length heads) (ks ++ k ∷ [])) (length ks) b stored.linked within as_many
          (get_or-set_same heads b last 0 within ∙ counted) (λ c other. get_or-set_other heads b c last 0 other)
          (pushed_last (λ (k : Kept). k.before) ks k ∙ prior) (pushed_other (λ (k : Kept). k.before) ks k)
          (pushed_last (λ k. bucket_of (length heads) (stamp_of k)) ks k ∙ ap (bucket_of (length heads)) is ∙ sym its) (pushed_other (λ k. bucket_of (length heads) (stamp_of k)) ks k)));
    }

-- ---- where the next one is put into its bucket
set_at : (f : Kept → ℕ) (ks : List Kept) (at : ℕ) (k : Kept) → at < length ks → get_or (map f (set ks at k)) at 0 ≡ f k
set_at f ks at k h =
    let long = length-map ks f in
    ap (λ (xs : List ℕ). get_or xs at 0) (map-set f ks at k) ∙ get_or-set_same (map f ks) at (f k) 0 (omega (arith, h, long))

set_below : (f : Kept → ℕ) (ks : List Kept) (at : ℕ) (k : Kept) (j : ℕ) → j < at → get_or (map f (set ks at k)) j 0 ≡ get_or (map f ks) j 0
set_below f ks at k j h =
    let apart : j ≢ at = λ e. absurd (omega (arith, e, h)) in
    ap (λ (xs : List ℕ). get_or xs j 0) (map-set f ks at k) ∙ get_or-set_other (map f ks) at j (f k) 0 apart

pub put_same : (ks : List Kept) (at : ℕ) (d k : Kept) → stamp_of k ≡ stamp_of (get_or ks at d) → map stamp_of (set ks at k) ≡ map stamp_of ks
put_same ks at d k is = map-set_same stamp_of ks at k d is

pub put_linked : (heads : List ℕ) (ks : List Kept) (at b : ℕ) (d k : Kept) → IsLinked heads (before_of ks) (buckets_of (length heads) ks) at → at < length ks → b < length heads → b ≡ bucket_of (length heads) (stamp_of (get_or ks at d)) → stamp_of k ≡ stamp_of (get_or ks at d) → k.before ≡ get_or heads b 0 → IsLinked (set heads b (at + 1)) (before_of (set ks at k)) (buckets_of (length (set heads b (at + 1))) (set ks at k)) (at + 1)
put_linked heads ks at b d k linked inside within its is prior =
    let as_many = length-set heads b (at + 1) in
    subst (λ count. IsLinked (set heads b (at + 1)) (before_of (set ks at k)) (buckets_of count (set ks at k)) (at + 1)) (sym as_many)
    (linked_more heads (before_of ks) (buckets_of (length heads) ks) (set heads b (at + 1)) (before_of (set ks at k)) (buckets_of (length heads) (set ks at k)) at b linked within as_many
    (get_or-set_same heads b (at + 1) 0 within) (λ c other. get_or-set_other heads b c (at + 1) 0 other)
    (set_at (λ (k : Kept). k.before) ks at k inside ∙ prior) (set_below (λ (k : Kept). k.before) ks at k)
    (set_at (λ k. bucket_of (length heads) (stamp_of k)) ks at k inside ∙ ap (bucket_of (length heads)) is ∙ sym its) (set_below (λ k. bucket_of (length heads) (stamp_of k)) ks at k))
