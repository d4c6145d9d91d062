-- What the search for the nearest finds.
use Rattle.std.proofs.Common.{◌≡◌, Bool, true, false, cond, List, [], ◌∷◌, Option, Some, None, refl, inl, inr, ◌⊎◌, ⊎_elim, subst}
use Rattle.std.specs.Prelude.{◌&&◌, not}
use Rattle.std.specs.declared.cmp.Ordering.{Ordering}
use Rattle.std.specs.declared.cmp.Ordering.TheVariants.{Less, Equal, Greater}
use Rattle.std.specs.Ordering.{is_eq}
use Rattle.std.proofs.lemmas.Map.Lookups.{exact_bytes}
use Rattle.std.specs.Cmp.{eq_by_cmp_equiv}
use Rattle.std.specs.Cmp.Lexicographic.{nat_list_cmp_total}
use Rattle.finite_sums.specs.Maps.{Text}
use Rattle.book_edits.specs.Checks.{same_id}
use Rattle.bank_import.specs.Matching.{nearest, is_nearer, is_open, turn, id_of, meets}
use Rattle.bank_import.specs.Laws.{IsIn}
use Rattle.bank_import.specs.declared.facts.Facts.{Facts}
use Rattle.bank_import.specs.declared.facts.Candidate.{Candidate}
use Rattle.bank_import.specs.declared.facts.Pass.{Pass}

is_equal : (r : Ordering) → is_eq r ≡ true → r ≡ Equal
is_equal Less h = cc
is_equal Equal h = refl
is_equal Greater h = cc

pub id_same : (x y : Text) → same_id x y ≡ true → x ≡ y
id_same x y h = exact_bytes x y (is_equal _ h)

pub id_itself : (x : Text) → same_id x x ≡ true
id_itself x = (eq_by_cmp_equiv nat_list_cmp_total).refl x

pub and_true : (a b : Bool) → (a && b) ≡ true → (a ≡ true) × (b ≡ true)
and_true true b h = (refl, h)
and_true false b h = cc

pub not_true : (a : Bool) → not a ≡ true → a ≡ false
not_true true h = cc
not_true false h = refl

pub and_false : (a b : Bool) → (a && not b) ≡ false → b ≡ false → a ≡ false
and_false true true h e = cc
and_false true false h e = cc
and_false false b h e = refl

took : (b : Bool) (d c : Candidate) (best : Option Candidate) → cond b (Some d) best ≡ Some c → ((b ≡ true) × (d ≡ c)) ⊎ (best ≡ Some c)
took true d c best h = inl (refl, cc)
took false d c best h = inr h

pub nearest_found : (r : Facts) (can : Candidate → Bool) (best : Option Candidate) (cs : List Candidate) (c : Candidate) → nearest r can best cs ≡ Some c
    → (best ≡ Some c) ⊎ ((can c ≡ true) × IsIn cs c)
nearest_found r can best [] c h = inl h
nearest_found r can best (d ∷ cs) c h =
    ⊎_elim (λ e. ⊎_elim (λ t. inr (subst (λ x. can x ≡ true) t.1 (and_true (can d) (is_nearer r best d) t.0).0, inl t.1)) (λ b. inl b) (took (can d && is_nearer r best d) d c best e))
    (λ t. inr (t.0, inr t.1)) (nearest_found r can (cond (can d && is_nearer r best d) (Some d) best) cs c h)

nothing : (b : Bool) (d : Candidate) (best : Option Candidate) → cond b (Some d) best ≡ None → (b ≡ false) × (best ≡ None)
nothing true d best h = cc
nothing false d best h = (refl, h)

cannot : (r : Facts) (d : Candidate) (best : Option Candidate) (b : Bool) → best ≡ None → (b && is_nearer r best d) ≡ false → b ≡ false
cannot r d None true e h = h
cannot r d (Some x) true e h = cc
cannot r d best false e h = refl

pub nearest_none : (r : Facts) (can : Candidate → Bool) (best : Option Candidate) (cs : List Candidate) → nearest r can best cs ≡ None
    → (best ≡ None) × ((c : Candidate) → IsIn cs c → can c ≡ false)
nearest_none r can best [] h = (h, λ c i. absurd i)
nearest_none r can best (d ∷ cs) h =
    let later = nearest_none r can (cond (can d && is_nearer r best d) (Some d) best) cs h in
    let here = nothing (can d && is_nearer r best d) d best later.0 in
    (here.1, λ c i. ⊎_elim (λ e. subst (λ x. can x ≡ false) e (cannot r d best (can d) here.1 here.0)) (λ j. later.1 c j) i)

-- a turn that takes something
pub record Took (p : Pass) (r : Facts) (taken : Text → Bool) (cs : List Candidate) (x : Text) : Type 0 where
  pub candidate : Candidate
  pub is_in : IsIn cs candidate
  pub id : candidate.id ≡ x
  pub agrees : meets p r candidate ≡ true
  pub free : taken x ≡ false

id_from : (o : Option Candidate) (x : Text) → id_of o ≡ Some x → (c : Candidate) × (o ≡ Some c) × (c.id ≡ x)
id_from None x h = cc
id_from (Some c) x h = (c, refl, cc)

pub turn_took : (p : Pass) (r : Facts) (taken : Text → Bool) (cs : List Candidate) (x : Text) → id_of (turn p r taken cs) ≡ Some x → Took p r taken cs x
turn_took p r taken cs x h =
    let c = id_from (turn p r taken cs) x h in
    let f : (can : Candidate → Bool) → ((can c.0 ≡ true) × IsIn cs c.0) → ((can c.0 ≡ true) × IsIn cs c.0) = λ can t. t in
    ⊎_elim (λ (e : None ≡ Some c.0). absurd (let bad : None ≡ Some c.0 = e in cc))
    (λ t. let both = and_true (meets p r c.0) (not (taken c.0.id)) t.0 in
    record { candidate = c.0; is_in = t.1; id = c.2; agrees = both.0; free = subst (λ y. taken y ≡ false) c.2 (not_true (taken c.0.id) both.1) })
    (nearest_found r (is_open p r taken) None cs c.0 c.1)

none_from : (o : Option Candidate) → id_of o ≡ None → o ≡ None
none_from None h = refl
none_from (Some c) h = cc

pub turn_none : (p : Pass) (r : Facts) (taken : Text → Bool) (cs : List Candidate) → id_of (turn p r taken cs) ≡ None
    → (c : Candidate) → IsIn cs c → taken c.id ≡ false → meets p r c ≡ false
turn_none p r taken cs h c i free = and_false (meets p r c) (taken c.id) ((nearest_none r (is_open p r taken) None cs (none_from (turn p r taken cs) h)).1 c i) free
