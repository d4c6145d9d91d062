-- The copies, one after the other, give what the items hold.
use Rattle.std.proofs.Common.{◌≡◌, ◌⊎◌, true, false, cond, List, [], ◌∷◌, Option, None, Some, is_some, codes, inl, inr, refl, sym, ap, subst, ◌∙◌, true≢false, Ordering, Less, Equal, Greater}
use Rattle.std.specs.Ordering.{is_eq}
use Rattle.std.specs.FinMap.{FinMap, from_entries, insert, get, get-insert, same_map}
use Rattle.std.proofs.lemmas.Cmp.{tied_itself}
use Rattle.std.proofs.lemmas.Bool.{cases_Bool}
use Rattle.sqlite_value.specs.Order.{Row}
use Rattle.sqlite_rules.specs.Lists.{Has}
use Rattle.store_tables.specs.Joined.{Text, Place, place_cmp, item_place, body_of}
use Rattle.store_tables.specs.Stored.{Contents, first_records}
use Rattle.store_tables.specs.Copied.{shown_place, shown_body, with_shown, copied, CopiesAll, MovesContents}
use Rattle.store_tables.proofs.Maps.{get_found, get_missing, looked_up}
use Rattle.budget_ports.proofs.Places.{place_total, place_same}
use Rattle.store_tables.proofs.StoredLemmas.{is_read}

none_or_some : {X : Type 0} (o : Option X) → (o ≡ None) ⊎ ((x : X) × (o ≡ Some x))
none_or_some None = inl refl
none_or_some (Some x) = inr (x, refl)

never : {X P : Type 0} {o : Option X} {x : X} → o ≡ None → o ≡ Some x → P
never n s = absurd (let e = sym n ∙ s in cc)

eq_is : (o : Ordering) → is_eq o ≡ true → o ≡ Equal
eq_is Less h = absurd (true≢false (sym h))
eq_is Equal h = refl
eq_is Greater h = absurd (true≢false (sym h))

module _ (m : FinMap place_cmp Text) (x : Row) where
  with_new : (p : Place) → get m (shown_place x) ≡ None → get (with_shown m x) p ≡ cond (is_eq (place_cmp p (shown_place x))) (Some (shown_body x)) (get m p)
  with_new p none = rw (ap is_some none) (get-insert place_total m (shown_place x) (shown_body x) p)

  with_old : (c : Text) → get m (shown_place x) ≡ Some c → with_shown m x ≡ m
  with_old c is = rw (ap is_some is)

  keeps : (p : Place) (b : Text) → get m p ≡ Some b → get (with_shown m x) p ≡ Some b
  keeps p b is = elim (none_or_some (get m (shown_place x))) [
    | inr c ↦ ap (λ (n : FinMap place_cmp Text). get n p) (with_old c.0 c.1) ∙ is
    | inl none ↦ with_new p none ∙ (elim (cases_Bool (is_eq (place_cmp p (shown_place x)))) [
      | inl tied ↦ never (subst (λ k. get m k ≡ None) (sym (place_same p (shown_place x) (eq_is _ tied))) none) is
      | inr apart ↦ rw apart is
    ])
  ]

  stays : (p : Place) → get m p ≡ None → is_eq (place_cmp p (shown_place x)) ≡ false → get (with_shown m x) p ≡ None
  stays p none apart = elim (none_or_some (get m (shown_place x))) [
    | inr c ↦ ap (λ (n : FinMap place_cmp Text). get n p) (with_old c.0 c.1) ∙ none
    | inl free ↦ with_new p free ∙ rw apart none
  ]

  adds : get m (shown_place x) ≡ None → get (with_shown m x) (shown_place x) ≡ Some (shown_body x)
  adds none = with_new (shown_place x) none ∙ rw (ap is_eq (tied_itself place_total (shown_place x))) refl

kept : (xs : List Row) (m : FinMap place_cmp Text) (p : Place) (b : Text) → get m p ≡ Some b → get (copied m xs) p ≡ Some b
kept [] m p b is = is
kept (x ∷ xs) m p b is = kept xs (with_shown m x) p b (keeps m x p b is)

none_copied : (xs : List Row) (m : FinMap place_cmp Text) (p : Place) → get m p ≡ None → ((x : Row) → Has xs x → shown_place x ≡ p → ⊥) → get (copied m xs) p ≡ None
none_copied [] m p none free = none
none_copied (x ∷ xs) m p none free = elim (cases_Bool (is_eq (place_cmp p (shown_place x)))) [
  | inl tied ↦ absurd (free x (inl refl) (sym (place_same p (shown_place x) (eq_is _ tied))))
  | inr apart ↦ none_copied xs (with_shown m x) p (stays m x p none apart) (λ y there e. free y (inr there) e)
]

one_copied : (xs : List Row) (m : FinMap place_cmp Text) (p : Place) (b : Text) → get m p ≡ None → ((x : Row) → Has xs x → shown_place x ≡ p → shown_body x ≡ b) → (y : Row) → Has xs y → shown_place y ≡ p → get (copied m xs) p ≡ Some b
one_copied [] m p b none bodies y there e = absurd there
one_copied (x ∷ xs) m p b none bodies y there e = elim (cases_Bool (is_eq (place_cmp p (shown_place x)))) [
  | inl tied ↦ (
      let at : p ≡ shown_place x = place_same p (shown_place x) (eq_is _ tied) in
      let here : get (with_shown m x) p ≡ Some (shown_body x) = subst (λ k. get (with_shown m x) k ≡ Some (shown_body x)) (sym at) (adds m x (subst (λ k. get m k ≡ None) at none)) in
      kept xs (with_shown m x) p b (here ∙ ap Some (bodies x (inl refl) (sym at))))
  | inr apart ↦ elim there [
    | inl is ↦ absurd (true≢false (sym (ap is_eq (tied_itself place_total p)) ∙ ap (λ k. is_eq (place_cmp p k)) (sym e ∙ ap shown_place is) ∙ apart))
    | inr later ↦ one_copied xs (with_shown m x) p b (stays m x p none apart) (λ z at same. bodies z (inr at) same) y later e
  ]
]

nothing : (q : Place) → get (first_records []) q ≡ None
nothing q = get_missing place_total place_same item_place body_of [] q (λ y at e. at)

pub copies_all : CopiesAll
copies_all items rows once shown = same_map place_total place_same (copied (from_entries []) rows) (first_records items) (λ q. elim (looked_up place_total place_same item_place body_of items q) [
  | inl r ↦ (
      let there = shown.complete r.0 r.1 in
      let bodies : (x : Row) → Has rows x → shown_place x ≡ q → shown_body x ≡ body_of r.0 = λ x at same.
      let s = shown.sound x at in s.3 ∙ ap body_of (once s.0 r.0 s.1 r.1 (sym s.2 ∙ same ∙ sym r.2)) in
      let one : get (copied (from_entries []) rows) q ≡ Some (body_of r.0) = one_copied rows (from_entries []) q (body_of r.0) (nothing q) bodies there.0 there.1 (there.2 ∙ r.2) in
      let is : get (first_records items) q ≡ Some (body_of r.0) = subst (λ k. get (first_records items) k ≡ Some (body_of r.0)) r.2 (get_found place_total place_same item_place body_of items r.0 r.1 (λ y k e. ap body_of (once y r.0 k r.1 e))) in
      one ∙ sym is)
  | inr none ↦ none_copied rows (from_entries []) q (nothing q) (λ x at same. let s = shown.sound x at in none s.0 s.1 (sym s.2 ∙ same)) ∙ sym (get_missing place_total place_same item_place body_of items q none)
])

pub moves_contents : MovesContents
moves_contents before after first moved records texts =
    let old = (is_read before).first first in
    let new = (is_read after).moved moved in
    new ∙ (λ i. record { records = records i; texts = texts i }) ∙ ap (λ (k : Contents). record { records = k.records; texts = insert k.texts (codes "version") (codes "2") }) (sym old)
