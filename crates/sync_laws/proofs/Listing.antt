-- The records of a group above a key are those that the map has there.
use Rattle.std.proofs.Common.{◌≡◌, ◌&&◌, zero, suc, Bool, true, false, cond, List, [], ◌∷◌, map, filter, None, Some, refl, sym, ap, ap₂, subst, ◌∙◌, arith, Ordering, Less, Equal, Greater}
use Rattle.std.specs.List.{Contains}
use Rattle.std.specs.Ordering.{is_eq, is_lt}
use Rattle.std.specs.Cmp.{tied_itself}
use Rattle.std.proofs.lemmas.Bool.{and_parts}
use Rattle.std.specs.FinMap.{find, entries, entries_sorted, get-entries}
use Rattle.budget_ports.specs.declared.keeper.Record.{Record}
use Rattle.budget_ports.specs.Contents.{Contents, Text, text_cmp, Place, place_cmp, is_in, of_entry, records_after}
use Rattle.sync_laws.specs.Contents.{AreAbove}
use Rattle.budget_ports.proofs.Maps.{IsRising}
use Rattle.budget_ports.proofs.Rising.{less_is, is_true, in_order, records_rise}
use Rattle.budget_ports.proofs.Places.{text_total, text_same, place_total, place_same}
use Rattle.budget_ports.proofs.Scans.{of_group, Above}

equal_is : (o : Ordering) → is_eq o ≡ true → o ≡ Equal
equal_is Less h = absurd (cc)
equal_is Equal h = refl
equal_is Greater h = absurd (cc)

-- ---- a member is the first element, or one of the others

module _ {A : Type 0} where
  here : (x : A) (xs : List A) → Contains (x ∷ xs) x
  here x xs = (0, omega arith, refl)

  there : (x : A) (xs : List A) (y : A) → Contains xs y → Contains (x ∷ xs) y
  there x xs y h = (suc h.0, omega (arith, h.1), h.2)

  of_cons : (P : A → Type 0) (x : A) (xs : List A) (y : A) → P x → ((z : A) → Contains xs z → P z) → Contains (x ∷ xs) y → P y
  of_cons P x xs y first rest (zero, within, is) = subst P is first
  of_cons P x xs y first rest (suc k, within, is) = rest y (k, omega (arith, within), is)

  none_in : (y : A) → Contains [] y → ⊥
  none_in y (k, within, is) = omega (arith, within)

-- ---- an entry more

module _ (g after : Text) where
  -- what is found among entries, above the key
  abbrev IsFound : List (Place × Text) → Record → Type 0
  IsFound es r = (text_cmp after r.key ≡ Less) × (find place_cmp (g, r.key) es ≡ Some r.body)

  skip : (e : Place × Text) (es : List (Place × Text)) → is_in g after e ≡ false → of_group g after (e ∷ es) ≡ of_group g after es
  skip e es h = ap (λ b. map of_entry (cond b (e ∷ filter (is_in g after) es) (filter (is_in g after) es))) h

  hold : (e : Place × Text) (es : List (Place × Text)) → is_in g after e ≡ true → of_group g after (e ∷ es) ≡ of_entry e ∷ of_group g after es
  hold e es h = ap (λ b. map of_entry (cond b (e ∷ filter (is_in g after) es) (filter (is_in g after) es))) h

  none_below : (p : Place) (es : List (Place × Text)) → Above p es → find place_cmp p es ≡ None
  none_below p [] h = refl
  none_below p (e ∷ es) h = ap (λ r. cond (is_eq r) (Some e.1) (find place_cmp p es)) h.0 ∙ none_below p es h.1

  -- what is found behind an entry is found with it
  behind : (e : Place × Text) (es : List (Place × Text)) (r : Record) → Above e.0 es → IsFound es r → IsFound (e ∷ es) r
  behind e es r low h = (h.0, go (is_eq (place_cmp (g, r.key) e.0)) refl)
    where
      go : (b : Bool) → is_eq (place_cmp (g, r.key) e.0) ≡ b → find place_cmp (g, r.key) (e ∷ es) ≡ Some r.body
      go false is = ap (λ b. cond b (Some e.1) (find place_cmp (g, r.key) es)) is ∙ h.1
      go true is =
          let at : (g, r.key) ≡ e.0 = place_same (g, r.key) e.0 (equal_is _ is) in
          let none : find place_cmp (g, r.key) es ≡ None = ap (λ (p : Place). find place_cmp p es) at ∙ none_below e.0 es low in
          absurd (let no = sym none ∙ h.1 in cc)

  first_found : (e : Place × Text) (es : List (Place × Text)) → is_in g after e ≡ true → IsFound (e ∷ es) (of_entry e)
  first_found e es h =
      let parts = and_parts _ _ h in
      let at : e.0.0 ≡ g = text_same e.0.0 g (equal_is _ parts.0) in
      let own : place_cmp (g, e.0.1) e.0 ≡ Equal = ap (λ (t : Text). place_cmp (t, e.0.1) e.0) (sym at) ∙ tied_itself place_total e.0 in
      (less_is _ parts.1, ap (λ o. cond (is_eq o) (Some e.1) (find place_cmp (g, e.0.1) es)) own)

  all_found : (es : List (Place × Text)) → IsRising place_cmp es → (r : Record) → Contains (of_group g after es) r → IsFound es r
  all_found [] up r c = absurd (none_in r c)
  all_found (e ∷ es) up r c = by (λ q d. behind e es q up.0 (all_found es up.1 q d)) (is_in g after e) refl
    where
      by : ((q : Record) → Contains (of_group g after es) q → IsFound (e ∷ es) q) → (b : Bool) → is_in g after e ≡ b → IsFound (e ∷ es) r
      by later true is = of_cons (IsFound (e ∷ es)) (of_entry e) (of_group g after es) r (first_found e es is) later (subst (λ (rs : List Record). Contains rs r) (hold e es is) c)
      by later false is = later r (subst (λ (rs : List Record). Contains rs r) (skip e es is) c)

  found_there : (es : List (Place × Text)) (r : Record) → IsFound es r → Contains (of_group g after es) r
  found_there [] r h = absurd (let no = h.1 in cc)
  found_there (e ∷ es) r h = by (found_there es r) (is_eq (place_cmp (g, r.key) e.0)) refl
    where
      later : (b : Bool) → is_in g after e ≡ b → Contains (of_group g after es) r → Contains (of_group g after (e ∷ es)) r
      later true is c = subst (λ (rs : List Record). Contains rs r) (sym (hold e es is)) (there (of_entry e) (of_group g after es) r c)
      later false is c = subst (λ (rs : List Record). Contains rs r) (sym (skip e es is)) c

      by : (IsFound es r → Contains (of_group g after es) r) → (b : Bool) → is_eq (place_cmp (g, r.key) e.0) ≡ b → Contains (of_group g after (e ∷ es)) r
      by on false is = later (is_in g after e) refl (on (h.0, ap (λ b. cond b (Some e.1) (find place_cmp (g, r.key) es)) (sym is) ∙ h.1))
      by on true is =
          let at : e.0 ≡ (g, r.key) = sym (place_same (g, r.key) e.0 (equal_is _ is)) in
          let body : Some e.1 ≡ Some r.body = ap (λ b. cond b (Some e.1) (find place_cmp (g, r.key) es)) (sym is) ∙ h.1 in
          let same : e.1 ≡ r.body = cc in
          let own : text_cmp e.0.0 g ≡ Equal = ap (λ (p : Place). text_cmp p.0 g) at ∙ tied_itself text_total g in
          let above : text_cmp after e.0.1 ≡ Less = ap (λ (p : Place). text_cmp after p.1) at ∙ h.0 in
          let mine : is_in g after e ≡ true = ap₂ (λ (a b : Ordering). is_eq a && is_lt b) own above in
          let is_it : of_entry e ≡ r = ap (λ (p : Place). record { key = p.1; body = e.1 }) at ∙ ap (λ (t : Text). record { key = r.key; body = t }) same in
          subst (Contains (of_group g after (e ∷ es))) is_it (subst (λ (rs : List Record). Contains rs (of_entry e)) (sym (hold e es mine)) (here (of_entry e) (of_group g after es)))

pub are_above : (k : Contents) (group after : Text) → AreAbove k group after (records_after k group after)
are_above k group after = record {
  rise = records_rise k.records group after;
  exactly = λ r. (
    λ c. (let f = all_found group after (entries k.records) (in_order (entries k.records) (is_true _ (entries_sorted k.records))) r c in (f.0, get-entries k.records (group, r.key) ∙ f.1)),
    λ h. found_there group after (entries k.records) r (h.0, sym (get-entries k.records (group, r.key)) ∙ h.1),
  );
}
