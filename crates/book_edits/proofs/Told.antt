-- Names that are taken, and the least id that has one.
use Rattle.std.proofs.Common.{◌≡◌, ◌≢◌, ◌↔◌, ◌⊎◌, inl, inr, Bool, true, false, cond, List, [], ◌∷◌, Option, None, Some, Ok, Err, refl, sym, ap, ◌∙◌, subst}
use Rattle.std.specs.Prelude.{not}
use Rattle.std.specs.declared.cmp.Ordering.{Ordering}
use Rattle.std.specs.declared.cmp.Ordering.TheVariants.{Less, Equal, Greater}
use Rattle.std.specs.Ordering.{is_lt, is_eq, eq_by_cmp, ordering_reverse}
use Rattle.std.specs.Cmp.{eq_by_cmp_equiv}
use Rattle.std.specs.Option.{option_map}
use Rattle.std.specs.List as list
use Rattle.std.specs.FinMap as map
use Rattle.std.specs.FinMap.{find, is_sorted, entries, entries_sorted, get-entries}
use Rattle.std.specs.FinMap.Entries.{below_all}
use Rattle.finite_sums.specs.Maps.{Text, Texts, text_cmp, some_and}
use Rattle.finite_sums.proofs.Texts.{text_total, text_same}
use Rattle.finite_sums.proofs.MapSums.{both_true, and_both, so, sorted_tail}
use Rattle.book_rows.specs.declared.rows.Rows.{Rows}
use Rattle.book_rows.specs.declared.rows.GroupRow.{GroupRow}
use Rattle.book_rows.specs.declared.rows.CategoryRow.{CategoryRow}
use Rattle.book_rows.specs.declared.fault.EditFault.TheVariants.{NameTaken}
use Rattle.book_rows.specs.Live.{is_live_category_row}
use Rattle.book_rows.specs.Parts.{is_text}
use Rattle.book_edits.specs.Checks.{least_where, nobody, is_group_named, is_category_named}
use Rattle.book_edits.specs.Laws.{IsGroupNamed, IsCategoryNamed, IsLeast, NamesAreTold}

is_equal : (r : Ordering) → is_eq r ≡ true → r ≡ Equal
is_equal Less h = cc
is_equal Equal h = refl
is_equal Greater h = cc

is_less : (r : Ordering) → is_lt r ≡ true → r ≡ Less
is_less Less h = refl
is_less Equal h = cc
is_less Greater h = cc

less_not : (r : Ordering) → r ≡ Less → r ≢ Greater
less_not Less h k = cc
less_not Equal h k = cc
less_not Greater h k = cc

-- a key is no greater than itself
self_equal : (k : Text) → text_cmp k k ≡ Equal
self_equal k = is_equal _ ((eq_by_cmp_equiv text_total).refl k)

equal_not : (r : Ordering) → r ≡ Equal → r ≢ Greater
equal_not Less h k = cc
equal_not Equal h k = cc
equal_not Greater h k = cc

less_equal : (r : Ordering) → r ≡ Less → r ≡ Equal → ⊥
less_equal r h k = let e : Less ≡ Equal = sym h ∙ k in cc

none_some : {X : Type 0} (x : X) → None ≡ Some x → ⊥
none_some x h = cc

some_same : {X : Type 0} (x y : X) → Some x ≡ Some y → x ≡ y
some_same x y h = cc

true_false : (b : Bool) → b ≡ true → b ≡ false → ⊥
true_false b h k = let e : true ≡ false = sym h ∙ k in cc

-- of two keys that are no greater than each other each is the other
both_least : (a b : Text) → text_cmp a b ≢ Greater → text_cmp b a ≢ Greater → a ≡ b
both_least a b h k = by (text_cmp a b) refl
  where
    by : (r : Ordering) → text_cmp a b ≡ r → a ≡ b
    by Less e = absurd (k (text_total.antisymm b a ∙ ap ordering_reverse e))
    by Equal e = text_same a b e
    by Greater e = absurd (h e)

module _ {X : Type 0} where
  -- a key that is found is above one that is below all
  below_found : (k q : Text) (y : X) (es : List (Text × X)) → below_all text_cmp k es ≡ true → find text_cmp q es ≡ Some y → text_cmp k q ≡ Less
  below_found k q y [] h f = absurd (none_some y f)
  below_found k q y (e ∷ es) h f = by (eq_by_cmp text_cmp q e.0) refl (λ g. below_found k q y es (both_true _ _ h).1 g)
    where
      by : (b : Bool) → eq_by_cmp text_cmp q e.0 ≡ b → (find text_cmp q es ≡ Some y → text_cmp k q ≡ Less) → text_cmp k q ≡ Less
      by true t on = ap (text_cmp k) (text_same q e.0 (is_equal _ t)) ∙ is_less _ (both_true _ _ h).0
      by false t on = on (sym (ap (λ b. cond b (Some e.1) (find text_cmp q es)) t) ∙ f)

  module _ (p : X → Bool) where
    -- the entry of a key passes
    abbrev Has : List (Text × X) → Text → Type 0
    Has es q = (x : X) × (find text_cmp q es ≡ Some x) × (p x ≡ true)

    abbrev TellsOf : Option Text → List (Text × X) → Type 0
    TellsOf None es = (q : Text) → Has es q → ⊥
    TellsOf (Some id) es = Has es id × ((q : Text) → Has es q → text_cmp id q ≢ Greater)

    -- an entry further on
    later : (e : Text × X) (es : List (Text × X)) → is_sorted text_cmp (e ∷ es) ≡ true → (q : Text) → Has es q → Has (e ∷ es) q
    later e es s q h = by (eq_by_cmp text_cmp q e.0) refl
      where
        by : (b : Bool) → eq_by_cmp text_cmp q e.0 ≡ b → Has (e ∷ es) q
        by true t = absurd (less_equal (text_cmp e.0 q) (below_found e.0 q h.0 es (both_true _ _ s).0 h.1) (ap (text_cmp e.0) (text_same q e.0 (is_equal _ t)) ∙ self_equal e.0))
        by false t = (h.0, ap (λ b. cond b (Some e.1) (find text_cmp q es)) t ∙ h.1, h.2)

    -- one that passes is the first, or further on
    sooner : (e : Text × X) (es : List (Text × X)) (q : Text) → Has (e ∷ es) q → ((q ≡ e.0) × (p e.1 ≡ true)) ⊎ Has es q
    sooner e es q h = by (eq_by_cmp text_cmp q e.0) refl
      where
        by : (b : Bool) → eq_by_cmp text_cmp q e.0 ≡ b → ((q ≡ e.0) × (p e.1 ≡ true)) ⊎ Has es q
        by true t =
            let same = some_same e.1 h.0 (sym (ap (λ b. cond b (Some e.1) (find text_cmp q es)) t) ∙ h.1) in
            inl (text_same q e.0 (is_equal _ t), ap p same ∙ h.2)
        by false t = inr (h.0, sym (ap (λ b. cond b (Some e.1) (find text_cmp q es)) t) ∙ h.1, h.2)

    none_here : TellsOf None []
    none_here q h = none_some h.0 h.1

    first_told : (es : List (Text × X)) → is_sorted text_cmp es ≡ true → TellsOf (least_where p es) es
    first_told [] s = none_here
    first_told (e ∷ es) s = by (p e.1) refl (first_told es (sorted_tail text_total text_same e es s))
      where
        after : (o : Option Text) → TellsOf o es → p e.1 ≡ false → TellsOf o (e ∷ es)
        after None t f = λ q h. either q (sooner e es q h)
          where
            either : (q : Text) → ((q ≡ e.0) × (p e.1 ≡ true)) ⊎ Has es q → ⊥
            either q (inl g) = true_false _ g.1 f
            either q (inr g) = t q g
        after (Some id) t f = (later e es s id t.0, λ q h. either q (sooner e es q h))
          where
            either : (q : Text) → ((q ≡ e.0) × (p e.1 ≡ true)) ⊎ Has es q → text_cmp id q ≢ Greater
            either q (inl g) = absurd (true_false _ g.1 f)
            either q (inr g) = t.1 q g

        by : (b : Bool) → p e.1 ≡ b → TellsOf (least_where p es) es → TellsOf (option_map (λ (e : Text × X). e.0) (cond b (Some e) (list.find (λ e. p e.1) es))) (e ∷ es)
        by true t rest = ((e.1, ap (λ b. cond b (Some e.1) (find text_cmp e.0 es)) ((eq_by_cmp_equiv text_total).refl e.0), t), λ q h. either q (sooner e es q h))
          where
            either : (q : Text) → ((q ≡ e.0) × (p e.1 ≡ true)) ⊎ Has es q → text_cmp e.0 q ≢ Greater
            either q (inl g) = equal_not _ (ap (text_cmp e.0) g.0 ∙ self_equal e.0)
            either q (inr g) = less_not _ (below_found e.0 q g.0 es (both_true _ _ s).0 g.1)
        by false t rest = after (least_where p es) rest t

    module _ (m : Texts X) (Named : Text → Type 0) (to : (q : Text) → Named q → (x : X) × (map.get m q ≡ Some x) × (p x ≡ true)) (from : (q : Text) (x : X) → map.get m q ≡ Some x → p x ≡ true → Named q) where
      has : (q : Text) → Named q → Has (entries m) q
      has q n = let h = to q n in (h.0, sym (get-entries m q) ∙ h.1, h.2)

      named : (q : Text) → Has (entries m) q → Named q
      named q h = from q h.0 (get-entries m q ∙ h.1) h.2

      told : TellsOf (least_where p (entries m)) (entries m)
      told = first_told (entries m) (so _ (entries_sorted m))

      free_to : (o : Option Text) → TellsOf o (entries m) → nobody o ≡ Ok tt → (q : Text) → Named q → ⊥
      free_to None t h q n = t q (has q n)
      free_to (Some id) t h q n = cc

      free_from : (o : Option Text) → TellsOf o (entries m) → ((q : Text) → Named q → ⊥) → nobody o ≡ Ok tt
      free_from None t h = refl
      free_from (Some id) t h = absurd (h id (named id t.0))

      pub free_is : (nobody (least_where p (entries m)) ≡ Ok tt) ↔ ((q : Text) → Named q → ⊥)
      free_is = (free_to _ told, free_from _ told)

      taken_to : (o : Option Text) → TellsOf o (entries m) → (id : Text) → nobody o ≡ Err (NameTaken id) → IsLeast Named id
      taken_to None t id h = cc
      taken_to (Some k) t id h =
          let same : k ≡ id = cc in
          subst (IsLeast Named) same (record { one = named k t.0; least = λ q n. t.1 q (has q n) })

      taken_from : (o : Option Text) → TellsOf o (entries m) → (id : Text) → IsLeast Named id → nobody o ≡ Err (NameTaken id)
      taken_from None t id h = absurd (t id (has id h.one))
      taken_from (Some k) t id h = ap (λ (i : Text). Err (NameTaken i)) (both_least k id (t.1 id (has id h.one)) (h.least k (named k t.0)))

      pub taken_is : (id : Text) → (nobody (least_where p (entries m)) ≡ Err (NameTaken id)) ↔ IsLeast Named id
      taken_is id = (taken_to _ told id, taken_from _ told id)

-- ---- texts

text_is : (t : Text) (o : Option Text) → is_text t o ≡ true → o ≡ Some t
text_is t None h = cc
text_is t (Some own) h = ap (λ (k : Text). Some k) (text_same own t (is_equal _ h))

is_text_of : (t : Text) (o : Option Text) → o ≡ Some t → is_text t o ≡ true
is_text_of t o e = ap (is_text t) e ∙ (eq_by_cmp_equiv text_total).refl t

not_true : (b : Bool) → not b ≡ true → b ≡ false
not_true true h = cc
not_true false h = refl

not_of : (b : Bool) → b ≡ false → not b ≡ true
not_of true h = cc
not_of false h = refl

module _ (rows : Rows) where
  group_to : (name q : Text) → IsGroupNamed rows name q → (g : GroupRow) × (map.get rows.groups q ≡ Some g) × (is_group_named name g ≡ true)
  group_to name q n = (n.group.0, n.group.1, and_both _ _ (not_of _ n.group.2) (is_text_of name n.group.0.name n.group.3))

  group_from : (name q : Text) (g : GroupRow) → map.get rows.groups q ≡ Some g → is_group_named name g ≡ true → IsGroupNamed rows name q
  group_from name q g there h =
      let both = both_true _ _ h in
      record { group = (g, there, not_true _ both.0, text_is name g.name both.1) }

  category_to : (group name q : Text) → IsCategoryNamed rows group name q → (c : CategoryRow) × (map.get rows.categories q ≡ Some c) × (is_category_named rows group name c ≡ true)
  category_to group name q n =
      let c = n.category.0 in
      let live : is_live_category_row rows c ≡ true = sym (ap (some_and (is_live_category_row rows)) n.category.1) ∙ n.live in
      (c, n.category.1, and_both _ _ live (and_both _ _ (is_text_of group c.cat_group n.category.2) (is_text_of name c.name n.category.3)))

  category_from : (group name q : Text) (c : CategoryRow) → map.get rows.categories q ≡ Some c → is_category_named rows group name c ≡ true → IsCategoryNamed rows group name q
  category_from group name q c there h =
      let both = both_true _ _ h in
      let rest = both_true _ _ both.1 in
      record { live = ap (some_and (is_live_category_row rows)) there ∙ both.0; category = (c, there, text_is group c.cat_group rest.0, text_is name c.name rest.1) }

  pub names_are_told_lem : NamesAreTold rows
  names_are_told_lem = record {
    group_free = λ name. free_is (is_group_named name) rows.groups (IsGroupNamed rows name) (group_to name) (group_from name);
    group_taken = λ name. taken_is (is_group_named name) rows.groups (IsGroupNamed rows name) (group_to name) (group_from name);
    category_free = λ group name. free_is (is_category_named rows group name) rows.categories (IsCategoryNamed rows group name) (category_to group name) (category_from group name);
    category_taken = λ group name. taken_is (is_category_named rows group name) rows.categories (IsCategoryNamed rows group name) (category_to group name) (category_from group name);
  }
