-- The fields that messages change that join, and the rows that they make of those of before.
use Rattle.std.proofs.Common.{◌≡◌, ◌≢◌, ◌↔◌, arith, IsTrue, Bool, true, false, ◌||◌, ◌&&◌, cond, List, [], ◌∷◌, ◌++◌, Option, None, Some, refl, sym, ap, subst, ◌∙◌}
use Rattle.std.specs.Prelude.{flat_map, option_map, is_some}
use Rattle.std.specs.Ordering.{is_eq}
use Rattle.std.specs.Cmp.{tied_itself}
use Rattle.std.specs.List.{AllByRecursion, Contains, IsDistinct, list_any}
use Rattle.std.specs.BTreeMap.{is_at}
use Rattle.std.specs.BTreeSet.{BTreeSet, IsOrdered, contains}
use Rattle.std.proofs.lemmas.Map.Views.{btree_set_contains_iff}
use Rattle.field_values.specs.declared.value.Value.{Value}
use Rattle.field_values.specs.Names.{FieldNames, names_cmp, names_eq}
use Rattle.field_values.specs.Value.{IsValue}
use Rattle.field_merge.specs.declared.message.Message.{Message}
use Rattle.field_merge.specs.Messages.{IsMessage, AreMessages}
use Rattle.field_merge.specs.Log.{has_field, has_stamp, join_one, latest, value_in}
use Rattle.field_merge.specs.Stored.{MarksChanged}
use Rattle.field_merge.proofs.Latest.{latest_there}
use Rattle.field_merge.proofs.Members.{all_from, all_of, none_from_any, some_passes}
use Rattle.field_merge.proofs.Orders.{names_alike, names_exact, names_total}
use Rattle.field_merge.proofs.Stored.{are-changed, join-fresh, join-there, marks-placed, names_flip}
use Rattle.dirty_cells.specs.Changes.{Change, AreDifferent, AreValues}
use Rattle.device_core.specs.Changes.{AreChangesOf, AreOthers, Marks, given, change_of}

-- ---- one message more

still_there : (b c : Bool) (o : Option Message) (m : Message) → (c ≡ true → is_some o ≡ true) → (b || c) ≡ true → is_some (cond b (Some m) o) ≡ true
still_there true c o m h t = refl
still_there false c o m h t = h t

still_same : (b c : Bool) (o p : Option Message) (m : Message) → (c ≡ false → p ≡ o) → (b || c) ≡ false → p ≡ cond b (Some m) o
still_same true c o p m h t = absurd (cc)
still_same false c o p m h t = h t

module _ (before old new : List Message) (marked new_marked : BTreeSet FieldNames) (m : Message) (w : Bool) (joined : new ≡ join_one old m)
    (now : (f : FieldNames) → latest new f ≡ cond (w && has_field f m) (Some m) (latest old f)) (wins : (w ≡ true) ↔ (latest old m.field ≢ latest new m.field))
    (marks : (f : FieldNames) → contains names_cmp new_marked f ≡ ((w && is_at (names_cmp m.field) f) || contains names_cmp marked f)) (h : Marks before old marked) where
  own_marks : (f : FieldNames) → contains names_cmp new_marked f ≡ ((w && has_field f m) || contains names_cmp marked f)
  own_marks f = marks f ∙ ap (λ b. (w && b) || contains names_cmp marked f) (names_flip m.field f)

  -- a message with a timestamp that was there changes nothing
  was_there : old ≡ new → (b : Bool) → w ≡ b → MarksChanged before new new_marked
  was_there same true e = absurd (wins.0 e (ap (λ (ms : List Message). latest ms m.field) same))
  was_there same false e =
      let alike : (f : FieldNames) → contains names_cmp marked f ≡ contains names_cmp new_marked f = λ f. sym (own_marks f ∙ ap (λ b. (b && has_field f m) || contains names_cmp marked f) e) in
      subst (λ (ms : List Message). MarksChanged before ms new_marked) same (record {
        grown = h.changed.grown;
        exactly = λ f. subst (λ b. IsTrue b ↔ (latest before f ≢ latest old f)) (alike f) (h.changed.exactly f);
      })

  changed_by : (b : Bool) → list_any (has_stamp m.stamp) old ≡ b → MarksChanged before new new_marked
  changed_by true e = was_there (join-there old m e ∙ sym joined) w refl
  changed_by false e =
      marks-placed before old new marked new_marked m w (none_from_any (has_stamp m.stamp) old e) (joined ∙ sym (join-fresh old m e)) now own_marks h.changed

  pub marks_one : Marks before new new_marked
  marks_one = record {
    changed = changed_by (list_any (has_stamp m.stamp) old) refl;
    there = λ f t. ap is_some (now f) ∙ still_there (w && has_field f m) (contains names_cmp marked f) (latest old f) m (h.there f) (sym (own_marks f) ∙ t);
    others = λ f t. still_same (w && has_field f m) (contains names_cmp marked f) (latest old f) (latest before f) m (h.others f) (sym (own_marks f) ∙ t) ∙ sym (now f);
  }

-- where nothing came, no field is marked
pub no_marks : (ms : List Message) (marked : BTreeSet FieldNames) → marked.keys ≡ [] → Marks ms ms marked
no_marks ms marked none = record {
  changed = record { grown = λ s there. there; exactly = λ f. (λ t. absurd (never f t), λ differs. absurd (differs refl)) };
  there = λ f t. absurd (never f t);
  others = λ f t. refl;
}
  where
    never : (f : FieldNames) → contains names_cmp marked f ≡ true → ⊥
    never f t = let there : Contains [] f = subst (λ (fs : List FieldNames). Contains fs f) none ((btree_set_contains_iff names_total names_exact marked f).0 t) in absurd (omega (arith, there.1))

-- ---- the marked fields, as a list

pub listed_others : (old new : List Message) (marked : BTreeSet FieldNames) (fields : List FieldNames) → fields ≡ marked.keys → IsOrdered names_cmp marked → Marks old new marked → AreOthers old new fields
listed_others old new marked fields is ordered h =
    let are = are-changed old new marked fields is ordered h.changed in
    let has = btree_set_contains_iff names_total names_exact marked in
    record {
      once = are.once;
      differ = all_from (λ (f : FieldNames). latest old f ≢ latest new f) fields (λ f c. (are.exactly f).0 c);
      there = all_from (λ (f : FieldNames). is_some (latest new f) ≡ true) fields (λ f c. h.there f ((has f).1 (subst (λ (fs : List FieldNames). Contains fs f) is c)));
      others = λ f none. by f none (contains names_cmp marked f) refl;
    }
  where
    itself : (f : FieldNames) → names_eq f f ≡ true
    itself f = sym (names_alike f f) ∙ ap is_eq (tied_itself names_total f)

    by : (f : FieldNames) → list_any (names_eq f) fields ≡ false → (b : Bool) → contains names_cmp marked f ≡ b → latest old f ≡ latest new f
    by f none true e =
        let there : Contains fields f = subst (λ (fs : List FieldNames). Contains fs f) (sym is) ((btree_set_contains_iff names_total names_exact marked f).0 e) in
        absurd (some_passes (names_eq f) fields f there (itself f) (none_from_any (names_eq f) fields none))
    by f none false e = h.others f e

-- ---- the fields with their values

-- what a list of changes names
abbrev names : FieldNames → List Change → Bool
names f cs = list_any (λ c. names_eq f c.0) cs

any_given : (g f : FieldNames) (o : Option Value) (rest : List Change) → names g (given f o ++ rest) ≡ ((is_some o && names_eq g f) || names g rest)
any_given g f None rest = refl
any_given g f (Some v) rest = refl

some_value : (o : Option Message) → is_some (option_map (λ (m : Message). m.value) o) ≡ is_some o
some_value None = refl
some_value (Some m) = refl

neither : (a b c : Bool) → b ≡ false → c ≡ false → ((a && b) || c) ≡ false
neither true true c p q = absurd (cc)
neither true false c p q = q
neither false b c p q = q

module _ (old new : List Message) where
  abbrev changes : List FieldNames → List Change
  changes fs = flat_map (change_of new) fs

  unnamed : (g : FieldNames) (fs : List FieldNames) → AllByRecursion (λ f. names_eq g f ≡ false) fs → names g (changes fs) ≡ false
  unnamed g [] all = refl
  unnamed g (f ∷ fs) all = any_given g f (value_in new f) (changes fs) ∙ neither (is_some (value_in new f)) (names_eq g f) (names g (changes fs)) all.0 (unnamed g fs all.1)

  different_by : (f : FieldNames) (o : Option Value) (cs : List Change) → names f cs ≡ false → AreDifferent cs → AreDifferent (given f o ++ cs)
  different_by f None cs none are = are
  different_by f (Some v) cs none are = (none, are)

  different : (fs : List FieldNames) → IsDistinct names_eq fs → AreDifferent (changes fs)
  unfolding IsDistinct
  different [] once = tt
  different (f ∷ fs) once = different_by f (value_in new f) (changes fs) (unnamed f fs once.0) (different fs once.1)

  -- what holds of each field with its value holds of the changes
  all_by : (P : Change → Type 0) (f : FieldNames) (o : Option Value) (cs : List Change) → ((v : Value) → o ≡ Some v → P (f, v)) → AllByRecursion P cs → AllByRecursion P (given f o ++ cs)
  all_by P f None cs h all = all
  all_by P f (Some v) cs h all = (h v refl, all)

  all_changes : (P : Change → Type 0) (fs : List FieldNames) → AllByRecursion (λ f. (v : Value) → value_in new f ≡ Some v → P (f, v)) fs → AllByRecursion P (changes fs)
  all_changes P [] all = tt
  all_changes P (f ∷ fs) all = all_by P f (value_in new f) (changes fs) all.0 (all_changes P fs all.1)

  -- all fields that have a value are named
  named : (g : FieldNames) (fs : List FieldNames) → AllByRecursion (λ f. is_some (latest new f) ≡ true) fs → names g (changes fs) ≡ list_any (names_eq g) fs
  named g [] all = refl
  named g (f ∷ fs) all =
      any_given g f (value_in new f) (changes fs) ∙ ap (λ b. (b && names_eq g f) || names g (changes fs)) (some_value (latest new f) ∙ all.0) ∙ ap (λ b. names_eq g f || b) (named g fs all.1)

  pub changes_are : (fs : List FieldNames) → AreOthers old new fs → AreChangesOf old new (changes fs)
  changes_are fs are = record {
    once = different fs are.once;
    changed = all_changes (λ c. latest old c.0 ≢ latest new c.0) fs (all_from (λ (f : FieldNames). (v : Value) → value_in new f ≡ Some v → latest old f ≢ latest new f) fs (λ f c v e. all_of (λ (f : FieldNames). latest old f ≢ latest new f) fs are.differ f c));
    valued = all_changes (λ c. value_in new c.0 ≡ Some c.1) fs (all_from (λ (f : FieldNames). (v : Value) → value_in new f ≡ Some v → value_in new f ≡ Some v) fs (λ f c v e. e));
    others = λ f none. are.others f (sym (named f fs are.there) ∙ none);
  }

  -- the values of valid messages are valid
  held : AreMessages new → (f : FieldNames) (v : Value) (o : Option Message) → latest new f ≡ o → option_map (λ (m : Message). m.value) o ≡ Some v → IsValue v
  held valid f v None e is = absurd (cc)
  held valid f v (Some m) e is =
      let same : m.value ≡ v = cc in
      subst IsValue same (all_of IsMessage new valid m (latest_there new f m e).0).value

  pub changes_valid : AreMessages new → (cs : List Change) → AllByRecursion (λ c. value_in new c.0 ≡ Some c.1) cs → AreValues cs
  changes_valid valid cs valued =
      all_from (λ (c : Change). IsValue c.1) cs (λ c there. held valid c.0 c.1 (latest new c.0) refl (all_of (λ (c : Change). value_in new c.0 ≡ Some c.1) cs valued c there))

-- ---- the change that a single message makes

alone : (b : Bool) → (b || false) ≡ false → b ≡ false
alone true h = absurd (cc)
alone false h = refl

-- its field, where it is then the latest of it, and no other
pub single_change : (old new : List Message) (m : Message) (w : Bool) → ((f : FieldNames) → latest new f ≡ cond (w && has_field f m) (Some m) (latest old f)) → (w ≡ true) ↔ (latest old m.field ≢ latest new m.field)
    → AreChangesOf old new (cond w ((m.field, m.value) ∷ []) [])
single_change old new m true now wins = record {
  once = (refl, tt);
  changed = (wins.0 refl, tt);
  valued = (ap (option_map (λ (m : Message). m.value)) (now m.field ∙ ap (λ b. cond b (Some m) (latest old m.field)) own), tt);
  others = λ f none. sym (now f ∙ ap (λ b. cond b (Some m) (latest old f)) (names_alike f m.field ∙ alone (names_eq f m.field) none));
}
  where
    own : has_field m.field m ≡ true
    own = ap is_eq (tied_itself names_total m.field)
single_change old new m false now wins = record {
  once = tt;
  changed = tt;
  valued = tt;
  others = λ f none. sym (now f);
}
