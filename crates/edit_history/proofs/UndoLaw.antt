-- An undo right after an edit.
use Rattle.std.proofs.Common.{◌≡◌, Bool, true, false, cond, List, [], ◌∷◌, Option, Some, None, refl, ap, sym, ◌∙◌, subst, inl, inr}
use Rattle.std.specs.Prelude.{◌⊎◌, ◌&&◌, ◌||◌, not, map, is_some, pos, codes}
use Rattle.std.specs.List.{AllByRecursion}
use Rattle.field_values.specs.Names.{FieldNames, names_eq, field_of}
use Rattle.field_values.specs.declared.value.Value.{Value}
use Rattle.field_values.specs.declared.value.Value.TheVariants.{Number}
use Rattle.book_rows.specs.declared.kind.Kind.{Kind}
use Rattle.book_rows.specs.declared.kind.Kind.TheVariants.{Flag, Int, Text, Day}
use Rattle.book_rows.specs.Rows.{Values, with_value, kind_of, has_tombstone, has_row}
use Rattle.edit_history.specs.declared.before.Before.{Before}
use Rattle.edit_history.specs.Undo.{first_of_each, before_of, entry_over, tombstone_of, blank_of, undo_to, undo_of, undo_values}
use Rattle.edit_history.specs.Laws.{with_values, ReadsAsNone, HasNone, MakesRow, EntriesUndo}
use Rattle.edit_history.proofs.Basics.{bool_cases, true_false, some_is, option_cases, none_some, or_left, or_right, hidden_parts, same, itself, turned}
use Rattle.edit_history.proofs.Rows.{row_of, has_got}
use Rattle.edit_history.proofs.Listing.{wrote, first_wrote, all_first}

-- a write of a value into a field
abbrev FieldWrite : Type 0
FieldWrite = FieldNames × Value

abbrev field : FieldWrite → FieldNames
field w = w.0

-- where all writes of a field have one value
agree : (values : Values) (ws : List FieldWrite) (g : FieldNames) (v : Value) → AllByRecursion (λ (w : FieldWrite). names_eq w.0 g ≡ true → w.1 ≡ v) ws
    → with_values values ws g ≡ cond (wrote field ws g) (Some v) (values g)
agree values [] g v h = refl
agree values (w ∷ ws) g v h =
    agree (with_value values w.0 w.1) ws g v h.1 ∙ ap (λ b. cond (wrote field ws g) (Some v) (cond b (Some w.1) (values g))) (turned g w.0)
    ∙ by (names_eq w.0 g) refl (wrote field ws g)
  where
    by : (b : Bool) → names_eq w.0 g ≡ b → (c : Bool) → cond c (Some v) (cond b (Some w.1) (values g)) ≡ cond (b || c) (Some v) (values g)
    by true t true = refl
    by true t false = ap Some (h.0 t)
    by false t c = refl

-- a field that is not written
unwritten : (values : Values) (ws : List FieldWrite) (g : FieldNames) → wrote field ws g ≡ false → with_values values ws g ≡ values g
unwritten values [] g h = refl
unwritten values (w ∷ ws) g h = bool_cases (names_eq w.0 g)
    (λ t. true_false _ (or_left _ _ t) h)
    (λ f. unwritten (with_value values w.0 w.1) ws g (ap (λ b. b || wrote field ws g) (sym f) ∙ h) ∙ ap (λ b. cond b (Some w.1) (values g)) (turned g w.0 ∙ f))

-- what stands for no value reads as none
blank_reads : (k : Option Kind) → ReadsAsNone k (blank_of k)
blank_reads (Some Flag) = refl
blank_reads (Some Int) = refl
blank_reads (Some Text) = refl
blank_reads (Some Day) = refl
blank_reads None = refl

module _ (values : Values) where
  -- a field that had no value is answered by the tombstone of its row
  abbrev hides : FieldNames → Bool
  hides f = not (has_row values f) && has_tombstone f.dataset

  abbrev undoing : FieldNames → FieldWrite
  undoing f = undo_to f (has_row values f) (values f)

  undo_some : (f : FieldNames) (v : Value) → values f ≡ Some v → undoing f ≡ (f, v)
  undo_some f v h = ap (undo_to f (has_row values f)) h

  undo_hides : (f : FieldNames) → values f ≡ None → hides f ≡ true → undoing f ≡ (tombstone_of f, Number (pos 1))
  undo_hides f h t = ap (undo_to f (has_row values f)) h ∙ ap (λ b. cond b (tombstone_of f, Number (pos 1)) (f, blank_of (kind_of f.dataset f.column))) t

  undo_clears : (f : FieldNames) → values f ≡ None → hides f ≡ false → undoing f ≡ (f, blank_of (kind_of f.dataset f.column))
  undo_clears f h t = ap (undo_to f (has_row values f)) h ∙ ap (λ b. cond b (tombstone_of f, Number (pos 1)) (f, blank_of (kind_of f.dataset f.column))) t

  -- a write that undoes has what is due to its field
  by_case : (f g : FieldNames) (v : Value) → names_eq (undoing f).0 g ≡ true
      → ((w : Value) → values f ≡ Some w → f ≡ g → w ≡ v)
      → (values f ≡ None → hides f ≡ true → tombstone_of f ≡ g → Number (pos 1) ≡ v)
      → (values f ≡ None → hides f ≡ false → f ≡ g → blank_of (kind_of f.dataset f.column) ≡ v)
      → (undoing f).1 ≡ v
  by_case f g v h some hide clear =
      option_cases (values f)
      (λ none. bool_cases (hides f)
      (λ t. let e = undo_hides f none t in ap (λ (w : FieldWrite). w.1) e ∙ hide none t (same _ g (subst (λ (w : FieldWrite). names_eq w.0 g ≡ true) e h)))
      (λ t. let e = undo_clears f none t in ap (λ (w : FieldWrite). w.1) e ∙ clear none t (same _ g (subst (λ (w : FieldWrite). names_eq w.0 g ≡ true) e h))))
      (λ w there. let e = undo_some f w there in ap (λ (w : FieldWrite). w.1) e ∙ some w there (same _ g (subst (λ (w : FieldWrite). names_eq w.0 g ≡ true) e h)))

  -- a field that had a value is no tombstone that the undo sets
  no_hiding : (f g : FieldNames) (v : Value) {P : Type 0} → values g ≡ Some v → hides f ≡ true → tombstone_of f ≡ g → P
  no_hiding f g v h t e =
      let p = hidden_parts _ _ t in
      option_cases (kind_of f.dataset (codes "tombstone"))
      (λ none. true_false (has_tombstone f.dataset) p.1 (ap is_some none))
      (λ k known. true_false (has_row values f) (row_of values (tombstone_of f) k v known (ap values e ∙ h)) p.0)

  module _ (ws : List FieldWrite) where
    abbrev fs : List FieldNames
    fs = map field ws

    abbrev entry : List Before
    entry = entry_over values fs

    abbrev undone : Values
    undone = with_values (with_values values ws) (undo_values entry)

    all_undo : (P : FieldWrite → Type 0) → ((f : FieldNames) → P (undoing f)) → (xs : List FieldNames) → AllByRecursion P (map undo_of (map (before_of values) xs))
    all_undo P h [] = tt
    all_undo P h (x ∷ xs) = (h x, all_undo P h xs)

    any_undo : (g h : FieldNames) → ((f : FieldNames) → names_eq f g ≡ true → names_eq (undoing f).0 h ≡ true) → (xs : List FieldNames)
        → wrote (λ f. f) xs g ≡ true → wrote field (map undo_of (map (before_of values) xs)) h ≡ true
    any_undo g h k [] t = t
    any_undo g h k (x ∷ xs) t = bool_cases (names_eq x g)
        (λ s. or_left _ _ (k x s))
        (λ f. or_right _ _ (any_undo g h k xs (ap (λ b. b || wrote (λ f. f) xs g) (sym f) ∙ t)))

    -- a field whose writes that undo all have one value
    settled : (g : FieldNames) (v : Value) → ((f : FieldNames) → names_eq (undoing f).0 g ≡ true → (undoing f).1 ≡ v)
        → undone g ≡ cond (wrote field (undo_values entry) g) (Some v) (with_values values ws g)
    settled g v h = agree (with_values values ws) (undo_values entry) g v
        (all_first (λ (w : FieldWrite). names_eq w.0 g ≡ true → w.1 ≡ v) field (map undo_of entry)
        (all_undo (λ (w : FieldWrite). names_eq w.0 g ≡ true → w.1 ≡ v) h (first_of_each (λ f. f) fs)))

    wrote_fields : (xs : List FieldWrite) (g : FieldNames) → wrote (λ f. f) (map field xs) g ≡ wrote field xs g
    wrote_fields [] g = refl
    wrote_fields (x ∷ xs) g = ap (λ b. names_eq x.0 g || b) (wrote_fields xs g)

    -- a written field of which the undo writes this one
    answered : (g h : FieldNames) → ((f : FieldNames) → names_eq f g ≡ true → names_eq (undoing f).0 h ≡ true) → wrote field ws g ≡ true → wrote field (undo_values entry) h ≡ true
    answered g h k t =
        first_wrote field (map undo_of entry) h
        ∙ any_undo g h k (first_of_each (λ f. f) fs) (first_wrote (λ f. f) fs g ∙ wrote_fields ws g ∙ t)

    -- a field that is told by its names
    told : (f g h : FieldNames) (u : FieldWrite) → names_eq f g ≡ true → undoing g ≡ u → names_eq u.0 h ≡ true → names_eq (undoing f).0 h ≡ true
    told f g h u s is names = ap (λ (x : FieldNames). names_eq (undoing x).0 h) (same f g s) ∙ ap (λ (u : FieldWrite). names_eq u.0 h) is ∙ names

    valued : (f : FieldNames) (v : Value) → values f ≡ Some v → undone f ≡ Some v
    valued f v h =
        settled f v (λ x e. by_case x f v e
        (λ u there s. some_is u v (sym there ∙ ap values s ∙ h))
        (λ none t s. no_hiding x f v h t s)
        (λ none t s. none_some (values f) v h (ap values (sym s) ∙ none)))
        ∙ bool_cases (wrote field (undo_values entry) f)
        (λ t. ap (λ b. cond b (Some v) (with_values values ws f)) t)
        (λ n. ap (λ b. cond b (Some v) (with_values values ws f)) n ∙ unwritten values ws f (bool_cases (wrote field ws f)
        (λ t. true_false _ (answered f f (λ x s. told x f f (f, v) s (undo_some f v h) (itself f)) t) n)
        (λ f. f)) ∙ h)

    seen : (f : FieldNames) → (has_row values f ≡ true) ⊎ (has_tombstone f.dataset ≡ false) → hides f ≡ false
    seen f (inl h) = ap (λ b. not b && has_tombstone f.dataset) h
    seen f (inr h) = by (not (has_row values f)) ∙ refl
      where
        by : (b : Bool) → (b && has_tombstone f.dataset) ≡ false
        by true = h
        by false = refl

    unvalued : (f : FieldNames) → values f ≡ None → (has_row values f ≡ true) ⊎ (has_tombstone f.dataset ≡ false) → HasNone undone f
    unvalued f none visible =
        let shows = seen f visible in
        let blank = blank_of (kind_of f.dataset f.column) in
        let is : undone f ≡ cond (wrote field (undo_values entry) f) (Some blank) (with_values values ws f) =
        settled f blank (λ x e. by_case x f blank e
        (λ u there s. none_some (values x) u there (ap values s ∙ none))
        (λ _ t s. true_false (hides x) t (ap hides s ∙ shows))
        (λ _ t s. ap (λ (y : FieldNames). blank_of (kind_of y.dataset y.column)) s)) in
        bool_cases (wrote field (undo_values entry) f)
        (λ t. inr (blank, is ∙ ap (λ b. cond b (Some blank) (with_values values ws f)) t, blank_reads (kind_of f.dataset f.column)))
        (λ n. inl (is ∙ ap (λ b. cond b (Some blank) (with_values values ws f)) n ∙ unwritten values ws f (bool_cases (wrote field ws f)
        (λ t. true_false _ (answered f f (λ x s. told x f f (f, blank) s (undo_clears f none shows) (itself f)) t) n)
        (λ f. f)) ∙ none))

    made : (f : FieldNames) → MakesRow values (with_values values ws) f → undone (tombstone_of f) ≡ Some (Number (pos 1))
    made f m =
        let hidden : hides f ≡ true = ap (λ b. not b && has_tombstone f.dataset) m.new ∙ m.mortal in
        settled (tombstone_of f) (Number (pos 1)) (λ x e. by_case x (tombstone_of f) (Number (pos 1)) e
        (λ u there s. no_hiding f x u there hidden (sym s))
        (λ none t s. refl)
        (λ none t s. true_false _ (ap hides s ∙ hidden) t))
        ∙ ap (λ b. cond b (Some (Number (pos 1))) (with_values values ws (tombstone_of f))) (written hidden)
      where
        written : hides f ≡ true → wrote field (undo_values entry) (tombstone_of f) ≡ true
        written hidden =
            let got = has_got values (with_values values ws) f m.new m.there in
            let g = field_of f.dataset f.row got.column in
            answered g (tombstone_of f) (λ x s. told x g (tombstone_of f) (tombstone_of g, Number (pos 1)) s (undo_hides g got.none hidden) (itself (tombstone_of f)))
            (bool_cases (wrote field ws g) (λ t. t) (λ n. true_false _ got.some (ap is_some (unwritten values ws g n ∙ got.none))))

pub entries_undo : EntriesUndo
entries_undo values ws = record { valued = valued values ws; unvalued = unvalued values ws; made = made values ws }
