-- What a sound database says of the rows of the two tables.
use Rattle.std.proofs.Common.{◌+◌, ◌≡◌, ℕ, Bool, true, false, not, ◌&&◌, List, [], ◌∷◌, inl, inr, refl, sym, ap, subst, ◌∙◌, true≢false, Ordering, Less, Equal, Greater, IsTrue}
use Rattle.std.specs.Ordering.{is_eq, is_ne}
use Rattle.std.specs.List.{AllByRecursion}
use Rattle.std.proofs.lemmas.Cmp.{tied_itself}
use Rattle.std.proofs.lemmas.Bool.{and_parts, and_from, cases_Bool, not-true}
use Rattle.sqlite_value.specs.declared.value.Value.{Value}
use Rattle.sqlite_value.specs.declared.value.Value.TheVariants.{Null, Int, Real, Text, Blob}
use Rattle.sqlite_value.specs.Order.{Row, column, bytes, value_cmp}
use Rattle.sqlite_trees.specs.Tree.{Trees, rowid, IsTable}
use Rattle.sqlite_trees.specs.View.{is_int}
use Rattle.sqlite_sql.specs.Ops.{binary, is_null, is_true}
use Rattle.sqlite_schema.specs.declared.schema.Constraint.TheVariants.{Datatype, NotNull, Unique}
use Rattle.sqlite_schema.specs.declared.schema.Schema.{Schema}
use Rattle.sqlite_schema.specs.declared.schema.Table.{Table}
use Rattle.sqlite_schema.specs.declared.schema.Index.{Index}
use Rattle.sqlite_schema.specs.declared.schema.Kind.TheVariants as kind
use Rattle.sqlite_schema.specs.Rules.{agree, differ, clashes, guards, Keeps, Fits, is_of, passes}
use Rattle.sqlite_value.specs.Keys.{first_key}
use Rattle.sqlite_rules.specs.Lists.{Has}
use Rattle.sqlite_catalog.specs.Listing.{automatic}
use Rattle.sqlite_rules.specs.Edit.{id_in}
use Rattle.sqlite_rules.proofs.ListLemmas.{all_has, test_has, some_from}
use Rattle.sqlite_rules.proofs.RuleLemmas.{keeps_at}
use Rattle.sqlite_rules.proofs.PlaceLemmas.{tied_same}
use Rattle.std.proofs.Common.{None, Some}
use Rattle.sqlite_sql.specs.declared.ops.BinaryOp.TheVariants.{Compare}
use Rattle.sqlite_sql.specs.declared.ops.CompareOp.TheVariants.{Eq}
use Rattle.sqlite_value.specs.declared.keys.Collation.TheVariants.{Binary}
use Rattle.sqlite_value.proofs.OrderLemmas.{value_cmp-Text}
use Rattle.sqlite_sql.specs.Ops.{from_truth}
use Rattle.sqlite.specs.Effect.{IsDatabase}
use Rattle.store_tables.specs.Joined.{text_cmp, Place, item_place}
use Rattle.store_tables.specs.Named.{NamedAt, IsNamed, name_of, text_of}
use Rattle.sqlite.specs.Effect.{IsDatabase}
use Rattle.store_tables.specs.Tables.{items, named, grps, entries, first_schema, moved_schema}
use Rattle.store_tables.specs.Texts.{Tables}
use Rattle.store_tables.specs.Layout.{Layout, Rises, Rules}
use Rattle.budget_ports.proofs.Places.{text_total, text_same}

abbrev pub AreInts : List Row → Type 0
AreInts = AllByRecursion (λ r. IsTrue (is_int (rowid r)))

equal_of : (o : Ordering) → is_ne o ≡ false → o ≡ Equal
equal_of Less h = absurd (true≢false h)
equal_of Equal h = refl
equal_of Greater h = absurd (true≢false h)

same_ids : (a b : Value) → is_int a ≡ true → is_int b ≡ true → differ a b ≡ false → value_cmp a b ≡ Equal
unfolding binary
same_ids a b p q h =
    let k = rw (int_is_value a p, int_is_value b q) at h in
    rw (int_is_value a p, int_is_value b q) (go _ k)
  where
    int_is_value : (v : Value) → is_int v ≡ true → v ≡ Int (id_in v)
    int_is_value Null h = absurd (true≢false (sym h))
    int_is_value (Int n) h = refl
    int_is_value (Real x) h = absurd (true≢false (sym h))
    int_is_value (Text t) h = absurd (true≢false (sym h))
    int_is_value (Blob b) h = absurd (true≢false (sym h))

    go : (o : Ordering) → is_true (Rattle.sqlite_sql.specs.Ops.from_truth (Rattle.std.proofs.Common.Some (is_ne o))) ≡ false → o ≡ Equal
    go Less h = absurd (true≢false h)
    go Equal h = refl
    go Greater h = absurd (true≢false h)

-- two rows with one key under a unique index are one
pub one_row : (schema : Schema) (db : Trees) (t : Table) (i : Index) → Keeps Unique schema db → Has schema.tables t → Has schema.indexes i → guards i t ≡ true
    → IsTable (db t.tree) → AreInts (db t.tree) → (a b : Row) → Has (db t.tree) a → Has (db t.tree) b → agree i.order i.columns a i.columns b ≡ true → a ≡ b
one_row schema db t i keeps listed indexed guarded up ints a b at_a at_b same =
    let passed = test_has (λ i. not (guards i t && clashes i.order i.columns (db t.tree) b)) schema.indexes i (keeps_at Unique schema db t b keeps listed at_b) indexed in
    let both : (guards i t && clashes i.order i.columns (db t.tree) b) ≡ false = not-true _ passed in
    let free : clashes i.order i.columns (db t.tree) b ≡ false = rw guarded at both in
    elim (cases_Bool (differ (rowid a) (rowid b))) [
      | inl other ↦ absurd (true≢false (sym (some_from (λ x. agree i.order i.columns x i.columns b && differ (rowid x) (rowid b)) (db t.tree) a at_a (and_from _ _ same other)) ∙ free))
      | inr alike ↦ tied_same (db t.tree) a b up at_a at_b (same_ids _ _ (all_has _ (db t.tree) a ints at_a) (all_has _ (db t.tree) b ints at_b) alike)
    ]

pub is_text : (v : Value) → is_of kind.Text v ≡ true → is_null v ≡ false → v ≡ Text (bytes v)
is_text Null p q = absurd (true≢false q)
is_text (Int n) p q = absurd (true≢false (sym p))
is_text (Real x) p q = absurd (true≢false (sym p))
is_text (Text t) p q = refl
is_text (Blob b) p q = absurd (true≢false (sym p))

-- ---- the table of names

pub truth_of : (b : Bool) → is_true (from_truth (Some b)) ≡ b
truth_of true = refl
truth_of false = refl

pub equal_texts : (a b : List ℕ) → is_true (binary (Compare Eq Binary) (Text a) (Text b)) ≡ is_eq (text_cmp a b)
unfolding binary
equal_texts a b = truth_of _ ∙ ap is_eq (value_cmp-Text a b)

eq_is : (o : Ordering) → is_eq o ≡ true → o ≡ Equal
eq_is Less h = absurd (true≢false (sym h))
eq_is Equal h = refl
eq_is Greater h = absurd (true≢false (sym h))

pub same_texts : (a b : List ℕ) → is_true (binary (Compare Eq Binary) (Text a) (Text b)) ≡ true → a ≡ b
same_texts a b h = text_same a b (eq_is _ (sym (equal_texts a b) ∙ h))

pub texts_same : (a : List ℕ) → is_true (binary (Compare Eq Binary) (Text a) (Text a)) ≡ true
texts_same a = equal_texts a a ∙ ap is_eq (tied_itself text_total a)

-- SQL's equality of two integers
pub equal_values : (a b : Value) → is_int a ≡ true → is_int b ≡ true → (is_true (binary (Compare Eq Binary) a b) ≡ true → value_cmp a b ≡ Equal) × (value_cmp a b ≡ Equal → is_true (binary (Compare Eq Binary) a b) ≡ true)
unfolding binary
equal_values Null b p q = absurd (true≢false (sym p))
equal_values (Real x) b p q = absurd (true≢false (sym p))
equal_values (Text t) b p q = absurd (true≢false (sym p))
equal_values (Blob t) b p q = absurd (true≢false (sym p))
equal_values (Int m) Null p q = absurd (true≢false (sym q))
equal_values (Int m) (Real x) p q = absurd (true≢false (sym q))
equal_values (Int m) (Text x) p q = absurd (true≢false (sym q))
equal_values (Int m) (Blob x) p q = absurd (true≢false (sym q))
equal_values (Int m) (Int n) p q = ((λ h. eq_is _ (sym (truth_of _) ∙ h)), (λ h. truth_of _ ∙ ap is_eq h))

pub is_whole : (v : Value) → is_of kind.Integer v ≡ true → is_null v ≡ false → v ≡ Int (id_in v)
is_whole Null p q = absurd (true≢false q)
is_whole (Int n) p q = refl
is_whole (Real x) p q = absurd (true≢false (sym p))
is_whole (Text t) p q = absurd (true≢false (sym p))
is_whole (Blob b) p q = absurd (true≢false (sym p))

-- ---- the two tables

pub rules_of : (schema : Schema) (db : Trees) → IsDatabase (record { schema = schema; trees = db }) → Rules schema db
rules_of schema db sound = record { typed = sound.obeys.rules Datatype; present = sound.obeys.rules NotNull; unique = sound.obeys.rules Unique }

pub fit_rules : (schema : Schema) (db : Trees) → Fits schema db → Rules schema db
fit_rules schema db fits = record { typed = fits.rules Datatype (λ e. cc); present = fits.rules NotNull (λ e. cc); unique = fits.rules Unique (λ e. cc) }

entry_row : (r : Row) → Rattle.sqlite_schema.specs.Rules.are_typed None 0 (entries 0).columns (Rattle.std.proofs.Common.drop 1 r) ≡ true → Rattle.sqlite_schema.specs.Rules.are_present None 0 (entries 0).columns r ≡ true
    → (column r 1 ≡ Int (id_in (column r 1))) × (column r 2 ≡ Text (bytes (column r 2))) × (column r 3 ≡ Text (bytes (column r 3)))
entry_row [] p q = absurd (true≢false (sym q))
entry_row (x ∷ []) p q = absurd (true≢false (sym q))
entry_row (x ∷ v ∷ []) p q = absurd (true≢false (sym (and_parts _ _ q).1))
entry_row (x ∷ v ∷ w ∷ []) p q = absurd (true≢false (sym (and_parts _ _ (and_parts _ _ q).1).1))
entry_row (x ∷ v ∷ w ∷ u ∷ more) p q =
    let t = and_parts _ _ p in
    let n = and_parts _ _ q in
    let t2 = and_parts _ _ t.1 in
    let n2 = and_parts _ _ n.1 in
    (is_whole v t.0 (not-true _ n.0), is_text w t2.0 (not-true _ n2.0), is_text u (and_parts _ _ t2.1).0 (not-true _ (and_parts _ _ n2.1).0))

group_row : (r : Row) → Rattle.sqlite_schema.specs.Rules.are_typed (Some 0) 0 (grps 0).columns (Rattle.std.proofs.Common.drop 1 r) ≡ true → Rattle.sqlite_schema.specs.Rules.are_present (Some 0) 0 (grps 0).columns r ≡ true
    → column r 2 ≡ Text (bytes (column r 2))
group_row [] p q = absurd (true≢false (sym q))
group_row (x ∷ []) p q = absurd (true≢false (sym q))
group_row (x ∷ v ∷ []) p q = absurd (true≢false (sym q))
group_row (x ∷ v ∷ w ∷ more) p q = is_text w (and_parts _ _ (and_parts _ _ p).1).0 (not-true _ (and_parts _ _ q).0)

module _ (t : Tables) (l : Layout t) (db : Trees) (rules : Rules t.schema db) where
  pub entry_typed : (r : Row) → Has (db t.entries_tree) r → (column r 1 ≡ Int (id_in (column r 1))) × (column r 2 ≡ Text (bytes (column r 2))) × (column r 3 ≡ Text (bytes (column r 3)))
  entry_typed r there =
      entry_row r (and_parts _ _ (keeps_at Datatype t.schema db (entries t.entries_tree) r rules.typed l.has_entries there)).0
      (keeps_at NotNull t.schema db (entries t.entries_tree) r rules.present l.has_entries there)

  pub group_typed : (r : Row) → Has (db t.grps_tree) r → column r 2 ≡ Text (bytes (column r 2))
  group_typed r there =
      group_row r (and_parts _ _ (keeps_at Datatype t.schema db (grps t.grps_tree) r rules.typed l.has_grps there)).0
      (keeps_at NotNull t.schema db (grps t.grps_tree) r rules.present l.has_grps there)

  -- a name has one group
  pub group_once : Rises (db t.grps_tree) → (a b : Row) → Has (db t.grps_tree) a → Has (db t.grps_tree) b → bytes (column a 2) ≡ bytes (column b 2) → a ≡ b
  unfolding first_key
  group_once rises a b at_a at_b same =
      let is : is_true (binary (Compare Eq Binary) (column a 2) (column b 2)) ≡ true =
      rw (group_typed a at_a, group_typed b at_b, same) (texts_same (bytes (column b 2))) in
      one_row t.schema db (grps t.grps_tree) (automatic (grps t.grps_tree) 0 (2 ∷ []) (t.grps_tree + 1)) rules.unique l.has_grps l.grps_indexed l.grps_guarded rises.up rises.ints a b at_a at_b (and_from _ _ is refl)

  -- an id and a key have one entry
  pub entry_once : Rises (db t.entries_tree) → (a b : Row) → Has (db t.entries_tree) a → Has (db t.entries_tree) b
      → is_true (binary (Compare Eq Binary) (column a 1) (column b 1)) ≡ true → bytes (column a 2) ≡ bytes (column b 2) → a ≡ b
  unfolding first_key
  entry_once rises a b at_a at_b one same =
      let two : is_true (binary (Compare Eq Binary) (column a 2) (column b 2)) ≡ true = rw ((entry_typed a at_a).1, (entry_typed b at_b).1, same) (texts_same (bytes (column b 2))) in
      one_row t.schema db (entries t.entries_tree) (automatic (entries t.entries_tree) 0 (1 ∷ 2 ∷ []) (t.entries_tree + 1)) rules.unique l.has_entries l.entries_indexed l.entries_guarded rises.up rises.ints a b at_a at_b
      (and_from _ _ one (and_from _ _ two refl))

-- ---- the table of texts

named_row : (r : Row) → Rattle.sqlite_schema.specs.Rules.are_typed None 0 (named 0).columns (Rattle.std.proofs.Common.drop 1 r) ≡ true → Rattle.sqlite_schema.specs.Rules.are_present None 0 (named 0).columns r ≡ true
    → (column r 1 ≡ Text (name_of r)) × (column r 2 ≡ Text (text_of r))
named_row [] p q = absurd (true≢false (sym q))
named_row (x ∷ []) p q = absurd (true≢false (sym q))
named_row (x ∷ v ∷ []) p q = absurd (true≢false (sym (and_parts _ _ q).1))
named_row (x ∷ v ∷ w ∷ more) p q =
    let t = and_parts _ _ p in
    let n = and_parts _ _ q in
    (is_text v t.0 (not-true _ n.0), is_text w (and_parts _ _ t.1).0 (not-true _ (and_parts _ _ n.1).0))

module _ (spot : NamedAt) (laid : IsNamed spot) (db : Trees) (rules : Rules spot.schema db) where
  pub named_typed : (r : Row) → Has (db spot.tree) r → (column r 1 ≡ Text (name_of r)) × (column r 2 ≡ Text (text_of r))
  named_typed r there =
      named_row r (and_parts _ _ (keeps_at Datatype spot.schema db (named spot.tree) r rules.typed laid.has there)).0
      (keeps_at NotNull spot.schema db (named spot.tree) r rules.present laid.has there)

  -- a name has one row
  pub named_once : Rises (db spot.tree) → (a b : Row) → Has (db spot.tree) a → Has (db spot.tree) b → name_of a ≡ name_of b → a ≡ b
  unfolding first_key
  named_once rises a b at_a at_b same =
      let is : is_true (binary (Compare Eq Binary) (column a 1) (column b 1)) ≡ true =
      rw ((named_typed a at_a).0, (named_typed b at_b).0, same) (texts_same (name_of b)) in
      one_row spot.schema db (named spot.tree) (automatic (named spot.tree) 0 (1 ∷ []) (spot.tree + 1)) rules.unique laid.has laid.indexed laid.guarded rises.up rises.ints a b at_a at_b (and_from _ _ is refl)

-- ---- the records of the first version

items_row : (r : Row) → Rattle.sqlite_schema.specs.Rules.are_typed None 0 (items 0).columns (Rattle.std.proofs.Common.drop 1 r) ≡ true → Rattle.sqlite_schema.specs.Rules.are_present None 0 (items 0).columns r ≡ true
    → (column r 1 ≡ Text (bytes (column r 1))) × (column r 2 ≡ Text (bytes (column r 2))) × (column r 3 ≡ Text (bytes (column r 3)))
items_row [] p q = absurd (true≢false (sym q))
items_row (x ∷ []) p q = absurd (true≢false (sym q))
items_row (x ∷ v ∷ []) p q = absurd (true≢false (sym (and_parts _ _ q).1))
items_row (x ∷ v ∷ w ∷ []) p q = absurd (true≢false (sym (and_parts _ _ (and_parts _ _ q).1).1))
items_row (x ∷ v ∷ w ∷ u ∷ more) p q =
    let t = and_parts _ _ p in
    let n = and_parts _ _ q in
    let t2 = and_parts _ _ t.1 in
    let n2 = and_parts _ _ n.1 in
    (is_text v t.0 (not-true _ n.0), is_text w t2.0 (not-true _ n2.0), is_text u (and_parts _ _ t2.1).0 (not-true _ (and_parts _ _ n2.1).0))

module _ (db : Trees) (rules : Rules first_schema db) where
  pub items_typed : (r : Row) → Has (db 0) r → (column r 1 ≡ Text (bytes (column r 1))) × (column r 2 ≡ Text (bytes (column r 2))) × (column r 3 ≡ Text (bytes (column r 3)))
  items_typed r there =
      items_row r (and_parts _ _ (keeps_at Datatype first_schema db (items 0) r rules.typed (inl refl) there)).0
      (keeps_at NotNull first_schema db (items 0) r rules.present (inl refl) there)

  -- a place has one row
  pub items_once : Rises (db 0) → (a b : Row) → Has (db 0) a → Has (db 0) b → item_place a ≡ item_place b → a ≡ b
  unfolding first_key
  items_once rises a b at_a at_b same =
      let typed_a = items_typed a at_a in
      let typed_b = items_typed b at_b in
      let one : is_true (binary (Compare Eq Binary) (column a 1) (column b 1)) ≡ true = rw (typed_a.0, typed_b.0, ap (λ (p : Place). p.0) same) (texts_same (bytes (column b 1))) in
      let two : is_true (binary (Compare Eq Binary) (column a 2) (column b 2)) ≡ true = rw (typed_a.1, typed_b.1, ap (λ (p : Place). p.1) same) (texts_same (bytes (column b 2))) in
      one_row first_schema db (items 0) (automatic (items 0) 0 (1 ∷ 2 ∷ []) 1) rules.unique (inl refl) (inl refl) refl rises.up rises.ints a b at_a at_b (and_from _ _ one (and_from _ _ two refl))

-- and so where the tables of the second version stand behind it
pub items_moved : (db : Trees) → Rules moved_schema db → (r : Row) → Has (db 0) r → (column r 1 ≡ Text (bytes (column r 1))) × (column r 2 ≡ Text (bytes (column r 2))) × (column r 3 ≡ Text (bytes (column r 3)))
items_moved db rules r there =
    items_row r (and_parts _ _ (keeps_at Datatype moved_schema db (items 0) r rules.typed (inl refl) there)).0
    (keeps_at NotNull moved_schema db (items 0) r rules.present (inl refl) there)
