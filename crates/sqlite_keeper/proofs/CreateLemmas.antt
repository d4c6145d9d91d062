-- Why the tables can be made where nothing is listed.
use Rattle.std.proofs.Common.{arith, ◌≡◌, ◌⊎◌, ◌≤◌, ◌<◌, ◌+◌, ◌*◌, ◌^◌, ℕ, true, false, List, [], ◌∷◌, Option, Some, None, Ok, Err, inl, inr, refl, sym, ap, subst, ◌∙◌, length, codes, true≢false, IsUtf8}
use Rattle.std.specs.Str.{is_utf8, chars}
use Rattle.std.proofs.lemmas.Str.{IsUtf8-from_is_utf8}
use Rattle.sqlite_value.specs.declared.value.Value.TheVariants.{Text}
use Rattle.sqlite_schema.specs.declared.schema.Table.{Table}
use Rattle.sqlite_schema.specs.declared.schema.Index.{Index}
use Rattle.sqlite_schema.specs.declared.schema.Schema.{Schema}
use Rattle.sqlite_schema.specs.Rules.{table_reals, index_reals}
use Rattle.sqlite_rules.specs.Lists.{Has}
use Rattle.sqlite_catalog.specs.declared.error.Refusal.{Refusal}
use Rattle.sqlite_catalog.specs.declared.error.Refusal.TheVariants.{Invalid, NameTaken, BadName, TooBig, BadKey, BadText, Violates}
use Rattle.sqlite_catalog.specs.Calls.{RefusesTable, IsLongTable}
use Rattle.sqlite_catalog.specs.Change.{created, next_tree, is_used, is_reserved, automatics}
use Rattle.sqlite_catalog.specs.Listing.{is_formed, is_fit, automatic}
use Rattle.sqlite.specs.Compile.{table_defined_by}
use Rattle.sqlite.specs.Command.TheVariants.{CreateTable}
use Rattle.sqlite.specs.declared.error.Error.{Error}
use Rattle.sqlite.specs.Effect.{Database}
use Rattle.sqlite.specs.Does.{Does, MakesTable, lacks_sequence, sequence_text}
use Rattle.std.specs.Prelude.{◌==◌}
use Rattle.store_tables.specs.Tables.{grps, counters, entries, named, with_groups, with_entries}
use Rattle.sqlite_keeper.specs.Tables.{no_schema}
use Rattle.store_tables.specs.Grouped.{mode}
use Rattle.store_tables.specs.Texts.{grps_text, entries_text, named_text}
use Rattle.store_tables.proofs.TextLemmas.{all_texts, making_texts}

-- no name of the table is used, and it is well formed and small
pub record Fresh (schema : Schema) (text : List ℕ) (table : Table) : Type 0 where
  pub defined : table_defined_by text ≡ Ok table
  pub unused : is_used schema table.name ≡ false
  pub keys : (index : Index) → Has (automatics table 0 0 table.uniques) index → is_used schema index.name ≡ false
  pub readable : IsUtf8 text
  pub name : IsUtf8 table.name
  pub unreserved : is_reserved table.name ≡ true → (length table.uniques == 0) ≡ false → ⊥
  pub room : next_tree schema + length table.uniques < 65536
  pub reals : table_reals table < 2 ^ 64
  pub entries : (key : List ℕ) → Has table.uniques key → index_reals (table_reals table) key < 2 ^ 64
  pub formed : is_formed table ≡ true
  pub fit : is_fit (Text (codes "table")) (Text table.name) (Text table.name) (Text text) ≡ true
  pub short : 2 * length table.name + length text + 200 < 10 ^ 9

module _ (schema : Schema) (text : List ℕ) (table : Table) (fresh : Fresh schema text table) where
  same : (other : Table) → table_defined_by text ≡ Ok other → other ≡ table
  same other h = let both : Ok other ≡ Ok table = sym h ∙ fresh.defined in cc

  unrefused : (why : Refusal) → RefusesTable schema text why → ⊥
  unrefused (Invalid e) h = let both = sym h ∙ fresh.defined in cc
  unrefused NameTaken h = elim (subst (λ (t : Table). (is_used schema t.name ≡ true) ⊎ ((index : Index) × Has (automatics t 0 0 t.uniques) index × (is_used schema index.name ≡ true))) (same h.0 h.1) h.2) [
    | inl used ↦ true≢false (sym used ∙ fresh.unused)
    | inr key ↦ true≢false (sym key.2 ∙ fresh.keys key.0 key.1)
  ]
  unrefused BadName h = elim h.2 [
    | inl bad ↦ bad (subst (λ (t : Table). IsUtf8 t.name) (sym (same h.0 h.1)) fresh.name)
    | inr own ↦ fresh.unreserved (sym (ap (λ (t : Table). is_reserved t.name) (same h.0 h.1)) ∙ own.0) (sym (ap (λ (t : Table). length t.uniques == 0) (same h.0 h.1)) ∙ own.1)
  ]
  unrefused TooBig h =
      let big = subst (λ (t : Table). (65536 ≤ next_tree schema + length t.uniques) ⊎ ((2 ^ 64 ≤ table_reals t) ⊎ ((key : List ℕ) × Has t.uniques key × (2 ^ 64 ≤ index_reals (table_reals t) key)))) (same h.0 h.1) h.2 in
      elim big [
        | inl room ↦ omega (arith, room, fresh.room)
        | inr other ↦ elim other [ inl reals ↦ omega (arith, reals, fresh.reals) | inr key ↦ omega (arith, key.2, fresh.entries key.0 key.1) ]
      ]
  unrefused BadKey h = true≢false (sym fresh.formed ∙ ap is_formed (sym (same h.0 h.1)) ∙ h.2)
  unrefused BadText h =
      true≢false (sym fresh.fit ∙ ap (λ (t : Table). is_fit (Text (codes "table")) (Text t.name) (Text t.name) (Text text)) (sym (same h.0 h.1)) ∙ h.2)
  unrefused (Violates rule) h = h

  stored : IsLongTable text → ⊥
  stored h = let long = subst (λ (t : Table). 10 ^ 9 ≤ 2 * length t.name + length text + 200) (same h.0 h.1) h.2 in omega (arith, long, fresh.short)

  pub unmade : (db : Database) → db.schema ≡ schema → (stop : Option Error) → MakesTable text db (Err stop) → ⊥
  unmade db has None h = stored h
  unmade db has (Some e) (inl h) = h.0 fresh.readable
  unmade db has (Some e) (inr h) = unrefused h.0 (subst (λ s. RefusesTable s text h.0) has h.1)

  pub creates : lacks_sequence (created schema table) ≡ false → (limit : Option ℕ) (db : Database) → db.schema ≡ schema → (stop : Option Error) → Does limit mode [] db text None CreateTable (Err stop) → ⊥
  creates uncounted limit db has stop (inr h) = let e = h.2 in cc
  creates uncounted limit db has stop (inl h) = elim h.1 [
    | inl first ↦ unmade db has first.0 first.1
    | inr next ↦ (
        let is : next.0.schema ≡ created schema table = next.1.is ∙ (λ i. created (has i) (same next.1.table next.1.defined i)) in
        let lacks : lacks_sequence next.0.schema ≡ false = ap lacks_sequence is ∙ uncounted in
        let e = rw lacks at next.2 in cc)
  ]

  -- where SQLite's own table is made behind it
  pub creates_both : lacks_sequence (created schema table) ≡ true → Fresh (created schema table) sequence_text (counters 0) → (limit : Option ℕ) (db : Database) → db.schema ≡ schema → (stop : Option Error) → Does limit mode [] db text None CreateTable (Err stop) → ⊥
  creates_both counted own limit db has stop (inr h) = let e = h.2 in cc
  creates_both counted own limit db has stop (inl h) = elim h.1 [
    | inl first ↦ unmade db has first.0 first.1
    | inr next ↦ (
        let is : next.0.schema ≡ created schema table = next.1.is ∙ (λ i. created (has i) (same next.1.table next.1.defined i)) in
        let lacks : lacks_sequence next.0.schema ≡ true = ap lacks_sequence is ∙ counted in
        Rattle.sqlite_keeper.proofs.CreateLemmas.unmade (created schema table) sequence_text (counters 0) own next.0 is h.0 (rw lacks at next.2))
  ]

-- ---- grps

grps_free : is_used no_schema (grps 0).name ≡ false
unfolding Rattle.sqlite_schema.specs.Names.same_name
grps_free = refl

grps_key_name : is_used no_schema (automatic (grps 0) 0 (2 ∷ []) 0).name ≡ false
unfolding Rattle.sqlite_schema.specs.Names.same_name
grps_key_name = refl

grps_key : (index : Index) → Has (automatics (grps 0) 0 0 (grps 0).uniques) index → is_used no_schema index.name ≡ false
grps_key index (inl is) = ap (λ (i : Index). is_used no_schema i.name) is ∙ grps_key_name
grps_key index (inr never) = absurd never

grps_entry : (key : List ℕ) → Has (grps 0).uniques key → index_reals (table_reals (grps 0)) key < 2 ^ 64
grps_entry key (inl is) = rw is (omega arith)
grps_entry key (inr never) = absurd never

grps_reserved : is_reserved (grps 0).name ≡ false
unfolding Rattle.sqlite_schema.specs.Names.same_name
grps_reserved = refl

grps_fit : is_fit (Text (codes "table")) (Text (grps 0).name) (Text (grps 0).name) (Text grps_text) ≡ true
unfolding Rattle.sqlite_trees.specs.Sound.fits_kind Rattle.sqlite_trees.specs.Sound.is_free_name Rattle.sqlite_trees.specs.Sound.same_name Rattle.sqlite_trees.specs.Sound.begins Rattle.sqlite_value.specs.Order.value_cmp lib.Ieee.is_nan lib.Ieee.lt
grps_fit = refl

grps_utf8 : (is_utf8 grps_text ≡ true) × (is_utf8 (grps 0).name ≡ true)
unfolding is_utf8 chars lib.Utf8.encode
grps_utf8 = (refl, refl)

pub grps_fresh : Fresh no_schema grps_text (grps 0)
grps_fresh = record {
  defined = all_texts.grps_defined;
  unused = grps_free;
  keys = grps_key;
  readable = IsUtf8-from_is_utf8 _ grps_utf8.0;
  name = IsUtf8-from_is_utf8 _ grps_utf8.1;
  unreserved = λ own other. true≢false (sym own ∙ grps_reserved);
  room = omega arith;
  reals = omega arith;
  entries = grps_entry;
  formed = refl;
  fit = grps_fit;
  short = omega arith;
}

-- ---- counters

counters_free : is_used (created no_schema (grps 0)) (counters 0).name ≡ false
unfolding Rattle.sqlite_schema.specs.Names.same_name
counters_free = refl

counters_fit : is_fit (Text (codes "table")) (Text (counters 0).name) (Text (counters 0).name) (Text sequence_text) ≡ true
unfolding Rattle.sqlite_trees.specs.Sound.fits_kind Rattle.sqlite_trees.specs.Sound.is_free_name Rattle.sqlite_trees.specs.Sound.same_name Rattle.sqlite_trees.specs.Sound.begins Rattle.sqlite_value.specs.Order.value_cmp lib.Ieee.is_nan lib.Ieee.lt
counters_fit = refl

counters_utf8 : (is_utf8 sequence_text ≡ true) × (is_utf8 (counters 0).name ≡ true)
unfolding is_utf8 chars lib.Utf8.encode
counters_utf8 = (refl, refl)

pub counters_fresh : Fresh (created no_schema (grps 0)) sequence_text (counters 0)
counters_fresh = record {
  defined = all_texts.counters_defined;
  unused = counters_free;
  keys = λ index never. absurd never;
  readable = IsUtf8-from_is_utf8 _ counters_utf8.0;
  name = IsUtf8-from_is_utf8 _ counters_utf8.1;
  unreserved = λ own other. true≢false other;
  room = omega arith;
  reals = omega arith;
  entries = λ key never. absurd never;
  formed = refl;
  fit = counters_fit;
  short = omega arith;
}

-- ---- entries

entries_free : is_used (with_groups no_schema) (entries 0).name ≡ false
unfolding Rattle.sqlite_schema.specs.Names.same_name
entries_free = refl

entries_key_name : is_used (with_groups no_schema) (automatic (entries 0) 0 (1 ∷ 2 ∷ []) 0).name ≡ false
unfolding Rattle.sqlite_schema.specs.Names.same_name
entries_key_name = refl

entries_key : (index : Index) → Has (automatics (entries 0) 0 0 (entries 0).uniques) index → is_used (with_groups no_schema) index.name ≡ false
entries_key index (inl is) = ap (λ (i : Index). is_used (with_groups no_schema) i.name) is ∙ entries_key_name
entries_key index (inr never) = absurd never

entries_entry : (key : List ℕ) → Has (entries 0).uniques key → index_reals (table_reals (entries 0)) key < 2 ^ 64
entries_entry key (inl is) = rw is (omega arith)
entries_entry key (inr never) = absurd never

entries_reserved : is_reserved (entries 0).name ≡ false
unfolding Rattle.sqlite_schema.specs.Names.same_name
entries_reserved = refl

entries_fit : is_fit (Text (codes "table")) (Text (entries 0).name) (Text (entries 0).name) (Text entries_text) ≡ true
unfolding Rattle.sqlite_trees.specs.Sound.fits_kind Rattle.sqlite_trees.specs.Sound.is_free_name Rattle.sqlite_trees.specs.Sound.same_name Rattle.sqlite_trees.specs.Sound.begins Rattle.sqlite_value.specs.Order.value_cmp lib.Ieee.is_nan lib.Ieee.lt
entries_fit = refl

entries_utf8 : (is_utf8 entries_text ≡ true) × (is_utf8 (entries 0).name ≡ true)
unfolding is_utf8 chars lib.Utf8.encode
entries_utf8 = (refl, refl)

pub entries_fresh : Fresh (with_groups no_schema) entries_text (entries 0)
entries_fresh = record {
  defined = all_texts.entries_defined;
  unused = entries_free;
  keys = entries_key;
  readable = IsUtf8-from_is_utf8 _ entries_utf8.0;
  name = IsUtf8-from_is_utf8 _ entries_utf8.1;
  unreserved = λ own other. true≢false (sym own ∙ entries_reserved);
  room = omega arith;
  reals = omega arith;
  entries = entries_entry;
  formed = refl;
  fit = entries_fit;
  short = omega arith;
}

-- ---- named

named_free : is_used (with_entries no_schema) (named 0).name ≡ false
unfolding Rattle.sqlite_schema.specs.Names.same_name
named_free = refl

named_key_name : is_used (with_entries no_schema) (automatic (named 0) 0 (1 ∷ []) 0).name ≡ false
unfolding Rattle.sqlite_schema.specs.Names.same_name
named_key_name = refl

named_key : (index : Index) → Has (automatics (named 0) 0 0 (named 0).uniques) index → is_used (with_entries no_schema) index.name ≡ false
named_key index (inl is) = ap (λ (i : Index). is_used (with_entries no_schema) i.name) is ∙ named_key_name
named_key index (inr never) = absurd never

named_entry : (key : List ℕ) → Has (named 0).uniques key → index_reals (table_reals (named 0)) key < 2 ^ 64
named_entry key (inl is) = rw is (omega arith)
named_entry key (inr never) = absurd never

named_reserved : is_reserved (named 0).name ≡ false
unfolding Rattle.sqlite_schema.specs.Names.same_name
named_reserved = refl

named_fit : is_fit (Text (codes "table")) (Text (named 0).name) (Text (named 0).name) (Text named_text) ≡ true
unfolding Rattle.sqlite_trees.specs.Sound.fits_kind Rattle.sqlite_trees.specs.Sound.is_free_name Rattle.sqlite_trees.specs.Sound.same_name Rattle.sqlite_trees.specs.Sound.begins Rattle.sqlite_value.specs.Order.value_cmp lib.Ieee.is_nan lib.Ieee.lt
named_fit = refl

named_utf8 : (is_utf8 named_text ≡ true) × (is_utf8 (named 0).name ≡ true)
unfolding is_utf8 chars lib.Utf8.encode
named_utf8 = (refl, refl)

pub named_fresh : Fresh (with_entries no_schema) named_text (named 0)
named_fresh = record {
  defined = making_texts.named_defined;
  unused = named_free;
  keys = named_key;
  readable = IsUtf8-from_is_utf8 _ named_utf8.0;
  name = IsUtf8-from_is_utf8 _ named_utf8.1;
  unreserved = λ own other. true≢false (sym own ∙ named_reserved);
  room = omega arith;
  reals = omega arith;
  entries = named_entry;
  formed = refl;
  fit = named_fit;
  short = omega arith;
}
