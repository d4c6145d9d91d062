-- The statements of the migration but the copies.
use Rattle.std.proofs.Common.{arith, ◌≡◌, ℕ, ℤ, List, [], ◌∷◌, Option, None, Ok, true, false, not, inl, inr, refl, sym, ap, subst, ◌∙◌, true≢false, IsTrue}
use Rattle.std.specs.Ordering.{is_eq}
use Rattle.std.proofs.lemmas.Bool.{not-true}
use Rattle.std.proofs.lemmas.Cmp.{tied_itself}
use Rattle.sqlite_value.specs.declared.value.Value.{Value}
use Rattle.sqlite_value.specs.declared.value.Value.TheVariants.{Null, Int, Real, Text, Blob}
use Rattle.sqlite_value.specs.Order.{Row, column, value_cmp}
use Rattle.sqlite_value.proofs.OrderLemmas.{value_cmp_total}
use Rattle.sqlite_trees.specs.Tree.{Trees, rowid, has_rowid, without_rowid}
use Rattle.sqlite_trees.specs.View.{is_int}
use Rattle.sqlite_sql.specs.Program.{overlay}
use Rattle.sqlite_rules.specs.Lists.{Has}
use Rattle.sqlite_rules.proofs.ListLemmas.{all_has, has_filtered}
use Rattle.sqlite_rules.proofs.ProbeLemmas.{mapped_has}
use Rattle.sqlite_rules.proofs.TableLemmas.{without_all_has}
use Rattle.sqlite.specs.Term.{col}
use Rattle.sqlite_schema.specs.declared.schema.Table.{Table}
use Rattle.sqlite_schema.specs.declared.schema.Schema.{Schema}
use Rattle.sqlite_schema.specs.declared.schema.Keys.TheVariants.{Enforced}
use Rattle.sqlite_catalog.specs.Change.{created, next_tree, KeepsRows}
use Rattle.sqlite_catalog.specs.Calls.{CreatesTable}
use Rattle.sqlite_rules.specs.declared.error.Rowids.TheVariants.{Given}
use Rattle.sqlite_rules.specs.Calls.{ids_of}
use Rattle.sqlite_rules.specs.Edit.{edit_of, id_in, without_all, Applies}
use Rattle.sqlite.specs.Compile.{table_defined_by}
use Rattle.sqlite.specs.Command.TheVariants.{CreateTable}
use Rattle.sqlite.specs.Effect.{Database}
use Rattle.sqlite.specs.Does.{Tally, Does, sequence_text, lacks_sequence}
use Rattle.sqlite.specs.Rows.{Written}
use Rattle.sqlite.proofs.Callers.{one_step}
use Rattle.store_tables.specs.Tables.{items, grps, counters, entries, first_schema, with_groups, moved_schema}
use Rattle.store_tables.specs.Texts.{grps_text, entries_text}
use Rattle.store_tables.specs.Grouped.{mode}
use Rattle.store_tables.specs.Layout.{Rises}
use Rattle.store_tables.proofs.Lists.{Shows, shows, shows_same}
use Rattle.store_tables.specs.Moving.{HasMade, MakesTables, EmptiesItems}
use Rattle.store_tables.proofs.TextLemmas.{all_texts}
use Rattle.store_tables.proofs.GroupLemmas.{went, same_value}

same_table : (text : List ℕ) (t u : Table) → table_defined_by text ≡ Ok t → table_defined_by text ≡ Ok u → t ≡ u
same_table text t u p q = let both : ◌≡◌ (Ok t) (Ok u) = sym p ∙ q in cc

-- the table of groups, and behind it SQLite's own
pub record HasGrouped (db after : Database) : Type 0 where
  pub schema : after.schema ≡ with_groups first_schema
  pub items : after.trees 0 ≡ db.trees 0
  pub named : after.trees 2 ≡ db.trees 2
  pub groups : after.trees 4 ≡ []

pub creates_groups : (limit : Option ℕ) (db after : Database) (tally : Tally) → db.schema ≡ first_schema → Does limit mode [] db grps_text None CreateTable (Ok (tally, after)) → HasGrouped db after
creates_groups limit db after tally has done =
    let all = went done in
    let first = went all.1 in
    let one : CreatesTable db.schema grps_text db.trees first.0.schema first.0.trees = first.1 in
    let table : one.table ≡ grps 0 = same_table grps_text one.table (grps 0) one.defined all_texts.grps_defined in
    let mid : first.0.schema ≡ created first_schema (grps 0) = one.is ∙ (λ i. created (has i) (table i)) in
    let lacks : lacks_sequence first.0.schema ≡ true = ap lacks_sequence mid ∙ all_texts.moved_lacks in
    let two : CreatesTable first.0.schema sequence_text first.0.trees all.0.schema all.0.trees = rw lacks at first.2 in
    let counter : two.table ≡ counters 0 = same_table sequence_text two.table (counters 0) two.defined all_texts.counters_defined in
    let now : after ≡ all.0 = ap (λ (p : Tally × Database). p.1) (same_value all.2) in
    let kept_one = subst (λ (s : Schema). KeepsRows s.tables db.trees first.0.trees) has one.others in
    let kept_two = subst (λ (s : Schema). KeepsRows s.tables first.0.trees all.0.trees) mid two.others in
    let empty : first.0.trees 4 ≡ [] = subst (λ (s : Schema). first.0.trees (next_tree s) ≡ []) has one.empty in
    let r : HasGrouped db all.0 = record {
      schema = two.is ∙ (λ i. created (mid i) (counter i));
      items = kept_two.0 ∙ kept_one.0;
      named = kept_two.1.0 ∙ kept_one.1.0;
      groups = kept_two.1.1.0 ∙ empty;
    } in
    subst (HasGrouped db) (sym now) r

pub makes_tables : MakesTables
makes_tables limit other db second third a b has one two =
    let g = creates_groups limit db second a has one in
    let all = went two in
    let first = went all.1 in
    let made : CreatesTable second.schema entries_text second.trees first.0.schema first.0.trees = first.1 in
    let table : made.table ≡ entries 0 = same_table entries_text made.table (entries 0) made.defined all_texts.entries_defined in
    let schema : first.0.schema ≡ moved_schema = made.is ∙ (λ i. created (g.schema i) (table i)) in
    let lacks : lacks_sequence first.0.schema ≡ false = ap lacks_sequence schema ∙ all_texts.has in
    let same : all.0 ≡ first.0 = same_value (rw lacks at first.2) in
    let now : third ≡ first.0 = ap (λ (p : Tally × Database). p.1) (same_value all.2) ∙ same in
    let kept = subst (λ (s : Schema). KeepsRows s.tables second.trees first.0.trees) g.schema made.others in
    let r : HasMade db first.0 = record {
      schema = schema;
      items = kept.0 ∙ g.items;
      named = kept.1.0 ∙ g.named;
      groups = kept.1.1.0 ∙ g.groups;
      entries = subst (λ (s : Schema). first.0.trees (next_tree s) ≡ []) g.schema made.empty;
    } in
    subst (HasMade db) (sym now) r

-- ---- the items go

-- no row that is left has a rowid that was taken out
lacks : (ids : List ℤ) (rows : List Row) (x : Row) → Has (without_all rows ids) x → (id : ℤ) → Has ids id → has_rowid id x ≡ false
lacks [] rows x h id never = absurd never
lacks (i ∷ ids) rows x h id (inl is) =
    let kept = (has_filtered (λ r. not (has_rowid i r)) rows x (without_all_has ids (without_rowid i rows) x h)).1 in
    ap (λ k. has_rowid k x) is ∙ not-true _ kept
lacks (i ∷ ids) rows x h id (inr later) = lacks ids (without_rowid i rows) x h id later

none_in : (rows : List Row) → ((x : Row) → Has rows x → ⊥) → rows ≡ []
none_in [] none = refl
none_in (r ∷ rows) none = absurd (none r (inl refl))

int_is : (v : Value) → is_int v ≡ true → is_eq (value_cmp v (Int (id_in v))) ≡ true
int_is Null h = absurd (true≢false (sym h))
int_is (Int n) h = ap is_eq (tied_itself value_cmp_total (Int n))
int_is (Real x) h = absurd (true≢false (sym h))
int_is (Text t) h = absurd (true≢false (sym h))
int_is (Blob b) h = absurd (true≢false (sym h))

-- where the rowid of each row is shown, and is an integer, no row is left
none_left : (items rows : List Row) → Rises items → ((r : Row) → Has items r → Has rows (column r 0 ∷ [])) → without_all items (ids_of rows) ≡ []
none_left items rows rises shown = none_in _ (λ x left.
    let there = without_all_has (ids_of rows) items x left in
    let whole : is_int (rowid x) ≡ true = all_has (λ r. IsTrue (is_int (rowid r))) items x rises.ints there in
    let id : Has (ids_of rows) (id_in (rowid x)) = mapped_has (λ (r : Row). id_in (rowid r)) rows (column x 0 ∷ []) (shown x there) in
    true≢false (sym (int_is (rowid x) whole) ∙ lacks (ids_of rows) items x left (id_in (rowid x)) id))

pub empties_items : EmptiesItems
empties_items limit db tally after done =
    let all = went done in
    let query = went all.1 in
    let edit = edit_of db (items 0) (ids_of query.0) Given 0 [] in
    let gone = went query.2 in
    let it : Applies moved_schema Enforced db edit gone.0 = one_step moved_schema Enforced db gone.0 edit refl gone.1 in
    let is = same_value (went (went all.2).2).2 in
    let trees : after.trees ≡ gone.0 = ap (λ (p : Tally × Database). p.1.trees) is ∙ ap (λ (w : Written). w.trees) (same_value gone.2) in
    let shown : Shows db 0 [] (col 1 0 ∷ []) [] query.0 = shows_same (overlay db []) db 0 [] (col 1 0 ∷ []) [] query.0 refl (shows 0 [] (col 1 0 ∷ []) [] (overlay db []) [] query.0 (query.1.answer Null)) in
    record {
      schema = ap (λ (p : Tally × Database). p.1.schema) is;
      items = λ rises. ap (λ (d : Trees). d 0) trees ∙ it.rows ∙ none_left (db 0) query.0 rises (λ r there. shown.complete r there refl);
      named = ap (λ (d : Trees). d 2) trees ∙ it.tables.1.0 (λ e. omega arith);
      groups = ap (λ (d : Trees). d 4) trees ∙ it.tables.1.1.0 (λ e. omega arith);
      entries = ap (λ (d : Trees). d 7) trees ∙ it.tables.1.1.1.1.0 (λ e. omega arith);
    }
