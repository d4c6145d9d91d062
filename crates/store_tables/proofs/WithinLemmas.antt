-- Statements within a transaction over the two tables.
use Rattle.std.proofs.Common.{arith, ◌||◌, ◌≡◌, ◌≤◌, ◌⊎◌, ℕ, ℤ, true, false, List, [], ◌∷◌, length, slice_index_or, Option, None, Some, Ok, Err, Result, IfOk, OnOk, OnErr, inl, inr, refl, sym, ap, subst, ◌∙◌, true≢false, IsTrue, Equal}
use Rattle.std.specs.FinMap.{FinMap}
use Rattle.std.specs.List.{list_any}
use Rattle.std.specs.Ordering.{is_eq}
use Rattle.std.proofs.lemmas.Bool.{and_parts, or_cases}
use Rattle.sqlite_value.specs.declared.value.Value.TheVariants.{Null, Int, Text as Words}
use Rattle.sqlite_value.specs.declared.keys.Collation.TheVariants.{Binary}
use Rattle.sqlite_value.specs.declared.keys.Order.{Order}
use Rattle.sqlite_value.specs.Keys.{first_key}
use Rattle.sqlite_value.specs.Order.{Row, column, value_cmp}
use Rattle.sqlite_trees.specs.Tree.{Trees, rowid, has_rowid}
use Rattle.sqlite_trees.specs.View.{is_int}
use Rattle.sqlite_sql.specs.Ops.{binary, is_true, is_null}
use Rattle.sqlite_sql.specs.Program.{overlay}
use Rattle.sqlite_sql.specs.declared.ops.BinaryOp.TheVariants.{Compare}
use Rattle.sqlite_sql.specs.declared.ops.CompareOp.TheVariants.{Eq}
use Rattle.sqlite.specs.Term.{Term, col, op2}
use Rattle.sqlite_schema.specs.declared.schema.Constraint.TheVariants.{Datatype, NotNull, Unique, ForeignKey}
use Rattle.sqlite_schema.specs.declared.command.Conflict.TheVariants.{Abort}
use Rattle.sqlite_schema.specs.Rules.{agree, equal, has_null, is_held, ParentKey, parent_key}
use Rattle.sqlite_rules.specs.Lists.{Has}
use Rattle.sqlite_rules.specs.Edit.{id_in}
use Rattle.sqlite_rules.proofs.ListLemmas.{all_has, some_has, has_at}
use Rattle.sqlite_rules.proofs.TableLemmas.{put_all_adds}
use Rattle.sqlite_rules.proofs.RuleLemmas.{keeps_at}
use Rattle.sqlite.specs.Command.TheVariants.{Insert, InsertOr}
use Rattle.sqlite.specs.Effect.{Database, IsDatabase}
use Rattle.sqlite.specs.Does.{Does}
use Rattle.sqlite.specs.Store.{Ghosts}
use Rattle.sqlite.specs.Held.{Held, state}
use Rattle.sqlite.specs.Listing.{understood}
use Rattle.sqlite.specs.Clock.{timed}
use Rattle.sqlite.specs.State.{State, Shown, ShowsRows, IsUnchanged, IsRolledBack, IsNotRun, FailsToQuery, FailsToShow, IsTooLate, Writes, ExecutesInside, mode_of}
use Rattle.sqlite.proofs.Callers.{IsPlain, reads_as, runs_as}
use Rattle.store_tables.specs.Tables.{entries, to_grps}
use Rattle.sqlite_resolve.specs.declared.compiled.Compiled.{Compiled}
use Rattle.sqlite_resolve.specs.declared.error.CompileError.{CompileError}
use Rattle.sqlite_schema.specs.declared.command.Returning.{Returning}
use Rattle.sqlite.specs.declared.error.Error.{Error}
use Rattle.store_tables.specs.Texts.{Tables, Texts, command_of, statement_of, find_text, group_text, group_shown, entry_text}
use Rattle.store_tables.specs.Layout.{Layout, Rises, Rules}
use Rattle.store_tables.specs.Joined.{Text, place_cmp, joined, with_record, AreParented}
use Rattle.store_tables.specs.Grouped.{group_source, IsGrouped}
use Rattle.store_tables.specs.Entered.{entry_source, entry_clauses, Stand, IsEntered}
use Rattle.store_tables.specs.Within.{Within, records_now, IsIdOf, Goes, Fell, ShowsGroups}
use Rattle.store_tables.proofs.Lists.{shows}
use Rattle.store_tables.proofs.RowRules.{entry_typed, group_typed, same_texts, equal_values}
use Rattle.store_tables.proofs.GroupLemmas.{makes_groups}
use Rattle.store_tables.proofs.EntryLemmas.{makes_entries}
use Rattle.store_tables.proofs.Returning.{returns_as}

-- ---- what a sound database says

module _ (t : Tables) (l : Layout t) (db : Trees) (sound : IsDatabase (record { schema = t.schema; trees = db })) (groups : Rises (db t.grps_tree)) (entries_rise : Rises (db t.entries_tree)) where
  rules : Rules t.schema db
  rules = record { typed = sound.obeys.rules Datatype; present = sound.obeys.rules NotNull; unique = sound.obeys.rules Unique }

  abbrev places : List ℕ
  places = 1 ∷ []

  held : (r : Row) → column r 1 ≡ Int (id_in (column r 1)) → (key : Option ParentKey) (o : Order) → key ≡ Some (t.grps_tree, 0 ∷ [], o) → (first_key o).collation ≡ Binary → is_held db places r key ≡ true
      → (q : Row) × Has (db t.grps_tree) q × (has_rowid (id_in (column r 1)) q ≡ true)
  held r int key o is by h =
      let there : list_any (λ parent. agree o (0 ∷ []) parent places r) (db t.grps_tree) ≡ true = subst (λ k. is_held db places r k ≡ true) is h in
      let q = some_has (λ parent. agree o (0 ∷ []) parent places r) (db t.grps_tree) there in
      let one : equal (first_key o).collation (column q.0 0) (column r 1) ≡ true = (and_parts _ _ q.2).0 in
      let plain : is_true (binary (Compare Eq Binary) (column q.0 0) (column r 1)) ≡ true = subst (λ how. equal how (column q.0 0) (column r 1) ≡ true) by one in
      let whole : is_int (column q.0 0) ≡ true = all_has (λ z. IsTrue (is_int (rowid z))) (db t.grps_tree) q.0 groups.ints q.1 in
      let tie : value_cmp (column q.0 0) (Int (id_in (column r 1))) ≡ Equal = (equal_values (column q.0 0) (Int (id_in (column r 1))) whole refl).0 (subst (λ v. is_true (binary (Compare Eq Binary) (column q.0 0) v) ≡ true) int plain) in
      (q.0, q.1, ap is_eq tie)

  parented : AreParented (db t.grps_tree) (db t.entries_tree)
  parented r there =
      let typed = entry_typed t l db rules r there in
      let passed = (and_parts _ _ (keeps_at ForeignKey t.schema db (entries t.entries_tree) r (sound.obeys.rules ForeignKey) l.has_entries there)).0 in
      elim (or_cases (has_null places r) (is_held db places r (parent_key t.schema.tables to_grps)) passed) [
        | inl none ↦ absurd (
            let e : (is_null (Int (id_in (column r 1))) || false) ≡ true = rw typed.0 at none in
            true≢false (sym e))
        | inr some ↦ held r typed.0 (parent_key t.schema.tables to_grps) l.parent_is.0 l.parent_is.1 l.parent_is.2 some
      ]

  pub stand : Stand t db
  stand = record { typed = rules.typed; present = rules.present; unique = rules.unique; groups = groups; entries = entries_rise; parents = parented }

pub same_command : (r : Result Compiled CompileError) → Rattle.sqlite.proofs.Callers.command_of r ≡ command_of r
same_command (Ok c) = refl
same_command (Err e) = refl

-- ---- FIND

pub shown_unchanged : (sql : List ℕ) (params : Row) (old new : State) (rows : List Row) → IsPlain (understood old.now.schema sql) → Shown sql params old new rows → IsUnchanged old new
unfolding Shown
shown_unchanged sql params old new rows plain h =
    let none = (subst IsPlain h.1.is plain).0 in
    (subst (ShowsRows old new sql h.0 (timed params h.0.formats h.1.now) rows) none h.2).3

module _ (t : Tables) (l : Layout t) (m : Texts t) {S : Type 0} (g : Ghosts S) (old new : Held S) (was : Within t g old) where
  abbrev db : Trees
  db = (state g old).now.trees

  abbrev after : Trees
  after = (state g new).now.trees

  sound_as : IsDatabase (record { schema = t.schema; trees = db })
  sound_as = subst (λ s. IsDatabase (record { schema = s; trees = db })) was.schema was.sound

  stands : Stand t db
  stands = stand t l db sound_as was.groups was.entries

  pub found : (name : Text) (rows : List Row) → Shown find_text (Words name ∷ []) (state g old) (state g new) rows → Goes t g old new (records_now t g old) × ShowsGroups (after t.grps_tree) name rows
  found name rows h =
      let same = shown_unchanged find_text (Words name ∷ []) (state g old) (state g new) rows (subst (λ s. IsPlain (understood s find_text)) (sym was.schema) m.find_plain) h in
      let now : (state g new).now ≡ (state g old).now = same.0.now_is in
      let trees : after ≡ db = ap (λ (d : Database). d.trees) now in
      let test : List Term = op2 (Compare Eq Binary) (col 1 2) (col 0 0) ∷ [] in
      let all = shows t.grps_tree test (col 1 0 ∷ []) [] (overlay db []) (Words name ∷ []) rows ((reads_as find_text (Words name ∷ []) (state g old) (state g new) t.schema was.schema _ (same_command (understood t.schema find_text) ∙ m.find_is) m.find_plain m.find_unlisted rows h).answer Null) in (
        record {
          within = record {
            is_open = same.0.is_open;
            inside = same.0.mode ∙ was.inside;
            schema = ap (λ (d : Database). d.schema) now ∙ was.schema;
            sound = subst IsDatabase (sym now) was.sound;
            groups = subst (λ (d : Trees). Rises (d t.grps_tree)) (sym trees) was.groups;
            entries = subst (λ (d : Trees). Rises (d t.entries_tree)) (sym trees) was.entries;
          };
          committed = same.0.committed_is;
          texts = ap (λ (d : Trees). d t.named_tree) trees;
          others = λ u has one two three. ap (λ (d : Trees). d u.tree) trees;
          records_are = ap (λ (d : Trees). joined (d t.grps_tree) (d t.entries_tree)) trees;
        },
        λ x at.
            let r = all.sound x at in
            let there : Has (db t.grps_tree) r.0 = subst (λ rs. Has rs r.0) (l.reads_groups db) r.1 in
            let tie : is_true (binary (Compare Eq Binary) (column r.0 2) (Words name)) ≡ true = (and_parts _ _ r.2).0 in
            let typed = group_typed t l db (record { typed = stands.typed; present = stands.present; unique = stands.unique }) r.0 there in
            (r.0, subst (λ (d : Trees). Has (d t.grps_tree) r.0) (sym trees) there, same_texts _ _ (rw typed at tie), ap (λ (z : Row). column z 0) r.3),
      )

  -- ---- INSERT .. RETURNING

  pub made : (name : Text) (rows : List Row) → Shown group_text (Words name ∷ []) (state g old) (state g new) rows → Goes t g old new (records_now t g old) × ShowsGroups (after t.grps_tree) name rows
  made name rows h =
      let it = returns_as group_text (Words name ∷ []) (state g old) (state g new) t.schema was.schema (Insert t.grps_at group_source) group_shown m.group_is m.group_shows rows h in
      let w : Writes (state g old) (state g new) (Some group_shown) (Insert t.grps_at group_source) (statement_of group_text (understood t.schema group_text)) (Words name ∷ []) it.0 = it.1 in
      let r : IsGrouped t db name w.tally (state g new).now = makes_groups t l old.step_limit db name was.groups w.tally (state g new).now
      (subst (λ s. Does old.step_limit (mode_of (state g old)) (Words name ∷ []) (record { schema = s; trees = db }) (statement_of group_text (understood t.schema group_text)) (Some group_shown) (Insert t.grps_at group_source) (Ok (w.tally, (state g new).now))) was.schema w.changed) in
      let row : Row = Int r.id ∷ Null ∷ Words name ∷ [] in
      let there : Has (after t.grps_tree) row = subst (λ rs. Has rs row) (sym r.rows) (put_all_adds (row ∷ []) (db t.grps_tree) row r.fresh (inl refl)) in
      let are : rows ≡ (Int r.id ∷ []) ∷ [] = it.2 ∙ r.shown in (
        record {
          within = record {
            is_open = w.shown.is_open;
            inside = w.shown.mode ∙ was.inside;
            schema = r.schema;
            sound = w.sound;
            groups = r.rises;
            entries = subst Rises (sym r.entries) was.entries;
          };
          committed = w.shown.committed_is ∙ rw was.inside;
          texts = r.named;
          others = r.others;
          records_are = r.same stands.parents;
        },
        λ x at. elim (subst (λ rs. Has rs x) are at) [
          | inl is ↦ (row, there, refl, ap (λ (z : Row). column z 0) is)
          | inr never ↦ absurd never
        ],
      )

  -- ---- the entry

  pub entered : (id : ℤ) (name at text : Text) (count : ℕ) → IsIdOf (db t.grps_tree) id name → ExecutesInside 0 entry_text (Int id ∷ Words at ∷ Words text ∷ []) (state g old) (state g new) (Ok count)
      → Goes t g old new (with_record name (records_now t g old) at text) × (after t.grps_tree ≡ db t.grps_tree)
  entered id name at text count of h =
      let params : Row = Int id ∷ Words at ∷ Words text ∷ [] in
      let w : Writes (state g old) (state g new) None (InsertOr t.entries_at Abort entry_source entry_clauses) (Rattle.sqlite.proofs.Callers.statement_of entry_text (understood t.schema entry_text)) params count =
      runs_as entry_text params (state g old) (state g new) t.schema was.schema (InsertOr t.entries_at Abort entry_source entry_clauses) (same_command (understood t.schema entry_text) ∙ m.entry_is) m.entry_plain count h.0 in
      let r : IsEntered t db name at text (state g new).now = makes_entries t l old.step_limit db id name at text stands of.row of.there of.id_is of.named w.tally (state g new).now
      (subst (λ s. Does old.step_limit (mode_of (state g old)) params (record { schema = s; trees = db }) (Rattle.sqlite.proofs.Callers.statement_of entry_text (understood t.schema entry_text)) None (InsertOr t.entries_at Abort entry_source entry_clauses) (Ok (w.tally, (state g new).now))) was.schema w.changed) in (
        record {
          within = record {
            is_open = w.shown.is_open;
            inside = w.shown.mode ∙ was.inside;
            schema = r.schema;
            sound = w.sound;
            groups = subst Rises (sym r.groups) was.groups;
            entries = r.rises;
          };
          committed = h.1.committed_is;
          texts = r.named;
          others = r.others;
          records_are = r.joined_is;
        },
        r.groups,
      )

-- ---- one after the other

pub first_shown : (rows : List Row) (row : Row) (id : ℤ) (groups : List Row) (name : Text) → 1 ≤ length rows → row ≡ slice_index_or rows 0 row → column row 0 ≡ Int id → ShowsGroups groups name rows → IsIdOf groups id name
first_shown rows row id groups name some is read shown =
    let q = shown row (has_at rows 0 row (omega arith) is) in
    record { row = q.0; there = q.1; id_is = sym q.3 ∙ read; named = q.2 }

pub goes_on : (t : Tables) {S : Type 0} (g : Ghosts S) (a b c : Held S) → Goes t g a b (records_now t g a) → Goes t g b c (records_now t g b) → Goes t g a c (records_now t g a)
goes_on t g a b c one two = record { within = two.within; committed = two.committed ∙ one.committed; texts = two.texts ∙ one.texts; others = λ u has x y z. two.others u has x y z ∙ one.others u has x y z; records_are = two.records_are ∙ one.records_are }

pub adds_on : (t : Tables) {S : Type 0} (g : Ghosts S) (a b c : Held S) (name at text : Text) → Goes t g a b (records_now t g a) → Goes t g b c (with_record name (records_now t g b) at text) → Goes t g a c (with_record name (records_now t g a) at text)
adds_on t g a b c name at text one two =
    record { within = two.within; committed = two.committed ∙ one.committed; texts = two.texts ∙ one.texts; others = λ u has x y z. two.others u has x y z ∙ one.others u has x y z; records_are = two.records_are ∙ ap (λ (r : FinMap place_cmp Text). with_record name r at text) one.records_are }

pub if_ok : {T E : Type 0} {P Q : T → Type 0} (r : Result T E) → ((x : T) → P x → Q x) → IfOk r P → IfOk r Q
if_ok (Ok x) f p = f x p
if_ok (Err e) f p = tt

pub on_ok : {T E P Q : Type 0} (r : Result T E) → (P → Q) → OnOk r P → OnOk r Q
on_ok (Ok x) f p = f p
on_ok (Err e) f p = tt

-- ---- a statement that fails

back_after : {S : Type 0} (g : Ghosts S) (old new : Held S) → IsUnchanged (state g old) (state g new) ⊎ IsRolledBack (state g old) (state g new) → Fell g old new
back_after g old new (inl same) = record { was_open = λ _. same.0.was_open; committed = λ _. same.0.committed_is }
back_after g old new (inr back) = record { was_open = back.was_open; committed = λ is_open. (back.undone is_open).1 }

not_run : (sql : List ℕ) (ps : Row) (old new : State) (e : Error) → IsNotRun old new sql ps e → IsUnchanged old new ⊎ IsRolledBack old new
unfolding IsNotRun
not_run sql ps old new e (inl h) = inl h.1
not_run sql ps old new e (inr h) = inr h.3

failed : (sql : List ℕ) (ps : Row) (old new : State) (e : Error) → FailsToQuery sql ps old new e → IsUnchanged old new ⊎ IsRolledBack old new
unfolding FailsToQuery
failed sql ps old new e (inl h) = not_run sql ps old new e h
failed sql ps old new e (inr h) = by h.0.returning h.2
  where
    by : (o : Option Returning) → FailsToShow old new sql h.0 (timed ps h.0.formats h.1.now) e o → IsUnchanged old new ⊎ IsRolledBack old new
    by None f = inl f.3
    by (Some what) (inl same) = inl same.1
    by (Some what) (inr lost) = inr lost.3

-- of a query within the transaction
pub query_fell : {S : Type 0} (g : Ghosts S) (old new : Held S) (sql : List ℕ) (ps : Row) (e : Error) → FailsToQuery sql ps (state g old) (state g new) e ⊎ IsTooLate sql ps (state g old) (state g new) e → Fell g old new
query_fell g old new sql ps e (inl h) = back_after g old new (failed sql ps (state g old) (state g new) e h)
query_fell g old new sql ps e (inr h) = back_after g old new (inl h.5)

-- of a write within the transaction
pub write_fell : {S : Type 0} (g : Ghosts S) (old new : Held S) (sql : List ℕ) (ps : Row) (e : Error) → ExecutesInside 0 sql ps (state g old) (state g new) (Err e) → Fell g old new
write_fell g old new sql ps e (inl h) = back_after g old new h.1
write_fell g old new sql ps e (inr h) = back_after g old new (inl h.2)

-- after a step that went on
pub fell_on : (t : Tables) {S : Type 0} (g : Ghosts S) (a b c : Held S) (records : FinMap place_cmp Text) → Within t g a → Goes t g a b records → Fell g b c → Fell g a c
fell_on t g a b c records was one two = record { was_open = λ _. was.is_open; committed = λ is_open. two.committed is_open ∙ one.committed }

pub fell_there : (t : Tables) {S : Type 0} (g : Ghosts S) (a b : Held S) (records : FinMap place_cmp Text) → Within t g a → Goes t g a b records → Fell g a b
fell_there t g a b records was one = record { was_open = λ _. was.is_open; committed = λ _. one.committed }

pub on_err : {T E P Q : Type 0} (r : Result T E) → (P → Q) → OnErr r P → OnErr r Q
on_err (Ok x) f p = tt
on_err (Err e) f p = f p

pub fails : {T E P : Type 0} (r : Result T E) → P → OnErr r P
fails (Ok x) p = tt
fails (Err e) p = p

pub fell_same : (t : Tables) {S : Type 0} (g : Ghosts S) (a : Held S) → Within t g a → Fell g a a
fell_same t g a was = record { was_open = λ _. was.is_open; committed = λ _. refl }
