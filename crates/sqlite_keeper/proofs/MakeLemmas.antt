-- A new store is made.
use Rattle.std.proofs.Common.{◌≡◌, ℕ, List, [], ◌∷◌, Option, None, Ok, Err, Result, Bool, true, false, refl, sym, ap, subst, ◌∙◌, true≢false, inl}
use Rattle.std.specs.FinMap.{from_entries, insert}
use Rattle.sqlite_value.specs.declared.value.Value.TheVariants.{Text}
use Rattle.sqlite_value.specs.Order.{Row}
use Rattle.sqlite_schema.specs.declared.schema.Table.{Table}
use Rattle.sqlite_schema.specs.declared.schema.Schema.{Schema}
use Rattle.sqlite_catalog.specs.Change.{created, next_tree, KeepsRows}
use Rattle.sqlite_catalog.specs.Calls.{CreatesTable}
use Rattle.sqlite_resolve.specs.declared.compiled.Compiled.{Compiled}
use Rattle.sqlite_resolve.specs.declared.error.CompileError.{CompileError}
use Rattle.sqlite_tied.specs.Compute.{everything}
use Rattle.sqlite.specs.Compile.{table_defined_by}
use Rattle.sqlite.specs.Command.TheVariants.{CreateTable}
use Rattle.sqlite.specs.Effect.{Database}
use Rattle.sqlite.specs.Does.{Tally, Does, lacks_sequence, sequence_text}
use Rattle.sqlite.specs.Listing.{understood, listing_schema}
use Rattle.sqlite.specs.Given.{IsPlain}
use Rattle.sqlite.specs.State.{State, Writes, ExecutesInside, mode_of}
use Rattle.sqlite.specs.Store.{Ghosts}
use Rattle.sqlite.specs.Held.{Held, state}
use Rattle.sqlite.proofs.Callers.{runs_as}
use Rattle.store_tables.specs.Texts.{command_of, statement_of, grps_text, entries_text, named_text, made_tables}
use Rattle.store_tables.specs.Tables.{grps, counters, entries, named, with_groups, with_entries}
use Rattle.store_tables.specs.Named.{named_made, get_text, put_text, texts_in}
use Rattle.store_tables.specs.Joined.{joined}
use Rattle.store_tables.specs.Grouped.{mode}
use Rattle.store_tables.proofs.GroupLemmas.{went, same_value}
use Rattle.store_tables.proofs.NamedTables.{made_is, made_named}
use Rattle.store_tables.proofs.TextLemmas.{all_texts, making_texts}
use Rattle.store_tables.proofs.WithinLemmas.{same_command}
use Rattle.sqlite_keeper.specs.Tables.{no_schema, made_schema}
use Rattle.sqlite_keeper.specs.Contents.{Contents, contents_now, Rises, IsKept}
use Rattle.sqlite_keeper.specs.Queries.{IsUnread}
use Rattle.sqlite_keeper.specs.Adopting.{Begins, Makes, version_name, version_two}
use Rattle.sqlite_keeper.proofs.Calls.{put_done}
use Rattle.sqlite_keeper.proofs.Kept.{kept_contents, turned_kept}

pub same_table : (text : List ℕ) (t u : Table) → table_defined_by text ≡ Ok t → table_defined_by text ≡ Ok u → t ≡ u
same_table text t u p q = let both : ◌≡◌ (Ok t) (Ok u) = sym p ∙ q in cc

pub same_statement : (sql : List ℕ) (r : Result Compiled CompileError) → Rattle.sqlite.proofs.Callers.statement_of sql r ≡ statement_of sql r
same_statement sql (Ok c) = refl
same_statement sql (Err e) = refl

-- what a text that makes a table writes
pub writes_table : (text : List ℕ) (old new : State) (schema : Schema) → old.now.schema ≡ schema → command_of (understood schema text) ≡ CreateTable → IsPlain (understood schema text) → statement_of text (understood schema text) ≡ text
    → (count : ℕ) → ExecutesInside 0 text [] old new (Ok count)
    → (w : Writes old new None CreateTable (Rattle.sqlite.proofs.Callers.statement_of text (understood schema text)) [] count) × Does old.step_limit mode [] old.now text None CreateTable (Ok (w.tally, new.now))
writes_table text old new schema has is plain whole count h =
    let w : Writes old new None CreateTable (Rattle.sqlite.proofs.Callers.statement_of text (understood schema text)) [] count = runs_as text [] old new schema has CreateTable (same_command (understood schema text) ∙ is) plain count h.0 in
    (w, subst (λ t. Does old.step_limit (mode_of old) [] old.now t None CreateTable (Ok (w.tally, new.now))) (same_statement text (understood schema text) ∙ whole) w.changed)

-- ---- the tables of a new store

pub record Made (db after : Database) (table : Table) : Type 0 where
  pub schema : after.schema ≡ created db.schema table
  pub empty : after.trees (next_tree db.schema) ≡ []
  pub others : KeepsRows db.schema.tables db.trees after.trees

pub does_create : (limit : Option ℕ) (db : Database) (text : List ℕ) (table : Table) (tally : Tally) (after : Database) → table_defined_by text ≡ Ok table → lacks_sequence (created db.schema table) ≡ false
    → Does limit mode [] db text None CreateTable (Ok (tally, after)) → Made db after table
does_create limit db text table tally after defined plain done =
    let all = went done in
    let first = went all.1 in
    let made = first.1 in
    let same : made.table ≡ table = same_table text made.table table made.defined defined in
    let schema : first.0.schema ≡ created db.schema table = made.is ∙ ap (created db.schema) same in
    let lacks : lacks_sequence first.0.schema ≡ false = ap lacks_sequence schema ∙ plain in
    let now : after ≡ first.0 = ap (λ (p : Tally × Database). p.1) (same_value all.2) ∙ same_value (rw lacks at first.2) in
    subst (λ d. Made db d table) (sym now) (record { schema = schema; empty = made.empty; others = made.others })

-- the table of groups, and behind it SQLite's own
pub creates_groups : (limit : Option ℕ) (db after : Database) (tally : Tally) → db.schema ≡ no_schema → Does limit mode [] db grps_text None CreateTable (Ok (tally, after)) → (after.schema ≡ with_groups no_schema) × (after.trees 0 ≡ [])
creates_groups limit db after tally has done =
    let all = went done in
    let first = went all.1 in
    let one : CreatesTable db.schema grps_text db.trees first.0.schema first.0.trees = first.1 in
    let table : one.table ≡ grps 0 = same_table grps_text one.table (grps 0) one.defined all_texts.grps_defined in
    let mid : first.0.schema ≡ created no_schema (grps 0) = one.is ∙ (λ i. created (has i) (table i)) in
    let lacks : lacks_sequence first.0.schema ≡ true = ap lacks_sequence mid ∙ all_texts.first_lacks in
    let two : CreatesTable first.0.schema sequence_text first.0.trees all.0.schema all.0.trees = rw lacks at first.2 in
    let counter : two.table ≡ counters 0 = same_table sequence_text two.table (counters 0) two.defined all_texts.counters_defined in
    let now : after ≡ all.0 = ap (λ (p : Tally × Database). p.1) (same_value all.2) in
    let kept = subst (λ (s : Schema). KeepsRows s.tables first.0.trees all.0.trees) mid two.others in
    let empty : first.0.trees 0 ≡ [] = subst (λ (s : Schema). first.0.trees (next_tree s) ≡ []) has one.empty in
    subst (λ (d : Database). (d.schema ≡ with_groups no_schema) × (d.trees 0 ≡ [])) (sym now) (two.is ∙ (λ i. created (mid i) (counter i)), kept.0 ∙ empty)

pub entries_counted : lacks_sequence (with_entries no_schema) ≡ false
unfolding understood everything Rattle.sqlite_schema.specs.Names.same_name
entries_counted = refl

-- the three tables are new and empty
pub tables_made : (a b c : Option ℕ) (first second third fourth : Database) (p q r : Tally) → first.schema ≡ no_schema → Does a mode [] first grps_text None CreateTable (Ok (p, second))
    → Does b mode [] second entries_text None CreateTable (Ok (q, third)) → Does c mode [] third named_text None CreateTable (Ok (r, fourth))
    → (third.schema ≡ with_entries no_schema) × (fourth.schema ≡ made_schema) × (fourth.trees 0 ≡ []) × (fourth.trees 3 ≡ []) × (fourth.trees 5 ≡ [])
tables_made a b c first second third fourth p q r none one two three =
    let groups = creates_groups a first second p none one in
    let mid = does_create b second entries_text (entries 0) q third all_texts.entries_defined (ap (λ (s : Schema). lacks_sequence (created s (entries 0))) groups.0 ∙ entries_counted) two in
    let listed : third.schema ≡ with_entries no_schema = mid.schema ∙ ap (λ (s : Schema). created s (entries 0)) groups.0 in
    let kept = subst (λ (s : Schema). KeepsRows s.tables second.trees third.trees) groups.0 mid.others in
    let last = does_create c third named_text (named 0) r fourth making_texts.named_defined (ap (λ (s : Schema). lacks_sequence (created s (named 0))) listed ∙ all_texts.made_has) three in
    let still = subst (λ (s : Schema). KeepsRows s.tables third.trees fourth.trees) listed last.others in (
      listed,
      last.schema ∙ ap (λ (s : Schema). created s (named 0)) listed,
      still.0 ∙ kept.0 ∙ groups.1,
      still.1.1.0 ∙ subst (λ (s : Schema). third.trees (next_tree s) ≡ []) groups.0 mid.empty,
      subst (λ (s : Schema). fourth.trees (next_tree s) ≡ []) listed last.empty,
    )

pub rise_none : (rows : List Row) → rows ≡ [] → Rises rows
rise_none rows none = subst Rises (sym none) (record { up = tt; ints = tt })

module _ {S : Type 0} (g : Ghosts S) (a b : Held S) (k : Contents) (begins : Begins g true a k) (m : ℕ) (one : ExecutesInside 0 grps_text [] (state g a) (state g b) (Ok m)) where
  pub first_written : (w : Writes (state g a) (state g b) None CreateTable (Rattle.sqlite.proofs.Callers.statement_of grps_text (understood no_schema grps_text)) [] m)
      × Does (state g a).step_limit mode [] (state g a).now grps_text None CreateTable (Ok (w.tally, (state g b).now))
  first_written = writes_table grps_text (state g a) (state g b) no_schema begins.ready.0 all_texts.grps_made making_texts.grps_made_plain making_texts.grps_made_whole m one

  pub second_schema : b.schema ≡ with_groups no_schema
  second_schema = (creates_groups (state g a).step_limit (state g a).now (state g b).now first_written.0.tally begins.ready.0 first_written.1).0

  module _ (c : Held S) (n : ℕ) (two : ExecutesInside 0 entries_text [] (state g b) (state g c) (Ok n)) where
    pub second_written : (w : Writes (state g b) (state g c) None CreateTable (Rattle.sqlite.proofs.Callers.statement_of entries_text (understood (with_groups no_schema) entries_text)) [] n)
        × Does (state g b).step_limit mode [] (state g b).now entries_text None CreateTable (Ok (w.tally, (state g c).now))
    second_written = writes_table entries_text (state g b) (state g c) (with_groups no_schema) second_schema all_texts.entries_made making_texts.entries_made_plain making_texts.entries_made_whole n two

    pub third_schema : c.schema ≡ with_entries no_schema
    third_schema =
        (does_create (state g b).step_limit (state g b).now entries_text (entries 0) second_written.0.tally (state g c).now all_texts.entries_defined (ap (λ (s : Schema). lacks_sequence (created s (entries 0))) second_schema ∙ entries_counted) second_written.1).schema
        ∙ ap (λ (s : Schema). created s (entries 0)) second_schema

    module _ (d : Held S) (o : ℕ) (three : ExecutesInside 0 named_text [] (state g c) (state g d) (Ok o)) where
      pub third_written : (w : Writes (state g c) (state g d) None CreateTable (Rattle.sqlite.proofs.Callers.statement_of named_text (understood (with_entries no_schema) named_text)) [] o)
          × Does (state g c).step_limit mode [] (state g c).now named_text None CreateTable (Ok (w.tally, (state g d).now))
      third_written = writes_table named_text (state g c) (state g d) (with_entries no_schema) third_schema all_texts.named_made making_texts.named_made_plain making_texts.named_made_whole o three

      pub all_made : (d.schema ≡ made_schema) × ((state g d).now.trees 0 ≡ []) × ((state g d).now.trees 3 ≡ []) × ((state g d).now.trees 5 ≡ [])
      all_made =
          let all = tables_made (state g a).step_limit (state g b).step_limit (state g c).step_limit (state g a).now (state g b).now (state g c).now (state g d).now first_written.0.tally second_written.0.tally third_written.0.tally begins.ready.0 first_written.1 second_written.1 third_written.1 in
          (all.1, all.2, all.3, all.4)

      pub kept_made : IsKept made_tables (state g d).now
      kept_made = record {
        second = inl refl;
        schema = all_made.0;
        sound = third_written.0.sound;
        groups = rise_none _ all_made.1;
        entries = rise_none _ all_made.2;
        named = rise_none _ all_made.3;
      }

      -- the tables and the version, one after the other
      pub made_all : (e : Held S) (p : ℕ) → ExecutesInside 0 put_text (Text version_name ∷ Text version_two ∷ []) (state g d) (state g e) (Ok p) → Makes g a e k
      made_all e p four =
          let it = put_done named_made made_is made_named (state g d) (state g e) version_name version_two kept_made.schema kept_made.sound kept_made.named p four.0 in
          let after = turned_kept made_tables (state g d).now (state g e).now version_name version_two kept_made it.schema it.sound it.turned in
          let empty : contents_now g d ≡ record { records = from_entries []; texts = from_entries [] } =
          kept_contents made_tables (state g d).now kept_made ∙ (λ i. record { records = joined (all_made.1 i) (all_made.2 i); texts = texts_in (all_made.3 i) }) in
          record {
            inside = record { is_open = it.is_open; inside = four.1.mode; kept = (made_tables, after.0) };
            contents = after.1 ∙ ap (λ (c : Contents). record c { texts = insert c.texts version_name version_two }) empty ∙ sym begins.ready.1;
            committed = four.1.committed_is ∙ three.1.committed_is ∙ two.1.committed_is ∙ one.1.committed_is;
          }

-- ---- a store with no tables, asked for its version

abbrev is_err : {A B : Type 0} → Result A B → Bool
is_err (Ok a) = false
is_err (Err b) = true

of_err : {A B : Type 0} (r : Result A B) → is_err r ≡ true → (e : B) × (r ≡ Err e)
of_err (Ok a) h = absurd (true≢false (sym h))
of_err (Err b) h = (b, refl)

get_is_err : is_err (understood no_schema get_text) ≡ true
unfolding understood everything listing_schema
get_is_err = refl

pub get_unread : IsUnread no_schema get_text
get_unread = of_err (understood no_schema get_text) get_is_err
