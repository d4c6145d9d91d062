-- A store of the first version becomes one of the second.
use Rattle.std.proofs.Common.{arith, ◌≡◌, ℕ, List, [], ◌∷◌, None, Ok, false, IsTrue, refl, sym, ap, subst, ◌∙◌, inl, inr}
use Rattle.std.specs.FinMap.{FinMap, from_entries, insert}
use Rattle.sqlite_value.specs.declared.value.Value.TheVariants.{Text}
use Rattle.sqlite_value.specs.Order.{Row}
use Rattle.sqlite_rules.specs.Lists.{Has}
use Rattle.sqlite.specs.Command.TheVariants.{CreateTable, Delete}
use Rattle.sqlite.specs.Effect.{Database, IsDatabase, Reads}
use Rattle.sqlite.specs.Does.{Does}
use Rattle.sqlite.specs.Listing.{understood}
use Rattle.sqlite.specs.State.{State, Shown, Writes, ExecutesInside, IsUnchanged, mode_of}
use Rattle.sqlite.specs.Store.{Ghosts}
use Rattle.sqlite.specs.Held.{Held, state}
use Rattle.sqlite.proofs.Callers.{IsPlain, reads_as, runs_as, statement_of}
use Rattle.store_tables.specs.Texts.{grps_text, entries_text, all_text, empty_text, moved_tables}
use Rattle.store_tables.specs.Tables.{items, grps, entries, with_groups, first_schema, moved_schema}
use Rattle.store_tables.specs.Named.{named_moved, put_text, texts_in}
use Rattle.store_tables.specs.Grouped.{mode}
use Rattle.store_tables.specs.Joined.{Text as Bytes, place_cmp, joined}
use Rattle.store_tables.specs.Stored.{first_records}
use Rattle.store_tables.specs.Layout.{Rises}
use Rattle.store_tables.specs.Moving.{HasMade, HasEmptied, emptying}
use Rattle.store_tables.specs.Copied.{copied, CopiesOn, ShowsItems, IsItemRow, all_query}
use Rattle.store_tables.specs.Within.{Within, Fell, records_now}
use Rattle.store_tables.proofs.MovingLemmas.{creates_groups, makes_tables, empties_items}
use Rattle.store_tables.proofs.CopiedLemmas.{copies_all}
use Rattle.store_tables.proofs.CopyLemmas.{asks_items}
use Rattle.store_tables.proofs.RowRules.{items_once}
use Rattle.store_tables.proofs.NamedTables.{moved_is, moved_named}
use Rattle.store_tables.proofs.KnownTables.{known}
use Rattle.store_tables.proofs.TextLemmas.{all_texts, making_texts}
use Rattle.store_tables.proofs.WithinLemmas.{same_command, shown_unchanged}
use Rattle.sqlite_keeper.specs.Contents.{Contents, IsFirst}
use Rattle.sqlite_keeper.specs.Making.{HasItems, Widens, AreCopied, HasCopies, Settles}
use Rattle.sqlite_keeper.specs.Adopting.{Begins, Makes, moved, version_name, version_two}
use Rattle.sqlite_keeper.proofs.Calls.{put_done}
use Rattle.sqlite_keeper.proofs.Kept.{rules_as, kept_contents, first_contents}
use Rattle.sqlite_keeper.proofs.MakeLemmas.{writes_table, rise_none}

-- ---- the new tables stand beside the old ones

module _ {S : Type 0} (g : Ghosts S) (a b c : Held S) (k : Contents) (begins : Begins g false a k) (m n : ℕ)
    (one : ExecutesInside 0 grps_text [] (state g a) (state g b) (Ok m)) (two : ExecutesInside 0 entries_text [] (state g b) (state g c) (Ok n)) where
  abbrev first : IsFirst (state g a).now
  first = begins.ready.0

  first_written : (w : Writes (state g a) (state g b) None CreateTable (statement_of grps_text (understood first_schema grps_text)) [] m)
      × Does (state g a).step_limit mode [] (state g a).now grps_text None CreateTable (Ok (w.tally, (state g b).now))
  first_written = writes_table grps_text (state g a) (state g b) first_schema first.schema all_texts.grps_moved making_texts.grps_moved_plain making_texts.grps_moved_whole m one

  second_schema : b.schema ≡ with_groups first_schema
  second_schema = (creates_groups (state g a).step_limit (state g a).now (state g b).now first_written.0.tally first.schema first_written.1).schema

  second_written : (w : Writes (state g b) (state g c) None CreateTable (statement_of entries_text (understood (with_groups first_schema) entries_text)) [] n)
      × Does (state g b).step_limit mode [] (state g b).now entries_text None CreateTable (Ok (w.tally, (state g c).now))
  second_written = writes_table entries_text (state g b) (state g c) (with_groups first_schema) second_schema all_texts.entries_moved making_texts.entries_moved_plain making_texts.entries_moved_whole n two

  pub widens : Widens g a c
  widens =
      let made : HasMade (state g a).now (state g c).now = makes_tables (state g a).step_limit (state g b).step_limit (state g a).now (state g b).now (state g c).now first_written.0.tally second_written.0.tally first.schema first_written.1 second_written.1 in
      let w = second_written.0 in
      record {
        has = record {
          within = record { is_open = w.shown.is_open; inside = two.1.mode; schema = made.schema; sound = w.sound; groups = rise_none _ made.groups; entries = rise_none _ made.entries };
          items = subst Rises (sym made.items) first.items;
          once = λ r s p q same. items_once (state g a).now.trees (rules_as first_schema (state g a).now first.schema first.sound) first.items r s (subst (λ l. Has l r) made.items p) (subst (λ l. Has l s) made.items q) same;
          named = subst Rises (sym made.named) first.named;
          no_groups = made.groups;
          no_entries = made.entries;
        };
        items = made.items;
        named = made.named;
        committed = two.1.committed_is ∙ one.1.committed_is;
      }

-- ---- the records are copied

module _ {S : Type 0} (g : Ghosts S) (a b : Held S) (has : HasItems g a) (rows : List Row) (shown : Shown all_text [] (state g a) (state g b) rows) where
  abbrev old : State
  old = state g a

  unchanged : IsUnchanged old (state g b)
  unchanged = shown_unchanged all_text [] old (state g b) rows (subst (λ s. IsPlain (understood s all_text)) (sym has.within.schema) all_texts.all_plain) shown

  pub same_now : (state g b).now ≡ old.now
  same_now = unchanged.0.now_is

  pub same_commit : (state g b).committed ≡ old.committed
  same_commit = unchanged.0.committed_is

  asked : ShowsItems (old.now.trees 0) rows × ((x : Row) → Has rows x → IsItemRow x)
  asked =
      let read = reads_as all_text [] old (state g b) moved_schema has.within.schema all_query (same_command (understood moved_schema all_text) ∙ all_texts.all_is) all_texts.all_plain all_texts.all_unlisted rows shown in
      asks_items old.now.trees (rules_as moved_schema old.now has.within.schema has.within.sound) has.items rows
      (subst (λ s. Reads all_query (record { schema = s; trees = old.now.trees }) [] rows) has.within.schema read)

  pub item_rows : (x : Row) → Has rows x → IsItemRow x
  item_rows = asked.1

  pub within_now : Within moved_tables g b
  within_now = record {
    is_open = unchanged.0.is_open;
    inside = unchanged.0.mode ∙ has.within.inside;
    schema = ap (λ (d : Database). d.schema) same_now ∙ has.within.schema;
    sound = subst IsDatabase (sym same_now) has.within.sound;
    groups = subst (λ (d : Database). Rises (d.trees 4)) (sym same_now) has.within.groups;
    entries = subst (λ (d : Database). Rises (d.trees 7)) (sym same_now) has.within.entries;
  }

  -- once all rows were copied
  pub are_copied : (c : Held S) → CopiesOn moved_tables g b c rows [] → AreCopied g a c
  are_copied c copies =
      let none : records_now moved_tables g b ≡ from_entries [] = (λ i. joined ((same_now i).trees 4) ((same_now i).trees 7)) ∙ ap (λ (l : List Row). joined (old.now.trees 4) l) has.no_entries in
      record {
        within = copies.goes.within;
        records = copies.records ∙ ap (λ (m : FinMap place_cmp Bytes). copied m rows) none ∙ copies_all (old.now.trees 0) rows has.once asked.0;
        items = copies.goes.others (items 0) (inl refl) (λ e. omega (arith, e)) (λ e. omega (arith, e)) (λ e. omega (arith, e)) ∙ ap (λ (d : Database). d.trees 0) same_now;
        named = copies.goes.texts ∙ ap (λ (d : Database). d.trees 2) same_now;
        committed = copies.goes.committed ∙ same_commit;
      }

  pub fell_copying : (c : Held S) → Fell g b c → Fell g a c
  fell_copying c fell = record { was_open = λ _. has.within.is_open; committed = λ is_open. fell.committed is_open ∙ same_commit }

-- ---- the items go, and the version is told

module _ {S : Type 0} (g : Ghosts S) (a b c : Held S) (has : HasCopies g a) (m n : ℕ)
    (one : ExecutesInside 0 empty_text [] (state g a) (state g b) (Ok m)) (two : ExecutesInside 0 put_text (Text version_name ∷ Text version_two ∷ []) (state g b) (state g c) (Ok n)) where
  written : Writes (state g a) (state g b) None (Delete 0 emptying) (statement_of empty_text (understood moved_schema empty_text)) [] m
  written = runs_as empty_text [] (state g a) (state g b) moved_schema has.within.schema (Delete 0 emptying) (same_command (understood moved_schema empty_text) ∙ all_texts.empty_is) all_texts.empty_plain m one.0

  emptied : HasEmptied (state g a).now.trees (state g b).now
  emptied = empties_items (state g a).step_limit (state g a).now.trees written.tally (state g b).now
      (subst (λ s. Does (state g a).step_limit (mode_of (state g a)) [] (record { schema = s; trees = (state g a).now.trees }) (statement_of empty_text (understood moved_schema empty_text)) None (Delete 0 emptying) (Ok (written.tally, (state g b).now))) has.within.schema written.changed)

  pub settles : Settles g a c
  settles =
      let it = put_done named_moved moved_is moved_named (state g b) (state g c) version_name version_two emptied.schema written.sound (subst Rises (sym emptied.named) has.named) n two.0 in
      let l = (known moved_tables (inr refl)).layout in
      let groups : (state g c).now.trees 4 ≡ (state g a).now.trees 4 = it.turned.others (grps 4) l.has_grps (λ same. l.named_apart.0 (sym same)) ∙ emptied.groups in
      let entries_are : (state g c).now.trees 7 ≡ (state g a).now.trees 7 = it.turned.others (entries 7) l.has_entries (λ same. l.named_apart.2 (sym same)) ∙ emptied.entries in
      record {
        is_open = it.is_open;
        inside = two.1.mode;
        kept = record { second = inr refl; schema = it.schema; sound = it.sound; groups = subst Rises (sym groups) has.within.groups; entries = subst Rises (sym entries_are) has.within.entries; named = it.turned.rises };
        items = it.turned.others (items 0) (inl refl) (λ e. omega (arith, e)) ∙ emptied.items has.items;
        records = λ i. joined (groups i) (entries_are i);
        texts = it.turned.texts ∙ ap (λ (l : List Row). insert (texts_in l) version_name version_two) emptied.named;
        committed = two.1.committed_is ∙ one.1.committed_is;
      }

-- ---- all of it

pub copies_of : {S : Type 0} (g : Ghosts S) (a b c : Held S) → Widens g a b → AreCopied g b c → HasCopies g c
copies_of g a b c one two = record { within = two.within; items = subst Rises (sym two.items) one.has.items; named = subst Rises (sym two.named) one.has.named }

pub moves : {S : Type 0} (g : Ghosts S) (a b c d : Held S) (k : Contents) → Begins g false a k → Widens g a b → AreCopied g b c → Settles g c d → Makes g a d k
moves g a b c d k begins one two three =
    let first = begins.ready.0 in
    let records : records_now moved_tables g d ≡ first_records ((state g a).now.trees 0) = three.records ∙ two.records ∙ ap first_records one.items in
    let texts : texts_in ((state g d).now.trees 2) ≡ insert (texts_in ((state g a).now.trees 2)) version_name version_two = three.texts ∙ ap (λ (l : List Row). insert (texts_in l) version_name version_two) (two.named ∙ one.named) in
    record {
      inside = record { is_open = three.is_open; inside = three.inside; kept = (moved_tables, three.kept) };
      contents = kept_contents moved_tables (state g d).now three.kept ∙ (λ i. record { records = records i; texts = texts i }) ∙ ap moved (sym (first_contents (state g a).now first)) ∙ sym begins.ready.1;
      committed = three.committed ∙ two.committed ∙ one.committed;
    }

-- a later step failed
pub fell_from : {S : Type 0} (g : Ghosts S) (a b c : Held S) → IsTrue (state g a).is_open → (state g b).committed ≡ (state g a).committed → Fell g b c → Fell g a c
fell_from g a b c is_open same fell = record { was_open = λ _. is_open; committed = λ still. fell.committed still ∙ same }
