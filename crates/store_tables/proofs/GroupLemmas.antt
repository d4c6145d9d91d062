-- What `INSERT INTO grps .. RETURNING id` does.
use Rattle.std.proofs.Common.{arith, ◌+◌, ◌++◌, ◌≡◌, ◌≢◌, ◌⊎◌, ℕ, ℤ, Bool, true, false, cond, List, [], ◌∷◌, map, Option, None, Some, Ok, Err, Result, inl, inr, refl, sym, ap, ap₂, subst, ◌∙◌, fold, IsTrue, MatchBool, unwrap_or, slice_get}
use Rattle.std.specs.Ordering.{is_lt, int_cmp}
use Rattle.std.specs.FinMap.{from_entries}
use Rattle.sqlite_value.specs.declared.value.Value.{Value}
use Rattle.sqlite_value.specs.declared.value.Value.TheVariants.{Null, Int, Text}
use Rattle.sqlite_value.specs.Order.{Row, column, bytes}
use Rattle.sqlite_trees.specs.Tree.{Trees, rowid, put_row, IsTable}
use Rattle.sqlite_trees.specs.View.{is_int}
use Rattle.sqlite_trees.proofs.TreeLemmas.{IsTable-put_row, all-put_row}
use Rattle.sqlite_sql.specs.Ops.{unary}
use Rattle.sqlite_schema.specs.declared.schema.Kind.TheVariants.{Integer}
use Rattle.sqlite_schema.specs.declared.schema.Keys.TheVariants.{Enforced}
use Rattle.sqlite_schema.specs.declared.schema.Table.{Table}
use Rattle.sqlite_rules.specs.declared.error.Rowids.TheVariants.{Above}
use Rattle.sqlite_rules.specs.Lists.{Has}
use Rattle.sqlite_rules.specs.Cast.{cast}
use Rattle.sqlite_rules.specs.Edit.{Edit, edit_of, next_rowid, at_least, id_in, row_at, put_all, are_fresh, taken_by, Applies}
use Rattle.sqlite_rules.specs.Action.{works}
use Rattle.sqlite_rules.proofs.ListLemmas.{all_has}
use Rattle.sqlite_rules.proofs.TableLemmas.{put_all_keeps}
use Rattle.sqlite_rules.proofs.PlaceLemmas.{row_at_is}
use Rattle.sqlite.specs.Command.TheVariants.{Insert}
use Rattle.sqlite.specs.Effect.{Database}
use Rattle.sqlite.specs.Does.{Tally, Does, AtPlace, OnRows, Shows}
use Rattle.sqlite.specs.Rows.{Written, Task, Then, Gives, Edited, Counts, CountsIn, counting, count_of, higher, last_id, sequence}
use Rattle.sqlite.proofs.Callers.{one_step}
use Rattle.store_tables.specs.Tables.{grps, counters, entries, named}
use Rattle.store_tables.specs.Texts.{Tables, group_text, group_shown}
use Rattle.store_tables.specs.Layout.{Layout, Rises}
use Rattle.store_tables.specs.Joined.{joined, place_in, body_of, AreParented}
use Rattle.store_tables.specs.Grouped.{mode, group_source, IsGrouped, MakesGroups}

-- a part that gave a value did not stop on the way
pub went : {B E R : Type 0} {b : B} {Stops : E → Type 0} → ((stop : E) × Stops stop × (Ok b ≡ Err stop)) ⊎ R → R
went (inl stopped) = absurd (let e = stopped.2 in cc)
went (inr on) = on

pub same_value : {B E : Type 0} {a b : B} → ◌≡◌ {A = Result B E} (Ok a) (Ok b) → a ≡ b
same_value e = cc

either : (b : Bool) (x : Value) → cond b x x ≡ x
either true x = refl
either false x = refl

pub cast_null : cast Integer Null ≡ Null
unfolding unary
cast_null = either _ Null

-- ---- what the tables hold, where a group is new

map_same : {X Y : Type 0} (f g : X → Y) (xs : List X) → ((x : X) → Has xs x → f x ≡ g x) → map f xs ≡ map g xs
map_same f g [] each = refl
map_same f g (x ∷ xs) each = ap₂ (λ y ys. y ∷ ys) (each x (inl refl)) (map_same f g xs (λ y there. each y (inr there)))

pub joined_same : (groups entries : List Row) (new : Row) → IsTable groups → are_fresh groups (new ∷ []) ≡ true → AreParented groups entries
    → joined (put_row new groups) entries ≡ joined groups entries
joined_same groups entries new up fresh parents =
    ap from_entries (map_same (λ r. (place_in (put_row new groups) r, body_of r)) (λ r. (place_in groups r, body_of r)) entries (λ r there.
    let p = parents r there in
    let id = id_in (column r 1) in
    let now : row_at (put_row new groups) id ≡ p.0 = row_at_is (put_row new groups) id p.0 (IsTable-put_row new groups up) (put_all_keeps (new ∷ []) groups p.0 fresh p.1) p.2 in
    let was : row_at groups id ≡ p.0 = row_at_is groups id p.0 up p.1 p.2 in
    ap (λ (q : Row). ((bytes (column q 2), bytes (column r 2)), body_of r)) (now ∙ sym was)))

-- ---- the statement

module _ (t : Tables) (l : Layout t) (limit : Option ℕ) (db : Trees) (name : List ℕ) (rises : Rises (db t.grps_tree)) where
  abbrev table : Table
  table = grps t.grps_tree

  abbrev params : Row
  params = Text name ∷ []

  abbrev task : Task
  task = record { limit = limit; keys = Enforced; schema = t.schema; table = table; params = params }

  abbrev given : List Row
  given = (Null ∷ Null ∷ Text name ∷ []) ∷ []

  abbrev edit : ℤ → Edit
  edit top = edit_of db table [] (Above top) 0 given

  abbrev id : ℤ → ℤ
  id top = at_least (Above top) (next_rowid (db t.grps_tree))

  abbrev new : ℤ → Row
  new top = Int (id top) ∷ Null ∷ Text name ∷ []

  news_is : (top : ℤ) → (edit top).news ≡ new top ∷ []
  news_is top = rw cast_null

  record Keeps (a b : Trees) : Type 0 where
    groups : b t.grps_tree ≡ a t.grps_tree
    entries : b t.entries_tree ≡ a t.entries_tree
    named : b t.named_tree ≡ a t.named_tree
    others : (u : Table) → Has t.schema.tables u → u.tree ≢ t.grps_tree + 2 → b u.tree ≡ a u.tree

  kept : (mid next : Trees) (e : Edit) → e.table.tree ≡ t.grps_tree + 2 → Applies t.schema Enforced mid e next → Keeps mid next
  kept mid next e at it = record {
    groups = all_has (λ (x : Table). x.tree ≢ e.table.tree → next x.tree ≡ mid x.tree) t.schema.tables (grps t.grps_tree) it.tables l.has_grps (λ same. omega (arith, same, at));
    entries = all_has (λ (x : Table). x.tree ≢ e.table.tree → next x.tree ≡ mid x.tree) t.schema.tables (entries t.entries_tree) it.tables l.has_entries (λ same. omega (arith, same, at, l.apart));
    named = all_has (λ (x : Table). x.tree ≢ e.table.tree → next x.tree ≡ mid x.tree) t.schema.tables (named t.named_tree) it.tables l.has_named (λ same. l.named_apart.1 (same ∙ at));
    others = λ u has other. all_has (λ (x : Table). x.tree ≢ e.table.tree → next x.tree ≡ mid x.tree) t.schema.tables u it.tables has (λ same. other (same ∙ at));
  }

  alone : (mid : Trees) (e : Edit) → works t.schema Enforced 0 e.table.tree (taken_by mid e) (unwrap_or (slice_get e.news 0) [] ∷ []) ≡ []
  alone mid e = l.unreferred e.table.tree (taken_by mid e) (unwrap_or (slice_get e.news 0) [])

  -- the count of the table's ids follows
  step : (mid next : Trees) (counter : Option Row) (top : ℤ) → Edited t.schema Enforced mid (counting mid table (counters (t.grps_tree + 2)) top counter) (Ok next) → Keeps mid next
  step mid next None top h =
      let e = counting mid table (counters (t.grps_tree + 2)) top None in kept mid next e refl (one_step t.schema Enforced mid next e (alone mid e) h)
  step mid next (Some c) top h =
      let e = counting mid table (counters (t.grps_tree + 2)) top (Some c) in kept mid next e refl (one_step t.schema Enforced mid next e (alone mid e) h)

  by : (mid next : Trees) (counter : Option Row) (top : ℤ) (b : Bool) → MatchBool b (CountsIn task mid counter top (sequence t.schema) (Ok next)) (Gives mid (Ok next)) → Keeps mid next
  by mid next counter top true h = step mid next counter top (subst (λ o. CountsIn task mid counter top o (Ok next)) l.counts_in h)
  by mid next counter top false h = let same : next ≡ mid = same_value h in record { groups = ap (λ (d : Trees). d t.grps_tree) same; entries = ap (λ (d : Trees). d t.entries_tree) same; named = ap (λ (d : Trees). d t.named_tree) same; others = λ u has other. ap (λ (d : Trees). d u.tree) same }

  record Wrote (top : ℤ) (w : Written) : Type 0 where
    shown : w.rows ≡ new top ∷ []
    rows : w.trees t.grps_tree ≡ put_row (new top) (db t.grps_tree)
    entries : w.trees t.entries_tree ≡ db t.entries_tree
    named : w.trees t.named_tree ≡ db t.named_tree
    others : (u : Table) → Has t.schema.tables u → u.tree ≢ t.grps_tree → u.tree ≢ t.grps_tree + 2 → w.trees u.tree ≡ db u.tree
    fresh : are_fresh (db t.grps_tree) (new top ∷ []) ≡ true

  wrote : (counter : Option Row) (w : Written)
      → Then (Edited t.schema Enforced db (edit (count_of counter)))
      (λ mid. Then (Counts task mid counter (fold higher (count_of counter) (edit (count_of counter)).news))
      (λ next. Gives (record { trees = next; rows = (edit (count_of counter)).news; last = last_id (edit (count_of counter)).news }))) (Ok w)
      → Wrote (count_of counter) w
  wrote counter w h =
      let top = count_of counter in
      let mid = went h in
      let next = went mid.2 in
      let it : Applies t.schema Enforced db (edit top) mid.0 = one_step t.schema Enforced db mid.0 (edit top) (alone db (edit top)) mid.1 in
      let after = by mid.0 next.0 counter (fold higher top (edit top).news) (is_lt (int_cmp top (fold higher top (edit top).news))) next.1 in
      let is = same_value next.2 in
      record {
        shown = ap (λ (x : Written). x.rows) is ∙ news_is top;
        rows = ap (λ (x : Written). x.trees t.grps_tree) is ∙ after.groups ∙ subst (λ ns. mid.0 t.grps_tree ≡ put_all (db t.grps_tree) ns) (news_is top) it.rows;
        entries = ap (λ (x : Written). x.trees t.entries_tree) is ∙ after.entries
            ∙ all_has (λ (x : Table). x.tree ≢ t.grps_tree → mid.0 x.tree ≡ db x.tree) t.schema.tables (entries t.entries_tree) it.tables l.has_entries (λ same. omega (arith, same, l.apart));
        named = ap (λ (x : Written). x.trees t.named_tree) is ∙ after.named
            ∙ all_has (λ (x : Table). x.tree ≢ t.grps_tree → mid.0 x.tree ≡ db x.tree) t.schema.tables (named t.named_tree) it.tables l.has_named l.named_apart.0;
        others = λ u has one two. ap (λ (x : Written). x.trees u.tree) is ∙ after.others u has two ∙ all_has (λ (x : Table). x.tree ≢ t.grps_tree → mid.0 x.tree ≡ db x.tree) t.schema.tables u it.tables has one;
        fresh = subst (λ ns. are_fresh (db t.grps_tree) ns ≡ true) (news_is top) it.fresh;
      }

  shows : (top : ℤ) (w : Written) (rows : List Row) → w.rows ≡ new top ∷ [] → Shows task group_shown w.trees w.rows (Ok rows) → rows ≡ (Int (id top) ∷ []) ∷ []
  shows top w rows are h =
      let one = went (subst (λ rs. Shows task group_shown w.trees rs (Ok rows)) are h) in
      let rest = went one.2 in
      same_value rest.2 ∙ ap₂ (λ (a b : List Row). a ++ b) one.1.1 (same_value rest.1)

  does_group : (tally : Tally) (after : Database) → Does limit mode params (record { schema = t.schema; trees = db }) group_text (Some group_shown) (Insert t.grps_at group_source) (Ok (tally, after))
      → IsGrouped t db name tally after
  does_group tally after done =
      let placed : OnRows task mode (Some group_shown) (Insert t.grps_at group_source) db (Ok (tally, after)) =
      subst (λ o. AtPlace (λ x. OnRows (record { limit = limit; keys = Enforced; schema = t.schema; table = x; params = params }) mode (Some group_shown) (Insert t.grps_at group_source) db) o (Ok (tally, after))) l.grps_there done in
      let all = went placed in
      let source = went all.1 in
      let counter = went source.2 in
      let top = count_of counter.0 in
      let made : Wrote top all.0 = wrote counter.0 all.0 (subst (λ rs. Then (Edited t.schema Enforced db (edit_of db table [] (Above top) 0 rs))
      (λ mid. Then (Counts task mid counter.0 (fold higher top (edit_of db table [] (Above top) 0 rs).news))
      (λ next. Gives (record { trees = next; rows = (edit_of db table [] (Above top) 0 rs).news; last = last_id (edit_of db table [] (Above top) 0 rs).news }))) (Ok all.0)) source.1.1 counter.2) in
      let told = went (went all.2).2 in
      let given_rows = went told.1 in
      let counted = went given_rows.2 in
      let is = same_value told.2 in
      let trees : after.trees ≡ all.0.trees = ap (λ (p : Tally × Database). p.1.trees) is in
      let rows : after.trees t.grps_tree ≡ put_row (new top) (db t.grps_tree) = ap (λ (d : Trees). d t.grps_tree) trees ∙ made.rows in
      let entries : after.trees t.entries_tree ≡ db t.entries_tree = ap (λ (d : Trees). d t.entries_tree) trees ∙ made.entries in
      record {
        schema = ap (λ (p : Tally × Database). p.1.schema) is;
        id = id top;
        shown = ap (λ (p : Tally × Database). p.0.shown) is ∙ same_value counted.2 ∙ shows top all.0 given_rows.0 made.shown given_rows.1;
        rows = rows;
        fresh = made.fresh;
        rises = subst Rises (sym rows) (record {
          up = IsTable-put_row (new top) (db t.grps_tree) rises.up;
          ints = all-put_row (λ r. IsTrue (is_int (rowid r))) (new top) (db t.grps_tree) refl rises.ints;
        });
        entries = entries;
        named = ap (λ (d : Trees). d t.named_tree) trees ∙ made.named;
        others = λ u has one two three. ap (λ (d : Trees). d u.tree) trees ∙ made.others u has one two;
        same = λ parents. ap₂ joined rows entries ∙ joined_same (db t.grps_tree) (db t.entries_tree) (new top) rises.up made.fresh parents;
      }

pub makes_groups : MakesGroups
makes_groups t l limit db name rises tally after done = does_group t l limit db name rises tally after done
