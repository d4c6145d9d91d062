-- What `INSERT INTO entries .. ON CONFLICT DO NOTHING` does.
use Rattle.std.proofs.Common.{arith, ◌&&◌, ◌||◌, ◌≡◌, ◌≢◌, ◌⊎◌, ℕ, ℤ, Bool, true, false, cond, List, [], ◌∷◌, Option, None, Some, is_some, Ok, inl, inr, refl, sym, ap, ap₂, subst, ◌∙◌, true≢false, IsTrue, Ordering, Less, Equal, Greater}
use Rattle.std.specs.FinMap.{get, contains_key}
use Rattle.std.specs.Ordering.{is_eq}
use Rattle.std.specs.Cmp.{IsTotalOrder}
use Rattle.std.specs.FinMap.{IsAntisymmetric}
use Rattle.std.proofs.lemmas.Cmp.{tied_back, tied_itself}
use Rattle.std.proofs.lemmas.Bool.{and_parts, and_from, or_cases, or_left, or_right}
use Rattle.sqlite_value.specs.declared.value.Value.{Value}
use Rattle.sqlite_value.specs.declared.value.Value.TheVariants.{Null, Int, Text}
use Rattle.sqlite_value.specs.declared.keys.Collation.TheVariants.{Binary}
use Rattle.sqlite_value.specs.Order.{Row, column, bytes, value_cmp}
use Rattle.sqlite_value.proofs.OrderLemmas.{value_cmp_total}
use Rattle.sqlite_trees.specs.Tree.{Trees, rowid, put_row, has_rowid}
use Rattle.sqlite_trees.specs.View.{is_int}
use Rattle.sqlite_trees.proofs.TreeLemmas.{IsTable-put_row, all-put_row}
use Rattle.sqlite_sql.specs.Ops.{unary, binary, is_true}
use Rattle.sqlite_sql.specs.declared.ops.BinaryOp.TheVariants.{Compare}
use Rattle.sqlite_sql.specs.declared.ops.CompareOp.TheVariants.{Eq}
use Rattle.sqlite_schema.specs.declared.schema.Kind.TheVariants.{Integer}
use Rattle.sqlite_schema.specs.declared.schema.Keys.TheVariants.{Enforced}
use Rattle.sqlite_schema.specs.declared.schema.Table.{Table}
use Rattle.sqlite_schema.specs.declared.command.Conflict.TheVariants.{Abort}
use Rattle.sqlite_rules.specs.declared.error.Rowids.TheVariants.{Chosen, Given}
use Rattle.sqlite_rules.specs.declared.error.Refusal.{Refusal}
use Rattle.sqlite_rules.specs.Lists.{Has}
use Rattle.sqlite_rules.specs.Cast.{cast, cast_row}
use Rattle.sqlite_rules.specs.Edit.{edit_of, next_rowid, with_rowid, id_in, row_at, taken_by, Applies}
use Rattle.sqlite_rules.specs.Keys.{AreConflicts}
use Rattle.sqlite_rules.proofs.ListLemmas.{all_has, some_from}
use Rattle.sqlite_rules.proofs.TableLemmas.{put_all_has, put_all_keeps, put_all_adds}
use Rattle.sqlite_rules.proofs.PlaceLemmas.{row_at_is, next_is_free}
use Rattle.sqlite.specs.Command.TheVariants.{InsertOr}
use Rattle.sqlite.specs.Effect.{Database}
use Rattle.sqlite.specs.Does.{Tally, Does, AtPlace, OnRows}
use Rattle.sqlite.specs.Rows.{Written, Task, Tries, Puts, Upserts, Meets, Judged, Clears, TriesEach, nothing, count_of}
use Rattle.sqlite.proofs.Callers.{one_step}
use Rattle.store_tables.specs.Tables.{grps, entries, named}
use Rattle.store_tables.specs.Texts.{Tables, entry_text}
use Rattle.store_tables.specs.Layout.{Layout, Rises, Rules}
use Rattle.store_tables.specs.Joined.{Place, joined, place_in, body_of, with_record, AreParented}
use Rattle.store_tables.specs.Grouped.{mode}
use Rattle.store_tables.specs.Entered.{entry_source, entry_clauses, Stand, IsEntered, MakesEntries}
use Rattle.budget_ports.proofs.Places.{place_total, place_same}
use Rattle.store_tables.proofs.Maps.{one_changed, get_found, get_missing}
use Rattle.store_tables.proofs.RowRules.{fit_rules, entry_typed, group_once, entry_once, same_texts, texts_same, equal_values}
use Rattle.store_tables.proofs.GroupLemmas.{went, same_value, cast_null}

either : (b : Bool) (x : Value) → cond b x x ≡ x
either true x = refl
either false x = refl

pub cast_int : (n : ℤ) → cast Integer (Int n) ≡ Int n
unfolding unary
cast_int n = either _ (Int n)

is_none : {X : Type 0} (o : Option X) → o ≡ None → is_some o ≡ false
is_none o e = ap is_some e

eq_is : (o : Ordering) → is_eq o ≡ true → o ≡ Equal
eq_is Less h = absurd (true≢false (sym h))
eq_is Equal h = refl
eq_is Greater h = absurd (true≢false (sym h))

module _ (t : Tables) (l : Layout t) (limit : Option ℕ) (db : Trees) (id : ℤ) (group key body : List ℕ) (stand : Stand t db) (q : Row) (at_q : Has (db t.grps_tree) q) (q_id : rowid q ≡ Int id)
    (q_name : bytes (column q 2) ≡ group) where
  abbrev groups : List Row
  groups = db t.grps_tree

  abbrev old : List Row
  old = db t.entries_tree

  rules : Rules t.schema db
  rules = record { typed = stand.typed; present = stand.present; unique = stand.unique }

  abbrev table : Table
  table = entries t.entries_tree

  abbrev params : Row
  params = Int id ∷ Text key ∷ Text body ∷ []

  abbrev task : Task
  task = record { limit = limit; keys = Enforced; schema = t.schema; table = table; params = params }

  abbrev place : Row → Place
  place = place_in groups

  abbrev fresh_id : ℤ
  fresh_id = next_rowid old

  abbrev new : Row
  new = Int fresh_id ∷ Int id ∷ Text key ∷ Text body ∷ []

  abbrev rowid_ties : Row → Bool
  rowid_ties r = is_true (binary (Compare Eq Binary) (column r 0) (Int fresh_id))

  abbrev id_ties : Row → Bool
  id_ties r = is_true (binary (Compare Eq Binary) (column r 1) (Int id))

  abbrev key_ties : Row → Bool
  key_ties r = id_ties r && (is_true (binary (Compare Eq Binary) (column r 2) (Text key)) && true)

  free : (r : Row) → Has old r → rowid_ties r ≡ true → ⊥
  free r there tie =
      let int = all_has (λ z. IsTrue (is_int (rowid z))) old r stand.entries.ints there in
      let same = (equal_values (rowid r) (Int fresh_id) int refl).0 tie in
      true≢false (sym (some_from (λ x. is_eq (value_cmp (rowid x) (Int fresh_id))) old r there (ap is_eq same)) ∙ next_is_free Chosen old (Int id ∷ Text key ∷ Text body ∷ []) stand.entries.up stand.entries.ints)

  -- the id of an entry is this one where its group has the name
  own_of : (n : ℤ) → value_cmp (Int n) (Int id) ≡ Equal → has_rowid n q ≡ true
  own_of n tie = rw q_id (ap is_eq (tied_back value_cmp_total (Int n) (Int id) tie))

  pub named_by : (r : Row) → column r 1 ≡ Int (id_in (column r 1)) → id_ties r ≡ true → bytes (column (row_at groups (id_in (column r 1))) 2) ≡ group
  named_by r int tie =
      let same : value_cmp (Int (id_in (column r 1))) (Int id) ≡ Equal = (equal_values (Int (id_in (column r 1))) (Int id) refl refl).0 (rw int at tie) in
      ap (λ (x : Row). bytes (column x 2)) (row_at_is groups (id_in (column r 1)) q stand.groups.up at_q (own_of (id_in (column r 1)) same)) ∙ q_name

  -- a row with a parent that has the name has the id
  pub tied_id : (r p : Row) → column r 1 ≡ Int (id_in (column r 1)) → Has groups p → has_rowid (id_in (column r 1)) p ≡ true → bytes (column (row_at groups (id_in (column r 1))) 2) ≡ group → id_ties r ≡ true
  tied_id r p int at_p own same =
      let is : row_at groups (id_in (column r 1)) ≡ p = row_at_is groups (id_in (column r 1)) p stand.groups.up at_p own in
      let one : p ≡ q = group_once t l db rules stand.groups p q at_p at_q (ap (λ (x : Row). bytes (column x 2)) (sym is) ∙ same ∙ sym q_name) in
      let tie : value_cmp (rowid q) (Int (id_in (column r 1))) ≡ Equal = subst (λ (x : Row). value_cmp (rowid x) (Int (id_in (column r 1))) ≡ Equal) one (eq_is _ own) in
      let tie_id : value_cmp (Int id) (Int (id_in (column r 1))) ≡ Equal = subst (λ v. value_cmp v (Int (id_in (column r 1))) ≡ Equal) q_id tie in
      rw int ((equal_values (Int (id_in (column r 1))) (Int id) refl refl).1 (tied_back value_cmp_total (Int id) (Int (id_in (column r 1))) tie_id))

  tied : (r : Row) → Has old r → place r ≡ (group, key) → key_ties r ≡ true
  tied r there same =
      let typed = entry_typed t l db rules r there in
      let p = stand.parents r there in
      let one : id_ties r ≡ true = tied_id r p.0 typed.0 p.1 p.2 (ap (λ (x : Place). x.0) same) in
      let two : is_true (binary (Compare Eq Binary) (column r 2) (Text key)) ≡ true = rw (typed.1, ap (λ (x : Place). x.1) same) (texts_same key) in
      and_from _ _ one (and_from _ _ two refl)

  ties : (r : Row) → Has old r → key_ties r ≡ true → place r ≡ (group, key)
  ties r there h =
      let typed = entry_typed t l db rules r there in
      let p = and_parts _ _ h in
      let two : is_true (binary (Compare Eq Binary) (column r 2) (Text key)) ≡ true = (and_parts _ _ p.1).0 in
      ap₂ (λ (a b : List ℕ). (a, b)) (named_by r typed.0 p.0) (same_texts _ _ (rw typed.1 at two))

  record Added (next : Trees) : Type 0 where
    kept : next t.grps_tree ≡ groups
    named : next t.named_tree ≡ db t.named_tree
    others : (u : Table) → Has t.schema.tables u → u.tree ≢ t.entries_tree → next u.tree ≡ db u.tree
    rises : Rises (next t.entries_tree)
    parents : AreParented groups (next t.entries_tree)
    joined_is : joined groups (next t.entries_tree) ≡ with_record group (joined groups old) key body

  -- two entries of one place are one, where each has a parent
  once : (rows : List Row) → AreParented groups rows → ((a b : Row) → Has rows a → Has rows b → is_true (binary (Compare Eq Binary) (column a 1) (column b 1)) ≡ true → bytes (column a 2) ≡ bytes (column b 2) → a ≡ b)
      → ((r : Row) → Has rows r → column r 1 ≡ Int (id_in (column r 1))) → (a b : Row) → Has rows a → Has rows b → place a ≡ place b → a ≡ b
  once rows parents apart ints a b at_a at_b same =
      let pa = parents a at_a in
      let pb = parents b at_b in
      let is_a : row_at groups (id_in (column a 1)) ≡ pa.0 = row_at_is groups (id_in (column a 1)) pa.0 stand.groups.up pa.1 pa.2 in
      let is_b : row_at groups (id_in (column b 1)) ≡ pb.0 = row_at_is groups (id_in (column b 1)) pb.0 stand.groups.up pb.1 pb.2 in
      let one : pa.0 ≡ pb.0 = group_once t l db rules stand.groups pa.0 pb.0 pa.1 pb.1 (ap (λ (x : Row). bytes (column x 2)) (sym is_a) ∙ ap (λ (x : Place). x.0) same ∙ ap (λ (x : Row). bytes (column x 2)) is_b) in
      let tie_a : value_cmp (rowid pa.0) (Int (id_in (column a 1))) ≡ Equal = eq_is _ pa.2 in
      let tie_b : value_cmp (rowid pa.0) (Int (id_in (column b 1))) ≡ Equal = subst (λ (x : Row). value_cmp (rowid x) (Int (id_in (column b 1))) ≡ Equal) (sym one) (eq_is _ pb.2) in
      let tie : value_cmp (Int (id_in (column a 1))) (Int (id_in (column b 1))) ≡ Equal = sym (value_cmp_total.congr _ _ (Int (id_in (column b 1))) tie_a) ∙ tie_b in
      let ids : is_true (binary (Compare Eq Binary) (column a 1) (column b 1)) ≡ true = rw (ints a at_a, ints b at_b) ((equal_values (Int (id_in (column a 1))) (Int (id_in (column b 1))) refl refl).1 tie) in
      apart a b at_a at_b ids (ap (λ (x : Place). x.1) same)

  pub once_old : (a b : Row) → Has old a → Has old b → place a ≡ place b → a ≡ b
  once_old = once old stand.parents (entry_once t l db rules stand.entries) (λ r there. (entry_typed t l db rules r there).0)

  inserted : (one : Written) → ((y : Row) → Has old y → place y ≡ (group, key) → ⊥) → Puts task new db (Ok one) → Added one.trees
  inserted one none h =
      let edit = edit_of db table [] Given 0 (new ∷ []) in
      let x : Row = cast Integer (Int fresh_id) ∷ cast Integer (Int id) ∷ Text key ∷ Text body ∷ [] in
      let done = went h in
      let it : Applies t.schema Enforced db edit done.0 = one_step t.schema Enforced db done.0 edit (l.unreferred edit.table.tree (taken_by db edit) x) done.1 in
      let trees : one.trees ≡ done.0 = ap (λ (w : Written). w.trees) (same_value done.2) in
      let rows : done.0 t.entries_tree ≡ put_row x old = it.rows in
      let kept : done.0 t.grps_tree ≡ groups = all_has (λ (y : Table). y.tree ≢ t.entries_tree → done.0 y.tree ≡ db y.tree) t.schema.tables (grps t.grps_tree) it.tables l.has_grps (λ same. omega (arith, same, l.apart)) in
      let up : Rises (done.0 t.entries_tree) = subst Rises (sym rows) (record {
        up = IsTable-put_row x old stand.entries.up;
        ints = all-put_row (λ r. IsTrue (is_int (rowid r))) x old (and_parts _ _ it.keyed).0 stand.entries.ints;
      }) in
      let has : (y : Row) → Has (done.0 t.entries_tree) y → (y ≡ x) ⊎ Has old y = λ y there. elim (put_all_has (x ∷ []) old y (subst (λ r. Has r y) rows there)) [
        | inl (inl is) ↦ inl is
        | inl (inr never) ↦ absurd never
        | inr was ↦ inr was
      ] in
      let stays : (y : Row) → Has old y → Has (done.0 t.entries_tree) y = λ y there. subst (λ r. Has r y) (sym rows) (put_all_keeps (x ∷ []) old y it.fresh there) in
      let x_int : column x 1 ≡ Int id = cast_int id in
      let x_own : has_rowid (id_in (column x 1)) q ≡ true = rw x_int (own_of id (tied_itself value_cmp_total (Int id))) in
      let parents : AreParented groups (done.0 t.entries_tree) = λ y there. elim (has y there) [
        | inl is ↦ (q, at_q, subst (λ (r : Row). has_rowid (id_in (column r 1)) q ≡ true) (sym is) x_own)
        | inr was ↦ stand.parents y was
      ] in
      let next_rules = fit_rules t.schema done.0 it.fits in
      let once_new : (a b : Row) → Has (done.0 t.entries_tree) a → Has (done.0 t.entries_tree) b → place a ≡ place b → a ≡ b =
      once (done.0 t.entries_tree) parents (entry_once t l done.0 next_rules up) (λ r there. (entry_typed t l done.0 next_rules r there).0) in
      let x_place : place x ≡ (group, key) = ap (λ (n : List ℕ). (n, key)) (ap (λ (r : Row). bytes (column r 2)) (row_at_is groups (id_in (column x 1)) q stand.groups.up at_q x_own) ∙ q_name) in
      let changed = one_changed place_total place_same place body_of old (done.0 t.entries_tree) x once_old once_new
      (subst (λ r. Has r x) (sym rows) (put_all_adds (x ∷ []) old x it.fresh (inl refl))) has (λ y there other. stays y there) in
      let absent : contains_key (joined groups old) (group, key) ≡ false = is_none _ (get_missing place_total place_same place body_of old (group, key) none) in
      let added : Added done.0 = record { kept = kept; named = all_has (λ (y : Table). y.tree ≢ t.entries_tree → done.0 y.tree ≡ db y.tree) t.schema.tables (named t.named_tree) it.tables l.has_named l.named_apart.2; others = λ u has other. all_has (λ (y : Table). y.tree ≢ t.entries_tree → done.0 y.tree ≡ db y.tree) t.schema.tables u it.tables has other; rises = up; parents = parents; joined_is = changed ∙ ap (λ p. Rattle.std.specs.FinMap.insert (joined groups old) p body) x_place ∙ rw absent } in
      subst Added (sym trees) added

  cleared : (one : Written) (found : List Row) → ((y : Row) → Has old y → place y ≡ (group, key) → ⊥) → Clears task Abort new db found (Ok one) → Added one.trees
  cleared one [] none h = inserted one none h
  cleared one (x ∷ more) none h = inserted one none h

  met : (one : Written) (found : List Row) → AreConflicts None t.schema.indexes table old new found
      → Meets task (Upserts task Abort new db []) new db (record { target = None; update = None }) found (Ok one) → Added one.trees
  met one [] are m = cleared one m.0 (λ y there same. are.complete y there (l.conflict_is new y ∙ or_right (rowid_ties y && true) (key_ties y || false) (or_left (key_ties y) false (tied y there same)))) m.2
  met one (there ∷ more) are m =
      let r = are.sound there (inl refl) in
      let key_tie : key_ties r.0 ≡ true = elim (or_cases (rowid_ties r.0 && true) (key_ties r.0 || false) (sym (l.conflict_is new r.0) ∙ r.2)) [
        | inl by_rowid ↦ absurd (free r.0 r.1 (and_parts (rowid_ties r.0) true by_rowid).0)
        | inr by_key ↦ elim (or_cases (key_ties r.0) false by_key) [ inl yes_it ↦ yes_it | inr never ↦ absurd (true≢false (sym never)) ]
      ] in
      let at = ties r.0 r.1 key_tie in
      let there_is : get (joined groups old) (group, key) ≡ Some (body_of r.0) =
      subst (λ p. get (joined groups old) p ≡ Some (body_of r.0)) at
      (get_found place_total place_same place body_of old r.0 r.1 (λ y k e. ap body_of (once_old y r.0 k r.1 e))) in
      let trees : one.trees ≡ db = ap (λ (w : Written). w.trees) (same_value m) in
      let s : Added db = record { kept = refl; named = refl; others = λ u has other. refl; rises = stand.entries; parents = stand.parents; joined_is = rw (ap is_some there_is) } in
      subst Added (sym trees) s

  judged : (one : Written) (verdict : Option Refusal) → Judged task Abort entry_clauses new db verdict (Ok one) → Added one.trees
  judged one None j = met one j.0 j.1 j.2
  judged one (Some why) j = absurd (let e = j in cc)

  tried : (one : Written) → Tries task Abort entry_clauses new db (Ok one) → Added one.trees
  tried one (inl full) = absurd (let e = full.1 in cc)
  tried one (inr h) = judged one h.0 h.2

  new_is : with_rowid Chosen old (cast_row table (Null ∷ params)) ≡ new
  new_is = rw (cast_null, cast_int id)

  does_entry : (tally : Tally) (after : Database) → Does limit mode params (record { schema = t.schema; trees = db }) entry_text None (InsertOr t.entries_at Abort entry_source entry_clauses) (Ok (tally, after))
      → IsEntered t db group key body after
  does_entry tally after done =
      let placed : OnRows task mode None (InsertOr t.entries_at Abort entry_source entry_clauses) db (Ok (tally, after)) =
      subst (λ o. AtPlace (λ x. OnRows (record { limit = limit; keys = Enforced; schema = t.schema; table = x; params = params }) mode None (InsertOr t.entries_at Abort entry_source entry_clauses) db) o (Ok (tally, after))) l.entries_there done in
      let all = went placed in
      let is = same_value (went (went all.2).2).2 in
      let source = went all.1 in
      let counter = went source.2 in
      let each = went counter.2 in
      let counts = went each.2 in
      let single = went (subst (λ rs. TriesEach task Abort entry_clauses rs (count_of counter.0) (nothing db) (Ok each.0)) source.1.1 each.1) in
      let added = tried single.0 (subst (λ n. Tries task Abort entry_clauses n db (Ok single.0)) new_is single.1) in
      let trees : after.trees ≡ single.0.trees =
      ap (λ (p : Tally × Database). p.1.trees) is ∙ ap (λ (w : Written). w.trees) (same_value counts.2) ∙ same_value counts.1 ∙ ap (λ (p : Written × ℤ). p.0.trees) (same_value single.2) in
      let late : Added after.trees = subst Added (sym trees) added in
      record {
        schema = ap (λ (p : Tally × Database). p.1.schema) is;
        groups = late.kept;
        named = late.named;
        others = λ u has one two three. late.others u has three;
        rises = late.rises;
        parents = subst (λ gs. AreParented gs (after.trees t.entries_tree)) (sym late.kept) late.parents;
        joined_is = ap (λ gs. joined gs (after.trees t.entries_tree)) late.kept ∙ late.joined_is;
      }

pub makes_entries : MakesEntries
makes_entries t l limit db id group key body stand q at_q q_id q_name tally after done = does_entry t l limit db id group key body stand q at_q q_id q_name tally after done
