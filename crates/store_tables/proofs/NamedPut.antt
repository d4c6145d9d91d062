-- What `put` does.
use Rattle.std.proofs.Common.{◌&&◌, ◌||◌, ◌≡◌, ◌≢◌, ◌⊎◌, ℕ, ℤ, Bool, true, false, List, [], ◌∷◌, map, drop, Option, None, Some, Ok, inl, inr, refl, sym, ap, subst, ◌∙◌, IsTrue}
use Rattle.std.specs.List.{list_all}
use Rattle.std.proofs.lemmas.Bool.{and_parts, and_from, not-true}
use Rattle.sqlite_value.specs.declared.value.Value.{Value}
use Rattle.sqlite_value.specs.declared.value.Value.TheVariants.{Null, Int, Text}
use Rattle.sqlite_value.specs.declared.keys.Collation.TheVariants.{Binary}
use Rattle.sqlite_value.specs.Order.{Row, column}
use Rattle.sqlite_trees.specs.Tree.{Trees, rowid, put_row}
use Rattle.sqlite_trees.specs.View.{is_int}
use Rattle.sqlite_trees.proofs.TreeLemmas.{IsTable-put_row, all-put_row}
use Rattle.sqlite_sql.specs.Ops.{binary, is_true}
use Rattle.sqlite_sql.specs.declared.ops.BinaryOp.TheVariants.{Compare}
use Rattle.sqlite_sql.specs.declared.ops.CompareOp.TheVariants.{Eq}
use Rattle.sqlite_schema.specs.declared.schema.Kind.TheVariants.{Integer}
use Rattle.sqlite_schema.specs.declared.schema.Keys.TheVariants.{Enforced}
use Rattle.sqlite_schema.specs.declared.command.Conflict.TheVariants.{Abort}
use Rattle.sqlite_rules.specs.declared.error.Rowids.TheVariants.{Chosen, Given}
use Rattle.sqlite_rules.specs.declared.error.Refusal.{Refusal}
use Rattle.sqlite_rules.specs.Lists.{Has}
use Rattle.sqlite_rules.specs.Cast.{cast, cast_row}
use Rattle.sqlite_rules.specs.Edit.{taken_by, edit_of, next_rowid, with_rowid, id_in, numbered, without_all, row_at, Applies, put_all}
use Rattle.sqlite_rules.specs.Keys.{AreConflicts}
use Rattle.sqlite_rules.proofs.TableLemmas.{put_all_has, put_all_keeps, put_all_adds, without_all_has, int_is}
use Rattle.sqlite_rules.proofs.PlaceLemmas.{tied_same, row_at_is, left_or_taken}
use Rattle.sqlite_rules.proofs.ListLemmas.{all_has, has_filtered}
use Rattle.sqlite_rules.proofs.ProbeLemmas.{has_mapped, mapped_has}
use Rattle.sqlite_rules.specs.Calls.{ids_of}
use Rattle.sqlite_trees.proofs.ListLemmas.{ascending-filter, all-filter}
use Rattle.sqlite_trees.specs.Tree.{has_rowid, without_rowid}
use Rattle.sqlite_value.proofs.OrderLemmas.{value_cmp_total}
use Rattle.std.proofs.lemmas.Cmp.{tied_itself}
use Rattle.std.specs.Ordering.{is_eq}
use Rattle.sqlite_sql.specs.Program.{overlay}
use Rattle.sqlite_sql.specs.Term.{eval_all}
use Rattle.sqlite.specs.Rows.{InsertsOr, Updates, Meets, Judged, Clears, TriesEach, nothing, count_of}
use Rattle.sqlite_rules.specs.Keys.{conflicts}
use Rattle.store_tables.proofs.Lists.{Shows, shows, shows_same}
use Rattle.sqlite.specs.Effect.{Database}
use Rattle.sqlite.specs.Does.{Tally, Does}
use Rattle.sqlite.specs.Rows.{Written, Task, Tries, Puts, Upserts}
use Rattle.sqlite.proofs.Callers.{one_step}
use Rattle.store_tables.specs.Tables.{named}
use Rattle.store_tables.specs.Layout.{Rises, Rules}
use Rattle.store_tables.specs.Named.{NamedAt, IsNamed, Turned, name_of, text_of, put_text, put_command, put_source, put_clauses, update_filter, update_project, update_query}
use Rattle.store_tables.specs.Grouped.{mode}
use Rattle.sqlite_schema.specs.declared.schema.Table.{Table}
use Rattle.sqlite.specs.Does.{AtPlace, OnRows}
use Rattle.budget_ports.proofs.Places.{text_total, text_same}
use Rattle.store_tables.proofs.Maps.{one_changed}
use Rattle.store_tables.proofs.RowRules.{fit_rules, named_typed, named_once, same_texts, texts_same, equal_values}
use Rattle.store_tables.proofs.GroupLemmas.{went, same_value, cast_null}

abbrev pub task : NamedAt → Option ℕ → Row → Task
task spot limit params = record { limit = limit; keys = Enforced; schema = spot.schema; table = named spot.tree; params = params }

module _ (spot : NamedAt) (laid : IsNamed spot) (limit : Option ℕ) (params : Row) (db : Trees) (name text : List ℕ) (rules : Rules spot.schema db) (rises : Rises (db spot.tree)) where
  inserted : (id : ℤ) (one : Written) → ((y : Row) → Has (db spot.tree) y → name_of y ≡ name → ⊥) → Puts (task spot limit params) (Int id ∷ Text name ∷ Text text ∷ []) db (Ok one) → Turned spot db one.trees name text
  inserted id one none h =
      let new = Int id ∷ Text name ∷ Text text ∷ [] in
      let edit = edit_of db (named spot.tree) [] Given 0 (new ∷ []) in
      let x : Row = cast Integer (Int id) ∷ Text name ∷ Text text ∷ [] in
      let done = went h in
      let it : Applies spot.schema Enforced db edit done.0 = one_step spot.schema Enforced db done.0 edit (laid.unreferred (taken_by db edit) edit.news) done.1 in
      let trees : one.trees ≡ done.0 = ap (λ (w : Written). w.trees) (same_value done.2) in
      let rows : done.0 spot.tree ≡ put_row x (db spot.tree) = it.rows in
      let up : Rises (done.0 spot.tree) = subst Rises (sym rows) (record {
        up = IsTable-put_row x (db spot.tree) rises.up;
        ints = all-put_row (λ r. IsTrue (is_int (rowid r))) x (db spot.tree) (and_parts _ _ it.keyed).0 rises.ints;
      }) in
      let has : (y : Row) → Has (done.0 spot.tree) y → (y ≡ x) ⊎ Has (db spot.tree) y = λ y there. elim (put_all_has (x ∷ []) (db spot.tree) y (subst (λ l. Has l y) rows there)) [
        | inl (inl is) ↦ inl is
        | inl (inr never) ↦ absurd never
        | inr was ↦ inr was
      ] in
      let stays : (y : Row) → Has (db spot.tree) y → Has (done.0 spot.tree) y = λ y there. subst (λ l. Has l y) (sym rows) (put_all_keeps (x ∷ []) (db spot.tree) y it.fresh there) in
      let changed = one_changed text_total text_same name_of text_of (db spot.tree) (done.0 spot.tree) x (named_once spot laid db rules rises) (named_once spot laid done.0 (fit_rules spot.schema done.0 it.fits) up)
      (subst (λ l. Has l x) (sym rows) (put_all_adds (x ∷ []) (db spot.tree) x it.fresh (inl refl))) has (λ y there other. stays y there) in
      let r : Turned spot db done.0 name text = record { texts = changed; others = λ table listed other. all_has (λ (x : Table). x.tree ≢ spot.tree → done.0 x.tree ≡ db x.tree) spot.schema.tables table it.tables listed other; rises = up } in
      subst (λ t. Turned spot db t name text) (sym trees) r

numbered_given : (rows news : List Row) → numbered Given rows news ≡ news
numbered_given rows [] = refl
numbered_given rows (r ∷ rs) = ap (λ l. r ∷ l) (numbered_given (put_row r rows) rs)

rises_without : (ids : List ℤ) (rows : List Row) → Rises rows → Rises (without_all rows ids)
rises_without [] rows h = h
rises_without (id ∷ ids) rows h = rises_without ids (without_rowid id rows) (record { up = ascending-filter _ _ rows h.up; ints = all-filter _ _ rows h.ints })

rises_with : (news rows : List Row) → list_all (λ r. is_int (rowid r)) news ≡ true → Rises rows → Rises (put_all rows news)
rises_with [] rows keyed h = h
rises_with (n ∷ news) rows keyed h =
    let k = and_parts _ _ keyed in
    rises_with news (put_row n rows) k.1 (record { up = IsTable-put_row n rows h.up; ints = all-put_row (λ r. IsTrue (is_int (rowid r))) n rows k.0 h.ints })

-- a row that is left does not have the rowids that are gone
left_lacks : (ids : List ℤ) (rows : List Row) (y : Row) (id : ℤ) → Has (without_all rows ids) y → Has ids id → has_rowid id y ≡ false
left_lacks [] rows y id there gone = absurd gone
left_lacks (i ∷ ids) rows y id there (inl is) = rw is (not-true _ (has_filtered _ rows y (without_all_has ids (without_rowid i rows) y there)).1)
left_lacks (i ∷ ids) rows y id there (inr later) = left_lacks ids (without_rowid i rows) y id there later

module _ (spot : NamedAt) (laid : IsNamed spot) (limit : Option ℕ) (params : Row) (db : Trees) (name text : List ℕ) (rules : Rules spot.schema db) (rises : Rises (db spot.tree)) where
  abbrev given : Value → Value → Row
  given there id = Text name ∷ Text text ∷ there ∷ id ∷ Text name ∷ Text text ∷ []

  -- the row r is there, with the name, and the update finds it by its rowid
  updated : (r : Row) (id : Value) (one : Written) → Has (db spot.tree) r → name_of r ≡ name → Updates (task spot limit params) (record { lets = []; body = update_query spot.tree }) (given (rowid r) id) db (Ok one) → Turned spot db one.trees name text
  updated r id one at_r named_r h =
      let query = went h in
      let rows = query.0 in
      let read = shows spot.tree update_filter update_project [] (overlay db []) (given (rowid r) id) rows (query.1.answer Null) in
      let all : Shows db spot.tree update_filter update_project (given (rowid r) id) rows = shows_same (overlay db []) db spot.tree update_filter update_project (given (rowid r) id) rows (laid.reads db) read in
      let edit = edit_of db (named spot.tree) (ids_of rows) Given 1 rows in
      let done = went query.2 in
      let it : Applies spot.schema Enforced db edit done.0 = one_step spot.schema Enforced db done.0 edit (laid.unreferred (taken_by db edit) edit.news) done.1 in
      let trees : one.trees ≡ done.0 = ap (λ (w : Written). w.trees) (same_value done.2) in
      let shown = λ (q : Row). eval_all update_project (given (rowid r) id ∷ q ∷ []) in
      let stored = λ (s : Row). cast_row (named spot.tree) (drop 1 s) in
      let x : Row = cast Integer (rowid r) ∷ Text name ∷ Text text ∷ [] in
      let is_x : stored (shown r) ≡ x = rw ((named_typed spot laid db rules r at_r).0, named_r) in
      let int = λ (q : Row) (there : Has (db spot.tree) q). all_has (λ z. IsTrue (is_int (rowid z))) (db spot.tree) q rises.ints there in
      let only : (s : Row) → Has rows s → s ≡ shown r = λ s there.
      let q = all.sound s there in
      let tie = (equal_values (rowid q.0) (rowid r) (int q.0 q.1) (int r at_r)).0 (and_parts _ _ q.2).0 in
      q.3 ∙ ap shown (tied_same (db spot.tree) q.0 r rises.up q.1 at_r tie) in
      let found : Has rows (shown r) = all.complete r at_r (and_from _ _ ((equal_values (rowid r) (rowid r) (int r at_r) (int r at_r)).1 (tied_itself value_cmp_total (rowid r))) refl) in
      let left = without_all (db spot.tree) (ids_of rows) in
      let news : edit.news ≡ map stored rows = numbered_given left (map stored rows) in
      let is_new : (y : Row) → Has edit.news y → y ≡ x = λ y there.
      let s = has_mapped stored rows y (subst (λ l. Has l y) news there) in s.2 ∙ ap stored (only s.0 s.1) ∙ is_x in
      let has_new : Has edit.news x = subst (Has edit.news) is_x (subst (λ l. Has l (stored (shown r))) (sym news) (mapped_has stored rows (shown r) found)) in
      let after : done.0 spot.tree ≡ put_all left edit.news = it.rows in
      let up : Rises (done.0 spot.tree) = subst Rises (sym after) (rises_with edit.news left it.keyed (rises_without (ids_of rows) (db spot.tree) rises)) in
      let own : has_rowid (id_in (rowid r)) r ≡ true = rw (← int_is (rowid r) (int r at_r)) (ap is_eq (tied_itself value_cmp_total (rowid r))) in
      let from : (y : Row) → Has (done.0 spot.tree) y → (y ≡ x) ⊎ Has (db spot.tree) y = λ y there. elim (put_all_has edit.news left y (subst (λ l. Has l y) after there)) [
        | inl new ↦ inl (is_new y new)
        | inr was ↦ inr (without_all_has (ids_of rows) (db spot.tree) y was)
      ] in
      let stays : (y : Row) → Has (db spot.tree) y → (name_of y ≡ name → ⊥) → Has (done.0 spot.tree) y = λ y there other. elim (left_or_taken (db spot.tree) (ids_of rows) y rises.up there) [
        | inl stay ↦ subst (λ l. Has l y) (sym after) (put_all_keeps edit.news left y it.fresh stay)
        | inr taken ↦ absurd (
            let k = has_mapped (row_at (db spot.tree)) (ids_of rows) y taken in
            let s = has_mapped (λ (q : Row). id_in (rowid q)) rows k.0 k.1 in
            let same : k.0 ≡ id_in (rowid r) = s.2 ∙ ap (λ (q : Row). id_in (rowid q)) (only s.0 s.1) in
            let it_is : y ≡ r = k.2 ∙ ap (row_at (db spot.tree)) same ∙ row_at_is (db spot.tree) (id_in (rowid r)) r rises.up at_r own in
            other (ap name_of it_is ∙ named_r))
      ] in
      let changed = one_changed text_total text_same name_of text_of (db spot.tree) (done.0 spot.tree) x (named_once spot laid db rules rises) (named_once spot laid done.0 (fit_rules spot.schema done.0 it.fits) up)
      (subst (λ l. Has l x) (sym after) (put_all_adds edit.news left x it.fresh has_new)) from stays in
      let t : Turned spot db done.0 name text = record { texts = changed; others = λ table listed other. all_has (λ (x : Table). x.tree ≢ spot.tree → done.0 x.tree ≡ db x.tree) spot.schema.tables table it.tables listed other; rises = up } in
      subst (λ d. Turned spot db d name text) (sym trees) t

tidy : (b : Bool) → ((b && true) || false) ≡ b
tidy true = refl
tidy false = refl

in_the_way : (spot : NamedAt) → IsNamed spot → (id : ℤ) (name text : List ℕ) (r : Row) → conflicts (Some (1 ∷ [])) spot.schema.indexes (named spot.tree) (Int id ∷ Text name ∷ Text text ∷ []) r ≡ is_true (binary (Compare Eq Binary) (column r 1) (Text name))
in_the_way spot laid id name text r = laid.conflict_is (Int id ∷ Text name ∷ Text text ∷ []) r ∙ tidy _

new_is : (tree : ℕ) (rows : List Row) (name text : List ℕ) → with_rowid Chosen rows (cast_row (named tree) (Null ∷ Text name ∷ Text text ∷ [])) ≡ Int (next_rowid rows) ∷ Text name ∷ Text text ∷ []
new_is tree rows name text = rw cast_null

module _ (spot : NamedAt) (laid : IsNamed spot) (limit : Option ℕ) (db : Trees) (name text : List ℕ) (rules : Rules spot.schema db) (rises : Rises (db spot.tree)) (id : ℤ) (one : Written) where
  abbrev params : Row
  params = Text name ∷ Text text ∷ []

  abbrev new : Row
  new = Int id ∷ Text name ∷ Text text ∷ []

  cleared : (found : List Row) → ((y : Row) → Has (db spot.tree) y → name_of y ≡ name → ⊥) → Clears (task spot limit params) Abort new db found (Ok one) → Turned spot db one.trees name text
  cleared [] none h = inserted spot laid limit params db name text rules rises id one none h
  cleared (x ∷ more) none h = inserted spot laid limit params db name text rules rises id one none h

  met : (found : List Row) → AreConflicts (Some (1 ∷ [])) spot.schema.indexes (named spot.tree) (db spot.tree) new found
      → Meets (task spot limit params) (Upserts (task spot limit params) Abort new db []) new db (record { target = Some (1 ∷ []); update = Some (record { lets = []; body = update_query spot.tree }) }) found (Ok one) → Turned spot db one.trees name text
  met [] are m = cleared m.0 (λ y there same. are.complete y there (in_the_way spot laid id name text y ∙ rw ((named_typed spot laid db rules y there).0, same) (texts_same name))) m.2
  met (there ∷ more) are m =
      let r = are.sound there (inl refl) in
      let k : is_true (binary (Compare Eq Binary) (column r.0 1) (Text name)) ≡ true = sym (in_the_way spot laid id name text r.0) ∙ r.2 in
      let is : name_of r.0 ≡ name = same_texts _ _ (rw (named_typed spot laid db rules r.0 r.1).0 at k) in
      updated spot laid limit params db name text rules rises r.0 (Int id) one r.1 is
      (subst (λ v. Updates (task spot limit params) (record { lets = []; body = update_query spot.tree }) (Text name ∷ Text text ∷ v ∷ Int id ∷ Text name ∷ Text text ∷ []) db (Ok one)) (ap rowid r.3) m)

  judged : (verdict : Option Refusal) → Judged (task spot limit params) Abort (put_clauses spot.tree) new db verdict (Ok one) → Turned spot db one.trees name text
  judged None j = met j.0 j.1 j.2
  judged (Some why) j = absurd (let e = j in cc)

  tried : Tries (task spot limit params) Abort (put_clauses spot.tree) new db (Ok one) → Turned spot db one.trees name text
  tried (inl full) = absurd (let e = full.1 in cc)
  tried (inr h) = judged h.0 h.2

pub put_rows : (spot : NamedAt) → IsNamed spot → (limit : Option ℕ) (db : Trees) (name text : List ℕ) → Rules spot.schema db → Rises (db spot.tree) → (w : Written)
    → InsertsOr (task spot limit (Text name ∷ Text text ∷ [])) Abort (put_clauses spot.tree) put_source db (Ok w) → Turned spot db w.trees name text
put_rows spot laid limit db name text rules rises w h =
    let t = task spot limit (Text name ∷ Text text ∷ []) in
    let source = went h in
    let counter = went source.2 in
    let each = went counter.2 in
    let counts = went each.2 in
    let single = went (subst (λ rs. TriesEach t Abort (put_clauses spot.tree) rs (count_of counter.0) (nothing db) (Ok each.0)) source.1.1 each.1) in
    let turned = tried spot laid limit db name text rules rises (next_rowid (db spot.tree)) single.0 (subst (λ row. Tries t Abort (put_clauses spot.tree) row db (Ok single.0)) (new_is spot.tree (db spot.tree) name text) single.1) in
    let trees : w.trees ≡ single.0.trees =
    ap (λ (w : Written). w.trees) (same_value counts.2) ∙ same_value counts.1 ∙ ap (λ (p : Written × ℤ). p.0.trees) (same_value single.2) in
    subst (λ d. Turned spot db d name text) (sym trees) turned

pub does_put : (spot : NamedAt) → IsNamed spot → (limit : Option ℕ) (db : Trees) (name text : List ℕ) (tally : Tally) (after : Database) → Rules spot.schema db → Rises (db spot.tree)
    → Does limit mode (Text name ∷ Text text ∷ []) (record { schema = spot.schema; trees = db }) put_text None (put_command spot) (Ok (tally, after))
    → (after.schema ≡ spot.schema) × Turned spot db after.trees name text
does_put spot laid limit db name text tally after rules rises done =
    let t = task spot limit (Text name ∷ Text text ∷ []) in
    let placed : OnRows t mode None (put_command spot) db (Ok (tally, after)) =
    subst (λ o. AtPlace (λ x. OnRows (record { limit = limit; keys = Enforced; schema = spot.schema; table = x; params = Text name ∷ Text text ∷ [] }) mode None (put_command spot) db) o (Ok (tally, after))) laid.there done in
    let all = went placed in
    let is = same_value (went (went all.2).2).2 in
    let turned = put_rows spot laid limit db name text rules rises all.0 all.1 in
    let now : after ≡ record { schema = spot.schema; trees = all.0.trees } = ap (λ (p : Tally × Database). p.1) is in
    (ap (λ (d : Database). d.schema) now, subst (λ d. Turned spot db d name text) (sym (ap (λ (d : Database). d.trees) now)) turned)
