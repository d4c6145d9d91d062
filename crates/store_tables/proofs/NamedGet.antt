-- What the queries on the table of texts show.
use Rattle.std.proofs.Common.{◌≡◌, ℕ, true, codes, List, [], ◌∷◌, Some, inl, inr, refl, sym, ap, subst, ◌∙◌}
use Rattle.std.proofs.lemmas.Bool.{and_parts, and_from}
use Rattle.std.specs.FinMap.{get}
use Rattle.std.specs.List.{list_all}
use Rattle.sqlite_value.specs.declared.value.Value.TheVariants.{Null, Text}
use Rattle.sqlite_value.specs.declared.keys.Collation.TheVariants.{Binary}
use Rattle.sqlite_value.specs.Order.{Row, column, bytes}
use Rattle.sqlite_trees.specs.Tree.{Trees}
use Rattle.sqlite_rules.specs.Lists.{Has}
use Rattle.sqlite_sql.specs.Program.{overlay}
use Rattle.sqlite_sql.specs.Term.{holds}
use Rattle.sqlite_sql.specs.Ops.{binary, is_true}
use Rattle.sqlite_sql.specs.declared.ops.BinaryOp.TheVariants.{Compare}
use Rattle.sqlite_sql.specs.declared.ops.CompareOp.TheVariants.{Eq}
use Rattle.sqlite.specs.Term.{Term, col}
use Rattle.sqlite.specs.Effect.{Reads}
use Rattle.budget_ports.proofs.Places.{text_total, text_same}
use Rattle.store_tables.specs.Texts.{query_of, by, select}
use Rattle.store_tables.specs.Layout.{Rises, Rules}
use Rattle.store_tables.specs.Named.{NamedAt, IsNamed, texts_in, name_of, text_of, get_filter, get_project, TellsText, TellsNames}
use Rattle.store_tables.proofs.Lists.{Shows, shows, shows_same}
use Rattle.store_tables.proofs.Maps.{get_found, get_missing, looked_up}
use Rattle.store_tables.proofs.RowRules.{named_typed, named_once, same_texts, texts_same}

module _ (spot : NamedAt) (laid : IsNamed spot) (db : Trees) (rules : Rules spot.schema db) (rises : Rises (db spot.tree)) where
  abbrev rows_of : List Row
  rows_of = db spot.tree

  got : (r : Row) → Has rows_of r → get (texts_in rows_of) (name_of r) ≡ Some (text_of r)
  got r there = get_found text_total text_same name_of text_of rows_of r there (λ y k e. ap text_of (named_once spot laid db rules rises y r k there e))

  passes : (name : List ℕ) (r : Row) → Has rows_of r → name_of r ≡ name → list_all (holds ((Text name ∷ []) ∷ r ∷ [])) get_filter ≡ true
  passes name r there same = and_from _ _ (rw ((named_typed spot laid db rules r there).0, same) (texts_same name)) refl

  passed : (name : List ℕ) (r : Row) → Has rows_of r → list_all (holds ((Text name ∷ []) ∷ r ∷ [])) get_filter ≡ true → name_of r ≡ name
  passed name r there h =
      let k : is_true (binary (Compare Eq Binary) (column r 1) (Text name)) ≡ true = (and_parts _ _ h).0 in
      same_texts _ _ (rw (named_typed spot laid db rules r there).0 at k)

  pub tells_text : (name : List ℕ) (rows : List Row) → Shows db spot.tree get_filter get_project (Text name ∷ []) rows → TellsText (texts_in rows_of) name rows
  tells_text name rows all = record {
    none = λ is. get_missing text_total text_same name_of text_of rows_of name (λ r there same.
        let x : Has rows (column r 2 ∷ []) = all.complete r there (passes name r there same) in
        subst (λ l. Has l (column r 2 ∷ [])) is x);
    some = λ x at.
        let r = all.sound x at in
        let shown : column x 0 ≡ column r.0 2 = ap (λ (z : Row). column z 0) r.3 in (
          shown ∙ (named_typed spot laid db rules r.0 r.1).1 ∙ ap (λ v. Text (bytes v)) (sym shown),
          subst (λ n. get (texts_in rows_of) n ≡ Some (bytes (column x 0))) (passed name r.0 r.1 r.2) (got r.0 r.1 ∙ ap (λ v. Some (bytes v)) (sym shown)),
        );
  }

  pub tells_names : (rows : List Row) → Shows db spot.tree [] (col 1 1 ∷ []) [] rows → TellsNames (texts_in rows_of) rows
  tells_names rows all = record {
    sound = λ x at.
        let r = all.sound x at in
        (text_of r.0, subst (λ n. get (texts_in rows_of) n ≡ Some (text_of r.0)) (ap (λ (z : Row). bytes (column z 0)) (sym r.3)) (got r.0 r.1));
    complete = λ name text is. elim (looked_up text_total text_same name_of text_of rows_of name) [
      | inl r ↦ (column r.0 1 ∷ [], all.complete r.0 r.1 refl, r.2)
      | inr none ↦ absurd (let e = sym (get_missing text_total text_same name_of text_of rows_of name none) ∙ is in cc)
    ];
  }

  read : (filter project : List Term) (given : Row) (rows : List Row) → Shows (overlay db []) spot.tree filter project given rows → Shows db spot.tree filter project given rows
  read filter project given rows all = shows_same (overlay db []) db spot.tree filter project given rows (laid.reads db) all

  pub text_asked : (name : List ℕ) (rows : List Row) → Reads (select (query_of spot.tree get_filter get_project []) (codes "body" ∷ [])) (record { schema = spot.schema; trees = db }) (Text name ∷ []) rows → TellsText (texts_in rows_of) name rows
  text_asked name rows h = tells_text name rows (read get_filter get_project (Text name ∷ []) rows (shows spot.tree get_filter get_project [] (overlay db []) (Text name ∷ []) rows (h.answer Null)))

  pub names_asked : (rows : List Row) → Reads (select (query_of spot.tree [] (col 1 1 ∷ []) (by 1 ∷ [])) (codes "name" ∷ [])) (record { schema = spot.schema; trees = db }) [] rows → TellsNames (texts_in rows_of) rows
  names_asked rows h = tells_names rows (read [] (col 1 1 ∷ []) [] rows (shows spot.tree [] (col 1 1 ∷ []) (by 1 ∷ []) (overlay db []) [] rows (h.answer Null)))
