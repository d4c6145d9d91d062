-- What SINCE shows.
use Rattle.std.proofs.Common.{◌≡◌, ℕ, ℤ, true, List, [], ◌∷◌, Option, Some, None, inl, inr, refl, sym, ap, subst, ◌∙◌, true≢false, Ordering, Less, Equal, Greater}
use Rattle.std.proofs.lemmas.Bool.{and_parts, and_from}
use Rattle.std.specs.Ordering.{is_gt, ordering_reverse}
use Rattle.std.specs.FinMap.{get}
use Rattle.std.specs.List.{list_all}
use Rattle.sqlite_value.specs.declared.value.Value.TheVariants.{Null, Int, Text}
use Rattle.sqlite_value.specs.declared.keys.Collation.TheVariants.{Binary}
use Rattle.sqlite_value.specs.Order.{Row, column, bytes}
use Rattle.sqlite_value.proofs.OrderLemmas.{value_cmp-Text}
use Rattle.sqlite_trees.specs.Tree.{Trees, rowid}
use Rattle.sqlite_rules.specs.Lists.{Has}
use Rattle.sqlite_sql.specs.Program.{overlay}
use Rattle.sqlite_sql.specs.Term.{holds}
use Rattle.sqlite_sql.specs.Ops.{binary, is_true}
use Rattle.sqlite_sql.specs.declared.ops.BinaryOp.TheVariants.{Compare}
use Rattle.sqlite_sql.specs.declared.ops.CompareOp.TheVariants.{Eq, Gt}
use Rattle.sqlite.specs.Term.{Term, col, op2}
use Rattle.store_tables.specs.Texts.{Tables, by}
use Rattle.store_tables.specs.Layout.{Layout, Rules}
use Rattle.store_tables.specs.Joined.{text_cmp, Place, joined, place_in, body_of}
use Rattle.store_tables.specs.Entered.{Stand}
use Rattle.store_tables.specs.Since.{since_filter, TellsSince, AsksSince, AsksGroup, AsksNobody}
use Rattle.sqlite_rules.specs.Edit.{id_in, row_at}
use Rattle.sqlite_rules.proofs.PlaceLemmas.{row_at_is}
use Rattle.store_tables.proofs.Lists.{Shows, shows, shows_same}
use Rattle.budget_ports.proofs.Places.{text_total}
use Rattle.store_tables.proofs.Maps.{get_found, get_missing, looked_up}
use Rattle.store_tables.proofs.RowRules.{entry_typed, group_typed, truth_of, same_texts, texts_same}
use Rattle.budget_ports.proofs.Places.{place_total, place_same}
use Rattle.store_tables.proofs.EntryLemmas.{named_by, tied_id, once_old}

greater : (a b : List ℕ) → is_true (binary (Compare Gt Binary) (Text a) (Text b)) ≡ is_gt (text_cmp a b)
unfolding binary
greater a b = truth_of _ ∙ ap is_gt (value_cmp-Text a b)

above : (a b : List ℕ) → is_gt (text_cmp a b) ≡ true → text_cmp b a ≡ Less
above a b h = text_total.antisymm b a ∙ ap ordering_reverse (go _ h)
  where
    go : (o : Ordering) → is_gt o ≡ true → o ≡ Greater
    go Less h = absurd (true≢false (sym h))
    go Equal h = absurd (true≢false (sym h))
    go Greater h = refl

module _ (t : Tables) (l : Layout t) (db : Trees) (id : ℤ) (group after : List ℕ) (stand : Stand t db) (q : Row) (at_q : Has (db t.grps_tree) q) (q_id : rowid q ≡ Int id) (q_name : bytes (column q 2) ≡ group) where
  abbrev old : List Row
  old = db t.entries_tree

  abbrev place : Row → Place
  place = place_in (db t.grps_tree)

  abbrev given : Row
  given = Int id ∷ Text after ∷ []

  rules : Rules t.schema db
  rules = record { typed = stand.typed; present = stand.present; unique = stand.unique }

  got : (r : Row) → Has old r → get (joined (db t.grps_tree) old) (place r) ≡ Some (body_of r)
  got r there = get_found place_total place_same place body_of old r there (λ y k e. ap body_of (once_old t l None db id group [] [] stand q at_q q_id q_name y r k there e))

  passes : (r : Row) (key : List ℕ) → Has old r → place r ≡ (group, key) → text_cmp after key ≡ Less → list_all (holds (given ∷ r ∷ [])) since_filter ≡ true
  passes r key there same low =
      let typed = entry_typed t l db rules r there in
      let p = stand.parents r there in
      let one : is_true (binary (Compare Eq Binary) (column r 1) (Int id)) ≡ true = tied_id t l None db id group [] [] stand q at_q q_id q_name r p.0 typed.0 p.1 p.2 (ap (λ (x : Place). x.0) same) in
      let up : is_gt (text_cmp key after) ≡ true = ap is_gt (text_total.antisymm key after ∙ ap ordering_reverse low) in
      let two : is_true (binary (Compare Gt Binary) (column r 2) (Text after)) ≡ true = rw (typed.1, ap (λ (x : Place). x.1) same) (greater key after ∙ up) in
      and_from _ _ one (and_from _ _ two refl)

  tells : (rows : List Row) → Shows db t.entries_tree since_filter (col 1 2 ∷ col 1 3 ∷ []) given rows → TellsSince db t group after rows
  tells rows shown = record {
    sound = λ x at.
        let r = shown.sound x at in
        let typed = entry_typed t l db rules r.0 r.1 in
        let p = and_parts _ _ r.2 in
        let name = named_by t l None db id group [] [] stand q at_q q_id q_name r.0 typed.0 p.0 in
        let two : is_true (binary (Compare Gt Binary) (column r.0 2) (Text after)) ≡ true = (and_parts _ _ p.1).0 in
        let low : text_cmp after (bytes (column r.0 2)) ≡ Less = above (bytes (column r.0 2)) after (sym (greater (bytes (column r.0 2)) after) ∙ (rw typed.1 at two)) in
        let here : get (joined (db t.grps_tree) old) (group, bytes (column r.0 2)) ≡ Some (bytes (column r.0 3)) =
        subst (λ n. get (joined (db t.grps_tree) old) (n, bytes (column r.0 2)) ≡ Some (bytes (column r.0 3))) name (got r.0 r.1) in
        subst (λ (z : Row). (get (joined (db t.grps_tree) old) (group, bytes (column z 0)) ≡ Some (bytes (column z 1))) × (text_cmp after (bytes (column z 0)) ≡ Less)) (sym r.3) (here, low);
    complete = λ key body is low. elim (looked_up place_total place_same place body_of old (group, key)) [
      | inl r ↦ (
          let x = shown.complete r.0 r.1 (passes r.0 key r.1 r.2 low) in
          let there : get (joined (db t.grps_tree) old) (group, key) ≡ Some (body_of r.0) = subst (λ k. get (joined (db t.grps_tree) old) k ≡ Some (body_of r.0)) r.2 (got r.0 r.1) in
          let same : ◌≡◌ {A = Option (List ℕ)} (Some (body_of r.0)) (Some body) = sym there ∙ is in
          let words : body_of r.0 ≡ body = cc in
          (column r.0 2 ∷ column r.0 3 ∷ [], x, ap (λ (k : Place). k.1) r.2, words))
      | inr none ↦ absurd (let e = sym (get_missing place_total place_same place body_of old (group, key) none) ∙ is in cc)
    ];
  }

pub asks_since : AsksSince
asks_since t l db id group after stand q at_q q_id q_name rows h =
    let all = shows t.entries_tree since_filter (col 1 2 ∷ col 1 3 ∷ []) (by 2 ∷ []) (overlay db []) (Int id ∷ Text after ∷ []) rows (h.answer Null) in
    tells t l db id group after stand q at_q q_id q_name rows (record {
      sound = λ x at. let r = all.sound x at in (r.0, subst (λ rs. Has rs r.0) (l.reads_entries db) r.1, r.2, r.3);
      complete = λ r there. all.complete r (subst (λ rs. Has rs r) (sym (l.reads_entries db)) there);
    })

pub asks_group : AsksGroup
asks_group t l db rules name rows h =
    let test : List Term = op2 (Compare Eq Binary) (col 1 2) (col 0 0) ∷ [] in
    let read = shows t.grps_tree test (col 1 0 ∷ []) [] (overlay db []) (Text name ∷ []) rows (h.answer Null) in
    let all = shows_same (overlay db []) db t.grps_tree test (col 1 0 ∷ []) (Text name ∷ []) rows (l.reads_groups db) read in
    record {
      sound = λ x at.
          let r = all.sound x at in
          let tie : is_true (binary (Compare Eq Binary) (column r.0 2) (Text name)) ≡ true = (and_parts _ _ r.2).0 in
          (r.0, r.1, same_texts _ _ (rw (group_typed t l db rules r.0 r.1) at tie), ap (λ (z : Row). column z 0) r.3);
      none = λ is q there same.
          let tie : is_true (binary (Compare Eq Binary) (column q 2) (Text name)) ≡ true = rw (group_typed t l db rules q there, same) (texts_same name) in
          let x : Has rows (column q 0 ∷ []) = all.complete q there (and_from _ _ tie refl) in
          subst (λ rs. Has rs (column q 0 ∷ [])) is x;
    }

pub asks_nobody : AsksNobody
asks_nobody t l db group after stand none = record {
  sound = λ x at. absurd at;
  complete = λ key body is low. elim (looked_up place_total place_same (place_in (db t.grps_tree)) body_of (db t.entries_tree) (group, key)) [
    | inl r ↦ (
        let p = stand.parents r.0 r.1 in
        let at : row_at (db t.grps_tree) (id_in (column r.0 1)) ≡ p.0 = row_at_is (db t.grps_tree) (id_in (column r.0 1)) p.0 stand.groups.up p.1 p.2 in
        absurd (none p.0 p.1 (ap (λ (x : Row). bytes (column x 2)) (sym at) ∙ ap (λ (x : Place). x.0) r.2)))
    | inr free ↦ absurd (let e = sym (get_missing place_total place_same (place_in (db t.grps_tree)) body_of (db t.entries_tree) (group, key) free) ∙ is in cc)
  ];
}
