-- What an import leaves: each record's own row, and every other one as it was.
use Rattle.std.proofs.Common.{◌≡◌, ℕ, zero, suc, ◌<◌, Bool, true, false, cond, List, [], ◌∷◌, length, Option, Some, None, refl, sym, ap, ◌∙◌, inl, inr, ◌⊎◌, ⊎_elim, subst, arith}
use Rattle.std.specs.Prelude.{◌&&◌, ◌||◌, not, is_some, map as list_map}
use Rattle.std.specs.Option.{option_map, option_and_then}
use Rattle.std.specs.List.{slice_get}
use Rattle.std.specs.FinMap.{get}
use Rattle.std.specs.declared.cmp.Ordering.TheVariants.{Less}
use Rattle.finite_sums.specs.Maps.{Text, Texts, text_cmp, some_and}
use Rattle.field_values.specs.declared.value.Value.TheVariants.{Text as IsText}
use Rattle.book_rows.specs.declared.rows.Rows.{Rows}
use Rattle.book_rows.specs.declared.rows.TxRow.{TxRow}
use Rattle.book_rows.specs.declared.rows.PayeeMappingRow.{PayeeMappingRow}
use Rattle.book_rows.specs.declared.write.WriteValue.{WriteValue}
use Rattle.book_rows.specs.declared.write.WriteValue.TheVariants.{Plain}
use Rattle.book_rows.specs.Kinds as kinds
use Rattle.book_rows.specs.Kinds.{is_day, text_of}
use Rattle.book_rows.specs.Live.{is_live_tx, has_parent, mapped, mapped_payee}
use Rattle.book_rows.specs.Parts.{is_text}
use Rattle.book_edits.specs.Checks.{same_id}
use Rattle.book_edits.specs.Writing.{text_or_null}
use Rattle.split_transfer.specs.After.{Ids, makes}
use Rattle.split_transfer.specs.Pairs.{only_where, live_row, names_back, partner_of}
use Rattle.split_transfer.specs.Writing.{day_or_null}
use Rattle.split_transfer.proofs.Basics.{both_true, and_both, holds_some, where_some}
use Rattle.rule_engine.specs.Days.{day_number, numbered}
use Rattle.rule_engine.specs.Running.{rules_of}
use Rattle.bank_import.specs.declared.entry.Entry.{Entry}
use Rattle.bank_import.specs.declared.drafts.Draft.{Draft}
use Rattle.bank_import.specs.declared.facts.Facts.{Facts}
use Rattle.bank_import.specs.declared.facts.Candidate.{Candidate}
use Rattle.bank_import.specs.Matching.{facts_of, candidate_of, candidates, somes, is_among, matched_among, matched}
use Rattle.bank_import.specs.Laws.{IsIn, IsWhole}
use Rattle.bank_import.specs.Second.{or_else, but_payee, filled, made, IsOwn, IsAfter, HaveIdsOrRows, MadeRise}
use Rattle.bank_import.specs.Drafts.{payee_of, new_tx, draft_of}
use Rattle.bank_import.specs.Edits.{missing, payee_value, payee_writes, takes_none, missing_category}
use Rattle.bank_import.specs.Rest.{IsFull, AreFull, drafts_in, rows_in_drafts}
use Rattle.bank_import.specs.Twice.{AreNew, HaveOwn, AskNothingNew}
use Rattle.bank_import.proofs.Runs.{law_of_matches}
use Rattle.bank_import.proofs.Mapped.{map_at, at_map}
use Rattle.bank_import.proofs.Again.{irreflexive}
use Rattle.bank_import.proofs.Outs.{is_not, among_from}
use Rattle.bank_import.proofs.Listed.{law_of_candidates}
use Rattle.bank_import.proofs.Blocks.{pick, plain, row_filled, filled_row, row_made, made_row}
use Rattle.bank_import.proofs.Places.{makes-append, AreApart, find_text, at_same, change_of, filling_change, owns, places, owns_len, places_rise, other_row, IsBegun, begun, own_row}
use Rattle.bank_import.proofs.Datasets.{payees_only}
use Rattle.bank_import.proofs.Ruled.{Leaves, run_leaves}
use Rattle.bank_import.proofs.Settled.{given, settled, ds, names, ms, ws, mid, later, rest, later_is, later_else, settles}

no_some : {X P : Type 0} (x : X) → None ≡ Some x → P
no_some x h = absurd (clash h)
  where
    clash : None ≡ Some x → ⊥
    clash h = cc

some_is : {X : Type 0} (x y : X) → Some x ≡ Some y → x ≡ y
some_is x y h = cc

-- ---- what is picked

picked : (ids : Ids) (own : Option Text) (v : Option WriteValue) → pick ids own (missing own v) ≡ or_else own (pick ids None v)
picked ids None v = refl
picked ids (Some t) v = refl

plain_picked : (ids : Ids) (new : Option Text) → pick ids None (plain new) ≡ new
plain_picked ids None = refl
plain_picked ids (Some t) = refl

picked_text : (ids : Ids) (own new : Option Text) → pick ids own (plain (missing own new)) ≡ or_else own new
picked_text ids None new = plain_picked ids new
picked_text ids (Some t) new = refl

nothing_missing : {A : Type 0} (f : Text → A) (a b : Option Text) → missing (or_else a b) (option_map f b) ≡ None
nothing_missing f None None = refl
nothing_missing f None (Some t) = refl
nothing_missing f (Some t) b = refl

none_missing : (a b : Option Text) → missing (or_else a b) b ≡ None
none_missing None None = refl
none_missing None (Some t) = refl
none_missing (Some t) b = refl

-- a text that was filled in, or was there
text_full : (ids : Ids) (own new : Option Text) → missing (pick ids own (plain (missing own new))) new ≡ None
text_full ids own new = ap (λ o. missing o new) (picked_text ids own new) ∙ none_missing own new

category_full : (ids : Ids) (now was : Bool) (own new : Option Text) → (was ≡ true → now ≡ true) → missing_category now (pick ids own (plain (missing_category was own new))) new ≡ None
category_full ids true was own new h = refl
category_full ids false true own new h = absurd (let bad : false ≡ true = h refl in cc)
category_full ids false false own new h = text_full ids own new

text_kept : (t : Option Text) → text_of (text_or_null t) ≡ t
text_kept None = refl
text_kept (Some t) = refl

day_kept : (o : Option ℕ) (d : ℕ) → o ≡ Some d → is_day d ≡ true → kinds.day_of (day_or_null o) ≡ o
day_kept o d e h = ap (λ q. kinds.day_of (day_or_null q)) e ∙ ap (λ b. cond b (Some d) None) h ∙ sym e

map_same : {X Y : Type 0} (f g : X → Y) (xs : List X) → ((i : ℕ) (x : X) → slice_get xs i ≡ Some x → f x ≡ g x) → list_map f xs ≡ list_map g xs
map_same f g [] h = refl
map_same f g (x ∷ xs) h = ap (λ y. y ∷ list_map f xs) (h zero x refl) ∙ ap (λ ys. g x ∷ ys) (map_same f g xs (λ i y e. h (suc i) y e))

map_len : {X Y : Type 0} (f : X → Y) (xs : List X) → length (list_map f xs) ≡ length xs
map_len f [] = refl
map_len f (x ∷ xs) = ap suc (map_len f xs)

compare : (i j : ℕ) → (j < i) ⊎ ((j ≡ i) ⊎ (i < j))
compare zero zero = inr (inl refl)
compare zero (suc j) = inr (inr (omega arith))
compare (suc i) zero = inl (omega arith)
compare (suc i) (suc j) = ⊎_elim (λ (l : j < i). inl (omega arith)) (λ m. ⊎_elim (λ e. inr (inl (ap suc e))) (λ (l : i < j). inr (inr (omega arith))) m) (compare i j)

same_maps : (a b : TxRow → Facts) (f g : Entry → Draft) (es : List Entry) → ((e : Entry) → but_payee (a (f e).row) ≡ but_payee (b (g e).row))
    → list_map but_payee (list_map a (rows_in_drafts (list_map f es))) ≡ list_map but_payee (list_map b (rows_in_drafts (list_map g es)))
same_maps a b f g [] h = refl
same_maps a b f g (e ∷ es) h =
    ap (λ y. y ∷ list_map but_payee (list_map a (rows_in_drafts (list_map f es)))) (h e)
    ∙ ap (λ l. but_payee (b (g e).row) ∷ l) (same_maps a b f g es h)

-- ---- what ids stand for

abbrev stands : Rows → Option Text → Option Text
stands r o = option_map (mapped_payee r) o

-- what is there, or else another, stands for what the one stands for, or else the other
stands_or : (r : Rows) (a b : Option Text) → stands r (or_else a b) ≡ or_else (stands r a) (stands r b)
stands_or r None b = refl
stands_or r (Some t) b = refl

-- the later row hangs together with others as the earlier one
record IsLinked (x y : TxRow) : Type 0 where
  transferred : y.transferred_id ≡ x.transferred_id
  dead : y.tombstone ≡ x.tombstone
  child : y.is_child ≡ x.is_child
  parent : y.parent_id ≡ x.parent_id

module _ (ids : Ids) (rows : Rows) (account : Text) (es : List Entry) where
  abbrev d1 : Entry → Draft
  d1 e = draft_of rows account e

  abbrev r1 : Entry → TxRow
  r1 e = (d1 e).row

  abbrev all_names : List Text
  all_names = names ids rows account es

  abbrev next : Rows
  next = later ids rows account es

  abbrev d2 : Entry → Draft
  d2 e = record { row = settled ids all_names (d1 e); wanted = None }

  abbrev s2 : Entry → Facts
  s2 e = facts_of next (settled ids all_names (d1 e))

  abbrev found : List (Option Text)
  found = ms ids rows account es

  abbrev pub own_ids : List Text
  own_ids = owns ids rows all_names (length all_names) (ds ids rows account es) found

  abbrev cs : List Candidate
  cs = candidates rows account

  abbrev pub rs : List Facts
  rs = list_map (facts_of rows) (rows_in_drafts (ds ids rows account es))

  abbrev pub drafts2 : List Draft
  drafts2 = list_map d2 es

  abbrev pub ss : List Facts
  ss = list_map (facts_of next) (rows_in_drafts drafts2)

  pub found_is : found ≡ matched_among cs rs
  unfolding matched
  found_is = refl

  -- ---- lists side by side

  ds_at : (i : ℕ) (e : Entry) → slice_get es i ≡ Some e → slice_get (ds ids rows account es) i ≡ Some (d1 e)
  ds_at i e a = at_map (draft_of rows account) es i e a

  ds_len : length (ds ids rows account es) ≡ length es
  ds_len = map_len (draft_of rows account) es

  rs_len : length rs ≡ length es
  rs_len = map_len (facts_of rows) (rows_in_drafts (ds ids rows account es)) ∙ map_len (λ (d : Draft). d.row) (ds ids rows account es) ∙ ds_len

  rs_at : (i : ℕ) (e : Entry) → slice_get es i ≡ Some e → slice_get rs i ≡ Some (facts_of rows (r1 e))
  rs_at i e a = at_map (facts_of rows) (rows_in_drafts (ds ids rows account es)) i (r1 e) (at_map (λ (d : Draft). d.row) (ds ids rows account es) i (d1 e) (ds_at i e a))

  ss_at : (i : ℕ) (e : Entry) → slice_get es i ≡ Some e → slice_get ss i ≡ Some (s2 e)
  ss_at i e a = at_map (facts_of next) (rows_in_drafts drafts2) i (d2 e).row (at_map (λ (d : Draft). d.row) drafts2 i (d2 e) (at_map d2 es i e a))

  from_ss : (i : ℕ) (s : Facts) → slice_get ss i ≡ Some s → (e : Entry) × (slice_get es i ≡ Some e) × (s2 e ≡ s)
  from_ss i s h =
      let a = map_at (facts_of next) (rows_in_drafts drafts2) i s h in
      let b = map_at (λ (d : Draft). d.row) drafts2 i a.0 a.1 in
      let c = map_at d2 es i b.0 b.1 in
      (c.0, c.1, ap (facts_of next) (ap (λ (d : Draft). d.row) c.2 ∙ b.2) ∙ a.2)

  ms_len : length found ≡ length es
  ms_len = ap length found_is ∙ (law_of_matches cs rs).len ∙ rs_len

  os_len : length own_ids ≡ length es
  os_len = owns_len ids rows all_names (length all_names) (ds ids rows account es) found (ms_len ∙ sym ds_len) ∙ ds_len

  -- records are compared as before, but for payees that are made
  pub same_again : list_map but_payee ss ≡ list_map but_payee rs
  same_again = same_maps (facts_of next) (facts_of rows) d2 (draft_of rows account) es (λ e. refl)

  -- ids stand for what they stood for before
  next_stands : (o : Option Text) → stands next o ≡ stands rows o
  next_stands o = ap (λ (m : Texts PayeeMappingRow). option_map (mapped (λ (p : PayeeMappingRow). p.target_id) m) o) (later_else ids rows account es).payee_mappings

  -- ---- what rules leave of a record

  kept : (e : Entry) → Leaves (new_tx account (payee_of rows e) e) (r1 e)
  unfolding draft_of
  kept e = run_leaves rows (rules_of rows) (new_tx account (payee_of rows e) e)

  begun_at : (i : ℕ) (m : Option Text) (o : Text) → slice_get found i ≡ Some m → slice_get own_ids i ≡ Some o
      → IsBegun ids rows all_names (length all_names) (ds ids rows account es) found i m o
  begun_at i m o b c = begun ids rows all_names (length all_names) (ds ids rows account es) found i m o b c

  module _ (new : AreNew ids rows (ws ids rows account es)) where
    made_new : (p : ℕ) → makes (rest ids rows account es) p ≡ true → makes (ws ids rows account es) p ≡ true
    made_new p h = makes-append (payee_writes 0 all_names) (rest ids rows account es) p h

    -- ---- own ids

    -- a transaction that is matched was there
    record IsMatched (i : ℕ) (o : Text) : Type 0 where
      candidate : Candidate
      is_in : IsIn cs candidate
      same : candidate.id ≡ o
      row : TxRow
      whole : IsWhole rows account o row
      is : candidate ≡ candidate_of rows o row

    matched_at : (i : ℕ) (e : Entry) (o : Text) → slice_get es i ≡ Some e → slice_get found i ≡ Some (Some o) → IsMatched i o
    matched_at i e o a b =
        let w = (law_of_matches cs rs).match i (facts_of rows (r1 e)) o (rs_at i e a) (ap (λ l. slice_get l i) (sym found_is) ∙ b) in
        let t = (law_of_candidates.told rows account w.candidate).0 w.is_in in
        record {
          candidate = w.candidate;
          is_in = w.is_in;
          same = w.id;
          row = t.0;
          whole = subst (λ (q : Text). IsWhole rows account q t.0) w.id t.1;
          is = t.2 ∙ ap (λ q. candidate_of rows q t.0) w.id;
        }

    clash : (o : Text) (x : TxRow) → get rows.txs o ≡ Some x → get rows.txs o ≡ None → ⊥
    clash o x s n = no_some x (sym n ∙ s)

    -- a row that a record made was not there
    made_at : (i : ℕ) (o : Text) (w : IsBegun ids rows all_names (length all_names) (ds ids rows account es) found i None o) → get rows.txs o ≡ None
    made_at i o w = ap (get rows.txs) w.own ∙ new.txs w.place (made_new w.place (w.made refl))

    rising : (i j : ℕ) (x y : Text) → i < j → slice_get own_ids i ≡ Some x → slice_get own_ids j ≡ Some y → slice_get found i ≡ Some None → slice_get found j ≡ Some None → text_cmp x y ≡ Less
    rising i j x y l a b c d =
        let v = begun_at i None x c a in
        let w = begun_at j None y d b in
        let less : v.place < w.place = places_rise ids rows all_names (length all_names) (ds ids rows account es) found i j v.place w.place l v.there w.there c in
        let up = new.rise v.place w.place less (made_new v.place (v.made refl)) (made_new w.place (w.made refl)) in
        subst (λ (t : Text). text_cmp t y ≡ Less) (sym v.own) (subst (λ (t : Text). text_cmp (ids v.place) t ≡ Less) (sym w.own) up)

    own_some : (i : ℕ) (q o : Text) → slice_get found i ≡ Some (Some q) → slice_get own_ids i ≡ Some o → o ≡ q
    own_some i q o b c = (begun_at i (Some q) o b c).own

    apart : AreApart own_ids
    apart i j x a b =
        let e = at_same own_ids es i x (sym os_len) a in
        let f = at_same own_ids es j x (sym os_len) b in
        let m = at_same own_ids found i x (ms_len ∙ sym os_len) a in
        let n = at_same own_ids found j x (ms_len ∙ sym os_len) b in
        by e.0 e.1 f.0 f.1 m.0 m.1 n.0 n.1
      where
        to_own : (k : ℕ) (q : Text) → slice_get own_ids k ≡ Some x → slice_get found k ≡ Some (Some q) → slice_get found k ≡ Some (Some x)
        to_own k q c g = g ∙ ap (λ t. Some (Some t)) (sym (own_some k q x g c))

        there : (k : ℕ) (e : Entry) (q : Text) → slice_get es k ≡ Some e → slice_get own_ids k ≡ Some x → slice_get found k ≡ Some (Some q) → get rows.txs x ≡ None → ⊥
        there k e q g c h none = let w = matched_at k e x g (to_own k q c h) in clash x w.row w.whole.there none

        by : (e : Entry) → slice_get es i ≡ Some e → (f : Entry) → slice_get es j ≡ Some f → (m : Option Text) → slice_get found i ≡ Some m → (n : Option Text) → slice_get found j ≡ Some n → i ≡ j
        by e g f h (Some p) c (Some q) d =
            (law_of_matches cs rs).apart i j x (ap (λ l. slice_get l i) (sym found_is) ∙ to_own i p a c) (ap (λ l. slice_get l j) (sym found_is) ∙ to_own j q b d)
        by e g f h (Some p) c None d = absurd (there i e p g a c (made_at j x (begun_at j None x d b)))
        by e g f h None c (Some q) d = absurd (there j f q h b d (made_at i x (begun_at i None x c a)))
        by e g f h None c None d =
            ⊎_elim (λ l. absurd (irreflexive x (rising j i x x l b a d c)))
            (λ k. ⊎_elim (λ s. sym s) (λ l. absurd (irreflexive x (rising i j x x l a b c d))) k) (compare i j)

    -- ---- rows

    mid_txs : (q : Text) → get (mid ids rows account es).txs q ≡ get rows.txs q
    mid_txs q = ap (λ m. get m q) (payees_only ids all_names 0 rows).txs

    others_stay : (q : Text) → ((i : ℕ) → slice_get own_ids i ≡ Some q → ⊥) → get next.txs q ≡ get rows.txs q
    others_stay q h =
        ap (λ (s : Rows). get s.txs q) (later_is ids rows account es)
        ∙ other_row ids rows all_names (length all_names) (ds ids rows account es) found (mid ids rows account es) q h
        ∙ mid_txs q

    own_changes : (i : ℕ) (e : Entry) (p : ℕ) (m : Option Text) (o : Text) → slice_get es i ≡ Some e → slice_get (places ids rows all_names (length all_names) (ds ids rows account es) found) i ≡ Some p
        → slice_get found i ≡ Some m → slice_get own_ids i ≡ Some o → get next.txs o ≡ change_of ids rows all_names p (d1 e) m (get rows.txs o)
    own_changes i e p m o a l b c =
        ap (λ (s : Rows). get s.txs o) (later_is ids rows account es)
        ∙ own_row ids rows all_names (length all_names) (ds ids rows account es) found (mid ids rows account es) i (d1 e) p m o apart (ds_at i e a) l b c
        ∙ ap (change_of ids rows all_names p (d1 e) m) (mid_txs o)

    filled_at : (i : ℕ) (e : Entry) (o : Text) (x : TxRow) → slice_get es i ≡ Some e → slice_get found i ≡ Some (Some o) → slice_get own_ids i ≡ Some o → get rows.txs o ≡ Some x
        → get next.txs o ≡ Some (row_filled ids rows all_names o x (d1 e))
    filled_at i e o x a b c there =
        let w = begun_at i (Some o) o b c in
        own_changes i e w.place (Some o) o a w.there b c
        ∙ ap (λ t. filling_change ids rows all_names o (d1 e) t (get rows.txs o)) there
        ∙ ap (filling_change ids rows all_names o (d1 e) (Some x)) there
        ∙ filled_row ids rows all_names o x (d1 e)

    row_made_at : (i : ℕ) (e : Entry) (o : Text) (w : IsBegun ids rows all_names (length all_names) (ds ids rows account es) found i None o) → slice_get es i ≡ Some e → slice_get found i ≡ Some None
        → slice_get own_ids i ≡ Some o → get next.txs o ≡ Some (row_made ids all_names w.place (d1 e))
    row_made_at i e o w a b c =
        own_changes i e w.place None o a w.there b c
        ∙ ap (change_of ids rows all_names w.place (d1 e) None) (made_at i o w)
        ∙ made_row ids all_names w.place (d1 e)

    -- each row that was there still is, and hangs together with others as before
    stays : (q : Text) (x : TxRow) → get rows.txs q ≡ Some x → (y : TxRow) × (get next.txs q ≡ Some y) × IsLinked x y
    stays q x there = ⊎_elim (λ w. own w.0 w.1) (λ n. (x, others_stay q n ∙ there, record { transferred = refl; dead = refl; child = refl; parent = refl })) (find_text own_ids q)
      where
        by : (i : ℕ) (e : Entry) → slice_get es i ≡ Some e → slice_get own_ids i ≡ Some q → (m : Option Text) → slice_get found i ≡ Some m → (y : TxRow) × (get next.txs q ≡ Some y) × IsLinked x y
        by i e a c None b = absurd (clash q x there (made_at i q (begun_at i None q b c)))
        by i e a c (Some p) b =
            let same : slice_get found i ≡ Some (Some q) = b ∙ ap (λ t. Some (Some t)) (sym (own_some i p q b c)) in
            (row_filled ids rows all_names q x (d1 e), filled_at i e q x a same c there, record { transferred = refl; dead = refl; child = refl; parent = refl })

        own : (i : ℕ) → slice_get own_ids i ≡ Some q → (y : TxRow) × (get next.txs q ≡ Some y) × IsLinked x y
        own i c =
            let e = at_same own_ids es i q (sym os_len) c in
            let m = at_same own_ids found i q (ms_len ∙ sym os_len) c in
            by i e.0 e.1 c m.0 m.1

    abbrev parent_kept : Rows → Bool → Option Text → Bool
    parent_kept r child parent = cond child (some_and (λ p. some_and (λ (row : TxRow). not row.tombstone) (get r.txs p)) parent) true

    kept_parent : (child : Bool) (parent : Option Text) → parent_kept rows child parent ≡ true → parent_kept next child parent ≡ true
    kept_parent false parent h = refl
    kept_parent true parent h =
        let p = holds_some (λ p. some_and (λ (row : TxRow). not row.tombstone) (get rows.txs p)) parent h in
        let x = holds_some (λ (row : TxRow). not row.tombstone) (get rows.txs p.0) p.2 in
        let y = stays p.0 x.0 x.1 in
        ap (λ o. some_and (λ p. some_and (λ (row : TxRow). not row.tombstone) (get next.txs p)) o) p.1
        ∙ ap (some_and (λ (row : TxRow). not row.tombstone)) y.1
        ∙ ap not y.2.dead ∙ x.2

    still_live : (x y : TxRow) → IsLinked x y → is_live_tx rows x ≡ true → is_live_tx next y ≡ true
    still_live x y l h =
        let p = both_true (not x.tombstone) (has_parent rows x) h in
        and_both (not y.tombstone) (has_parent next y) (ap not l.dead ∙ p.0)
        (ap (λ b. parent_kept next b y.parent_id) l.child ∙ ap (parent_kept next x.is_child) l.parent ∙ kept_parent x.is_child x.parent_id p.1)

    names_still : (o other : Text) → names_back rows o other ≡ true → names_back next o other ≡ true
    names_still o other h =
        let y = holds_some (λ (y : TxRow). is_text o y.transferred_id) (live_row rows other) h in
        let w = where_some (is_live_tx rows) (get rows.txs other) y.0 y.1 in
        let z = stays other y.0 w.0 in
        ap (λ t. some_and (λ (y : TxRow). is_text o y.transferred_id) (only_where (is_live_tx next) t)) z.1
        ∙ ap (λ b. some_and (λ (y : TxRow). is_text o y.transferred_id) (cond b (Some z.0) None)) (still_live y.0 z.0 z.2 w.1)
        ∙ ap (is_text o) z.2.transferred ∙ y.2

    abbrev partner_in : Rows → Text → Option Text → Option Text
    partner_in r o t = only_where (λ other. not (same_id other o) && names_back r o other) t

    partner_still : (o : Text) (t : Option Text) → is_some (partner_in rows o t) ≡ true → is_some (partner_in next o t) ≡ true
    partner_still o None h = h
    partner_still o (Some other) h = by (not (same_id other o) && names_back rows o other) refl h
      where
        by : (b : Bool) → (not (same_id other o) && names_back rows o other) ≡ b → is_some (cond b (Some other) None) ≡ true → is_some (partner_in next o (Some other)) ≡ true
        by false e g = absurd (let bad : false ≡ true = g in cc)
        by true e g =
            let p = both_true (not (same_id other o)) (names_back rows o other) e in
            ap (λ b. is_some (cond b (Some other) None)) (and_both (not (same_id other o)) (names_back next o other) p.0 (names_still o other p.1))

    or_more : (a b c : Bool) → (b ≡ true → c ≡ true) → (a || b) ≡ true → (a || c) ≡ true
    or_more true b c f h = refl
    or_more false b c f h = f h

    -- what takes no category takes none later
    takes_still : (o : Text) (x y : TxRow) → y.is_parent ≡ x.is_parent → y.transferred_id ≡ x.transferred_id → takes_none rows o x ≡ true → takes_none next o y ≡ true
    takes_still o x y p t h =
        ap (λ b. b || is_some (partner_of next o y)) p
        ∙ ap (λ u. x.is_parent || is_some (partner_in next o u)) t
        ∙ or_more x.is_parent (is_some (partner_of rows o x)) (is_some (partner_in next o x.transferred_id)) (partner_still o x.transferred_id) h

    -- ---- a record's own row

    record IsLeft (i : ℕ) (e : Entry) (o : Text) : Type 0 where
      row : TxRow
      there : get next.txs o ≡ Some row
      whole : IsWhole next account o row
      full : IsFull next o row (d2 e)
      how : ((slice_get found i ≡ Some None) × (candidate_of next o row ≡ made o (s2 e))) ⊎ ((c : Candidate) × IsIn cs c × (slice_get found i ≡ Some (Some c.id)) × (candidate_of next o row ≡ filled (s2 e) c))

    left_filled : (i : ℕ) (e : Entry) (o : Text) → slice_get es i ≡ Some e → slice_get found i ≡ Some (Some o) → slice_get own_ids i ≡ Some o → IsLeft i e o
    left_filled i e o a b c =
        let w = matched_at i e o a b in
        let x = w.row in
        let d = d1 e in
        let y = row_filled ids rows all_names o x d in
        let there : get next.txs o ≡ Some y = filled_at i e o x a b c w.whole.there in
        let description : y.description ≡ or_else x.description (given ids all_names d) = picked ids x.description (payee_value all_names d) in
        let payee : stands next y.description ≡ or_else (stands rows x.description) (s2 e).payee =
        ap (stands next) description ∙ stands_or next x.description (given ids all_names d) ∙ ap (λ o. or_else o (s2 e).payee) (next_stands x.description) in
        record {
          row = y;
          there = there;
          whole = record { there = there; here = w.whole.here; kept = w.whole.kept; whole = w.whole.whole };
          full = record {
            payee = ap (λ t. missing t (payee_value [] (d2 e))) description ∙ nothing_missing (λ t. Plain (IsText t)) x.description (given ids all_names d);
            category = category_full ids (takes_none next o y) (takes_none rows o x) x.category d.row.category (takes_still o x y refl refl);
            notes = text_full ids x.notes d.row.notes;
            imported = text_full ids x.imported_description d.row.imported_description;
            id_there = text_full ids x.financial_id d.row.financial_id;
            schedule = text_full ids x.schedule d.row.schedule;
            cleared = refl;
          };
          how = inr (
            w.candidate,
            w.is_in,
            b ∙ ap (λ t. Some (Some t)) (sym w.same),
            ap (λ t. record (candidate_of rows o x) { payee = t; financial_id = y.financial_id }) payee
                ∙ ap (λ t. record (candidate_of rows o x) { payee = or_else (stands rows x.description) (s2 e).payee; financial_id = t }) (picked_text ids x.financial_id d.row.financial_id)
                ∙ ap (filled (s2 e)) (sym w.is),
          );
        }

    left_made : ((i : ℕ) (e : Entry) → slice_get es i ≡ Some e → is_day e.date ≡ true) → (i : ℕ) (e : Entry) (o : Text) → slice_get es i ≡ Some e → slice_get found i ≡ Some None → slice_get own_ids i ≡ Some o → IsLeft i e o
    left_made dated i e o a b c =
        let w = begun_at i None o b c in
        let d = d1 e in
        let k = kept e in
        let y = row_made ids all_names w.place d in
        let there : get next.txs o ≡ Some y = row_made_at i e o w a b c in
        let day : y.date ≡ d.row.date = day_kept d.row.date e.date k.date (dated i e a) in
        record {
          row = y;
          there = there;
          whole = record { there = there; here = text_kept d.row.acct ∙ k.acct; kept = refl; whole = refl };
          full = record {
            payee = nothing_missing (λ t. Plain (IsText t)) None (given ids all_names d);
            category = category_full ids (takes_none next o y) false None d.row.category (λ h. absurd (let bad : false ≡ true = h in cc));
            notes = text_full ids None d.row.notes;
            imported = text_full ids None d.row.imported_description;
            id_there = text_full ids None d.row.financial_id;
            schedule = text_full ids None d.row.schedule;
            cleared = refl;
          };
          how = inl (
            b,
            ap (λ t. record (made o (s2 e)) { day = option_and_then numbered t; financial_id = pick ids None (plain d.row.financial_id) }) day
                ∙ ap (λ t. record (made o (s2 e)) { financial_id = t }) (plain_picked ids d.row.financial_id),
          );
        }

    module _ (dated : (i : ℕ) (e : Entry) → slice_get es i ≡ Some e → is_day e.date ≡ true) where
      left : (i : ℕ) (e : Entry) (o : Text) → slice_get es i ≡ Some e → slice_get own_ids i ≡ Some o → IsLeft i e o
      left i e o a c = let m = at_same es found i e ms_len a in by m.0 m.1
        where
          by : (m : Option Text) → slice_get found i ≡ Some m → IsLeft i e o
          by None b = left_made dated i e o a b c
          by (Some p) b = left_filled i e o a (b ∙ ap (λ t. Some (Some t)) (sym (own_some i p o b c))) c

      -- ---- the candidates after the import

      abbrev after : List Candidate
      after = candidates next account

      own_is : (i : ℕ) (e : Entry) (o : Text) → slice_get es i ≡ Some e → slice_get own_ids i ≡ Some o → (w : IsLeft i e o) → IsOwn cs ss found own_ids i (candidate_of next o w.row)
      own_is i e o a c w = record { entry = s2 e; at = ss_at i e a; own = c; how = w.how }

      owned : (i : ℕ) (r : Facts) → slice_get ss i ≡ Some r → (d : Candidate) × IsIn after d × IsOwn cs ss found own_ids i d
      owned i r h =
          let e = from_ss i r h in
          let o = at_same es own_ids i e.0 os_len e.1 in
          let w = left i e.0 o.0 e.1 o.1 in
          (candidate_of next o.0 w.row, (law_of_candidates.told next account (candidate_of next o.0 w.row)).1 (w.row, w.whole, refl), own_is i e.0 o.0 e.1 o.1 w)

      from : (d : Candidate) → IsIn after d → (IsIn cs d × (is_among (somes found) d.id ≡ false)) ⊎ ((i : ℕ) × IsOwn cs ss found own_ids i d)
      from d h = ⊎_elim (λ w. inr (w.0, own w.0 w.1)) (λ n. inl (other n)) (find_text own_ids d.id)
        where
          t : (x : TxRow) × IsWhole next account d.id x × (d ≡ candidate_of next d.id x)
          t = (law_of_candidates.told next account d).0 h

          own : (i : ℕ) → slice_get own_ids i ≡ Some d.id → IsOwn cs ss found own_ids i d
          own i c =
              let e = at_same own_ids es i d.id (sym os_len) c in
              let w = left i e.0 d.id e.1 c in
              let same : w.row ≡ t.0 = some_is w.row t.0 (sym w.there ∙ t.1.there) in
              subst (λ (x : Candidate). IsOwn cs ss found own_ids i x) (ap (candidate_of next d.id) same ∙ sym t.2) (own_is i e.0 d.id e.1 c w)

          other : ((i : ℕ) → slice_get own_ids i ≡ Some d.id → ⊥) → IsIn cs d × (is_among (somes found) d.id ≡ false)
          other n = (
            (law_of_candidates.told rows account d).1 (t.0, record { there = sym (others_stay d.id n) ∙ t.1.there; here = t.1.here; kept = t.1.kept; whole = t.1.whole }, t.2 ∙ ap (λ p. record (candidate_of rows d.id t.0) { payee = p }) (next_stands t.0.description)),
            is_not (is_among (somes found) d.id) (λ h.
                let f = among_from found d.id h in
                let o = at_same found own_ids f.0 (Some d.id) (os_len ∙ sym ms_len) f.1 in
                n f.0 (o.1 ∙ ap Some (own_some f.0 d.id o.0 f.1 o.1))),
          )

      pub is_after : IsAfter cs ss found own_ids after
      is_after = record {
        rising = law_of_candidates.rise next account;
        len = os_len ∙ sym (map_len (facts_of next) (rows_in_drafts drafts2) ∙ map_len (λ (d : Draft). d.row) drafts2 ∙ map_len d2 es);
        apart = apart;
        owned = owned;
        from = from;
      }

      -- each record's own row has all
      pub are_full : AreFull next drafts2 own_ids
      are_full = record {
        len = os_len ∙ sym (map_len d2 es);
        named = λ i d h. let e = map_at d2 es i d h in ap (λ (x : Draft). x.wanted) (sym e.2);
        full = λ i d o h c.
            let e = map_at d2 es i d h in
            let w = left i e.0 o e.1 c in
            (w.row, w.there, subst (λ (x : Draft). IsFull next o w.row x) e.2 w.full);
      }

      -- ---- the records

      module _ (own : HaveOwn rows account es) where
        id_is : (e : Entry) → (s2 e).financial_id ≡ e.id
        id_is e = (kept e).financial

        id_of : (i : ℕ) (s : Facts) (k : Text) (h : slice_get ss i ≡ Some s) → s.financial_id ≡ Some k → (from_ss i s h).0.id ≡ Some k
        id_of i s k h f = let e = from_ss i s h in sym (id_is e.0) ∙ ap (λ (x : Facts). x.financial_id) e.2 ∙ f

        day_is : (e : Entry) → is_day e.date ≡ true → (s2 e).day ≡ Some (day_number e.date)
        day_is e h = ap (option_and_then numbered) (kept e).date ∙ ap (λ b. cond b (Some (day_number e.date)) None) h

        pub have_own : HaveIdsOrRows ss (matched_among cs rs)
        have_own = record {
          each = λ i s h. let e = from_ss i s h in each i s e.0 e.1 e.2 e.0.id refl;
          days = λ i s h. let e = from_ss i s h in (day_number e.0.date, ap (λ (x : Facts). x.day) (sym e.2) ∙ day_is e.0 (dated i e.0 e.1));
          apart = λ i j r s k a b f g. own.apart i j (from_ss i r a).0 (from_ss j s b).0 k (from_ss i r a).1 (from_ss j s b).1 (id_of i r k a f) (id_of j s k b g);
        }
          where
            each : (i : ℕ) (s : Facts) (e : Entry) → slice_get es i ≡ Some e → s2 e ≡ s → (o : Option Text) → e.id ≡ o
                → ((k : Text) × (s.financial_id ≡ Some k)) ⊎ ((s.financial_id ≡ None) × (slice_get (matched_among cs rs) i ≡ Some None))
            each i s e a is (Some k) f = inl (k, ap (λ (x : Facts). x.financial_id) (sym is) ∙ id_is e ∙ f)
            each i s e a is None f = inr (ap (λ (x : Facts). x.financial_id) (sym is) ∙ id_is e ∙ f, ap (λ m. slice_get m i) (sym found_is) ∙ own.makes i e a f)

        pub made_rise : MadeRise (matched_among cs rs) own_ids
        made_rise i j x y l a b c d = rising i j x y l a b (ap (λ m. slice_get m i) found_is ∙ c) (ap (λ m. slice_get m j) found_is ∙ d)

  -- what records make of the rows after the import
  pub drafts_are : AreNew ids rows (ws ids rows account es) → AskNothingNew ids rows account es (ws ids rows account es) → drafts_in next account es ≡ drafts2
  drafts_are new asked = map_same (draft_of next account) d2 es (settles ids rows account es new asked)
