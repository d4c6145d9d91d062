-- What an import of a statement leaves of transactions and payees.
use Rattle.std.proofs.Common.{◌≡◌, ℕ, zero, suc, ◌+◌, ◌<◌, ◌≤◌, Bool, true, false, cond, List, [], ◌∷◌, length, Option, Some, None, Ok, refl, sym, ap, ◌∙◌, inl, inr, ◌⊎◌, ⊎_elim, subst, arith}
use lib.IntN.{ℤ}
use Rattle.std.specs.Prelude.{◌||◌, is_some, map as list_map}
use Rattle.std.specs.Option.{option_map, option_or}
use Rattle.std.specs.List.{slice_get}
use Rattle.std.specs.FinMap.{get}
use Rattle.std.proofs.lemmas.Bool.{eq-eqb}
use Rattle.finite_sums.specs.Maps.{Text}
use Rattle.book_rows.specs.declared.rows.Rows.{Rows}
use Rattle.book_rows.specs.declared.rows.TxRow.{TxRow}
use Rattle.book_rows.specs.declared.write.WriteValue.{WriteValue}
use Rattle.book_rows.specs.declared.write.WriteValue.TheVariants.{IdOf}
use Rattle.book_rows.specs.declared.write.Write.{Write}
use Rattle.book_rows.specs.Kinds as kinds
use Rattle.book_rows.specs.Kinds.{is_day, text_of}
use Rattle.book_rows.specs.Rules.{tx_table}
use Rattle.book_rows.specs.Tables.{blank_row}
use Rattle.book_edits.specs.Checks.{live_account}
use Rattle.book_edits.specs.Writing.{text_or_null}
use Rattle.book_edits.proofs.Valid.{inside, passed, all_append}
use Rattle.split_transfer.specs.After.{Ids, makes}
use Rattle.split_transfer.specs.Writing.{day_or_null}
use Rattle.split_transfer.proofs.Basics.{or_left, or_right}
use Rattle.rule_engine.specs.Conditions.{folded}
use Rattle.rule_engine.specs.Running.{rules_of}
use Rattle.bank_import.specs.declared.entry.Entry.{Entry}
use Rattle.bank_import.specs.Statement.{rows_in, statement}
use Rattle.bank_import.specs.Matching.{facts_of, candidates, matched_among, matched}
use Rattle.bank_import.specs.Laws.{IsWhole}
use Rattle.bank_import.specs.Drafts.{payee_of, new_tx, ruled, wanted_by, draft_of}
use Rattle.bank_import.specs.Edits.{missing, payee_by, payee_value, takes_none, missing_category, payee_writes, entries_writes}
use Rattle.bank_import.specs.Rest.{rows_in_drafts, drafts_in}
use Rattle.bank_import.proofs.Runs.{law_of_matches}
use Rattle.bank_import.proofs.Listed.{law_of_candidates}
use Rattle.bank_import.proofs.Mapped.{map_at, at_map}
use Rattle.bank_import.proofs.Blocks.{pick, plain, row_filled, filled_row, row_made, made_row}
use Rattle.bank_import.proofs.Places.{makes-first, makes-append, AreApart, at_same, change_of, filling_change, owns, places, owns_len, places_rise, other_row, IsBegun, begun, own_row}
use Rattle.bank_import.proofs.Datasets.{records_payees, payee_with, payees_only, payee_other, payee_made}
use Rattle.bank_import.proofs.NewNames.{place_name, names_found, names_first}
use Rattle.bank_import.proofs.Ruled.{Leaves, run_leaves}
use Rattle.bank_import.proofs.Dated.{statement_dated}
use Rattle.bank_import.proofs.Settled.{given, ds, ms, ws, mid, later, rest, later_is}
use Rattle.kept_pairs.specs.Imports.{said, by_rules, told, Wants, names, GetsPayee, filled, matches, AreImported, AreNewIds, ImportsWrite}
use Rattle.kept_pairs.proofs.Judging.{reads, says}
use Rattle.kept_pairs.proofs.Nothing.{writes_rest, records_both, payees_both}

no_some : {X P : Type 0} (x : X) → None ≡ Some x → P
no_some x h = absurd (clash h)
  where
    clash : None ≡ Some x → ⊥
    clash h = cc

some_is : {X : Type 0} (x y : X) → Some x ≡ Some y → x ≡ y
some_is x y h = cc

-- what is so of one is so of what is the same
back : {D : Type 0} (x y : D) → x ≡ y → (f : D → Option Text) (t : Text) → f y ≡ Some t → f x ≡ Some t
back x y e f t h = ap f e ∙ h

-- ---- lists

map_len : {X Y : Type 0} (f : X → Y) (xs : List X) → length (list_map f xs) ≡ length xs
map_len f [] = refl
map_len f (x ∷ xs) = ap suc (map_len f xs)

below : {X : Type 0} (xs : List X) (k : ℕ) (x : X) → slice_get xs k ≡ Some x → k < length xs
below [] k x h = no_some x h
below (y ∷ xs) zero x h = omega arith
below (y ∷ xs) (suc k) x h = let l = below xs k x h in omega (arith, l)

at_below : {X : Type 0} (xs : List X) (k : ℕ) → k < length xs → (x : X) × (slice_get xs k ≡ Some x)
at_below [] k l = absurd (omega arith)
at_below (x ∷ xs) zero l = (x, refl)
at_below (x ∷ xs) (suc k) l = at_below xs k (omega arith)

compare : (i j : ℕ) → (j < i) ⊎ ((j ≡ i) ⊎ (i < j))
compare zero zero = inr (inl refl)
compare zero (suc j) = inr (inr (omega arith))
compare (suc i) zero = inl (omega arith)
compare (suc i) (suc j) = ⊎_elim (λ (l : j < i). inl (omega arith)) (λ m. ⊎_elim (λ e. inr (inl (ap suc e))) (λ (l : i < j). inr (inr (omega arith))) m) (compare i j)

-- each new payee is made by the write at its place
payee_makes : (ns : List Text) (at k : ℕ) → k < length ns → makes (payee_writes at ns) (at + k) ≡ true
payee_makes [] at k l = absurd (omega arith)
payee_makes (name ∷ ns) at zero l = or_left _ _ (eq-eqb at (at + 0) (omega arith))
payee_makes (name ∷ ns) at (suc k) l = or_right _ _ (ap (makes (payee_writes (at + 1) ns)) (let e : at + suc k ≡ at + 1 + k = omega arith in e) ∙ payee_makes ns (at + 1) k (omega arith))

-- ---- what is picked

picked : (ids : Ids) (own : Option Text) (v : Option WriteValue) → pick ids own (missing own v) ≡ option_or own (pick ids None v)
picked ids None v = refl
picked ids (Some t) v = refl

plain_picked : (ids : Ids) (new : Option Text) → pick ids None (plain new) ≡ new
plain_picked ids None = refl
plain_picked ids (Some t) = refl

picked_text : (ids : Ids) (own new : Option Text) → pick ids own (plain (missing own new)) ≡ option_or own new
picked_text ids None new = plain_picked ids new
picked_text ids (Some t) new = refl

picked_category : (ids : Ids) (b : Bool) (own new : Option Text) → pick ids own (plain (missing_category b own new)) ≡ cond b own (option_or own new)
picked_category ids true own new = refl
picked_category ids false own new = picked_text ids own new

text_kept : (t : Option Text) → text_of (text_or_null t) ≡ t
text_kept None = refl
text_kept (Some t) = refl

day_kept : (o : Option ℕ) (d : ℕ) → o ≡ Some d → is_day d ≡ true → kinds.day_of (day_or_null o) ≡ Some d
day_kept o d e h = ap (λ q. kinds.day_of (day_or_null q)) e ∙ ap (λ b. cond b (Some d) None) h

-- ---- rows field by field

abbrev with_fields : TxRow → Option Text → Option Text → Option Text → Option Text → Option Text → Option Text → TxRow
with_fields x p c n i f s = record x { description = p; category = c; notes = n; imported_description = i; financial_id = f; schedule = s; cleared = true }

same_fields : (x : TxRow) (p q c d n o i j f g s t : Option Text) → p ≡ q → c ≡ d → n ≡ o → i ≡ j → f ≡ g → s ≡ t → with_fields x p c n i f s ≡ with_fields x q d o j g t
same_fields x p q c d n o i j f g s t ep ec en ei ef es =
    ap (λ y. with_fields x y c n i f s) ep
    ∙ ap (λ y. with_fields x q y n i f s) ec
    ∙ ap (λ y. with_fields x q d y i f s) en
    ∙ ap (λ y. with_fields x q d o y f s) ei
    ∙ ap (λ y. with_fields x q d o j y s) ef
    ∙ ap (λ y. with_fields x q d o j g y) es

abbrev entered : Text → Option Text → Option ℕ → ℤ → TxRow
entered id a d z = record (blank_row tx_table id) { acct = a; date = d; amount = z }

same_entered : (id : Text) (a b : Option Text) (d e : Option ℕ) (y z : ℤ) → a ≡ b → d ≡ e → y ≡ z → entered id a d y ≡ entered id b e z
same_entered id a b d e y z ea ed ez = ap (λ t. entered id t d y) ea ∙ ap (λ t. entered id b t y) ed ∙ ap (λ t. entered id b e t) ez

-- what a record tells, by what rules make of it
abbrev told_by : Text → Option Text → Entry → TxRow → TxRow
told_by account payee e r = record (said account payee e) { category = r.category; notes = r.notes; schedule = r.schedule }

-- a payee that is wanted is not there, and rules gave none
record IsWant (found : Bool) (o name : Option Text) (n : Text) : Type 0 where
  named : name ≡ Some n
  not_found : found ≡ false
  none : o ≡ None

want_is : (found : Bool) (o name : Option Text) (n : Text) → cond (found || is_some o) None name ≡ Some n → IsWant found o name n
want_is true o name n h = no_some n h
want_is false None name n h = record { named = h; not_found = refl; none = refl }
want_is false (Some y) name n h = no_some n h

none_is : (o : Option Text) → is_some o ≡ false → o ≡ None
none_is None h = refl
none_is (Some x) h = cc

plain_given : (ids : Ids) (ns : List Text) (own : Option Text) → pick ids None (payee_by ns None own) ≡ own
plain_given ids ns None = refl
plain_given ids ns (Some y) = refl

module _ (rows : Rows) (account : Text) where
  abbrev row : Entry → TxRow
  row e = (draft_of rows account e).row

  row_is : (e : Entry) → row e ≡ by_rules rows account e
  unfolding draft_of
  row_is e = refl

  wanted_is : (e : Entry) (n : Text) → (draft_of rows account e).wanted ≡ Some n → Wants rows account e n
  unfolding draft_of
  wanted_is e n h = let w = want_is (is_some (payee_of rows e)) (ruled rows account e).description e.payee n h in (w.named, none_is (payee_of rows e) w.not_found, w.none)

  wants_is : (e : Entry) (n : Text) → Wants rows account e n → (draft_of rows account e).wanted ≡ Some n
  unfolding draft_of
  wants_is e n w = ap (λ o. wanted_by (is_some o) (ruled rows account e) e.payee) w.1 ∙ ap (λ (o : Option Text). cond (is_some o) None e.payee) w.2 ∙ w.0

  rows_are : (es : List Entry) → list_map (by_rules rows account) es ≡ rows_in_drafts (drafts_in rows account es)
  rows_are [] = refl
  rows_are (e ∷ es) = ap (λ t. t ∷ list_map (by_rules rows account) es) (sym (row_is e)) ∙ ap (λ l. row e ∷ l) (rows_are es)

  kept : (e : Entry) → Leaves (new_tx account (payee_of rows e) e) (row e)
  unfolding draft_of
  kept e = run_leaves rows (rules_of rows) (new_tx account (payee_of rows e) e)

module _ (ids : Ids) (rows : Rows) (account : Text) (es : List Entry) where
  abbrev all_names : List Text
  all_names = names rows account es

  abbrev found : List (Option Text)
  found = ms ids rows account es

  abbrev own_ids : List Text
  own_ids = owns ids rows all_names (length all_names) (ds ids rows account es) found

  abbrev after : Rows
  after = later ids rows account es

  found_is : found ≡ matches rows account es
  unfolding matched
  found_is = ap (λ l. matched_among (candidates rows account) (list_map (facts_of rows) l)) (sym (rows_are rows account es))

  -- ---- lists side by side

  draft_at : (i : ℕ) (e : Entry) → slice_get es i ≡ Some e → slice_get (ds ids rows account es) i ≡ Some (draft_of rows account e)
  draft_at i e a = at_map (draft_of rows account) es i e a

  drafts_len : length (ds ids rows account es) ≡ length es
  drafts_len = map_len (draft_of rows account) es

  facts_at : (i : ℕ) (e : Entry) → slice_get es i ≡ Some e → slice_get (list_map (facts_of rows) (list_map (by_rules rows account) es)) i ≡ Some (facts_of rows (by_rules rows account e))
  facts_at i e a = at_map (facts_of rows) (list_map (by_rules rows account) es) i (by_rules rows account e) (at_map (by_rules rows account) es i e a)

  facts_len : length (list_map (facts_of rows) (list_map (by_rules rows account) es)) ≡ length es
  facts_len = map_len (facts_of rows) (list_map (by_rules rows account) es) ∙ map_len (by_rules rows account) es

  found_len : length found ≡ length es
  found_len = ap length found_is ∙ (law_of_matches (candidates rows account) (list_map (facts_of rows) (list_map (by_rules rows account) es))).len ∙ facts_len

  own_len : length own_ids ≡ length es
  own_len = owns_len ids rows all_names (length all_names) (ds ids rows account es) found (found_len ∙ sym drafts_len) ∙ drafts_len

  abbrev Begun : ℕ → Option Text → Text → Type 0
  Begun i m o = IsBegun ids rows all_names (length all_names) (ds ids rows account es) found i m o

  begun_at : (i : ℕ) (m : Option Text) (o : Text) → slice_get found i ≡ Some m → slice_get own_ids i ≡ Some o → Begun i m o
  begun_at i m o b c = begun ids rows all_names (length all_names) (ds ids rows account es) found i m o b c

  own_some : (i : ℕ) (q o : Text) → slice_get found i ≡ Some (Some q) → slice_get own_ids i ≡ Some o → o ≡ q
  own_some i q o b c = (begun_at i (Some q) o b c).own

  -- a transaction that is matched was there
  matched_at : (i : ℕ) (e : Entry) (o : Text) → slice_get es i ≡ Some e → slice_get found i ≡ Some (Some o) → (x : TxRow) × (get rows.txs o ≡ Some x)
  matched_at i e o a b =
      let w = (law_of_matches (candidates rows account) (list_map (facts_of rows) (list_map (by_rules rows account) es))).match i (facts_of rows (by_rules rows account e)) o (facts_at i e a) (ap (λ l. slice_get l i) (sym found_is) ∙ b) in
      let t = (law_of_candidates.told rows account w.candidate).0 w.is_in in
      (t.0, (subst (λ (q : Text). IsWhole rows account q t.0) w.id t.1).there)

  module _ (new : AreNewIds ids rows (ws ids rows account es)) where
    made_new : (p : ℕ) → makes (rest ids rows account es) p ≡ true → makes (ws ids rows account es) p ≡ true
    made_new p h = makes-append (payee_writes 0 all_names) (rest ids rows account es) p h

    name_makes : (k : ℕ) → k < length all_names → makes (ws ids rows account es) k ≡ true
    name_makes k l = makes-first (payee_writes 0 all_names) (rest ids rows account es) k (ap (makes (payee_writes 0 all_names)) (let e : k ≡ 0 + k = omega arith in e) ∙ payee_makes all_names 0 k l)

    -- a row that a record makes was not there
    made_at : (i : ℕ) (o : Text) → Begun i None o → get rows.txs o ≡ None
    made_at i o w = ap (get rows.txs) w.own ∙ new.txs w.place (made_new w.place (w.made refl))

    place_apart : (i j p : ℕ) → slice_get (places ids rows all_names (length all_names) (ds ids rows account es) found) i ≡ Some p → slice_get (places ids rows all_names (length all_names) (ds ids rows account es) found) j ≡ Some p
        → slice_get found i ≡ Some None → slice_get found j ≡ Some None → i ≡ j
    place_apart i j p a b c d = ⊎_elim
        (λ l. absurd (let bad : p < p = places_rise ids rows all_names (length all_names) (ds ids rows account es) found j i p p l b a d in omega (arith, bad)))
        (λ k. ⊎_elim (λ s. sym s) (λ l. absurd (let bad : p < p = places_rise ids rows all_names (length all_names) (ds ids rows account es) found i j p p l a b c in omega (arith, bad))) k)
        (compare i j)

    apart : AreApart own_ids
    apart i j x a b =
        let e = at_same own_ids es i x (sym own_len) a in
        let f = at_same own_ids es j x (sym own_len) b in
        let m = at_same own_ids found i x (found_len ∙ sym own_len) a in
        let n = at_same own_ids found j x (found_len ∙ sym own_len) b in
        by e.0 e.1 f.0 f.1 m.0 m.1 n.0 n.1
      where
        to_own : (k : ℕ) (q : Text) → slice_get own_ids k ≡ Some x → slice_get found k ≡ Some (Some q) → slice_get found k ≡ Some (Some x)
        to_own k q c g = g ∙ ap (λ t. Some (Some t)) (sym (own_some k q x g c))

        there : (k : ℕ) (e : Entry) (q : Text) → slice_get es k ≡ Some e → slice_get own_ids k ≡ Some x → slice_get found k ≡ Some (Some q) → get rows.txs x ≡ None → ⊥
        there k e q g c h none = let w = matched_at k e x g (to_own k q c h) in no_some w.0 (sym none ∙ w.1)

        by : (e : Entry) → slice_get es i ≡ Some e → (f : Entry) → slice_get es j ≡ Some f → (m : Option Text) → slice_get found i ≡ Some m → (n : Option Text) → slice_get found j ≡ Some n → i ≡ j
        by e g f h (Some p) c (Some q) d =
            (law_of_matches (candidates rows account) (list_map (facts_of rows) (list_map (by_rules rows account) es))).apart i j x (ap (λ l. slice_get l i) (sym found_is) ∙ to_own i p a c) (ap (λ l. slice_get l j) (sym found_is) ∙ to_own j q b d)
        by e g f h (Some p) c None d = absurd (there i e p g a c (made_at j x (begun_at j None x d b)))
        by e g f h None c (Some q) d = absurd (there j f q h b d (made_at i x (begun_at i None x c a)))
        by e g f h None c None d =
            let v = begun_at i None x c a in
            let w = begun_at j None x d b in
            let same : v.place ≡ w.place = new.apart v.place w.place (made_new v.place (v.made refl)) (made_new w.place (w.made refl)) (sym v.own ∙ w.own) in
            place_apart i j v.place v.there (w.there ∙ ap Some (sym same)) c d

    -- ---- transactions

    mid_txs : (q : Text) → get (mid ids rows account es).txs q ≡ get rows.txs q
    mid_txs q = ap (λ m. get m q) (payees_only ids all_names 0 rows).txs

    others_stay : (q : Text) → ((i : ℕ) → slice_get own_ids i ≡ Some q → ⊥) → get after.txs q ≡ get rows.txs q
    others_stay q h =
        ap (λ (s : Rows). get s.txs q) (later_is ids rows account es)
        ∙ other_row ids rows all_names (length all_names) (ds ids rows account es) found (mid ids rows account es) q h
        ∙ mid_txs q

    own_changes : (i : ℕ) (e : Entry) (p : ℕ) (m : Option Text) (o : Text) → slice_get es i ≡ Some e → slice_get (places ids rows all_names (length all_names) (ds ids rows account es) found) i ≡ Some p
        → slice_get found i ≡ Some m → slice_get own_ids i ≡ Some o → get after.txs o ≡ change_of ids rows all_names p (draft_of rows account e) m (get rows.txs o)
    own_changes i e p m o a l b c =
        ap (λ (s : Rows). get s.txs o) (later_is ids rows account es)
        ∙ own_row ids rows all_names (length all_names) (ds ids rows account es) found (mid ids rows account es) i (draft_of rows account e) p m o apart (draft_at i e a) l b c
        ∙ ap (change_of ids rows all_names p (draft_of rows account e) m) (mid_txs o)

    -- ---- the payee of a record

    abbrev payee : Entry → Option Text
    payee e = given ids all_names (draft_of rows account e)

    gets : (i : ℕ) (e : Entry) → slice_get es i ≡ Some e → GetsPayee ids rows account es e (payee e)
    gets i e a = record {
      new = λ name w.
          let h = wants_is rows account e name w in
          let f = names_found (ds ids rows account es) i (draft_of rows account e) name (draft_at i e a) h in
          let n = place_name all_names (folded name) f.0 f.1 in (
            f.0,
            n.0,
            n.1,
            n.2,
            ap (λ t. pick ids None (payee_by all_names t (row rows account e).description)) h ∙ ap (λ t. pick ids None (option_map (λ at. IdOf at) t)) f.1,
          );
      kept = λ none. by none (draft_of rows account e).wanted refl;
    }
      where
        by : ((name : Text) → Wants rows account e name → ⊥) → (o : Option Text) → (draft_of rows account e).wanted ≡ o → payee e ≡ (by_rules rows account e).description
        by none None h =
            ap (λ t. pick ids None (payee_by all_names t (row rows account e).description)) h
            ∙ plain_given ids all_names (row rows account e).description
            ∙ ap (λ (x : TxRow). x.description) (row_is rows account e)
        by none (Some n) h = absurd (none n (wanted_is rows account e n h))

    -- ---- a record that matches

    is_filled : (e : Entry) (o : Text) (x : TxRow) → row_filled ids rows all_names o x (draft_of rows account e) ≡ filled rows o (told rows account (payee e) e) x
    is_filled e o x =
        let d = draft_of rows account e in
        let k = kept rows account e in
        same_fields x _ _ _ _ _ _ _ _ _ _ _ _
        (picked ids x.description (payee_value all_names d))
        (picked_category ids (takes_none rows o x) x.category d.row.category)
        (picked_text ids x.notes d.row.notes)
        (picked_text ids x.imported_description d.row.imported_description ∙ ap (option_or x.imported_description) k.imported)
        (picked_text ids x.financial_id d.row.financial_id ∙ ap (option_or x.financial_id) k.financial)
        (picked_text ids x.schedule d.row.schedule)
        ∙ ap (λ r. filled rows o (told_by account (payee e) e r) x) (row_is rows account e)

    filled_at : (i : ℕ) (e : Entry) (o : Text) (x : TxRow) → slice_get es i ≡ Some e → slice_get found i ≡ Some (Some o) → slice_get own_ids i ≡ Some o → get rows.txs o ≡ Some x
        → get after.txs o ≡ Some (filled rows o (told rows account (payee e) e) x)
    filled_at i e o x a b c there =
        let w = begun_at i (Some o) o b c in
        let d = draft_of rows account e in
        own_changes i e w.place (Some o) o a w.there b c
        ∙ ap (λ t. filling_change ids rows all_names o d t (get rows.txs o)) there
        ∙ ap (filling_change ids rows all_names o d (Some x)) there
        ∙ filled_row ids rows all_names o x d
        ∙ ap Some (is_filled e o x)

    -- ---- a record that matches none

    is_made : (e : Entry) (o : Text) (p : ℕ) → o ≡ ids p → is_day e.date ≡ true → row_made ids all_names p (draft_of rows account e) ≡ record (told rows account (payee e) e) { id = o }
    is_made e o p own day =
        let d = draft_of rows account e in
        let k = kept rows account e in
        same_fields (entered (ids p) (text_of (text_or_null d.row.acct)) (kinds.day_of (day_or_null d.row.date)) d.row.amount) _ _ _ _ _ _ _ _ _ _ _ _
        refl
        (plain_picked ids d.row.category)
        (plain_picked ids d.row.notes)
        (plain_picked ids d.row.imported_description ∙ k.imported)
        (plain_picked ids d.row.financial_id ∙ k.financial)
        (plain_picked ids d.row.schedule)
        ∙ ap (λ x. with_fields x (payee e) d.row.category d.row.notes e.payee e.id d.row.schedule)
        (same_entered (ids p) _ _ _ _ _ _ (text_kept d.row.acct ∙ k.acct) (day_kept d.row.date e.date k.date day) k.amount)
        ∙ ap (λ q. with_fields (entered q (Some account) (Some e.date) e.amount) (payee e) d.row.category d.row.notes e.payee e.id d.row.schedule) (sym own)
        ∙ ap (λ r. record (told_by account (payee e) e r) { id = o }) (row_is rows account e)

    row_made_at : (i : ℕ) (e : Entry) (o : Text) → slice_get es i ≡ Some e → is_day e.date ≡ true → slice_get found i ≡ Some None → slice_get own_ids i ≡ Some o
        → get after.txs o ≡ Some (record (told rows account (payee e) e) { id = o })
    row_made_at i e o a day b c =
        let w = begun_at i None o b c in
        let d = draft_of rows account e in
        own_changes i e w.place None o a w.there b c
        ∙ ap (change_of ids rows all_names w.place d None) (made_at i o w)
        ∙ made_row ids all_names w.place d
        ∙ ap Some (is_made e o w.place w.own day)

    -- ---- payees

    later_payees : after.payees ≡ (mid ids rows account es).payees
    later_payees = ap (λ (s : Rows). s.payees) (later_is ids rows account es) ∙ records_payees rows all_names ids (mid ids rows account es) (length all_names) (ds ids rows account es) found

    names_apart : (a b : ℕ) → 0 ≤ a → a < b → b < 0 + length all_names → ids a ≡ ids b → ⊥
    names_apart a b o l m e = let same : a ≡ b = new.apart a b (name_makes a (omega arith)) (name_makes b (omega arith)) e in omega (arith, same)

    payee_there : (k : ℕ) (name : Text) → slice_get all_names k ≡ Some name → get after.payees (ids k) ≡ Some (payee_with (ids k) name)
    payee_there k name h =
        let none : get rows.payees (ids (0 + k)) ≡ None = ap (λ j. get rows.payees (ids j)) (let e : 0 + k ≡ k = omega arith in e) ∙ new.payees k (name_makes k (below all_names k name h)) in
        ap (λ m. get m (ids k)) later_payees
        ∙ subst (λ (j : ℕ). get (mid ids rows account es).payees (ids j) ≡ Some (payee_with (ids j) name)) (let e : 0 + k ≡ k = omega arith in e) (payee_made ids all_names 0 rows k name h names_apart none)

    payees_stay : (q : Text) → ((k : ℕ) (name : Text) → slice_get all_names k ≡ Some name → q ≡ ids k → ⊥) → get after.payees q ≡ get rows.payees q
    payees_stay q h =
        ap (λ m. get m q) later_payees
        ∙ payee_other ids all_names 0 rows q (λ k l e. let n = at_below all_names k l in h k n.0 n.1 (e ∙ ap ids (let g : 0 + k ≡ k = omega arith in g)))

    name_wanted : (k : ℕ) (name : Text) → slice_get all_names k ≡ Some name → (i : ℕ) × (e : Entry) × (slice_get es i ≡ Some e) × Wants rows account e name
    name_wanted k name h =
        let w = names_first (ds ids rows account es) k name h in
        let e = map_at (draft_of rows account) es w.0 w.1.draft w.1.at in
        (w.0, e.0, e.1, wanted_is rows account e.0 name (back (draft_of rows account e.0) w.1.draft e.2 (λ d. d.wanted) name w.1.wants))

    -- ---- all of it

    to_found : (i : ℕ) (m : Option Text) → slice_get (matches rows account es) i ≡ Some m → slice_get found i ≡ Some m
    to_found i m h = ap (λ l. slice_get l i) found_is ∙ h

    are_imported : ((i : ℕ) (e : Entry) → slice_get es i ≡ Some e → is_day e.date ≡ true) → AreImported ids rows (ws ids rows account es) account es
    are_imported dated = record {
      own = own_ids;
      len = own_len;
      apart = apart;
      fills = λ i e id a h.
          let b = to_found i (Some id) h in
          let x = matched_at i e id a b in
          let o = at_same found own_ids i (Some id) (own_len ∙ sym found_len) b in
          let c : slice_get own_ids i ≡ Some id = o.1 ∙ ap Some (own_some i id o.0 b o.1) in
          (x.0, payee e, c, x.1, gets i e a, filled_at i e id x.0 a b c x.1);
      made = λ i e id a h c.
          let b = to_found i None h in
          let w = begun_at i None id b c in
          (w.place, payee e, made_new w.place (w.made refl), w.own, made_at i id w, gets i e a, row_made_at i e id a (dated i e a) b c);
      others = others_stay;
      payees = λ k name h. (name_makes k (below all_names k name h), payee_there k name h);
      wanted = name_wanted;
      other_payees = payees_stay;
      rest = writes_rest ids (ws ids rows account es) rows (all_append _ (payee_writes 0 all_names) (rest ids rows account es) (payees_both 0 all_names) (records_both rows all_names (length all_names) (ds ids rows account es) found));
    }

-- ---- an import

pub imports_write : ImportsWrite
imports_write ids rows edit es ws' is h new =
    let said : statement edit.statement ≡ Ok es = reads edit.statement ∙ (says (rows_in edit.statement) es).1 is in
    let p = passed (live_account rows edit.account) _ _ h in
    let q = passed (statement edit.statement) _ _ p.2 in
    let same : q.0 ≡ es = inside q.0 es (sym q.1 ∙ said) in
    let are : entries_writes rows edit.account es ≡ ws' = ap (entries_writes rows edit.account) (sym same) ∙ inside _ _ q.2 in
    subst (λ (l : List Write). AreImported ids rows l edit.account es) are
    (are_imported ids rows edit.account es (subst (λ (l : List Write). AreNewIds ids rows l) (sym are) new) (statement_dated edit.statement es said))
