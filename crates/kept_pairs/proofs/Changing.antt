-- Each write of an import changes what it is written into, and no field is written twice.
use Rattle.std.proofs.Common.{◌≡◌, ℕ, zero, suc, ◌+◌, ◌<◌, ◌≤◌, Bool, true, false, cond, List, [], ◌∷◌, ◌++◌, length, get_or, Option, Some, None, refl, sym, ap, ◌∙◌, inl, inr, ◌⊎◌, subst, arith, codes}
use Rattle.std.specs.Prelude.{◌≢◌, ◌&&◌, not, unwrap_or, map as list_map}
use Rattle.std.specs.Option.{option_map}
use Rattle.std.specs.List.{Contains, slice_get}
use Rattle.std.proofs.lemmas.List.Elements.{Contains-append_cases}
use Rattle.std.specs.FinMap.{get}
use Rattle.field_values.specs.declared.value.Value.{Value}
use Rattle.field_values.specs.declared.value.Value.TheVariants.{Number, Text as IsText}
use Rattle.finite_sums.specs.Maps.{Text, text_cmp, is_among}
use Rattle.book_rows.specs.declared.rows.Rows.{Rows}
use Rattle.book_rows.specs.declared.rows.TxRow.{TxRow}
use Rattle.book_rows.specs.declared.write.RowName.{RowName}
use Rattle.book_rows.specs.declared.write.RowName.TheVariants.{Given, Made}
use Rattle.book_rows.specs.declared.write.WriteValue.{WriteValue}
use Rattle.book_rows.specs.declared.write.WriteValue.TheVariants.{Plain, IdOf}
use Rattle.book_rows.specs.declared.write.Write.{Write}
use Rattle.book_rows.specs.Columns.{column_name}
use Rattle.book_rows.specs.Kinds.{text_of}
use Rattle.book_edits.specs.Checks.{live_account, same_id}
use Rattle.book_edits.specs.Writing.{write, flag, text_or_null}
use Rattle.book_edits.proofs.Valid.{inside, passed}
use Rattle.split_transfer.specs.After.{Ids, value_in, with_writes}
use Rattle.split_transfer.specs.Writing.{tx_write, day_or_null}
use Rattle.split_transfer.proofs.After.{get-with_write}
use Rattle.split_transfer.proofs.Basics.{either, or_left, or_right, both_true, not_true, true_false, none_some, some_is, same_refl, same_is}
use Rattle.split_transfer.proofs.Columns.{TxColumn, with_column, blank, Description, Category, Notes, Schedule, Cleared}
use Rattle.rule_engine.specs.Conditions.{folded}
use Rattle.bank_import.specs.declared.entry.Entry.{Entry}
use Rattle.bank_import.specs.Statement.{statement}
use Rattle.bank_import.specs.Matching.{facts_of, candidates, matched}
use Rattle.bank_import.specs.Drafts.{place_of, new_names}
use Rattle.bank_import.specs.Edits.{value_write, text_write, missing, payee_by, payee_value, takes_none, missing_category, texts_writes, clearing, filling, entry_writes, making, filling_at, record_writes, payee_writes, records_writes, entries_writes}
use Rattle.bank_import.specs.Rest.{drafts_in, rows_in_drafts}
use Rattle.bank_import.proofs.Runs.{law_of_matches}
use Rattle.kept_pairs.specs.Changing.{texts_of, IsChange, columns, IsOfNew, AreChanges, ImportsWriteChanges}
use Rattle.kept_pairs.proofs.Written.{Imported, Financial, into}

-- ---- elements

first_or_rest : {X : Type 0} (x : X) (xs : List X) (q : X) → Contains (x ∷ xs) q → (x ≡ q) ⊎ Contains xs q
first_or_rest x xs q c = by_place c.0 c.1 c.2
  where
    by_place : (k : ℕ) → k < length (x ∷ xs) → get_or (x ∷ xs) k q ≡ q → (x ≡ q) ⊎ Contains xs q
    by_place zero h e = inl e
    by_place (suc k) h e = inr (k, omega arith, e)

nothing : {X P : Type 0} (q : X) → Contains [] q → P
nothing q c = absurd (omega (arith, c.1))

-- ---- no field twice

-- writes into two fields
abbrev AreApart : Write → Write → Type 0
AreApart w v = v.row ≡ w.row → v.column ≢ w.column

-- no two writes are into one field
abbrev AllApart : List Write → Type 0
AllApart [] = Unit {0}
AllApart (w ∷ ws) = ((v : Write) → Contains ws v → AreApart w v) × AllApart ws

apart_append : (xs ys : List Write) → AllApart xs → AllApart ys → ((w v : Write) → Contains xs w → Contains ys v → AreApart w v) → AllApart (xs ++ ys)
apart_append [] ys a b f = b
apart_append (x ∷ xs) ys a b f = (
  λ v c. elim (Contains-append_cases xs ys v c) [ inl i ↦ a.0 v i | inr j ↦ f x v (0, omega arith, refl) j ],
  apart_append xs ys a.1 b (λ w v i j. f w v (suc i.0, omega (arith, i.1), i.2) j),
)

apart_behind : (before after : List Write) (w v : Write) → AllApart (before ++ w ∷ after) → Contains after v → AreApart w v
apart_behind [] after w v a c = a.0 v c
apart_behind (b ∷ before) after w v a c = apart_behind before after w v a.1 c

-- ---- columns

-- no name of some is among others
abbrev outside : List Text → List Text → Bool
outside [] others = true
outside (name ∷ names) others = not (is_among text_cmp others name) && outside names others

outside_is : {P : Type 0} (names others : List Text) (q : Text) → outside names others ≡ true → is_among text_cmp names q ≡ true → is_among text_cmp others q ≡ true → P
outside_is [] others q h a b = true_false false a refl
outside_is (name ∷ names) others q h a b =
    let p = both_true (not (is_among text_cmp others name)) (outside names others) h in
    either (same_id q name) (is_among text_cmp names q) a
    (λ same. true_false (is_among text_cmp others q) b (subst (λ (t : Text). is_among text_cmp others t ≡ false) (sym (same_is q name same)) (not_true (is_among text_cmp others name) p.0)))
    (λ more. outside_is names others q p.1 more b)

among_first : (names others : List Text) (q : Text) → is_among text_cmp names q ≡ true → is_among text_cmp (names ++ others) q ≡ true
among_first [] others q h = true_false false h refl
among_first (name ∷ names) others q h =
    either (same_id q name) (is_among text_cmp names q) h (λ e. or_left (same_id q name) (is_among text_cmp (names ++ others) q) e)
    (λ e. or_right (same_id q name) (is_among text_cmp (names ++ others) q) (among_first names others q e))

among_behind : (names others : List Text) (q : Text) → is_among text_cmp others q ≡ true → is_among text_cmp (names ++ others) q ≡ true
among_behind [] others q h = h
among_behind (name ∷ names) others q h = or_right (same_id q name) (is_among text_cmp (names ++ others) q) (among_behind names others q h)

-- ---- the writes of one record

-- writes into one row, each into another one of these columns, of each of which this is so
record IsBlock (Good : Write → Type 0) (row : RowName) (names : List Text) (ws : List Write) : Type 0 where
  rows : (w : Write) → Contains ws w → w.row ≡ row
  among : (w : Write) → Contains ws w → is_among text_cmp names w.column ≡ true
  apart : AllApart ws
  good : (w : Write) → Contains ws w → Good w

block_none : (Good : Write → Type 0) (row : RowName) (names : List Text) → IsBlock Good row names []
block_none Good row names = record { rows = λ w c. nothing w c; among = λ w c. nothing w c; apart = tt; good = λ w c. nothing w c }

block_one : (Good : Write → Type 0) (row : RowName) (w : Write) → w.row ≡ row → Good w → IsBlock Good row (w.column ∷ []) (w ∷ [])
block_one Good row w is good = record {
  rows = λ v c. elim (first_or_rest w [] v c) [ inl e ↦ subst (λ (u : Write). u.row ≡ row) e is | inr r ↦ nothing v r ];
  among = λ v c. elim (first_or_rest w [] v c) [
    | inl e ↦ or_left (same_id v.column w.column) false (subst (λ (u : Write). same_id u.column w.column ≡ true) e (same_refl w.column))
    | inr r ↦ nothing v r
  ];
  apart = (λ v c. nothing v c, tt);
  good = λ v c. elim (first_or_rest w [] v c) [ inl e ↦ subst Good e good | inr r ↦ nothing v r ];
}

block_both : (Good : Write → Type 0) (row : RowName) (names others : List Text) (ws vs : List Write) → outside names others ≡ true → IsBlock Good row names ws → IsBlock Good row others vs
    → IsBlock Good row (names ++ others) (ws ++ vs)
block_both Good row names others ws vs out a b = record {
  rows = λ w c. elim (Contains-append_cases ws vs w c) [ inl i ↦ a.rows w i | inr j ↦ b.rows w j ];
  among = λ w c. elim (Contains-append_cases ws vs w c) [ inl i ↦ among_first names others w.column (a.among w i) | inr j ↦ among_behind names others w.column (b.among w j) ];
  apart = apart_append ws vs a.apart b.apart (λ w v i j same column.
      outside_is names others w.column out (a.among w i) (subst (λ (q : Text). is_among text_cmp others q ≡ true) column (b.among v j)));
  good = λ w c. elim (Contains-append_cases ws vs w c) [ inl i ↦ a.good w i | inr j ↦ b.good w j ];
}

-- ---- values

-- a value is a text, whatever ids the new rows get
abbrev HasText : WriteValue → Type 0
HasText v = (ids : Ids) → (t : Text) × (text_of (value_in ids v) ≡ Some t)

plain_text : (own : Option Text) (v : WriteValue) → option_map (λ t. Plain (IsText t)) own ≡ Some v → HasText v
plain_text None v h = none_some v h
plain_text (Some t) v h = subst HasText (some_is (Plain (IsText t)) v h) (λ ids. (t, refl))

payee_text : (names : List Text) (wanted own : Option Text) (v : WriteValue) → payee_by names wanted own ≡ Some v → HasText v
payee_text names None own v h = plain_text own v h
payee_text names (Some name) own v h = by (place_of names (folded name)) h
  where
    by : (o : Option ℕ) → option_map (λ at. IdOf at) o ≡ Some v → HasText v
    by None k = none_some v k
    by (Some at) k = subst HasText (some_is (IdOf at) v k) (λ ids. (ids at, refl))

-- what is written where something is missing
abbrev IsMissing : Option Text → WriteValue → Type 0
IsMissing own v = (own ≡ None) × HasText v

missing_value : (own : Option Text) (new : Option WriteValue) → ((v : WriteValue) → new ≡ Some v → HasText v) → (v : WriteValue) → missing own new ≡ Some v → IsMissing own v
missing_value None new text v h = (refl, text v h)
missing_value (Some t) new text v h = none_some v h

missing_text : (own new : Option Text) (v : WriteValue) → option_map (λ t. Plain (IsText t)) (missing own new) ≡ Some v → IsMissing own v
missing_text None new v h = (refl, plain_text new v h)
missing_text (Some t) new v h = none_some v h

missing_choice : (none : Bool) (own new : Option Text) (v : WriteValue) → option_map (λ t. Plain (IsText t)) (missing_category none own new) ≡ Some v → IsMissing own v
missing_choice true own new v h = none_some v h
missing_choice false own new v h = missing_text own new v h

-- ---- a record that matches

abbrev column_of : Text → Option Text → Text × Option Text
column_of name text = (name, text)

-- a column of texts, and what the transaction has in it
record IsOwn (x : TxRow) (c : TxColumn) (own : Option Text) : Type 0 where
  text : TxRow → Option Text
  has : text x ≡ own
  sets : (v : Value) → text (with_column c v x) ≡ text_of v
  place : own ≡ None → Contains (texts_of x) (column_of (column_name c.0) None)

module _ (rows : Rows) (id : Text) (x : TxRow) (there : get rows.txs id ≡ Some x) where
  abbrev Block : List Text → List Write → Type 0
  Block names ws = IsBlock (IsChange rows id) (Given id) names ws

  -- the transaction after one write
  after : (c : TxColumn) (v : WriteValue) (ids : Ids) → get (with_writes ids rows (into (Given id) c v ∷ [])).txs id ≡ Some (with_column c (value_in ids v) x)
  after c v ids =
      get-with_write ids rows (record { row = Given id; column = c; value = v }) id
      ∙ ap (λ b. cond b (Some (with_column c (value_in ids v) (unwrap_or (get rows.txs id) (blank id)))) (get rows.txs id)) (same_refl id)
      ∙ ap (λ o. Some (with_column c (value_in ids v) (unwrap_or o (blank id)))) there

  text_changes : (c : TxColumn) (own : Option Text) (v : WriteValue) → IsOwn x c own → IsMissing own v → IsChange rows id (into (Given id) c v)
  text_changes c own v is m = record {
    tx = x;
    there = there;
    dataset = refl;
    bare = inl (is.place m.0);
    other = λ ids same.
        let e : with_column c (value_in ids v) x ≡ x = some_is _ _ (sym (after c v ids) ∙ same) in
        let t = m.1 ids in
        none_some t.0 (sym (is.has ∙ m.0) ∙ sym (ap is.text e) ∙ is.sets (value_in ids v) ∙ t.1);
  }

  piece : (c : TxColumn) (own : Option Text) (v : Option WriteValue) → IsOwn x c own → ((u : WriteValue) → v ≡ Some u → IsMissing own u) → Block (column_name c.0 ∷ []) (value_write (Given id) (column_name c.0) v)
  piece c own None is m = block_none (IsChange rows id) (Given id) (column_name c.0 ∷ [])
  piece c own (Some u) is m = block_one (IsChange rows id) (Given id) (into (Given id) c u) refl (text_changes c own u is (m u refl))

  description : IsOwn x Description x.description
  description = record { text = λ y. y.description; has = refl; sets = λ v. refl; place = λ e. (0, omega arith, ap (column_of (codes "description")) e) }

  category : IsOwn x Category x.category
  category = record { text = λ y. y.category; has = refl; sets = λ v. refl; place = λ e. (1, omega arith, ap (column_of (codes "category")) e) }

  notes : IsOwn x Notes x.notes
  notes = record { text = λ y. y.notes; has = refl; sets = λ v. refl; place = λ e. (2, omega arith, ap (column_of (codes "notes")) e) }

  imported : IsOwn x Imported x.imported_description
  imported = record { text = λ y. y.imported_description; has = refl; sets = λ v. refl; place = λ e. (3, omega arith, ap (column_of (codes "imported_description")) e) }

  financial : IsOwn x Financial x.financial_id
  financial = record { text = λ y. y.financial_id; has = refl; sets = λ v. refl; place = λ e. (4, omega arith, ap (column_of (codes "financial_id")) e) }

  schedule : IsOwn x Schedule x.schedule
  schedule = record { text = λ y. y.schedule; has = refl; sets = λ v. refl; place = λ e. (5, omega arith, ap (column_of (codes "schedule")) e) }

  cleared : (known : Bool) → x.cleared ≡ known → Block (codes "cleared" ∷ []) (clearing (Given id) known)
  cleared true e = block_none (IsChange rows id) (Given id) (codes "cleared" ∷ [])
  cleared false e = block_one (IsChange rows id) (Given id) (into (Given id) Cleared (Plain (flag true))) refl (record {
    tx = x;
    there = there;
    dataset = refl;
    bare = inr (refl, e);
    other = λ ids same.
        let s : with_column Cleared (flag true) x ≡ x = some_is _ _ (sym (after Cleared (Plain (flag true)) ids) ∙ same) in
        true_false x.cleared (sym (ap (λ (y : TxRow). y.cleared) s)) e;
  })

  abbrev seven : List Text
  seven = codes "description" ∷ codes "category" ∷ codes "notes" ∷ codes "imported_description" ∷ codes "financial_id" ∷ codes "schedule" ∷ codes "cleared" ∷ []

  filling_block : (names : List Text) (d : _) → Block seven (filling rows names id x d)
  unfolding filling
  filling_block names d =
      let row = Given id in
      let payee = missing x.description (payee_value names d) in
      let c = missing_category (takes_none rows id x) x.category d.row.category in
      let n = missing x.notes d.row.notes in
      let i = missing x.imported_description d.row.imported_description in
      let f = missing x.financial_id d.row.financial_id in
      let s = missing x.schedule d.row.schedule in
      let a : Block (codes "description" ∷ codes "category" ∷ []) (value_write row (codes "description") payee ++ text_write row (codes "category") c) =
      block_both (IsChange rows id) row (codes "description" ∷ []) (codes "category" ∷ []) (value_write row (codes "description") payee) (text_write row (codes "category") c) refl
      (piece Description x.description payee description (missing_value x.description (payee_value names d) (payee_text names d.wanted d.row.description)))
      (piece Category x.category (option_map (λ t. Plain (IsText t)) c) category (missing_choice (takes_none rows id x) x.category d.row.category)) in
      let b : Block (codes "notes" ∷ codes "imported_description" ∷ codes "financial_id" ∷ codes "schedule" ∷ []) (texts_writes row n i f s) =
      block_both (IsChange rows id) row (codes "notes" ∷ codes "imported_description" ∷ codes "financial_id" ∷ []) (codes "schedule" ∷ []) _ (text_write row (codes "schedule") s) refl
      (block_both (IsChange rows id) row (codes "notes" ∷ codes "imported_description" ∷ []) (codes "financial_id" ∷ []) _ (text_write row (codes "financial_id") f) refl
      (block_both (IsChange rows id) row (codes "notes" ∷ []) (codes "imported_description" ∷ []) (text_write row (codes "notes") n) (text_write row (codes "imported_description") i) refl
      (piece Notes x.notes (option_map (λ t. Plain (IsText t)) n) notes (missing_text x.notes d.row.notes))
      (piece Imported x.imported_description (option_map (λ t. Plain (IsText t)) i) imported (missing_text x.imported_description d.row.imported_description)))
      (piece Financial x.financial_id (option_map (λ t. Plain (IsText t)) f) financial (missing_text x.financial_id d.row.financial_id)))
      (piece Schedule x.schedule (option_map (λ t. Plain (IsText t)) s) schedule (missing_text x.schedule d.row.schedule)) in
      block_both (IsChange rows id) row (codes "description" ∷ codes "category" ∷ codes "notes" ∷ codes "imported_description" ∷ codes "financial_id" ∷ codes "schedule" ∷ []) (codes "cleared" ∷ []) _ (clearing row x.cleared) refl
      (block_both (IsChange rows id) row (codes "description" ∷ codes "category" ∷ []) (codes "notes" ∷ codes "imported_description" ∷ codes "financial_id" ∷ codes "schedule" ∷ []) _ (texts_writes row n i f s) refl a b)
      (cleared x.cleared refl)

-- ---- a record that matches none

module _ (at : ℕ) where
  abbrev New : List Text → List Write → Type 0
  New names ws = IsBlock IsOfNew (Made at) names ws

  new_one : (column : Text) (v : Value) → Contains columns column → New (column ∷ []) (tx_write (Made at) column v ∷ [])
  new_one column v h = block_one IsOfNew (Made at) (tx_write (Made at) column v) refl (inr (refl, h))

  new_piece : (column : Text) (v : Option WriteValue) → Contains columns column → New (column ∷ []) (value_write (Made at) column v)
  new_piece column None h = block_none IsOfNew (Made at) (column ∷ [])
  new_piece column (Some v) h = block_one IsOfNew (Made at) (record { dataset = codes "transactions"; row = Made at; column = column; value = v }) refl (inr (refl, h))

  new_text : (column : Text) (t : Option Text) → Contains columns column → New (column ∷ []) (text_write (Made at) column t)
  new_text column t h = new_piece column (option_map (λ t. Plain (IsText t)) t) h

  new_both : (names others : List Text) (ws vs : List Write) → outside names others ≡ true → New names ws → New others vs → New (names ++ others) (ws ++ vs)
  new_both names others ws vs out a b = block_both IsOfNew (Made at) names others ws vs out a b

  making_block : (names : List Text) (d : _) → New columns (making names at d)
  unfolding making
  making_block names d =
      let row = Made at in
      let a : New (codes "acct" ∷ codes "date" ∷ codes "amount" ∷ []) (entry_writes row d.row) =
      new_both (codes "acct" ∷ codes "date" ∷ []) (codes "amount" ∷ []) (tx_write row (codes "acct") (text_or_null d.row.acct) ∷ tx_write row (codes "date") (day_or_null d.row.date) ∷ []) (tx_write row (codes "amount") (Number d.row.amount) ∷ []) refl
      (new_both (codes "acct" ∷ []) (codes "date" ∷ []) (tx_write row (codes "acct") (text_or_null d.row.acct) ∷ []) (tx_write row (codes "date") (day_or_null d.row.date) ∷ []) refl
      (new_one (codes "acct") (text_or_null d.row.acct) (0, omega arith, refl))
      (new_one (codes "date") (day_or_null d.row.date) (1, omega arith, refl)))
      (new_one (codes "amount") (Number d.row.amount) (2, omega arith, refl)) in
      let e : New (codes "notes" ∷ codes "imported_description" ∷ codes "financial_id" ∷ codes "schedule" ∷ []) (texts_writes row d.row.notes d.row.imported_description d.row.financial_id d.row.schedule) =
      new_both (codes "notes" ∷ codes "imported_description" ∷ codes "financial_id" ∷ []) (codes "schedule" ∷ []) _ (text_write row (codes "schedule") d.row.schedule) refl
      (new_both (codes "notes" ∷ codes "imported_description" ∷ []) (codes "financial_id" ∷ []) _ (text_write row (codes "financial_id") d.row.financial_id) refl
      (new_both (codes "notes" ∷ []) (codes "imported_description" ∷ []) (text_write row (codes "notes") d.row.notes) (text_write row (codes "imported_description") d.row.imported_description) refl
      (new_text (codes "notes") d.row.notes (5, omega arith, refl))
      (new_text (codes "imported_description") d.row.imported_description (6, omega arith, refl)))
      (new_text (codes "financial_id") d.row.financial_id (7, omega arith, refl)))
      (new_text (codes "schedule") d.row.schedule (8, omega arith, refl)) in
      let p = value_write row (codes "description") (payee_value names d) in
      let c = text_write row (codes "category") d.row.category in
      let g : New (codes "acct" ∷ codes "date" ∷ codes "amount" ∷ codes "description" ∷ codes "category" ∷ []) (entry_writes row d.row ++ p ++ c) =
      new_both (codes "acct" ∷ codes "date" ∷ codes "amount" ∷ codes "description" ∷ []) (codes "category" ∷ []) (entry_writes row d.row ++ p) c refl
      (new_both (codes "acct" ∷ codes "date" ∷ codes "amount" ∷ []) (codes "description" ∷ []) (entry_writes row d.row) p refl a (new_piece (codes "description") (payee_value names d) (3, omega arith, refl)))
      (new_text (codes "category") d.row.category (4, omega arith, refl)) in
      new_both (codes "acct" ∷ codes "date" ∷ codes "amount" ∷ codes "description" ∷ codes "category" ∷ codes "notes" ∷ codes "imported_description" ∷ codes "financial_id" ∷ codes "schedule" ∷ []) (codes "cleared" ∷ [])
      (entry_writes row d.row ++ p ++ c ++ texts_writes row d.row.notes d.row.imported_description d.row.financial_id d.row.schedule) (clearing row false) refl
      (new_both (codes "acct" ∷ codes "date" ∷ codes "amount" ∷ codes "description" ∷ codes "category" ∷ []) (codes "notes" ∷ codes "imported_description" ∷ codes "financial_id" ∷ codes "schedule" ∷ [])
      (entry_writes row d.row ++ p ++ c) (texts_writes row d.row.notes d.row.imported_description d.row.financial_id d.row.schedule) refl g e)
      (new_one (codes "cleared") (flag true) (9, omega arith, refl))

making_some : (names : List Text) (at : ℕ) (d : _) → 0 < length (making names at d)
unfolding making
making_some names at d = omega arith

-- ---- the writes of all records

-- no transaction is matched twice
abbrev MatchedOnce : List (Option Text) → Type 0
MatchedOnce ms = (i j : ℕ) (id : Text) → slice_get ms i ≡ Some (Some id) → slice_get ms j ≡ Some (Some id) → i ≡ j

-- a write is a change of a transaction that is matched, or one of a row that is made from this place on
abbrev IsTold : Rows → ℕ → List (Option Text) → Write → Type 0
IsTold rows at ms w =
    ((id : Text) × (j : ℕ) × (slice_get ms j ≡ Some (Some id)) × (w.row ≡ Given id) × IsChange rows id w)
    ⊎ ((place : ℕ) × (at ≤ place) × (w.row ≡ Made place) × IsOfNew w)

given_is : (a b : Text) → Given a ≡ Given b → a ≡ b
given_is a b h = cc

made_is : (a b : ℕ) → Made a ≡ Made b → a ≡ b
made_is a b h = cc

given_made : {P : Type 0} (a : Text) (b : ℕ) → Given a ≡ Made b → P
given_made a b h = absurd (clash h)
  where
    clash : Given a ≡ Made b → ⊥
    clash h = cc

module _ (rows : Rows) (names : List Text) where
  filling_told : (at : ℕ) (id : Text) (d : _) (o : Option TxRow) → get rows.txs id ≡ o → (w : Write) → Contains (filling_at rows names id d o) w → (w.row ≡ Given id) × IsChange rows id w
  filling_told at id d None e w c = nothing w c
  filling_told at id d (Some x) e w c = let b = filling_block rows id x e names d in (b.rows w c, b.good w c)

  record_told : (at : ℕ) (d : _) (m : Option Text) (ms : List (Option Text)) (w : Write) → Contains (record_writes rows names at d m) w → IsTold rows at (m ∷ ms) w
  record_told at d None ms w c = let b = making_block at names d in inr (at, omega arith, b.rows w c, b.good w c)
  record_told at d (Some id) ms w c = let f = filling_told at id d (get rows.txs id) refl w c in inl (id, 0, refl, f.0, f.1)

  -- what is so from a later place on, and of later matches, is so
  later_told : (at more : ℕ) (m : Option Text) (ms : List (Option Text)) (w : Write) → IsTold rows (at + more) ms w → IsTold rows at (m ∷ ms) w
  later_told at more m ms w t = elim t [ inl a ↦ inl (a.0, suc a.1, a.2, a.3, a.4) | inr b ↦ inr (b.0, let l = b.1 in omega (arith, l), b.2, b.3) ]

  records_told : (at : ℕ) (ds : List _) (ms : List (Option Text)) (w : Write) → Contains (records_writes rows names at ds ms) w → IsTold rows at ms w
  records_told at [] ms w c = nothing w c
  records_told at (d ∷ ds) [] w c = nothing w c
  records_told at (d ∷ ds) (m ∷ ms) w c =
      let n = length (record_writes rows names at d m) in
      elim (Contains-append_cases (record_writes rows names at d m) (records_writes rows names (at + n) ds ms) w c) [
        | inl i ↦ record_told at d m ms w i
        | inr j ↦ later_told at n m ms w (records_told (at + n) ds ms w j)
      ]

  filling_apart : (id : Text) (d : _) (o : Option TxRow) → get rows.txs id ≡ o → AllApart (filling_at rows names id d o)
  filling_apart id d None e = tt
  filling_apart id d (Some x) e = (filling_block rows id x e names d).apart

  record_apart : (at : ℕ) (d : _) (m : Option Text) → AllApart (record_writes rows names at d m)
  record_apart at d None = (making_block at names d).apart
  record_apart at d (Some id) = filling_apart id d (get rows.txs id) refl

  -- a write of a record and one of a later record
  two_apart : (at : ℕ) (d : _) (m : Option Text) (ms : List (Option Text)) → MatchedOnce (m ∷ ms) → (w v : Write) → Contains (record_writes rows names at d m) w
      → IsTold rows (at + length (record_writes rows names at d m)) ms v → v.row ≡ w.row → ⊥
  two_apart at d None ms once w v c t row =
      let is : w.row ≡ Made at = (making_block at names d).rows w c in
      elim t [
        | inl a ↦ given_made a.0 at (sym a.3 ∙ row ∙ is)
        | inr b ↦ let same = made_is b.0 at (sym b.2 ∙ row ∙ is) in let l = b.1 in let some = making_some names at d in omega (arith, same, l, some)
      ]
  two_apart at d (Some id) ms once w v c t row =
      let is : w.row ≡ Given id = (filling_told at id d (get rows.txs id) refl w c).0 in
      elim t [
        | inl a ↦ let same : a.0 ≡ id = given_is a.0 id (sym a.3 ∙ row ∙ is) in let bad : 0 ≡ suc a.1 = once 0 (suc a.1) id refl (a.2 ∙ ap (λ (q : Text). Some (Some q)) same) in omega (arith, bad)
        | inr b ↦ given_made id b.0 (sym is ∙ sym row ∙ b.2)
      ]

  records_apart : (at : ℕ) (ds : List _) (ms : List (Option Text)) → MatchedOnce ms → AllApart (records_writes rows names at ds ms)
  records_apart at [] ms once = tt
  records_apart at (d ∷ ds) [] once = tt
  records_apart at (d ∷ ds) (m ∷ ms) once =
      let first = record_writes rows names at d m in
      let rest = records_writes rows names (at + length (record_writes rows names at d m)) ds ms in
      apart_append first rest (record_apart at d m) (records_apart (at + length (record_writes rows names at d m)) ds ms (λ i j id a b. let e = once (suc i) (suc j) id a b in omega (arith, e)))
      (λ w v i j row column. two_apart at d m ms once w v i (records_told (at + length (record_writes rows names at d m)) ds ms v j) row)

-- ---- new payees

-- a write of a row that is made by one of so many writes from this place on
abbrev IsPayee : ℕ → ℕ → Write → Type 0
IsPayee at more w = (place : ℕ) × (at ≤ place) × (place < at + more) × (w.row ≡ Made place) × IsOfNew w

payees_told : (at : ℕ) (names : List Text) (w : Write) → Contains (payee_writes at names) w → IsPayee at (length names) w
payees_told at [] w c = nothing w c
payees_told at (name ∷ names) w c =
    elim (first_or_rest (write (codes "payees") (Made at) (codes "name") (IsText name)) (payee_writes (at + 1) names) w c) [
      | inl e ↦ (at, omega arith, omega arith, ap (λ (u : Write). u.row) (sym e), subst IsOfNew e (inl (refl, refl)))
      | inr r ↦ let p = payees_told (at + 1) names w r in let l = p.1 in let m = p.2 in (p.0, omega (arith, l), omega (arith, m), p.3, p.4)
    ]

payees_apart : (at : ℕ) (names : List Text) → AllApart (payee_writes at names)
payees_apart at [] = tt
payees_apart at (name ∷ names) = (
  λ v c row column. let p = payees_told (at + 1) names v c in let l = p.1 in let same = made_is p.0 at (sym p.3 ∙ row) in omega (arith, l, same),
  payees_apart (at + 1) names,
)

-- ---- an import

module _ (rows : Rows) (account : Text) (es : List Entry) where
  abbrev all_names : List Text
  all_names = new_names (drafts_in rows account es)

  abbrev found : List (Option Text)
  found = matched rows account (rows_in_drafts (drafts_in rows account es))

  found_once : MatchedOnce found
  unfolding matched
  found_once = (law_of_matches (candidates rows account) (list_map (facts_of rows) (rows_in_drafts (drafts_in rows account es)))).apart

  abbrev payees : List Write
  payees = payee_writes 0 all_names

  abbrev records : List Write
  records = records_writes rows all_names (length all_names) (drafts_in rows account es) found

  payee_or_record : (w : Write) → Contains (entries_writes rows account es) w → IsPayee 0 (length all_names) w ⊎ IsTold rows (length all_names) found w
  payee_or_record w c = elim (Contains-append_cases payees records w c) [
    | inl i ↦ inl (payees_told 0 all_names w i)
    | inr j ↦ inr (records_told rows all_names (length all_names) (drafts_in rows account es) found w j)
  ]

  all_apart : AllApart (entries_writes rows account es)
  all_apart = apart_append payees records (payees_apart 0 all_names) (records_apart rows all_names (length all_names) (drafts_in rows account es) found found_once) (λ w v i j row column.
      let p = payees_told 0 all_names w i in
      elim (records_told rows all_names (length all_names) (drafts_in rows account es) found v j) [
        | inl a ↦ given_made a.0 p.0 (sym a.3 ∙ row ∙ p.3)
        | inr b ↦ let same = made_is b.0 p.0 (sym b.2 ∙ row ∙ p.3) in let l = b.1 in let m = p.2 in omega (arith, same, l, m)
      ])

  are_changes : AreChanges rows (entries_writes rows account es)
  are_changes = record {
    changes = λ w id c row. elim (payee_or_record w c) [
      | inl p ↦ given_made id p.0 (sym row ∙ p.3)
      | inr t ↦ elim t [ inl a ↦ subst (λ (q : Text). IsChange rows q w) (given_is a.0 id (sym a.3 ∙ row)) a.4 | inr b ↦ given_made id b.0 (sym row ∙ b.2) ]
    ];
    new = λ w at c row. elim (payee_or_record w c) [
      | inl p ↦ p.4
      | inr t ↦ elim t [ inl a ↦ given_made a.0 at (sym a.3 ∙ row) | inr b ↦ b.3 ]
    ];
    once = λ before after w v is c. apart_behind before after w v (subst AllApart is all_apart) c;
  }

pub write_changes : ImportsWriteChanges
write_changes rows edit ws h =
    let l = passed (live_account rows edit.account) _ _ h in
    let es = passed (statement edit.statement) _ _ l.2 in
    let is : entries_writes rows edit.account es.0 ≡ ws = inside _ _ es.2 in
    subst (AreChanges rows) is (are_changes rows edit.account es.0)
