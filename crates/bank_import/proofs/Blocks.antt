-- What the writes of a record leave of a transaction.
use Rattle.std.proofs.Common.{◌≡◌, ℕ, Bool, true, false, cond, List, [], ◌∷◌, ◌++◌, Option, Some, None, refl, sym, ap, ◌∙◌, codes}
use Rattle.std.specs.Prelude.{unwrap_or}
use Rattle.std.specs.Option.{option_map}
use Rattle.std.specs.FinMap.{get}
use Rattle.field_values.specs.declared.value.Value.{Value}
use Rattle.field_values.specs.declared.value.Value.TheVariants.{Number, Text as IsText}
use Rattle.finite_sums.specs.Maps.{Text}
use Rattle.book_rows.specs.declared.column.Column.TheVariants as of
use Rattle.book_rows.specs.declared.rows.Rows.{Rows}
use Rattle.book_rows.specs.declared.rows.TxRow.{TxRow}
use Rattle.book_rows.specs.declared.write.RowName.{RowName}
use Rattle.book_rows.specs.declared.write.RowName.TheVariants.{Given, Made}
use Rattle.book_rows.specs.declared.write.WriteValue.{WriteValue}
use Rattle.book_rows.specs.declared.write.WriteValue.TheVariants.{Plain}
use Rattle.book_rows.specs.declared.write.Write.{Write}
use Rattle.book_rows.specs.Columns.{column_name}
use Rattle.book_rows.specs.Kinds.{text_of, day_of}
use Rattle.book_edits.specs.Checks.{same_id}
use Rattle.book_edits.specs.Writing.{flag, text_or_null}
use Rattle.split_transfer.specs.After.{Ids, row_of, value_in, with_writes}
use Rattle.split_transfer.specs.Writing.{day_or_null}
use Rattle.split_transfer.proofs.After.{get-with_write, with_writes-append}
use Rattle.split_transfer.proofs.Basics.{same_is}
use Rattle.split_transfer.proofs.Columns.{TxColumn, Acct, Date, Amount, Description, Category, Notes, Cleared, Schedule, with_column, blank}
use Rattle.bank_import.specs.declared.drafts.Draft.{Draft}
use Rattle.bank_import.specs.Edits.{value_write, text_write, missing, payee_value, takes_none, missing_category, texts_writes, clearing, filling, entry_writes, making}

-- ---- what some writes make of the row of one id

abbrev pub Change : Type 0
Change = Option TxRow → Option TxRow

-- the writes change the row of this id so, and no other
pub record Changes (ids : Ids) (ws : List Write) (k : Text) (f : Change) : Type 0 where
  pub row : (m : Rows) (q : Text) → get (with_writes ids m ws).txs q ≡ cond (same_id q k) (f (get m.txs q)) (get m.txs q)

either_way : {X : Type 0} (b : Bool) (x : X) → x ≡ cond b x x
either_way true x = refl
either_way false x = refl

pub nothing : (ids : Ids) (k : Text) → Changes ids [] k (λ o. o)
nothing ids k = record { row = λ m q. either_way (same_id q k) (get m.txs q) }

-- one after the other
pub both : (ids : Ids) (ws vs : List Write) (k : Text) (f g : Change) → Changes ids ws k f → Changes ids vs k g → Changes ids (ws ++ vs) k (λ o. g (f o))
both ids ws vs k f g a b = record {
  row = λ m q.
      ap (λ (r : Rows). get r.txs q) (with_writes-append ids m ws vs)
      ∙ b.row (with_writes ids m ws) q
      ∙ ap (λ o. cond (same_id q k) (g o) o) (a.row m q)
      ∙ by (same_id q k) (get m.txs q);
}
  where
    by : (c : Bool) (o : Option TxRow) → cond c (g (cond c (f o) o)) (cond c (f o) o) ≡ cond c (g (f o)) o
    by true o = refl
    by false o = refl

-- a value into a column
abbrev pub into : TxColumn → Value → Text → Change
into c v k o = Some (with_column c v (unwrap_or o (blank k)))

one : (ids : Ids) (row : RowName) (c : TxColumn) (v : WriteValue)
    → Changes ids (record { dataset = codes "transactions"; row = row; column = column_name c.0; value = v } ∷ []) (row_of ids row) (into c (value_in ids v) (row_of ids row))
one ids row c v = record { row = λ m q. get-with_write ids m (record { row = row; column = c; value = v }) q ∙ by q (same_id q (row_of ids row)) refl (get m.txs q) }
  where
    by : (q : Text) (b : Bool) → same_id q (row_of ids row) ≡ b → (o : Option TxRow)
        → cond b (Some (with_column c (value_in ids v) (unwrap_or o (blank q)))) o ≡ cond b (into c (value_in ids v) (row_of ids row) o) o
    by q true e o = ap (λ t. Some (with_column c (value_in ids v) (unwrap_or o (blank t)))) (same_is q (row_of ids row) e)
    by q false e o = refl

abbrev pub into_if : Ids → TxColumn → Option WriteValue → Text → Change
into_if ids c None k o = o
into_if ids c (Some v) k o = into c (value_in ids v) k o

one_if : (ids : Ids) (row : RowName) (c : TxColumn) (v : Option WriteValue) → Changes ids (value_write row (column_name c.0) v) (row_of ids row) (into_if ids c v (row_of ids row))
one_if ids row c None = nothing ids (row_of ids row)
one_if ids row c (Some v) = one ids row c v

-- ---- columns of texts

abbrev pub Imported : TxColumn
Imported = (of.ImportedDescription, refl)

abbrev pub Financial : TxColumn
Financial = (of.FinancialId, refl)

abbrev pub plain : Option Text → Option WriteValue
plain text = option_map (λ t. Plain (IsText t)) text

-- a text, or what is written in its place
abbrev pub pick : Ids → Option Text → Option WriteValue → Option Text
pick ids own None = own
pick ids own (Some v) = text_of (value_in ids v)

record IsWords (c : TxColumn) (own : TxRow → Option Text) (set : Option Text → TxRow → TxRow) : Type 0 where
  sets : (v : Value) (x : TxRow) → with_column c v x ≡ set (text_of v) x
  same : (x : TxRow) → set (own x) x ≡ x

words : (ids : Ids) (c : TxColumn) (own : TxRow → Option Text) (set : Option Text → TxRow → TxRow) → IsWords c own set
    → (v : Option WriteValue) (k : Text) (x : TxRow) → into_if ids c v k (Some x) ≡ Some (set (pick ids (own x) v) x)
words ids c own set is None k x = ap Some (sym (is.same x))
words ids c own set is (Some v) k x = ap Some (is.sets (value_in ids v) x)

is_description : IsWords Description (λ x. x.description) (λ t x. record x { description = t })
is_description = record { sets = λ v x. refl; same = λ x. refl }

is_category : IsWords Category (λ x. x.category) (λ t x. record x { category = t })
is_category = record { sets = λ v x. refl; same = λ x. refl }

is_notes : IsWords Notes (λ x. x.notes) (λ t x. record x { notes = t })
is_notes = record { sets = λ v x. refl; same = λ x. refl }

is_imported : IsWords Imported (λ x. x.imported_description) (λ t x. record x { imported_description = t })
is_imported = record { sets = λ v x. refl; same = λ x. refl }

is_financial : IsWords Financial (λ x. x.financial_id) (λ t x. record x { financial_id = t })
is_financial = record { sets = λ v x. refl; same = λ x. refl }

is_schedule : IsWords Schedule (λ x. x.schedule) (λ t x. record x { schedule = t })
is_schedule = record { sets = λ v x. refl; same = λ x. refl }

-- ---- the writes of one record

abbrev pub texts_change : Ids → Option Text → Option Text → Option Text → Option Text → Text → Change
texts_change ids n i f s k o = into_if ids Schedule (plain s) k (into_if ids Financial (plain f) k (into_if ids Imported (plain i) k (into_if ids Notes (plain n) k o)))

texts : (ids : Ids) (row : RowName) (n i f s : Option Text) → Changes ids (texts_writes row n i f s) (row_of ids row) (texts_change ids n i f s (row_of ids row))
texts ids row n i f s =
    both ids _ (text_write row (codes "schedule") s) (row_of ids row) _ _
    (both ids _ (text_write row (codes "financial_id") f) (row_of ids row) _ _
    (both ids (text_write row (codes "notes") n) (text_write row (codes "imported_description") i) (row_of ids row) _ _
    (one_if ids row Notes (plain n)) (one_if ids row Imported (plain i)))
    (one_if ids row Financial (plain f)))
    (one_if ids row Schedule (plain s))

abbrev pub clearing_change : Bool → Text → Change
clearing_change true k o = o
clearing_change false k o = into Cleared (flag true) k o

cleared : (ids : Ids) (row : RowName) (known : Bool) → Changes ids (clearing row known) (row_of ids row) (clearing_change known (row_of ids row))
cleared ids row true = nothing ids (row_of ids row)
cleared ids row false = one ids row Cleared (Plain (flag true))

is_cleared : (known : Bool) (k : Text) (x : TxRow) → x.cleared ≡ known → clearing_change known k (Some x) ≡ Some (record x { cleared = true })
is_cleared true k x h = ap (λ b. Some (record x { cleared = b })) h
is_cleared false k x h = refl

with_texts : (ids : Ids) (n i f s : Option Text) (k : Text) (x : TxRow) → texts_change ids n i f s k (Some x)
    ≡ Some (record x { notes = pick ids x.notes (plain n); imported_description = pick ids x.imported_description (plain i); financial_id = pick ids x.financial_id (plain f); schedule = pick ids x.schedule (plain s) })
with_texts ids n i f s k x =
    let a : TxRow = record x { notes = pick ids x.notes (plain n) } in
    let b : TxRow = record a { imported_description = pick ids x.imported_description (plain i) } in
    let c : TxRow = record b { financial_id = pick ids x.financial_id (plain f) } in
    ap (λ o. into_if ids Schedule (plain s) k (into_if ids Financial (plain f) k (into_if ids Imported (plain i) k o))) (words ids Notes (λ y. y.notes) (λ t y. record y { notes = t }) is_notes (plain n) k x)
    ∙ ap (λ o. into_if ids Schedule (plain s) k (into_if ids Financial (plain f) k o)) (words ids Imported (λ y. y.imported_description) (λ t y. record y { imported_description = t }) is_imported (plain i) k a)
    ∙ ap (λ o. into_if ids Schedule (plain s) k o) (words ids Financial (λ y. y.financial_id) (λ t y. record y { financial_id = t }) is_financial (plain f) k b)
    ∙ words ids Schedule (λ y. y.schedule) (λ t y. record y { schedule = t }) is_schedule (plain s) k c

-- the transaction with what a record fills in
abbrev pub filled_by : Ids → TxRow → Option WriteValue → Option Text → Option Text → Option Text → Option Text → Option Text → TxRow
filled_by ids x p c n i f s = record x {
  description = pick ids x.description p;
  category = pick ids x.category (plain c);
  notes = pick ids x.notes (plain n);
  imported_description = pick ids x.imported_description (plain i);
  financial_id = pick ids x.financial_id (plain f);
  schedule = pick ids x.schedule (plain s);
  cleared = true;
}

abbrev pub rest_change : Ids → Option WriteValue → Option Text → Option Text → Option Text → Option Text → Option Text → Bool → Text → Change
rest_change ids p c n i f s known k o = clearing_change known k (texts_change ids n i f s k (into_if ids Category (plain c) k (into_if ids Description p k o)))

pub rest_row : (ids : Ids) (p : Option WriteValue) (c n i f s : Option Text) (known : Bool) (k : Text) (x : TxRow) → x.cleared ≡ known → rest_change ids p c n i f s known k (Some x) ≡ Some (filled_by ids x p c n i f s)
rest_row ids p c n i f s known k x h =
    let a : TxRow = record x { description = pick ids x.description p } in
    let b : TxRow = record a { category = pick ids x.category (plain c) } in
    let y : TxRow = record b { notes = pick ids x.notes (plain n); imported_description = pick ids x.imported_description (plain i); financial_id = pick ids x.financial_id (plain f); schedule = pick ids x.schedule (plain s) } in
    ap (λ o. clearing_change known k (texts_change ids n i f s k (into_if ids Category (plain c) k o))) (words ids Description (λ y. y.description) (λ t y. record y { description = t }) is_description p k x)
    ∙ ap (λ o. clearing_change known k (texts_change ids n i f s k o)) (words ids Category (λ y. y.category) (λ t y. record y { category = t }) is_category (plain c) k a)
    ∙ ap (λ o. clearing_change known k o) (with_texts ids n i f s k b)
    ∙ is_cleared known k y h

-- ---- a record that matches

module _ (ids : Ids) (rows : Rows) (names : List Text) (id : Text) (x : TxRow) (d : Draft) where
  abbrev pub payee : Option WriteValue
  payee = missing x.description (payee_value names d)

  abbrev pub category : Option Text
  category = missing_category (takes_none rows id x) x.category d.row.category

  abbrev pub notes : Option Text
  notes = missing x.notes d.row.notes

  abbrev pub imported : Option Text
  imported = missing x.imported_description d.row.imported_description

  abbrev pub financial : Option Text
  financial = missing x.financial_id d.row.financial_id

  abbrev pub schedule : Option Text
  schedule = missing x.schedule d.row.schedule

  pub filling_changes : Changes ids (filling rows names id x d) id (rest_change ids payee category notes imported financial schedule x.cleared id)
  unfolding filling
  filling_changes =
      both ids _ (clearing (Given id) x.cleared) id _ _
      (both ids _ (texts_writes (Given id) notes imported financial schedule) id _ _
      (both ids (value_write (Given id) (codes "description") payee) (text_write (Given id) (codes "category") category) id _ _
      (one_if ids (Given id) Description payee) (one_if ids (Given id) Category (plain category)))
      (texts ids (Given id) notes imported financial schedule))
      (cleared ids (Given id) x.cleared)

  -- the transaction that a record filled
  abbrev pub row_filled : TxRow
  row_filled = filled_by ids x payee category notes imported financial schedule

  pub filled_row : rest_change ids payee category notes imported financial schedule x.cleared id (Some x) ≡ Some row_filled
  filled_row = rest_row ids payee category notes imported financial schedule x.cleared id x refl

-- ---- a record that makes a row

module _ (ids : Ids) (names : List Text) (at : ℕ) (d : Draft) where
  abbrev pub entry_change : Change
  entry_change o = into Amount (Number d.row.amount) (ids at) (into Date (day_or_null d.row.date) (ids at) (into Acct (text_or_null d.row.acct) (ids at) o))

  entry_changes : Changes ids (entry_writes (Made at) d.row) (ids at) entry_change
  entry_changes =
      both ids (_ ∷ _ ∷ []) (_ ∷ []) (ids at) _ _
      (both ids (_ ∷ []) (_ ∷ []) (ids at) _ _ (one ids (Made at) Acct (Plain (text_or_null d.row.acct))) (one ids (Made at) Date (Plain (day_or_null d.row.date))))
      (one ids (Made at) Amount (Plain (Number d.row.amount)))

  abbrev pub making_change : Change
  making_change o = rest_change ids (payee_value names d) d.row.category d.row.notes d.row.imported_description d.row.financial_id d.row.schedule false (ids at) (entry_change o)

  pub making_changes : Changes ids (making names at d) (ids at) making_change
  unfolding making
  making_changes =
      let row = Made at in
      both ids _ (clearing row false) (ids at) _ _
      (both ids _ (texts_writes row d.row.notes d.row.imported_description d.row.financial_id d.row.schedule) (ids at) _ _
      (both ids _ (text_write row (codes "category") d.row.category) (ids at) _ _
      (both ids (entry_writes row d.row) (value_write row (codes "description") (payee_value names d)) (ids at) _ _
      entry_changes (one_if ids row Description (payee_value names d)))
      (one_if ids row Category (plain d.row.category)))
      (texts ids row d.row.notes d.row.imported_description d.row.financial_id d.row.schedule))
      (cleared ids row false)

  abbrev pub begun : TxRow
  begun = record (blank (ids at)) { acct = text_of (text_or_null d.row.acct); date = day_of (day_or_null d.row.date); amount = d.row.amount }

  -- the transaction that a record made
  abbrev pub row_made : TxRow
  row_made = filled_by ids begun (payee_value names d) d.row.category d.row.notes d.row.imported_description d.row.financial_id d.row.schedule

  pub made_row : making_change None ≡ Some row_made
  made_row = rest_row ids (payee_value names d) d.row.category d.row.notes d.row.imported_description d.row.financial_id d.row.schedule false (ids at) begun refl
