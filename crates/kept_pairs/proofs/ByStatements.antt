-- Imports of statements leave pairs and splits right.
use Rattle.std.proofs.Common.{◌≡◌, ℕ, ◌+◌, Bool, true, false, List, [], ◌∷◌, ◌++◌, length, Option, Some, None, refl, sym, subst, codes}
use Rattle.std.specs.Prelude.{map as list_map}
use Rattle.std.specs.Option.{option_map}
use Rattle.std.specs.FinMap.{get}
use Rattle.std.proofs.lemmas.Bool.{eq-eqb}
use Rattle.finite_sums.specs.Maps.{Text}
use Rattle.field_values.specs.declared.value.Value.TheVariants.{Number, Text as IsText}
use Rattle.book_rows.specs.declared.rows.Rows.{Rows}
use Rattle.book_rows.specs.declared.rows.TxRow.{TxRow}
use Rattle.book_rows.specs.declared.write.RowName.{RowName}
use Rattle.book_rows.specs.declared.write.RowName.TheVariants.{Given, Made}
use Rattle.book_rows.specs.declared.write.WriteValue.{WriteValue}
use Rattle.book_rows.specs.declared.write.WriteValue.TheVariants.{Plain}
use Rattle.book_rows.specs.declared.write.Write.{Write}
use Rattle.book_rows.specs.Columns.{column_name}
use Rattle.book_edits.specs.Checks.{live_account}
use Rattle.book_edits.specs.Writing.{flag, text_or_null}
use Rattle.book_edits.proofs.Valid.{inside, passed}
use Rattle.split_transfer.specs.After.{Ids, makes}
use Rattle.split_transfer.specs.PlainEdits.{IsAdded}
use Rattle.split_transfer.specs.Writing.{day_or_null}
use Rattle.split_transfer.proofs.Basics.{either, or_left, or_right}
use Rattle.split_transfer.proofs.Columns.{TxColumn, Acct, Date, Amount, Description, Category, Notes, Cleared, Schedule}
use Rattle.bank_import.specs.Statement.{statement}
use Rattle.bank_import.specs.Matching.{matched}
use Rattle.bank_import.specs.Drafts.{draft_of, new_names}
use Rattle.bank_import.specs.Edits.{value_write, text_write, missing, payee_value, takes_none, missing_category, texts_writes, clearing, filling, entry_writes, making, filling_at, record_writes, payee_writes, records_writes, drafts_writes, entries_writes}
use Rattle.kept_pairs.specs.Kept.{StatementsKeepPairsAndSplits}
use Rattle.kept_pairs.proofs.Harmless.{IsPlain, AreHarmless, elsewhere, harmless_stays_right}
use Rattle.kept_pairs.proofs.Written.{payees, Imported, Financial, account, payee, category, notes, cleared, schedule, imported, financial, day, amount, into, tx_plain, tx_new, both, unless}

makes-append : (ws vs : List Write) (k : ℕ) → makes vs k ≡ true → makes (ws ++ vs) k ≡ true
makes-append [] vs k h = h
makes-append (w ∷ ws) vs k h = or_right _ _ (makes-append ws vs k h)

makes-first : (ws vs : List Write) (k : ℕ) → makes ws k ≡ true → makes (ws ++ vs) k ≡ true
makes-first [] vs k h = cc
makes-first (w ∷ ws) vs k h = either _ _ h (λ e. or_left _ _ e) (λ e. or_right _ _ (makes-first ws vs k e))

-- a row that a record makes is one that its writes make
makes_its_row : (names : List Text) (at : ℕ) (d : _) → makes (making names at d) at ≡ true
unfolding making
makes_its_row names at d = or_left _ _ (eq-eqb at at refl)

module _ (ids : Ids) (r : Rows) where
  value_harmless : (row : RowName) (c : TxColumn) (plain : IsPlain c) (o : Option WriteValue) → AreHarmless ids r (value_write row (column_name c.0) o)
  value_harmless row c plain None = tt
  value_harmless row c plain (Some value) = (tx_plain ids r row c value plain, tt)

  text_harmless : (row : RowName) (c : TxColumn) (plain : IsPlain c) (o : Option Text) → AreHarmless ids r (text_write row (column_name c.0) o)
  text_harmless row c plain o = value_harmless row c plain (option_map (λ t. Plain (IsText t)) o)

  texts_harmless : (row : RowName) (n i f s : Option Text) → AreHarmless ids r (texts_writes row n i f s)
  texts_harmless row n i f s =
      both ids r _ (text_write row (codes "schedule") s)
      (both ids r _ (text_write row (codes "financial_id") f)
      (both ids r (text_write row (codes "notes") n) (text_write row (codes "imported_description") i) (text_harmless row Notes notes n) (text_harmless row Imported imported i))
      (text_harmless row Financial financial f))
      (text_harmless row Schedule schedule s)

  clearing_harmless : (row : RowName) (known : Bool) → AreHarmless ids r (clearing row known)
  clearing_harmless row known = unless ids r known (into row Cleared (Plain (flag true))) (tx_plain ids r row Cleared (Plain (flag true)) cleared)

  filling_harmless : (names : List Text) (id : Text) (x : TxRow) (d : _) → AreHarmless ids r (filling r names id x d)
  unfolding filling
  filling_harmless names id x d =
      both ids r _ (clearing (Given id) x.cleared)
      (both ids r _ (texts_writes (Given id) (missing x.notes d.row.notes) (missing x.imported_description d.row.imported_description) (missing x.financial_id d.row.financial_id) (missing x.schedule d.row.schedule))
      (both ids r (value_write (Given id) (codes "description") (missing x.description (payee_value names d))) (text_write (Given id) (codes "category") (missing_category (takes_none r id x) x.category d.row.category))
      (value_harmless (Given id) Description payee (missing x.description (payee_value names d)))
      (text_harmless (Given id) Category category (missing_category (takes_none r id x) x.category d.row.category)))
      (texts_harmless (Given id) (missing x.notes d.row.notes) (missing x.imported_description d.row.imported_description) (missing x.financial_id d.row.financial_id) (missing x.schedule d.row.schedule)))
      (clearing_harmless (Given id) x.cleared)

  making_harmless : (names : List Text) (at : ℕ) (d : _) → get r.txs (ids at) ≡ None → AreHarmless ids r (making names at d)
  unfolding making
  making_harmless names at d none =
      both ids r (entry_writes (Made at) d.row ++ value_write (Made at) (codes "description") (payee_value names d) ++ text_write (Made at) (codes "category") d.row.category ++ texts_writes (Made at) d.row.notes d.row.imported_description d.row.financial_id d.row.schedule) (clearing (Made at) false)
      (both ids r (entry_writes (Made at) d.row ++ value_write (Made at) (codes "description") (payee_value names d) ++ text_write (Made at) (codes "category") d.row.category) (texts_writes (Made at) d.row.notes d.row.imported_description d.row.financial_id d.row.schedule)
      (both ids r (entry_writes (Made at) d.row ++ value_write (Made at) (codes "description") (payee_value names d)) (text_write (Made at) (codes "category") d.row.category)
      (both ids r (entry_writes (Made at) d.row) (value_write (Made at) (codes "description") (payee_value names d)) (
        tx_plain ids r (Made at) Acct (Plain (text_or_null d.row.acct)) account,
        (
          tx_new ids r (Made at) Date (Plain (day_or_null d.row.date)) day none,
          (
            tx_new ids r (Made at) Amount (Plain (Number d.row.amount)) amount none,
            tt,
          ),
        ),
      )
      (value_harmless (Made at) Description payee (payee_value names d)))
      (text_harmless (Made at) Category category d.row.category))
      (texts_harmless (Made at) d.row.notes d.row.imported_description d.row.financial_id d.row.schedule))
      (clearing_harmless (Made at) false)

  filling_at_harmless : (names : List Text) (id : Text) (d : _) (o : Option TxRow) → AreHarmless ids r (filling_at r names id d o)
  filling_at_harmless names id d None = tt
  filling_at_harmless names id d (Some x) = filling_harmless names id x d

  record_harmless : (names : List Text) (at : ℕ) (d : _) (m : Option Text) → ((k : ℕ) → makes (record_writes r names at d m) k ≡ true → get r.txs (ids k) ≡ None) → AreHarmless ids r (record_writes r names at d m)
  record_harmless names at d None new = making_harmless names at d (new at (makes_its_row names at d))
  record_harmless names at d (Some id) new = filling_at_harmless names id d (get r.txs id)

  records_harmless : (names : List Text) (at : ℕ) (ds : List _) (ms : List (Option Text)) → ((k : ℕ) → makes (records_writes r names at ds ms) k ≡ true → get r.txs (ids k) ≡ None) → AreHarmless ids r (records_writes r names at ds ms)
  records_harmless names at [] ms new = tt
  records_harmless names at (d ∷ ds) [] new = tt
  records_harmless names at (d ∷ ds) (m ∷ ms) new =
      let first = record_writes r names at d m in
      let rest = records_writes r names (at + length (record_writes r names at d m)) ds ms in
      both ids r first rest
      (record_harmless names at d m (λ k h. new k (makes-first first rest k h)))
      (records_harmless names (at + length (record_writes r names at d m)) ds ms (λ k h. new k (makes-append first rest k h)))

  payees_harmless : (at : ℕ) (names : List Text) → AreHarmless ids r (payee_writes at names)
  payees_harmless at [] = tt
  payees_harmless at (name ∷ names) = (elsewhere ids r _ payees, payees_harmless (at + 1) names)

  drafts_harmless : (acct : Text) (ds : List _) → IsAdded ids r (drafts_writes r acct ds) → AreHarmless ids r (drafts_writes r acct ds)
  drafts_harmless acct ds a =
      let first = payee_writes 0 (new_names ds) in
      let ms = matched r acct (list_map (λ d. d.row) ds) in
      let rest = records_writes r (new_names ds) (length (new_names ds)) ds ms in
      both ids r first rest (payees_harmless 0 (new_names ds))
      (records_harmless (new_names ds) (length (new_names ds)) ds ms (λ k h. a.new k (makes-append first rest k h)))

pub statements_keep : StatementsKeepPairsAndSplits
statements_keep r edit ws h ids a =
    let l = passed (live_account r edit.account) _ _ h in
    let es = passed (statement edit.statement) _ _ l.2 in
    let is : entries_writes r edit.account es.0 ≡ ws = inside _ _ es.2 in
    harmless_stays_right ids r ws (subst (AreHarmless ids r) is (drafts_harmless ids r edit.account (list_map (draft_of r edit.account) es.0) (subst (IsAdded ids r) (sym is) a))) a
