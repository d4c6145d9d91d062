-- How imports of statements are refused.
use Rattle.std.proofs.Common.{◌≡◌, ℕ, Bool, true, false, cond, List, [], ◌∷◌, length, Option, Some, None, Result, Ok, Err, refl, sym, ap, ◌∙◌, inl, inr, ◌⊎◌, ⊎_elim, codes}
use Rattle.std.specs.Prelude.{◌↔◌}
use Rattle.finite_sums.specs.Maps.{Text}
use Rattle.book_rows.specs.declared.rows.Rows.{Rows}
use Rattle.book_rows.specs.declared.write.Write.{Write}
use Rattle.book_rows.specs.declared.fault.EditFault.{EditFault}
use Rattle.book_rows.specs.declared.fault.EditFault.TheVariants.{NoSuchAccount}
use Rattle.book_rows.specs.Live.{is_live_account}
use Rattle.book_edits.specs.Faults.{◌>>=◌, must}
use Rattle.bank_import.specs.declared.edit.ImportEdit.{ImportEdit}
use Rattle.bank_import.specs.declared.entry.Entry.{Entry}
use Rattle.bank_import.specs.Statement.{column_of, bad_place, read_rows, rows_in, statement}
use Rattle.bank_import.specs.Read.{IsColumn}
use Rattle.bank_import.specs.Edits.{entries_writes, import_writes}
use Rattle.bank_import.proofs.Read.{law_of_reading}
use Rattle.kept_pairs.specs.Judged.{AreStatement, Lacks, IsNoStatement, IsImportRefused, ImportsAreJudged}

err_is : {A : Type 0} (f g : EditFault) → ◌≡◌ {A = Result A EditFault} (Err f) (Err g) → f ≡ g
err_is f g h = cc

err_ok : {A P : Type 0} (f : EditFault) (a : A) → ◌≡◌ {A = Result A EditFault} (Err f) (Ok a) → P
err_ok {A = A} f a h = absurd (clash h)
  where
    clash : ◌≡◌ {A = Result A EditFault} (Err f) (Ok a) → ⊥
    clash h = cc

none_some : {X P : Type 0} (x : X) → None ≡ Some x → P
none_some x h = absurd (clash h)
  where
    clash : None ≡ Some x → ⊥
    clash h = cc

-- ---- rows of fields

-- where a column is, or that there is none
column : (name : Text) (header : List Text) → ((k : ℕ) × IsColumn name header k) ⊎ Lacks header name
column name header = by (column_of name header) refl
  where
    by : (o : Option ℕ) → column_of name header ≡ o → ((k : ℕ) × IsColumn name header k) ⊎ Lacks header name
    by None e = inr (λ k is. none_some k (sym e ∙ (law_of_reading.column name header k).1 is))
    by (Some k) e = inl (k, (law_of_reading.column name header k).0 e)

pub says : (rows : List (List Text)) (es : List Entry) → (read_rows rows ≡ Ok es) ↔ AreStatement rows es
says [] es = (λ h. err_ok (bad_place 0 0) es h, λ w. absurd w)
says (header ∷ records) es = (
  λ h. ⊎_elim
      (λ d. ⊎_elim
      (λ a. (d.0, a.0, d.1, a.1, (law_of_reading.read header d.0 a.0 records es d.1 a.1).0 h))
      (λ lack. err_ok (bad_place 0 (length header)) es (sym (law_of_reading.header header records (inr lack)) ∙ h))
      (column (codes "amount") header))
      (λ lack. err_ok (bad_place 0 (length header)) es (sym (law_of_reading.header header records (inl lack)) ∙ h))
      (column (codes "date") header),
  λ w. (law_of_reading.read header w.0 w.1 records es w.2 w.3).1 w.4,
)

tells : (rows : List (List Text)) (fault : EditFault) → (read_rows rows ≡ Err fault) ↔ IsNoStatement rows fault
tells [] fault = (λ h. sym (err_is (bad_place 0 0) fault h), λ e. ap Err (sym e))
tells (header ∷ records) fault = (
  λ h. ⊎_elim
      (λ d. ⊎_elim
      (λ a. inr (d.0, a.0, d.1, a.1, (law_of_reading.refused header d.0 a.0 records fault d.1 a.1).0 h))
      (λ lack. inl (inr lack, lacks (inr lack) h))
      (column (codes "amount") header))
      (λ lack. inl (inl lack, lacks (inl lack) h))
      (column (codes "date") header),
  λ w. ⊎_elim
      (λ l. law_of_reading.header header records l.0 ∙ ap Err (sym l.1))
      (λ r. (law_of_reading.refused header r.0 r.1 records fault r.2 r.3).1 r.4) w,
)
  where
    lacks : (Lacks header (codes "date") ⊎ Lacks header (codes "amount")) → read_rows (header ∷ records) ≡ Err fault → fault ≡ bad_place 0 (length header)
    lacks lack h = sym (err_is (bad_place 0 (length header)) fault (sym (law_of_reading.header header records lack) ∙ h))

-- ---- imports

pub reads : (text : Text) → statement text ≡ read_rows (rows_in text)
unfolding statement
reads text = refl

module _ (rows : Rows) (edit : ImportEdit) where
  abbrev rest : Result (List Entry) EditFault → Result (List Write) EditFault
  rest r = r >>= (λ es. Ok (entries_writes rows edit.account es))

  rest_err : (r : Result (List Entry) EditFault) (fault : EditFault) → rest r ≡ Err fault → r ≡ Err fault
  rest_err (Ok es) fault h = err_ok fault (entries_writes rows edit.account es) (sym h)
  rest_err (Err f) fault h = ap Err (err_is f fault h)

  rest_ok : (r : Result (List Entry) EditFault) (ws : List Write) → rest r ≡ Ok ws → (es : List Entry) × (r ≡ Ok es)
  rest_ok (Ok es) ws h = (es, refl)
  rest_ok (Err f) ws h = err_ok f ws h

  -- what follows where the account is live, and where it is not
  where_live : (b : Bool) → is_live_account rows edit.account ≡ b → import_writes rows edit ≡ cond b (rest (read_rows (rows_in edit.statement))) (Err (NoSuchAccount edit.account))
  where_live true e = ap (λ b. must b (NoSuchAccount edit.account) >>= (λ _. rest (statement edit.statement))) e ∙ ap rest (reads edit.statement)
  where_live false e = ap (λ b. must b (NoSuchAccount edit.account) >>= (λ _. rest (statement edit.statement))) e

  two_ways : (b : Bool) → b ≡ true → b ≡ false → ⊥
  two_ways b t f = clash (sym t ∙ f)
    where
      clash : true ≡ false → ⊥
      clash h = cc

  refused : (b : Bool) → is_live_account rows edit.account ≡ b → (fault : EditFault) → (import_writes rows edit ≡ Err fault) ↔ IsImportRefused rows edit fault
  refused true e fault = (
    λ h. inr (e, (tells (rows_in edit.statement) fault).0 (rest_err (read_rows (rows_in edit.statement)) fault (sym (where_live true e) ∙ h))),
    λ w. ⊎_elim
        (λ n. absurd (two_ways (is_live_account rows edit.account) e n.0))
        (λ s. where_live true e ∙ ap rest ((tells (rows_in edit.statement) fault).1 s.1)) w,
  )
  refused false e fault = (
    λ h. inl (e, sym (err_is (NoSuchAccount edit.account) fault (sym (where_live false e) ∙ h))),
    λ w. ⊎_elim
        (λ n. where_live false e ∙ ap Err (sym n.1))
        (λ s. absurd (two_ways (is_live_account rows edit.account) s.0 e)) w,
  )

  accepted : (b : Bool) → is_live_account rows edit.account ≡ b
      → ((ws : List Write) × (import_writes rows edit ≡ Ok ws)) ↔ ((is_live_account rows edit.account ≡ true) × ((es : List Entry) × AreStatement (rows_in edit.statement) es))
  accepted true e = (
    λ w. let r = rest_ok (read_rows (rows_in edit.statement)) w.0 (sym (where_live true e) ∙ w.1) in (e, (r.0, (says (rows_in edit.statement) r.0).0 r.1)),
    λ w. (entries_writes rows edit.account w.1.0, where_live true e ∙ ap rest ((says (rows_in edit.statement) w.1.0).1 w.1.1)),
  )
  accepted false e = (
    λ w. err_ok (NoSuchAccount edit.account) w.0 (sym (where_live false e) ∙ w.1),
    λ w. absurd (two_ways (is_live_account rows edit.account) w.0 e),
  )

pub imports_are_judged : (rows : Rows) (edit : ImportEdit) → ImportsAreJudged rows edit
imports_are_judged rows edit = record {
  refused = λ fault. refused rows edit (is_live_account rows edit.account) refl fault;
  accepted = accepted rows edit (is_live_account rows edit.account) refl;
}
