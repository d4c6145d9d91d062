-- An import that writes nothing.
use Rattle.std.proofs.Common.{◌≡◌, ℕ, zero, suc, ◌+◌, Bool, List, [], ◌∷◌, ◌++◌, length, map, Option, None, Some, refl, ap, ◌∙◌}
use Rattle.std.specs.Prelude.{codes}
use Rattle.std.specs.List.{slice_get, fold}
use Rattle.std.specs.FinMap as finite
use Rattle.finite_sums.specs.Maps.{Text}
use Rattle.book_rows.specs.declared.rows.Rows.{Rows}
use Rattle.book_rows.specs.declared.rows.TxRow.{TxRow}
use Rattle.book_rows.specs.declared.write.RowName.TheVariants.{Given}
use Rattle.book_rows.specs.declared.write.WriteValue.{WriteValue}
use Rattle.book_rows.specs.declared.write.Write.{Write}
use Rattle.bank_import.specs.declared.entry.Entry.{Entry}
use Rattle.bank_import.specs.declared.drafts.Draft.{Draft}
use Rattle.bank_import.specs.Matching.{candidates, matched}
use Rattle.bank_import.specs.Drafts.{with_name, new_names}
use Rattle.bank_import.specs.Edits.{value_write, text_write, missing, takes_none, missing_category, texts_writes, clearing, filling, filling_at, payee_writes, records_writes, drafts_writes}
use Rattle.bank_import.specs.Rest.{IsFull, AreFull, drafts_in, rows_in_drafts, facts_in, IsAgain, LawOfRest}
use Rattle.bank_import.proofs.Listed.{law_of_candidates}
use Rattle.bank_import.proofs.Rows.{law_of_rows}

module _ (rows : Rows) (id : Text) (x : TxRow) (d : Draft) (f : IsFull rows id x d) where
  abbrev texts : Option Text → Option Text → Option Text → Option Text → List Write
  texts notes imported fid schedule = texts_writes (Given id) notes imported fid schedule

  no_texts : texts (missing x.notes d.row.notes) (missing x.imported_description d.row.imported_description) (missing x.financial_id d.row.financial_id) (missing x.schedule d.row.schedule) ≡ []
  no_texts =
      ap (λ o. texts o (missing x.imported_description d.row.imported_description) (missing x.financial_id d.row.financial_id) (missing x.schedule d.row.schedule)) f.notes
      ∙ ap (λ o. texts None o (missing x.financial_id d.row.financial_id) (missing x.schedule d.row.schedule)) f.imported
      ∙ ap (λ o. texts None None o (missing x.schedule d.row.schedule)) f.id_there
      ∙ ap (λ o. texts None None None o) f.schedule

  abbrev whole : Option WriteValue → Option Text → List Write → Bool → List Write
  whole payee category ts known = value_write (Given id) (codes "description") payee ++ text_write (Given id) (codes "category") category ++ ts ++ clearing (Given id) known

  nothing : filling rows [] id x d ≡ []
  unfolding filling
  nothing =
      let ts = texts (missing x.notes d.row.notes) (missing x.imported_description d.row.imported_description) (missing x.financial_id d.row.financial_id) (missing x.schedule d.row.schedule) in
      ap (λ o. whole o (missing_category (takes_none rows id x) x.category d.row.category) ts x.cleared) f.payee
      ∙ ap (λ o. whole None o ts x.cleared) f.category
      ∙ ap (λ l. whole None None l x.cleared) no_texts
      ∙ ap (λ b. whole None None [] b) f.cleared

-- ---- all records

abbrev NothingOf : Rows → List Draft → List Text → Type 0
NothingOf rows ds os = (i : ℕ) (d : Draft) (o : Text) → slice_get ds i ≡ Some d → slice_get os i ≡ Some o → filling_at rows [] o d (finite.get rows.txs o) ≡ []

no_records : (rows : Rows) (at : ℕ) (ds : List Draft) (os : List Text) → NothingOf rows ds os → records_writes rows [] at ds (map (λ x. Some x) os) ≡ []
no_records rows at [] os h = refl
no_records rows at (d ∷ ds) [] h = refl
no_records rows at (d ∷ ds) (o ∷ os) h =
    ap (λ ws. ws ++ records_writes rows [] (at + length ws) ds (map (λ x. Some x) os)) (h zero d o refl refl)
    ∙ no_records rows (at + 0) ds os (λ i e q a b. h (suc i) e q a b)

no_names : (ds : List Draft) → ((i : ℕ) (d : Draft) → slice_get ds i ≡ Some d → d.wanted ≡ None) → fold (λ names (d : Draft). with_name names d.wanted) [] ds ≡ []
no_names [] h = refl
no_names (d ∷ ds) h = ap (λ w. fold (λ names (d : Draft). with_name names d.wanted) (with_name [] w) ds) (h zero d refl) ∙ no_names ds (λ i e a. h (suc i) e a)

none_made : (ds : List Draft) → ((i : ℕ) (d : Draft) → slice_get ds i ≡ Some d → d.wanted ≡ None) → new_names ds ≡ []
unfolding new_names
none_made ds h = no_names ds h

each_nothing : (rows : Rows) (ds : List Draft) (os : List Text) → AreFull rows ds os → NothingOf rows ds os
each_nothing rows ds os f i d o a b =
    let w = f.full i d o a b in
    ap (filling_at rows [] o d) w.1 ∙ nothing rows o w.0 d w.2

rests : (rows : Rows) (account : Text) (ds : List Draft) (os : List Text) → matched rows account (rows_in_drafts ds) ≡ map (λ x. Some x) os → AreFull rows ds os → drafts_writes rows account ds ≡ []
rests rows account ds os m f =
    ap (λ names. payee_writes 0 names ++ records_writes rows names (length names) ds (matched rows account (rows_in_drafts ds))) (none_made ds f.named)
    ∙ ap (records_writes rows [] 0 ds) m
    ∙ no_records rows 0 ds os (each_nothing rows ds os f)

again_matched : (rows later : Rows) (account : Text) (es : List Entry) (os : List Text) → IsAgain rows later account es os → matched later account (rows_in_drafts (drafts_in later account es)) ≡ map (λ x. Some x) os
unfolding matched
again_matched rows later account es os a =
    law_of_rows (candidates rows account) (law_of_candidates.rise rows account) (facts_in rows account es) (facts_in later account es) a.same a.own os a.rise (candidates later account) a.after

pub law_of_rest : LawOfRest
law_of_rest = record {
  rests = λ rows account es os m f. rests rows account (drafts_in rows account es) os m f;
  again = λ rows later account es os a. rests later account (drafts_in later account es) os (again_matched rows later account es os a) a.full;
}
