-- A statement that comes again writes nothing.
use Rattle.std.proofs.Common.{◌≡◌, List, [], Option, Some, Ok, sym, ap, ◌∙◌, subst}
use Rattle.std.specs.Prelude.{not, map as list_map}
use Rattle.std.specs.FinMap.{get}
use Rattle.finite_sums.specs.Maps.{Text, some_and}
use Rattle.book_rows.specs.declared.rows.Rows.{Rows}
use Rattle.book_rows.specs.declared.rows.AccountRow.{AccountRow}
use Rattle.book_rows.specs.declared.write.Write.{Write}
use Rattle.book_edits.specs.Faults.{◌>>=◌, must}
use Rattle.book_rows.specs.declared.fault.EditFault.TheVariants.{NoSuchAccount}
use Rattle.book_edits.specs.Checks.{live_account}
use Rattle.book_edits.proofs.Valid.{inside, passed}
use Rattle.split_transfer.specs.After.{Ids, with_writes}
use Rattle.bank_import.specs.declared.edit.ImportEdit.{ImportEdit}
use Rattle.bank_import.specs.declared.entry.Entry.{Entry}
use Rattle.bank_import.specs.declared.drafts.Draft.{Draft}
use Rattle.bank_import.specs.Statement.{statement}
use Rattle.bank_import.specs.Matching.{facts_of, candidates, matched_among, matched}
use Rattle.bank_import.specs.Edits.{entries_writes, import_writes}
use Rattle.bank_import.specs.Rest.{AreFull, drafts_in, rows_in_drafts, facts_in}
use Rattle.bank_import.specs.Second.{IsAfter}
use Rattle.bank_import.specs.Twice.{AreNew, HaveOwn, AskNothingNew, IsFirstImport, LawOfImports}
use Rattle.bank_import.proofs.Listed.{law_of_candidates}
use Rattle.bank_import.proofs.Rows.{law_of_rows}
use Rattle.bank_import.proofs.Resting.{law_of_rest}
use Rattle.bank_import.proofs.Dated.{statement_dated}
use Rattle.bank_import.proofs.Untold.{leaves_payee}
use Rattle.bank_import.proofs.Settled.{ms, ws, later, later_else}
use Rattle.bank_import.proofs.Left.{own_ids, found_is, rs, ss, same_again, is_after, are_full, have_own, made_rise, drafts_are}

module _ (ids : Ids) (rows : Rows) (account : Text) (es : List Entry) (text : Text) (said : statement text ≡ Ok es) (new : AreNew ids rows (ws ids rows account es)) (own : HaveOwn rows account es)
    (asked : AskNothingNew ids rows account es (ws ids rows account es)) where
  abbrev next : Rows
  next = later ids rows account es

  found_again : matched_among (candidates next account) (ss ids rows account es) ≡ list_map (λ x. Some x) (own_ids ids rows account es)
  found_again =
      let dated = statement_dated text es said in
      law_of_rows (candidates rows account) (law_of_candidates.rise rows account) (rs ids rows account es) (ss ids rows account es) (same_again ids rows account es)
      (have_own ids rows account es new dated own) (own_ids ids rows account es) (made_rise ids rows account es new dated own) (candidates next account)
      (subst (λ (m : List (Option Text)). IsAfter (candidates rows account) (ss ids rows account es) m (own_ids ids rows account es) (candidates next account)) (found_is ids rows account es)
      (is_after ids rows account es new dated))

  matched_again : matched next account (rows_in_drafts (drafts_in next account es)) ≡ list_map (λ x. Some x) (own_ids ids rows account es)
  unfolding matched
  matched_again = ap (λ (d : List Draft). matched_among (candidates next account) (list_map (facts_of next) (rows_in_drafts d))) (drafts_are ids rows account es new asked) ∙ found_again

  -- what the first import left
  pub after_first : IsAfter (candidates rows account) (facts_in next account es) (ms ids rows account es) (own_ids ids rows account es) (candidates next account)
  after_first =
      subst (λ (d : List Draft). IsAfter (candidates rows account) (list_map (facts_of next) (rows_in_drafts d)) (ms ids rows account es) (own_ids ids rows account es) (candidates next account))
      (sym (drafts_are ids rows account es new asked)) (is_after ids rows account es new (statement_dated text es said))

  pub full_again : AreFull next (drafts_in next account es) (own_ids ids rows account es)
  full_again = subst (λ (d : List Draft). AreFull next d (own_ids ids rows account es)) (sym (drafts_are ids rows account es new asked)) (are_full ids rows account es new (statement_dated text es said))

  pub nothing_more : entries_writes next account es ≡ []
  nothing_more =
      law_of_rest.rests next account es (own_ids ids rows account es) matched_again full_again

-- what a first import tells of its writes
record Accepted (ids : Ids) (rows : Rows) (edit : ImportEdit) (es : List Entry) (ws' : List Write) : Type 0 where
  live : live_account rows edit.account ≡ Ok tt
  is : entries_writes rows edit.account es ≡ ws'
  new : AreNew ids rows (entries_writes rows edit.account es)
  asked : AskNothingNew ids rows edit.account es (entries_writes rows edit.account es)

accepted : (ids : Ids) (rows : Rows) (edit : ImportEdit) (es : List Entry) (ws' : List Write) → IsFirstImport ids rows edit es ws' → Accepted ids rows edit es ws'
accepted ids rows edit es ws' f =
    let p = passed (live_account rows edit.account) _ _ f.writes in
    let q = passed (statement edit.statement) _ _ p.2 in
    let same : q.0 ≡ es = inside q.0 es (sym q.1 ∙ f.said) in
    let is : entries_writes rows edit.account es ≡ ws' = ap (entries_writes rows edit.account) (sym same) ∙ inside _ _ q.2 in
    record {
      live = p.1;
      is = is;
      new = subst (λ (l : List Write). AreNew ids rows l) (sym is) f.new;
      asked = subst (λ (l : List Write). AskNothingNew ids rows edit.account es l) (sym is) f.asked;
    }

comes_again : (ids : Ids) (rows : Rows) (edit : ImportEdit) (es : List Entry) (ws' : List Write) → IsFirstImport ids rows edit es ws' → import_writes (with_writes ids rows ws') edit ≡ Ok []
comes_again ids rows edit es ws' f =
    let a = accepted ids rows edit es ws' f in
    let next : Rows = with_writes ids rows (entries_writes rows edit.account es) in
    let live : live_account next edit.account ≡ live_account rows edit.account =
    ap (λ m. must (some_and (λ (a : AccountRow). not a.tombstone) (get m edit.account)) (NoSuchAccount edit.account)) (later_else ids rows edit.account es).accounts in
    ap (λ (l : List Write). import_writes (with_writes ids rows l) edit) (sym a.is)
    ∙ ap (λ r. r >>= (λ _. statement edit.statement >>= (λ es. Ok (entries_writes next edit.account es)))) (live ∙ a.live)
    ∙ ap (λ r. r >>= (λ es. Ok (entries_writes next edit.account es))) f.said
    ∙ ap Ok (nothing_more ids rows edit.account es edit.statement f.said a.new f.own a.asked)

abbrev Leaves : Ids → Rows → Text → List Entry → List Write → Type 0
Leaves ids rows account es l = (os : List Text)
    × IsAfter (candidates rows account) (facts_in (with_writes ids rows l) account es) (matched rows account (rows_in_drafts (drafts_in rows account es))) os
    (candidates (with_writes ids rows l) account)
    × AreFull (with_writes ids rows l) (drafts_in (with_writes ids rows l) account es) os

leaves : (ids : Ids) (rows : Rows) (edit : ImportEdit) (es : List Entry) (ws' : List Write) → IsFirstImport ids rows edit es ws' → Leaves ids rows edit.account es ws'
leaves ids rows edit es ws' f =
    let a = accepted ids rows edit es ws' f in
    subst (Leaves ids rows edit.account es) a.is
    (own_ids ids rows edit.account es, after_first ids rows edit.account es edit.statement f.said a.new f.own a.asked, full_again ids rows edit.account es edit.statement f.said a.new f.own a.asked)

pub law_of_imports : LawOfImports
law_of_imports = record { again = comes_again; left = leaves; untold = leaves_payee }
