use Rattle.std.proofs.Common.{◌≡◌, ◌++◌, List, Option, length, map, ap, ◌∙◌}
use Rattle.finite_sums.specs.Maps.{Text}
use Rattle.book_rows.specs.declared.write.Write.{Write}
use Rattle.bank_import.specs.declared.drafts.Draft.{Draft}
use Rattle.bank_import.specs.declared.facts.Facts.{Facts}
use Rattle.bank_import.specs.Matching.{facts_of, candidates, matched_among, matched}
use Rattle.bank_import.specs.Drafts.{new_names}
use Rattle.bank_import.specs.Edits.{payee_writes, records_writes}
use Rattle.bank_import.proofs.Written.{payees_length}
use Rattle.bank_import.proofs.making.drafts_writes.Goals as goal

pub returns : goal.returns
unfolding matched
returns c =
    let rows = c.args.book.now.rows in
    let account = c.args.account.now in
    let ds = c.args.drafts.now in
    let xs = map (λ (d : Draft). d.row) ds in
    let all = new_names ds in
    let names : c.in_ok-names.names ≡ all = c.in_ok-names.ensures in
    let facts : c.as_slice.result.now ≡ map (facts_of rows) xs = c.as_slice.ensures.value ∙ c.in_ok-facts.ensures in
    let found : c.as_slice-3.result.now ≡ matched rows account xs =
    c.as_slice-3.ensures.value ∙ c.in_ok-found.ensures.found ∙ ap (λ (fs : List Facts). matched_among (candidates rows account) fs) facts in
    let payees : c.in_ok-writes.writes.items ≡ payee_writes 0 all = c.in_ok-writes.ensures ∙ ap (λ (ns : List Text). payee_writes 0 ns) (c.as_slice-2.ensures ∙ names) in
    c.in_ok-push_records.ensures
    ∙ ap (λ (ws : List Write). ws ++ records_writes rows c.in_ok-names.names (length ws) ds c.as_slice-3.result.now) payees
    ∙ ap (λ (ns : List Text). payee_writes 0 all ++ records_writes rows ns (length (payee_writes 0 all)) ds c.as_slice-3.result.now) names
    ∙ ap (λ (ms : List (Option Text)). payee_writes 0 all ++ records_writes rows all (length (payee_writes 0 all)) ds ms) found
    ∙ ap (λ n. payee_writes 0 all ++ records_writes rows all n ds (matched rows account xs)) (payees_length 0 all)
