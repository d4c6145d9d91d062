use Rattle.std.proofs.Common.{◌≡◌, ◌++◌, drop, map}
use Rattle.bank_import.specs.declared.drafts.Draft.{Draft}
use Rattle.bank_import.specs.Matching.{facts_of}
use Rattle.bank_import.proofs.drafts.facts_of_drafts.Given as goal

abbrev pub invariant-loop-draft : goal.invariant-loop-draft
invariant-loop-draft l =
    l.found.items ++ map (facts_of l.book.rows) (map (λ (d : Draft). d.row) (drop l.draft-index l.drafts)) ≡ map (facts_of l.book.rows) (map (λ (d : Draft). d.row) l.drafts)
