use Rattle.std.proofs.Common.{◌≡◌, [], drop}
use Rattle.std.specs.List.{fold}
use Rattle.bank_import.specs.declared.drafts.Draft.{Draft}
use Rattle.bank_import.specs.Drafts.{with_name}
use Rattle.bank_import.proofs.names.new_names.Given as goal

abbrev pub invariant-loop-draft : goal.invariant-loop-draft
invariant-loop-draft l =
    fold (λ names (d : Draft). with_name names d.wanted) l.names (drop l.draft-index l.drafts) ≡ fold (λ names (d : Draft). with_name names d.wanted) [] l.drafts
