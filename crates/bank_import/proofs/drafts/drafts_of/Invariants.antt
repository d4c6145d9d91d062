use Rattle.std.proofs.Common.{◌≡◌, ◌++◌, drop, map}
use Rattle.bank_import.specs.Drafts.{draft_of}
use Rattle.bank_import.proofs.drafts.drafts_of.Given as goal

abbrev pub invariant-loop-entry : goal.invariant-loop-entry
invariant-loop-entry l = l.drafts.items ++ map (draft_of l.book.rows l.account) (drop l.entry-index l.entries) ≡ map (draft_of l.book.rows l.account) l.entries
