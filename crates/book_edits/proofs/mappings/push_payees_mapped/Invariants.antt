use Rattle.std.proofs.Common.{◌≡◌, ◌++◌, filter, map as list_map}
use Rattle.std.specs.Prelude.{not}
use Rattle.finite_sums.specs.Maps.{keys_where}
use Rattle.book_rows.specs.declared.rows.PayeeMappingRow.{PayeeMappingRow}
use Rattle.book_rows.specs.Parts.{is_text}
use Rattle.book_edits.specs.Checks.{same_id}
use Rattle.book_edits.specs.Mappings.{mapped_to, payee_mapped}
use Rattle.book_edits.proofs.mappings.push_payees_mapped.Given as goal

abbrev pub invariant-loop-other : goal.invariant-loop-other
invariant-loop-other l =
    l.writes.items ++ list_map (payee_mapped l.to) (filter (λ other. not (same_id other l.id)) (keys_where (λ (m : PayeeMappingRow). is_text l.id m.target_id) l.other-iterator))
    ≡ l.initial.writes.items ++ list_map (payee_mapped l.to) (mapped_to (λ (m : PayeeMappingRow). m.target_id) l.book.rows.payee_mappings l.id)
