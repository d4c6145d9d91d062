use Rattle.std.proofs.Common.{◌≡◌, ◌++◌, filter, map as list_map}
use Rattle.std.specs.Prelude.{not}
use Rattle.finite_sums.specs.Maps.{keys_where}
use Rattle.book_rows.specs.declared.rows.CategoryMappingRow.{CategoryMappingRow}
use Rattle.book_rows.specs.Parts.{is_text}
use Rattle.book_edits.specs.Checks.{same_id}
use Rattle.book_edits.specs.Mappings.{mapped_to, category_mapped}
use Rattle.book_edits.proofs.mappings.categories_mapped.Given as goal

abbrev pub invariant-loop-other : goal.invariant-loop-other
invariant-loop-other l =
    l.writes.items ++ list_map (category_mapped l.to) (filter (λ other. not (same_id other l.id)) (keys_where (λ (m : CategoryMappingRow). is_text l.id m.transfer_id) l.other-iterator))
    ≡ list_map (category_mapped l.to) (mapped_to (λ (m : CategoryMappingRow). m.transfer_id) l.book.rows.category_mappings l.id)
