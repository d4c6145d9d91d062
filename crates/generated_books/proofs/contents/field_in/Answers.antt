use Rattle.std.proofs.Common.{ℕ, List, sym, ◌∙◌, subst, arith}
use Rattle.std.specs.Prelude.{codes}
use Rattle.field_values.specs.Names.{field_of, AreNames}
use Rattle.generated_books.proofs.Valid.{row_fields}
use Rattle.generated_books.proofs.contents.field_in.Goals as goal

pub field_of-requires : goal.field_of-requires
field_of-requires c =
    subst (λ (r : List ℕ). AreNames (field_of (codes "transactions") r c.args.column.now)) (sym (c.as_str.ensures.value ∙ c.in_ok-id.ensures))
    (row_fields c.args.number c.args.column.now (omega (arith, c.ranges.number)) c.requires)
