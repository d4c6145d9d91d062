use Rattle.std.proofs.Common.{◌-◌, sym, subst, arith}
use Rattle.field_values.specs.Names.{IsName}
use Rattle.book_rows.specs.declared.write.RowName.TheVariants.{Made}
use Rattle.book_rows.specs.Writes.{IsRowName}
use Rattle.device_core.proofs.Stamping.{row_named}
use Rattle.device_core.proofs.placing.field_at.Goals as goal

pub field_of-requires-in-Made : goal.field_of-requires-in-Made
field_of-requires-in-Made c =
    let first = c.args.first.now in
    let counter = c.requires.stamp.counter in
    let valid = c.requires.valid in
    let left = 65_536 - first.counter in
    record {
      dataset = valid.dataset;
      row = subst IsName (sym c.in_ok-id-in-Made.ensures) (row_named first left (Made c.in-Made.at) c.requires.stamp (omega (arith, counter)) (subst (IsRowName left) c.in-Made.is valid.row));
      column = valid.column;
    }
