use Rattle.field_values.specs.declared.name.NamePart.TheVariants.{Dataset, Row, Column}
use Rattle.field_values.proofs.NameLemmas.{name_without_fault}
use Rattle.field_values.proofs.field.check_names.Goals as goal

pub returns-clause-valid : goal.returns-clause-valid
returns-clause-valid c = record {
  dataset = name_without_fault Dataset c.args.dataset.now (rw c.as_bytes.ensures.value at c.in_ok-check_name.ensures.good);
  row = name_without_fault Row c.args.row.now (rw c.as_bytes-2.ensures.value at c.in_ok-check_name-2.ensures.good);
  column = name_without_fault Column c.args.column.now (rw c.as_bytes-3.ensures.value at c.in_ok-check_name-3.ensures.good);
}
