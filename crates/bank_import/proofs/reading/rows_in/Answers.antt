use Rattle.std.proofs.Common.{ap, ◌∙◌, map}
use Rattle.csv.specs.Records.{fields_of}
use Rattle.csv.specs.Reading.{default_config, records, strip_bom}
use Rattle.csv.specs.declared.parser.State.TheVariants as st
use Rattle.bank_import.specs.Statement.{rows_in}
use Rattle.bank_import.proofs.Csv.{records_are}
use Rattle.bank_import.proofs.Utf8.{rows_text, strip_text}
use Rattle.bank_import.proofs.reading.rows_in.Goals as goal

pub returns-in-Ok-clause-rows : goal.returns-in-Ok-clause-rows
unfolding rows_in
returns-in-Ok-clause-rows c =
    records_are default_config (strip_bom c.bytes.result.now) (map fields_of c.in-Ok.rows.items) c.in-Ok.ensures
    ∙ ap (λ t. records default_config (strip_bom t)) c.bytes.ensures.value

pub returns-in-Ok-clause-texts : goal.returns-in-Ok-clause-texts
returns-in-Ok-clause-texts c =
    let h = c.in-Ok.ensures in
    rows_text (map fields_of c.in-Ok.rows.items) st.StartRecord (strip_bom c.bytes.result.now) h.0 h.1 tt (strip_text c.bytes.result.now c.bytes.ensures.utf8) h.2
