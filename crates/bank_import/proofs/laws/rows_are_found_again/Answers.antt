use Rattle.bank_import.proofs.Rows.{law_of_rows}
use Rattle.bank_import.proofs.laws.rows_are_found_again.Goals as goal

pub returns : goal.returns
returns c = law_of_rows
