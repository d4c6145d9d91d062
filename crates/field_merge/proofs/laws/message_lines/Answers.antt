-- Each law is a lemma.
use Rattle.field_merge.proofs.BadEscapes.{bad_found}
use Rattle.field_merge.proofs.LineLemmas.{reading_of_line, reading_is_message, message_line_on_one_line}
use Rattle.field_merge.proofs.RawLines.{line_writes_back}
use Rattle.field_merge.proofs.StampLemmas.{stamp_text_escaped}
use Rattle.field_merge.proofs.laws.message_lines.Goals as goal

pub returns-clause-reads_back : goal.returns-clause-reads_back
returns-clause-reads_back c = reading_of_line

pub returns-clause-valid : goal.returns-clause-valid
returns-clause-valid c = reading_is_message

pub returns-clause-writes_back : goal.returns-clause-writes_back
returns-clause-writes_back c = line_writes_back

pub returns-clause-one_line : goal.returns-clause-one_line
returns-clause-one_line c = message_line_on_one_line

pub returns-clause-stamp : goal.returns-clause-stamp
returns-clause-stamp c = stamp_text_escaped

pub returns-clause-escape_place : goal.returns-clause-escape_place
returns-clause-escape_place c = bad_found
