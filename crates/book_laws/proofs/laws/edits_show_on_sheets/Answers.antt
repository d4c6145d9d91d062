use Rattle.book_laws.proofs.OnSheets.{shown}
use Rattle.book_laws.proofs.laws.edits_show_on_sheets.Goals as goal

pub returns : goal.returns
returns c = shown
