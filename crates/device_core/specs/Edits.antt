-- Edits, and the writes that they make.
use Rattle.std.specs.Prelude.{List, Result}
use Rattle.book_rows.specs.declared.fault.EditFault.{EditFault}
use Rattle.book_rows.specs.Faults.{TellsId}
use Rattle.book_rows.specs.declared.rows.Rows.{Rows}
use Rattle.book_rows.specs.declared.write.Write.{Write}
use Rattle.book_edits.specs.Edits.{book_writes, IsBookEdit, MayWantMemory as MayWantForBook}
use Rattle.split_transfer.specs.Edits.{pair_writes}
use Rattle.rule_engine.specs.Edits.{rule_writes}
use Rattle.schedules.specs.Edits.{schedule_writes}
use Rattle.bank_import.specs.Edits.{import_writes}
use Rattle.goal_templates.specs.Goals.{goal_writes}
use Rattle.device_core.specs.declared.edit.Edit.{Edit}
use Rattle.device_core.specs.declared.edit.Edit.TheVariants.{Book, Pair, Rule, Schedule, Import, GoalsApply}
use Rattle.device_core.specs.declared.edit.LineRefusal.{LineRefusal}
use Rattle.device_core.specs.declared.edit.LineRefusal.TheVariants.{Edit as OfEdit}

-- the writes of an edit in a book of these rows, in the order in which they are made, or why it is refused
abbrev pub writes_of : Rows → Edit → Result (List Write) EditFault
writes_of rows (Book edit) = book_writes rows edit
writes_of rows (Pair edit) = pair_writes rows edit
writes_of rows (Rule edit) = rule_writes rows edit
writes_of rows (Schedule edit) = schedule_writes rows edit
writes_of rows (Import edit) = import_writes rows edit
writes_of rows (GoalsApply month) = goal_writes rows month

-- the values of an edit are valid
abbrev pub IsEdit : Edit → Type 0
IsEdit (Book edit) = IsBookEdit edit
IsEdit (Pair edit) = Unit {0}
IsEdit (Rule edit) = Unit {0}
IsEdit (Schedule edit) = Unit {0}
IsEdit (Import edit) = Unit {0}
IsEdit (GoalsApply month) = Unit {0}

-- memory may be wanted before the edit is answered
abbrev pub MayWantMemory : Edit → Type 0
MayWantMemory (Book edit) = MayWantForBook edit
MayWantMemory (Pair edit) = Unit {0}
MayWantMemory (Rule edit) = Unit {0}
MayWantMemory (Schedule edit) = Unit {0}
MayWantMemory (Import edit) = Unit {0}
MayWantMemory (GoalsApply month) = Unit {0}

-- the refusal tells an id
abbrev pub RefusesId : LineRefusal → Type 0
RefusesId (OfEdit fault) = TellsId fault
RefusesId refusal = ⊥
