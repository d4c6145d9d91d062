-- Edits of rules, of schedules and of statements, and months that are filled by templates, leave pairs and splits right.
use Rattle.std.specs.Prelude.{◌≡◌, ℕ, List, Ok}
use Rattle.book_rows.specs.declared.rows.Rows.{Rows}
use Rattle.book_rows.specs.declared.write.Write.{Write}
use Rattle.split_transfer.specs.After.{Ids, with_writes}
use Rattle.split_transfer.specs.Right.{StayRight}
use Rattle.split_transfer.specs.PlainEdits.{IsAdded}
use Rattle.rule_engine.specs.declared.edit.RuleEdit.{RuleEdit}
use Rattle.rule_engine.specs.Edits.{rule_writes}
use Rattle.schedules.specs.declared.edit.ScheduleEdit.{ScheduleEdit}
use Rattle.schedules.specs.Edits.{schedule_writes}
use Rattle.bank_import.specs.declared.edit.ImportEdit.{ImportEdit}
use Rattle.bank_import.specs.Edits.{import_writes}
use Rattle.goal_templates.specs.Goals.{goal_writes}

-- after these writes each pair and each split that was right is right if it is still there, and so is each that they make, where the ids
-- of made rows are new, and no transaction names one that they add as what it is a part of
abbrev pub AreKept : Rows → List Write → Type 0
AreKept rows ws = (ids : Ids) → IsAdded ids rows ws → StayRight rows (with_writes ids rows ws)

abbrev pub RulesKeepPairsAndSplits : Type 0
RulesKeepPairsAndSplits = (rows : Rows) (edit : RuleEdit) (ws : List Write) → rule_writes rows edit ≡ Ok ws → AreKept rows ws

abbrev pub SchedulesKeepPairsAndSplits : Type 0
SchedulesKeepPairsAndSplits = (rows : Rows) (edit : ScheduleEdit) (ws : List Write) → schedule_writes rows edit ≡ Ok ws → AreKept rows ws

abbrev pub StatementsKeepPairsAndSplits : Type 0
StatementsKeepPairsAndSplits = (rows : Rows) (edit : ImportEdit) (ws : List Write) → import_writes rows edit ≡ Ok ws → AreKept rows ws

abbrev pub GoalsKeepPairsAndSplits : Type 0
GoalsKeepPairsAndSplits = (rows : Rows) (month : ℕ) (ws : List Write) → goal_writes rows month ≡ Ok ws → AreKept rows ws
