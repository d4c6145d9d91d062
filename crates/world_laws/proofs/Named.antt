-- How the line of a device within a line of a world is named.
use Rattle.std.proofs.Common.{◌≡◌, ℕ, Bool, true, false, List, [], ◌∷◌, map, drop, slice_get, Some, refl, sym, ap, ◌∙◌}
use Rattle.field_merge.specs.Escapes.{escaped}
use Rattle.field_merge.specs.Lines.{parts}
use Rattle.field_merge.specs.Messages.{line_of_texts}
use Rattle.device_core.specs.declared.edit.Edit.TheVariants.{Book, Pair, Rule, Schedule, Import, GoalsApply}
use Rattle.book_edits.specs.declared.edit.BookEdit.{BookEdit}
use Rattle.book_edits.specs.declared.edit.BookEdit.TheVariants as books
use Rattle.split_transfer.specs.declared.edit.PairEdit.{PairEdit}
use Rattle.split_transfer.specs.declared.edit.PairEdit.TheVariants as pairs
use Rattle.rule_engine.specs.declared.edit.RuleEdit.{RuleEdit}
use Rattle.rule_engine.specs.declared.edit.RuleEdit.TheVariants as rules
use Rattle.schedules.specs.declared.edit.ScheduleEdit.{ScheduleEdit}
use Rattle.schedules.specs.declared.edit.ScheduleEdit.TheVariants as schedules
use Rattle.command_lines.specs.declared.command.Command.{Command}
use Rattle.command_lines.specs.declared.command.Command.TheVariants as commands
use Rattle.command_lines.specs.Commands.{IsCommand}
use Rattle.command_lines.specs.Readings.{IsReading}
use Rattle.command_lines.specs.Written.{command_texts, command_line}
use Rattle.sync_world.specs.declared.event.WorldEdit.{WorldEdit}
use Rattle.sync_world.specs.declared.event.WorldEdit.TheVariants as edits
use Rattle.world_lines.specs.Lines.{is_barred, is_wanted}
use Rattle.world_laws.specs.Said.{own_command}
use Rattle.world_laws.proofs.Texts.{parts_written}

abbrev first : List (List ℕ) → List ℕ
first [] = []
first (text ∷ texts) = text

-- the name of a device's line
abbrev pub name_of : Command → List ℕ
name_of c = first (command_texts c)

-- it has a name, which a device of a world takes, and which is one of the wanted kind
pub record IsNamed (reads : Bool) (c : Command) : Type 0 where
  pub texts : command_texts c ≡ name_of c ∷ drop 1 (command_texts c)
  pub free : is_barred (escaped (name_of c)) ≡ false
  pub wanted : is_wanted reads (escaped (name_of c)) ≡ true

book_named : (e : BookEdit) → IsNamed false (commands.Edit (Book e))
book_named (books.AccountReopen id) = record { texts = refl; free = refl; wanted = refl }
book_named other = record { texts = refl; free = refl; wanted = refl }

pair_named : (e : PairEdit) → IsNamed false (commands.Edit (Pair e))
pair_named (pairs.TxDelete id) = record { texts = refl; free = refl; wanted = refl }
pair_named other = record { texts = refl; free = refl; wanted = refl }

rule_named : (e : RuleEdit) → IsNamed false (commands.Edit (Rule e))
rule_named (rules.RuleDelete id) = record { texts = refl; free = refl; wanted = refl }
rule_named other = record { texts = refl; free = refl; wanted = refl }

schedule_named : (e : ScheduleEdit) → IsNamed false (commands.Edit (Schedule e))
schedule_named (schedules.Skip id) = record { texts = refl; free = refl; wanted = refl }
schedule_named other = record { texts = refl; free = refl; wanted = refl }

-- so is the line of each edit, and of an undo and a redo
pub edit_named : (e : WorldEdit) → IsNamed false (own_command e)
edit_named (edits.Line (Book e)) = book_named e
edit_named (edits.Line (Pair e)) = pair_named e
edit_named (edits.Line (Rule e)) = rule_named e
edit_named (edits.Line (Schedule e)) = schedule_named e
edit_named (edits.Line (Import e)) = record { texts = refl; free = refl; wanted = refl }
edit_named (edits.Line (GoalsApply month)) = record { texts = refl; free = refl; wanted = refl }
edit_named edits.Undo = record { texts = refl; free = refl; wanted = refl }
edit_named edits.Redo = record { texts = refl; free = refl; wanted = refl }

-- and of each command that only reads
pub question_named : (c : Command) → IsReading c → IsNamed true c
question_named (commands.Edit e) is = absurd is
question_named commands.Undo is = absurd is
question_named commands.Redo is = absurd is
question_named (commands.Receive message) is = absurd is
question_named commands.Sync is = absurd is
question_named other is = record { texts = refl; free = refl; wanted = refl }

pub question_valid : (c : Command) → IsReading c → IsCommand c
question_valid (commands.Edit e) is = absurd is
question_valid (commands.Receive message) is = absurd is
question_valid other is = tt

-- its words
pub own_parts : (reads : Bool) (c : Command) → IsNamed reads c → parts (command_line c) ≡ map escaped (command_texts c)
own_parts reads c named =
    ap (λ (ts : List (List ℕ)). parts (line_of_texts ts)) named.texts
    ∙ parts_written (name_of c) (drop 1 (command_texts c))
    ∙ ap (map escaped) (sym named.texts)

pub own_name : (reads : Bool) (c : Command) → IsNamed reads c → slice_get (map escaped (command_texts c)) 0 ≡ Some (escaped (name_of c))
own_name reads c named = ap (λ (ts : List (List ℕ)). slice_get (map escaped ts) 0) named.texts
