-- Commands that only read: they leave the state, and are answered.
use Rattle.std.proofs.Common.{◌≡◌, ℕ, [], sym, ap, ◌∙◌, subst, Result, Ok, Err, IfOk, OnOk}
use Rattle.device_core.specs.Device.{State, DeviceState}
use Rattle.device_core.specs.Accepting.{Brings}
use Rattle.command_lines.specs.declared.command.Command.{Command}
use Rattle.command_lines.specs.declared.command.Command.TheVariants.{Edit, Undo, Redo, Receive, Fields, Messages, Value, Trie, Balance, Register, Cell, Sheet, Broken, ScheduleStatus, Goals, TrackCell, TrackSheet, Sync}
use Rattle.command_lines.specs.declared.reply.Reply.{Reply}
use Rattle.command_lines.specs.Readings.{answer, IsReading}
use Rattle.budget_top.specs.Session.{obeyed}
use Rattle.budget_top.proofs.Obeying.{whether_ok}

-- such a command is obeyed so, with this reply
abbrev IsObeyed : State → Command → Reply → ℕ → Type 0
IsObeyed s command reply reading = obeyed s reading (Ok command) ≡ (s, reply)

replied : (s : State) (command : Command) (reply : Reply) → IsReading command → reply ≡ answer s.messages command → (reading : ℕ) → IsObeyed s command reply reading
replied s (Edit edit) reply h e reading = absurd h
replied s (Receive message) reply h e reading = absurd h
replied s Undo reply h e reading = absurd h
replied s Redo reply h e reading = absurd h
replied s Sync reply h e reading = absurd h
replied s Fields reply h e reading = ap (λ (r : Reply). (s, r)) (sym e)
replied s (Messages since) reply h e reading = ap (λ (r : Reply). (s, r)) (sym e)
replied s (Value dataset row column) reply h e reading = ap (λ (r : Reply). (s, r)) (sym e)
replied s Trie reply h e reading = ap (λ (r : Reply). (s, r)) (sym e)
replied s (Balance account) reply h e reading = ap (λ (r : Reply). (s, r)) (sym e)
replied s (Register account) reply h e reading = ap (λ (r : Reply). (s, r)) (sym e)
replied s (Cell month name) reply h e reading = ap (λ (r : Reply). (s, r)) (sym e)
replied s (Sheet month) reply h e reading = ap (λ (r : Reply). (s, r)) (sym e)
replied s Broken reply h e reading = ap (λ (r : Reply). (s, r)) (sym e)
replied s (ScheduleStatus id day) reply h e reading = ap (λ (r : Reply). (s, r)) (sym e)
replied s (Goals month) reply h e reading = ap (λ (r : Reply). (s, r)) (sym e)
replied s (TrackCell month name) reply h e reading = ap (λ (r : Reply). (s, r)) (sym e)
replied s (TrackSheet month) reply h e reading = ap (λ (r : Reply). (s, r)) (sym e)

reads_now : {E : Type 0} (s : State) (command : Command) (result : Result Reply E) → IsReading command → IfOk result (λ reply. reply ≡ answer s.messages command)
    → IfOk result (λ reply. (reading : ℕ) → obeyed s reading (Ok command) ≡ (s, reply))
reads_now s command (Ok reply) h e = replied s command reply h e
reads_now s command (Err fault) h e = tt

-- a device that is in the same state answers so
pub reads : {E : Type 0} (old new : State) (command : Command) (result : Result Reply E) → IsReading command → new ≡ old → IfOk result (λ reply. reply ≡ answer new.messages command)
    → IfOk result (λ reply. (reading : ℕ) → obeyed old reading (Ok command) ≡ (new, reply))
reads old new command result h same e =
    let P : State → Type 0 = λ s. IfOk result (λ reply. (reading : ℕ) → obeyed s reading (Ok command) ≡ (new, reply)) in
    subst P same (reads_now new command result h e)

-- and has brought nothing, where nothing is pending
pub brings_none : {T E : Type 0} (old new : DeviceState) (result : Result T E) → old.batch ≡ [] → new.batch ≡ old.batch → new.state ≡ old.state
    → OnOk result (Brings old.state.messages new)
brings_none old new result idle batch same =
    whether_ok (Brings old.state.messages new) result (record { news = []; batch = batch ∙ idle; messages = ap (λ (s : State). s.messages) same })

pub at_reading : {E : Type 0} (old new : State) (command : Command) (reading : ℕ) (result : Result Reply E) → IfOk result (λ reply. (at : ℕ) → obeyed old at (Ok command) ≡ (new, reply))
    → IfOk result (λ reply. obeyed old reading (Ok command) ≡ (new, reply))
at_reading old new command reading (Ok reply) h = h reading
at_reading old new command reading (Err fault) h = tt
