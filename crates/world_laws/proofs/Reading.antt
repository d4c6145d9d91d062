-- The line of a command of a world is read as the command.
use Rattle.std.proofs.Common.{◌≡◌, ℕ, ◌^◌, ◌<◌, ◌≤◌, Bool, true, false, List, [], ◌∷◌, length, map, drop, slice_get, codes, Some, Result, Ok, refl, sym, ap, ◌∙◌, le_trans}
use Rattle.std.specs.Prelude.{if◌then◌else◌}
use Rattle.std.specs.Fmt.{decimal}
use Rattle.field_merge.specs.Escapes.{escaped}
use Rattle.field_merge.specs.Lines.{parts}
use Rattle.command_lines.specs.declared.command.Command.{Command}
use Rattle.command_lines.specs.declared.command.Command.TheVariants as commands
use Rattle.command_lines.specs.declared.command.CommandFault.{CommandFault}
use Rattle.command_lines.specs.Commands.{longest_line, IsCommand}
use Rattle.command_lines.specs.Readings.{IsReading}
use Rattle.command_lines.specs.Replies.{faulty}
use Rattle.command_lines.specs.Written.{flag_text, command_texts, command_line, CanBeWritten, CommandsReadBack}
use Rattle.sync_world.specs.declared.event.Event.TheVariants as events
use Rattle.sync_world.specs.declared.event.WorldEdit.{WorldEdit}
use Rattle.sync_world.specs.declared.event.WorldEdit.TheVariants as edits
use Rattle.sync_world.specs.Members.{IsWorldEdit}
use Rattle.world_lines.specs.declared.command.WorldCommand.{WorldCommand}
use Rattle.world_lines.specs.declared.command.WorldCommand.TheVariants.{Happens, Show, Equal}
use Rattle.world_lines.specs.Words.{◌>>=◌, number_at, long_number_at, flag_at, text_at}
use Rattle.world_lines.specs.Lines.{only, command_at, edit_of, edit_at, question_of, question_at, world_command, IsWorldCommand}
use Rattle.world_lines.specs.Session.{with_words, obeyed_if_read}
use Rattle.world_lines.proofs.Behind.{placed_ok}
use Rattle.world_lines.proofs.WordAt.{reads_behind}
use Rattle.world_lines.proofs.Weights.{no_longer}
use Rattle.world_laws.specs.Said.{own_command, world_texts, world_line, CanBeSaid, IsReadBack, WorldLinesReadBack}
use Rattle.world_laws.proofs.Texts.{not_long, parts_written, next_of, number_is, long_number_is, flag_is, text_is}
use Rattle.world_laws.proofs.Named.{IsNamed, name_of, edit_named, question_named, question_valid, own_parts, own_name}

-- a line that is not too long, and its words
pub record Cut (line : List ℕ) (words : List (List ℕ)) : Type 0 where
  pub cut : parts line ≡ words
  pub short : length line ≤ longest_line

-- ---- a device's line behind other words

own_read : CommandsReadBack → (line : List ℕ) (words : List (List ℕ)) (index : ℕ) (reads : Bool) (c : Command) → Cut line words → drop index words ≡ map escaped (command_texts c)
    → slice_get words index ≡ Some (escaped (name_of c)) → IsNamed reads c → IsCommand c → CanBeWritten c → command_at words index reads ≡ Ok c
own_read back line words index reads c is behind at named valid can =
    let same : parts (command_line c) ≡ drop index words = own_parts reads c named ∙ sym behind in
    let within : length (command_line c) ≤ length line = no_longer index line (command_line c) (same ∙ ap (drop index) (sym is.cut)) in
    let short : length (command_line c) ≤ longest_line = le_trans within is.short in
    reads_behind words index reads (escaped (name_of c)) (command_line c) (Ok c) at named.free named.wanted same
    (placed_ok index (command_line c) (command_line c) c refl short (back c valid can short))

own_edit : (index : ℕ) (e : WorldEdit) → edit_of index (own_command e) ≡ Ok e
own_edit index (edits.Line e) = refl
own_edit index edits.Undo = refl
own_edit index edits.Redo = refl

valid_edit : (e : WorldEdit) → IsWorldEdit e → IsCommand (own_command e)
valid_edit (edits.Line e) is = is
valid_edit edits.Undo is = tt
valid_edit edits.Redo is = tt

own_question : (index : ℕ) (c : Command) → IsReading c → question_of index c ≡ Ok c
own_question index (commands.Edit e) is = absurd is
own_question index commands.Undo is = absurd is
own_question index commands.Redo is = absurd is
own_question index (commands.Receive message) is = absurd is
own_question index commands.Sync is = absurd is
own_question index other is = refl

edit_read : CommandsReadBack → (line : List ℕ) (words : List (List ℕ)) (index : ℕ) (e : WorldEdit) → Cut line words → drop index words ≡ map escaped (command_texts (own_command e))
    → slice_get words index ≡ Some (escaped (name_of (own_command e))) → IsWorldEdit e → CanBeWritten (own_command e) → edit_at words index ≡ Ok e
edit_read back line words index e is behind at valid can =
    next_of (command_at words index false) (own_command e) (edit_of index) (own_read back line words index false (own_command e) is behind at (edit_named e) (valid_edit e valid) can)
    ∙ own_edit index e

question_read : CommandsReadBack → (line : List ℕ) (words : List (List ℕ)) (index : ℕ) (c : Command) → Cut line words → drop index words ≡ map escaped (command_texts c)
    → slice_get words index ≡ Some (escaped (name_of c)) → IsReading c → CanBeWritten c → question_at words index ≡ Ok c
question_read back line words index c is behind at reading can =
    next_of (command_at words index true) c (question_of index) (own_read back line words index true c is behind at (question_named c reading) (question_valid c reading) can)
    ∙ own_question index c reading

-- ---- each line

edit_words : CommandsReadBack → (line : List ℕ) (device reading : ℕ) (e : WorldEdit)
    → Cut line (map escaped (codes "edit" ∷ decimal device ∷ decimal reading ∷ command_texts (own_command e))) → device < 2 ^ 32 → reading < 2 ^ 64 → IsWorldEdit e → CanBeWritten (own_command e)
    → world_command (map escaped (codes "edit" ∷ decimal device ∷ decimal reading ∷ command_texts (own_command e))) ≡ Ok (Happens (events.Edit device e reading))
edit_words back line device reading e is p q valid can =
    let ws : List (List ℕ) = map escaped (codes "edit" ∷ decimal device ∷ decimal reading ∷ command_texts (own_command e)) in
    let last : WorldEdit → Result WorldCommand CommandFault = λ edit. Ok (Happens (events.Edit device edit reading)) in
    next_of (number_at ws 1) device (λ i. long_number_at ws 2 >>= (λ r. edit_at ws 3 >>= (λ edit. Ok (Happens (events.Edit i edit r))))) (number_is ws 1 device refl p)
    ∙ next_of (long_number_at ws 2) reading (λ r. edit_at ws 3 >>= (λ edit. Ok (Happens (events.Edit device edit r)))) (long_number_is ws 2 reading refl q)
    ∙ next_of (edit_at ws 3) e last (edit_read back line ws 3 e is refl (own_name false (own_command e) (edit_named e)) valid can)

stop_words : CommandsReadBack → (line : List ℕ) (device reading : ℕ) (whole : Bool) (e : WorldEdit)
    → Cut line (map escaped (codes "stop" ∷ decimal device ∷ flag_text whole ∷ decimal reading ∷ command_texts (own_command e))) → device < 2 ^ 32 → reading < 2 ^ 64 → IsWorldEdit e → CanBeWritten (own_command e)
    → world_command (map escaped (codes "stop" ∷ decimal device ∷ flag_text whole ∷ decimal reading ∷ command_texts (own_command e))) ≡ Ok (Happens (events.Stop device e reading whole))
stop_words back line device reading whole e is p q valid can =
    let ws : List (List ℕ) = map escaped (codes "stop" ∷ decimal device ∷ flag_text whole ∷ decimal reading ∷ command_texts (own_command e)) in
    let last : WorldEdit → Result WorldCommand CommandFault = λ edit. Ok (Happens (events.Stop device edit reading whole)) in
    next_of (number_at ws 1) device (λ i. flag_at ws 2 >>= (λ b. long_number_at ws 3 >>= (λ r. edit_at ws 4 >>= (λ edit. Ok (Happens (events.Stop i edit r b)))))) (number_is ws 1 device refl p)
    ∙ next_of (flag_at ws 2) whole (λ b. long_number_at ws 3 >>= (λ r. edit_at ws 4 >>= (λ edit. Ok (Happens (events.Stop device edit r b))))) (flag_is ws 2 whole refl)
    ∙ next_of (long_number_at ws 3) reading (λ r. edit_at ws 4 >>= (λ edit. Ok (Happens (events.Stop device edit r whole)))) (long_number_is ws 3 reading refl q)
    ∙ next_of (edit_at ws 4) e last (edit_read back line ws 4 e is refl (own_name false (own_command e) (edit_named e)) valid can)

show_words : CommandsReadBack → (line : List ℕ) (device : ℕ) (c : Command) → Cut line (map escaped (codes "show" ∷ decimal device ∷ command_texts c)) → device < 2 ^ 32 → IsReading c → CanBeWritten c
    → world_command (map escaped (codes "show" ∷ decimal device ∷ command_texts c)) ≡ Ok (Show device c)
show_words back line device c is p reading can =
    let ws : List (List ℕ) = map escaped (codes "show" ∷ decimal device ∷ command_texts c) in
    next_of (number_at ws 1) device (λ i. question_at ws 2 >>= (λ command. Ok (Show i command))) (number_is ws 1 device refl p)
    ∙ next_of (question_at ws 2) c (λ command. Ok (Show device command)) (question_read back line ws 2 c is refl (own_name true c (question_named c reading)) reading can)

ask_words : (device : ℕ) (since : List ℕ) → device < 2 ^ 32 → world_command (map escaped (codes "ask" ∷ decimal device ∷ since ∷ [])) ≡ Ok (Happens (events.Ask device since))
ask_words device since p =
    let ws : List (List ℕ) = map escaped (codes "ask" ∷ decimal device ∷ since ∷ []) in
    next_of (number_at ws 1) device (λ i. text_at ws 2 >>= (λ text. only 3 ws (Happens (events.Ask i text)))) (number_is ws 1 device refl p)
    ∙ next_of (text_at ws 2) since (λ text. only 3 ws (Happens (events.Ask device text))) (text_is ws 2 since refl)

serve_words : (request : ℕ) → request < 2 ^ 32 → world_command (map escaped (codes "serve" ∷ decimal request ∷ [])) ≡ Ok (Happens (events.Serve request))
serve_words request p =
    let ws : List (List ℕ) = map escaped (codes "serve" ∷ decimal request ∷ []) in
    next_of (number_at ws 1) request (λ k. only 2 ws (Happens (events.Serve k))) (number_is ws 1 request refl p)

take_words : (device reply reading : ℕ) → device < 2 ^ 32 → reply < 2 ^ 32 → reading < 2 ^ 64
    → world_command (map escaped (codes "take" ∷ decimal device ∷ decimal reply ∷ decimal reading ∷ [])) ≡ Ok (Happens (events.Take device reply reading))
take_words device reply reading p q r =
    let ws : List (List ℕ) = map escaped (codes "take" ∷ decimal device ∷ decimal reply ∷ decimal reading ∷ []) in
    next_of (number_at ws 1) device (λ i. number_at ws 2 >>= (λ k. long_number_at ws 3 >>= (λ n. only 4 ws (Happens (events.Take i k n))))) (number_is ws 1 device refl p)
    ∙ next_of (number_at ws 2) reply (λ k. long_number_at ws 3 >>= (λ n. only 4 ws (Happens (events.Take device k n)))) (number_is ws 2 reply refl q)
    ∙ next_of (long_number_at ws 3) reading (λ n. only 4 ws (Happens (events.Take device reply n))) (long_number_is ws 3 reading refl r)

halt_words : (request : ℕ) (whole : Bool) → request < 2 ^ 32 → world_command (map escaped (codes "halt" ∷ decimal request ∷ flag_text whole ∷ [])) ≡ Ok (Happens (events.Halt request whole))
halt_words request whole p =
    let ws : List (List ℕ) = map escaped (codes "halt" ∷ decimal request ∷ flag_text whole ∷ []) in
    next_of (number_at ws 1) request (λ k. flag_at ws 2 >>= (λ b. only 3 ws (Happens (events.Halt k b)))) (number_is ws 1 request refl p)
    ∙ next_of (flag_at ws 2) whole (λ b. only 3 ws (Happens (events.Halt request b))) (flag_is ws 2 whole refl)

equal_words : (one other : ℕ) → one < 2 ^ 32 → other < 2 ^ 32 → world_command (map escaped (codes "equal" ∷ decimal one ∷ decimal other ∷ [])) ≡ Ok (Equal one other)
equal_words one other p q =
    let ws : List (List ℕ) = map escaped (codes "equal" ∷ decimal one ∷ decimal other ∷ []) in
    next_of (number_at ws 1) one (λ i. number_at ws 2 >>= (λ j. only 3 ws (Equal i j))) (number_is ws 1 one refl p)
    ∙ next_of (number_at ws 2) other (λ j. only 3 ws (Equal one j)) (number_is ws 2 other refl q)

words_read : CommandsReadBack → (c : WorldCommand) → IsWorldCommand c → CanBeSaid c → Cut (world_line c) (map escaped (world_texts c)) → world_command (map escaped (world_texts c)) ≡ Ok c
words_read back (Happens (events.Edit device e reading)) valid can is = edit_words back (world_line (Happens (events.Edit device e reading))) device reading e is can.0 can.1 valid can.2
words_read back (Happens (events.Ask device since)) valid can is = ask_words device since can
words_read back (Happens (events.Serve request)) valid can is = serve_words request can
words_read back (Happens (events.Take device reply reading)) valid can is = take_words device reply reading can.0 can.1 can.2
words_read back (Happens (events.Stop device e reading whole)) valid can is = stop_words back (world_line (Happens (events.Stop device e reading whole))) device reading whole e is can.0 can.1 valid can.2
words_read back (Happens (events.Halt request whole)) valid can is = halt_words request whole can
words_read back (Show device c) valid can is = show_words back (world_line (Show device c)) device c is can.0 valid can.1
words_read back (Equal one other) valid can is = equal_words one other can.0 can.1

-- ---- the whole line

world_parts : (c : WorldCommand) → parts (world_line c) ≡ map escaped (world_texts c)
world_parts (Happens (events.Edit device e reading)) = parts_written (codes "edit") (decimal device ∷ decimal reading ∷ command_texts (own_command e))
world_parts (Happens (events.Ask device since)) = parts_written (codes "ask") (decimal device ∷ since ∷ [])
world_parts (Happens (events.Serve request)) = parts_written (codes "serve") (decimal request ∷ [])
world_parts (Happens (events.Take device reply reading)) = parts_written (codes "take") (decimal device ∷ decimal reply ∷ decimal reading ∷ [])
world_parts (Happens (events.Stop device e reading whole)) = parts_written (codes "stop") (decimal device ∷ flag_text whole ∷ decimal reading ∷ command_texts (own_command e))
world_parts (Happens (events.Halt request whole)) = parts_written (codes "halt") (decimal request ∷ flag_text whole ∷ [])
world_parts (Show device c) = parts_written (codes "show") (decimal device ∷ command_texts c)
world_parts (Equal one other) = parts_written (codes "equal") (decimal one ∷ decimal other ∷ [])

done : (line : List ℕ) (c : WorldCommand) → length line ≤ longest_line → world_command (parts line) ≡ Ok c → IsReadBack line c
done line c short read = record {
  read = read;
  done = λ w.
      ap (λ (b : Bool). if b then (Some w, faulty 0) else with_words (Some w) (parts line)) (not_long line short)
      ∙ ap (λ (r : Result WorldCommand CommandFault). (Some (obeyed_if_read w r).0, (obeyed_if_read w r).1)) read;
}

pub read_back : CommandsReadBack → WorldLinesReadBack
read_back back c valid can short = done (world_line c) c short (ap world_command (world_parts c) ∙ words_read back c valid can (record { cut = world_parts c; short = short }))
