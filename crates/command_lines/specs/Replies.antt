-- The replies to lines, and their texts.
use Rattle.std.specs.Prelude.{ℕ, ℤ, List, [], ◌∷◌, ◌++◌, length, map, codes, Option, None, Some}
use Rattle.std.specs.List.{flat_map}
use Rattle.std.specs.Fmt.{decimal, signed_decimal}
use Rattle.hybrid_clock.specs.declared.clock.ClockFault.{ClockFault}
use Rattle.hybrid_clock.specs.declared.clock.ClockFault.TheVariants.{Drift, Overflow, Beyond}
use Rattle.field_merge.specs.Escapes.{escaped}
use Rattle.field_merge.specs.Lines.{ended}
use Rattle.device_core.specs.declared.edit.LineRefusal.{LineRefusal}
use Rattle.device_core.specs.declared.edit.LineRefusal.TheVariants.{Edit, Clock, NoMemory}
use Rattle.command_lines.specs.declared.reply.Reply.{Reply}
use Rattle.command_lines.specs.Refusals.{refused_edit}
use Rattle.command_lines.specs.declared.reply.Reply.TheVariants.{Done, Refused}

-- an edit that made writes and rows with these ids
abbrev pub wrote : ℕ → List (List ℕ) → Reply
wrote writes made = Done ((codes "writes " ++ decimal writes) ∷ map (λ id. codes "made " ++ id) made)

-- messages that were added
abbrev pub added : ℕ → Reply
added count = Done ((codes "added " ++ decimal count) ∷ [])

-- a sync that ended with equal tries, after so many requests, and so many messages that were new
abbrev pub synced : ℕ → ℕ → Reply
synced requests received = Done ((codes "requests " ++ (decimal requests ++ (codes " received " ++ decimal received))) ∷ [])

-- a sync that failed, and where: the link to the server did, the reply was bad at this byte, its status was this one, or the tries
-- differed still after the last request, with these roots
abbrev pub sync_failed : List ℕ → Reply
sync_failed part = Refused 29 (codes "sync-failed") part

abbrev pub lost_link : Reply
lost_link = sync_failed (codes "link")

abbrev pub bad_answer : ℕ → Reply
bad_answer at = sync_failed (codes "reply " ++ decimal at)

abbrev pub bad_status : ℕ → Reply
bad_status status = sync_failed (codes "status " ++ decimal status)

abbrev pub out_of_sync : ℤ → ℤ → Reply
out_of_sync mine theirs = sync_failed (codes "out-of-sync " ++ signed_decimal mine ++ 32 ∷ signed_decimal theirs)

-- a line whose word at this index is the first that is not of its form
abbrev pub faulty : ℕ → Reply
faulty index = Refused 30 (codes "bad-command") (decimal index)

-- a timestamp that the clock refused
abbrev pub refused_clock : ClockFault → Reply
refused_clock (Drift logical reading) = Refused 26 (codes "clock-drift") (decimal logical ++ 32 ∷ decimal reading)
refused_clock (Overflow counter) = Refused 27 (codes "clock-overflow") (decimal counter)
refused_clock (Beyond reading) = Refused 28 (codes "clock-beyond") (decimal reading)

-- a line that was refused; a want of memory has no reply
abbrev pub refused : LineRefusal → Option Reply
refused (Edit fault) = refused_edit fault
refused (Clock fault) = Some (refused_clock fault)
refused NoMemory = None

-- the detail of a refusal, behind its code: nothing where it is empty
abbrev pub detail_text : List ℕ → List ℕ
detail_text [] = []
detail_text (b ∷ bs) = 32 ∷ escaped (b ∷ bs)

-- the lines of a reply: `ok N` and its N lines, or the one line `refused En CODE DETAIL`
abbrev pub reply_lines : Reply → List (List ℕ)
reply_lines (Done lines) = (codes "ok " ++ decimal (length lines)) ∷ lines
reply_lines (Refused number code detail) = (codes "refused E" ++ decimal number ++ 32 ∷ code ++ detail_text detail) ∷ []

-- the text of a reply: these lines, each with its end
abbrev pub reply_text_of : Reply → List ℕ
reply_text_of reply = flat_map ended (reply_lines reply)
