-- How a sync that has ended is told.
use Rattle.std.specs.Prelude.{◌≡◌, ℕ, List, [], Result, Ok, Err}
use Rattle.budget_ports.specs.declared.keeper.PortFault.{PortFault}
use Rattle.budget_ports.specs.declared.keeper.PortFault.TheVariants.{Failed}
use Rattle.budget_ports.specs.Keeper.{has_failed}
use Rattle.device_core.specs.declared.edit.LineRefusal.TheVariants.{Clock as OfClock}
use Rattle.device_sync.specs.declared.fault.SyncFault.{SyncFault}
use Rattle.device_sync.specs.declared.fault.SyncFault.TheVariants.{Link, BadReply, Refused, OutOfSync, Clock, Keeper, NoMemory}
use Rattle.device_sync.specs.declared.fault.Synced.{Synced}
use Rattle.device_sync.specs.Sync.{fails_keeper}
use Rattle.command_lines.specs.declared.reply.Reply.{Reply}
use Rattle.command_lines.specs.declared.reply.Reply.TheVariants.{Done}
use Rattle.command_lines.specs.Replies.{synced, lost_link, bad_answer, bad_status, out_of_sync, refused as refusal_of, reply_text_of}
use Rattle.budget_top.specs.declared.answer.Answer.{Answer}
use Rattle.budget_top.specs.Session.{reply_to_refusal, is_refused}

-- a sync has a reply: the keeper didn't fail, and memory didn't run out
abbrev pub HasReply : Result Synced SyncFault → Type 0
HasReply (Ok done) = Unit {0}
HasReply (Err Link) = Unit {0}
HasReply (Err (BadReply at)) = Unit {0}
HasReply (Err (Refused status)) = Unit {0}
HasReply (Err (OutOfSync mine theirs)) = Unit {0}
HasReply (Err (Clock fault)) = Unit {0}
HasReply (Err Keeper) = ⊥
HasReply (Err NoMemory) = ⊥

-- its reply
abbrev pub reply_of : Result Synced SyncFault → Reply
reply_of (Ok done) = synced done.requests done.received
reply_of (Err Link) = lost_link
reply_of (Err (BadReply at)) = bad_answer at
reply_of (Err (Refused status)) = bad_status status
reply_of (Err (OutOfSync mine theirs)) = out_of_sync mine theirs
reply_of (Err (Clock fault)) = reply_to_refusal (refusal_of (OfClock fault))
reply_of (Err Keeper) = Done []
reply_of (Err NoMemory) = Done []

-- a sync was told, or there is no reply: the keeper failed where it did in the sync, and else memory ran out
abbrev pub IsTold : Result Synced SyncFault → Result Answer PortFault → Type 0
IsTold ended (Ok a) = HasReply ended × ((a.text ≡ reply_text_of (reply_of ended)) × (a.refused ≡ is_refused (reply_of ended)))
IsTold ended (Err fault) = has_failed {T = Answer} (Err fault) ≡ fails_keeper ended
