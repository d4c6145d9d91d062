-- An event sends one request or one reply at most.
use Rattle.std.proofs.Common.{ℕ, ◌+◌, ◌≤◌, List, [], ◌∷◌, ◌++◌, Bool, true, false, Option, None, Some, Result, Ok, Err, length, length-append, subst, arith}
use Rattle.std.specs.List.{slice_get}
use Rattle.device_core.specs.declared.edit.LineRefusal.{LineRefusal}
use Rattle.device_core.specs.Device.{State, Accepted, received}
use Rattle.sync_wire.specs.declared.request.SyncRequest.{SyncRequest}
use Rattle.sync_wire.specs.declared.response.SyncResponse.{SyncResponse}
use Rattle.sync_server.specs.Answer.{answer_of}
use Rattle.sync_world.specs.declared.event.Event.{Event}
use Rattle.sync_world.specs.declared.event.Event.TheVariants as events
use Rattle.sync_world.specs.declared.event.WorldEdit.{WorldEdit}
use Rattle.sync_world.specs.Promises.{StepsSendFew}
use Rattle.sync_world.specs.World.{WorldState, Answer, device_of, changed, request_of, wrote, edits_at, asks_at, serves, took, takes_at, stopped, stops_at, halts, stepped}

abbrev SendsFew : WorldState → Answer → Type 0
SendsFew w (Err fault) = Unit {0}
SendsFew w (Ok p) = (length p.0.requests ≤ length w.requests + 1) × (length p.0.replies ≤ length w.replies + 1)

one_more : {A : Type 0} (xs : List A) (x : A) → length (xs ++ x ∷ []) ≤ length xs + 1
one_more xs x = omega (arith, length-append xs (x ∷ []))

module _ (w : WorldState) where
  wrote_few : (i : ℕ) (s : State) (x : Result Accepted LineRefusal) → SendsFew w (wrote w i s x)
  wrote_few i s (Err refusal) = tt
  wrote_few i s (Ok a) = (omega arith, omega arith)

  edit_few : (i : ℕ) (edit : WorldEdit) (reading : ℕ) (d : Option State) → SendsFew w (edits_at w i edit reading d)
  edit_few i edit reading None = tt
  edit_few i edit reading (Some s) = wrote_few i s (changed s edit reading)

  ask_few : (i : ℕ) (since : List ℕ) (d : Option State) → SendsFew w (asks_at w i since d)
  ask_few i since None = tt
  ask_few i since (Some s) = (one_more w.requests (request_of s.messages since), omega arith)

  serve_few : (k : ℕ) (x : Option SyncRequest) → SendsFew w (serves w k x)
  serve_few k None = tt
  serve_few k (Some q) = (omega arith, one_more w.replies (answer_of w.server q))

  took_few : (i : ℕ) (x : Result Accepted LineRefusal) → SendsFew w (took w i x)
  took_few i (Err refusal) = tt
  took_few i (Ok a) = (omega arith, omega arith)

  take_few : (i k reading : ℕ) (d : Option State) (x : Option SyncResponse) → SendsFew w (takes_at w i k reading d x)
  take_few i k reading None x = tt
  take_few i k reading (Some s) None = tt
  take_few i k reading (Some s) (Some reply) = took_few i (received s reply.messages reading)

  stopped_few : (i : ℕ) (s : State) (whole : Bool) (x : Result Accepted LineRefusal) → SendsFew w (stopped w i s whole x)
  stopped_few i s whole (Err refusal) = tt
  stopped_few i s true (Ok a) = (omega arith, omega arith)
  stopped_few i s false (Ok a) = (omega arith, omega arith)

  stop_few : (i : ℕ) (edit : WorldEdit) (reading : ℕ) (whole : Bool) (d : Option State) → SendsFew w (stops_at w i edit reading whole d)
  stop_few i edit reading whole None = tt
  stop_few i edit reading whole (Some s) = stopped_few i s whole (changed s edit reading)

  halt_few : (k : ℕ) (whole : Bool) (x : Option SyncRequest) → SendsFew w (halts w k whole x)
  halt_few k whole None = tt
  halt_few k true (Some q) = (omega arith, omega arith)
  halt_few k false (Some q) = (omega arith, omega arith)

  step_few : (e : Event) → SendsFew w (stepped w e)
  step_few (events.Edit i edit reading) = edit_few i edit reading (device_of w.devices i)
  step_few (events.Ask i since) = ask_few i since (device_of w.devices i)
  step_few (events.Serve k) = serve_few k (slice_get w.requests k)
  step_few (events.Take i k reading) = take_few i k reading (device_of w.devices i) (slice_get w.replies k)
  step_few (events.Stop i edit reading whole) = stop_few i edit reading whole (device_of w.devices i)
  step_few (events.Halt k whole) = halt_few k whole (slice_get w.requests k)

pub send_few : StepsSendFew
send_few w v e outcome is = subst (SendsFew w) is (step_few w e)
