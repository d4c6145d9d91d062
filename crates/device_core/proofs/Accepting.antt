-- What every accepted line leaves.
use Rattle.std.proofs.Common.{◌≡◌, ℕ, ◌-◌, ◌≤◌, List, [], ◌∷◌, Result, Ok, Err, length, refl, sym, ap, ◌∙◌, subst, arith}
use Rattle.std.specs.List.{AllByRecursion}
use Rattle.hybrid_clock.specs.declared.stamp.Stamp.{Stamp}
use Rattle.hybrid_clock.specs.Stamp.{IsStamp}
use Rattle.hybrid_clock.specs.Clock.{draw}
use Rattle.field_merge.specs.declared.message.Message.{Message}
use Rattle.book_rows.specs.declared.fault.EditFault.{EditFault}
use Rattle.book_rows.specs.declared.write.Write.{Write}
use Rattle.device_core.specs.Books.{rows_of}
use Rattle.device_core.specs.Edits.{writes_of}
use Rattle.edit_history.specs.declared.history.Turn.{Turn}
use Rattle.edit_history.specs.declared.history.Turn.TheVariants.{New, Undo, Redo}
use Rattle.edit_history.specs.History.{latest_of}
use Rattle.book_rows.specs.declared.fault.EditFault.TheVariants.{NothingToUndo, NothingToRedo}
use Rattle.device_core.specs.Device.{State, DeviceState, Accepted, at_rest, accepted_as, first_in_row, writing, writes_back, received}
use Rattle.device_core.specs.Placing.{stamped, made_ids}
use Rattle.device_core.specs.Accepting.{Brings, BringsTo, IsLine, IsJoined, AcceptedAreJoined}
use Rattle.device_core.proofs.Drawing.{draw_valid}
use Rattle.device_core.proofs.Ids.{ids_lines}
use Rattle.device_core.proofs.Several.{is_drawn, is_written, written_ahead}
use Rattle.device_core.proofs.Received.{received_joined}

nothing_joined : (s : State) → IsJoined s (accepted_as (at_rest s) 0)
nothing_joined s = record { brings = record { news = []; batch = refl; messages = refl }; lines = λ valid. tt; own = refl; ahead = λ h. h }

drawn_lines : (old clock : Stamp) (reading : ℕ) (w : Write) (ws : List Write) → IsStamp old → draw old reading (length (w ∷ ws)) ≡ Ok clock → AllByRecursion IsLine (made_ids (first_in_row clock (length (w ∷ ws))) (w ∷ ws))
drawn_lines old clock reading w ws valid drawn =
    let told = draw_valid old clock reading (length (w ∷ ws)) valid drawn in
    let counter : clock.counter ≤ 65_535 = told.0.counter in
    let room : length (w ∷ ws) - 1 ≤ clock.counter = told.1 in
    ids_lines (first_in_row clock (length (w ∷ ws))) 0 (w ∷ ws) (record { within = told.0.within; counter = omega (arith, counter); node = told.0.node }) (omega (arith, counter, room))

writes_joined : (s : State) (turn : Turn) (reading : ℕ) (ws : Result (List Write) EditFault) (a : Accepted) → writing s turn reading ws ≡ Ok a → IsJoined s a
writes_joined s turn reading (Err fault) a h = absurd (cc)
writes_joined s turn reading (Ok []) a h = let same : accepted_as (at_rest s) 0 ≡ a = cc in subst (IsJoined s) same (nothing_joined s)
writes_joined s turn reading (Ok (w ∷ ws)) a h =
    let x = is_written s turn reading w ws a h in
    let d = is_drawn s.clock x.clock reading (length (w ∷ ws)) x.drawn in
    subst (IsJoined s) x.is (record {
      brings = record { news = stamped (first_in_row x.clock (length (w ∷ ws))) (w ∷ ws); batch = refl; messages = refl };
      lines = λ valid. drawn_lines s.clock x.clock reading w ws valid x.drawn;
      own = ap (λ (t : Stamp). t.node) d.row ∙ d.own;
      ahead = written_ahead s x.clock w ws d;
    })

messages_joined : (s : State) (ns : List Message) (reading : ℕ) (a : Accepted) → received s ns reading ≡ Ok a → IsJoined s a
messages_joined s ns reading a h =
    let taken = received_joined s ns reading a h in record {
      brings = record { news = ns; batch = taken.pending; messages = taken.joined };
      lines = λ valid. subst (λ (l : List (List ℕ)). AllByRecursion IsLine l) (sym taken.none_made) tt;
      own = taken.own;
      ahead = taken.ahead;
    }

pub accepted_joined : AcceptedAreJoined
accepted_joined = record { of_edits = λ s edit reading a h. writes_joined s New reading (writes_of (rows_of s.messages) edit) a h; of_undo = λ s reading a h. writes_joined s Undo reading (writes_back NothingToUndo (latest_of s.history.undo)) a h; of_redo = λ s reading a h. writes_joined s Redo reading (writes_back NothingToRedo (latest_of s.history.redo)) a h; of_messages = messages_joined }

-- a device that an accepted line left brings what the line brought
pub brings_device : (old : List Message) (device : DeviceState) (count : ℕ) → BringsTo old (accepted_as device count).batch (accepted_as device count).state.messages → Brings old device
brings_device old device count b = record { news = b.news; batch = b.batch; messages = b.messages }
