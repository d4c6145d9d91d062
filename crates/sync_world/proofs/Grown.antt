-- What an edit, an undo or a redo makes that a device accepts.
use Rattle.std.proofs.Common.{◌≡◌, inl, inr, ℕ, ◌<◌, List, [], ◌∷◌, ◌++◌, append-nil, Result, Ok, Err, length, refl, sym, ap, ◌∙◌, subst, arith}
use Rattle.std.specs.Prelude.{drop}
use Rattle.std.specs.List.{Contains}
use Rattle.std.proofs.lemmas.List.{drop_at}
use Rattle.std.proofs.lemmas.Option.{slice_get-get_or, slice_get_within, same_Some}
use Rattle.std.specs.Prelude.{slice_index_or}
use Rattle.hybrid_clock.specs.declared.stamp.Stamp.{Stamp}
use Rattle.hybrid_clock.specs.Clock.{IsLater}
use Rattle.field_merge.specs.declared.message.Message.{Message}
use Rattle.field_merge.specs.Log.{join}
use Rattle.book_rows.specs.declared.fault.EditFault.{EditFault}
use Rattle.book_rows.specs.declared.fault.EditFault.TheVariants.{NothingToUndo, NothingToRedo}
use Rattle.book_rows.specs.declared.write.Write.{Write}
use Rattle.edit_history.specs.declared.history.Turn.{Turn}
use Rattle.edit_history.specs.declared.history.Turn.TheVariants.{New, Undo, Redo}
use Rattle.edit_history.specs.History.{latest_of}
use Rattle.device_core.specs.Books.{rows_of}
use Rattle.device_core.specs.Edits.{writes_of}
use Rattle.device_core.specs.Placing.{stamp_at, message_at}
use Rattle.device_core.specs.Device.{State, Accepted, IsAhead, at_rest, accepted_as, writing, writes_back}
use Rattle.device_core.specs.Several.{AreJoinedWrites, WritesAreJoined}
use Rattle.device_core.specs.Accepting.{IsJoined, AcceptedAreJoined}
use Rattle.sync_world.specs.declared.event.WorldEdit.{WorldEdit}
use Rattle.sync_world.specs.declared.event.WorldEdit.TheVariants as edits
use Rattle.sync_world.specs.World.{changed, news}
use Rattle.sync_world.proofs.Numbered.{member_at, no_member}

-- a device went on to this state, and made these messages, which stand behind those of before, under timestamps of its own that are later than where its clock stood
pub record Makes (s t : State) (ms : List Message) : Type 0 where
  pub behind : t.messages ≡ s.messages ++ ms
  pub joined : t.messages ≡ join s.messages ms
  pub own : (m : Message) → Contains ms m → m.stamp.node ≡ s.clock.node
  pub later : (m : Message) → Contains ms m → IsLater s.clock m.stamp
  pub node : t.clock.node ≡ s.clock.node
  pub ahead : IsAhead t.clock t.messages

pub nothing : (s : State) → IsAhead s.clock s.messages → Makes s s []
nothing s ahead = record {
  behind = sym (append-nil s.messages);
  joined = refl;
  own = λ m c. absurd (no_member m c);
  later = λ m c. absurd (no_member m c);
  node = refl;
  ahead = ahead;
}

later_at : (clock first : Stamp) (n : ℕ) → IsLater clock first → IsLater clock (stamp_at first n)
later_at clock first n (inl p) = inl p
later_at clock first n (inr p) = inr (p.0, (let x = p.1 in omega arith))

-- the timestamp of a message of writes is one of those in a row
at_row : (s : State) (turn : Turn) (w : Write) (ws : List Write) (a : Accepted) (j : AreJoinedWrites s turn (w ∷ ws) a) (m : Message) → Contains j.messages m → (k : ℕ) × (m.stamp ≡ stamp_at j.first k)
at_row s turn w ws a j m c =
    let at = member_at j.messages m c in
    let within : at.0 < length (w ∷ ws) = subst (λ (n : ℕ). at.0 < n) j.number (slice_get_within j.messages at.0 m at.1) in
    let v : Write = slice_index_or (w ∷ ws) at.0 w in
    let same : message_at j.first at.0 v ≡ m = same_Some (message_at j.first at.0 v) m (sym (j.each at.0 v (slice_get-get_or (w ∷ ws) at.0 w within)) ∙ at.1) in
    (at.0, ap (λ (n : Message). n.stamp) (sym same))

made_writes : (s : State) (turn : Turn) (w : Write) (ws : List Write) (a : Accepted) → AreJoinedWrites s turn (w ∷ ws) a → IsAhead a.state.clock a.state.messages → Makes s a.state (news s a)
made_writes s turn w ws a j ahead =
    let same : j.messages ≡ news s a = sym (ap (drop (length s.messages)) j.behind ∙ drop_at s.messages j.messages (length s.messages) refl) in
    subst (Makes s a.state) same (record {
      behind = j.behind;
      joined = j.joined;
      own = λ m c. let at = at_row s turn w ws a j m c in ap (λ (t : Stamp). t.node) at.1 ∙ j.own;
      later = λ m c. let at = at_row s turn w ws a j m c in subst (IsLater s.clock) (sym at.1) (later_at s.clock j.first at.0 j.later);
      node = ap (λ (t : Stamp). t.node) j.at_clock ∙ j.own;
      ahead = ahead;
    })

made_none : (s : State) → drop (length s.messages) s.messages ≡ []
made_none s = ap (drop (length s.messages)) (sym (append-nil s.messages)) ∙ drop_at s.messages [] (length s.messages) refl

writing_makes : WritesAreJoined → (s : State) (turn : Turn) (reading : ℕ) (meant : Result (List Write) EditFault) (a : Accepted) → IsJoined s a → IsAhead s.clock s.messages → writing s turn reading meant ≡ Ok a → Makes s a.state (news s a)
writing_makes writes s turn reading (Err fault) a is ahead h = absurd (cc)
writing_makes writes s turn reading (Ok []) a is ahead h =
    let same : accepted_as (at_rest s) 0 ≡ a = cc in
    subst (λ (b : Accepted). Makes s b.state (news s b)) same (subst (Makes s s) (sym (made_none s)) (nothing s ahead))
writing_makes writes s turn reading (Ok (w ∷ ws)) a is ahead h = made_writes s turn w ws a (writes.joined s turn reading w ws a ahead h) (is.ahead ahead)

-- an accepted line counts the messages that it makes
writing_counts : WritesAreJoined → (s : State) (turn : Turn) (reading : ℕ) (meant : Result (List Write) EditFault) (a : Accepted) → IsAhead s.clock s.messages → writing s turn reading meant ≡ Ok a → a.count ≡ length (news s a)
writing_counts writes s turn reading (Err fault) a ahead h = absurd (cc)
writing_counts writes s turn reading (Ok []) a ahead h =
    let same : accepted_as (at_rest s) 0 ≡ a = cc in
    subst (λ (b : Accepted). b.count ≡ length (news s b)) same (sym (ap length (made_none s)))
writing_counts writes s turn reading (Ok (w ∷ ws)) a ahead h =
    let j = writes.joined s turn reading w ws a ahead h in
    j.counted ∙ sym j.number ∙ sym (ap length (ap (drop (length s.messages)) j.behind ∙ drop_at s.messages j.messages (length s.messages) refl))

pub changed_counts : WritesAreJoined → (s : State) (edit : WorldEdit) (reading : ℕ) (a : Accepted) → IsAhead s.clock s.messages → changed s edit reading ≡ Ok a → a.count ≡ length (news s a)
changed_counts writes s (edits.Line edit) reading a ahead h = writing_counts writes s New reading (writes_of (rows_of s.messages) edit) a ahead h
changed_counts writes s edits.Undo reading a ahead h = writing_counts writes s Undo reading (writes_back NothingToUndo (latest_of s.history.undo)) a ahead h
changed_counts writes s edits.Redo reading a ahead h = writing_counts writes s Redo reading (writes_back NothingToRedo (latest_of s.history.redo)) a ahead h

pub changed_makes : WritesAreJoined → AcceptedAreJoined → (s : State) (edit : WorldEdit) (reading : ℕ) (a : Accepted) → IsAhead s.clock s.messages → changed s edit reading ≡ Ok a → Makes s a.state (news s a)
changed_makes writes accepted s (edits.Line edit) reading a ahead h = writing_makes writes s New reading (writes_of (rows_of s.messages) edit) a (accepted.of_edits s edit reading a h) ahead h
changed_makes writes accepted s edits.Undo reading a ahead h = writing_makes writes s Undo reading (writes_back NothingToUndo (latest_of s.history.undo)) a (accepted.of_undo s reading a h) ahead h
changed_makes writes accepted s edits.Redo reading a ahead h = writing_makes writes s Redo reading (writes_back NothingToRedo (latest_of s.history.redo)) a (accepted.of_redo s reading a h) ahead h
