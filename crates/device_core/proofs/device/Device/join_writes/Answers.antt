use Rattle.std.proofs.Common.{◌≡◌, ℕ, ◌≤◌, ◌+◌, ◌-◌, ◌∙◌, List, [], ◌∷◌, Result, Ok, Err, length, refl, ap, sym, subst, arith}
use Rattle.book_rows.specs.declared.write.Write.{Write}
use Rattle.std.specs.Prelude.{OnOk}
use Rattle.field_merge.specs.declared.message.Message.{Message}
use Rattle.edit_history.specs.History.{after}
use Rattle.device_core.specs.Placing.{messages_from, stamped}
use Rattle.device_core.proofs.Several.{row_length}
use Rattle.hybrid_clock.specs.declared.stamp.Stamp.{Stamp}
use Rattle.field_merge.specs.Messages.{AreMessages}
use Rattle.device_core.specs.Device.{IsAhead, with_messages, written_over}
use Rattle.device_core.proofs.Stamping.{stamped_valid, stamped_up_to}
use Rattle.device_core.proofs.device.Device.join_writes.Goals as goal

pub join_over-requires-clause-valid : goal.join_over-requires-clause-valid
join_over-requires-clause-valid g c =
    subst AreMessages (sym (c.as_slice.ensures.value ∙ c.in-Ok.ensures.messages)) (stamped_valid c.args.first c.args.writes.now c.requires.stamp c.requires.room c.requires.valid)

pub join_over-requires-clause-ahead : goal.join_over-requires-clause-ahead
join_over-requires-clause-ahead g c =
    let clock = c.args.self.now.state.clock in
    let time : c.args.first.millis ≡ clock.millis = ap (λ (s : Stamp). s.millis) (sym c.requires.row) in
    let counter : clock.counter ≡ c.args.first.counter + (length c.args.writes.now - 1) = ap (λ (s : Stamp). s.counter) c.requires.row in
    let room : (c.args.first.counter + 0) + length c.args.writes.now ≤ clock.counter + 1 = omega (arith, counter) in
    subst (IsAhead clock) (sym (c.as_slice.ensures.value ∙ c.in-Ok.ensures.messages)) (stamped_up_to clock c.args.first 0 c.args.writes.now time room)

-- there is a message where there is a write
none_stamped : (first : Stamp) (n : ℕ) (ws : List Write) → messages_from first n ws ≡ [] → ws ≡ []
none_stamped first n [] h = refl
none_stamped first n (w ∷ ws) h = absurd (cc)

pub join_over-requires-clause-some : goal.join_over-requires-clause-some
join_over-requires-clause-some g c = λ none.
    c.requires.some (none_stamped c.args.first 0 c.args.writes.now (sym (c.as_slice.ensures.value ∙ c.in-Ok.ensures.messages) ∙ none))

pub join_over-requires-clause-few : goal.join_over-requires-clause-few
join_over-requires-clause-few g c =
    let own = ap length (c.as_slice.ensures.value ∙ c.in-Ok.ensures.messages) ∙ row_length c.args.first 0 c.args.writes.now in
    let room = c.requires.room in
    omega (arith, own, room)

on_ok : {T E P Q : Type 0} (r : Result T E) → (P → Q) → OnOk r P → OnOk r Q
on_ok (Ok x) f p = f p
on_ok (Err e) f p = tt

pub returns-in-Ok-clause-ok : goal.returns-in-Ok-clause-ok
returns-in-Ok-clause-ok g c =
    let s = c.args.self.now.state in
    let ws = c.args.writes.now in
    let own = c.as_slice.ensures.value ∙ c.in-Ok.ensures.messages in
    on_ok c.join_over.result (λ told. told (length ws)
    ∙ ap (λ (ms : List Message). with_messages s.messages ms s.clock (after c.args.turn s.history (written_over s.messages ms)) c.in-Ok.made (length ws)) own
    ∙ ap (λ (made : List (List ℕ)). with_messages s.messages (stamped c.args.first ws) s.clock (after c.args.turn s.history (written_over s.messages (stamped c.args.first ws))) made (length ws)) c.in-Ok.ensures.made)
    c.join_over.ensures.ok
