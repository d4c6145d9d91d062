use Rattle.std.proofs.Common.{rules, Some, ◌∙◌, ap, sym}
use Rattle.field_merge.proofs.Hashing.{hashed_exact}
use Rattle.field_merge.proofs.Noting.{notes-first, notes-later, notes-older}
use Rattle.field_merge.proofs.index.note.Goals.{then-is_later+in_ok-copy-in-Occupied, else-is_later}
use Rattle.field_merge.proofs.index.note.Goals as goal

pub with_names_of-requires : goal.with_names_of-requires
with_names_of-requires c =
    c.field.ensures ∙ c.key.ensures ∙ sym (hashed_exact _ _ (rw c.in-Occupied.is at c.in_ok-place.ensures.same_key)) ∙ c.in_ok-key.ensures

pub returns-in_ok-copy-in-Vacant : goal.returns-in_ok-copy-in-Vacant
returns-in_ok-copy-in-Vacant c =
    let update = rw c.in-Vacant.is at c.in_ok-place.ensures.update in
    let lent = sym (rw c.in-Vacant.is at c.in_ok-place.ensures.same_map) in (
      c.in_ok-message-in-Vacant.ensures,
      notes-first c.args.message c.insert.result.now c.args.index.now.entries _ _ c.in_ok-key.key c.in_ok-key.ensures
          (c.insert.ensures.value ∙ c.in_ok-copy-in-Vacant.ensures ∙ c.in_ok-message-in-Vacant.ensures)
          (rw c.in-Vacant.is at c.in_ok-place.ensures.found)
          (update.0 c.insert.result.now).0
          (search rules),
    )

pub returns-after-is_later : goal.returns-after-is_later
returns-after-is_later c =
    let has = sym (rw c.in-Occupied.is at c.in_ok-place.ensures.value) ∙ c.get.ensures ∙ ap Some (sym c.message-in-Occupied.ensures) in
    let same = c.in_ok-message-in-Occupied-2.ensures ∙ c.in_ok-message-in-Occupied.ensures in
    let update = rw c.in-Occupied.is at c.in_ok-place.ensures.update in
    let same_map = rw c.in-Occupied.is at c.in_ok-place.ensures.same_map in (
      same,
      elim c.if-is_later.branch [
        | then-is_later+in_ok-copy-in-Occupied w ↦
            let written = w.insert-then-is_later.ensures.written in
            let lent = sym (written.0 ∙ same_map) in
            notes-later c.args.message w.in_ok-copy-in-Occupied.field-0 c.message-in-Occupied.result.now c.args.index.now.entries _ _ c.in_ok-key.key c.lt-is_later.result
            c.in_ok-key.ensures (w.in_ok-copy-in-Occupied.ensures ∙ same) has c.lt-is_later.ensures w.if-is_later.true
            (update.0 w.in_ok-copy-in-Occupied.field-0).0 (ap (λ m. m.entries) (w.index-is ∙ search rules ∙ written.1))
        | else-is_later w ↦
            notes-older c.args.message c.message-in-Occupied.result.now c.args.index.now.entries _ c.in_ok-key.key c.lt-is_later.result
            c.in_ok-key.ensures has c.lt-is_later.ensures w.if-is_later.false (search rules)
      ],
    )
