use Rattle.std.proofs.Common.{ℕ, ◌+◌, ◌<◌, [], ◌∷◌, ◌++◌, append_assoc, length, drop, sym, ap, ◌∙◌, subst}
use Rattle.csv.specs.Records.{fields_of}
use Rattle.bank_import.proofs.Fields.{rest_at, field_there, text_at}
use Rattle.bank_import.proofs.reading.fields.Goals as goal
use Rattle.bank_import.proofs.reading.fields.Goals.{in-Some+in_ok-field_text+in_ok-push, in_default}

pub loop-i-preserved : goal.loop-i-preserved
loop-i-preserved c =
    let fs = fields_of c.args.row.now in
    let next = drop (c.loop-i.i + 1) fs in
    let room : c.loop-i.i < length fs = subst (λ (n : ℕ). c.loop-i.i < n) c.len-i-end.ensures c.loop-i-test.true in
    elim c.match-get.branch [
      | in-Some+in_ok-field_text+in_ok-push w ↦
          let cut = rest_at fs c.loop-i.i w.in-Some.field.now (sym w.in-Some.ensures.value) in
          ap (λ v. v.items ++ next) w.found-is ∙ ap (λ x. x ++ next) (w.in_ok-push.ensures.items ∙ ap (λ t. c.loop-i.found.items ++ t ∷ []) w.in_ok-field_text.ensures)
          ∙ append_assoc c.loop-i.found.items (w.in-Some.field.now ∷ []) next ∙ ap (λ x. c.loop-i.found.items ++ x) (sym cut) ∙ c.loop-i.invariant
      | in_default w ↦ absurd (field_there fs c.loop-i.i room (sym w.in_default.ensures.value))
    ]

pub field_text-requires : goal.field_text-requires
field_text-requires c = text_at (fields_of c.args.row.now) c.loop-i.i c.in-Some.field.now (sym c.in-Some.ensures.value) c.requires
