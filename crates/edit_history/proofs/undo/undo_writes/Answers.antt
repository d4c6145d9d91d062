use Rattle.std.proofs.Common.{◌≡◌, ◌≤◌, ◌++◌, ◌∷◌, [], List, Bool, true, cond, length, ap, sym, subst, ◌∙◌, take, map, arith}
use Rattle.std.proofs.lemmas.List.{take_all}
use Rattle.std.specs.BTreeSet as set
use Rattle.field_values.specs.declared.value.Value.{Value}
use Rattle.field_values.specs.Names.{FieldNames, names_eq, names_cmp}
use Rattle.book_rows.specs.declared.write.Write.{Write}
use Rattle.book_rows.specs.Writes.{AreWrites}
use Rattle.edit_history.specs.Undo.{undo_of, undo_writes, write_of}
use Rattle.edit_history.proofs.Growing.{first, undo_more, undo_seen}
use Rattle.edit_history.proofs.Listing.{wrote}
use Rattle.edit_history.proofs.Valid.{undo_valid, undo_few}
use Rattle.edit_history.proofs.undo.undo_writes.Goals as goal

pub loop-before-preserved : goal.loop-before-preserved
loop-before-preserved c = (
  c.in_ok-push_write.ensures.found
      ∙ ap (λ (found : List Write). found ++ cond (set.contains names_cmp c.loop-before.seen c.in_ok-field.field) [] (write_of (c.in_ok-field.field, c.in_ok-field.value) ∷ [])) c.loop-before.invariant.0
      ∙ ap (λ (b : Bool). undo_writes (take c.loop-before.before-index c.args.entry.now) ++ cond b [] (write_of (c.in_ok-field.field, c.in_ok-field.value) ∷ [])) (c.loop-before.invariant.1 c.in_ok-field.field)
      ∙ ap (λ (u : FieldNames × Value). undo_writes (take c.loop-before.before-index c.args.entry.now) ++ cond (wrote first (map undo_of (take c.loop-before.before-index c.args.entry.now)) u.0) [] (write_of u ∷ [])) c.in_ok-field.ensures
      ∙ undo_more c.args.entry.now c.loop-before.before-index c.before-item.result c.loop-before-test.true c.before-item.is,
  λ f. c.in_ok-push_write.ensures.seen f
      ∙ ap (cond (names_eq c.in_ok-field.field f) true) (c.loop-before.invariant.1 f)
      ∙ ap (λ (u : FieldNames × Value). cond (names_eq u.0 f) true (wrote first (map undo_of (take c.loop-before.before-index c.args.entry.now)) f)) c.in_ok-field.ensures
      ∙ undo_seen c.args.entry.now c.loop-before.before-index c.before-item.result f c.loop-before-test.true c.before-item.is,
)

pub returns-clause-valid : goal.returns-clause-valid
returns-clause-valid c =
    let same : c.loop-before.found.items ≡ undo_writes c.args.entry.now = c.loop-before.invariant.0 ∙ ap undo_writes (take_all c.loop-before.before-index c.args.entry.now (omega arith)) in
    subst AreWrites (sym same) (undo_valid c.args.entry.now c.requires)

pub returns-clause-few : goal.returns-clause-few
returns-clause-few c =
    let same : c.loop-before.found.items ≡ undo_writes c.args.entry.now = c.loop-before.invariant.0 ∙ ap undo_writes (take_all c.loop-before.before-index c.args.entry.now (omega arith)) in
    subst (λ (ws : List Write). length ws ≤ 65_536) (sym same) (undo_few c.args.entry.now c.requires)
