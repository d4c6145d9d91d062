use Rattle.std.proofs.Common.{◌≡◌, ◌++◌, ◌∷◌, [], List, ap, sym, ◌∙◌}
use Rattle.std.specs.Prelude.{codes}
use Rattle.std.proofs.lemmas.Bool.{cond-false}
use Rattle.field_values.specs.declared.value.Value.{Value}
use Rattle.finite_sums.specs.Maps.{Text}
use Rattle.book_rows.specs.declared.write.RowName.TheVariants.{Given}
use Rattle.book_rows.specs.declared.write.Write.{Write}
use Rattle.book_edits.specs.Writing.{write, text_or_null}
use Rattle.book_edits.proofs.Lists.{on_ok}
use Rattle.rule_engine.specs.Edits.{same_text, changed_text}
use Rattle.rule_engine.proofs.writing.push_text.Goals as goal

pub returns : goal.returns
returns c =
    let before = c.args.writes.now.items in
    let id = c.args.id.now in
    let column = c.args.column.now in
    let value = text_or_null c.args.new.now in
    let one : Text → Value → List Write = λ t v. write (codes "transactions") (Given t) column v ∷ [] in
    let row_is : one c.in_ok-copy.field-0 c.in_ok-text_or_null.field-0 ≡ one id c.in_ok-text_or_null.field-0 = ap (λ (t : Text). one t c.in_ok-text_or_null.field-0) c.in_ok-copy.ensures in
    let value_is : one id c.in_ok-text_or_null.field-0 ≡ one id value = ap (one id) c.in_ok-text_or_null.ensures in
    let changes : changed_text id column c.args.old.now c.args.new.now ≡ one id value =
    cond-false (same_text c.args.old.now c.args.new.now) [] (one id value) (sym c.same_text.ensures ∙ c.if-same_text.false) in
    on_ok c.push.result (λ is. is ∙ ap (λ (ws : List Write). before ++ ws) (row_is ∙ value_is ∙ sym changes)) c.push.ensures
