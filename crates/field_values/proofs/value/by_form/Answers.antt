use Rattle.std.proofs.Common.{rules, ◌≡◌, ◌++◌}
use Rattle.std.specs.Prelude.{codes}
use Rattle.field_values.proofs.Values.{text_is_kept}
use Rattle.field_values.proofs.value.by_form.Goals as goal

pub returns-in_err-from_text-clause-memory : goal.returns-in_err-from_text-clause-memory
returns-in_err-from_text-clause-memory c =
    let is : c.args.text.now ≡ codes "S:" ++ c.in-Some.rest.now = search rules in
    let kept = text_is_kept c.args.text.now c.in-Some.rest.now is in
    search rules
