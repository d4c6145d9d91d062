use Rattle.std.proofs.Common.{◌≡◌, Err}
use Rattle.field_merge.specs.declared.line.LineFault.TheVariants.{Columns, Escape, Stamp, Name}
use Rattle.field_merge.specs.Lines.{reading}
use Rattle.budget_top.proofs.Judging.{takes_message, takes_no_text, takes_word}
use Rattle.budget_top.proofs.verdict.take_line.Goals as goal

pub returns-in_default-clause-taken : goal.returns-in_default-clause-taken
returns-in_default-clause-taken c = takes_no_text c.args.line.now c.args.latest.now c.in_default.ensures.cases.0

pub returns-in-Ok-add_line-clause-taken : goal.returns-in-Ok-add_line-clause-taken
returns-in-Ok-add_line-clause-taken c =
    takes_message c.args.line.now c.in-Ok.text.now c.args.latest.now c.add_line.new.self c.in-Ok.ensures.cases.1 c.in-Ok.ensures.cases.0 c.in-Ok-add_line.ensures.ok c.in-Ok-add_line.ensures.kept

pub returns-in-Err-Columns-clause-taken : goal.returns-in-Err-Columns-clause-taken
returns-in-Err-Columns-clause-taken c =
    let is : reading c.in-Ok.text.now ≡ Err (Columns c.in-Err-Columns.field-0-0) = rw c.in-Err-Columns.field-0-is at c.in-Err-Columns.ensures.err in
    takes_word c.args.line.now c.in-Ok.text.now (Columns c.in-Err-Columns.field-0-0) c.args.latest.now c.add_line.new.self c.in-Ok.ensures.cases.1 c.in-Ok.ensures.cases.0 is
    ((rw c.in-Err-Columns.field-0-is at c.in-Err-Columns.ensures.same) (λ e. absurd (cc)))

pub returns-in-Err-Escape-clause-taken : goal.returns-in-Err-Escape-clause-taken
returns-in-Err-Escape-clause-taken c =
    let is : reading c.in-Ok.text.now ≡ Err (Escape c.in-Err-Escape.field-0-0) = rw c.in-Err-Escape.field-0-is at c.in-Err-Escape.ensures.err in
    takes_word c.args.line.now c.in-Ok.text.now (Escape c.in-Err-Escape.field-0-0) c.args.latest.now c.add_line.new.self c.in-Ok.ensures.cases.1 c.in-Ok.ensures.cases.0 is
    ((rw c.in-Err-Escape.field-0-is at c.in-Err-Escape.ensures.same) (λ e. absurd (cc)))

pub returns-in-Err-Stamp-clause-taken : goal.returns-in-Err-Stamp-clause-taken
returns-in-Err-Stamp-clause-taken c =
    let is : reading c.in-Ok.text.now ≡ Err (Stamp c.in-Err-Stamp.field-0-0) = rw c.in-Err-Stamp.field-0-is at c.in-Err-Stamp.ensures.err in
    takes_word c.args.line.now c.in-Ok.text.now (Stamp c.in-Err-Stamp.field-0-0) c.args.latest.now c.add_line.new.self c.in-Ok.ensures.cases.1 c.in-Ok.ensures.cases.0 is
    ((rw c.in-Err-Stamp.field-0-is at c.in-Err-Stamp.ensures.same) (λ e. absurd (cc)))

pub returns-in-Err-Name-clause-taken : goal.returns-in-Err-Name-clause-taken
returns-in-Err-Name-clause-taken c =
    let is : reading c.in-Ok.text.now ≡ Err (Name c.in-Err-Name.field-0-0) = rw c.in-Err-Name.field-0-is at c.in-Err-Name.ensures.err in
    takes_word c.args.line.now c.in-Ok.text.now (Name c.in-Err-Name.field-0-0) c.args.latest.now c.add_line.new.self c.in-Ok.ensures.cases.1 c.in-Ok.ensures.cases.0 is
    ((rw c.in-Err-Name.field-0-is at c.in-Err-Name.ensures.same) (λ e. absurd (cc)))
