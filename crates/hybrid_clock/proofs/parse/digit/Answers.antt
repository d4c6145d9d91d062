use Rattle.std.proofs.Common.{arith, get_or}
use Rattle.hybrid_clock.proofs.Form.{within_form, allowed_at, digit_bounds}
use Rattle.hybrid_clock.proofs.parse.digit.Goals as goal

pub bounds-text-at : goal.bounds-text-at
bounds-text-at c = within_form c.args.at 47 c.requires.digit

pub overflow_sub-result : goal.overflow_sub-result
overflow_sub-result c =
    let bounds = digit_bounds (get_or c.args.text.now c.args.at 0) (allowed_at c.args.text.now c.args.at 47 (omega arith) c.requires.formed c.requires.digit) in
    bounds.0

pub returns-clause-bound : goal.returns-clause-bound
returns-clause-bound c =
    let bounds = digit_bounds (get_or c.args.text.now c.args.at 0) (allowed_at c.args.text.now c.args.at 47 (omega arith) c.requires.formed c.requires.digit) in
    omega (arith, bounds.0, bounds.1)
