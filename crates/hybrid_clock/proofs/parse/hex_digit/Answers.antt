use Rattle.std.proofs.Common.{◌≡◌, ◌≤◌, ◌∙◌, sym, false, arith, get_or}
use Rattle.hybrid_clock.proofs.Form.{within_form, allowed_at, hex_letter, hex_value-letter}
use Rattle.std.specs.Char.{is_ascii_digit}
use Rattle.hybrid_clock.proofs.parse.hex_digit.Goals as goal
use Rattle.hybrid_clock.proofs.parse.hex_digit.Goals.{Else-is_ascii_digit}

pub bounds-text-at : goal.bounds-text-at
bounds-text-at c = within_form c.args.at 87 c.requires.digit

no_digit : (c : Else-is_ascii_digit) → is_ascii_digit (get_or c.args.text.now c.args.at 0) ≡ false
no_digit c = sym c.is_ascii_digit.ensures.value ∙ c.if-is_ascii_digit.false

letter : (c : Else-is_ascii_digit) → (65 ≤ get_or c.args.text.now c.args.at 0) × (get_or c.args.text.now c.args.at 0 ≤ 70)
letter c = hex_letter (get_or c.args.text.now c.args.at 0) (allowed_at c.args.text.now c.args.at 87 c.told-text c.requires.formed c.requires.digit) (no_digit c)

pub overflow_sub-result-else-is_ascii_digit : goal.overflow_sub-result-else-is_ascii_digit
overflow_sub-result-else-is_ascii_digit c = (letter c).0

pub returns-else-is_ascii_digit-clause-value : goal.returns-else-is_ascii_digit-clause-value
returns-else-is_ascii_digit-clause-value c = hex_value-letter (get_or c.args.text.now c.args.at 0) (no_digit c) (letter c).0

pub returns-else-is_ascii_digit-clause-bound : goal.returns-else-is_ascii_digit-clause-bound
returns-else-is_ascii_digit-clause-bound c = omega (arith, (letter c).0, (letter c).1)
