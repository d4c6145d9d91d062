use Rattle.std.proofs.Common.{◌≡◌, Option, None, Some, ℤ, refl}
use Rattle.command_lines.specs.Forms.{amount_of}
use Rattle.command_lines.proofs.Amounts.{amount_written, reads_amount}
use Rattle.command_lines.proofs.forms.amount_in.Goals as goal

pub returns-in_default : goal.returns-in_default
returns-in_default c = by (amount_of c.args.text.now) refl
  where
    by : (o : Option ℤ) → amount_of c.args.text.now ≡ o → None ≡ o
    by None e = refl
    by (Some n) e =
        let written = amount_written c.args.text.now n e in
        absurd (c.in_default.not-Ok n (reads_amount n c.args.text.now _ written.0 written.1 c.parse.ensures.value.0))
