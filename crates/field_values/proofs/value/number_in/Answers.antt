use Rattle.std.proofs.Common.{◌≡◌, ◌∙◌, ap, sym, arith, w64, FitsSigned}
use Rattle.std.proofs.lemmas.Int.{ints, to_z-of_z}
use Rattle.std.proofs.lemmas.Bool.{false≢true}
use Rattle.std.proofs.lemmas.Slice.Eq.{bytes_eq-Decides}
use Rattle.std.specs.Fmt.{signed_decimal}
use Rattle.field_values.proofs.Numbers.{reads_number, number_fits}
use Rattle.field_values.specs.Value.{HoldsNumber}
use Rattle.field_values.proofs.value.number_in.Goals as goal
use Rattle.field_values.proofs.value.number_in.Goals.{then-number-lt-SMALLEST-via-then-number-lt-SMALLEST, then-number-lt-SMALLEST-via-else-number-lt-SMALLEST+then-number-gt-LARGEST}

pub returns-in_default : goal.returns-in_default
returns-in_default c = λ n h e. c.in_default.not-Ok n (reads_number n _ _ h e c.parse.ensures.value.0)

pub returns-then-number-lt-SMALLEST : goal.returns-then-number-lt-SMALLEST
returns-then-number-lt-SMALLEST c = λ n h e.
    let same : c.in-Ok.number ≡ n = let r = reads_number n _ _ h e c.parse.ensures.value.0 in cc in
    let held : HoldsNumber c.in-Ok.number = rw same h in
    elim c.then-number-lt-SMALLEST.branch [
      | then-number-lt-SMALLEST-via-then-number-lt-SMALLEST w ↦ omega (arith, ints, held.low, held.high)
      | then-number-lt-SMALLEST-via-else-number-lt-SMALLEST+then-number-gt-LARGEST w ↦ omega (arith, ints, held.low, held.high)
    ]

pub returns-else-eq : goal.returns-else-eq
returns-else-eq c = λ n h e.
    let same : c.in-Ok.number ≡ n = let r = reads_number n _ _ h e c.parse.ensures.value.0 in cc in
    let fits : FitsSigned w64 c.in-Ok.number = rw same (number_fits n h) in
    let shown = rw to_z-of_z at c.format.ensures.text in
    let printed : c.format.result.now ≡ c.args.digits.now = shown ∙ ap signed_decimal same ∙ sym e in
    let equal = (bytes_eq-Decides c.format.result.now c.args.digits.now).1 printed in
    false≢true (sym c.if-eq.false ∙ c.eq.ensures ∙ equal)
