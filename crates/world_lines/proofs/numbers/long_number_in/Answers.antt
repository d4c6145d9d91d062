use Rattle.std.proofs.Common.{◌≡◌, ℕ, ◌^◌, Option, None, Some, refl, sym, ap, ◌∙◌, arith}
use Rattle.std.proofs.lemmas.Bool.{false≢true}
use Rattle.std.specs.Fmt.{decimal}
use Rattle.std.proofs.lemmas.Slice.Eq.{bytes_eq-Decides}
use Rattle.world_lines.specs.Numbers.{number_of}
use Rattle.world_lines.proofs.Digits.{number_written, number_back, no_number}
use Rattle.world_lines.proofs.numbers.long_number_in.Goals as goal

pub returns-in_default : goal.returns-in_default
returns-in_default c = by (number_of (2 ^ 64) c.args.text.now) refl
  where
    by : (o : Option ℕ) → number_of (2 ^ 64) c.args.text.now ≡ o → None ≡ o
    by None e = refl
    by (Some n) e = absurd (c.in_default.not-Ok n (no_number 64 n c.args.text.now _ (omega arith) c.parse.ensures.value.0 e (omega arith)))

pub returns-then-eq : goal.returns-then-eq
returns-then-eq c =
    let same : decimal c.in-Ok.number ≡ c.args.text.now = sym c.format.ensures.text ∙ (bytes_eq-Decides _ _).0 (sym c.eq.ensures ∙ c.if-eq.true) in
    let p = c.in-Ok.ensures.value.0 in
    sym (number_back (2 ^ 64) c.in-Ok.number c.args.text.now (omega arith) (omega (arith, p.0.1, p.1)) same)

pub returns-else-eq : goal.returns-else-eq
returns-else-eq c = by (number_of (2 ^ 64) c.args.text.now) refl
  where
    by : (o : Option ℕ) → number_of (2 ^ 64) c.args.text.now ≡ o → None ≡ o
    by None e = refl
    by (Some n) e =
        let w = number_written (2 ^ 64) n c.args.text.now e in
        let is = no_number 64 n c.args.text.now _ (omega arith) c.parse.ensures.value.0 e (omega arith) in
        let same : c.in-Ok.number ≡ n = let q = sym c.in-Ok.is ∙ is in cc in
        absurd (false≢true (sym c.if-eq.false ∙ c.eq.ensures ∙ (bytes_eq-Decides _ _).1 (c.format.ensures.text ∙ ap decimal same ∙ w.1)))
