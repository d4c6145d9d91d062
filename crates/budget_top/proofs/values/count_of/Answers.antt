use Rattle.std.proofs.Common.{◌≡◌, ℕ, ◌<◌, ◌^◌, ◌&&◌, List, [], ◌∷◌, length, Bool, true, false, Some, None, Err, refl, sym, ap, ◌∙◌, rules, arith, true≢false}
use Rattle.std.specs.Prelude.{if◌then◌else◌}
use Rattle.std.specs.List.{list_all}
use Rattle.std.specs.Char.{is_ascii_digit}
use Rattle.std.specs.Str.Parse.{digits_value}
use Rattle.std.proofs.lemmas.Bool.Decides.{nat_tests}
use Rattle.std.proofs.lemmas.Str.Parse.{IsNumeralModel, numerals_by_value, parse_digits}
use Rattle.budget_top.specs.Words as spec
use Rattle.budget_top.proofs.values.count_of.Goals as goal

own : IsNumeralModel (λ ds. list_all is_ascii_digit ds ≡ true) (digits_value 10)
own = numerals_by_value _ (search rules)

above : (most n : ℕ) → most < 2 ^ 32 → ¬ (n < 2 ^ 32) → spec.is_within most n ≡ false
above most n few h = grind (arith, nat_tests)

first_true : (a b : Bool) → (a && b) ≡ true → a ≡ true
first_true true b e = refl
first_true false b e = e

no_number : (plain within : Bool) (n : ℕ) → within ≡ false → None ≡ (if plain && within then Some n else None)
no_number true true n e = absurd (true≢false e)
no_number true false n e = refl
no_number false within n e = refl

-- digits that are no number of thirty-two bits are no count
no_count : (most : ℕ) (text : List ℕ) → most < 2 ^ 32 → ¬ ((0 < length text) × (digits_value 10 text < 2 ^ 32)) → None ≡ spec.count_of most text
no_count most [] few h = refl
no_count most (digit ∷ digits) few h =
    let text : List ℕ = digit ∷ digits in
    no_number (spec.is_plain_number text) (spec.is_within most (digits_value 10 text)) (digits_value 10 text) (above most (digits_value 10 text) few (λ fits. h (omega arith, fits)))

pub returns-in-Err-clause-is : goal.returns-in-Err-clause-is
returns-in-Err-clause-is c =
    let text = c.args.text.now in
    let few : c.args.most < 2 ^ 32 = omega (arith, c.well_formed) in
    let plain : spec.is_plain_number text ≡ true = ap spec.is_plain_number (sym c.as_bytes.ensures.value) ∙ sym c.is_plain_number.ensures ∙ c.if-not-is_plain_number.false in
    no_count c.args.most text few (parse_digits own 32 text (Err c.in-Err.field-0) c.in-Err.ensures.value.0 (first_true _ _ plain))
