use Rattle.std.proofs.Common.{◌≡◌, ℕ, List, ◌++◌, ap, ◌∙◌, codes, to_z, of_z, rules, string_bytes}
use Rattle.std.specs.Fmt.{signed_decimal}
use Rattle.std.specs.Int.{w64}
use Rattle.std.proofs.lemmas.Int.{to_z-of_z}
use Rattle.schedules.proofs.Lists.{three_more}
use Rattle.schedules.proofs.conditions_text.push_amount.Goals as goal

pub returns : goal.returns
returns c =
    let same : to_z w64 (of_z w64 c.args.amount) ≡ c.args.amount = to_z-of_z w64 c.args.amount (search rules) in
    let digits : c.format.result.now ≡ signed_decimal c.args.amount = c.format.ensures.text ∙ ap signed_decimal same in
    three_more (string_bytes c.args.text.now) (string_bytes c.push_str.new.self) (string_bytes c.push_str-2.new.self) (string_bytes c.push_str-3.new.self)
    (codes "{\"field\":\"amount\",\"op\":\"is\",\"value\":") (signed_decimal c.args.amount) (codes "}]")
    c.in_ok-push_str.ensures.bytes
    (c.in_ok-push_str-2.ensures.bytes ∙ ap (λ (t : List ℕ). string_bytes c.push_str.new.self ++ t) digits)
    c.in_ok-push_str-3.ensures.bytes
