-- A special byte is ASCII, so the text may be cut before and behind it.
use Rattle.std.proofs.Common.{◌≡◌, ◌<◌, None, Some, length, arith, sym}
use Rattle.std.specs.List.{position}
use Rattle.std.proofs.lemmas.Str.{IsCharBoundary-before_ascii, IsCharBoundary-after_ascii}
use Rattle.field_merge.specs.Escapes as spec
use Rattle.field_merge.proofs.EscapeLemmas.{special_ascii, escaped-none, escaped-cut}
use Rattle.field_merge.proofs.escape.cut_special.Goals as goal

pub returns-in_err-at : goal.returns-in_err-at
returns-in_err-at c =
    let none : position spec.is_special c.args.text.now ≡ None = sym c.in_err-at.ensures in
    rw c.from_residual.ensures (escaped-none c.args.text.now none)

pub split_at-requires : goal.split_at-requires
split_at-requires c =
    let found : position spec.is_special c.args.text.now ≡ Some c.in_ok-at.at = sym c.in_ok-at.ensures in
    let cut = escaped-cut c.args.text.now c.in_ok-at.at found in
    IsCharBoundary-before_ascii c.args.text.now c.in_ok-at.at cut.0 (special_ascii _ cut.1)

pub split_at-requires-2 : goal.split_at-requires-2
split_at-requires-2 c =
    let found : position spec.is_special c.args.text.now ≡ Some c.in_ok-at.at = sym c.in_ok-at.ensures in
    let cut = escaped-cut c.args.text.now c.in_ok-at.at found in
    IsCharBoundary-after_ascii c.args.text.now c.in_ok-at.at c.utf8.text cut.0 (special_ascii _ cut.1)

pub returns : goal.returns
returns c =
    let found : position spec.is_special c.args.text.now ≡ Some c.in_ok-at.at = sym c.in_ok-at.ensures in
    let cut = escaped-cut c.args.text.now c.in_ok-at.at found in
    let shorter : length c.split_at-2.result.1.now < length c.args.text.now = omega (arith, c.split_at-2.ensures.back_len) in
    (rw (c.as_bytes.ensures.value, c.split_at.ensures.front, c.split_at-2.ensures.back) cut.2, rw c.as_bytes.ensures.value cut.1, shorter)
