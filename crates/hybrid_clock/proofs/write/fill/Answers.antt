use Rattle.std.proofs.Common.{◌≡◌, arith, refl, ◌∙◌, length, ap, length-take, length-drop, length-append}
use Rattle.hybrid_clock.specs.Stamp.{stamp_text}
use Rattle.hybrid_clock.specs.Calendar.{Day}
use Rattle.hybrid_clock.proofs.Pieces.{assembled}
use Rattle.hybrid_clock.proofs.write.fill.Goals as goal

pub returns : goal.returns
unfolding stamp_text
returns c =
    let out : length c.args.out.now ≡ 46 = omega arith in
    let first : length c.copy_from_slice.new.self ≡ 30 = c.copy_from_slice.ensures.len ∙ simp length-take (omega arith) in
    let second : length c.copy_from_slice-2.new.self ≡ 16 = c.copy_from_slice-2.ensures.len ∙ simp (length-take, length-drop, length-append) (omega arith) in
    let day = c.day_of_number-day.ensures.value in
    let year = ap (λ (d : Day). d.year) day in
    let month = ap (λ (d : Day). d.month) day in
    let number = ap (λ (d : Day). d.day) day in
    assembled 30 16 c.copy_from_slice.new.self c.copy_from_slice-2.new.self c.args.out.now first second out
    ∙ rw (c.copy_from_slice.ensures.after, c.copy_from_slice-2.ensures.after, c.head-head.ensures, year, month, number) refl
