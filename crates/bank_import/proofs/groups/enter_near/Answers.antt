use Rattle.std.proofs.Common.{◌≡◌, rules, sym, ap, ◌∙◌, w32, w64}
use mir.Val.{SFits}
use Rattle.std.proofs.lemmas.Int.{to_z-of_z}
use Rattle.bank_import.specs.Spans.{first_span, last_span}
use Rattle.bank_import.proofs.Spanned.{entered_once, entered_twice}
use Rattle.bank_import.proofs.groups.enter_near.Goals as goal

pub returns-in_ok-enter-2 : goal.returns-in_ok-enter-2
returns-in_ok-enter-2 c =
    let day = to_z-of_z w32 c.args.day c.ranges.day in
    let fits : SFits w64 c.args.candidate.now.amount = search rules in
    entered_twice c.args.candidate.now c.args.day c.requires c.args.groups.now c.enter.new.groups c.enter-then-last-first.new.groups _ _ c.first_span-first.result c.last_span-last.result
    c.in_ok-copy.ensures c.in_ok-copy-2.ensures (c.first_span-first.ensures ∙ ap first_span day) (c.last_span-last.ensures ∙ ap last_span day) c.if-last-first.true
    (simp to_z-of_z at c.in_ok-enter.ensures) (simp to_z-of_z at c.in_ok-enter-2.ensures)

pub returns-else-last-first : goal.returns-else-last-first
returns-else-last-first c =
    let day = to_z-of_z w32 c.args.day c.ranges.day in
    let fits : SFits w64 c.args.candidate.now.amount = search rules in
    let one : c.first_span-first.result ≡ last_span c.args.day = sym c.if-last-first.false ∙ c.last_span-last.ensures ∙ ap last_span day in
    entered_once c.args.candidate.now c.args.day c.requires c.args.groups.now c.enter.new.groups _ c.first_span-first.result c.in_ok-copy.ensures (c.first_span-first.ensures ∙ ap first_span day) one (simp to_z-of_z at c.in_ok-enter.ensures)
