use Rattle.std.proofs.Common.{◌∙◌, List, ℕ, arith, subst, sym, drop, length-drop}
use Rattle.std.proofs.lemmas.Result.{err_from_is_err_and}
use Rattle.budget_top.specs.Steps.{Stands}
use Rattle.budget_top.proofs.Cutting.{FirstEnd, first_end, within_none}
use Rattle.budget_top.proofs.Feeding.{ends_there, line_within, taken_line, breaks_before_line, breaks_in_line}
use Rattle.budget_top.proofs.merge.Merge.feed.Goals as goal

pub end_line-requires-clause-within : goal.end_line-requires-clause-within
end_line-requires-clause-within g c =
    line_within c.args.bytes.now c.lines.at c.in-Some.length
    (ends_there c.args.bytes.now c.lines.at c.in-Some.length (first_end _ c.in-Some.length (sym c.in-Some.ensures)))

pub returns-in_err-end_line-clause-err : goal.returns-in_err-end_line-clause-err
returns-in_err-end_line-clause-err g c =
    let p = err_from_is_err_and c.from_residual.result c.from_residual.ensures.1 in
    let ends = ends_there c.args.bytes.now c.lines.at c.in-Some.length (first_end _ c.in-Some.length (sym c.in-Some.ensures)) in
    rw p.1 (λ entry read h.
    breaks_in_line entry (g.W.Sink.taken c.end_line.new.sink) read c.args.bytes.now c.lines.at c.in-Some.length ends
    (c.in_err-end_line.ensures.err entry _ (c.lines.invariant.stands entry read h)))

pub lines-preserved : goal.lines-preserved
lines-preserved g c =
    let ends : FirstEnd (drop c.lines.at c.args.bytes.now) c.in-Some.length = ends_there c.args.bytes.now c.lines.at c.in-Some.length (first_end _ c.in-Some.length (sym c.in-Some.ensures)) in
    let inside = ends.inside in
    record {
      within = omega (arith, length-drop c.lines.at c.args.bytes.now, ends.inside);
      stands = λ entry read h.
          let P : List ℕ → Type 0 = λ xs. Stands entry (g.W.Sink.taken c.end_line.new.sink) xs c.end_line.new.self in
          subst P (taken_line read c.args.bytes.now c.lines.at c.in-Some.length ends)
          (c.in_ok-end_line.ensures.ok entry _ (c.lines.invariant.stands entry read h));
      live = c.in_ok-end_line.ensures.live;
      few = omega (arith, c.lines.invariant.few, c.in_ok-end_line.ensures.few);
      faults = ◌∙◌ {b = g.W.Sink.faults c.lines.sink} c.in_ok-end_line.ensures.count c.lines.invariant.faults;
    }

pub keep-requires : goal.keep-requires
keep-requires g c = within_none _ (sym c.in_default.ensures)

pub returns-in_err-keep-clause-err : goal.returns-in_err-keep-clause-err
returns-in_err-keep-clause-err g c =
    let p = err_from_is_err_and c.from_residual-in_err-keep.result c.from_residual-in_err-keep.ensures.1 in
    rw p.1 (λ entry read h. breaks_before_line entry (g.W.Sink.taken c.lines.sink) read c.args.bytes.now c.lines.at c.lines.self (c.lines.invariant.stands entry read h))
