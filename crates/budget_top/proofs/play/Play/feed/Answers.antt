use Rattle.std.proofs.Common.{◌∙◌, ◌++◌, [], append-nil, refl, arith, sym, drop, length-drop}
use Rattle.std.proofs.lemmas.Result.{err_from_is_err_and}
use Rattle.budget_top.specs.declared.stop.Stop.TheVariants.{Memory}
use Rattle.budget_top.proofs.Cutting.{FirstEnd, first_end, within_none}
use Rattle.budget_top.proofs.Feeding.{ends_there, line_within}
use Rattle.budget_top.proofs.Serving.{first_taken, first_line}
use Rattle.budget_top.proofs.Playing.{halts_between, breaks_more, stands_along, stands_within, stands_line, stands_rest}
use Rattle.budget_top.proofs.play.Play.feed.Goals as goal

pub lines-init : goal.lines-init
lines-init g c = record {
  within = omega arith;
  stands = λ entry read s. stands_along entry _ read (read ++ []) _ (sym (append-nil read)) s;
  live = c.requires.live;
  sink = refl;
}

pub returns-in_err-push-clause-err : goal.returns-in_err-push-clause-err
returns-in_err-push-clause-err g c =
    let p = err_from_is_err_and c.from_residual.result c.from_residual.ensures.1 in
    rw (p.1, p.2) (λ entry read s.
    breaks_more Memory entry _ _ _ (first_taken read c.args.bytes.now c.lines.at) (halts_between entry _ _ c.lines.self (c.lines.invariant.stands entry read s)))

pub returns-in_err-end_line-clause-err : goal.returns-in_err-end_line-clause-err
returns-in_err-end_line-clause-err g c =
    let p = err_from_is_err_and c.from_residual-in_err-end_line.result c.from_residual-in_err-end_line.ensures.1 in
    let ends : FirstEnd (drop c.lines.at c.args.bytes.now) c.in-Some.length = ends_there c.args.bytes.now c.lines.at c.in-Some.length (first_end _ c.in-Some.length (sym c.in-Some.ensures)) in
    rw (p.1, p.2) (λ entry read s.
    breaks_more _ entry _ _ _ (first_line read c.args.bytes.now c.lines.at c.in-Some.length ends)
    (c.in_err-end_line.ensures.err entry _ (stands_within entry _ _ _ c.lines.self _ (line_within c.args.bytes.now c.lines.at c.in-Some.length ends) refl refl c.in_ok-push.ensures.ok (c.lines.invariant.stands entry read s))))

pub lines-preserved : goal.lines-preserved
lines-preserved g c =
    let ends : FirstEnd (drop c.lines.at c.args.bytes.now) c.in-Some.length = ends_there c.args.bytes.now c.lines.at c.in-Some.length (first_end _ c.in-Some.length (sym c.in-Some.ensures)) in
    record {
      within = omega (arith, length-drop c.lines.at c.args.bytes.now, ends.inside);
      stands = λ entry read s.
          stands_line entry _ read c.args.bytes.now c.lines.at c.in-Some.length c.end_line.new.self ends
          (c.in_ok-end_line.ensures.ok entry _ (stands_within entry _ _ _ c.lines.self _ (line_within c.args.bytes.now c.lines.at c.in-Some.length ends) refl refl c.in_ok-push.ensures.ok (c.lines.invariant.stands entry read s)));
      live = c.in_ok-end_line.ensures.live;
      sink = ◌∙◌ {b = g.W.Sink.faults c.lines.sink} c.in_ok-end_line.ensures.count c.lines.invariant.sink;
    }

pub returns-in_err-push-2-clause-err : goal.returns-in_err-push-2-clause-err
returns-in_err-push-2-clause-err g c =
    let p = err_from_is_err_and c.from_residual-in_err-push-2.result c.from_residual-in_err-push-2.ensures.1 in
    rw (p.1, p.2) (λ entry read s.
    breaks_more Memory entry _ _ _ (first_taken read c.args.bytes.now c.lines.at) (halts_between entry _ _ c.lines.self (c.lines.invariant.stands entry read s)))

pub returns-clause-ok : goal.returns-clause-ok
returns-clause-ok g c = λ entry read s.
    stands_rest entry _ read c.args.bytes.now c.lines.at _
    (stands_within entry _ _ _ c.lines.self _ (within_none _ (sym c.in_default.ensures)) refl refl c.in_ok-push-2.ensures.ok (c.lines.invariant.stands entry read s))
