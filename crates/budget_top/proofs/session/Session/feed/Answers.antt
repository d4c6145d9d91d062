use Rattle.std.proofs.Common.{◌∙◌, ◌++◌, [], append-nil, inl, inr, refl, arith, sym, drop, length-drop}
use Rattle.std.proofs.lemmas.Result.{err_from_is_err_and}
use Rattle.budget_top.specs.declared.stop.DeviceStop.TheVariants.{Run}
use Rattle.budget_top.specs.declared.stop.Stop.TheVariants.{Memory}
use Rattle.budget_top.proofs.Cutting.{FirstEnd, first_end, within_none}
use Rattle.budget_top.proofs.Feeding.{ends_there, line_within}
use Rattle.budget_top.proofs.Serving.{halts_between, breaks_from, breaks_more, first_taken, first_line, stands_within, stands_line, stands_rest}
use Rattle.budget_top.proofs.Answering.{stands_along}
use Rattle.budget_top.proofs.session.Session.feed.Goals as goal

pub lines-init : goal.lines-init
lines-init g c = record {
  within = omega arith;
  stands = λ e read s. stands_along e read (read ++ []) _ _ (sym (append-nil read)) s;
  ready = c.requires;
  told = λ t. t;
  before = λ k h. inl h;
  alone = λ a. a;
  sink = refl;
  keeper = refl;
}

pub returns-in_err-push-clause-err : goal.returns-in_err-push-clause-err
returns-in_err-push-clause-err g c =
    let p = err_from_is_err_and c.from_residual.result c.from_residual.ensures.1 in
    rw (p.1, p.2) (λ e read s.
    breaks_from (Run Memory) e _ _ _ _ c.lines.invariant.alone
    (breaks_more (Run Memory) e _ _ _ _ (first_taken read c.args.bytes.now c.lines.at) (halts_between e _ c.lines.self _ (c.lines.invariant.stands e read s))))

pub returns-in_err-end_line-clause-err : goal.returns-in_err-end_line-clause-err
returns-in_err-end_line-clause-err g c =
    let p = err_from_is_err_and c.from_residual-in_err-end_line.result c.from_residual-in_err-end_line.ensures.1 in
    let ends : FirstEnd (drop c.lines.at c.args.bytes.now) c.in-Some.length = ends_there c.args.bytes.now c.lines.at c.in-Some.length (first_end _ c.in-Some.length (sym c.in-Some.ensures)) in
    rw (p.1, p.2) (λ e read s.
    breaks_from _ e _ _ _ _ c.lines.invariant.alone
    (breaks_more _ e _ _ _ _ (first_line read c.args.bytes.now c.lines.at c.in-Some.length ends)
    (c.in_err-end_line.ensures.err e _ (stands_within e _ _ c.lines.self _ _ (line_within c.args.bytes.now c.lines.at c.in-Some.length ends) refl refl refl c.in_ok-push.ensures.ok (c.lines.invariant.stands e read s)))))

pub lines-preserved : goal.lines-preserved
lines-preserved g c =
    let ends : FirstEnd (drop c.lines.at c.args.bytes.now) c.in-Some.length = ends_there c.args.bytes.now c.lines.at c.in-Some.length (first_end _ c.in-Some.length (sym c.in-Some.ensures)) in
    record {
      within = omega (arith, length-drop c.lines.at c.args.bytes.now, ends.inside);
      stands = λ e read s.
          stands_line e read c.args.bytes.now c.lines.at c.in-Some.length c.end_line.new.self _ ends
          (c.in_ok-end_line.ensures.ok e _ (stands_within e _ _ c.lines.self _ _ (line_within c.args.bytes.now c.lines.at c.in-Some.length ends) refl refl refl c.in_ok-push.ensures.ok (c.lines.invariant.stands e read s)));
      ready = c.in_ok-end_line.ensures.ready;
      told = λ t. c.lines.invariant.told (c.end_line.ensures.told t);
      before = λ k h. elim (c.end_line.ensures.before k h) [ inl there ↦ c.lines.invariant.before k there | inr t ↦ inr (c.lines.invariant.told t) ];
      alone = λ a. c.in_ok-end_line.ensures.alone (c.lines.invariant.alone a);
      sink = ◌∙◌ {b = g.W.Sink.faults c.lines.sink} c.in_ok-end_line.ensures.sink c.lines.invariant.sink;
      keeper = ◌∙◌ {b = g.K.Keeper.faults c.lines.keeper} c.in_ok-end_line.ensures.keeper c.lines.invariant.keeper;
    }

pub returns-in_err-push-2-clause-err : goal.returns-in_err-push-2-clause-err
returns-in_err-push-2-clause-err g c =
    let p = err_from_is_err_and c.from_residual-in_err-push-2.result c.from_residual-in_err-push-2.ensures.1 in
    rw (p.1, p.2) (λ e read s.
    breaks_from (Run Memory) e _ _ _ _ c.lines.invariant.alone
    (breaks_more (Run Memory) e _ _ _ _ (first_taken read c.args.bytes.now c.lines.at) (halts_between e _ c.lines.self _ (c.lines.invariant.stands e read s))))

pub returns-clause-ok : goal.returns-clause-ok
returns-clause-ok g c = λ e read s.
    stands_rest e read c.args.bytes.now c.lines.at _ _
    (stands_within e _ _ c.lines.self _ _ (within_none _ (sym c.in_default.ensures)) refl refl refl c.in_ok-push-2.ensures.ok (c.lines.invariant.stands e read s))
