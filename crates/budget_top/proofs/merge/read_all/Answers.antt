use Rattle.std.proofs.Common.{◌∙◌, ◌++◌, List, ℕ, length-take, arith, ap, sym, subst}
use Rattle.budget_top.specs.Lines.{whole_lines}
use Rattle.budget_top.specs.Verdicts.{bad_lines}
use Rattle.budget_top.specs.Steps.{Stands}
use Rattle.budget_top.proofs.Standing.{front_as, appends_as}
use Rattle.budget_top.proofs.Reading.{many_on, same_on}
use Rattle.budget_top.proofs.merge.read_all.Goals as goal

pub returns-in-Err-clause-ends : goal.returns-in-Err-clause-ends
returns-in-Err-clause-ends g c =
    let r = c.in-Bytes.ensures.reads _ c.reads.invariant.read.read c.reads.invariant.read.reads c.reads.invariant.read.many in (
      c.reads.invariant.read.read ++ r.more,
      r.has_read,
      front_as _ _ _ _ (ap (λ xs. bad_lines (whole_lines xs)) (sym r.within)) (c.in-Err.ensures.err _ c.reads.invariant.read.read c.reads.invariant.read.stands),
    )

pub returns-then-past-clause-ends : goal.returns-then-past-clause-ends
returns-then-past-clause-ends g c =
    let r = c.in-Bytes.ensures.reads _ c.reads.invariant.read.read c.reads.invariant.read.reads c.reads.invariant.read.many in (
      c.reads.invariant.read.read ++ r.more,
      r.has_read,
      (
        r.beyond c.if-past.true,
        appends_as _ _ _ _ (ap (λ xs. bad_lines (whole_lines xs)) (sym r.within)) (c.in_default.ensures.ok _ c.reads.invariant.read.read c.reads.invariant.read.stands).written,
      ),
    )

pub reads-preserved : goal.reads-preserved
reads-preserved g c =
    let r = c.in-Bytes.ensures.reads _ c.reads.invariant.read.read c.reads.invariant.read.reads c.reads.invariant.read.many in
    record {
      read = record {
        read = c.reads.invariant.read.read ++ r.more;
        reads = r.has_read.reads;
        many = many_on _ _ _ _ _ _ c.reads.taken r c.if-past.false c.reads.invariant.read.many;
        stands =
            let P : List ℕ → Type 0 = λ xs. Stands (g.W.Sink.taken c.args.sink.now) (g.W.Sink.taken c.feed.new.sink) xs c.feed.new.self in
            subst P (same_on _ _ _ _ _ _ r c.if-past.false) (c.in_default.ensures.ok _ c.reads.invariant.read.read c.reads.invariant.read.stands);
      };
      live = c.in_default.ensures.live;
      few = omega (arith, c.reads.invariant.few, simp length-take at c.in_default.ensures.few, r.inside);
      within = omega (arith, c.reads.invariant.read.many, (r.on c.if-past.false).2);
      source = c.in-Bytes.ensures.count ∙ c.reads.invariant.source;
      sink = c.in_default.ensures.count ∙ c.reads.invariant.sink;
    }
