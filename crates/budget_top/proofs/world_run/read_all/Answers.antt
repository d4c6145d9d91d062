use Rattle.std.proofs.Common.{◌∙◌, ◌++◌, List, ℕ, [], arith, refl, ap, sym, subst}
use Rattle.std.proofs.KnownBytes.{Consumes-nil}
use Rattle.budget_top.specs.Lines.{whole_lines}
use Rattle.budget_top.specs.Playing.{replies_text}
use Rattle.budget_top.specs.WorldSteps.{BreaksAs}
use Rattle.budget_top.proofs.Standing.{appends_as}
use Rattle.budget_top.proofs.Reading.{many_on, same_on}
use Rattle.budget_top.proofs.Playing.{stands_along}
use Rattle.budget_top.proofs.world_run.read_all.Goals as goal

pub reads-init : goal.reads-init
reads-init g c = record {
  read = record { read = []; reads = Consumes-nil _; many = refl; stands = c.requires.fresh };
  live = c.requires.live;
  within = omega arith;
  source = refl;
  sink = refl;
}

pub returns-in-End-clause-ends : goal.returns-in-End-clause-ends
returns-in-End-clause-ends g c =
    let r = c.in-End.ensures.reads _ c.reads.invariant.read.read c.reads.invariant.read.reads c.reads.invariant.read.many in
    (c.reads.invariant.read.read, r.0, (omega (arith, c.reads.invariant.read.many, c.reads.invariant.within), c.reads.invariant.read.stands))

pub returns-in-Failed-clause-ends : goal.returns-in-Failed-clause-ends
returns-in-Failed-clause-ends g c =
    let r = c.in-Failed.ensures.reads _ c.reads.invariant.read.read c.reads.invariant.read.reads c.reads.invariant.read.many in
    (c.reads.invariant.read.read, r, (omega (arith, c.reads.invariant.read.many, c.reads.invariant.within), c.reads.invariant.read.stands.written))

pub returns-in-Err-clause-ends : goal.returns-in-Err-clause-ends
returns-in-Err-clause-ends g c =
    let r = c.in-Bytes.ensures.reads _ c.reads.invariant.read.read c.reads.invariant.read.reads c.reads.invariant.read.many in (
      c.reads.invariant.read.read ++ r.more,
      r.has_read,
      (
          let P : List ℕ → Type 0 = λ xs. BreaksAs c.in-Err.stop (g.W.Sink.taken c.args.sink.now) (g.W.Sink.taken c.feed.new.sink) (whole_lines xs) in
          subst P (sym r.within) (c.in-Err.ensures.err _ c.reads.invariant.read.read c.reads.invariant.read.stands)
          ),
    )

pub returns-then-past-clause-ends : goal.returns-then-past-clause-ends
returns-then-past-clause-ends g c =
    let r = c.in-Bytes.ensures.reads _ c.reads.invariant.read.read c.reads.invariant.read.reads c.reads.invariant.read.many in (
      c.reads.invariant.read.read ++ r.more,
      r.has_read,
      (
        r.beyond c.if-past.true,
        appends_as _ _ _ _ (ap (λ xs. replies_text (whole_lines xs)) (sym r.within)) (c.in_default.ensures.ok _ c.reads.invariant.read.read c.reads.invariant.read.stands).written,
      ),
    )

pub reads-preserved : goal.reads-preserved
reads-preserved g c =
    let r = c.in-Bytes.ensures.reads _ c.reads.invariant.read.read c.reads.invariant.read.reads c.reads.invariant.read.many in
    record {
      read = record {
        read = c.reads.invariant.read.read ++ r.more;
        reads = r.has_read.reads;
        many = many_on _ _ _ _ _ _ c.reads.taken r c.if-past.false c.reads.invariant.read.many;
        stands =
            stands_along _ _ _ _ c.feed.new.self (same_on _ _ _ _ _ _ r c.if-past.false) (c.in_default.ensures.ok _ c.reads.invariant.read.read c.reads.invariant.read.stands);
      };
      live = c.in_default.ensures.live;
      within = omega (arith, c.reads.invariant.read.many, (r.on c.if-past.false).2);
      source = c.in-Bytes.ensures.count ∙ c.reads.invariant.source;
      sink = c.in_default.ensures.count ∙ c.reads.invariant.sink;
    }
