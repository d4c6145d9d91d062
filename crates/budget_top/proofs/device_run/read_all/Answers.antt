use Rattle.std.proofs.Common.{◌∙◌, ◌++◌, [], inl, inr, arith, refl, sym}
use Rattle.std.proofs.KnownBytes.{Consumes-nil}
use Rattle.budget_top.proofs.Reading.{many_on, same_on}
use Rattle.budget_top.proofs.Answering.{stands_along, handles_along, breaks_along}
use Rattle.budget_top.proofs.device_run.read_all.Goals as goal

pub reads-init : goal.reads-init
reads-init g c = record {
  read = record { read = []; reads = Consumes-nil _; many = refl; stands = λ e s. s };
  within = omega arith;
  ready = c.requires;
  told = λ t. t;
  before = λ k h. inl h;
  alone = λ a. a;
  source = refl;
  sink = refl;
  keeper = refl;
}

pub returns-in-Err-clause-before : goal.returns-in-Err-clause-before
returns-in-Err-clause-before g c = λ k h. elim (c.feed.ensures.before k h) [ inl there ↦ c.reads.invariant.before k there | inr t ↦ inr (c.reads.invariant.told t) ]

pub returns-then-past-clause-before : goal.returns-then-past-clause-before
returns-then-past-clause-before g c = λ k h. elim (c.feed.ensures.before k h) [ inl there ↦ c.reads.invariant.before k there | inr t ↦ inr (c.reads.invariant.told t) ]

pub returns-in-End-clause-ends : goal.returns-in-End-clause-ends
returns-in-End-clause-ends g c = λ e s.
    let r = c.in-End.ensures.reads _ c.reads.invariant.read.read c.reads.invariant.read.reads c.reads.invariant.read.many in
    (c.reads.invariant.read.read, r.0, (omega (arith, c.reads.invariant.read.many, c.reads.invariant.within), c.reads.invariant.read.stands e s))

pub returns-in-Failed-clause-ends : goal.returns-in-Failed-clause-ends
returns-in-Failed-clause-ends g c = λ e s.
    let r = c.in-Failed.ensures.reads _ c.reads.invariant.read.read c.reads.invariant.read.reads c.reads.invariant.read.many in
    (c.reads.invariant.read.read, r, (omega (arith, c.reads.invariant.read.many, c.reads.invariant.within), (c.reads.invariant.read.stands e s).handled))

pub returns-in-Err-clause-ends : goal.returns-in-Err-clause-ends
returns-in-Err-clause-ends g c = λ e s.
    let r = c.in-Bytes.ensures.reads _ c.reads.invariant.read.read c.reads.invariant.read.reads c.reads.invariant.read.many in (
      c.reads.invariant.read.read ++ r.more,
      r.has_read,
      breaks_along c.in-Err.stop e _ _ _ _ _ (sym r.within) c.reads.invariant.alone
          (c.in-Err.ensures.err e c.reads.invariant.read.read (c.reads.invariant.read.stands e s)),
    )

pub returns-then-past-clause-ends : goal.returns-then-past-clause-ends
returns-then-past-clause-ends g c = λ e s.
    let r = c.in-Bytes.ensures.reads _ c.reads.invariant.read.read c.reads.invariant.read.reads c.reads.invariant.read.many in (
      c.reads.invariant.read.read ++ r.more,
      r.has_read,
      (r.beyond c.if-past.true, handles_along e _ _ _ (sym r.within) (c.in_default.ensures.ok e c.reads.invariant.read.read (c.reads.invariant.read.stands e s)).handled),
    )

pub returns-then-past-clause-alone : goal.returns-then-past-clause-alone
returns-then-past-clause-alone g c = λ _ a. c.in_default.ensures.alone (c.reads.invariant.alone a)

pub reads-preserved : goal.reads-preserved
reads-preserved g c =
    let r = c.in-Bytes.ensures.reads _ c.reads.invariant.read.read c.reads.invariant.read.reads c.reads.invariant.read.many in
    record {
      read = record {
        read = c.reads.invariant.read.read ++ r.more;
        reads = r.has_read.reads;
        many = many_on _ _ _ _ _ _ c.reads.taken r c.if-past.false c.reads.invariant.read.many;
        stands = λ e s.
            stands_along e _ _ c.feed.new.self _ (same_on _ _ _ _ _ _ r c.if-past.false) (c.in_default.ensures.ok e c.reads.invariant.read.read (c.reads.invariant.read.stands e s));
      };
      within = omega (arith, c.reads.invariant.read.many, (r.on c.if-past.false).2);
      ready = c.in_default.ensures.ready;
      told = λ t. c.reads.invariant.told (c.feed.ensures.told t);
      before = λ k h. elim (c.feed.ensures.before k h) [ inl there ↦ c.reads.invariant.before k there | inr t ↦ inr (c.reads.invariant.told t) ];
      alone = λ a. c.in_default.ensures.alone (c.reads.invariant.alone a);
      source = c.in-Bytes.ensures.count ∙ c.reads.invariant.source;
      sink = c.in_default.ensures.sink ∙ c.reads.invariant.sink;
      keeper = c.in_default.ensures.keeper ∙ c.reads.invariant.keeper;
    }
