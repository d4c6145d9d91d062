use Rattle.std.proofs.Common.{false, cond, ap, ◌∙◌}
use Rattle.std.specs.Ordering.{eq_by_cmp, nat_cmp}
use Rattle.std.specs.BTreeMap.{is_at}
use Rattle.std.specs.BTreeSet as set
use Rattle.book_rows.specs.Book.{dated_cmp, is_month_of}
use Rattle.book_rows.proofs.Pairs.{taken_out, stays, dated_tie}
use Rattle.book_rows.proofs.indexes.take_month.Goals as goal

pub returns-in_ok-copy : goal.returns-in_ok-copy
returns-in_ok-copy c = taken_out c.args.id.now (λ m q. set.contains dated_cmp c.args.dated.now (m, q)) (λ m q. set.contains dated_cmp c.remove.new.self (m, q)) (λ m. eq_by_cmp nat_cmp c.in-Some.month m)
    (λ m. c.requires m ∙ ap (is_month_of m) c.in-Some.is)
    (λ m q. c.remove.ensures.updates.0 (m, q) ∙ ap (λ i. cond (is_at (dated_cmp (c.in-Some.month, i)) (m, q)) false (set.contains dated_cmp c.args.dated.now (m, q))) c.in_ok-copy.ensures
    ∙ ap (λ b. cond b false (set.contains dated_cmp c.args.dated.now (m, q))) (dated_tie c.in-Some.month m c.args.id.now q))

pub returns-in_default : goal.returns-in_default
returns-in_default c = stays c.args.id.now (λ m q. set.contains dated_cmp c.args.dated.now (m, q)) (λ m. false) (λ m. c.requires m ∙ ap (is_month_of m) c.in_default.is)
