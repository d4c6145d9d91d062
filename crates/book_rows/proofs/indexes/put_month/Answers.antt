use Rattle.std.proofs.Common.{true, cond, ap, sym, ◌∙◌, if◌then◌else◌}
use Rattle.std.specs.Ordering.{eq_by_cmp, nat_cmp}
use Rattle.std.specs.BTreeMap.{is_at}
use Rattle.std.specs.BTreeSet as set
use Rattle.finite_sums.specs.Maps.{text_cmp}
use Rattle.book_rows.specs.Book.{dated_cmp, is_month_of}
use Rattle.book_rows.proofs.Pairs.{put_in, stays, dated_tie}
use Rattle.book_rows.proofs.indexes.put_month.Goals as goal

pub returns-in_ok-insert : goal.returns-in_ok-insert
returns-in_ok-insert c = λ m q.
    put_in c.args.id.now (λ m q. set.contains dated_cmp c.args.dated.now (m, q)) (λ m q. set.contains dated_cmp c.insert.new.self (m, q)) (λ m. eq_by_cmp nat_cmp c.in-Some.month m)
    c.requires
    (λ m q. c.in_ok-insert.ensures.updates.0 (m, q) ∙ ap (λ i. cond (is_at (dated_cmp (c.in-Some.month, i)) (m, q)) true (set.contains dated_cmp c.args.dated.now (m, q))) c.in_ok-copy.ensures
    ∙ ap (λ b. cond b true (set.contains dated_cmp c.args.dated.now (m, q))) (dated_tie c.in-Some.month m c.args.id.now q)) m q
    ∙ ap (λ o. if eq_by_cmp text_cmp q c.args.id.now then is_month_of m o else set.contains dated_cmp c.args.dated.now (m, q)) (sym c.in-Some.is)

pub returns-in_default : goal.returns-in_default
returns-in_default c = stays c.args.id.now (λ m q. set.contains dated_cmp c.args.dated.now (m, q)) (λ m. is_month_of m c.args.month) (λ m. c.requires m ∙ sym (ap (is_month_of m) c.in_default.is))
