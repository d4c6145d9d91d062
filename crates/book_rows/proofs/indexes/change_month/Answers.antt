use Rattle.std.proofs.Common.{◌≡◌, ℕ, Option, Some, None, true, refl, ap, sym, ◌∙◌, ◌==◌}
use Rattle.std.specs.Option.{option_eq}
use Rattle.std.specs.BTreeSet as set
use Rattle.std.proofs.Common.{arith}
use Rattle.book_rows.specs.Book.{dated_cmp, is_month_of}
use Rattle.book_rows.proofs.Pairs.{stays, none_left, moved, on_ok}
use Rattle.book_rows.proofs.indexes.change_month.Goals as goal

same_month : (a b : Option ℕ) → option_eq ◌==◌ a b ≡ true → a ≡ b
same_month None None h = refl
same_month None (Some y) h = cc
same_month (Some x) None h = cc
same_month (Some x) (Some y) h = ap Some (grind arith)

pub returns-then-eq : goal.returns-then-eq
returns-then-eq c =
    let same = same_month c.args.before c.args.after (sym c.eq.ensures ∙ c.if-eq.true) in
    stays c.args.id.now (λ m q. set.contains dated_cmp c.args.dated.now (m, q)) (λ m. is_month_of m c.args.after) (λ m. c.requires m ∙ ap (is_month_of m) same)

pub put_month-requires : goal.put_month-requires
put_month-requires c = none_left c.args.id.now (λ m q. set.contains dated_cmp c.args.dated.now (m, q)) (λ m q. set.contains dated_cmp c.take_month.new.dated (m, q)) c.in_ok-take_month.ensures

pub returns : goal.returns
returns c = on_ok c.put_month.result (λ e. moved c.args.id.now (λ m q. set.contains dated_cmp c.args.dated.now (m, q)) (λ m q. set.contains dated_cmp c.take_month.new.dated (m, q)) (λ m q. set.contains dated_cmp c.put_month.new.dated (m, q)) (λ m. is_month_of m c.args.after) c.in_ok-take_month.ensures e) c.put_month.ensures
