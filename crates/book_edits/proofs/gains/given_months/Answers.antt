use Rattle.std.proofs.Common.{sym, ◌∙◌}
use Rattle.book_edits.proofs.Lists.{on_value}
use Rattle.book_edits.proofs.Months.{given_never, given_inside}
use Rattle.book_edits.proofs.gains.given_months.Goals as goal

pub returns-in-None : goal.returns-in-None
returns-in-None c = c.new.ensures.items ∙ sym (given_never c.args.book.now.rows c.args.id.now (sym c.window.ensures.window ∙ c.in-None.is))

pub returns-in-Some : goal.returns-in-Some
returns-in-Some c =
    let inside = given_inside c.args.book.now.rows c.args.id.now c.in-Some.first c.in-Some.last (sym c.window.ensures.window ∙ c.in-Some.is) c.in-Some.ensures.months.0 c.in-Some.ensures.months.1 in
    on_value c.given_between.result (λ months e. e ∙ inside.1) c.given_between.ensures

pub given_between-requires : goal.given_between-requires
given_between-requires c = (given_inside c.args.book.now.rows c.args.id.now c.in-Some.first c.in-Some.last (sym c.window.ensures.window ∙ c.in-Some.is) c.in-Some.ensures.months.0 c.in-Some.ensures.months.1).0
