use Rattle.std.proofs.Common.{◌≡◌, ℕ, true, false, Option, sym, ap, ◌∙◌, subst}
use Rattle.std.specs.Prelude.{IfSome}
use Rattle.book_rows.specs.Months.{is_month, window_of}
use Rattle.book_rows.proofs.Spans.{window_is, window_months}
use Rattle.book_rows.proofs.book.Book.window.Goals as goal

pub returns-clause-window : goal.returns-clause-window
returns-clause-window c =
    let live : c.self.inside.spent ≡ false = ap (λ s. s.spent) c.self.view_is ∙ c.requires.live in
    c.hull.ensures ∙ window_is c.self.inside.index c.self.inside.named c.self.inside.rows (c.self.invariant live) c.dated_span.result c.named_span.result c.dated_span.ensures c.named_span.ensures
    ∙ ap (λ s. window_of s.rows) c.self.view_is

pub returns-clause-months : goal.returns-clause-months
returns-clause-months c =
    let live : c.self.inside.spent ≡ false = ap (λ s. s.spent) c.self.view_is ∙ c.requires.live in
    let is : c.hull.result ≡ window_of c.self.inside.rows =
    c.hull.ensures ∙ window_is c.self.inside.index c.self.inside.named c.self.inside.rows (c.self.invariant live) c.dated_span.result c.named_span.result c.dated_span.ensures c.named_span.ensures in
    subst (λ (o : Option (ℕ × ℕ)). IfSome o (λ w. (is_month w.0 ≡ true) × (is_month w.1 ≡ true))) (sym is) (window_months c.self.inside.rows (c.self.invariant live).days)
