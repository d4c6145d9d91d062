use Rattle.std.proofs.Common.{◌≡◌, false, ap, ◌∙◌}
use Rattle.book_rows.specs.Parts.{schedule_txs}
use Rattle.book_rows.specs.Book.{ids_under}
use Rattle.book_rows.proofs.Lists.{schedule_txs_are}
use Rattle.book_rows.proofs.book.Book.of_schedule.Goals as goal

pub returns : goal.returns
returns c =
    let live : c.self.inside.spent ≡ false = ap (λ s. s.spent) c.self.view_is ∙ c.requires.live in
    c.under.ensures.ids
    ∙ schedule_txs_are c.self.inside.index c.self.inside.rows.txs (c.self.invariant live).txs c.args.id.now c.under.ensures.sorted
    ∙ ap (λ s. schedule_txs s.rows c.args.id.now) c.self.view_is
