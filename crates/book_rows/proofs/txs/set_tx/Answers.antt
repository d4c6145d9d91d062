use Rattle.std.proofs.Common.{sym, ◌∙◌}
use Rattle.book_rows.proofs.Pairs.{on_ok}
use Rattle.book_rows.proofs.Keyed.{unmoved}
use Rattle.book_rows.proofs.txs.set_tx.Goals as goal

pub returns-else-moves-clause-index : goal.returns-else-moves-clause-index
returns-else-moves-clause-index c = on_ok c.set.result (λ e. unmoved c.args.index.now c.args.txs.now c.set.new.self c.args.id.now c.args.column c.args.value.now (sym c.moves.ensures.moves ∙ c.if-moves.false) c.requires.index e) c.set.ensures
