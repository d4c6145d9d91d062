use Rattle.std.proofs.Common.{ap, subst}
use Rattle.book_rows.specs.declared.txs.Keys.{Keys}
use Rattle.book_rows.specs.Book.{MovesKeys}
use Rattle.book_rows.proofs.Pairs.{on_ok}
use Rattle.book_rows.proofs.Keyed.{keyed}
use Rattle.book_rows.proofs.txs.set_key.Goals as goal

pub returns-clause-index : goal.returns-clause-index
returns-clause-index c = on_ok c.change_keys.result (λ e.
    keyed c.args.index.now c.change_keys.new.index c.args.txs.now c.set_keyed.new.self c.args.id.now c.args.column c.args.value.now c.requires.index c.in_ok-before.ensures.rows
    (subst (λ (keys : Keys). MovesKeys c.args.index.now c.change_keys.new.index c.args.id.now keys) (ap (λ p. p.1) c.in_ok-before.ensures.keys) e)) c.change_keys.ensures
