use Rattle.std.proofs.Common.{[], ◌∷◌, subst}
use Rattle.sqlite.specs.State.{Shown}
use Rattle.sqlite.specs.Held.{state}
use Rattle.sqlite.specs.Values.{bound_value}
use Rattle.store_tables.specs.Texts.{group_text}
use Rattle.store_tables.proofs.WithinLemmas.{made}
use Rattle.store_tables.proofs.WithinLemmas.{query_fell}
use Rattle.store_tables.proofs.copying.make.Goals as goal

pub returns-in-Ok-clause-made : goal.returns-in-Ok-clause-made
returns-in-Ok-clause-made g c clean t l m group is was =
    let old = c.args.tx.now.conn.now in
    let new = c.query_all.new.self.conn.now in
    made t l m g.S.Store old new was group c.in-Ok.rows.items (subst (λ v. Shown group_text (bound_value v ∷ []) (state g.S.Store old) (state g.S.Store new) c.in-Ok.rows.items) is (c.in-Ok.ensures.ok clean))

pub returns-in-Err-clause-fell : goal.returns-in-Err-clause-fell
returns-in-Err-clause-fell g c clean = query_fell g.S.Store c.args.tx.now.conn.now c.query_all.new.self.conn.now group_text _ c.in-Err.error (c.in-Err.ensures.err clean)
