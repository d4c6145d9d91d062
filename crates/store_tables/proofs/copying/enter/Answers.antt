use Rattle.std.proofs.Common.{◌≡◌, [], ◌∷◌, Ok, subst, subst₂, w64, to_z, of_z}
use Rattle.std.proofs.lemmas.Int.{to_z-of_z}
use Rattle.sqlite.specs.State.{ExecutesInside}
use Rattle.sqlite.specs.Held.{state}
use Rattle.sqlite.specs.Values.{bound_value}
use Rattle.sqlite_value.specs.Value.{owned}
use Rattle.sqlite_value.specs.declared.value.Value.TheVariants.{Int}
use Rattle.store_tables.specs.Texts.{entry_text}
use Rattle.store_tables.proofs.WithinLemmas.{entered}
use Rattle.store_tables.proofs.WithinLemmas.{write_fell}
use Rattle.store_tables.proofs.copying.enter.Goals as goal

pub returns-in-Ok-clause-entered : goal.returns-in-Ok-clause-entered
returns-in-Ok-clause-entered g c clean t l m group at text is_key is_body was of =
    let old = c.args.tx.now.conn.now in
    let new = c.execute.new.self.conn.now in
    let same : to_z w64 (of_z w64 c.args.id) ≡ c.args.id = to_z-of_z w64 c.args.id c.ranges.id in
    let ran = subst (λ n. ExecutesInside 0 entry_text (Int n ∷ bound_value (owned c.args.key) ∷ bound_value (owned c.args.body) ∷ []) (state g.S.Store old) (state g.S.Store new) (Ok c.in-Ok.field-0)) same (c.in-Ok.ensures.runs clean was.inside) in
    (entered t l m g.S.Store old new was c.args.id group at text c.in-Ok.field-0 of
    (subst₂ (λ a b. ExecutesInside 0 entry_text (Int c.args.id ∷ bound_value a ∷ bound_value b ∷ []) (state g.S.Store old) (state g.S.Store new) (Ok c.in-Ok.field-0)) is_key is_body ran)).0

pub returns-in-Ok-clause-groups : goal.returns-in-Ok-clause-groups
returns-in-Ok-clause-groups g c clean t l m group at text is_key is_body was of =
    let old = c.args.tx.now.conn.now in
    let new = c.execute.new.self.conn.now in
    let same : to_z w64 (of_z w64 c.args.id) ≡ c.args.id = to_z-of_z w64 c.args.id c.ranges.id in
    let ran = subst (λ n. ExecutesInside 0 entry_text (Int n ∷ bound_value (owned c.args.key) ∷ bound_value (owned c.args.body) ∷ []) (state g.S.Store old) (state g.S.Store new) (Ok c.in-Ok.field-0)) same (c.in-Ok.ensures.runs clean was.inside) in
    (entered t l m g.S.Store old new was c.args.id group at text c.in-Ok.field-0 of
    (subst₂ (λ a b. ExecutesInside 0 entry_text (Int c.args.id ∷ bound_value a ∷ bound_value b ∷ []) (state g.S.Store old) (state g.S.Store new) (Ok c.in-Ok.field-0)) is_key is_body ran)).1

pub returns-in-Err-clause-fell : goal.returns-in-Err-clause-fell
returns-in-Err-clause-fell g c clean inside = write_fell g.S.Store c.args.tx.now.conn.now c.execute.new.self.conn.now entry_text _ c.in-Err.error (c.in-Err.ensures.runs clean inside)
