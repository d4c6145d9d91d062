use Rattle.std.proofs.Common.{rules, arith, ◌≡◌, [], ap, sym, subst, ◌∙◌, w64, to_z, of_z}
use Rattle.std.proofs.lemmas.Int.{to_z-of_z}
use Rattle.sqlite.specs.State.{HasCleanDisk}
use Rattle.sqlite.specs.Held.{state}
use Rattle.sqlite_value.specs.declared.value.Value.TheVariants.{Text as Words}
use Rattle.store_tables.specs.Within.{IsIdOf}
use Rattle.store_tables.proofs.KnownTables.{known}
use Rattle.store_tables.proofs.WithinLemmas.{fails, on_ok, on_err, fell_on}
use Rattle.sqlite_keeper.specs.Contents.{Adds}
use Rattle.sqlite_keeper.proofs.Kept.{within_of}
use Rattle.sqlite_keeper.proofs.Lists.{none_in}
use Rattle.sqlite_keeper.proofs.AppendLemmas.{adds_all, adds_none}
use Rattle.sqlite_keeper.proofs.writing.append_in.Goals as goal

pub returns-then-is_empty-clause-done : goal.returns-then-is_empty-clause-done
returns-then-is_empty-clause-done g c clean was =
    let none : c.args.batch.now ≡ [] = none_in c.args.batch.now c.if-is_empty.ensures in
    subst (Adds g.S.Store c.args.tx.now.conn.now c.args.tx.now.conn.now c.args.group.now) (sym none) (adds_none g.S.Store c.args.tx.now.conn.now c.args.group.now was)

pub returns-in_err-id-clause-fell : goal.returns-in_err-id-clause-fell
returns-in_err-id-clause-fell g c clean was =
    let old = c.args.tx.now.conn.now in
    let t = was.kept.0 in
    let k = known t was.kept.1.second in
    let name = ap Words (c.as_bytes.ensures.value ∙ c.as_str.ensures) in
    fails c.from_residual.result (c.in_err-id.ensures.fell clean t k.layout k.texts c.args.group.now name (within_of t g.S.Store old was.is_open was.inside was.kept.1))

pub returns-clause-done : goal.returns-clause-done
returns-clause-done g c clean was =
    let old = c.args.tx.now.conn.now in
    let mid = c.group_id.new.tx.conn.now in
    let new = c.add_all.new.tx.conn.now in
    let early : HasCleanDisk (state g.S.Store mid) = omega (arith, c.add_all.ensures.survives.clean) in
    let t = was.kept.0 in
    let k = known t was.kept.1.second in
    let name = ap Words (c.as_bytes.ensures.value ∙ c.as_str.ensures) in
    let one = c.in_ok-id.ensures.at early t k.layout k.texts c.args.group.now name (within_of t g.S.Store old was.is_open was.inside was.kept.1) in
    let same : to_z w64 (of_z w64 c.in_ok-id.id) ≡ c.in_ok-id.id = to_z-of_z w64 c.in_ok-id.id (search rules) in
    let id = subst (λ n. IsIdOf ((state g.S.Store mid).now.trees t.grps_tree) n c.args.group.now) (sym same) one.1 in
    on_ok c.add_all.result (adds_all t g.S.Store old mid new c.args.group.now c.args.batch.now was.kept.1 one.0) (c.add_all.ensures.done clean t was.kept.1.second c.args.group.now one.0.within id)

pub returns-clause-fell : goal.returns-clause-fell
returns-clause-fell g c clean was =
    let old = c.args.tx.now.conn.now in
    let mid = c.group_id.new.tx.conn.now in
    let new = c.add_all.new.tx.conn.now in
    let early : HasCleanDisk (state g.S.Store mid) = omega (arith, c.add_all.ensures.survives.clean) in
    let t = was.kept.0 in
    let k = known t was.kept.1.second in
    let within = within_of t g.S.Store old was.is_open was.inside was.kept.1 in
    let name = ap Words (c.as_bytes.ensures.value ∙ c.as_str.ensures) in
    let one = c.in_ok-id.ensures.at early t k.layout k.texts c.args.group.now name within in
    let same : to_z w64 (of_z w64 c.in_ok-id.id) ≡ c.in_ok-id.id = to_z-of_z w64 c.in_ok-id.id (search rules) in
    let id = subst (λ n. IsIdOf ((state g.S.Store mid).now.trees t.grps_tree) n c.args.group.now) (sym same) one.1 in
    on_err c.add_all.result (fell_on t g.S.Store old mid new _ within one.0) (c.add_all.ensures.fell clean t was.kept.1.second c.args.group.now one.0.within id)
