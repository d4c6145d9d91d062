use Rattle.std.proofs.Common.{rules, ◌≡◌, refl, subst, sym, ◌∙◌, w64, to_z, of_z}
use Rattle.std.proofs.lemmas.Int.{to_z-of_z}
use Rattle.sqlite.specs.Held.{state}
use Rattle.store_tables.specs.Within.{IsIdOf}
use Rattle.store_tables.specs.Met.{IsMet}
use Rattle.store_tables.proofs.copying.id_of.Goals as goal

pub returns-then-is_same-clause-at : goal.returns-then-is_same-clause-at
returns-then-is_same-clause-at g c clean t l m group is was met =
    let groups = (state g.S.Store c.args.tx.now.conn.now).now.trees t.grps_tree in
    let known = subst (IsMet groups) c.in-Some.is met in
    let same : to_z w64 (of_z w64 c.in-Some.id) ≡ c.in-Some.id = to_z-of_z w64 c.in-Some.id (search rules) in (
      record { within = was; committed = refl; texts = refl; others = λ u has x y z. refl; records_are = refl },
      subst (λ n. IsIdOf groups n group) (sym same) (known group (c.is_same.ensures.same c.if-is_same.true ∙ is)),
    )
