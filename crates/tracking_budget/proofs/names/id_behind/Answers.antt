use Rattle.std.proofs.Common.{◌≡◌, false, subst}
use Rattle.std.specs.Prelude.{nat_eq}
use Rattle.std.specs.List.{starts_with}
use Rattle.tracking_budget.specs.Names.{kind_text}
use Rattle.tracking_budget.proofs.Prefixes.{no_prefix}
use Rattle.tracking_budget.proofs.names.id_behind.Goals as goal

pub returns-in_default : goal.returns-in_default
returns-in_default c =
    let none : starts_with nat_eq c.args.text.now (kind_text c.args.kind) ≡ false =
    subst (λ p. starts_with nat_eq c.args.text.now p ≡ false) c.text.ensures (no_prefix c.text.result.now c.args.text.now c.in_default.ensures.cases) in
    rw none
