use Rattle.std.proofs.Common.{◌≡◌, false, subst}
use Rattle.std.specs.Prelude.{nat_eq}
use Rattle.std.specs.List.{starts_with}
use Rattle.envelope_cells.specs.Text.{kind_text}
use Rattle.command_lines.proofs.Prefixes.{no_prefix}
use Rattle.command_lines.proofs.cell_names.id_behind.Goals as goal

pub returns-in_default : goal.returns-in_default
returns-in_default c =
    let none : starts_with nat_eq c.args.name.now (kind_text c.args.kind) ≡ false =
    subst (λ p. starts_with nat_eq c.args.name.now p ≡ false) c.text.ensures (no_prefix c.text.result.now c.args.name.now c.in_default.ensures.cases) in
    rw none
