use Rattle.std.proofs.Common.{◌∙◌, List, Ok, map, ap, sym}
use Rattle.split_transfer.specs.declared.edit.PairEdit.TheVariants.{Split}
use Rattle.split_transfer.specs.declared.edit.SplitPart.{SplitPart}
use Rattle.command_lines.specs.Forms.{Share}
use Rattle.command_lines.specs.Commands.{pair, part_of}
use Rattle.command_lines.proofs.PairsBack.{parts_back}
use Rattle.command_lines.proofs.WordLemmas.{at_exit, at_later_exit}
use Rattle.command_lines.proofs.pair_lines.split.Goals as goal

pub returns-in_err-id-clause-read : goal.returns-in_err-id-clause-read
returns-in_err-id-clause-read c = at_exit _ c.from_residual.result c.in_err-id.field-0.0 c.from_residual.ensures.1 (c.in_err-id.ensures.err _)

pub returns-in_err-parts-clause-read : goal.returns-in_err-parts-clause-read
returns-in_err-parts-clause-read c =
    at_later_exit _ _ c.from_residual-in_err-parts.result c.in_err-parts.field-0.0
    (c.in_ok-id.ensures.ok _)
    c.from_residual-in_err-parts.ensures.1 (c.in_err-parts.ensures.err _)

pub returns-clause-read : goal.returns-clause-read
returns-clause-read c =
    c.in_ok-id.ensures.ok _
    ∙ c.in_ok-parts.ensures.ok (λ (shares : List Share). pair (Split c.in_ok-id.id (map part_of shares)))
    ∙ ap (λ (ps : List SplitPart). Ok (pair (Split c.in_ok-id.id ps))) (parts_back c.in_ok-parts.parts.items ∙ sym c.new.ensures)
