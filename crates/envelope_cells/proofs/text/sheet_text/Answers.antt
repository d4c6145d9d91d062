use Rattle.std.proofs.Common.{◌++◌, ap, ◌∙◌, refl, arith, drop, ◌+◌, string_bytes}
use Rattle.envelope_cells.specs.Text.{sheet_text, cell_line}
use Rattle.envelope_cells.proofs.Lists.{turn}
use Rattle.envelope_cells.proofs.text.sheet_text.Goals as goal

pub loop-cell-preserved : goal.loop-cell-preserved
loop-cell-preserved c =
    let i = c.loop-cell.cell-index in
    ap (λ done. done ++ sheet_text (drop (i + 1) c.as_slice-cell-items.result.now)) c.in_ok-push_line.ensures
    ∙ turn sheet_text cell_line (λ x xs. refl) (string_bytes c.loop-cell.text) _ c.as_slice-cell-items.result.now i c.cell-item.result (omega arith) c.cell-item.is c.loop-cell.invariant
