use Rattle.std.proofs.Common.{◌∙◌, sym, arith}
use Rattle.field_merge.proofs.pieces.FieldLines.next_piece.Goals as goal
use Rattle.field_merge.proofs.pieces.FieldLines.next_piece.Goals.{else-lines-test, then-lines-test+in_ok-push_first-2+then-not-branch-2}

pub returns-clause-lines : goal.returns-clause-lines
returns-clause-lines c =
    elim c.lines-test.branch [
      | else-lines-test w ↦ rw (c.new.ensures, w.self-is, w.text-is) (sym c.lines.invariant.told, c.lines.invariant.fewer)
      | then-lines-test+in_ok-push_first-2+then-not-branch-2 w ↦
          rw (c.new.ensures, w.self-is, w.text-is)
          (sym (w.in_ok-push_first-2.ensures.lines ∙ c.lines.invariant.told), omega (arith, w.in_ok-push_first-2.ensures.fewer, c.lines.invariant.fewer))
    ]
