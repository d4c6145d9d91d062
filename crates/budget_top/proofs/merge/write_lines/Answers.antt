use Rattle.std.proofs.Common.{◌∙◌}
use Rattle.std.proofs.lemmas.Result.{err_from_is_err_and}
use Rattle.budget_top.proofs.Pieces.{given_in_part, given_next, told_piece}
use Rattle.budget_top.proofs.merge.write_lines.Goals as goal

pub returns-in_err-write_all-clause-front : goal.returns-in_err-write_all-clause-front
returns-in_err-write_all-clause-front g c =
    let p = err_from_is_err_and c.from_residual-in_err-write_all.result c.from_residual-in_err-write_all.ensures.1 in
    rw p.1 (given_in_part (g.W.Sink.taken c.args.sink.now) (g.W.Sink.taken c.pieces.sink) (g.W.Sink.taken c.write_all.new.sink) c.pieces.left c.next_piece.new.self c.args.lines
    c.bytes.result.now c.in-Some.piece c.pieces.invariant.given
    (told_piece c.in_ok-piece.field-0 c.in-Some.piece c.pieces.left c.next_piece.new.self c.in-Some.is c.in_ok-piece.ensures.lines)
    c.bytes.ensures.value c.in_err-write_all.ensures.front)

pub pieces-preserved : goal.pieces-preserved
pieces-preserved g c = record {
  given = given_next (g.W.Sink.taken c.args.sink.now) (g.W.Sink.taken c.pieces.sink) (g.W.Sink.taken c.write_all.new.sink) c.pieces.left c.next_piece.new.self c.args.lines
      c.bytes.result.now c.in-Some.piece c.pieces.invariant.given
      (told_piece c.in_ok-piece.field-0 c.in-Some.piece c.pieces.left c.next_piece.new.self c.in-Some.is c.in_ok-piece.ensures.lines)
      c.bytes.ensures.value c.in_ok-write_all.ensures.all;
  faults = c.in_ok-write_all.ensures.count ∙ c.pieces.invariant.faults;
}
