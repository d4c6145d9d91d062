use Rattle.command_lines.proofs.answer.read_reply.Goals as goal

pub returns-in-Cell : goal.returns-in-Cell
returns-in-Cell c = rw (c.in-Cell.is) c.cell_reply.ensures
