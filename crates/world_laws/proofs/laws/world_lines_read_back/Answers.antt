use Rattle.world_laws.proofs.Reading.{read_back}
use Rattle.world_laws.proofs.laws.world_lines_read_back.Goals as goal

pub returns : goal.returns
returns c = read_back c.commands_read_back.ensures
