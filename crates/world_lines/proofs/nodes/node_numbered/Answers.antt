use Rattle.std.proofs.Common.{◌∙◌}
use Rattle.world_lines.proofs.Naming.{never, node_is}
use Rattle.world_lines.proofs.nodes.node_numbered.Goals as goal

pub unreachable-requires : goal.unreachable-requires
unreachable-requires c = never c.args.number c.as_bytes.result.now c.make.result c.in-Err.field-0 c.requires.0 c.requires.1 (c.as_bytes.ensures.value ∙ c.as_str.ensures.value ∙ c.in_ok-text.ensures.ok) c.make.ensures.is c.in-Err.is

pub returns : goal.returns
returns c = node_is c.args.number c.as_bytes.result.now c.make.result c.in-Ok.node c.requires.0 c.requires.1 (c.as_bytes.ensures.value ∙ c.as_str.ensures.value ∙ c.in_ok-text.ensures.ok) c.make.ensures.is c.in-Ok.is
