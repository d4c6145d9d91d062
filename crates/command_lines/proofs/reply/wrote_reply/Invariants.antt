use Rattle.std.proofs.Common.{◌≡◌, ◌++◌, ◌∷◌, map, take}
use Rattle.std.specs.Prelude.{codes}
use Rattle.std.specs.Fmt.{decimal}
use Rattle.command_lines.proofs.reply.wrote_reply.Given as goal

abbrev pub invariant-loop-id : goal.invariant-loop-id
invariant-loop-id l = l.lines.items ≡ (codes "writes " ++ decimal l.fn.writes) ∷ map (λ id. codes "made " ++ id) (take l.id-index l.id-items)
