use Rattle.std.proofs.Common.{List, subst}
use Rattle.field_merge.specs.declared.message.Message.{Message}
use Rattle.peer_link.specs.Peer.{IsAnswered}
use Rattle.peer_link.specs.Serving.{set_in}
use Rattle.peer_link.proofs.server.Server.serve.Goals as goal

pub returns-in-Some : goal.returns-in-Some
returns-in-Some c = subst (λ (r : List Message). IsAnswered r c.args.came c.in-Some.reply.items (set_in c.serve_at.new.keeper.contents)) c.self.view_is c.in-Some.ensures.1
