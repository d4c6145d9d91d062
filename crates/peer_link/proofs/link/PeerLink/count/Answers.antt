use Rattle.std.proofs.Common.{rules, ◌≡◌, ◌∙◌, length, ap, sym, map}
use Rattle.std.proofs.lemmas.List.{length-map}
use Rattle.budget_ports.specs.Exchanges.{Exchange}
use Rattle.peer_link.specs.declared.link.Ended.{Ended}
use Rattle.peer_link.specs.Peer.{PeerState}
use Rattle.peer_link.proofs.Linked.{all_ended}
use Rattle.peer_link.proofs.link.PeerLink.count.Goals as goal

abbrev exchange_of : Ended → Exchange
exchange_of e = record { sent = e.sent; got = e.got }

pub returns-clause-ended : goal.returns-clause-ended
returns-clause-ended c =
    let count : c.len.result ≡ length c.self.inside.ended.items = search rules in
    all_ended (map exchange_of c.self.inside.ended.items) c.self.inside.asked c.args.self.now c.len.result (ap (λ (p : PeerState). p.exchanges) c.self.view_is) c.self.invariant.closed
    (count ∙ sym (length-map c.self.inside.ended.items exchange_of))
