use Rattle.std.proofs.Common.{rules, ◌≡◌, ◌∙◌, ◌++◌, ◌∷◌, [], List, ℕ, None, Some, map, sym, ap, subst, inl}
use Rattle.std.proofs.lemmas.List.{map-append}
use Rattle.budget_ports.specs.Exchanges.{Exchange, ended}
use Rattle.peer_link.specs.declared.link.Ended.{Ended}
use Rattle.peer_link.specs.Peer.{PeerState, Answers}
use Rattle.peer_link.proofs.Linked.{linked_now, none_last, none_of}
use Rattle.peer_link.proofs.link.PeerLinkLink.receive.Goals as goal

abbrev exchange_of : Ended → Exchange
exchange_of e = record { sent = e.sent; got = e.got }

pub returns-in_default-clause-failed : goal.returns-in_default-clause-failed
returns-in_default-clause-failed c =
    let none : c.self.inside.asked ≡ None = sym c.take.ensures.value ∙ none_of c.take.result c.in_default.not-Some in
    λ is. (
      ap (λ (p : PeerState). p.messages) c.self.view_is,
      inl (none_last (map exchange_of c.self.inside.ended.items) c.self.inside.asked c.args.self.now (ap (λ (p : PeerState). p.exchanges) c.self.view_is) none (c.self.invariant.closed none)),
    )

pub invariant_of-self-in-Ok : goal.invariant_of-self-in-Ok
invariant_of-self-in-Ok c =
    let old = c.self.inside.ended.items in
    let one : Ended = record { sent = c.in-Some.sent; got = Some c.in-Ok.got } in
    let items : c.push.new.self.items ≡ old ++ one ∷ [] = search rules in
    let now : map exchange_of c.push.new.self.items ≡ map exchange_of old ++ ended c.in-Some.sent c.in-Ok.got ∷ [] = ap (map exchange_of) items ∙ map-append exchange_of old (one ∷ []) in
    let answers : Answers c.self.inside.server c.answer.new.server c.in-Some.sent c.in-Ok.got =
    subst (λ (z : List ℕ). Answers c.self.inside.server c.answer.new.server z c.in-Ok.got) c.as_slice.ensures c.in-Ok.ensures.answers.0 in
    linked_now (map exchange_of old) (map exchange_of c.push.new.self.items) c.self.inside.asked c.take.new.self c.in-Some.sent c.in-Ok.got c.self.inside.server c.answer.new.server c.self.inside.faults
    (sym c.take.ensures.value ∙ c.in-Some.is) c.take.ensures.after now c.self.invariant.peer answers
