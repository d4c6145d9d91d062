use Rattle.std.proofs.Common.{◌≡◌, ◌∙◌, List, ℕ, refl, sym, subst, inl}
use Rattle.peer_link.specs.Peer.{IsAnswered}
use Rattle.peer_link.proofs.link.answer.Goals as goal

pub returns-then-not-branch-clause-failed : goal.returns-then-not-branch-clause-failed
returns-then-not-branch-clause-failed c = λ is. (refl, inl (c.in_ok-asks_group.ensures.foreign c.if-not-branch.true))

pub returns-in_ok-got-in-Some-serve-clause-answers : goal.returns-in_ok-got-in-Some-serve-clause-answers
returns-in_ok-got-in-Some-serve-clause-answers c =
    let got_is : c.new-in-Some-serve.result ≡ c.in-Some-serve.reply.items = c.new-in-Some-serve.ensures ∙ c.in_ok-got-in-Some-serve.ensures ∙ c.deref.ensures.value in
    let came_is : c.new.result ≡ c.args.sent.now = c.new.ensures ∙ c.in_ok-came.ensures in (
      record {
        asks = c.in_ok-asks_group.ensures.asks c.if-not-branch.false;
        had = c.in-Some.before;
        had_it = sym c.take.ensures.value ∙ c.in-Some.is;
        has = c.in-Some-serve.after;
        has_it = refl;
        answered_so = subst (λ (z : List ℕ). IsAnswered c.in-Some.before z c.new-in-Some-serve.result c.in-Some-serve.after) came_is
            (subst (λ (z : List ℕ). IsAnswered c.in-Some.before c.new.result z c.in-Some-serve.after) (sym got_is) c.in-Some-serve.ensures);
      },
      sym got_is,
    )
