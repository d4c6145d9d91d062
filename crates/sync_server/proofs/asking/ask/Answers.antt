use Rattle.std.proofs.Common.{◌≡◌, ◌∙◌, ◌++◌, refl, inl, inr, sym, subst, length, ◌<◌, ◌≤◌, ◌+◌, ◌⊎◌}
use Rattle.std.proofs.KnownBytes.{Consumes-trans}
use Rattle.sync_server.specs.Serving.{Decides, Ends, Refuses, AsksKeeper}
use Rattle.budget_ports.specs.Contents.{Contents}
use Rattle.field_merge.specs.Messages.{AreMessages}
use Rattle.sync_server.specs.declared.refusal.Refusal.TheVariants.{NoMemory}
use Rattle.sync_server.specs.Outside.{HasFound}
use Rattle.sync_server.specs.Heads.{in_head}
use Rattle.sync_server.proofs.Fronts.{comes, any, refused_at, ended_at, short_at, undecided_at, body_refused, asks_at, body_range}
use Rattle.sync_server.proofs.asking.ask.Goals as goal

pub returns-in-Refused-clause-asked : goal.returns-in-Refused-clause-asked
returns-in-Refused-clause-asked g c =
    let e = comes _ _ _ (c.in-Refused.ensures.took (λ n. cc)) in
    (e.came, e.all, inl (λ k. subst (λ x. Decides c.args.token.now (HasFound k) x (Refuses c.in-Refused.refusal)) (sym e.split) (refused_at c.args.token.now k c.take_head.new.taken.items e.back (g.D.Door.left c.take_head.new.door) c.in-Refused.refusal c.in-Refused.ensures.few c.in-Refused.ensures.end)))

pub returns-in-Ended-clause-asked : goal.returns-in-Ended-clause-asked
returns-in-Ended-clause-asked g c =
    let e = comes _ _ _ (c.in-Ended.ensures.took (λ n. cc)) in
    let h = c.in-Ended.ensures.end in
    (e.came, e.all, λ k. subst (λ x. Decides c.args.token.now (HasFound k) x Ends) (sym e.split) (ended_at c.args.token.now k c.take_head.new.taken.items e.back h.0 h.1 (e.over h.2)))

pub returns-in-Failed-clause-asked : goal.returns-in-Failed-clause-asked
returns-in-Failed-clause-asked g c =
    let e = comes _ _ _ (c.in-Failed.ensures.took (λ n. cc)) in
    let h = c.in-Failed.ensures.end in
    (e.came, e.all, (c.take_head.new.taken.items, e.back, e.split, in_head h.0 h.1))

pub returns-in-NoMemory-clause-asked : goal.returns-in-NoMemory-clause-asked
returns-in-NoMemory-clause-asked g c =
    let e = any (g.D.Door.left c.args.door.now) in
    (e.0, e.1, inr refl)

pub returns-clause-asked : goal.returns-clause-asked
returns-clause-asked g c =
    let e = any (g.D.Door.left c.args.door.now) in
    (e.0, e.1, inr refl)

pub returns-in-Ended-take_body-clause-asked : goal.returns-in-Ended-take_body-clause-asked
returns-in-Ended-take_body-clause-asked g c =
    let token = c.args.token.now in
    let taken = c.take_head.new.taken.items in
    let b = c.in-Ended-take_body.ensures.took (λ n. cc) in
    let e = comes _ _ _ (Consumes-trans _ _ _ taken b.0 (c.in-Whole.ensures.took (λ n. cc)) b.2) in
    let split : e.came ≡ (taken ++ b.0) ++ e.back = e.split in
    let few = c.in-Whole.ensures.few in
    let takes = c.in-Whole.ensures.end in
    let start = c.in-Whole.start in
    let count = c.in-Whole.count in
    let h = c.in-Ended-take_body.ensures.end in
    let less : length (taken ++ b.0) < start + count = rw (sym b.1) h.0 in
    (e.came, e.all, λ k. subst (λ x. Decides token (HasFound k) x Ends) (sym split) (short_at token taken b.0 start count few takes k e.back less (e.over h.1)))

pub returns-in-Failed-take_body-clause-asked : goal.returns-in-Failed-take_body-clause-asked
returns-in-Failed-take_body-clause-asked g c =
    let token = c.args.token.now in
    let taken = c.take_head.new.taken.items in
    let b = c.in-Failed-take_body.ensures.took (λ n. cc) in
    let e = comes _ _ _ (Consumes-trans _ _ _ taken b.0 (c.in-Whole.ensures.took (λ n. cc)) b.2) in
    let split : e.came ≡ (taken ++ b.0) ++ e.back = e.split in
    let few = c.in-Whole.ensures.few in
    let takes = c.in-Whole.ensures.end in
    let start = c.in-Whole.start in
    let count = c.in-Whole.count in
    let h = c.in-Failed-take_body.ensures.end in
    let less : length (taken ++ b.0) < start + count = rw (sym b.1) h in
    (e.came, e.all, (taken ++ b.0, e.back, split, undecided_at token taken b.0 start count few takes less))

pub returns-in-Ok-clause-asked : goal.returns-in-Ok-clause-asked
returns-in-Ok-clause-asked g c =
    let token = c.args.token.now in
    let taken = c.take_head.new.taken.items in
    let b = c.in-Whole-take_body.ensures.took (λ n. cc) in
    let e = comes _ _ _ (Consumes-trans _ _ _ taken b.0 (c.in-Whole.ensures.took (λ n. cc)) b.2) in
    let split : e.came ≡ (taken ++ b.0) ++ e.back = e.split in
    let few = c.in-Whole.ensures.few in
    let takes = c.in-Whole.ensures.end in
    let start = c.in-Whole.start in
    let count = c.in-Whole.count in
    let h = c.in-Whole-take_body.ensures.end in
    let enough : start + count ≤ length (taken ++ b.0) = rw (sym b.1) h in
    let body_is = body_range c.deref.result.now (taken ++ b.0) start count (c.deref.ensures.value ∙ b.1) in
    let asks = asks_at token taken b.0 start count few takes e.back _ c.in-Ok.request enough body_is c.in-Ok.ensures.0 c.in-Ok.ensures.1 in
    (e.came, e.all, subst (λ x. (asks : AsksKeeper token x) × (asks.request ≡ c.in-Ok.request) × AreMessages c.in-Ok.request.messages) (sym split) (asks.0, asks.1, c.in-Ok.ensures.1.valid))

pub returns-in-Whole-take_body-clause-asked : goal.returns-in-Whole-take_body-clause-asked
returns-in-Whole-take_body-clause-asked g c =
    let token = c.args.token.now in
    let taken = c.take_head.new.taken.items in
    let b = c.in-Whole-take_body.ensures.took (λ n. cc) in
    let e = comes _ _ _ (Consumes-trans _ _ _ taken b.0 (c.in-Whole.ensures.took (λ n. cc)) b.2) in
    let split : e.came ≡ (taken ++ b.0) ++ e.back = e.split in
    let few = c.in-Whole.ensures.few in
    let takes = c.in-Whole.ensures.end in
    let start = c.in-Whole.start in
    let count = c.in-Whole.count in
    let h = c.in-Whole-take_body.ensures.end in
    let enough : start + count ≤ length (taken ++ b.0) = rw (sym b.1) h in
    let body_is = body_range c.deref.result.now (taken ++ b.0) start count (c.deref.ensures.value ∙ b.1) in
    (e.came, e.all, subst (λ x. ((k : Contents) → Decides token (HasFound k) x (Refuses c.in-Err.refusal)) ⊎ (c.in-Err.refusal ≡ NoMemory)) (sym split) (body_refused token taken b.0 start count few takes e.back _ c.in-Err.refusal enough body_is c.in-Err.ensures))
