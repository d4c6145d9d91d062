use Rattle.std.proofs.Common.{◌-◌, FitsSigned, rules, w32, inl, refl, ap, ◌∙◌, arith}
use Rattle.std.proofs.lemmas.Int.{to_z-of_z}
use Rattle.budget_ports.specs.Faults.{count_after}
use Rattle.device_sync.specs.Sync.{is_link, is_keeper}
use Rattle.device_sync.proofs.Loop.{left_before, usable_after, goes_none, goes_on, ends_agreed, ends_out, ends_fault, ends_between}
use Rattle.device_sync.proofs.syncing.converse.Goals as goal

pub rounds-init : goal.rounds-init
rounds-init g c = record {
  goes = goes_none _ _ _ _ _ _;
  live = c.requires.live;
  idle = c.requires.idle;
  most = omega arith;
  before = λ k h. inl h;
  back = λ t. t;
  count = refl;
  link_count = refl;
}

pub round-requires-clause-live : goal.round-requires-clause-live
round-requires-clause-live g c = c.rounds.invariant.live

pub round-requires-clause-idle : goal.round-requires-clause-idle
round-requires-clause-idle g c = c.rounds.invariant.idle

pub returns-in-Err-clause-talked : goal.returns-in-Err-clause-talked
returns-in-Err-clause-talked g c = ends_fault _ _ _ _ _ _ _ _ _ _ _ c.rounds.left c.in-Err.fault c.rounds.invariant.goes c.in-Err.ensures.round (record { back = c.in-Err.ensures.told; carries = c.in-Err.ensures.carries; texts = c.in-Err.ensures.texts; alone = c.in-Err.ensures.alone })

pub returns-in-Err-clause-texts : goal.returns-in-Err-clause-texts
returns-in-Err-clause-texts g c = λ t. c.in-Err.ensures.texts t ∙ c.rounds.invariant.goes.texts (c.in-Err.ensures.told t)

pub returns-in-Err-clause-told : goal.returns-in-Err-clause-told
returns-in-Err-clause-told g c = λ t. c.rounds.invariant.back (c.in-Err.ensures.told t)

pub returns-in-Err-clause-count : goal.returns-in-Err-clause-count
returns-in-Err-clause-count g c = c.in-Err.ensures.count ∙ ap (count_after (is_keeper c.in-Err.fault)) c.rounds.invariant.count

pub returns-in-Err-clause-link_count : goal.returns-in-Err-clause-link_count
returns-in-Err-clause-link_count g c = c.in-Err.ensures.link_count ∙ ap (count_after (is_link c.in-Err.fault)) c.rounds.invariant.link_count

pub overflow_sub-result : goal.overflow_sub-result
overflow_sub-result g c = omega (arith, c.rounds.invariant.most)

pub returns-in-Ok-Agreed-clause-talked : goal.returns-in-Ok-Agreed-clause-talked
returns-in-Ok-Agreed-clause-talked g c = ends_agreed _ _ _ _ _ _ _ _ _ _ _ c.rounds.left c.rounds.invariant.goes (rw c.in-Ok-Agreed.field-0-is at c.in-Ok-Agreed.ensures.round) (record { back = c.in-Ok-Agreed.ensures.told; carries = c.in-Ok-Agreed.ensures.carries; texts = c.in-Ok-Agreed.ensures.texts; alone = c.in-Ok-Agreed.ensures.alone })

pub returns-in-Ok-Agreed-clause-texts : goal.returns-in-Ok-Agreed-clause-texts
returns-in-Ok-Agreed-clause-texts g c = λ t. c.in-Ok-Agreed.ensures.texts t ∙ c.rounds.invariant.goes.texts (c.in-Ok-Agreed.ensures.told t)

pub returns-in-Ok-Agreed-clause-told : goal.returns-in-Ok-Agreed-clause-told
returns-in-Ok-Agreed-clause-told g c = λ t. c.rounds.invariant.back (c.in-Ok-Agreed.ensures.told t)

pub returns-in-Ok-Agreed-clause-count : goal.returns-in-Ok-Agreed-clause-count
returns-in-Ok-Agreed-clause-count g c = c.in-Ok-Agreed.ensures.count ∙ c.rounds.invariant.count

pub returns-in-Ok-Agreed-clause-link_count : goal.returns-in-Ok-Agreed-clause-link_count
returns-in-Ok-Agreed-clause-link_count g c = c.in-Ok-Agreed.ensures.link_count ∙ c.rounds.invariant.link_count

pub returns-then-left-eq0-clause-talked : goal.returns-then-left-eq0-clause-talked
returns-then-left-eq0-clause-talked g c =
    let mine : FitsSigned w32 c.in-Ok-Differ.mine = search rules in
    let theirs : FitsSigned w32 c.in-Ok-Differ.theirs = search rules in
    ends_out _ _ _ _ _ _ _ _ _ _ _ c.rounds.left c.in-Ok-Differ.next _ _ _ _ c.rounds.invariant.goes (rw c.in-Ok-Differ.field-0-is at c.in-Ok-Differ.ensures.round) c.if-left-eq0.true
    (to_z-of_z w32 c.in-Ok-Differ.mine mine) (to_z-of_z w32 c.in-Ok-Differ.theirs theirs) (record { back = c.in-Ok-Differ.ensures.told; carries = c.in-Ok-Differ.ensures.carries; texts = c.in-Ok-Differ.ensures.texts; alone = c.in-Ok-Differ.ensures.alone })

pub returns-then-left-eq0-clause-texts : goal.returns-then-left-eq0-clause-texts
returns-then-left-eq0-clause-texts g c = λ t. c.in-Ok-Differ.ensures.texts t ∙ c.rounds.invariant.goes.texts (c.in-Ok-Differ.ensures.told t)

pub returns-then-left-eq0-clause-told : goal.returns-then-left-eq0-clause-told
returns-then-left-eq0-clause-told g c = λ t. c.rounds.invariant.back (c.in-Ok-Differ.ensures.told t)

pub returns-then-left-eq0-clause-count : goal.returns-then-left-eq0-clause-count
returns-then-left-eq0-clause-count g c = c.in-Ok-Differ.ensures.count ∙ c.rounds.invariant.count

pub returns-then-left-eq0-clause-link_count : goal.returns-then-left-eq0-clause-link_count
returns-then-left-eq0-clause-link_count g c = c.in-Ok-Differ.ensures.link_count ∙ c.rounds.invariant.link_count

pub returns-in-Err-moment-clause-talked : goal.returns-in-Err-moment-clause-talked
returns-in-Err-moment-clause-talked g c =
    ends_between _ _ _ _ _ _ _ _ (c.rounds.left - 1) _
    (goes_on _ _ _ _ _ _ _ _ _ _ _ c.rounds.left (c.rounds.left - 1) c.in-Ok-Differ.next _ _ _ c.rounds.invariant.goes (rw c.in-Ok-Differ.field-0-is at c.in-Ok-Differ.ensures.round)
    (omega arith) refl (record { back = c.in-Ok-Differ.ensures.told; carries = c.in-Ok-Differ.ensures.carries; texts = c.in-Ok-Differ.ensures.texts; alone = c.in-Ok-Differ.ensures.alone }))

pub returns-in-Err-moment-clause-texts : goal.returns-in-Err-moment-clause-texts
returns-in-Err-moment-clause-texts g c = λ t. c.in-Ok-Differ.ensures.texts t ∙ c.rounds.invariant.goes.texts (c.in-Ok-Differ.ensures.told t)

pub returns-in-Err-moment-clause-told : goal.returns-in-Err-moment-clause-told
returns-in-Err-moment-clause-told g c = λ t. c.rounds.invariant.back (c.in-Ok-Differ.ensures.told t)

pub returns-in-Err-moment-clause-count : goal.returns-in-Err-moment-clause-count
returns-in-Err-moment-clause-count g c = c.in-Ok-Differ.ensures.count ∙ c.rounds.invariant.count

pub returns-in-Err-moment-clause-link_count : goal.returns-in-Err-moment-clause-link_count
returns-in-Err-moment-clause-link_count g c = c.in-Ok-Differ.ensures.link_count ∙ c.rounds.invariant.link_count

pub rounds-preserved : goal.rounds-preserved
rounds-preserved g c = record {
  goes = goes_on _ _ _ _ _ _ _ _ _ _ _ c.rounds.left (c.rounds.left - 1) c.in-Ok-Differ.next _ _ _ c.rounds.invariant.goes (rw c.in-Ok-Differ.field-0-is at c.in-Ok-Differ.ensures.round)
      (omega arith) c.in-Ok.ensures (record { back = c.in-Ok-Differ.ensures.told; carries = c.in-Ok-Differ.ensures.carries; texts = c.in-Ok-Differ.ensures.texts; alone = c.in-Ok-Differ.ensures.alone });
  live = c.in-Ok-Differ.ensures.usable.0;
  idle = c.in-Ok-Differ.ensures.usable.1;
  most = omega (arith, c.rounds.invariant.most);
  before = left_before c.in-Ok-Differ.ensures.before c.rounds.invariant.before c.rounds.invariant.back;
  back = λ t. c.rounds.invariant.back (c.in-Ok-Differ.ensures.told t);
  count = c.in-Ok-Differ.ensures.count ∙ c.rounds.invariant.count;
  link_count = c.in-Ok-Differ.ensures.link_count ∙ c.rounds.invariant.link_count;
}

pub returns-in-Ok-Agreed-clause-alone : goal.returns-in-Ok-Agreed-clause-alone
returns-in-Ok-Agreed-clause-alone g c = λ a. c.in-Ok-Agreed.ensures.alone (c.rounds.invariant.goes.alone a)

pub returns-then-left-eq0-clause-alone : goal.returns-then-left-eq0-clause-alone
returns-then-left-eq0-clause-alone g c = λ a. c.in-Ok-Differ.ensures.alone (c.rounds.invariant.goes.alone a)

pub returns-in-Err-clause-before : goal.returns-in-Err-clause-before
returns-in-Err-clause-before g c = left_before c.in-Err.ensures.before c.rounds.invariant.before c.rounds.invariant.back

pub returns-in-Ok-Agreed-clause-before : goal.returns-in-Ok-Agreed-clause-before
returns-in-Ok-Agreed-clause-before g c = left_before c.in-Ok-Agreed.ensures.before c.rounds.invariant.before c.rounds.invariant.back

pub returns-then-left-eq0-clause-before : goal.returns-then-left-eq0-clause-before
returns-then-left-eq0-clause-before g c = left_before c.in-Ok-Differ.ensures.before c.rounds.invariant.before c.rounds.invariant.back

pub returns-in-Err-moment-clause-before : goal.returns-in-Err-moment-clause-before
returns-in-Err-moment-clause-before g c = left_before c.in-Ok-Differ.ensures.before c.rounds.invariant.before c.rounds.invariant.back

pub returns-in-Err-clause-alone : goal.returns-in-Err-clause-alone
returns-in-Err-clause-alone g c = usable_after _ _ _ c.in-Err.fault c.in-Err.ensures.alone c.rounds.invariant.goes.alone
