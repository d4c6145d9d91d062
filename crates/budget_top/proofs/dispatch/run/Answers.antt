use Rattle.std.proofs.Common.{rules, refl, ap, sym}
use Rattle.budget_ports.specs.Faults.{count_after}
use Rattle.budget_top.specs.Words.{planned}
use Rattle.budget_top.specs.GenerateRun.{generate_statuses}
use Rattle.budget_top.specs.WorldRun.{world_statuses}
use Rattle.budget_top.proofs.Refusing.{with_target, refused_merge, device_not_refused, device_along, never_so, refused_serve, serve_along}
use Rattle.budget_top.proofs.RefusingPlays.{not_known, refused_generate, generate_along, refused_world}
use Rattle.budget_top.proofs.WithoutFaults.{ends_unfailed}
use Rattle.budget_top.proofs.Acknowledged.{acknowledged_stay}
use Rattle.budget_top.proofs.dispatch.run.Goals as goal

pub returns-in-Err-clause-ran : goal.returns-in-Err-clause-ran
returns-in-Err-clause-ran g c = record {
  words = search rules;
  refused = search rules;
  merge = λ named. rw c.refusal_status.ensures (refused_merge c.args.words.now c.in-Err.fault (g.S.Source.left c.args.source.now) (g.W.Sink.taken c.args.sink.now) c.in-Err.ensures.err named);
  device = search rules;
  serve = λ plan is mode. rw c.refusal_status.ensures (refused_serve c.args.words.now c.in-Err.fault plan _ c.in-Err.ensures.err is);
  generate = λ plan is mode. rw c.refusal_status.ensures (refused_generate c.args.words.now c.in-Err.fault plan (g.W.Sink.taken c.args.sink.now) c.in-Err.ensures.err is);
  world = λ named. rw c.refusal_status.ensures (refused_world c.args.words.now c.in-Err.fault (g.S.Source.left c.args.source.now) (g.W.Sink.taken c.args.sink.now) c.in-Err.ensures.err named);
  source = search rules;
  sink = search rules;
  keeper = λ mode named ends. search rules;
}

pub returns-in-Device-Some-clause-ran : goal.returns-in-Device-Some-clause-ran
returns-in-Device-Some-clause-ran g c = record {
  words = λ two. absurd (device_not_refused _ _ _ _ _ _ _ _ _ (with_target c.target_of-target.ensures c.run_device.ensures.run) two);
  refused = search rules;
  merge = search rules;
  device = λ plan node is mode has.
      device_along _ c.in-Ok.plan plan c.in-Device-Some.node node _ _ _ _ _ _ _ c.in-Ok.ensures.ok c.in-Device-Some.is-1 is has (with_target c.target_of-target.ensures c.run_device.ensures.run);
  serve = search rules;
  generate = search rules;
  world = search rules;
  source = search rules;
  sink = search rules;
  keeper = λ mode named ends. c.run_device.ensures.keeper;
}

pub returns-in-Serve-default-clause-ran : goal.returns-in-Serve-default-clause-ran
returns-in-Serve-default-clause-ran g c = record {
  words = λ two. absurd (never_so c.run_serve.result 2 two c.run_serve.ensures.words);
  refused = search rules;
  merge = search rules;
  device = search rules;
  serve = λ plan is mode. serve_along (planned c.args.words.now) c.in-Ok.plan plan c.run_serve.result _ _ c.in-Ok.ensures.ok is c.run_serve.ensures.run;
  generate = search rules;
  world = search rules;
  source = ap (λ b. count_after b (g.S.Source.faults c.args.source.now)) (sym c.run_serve.ensures.source);
  sink = λ other. c.run_serve.ensures.sink;
  keeper = λ mode named ends. search rules;
}

pub returns-in-Generate-default-clause-ran : goal.returns-in-Generate-default-clause-ran
returns-in-Generate-default-clause-ran g c =
    let known = c.run_generate.ensures.run.known in
    record {
      words = λ two. absurd (never_so c.run_generate.result 2 two (not_known c.run_generate.result 2 generate_statuses known refl));
      refused = search rules;
      merge = search rules;
      device = search rules;
      serve = search rules;
      generate = λ plan is mode. generate_along (planned c.args.words.now) c.in-Ok.plan plan c.run_generate.result _ _ c.in-Ok.ensures.ok is c.run_generate.ensures.run;
      world = search rules;
      source = ap (λ b. count_after b (g.S.Source.faults c.args.source.now)) (sym (not_known c.run_generate.result 4 generate_statuses known refl));
      sink = λ other. c.run_generate.ensures.sink;
      keeper = λ mode named ends. ap (λ b. count_after b (g.K.Keeper.faults c.args.keeper.now)) (sym (not_known c.run_generate.result 6 generate_statuses known refl));
    }

pub returns-in-World-default-clause-ran : goal.returns-in-World-default-clause-ran
returns-in-World-default-clause-ran g c =
    let known = c.run_world.ensures.run.known in
    record {
      words = λ two. absurd (never_so c.run_world.result 2 two (not_known c.run_world.result 2 world_statuses known refl));
      refused = search rules;
      merge = search rules;
      device = search rules;
      serve = search rules;
      generate = search rules;
      world = λ named. c.run_world.ensures.run;
      source = c.run_world.ensures.source;
      sink = λ other. c.run_world.ensures.sink;
      keeper = λ mode named ends. ap (λ b. count_after b (g.K.Keeper.faults c.args.keeper.now)) (sym (not_known c.run_world.result 6 world_statuses known refl));
    }

pub returns-in-Merge-default-clause-ran : goal.returns-in-Merge-default-clause-ran
returns-in-Merge-default-clause-ran g c = search rules

pub returns-in-Err-clause-unfailed : goal.returns-in-Err-clause-unfailed
returns-in-Err-clause-unfailed g c = ends_unfailed c.plans_are_asked.ensures c.connections_are_decided.ensures _ _ _ _ (returns-in-Err-clause-ran g c)

pub returns-in-Err-clause-acknowledged : goal.returns-in-Err-clause-acknowledged
returns-in-Err-clause-acknowledged g c = acknowledged_stay c.accepted_are_joined.ensures c.plans_are_asked.ensures _ _ _ _ (returns-in-Err-clause-ran g c)

pub returns-in-Merge-default-clause-unfailed : goal.returns-in-Merge-default-clause-unfailed
returns-in-Merge-default-clause-unfailed g c = ends_unfailed c.plans_are_asked.ensures c.connections_are_decided.ensures _ _ _ _ (returns-in-Merge-default-clause-ran g c)

pub returns-in-Merge-default-clause-acknowledged : goal.returns-in-Merge-default-clause-acknowledged
returns-in-Merge-default-clause-acknowledged g c = acknowledged_stay c.accepted_are_joined.ensures c.plans_are_asked.ensures _ _ _ _ (returns-in-Merge-default-clause-ran g c)

pub returns-in-Device-Some-clause-unfailed : goal.returns-in-Device-Some-clause-unfailed
returns-in-Device-Some-clause-unfailed g c = ends_unfailed c.plans_are_asked.ensures c.connections_are_decided.ensures _ _ _ _ (returns-in-Device-Some-clause-ran g c)

pub returns-in-Device-Some-clause-acknowledged : goal.returns-in-Device-Some-clause-acknowledged
returns-in-Device-Some-clause-acknowledged g c = acknowledged_stay c.accepted_are_joined.ensures c.plans_are_asked.ensures _ _ _ _ (returns-in-Device-Some-clause-ran g c)

pub returns-in-Serve-default-clause-unfailed : goal.returns-in-Serve-default-clause-unfailed
returns-in-Serve-default-clause-unfailed g c = ends_unfailed c.plans_are_asked.ensures c.connections_are_decided.ensures _ _ _ _ (returns-in-Serve-default-clause-ran g c)

pub returns-in-Serve-default-clause-acknowledged : goal.returns-in-Serve-default-clause-acknowledged
returns-in-Serve-default-clause-acknowledged g c = acknowledged_stay c.accepted_are_joined.ensures c.plans_are_asked.ensures _ _ _ _ (returns-in-Serve-default-clause-ran g c)

pub returns-in-Generate-default-clause-unfailed : goal.returns-in-Generate-default-clause-unfailed
returns-in-Generate-default-clause-unfailed g c = ends_unfailed c.plans_are_asked.ensures c.connections_are_decided.ensures _ _ _ _ (returns-in-Generate-default-clause-ran g c)

pub returns-in-Generate-default-clause-acknowledged : goal.returns-in-Generate-default-clause-acknowledged
returns-in-Generate-default-clause-acknowledged g c = acknowledged_stay c.accepted_are_joined.ensures c.plans_are_asked.ensures _ _ _ _ (returns-in-Generate-default-clause-ran g c)

pub returns-in-World-default-clause-unfailed : goal.returns-in-World-default-clause-unfailed
returns-in-World-default-clause-unfailed g c = ends_unfailed c.plans_are_asked.ensures c.connections_are_decided.ensures _ _ _ _ (returns-in-World-default-clause-ran g c)

pub returns-in-World-default-clause-acknowledged : goal.returns-in-World-default-clause-acknowledged
returns-in-World-default-clause-acknowledged g c = acknowledged_stay c.accepted_are_joined.ensures c.plans_are_asked.ensures _ _ _ _ (returns-in-World-default-clause-ran g c)
