use Rattle.std.proofs.Common.{◌∙◌}
use Rattle.budget_top.proofs.Answering.{reported_or_cut}
use Rattle.budget_top.proofs.device_run.bad_record.Goals as goal

pub returns-clause-reported : goal.returns-clause-reported
returns-clause-reported g c = λ is. reported_or_cut c.write_and_flush-reported.result c.args.index _ _ _ _ _ (c.as_bytes.ensures.value ∙ c.as_str.ensures.value ∙ c.in-Ok.ensures.ok) c.write_and_flush-reported.ensures.all c.write_and_flush-reported.ensures.front c.write_and_flush-reported.ensures.count
