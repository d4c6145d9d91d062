use Rattle.std.proofs.Common.{refl}
use Rattle.sync_server.specs.declared.served.Served.TheVariants.{Answered, Cut}
use Rattle.budget_top.proofs.Behind.{lines_last}
use Rattle.budget_top.proofs.laws.ends_are_told.Goals as goal

pub returns : goal.returns
returns c = record {
  none = refl;
  answered = λ earlier visit status. lines_last earlier (record { visit = visit; end = Answered status });
  cut = λ earlier visit. lines_last earlier (record { visit = visit; end = Cut });
}
