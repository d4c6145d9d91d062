-- A device and a server of plans with one file and group.
use Rattle.std.proofs.Common.{List, ℕ, Some, refl, sym, ap, ◌∙◌}
use Rattle.std.specs.FinMap.{get}
use Rattle.budget_ports.specs.Contents.{with_text}
use Rattle.sync_server.specs.Serving.{file_name}
use Rattle.sync_laws.specs.Contents.{ContentsAreKept}
use Rattle.sync_laws.specs.Plans.{PlansMeet}

pub plans_meet_so : ContentsAreKept → PlansMeet
plans_meet_so law = record {
  own = λ plan. record { token = refl; file = refl; group = refl };
  met = λ plan other k since ms file group.
      (let kept = (law.put k (file_name other.file) other.group).here in
      ap (λ (name : List ℕ). get (with_text k (file_name other.file) other.group).texts (file_name name)) file ∙ kept ∙ ap (λ (g : List ℕ). Some g) (sym group));
}
