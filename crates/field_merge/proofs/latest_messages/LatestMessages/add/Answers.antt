use Rattle.std.proofs.lemmas.Result.{on_ok_weaker}
use Rattle.field_merge.proofs.latest_messages.LatestMessages.add.Goals as goal

pub returns-clause-came : goal.returns-clause-came
returns-clause-came c = on_ok_weaker c.tidy_when_many.result (λ more ms came. more _ (c.in_ok-gather.ensures.came ms came)) c.tidy_when_many.ensures.came

pub returns-clause-few : goal.returns-clause-few
returns-clause-few c = on_ok_weaker c.tidy_when_many.result (λ few ms came. few _ (c.in_ok-gather.ensures.came ms came)) c.tidy_when_many.ensures.few
