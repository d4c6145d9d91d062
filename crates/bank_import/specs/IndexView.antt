-- What an index stands for.
use Rattle.bank_import.specs.Groups.{AreById, AreBySpan}
use Rattle.bank_import.specs.declared.index.Index.TheInside.{Inside}

-- each group has the candidates of its key
pub record IsIndex (x : Inside) : Type 0 where
  pub by_id : AreById x.by_id x.all.items
  pub by_span : AreBySpan x.by_span x.all.items
