use Rattle.sqlite_keeper.proofs.FoundLemmas.{opened_rise}
use Rattle.sqlite_keeper.proofs.taking.open.Goals as goal

pub adopt-requires-clause-ordered : goal.adopt-requires-clause-ordered
adopt-requires-clause-ordered c clean is_open =
    let opened = c.in-Ok.ensures.opened clean in
    opened_rise _ _ _ (c.in-Ok.ensures.found clean).reads opened.0.clean (opened.1 is_open).0
