-- A router with one route.
use Rattle.std.specs.Prelude.{◌≡◌, [], ◌∷◌, ⊤, codes}
use Rattle.matchit.specs.Rows.{RowsOf}
use Rattle.matchit.specs.Router.{RouteOf}

-- its one route is the path of a sync
abbrev pub IsSyncRouter : RowsOf (RouteOf ⊤) → Type 0
IsSyncRouter rows = (route : RouteOf ⊤) × (rows ≡ (codes "/sync/sync", route) ∷ [])
