-- A world that is played.
use Rattle.std.specs.Prelude.{◌≡◌, ◌≤◌, ℕ, false, length}
use Rattle.sync_world.specs.Whole.{WorldModel}

-- a world that can be played on, in which so many events have happened
pub record IsPlayed (w : WorldModel) (n : ℕ) : Type 0 where
  pub live : w.spent ≡ false
  pub asked : length w.world.requests ≤ n
  pub sent : length w.world.replies ≤ n
