-- What a keeper over a connection is seen as.
use Rattle.std.specs.Prelude.{◌≡◌, ℕ, Bool, true, false, IsTrue, refl}
use Rattle.std.specs.Coded.{Coded, code_by, coded×, coded_ℕ, coded_bool}
use Rattle.sqlite.specs.Store.{Ghosts}
use Rattle.sqlite.specs.State.{HasCleanDisk}
use Rattle.sqlite.specs.Held.{Held, held_code, state}
use Rattle.sqlite_keeper.specs.Contents.{Contents, MayLeave}

-- its connection, and what it has beside it
pub record Keeping (S : Type 0) : Type 0 where
  pub conn : Held S
  pub is_shut : Bool
  -- the tables are the keeper's, and nothing else stands beside them
  pub is_ours : Bool
  pub faults : ℕ

abbrev pub keeping_code : {S : Type 0} → Coded S → Coded (Keeping S)
keeping_code {S} store =
    code_by (Held S × (Bool × (Bool × ℕ))) (coded× (held_code store) (coded× coded_bool (coded× coded_bool coded_ℕ))) (λ k. (k.conn, (k.is_shut, (k.is_ours, k.faults))))
    (λ p. record { conn = p.0; is_shut = p.1.0; is_ours = p.1.1.0; faults = p.1.1.1 }) (λ _. refl)

-- it is not shut, the tables are the keeper's, and the store is open and clean
pub record TellsAll {S : Type 0} (g : Ghosts S) (k : Keeping S) : Type 0 where
  pub unshut : k.is_shut ≡ false
  pub ours : k.is_ours ≡ true
  pub clean : HasCleanDisk (state g k.conn)
  pub is_open : IsTrue (state g k.conn).is_open

-- what a stop at this moment may leave of a keeper that is not shut, over its own tables and a clean disk: of any other nothing is said
pub record MayBeLeft {S : Type 0} (g : Ghosts S) (k : Keeping S) (c : Contents) : Type 0 where
  pub unshut : k.is_shut ≡ false
  pub ours : k.is_ours ≡ true
  pub clean : HasCleanDisk (state g k.conn)
  pub left : MayLeave g k.conn c
