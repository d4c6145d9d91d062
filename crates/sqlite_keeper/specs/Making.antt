-- A store of the first version becomes one of the second, step by step.
use Rattle.std.specs.Prelude.{◌≡◌, [], true, IsTrue}
use Rattle.std.specs.FinMap.{insert}
use Rattle.sqlite.specs.Store.{Ghosts}
use Rattle.sqlite.specs.Held.{Held, state}
use Rattle.store_tables.specs.Texts.{moved_tables}
use Rattle.store_tables.specs.Named.{texts_in}
use Rattle.sqlite_value.specs.Order.{Row}
use Rattle.sqlite_rules.specs.Lists.{Has}
use Rattle.store_tables.specs.Joined.{item_place}
use Rattle.store_tables.specs.Stored.{first_records}
use Rattle.sqlite_keeper.specs.Contents.{Rises, Within, records_now, IsKept}
use Rattle.sqlite_keeper.specs.Adopting.{version_name, version_two}

-- the new tables stand empty beside the records of the first version
pub record HasItems {S : Type 0} (g : Ghosts S) (h : Held S) : Type 0 where
  pub within : Within moved_tables g h
  pub items : Rises ((state g h).now.trees 0)
  pub once : (r s : Row) → Has ((state g h).now.trees 0) r → Has ((state g h).now.trees 0) s → item_place r ≡ item_place s → r ≡ s
  pub named : Rises ((state g h).now.trees 2)
  pub no_groups : (state g h).now.trees 4 ≡ []
  pub no_entries : (state g h).now.trees 7 ≡ []

-- so they were made: the records and the texts stay, and nothing more is committed
pub record Widens {S : Type 0} (g : Ghosts S) (old new : Held S) : Type 0 where
  pub has : HasItems g new
  pub items : (state g new).now.trees 0 ≡ (state g old).now.trees 0
  pub named : (state g new).now.trees 2 ≡ (state g old).now.trees 2
  pub committed : (state g new).committed ≡ (state g old).committed

-- the new tables hold the records of the first version, which stay in the old one, and so do the texts
pub record AreCopied {S : Type 0} (g : Ghosts S) (old new : Held S) : Type 0 where
  pub within : Within moved_tables g new
  pub records : records_now moved_tables g new ≡ first_records ((state g old).now.trees 0)
  pub items : (state g new).now.trees 0 ≡ (state g old).now.trees 0
  pub named : (state g new).now.trees 2 ≡ (state g old).now.trees 2
  pub committed : (state g new).committed ≡ (state g old).committed

-- the new tables stand beside those of the first version
pub record HasCopies {S : Type 0} (g : Ghosts S) (h : Held S) : Type 0 where
  pub within : Within moved_tables g h
  pub items : Rises ((state g h).now.trees 0)
  pub named : Rises ((state g h).now.trees 2)

-- the old table is empty, the text `version` is that of the second one, the other texts and the new tables stay
pub record Settles {S : Type 0} (g : Ghosts S) (old new : Held S) : Type 0 where
  pub is_open : IsTrue (state g new).is_open
  pub inside : new.in_transaction ≡ true
  pub kept : IsKept moved_tables (state g new).now
  pub items : (state g new).now.trees 0 ≡ []
  pub records : records_now moved_tables g new ≡ records_now moved_tables g old
  pub texts : texts_in ((state g new).now.trees 2) ≡ insert (texts_in ((state g old).now.trees 2)) version_name version_two
  pub committed : (state g new).committed ≡ (state g old).committed
