-- What a keeper gives of a group, and what it holds after an append and after a put.
use Rattle.std.specs.Prelude.{◌≡◌, ◌≢◌, ◌↔◌, List, ◌∷◌, ◌++◌, None, Some}
use Rattle.std.specs.List.{Contains, AllByRecursion}
use Rattle.std.specs.FinMap.{get}
use Rattle.std.specs.declared.cmp.Ordering.TheVariants.{Less}
use Rattle.budget_ports.specs.declared.keeper.Record.{Record}
use Rattle.budget_ports.specs.Contents.{Contents, Text, Place, text_cmp, records_after, appended, with_text}
use Rattle.budget_ports.specs.Keeper.{Rise}

-- these are the records that a group has above a key, each once, by key
pub record AreAbove (k : Contents) (group after : Text) (rs : List Record) : Type 0 where
  pub rise : Rise rs
  pub exactly : (r : Record) → Contains rs r ↔ ((text_cmp after r.key ≡ Less) × (get k.records (group, r.key) ≡ Some r.body))

-- none of the records has the key
abbrev pub LackKey : Text → List Record → Type 0
LackKey key = AllByRecursion (λ r. r.key ≢ key)

-- a group has got records
pub record HasGot (group : Text) (batch : List Record) (old new : Contents) : Type 0 where
  -- what stood at a place stands there still, as it was
  pub stays : (place : Place) (body : Text) → get old.records place ≡ Some body → get new.records place ≡ Some body
  -- under a key that the group lacked stands the first record that has it
  pub first : (front rest : List Record) (r : Record) → batch ≡ front ++ r ∷ rest → LackKey r.key front → get old.records (group, r.key) ≡ None → get new.records (group, r.key) ≡ Some r.body
  -- and under one that no record has, what stood there
  pub no_other : (key : Text) → LackKey key batch → get new.records (group, key) ≡ get old.records (group, key)
  -- other groups, and the texts, are as they were
  pub groups : (place : Place) → place.0 ≢ group → get new.records place ≡ get old.records place
  pub texts : new.texts ≡ old.texts

-- a name has got a text
pub record HasText (name text : Text) (old new : Contents) : Type 0 where
  pub here : get new.texts name ≡ Some text
  -- other names, and the records, are as they were
  pub others : (other : Text) → other ≢ name → get new.texts other ≡ get old.texts other
  pub records : new.records ≡ old.records

-- what a keeper gives, and what it holds after an append and after a put
pub record ContentsAreKept : Type 0 where
  pub above : (k : Contents) (group after : Text) → AreAbove k group after (records_after k group after)
  pub got : (k : Contents) (group : Text) (batch : List Record) → HasGot group batch k (appended k group batch)
  pub put : (k : Contents) (name text : Text) → HasText name text k (with_text k name text)
