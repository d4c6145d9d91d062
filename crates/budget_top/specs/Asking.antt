-- What a plan takes from the words: each value from its own word.
use Rattle.std.specs.Prelude.{◌≡◌, ◌≢◌, ◌↔◌, ◌⊎◌, ◌≤◌, ℕ, List, length, true, codes, Option, None, Some, Ok, slice_index}
use Rattle.std.specs.Char.{is_ascii_digit}
use Rattle.std.specs.List.{list_all, Contains}
use Rattle.std.specs.Str.Parse.{digits_value}
use Rattle.hybrid_clock.specs.Node.{node_of}
use Rattle.budget_top.specs.declared.words.Mode.{Mode}
use Rattle.budget_top.specs.declared.words.Mode.TheVariants.{Merge, Device, Serve, Generate, World}
use Rattle.budget_top.specs.declared.words.Plan.{Plan}
use Rattle.budget_top.specs.Line.{Pair, line}
use Rattle.budget_top.specs.Words.{is_name_byte, planned}

-- nothing is given under the name
abbrev pub IsAbsent : List Pair → List ℕ → Type 0
IsAbsent pairs name = (value : List ℕ) → Contains pairs (name, value) → ⊥

-- the value is given under the name, or nothing is, and it is the other one
abbrev pub IsGivenOr : List Pair → List ℕ → List ℕ → List ℕ → Type 0
IsGivenOr pairs name other value = Contains pairs (name, value) ⊎ (IsAbsent pairs name × (value ≡ other))

-- the word that is given for the mode is the mode's name
abbrev pub IsModeOf : List Pair → Mode → Type 0
IsModeOf pairs Merge = Contains pairs (codes "mode", codes "merge")
IsModeOf pairs Device = Contains pairs (codes "mode", codes "device")
IsModeOf pairs Serve = Contains pairs (codes "mode", codes "serve")
IsModeOf pairs Generate = Contains pairs (codes "mode", codes "generate")
IsModeOf pairs World = Contains pairs (codes "mode", codes "world")

-- the node is the one that the given text names; a device has one
abbrev pub IsNodeOf : List Pair → Mode → Option (List ℕ) → Type 0
IsNodeOf pairs mode None = IsAbsent pairs (codes "node") × (mode ≢ Device)
IsNodeOf pairs mode (Some node) = (text : List ℕ) × Contains pairs (codes "node", text) × (node_of text ≡ Ok node)

-- the text is the plain digits of the number, which is from 1 to the greatest one
pub record IsCount (most : ℕ) (text : List ℕ) (number : ℕ) : Type 0 where
  pub digits : list_all is_ascii_digit text ≡ true
  -- no `0` in front
  pub plain : slice_index text 0 ≢ 48
  pub value : digits_value 10 text ≡ number
  pub some : 1 ≤ number
  pub few : number ≤ most

-- the store is the path that is given, or there is none
abbrev pub IsStoreOf : List Pair → Option (List ℕ) → Type 0
IsStoreOf pairs None = IsAbsent pairs (codes "store")
IsStoreOf pairs (Some path) = Contains pairs (codes "store", path)

-- the most that a count may be: 100,000 transactions of a book that is generated, and else 1,000,000
abbrev pub most_in : Mode → ℕ
most_in Generate = 100_000
most_in other = 1_000_000

-- the count is the number that the given text says, or 1000
abbrev pub IsCountOf : List Pair → Mode → ℕ → Type 0
IsCountOf pairs mode count =
    ((text : List ℕ) × Contains pairs (codes "count", text) × IsCount (most_in mode) text count) ⊎ (IsAbsent pairs (codes "count") × (count ≡ 1000))

-- one to sixty-four letters, digits, hyphens and low lines
pub record IsNameText (text : List ℕ) : Type 0 where
  pub some : 1 ≤ length text
  pub few : length text ≤ 64
  pub bytes : list_all is_name_byte text ≡ true

-- the plan is what the pairs of a command line ask for
pub record IsPlanOf (pairs : List Pair) (plan : Plan) : Type 0 where
  pub mode : IsModeOf pairs plan.mode
  pub store : IsStoreOf pairs plan.store
  pub node : IsNodeOf pairs plan.mode plan.node
  pub count : IsCountOf pairs plan.mode plan.count
  pub token : IsGivenOr pairs (codes "token") (codes "local") plan.token × IsNameText plan.token
  pub file : IsGivenOr pairs (codes "file") (codes "home") plan.file × IsNameText plan.file
  pub group : IsGivenOr pairs (codes "group") (codes "home") plan.group × IsNameText plan.group
  pub listen : IsGivenOr pairs (codes "listen") (codes "127.0.0.1:5006") plan.listen
  pub peer : IsGivenOr pairs (codes "peer") (codes "127.0.0.1:5006") plan.peer

-- the words ask for a plan exactly where they are a command line whose pairs ask for it
abbrev pub PlansAreAsked : Type 0
PlansAreAsked = (words : List (List ℕ)) (plan : Plan) → (planned words ≡ Ok plan) ↔ ((pairs : List Pair) × (line words ≡ Some pairs) × IsPlanOf pairs plan)
