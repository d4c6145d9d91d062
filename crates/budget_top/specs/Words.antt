-- What the words of the command line ask for.
use Rattle.std.specs.Prelude.{◌≡◌, ◌≤◌, ℕ, ◌&&◌, ◌||◌, ◌==◌, nat_le, Bool, not, List, [], length, Option, None, Some, Result, Ok, Err, IfSome, IsSome, codes, bytes_eq, slice_index, if◌then◌else◌}
use Rattle.std.specs.List.{list_all}
use Rattle.std.specs.Result.{result_ok}
use Rattle.std.specs.Option.{option_map, unwrap_or, ok_or}
use Rattle.std.specs.Char.{is_ascii_alphanumeric, is_ascii_digit}
use Rattle.std.specs.Str.Parse.{digits_value}
use Rattle.hybrid_clock.specs.declared.node.NodeFault.{NodeFault}
use Rattle.hybrid_clock.specs.Node.{IsNode, node_of}
use Rattle.budget_top.specs.Line.{mode, line, value_in}
use Rattle.budget_top.specs.declared.words.Mode.{Mode}
use Rattle.budget_top.specs.declared.words.Mode.TheVariants.{Merge, Device, Serve, Generate, World}
use Rattle.budget_top.specs.declared.words.Plan.{Plan}
use Rattle.budget_top.specs.declared.words.WordFault.{WordFault}
use Rattle.budget_top.specs.declared.words.WordFault.TheVariants.{Words, Mode as BadMode, NodeMissing, Node as BadNode, Count, Token, Name, NoMemory}

-- what comes next of the value of the first result, or else its fault
infixl 10 ◌>>=◌
abbrev pub ◌>>=◌ : {A B : Type 0} → Result A WordFault → (A → Result B WordFault) → Result B WordFault
Ok value >>= next = next value
Err fault >>= next = Err fault

-- the mode that a word names
abbrev pub mode_named : List ℕ → Result Mode WordFault
mode_named word =
    if bytes_eq word (codes "merge") then Ok Merge else (
    if bytes_eq word (codes "device") then Ok Device else (
    if bytes_eq word (codes "serve") then Ok Serve else (
    if bytes_eq word (codes "generate") then Ok Generate else (
    if bytes_eq word (codes "world") then Ok World else Err BadMode))))

-- a node that is given, in any mode
abbrev pub node_given : Result (List ℕ) NodeFault → Result (Option (List ℕ)) WordFault
node_given (Ok node) = Ok (Some node)
node_given (Err fault) = Err (BadNode fault)

-- the node: a device has one, and another mode needs none
abbrev pub node_for : Mode → Option (List ℕ) → Result (Option (List ℕ)) WordFault
node_for any (Some text) = node_given (node_of text)
node_for Merge None = Ok None
node_for Device None = Err NodeMissing
node_for Serve None = Ok None
node_for Generate None = Ok None
node_for World None = Ok None

-- whether a text has digits alone, and no `0` (48) in front
abbrev pub is_plain_number : List ℕ → Bool
is_plain_number text = list_all is_ascii_digit text && not (slice_index text 0 == 48)

-- the most that a count may be: of transactions where a book is generated
abbrev pub most_of : Mode → ℕ
most_of Generate = 100_000
most_of other = 1_000_000

-- whether a number is from 1 to the greatest one
abbrev pub is_within : ℕ → ℕ → Bool
is_within most number = nat_le 1 number && nat_le number most

-- such a number, which a text says by its plain digits
abbrev pub count_of : ℕ → List ℕ → Option ℕ
count_of most text = if is_plain_number text && is_within most (digits_value 10 text) then Some (digits_value 10 text) else None

-- the count of a mode, which is 1000 where none is given
abbrev pub count_from : Mode → Option (List ℕ) → Result ℕ WordFault
count_from any None = Ok 1000
count_from any (Some text) = ok_or (count_of (most_of any) text) Count

-- a letter or a digit of ASCII, `-` or `_`
abbrev pub is_name_byte : ℕ → Bool
is_name_byte byte = is_ascii_alphanumeric byte || (byte == 45 || byte == 95)

-- one to sixty-four of these
abbrev pub is_name : List ℕ → Bool
is_name text = nat_le 1 (length text) && (nat_le (length text) 64 && list_all is_name_byte text)

-- a text that has to be a name
abbrev pub name_or : WordFault → List ℕ → Result (List ℕ) WordFault
name_or fault text = if is_name text then Ok text else Err fault

-- the plan of a mode with its node and its count, by what else is given
abbrev pub plan_with : (List ℕ → Option (List ℕ)) → Mode → Option (List ℕ) → ℕ → Result Plan WordFault
plan_with given mode node count = do
  token ← name_or Token (unwrap_or (given (codes "token")) (codes "local"))
  file ← name_or Name (unwrap_or (given (codes "file")) (codes "home"))
  group ← name_or Name (unwrap_or (given (codes "group")) (codes "home"))
  Ok (record {
    mode = mode;
    store = given (codes "store");
    node = node;
    token = token;
    file = file;
    group = group;
    count = count;
    listen = unwrap_or (given (codes "listen")) (codes "127.0.0.1:5006");
    peer = unwrap_or (given (codes "peer")) (codes "127.0.0.1:5006");
  })

-- the plan, by what is given under each name, or the first fault in it
abbrev pub planned_by : (List ℕ → Option (List ℕ)) → Result Plan WordFault
planned_by given = do
  mode ← mode_named (unwrap_or (given mode) [])
  node ← node_for mode (given (codes "node"))
  count ← count_from mode (given (codes "count"))
  plan_with given mode node count

-- the plan that the pairs of a command line ask for; other words are refused
abbrev pub planned_line : Option (List (List ℕ × List ℕ)) → Result Plan WordFault
planned_line None = Err Words
planned_line (Some pairs) = planned_by (value_in pairs)

-- the plan that the words ask for, or the first fault in them
abbrev pub planned : List (List ℕ) → Result Plan WordFault
planned words = planned_line (line words)

-- the mode of that plan
abbrev pub planned_mode : List (List ℕ) → Option Mode
planned_mode words = option_map (λ (plan : Plan). plan.mode) (result_ok (planned words))

-- a node that is given is one, and a device has one
pub record IsNodeFor (mode : Mode) (node : Option (List ℕ)) : Type 0 where
  pub valid : IfSome node IsNode
  pub device : mode ≡ Device → IsSome node

-- a number from 1 to the greatest one
abbrev pub IsCountIn : ℕ → ℕ → Type 0
IsCountIn most number = (1 ≤ number) × (number ≤ most)

-- what holds of each plan
pub record IsPlan (plan : Plan) : Type 0 where
  pub node : IsNodeFor plan.mode plan.node
  pub count : IsCountIn (most_of plan.mode) plan.count

-- memory ran out, or it is the fault of the result
abbrev pub IsWordFault : {A : Type 0} → Result A WordFault → WordFault → Type 0
IsWordFault due NoMemory = Unit {0}
IsWordFault due fault = due ≡ Err fault

-- the name of a fault
abbrev pub fault_name : WordFault → List ℕ
fault_name Words = codes "Words"
fault_name BadMode = codes "Mode"
fault_name NodeMissing = codes "NodeMissing"
fault_name (BadNode fault) = codes "Node"
fault_name Count = codes "Count"
fault_name Token = codes "Token"
fault_name Name = codes "Name"
fault_name NoMemory = codes "NoMemory"

-- the status of a run whose words are refused
abbrev pub refusal_status : WordFault → ℕ
refusal_status NoMemory = 7
refusal_status fault = 2
