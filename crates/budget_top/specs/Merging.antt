-- What a merge makes of lines, in the words of those who read what it writes.
use Rattle.std.specs.Prelude.{◌≡◌, ◌≢◌, ◌↔◌, ◌⊎◌, ◌<◌, ◌≤◌, ℕ, List, [], ◌∷◌, ◌++◌, length, false, IsUtf8, Ok, Err}
use Rattle.std.specs.List.{flat_map, AllByRecursion, Contains}
use Rattle.std.specs.Ordering.{is_gt}
use Rattle.field_values.specs.declared.name.NameFault.{NameFault}
use Rattle.hybrid_clock.specs.declared.stamp.StampFault.{StampFault}
use Rattle.hybrid_clock.specs.Order.{stamp_cmp}
use Rattle.field_merge.specs.declared.message.Message.{Message}
use Rattle.field_merge.specs.declared.line.LineFault.TheVariants.{Columns as BadColumns, Escape as BadEscape, Stamp as BadStamp, Name as BadName}
use Rattle.field_merge.specs.Lines.{reading, ended}
use Rattle.field_merge.specs.Log.{IsByField}
use Rattle.field_merge.specs.Messages.{message_line}
use Rattle.command_lines.specs.Commands.{longest_line}
use Rattle.budget_top.specs.declared.verdict.Word.TheVariants.{Long, Utf8, Columns, Escape, Stamp, Name}
use Rattle.budget_top.specs.Lines.{all_lines}
use Rattle.budget_top.specs.Verdicts.{judged, bad_lines, merge_text}

-- ---- lines and messages

-- the line is that of the message: it is not too long, it is UTF-8, and it reads as the message
pub record IsLineOf (m : Message) (line : List ℕ) : Type 0 where
  pub short : length line ≤ longest_line
  pub text : IsUtf8 line
  pub reads : reading line ≡ Ok m

-- one of the lines is that of the message
abbrev pub HasLineOf : List (List ℕ) → Message → Type 0
HasLineOf [] m = ⊥
HasLineOf (line ∷ lines) m = IsLineOf m line ⊎ HasLineOf lines m

-- the message has a line, and no line before it is that of a message with the same timestamp
pub record Counts (lines : List (List ℕ)) (m : Message) : Type 0 where
  pub front : List (List ℕ)
  pub line : List ℕ
  pub rest : List (List ℕ)
  pub cut : lines ≡ front ++ line ∷ rest
  pub is_line : IsLineOf m line
  pub first : (n : Message) → HasLineOf front n → n.stamp ≢ m.stamp

-- of the messages that count it is the latest of its field
pub record IsLatestIn (lines : List (List ℕ)) (m : Message) : Type 0 where
  pub counts : Counts lines m
  pub greatest : (n : Message) → Counts lines n → n.field ≡ m.field → is_gt (stamp_cmp n.stamp m.stamp) ≡ false

-- these are the latest messages of all fields, by dataset, row and column
pub record ListsLatestIn (lines : List (List ℕ)) (listed : List Message) : Type 0 where
  pub in_order : IsByField listed
  pub exactly : (m : Message) → Contains listed m ↔ IsLatestIn lines m

-- messages of the lines that have one timestamp are the same
abbrev pub HaveOneEach : List (List ℕ) → Type 0
HaveOneEach lines = (m n : Message) → HasLineOf lines m → HasLineOf lines n → m.stamp ≡ n.stamp → m ≡ n

-- each line is that of a message
abbrev pub AreGood : List (List ℕ) → Type 0
AreGood lines = AllByRecursion (λ line. (m : Message) × IsLineOf m line) lines

-- ---- what is judged and written

-- A line is judged as the message of which it is the line. Another one is bad: it is told as too long, else as no UTF-8,
-- else by what is wrong where it is read.
pub record LinesAreJudged : Type 0 where
  pub good : (line : List ℕ) (m : Message) → (judged line ≡ Ok m) ↔ IsLineOf m line
  pub long : (line : List ℕ) → (judged line ≡ Err Long) ↔ (longest_line < length line)
  pub utf8 : (line : List ℕ) → (judged line ≡ Err Utf8) ↔ ((length line ≤ longest_line) × (IsUtf8 line → ⊥))
  pub columns : (line : List ℕ) (found : ℕ) → length line ≤ longest_line → IsUtf8 line → reading line ≡ Err (BadColumns found) → judged line ≡ Err Columns
  pub escape : (line : List ℕ) (at : ℕ) → length line ≤ longest_line → IsUtf8 line → reading line ≡ Err (BadEscape at) → judged line ≡ Err Escape
  pub stamp : (line : List ℕ) (fault : StampFault) → length line ≤ longest_line → IsUtf8 line → reading line ≡ Err (BadStamp fault) → judged line ≡ Err Stamp
  pub name : (line : List ℕ) (fault : NameFault) → length line ≤ longest_line → IsUtf8 line → reading line ≡ Err (BadName fault) → judged line ≡ Err Name

-- What a merge writes: the bad lines, and then the line of the latest message of each field, of all messages that its lines have
-- and that count. So inputs without a bad line give the same text where their lines have the same messages, one for each timestamp.
pub record MergesAgree : Type 0 where
  pub judged : LinesAreJudged
  pub writes : (bytes : List ℕ) → (listed : List Message) × ListsLatestIn (all_lines bytes) listed × (merge_text bytes ≡ bad_lines (all_lines bytes) ++ flat_map (λ m. ended (message_line m)) listed)
  pub agree : (a b : List ℕ) → AreGood (all_lines a) → AreGood (all_lines b) → HaveOneEach (all_lines a)
      → ((m : Message) → HasLineOf (all_lines a) m ↔ HasLineOf (all_lines b) m) → merge_text a ≡ merge_text b
