-- What the text of a run of the mode `generate` tells.
use Rattle.std.specs.Prelude.{◌≡◌, ℕ, ◌<◌, ◌^◌, ℤ, FitsSigned, List, [], ◌∷◌, ◌++◌, length, codes, Option, Some}
use Rattle.std.specs.Int.{w32, w128, cast_signed}
use Rattle.std.specs.Fmt.{decimal, signed_decimal}
use Rattle.std.specs.Io.KnownBytes.{Appends}
use Rattle.field_merge.specs.declared.message.Message.{Message}
use Rattle.minute_trie.specs.Trie.{trie_of}
use Rattle.kept_messages.specs.Pairs.{pairs_of}
use Rattle.envelope_cells.specs.BudgetOf.{budget_of}
use Rattle.envelope_cells.specs.Cells.{to_budget}
use Rattle.envelope_cells.specs.Ids.{month_number}
use Rattle.device_core.specs.Books.{rows_of}
use Rattle.generated_books.specs.declared.summary.Summary.{Summary}
use Rattle.generated_books.specs.Generated.{generated}
use Rattle.budget_top.specs.Lines.{whole_lines, last_piece}
use Rattle.budget_top.specs.GenerateRun.{summary_text, book_text, GenerateRun}

-- the text is cut at its line feeds into three lines, each a name with its number, and nothing stands behind the last
pub record TellsNumbers (text : List ℕ) (messages : ℕ) (root cents : ℤ) : Type 0 where
  pub lines : whole_lines text ≡ (codes "messages " ++ decimal messages) ∷ (codes "root " ++ signed_decimal root) ∷ (codes "to-budget " ++ signed_decimal cents) ∷ []
  pub no_more : last_piece text ≡ []

-- the numbers are of these messages: how many there are, the hash at the root of their trie, as a signed number of 32 bits, and what is left to
-- budget in December 2024 in the book that they make
pub record TellsOf (text : List ℕ) (ms : List Message) : Type 0 where
  pub hash : ℕ
  pub at_root : trie_of (pairs_of ms) [] ≡ Some hash
  pub told : TellsNumbers text (length ms) (cast_signed w32 hash) (to_budget (budget_of (rows_of ms)) (month_number 202_412))

-- the numbers are of their types: the first has 64 bits and no sign, the others are signed, of 32 and of 128 bits
pub record AreTyped (s : Summary) : Type 0 where
  pub messages : s.messages < 2 ^ 64
  pub root : FitsSigned w32 s.root
  pub to_budget : FitsSigned w128 s.to_budget

pub record SummariesAreTold : Type 0 where
  -- what is written of a book of so many transactions tells of its messages
  pub books : (count : ℕ) → TellsOf (book_text count) (generated count)
  -- and so does what a run has written that ends with status 0, where the sink tells
  pub runs : (count : ℕ) (taken new_taken : Option (List ℕ)) → GenerateRun count 0 taken new_taken → (text : List ℕ) × Appends taken new_taken text × TellsOf text (generated count)
  -- no two different summaries have one text
  pub apart : (s t : Summary) → AreTyped s → AreTyped t → summary_text s ≡ summary_text t → s ≡ t
