-- What is told of a device with generated messages.
use Rattle.std.specs.Prelude.{ℤ, List, [], length}
use Rattle.std.specs.Int.{w32, cast_signed}
use Rattle.field_merge.specs.declared.message.Message.{Message}
use Rattle.minute_trie.specs.Held.{or_zero}
use Rattle.minute_trie.specs.Trie.{trie_of}
use Rattle.kept_messages.specs.Pairs.{pairs_of}
use Rattle.envelope_cells.specs.BudgetOf.{budget_of}
use Rattle.envelope_cells.specs.Cells.{to_budget}
use Rattle.envelope_cells.specs.Ids.{month_number}
use Rattle.device_core.specs.Books.{rows_of}
use Rattle.generated_books.specs.declared.summary.Summary.{Summary}

-- the root of the trie of their timestamps, as a signed number of 32 bits
unfoldable pub root_of : List Message → ℤ
root_of ms = cast_signed w32 (or_zero (trie_of (pairs_of ms) []))

-- what is to budget in December 2024
unfoldable pub december_of : List Message → ℤ
december_of ms = to_budget (budget_of (rows_of ms)) (month_number 202_412)

-- what is told of messages
abbrev pub summary_of : List Message → Summary
summary_of ms = record { messages = length ms; root = root_of ms; to_budget = december_of ms }
