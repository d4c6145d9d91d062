use Rattle.std.proofs.Common.{◌≡◌, IfOk, subst}
use Rattle.minute_trie.specs.Held.{Held}
use Rattle.minute_trie.specs.Json.{trie_text}
use Rattle.command_lines.proofs.answer.trie_line.Goals as goal

pub returns : goal.returns
returns c = subst (λ (f : Held). IfOk c.to_json.result (λ t. t ≡ trie_text f)) c.trie.ensures.trie.same c.to_json.ensures
