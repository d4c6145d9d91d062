use Rattle.std.proofs.Common.{◌≡◌, Some, option_and_then, ap, sym, ◌∙◌}
use Rattle.std.proofs.Math.Path.{fun_ext}
use Rattle.serde_json.specs.Read.{read}
use Rattle.serde_json.specs.View.{view}
use Rattle.minute_trie.specs.Faults.{fault_of_value, held_at}
use Rattle.minute_trie.proofs.trie.Trie.from_json.Goals as goal

pub returns-in_ok-read_node-in-Ok-clause-read : goal.returns-in_ok-read_node-in-Ok-clause-read
returns-in_ok-read_node-in-Ok-clause-read c =
    let is : read c.args.text.now ≡ Some (view c.in-Ok.value) = ap read (sym c.as_str.ensures) ∙ c.in-Ok.ensures.ok in
    let node = c.in_ok-read_node-in-Ok.ensures.ok in
    record { right = ap fault_of_value is ∙ node.right; same = fun_ext (λ p. node.same p ∙ ap (option_and_then (held_at p)) (sym is)) }
