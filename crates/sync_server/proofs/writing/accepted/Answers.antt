use Rattle.std.proofs.Common.{◌≡◌, ◌∙◌, ◌++◌, List, ℕ, ap, subst, rules, length}
use Rattle.sync_wire.specs.Canon.{response_bytes}
use Rattle.sync_wire.specs.Wire.{IsResponse}
use Rattle.sync_server.proofs.Texts.{head_of, head_then}
use Rattle.sync_server.proofs.writing.accepted.Goals as goal

pub returns-clause-bytes : goal.returns-clause-bytes
returns-clause-bytes c =
    let body : c.as_slice.result.now ≡ response_bytes c.args.response.now = search rules in
    let head : c.into_bytes-bytes.result.items ≡ head_of c.len-count.result = search rules in
    let long : c.len-count.result ≡ length (response_bytes c.args.response.now) = search rules in
    c.new.ensures ∙ c.in_ok-extend_from_slice.ensures.items ∙ ap (λ x. c.into_bytes-bytes.result.items ++ x) body ∙ head_then _ _ c.len-count.result head long

pub returns-clause-means : goal.returns-clause-means
returns-clause-means c = subst (λ (b : List ℕ). IsResponse b c.args.response.now) c.in_ok-body.ensures.bytes c.in_ok-body.ensures.meaning
