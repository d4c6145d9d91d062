use Rattle.std.proofs.Common.{◌≡◌, ◌<◌, ◌^◌, ◌∙◌, true, length, List, ℕ, sym, ap, arith}
use Rattle.std.proofs.lemmas.Slice.Eq.{bytes_eq-Decides}
use Rattle.device_sync.specs.Requests.{request_text}
use Rattle.peer_link.specs.Asked.{is_for_group}
use Rattle.peer_link.proofs.Requests.{no_memory, is_of_group, is_plain, no_fault, no_other, no_else}
use Rattle.peer_link.proofs.asked.asks_group.Goals as goal

pub request_text-requires-clause-plain : goal.request_text-requires-clause-plain
request_text-requires-clause-plain c = is_plain c.in-Ok.request (sym c.is_for_group.ensures ∙ c.if-not-is_for_group.false)

pub returns : goal.returns
returns c =
    let q = c.in-Ok.request in
    let yes : is_for_group q ≡ true = sym c.is_for_group.ensures ∙ c.if-not-is_for_group.false in
    let written = c.as_slice.ensures.value ∙ c.in_ok-text.ensures.text ∙ ap (λ (t : List ℕ). request_text t q) c.in_ok-token.ensures in
    let small : length c.args.bytes.now < 2 ^ 64 = omega (arith, c.count_of-count.type_inv, c.count_of-count.ensures) in
    record {
      asks = λ same.
          let alike : c.as_slice.result.now ≡ c.args.bytes.now = (bytes_eq-Decides _ _).0 (sym c.eq-same.ensures ∙ same) in
          record {
            request = q;
            fits = is_of_group q yes c.in-Ok.ensures.valid;
            asked = record { text = sym alike ∙ written; means = c.in_ok-text.ensures.means };
          };
      foreign = λ other asks. no_else c.bytes_are_read.ensures c.args.bytes.now c.body_of.result.now c.body_of.ensures small asks q c.as_slice.result.now c.in-Ok.ensures.found written (sym c.eq-same.ensures ∙ other);
    }

pub returns-then-not-is_for_group-clause-foreign : goal.returns-then-not-is_for_group-clause-foreign
returns-then-not-is_for_group-clause-foreign c =
    let small : length c.args.bytes.now < 2 ^ 64 = omega (arith, c.count_of-count.type_inv, c.count_of-count.ensures) in
    λ is asks. no_other c.bytes_are_read.ensures c.args.bytes.now c.body_of.result.now c.body_of.ensures small asks c.in-Ok.request c.in-Ok.ensures.found (sym c.is_for_group.ensures ∙ c.if-not-is_for_group.true)

pub returns-in-Err-clause-foreign : goal.returns-in-Err-clause-foreign
returns-in-Err-clause-foreign c =
    let small : length c.args.bytes.now < 2 ^ 64 = omega (arith, c.count_of-count.type_inv, c.count_of-count.ensures) in
    λ is asks. no_fault c.bytes_are_read.ensures c.args.bytes.now c.body_of.result.now c.body_of.ensures small asks c.in-Err.fault (c.in-Err.ensures.fault (no_memory c.in-Err.fault (sym c.is_memory.ensures ∙ c.if-is_memory.false)))
