use Rattle.std.proofs.Common.{◌≡◌, ◌+◌, ◌-◌, List, [], ◌∷◌, ◌++◌, sym, ap, ◌∙◌, arith}
use Rattle.std.proofs.lemmas.List.FromFn.{map-range_with_len_more}
use Rattle.field_merge.specs.declared.message.Message.{Message}
use Rattle.generated_books.specs.Numbers.{message_at, messages_at}
use Rattle.generated_books.proofs.messages.messages_between.Goals as goal

pub loop-at-preserved : goal.loop-at-preserved
loop-at-preserved c =
    let same : (c.loop-at.at + 1) - c.args.from ≡ (c.loop-at.at - c.args.from) + 1 = omega arith in
    c.in_ok-push.ensures.items
    ∙ ap (λ (ms : List Message). ms ++ c.in_ok-message.message ∷ []) c.loop-at.invariant
    ∙ ap (λ (m : Message). messages_at c.args.from (c.loop-at.at - c.args.from) ++ m ∷ []) c.in_ok-message.ensures
    ∙ sym (map-range_with_len_more message_at c.args.from (c.loop-at.at - c.args.from) c.loop-at.at (omega arith))
    ∙ ap (messages_at c.args.from) (sym same)
