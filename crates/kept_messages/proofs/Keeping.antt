-- Records of messages: how they are written and read.
use Rattle.std.proofs.Common.{◌≡◌, ◌<◌, List, [], ◌∷◌, ◌++◌, None, Some, Result, map, length, sym, ap, ap₂, ◌∙◌, arith}
use Rattle.hybrid_clock.specs.declared.stamp.Stamp.{Stamp}
use Rattle.std.specs.Prelude.{is_ok, if◌then◌else◌}
use Rattle.std.specs.Result.{result_ok}
use Rattle.hybrid_clock.specs.declared.stamp.StampFault.{StampFault}
use Rattle.field_merge.specs.declared.line.LineFault.{LineFault}
use Rattle.hybrid_clock.specs.Stamp.{stamp_text}
use Rattle.hybrid_clock.proofs.Writing.{text_passes, text_reads}
use Rattle.budget_ports.specs.Keeper.{HaveKeys}
use Rattle.field_merge.specs.declared.message.Message.{Message}
use Rattle.field_merge.specs.Lines.{reading}
use Rattle.field_merge.specs.Messages.{IsMessage, AreMessages, message_line, message_body}
use Rattle.field_merge.proofs.StampLemmas.{stamp_text_escaped}
use Rattle.field_merge.proofs.LineLemmas.{reading_of_line}
use Rattle.kept_messages.specs.Records.{record_of, message_in}

-- the text of a record's message
line_of : (m : Message) → IsMessage m → stamp_text m.stamp ++ 9 ∷ message_body m ≡ message_line m
line_of m valid = ap (λ t. t ++ 9 ∷ message_body m) (sym (stamp_text_escaped m.stamp valid.stamp))

pub reads_back : (m : Message) → IsMessage m → message_in (record_of m) ≡ Some m
reads_back m valid =
    ap₂ (λ (r : Result Stamp StampFault) (l : Result Message LineFault). if is_ok r then result_ok l else None) (text_reads m.stamp valid.stamp) (ap reading (line_of m valid) ∙ reading_of_line m valid)

pub have_keys : (ms : List Message) → AreMessages ms → HaveKeys (map record_of ms)
have_keys [] valid = tt
have_keys (m ∷ ms) valid =
    let long = (text_passes m.stamp valid.0.stamp).long in
    ((let some : 0 < length (stamp_text m.stamp) = omega (arith, long) in some), have_keys ms valid.1)
