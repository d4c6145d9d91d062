-- A record that keeps a message is the record of that message, but for the bytes that stand in its body without their escape.
use Rattle.std.proofs.Common.{◌≡◌, ℕ, List, [], ◌∷◌, ◌++◌, None, Some, Result, Ok, Err, refl, sym, ap, ap₂, subst, ◌∙◌}
use Rattle.std.specs.Prelude.{is_ok, if◌then◌else◌}
use Rattle.std.specs.List.{flat_map}
use Rattle.std.specs.Result.{result_ok}
use Rattle.std.proofs.lemmas.List.{append-nil, append_cancel_left}
use Rattle.std.proofs.lemmas.List.Concat.{flat_map-append}
use Rattle.hybrid_clock.specs.declared.stamp.Stamp.{Stamp}
use Rattle.hybrid_clock.specs.declared.stamp.StampFault.{StampFault}
use Rattle.hybrid_clock.specs.Stamp.{stamp_text}
use Rattle.hybrid_clock.specs.Reading.{read_stamp}
use Rattle.budget_ports.specs.declared.keeper.Record.{Record}
use Rattle.field_merge.specs.declared.message.Message.{Message}
use Rattle.field_merge.specs.Escapes.{escaped, unescaped, bad_escape, raw_escaped}
use Rattle.field_merge.specs.Lines.{reading}
use Rattle.field_merge.specs.Messages.{message_body}
use Rattle.field_merge.proofs.EscapeLemmas.{Lacks, escaped-no_tab, unescaped-escaped, bad_escape-escaped}
use Rattle.field_merge.proofs.RawLines.{part_writes_back, line_writes_back}
use Rattle.field_merge.proofs.StampLemmas.{stamp_text_escaped}
use Rattle.kept_messages.specs.Records.{record_of, message_in, RecordsReadBack}
use Rattle.kept_messages.proofs.Keeping.{reads_back}
use Rattle.kept_messages.proofs.KeptSets.{ok_of, key_is}

-- the line of a record that keeps a message is a message's
line_reads : (stamp : Result Stamp StampFault) (r : Record) (m : Message) → (if is_ok stamp then result_ok (reading (r.key ++ 9 ∷ r.body)) else None) ≡ Some m → reading (r.key ++ 9 ∷ r.body) ≡ Ok m
line_reads (Err fault) r m h = absurd (cc)
line_reads (Ok stamp) r m h = ok_of (reading (r.key ++ 9 ∷ r.body)) m h

-- a text that is written as it stands has no byte that lacks its escape
nothing_raw : (text : List ℕ) → escaped text ≡ text → flat_map raw_escaped text ≡ text
nothing_raw text plain =
    let no_tab : Lacks 9 text = subst (Lacks 9) plain (escaped-no_tab text) in
    let itself : unescaped text ≡ text = ap unescaped (sym plain) ∙ unescaped-escaped text in
    let good : bad_escape text ≡ None = ap bad_escape (sym plain ∙ sym (append-nil (escaped text))) ∙ bad_escape-escaped text [] refl in
    sym (part_writes_back text no_tab good) ∙ ap escaped itself ∙ plain

behind : (b : ℕ) (xs ys : List ℕ) → b ∷ xs ≡ b ∷ ys → xs ≡ ys
behind b xs ys e = cc

written_back : (r : Record) (m : Message) → message_in r ≡ Some m → record_of m ≡ record r { body = flat_map raw_escaped r.body }
written_back r m h =
    let key = key_is r m h in
    let same : stamp_text m.stamp ≡ r.key = key.text in
    let plain : escaped (stamp_text m.stamp) ≡ stamp_text m.stamp = stamp_text_escaped m.stamp key.valid in
    let line : escaped (stamp_text m.stamp) ++ 9 ∷ message_body m ≡ flat_map raw_escaped (r.key ++ 9 ∷ r.body) = line_writes_back (r.key ++ 9 ∷ r.body) m (line_reads (read_stamp r.key) r m h) in
    let raw : flat_map raw_escaped (r.key ++ 9 ∷ r.body) ≡ r.key ++ 9 ∷ flat_map raw_escaped r.body =
    flat_map-append raw_escaped r.key (9 ∷ r.body) ∙ ap (λ t. t ++ 9 ∷ flat_map raw_escaped r.body) (nothing_raw r.key (ap escaped (sym same) ∙ plain ∙ same)) in
    let body : message_body m ≡ flat_map raw_escaped r.body =
    behind 9 (message_body m) (flat_map raw_escaped r.body) (append_cancel_left r.key (9 ∷ message_body m) (9 ∷ flat_map raw_escaped r.body)
    (ap (λ t. t ++ 9 ∷ message_body m) (sym same ∙ sym plain) ∙ line ∙ raw)) in
    ap₂ (λ (k b : List ℕ). record { key = k; body = b }) same body

pub records_back : RecordsReadBack
records_back = record { reads_back = reads_back; writes_back = written_back }
