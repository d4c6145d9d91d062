-- Contents and envelopes that are written are read, and those of the one spelling that are read are written.
use Rattle.std.proofs.Common.{◌≡◌, ℕ, ◌-◌, ◌^◌, ◌<◌, ◌≤◌, false, List, [], ◌++◌, length, Option, Some, None, Result, Ok, Err, IsUtf8, refl, sym, ap, subst, ◌∙◌, length-append, arith}
use Rattle.std.proofs.lemmas.List.{append-nil}
use Rattle.field_values.specs.declared.name.NameFault.{NameFault}
use Rattle.field_values.specs.Names.{field_of, names_fault}
use Rattle.field_values.proofs.Values.{texts_write_back_lem, values_read_back_lem}
use Rattle.field_values.proofs.FaultLemmas.{faults_are_told_lem}
use Rattle.hybrid_clock.specs.declared.stamp.Stamp.{Stamp}
use Rattle.hybrid_clock.specs.declared.stamp.StampFault.{StampFault}
use Rattle.hybrid_clock.specs.Stamp.{stamp_text}
use Rattle.hybrid_clock.specs.Reading.{read_stamp}
use Rattle.hybrid_clock.proofs.Writing.{text_reads}
use Rattle.hybrid_clock.proofs.Texts.{read_text}
use Rattle.field_merge.specs.declared.message.Message.{Message}
use Rattle.field_merge.specs.Messages.{IsMessage, message_of}
use Rattle.field_merge.proofs.StampLemmas.{stamp_text_utf8}
use Rattle.sync_wire.specs.declared.fault.WireFault.{WireFault}
use Rattle.sync_wire.specs.declared.fault.WireFault.TheVariants.{BadMessage}
use Rattle.sync_wire.specs.declared.layout.Layout.TheVariants as layouts
use Rattle.sync_wire.specs.Reading.{◌>>=◌}
use Rattle.sync_wire.specs.Envelope.{Written, content_check, content_at, unless, message_from, Outline, envelope_check, outline_at, opened, message_in, envelope_at}
use Rattle.sync_wire.specs.Gather.{with_text, with_part}
use Rattle.sync_wire.specs.Canon.{text_field, bytes_field, content_spelled, Parts, envelope_spelled, written_of, parts_of}
use Rattle.sync_wire.specs.Laws.{HasTexts}
use Rattle.sync_wire.proofs.Spelled.{bind_ok}
use Rattle.sync_wire.proofs.Gather.{IsOn, is_over}
use Rattle.sync_wire.proofs.Totals.{content_begin, outline_begin}
use Rattle.sync_wire.proofs.Codec.{held, bytes_field_is, bytes_field_len, passes, Fine, fine_of_utf8, fine_of_ok, text_passes}

-- ---- a content

abbrev texts : List ℕ → List ℕ → List ℕ → List ℕ → Written
texts d r c v = record { dataset = d; row = r; column = c; value = v }

abbrev FineContent : ℕ → Written → List ℕ → Type 0
FineContent end w text = Fine content_check with_text layouts.Content end (content_at end (content_spelled w)) text

content_chain : (end : ℕ) (w : Written) → end < 2 ^ 64 → length (content_spelled w) ≤ end
    → FineContent end w w.dataset → FineContent end w w.row → FineContent end w w.column → FineContent end w w.value → content_at end (content_spelled w) ≡ Ok w
content_chain end w wide p f1 f2 f3 f4 =
    let total = content_at end (content_spelled w) in
    let at0 = content_begin end (content_spelled w) (texts [] [] [] []) p refl in
    let at1 = text_passes content_check with_text layouts.Content end (texts [] [] [] []) (texts w.dataset [] [] []) 1 w.dataset (text_field 2 w.row ++ (text_field 3 w.column ++ text_field 4 w.value)) total
    wide (omega arith) refl (λ place. refl) f1 (λ e. ap (λ (d : List ℕ). texts d [] [] []) (sym e)) refl at0 in
    let at2 = text_passes content_check with_text layouts.Content end (texts w.dataset [] [] []) (texts w.dataset w.row [] []) 2 w.row (text_field 3 w.column ++ text_field 4 w.value) total
    wide (omega arith) refl (λ place. refl) f2 (λ e. ap (λ (r : List ℕ). texts w.dataset r [] []) (sym e)) refl at1 in
    let at3 = text_passes content_check with_text layouts.Content end (texts w.dataset w.row [] []) (texts w.dataset w.row w.column []) 3 w.column (text_field 4 w.value) total
    wide (omega arith) refl (λ place. refl) f3 (λ e. ap (λ (c : List ℕ). texts w.dataset w.row c []) (sym e)) refl at2 in
    let nil = append-nil (text_field 4 w.value) in
    let at3' : IsOn content_check with_text layouts.Content end (texts w.dataset w.row w.column []) (text_field 4 w.value ++ []) total = rw nil at3 in
    let at4 = text_passes content_check with_text layouts.Content end (texts w.dataset w.row w.column []) w 4 w.value [] total
    wide (omega arith) refl (λ place. refl) f4 (λ e. ap (λ (v : List ℕ). texts w.dataset w.row w.column v) (sym e)) refl at3' in
    is_over content_check with_text layouts.Content end w [] total at4 refl

pub content_read : (end : ℕ) (w : Written) → end < 2 ^ 64 → length (content_spelled w) ≤ end → IsUtf8 w.dataset → IsUtf8 w.row → IsUtf8 w.column → IsUtf8 w.value → content_at end (content_spelled w) ≡ Ok w
content_read end w wide p u1 u2 u3 u4 =
    let total = content_at end (content_spelled w) in
    let fine = λ (t : List ℕ) (u : IsUtf8 t). fine_of_utf8 content_check with_text layouts.Content end total t u in
    content_chain end w wide p (fine w.dataset u1) (fine w.row u2) (fine w.column u3) (fine w.value u4)

abbrev said : Written → Result Written WireFault
said w = Ok w

same_said : (w z : Written) → said w ≡ said z → w ≡ z
same_said w z e = cc

pub content_back : (end : ℕ) (w z : Written) → end < 2 ^ 64 → length (content_spelled w) ≤ end → content_at end (content_spelled w) ≡ Ok z → z ≡ w
content_back end w z wide p ok =
    let total = content_at end (content_spelled w) in
    let fine = λ (t : List ℕ). fine_of_ok content_check with_text layouts.Content end total t z wide ok in
    same_said z w (sym ok ∙ content_chain end w wide p (fine w.dataset) (fine w.row) (fine w.column) (fine w.value))

-- ---- the message of a content

pub unless_told : (o : Option NameFault) (f : WireFault) (made m : Message) → unless o f made ≡ Ok m → (o ≡ None) × (m ≡ made)
unless_told None f made m e = (refl, cc)
unless_told (Some found) f made m e = absurd cc

pub message_again : (start : ℕ) (m : Message) → IsMessage m → message_from start m.stamp (written_of m) ≡ Ok m
message_again start m valid =
    let none = (faults_are_told_lem.none m.field).1 valid.field in
    let value = values_read_back_lem m.value valid.value in
    rw (none, value) refl

-- a message that is read says what was written
pub message_said : (start : ℕ) (stamp : Stamp) (w : Written) (m : Message) → message_from start stamp w ≡ Ok m → (m.stamp ≡ stamp) × (written_of m ≡ w)
message_said start stamp w m e =
    let t = unless_told (names_fault (field_of w.dataset w.row w.column)) (BadMessage start) (message_of stamp (field_of w.dataset w.row w.column) w.value) m e in
    let value = (texts_write_back_lem w.value).1 in
    rw t.1 (refl, rw value refl)

-- ---- an envelope

abbrev outline : List ℕ → ℕ × List ℕ → Outline
outline s c = record { stamp = s; encrypted = false; content = c }

outline_chain : (end : ℕ) (p : Parts) → end < 2 ^ 64 → length (envelope_spelled p) ≤ end
    → Fine envelope_check with_part layouts.Envelope end (outline_at end (envelope_spelled p)) p.stamp → outline_at end (envelope_spelled p) ≡ Ok (outline p.stamp (end - 0, content_spelled p.content))
outline_chain end p wide short fine =
    let total = outline_at end (envelope_spelled p) in
    let content = content_spelled p.content in
    let inner = bytes_field_len 3 content in
    let len = length-append (text_field 1 p.stamp) (bytes_field 3 content) in
    let fits : length content < 2 ^ 64 = omega arith in
    let at0 = outline_begin end (envelope_spelled p) (outline [] (0, [])) short refl in
    let at1 = text_passes envelope_check with_part layouts.Envelope end (outline [] (0, [])) (outline p.stamp (0, [])) 1 p.stamp (bytes_field 3 content) total
    wide (omega arith) refl (λ place. refl) fine (λ e. ap (λ (s : List ℕ). outline s (0, [])) (sym e)) refl at0 in
    let nil = append-nil (bytes_field 3 content) in
    let at1' : IsOn envelope_check with_part layouts.Envelope end (outline p.stamp (0, [])) (bytes_field 3 content ++ []) total = rw nil at1 in
    let at2 = passes envelope_check with_part layouts.Envelope end (outline p.stamp (0, [])) (bytes_field 3 content) [] total (held 3 (end - 0) content)
    (bytes_field_is layouts.Envelope 3 (end - 0) content (omega arith) refl fits) refl at1' in
    is_over envelope_check with_part layouts.Envelope end (outline p.stamp (end - 0, content)) [] total at2 refl

inner_len : (p : Parts) → length (content_spelled p.content) ≤ length (envelope_spelled p)
inner_len p = omega (arith, bytes_field_len 3 (content_spelled p.content), length-append (text_field 1 p.stamp) (bytes_field 3 (content_spelled p.content)))

pub envelope_read : (end : ℕ) (m : Message) → end < 2 ^ 64 → IsMessage m → HasTexts m → length (envelope_spelled (parts_of m)) ≤ end → envelope_at end (envelope_spelled (parts_of m)) ≡ Ok (Some m)
unfolding envelope_at message_in
envelope_read end m wide valid has p =
    let inner = inner_len (parts_of m) in
    let fine = fine_of_utf8 envelope_check with_part layouts.Envelope end (outline_at end (envelope_spelled (parts_of m))) (stamp_text m.stamp) (stamp_text_utf8 m.stamp valid.stamp) in
    let content = content_read (end - 0) (written_of m) (omega arith) (omega arith) has.dataset has.row has.column has.value in
    rw (outline_chain end (parts_of m) wide p fine, content, text_reads m.stamp valid.stamp, message_again (end - length (envelope_spelled (parts_of m))) m valid) refl

-- what an envelope that is not encrypted held
abbrev pub Held : Parts → Option Message → Type 0
Held p o = (m : Message) × (o ≡ Some m) × (parts_of m ≡ p)

made_some : (r : Result Message WireFault) (o : Option Message) → (r >>= λ m. Ok (Some m)) ≡ Ok o → (m : Message) × (r ≡ Ok m) × (o ≡ Some m)
made_some (Ok m) o e = (m, refl, cc)
made_some (Err f) o e = absurd cc

opened_said : (start : ℕ) (r : Result Stamp StampFault) (p : Parts) (o : Option Message) → read_stamp p.stamp ≡ r → opened start r p.content ≡ Ok o → Held p o
opened_said start (Err f) p o s e = absurd cc
opened_said start (Ok stamp) p o s e =
    let a = made_some (message_from start stamp p.content) o e in
    let said = message_said start stamp p.content a.0 a.1 in
    let text : stamp_text a.0.stamp ≡ p.stamp = ap stamp_text said.0 ∙ read_text p.stamp stamp s in
    (a.0, a.2, rw (text, said.1) refl)

pub envelope_back : (end : ℕ) (p : Parts) (o : Option Message) → end < 2 ^ 64 → length (envelope_spelled p) ≤ end → envelope_at end (envelope_spelled p) ≡ Ok o → Held p o
unfolding envelope_at message_in
envelope_back end p o wide short e =
    let bytes = envelope_spelled p in
    let inner = inner_len p in
    let start = end - length bytes in
    let a = bind_ok (outline_at end bytes) (message_in start) o e in
    let fine = fine_of_ok envelope_check with_part layouts.Envelope end (outline_at end bytes) p.stamp a.0 wide a.1 in
    let made = outline_chain end p wide short fine in
    let next : message_in start (outline p.stamp (end - 0, content_spelled p.content)) ≡ Ok o = ap (λ (r : Result Outline WireFault). r >>= message_in start) (sym made) ∙ e in
    let b = bind_ok (content_at (end - 0) (content_spelled p.content)) (λ w. opened start (read_stamp p.stamp) w) o next in
    let same = content_back (end - 0) p.content b.0 (omega arith) (omega arith) b.1 in
    opened_said start (read_stamp p.stamp) p o refl (subst (λ (w : Written). opened start (read_stamp p.stamp) w ≡ Ok o) same b.2)
