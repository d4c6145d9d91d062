-- The parts of a line.
use Rattle.std.proofs.Common.{◌≡◌, ◌≢◌, ℕ, suc, ◌+◌, ◌<◌, List, [], ◌∷◌, ◌++◌, length, get_or, take, drop, Option, None, Some, refl, ap, sym, subst, ◌∙◌, arith, zero, IfOk, IfErr, append_assoc, Result, Ok, Err, Bool, true, false}
use Rattle.std.specs.Prelude.{count_by, ◌==◌, All}
use Rattle.std.proofs.lemmas.Bool.{eq-eqb, eqb-false, eqb-true, or_parts}
use Rattle.std.proofs.lemmas.List.{append-nil, drop_more, get_or-take, length-take-le, take-append-drop}
use Rattle.std.proofs.lemmas.List.Splits.{length-slice_split, join_with_byte-slice_split}
use Rattle.std.proofs.lemmas.List.Folds.{list_any-append}
use Rattle.std.specs.List.{join_with_byte}
use Rattle.std.specs.Bool.{OnTrue}
use Rattle.std.specs.Result.{is_ok}
use Rattle.field_values.specs.Names.{FieldNames, field_of, names_fault}
use Rattle.field_values.specs.Value.{value_text}
use Rattle.field_values.proofs.NameLemmas.{names_fault-none, names_without_fault}
use Rattle.field_values.proofs.Values.{value_of_text, texts_write_back_lem}
use Rattle.hybrid_clock.specs.declared.stamp.Stamp.{Stamp}
use Rattle.hybrid_clock.specs.declared.stamp.StampFault.{StampFault}
use Rattle.hybrid_clock.specs.Stamp.{IsStamp, stamp_text}
use Rattle.hybrid_clock.specs.Reading.{read_stamp}
use Rattle.field_values.specs.declared.name.NameFault.{NameFault}
use Rattle.hybrid_clock.proofs.Texts.{read_valid}
use Rattle.hybrid_clock.proofs.Writing.{text_reads}
use Rattle.memchr.specs.Find.{IsFirstByte, is_byte}
use Rattle.field_merge.specs.declared.message.Message.{Message}
use Rattle.field_merge.specs.declared.line.LineFault.{LineFault}
use Rattle.field_merge.specs.declared.line.LineFault.TheVariants.{Columns, Stamp as BadStamp, Name as BadName, NoMemory as OutOfMemory}
use Rattle.field_merge.specs.Escapes.{escaped, unescaped, bad_escape, has_backslash, ArePlain}
use Rattle.field_merge.specs.Messages.{IsMessage, message_line, message_of}
use Rattle.field_merge.specs.Lines.{parts, message_of_texts, with_names, with_stamp, of_parts, reading, TakesMemory}
use Rattle.field_merge.proofs.EscapeLemmas.{known_whole, Lacks, Lacks-from_reads, lacks_byte, Fails-append, unescaped-escaped, escaped-no_tab, escaped-no_feed, bad_escape-escaped, bad_escape-tab}

pub parts-none : (xs : List ℕ) → Lacks 9 xs → parts xs ≡ xs ∷ []
parts-none [] h = refl
parts-none (x ∷ xs) h = let first = h.0 in rw (first, parts-none xs h.1) refl

pub parts-at : (xs ys : List ℕ) → Lacks 9 xs → parts (xs ++ 9 ∷ ys) ≡ xs ∷ parts ys
parts-at [] ys h = refl
parts-at (x ∷ xs) ys h = let first = h.0 in rw (first, parts-at xs ys h.1) refl

-- what a search for a TAB gives: none
pub parts-whole : (bs line : List ℕ) → IsFirstByte (is_byte 9) bs None → bs ≡ line → parts line ≡ line ∷ []
parts-whole bs line h is = subst (λ (t : List ℕ). parts t ≡ t ∷ []) is (parts-none bs (lacks_byte 9 bs h))

-- or the first one, at which the line is cut
abbrev pub FirstTab : List ℕ → ℕ → Type 0
FirstTab line at = (at < length line) × (get_or line at 0 ≡ 9) × (parts line ≡ take at line ∷ parts (drop (at + 1) line))

pub parts-cut : (bs line : List ℕ) (at : ℕ) → IsFirstByte (is_byte 9) bs (Some at) → bs ≡ line → FirstTab line at
parts-cut bs line at h is =
    let found : IsFirstByte (is_byte 9) line (Some at) = subst (λ (t : List ℕ). IsFirstByte (is_byte 9) t (Some at)) is h in
    let within : at < length line = found.0.high in
    let tab : get_or line at 0 ≡ 9 = eqb-true (get_or line at 0) 9 found.1 in
    let front : Lacks 9 (take at line) = Lacks-from_reads 9 (take at line) (λ i l same.
    let below : i < at = omega (arith, length-take-le at line (omega arith)) in
    found.0.before i (omega arith) below (eq-eqb (get_or line i 0) 9 (sym (get_or-take at line i 0 below) ∙ same))) in
    let cut : line ≡ take at line ++ 9 ∷ drop (at + 1) line =
    sym (take-append-drop at line) ∙ ap (λ t. take at line ++ t) (drop_more line at 0 within ∙ ap (λ b. b ∷ drop (at + 1) line) tab) in
    (within, tab, ap parts cut ∙ parts-at (take at line) (drop (at + 1) line) front)

pub length_of_parts : (line : List ℕ) → length (parts line) ≡ count_by (λ b. b == 9) line + 1
length_of_parts line = length-slice_split (λ b. b == 9) line

-- a part behind the fifth makes six or more
pub too_many : (line a r1 b r2 c r3 d r4 e r5 : List ℕ) → parts line ≡ a ∷ parts r1 → parts r1 ≡ b ∷ parts r2 → parts r2 ≡ c ∷ parts r3 → parts r3 ≡ d ∷ parts r4 → parts r4 ≡ e ∷ parts r5 → length (parts line) ≡ 5 → ⊥
too_many line a r1 b r2 c r3 d r4 e r5 h1 h2 h3 h4 h5 five =
    omega (arith, ap length h1, ap length h2, ap length h3, ap length h4, ap length h5, length_of_parts r5)

-- another number of parts
pub reading-columns : (ps : List (List ℕ)) (bad : Option ℕ) → length ps ≢ 5 → of_parts ps bad ≡ Err (Columns (length ps))
reading-columns [] bad h = refl
reading-columns (a ∷ []) bad h = refl
reading-columns (a ∷ b ∷ []) bad h = refl
reading-columns (a ∷ b ∷ c ∷ []) bad h = refl
reading-columns (a ∷ b ∷ c ∷ d ∷ []) bad h = refl
reading-columns (a ∷ b ∷ c ∷ d ∷ e ∷ []) bad h = absurd (h refl)
reading-columns (a ∷ b ∷ c ∷ d ∷ e ∷ f ∷ ps) bad h = refl

pub reading_of_others : (line : List ℕ) → length (parts line) ≢ 5 → reading line ≡ Err (Columns (length (parts line)))
reading_of_others line h = reading-columns (parts line) (bad_escape line) h

-- one more escaped text and a TAB before a line
abbrev before : List ℕ → List ℕ → List ℕ
before text line = escaped text ++ (9 ∷ line)

before-parts : (text line : List ℕ) → parts (before text line) ≡ escaped text ∷ parts line
before-parts text line = parts-at (escaped text) line (escaped-no_tab text)

before-good : (text line : List ℕ) → bad_escape line ≡ None → bad_escape (before text line) ≡ None
before-good text line h = bad_escape-escaped text (9 ∷ line) (bad_escape-tab line h)

before-no_feed : (text line : List ℕ) → Lacks 10 line → Lacks 10 (before text line)
before-no_feed text line h = Fails-append (λ x. x == 10) (escaped text) (9 ∷ line) (escaped-no_feed text) (refl, h)

last-good : (text : List ℕ) → bad_escape (escaped text) ≡ None
last-good text = ap bad_escape (sym (append-nil (escaped text))) ∙ bad_escape-escaped text [] refl

-- the line of five texts
abbrev five : List ℕ → List ℕ → List ℕ → List ℕ → List ℕ → List ℕ
five a b c d e = before a (before b (before c (before d (escaped e))))

five-parts : (a b c d e : List ℕ) → parts (five a b c d e) ≡ escaped a ∷ escaped b ∷ escaped c ∷ escaped d ∷ escaped e ∷ []
five-parts a b c d e =
    before-parts a (before b (before c (before d (escaped e)))) ∙ ap (λ ps. escaped a ∷ ps) (
    before-parts b (before c (before d (escaped e))) ∙ ap (λ ps. escaped b ∷ ps) (
    before-parts c (before d (escaped e)) ∙ ap (λ ps. escaped c ∷ ps) (
    before-parts d (escaped e) ∙ ap (λ ps. escaped d ∷ ps) (
    parts-none (escaped e) (escaped-no_tab e)))))

five-good : (a b c d e : List ℕ) → bad_escape (five a b c d e) ≡ None
five-good a b c d e =
    before-good a (before b (before c (before d (escaped e)))) (
    before-good b (before c (before d (escaped e))) (
    before-good c (before d (escaped e)) (
    before-good d (escaped e) (last-good e))))

-- the line of a message reads as the message
pub reading_of_line : (m : Message) → IsMessage m → reading (message_line m) ≡ Ok m
reading_of_line m valid =
    let e1 = five-parts (stamp_text m.stamp) m.field.dataset m.field.row m.field.column (value_text m.value) in
    let e2 = five-good (stamp_text m.stamp) m.field.dataset m.field.row m.field.column (value_text m.value) in
    ap (λ ps. of_parts ps (bad_escape (message_line m))) e1
    ∙ ap (λ bad. of_parts (escaped (stamp_text m.stamp) ∷ escaped m.field.dataset ∷ escaped m.field.row ∷ escaped m.field.column ∷ escaped (value_text m.value) ∷ []) bad) e2
    ∙ rw (unescaped-escaped (stamp_text m.stamp), unescaped-escaped m.field.dataset, unescaped-escaped m.field.row, unescaped-escaped m.field.column, unescaped-escaped (value_text m.value), text_reads m.stamp valid.stamp, names_fault-none m.field valid.field, value_of_text m.value valid.value) refl

-- a body that is written part by part
pub body_pushed : (old a b c d : List ℕ) → ((((old ++ a) ++ 9 ∷ b) ++ 9 ∷ c) ++ 9 ∷ []) ++ d ≡ old ++ (a ++ (9 ∷ (b ++ (9 ∷ (c ++ (9 ∷ d))))))
body_pushed old a b c d = simp append_assoc

-- a line is a first part, a TAB and the rest
pub line_pushed : (old a rest : List ℕ) → ((old ++ a) ++ 9 ∷ []) ++ rest ≡ old ++ (a ++ (9 ∷ rest))
line_pushed old a rest = simp append_assoc

no_feed : (m : Message) → Lacks 10 (message_line m)
no_feed m =
    let d = m.field.dataset in
    let r = m.field.row in
    let c = m.field.column in
    let v = value_text m.value in
    before-no_feed (stamp_text m.stamp) (before d (before r (before c (escaped v)))) (
    before-no_feed d (before r (before c (escaped v))) (
    before-no_feed r (before c (escaped v)) (
    before-no_feed c (escaped v) (escaped-no_feed v))))

each_other : (c : ℕ) (xs : List ℕ) → Lacks c xs → All (λ b. b ≢ c) xs
each_other c [] h k d l = absurd (omega arith)
each_other c (x ∷ xs) h zero d l = eqb-false x c h.0
each_other c (x ∷ xs) h (suc k) d l = each_other c xs h.1 k d (omega arith)

-- a line has no LF
pub message_line_on_one_line : (m : Message) → All (λ b. b ≢ 10) (message_line m)
message_line_on_one_line m = each_other 10 (message_line m) (no_feed m)

valid_names : (found : Option NameFault) (stamp : Stamp) (names : FieldNames) (value : List ℕ) (m : Message) → names_fault names ≡ found → IsStamp stamp → with_names found stamp names value ≡ Ok m → IsMessage m
valid_names (Some fault) stamp names value m told valid e = absurd (cc)
valid_names None stamp names value m told valid e =
    let P : Result Message LineFault → Type 0 = λ r. IfOk r IsMessage in
    subst P e (record { stamp = valid; field = names_without_fault names told; value = (texts_write_back_lem value).0 })

valid_stamp : (read : Result Stamp StampFault) (text : List ℕ) (names : FieldNames) (value : List ℕ) (m : Message) → read_stamp text ≡ read → with_stamp read names value ≡ Ok m → IsMessage m
valid_stamp (Err fault) text names value m told e = absurd (cc)
valid_stamp (Ok stamp) text names value m told e =
    valid_names (names_fault names) stamp names value m refl (read_valid text stamp told) e

valid_parts : (ps : List (List ℕ)) (bad : Option ℕ) (m : Message) → of_parts ps bad ≡ Ok m → IsMessage m
valid_parts [] bad m h = absurd (cc)
valid_parts (a ∷ []) bad m h = absurd (cc)
valid_parts (a ∷ b ∷ []) bad m h = absurd (cc)
valid_parts (a ∷ b ∷ c ∷ []) bad m h = absurd (cc)
valid_parts (a ∷ b ∷ c ∷ d ∷ []) bad m h = absurd (cc)
valid_parts (a ∷ b ∷ c ∷ d ∷ e ∷ []) (Some at) m h = absurd (cc)
valid_parts (a ∷ b ∷ c ∷ d ∷ e ∷ []) None m h =
    valid_stamp (read_stamp (unescaped a)) (unescaped a) (field_of (unescaped b) (unescaped c) (unescaped d)) (unescaped e) m refl h
valid_parts (a ∷ b ∷ c ∷ d ∷ e ∷ f ∷ ps) bad m h = absurd (cc)

-- what a line reads as is a message
pub reading_is_message : (line : List ℕ) (m : Message) → reading line ≡ Ok m → IsMessage m
reading_is_message line m h = valid_parts (parts line) (bad_escape line) m h

-- a timestamp and names without a fault are read as a message
pub reads_well : (stamp dataset row column value : List ℕ) (s : Stamp) → read_stamp (unescaped stamp) ≡ Ok s → names_fault (field_of (unescaped dataset) (unescaped row) (unescaped column)) ≡ None → is_ok (of_parts (stamp ∷ dataset ∷ row ∷ column ∷ value ∷ []) None) ≡ true
reads_well stamp dataset row column value s read named = rw (read, named) refl

front_plain : (xs rest : List ℕ) → has_backslash (xs ++ (9 ∷ rest)) ≡ false → (has_backslash xs ≡ false) × (has_backslash rest ≡ false)
front_plain xs rest h = or_parts (has_backslash xs) (has_backslash rest) (sym (list_any-append (λ b. b == 92) xs (9 ∷ rest)) ∙ h)

-- no part of a line without a backslash has one
pub parts_plain : (line a b c d e : List ℕ) → parts line ≡ a ∷ b ∷ c ∷ d ∷ e ∷ [] → has_backslash line ≡ false → ArePlain a b c d e
parts_plain line a b c d e cut h =
    let joined : join_with_byte 9 (a ∷ b ∷ c ∷ d ∷ e ∷ []) ≡ line = ap (join_with_byte 9) (sym cut) ∙ join_with_byte-slice_split 9 line in
    let whole : has_backslash (a ++ (9 ∷ (b ++ (9 ∷ (c ++ (9 ∷ (d ++ (9 ∷ e)))))))) ≡ false = ap has_backslash joined ∙ h in
    let one = front_plain a (b ++ (9 ∷ (c ++ (9 ∷ (d ++ (9 ∷ e)))))) whole in
    let two = front_plain b (c ++ (9 ∷ (d ++ (9 ∷ e)))) one.1 in
    let three = front_plain c (d ++ (9 ∷ e)) two.1 in
    let four = front_plain d e three.1 in
    record { first = one.0; second = two.0; third = three.0; fourth = four.0; fifth = four.1 }

-- the same of a line that is known to have none
pub plain_parts : (plain : Bool) (line a b c d e : List ℕ) → parts line ≡ a ∷ b ∷ c ∷ d ∷ e ∷ [] → OnTrue plain (has_backslash line ≡ false) → plain ≡ true → ArePlain a b c d e
plain_parts true line a b c d e cut h is = parts_plain line a b c d e cut h
plain_parts false line a b c d e cut h is = absurd (cc)

-- where memory is taken, from where it is taken for the parts
takes_memory : (line a b c d e : List ℕ) → parts line ≡ a ∷ b ∷ c ∷ d ∷ e ∷ [] → bad_escape line ≡ None → (ArePlain a b c d e → is_ok (of_parts (a ∷ b ∷ c ∷ d ∷ e ∷ []) None) ≡ true) → TakesMemory line
takes_memory line a b c d e cut good read = record {
  five = ap length cut;
  good = good;
  plain = λ h. rw (cut, good) (read (parts_plain line a b c d e cut h));
}

pub memory_of_parts : {A : Type 0} (r : Result A LineFault) (line a b c d e : List ℕ) → parts line ≡ a ∷ b ∷ c ∷ d ∷ e ∷ [] → bad_escape line ≡ None → IfErr r (λ fault. fault ≡ OutOfMemory → ArePlain a b c d e → is_ok (of_parts (a ∷ b ∷ c ∷ d ∷ e ∷ []) None) ≡ true) → IfErr r (λ fault. fault ≡ OutOfMemory → TakesMemory line)
memory_of_parts (Ok m) line a b c d e cut good h = tt
memory_of_parts (Err fault) line a b c d e cut good h = λ is. takes_memory line a b c d e cut good (h is)

-- what holds of each fault
pub each_fault : {A E : Type 0} (r : Result A E) (P : E → Type 0) → ((e : E) → P e) → IfErr r P
each_fault (Ok x) P p = tt
each_fault (Err e) P p = p e

-- what five texts read as, by their timestamp and their names
pub texts_read : (stamp value : List ℕ) (names : FieldNames) (s : Stamp) → read_stamp stamp ≡ Ok s → names_fault names ≡ None → message_of_texts stamp names value ≡ Ok (message_of s names value)
texts_read stamp value names s read good = rw (read, good) refl

pub bad_stamp_read : (stamp value : List ℕ) (names : FieldNames) (fault : StampFault) → read_stamp stamp ≡ Err fault → message_of_texts stamp names value ≡ Err (BadStamp fault)
bad_stamp_read stamp value names fault read = rw read refl

pub bad_name_read : (stamp value : List ℕ) (names : FieldNames) (s : Stamp) (fault : NameFault) → read_stamp stamp ≡ Ok s → names_fault names ≡ Some fault → message_of_texts stamp names value ≡ Err (BadName fault)
bad_name_read stamp value names s fault read bad = rw (read, bad) refl

whole : (part : List ℕ) → has_backslash part ≡ false → unescaped part ≡ part
whole part h = known_whole true part (λ known. h)

-- a line without a backslash reads as its texts
pub line_as_texts : (line a b c d e : List ℕ) (names : FieldNames) → parts line ≡ a ∷ b ∷ c ∷ d ∷ e ∷ [] → bad_escape line ≡ None → has_backslash line ≡ false → names ≡ field_of b c d → reading line ≡ message_of_texts a names e
line_as_texts line a b c d e names cut good plain named =
    let all = parts_plain line a b c d e cut plain in
    ap (λ ps. of_parts ps (bad_escape line)) cut ∙ ap (λ bad. of_parts (a ∷ b ∷ c ∷ d ∷ e ∷ []) bad) good
    ∙ rw (whole a all.first, whole b all.second, whole c all.third, whole d all.fourth, whole e all.fifth, named) refl

-- where memory is taken, from where it is taken for the texts
pub memory_of_texts : {A : Type 0} (r : Result A LineFault) (line a b c d e : List ℕ) (names : FieldNames) → parts line ≡ a ∷ b ∷ c ∷ d ∷ e ∷ [] → bad_escape line ≡ None → reading line ≡ message_of_texts a names e
    → IfErr r (λ fault. fault ≡ OutOfMemory → is_ok (message_of_texts a names e) ≡ true) → IfErr r (λ fault. fault ≡ OutOfMemory → TakesMemory line)
memory_of_texts (Ok m) line a b c d e names cut good read h = tt
memory_of_texts (Err fault) line a b c d e names cut good read h = λ is. record {
  five = ap length cut;
  good = good;
  plain = λ plain. ap is_ok read ∙ h is;
}
