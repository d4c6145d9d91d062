-- A line that is read is written back, but for the bytes that stand in it without their escape.
use Rattle.std.proofs.Common.{◌≡◌, ℕ, Bool, true, false, cond, ◌||◌, ◌&&◌, eqb, List, [], ◌∷◌, ◌++◌, map, Option, None, Some, Result, Ok, Err, IfOk, refl, ap, sym, subst, ◌∙◌}
use Rattle.std.specs.List.{flat_map, join_with_byte, onto_first, AllByRecursion}
use Rattle.std.proofs.lemmas.Bool.{eqb-true, and_parts}
use Rattle.std.proofs.lemmas.List.Concat.{flat_map-append}
use Rattle.std.proofs.lemmas.List.Splits.{join_with_byte-slice_split}
use Rattle.field_values.specs.declared.name.NameFault.{NameFault}
use Rattle.field_values.specs.Names.{field_of, names_fault}
use Rattle.field_values.specs.Value.{value_of, value_text}
use Rattle.field_values.proofs.Values.{texts_write_back_lem}
use Rattle.hybrid_clock.specs.declared.stamp.Stamp.{Stamp}
use Rattle.hybrid_clock.specs.declared.stamp.StampFault.{StampFault}
use Rattle.hybrid_clock.specs.Stamp.{stamp_text}
use Rattle.hybrid_clock.specs.Reading.{read_stamp}
use Rattle.hybrid_clock.proofs.Texts.{read_text}
use Rattle.field_merge.specs.declared.message.Message.{Message}
use Rattle.field_merge.specs.declared.line.LineFault.{LineFault}
use Rattle.field_merge.specs.Escapes.{escaped, escaped_byte, raw_escaped, is_letter, is_escape, meaning, unescaped, place_after, bad_escape}
use Rattle.field_merge.specs.Messages.{message_line, message_texts}
use Rattle.field_merge.specs.Lines.{parts, with_names, with_stamp, of_parts, reading}
use Rattle.field_merge.proofs.EscapeLemmas.{Lacks, bad_escape-plain}

-- ---- a part

one_by : (p q r s : Bool) (b : ℕ) → q ≡ false → s ≡ false → cond p (92 ∷ 48 ∷ []) (cond q (92 ∷ 116 ∷ []) (cond r (92 ∷ 110 ∷ []) (cond s (92 ∷ 92 ∷ []) (b ∷ [])))) ≡ cond p (92 ∷ 48 ∷ []) (cond r (92 ∷ 110 ∷ []) (b ∷ []))
one_by p q r s b h9 h92 = rw (h9, h92) refl

-- a byte that is neither a TAB nor a backslash
escaped_once : (b : ℕ) → eqb b 9 ≡ false → eqb b 92 ≡ false → escaped_byte b ≡ raw_escaped b
escaped_once b h9 h92 = one_by (eqb b 0) (eqb b 9) (eqb b 10) (eqb b 92) b h9 h92

letter_by : (p q r s : Bool) (c : ℕ) → eqb c 48 ≡ p → eqb c 116 ≡ q → eqb c 110 ≡ r → eqb c 92 ≡ s → (p || (q || (r || s))) ≡ true → escaped_byte (cond p 0 (cond q 9 (cond r 10 92))) ≡ 92 ∷ raw_escaped c
letter_by true q r s c h48 h116 h110 h92 h = ap (λ x. 92 ∷ raw_escaped x) (sym (eqb-true c 48 h48))
letter_by false true r s c h48 h116 h110 h92 h = ap (λ x. 92 ∷ raw_escaped x) (sym (eqb-true c 116 h116))
letter_by false false true s c h48 h116 h110 h92 h = ap (λ x. 92 ∷ raw_escaped x) (sym (eqb-true c 110 h110))
letter_by false false false true c h48 h116 h110 h92 h = ap (λ x. 92 ∷ raw_escaped x) (sym (eqb-true c 92 h92))
letter_by false false false false c h48 h116 h110 h92 h = absurd (cc)

-- what a letter means is written by the letter
meaning_escaped : (c : ℕ) → is_letter c ≡ true → escaped_byte (meaning c) ≡ 92 ∷ raw_escaped c
meaning_escaped c h = letter_by (eqb c 48) (eqb c 116) (eqb c 110) (eqb c 92) c refl refl refl refl h

place_after_none : (n : ℕ) (o : Option ℕ) → place_after n o ≡ None → o ≡ None
place_after_none n None h = refl
place_after_none n (Some at) h = absurd (cc)

no_backslash : (t : Bool) (o : Option ℕ) → cond t (Some 0) o ≡ None → (t ≡ false) × (o ≡ None)
no_backslash true o h = absurd (cc)
no_backslash false o h = (refl, h)

-- the part is written as it stands, up to its raw bytes
abbrev IsWritten : List ℕ → Type 0
IsWritten part = escaped (unescaped part) ≡ flat_map raw_escaped part

pair_by : (t : Bool) (b c : ℕ) (rest : List ℕ) → is_escape b c ≡ t → eqb b 9 ≡ false
    → cond t (place_after 2 (bad_escape rest)) (cond (eqb b 92) (Some 0) (place_after 1 (bad_escape (c ∷ rest)))) ≡ None
    → (bad_escape rest ≡ None → IsWritten rest) → (bad_escape (c ∷ rest) ≡ None → IsWritten (c ∷ rest))
    → escaped (cond t (meaning c ∷ unescaped rest) (b ∷ unescaped (c ∷ rest))) ≡ flat_map raw_escaped (b ∷ c ∷ rest)
pair_by true b c rest e h none short long =
    let both = and_parts (eqb b 92) (is_letter c) e in
    ap (λ t. t ++ escaped (unescaped rest)) (meaning_escaped c both.1)
    ∙ ap (λ t. 92 ∷ (raw_escaped c ++ t)) (short (place_after_none 2 (bad_escape rest) none))
    ∙ ap (λ x. raw_escaped x ++ (raw_escaped c ++ flat_map raw_escaped rest)) (sym (eqb-true b 92 both.0))
pair_by false b c rest e h none short long =
    let plain = no_backslash (eqb b 92) (place_after 1 (bad_escape (c ∷ rest))) none in
    ap (λ t. t ++ escaped (unescaped (c ∷ rest))) (escaped_once b h plain.0)
    ∙ ap (λ t. raw_escaped b ++ t) (long (place_after_none 1 (bad_escape (c ∷ rest)) plain.1))

pub part_writes_back : (part : List ℕ) → Lacks 9 part → bad_escape part ≡ None → IsWritten part
part_writes_back [] h none = refl
part_writes_back (b ∷ []) h none = ap (λ t. t ++ []) (escaped_once b h.0 (no_backslash (eqb b 92) None none).0)
part_writes_back (b ∷ c ∷ rest) h none =
    pair_by (is_escape b c) b c rest refl h.0 none (part_writes_back rest h.1.1) (part_writes_back (c ∷ rest) h.1)

-- ---- the parts of a line

-- the part has no bad escape
abbrev pub IsGood : List ℕ → Type 0
IsGood part = bad_escape part ≡ None

no_tab_by : (t : Bool) (x : ℕ) (ps : List (List ℕ)) → eqb x 9 ≡ t → AllByRecursion (Lacks 9) ps → AllByRecursion (Lacks 9) (cond t ([] ∷ ps) (onto_first x ps))
no_tab_by true x ps e h = (tt, h)
no_tab_by false x [] e h = ((e, tt), tt)
no_tab_by false x (p ∷ ps) e h = ((e, h.0), h.1)

parts_without_tab : (line : List ℕ) → AllByRecursion (Lacks 9) (parts line)
parts_without_tab [] = (tt, tt)
parts_without_tab (x ∷ xs) = no_tab_by (eqb x 9) x (parts xs) refl (parts_without_tab xs)

parts_escaped : (ps : List (List ℕ)) → AllByRecursion (Lacks 9) ps → AllByRecursion IsGood ps → map escaped (map unescaped ps) ≡ map (flat_map raw_escaped) ps
parts_escaped [] h good = refl
parts_escaped (p ∷ ps) h good =
    ap (λ t. t ∷ map escaped (map unescaped ps)) (part_writes_back p h.0 good.0)
    ∙ ap (λ ts. flat_map raw_escaped p ∷ ts) (parts_escaped ps h.1 good.1)

parts_joined : (ps : List (List ℕ)) → flat_map raw_escaped (join_with_byte 9 ps) ≡ join_with_byte 9 (map (flat_map raw_escaped) ps)
parts_joined [] = refl
parts_joined (p ∷ []) = refl
parts_joined (p ∷ q ∷ ps) =
    flat_map-append raw_escaped p (9 ∷ join_with_byte 9 (q ∷ ps))
    ∙ ap (λ t. flat_map raw_escaped p ++ (9 ∷ t)) (parts_joined (q ∷ ps))

-- the texts of a line's parts, written as a line
pub parts_write_back : (line : List ℕ) → AllByRecursion IsGood (parts line) → join_with_byte 9 (map escaped (map unescaped (parts line))) ≡ flat_map raw_escaped line
parts_write_back line good =
    ap (join_with_byte 9) (parts_escaped (parts line) (parts_without_tab line) good)
    ∙ sym (parts_joined (parts line))
    ∙ ap (flat_map raw_escaped) (join_with_byte-slice_split 9 line)

-- ---- a line without a bad escape

one_cut : (t : Bool) (rest : List ℕ) (o : Option ℕ) → cond (t && false) o (cond t (Some 0) (place_after 1 (bad_escape (9 ∷ rest)))) ≡ None → (cond {A = Option ℕ} t (Some 0) None ≡ None) × (bad_escape (9 ∷ rest) ≡ None)
one_cut true rest o h = absurd (cc)
one_cut false rest o h = (refl, place_after_none 1 (bad_escape (9 ∷ rest)) h)

pair_cut : (t u : Bool) (short short_cut long long_cut : Option ℕ) (Rest : Type 0)
    → cond t (place_after 2 short) (cond u (Some 0) (place_after 1 long)) ≡ None
    → (short ≡ None → (short_cut ≡ None) × Rest) → (long ≡ None → (long_cut ≡ None) × Rest)
    → (cond t (place_after 2 short_cut) (cond u (Some 0) (place_after 1 long_cut)) ≡ None) × Rest
pair_cut true u short short_cut long long_cut Rest h of_short of_long =
    let cut = of_short (place_after_none 2 short h) in (ap (place_after 2) cut.0, cut.1)
pair_cut false true short short_cut long long_cut Rest h of_short of_long = absurd (cc)
pair_cut false false short short_cut long long_cut Rest h of_short of_long =
    let cut = of_long (place_after_none 1 long h) in (ap (place_after 1) cut.0, cut.1)

behind_tab : (rest : List ℕ) → IsGood (9 ∷ rest) → IsGood rest
behind_tab rest h = place_after_none 1 (bad_escape rest) (sym (bad_escape-plain 9 rest refl) ∙ h)

-- a TAB is no letter of an escape, so the parts have no bad escape
good_cut : (part rest : List ℕ) → IsGood (part ++ 9 ∷ rest) → IsGood part × IsGood rest
good_cut [] rest h = (refl, behind_tab rest h)
good_cut (b ∷ []) rest h = let cut = one_cut (eqb b 92) rest (place_after 2 (bad_escape rest)) h in (cut.0, behind_tab rest cut.1)
good_cut (b ∷ c ∷ part) rest h =
    pair_cut (is_escape b c) (eqb b 92) (bad_escape (part ++ 9 ∷ rest)) (bad_escape part) (bad_escape (c ∷ (part ++ 9 ∷ rest))) (bad_escape (c ∷ part)) (IsGood rest) h
    (good_cut part rest) (good_cut (c ∷ part) rest)

good_parts : (ps : List (List ℕ)) → IsGood (join_with_byte 9 ps) → AllByRecursion IsGood ps
good_parts [] h = tt
good_parts (p ∷ []) h = (h, tt)
good_parts (p ∷ q ∷ ps) h = let cut = good_cut p (join_with_byte 9 (q ∷ ps)) h in (cut.0, good_parts (q ∷ ps) cut.1)

-- ---- a message

abbrev HasTexts : List (List ℕ) → Message → Type 0
HasTexts texts m = message_texts m ≡ texts

texts_by_names : (found : Option NameFault) (stamp : Stamp) (text d r c value : List ℕ) (m : Message) → stamp_text stamp ≡ text → with_names found stamp (field_of d r c) value ≡ Ok m → HasTexts (text ∷ d ∷ r ∷ c ∷ value ∷ []) m
texts_by_names (Some fault) stamp text d r c value m told e = absurd (cc)
texts_by_names None stamp text d r c value m told e =
    let P : Result Message LineFault → Type 0 = λ read. IfOk read (HasTexts (text ∷ d ∷ r ∷ c ∷ value ∷ [])) in
    subst P e (ap (λ t. t ∷ d ∷ r ∷ c ∷ value_text (value_of value) ∷ []) told ∙ ap (λ t. text ∷ d ∷ r ∷ c ∷ t ∷ []) (texts_write_back_lem value).1)

texts_by_stamp : (read : Result Stamp StampFault) (text d r c value : List ℕ) (m : Message) → read_stamp text ≡ read → with_stamp read (field_of d r c) value ≡ Ok m → HasTexts (text ∷ d ∷ r ∷ c ∷ value ∷ []) m
texts_by_stamp (Err fault) text d r c value m told e = absurd (cc)
texts_by_stamp (Ok stamp) text d r c value m told e =
    texts_by_names (names_fault (field_of d r c)) stamp text d r c value m (read_text text stamp told) e

-- the texts of a message that was read are those of the parts
texts_by_parts : (ps : List (List ℕ)) (bad : Option ℕ) (m : Message) → of_parts ps bad ≡ Ok m → (bad ≡ None) × HasTexts (map unescaped ps) m
texts_by_parts [] bad m h = absurd (cc)
texts_by_parts (a ∷ []) bad m h = absurd (cc)
texts_by_parts (a ∷ b ∷ []) bad m h = absurd (cc)
texts_by_parts (a ∷ b ∷ c ∷ []) bad m h = absurd (cc)
texts_by_parts (a ∷ b ∷ c ∷ d ∷ []) bad m h = absurd (cc)
texts_by_parts (a ∷ b ∷ c ∷ d ∷ e ∷ []) (Some at) m h = absurd (cc)
texts_by_parts (a ∷ b ∷ c ∷ d ∷ e ∷ []) None m h =
    (refl, texts_by_stamp (read_stamp (unescaped a)) (unescaped a) (unescaped b) (unescaped c) (unescaped d) (unescaped e) m refl h)
texts_by_parts (a ∷ b ∷ c ∷ d ∷ e ∷ f ∷ ps) bad m h = absurd (cc)

pub line_writes_back : (line : List ℕ) (m : Message) → reading line ≡ Ok m → message_line m ≡ flat_map raw_escaped line
line_writes_back line m h =
    let read = texts_by_parts (parts line) (bad_escape line) m h in
    let good = good_parts (parts line) (ap bad_escape (join_with_byte-slice_split 9 line) ∙ read.0) in
    ap (λ texts. join_with_byte 9 (map escaped texts)) read.1 ∙ parts_write_back line good
