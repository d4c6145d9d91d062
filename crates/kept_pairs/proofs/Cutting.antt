-- How a text is cut into the fields of its lines, however it is spelled.
use Rattle.std.proofs.Common.{◌≡◌, ℕ, suc, ◌==◌, Bool, true, false, List, [], ◌∷◌, ◌++◌, Some, None, refl, sym, ap, ap₂, ◌∙◌, inl, inr, ◌⊎◌, subst, arith, append_assoc}
use Rattle.std.specs.Prelude.{◌≢◌, ◌&&◌, map, flat_map, if◌then◌else◌}
use Rattle.std.specs.List.{Contains}
use Rattle.std.proofs.lemmas.List.{append-nil}
use Rattle.std.proofs.lemmas.Bool.{eqb-true, ne_eqb}
use Rattle.csv.specs.declared.parser.State.{State}
use Rattle.csv.specs.declared.parser.State.TheVariants as st
use Rattle.csv.specs.Machine.{next_record}
use Rattle.csv.specs.Reading.{default_config, strip_bom, Reached, AreRecords, records}
use Rattle.csv.specs.Writing.{default_writer, escaped}
use Rattle.csv.proofs.RoundTrip.{plain-run, quoted-run, after-quote-same, start-same, record-same}
use Rattle.finite_sums.specs.Maps.{Text}
use Rattle.bank_import.specs.Statement.{rows_in}
use Rattle.bank_import.proofs.Csv.{records_are}
use Rattle.kept_pairs.specs.Columns.{IsPlain}
use Rattle.kept_pairs.specs.Cutting.{doubled, Spelled, joined, said, AreBreaks, Line, text_of, rows_of, HasMark, TextsAreCut}
use Rattle.kept_pairs.proofs.Columns.{calm}

-- ---- fields

-- each quote twice, as the writer writes it
escaped_is : (f : Text) → escaped default_writer f ≡ doubled f
unfolding escaped
escaped_is [] = refl
escaped_is (b ∷ bs) = by (b == 34) refl (escaped_is bs)
  where
    by : (e : Bool) → (b == 34) ≡ e → escaped default_writer bs ≡ doubled bs → escaped default_writer (b ∷ bs) ≡ doubled (b ∷ bs)
    by true e more = rw (eqb-true b 34 e) (ap (λ (t : Text). 34 ∷ 34 ∷ t) more)
    by false e more = rw (e, more) refl

-- what follows a field, after which a quote or nothing is as one field
record Follows (u : Text) : Type 0 where
  quote : (fields : List Text) (f : Text) → next_record default_config st.AfterQuote fields f u ≡ next_record default_config st.InField fields f u
  start : (fields : List Text) → next_record default_config st.StartField fields [] u ≡ next_record default_config st.InField fields [] u

nothing_follows : Follows []
unfolding next_record
nothing_follows = record { quote = λ fields f. refl; start = λ fields. refl }

byte_follows : (c : ℕ) (u : Text) → (c == 34) ≡ false → Follows (c ∷ u)
byte_follows c u n = record { quote = λ fields f. after-quote-same fields f c u n; start = λ fields. start-same fields [] c u n }

in_quotes : (fields : List Text) (u : Text) → next_record default_config st.StartField fields [] (34 ∷ u) ≡ next_record default_config st.InQuoted fields [] u
unfolding next_record
in_quotes fields u = refl

plain_start : (fields : List Text) (x : Text) (u : Text) → IsPlain x → Follows u → next_record default_config st.StartField fields [] (x ++ u) ≡ next_record default_config st.InField fields x u
plain_start fields [] u h w = w.start fields
plain_start fields (b ∷ bs) u h w = start-same fields [] b (bs ++ u) (ne_eqb b 34 (h b (0, omega arith, refl)).1) ∙ plain-run fields [] (b ∷ bs) u (calm (b ∷ bs) h)

field_run : (fields : List Text) (x : Spelled) (u : Text) → Follows u → next_record default_config st.StartField fields [] (x.text ++ u) ≡ next_record default_config st.InField fields x.says u
field_run fields x u w = elim x.spelled [
  | inl p ↦ ap (λ (t : Text). next_record default_config st.StartField fields [] (t ++ u)) p.1 ∙ plain_start fields x.says u p.0 w
  | inr q ↦
      ap (λ (t : Text). next_record default_config st.StartField fields [] (t ++ u)) q
      ∙ in_quotes fields ((doubled x.says ++ 34 ∷ []) ++ u)
      ∙ ap (next_record default_config st.InQuoted fields []) (append_assoc (doubled x.says) (34 ∷ []) u ∙ ap (λ (t : Text). t ++ 34 ∷ u) (sym (escaped_is x.says)))
      ∙ quoted-run fields [] x.says u
      ∙ w.quote fields x.says
]

-- ---- lines

-- the fields behind the first one
abbrev behind : List Spelled → Text
behind fs = flat_map (λ (g : Spelled). 44 ∷ g.text) fs

-- here the line ends
abbrev Ends : Text → State → Text → Type 0
Ends u s t = (fields : List Text) (f : Text) → next_record default_config st.InField fields f u ≡ Some (fields ++ f ∷ [], s, t)

behind_follows : (fs : List Spelled) (u : Text) → Follows u → Follows (behind fs ++ u)
behind_follows [] u w = w
behind_follows (g ∷ fs) u w = byte_follows 44 ((g.text ++ behind fs) ++ u) refl

at_comma : (fields : List Text) (f u : Text) → next_record default_config st.InField fields f (44 ∷ u) ≡ next_record default_config st.StartField (fields ++ f ∷ []) [] u
unfolding next_record
at_comma fields f u = refl

rest_run : (fields : List Text) (f : Text) (fs : List Spelled) (u : Text) (s : State) (t : Text) → Follows u → Ends u s t
    → next_record default_config st.InField fields f (behind fs ++ u) ≡ Some (fields ++ f ∷ map (λ (g : Spelled). g.says) fs, s, t)
rest_run fields f [] u s t w e = e fields f
rest_run fields f (g ∷ fs) u s t w e =
    at_comma fields f ((g.text ++ behind fs) ++ u)
    ∙ ap (next_record default_config st.StartField (fields ++ f ∷ []) []) (append_assoc g.text (behind fs) u)
    ∙ field_run (fields ++ f ∷ []) g (behind fs ++ u) (behind_follows fs u w)
    ∙ rest_run (fields ++ f ∷ []) g.says fs u s t w e
    ∙ ap (λ (r : List Text). Some (r, s, t)) (append_assoc fields (f ∷ []) (g.says ∷ map (λ (h : Spelled). h.says) fs))

-- a state between two records
abbrev IsStart : State → Type 0
IsStart s = (s ≡ st.StartRecord) ⊎ (s ≡ st.AfterCr)

cr_same : (c : ℕ) (u : Text) → (c == 13) ≡ false → (c == 10) ≡ false → next_record default_config st.AfterCr [] [] (c ∷ u) ≡ next_record default_config st.StartField [] [] (c ∷ u)
unfolding next_record
cr_same c u r n = rw (r, n) refl

begin : (s : State) (c : ℕ) (u : Text) → IsStart s → (c == 13) ≡ false → (c == 10) ≡ false → next_record default_config s [] [] (c ∷ u) ≡ next_record default_config st.StartField [] [] (c ∷ u)
begin s c u is r n = elim is [
  | inl e ↦ ap (λ (q : State). next_record default_config q [] [] (c ∷ u)) e ∙ record-same [] [] c u r n
  | inr e ↦ ap (λ (q : State). next_record default_config q [] [] (c ∷ u)) e ∙ cr_same c u r n
]

-- the first byte of a line is no line break
record HasHead (t : Text) : Type 0 where
  byte : ℕ
  more : Text
  is : t ≡ byte ∷ more
  no_return : (byte == 13) ≡ false
  no_feed : (byte == 10) ≡ false

spelled_head : (x : Spelled) (b : ℕ) (bs : Text) → x.text ≡ b ∷ bs → ((b == 13) ≡ false) × ((b == 10) ≡ false)
spelled_head x b bs e = elim x.spelled [
  | inl p ↦ let h = p.0 b (subst (λ (t : Text). Contains t b) (sym e ∙ p.1) (0, omega arith, refl)) in (ne_eqb b 13 h.2, ne_eqb b 10 h.3)
  | inr q ↦ let same : b ≡ 34 = head_is b bs (doubled x.says ++ 34 ∷ []) (sym e ∙ q) in (subst (λ (c : ℕ). (c == 13) ≡ false) (sym same) refl, subst (λ (c : ℕ). (c == 10) ≡ false) (sym same) refl)
]
  where
    head_is : (b : ℕ) (bs cs : Text) → b ∷ bs ≡ 34 ∷ cs → b ≡ 34
    head_is b bs cs e = cc

head_of : (f : Spelled) (fs : List Spelled) → joined f fs ≢ [] → HasHead (joined f fs)
head_of f fs some = by f.text refl fs refl
  where
    by : (t : Text) → f.text ≡ t → (gs : List Spelled) → fs ≡ gs → HasHead (joined f fs)
    by [] e [] g = absurd (some (ap₂ (λ (a : Text) (b : List Spelled). a ++ behind b) e g))
    by [] e (h ∷ hs) g = record { byte = 44; more = h.text ++ behind hs; is = ap₂ (λ (a : Text) (b : List Spelled). a ++ behind b) e g; no_return = refl; no_feed = refl }
    by (b ∷ bs) e gs g = let h = spelled_head f b bs e in record { byte = b; more = bs ++ behind fs; is = ap (λ (a : Text). a ++ behind fs) e; no_return = h.0; no_feed = h.1 }

-- a line is read, and what ends it
line_run : (s : State) (f : Spelled) (fs : List Spelled) (u : Text) (s2 : State) (t : Text) → IsStart s → joined f fs ≢ [] → Follows u → Ends u s2 t
    → next_record default_config s [] [] (joined f fs ++ u) ≡ Some (said f fs, s2, t)
line_run s f fs u s2 t is some w e =
    let h = head_of f fs some in
    ap (λ (x : Text). next_record default_config s [] [] (x ++ u)) h.is
    ∙ begin s h.byte (h.more ++ u) is h.no_return h.no_feed
    ∙ ap (λ (x : Text). next_record default_config st.StartField [] [] (x ++ u)) (sym h.is)
    ∙ ap (next_record default_config st.StartField [] []) (append_assoc f.text (behind fs) u)
    ∙ field_run [] f (behind fs ++ u) (behind_follows fs u w)
    ∙ rest_run [] f.says fs u s2 t w e

-- ---- line breaks

first_break : (b : ℕ) (bs : Text) → AreBreaks (b ∷ bs) → (b ≡ 13) ⊎ (b ≡ 10)
first_break b bs h = h b (0, omega arith, refl)

rest_breaks : (b : ℕ) (bs : Text) → AreBreaks (b ∷ bs) → AreBreaks bs
rest_breaks b bs h c m = h c (suc m.0, omega (arith, m.1), m.2)

-- a line break before a line is passed over
pass : (s : State) (b : ℕ) (u : Text) → IsStart s → (b ≡ 13) ⊎ (b ≡ 10) → next_record default_config s [] [] (b ∷ u) ≡ next_record default_config st.StartRecord [] [] u
unfolding next_record
pass s b u is (inl c) = elim is [ inl e ↦ rw (e, c) refl | inr e ↦ rw (e, c) refl ]
pass s b u is (inr c) = elim is [ inl e ↦ rw (e, c) refl | inr e ↦ rw (e, c) refl ]

-- where such breaks lead
record Passes (s : State) (front : Text) : Type 0 where
  state : State
  start : IsStart state
  reads : (u : Text) → next_record default_config s [] [] (front ++ u) ≡ next_record default_config state [] [] u

passes : (s : State) (front : Text) → IsStart s → AreBreaks front → Passes s front
passes s [] is h = record { state = s; start = is; reads = λ u. refl }
passes s (b ∷ bs) is h =
    let p = passes st.StartRecord bs (inl refl) (rest_breaks b bs h) in
    record { state = p.state; start = p.start; reads = λ u. pass s b (bs ++ u) is (first_break b bs h) ∙ p.reads u }

-- the state behind the first line break
abbrev state_behind : ℕ → State
state_behind b = if b == 13 then st.AfterCr else st.StartRecord

behind_start : (b : ℕ) → IsStart (state_behind b)
behind_start b = by (b == 13)
  where
    by : (e : Bool) → IsStart (if e then st.AfterCr else st.StartRecord)
    by true = inr refl
    by false = inl refl

break_ends : (b : ℕ) (u : Text) → (b ≡ 13) ⊎ (b ≡ 10) → Ends (b ∷ u) (state_behind b) u
unfolding next_record
break_ends b u (inl e) fields f = rw e refl
break_ends b u (inr e) fields f = rw e refl

no_quote : (b : ℕ) → (b ≡ 13) ⊎ (b ≡ 10) → (b == 34) ≡ false
no_quote b (inl e) = rw e refl
no_quote b (inr e) = rw e refl

nothing_ends : Ends [] st.StartRecord []
unfolding next_record
nothing_ends fields f = refl

no_more : (s : State) → IsStart s → next_record default_config s [] [] [] ≡ None
unfolding next_record
no_more s (inl e) = rw e refl
no_more s (inr e) = rw e refl

-- ---- texts

-- what is read from a state on: these rows, and then what is read behind them
abbrev Cut : State → Text → List (List Text) → Type 0
Cut s t rows = AreRecords default_config s t rows

-- one record more in front
one_more : (s : State) (t : Text) (row : List Text) (s2 : State) (u : Text) (rows : List (List Text)) → next_record default_config s [] [] t ≡ Some (row, s2, u) → Cut s2 u rows → Cut s t (row ∷ rows)
unfolding Reached
one_more s t row s2 u rows e c = (c.0, c.1, ((row, s2, u), e, refl, c.2), c.3)

none_at : (s : State) (t : Text) → next_record default_config s [] [] t ≡ None → Cut s t []
unfolding Reached
none_at s t e = (s, t, (refl, refl), e)

lines_cut : (s : State) (front : Text) (ls : List Line) (last : Text) (rows : List (List Text)) → IsStart s → AreBreaks front
    → ((q : State) (breaks : Text) → IsStart q → AreBreaks breaks → Cut q (breaks ++ last) rows) → Cut s (front ++ (text_of ls ++ last)) (rows_of ls ++ rows)
lines_cut s front [] last rows is h end = end s front is h
lines_cut s front (l ∷ ls) last rows is h end =
    let p = passes s front is h in
    by l.end refl l.ended l.breaks p (λ q breaks start are. lines_cut q breaks ls last rows start are end)
  where
    by : (e : Text) → l.end ≡ e → e ≢ [] → AreBreaks e → Passes s front → ((q : State) (breaks : Text) → IsStart q → AreBreaks breaks → Cut q (breaks ++ (text_of ls ++ last)) (rows_of ls ++ rows))
        → Cut s (front ++ (text_of (l ∷ ls) ++ last)) (rows_of (l ∷ ls) ++ rows)
    by [] is_end some breaks p later = absurd (some refl)
    by (b ∷ bs) is_end some breaks p later =
        let more = bs ++ (text_of ls ++ last) in
        let text : text_of (l ∷ ls) ++ last ≡ joined l.first l.rest ++ (b ∷ more) =
        append_assoc (joined l.first l.rest ++ l.end) (text_of ls) last
        ∙ append_assoc (joined l.first l.rest) l.end (text_of ls ++ last)
        ∙ ap (λ (e : Text). joined l.first l.rest ++ (e ++ (text_of ls ++ last))) is_end in
        one_more s (front ++ (text_of (l ∷ ls) ++ last)) (said l.first l.rest) (state_behind b) more (rows_of ls ++ rows)
        (p.reads (text_of (l ∷ ls) ++ last)
        ∙ ap (next_record default_config p.state [] []) text
        ∙ line_run p.state l.first l.rest (b ∷ more) (state_behind b) more p.start l.some (byte_follows b more (no_quote b (first_break b bs breaks))) (break_ends b more (first_break b bs breaks)))
        (later (state_behind b) bs (behind_start b) (rest_breaks b bs breaks))

ends_here : (q : State) (breaks : Text) → IsStart q → AreBreaks breaks → Cut q (breaks ++ []) []
ends_here q breaks is h = let p = passes q breaks is h in none_at q (breaks ++ []) (p.reads [] ∙ no_more p.state p.start)

ends_open : (f : Spelled) (fs : List Spelled) → joined f fs ≢ [] → (q : State) (breaks : Text) → IsStart q → AreBreaks breaks → Cut q (breaks ++ joined f fs) (said f fs ∷ [])
ends_open f fs some q breaks is h =
    let p = passes q breaks is h in
    one_more q (breaks ++ joined f fs) (said f fs) st.StartRecord [] []
    (p.reads (joined f fs) ∙ ap (next_record default_config p.state [] []) (sym (append-nil (joined f fs))) ∙ line_run p.state f fs [] st.StartRecord [] p.start some nothing_follows nothing_ends)
    (none_at st.StartRecord [] (no_more st.StartRecord (inl refl)))

-- a text without a byte order mark
no_mark : (t : Text) → (HasMark t → ⊥) → strip_bom t ≡ t
unfolding strip_bom
no_mark [] h = refl
no_mark (a ∷ []) h = refl
no_mark (a ∷ b ∷ []) h = refl
no_mark (a ∷ b ∷ c ∷ rest) h = by (a == 239) refl (b == 187) refl (c == 191) refl
  where
    by : (x : Bool) → (a == 239) ≡ x → (y : Bool) → (b == 187) ≡ y → (z : Bool) → (c == 191) ≡ z → (if (a == 0xEF) && (b == 0xBB) && (c == 0xBF) then rest else a ∷ b ∷ c ∷ rest) ≡ a ∷ b ∷ c ∷ rest
    by false e y f z g = rw e refl
    by true e false f z g = rw (e, f) refl
    by true e true f false g = rw (e, f, g) refl
    by true e true f true g = absurd (h (rest, ap₂ (λ (x : ℕ) (t : Text). x ∷ t) (eqb-true a 239 e) (ap₂ (λ (x y : ℕ). x ∷ y ∷ rest) (eqb-true b 187 f) (eqb-true c 191 g))))

marked_is : (t : Text) → strip_bom (239 ∷ 187 ∷ 191 ∷ t) ≡ t
unfolding strip_bom
marked_is t = refl

pub texts_cut : TextsAreCut
unfolding rows_in
texts_cut = record {
  lines = λ front ls h none.
      let text : front ++ text_of ls ≡ front ++ (text_of ls ++ []) = ap (λ (t : Text). front ++ t) (sym (append-nil (text_of ls))) in
      ap (records default_config) (no_mark (front ++ text_of ls) none ∙ text)
      ∙ sym (records_are default_config (front ++ (text_of ls ++ [])) (rows_of ls ++ []) (lines_cut st.StartRecord front ls [] [] (inl refl) h ends_here))
      ∙ append-nil (rows_of ls);
  unended = λ front ls f fs h some none.
      ap (records default_config) (no_mark (front ++ text_of ls ++ joined f fs) none ∙ append_assoc front (text_of ls) (joined f fs))
      ∙ sym (records_are default_config (front ++ (text_of ls ++ joined f fs)) (rows_of ls ++ said f fs ∷ []) (lines_cut st.StartRecord front ls (joined f fs) (said f fs ∷ []) (inl refl) h (ends_open f fs some)));
  marked = λ t none. ap (records default_config) (marked_is t ∙ sym (no_mark t none));
}
