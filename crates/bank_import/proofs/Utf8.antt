-- The records of a text of UTF-8 have fields of UTF-8.
use Rattle.std.proofs.Common.{◌≡◌, ℕ, ◌+◌, ◌/◌, ◌<◌, ◌≤◌, ◌==◌, ◌||◌, ◌&&◌, List, [], ◌∷◌, ◌++◌, Bool, true, false, cond, Some, None, refl, sym, ap, ◌∙◌, subst, arith, ◌⊎◌, inl, inr, append_assoc, append-nil}
use Rattle.std.specs.Prelude.{IsUtf8, ⊤, unwrap_or}
use Rattle.std.proofs.lemmas.Str.{IsUtf8-append}
use lib.Utf8.{scalar, scalars, encode, encodes, next}
use lib.Dec.{ltb}
use Rattle.std.specs.List.{AllByRecursion}
use Rattle.csv.specs.Records.{AllText}
use Rattle.csv.specs.Reading.{default_config, Reached, strip_bom}
use Rattle.csv.specs.Machine.{Read, step, next_record, is_end, ends_at_end, fields_after, field_after}
use Rattle.csv.specs.declared.parser.State.{State}
use Rattle.csv.specs.declared.parser.State.TheVariants as st
use Rattle.csv.specs.declared.parser.Action.{Action}
use Rattle.csv.specs.declared.parser.Action.TheVariants as act

-- the states that the default settings reach
abbrev pub Plain : State → Type 0
Plain st.StartRecord = ⊤
Plain st.StartField = ⊤
Plain st.InField = ⊤
Plain st.InQuoted = ⊤
Plain st.AfterQuote = ⊤
Plain st.AfterCr = ⊤
Plain st.InEscape = ⊥
Plain st.InComment = ⊥

abbrev inside : State → State
inside st.InQuoted = st.InQuoted
inside _ = st.InField

abbrev AllHigh : List ℕ → Type 0
AllHigh [] = ⊤
AllHigh (b ∷ bs) = (128 ≤ b) × AllHigh bs

ne : (b k : ℕ) → k < 128 → 128 ≤ b → (b == k) ≡ false
ne b k low high = grind arith

step_high : (s : State) (b : ℕ) → 128 ≤ b → Plain s → step default_config s b ≡ (inside s, act.Copy)
step_high st.StartRecord b h p = rw (ne b 13 (omega arith) h, ne b 10 (omega arith) h, ne b 34 (omega arith) h, ne b 44 (omega arith) h) refl
step_high st.StartField b h p = rw (ne b 13 (omega arith) h, ne b 10 (omega arith) h, ne b 34 (omega arith) h, ne b 44 (omega arith) h) refl
step_high st.InField b h p = rw (ne b 13 (omega arith) h, ne b 10 (omega arith) h, ne b 44 (omega arith) h) refl
step_high st.InQuoted b h p = rw (ne b 34 (omega arith) h) refl
step_high st.AfterQuote b h p = rw (ne b 13 (omega arith) h, ne b 10 (omega arith) h, ne b 34 (omega arith) h, ne b 44 (omega arith) h) refl
step_high st.AfterCr b h p = rw (ne b 13 (omega arith) h, ne b 10 (omega arith) h, ne b 34 (omega arith) h, ne b 44 (omega arith) h) refl
step_high st.InEscape b h p = absurd p
step_high st.InComment b h p = absurd p

one_byte : (s : State) (fs : List (List ℕ)) (f : List ℕ) (b : ℕ) (rest : List ℕ) → 128 ≤ b → Plain s
    → next_record default_config s fs f (b ∷ rest) ≡ next_record default_config (inside s) fs (f ++ b ∷ []) rest
unfolding next_record
one_byte s fs f b rest h p = rw (step_high s b h p) refl

inside_plain : (s : State) → Plain s → Plain (inside s)
inside_plain st.StartRecord p = tt
inside_plain st.StartField p = tt
inside_plain st.InField p = tt
inside_plain st.InQuoted p = tt
inside_plain st.AfterQuote p = tt
inside_plain st.AfterCr p = tt
inside_plain st.InEscape p = absurd p
inside_plain st.InComment p = absurd p

inside_twice : (s : State) → inside (inside s) ≡ inside s
inside_twice st.StartRecord = refl
inside_twice st.StartField = refl
inside_twice st.InField = refl
inside_twice st.InQuoted = refl
inside_twice st.AfterQuote = refl
inside_twice st.AfterCr = refl
inside_twice st.InEscape = refl
inside_twice st.InComment = refl

run : (bs : List ℕ) → AllHigh bs → (s : State) (fs : List (List ℕ)) (f rest : List ℕ) → Plain s → inside s ≡ s
    → next_record default_config s fs f (bs ++ rest) ≡ next_record default_config s fs (f ++ bs) rest
run [] h s fs f rest p same = ap (λ g. next_record default_config s fs g rest) (sym (append-nil f))
run (b ∷ bs) h s fs f rest p same = one_byte s fs f b (bs ++ rest) h.0 p ∙ ap (λ t. next_record default_config t fs (f ++ b ∷ []) (bs ++ rest)) same
    ∙ run bs h.1 s fs (f ++ b ∷ []) rest p same ∙ ap (λ g. next_record default_config s fs g rest) (append_assoc f (b ∷ []) bs)

enter : (b : ℕ) (bs : List ℕ) → AllHigh (b ∷ bs) → (s : State) (fs : List (List ℕ)) (f rest : List ℕ) → Plain s
    → next_record default_config s fs f ((b ∷ bs) ++ rest) ≡ next_record default_config (inside s) fs (f ++ (b ∷ bs)) rest
enter b bs h s fs f rest p = one_byte s fs f b (bs ++ rest) h.0 p ∙ run bs h.1 (inside s) fs (f ++ b ∷ []) rest (inside_plain s p) (inside_twice s)
    ∙ ap (λ g. next_record default_config (inside s) fs g rest) (append_assoc f (b ∷ []) bs)

-- ---- ASCII

cond_plain : (b : Bool) (x y : State × Action) → Plain x.0 → Plain y.0 → Plain (cond b x y).0
cond_plain true x y p q = p
cond_plain false x y p q = q

state_plain : (b : Bool) (x y : State) → Plain x → Plain y → Plain (cond b x y)
state_plain true x y p q = p
state_plain false x y p q = q

abbrev in_of : ℕ → State × Action
in_of c = cond (c == 44) (st.StartField, act.EndField) (cond ((c == 13) || (c == 10)) (cond (c == 13) st.AfterCr st.StartRecord, act.EndRecord) (st.InField, act.Copy))

abbrev start_of : ℕ → State × Action
start_of c = cond (c == 34) (st.InQuoted, act.Skip) (in_of c)

abbrev record_of : ℕ → State × Action
record_of c = cond ((c == 13) || (c == 10)) (st.StartRecord, act.Skip) (start_of c)

in_plain : (c : ℕ) → Plain (in_of c).0
in_plain c = cond_plain (c == 44) (st.StartField, act.EndField) (cond ((c == 13) || (c == 10)) (cond (c == 13) st.AfterCr st.StartRecord, act.EndRecord) (st.InField, act.Copy)) tt
    (cond_plain ((c == 13) || (c == 10)) (cond (c == 13) st.AfterCr st.StartRecord, act.EndRecord) (st.InField, act.Copy) (state_plain (c == 13) st.AfterCr st.StartRecord tt tt) tt)

start_plain : (c : ℕ) → Plain (start_of c).0
start_plain c = cond_plain (c == 34) (st.InQuoted, act.Skip) (in_of c) tt (in_plain c)

record_plain : (c : ℕ) → Plain (record_of c).0
record_plain c = cond_plain ((c == 13) || (c == 10)) (st.StartRecord, act.Skip) (start_of c) tt (start_plain c)

plain_step : (s : State) (c : ℕ) → Plain s → Plain (step default_config s c).0
plain_step st.StartRecord c p = record_plain c
plain_step st.StartField c p = start_plain c
plain_step st.InField c p = in_plain c
plain_step st.InQuoted c p = cond_plain (c == 34) (st.AfterQuote, act.Skip) (st.InQuoted, act.Copy) tt tt
plain_step st.AfterQuote c p = cond_plain (c == 34) (st.InQuoted, act.Copy) (in_of c) tt (in_plain c)
plain_step st.AfterCr c p = cond_plain (c == 10) (st.StartRecord, act.Skip) (record_of c) tt (record_plain c)
plain_step st.InEscape c p = absurd p
plain_step st.InComment c p = absurd p

-- a character is one byte of ASCII, or bytes past it
abbrev Split : ℕ → Type 0
Split c = ((c < 128) × (encode c ≡ c ∷ [])) ⊎ ((b : ℕ) × (bs : List ℕ) × (encode c ≡ b ∷ bs) × AllHigh (b ∷ bs))

split_at : (c : ℕ) (x y z : Bool) → ltb c 128 ≡ x → ltb c 2048 ≡ y → ltb c 65536 ≡ z → Split c
unfolding encode
split_at c true y z e f g = inl (grind arith, rw e refl)
split_at c false true z e f g = inr (192 + c / 64, next c ∷ [], rw (e, f) refl, (omega arith, (omega arith, tt)))
split_at c false false true e f g = inr (224 + c / 4096, next (c / 64) ∷ next c ∷ [], rw (e, f, g) refl, (omega arith, (omega arith, (omega arith, tt))))
split_at c false false false e f g = inr (240 + c / 262144, next (c / 4096) ∷ next (c / 64) ∷ next c ∷ [], rw (e, f, g) refl, (omega arith, (omega arith, (omega arith, (omega arith, tt)))))

split : (c : ℕ) → Split c
split c = split_at c (ltb c 128) (ltb c 2048) (ltb c 65536) refl refl refl

-- ---- records

all_text_push : (fs : List (List ℕ)) (f : List ℕ) → AllText fs → IsUtf8 f → AllText (fs ++ f ∷ [])
unfolding AllText
all_text_push [] f h u = (u, tt)
all_text_push (g ∷ fs) f h u = (h.0, all_text_push fs f h.1 u)

fields_text : (a : Action) (fs : List (List ℕ)) (f : List ℕ) → AllText fs → IsUtf8 f → AllText (fields_after a fs f)
fields_text act.Skip fs f h u = h
fields_text act.Copy fs f h u = h
fields_text act.EndField fs f h u = all_text_push fs f h u
fields_text act.EndRecord fs f h u = all_text_push fs f h u

empty_text : IsUtf8 []
empty_text = ([], (refl, refl))

field_text : (a : Action) (c : ℕ) (f : List ℕ) → IsUtf8 f → IsUtf8 (c ∷ []) → IsUtf8 (field_after a c f)
field_text act.Skip c f u v = u
field_text act.Copy c f u v = IsUtf8-append f (c ∷ []) u v
field_text act.EndField c f u v = empty_text
field_text act.EndRecord c f u v = empty_text

abbrev IsGoodRead : Read → Type 0
IsGoodRead p = AllText p.0 × Plain p.1 × IsUtf8 p.2

some_is : {A : Type 0} (x y : A) → Some x ≡ Some y → x ≡ y
some_is x y e = ap (λ o. unwrap_or o x) e

at_end : (b : Bool) (fs : List (List ℕ)) (f : List ℕ) (p : Read) → AllText fs → IsUtf8 f → cond b (Some (fs ++ f ∷ [], st.StartRecord, [])) None ≡ Some p → IsGoodRead p
at_end true fs f p h u e = subst IsGoodRead (some_is (fs ++ f ∷ [], st.StartRecord, []) p e) (all_text_push fs f h u, tt, empty_text)
at_end false fs f p h u e = absurd (let bad : None ≡ Some p = e in cc)

after_byte : (cs : List ℕ) → scalars cs ≡ true → (a : Action) (s : State) (fs : List (List ℕ)) (f : List ℕ) (c : ℕ) (p : Read) → Plain s → AllText fs → IsUtf8 f → IsUtf8 (c ∷ [])
    → ((gs : List (List ℕ)) (g : List ℕ) → AllText gs → IsUtf8 g → next_record default_config s gs g (encodes cs) ≡ Some p → IsGoodRead p)
    → cond (is_end a) (Some (fields_after a fs f, s, encodes cs)) (next_record default_config s (fields_after a fs f) (field_after a c f) (encodes cs)) ≡ Some p → IsGoodRead p
after_byte cs ok act.EndRecord s fs f c p plain h u v later e =
    subst IsGoodRead (some_is (fields_after act.EndRecord fs f, s, encodes cs) p e) (fields_text act.EndRecord fs f h u, plain, (cs, (ok, refl)))
after_byte cs ok act.Skip s fs f c p plain h u v later e = later fs f h u e
after_byte cs ok act.Copy s fs f c p plain h u v later e = later fs (f ++ c ∷ []) h (field_text act.Copy c f u v) e
after_byte cs ok act.EndField s fs f c p plain h u v later e = later (fs ++ f ∷ []) [] (fields_text act.EndField fs f h u) empty_text e

and_true : (a b : Bool) → (a && b) ≡ true → (a ≡ true) × (b ≡ true)
and_true true b h = (refl, h)
and_true false b h = absurd (let bad : false ≡ true = h in cc)

scalar_text : (c : ℕ) → scalar c ≡ true → IsUtf8 (encode c)
scalar_text c ok = (c ∷ [], (ap (λ b. b && true) ok, append-nil (encode c)))

by_split : (c : ℕ) (cs : List ℕ) → scalar c ≡ true → scalars cs ≡ true → (s : State) → Plain s → (fs : List (List ℕ)) (f : List ℕ) → AllText fs → IsUtf8 f → (p : Read) → Split c
    → next_record default_config s fs f (encodes (c ∷ cs)) ≡ Some p
    → ((t : State) → Plain t → (gs : List (List ℕ)) (g : List ℕ) → AllText gs → IsUtf8 g → next_record default_config t gs g (encodes cs) ≡ Some p → IsGoodRead p) → IsGoodRead p
unfolding next_record
by_split c cs sc oks s plain fs f h u p (inl (low, is)) e later =
    let one : IsUtf8 (c ∷ []) = subst IsUtf8 is (scalar_text c sc) in
    after_byte cs oks (step default_config s c).1 (step default_config s c).0 fs f c p (plain_step s c plain) h u one (later (step default_config s c).0 (plain_step s c plain))
    (sym (ap (λ bs. next_record default_config s fs f (bs ++ encodes cs)) is) ∙ e)
by_split c cs sc oks s plain fs f h u p (inr (b, bs, is, high)) e later =
    let now : IsUtf8 (f ++ (b ∷ bs)) = IsUtf8-append f (b ∷ bs) u (subst IsUtf8 is (scalar_text c sc)) in
    later (inside s) (inside_plain s plain) fs (f ++ (b ∷ bs)) h now
    (sym (ap (λ bs. next_record default_config s fs f (bs ++ encodes cs)) is ∙ enter b bs high s fs f (encodes cs) plain) ∙ e)

-- a record that is read from a text
pub read_text : (cs : List ℕ) → scalars cs ≡ true → (s : State) → Plain s → (fs : List (List ℕ)) (f : List ℕ) → AllText fs → IsUtf8 f → (p : Read)
    → next_record default_config s fs f (encodes cs) ≡ Some p → IsGoodRead p
unfolding next_record
read_text [] ok s plain fs f h u p e = at_end (ends_at_end s) fs f p h u e
read_text (c ∷ cs) ok s plain fs f h u p e =
    let both = and_true (scalar c) (scalars cs) ok in
    by_split c cs both.0 both.1 s plain fs f h u p (split c) e (λ t good gs g k v. read_text cs both.1 t good gs g k v p)

-- so are all the records
pub rows_text : (rows : List (List (List ℕ))) (s : State) (xs : List ℕ) (s2 : State) (ys : List ℕ) → Plain s → IsUtf8 xs → Reached default_config s xs rows s2 ys → AllByRecursion AllText rows
unfolding Reached AllText
rows_text [] s xs s2 ys plain u h = tt
rows_text (r ∷ rs) s xs s2 ys plain u (p, read, is, more) =
    let good = read_text u.0 u.1.0 s plain [] [] tt empty_text p (ap (next_record default_config s [] []) u.1.1 ∙ read) in
    (subst AllText (sym is) good.0, rows_text rs p.1 p.2 s2 ys good.1 good.2 more)

-- ---- the byte order mark

below : (b k : ℕ) → b < k → (b == k) ≡ false
below b k h = grind arith

above : (b k : ℕ) → k < b → (b == k) ≡ false
above b k h = grind arith

-- the first byte of a character is not the mark's, or the character has three bytes
abbrev First : ℕ → Type 0
First c = ((b : ℕ) × (bs : List ℕ) × (encode c ≡ b ∷ bs) × ((b == 239) ≡ false)) ⊎ ((a : ℕ) × (b : ℕ) × (d : ℕ) × (encode c ≡ a ∷ b ∷ d ∷ []))

first_at : (c : ℕ) (x y z : Bool) → ltb c 128 ≡ x → ltb c 2048 ≡ y → ltb c 65536 ≡ z → First c
unfolding encode
first_at c true y z e f g = let small : c < 128 = grind arith in inl (c, [], rw e refl, below c 239 (omega arith))
first_at c false true z e f g = let small : c < 2048 = grind arith in inl (192 + c / 64, next c ∷ [], rw (e, f) refl, below (192 + c / 64) 239 (omega arith))
first_at c false false true e f g = inr (224 + c / 4096, next (c / 64), next c, rw (e, f, g) refl)
first_at c false false false e f g =
    inl (240 + c / 262144, next (c / 4096) ∷ next (c / 64) ∷ next c ∷ [], rw (e, f, g) refl, above (240 + c / 262144) 239 (omega arith))

no_mark : (b : ℕ) (bs : List ℕ) → (b == 239) ≡ false → strip_bom (b ∷ bs) ≡ b ∷ bs
unfolding strip_bom
no_mark b [] h = refl
no_mark b (c ∷ []) h = refl
no_mark b (c ∷ d ∷ bs) h = rw h refl

either : (b : Bool) (xs ys : List ℕ) → IsUtf8 xs → IsUtf8 ys → IsUtf8 (cond b xs ys)
either true xs ys h k = h
either false xs ys h k = k

by_first : (c : ℕ) (cs : List ℕ) → scalars (c ∷ cs) ≡ true → scalars cs ≡ true → First c → IsUtf8 (strip_bom (encodes (c ∷ cs)))
unfolding strip_bom
by_first c cs ok oks (inl (b, bs, is, other)) =
    let whole : encodes (c ∷ cs) ≡ b ∷ (bs ++ encodes cs) = ap (λ xs. xs ++ encodes cs) is in
    subst IsUtf8 (sym (ap strip_bom whole ∙ no_mark b (bs ++ encodes cs) other ∙ sym whole)) (c ∷ cs, (ok, refl))
by_first c cs ok oks (inr (a, b, d, is)) =
    let whole : encodes (c ∷ cs) ≡ a ∷ b ∷ d ∷ encodes cs = ap (λ xs. xs ++ encodes cs) is in
    subst IsUtf8 (sym (ap strip_bom whole))
    (either ((a == 239) && (b == 187) && (d == 191)) (encodes cs) (a ∷ b ∷ d ∷ encodes cs) (cs, (oks, refl)) (subst IsUtf8 whole (c ∷ cs, (ok, refl))))

-- a text without its byte order mark is a text
strip_all : (cs : List ℕ) → scalars cs ≡ true → IsUtf8 (strip_bom (encodes cs))
unfolding strip_bom
strip_all [] ok = empty_text
strip_all (c ∷ cs) ok = by_first c cs ok (and_true (scalar c) (scalars cs) ok).1 (first_at c (ltb c 128) (ltb c 2048) (ltb c 65536) refl refl refl)

pub strip_text : (xs : List ℕ) → IsUtf8 xs → IsUtf8 (strip_bom xs)
strip_text xs u = subst (λ ys. IsUtf8 (strip_bom ys)) u.1.1 (strip_all u.0 u.1.0)
