-- Escapes: what stands before, at and behind a backslash.
use Rattle.std.proofs.Common.{◌≡◌, ◌≢◌, ℕ, zero, suc, ◌+◌, ◌<◌, Bool, true, false, cond, ◌||◌, ◌==◌, eqb, List, [], ◌∷◌, ◌++◌, length, get_or, take, drop, Option, None, Some, MatchOption, Bor, not, ◌≤◌, nat_lt, refl, ap, sym, subst, ◌∙◌, arith, append_assoc, length-append, one-add}
use Rattle.std.specs.Prelude.{All}
use Rattle.std.specs.List.{fold, position, position_or_len}
use Rattle.std.proofs.lemmas.List.Folds.{list_any_at}
use Rattle.std.proofs.lemmas.Bool.{ne_eqb, eq-eqb, eqb-true, ltb-false, or_from, or_parts}
use Rattle.std.proofs.lemmas.Bool.Decides.{nat_tests}
use Rattle.std.proofs.lemmas.List.{append-nil, take_all, drop_all, drop_more}
use Rattle.std.proofs.lemmas.List.Quantifiers.{position-Some}
use Rattle.std.proofs.lemmas.Option.{cond_some}
use Rattle.std.specs.Option.{is_some}
use Rattle.std.specs.Bool.{OnTrue}
use Rattle.field_values.specs.Names.{IsName, IsNameByte}
use Rattle.field_values.proofs.Folded.{no_place}
use Rattle.memchr.specs.Find.{IsFirstByte, is_byte}
use Rattle.field_merge.specs.Escapes.{escaped, escaped_byte, is_special, is_letter, unescaped, place_after, bad_escape, has_backslash}

-- each byte of the text fails the test
abbrev pub Fails : (ℕ → Bool) → List ℕ → Type 0
Fails p [] = Unit {0}
Fails p (x ∷ xs) = (p x ≡ false) × Fails p xs

-- the byte stands nowhere in the text
abbrev pub Lacks : ℕ → List ℕ → Type 0
Lacks b text = Fails (λ x. x == b) text

pub Lacks-from_reads : (b : ℕ) (xs : List ℕ) → ((i : ℕ) → i < length xs → get_or xs i 0 ≢ b) → Lacks b xs
Lacks-from_reads b [] h = tt
Lacks-from_reads b (x ∷ xs) h = (ne_eqb x b (h zero (omega arith)), Lacks-from_reads b xs (λ i l. h (suc i) (omega arith)))

pub Fails-append : (p : ℕ → Bool) (xs ys : List ℕ) → Fails p xs → Fails p ys → Fails p (xs ++ ys)
Fails-append p [] ys h k = k
Fails-append p (x ∷ xs) ys h k = (h.0, Fails-append p xs ys h.1 k)

pub Fails-weaker : (p q : ℕ → Bool) → ((x : ℕ) → p x ≡ false → q x ≡ false) → (xs : List ℕ) → Fails p xs → Fails q xs
Fails-weaker p q f [] h = tt
Fails-weaker p q f (x ∷ xs) h = (f x h.0, Fails-weaker p q f xs h.1)

-- a byte that is no backslash stands for itself
pub unescaped-plain : (x : ℕ) (xs : List ℕ) → eqb x 92 ≡ false → unescaped (x ∷ xs) ≡ x ∷ unescaped xs
unescaped-plain x [] h = refl
unescaped-plain x (c ∷ rest) h = rw h refl

pub unescaped-front : (xs ys : List ℕ) → Lacks 92 xs → unescaped (xs ++ ys) ≡ xs ++ unescaped ys
unescaped-front [] ys h = refl
unescaped-front (x ∷ xs) ys h = unescaped-plain x (xs ++ ys) h.0 ∙ ap (λ t. x ∷ t) (unescaped-front xs ys h.1)

pub unescaped-whole : (xs : List ℕ) → Lacks 92 xs → unescaped xs ≡ xs
unescaped-whole [] h = refl
unescaped-whole (x ∷ xs) h = unescaped-plain x xs h.0 ∙ ap (λ t. x ∷ t) (unescaped-whole xs h.1)

no_letter : (c : ℕ) (rest : List ℕ) → ((r : List ℕ) → c ∷ rest ≢ 48 ∷ r) → ((r : List ℕ) → c ∷ rest ≢ 116 ∷ r) → ((r : List ℕ) → c ∷ rest ≢ 110 ∷ r) → ((r : List ℕ) → c ∷ rest ≢ 92 ∷ r) → is_letter c ≡ false
no_letter c rest h0 ht hn hb =
    rw (ne_eqb c 48 (λ e. h0 rest (ap (λ x. x ∷ rest) e)), ne_eqb c 116 (λ e. ht rest (ap (λ x. x ∷ rest) e)), ne_eqb c 110 (λ e. hn rest (ap (λ x. x ∷ rest) e)), ne_eqb c 92 (λ e. hb rest (ap (λ x. x ∷ rest) e))) refl

-- a backslash that no letter of an escape follows stands for itself
pub unescaped-bare : (text : List ℕ) → ((r : List ℕ) → text ≢ 48 ∷ r) → ((r : List ℕ) → text ≢ 116 ∷ r) → ((r : List ℕ) → text ≢ 110 ∷ r) → ((r : List ℕ) → text ≢ 92 ∷ r) → unescaped (92 ∷ text) ≡ 92 ∷ unescaped text
unescaped-bare [] h0 ht hn hb = refl
unescaped-bare (c ∷ rest) h0 ht hn hb = rw (no_letter c rest h0 ht hn hb) refl

-- what a cut at the first c gives
abbrev pub CutsAt : ℕ → List ℕ → Option (Bor (List ℕ) × Bor (List ℕ)) → Type 0
CutsAt c bs r = MatchOption r ((i : ℕ) → i < length bs → get_or bs i 0 ≢ c)
    (λ x. (bs ≡ x.0.now ++ (c ∷ x.1.now)) × ((i : ℕ) → i < length x.0.now → get_or x.0.now i 0 ≢ c))

pub unescaped-cut : (bs : List ℕ) (r : Option (Bor (List ℕ) × Bor (List ℕ))) → CutsAt 92 bs r → MatchOption r (unescaped bs ≡ bs) (λ p. (unescaped bs ≡ p.0.now ++ unescaped (92 ∷ p.1.now)) × (length p.1.now < length bs))
unescaped-cut bs None h = unescaped-whole bs (Lacks-from_reads 92 bs h)
unescaped-cut bs (Some x) h =
    (ap unescaped h.0 ∙ unescaped-front x.0.now (92 ∷ x.1.now) (Lacks-from_reads 92 x.0.now h.1), omega (arith, simp length-append at (ap length h.0)))

-- the bytes that a part writes by an escape are ASCII
pub special_ascii : (b : ℕ) → is_special b ≡ true → b < 128
special_ascii b h = grind (arith, nat_tests)

plain_by : {A : Type 0} (p q r s : Bool) (v w x y z : A) → (p || (q || (r || s))) ≡ false → cond p v (cond q w (cond r x (cond s y z))) ≡ z
plain_by true q r s v w x y z h = cc
plain_by false true r s v w x y z h = cc
plain_by false false true s v w x y z h = cc
plain_by false false false true v w x y z h = cc
plain_by false false false false v w x y z h = refl

-- any other byte is written as itself
pub escaped_byte-plain : (b : ℕ) → is_special b ≡ false → escaped_byte b ≡ b ∷ []
escaped_byte-plain b h = plain_by (eqb b 0) (eqb b 9) (eqb b 10) (eqb b 92) _ _ _ _ _ h

none_test : {A : Type 0} (t : Bool) (x : A) → cond t (Some x) None ≡ None → t ≡ false
none_test true x h = cc
none_test false x h = refl

escaped-step : (t : Bool) (x : ℕ) (xs : List ℕ) (n : ℕ) → is_special x ≡ t → escaped xs ≡ take n xs ++ escaped (drop n xs) → escaped (x ∷ xs) ≡ take (cond (not t) (1 + n) 0) (x ∷ xs) ++ escaped (drop (cond (not t) (1 + n) 0) (x ∷ xs))
escaped-step true x xs n h e = refl
escaped-step false x xs n h e = rw (one-add n, escaped_byte-plain x h) (ap (λ t. x ∷ t) e)

-- the bytes before the first special one are written as they are
pub escaped-front : (xs : List ℕ) → escaped xs ≡ take (position_or_len is_special xs) xs ++ escaped (drop (position_or_len is_special xs) xs)
escaped-front [] = refl
escaped-front (x ∷ xs) = escaped-step (is_special x) x xs (position_or_len is_special xs) refl (escaped-front xs)

-- where there is no special byte, the text is written as it is
pub escaped-none : (xs : List ℕ) → position is_special xs ≡ None → escaped xs ≡ xs
escaped-none xs h =
    let far : length xs ≤ position_or_len is_special xs = ltb-false _ _ (none_test (nat_lt (position_or_len is_special xs) (length xs)) _ h) in
    escaped-front xs ∙ (rw (take_all (position_or_len is_special xs) xs far, drop_all (position_or_len is_special xs) xs far) (append-nil xs))

-- the same, where a test of all bytes finds none
pub whole_folded : (xs : List ℕ) → fold (λ b byte. b || is_special byte) false xs ≡ false → escaped xs ≡ xs
whole_folded xs h = escaped-none xs (no_place is_special xs h)

pub escaped-safe : (text : List ℕ) → Fails is_special text → escaped text ≡ text
escaped-safe [] h = refl
escaped-safe (b ∷ text) h = let plain = escaped_byte-plain b h.0 in rw (plain, escaped-safe text h.1) refl

-- a byte of a name that is no backslash
pub no_special : (b : ℕ) → 32 ≤ b → (b == 92) ≡ false → is_special b ≡ false
no_special b low slash = grind (arith, nat_tests)

safe_name : (xs : List ℕ) → All IsNameByte xs → has_backslash xs ≡ false → Fails is_special xs
safe_name [] all h = tt
safe_name (x ∷ xs) all h =
    let first : IsNameByte x = all zero 0 (omega arith) in
    let both = or_parts (x == 92) (has_backslash xs) h in
    (no_special x first.0 both.0, safe_name xs (λ k d l. all (suc k) d (omega arith)) both.1)

-- a name without a backslash is written as it is
pub whole_name : (name : List ℕ) → IsName name → has_backslash name ≡ false → escaped name ≡ name
whole_name name is h = escaped-safe name (safe_name name is.bytes h)

-- what a cut at the first special byte gives
pub escaped-cut : (xs : List ℕ) (at : ℕ) → position is_special xs ≡ Some at → (at < length xs) × (is_special (get_or xs at 0) ≡ true) × (escaped xs ≡ take at xs ++ (escaped_byte (get_or xs at 0) ++ escaped (drop (at + 1) xs)))
escaped-cut xs at h =
    let p = position-Some is_special xs at 0 h in
    let found = (cond_some (nat_lt (position_or_len is_special xs) (length xs)) _ _ h).1 in
    let front : escaped xs ≡ take at xs ++ escaped (drop at xs) = subst (λ n. escaped xs ≡ take n xs ++ escaped (drop n xs)) found (escaped-front xs) in
    (p.0, p.1, front ∙ ap (λ t. take at xs ++ escaped t) (drop_more xs at 0 p.0))

pub place_after-zero : (o : Option ℕ) → place_after 0 o ≡ o
place_after-zero None = refl
place_after-zero (Some k) = ap Some (omega arith)

pub place_after-twice : (m n : ℕ) (o : Option ℕ) → place_after m (place_after n o) ≡ place_after (m + n) o
place_after-twice m n None = refl
place_after-twice m n (Some k) = ap Some (omega arith)

-- a byte that is no backslash begins no escape
pub bad_escape-plain : (x : ℕ) (xs : List ℕ) → eqb x 92 ≡ false → bad_escape (x ∷ xs) ≡ place_after 1 (bad_escape xs)
bad_escape-plain x [] h = rw h refl
bad_escape-plain x (c ∷ rest) h = rw h refl

bad_escape-whole : (xs : List ℕ) → Lacks 92 xs → bad_escape xs ≡ None
bad_escape-whole [] h = refl
bad_escape-whole (x ∷ xs) h = bad_escape-plain x xs h.0 ∙ ap (place_after 1) (bad_escape-whole xs h.1)

-- a text without a backslash has no bad escape
pub bad_escape-cut : (bs : List ℕ) (r : Option (Bor (List ℕ) × Bor (List ℕ))) → CutsAt 92 bs r → MatchOption r (bad_escape bs ≡ None) (λ p. Unit {0})
bad_escape-cut bs None h = bad_escape-whole bs (Lacks-from_reads 92 bs h)
bad_escape-cut bs (Some x) h = tt

pub bad_escape-pair : (c : ℕ) (rest : List ℕ) → is_letter c ≡ true → bad_escape (92 ∷ c ∷ rest) ≡ place_after 2 (bad_escape rest)
bad_escape-pair c rest h = rw h refl

-- the place in the rest, moved on over a byte that is no backslash
pub bad_escape-on : (text : List ℕ) (at : ℕ) → at < length text → get_or text at 0 ≢ 92 → bad_escape text ≡ place_after at (bad_escape (drop at text)) → bad_escape text ≡ place_after (at + 1) (bad_escape (drop (at + 1) text))
bad_escape-on text at l h e =
    e ∙ ap (λ t. place_after at (bad_escape t)) (drop_more text at 0 l)
    ∙ ap (place_after at) (bad_escape-plain (get_or text at 0) (drop (at + 1) text) (ne_eqb _ _ h))
    ∙ place_after-twice at 1 (bad_escape (drop (at + 1) text))

-- the same over an escape
pub bad_escape-over : (text : List ℕ) (at : ℕ) → at + 1 < length text → get_or text at 0 ≡ 92 → is_letter (get_or text (at + 1) 0) ≡ true → bad_escape text ≡ place_after at (bad_escape (drop at text)) → bad_escape text ≡ place_after (at + 2) (bad_escape (drop (at + 2) text))
bad_escape-over text at l is letter e =
    let two : drop at text ≡ 92 ∷ get_or text (at + 1) 0 ∷ drop (at + 2) text =
    drop_more text at 0 (omega arith) ∙ ap (λ b. b ∷ drop (at + 1) text) is
    ∙ ap (λ t. 92 ∷ t) (drop_more text (at + 1) 0 l ∙ ap (λ n. get_or text (at + 1) 0 ∷ drop n text) (omega arith)) in
    e ∙ ap (λ t. place_after at (bad_escape t)) two
    ∙ ap (place_after at) (bad_escape-pair (get_or text (at + 1) 0) (drop (at + 2) text) letter)
    ∙ place_after-twice at 2 (bad_escape (drop (at + 2) text))

-- the bytes that stand in no escaped text: 0, TAB and LF
abbrev pub is_raw : ℕ → Bool
is_raw b = (b == 0) || ((b == 9) || (b == 10))

raw_by : (p q r s : Bool) (b : ℕ) → is_raw b ≡ (p || (q || r)) → Fails is_raw (cond p (92 ∷ 48 ∷ []) (cond q (92 ∷ 116 ∷ []) (cond r (92 ∷ 110 ∷ []) (cond s (92 ∷ 92 ∷ []) (b ∷ [])))))
raw_by true q r s b h = (refl, (refl, tt))
raw_by false true r s b h = (refl, (refl, tt))
raw_by false false true s b h = (refl, (refl, tt))
raw_by false false false true b h = (refl, (refl, tt))
raw_by false false false false b h = (h, tt)

pub escaped-raw : (text : List ℕ) → Fails is_raw (escaped text)
escaped-raw [] = tt
escaped-raw (b ∷ text) =
    Fails-append is_raw (escaped_byte b) (escaped text) (raw_by (eqb b 0) (eqb b 9) (eqb b 10) (eqb b 92) b refl) (escaped-raw text)

-- so neither a TAB nor a LF stands in one
pub raw-tab : (x : ℕ) → is_raw x ≡ false → eqb x 9 ≡ false
raw-tab x h = (or_parts (eqb x 9) (eqb x 10) ((or_parts (eqb x 0) (eqb x 9 || eqb x 10) h).1)).0

pub raw-feed : (x : ℕ) → is_raw x ≡ false → eqb x 10 ≡ false
raw-feed x h = (or_parts (eqb x 9) (eqb x 10) ((or_parts (eqb x 0) (eqb x 9 || eqb x 10) h).1)).1

pub escaped-no_tab : (text : List ℕ) → Lacks 9 (escaped text)
escaped-no_tab text = Fails-weaker is_raw (λ x. x == 9) raw-tab (escaped text) (escaped-raw text)

pub escaped-no_feed : (text : List ℕ) → Lacks 10 (escaped text)
escaped-no_feed text = Fails-weaker is_raw (λ x. x == 10) raw-feed (escaped text) (escaped-raw text)

back_by : (p q r s : Bool) (b : ℕ) (ys : List ℕ) → eqb b 0 ≡ p → eqb b 9 ≡ q → eqb b 10 ≡ r → eqb b 92 ≡ s → unescaped (cond p (92 ∷ 48 ∷ []) (cond q (92 ∷ 116 ∷ []) (cond r (92 ∷ 110 ∷ []) (cond s (92 ∷ 92 ∷ []) (b ∷ [])))) ++ ys) ≡ b ∷ unescaped ys
back_by true q r s b ys h0 h9 h10 h92 = ap (λ x. x ∷ unescaped ys) (sym (eqb-true b 0 h0))
back_by false true r s b ys h0 h9 h10 h92 = ap (λ x. x ∷ unescaped ys) (sym (eqb-true b 9 h9))
back_by false false true s b ys h0 h9 h10 h92 = ap (λ x. x ∷ unescaped ys) (sym (eqb-true b 10 h10))
back_by false false false true b ys h0 h9 h10 h92 = ap (λ x. x ∷ unescaped ys) (sym (eqb-true b 92 h92))
back_by false false false false b ys h0 h9 h10 h92 = unescaped-plain b ys h92

-- what is written as a part stands for what was written
pub unescaped-escaped : (text : List ℕ) → unescaped (escaped text) ≡ text
unescaped-escaped [] = refl
unescaped-escaped (b ∷ text) =
    back_by (eqb b 0) (eqb b 9) (eqb b 10) (eqb b 92) b (escaped text) refl refl refl refl ∙ ap (λ t. b ∷ t) (unescaped-escaped text)

good_by : (p q r s : Bool) (b : ℕ) (ys : List ℕ) → eqb b 92 ≡ s → bad_escape ys ≡ None → bad_escape (cond p (92 ∷ 48 ∷ []) (cond q (92 ∷ 116 ∷ []) (cond r (92 ∷ 110 ∷ []) (cond s (92 ∷ 92 ∷ []) (b ∷ [])))) ++ ys) ≡ None
good_by true q r s b ys h92 h = ap (place_after 2) h
good_by false true r s b ys h92 h = ap (place_after 2) h
good_by false false true s b ys h92 h = ap (place_after 2) h
good_by false false false true b ys h92 h = ap (place_after 2) h
good_by false false false false b ys h92 h = bad_escape-plain b ys h92 ∙ ap (place_after 1) h

-- and has no bad escape
pub bad_escape-escaped : (text ys : List ℕ) → bad_escape ys ≡ None → bad_escape (escaped text ++ ys) ≡ None
bad_escape-escaped [] ys h = h
bad_escape-escaped (b ∷ text) ys h =
    ap bad_escape (append_assoc (escaped_byte b) (escaped text) ys)
    ∙ good_by (eqb b 0) (eqb b 9) (eqb b 10) (eqb b 92) b (escaped text ++ ys) refl (bad_escape-escaped text ys h)

pub bad_escape-tab : (ys : List ℕ) → bad_escape ys ≡ None → bad_escape (9 ∷ ys) ≡ None
bad_escape-tab ys h = bad_escape-plain 9 ys refl ∙ ap (place_after 1) h

-- a search for a byte finds none
pub lacks_byte : (b : ℕ) (bs : List ℕ) → IsFirstByte (is_byte b) bs None → Lacks b bs
lacks_byte b bs h = Lacks-from_reads b bs (λ i below same. h i (omega arith) below (eq-eqb (get_or bs i 0) b same))

pub plain_whole : (plain : Bool) (found : Option ℕ) (bs part : List ℕ) → IsFirstByte (is_byte 92) bs found → is_some found ≡ not plain → bs ≡ part → OnTrue plain (unescaped part ≡ part)
plain_whole true None bs part h e is = subst (λ (t : List ℕ). unescaped t ≡ t) is (unescaped-whole bs (lacks_byte 92 bs h))
plain_whole true (Some k) bs part h e is = cc
plain_whole false found bs part h e is = tt

pub plain_good : (plain : Bool) (found : Option ℕ) (bs part : List ℕ) → IsFirstByte (is_byte 92) bs found → is_some found ≡ not plain → bs ≡ part → OnTrue plain (bad_escape part ≡ None)
plain_good true None bs part h e is = subst (λ (t : List ℕ). bad_escape t ≡ None) is (bad_escape-whole bs (lacks_byte 92 bs h))
plain_good true (Some k) bs part h e is = cc
plain_good false found bs part h e is = tt

-- what is plain has no backslash
no_backslash : (bs : List ℕ) → Lacks 92 bs → has_backslash bs ≡ false
no_backslash [] h = refl
no_backslash (x ∷ xs) h = or_from (x == 92) (has_backslash xs) h.0 (no_backslash xs h.1)

pub plain_none : (plain : Bool) (found : Option ℕ) (bs part : List ℕ) → IsFirstByte (is_byte 92) bs found → is_some found ≡ not plain → bs ≡ part → OnTrue plain (has_backslash part ≡ false)
plain_none true None bs part h e is = subst (λ (t : List ℕ). has_backslash t ≡ false) is (no_backslash bs (lacks_byte 92 bs h))
plain_none true (Some k) bs part h e is = cc
plain_none false found bs part h e is = tt

lacks_slash : (xs : List ℕ) → has_backslash xs ≡ false → Lacks 92 xs
lacks_slash [] h = tt
lacks_slash (x ∷ xs) h = let both = or_parts (x == 92) (has_backslash xs) h in (both.0, lacks_slash xs both.1)

-- what is known to have no backslash stands for itself
pub known_whole : (known : Bool) (part : List ℕ) → (known ≡ true → has_backslash part ≡ false) → OnTrue known (unescaped part ≡ part)
known_whole true part h = unescaped-whole part (lacks_slash part (h refl))
known_whole false part h = tt

-- what isn't plain has a backslash
pub plain_not : (plain : Bool) (found : Option ℕ) (bs part : List ℕ) → IsFirstByte (is_byte 92) bs found → is_some found ≡ not plain → bs ≡ part → plain ≡ false → has_backslash part ≡ true
plain_not true found bs part h e is f = absurd (cc)
plain_not false None bs part h e is f = absurd (cc)
plain_not false (Some k) bs part h e is f = subst (λ (t : List ℕ). has_backslash t ≡ true) is (list_any_at (is_byte 92) bs k 0 h.0.high h.1)
