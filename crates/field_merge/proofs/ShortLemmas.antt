-- Texts that stand in place, with zeros behind them.
use Rattle.std.proofs.Common.{◌≡◌, ◌≢◌, ◌∙◌, ◌++◌, get_or, get_or-take, ℕ, zero, suc, ◌+◌, ◌*◌, ◌-◌, ◌<◌, ◌≤◌, List, [], ◌∷◌, length, drop, take, replicate, arith, refl, ap, sym, subst}
use Rattle.std.specs.Prelude.{IsUtf8}
use Rattle.std.specs.Cmp.{ranks}
use Rattle.std.specs.Cmp.Lexicographic.{slice_cmp}
use Rattle.std.specs.Ordering.{nat_cmp, ordering_then, MatchOrdering}
use Rattle.std.specs.declared.cmp.Ordering.{Ordering}
use Rattle.std.specs.declared.cmp.Ordering.TheVariants.{Less, Equal, Greater}
use Rattle.std.proofs.lemmas.List.{drop-replicate, get_or-append_right, get_or-replicate, length-append, length-replicate, length-take-le}
use Rattle.std.proofs.lemmas.Map.Lookups.{exact_unsigned}
use Rattle.std.proofs.Math.Seq.{take-append_seam}
use Rattle.field_values.specs.Heads.{head_from, head_of, AreBytes, IsShortLength, IsHead, AreHeads}
use Rattle.field_values.specs.Names.{field_of, names_cmp, AreNames, IsName}
use Rattle.field_values.proofs.HeadLemmas.{by_head, in_head, by_one, by_two, by_three, in_three}
use Rattle.field_merge.specs.Padded.{bytes_of, bytes_of_three, kept_names, AreKept, IsPadded}
use Rattle.field_merge.proofs.Packing.{keeps, keep_three}

-- zeros are spelled as what is not there
zeros : (m n k : ℕ) → head_from n k (replicate m 0) ≡ head_from n k []
zeros m zero k = refl
zeros zero (suc n) k = refl
zeros (suc m) (suc n) k = ap (λ (w : ℕ). head_from n w (replicate m 0)) (omega arith) ∙ zeros m n (k * 256)

zeros_after : (i m n k : ℕ) → head_from n k (drop i (replicate m 0)) ≡ head_from n k []
zeros_after zero m n k = zeros m n k
zeros_after (suc i) zero n k = refl
zeros_after (suc i) (suc m) n k = zeros_after i m n k

-- zeros behind a text change no head
behind : (xs : List ℕ) (m n k : ℕ) → head_from n k (xs ++ replicate m 0) ≡ head_from n k xs
behind [] m n k = zeros m n k
behind (x ∷ xs) m zero k = refl
behind (x ∷ xs) m (suc n) k = behind xs m n (k * 256 + x)

pub behind_after : (i : ℕ) (xs : List ℕ) (m n k : ℕ) → head_from n k (drop i (xs ++ replicate m 0)) ≡ head_from n k (drop i xs)
behind_after zero xs m n k = behind xs m n k
behind_after (suc i) [] m n k = zeros_after (suc i) m n k
behind_after (suc i) (x ∷ xs) m n k = behind_after i xs m n k

-- a text in place of the first of so many zeros
pub padded_of : (most : ℕ) (text room : List ℕ) → room ≡ text ++ drop (length text) (replicate most 0) → length text ≤ most → IsUtf8 text → AreBytes text → IsPadded most room (length text)
padded_of most text room is short utf8 small =
    let front : take (length text) room ≡ text = ap (λ (r : List ℕ). take (length text) r) is ∙ take-append_seam text _ in
    record {
      room = ap length is ∙ length-append text (drop (length text) (replicate most 0)) ∙ ap (λ (zs : List ℕ). length text + length zs) (drop-replicate (length text) most 0) ∙ ap (λ (w : ℕ). length text + w) (length-replicate (most - length text) 0) ∙ omega (arith, short);
      fits = short;
      zeros = is ∙ ap (λ (zs : List ℕ). text ++ zs) (drop-replicate (length text) most 0) ∙ ap (λ (ts : List ℕ). ts ++ replicate (most - length text) 0) (sym front);
      utf8 = subst IsUtf8 (sym front) utf8;
      small = subst AreBytes (sym front) small;
    }

tells_length : {most len : ℕ} {bytes : List ℕ} → most < 255 → IsPadded most bytes len → IsShortLength len (take len bytes)
unfolding IsShortLength
tells_length {most = most} {len = len} {bytes = bytes} few p =
    let fit : len ≤ length bytes = omega (arith, p.fits, p.room) in
    (λ small. sym (length-take-le len bytes fit), λ e. absurd (omega (arith, p.fits, few, e)))

pub is_head : {number len : ℕ} {bytes : List ℕ} → number ≡ head_of bytes → IsPadded 16 bytes len → IsHead number len (take len bytes)
is_head {len = len} {bytes = bytes} e p = record {
  head = e ∙ ap head_of p.zeros ∙ behind_after 0 (take len bytes) (16 - len) 16 0;
  length = tells_length (omega arith) p;
  bytes = p.small;
}

pub are_heads : {one two three len : ℕ} {bytes : List ℕ} → one ≡ head_of bytes → two ≡ head_of (drop 16 bytes) → three ≡ head_of (drop 32 bytes) → IsPadded 48 bytes len → AreHeads one two three len (take len bytes)
are_heads {len = len} {bytes = bytes} e f g p = record {
  first = e ∙ ap head_of p.zeros ∙ behind_after 0 (take len bytes) (48 - len) 16 0;
  second = f ∙ ap (λ (bs : List ℕ). head_of (drop 16 bs)) p.zeros ∙ behind_after 16 (take len bytes) (48 - len) 16 0;
  third = g ∙ ap (λ (bs : List ℕ). head_of (drop 32 bs)) p.zeros ∙ behind_after 32 (take len bytes) (48 - len) 16 0;
  length = tells_length (omega arith) p;
  bytes = p.small;
}

zeros_are_bytes : (m : ℕ) → AreBytes (replicate m 0)
zeros_are_bytes zero i = omega arith
zeros_are_bytes (suc m) zero = omega arith
zeros_are_bytes (suc m) (suc i) = zeros_are_bytes m i

bytes_behind : (xs : List ℕ) (m : ℕ) → AreBytes xs → AreBytes (xs ++ replicate m 0)
bytes_behind [] m b i = zeros_are_bytes m i
bytes_behind (x ∷ xs) m b zero = b 0
bytes_behind (x ∷ xs) m b (suc i) = bytes_behind xs m (λ k. b (suc k)) i

all_bytes : {most len : ℕ} {bytes : List ℕ} → IsPadded most bytes len → AreBytes bytes
all_bytes {most = most} {len = len} {bytes = bytes} p = subst AreBytes (sym p.zeros) (bytes_behind (take len bytes) (most - len) p.small)

-- the number of a text in place, and the three of a longer one, spell its bytes
pub one_spells : {number len : ℕ} {bytes : List ℕ} → number ≡ head_of bytes → IsPadded 16 bytes len → bytes_of number ≡ bytes
one_spells e p = keeps e (all_bytes p) p.room

pub three_spell : {one two three len : ℕ} {bytes : List ℕ} → one ≡ head_of bytes → two ≡ head_of (drop 16 bytes) → three ≡ head_of (drop 32 bytes) → IsPadded 48 bytes len → bytes_of_three one two three ≡ bytes
three_spell e f g p = keep_three e f g (all_bytes p) p.room

-- the texts behind zeros, and the names that they are
pub spelled : {d dl x y z l c cl : ℕ} {dataset row column : List ℕ}
    → d ≡ head_of dataset → IsPadded 16 dataset dl → x ≡ head_of row → y ≡ head_of (drop 16 row) → z ≡ head_of (drop 32 row) → IsPadded 48 row l → c ≡ head_of column → IsPadded 16 column cl
    → kept_names d dl x y z l c cl ≡ field_of (take dl dataset) (take l row) (take cl column)
spelled {dl = dl} {l = l} {cl = cl} d_is pd x_is y_is z_is pr c_is pc =
    let at_d = one_spells d_is pd in
    let at_r = three_spell x_is y_is z_is pr in
    let at_c = one_spells c_is pc in
    λ i. field_of (take dl (at_d i)) (take l (at_r i)) (take cl (at_c i))

pub kept : {d dl x y z l c cl : ℕ} {dataset row column : List ℕ}
    → d ≡ head_of dataset → IsPadded 16 dataset dl → x ≡ head_of row → y ≡ head_of (drop 16 row) → z ≡ head_of (drop 32 row) → IsPadded 48 row l → c ≡ head_of column → IsPadded 16 column cl
    → AreKept d dl x y z l c cl
kept {d = d} {dl = dl} {x = x} {y = y} {z = z} {l = l} {c = c} {cl = cl} d_is pd x_is y_is z_is pr c_is pc =
    let at_d = one_spells d_is pd in
    let at_r = three_spell x_is y_is z_is pr in
    let at_c = one_spells c_is pc in
    record {
      of_dataset = subst (λ (bs : List ℕ). IsPadded 16 bs dl) (sym at_d) pd;
      of_row = subst (λ (bs : List ℕ). IsPadded 48 bs l) (sym at_r) pr;
      of_column = subst (λ (bs : List ℕ). IsPadded 16 bs cl) (sym at_c) pc;
      key = record {
        of_dataset = subst (λ (bs : List ℕ). IsHead d dl (take dl bs)) (sym at_d) (is_head d_is pd);
        of_row = subst (λ (bs : List ℕ). AreHeads x y z l (take l bs)) (sym at_r) (are_heads x_is y_is z_is pr);
        of_column = subst (λ (bs : List ℕ). IsHead c cl (take cl bs)) (sym at_c) (is_head c_is pc);
      };
    }

-- a name has no zero, so none ends before another in the same bytes
no_earlier : {most l m : ℕ} {bytes : List ℕ} → IsPadded most bytes l → IsPadded most bytes m → IsName (take m bytes) → l < m → ⊥
no_earlier {most = most} {l = l} {m = m} {bytes = bytes} p q name h =
    let long : length (take m bytes) ≡ m = length-take-le m bytes (omega (arith, q.fits, q.room)) in
    let short : length (take l bytes) ≡ l = length-take-le l bytes (omega (arith, p.fits, p.room)) in
    let high : 32 ≤ get_or (take m bytes) l 0 = (name.bytes l 0 (omega (arith, long))).0 in
    let same : get_or (take m bytes) l 0 ≡ get_or bytes l 0 = get_or-take m bytes l 0 h in
    let none : get_or bytes l 0 ≡ 0 =
    ap (λ (bs : List ℕ). get_or bs l 0) p.zeros ∙ get_or-append_right (take l bytes) (replicate (most - l) 0) l l 0 short (omega arith) ∙ get_or-replicate (most - l) (l - l) 0 0 (omega (arith, q.fits)) in
    omega (arith, high, same, none)

told : {l m : ℕ} (o : Ordering) → MatchOrdering o (l < m) (l ≡ m) (m < l) → (l < m → ⊥) → (m < l → ⊥) → o ≡ Equal
told Less h low high = absurd (low h)
told Equal h low high = refl
told Greater h low high = absurd (high h)

level : (l m : ℕ) → (l < m → ⊥) → (m < l → ⊥) → l ≡ m
level l m low high = exact_unsigned l m (told (nat_cmp l m) (ranks l m) low high)

same_length : {most l m : ℕ} {bytes others : List ℕ} → bytes ≡ others → IsPadded most bytes l → IsPadded most others m → IsName (take l bytes) → IsName (take m others) → l ≡ m
same_length {most = most} {l = l} {m = m} {bytes = bytes} e p q name other =
    let padded : IsPadded most bytes m = subst (λ (bs : List ℕ). IsPadded most bs m) (sym e) q in
    let named : IsName (take m bytes) = subst (λ (bs : List ℕ). IsName (take m bs)) (sym e) other in
    level l m (no_earlier p padded named) (no_earlier padded p name)

-- the order where the first parts tell it, and where they don't
decided : {x y : ℕ} {r o : Ordering} (p : Ordering) → x ≢ y → r ≡ nat_cmp x y → r ≡ o → r ≡ ordering_then o p
decided {x = x} {y = y} {r = Less} p apart e is = subst (λ (o : Ordering). Less ≡ ordering_then o p) is refl
decided {x = x} {y = y} {r = Equal} p apart e is = absurd (apart (exact_unsigned x y (sym e)))
decided {x = x} {y = y} {r = Greater} p apart e is = subst (λ (o : Ordering). Greater ≡ ordering_then o p) is refl

passed : {r o p : Ordering} → Equal ≡ o → r ≡ p → r ≡ ordering_then o p
passed {r = r} {p = p} e is = subst (λ (o : Ordering). r ≡ ordering_then o p) e is

module _ {d dl x y z l c cl d' dl' x' y' z' l' c' cl' : ℕ} (own : AreKept d dl x y z l c cl) (other : AreKept d' dl' x' y' z' l' c' cl')
    (names : AreNames (kept_names d dl x y z l c cl)) (others : AreNames (kept_names d' dl' x' y' z' l' c' cl')) where
  same_dataset : d ≡ d' → Equal ≡ slice_cmp nat_cmp (take dl (bytes_of d)) (take dl' (bytes_of d'))
  same_dataset e = in_head own.key.of_dataset other.key.of_dataset e (same_length (ap bytes_of e) own.of_dataset other.of_dataset names.dataset others.dataset) own.of_dataset.fits

  same_row : x ≡ x' → y ≡ y' → z ≡ z' → Equal ≡ slice_cmp nat_cmp (take l (bytes_of_three x y z)) (take l' (bytes_of_three x' y' z'))
  same_row e f g =
      in_three own.key.of_row other.key.of_row e f g
      (same_length (λ i. bytes_of_three (e i) (f i) (g i)) own.of_row other.of_row names.row others.row) own.of_row.fits

  same_column : c ≡ c' → Equal ≡ slice_cmp nat_cmp (take cl (bytes_of c)) (take cl' (bytes_of c'))
  same_column e = in_head own.key.of_column other.key.of_column e (same_length (ap bytes_of e) own.of_column other.of_column names.column others.column) own.of_column.fits

  -- the answer by the first numbers that differ
  pub by_dataset : {r : Ordering} → d ≢ d' → r ≡ nat_cmp d d' → r ≡ names_cmp (kept_names d dl x y z l c cl) (kept_names d' dl' x' y' z' l' c' cl')
  by_dataset apart is = decided _ apart is (by_head own.key.of_dataset other.key.of_dataset apart is)

  pub by_row : {r : Ordering} → d ≡ d' → x ≢ x' → r ≡ nat_cmp x x' → r ≡ names_cmp (kept_names d dl x y z l c cl) (kept_names d' dl' x' y' z' l' c' cl')
  by_row e apart is = passed (same_dataset e) (decided _ apart is (by_one own.key.of_row other.key.of_row apart is))

  pub by_second : {r : Ordering} → d ≡ d' → x ≡ x' → y ≢ y' → r ≡ nat_cmp y y' → r ≡ names_cmp (kept_names d dl x y z l c cl) (kept_names d' dl' x' y' z' l' c' cl')
  by_second e f apart is = passed (same_dataset e) (decided _ apart is (by_two own.key.of_row other.key.of_row f apart is))

  pub by_third : {r : Ordering} → d ≡ d' → x ≡ x' → y ≡ y' → z ≢ z' → r ≡ nat_cmp z z' → r ≡ names_cmp (kept_names d dl x y z l c cl) (kept_names d' dl' x' y' z' l' c' cl')
  by_third e f g apart is = passed (same_dataset e) (decided _ apart is (by_three own.key.of_row other.key.of_row f g apart is))

  pub by_column : {r : Ordering} → d ≡ d' → x ≡ x' → y ≡ y' → z ≡ z' → c ≢ c' → r ≡ nat_cmp c c' → r ≡ names_cmp (kept_names d dl x y z l c cl) (kept_names d' dl' x' y' z' l' c' cl')
  by_column e f g h apart is = passed (same_dataset e) (passed (same_row f g h) (by_head own.key.of_column other.key.of_column apart is))

  pub by_none : d ≡ d' → x ≡ x' → y ≡ y' → z ≡ z' → c ≡ c' → Equal ≡ names_cmp (kept_names d dl x y z l c cl) (kept_names d' dl' x' y' z' l' c' cl')
  by_none e f g h k = passed (same_dataset e) (passed (same_row f g h) (same_column k))

-- what holds of numbers holds of equal ones
pub of_equal : {x y x' y' : ℕ} (P : ℕ → ℕ → Type 0) → x' ≡ x → y' ≡ y → P x' y' → P x y
of_equal {x = x} {y' = y'} P e f h = subst (λ (b : ℕ). P x b) f (subst (λ (a : ℕ). P a y') e h)
