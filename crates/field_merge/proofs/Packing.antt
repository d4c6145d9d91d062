-- Numbers of 16 bytes, and the bytes that they spell.
use Rattle.std.proofs.Common.{◌≡◌, ◌∙◌, ℕ, zero, suc, ◌+◌, ◌*◌, ◌/◌, ◌%◌, ◌^◌, ◌<◌, ◌≤◌, List, [], ◌∷◌, ◌++◌, length, drop, take, arith, refl, ap, sym, subst, le_refl, div-one, pow-suc, mul_comm, mod-eq_of_lt, length-drop, length-append, take_all, take_at, drop-drop, take-append-drop, drop_of_length-le, append_assoc, append-nil}
use Rattle.std.proofs.lemmas.Nat.{div-mul-add, mod-mul-add, mul-le}
use Rattle.std.specs.Int.{byte_at, bytes_high_first}
use Rattle.field_values.specs.Heads.{head_from, head_of, AreBytes}
use Rattle.field_merge.specs.Padded.{bytes_of, bytes_of_three, IsPadded}

-- the numbers that n bytes spell are below it
abbrev pub bound : ℕ → ℕ
bound zero = 1
bound (suc n) = 256 * bound n

powers : (k : ℕ) → 256 ^ k ≡ bound k
powers zero = refl
powers (suc k) = pow-suc 256 k ∙ mul_comm (256 ^ k) 256 ∙ ap (λ (w : ℕ). 256 * w) (powers k)

some : (k : ℕ) → 0 < bound k
some zero = omega arith
some (suc k) = let more = some k in omega arith

byte_is : (k n : ℕ) → byte_at k n ≡ n / bound k % 256
byte_is zero n = ap (λ (w : ℕ). w % 256) (sym (div-one n))
byte_is (suc k) n = ap (λ (w : ℕ). n / w % 256) (powers (suc k))

-- what is spelled before stands above what n bytes spell
above : (n k : ℕ) (xs : List ℕ) → head_from n k xs ≡ k * bound n + head_from n 0 xs
above zero k xs = omega arith
above (suc n) k [] =
    let all = above n (k * 256) [] in
    omega arith
above (suc n) k (x ∷ xs) =
    let all = above n (k * 256 + x) xs in
    let own = above n (0 * 256 + x) xs in
    omega arith

below : (n : ℕ) (xs : List ℕ) → AreBytes xs → head_from n 0 xs < bound n
below zero xs b = omega arith
below (suc n) [] b =
    let low = below n [] b in
    omega arith
below (suc n) (x ∷ xs) b =
    let low = below n xs (λ k. b (suc k)) in
    let own = above n (0 * 256 + x) xs in
    let small : x < 256 = b 0 in
    let high = mul-le x (bound n) 255 (bound n) (omega arith) (le_refl (bound n)) in
    omega arith

-- the number that bytes spell spells them
spells : (n k : ℕ) (xs : List ℕ) → AreBytes xs → n ≤ length xs → bytes_high_first n (head_from n k xs) ≡ take n xs
spells zero k xs b h = refl
spells (suc n) k [] b h = absurd (omega arith)
spells (suc n) k (x ∷ xs) b h =
    let first : byte_at n (head_from n (k * 256 + x) xs) ≡ x =
    byte_is n (head_from n (k * 256 + x) xs)
    ∙ ap (λ (w : ℕ). w / bound n % 256) (above n (k * 256 + x) xs)
    ∙ ap (λ (w : ℕ). w % 256) (div-mul-add (k * 256 + x) (bound n) (head_from n 0 xs) (below n xs (λ i. b (suc i))))
    ∙ mod-mul-add k 256 x (b 0) in
    let more = spells n (k * 256 + x) xs (λ i. b (suc i)) (omega arith) in
    λ i. first i ∷ more i

pub length_of : (w : ℕ) → length (bytes_of w) ≡ 16
unfolding bytes_of
length_of w = refl

packs : (bs : List ℕ) → AreBytes bs → 16 ≤ length bs → bytes_of (head_of bs) ≡ take 16 bs
unfolding bytes_of
packs bs b h = spells 16 0 bs b h

-- the number of 16 bytes keeps them
pub keeps : {w : ℕ} {bs : List ℕ} → w ≡ head_of bs → AreBytes bs → length bs ≡ 16 → bytes_of w ≡ bs
keeps {bs = bs} is b h = ap bytes_of is ∙ packs bs b (omega arith) ∙ take_all 16 bs (omega arith)

rest_of : (bs : List ℕ) (n : ℕ) → AreBytes bs → AreBytes (drop n bs)
rest_of bs zero b k = b k
rest_of [] (suc n) b k = omega arith
rest_of (x ∷ bs) (suc n) b k = rest_of bs n (λ i. b (suc i)) k

-- the three numbers of 48 bytes keep them
pub keep_three : {one two three : ℕ} {bs : List ℕ} → one ≡ head_of bs → two ≡ head_of (drop 16 bs) → three ≡ head_of (drop 32 bs) → AreBytes bs → length bs ≡ 48 → bytes_of_three one two three ≡ bs
keep_three {bs = bs} e f g b h =
    let first : bytes_of _ ≡ take 16 bs = ap bytes_of e ∙ packs bs b (omega arith) in
    let second : bytes_of _ ≡ take 16 (drop 16 bs) = ap bytes_of f ∙ packs (drop 16 bs) (rest_of bs 16 b) (omega (arith, length-drop 16 bs)) in
    let third : bytes_of _ ≡ drop 16 (drop 16 bs) = keeps g (rest_of bs 32 b) (omega (arith, length-drop 32 bs)) ∙ sym (drop-drop 16 16 bs) in
    (λ i. first i ++ (second i ++ third i)) ∙ ap (λ (w : List ℕ). take 16 bs ++ w) (take-append-drop 16 (drop 16 bs)) ∙ take-append-drop 16 bs

-- the bytes of three numbers, put one behind the other
pub put_three : (one two three : ℕ) (zeros first second third : List ℕ) → length zeros ≡ 48
    → first ≡ take 0 zeros ++ (bytes_of one ++ drop 16 zeros)
    → second ≡ take 16 first ++ (bytes_of two ++ drop 32 first)
    → third ≡ take 32 second ++ (bytes_of three ++ drop 48 second)
    → third ≡ bytes_of_three one two three
put_three one two three zeros first second third room e f g =
    let a = length_of one in
    let b = length_of two in
    let one_first : take 16 first ≡ bytes_of one = ap (take 16) e ∙ take_at (bytes_of one) (drop 16 zeros) 16 a in
    let left : length (drop 32 first) ≡ 16 =
    ap (λ (w : List ℕ). length (drop 32 w)) e ∙ length-drop 32 (bytes_of one ++ drop 16 zeros)
    ∙ omega (arith, a, length-append (bytes_of one) (drop 16 zeros), length-drop 16 zeros, room) in
    let joined : second ≡ (bytes_of one ++ bytes_of two) ++ drop 32 first =
    f ∙ ap (λ (w : List ℕ). w ++ (bytes_of two ++ drop 32 first)) one_first ∙ sym (append_assoc (bytes_of one) (bytes_of two) (drop 32 first)) in
    let both : length (bytes_of one ++ bytes_of two) ≡ 32 = length-append (bytes_of one) (bytes_of two) ∙ omega (arith, a, b) in
    let two_first : take 32 second ≡ bytes_of one ++ bytes_of two = ap (take 32) joined ∙ take_at (bytes_of one ++ bytes_of two) (drop 32 first) 32 both in
    let whole : length second ≡ 48 = ap length joined ∙ length-append (bytes_of one ++ bytes_of two) (drop 32 first) ∙ omega (arith, both, left) in
    let none : drop 48 second ≡ [] = drop_of_length-le second {i = 48} (omega (arith, whole)) in
    g ∙ (λ i. two_first i ++ (bytes_of three ++ none i)) ∙ ap (λ (w : List ℕ). (bytes_of one ++ bytes_of two) ++ w) (append-nil (bytes_of three)) ∙ append_assoc (bytes_of one) (bytes_of two) (bytes_of three)
