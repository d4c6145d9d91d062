-- Where the heads of two texts differ, they are ordered as the texts are.
use Rattle.std.proofs.Common.{◌≡◌, ◌≢◌, ◌∙◌, ℕ, zero, suc, ◌+◌, ◌*◌, ◌-◌, ◌<◌, ◌≤◌, List, [], ◌∷◌, length, min, get_or, drop, arith, refl, ap, sym, subst}
use Rattle.std.specs.Ordering.{nat_cmp, ordering_then, MatchOrdering}
use Rattle.std.specs.Int.{from_be_bytes, w128}
use Rattle.std.specs.Cmp.{nat_cmp_is, ranks}
use Rattle.std.specs.Cmp.Lexicographic.{slice_cmp}
use Rattle.std.specs.declared.cmp.Ordering.{Ordering}
use Rattle.std.specs.declared.cmp.Ordering.TheVariants.{Less, Equal, Greater}
use Rattle.std.proofs.Math.Seq.{drop-nil}
use Rattle.field_values.specs.Names.{FieldNames}
use Rattle.field_values.specs.Heads.{head_from, head_of, AreBytes, IsShortLength, IsHead, AreHeads, IsKey, KeepsHeads}

-- the numbers that n bytes spell are below it
abbrev pub bound : ℕ → ℕ
bound zero = 1
bound (suc n) = 256 * bound n

less : (x y : ℕ) → x < y → nat_cmp x y ≡ Less
less x y h = sym (nat_cmp_is x y Less h)

equal : (x y : ℕ) → x ≡ y → nat_cmp x y ≡ Equal
equal x y h = sym (nat_cmp_is x y Equal h)

greater : (x y : ℕ) → y < x → nat_cmp x y ≡ Greater
greater x y h = sym (nat_cmp_is x y Greater h)

rest : (x : ℕ) (xs : List ℕ) → AreBytes (x ∷ xs) → AreBytes xs
rest x xs b k = b (suc k)

first : (x : ℕ) (xs : List ℕ) → AreBytes (x ∷ xs) → x < 256
first x xs b = b 0

-- a lower start is lower to the end
lower : (n k l : ℕ) (xs ys : List ℕ) → AreBytes xs → AreBytes ys → k < l → head_from n k xs < head_from n l ys
lower zero k l xs ys b d h = h
lower (suc n) k l [] [] b d h = lower n (k * 256) (l * 256) [] [] b d (omega arith)
lower (suc n) k l [] (y ∷ ys) b d h = lower n (k * 256) (l * 256 + y) [] ys b (rest y ys d) (omega arith)
lower (suc n) k l (x ∷ xs) [] b d h =
    let small = first x xs b in lower n (k * 256 + x) (l * 256) xs [] (rest x xs b) d (omega arith)
lower (suc n) k l (x ∷ xs) (y ∷ ys) b d h =
    let small = first x xs b in lower n (k * 256 + x) (l * 256 + y) xs ys (rest x xs b) (rest y ys d) (omega arith)

-- no bytes are lowest
lowest : (n k l : ℕ) (ys : List ℕ) → k ≤ l → head_from n k [] ≤ head_from n l ys
lowest zero k l ys h = h
lowest (suc n) k l [] h = lowest n (k * 256) (l * 256) [] (omega arith)
lowest (suc n) k l (y ∷ ys) h = lowest n (k * 256) (l * 256 + y) ys (omega arith)

by_first : (n k x y : ℕ) (xs ys : List ℕ) → AreBytes (x ∷ xs) → AreBytes (y ∷ ys)
    → (head_from n (k * 256 + x) xs ≢ head_from n (k * 256 + x) ys → slice_cmp nat_cmp xs ys ≡ nat_cmp (head_from n (k * 256 + x) xs) (head_from n (k * 256 + x) ys))
    → head_from n (k * 256 + x) xs ≢ head_from n (k * 256 + y) ys
    → (o : Ordering) → MatchOrdering o (x < y) (x ≡ y) (y < x) → ordering_then o (slice_cmp nat_cmp xs ys) ≡ nat_cmp (head_from n (k * 256 + x) xs) (head_from n (k * 256 + y) ys)
by_first n k x y xs ys b d more h Less m =
    let under : x < y = m in
    sym (less (head_from n (k * 256 + x) xs) (head_from n (k * 256 + y) ys) (lower n (k * 256 + x) (k * 256 + y) xs ys (rest x xs b) (rest y ys d) (omega arith)))
by_first n k x y xs ys b d more h Equal m =
    subst (λ (z : ℕ). head_from n (k * 256 + x) xs ≢ head_from n (k * 256 + z) ys → slice_cmp nat_cmp xs ys ≡ nat_cmp (head_from n (k * 256 + x) xs) (head_from n (k * 256 + z) ys)) m more h
by_first n k x y xs ys b d more h Greater m =
    let over : y < x = m in
    sym (greater (head_from n (k * 256 + x) xs) (head_from n (k * 256 + y) ys) (lower n (k * 256 + y) (k * 256 + x) ys xs (rest y ys d) (rest x xs b) (omega arith)))

-- where the heads differ, they are ordered as the lists
pub ordered : (n k : ℕ) (xs ys : List ℕ) → AreBytes xs → AreBytes ys → head_from n k xs ≢ head_from n k ys → slice_cmp nat_cmp xs ys ≡ nat_cmp (head_from n k xs) (head_from n k ys)
ordered zero k xs ys b d h = absurd (h refl)
ordered (suc n) k [] [] b d h = absurd (h refl)
ordered (suc n) k [] (y ∷ ys) b d h =
    let low = lowest n (k * 256) (k * 256 + y) ys (omega arith) in
    sym (less (head_from n (k * 256) []) (head_from n (k * 256 + y) ys) (omega arith))
ordered (suc n) k (x ∷ xs) [] b d h =
    let low = lowest n (k * 256) (k * 256 + x) xs (omega arith) in
    sym (greater (head_from n (k * 256 + x) xs) (head_from n (k * 256) []) (omega arith))
ordered (suc n) k (x ∷ xs) (y ∷ ys) b d h =
    by_first n k x y xs ys b d (λ f. ordered n (k * 256 + x) xs ys (rest x xs b) (rest y ys d) f) h (nat_cmp x y) (ranks x y)

-- lists as long, of at most n bytes, that have one head are one list
pub same : (n k l : ℕ) (xs ys : List ℕ) → AreBytes xs → AreBytes ys → length xs ≡ length ys → length xs ≤ n → head_from n k xs ≡ head_from n l ys → (k ≡ l) × (xs ≡ ys)
same zero k l [] [] b d e h f = (f, refl)
same zero k l [] (y ∷ ys) b d e h f = absurd (omega arith)
same zero k l (x ∷ xs) ys b d e h f = absurd (omega arith)
same (suc n) k l [] [] b d e h f =
    let both = same n (k * 256) (l * 256) [] [] b d e (omega arith) f in
    let level = both.0 in
    (omega arith, refl)
same (suc n) k l [] (y ∷ ys) b d e h f = absurd (omega arith)
same (suc n) k l (x ∷ xs) [] b d e h f = absurd (omega arith)
same (suc n) k l (x ∷ xs) (y ∷ ys) b d e h f =
    let both = same n (k * 256 + x) (l * 256 + y) xs ys (rest x xs b) (rest y ys d) (omega arith) (omega arith) f in
    let level = both.0 in
    let tails = both.1 in
    let small = first x xs b in
    let little = first y ys d in
    let firsts : x ≡ y = omega arith in
    let starts : k ≡ l = omega arith in
    (starts, cc)

-- a step of the loop that reads a head
pub step : (n k i : ℕ) (xs : List ℕ) → head_from (suc n) k (drop i xs) ≡ head_from n (k * 256 + get_or xs i 0) (drop (suc i) xs)
step n k zero [] = ap (λ (w : ℕ). head_from n w []) (omega arith)
step n k zero (x ∷ xs) = refl
step n k (suc i) [] = ap (λ (w : ℕ). head_from n w []) (omega arith)
step n k (suc i) (x ∷ xs) = step n k i xs

level : (xs : List ℕ) → slice_cmp nat_cmp xs xs ≡ Equal
level [] = refl
level (x ∷ xs) = rw (equal x x refl) (level xs)

-- m bytes and n more are spelled one after the other
split : (m n k : ℕ) (xs : List ℕ) → head_from (m + n) k xs ≡ head_from n (head_from m k xs) (drop m xs)
split zero n k xs = ap (λ (w : ℕ). head_from w k xs) (omega arith)
split (suc m) n k [] =
    let one : suc m + n ≡ suc (m + n) = omega arith in
    rw one (subst (λ (zs : List ℕ). head_from (m + n) (k * 256) [] ≡ head_from n (head_from m (k * 256) []) zs) (drop-nil m) (split m n (k * 256) []))
split (suc m) n k (x ∷ xs) =
    let one : suc m + n ≡ suc (m + n) = omega arith in
    rw one (split m n (k * 256 + x) xs)

-- what is spelled before stands above what n bytes spell
shift : (n k : ℕ) (xs : List ℕ) → head_from n k xs ≡ k * bound n + head_from n 0 xs
shift zero k xs = omega arith
shift (suc n) k [] =
    let all = shift n (k * 256) [] in
    omega arith
shift (suc n) k (x ∷ xs) =
    let all = shift n (k * 256 + x) xs in
    let own = shift n (0 * 256 + x) xs in
    omega arith

-- m bytes and n after them
joined : (m n : ℕ) (xs : List ℕ) → head_from (m + n) 0 xs ≡ head_from m 0 xs * bound n + head_from n 0 (drop m xs)
joined m n xs = split m n 0 xs ∙ shift n (head_from m 0 xs) (drop m xs)

-- numbers that stand as far above two others are ordered as these
moved : (c x y a b : ℕ) → x ≡ c + a → y ≡ c + b → (o : Ordering) → MatchOrdering o (a < b) (a ≡ b) (b < a) → nat_cmp x y ≡ o
moved c x y a b p q Less m = let under : a < b = m in less x y (omega arith)
moved c x y a b p q Equal m = let as_high : a ≡ b = m in equal x y (omega arith)
moved c x y a b p q Greater m = let over : b < a = m in greater x y (omega arith)

-- where the first m bytes are the same and the n after them differ, these are ordered as the lists
later : (m n : ℕ) (xs ys : List ℕ) → AreBytes xs → AreBytes ys → head_from m 0 xs ≡ head_from m 0 ys → head_from n 0 (drop m xs) ≢ head_from n 0 (drop m ys)
    → slice_cmp nat_cmp xs ys ≡ nat_cmp (head_from n 0 (drop m xs)) (head_from n 0 (drop m ys))
later m n xs ys b d e apart =
    let left = joined m n xs in
    let right = joined m n ys ∙ ap (λ (w : ℕ). w * bound n + head_from n 0 (drop m ys)) (sym e) in
    let differ : head_from (m + n) 0 xs ≢ head_from (m + n) 0 ys = λ f. apart (omega (arith, f)) in
    ordered (m + n) 0 xs ys b d differ
    ∙ moved (head_from m 0 xs * bound n) _ _ (head_from n 0 (drop m xs)) (head_from n 0 (drop m ys)) left right (nat_cmp (head_from n 0 (drop m xs)) (head_from n 0 (drop m ys))) (ranks (head_from n 0 (drop m xs)) (head_from n 0 (drop m ys)))

-- where the first m bytes are the same and the n after them too, so are the first m + n
longer : (m n : ℕ) (xs ys : List ℕ) → head_from m 0 xs ≡ head_from m 0 ys → head_from n 0 (drop m xs) ≡ head_from n 0 (drop m ys) → head_from (m + n) 0 xs ≡ head_from (m + n) 0 ys
longer m n xs ys e f =
    joined m n xs ∙ ap (λ (w : ℕ). w * bound n + head_from n 0 (drop m xs)) e ∙ ap (λ (w : ℕ). head_from m 0 ys * bound n + w) f ∙ sym (joined m n ys)

-- the answer by n bytes that differ after m bytes that are the same
by_later : (m n x y : ℕ) (xs ys : List ℕ) (r : Ordering) → x ≡ head_from n 0 (drop m xs) → y ≡ head_from n 0 (drop m ys) → AreBytes xs → AreBytes ys → head_from m 0 xs ≡ head_from m 0 ys → x ≢ y → r ≡ nat_cmp x y
    → r ≡ slice_cmp nat_cmp xs ys
by_later m n x y xs ys r p q b d same h e =
    let apart : head_from n 0 (drop m xs) ≢ head_from n 0 (drop m ys) = λ f. h (p ∙ f ∙ sym q) in
    e ∙ ap (λ (w : ℕ). nat_cmp w y) p ∙ ap (λ (w : ℕ). nat_cmp (head_from n 0 (drop m xs)) w) q ∙ sym (later m n xs ys b d same apart)

-- the answer where the first n bytes tell all
in_first : (n l m : ℕ) (xs ys : List ℕ) → AreBytes xs → AreBytes ys → head_from n 0 xs ≡ head_from n 0 ys → IsShortLength l xs → IsShortLength m ys → l ≡ m → l ≤ n → n < 255
    → Equal ≡ slice_cmp nat_cmp xs ys
unfolding IsShortLength
in_first n l m xs ys b d e long wide f short few =
    let left = long.0 (omega arith) in
    let right = wide.0 (omega arith) in
    let both = same n 0 0 xs ys b d (omega arith) (omega arith) e in
    subst (λ (zs : List ℕ). Equal ≡ slice_cmp nat_cmp xs zs) both.1 (sym (level xs))

pub opened : {d dl x y z l e el : ℕ} {names : FieldNames} → KeepsHeads d dl x y z l e el names → IsKey d dl x y z l e el names
unfolding KeepsHeads
opened h = h

pub by_head : {x y l m : ℕ} {xs ys : List ℕ} {r : Ordering} → IsHead x l xs → IsHead y m ys → x ≢ y → r ≡ nat_cmp x y → r ≡ slice_cmp nat_cmp xs ys
by_head h g apart e = by_later 0 16 _ _ _ _ _ h.head g.head h.bytes g.bytes refl apart e

pub in_head : {x y l m : ℕ} {xs ys : List ℕ} → IsHead x l xs → IsHead y m ys → x ≡ y → l ≡ m → l ≤ 16 → Equal ≡ slice_cmp nat_cmp xs ys
in_head h g e long short = in_first 16 _ _ _ _ h.bytes g.bytes (sym h.head ∙ e ∙ g.head) h.length g.length long short (omega arith)

pub by_one : {x y z u v w l m : ℕ} {xs ys : List ℕ} {r : Ordering} → AreHeads x y z l xs → AreHeads u v w m ys → x ≢ u → r ≡ nat_cmp x u → r ≡ slice_cmp nat_cmp xs ys
by_one h g apart e = by_later 0 16 _ _ _ _ _ h.first g.first h.bytes g.bytes refl apart e

pub by_two : {x y z u v w l m : ℕ} {xs ys : List ℕ} {r : Ordering} → AreHeads x y z l xs → AreHeads u v w m ys → x ≡ u → y ≢ v → r ≡ nat_cmp y v → r ≡ slice_cmp nat_cmp xs ys
by_two h g one apart e = by_later 16 16 _ _ _ _ _ h.second g.second h.bytes g.bytes (sym h.first ∙ one ∙ g.first) apart e

two_same : {x y z u v w l m : ℕ} {xs ys : List ℕ} → AreHeads x y z l xs → AreHeads u v w m ys → x ≡ u → y ≡ v → head_from 32 0 xs ≡ head_from 32 0 ys
two_same {xs = xs} {ys = ys} h g one two = longer 16 16 xs ys (sym h.first ∙ one ∙ g.first) (sym h.second ∙ two ∙ g.second)

pub by_three : {x y z u v w l m : ℕ} {xs ys : List ℕ} {r : Ordering} → AreHeads x y z l xs → AreHeads u v w m ys → x ≡ u → y ≡ v → z ≢ w → r ≡ nat_cmp z w → r ≡ slice_cmp nat_cmp xs ys
by_three h g one two apart e = by_later 32 16 _ _ _ _ _ h.third g.third h.bytes g.bytes (two_same h g one two) apart e

pub in_three : {x y z u v w l m : ℕ} {xs ys : List ℕ} → AreHeads x y z l xs → AreHeads u v w m ys → x ≡ u → y ≡ v → z ≡ w → l ≡ m → l ≤ 48 → Equal ≡ slice_cmp nat_cmp xs ys
in_three {xs = xs} {ys = ys} h g one two three long short =
    in_first 48 _ _ _ _ h.bytes g.bytes (longer 32 16 xs ys (two_same h g one two) (sym h.third ∙ three ∙ g.third)) h.length g.length long short (omega arith)

-- the number that n bytes from place i on spell after k
abbrev pub spelled : ℕ → ℕ → ℕ → List ℕ → ℕ
spelled zero k i xs = k
spelled (suc n) k i xs = spelled n (k * 256 + get_or xs i 0) (suc i) xs

pub spelled_is : (n k i : ℕ) (xs : List ℕ) → head_from n k (drop i xs) ≡ spelled n k i xs
spelled_is zero k i xs = refl
spelled_is (suc n) k i xs = step n k i xs ∙ spelled_is n (k * 256 + get_or xs i 0) (suc i) xs

pub sixteen : (xs : List ℕ) → from_be_bytes w128 (get_or xs 0 0 ∷ get_or xs 1 0 ∷ get_or xs 2 0 ∷ get_or xs 3 0 ∷ get_or xs 4 0 ∷ get_or xs 5 0 ∷ get_or xs 6 0 ∷ get_or xs 7 0
    ∷ get_or xs 8 0 ∷ get_or xs 9 0 ∷ get_or xs 10 0 ∷ get_or xs 11 0 ∷ get_or xs 12 0 ∷ get_or xs 13 0 ∷ get_or xs 14 0 ∷ get_or xs 15 0 ∷ []) ≡ head_of xs
sixteen xs =
    let all : head_of xs ≡ spelled 16 0 0 xs = spelled_is 16 0 0 xs in
    omega (arith, all)

-- numbers that n bytes bring to one number were one before them
one_start : (n k l : ℕ) (xs ys : List ℕ) → AreBytes xs → AreBytes ys → head_from n k xs ≡ head_from n l ys → (o : Ordering) → MatchOrdering o (k < l) (k ≡ l) (l < k) → k ≡ l
one_start n k l xs ys b d e Less m = let low = lower n k l xs ys b d m in absurd (omega (arith, e))
one_start n k l xs ys b d e Equal m = m
one_start n k l xs ys b d e Greater m = let high = lower n l k ys xs d b m in absurd (omega (arith, e))

dropped : (m : ℕ) (xs : List ℕ) → AreBytes xs → AreBytes (drop m xs)
dropped zero xs b = b
dropped (suc m) [] b = b
dropped (suc m) (x ∷ xs) b = dropped m xs (rest x xs b)

-- where the first n bytes are the same, so are the fewer first
fewer : (m n : ℕ) (xs ys : List ℕ) → AreBytes xs → AreBytes ys → m ≤ n → head_from n 0 xs ≡ head_from n 0 ys → head_from m 0 xs ≡ head_from m 0 ys
fewer m n xs ys b d few e =
    let all : n ≡ m + (n - m) = omega arith in
    let whole : head_from (m + (n - m)) 0 xs ≡ head_from (m + (n - m)) 0 ys = subst (λ (w : ℕ). head_from w 0 xs ≡ head_from w 0 ys) all e in
    let parts = sym (split m (n - m) 0 xs) ∙ whole ∙ split m (n - m) 0 ys in
    one_start (n - m) (head_from m 0 xs) (head_from m 0 ys) (drop m xs) (drop m ys) (dropped m xs b) (dropped m ys d) parts _ (ranks (head_from m 0 xs) (head_from m 0 ys))

-- lists that are the same as far as the shorter one goes are ordered as their lengths
tied : (n k l : ℕ) (xs ys : List ℕ) → AreBytes xs → AreBytes ys → n ≡ min (length xs) (length ys) → head_from n k xs ≡ head_from n l ys
    → (k ≡ l) × (slice_cmp nat_cmp xs ys ≡ nat_cmp (length xs) (length ys))
tied zero k l [] [] b d m e = (e, sym (equal 0 0 refl))
tied zero k l [] (y ∷ ys) b d m e = (e, sym (less 0 (suc (length ys)) (omega arith)))
tied zero k l (x ∷ xs) [] b d m e = (e, sym (greater (suc (length xs)) 0 (omega arith)))
tied zero k l (x ∷ xs) (y ∷ ys) b d m e = absurd (omega (arith, m))
tied (suc n) k l [] ys b d m e = absurd (omega (arith, m))
tied (suc n) k l (x ∷ xs) [] b d m e = absurd (omega (arith, m))
tied (suc n) k l (x ∷ xs) (y ∷ ys) b d m e =
    let both = tied n (k * 256 + x) (l * 256 + y) xs ys (rest x xs b) (rest y ys d) (omega (arith, m)) e in
    let level = both.0 in
    let small = first x xs b in
    let little = first y ys d in
    let firsts : x ≡ y = omega arith in
    let starts : k ≡ l = omega arith in
    let raised = moved 1 (suc (length xs)) (suc (length ys)) (length xs) (length ys) (omega arith) (omega arith) (nat_cmp (length xs) (length ys)) (ranks (length xs) (length ys)) in
    (starts, rw (equal x y firsts) (both.1 ∙ sym raised))

-- the answer by the first n bytes
pub by_front : (n : ℕ) (xs ys : List ℕ) {x y : ℕ} {r : Ordering} → x ≡ head_from n 0 xs → y ≡ head_from n 0 ys → AreBytes xs → AreBytes ys → x ≢ y → r ≡ nat_cmp x y → r ≡ slice_cmp nat_cmp xs ys
by_front n xs ys p q b d apart e = by_later 0 n _ _ xs ys _ p q b d refl apart e

-- the answer by n bytes from place m on, where the first n are the same
pub by_next : (m n : ℕ) (xs ys : List ℕ) {x y u v : ℕ} {r : Ordering} → x ≡ head_from n 0 xs → y ≡ head_from n 0 ys → AreBytes xs → AreBytes ys → x ≡ y → m ≤ n
    → u ≡ head_from n 0 (drop m xs) → v ≡ head_from n 0 (drop m ys) → u ≢ v → r ≡ nat_cmp u v → r ≡ slice_cmp nat_cmp xs ys
by_next m n xs ys p q b d alike few f g apart e =
    by_later m n _ _ xs ys _ f g b d (fewer m n xs ys b d few (sym p ∙ alike ∙ q)) apart e

-- the answer by the lengths, where those n bytes are the same too and end the shorter list
pub by_lengths : (m n : ℕ) (xs ys : List ℕ) {x y u v : ℕ} {r : Ordering} → x ≡ head_from n 0 xs → y ≡ head_from n 0 ys → AreBytes xs → AreBytes ys → x ≡ y → m ≤ n
    → u ≡ head_from n 0 (drop m xs) → v ≡ head_from n 0 (drop m ys) → u ≡ v → m + n ≡ min (length xs) (length ys) → r ≡ nat_cmp (length xs) (length ys) → r ≡ slice_cmp nat_cmp xs ys
by_lengths m n xs ys p q b d alike few f g alike_next short e =
    let all = longer m n xs ys (fewer m n xs ys b d few (sym p ∙ alike ∙ q)) (sym f ∙ alike_next ∙ g) in
    e ∙ sym (tied (m + n) 0 0 xs ys b d short all).1
