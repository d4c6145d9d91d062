-- What a cut at the first byte of one kind gives of the pieces between such bytes.
use Rattle.std.proofs.Common.{◌≡◌, ◌≢◌, ℕ, suc, ◌<◌, false, eqb, List, [], ◌∷◌, ◌++◌, length, get_or, Option, None, Some, MatchOption, Bor, refl, ap, ◌∙◌, arith, length-append}
use Rattle.std.specs.Prelude.{◌==◌, IfSome}
use Rattle.std.specs.List.{slice_split}
use Rattle.std.proofs.lemmas.Bool.{ne_eqb, eq-eqb}

-- the byte stands nowhere in the text
abbrev pub Lacks : ℕ → List ℕ → Type 0
Lacks b text = (i : ℕ) → i < length text → get_or text i 0 ≢ b

lacks_rest : (b x : ℕ) (xs : List ℕ) → Lacks b (x ∷ xs) → Lacks b xs
lacks_rest b x xs h i l = h (suc i) (omega arith)

lacks_first : (b x : ℕ) (xs : List ℕ) → Lacks b (x ∷ xs) → eqb x b ≡ false
lacks_first b x xs h = ne_eqb x b (h 0 (omega arith))

-- the pieces between the bytes
abbrev pub pieces : ℕ → List ℕ → List (List ℕ)
pieces c text = slice_split (λ b. b == c) text

pub pieces-none : (c : ℕ) (xs : List ℕ) → Lacks c xs → pieces c xs ≡ xs ∷ []
pieces-none c [] h = refl
pieces-none c (x ∷ xs) h = rw (lacks_first c x xs h, pieces-none c xs (lacks_rest c x xs h)) refl

pub pieces-at : (c : ℕ) (xs ys : List ℕ) → Lacks c xs → pieces c (xs ++ c ∷ ys) ≡ xs ∷ pieces c ys
pieces-at c [] ys h = rw (eq-eqb c c refl) refl
pieces-at c (x ∷ xs) ys h = rw (lacks_first c x xs h, pieces-at c xs ys (lacks_rest c x xs h)) refl

-- what `split_once` says
abbrev pub IsCut : ℕ → List ℕ → Option (Bor (List ℕ) × Bor (List ℕ)) → Type 0
IsCut c bs r = MatchOption r (Lacks c bs) (λ x. (bs ≡ x.0.now ++ (c ∷ x.1.now)) × Lacks c x.0.now)

abbrev pub CutsPieces : ℕ → List ℕ → Option (Bor (List ℕ) × Bor (List ℕ)) → Type 0
CutsPieces c bs r = MatchOption r (pieces c bs ≡ bs ∷ []) (λ p. pieces c bs ≡ p.0.now ∷ pieces c p.1.now)

pub pieces-cut : (c : ℕ) (bs : List ℕ) (r : Option (Bor (List ℕ) × Bor (List ℕ))) → IsCut c bs r → CutsPieces c bs r
pieces-cut c bs None h = pieces-none c bs h
pieces-cut c bs (Some x) h = ap (pieces c) h.0 ∙ pieces-at c x.0.now x.1.now h.1

-- what stands behind a cut is shorter
pub cut_shorter : (c : ℕ) (bs : List ℕ) (r : Option (Bor (List ℕ) × Bor (List ℕ))) → IsCut c bs r → IfSome r (λ p. length p.1.now < length bs)
cut_shorter c bs None h = tt
cut_shorter c bs (Some x) h = omega (arith, simp length-append at (ap length h.0))
