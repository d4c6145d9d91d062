-- The ids that writes make.
use Rattle.std.proofs.Common.{◌≡◌, ℕ, zero, suc, ◌+◌, ◌≤◌, Bool, true, false, cond, List, [], ◌∷◌, length, Some, refl, sym, ap, ◌∙◌, subst, arith, true≢false}
use Rattle.std.specs.Prelude.{slice_get}
use Rattle.std.specs.List.{AllByRecursion, Contains}
use Rattle.std.proofs.lemmas.Bool.Decides.{nat_tests}
use Rattle.hybrid_clock.specs.declared.stamp.Stamp.{Stamp}
use Rattle.hybrid_clock.specs.Stamp.{IsStamp}
use Rattle.field_merge.proofs.Members.{here, there}
use Rattle.kept_messages.proofs.Groups.{of_cons}
use Rattle.book_rows.specs.declared.write.RowName.{RowName}
use Rattle.book_rows.specs.declared.write.RowName.TheVariants.{Given, Made}
use Rattle.book_rows.specs.declared.write.Write.{Write}
use Rattle.device_core.specs.Accepting.{IsLine}
use Rattle.device_core.specs.Placing.{stamp_at, id_at, makes_row, ids_from}
use Rattle.device_core.proofs.Stamping.{stamp_named, at_valid}

-- one of the writes makes its row, where the first of them has this place
pub record MakesFrom (first : Stamp) (n : ℕ) (ws : List Write) (id : List ℕ) : Type 0 where
  pub place : ℕ
  pub write : Write
  pub there : slice_get ws place ≡ Some write
  pub own : write.row ≡ Made (n + place)
  pub text : id_at first (n + place) ≡ id

is_made : (n : ℕ) (row : RowName) → makes_row n row ≡ true → row ≡ Made n
is_made n (Given id) h = absurd (true≢false (sym h))
is_made n (Made at) h = let same : at ≡ n = grind (arith, nat_tests) in ap (λ (k : ℕ). Made k) same

makes_own : (n : ℕ) → makes_row n (Made n) ≡ true
makes_own n = grind (arith, nat_tests)

one_on : (first : Stamp) (n : ℕ) (w : Write) (ws : List Write) (id : List ℕ) → MakesFrom first (n + 1) ws id → MakesFrom first n (w ∷ ws) id
one_on first n w ws id m =
    let place : (n + 1) + m.place ≡ n + suc m.place = omega arith in record {
      place = suc m.place;
      write = m.write;
      there = m.there;
      own = m.own ∙ ap (λ (k : ℕ). Made k) place;
      text = ap (id_at first) (sym place) ∙ m.text;
    }

at_first : (first : Stamp) (n : ℕ) (w : Write) (ws : List Write) → makes_row n w.row ≡ true → MakesFrom first n (w ∷ ws) (id_at first n)
at_first first n w ws h =
    let place : n ≡ n + 0 = omega arith in record {
      place = zero;
      write = w;
      there = refl;
      own = is_made n w.row h ∙ ap (λ (k : ℕ). Made k) place;
      text = ap (id_at first) (sym place);
    }

none_in : (id : List ℕ) → Contains [] id → ⊥
none_in id (k, within, is) = omega (arith, within)

pub made_makes : (first : Stamp) (n : ℕ) (ws : List Write) (id : List ℕ) → Contains (ids_from first n ws) id → MakesFrom first n ws id
made_makes first n [] id c = absurd (none_in id c)
made_makes first n (w ∷ ws) id c = by (made_makes first (n + 1) ws) (makes_row n w.row) refl c
  where
    by : ((other : List ℕ) → Contains (ids_from first (n + 1) ws) other → MakesFrom first (n + 1) ws other) → (b : Bool) → makes_row n w.row ≡ b → Contains (cond b (id_at first n ∷ ids_from first (n + 1) ws) (ids_from first (n + 1) ws)) id → MakesFrom first n (w ∷ ws) id
    by rest true h c = of_cons (MakesFrom first n (w ∷ ws)) (id_at first n) (ids_from first (n + 1) ws) id (at_first first n w ws h) (λ other d. one_on first n w ws other (rest other d)) c
    by rest false h c = one_on first n w ws id (rest id c)

kept_on : (first : Stamp) (n : ℕ) (w : Write) (ws : List Write) (id : List ℕ) → Contains (ids_from first (n + 1) ws) id → Contains (ids_from first n (w ∷ ws)) id
kept_on first n w ws id c = by (makes_row n w.row)
  where
    by : (b : Bool) → Contains (cond b (id_at first n ∷ ids_from first (n + 1) ws) (ids_from first (n + 1) ws)) id
    by true = there (id_at first n) (ids_from first (n + 1) ws) id c
    by false = c

at_place : (first : Stamp) (n : ℕ) (ws : List Write) (place : ℕ) (w : Write) → slice_get ws place ≡ Some w → w.row ≡ Made (n + place) → Contains (ids_from first n ws) (id_at first (n + place))
at_place first n [] place w is own = absurd (cc)
at_place first n (v ∷ ws) zero w is own =
    let same : v ≡ w = cc in
    let at : n + 0 ≡ n = omega arith in
    let makes : makes_row n v.row ≡ true = ap (λ (u : Write). makes_row n u.row) same ∙ ap (makes_row n) (own ∙ ap (λ (k : ℕ). Made k) at) ∙ makes_own n in
    subst (λ (k : ℕ). Contains (ids_from first n (v ∷ ws)) (id_at first k)) (sym at)
    (subst (λ (b : Bool). Contains (cond b (id_at first n ∷ ids_from first (n + 1) ws) (ids_from first (n + 1) ws)) (id_at first n)) (sym makes) (here (id_at first n) (ids_from first (n + 1) ws)))
at_place first n (v ∷ ws) (suc i) w is own =
    let at : n + suc i ≡ (n + 1) + i = omega arith in
    kept_on first n v ws (id_at first (n + suc i))
    (subst (λ (k : ℕ). Contains (ids_from first (n + 1) ws) (id_at first k)) (sym at) (at_place first (n + 1) ws i w is (own ∙ ap (λ (k : ℕ). Made k) at)))

pub makes_made : (first : Stamp) (n : ℕ) (ws : List Write) (id : List ℕ) → MakesFrom first n ws id → Contains (ids_from first n ws) id
makes_made first n ws id m = subst (Contains (ids_from first n ws)) m.text (at_place first n ws m.place m.write m.there m.own)

-- ---- ids that were made have no line feed

id_line : (first : Stamp) (n : ℕ) → IsStamp first → first.counter + n ≤ 65_535 → IsLine (id_at first n)
id_line first n valid room k d within =
    let byte = ((stamp_named (stamp_at first n) (at_valid first n valid room)).bytes k d within).0 in
    λ is. omega (arith, byte, is)

pub ids_lines : (first : Stamp) (n : ℕ) (ws : List Write) → IsStamp first → (first.counter + n) + length ws ≤ 65_536 → AllByRecursion IsLine (ids_from first n ws)
ids_lines first n [] valid room = tt
ids_lines first n (w ∷ ws) valid room = by (ids_lines first (n + 1) ws valid (omega (arith, room))) (makes_row n w.row)
  where
    by : AllByRecursion IsLine (ids_from first (n + 1) ws) → (b : Bool) → AllByRecursion IsLine (cond b (id_at first n ∷ ids_from first (n + 1) ws) (ids_from first (n + 1) ws))
    by rest true = (id_line first n valid (omega (arith, room)), rest)
    by rest false = rest
