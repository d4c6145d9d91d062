-- The draws one after the other.
use Rattle.std.proofs.Common.{◌≡◌, ℕ, zero, suc, ◌+◌, ◌-◌, ◌*◌, ◌/◌, ◌<◌, ◌≤◌, List, [], ◌∷◌, ◌++◌, map, get_or, refl, sym, ap, ◌∙◌, subst, arith, add-one}
use Rattle.std.specs.List.{range_with_len}
use Rattle.std.proofs.lemmas.List.FromFn.{get_or-map-range_with_len, map-range_with_len_more}
use Rattle.generated_books.specs.Draws.{next, number_drawn, draw}
use Rattle.generated_books.specs.Numbers.{AreDraws}

pub first_number : number_drawn 0 ≡ 1
unfolding number_drawn
first_number = refl

follows : (i : ℕ) → number_drawn (suc i) ≡ next (number_drawn i)
unfolding number_drawn
follows i = refl

pub next_number : (i : ℕ) → number_drawn (i + 1) ≡ next (number_drawn i)
next_number i = ap number_drawn (add-one i) ∙ follows i

-- one draw more
pub draws_more : (i x : ℕ) (ds : List ℕ) → ds ≡ map draw (range_with_len 1 i) → x ≡ number_drawn i → ds ++ (next x / 256) ∷ [] ≡ map draw (range_with_len 1 (i + 1))
unfolding draw
draws_more i x ds e is =
    ap (λ (front : List ℕ). front ++ (next x / 256) ∷ []) e
    ∙ ap (λ (y : ℕ). map draw (range_with_len 1 i) ++ (y / 256) ∷ []) (ap next is ∙ sym (next_number i))
    ∙ sym (map-range_with_len_more draw 1 i (i + 1) (omega arith))

-- one draw of those of so many transactions
pub draw_at : (ds : List ℕ) (n k nth : ℕ) → AreDraws ds n → k < n → 1 ≤ nth → nth ≤ 4 → get_or ds ((4 * k + nth) - 1) 0 ≡ draw (4 * k + nth)
draw_at ds n k nth are within first last =
    ap (λ (xs : List ℕ). get_or xs ((4 * k + nth) - 1) 0) are ∙ get_or-map-range_with_len draw 1 (4 * n) ((4 * k + nth) - 1) (4 * k + nth) 0 (omega arith) (omega arith)
