-- What templates want, in other words.
use Rattle.std.specs.Prelude.{◌≡◌, ℕ, ◌+◌, ◌*◌, ◌≤◌, ◌<◌, nat_le, ℤ, pos, neg_ℤ, ◌+ℤ◌, ◌-ℤ◌, ◌≤ℤ◌, List, filter}
use Rattle.std.specs.Int.{int_max, int_min}
use Rattle.std.specs.List.{range_with_len}
use Rattle.field_values.specs.Value.{largest_number}
use Rattle.finite_sums.specs.Sums.{total}
use Rattle.finite_sums.specs.Maps.{Text}
use Rattle.envelope_cells.specs.Budget.{Budget}
use Rattle.envelope_cells.specs.Cells.{leftover}
use Rattle.envelope_cells.specs.Ids.{month_number}
use Rattle.goal_templates.specs.declared.template.TemplateBody.{TemplateBody}
use Rattle.goal_templates.specs.declared.template.TemplateBody.TheVariants.{Amount, UpTo, AmountUpTo, By, Average, CopyFrom}
use Rattle.goal_templates.specs.Wanted.{want_of}

-- what of a category's leftover in a month comes from the month before: all but what it is given there and what its transactions add up to
abbrev pub carried : Budget → ℕ → Text → ℤ
carried b m c = leftover b c m -ℤ (b.budgeted c m +ℤ b.category_sum c m)

-- the months before month m that are at most n before it, from January 1970 on
abbrev pub latest : ℕ → ℕ → List ℕ
latest m n = filter (λ k. nat_le m (k + n)) (range_with_len 0 m)

-- what was spent in them, nothing where as much or more came in
abbrev pub spent : Budget → ℕ → Text → ℕ → ℤ
spent b m c n = int_max (pos 0) (neg_ℤ (total (λ k. b.category_sum c k) (latest m n)))

-- the fewest cents that, given in each of so many months, bring what there is to an amount
pub record AreFewest (limit has : ℤ) (months : ℕ) (want : ℤ) : Type 0 where
  pub cents : ℕ
  pub value : want ≡ pos cents
  pub enough : limit ≤ℤ (has +ℤ pos (cents * months))
  pub fewest : (fewer : ℕ) → limit ≤ℤ (has +ℤ pos (fewer * months)) → cents ≤ fewer

-- the most cents, up to the greatest number of a value, that so many times are no more than an amount
pub record AreMost (amount : ℤ) (times : ℕ) (want : ℤ) : Type 0 where
  pub cents : ℕ
  pub value : want ≡ pos cents
  pub held : cents ≤ largest_number
  pub within : pos (cents * times) ≤ℤ amount
  pub most : (more : ℕ) → more ≤ largest_number → pos (more * times) ≤ℤ amount → more ≤ cents

-- what templates of a category want in month m, where it has so much
pub record AreWants (b : Budget) (m : ℕ) (c : Text) (has : ℤ) (wants : TemplateBody → ℤ) : Type 0 where
  pub amount : (z : ℤ) → wants (Amount z) ≡ z
  -- with what it wants the category has the limit, or what it has where that is more
  pub up_to : (limit : ℤ) → has +ℤ wants (UpTo limit) ≡ int_max limit has
  pub capped : (z limit : ℤ) → wants (AmountUpTo z limit) ≡ int_min z (wants (UpTo limit))
  -- the month that is due comes so many months later: so there are as many to be given in, and this one
  pub due : (z : ℤ) (month later : ℕ) → m + later ≡ month_number month → AreFewest z has (later + 1) (wants (By z month))
  pub past : (z : ℤ) (month : ℕ) → month_number month < m → wants (By z month) ≡ pos 0
  pub average : (n : ℕ) → 1 ≤ n → AreMost (spent b m c n) n (wants (Average n))
  -- what month k gave, nothing where it gave less than nothing, and where there is no such month
  pub copied : (n k : ℕ) → k + n ≡ m → wants (CopyFrom n) ≡ int_max (pos 0) (b.budgeted c k)
  pub too_early : (n : ℕ) → m < n → wants (CopyFrom n) ≡ pos 0

-- a category has what comes from the month before, and what it got by earlier templates; the priority doesn't matter
abbrev pub WantsAreTold : Type 0
WantsAreTold = (b : Budget) (m : ℕ) (c : Text) (got : ℤ) (priority : ℕ)
    → AreWants b m c (carried b m c +ℤ got) (λ (body : TemplateBody). want_of b m c (record { priority = priority; body = body }) got)
