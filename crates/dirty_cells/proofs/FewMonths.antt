-- No month is marked before the first that is touched.
use Rattle.std.proofs.Common.{◌≡◌, ℕ, ◌≤◌, Bool, true, false, List, [], ◌∷◌, ◌++◌, map, min, Option, Some, None, refl, ap, sym, arith, subst, if◌then◌else◌}
use Rattle.std.specs.List.{AllByRecursion}
use Rattle.finite_sums.specs.Maps.{Text, text_cmp, is_among, some_and}
use Rattle.book_rows.specs.declared.rows.Rows.{Rows}
use Rattle.book_rows.specs.declared.column.Dataset.{Dataset}
use Rattle.book_rows.specs.declared.column.Dataset.TheVariants.{ZeroBudgets, ZeroBudgetMonths}
use Rattle.book_rows.specs.Months.{budget_month, month_row_month}
use Rattle.dirty_cells.specs.Changes.{Change, AreDifferent, with_fields}
use Rattle.dirty_cells.specs.Marking.{set_in, month_in, month_by, month_at_tx, is_rearranged, number_of, earlier, earliest}
use Rattle.dirty_cells.specs.Bound.{same_dataset, changed, touched_txs, touched_months, first_touched}
use Rattle.dirty_cells.specs.Followed.{Follows}
use Rattle.dirty_cells.specs.declared.marks.Marked.{Marked}
use Rattle.dirty_cells.proofs.Gathered.{all_among, all_map}
use Rattle.dirty_cells.proofs.Few.{IsChanged, all_changed, all_of}
use Rattle.dirty_cells.proofs.Following.{earliest_low}

-- a month, if it is one, is not before a number
abbrev IsFrom : ℕ → Option ℕ → Type 0
IsFrom z o = (k : ℕ) → o ≡ Some k → z ≤ number_of k

-- what is not after any of some months is not after the first of them
lower : (z n : ℕ) (os : List (Option ℕ)) → z ≤ n → AllByRecursion (IsFrom z) os → z ≤ earliest n os
lower z n [] h all = h
lower z n (None ∷ os) h all = lower z n os h all.1
lower z n (Some k ∷ os) h all = lower z (min n (number_of k)) os (omega (arith, h, all.0 k refl)) all.1

-- the first of some months is not after any of them
first_low : (n : ℕ) (os : List (Option ℕ)) → AllByRecursion (IsFrom (earliest n os)) os
first_low n [] = tt
first_low n (o ∷ os) = ((λ k e. omega (arith, earliest_low (earlier n o) os, here k e)), first_low (earlier n o) os)
  where
    here : (k : ℕ) → o ≡ Some k → earlier n o ≤ number_of k
    here k e = subst (λ z. z ≤ number_of k) (sym (ap (earlier n) e)) (omega arith)

all_front : {X : Type 0} (P : X → Type 0) (xs ys : List X) → AllByRecursion P (xs ++ ys) → AllByRecursion P xs
all_front P [] ys h = tt
all_front P (x ∷ xs) ys h = (h.0, all_front P xs ys h.1)

all_back : {X : Type 0} (P : X → Type 0) (xs ys : List X) → AllByRecursion P (xs ++ ys) → AllByRecursion P ys
all_back P [] ys h = h
all_back P (x ∷ xs) ys h = all_back P xs ys h.1

of_map : {X Y : Type 0} (P : Y → Type 0) (f : X → Y) (xs : List X) → AllByRecursion P (map f xs) → AllByRecursion (λ x. P (f x)) xs
of_map P f [] h = tt
of_map P f (x ∷ xs) h = (h.0, of_map P f xs h.1)

to_map : {X Y : Type 0} (P : Y → Type 0) (f : X → Y) (xs : List X) → AllByRecursion (λ x. P (f x)) xs → AllByRecursion P (map f xs)
to_map P f [] h = tt
to_map P f (x ∷ xs) h = (h.0, to_map P f xs h.1)

no_some : {P : Type 0} (m : ℕ) → None ≡ Some m → P
no_some m h = absurd (cc)

module _ (r : Rows) (cs : List Change) (m : Marked) (f : Follows r cs m) (d : AreDifferent cs) where
  abbrev s : Rows
  s = with_fields r cs

  abbrev first : ℕ
  first = earliest 2760 (touched_months r s cs)

  abbrev olds : List (Option ℕ)
  olds = map (month_at_tx r) (touched_txs r s cs)

  abbrev news : List (Option ℕ)
  news = map (month_at_tx s) (touched_txs r s cs)

  abbrev by_budgets : List (Option ℕ)
  by_budgets = map budget_month (changed ZeroBudgets cs)

  abbrev by_months : List (Option ℕ)
  by_months = map month_row_month (changed ZeroBudgetMonths cs)

  abbrev of_txs : List (Option ℕ)
  of_txs = olds ++ news

  all : AllByRecursion (IsFrom first) ((of_txs ++ by_budgets) ++ by_months)
  all = first_low 2760 (touched_months r s cs)

  but_months : AllByRecursion (IsFrom first) (of_txs ++ by_budgets)
  but_months = all_front (IsFrom first) (of_txs ++ by_budgets) by_months all

  all_txs : AllByRecursion (IsFrom first) of_txs
  all_txs = all_front (IsFrom first) of_txs by_budgets but_months

  old_month : (q : Text) → is_among text_cmp f.ids q ≡ true → IsFrom first (month_at_tx r q)
  old_month q i = all_among (λ q. IsFrom first (month_at_tx r q)) (touched_txs r s cs) q
      (of_map (IsFrom first) (month_at_tx r) (touched_txs r s cs) (all_front (IsFrom first) olds news all_txs)) ((f.within d).each q i)

  new_month : (q : Text) → is_among text_cmp f.ids q ≡ true → IsFrom first (month_at_tx s q)
  new_month q i = all_among (λ q. IsFrom first (month_at_tx s q)) (touched_txs r s cs) q
      (of_map (IsFrom first) (month_at_tx s) (touched_txs r s cs) (all_back (IsFrom first) olds news all_txs)) ((f.within d).each q i)

  row_month : (c : Change) → IsChanged cs c → (o : Option Dataset) → set_in c ≡ o → IsFrom first (month_in o c.0.row)
  row_month c h None e = λ k p. no_some k p
  row_month c h (Some ZeroBudgets) e = all_among (λ q. IsFrom first (budget_month q)) (changed ZeroBudgets cs) c.0.row
      (of_map (IsFrom first) budget_month (changed ZeroBudgets cs) (all_back (IsFrom first) of_txs by_budgets but_months)) (h ZeroBudgets (ap (some_and (same_dataset ZeroBudgets)) e))
  row_month c h (Some ZeroBudgetMonths) e = all_among (λ q. IsFrom first (month_row_month q)) (changed ZeroBudgetMonths cs) c.0.row
      (of_map (IsFrom first) month_row_month (changed ZeroBudgetMonths cs) (all_back (IsFrom first) (of_txs ++ by_budgets) by_months all)) (h ZeroBudgetMonths (ap (some_and (same_dataset ZeroBudgetMonths)) e))
  row_month c h (Some other) e = λ k p. no_some k p

  late : first ≤ earliest (earliest (earliest 2760 (map month_by cs)) (map (month_at_tx r) f.ids)) (map (month_at_tx s) f.ids)
  late =
      let one = lower first 2760 (map month_by cs) (earliest_low 2760 (touched_months r s cs))
      (to_map (IsFrom first) month_by cs (all_map (IsChanged cs) (λ c. IsFrom first (month_by c)) cs (λ c h. row_month c h (set_in c) refl) (all_changed cs))) in
      let two = lower first (earliest 2760 (map month_by cs)) (map (month_at_tx r) f.ids) one (to_map (IsFrom first) (month_at_tx r) f.ids (all_of (λ q. IsFrom first (month_at_tx r q)) f.ids old_month)) in
      lower first (earliest (earliest 2760 (map month_by cs)) (map (month_at_tx r) f.ids)) (map (month_at_tx s) f.ids) two (to_map (IsFrom first) (month_at_tx s) f.ids (all_of (λ q. IsFrom first (month_at_tx s q)) f.ids new_month))

  abbrev first_marked : ℕ
  first_marked = earliest (earliest (earliest 2760 (map month_by cs)) (map (month_at_tx r) f.ids)) (map (month_at_tx s) f.ids)

  pub few_months : first_touched r s cs ≤ m.from
  few_months = subst (λ n. first_touched r s cs ≤ n) (sym f.followed.from) (by (is_rearranged cs))
    where
      by : (b : Bool) → (if b then 0 else first) ≤ (if b then 0 else first_marked)
      by true = omega arith
      by false = late
