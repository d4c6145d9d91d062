-- What a category is given month by month, with what another one was given.
use Rattle.std.proofs.Common.{◌≡◌, ℕ, ◌+◌, ◌≤◌, ◌<◌, zero, suc, Bool, true, false, cond, List, [], ◌∷◌, filter, Option, None, Some, refl, ap, ap₂, sym, ◌∙◌, arith}
use Rattle.std.specs.Prelude.{◌≢◌, ◌+ℤ◌, ◌==◌, ◌&&◌, ◌||◌, not, is_some, unwrap_or, map as list_map, flat_map, if◌then◌else◌, codes}
use lib.IntN.{ℤ, pos}
use Rattle.std.specs.List.{AllByRecursion, range_with_len, list_any}
use Rattle.std.specs.List.Sorted.{IsStrictlySortedBy}
use Rattle.std.specs.Cmp.{nat_cmp_is}
use Rattle.std.specs.declared.cmp.Ordering.TheVariants.{Less}
use Rattle.std.specs.Ordering.{int_eq, nat_cmp}
use Rattle.std.specs.FinMap.{get, insert, get-insert}
use Rattle.std.proofs.lemmas.Int.{ints}
use Rattle.std.proofs.lemmas.Bool.{eqb-true, eq-eqb}
use Rattle.std.proofs.lemmas.Bool.Decides.{Decides-int_eq}
use Rattle.field_values.specs.declared.value.Value.TheVariants.{Number}
use Rattle.finite_sums.specs.Maps.{Text, Texts, some_and, value_or_zero}
use Rattle.finite_sums.proofs.Texts.{text_total}
use Rattle.book_rows.specs.declared.column.Column.TheVariants as of
use Rattle.book_rows.specs.declared.rows.Rows.{Rows}
use Rattle.book_rows.specs.declared.rows.BudgetRow.{BudgetRow}
use Rattle.book_rows.specs.Ids.{budget_id}
use Rattle.book_rows.specs.Live.{is_income_category}
use Rattle.book_rows.specs.Months.{is_month, budget_month}
use Rattle.book_rows.proofs.MonthIds.{budget_month_back}
use Rattle.book_edits.specs.declared.gains.Gain.{Gain}
use Rattle.book_edits.specs.Checks.{same_id}
use Rattle.book_edits.specs.Budgets.{budgeted, column_writes}
use Rattle.book_edits.specs.Mappings.{calendar, is_given, given_months, month_gain, gains, gain_writes}
use Rattle.book_edits.proofs.Months.{year_of}
use Rattle.split_transfer.specs.After.{Ids, with_writes}
use Rattle.split_transfer.proofs.After.{with_writes-append}
use Rattle.split_transfer.proofs.Basics.{same_refl, same_is, not_same, bool_cases, true_false, both_true, some_is, either}
use Rattle.book_laws.specs.HandingOn.{GainsAreTold}
use Rattle.book_laws.specs.Leaving.{new_budget, budget_row}
use Rattle.book_laws.proofs.NoMore.{budget_cell}

-- ---- rising numbers, of which a test lets pass some

abbrev Above : ℕ → List ℕ → Type 0
Above a [] = Unit {0}
Above a (m ∷ ms) = (a ≤ m) × Above (m + 1) ms

lower : (a b : ℕ) (ms : List ℕ) → b ≤ a → Above a ms → Above b ms
lower a b [] h up = tt
lower a b (m ∷ ms) h up = let from : a ≤ m = up.0 in (omega (arith, h, from), up.1)

-- one of the numbers is this one
abbrev has : List ℕ → ℕ → Bool
has [] n = false
has (m ∷ ms) n = (n == m) || has ms n

not_it : (n m : ℕ) → (n ≡ m → ⊥) → (n == m) ≡ false
not_it n m h = bool_cases (n == m) (λ t. absurd (h (eqb-true n m t))) (λ f. f)

none_below : (a n : ℕ) (ms : List ℕ) → n < a → Above a ms → has ms n ≡ false
none_below a n [] h up = refl
none_below a n (m ∷ ms) h up =
    let from : a ≤ m = up.0 in
    ap (λ b. b || has ms n) (not_it n m (λ e. omega (arith, h, from, e))) ∙ none_below (m + 1) n ms (omega (arith, h, from)) up.1

-- all stand in order
all_less : (m a : ℕ) (ms : List ℕ) → m < a → Above a ms → AllByRecursion (λ y. nat_cmp m y ≡ Less) ms
all_less m a [] h up = tt
all_less m a (n ∷ ms) h up =
    let from : a ≤ n = up.0 in
    (sym (nat_cmp_is m n Less (omega (arith, h, from))), all_less m (n + 1) ms (omega (arith, h, from)) up.1)

sorted : (a : ℕ) (ms : List ℕ) → Above a ms → IsStrictlySortedBy nat_cmp ms
unfolding IsStrictlySortedBy
sorted a [] up = tt
sorted a (m ∷ ms) up = (all_less m (m + 1) ms (omega arith) up.1, sorted (m + 1) ms up.1)

-- what holds of all holds of this one
of_those : (p : ℕ → Bool) (n : ℕ) (ms : List ℕ) → AllByRecursion (λ m. p m ≡ true) ms → has ms n ≡ true → p n ≡ true
of_those p n [] all h = true_false false h refl
of_those p n (m ∷ ms) all h = either (n == m) (has ms n) h (λ t. ap p (eqb-true n m t) ∙ all.0) (λ t. of_those p n ms all.1 t)

module _ (p : ℕ → Bool) where
  rising : (a n : ℕ) → Above a (filter p (range_with_len a n))
  rising a zero = tt
  rising a (suc n) = elim (p a) as (λ b. Above a (cond b (a ∷ filter p (range_with_len (a + 1) n)) (filter p (range_with_len (a + 1) n)))) [
    | true ↦ (omega arith, rising (a + 1) n)
    | false ↦ lower (a + 1) a (filter p (range_with_len (a + 1) n)) (omega arith) (rising (a + 1) n)
  ]

  passing : (a n : ℕ) → AllByRecursion (λ m. p m ≡ true) (filter p (range_with_len a n))
  passing a zero = tt
  passing a (suc n) = by (passing (a + 1) n) (p a) refl
    where
      rest : List ℕ
      rest = filter p (range_with_len (a + 1) n)

      by : AllByRecursion (λ m. p m ≡ true) rest → (b : Bool) → p a ≡ b → AllByRecursion (λ m. p m ≡ true) (cond b (a ∷ rest) rest)
      by h true e = (e, h)
      by h false e = h

  has_first : (a m : ℕ) (rest : List ℕ) → Above (a + 1) rest → (m == a) ≡ true → has (cond (p a) (a ∷ rest) rest) m ≡ p m
  has_first a m rest up t = by (p a) refl
    where
      by : (b : Bool) → p a ≡ b → has (cond b (a ∷ rest) rest) m ≡ p m
      by true e = ap (λ c. c || has rest m) t ∙ sym e ∙ ap p (sym (eqb-true m a t))
      by false e = let same : m ≡ a = eqb-true m a t in none_below (a + 1) m rest (omega (arith, same)) up ∙ sym e ∙ ap p (sym same)

  has_later : (a m : ℕ) (rest : List ℕ) → has rest m ≡ p m → (m == a) ≡ false → has (cond (p a) (a ∷ rest) rest) m ≡ p m
  has_later a m rest h f = by (p a)
    where
      by : (b : Bool) → has (cond b (a ∷ rest) rest) m ≡ p m
      by true = ap (λ c. c || has rest m) f ∙ h
      by false = h

  has-filter : (a n m : ℕ) → a ≤ m → m < a + n → has (filter p (range_with_len a n)) m ≡ p m
  has-filter a zero m low high = absurd (omega (arith, low, high))
  has-filter a (suc n) m low high = bool_cases (m == a)
      (has_first a m (filter p (range_with_len (a + 1) n)) (rising (a + 1) n))
      (λ f.
      let apart : m ≡ a → ⊥ = λ e. true_false (m == a) (eq-eqb m a e) f in
      has_later a m (filter p (range_with_len (a + 1) n)) (has-filter (a + 1) n m (omega (arith, low, apart)) (omega (arith, high))) f)

-- the calendar, whose numbers aren't counted out
counted : (s k : ℕ) → s ≡ 197001 → k ≡ 22912 → calendar ≡ range_with_len s k
unfolding calendar
counted s k e f = ap₂ range_with_len (sym e) (sym f)

-- ---- the months in which a category is given something

module _ (rows : Rows) (id : Text) where
  months_rise : Above 0 (given_months rows id)
  months_rise = from 197001 22912 refl refl
    where
      from : (s k : ℕ) → s ≡ 197001 → k ≡ 22912 → Above 0 (given_months rows id)
      from s k e f = rw (counted s k e f) (lower s 0 (filter (is_given rows id) (range_with_len s k)) (omega arith) (rising (is_given rows id) s k))

  are_given : AllByRecursion (λ m. is_given rows id m ≡ true) (given_months rows id)
  are_given = from 197001 22912 refl refl
    where
      from : (s k : ℕ) → s ≡ 197001 → k ≡ 22912 → AllByRecursion (λ m. is_given rows id m ≡ true) (given_months rows id)
      from s k e f = rw (counted s k e f) (passing (is_given rows id) s k)

  -- in a month that counts something is given
  some_given : (m : ℕ) → is_given rows id m ≡ true → (is_month m ≡ true) × (budgeted rows id m ≢ pos 0)
  some_given m h =
      let parts = both_true (is_month m) (not (int_eq (budgeted rows id m) (pos 0))) h in
      (parts.0, λ e. true_false (not (int_eq (budgeted rows id m) (pos 0))) parts.1 (ap not ((Decides-int_eq (budgeted rows id m) (pos 0)).1 e)))

  given_some : (m : ℕ) → is_month m ≡ true → budgeted rows id m ≢ pos 0 → is_given rows id m ≡ true
  given_some m h some =
      ap (λ b. b && not (int_eq (budgeted rows id m) (pos 0))) h
      ∙ ap not (bool_cases (int_eq (budgeted rows id m) (pos 0)) (λ t. absurd (some ((Decides-int_eq (budgeted rows id m) (pos 0)).0 t))) (λ f. f))

  firsts : (ms : List ℕ) → AllByRecursion (λ m. is_given rows id m ≡ true) ms → AllByRecursion (λ m. is_month m ≡ true) ms
  firsts [] h = tt
  firsts (m ∷ ms) h = ((some_given m h.0).0, firsts ms h.1)

  are_months : AllByRecursion (λ m. is_month m ≡ true) (given_months rows id)
  are_months = firsts (given_months rows id) are_given

  has_given : (m : ℕ) → is_month m ≡ true → has (given_months rows id) m ≡ is_given rows id m
  has_given m h = from 197001 22912 refl refl
    where
      from : (s k : ℕ) → s ≡ 197001 → k ≡ 22912 → has (given_months rows id) m ≡ is_given rows id m
      from s k e f =
          let y = year_of m h in
          let low : 197001 ≤ m = y.0 in
          let high : m ≤ 219912 = y.1 in
          rw (counted s k e f) (has-filter (is_given rows id) s k m (omega (arith, low, e)) (omega (arith, high, e, f)))

-- ---- rows of months

module _ (to : Text) where
  months_apart : (m n : ℕ) → is_month m ≡ true → is_month n ≡ true → (n ≡ m → ⊥) → same_id (budget_id to n) (budget_id to m) ≡ false
  months_apart m n a b h =
      not_same (budget_id to n) (budget_id to m) (λ e. h (some_is n m (sym (budget_month_back to n b) ∙ ap budget_month e ∙ budget_month_back to m a)))

module _ (rows : Rows) (to : Text) where
  abbrev with_gain : Gain → BudgetRow
  with_gain g = record (budget_row rows to g.month) { amount = g.amount }

  abbrev pub gained : List Gain → Texts BudgetRow → Texts BudgetRow
  gained [] m = m
  gained (g ∷ gs) m = gained gs (insert m (budget_id to g.month) (with_gain g))

  abbrev AreApart : List Gain → Type 0
  AreApart [] = Unit {0}
  AreApart (g ∷ gs) = AllByRecursion (λ (h : Gain). same_id (budget_id to h.month) (budget_id to g.month) ≡ false) gs × AreApart gs

  -- the rows of these months are those of the book
  abbrev AreThere : Texts BudgetRow → List Gain → Type 0
  AreThere m gs = AllByRecursion (λ (g : Gain). get m (budget_id to g.month) ≡ get rows.budgets (budget_id to g.month)) gs

  still_there : (m : Texts BudgetRow) (g : Gain) (gs : List Gain) → AllByRecursion (λ (h : Gain). same_id (budget_id to h.month) (budget_id to g.month) ≡ false) gs → AreThere m gs → AreThere (insert m (budget_id to g.month) (with_gain g)) gs
  still_there m g [] apart same = tt
  still_there m g (h ∷ hs) apart same = (
    get-insert text_total m (budget_id to g.month) (with_gain g) (budget_id to h.month) ∙ ap (λ b. cond b (Some (with_gain g)) (get m (budget_id to h.month))) apart.0 ∙ same.0,
    still_there m g hs apart.1 same.1,
  )

  module _ (ids : Ids) where
    one_written : (g : Gain) (s : Rows) → get s.budgets (budget_id to g.month) ≡ get rows.budgets (budget_id to g.month)
        → with_writes ids s (gain_writes rows to g) ≡ record s { budgets = insert s.budgets (budget_id to g.month) (with_gain g) }
    one_written g s same =
        let k = budget_id to g.month in
        ap (λ (o : Option BudgetRow). with_writes ids s (column_writes (is_some o) (codes "zero_budgets") to g.month (codes "amount") (Number g.amount))) (sym same)
        ∙ budget_cell ids s to g.month of.Amount (Number g.amount) refl
        ∙ ap (λ (o : Option BudgetRow). record s { budgets = insert s.budgets k (record (unwrap_or o (new_budget to g.month)) { amount = g.amount }) }) same

    pub gains_written : (gs : List Gain) (s : Rows) → AreApart gs → AreThere s.budgets gs → with_writes ids s (flat_map (gain_writes rows to) gs) ≡ record s { budgets = gained gs s.budgets }
    gains_written [] s apart same = refl
    gains_written (g ∷ gs) s apart same =
        let t : Rows = record s { budgets = insert s.budgets (budget_id to g.month) (with_gain g) } in
        with_writes-append ids s (gain_writes rows to g) (flat_map (gain_writes rows to) gs)
        ∙ ap (λ (x : Rows). with_writes ids x (flat_map (gain_writes rows to) gs)) (one_written g s same.0)
        ∙ gains_written gs t apart.1 (still_there s.budgets g gs apart.0 same.1)

  pub all_there : (gs : List Gain) → AreThere rows.budgets gs
  all_there [] = tt
  all_there (g ∷ gs) = (refl, all_there gs)

  -- whatever the months are, no other row changes, and nothing else of these
  gained_other : (gs : List Gain) (m : Texts BudgetRow) (q : Text) → AllByRecursion (λ (g : Gain). q ≢ budget_id to g.month) gs → get (gained gs m) q ≡ get m q
  gained_other [] m q h = refl
  gained_other (g ∷ gs) m q h =
      gained_other gs (insert m (budget_id to g.month) (with_gain g)) q h.1
      ∙ get-insert text_total m (budget_id to g.month) (with_gain g) q
      ∙ ap (λ b. cond b (Some (with_gain g)) (get m q)) (not_same q (budget_id to g.month) h.0)

  abbrev carry : Option BudgetRow → Bool
  carry o = some_and (λ b. b.carryover) o

  carry_row : (o : Option BudgetRow) (month : ℕ) → (unwrap_or o (new_budget to month)).carryover ≡ carry o
  carry_row None month = refl
  carry_row (Some b) month = refl

  pub gained_carries : (gs : List Gain) (m : Texts BudgetRow) → ((q : Text) → carry (get m q) ≡ carry (get rows.budgets q)) → (q : Text) → carry (get (gained gs m) q) ≡ carry (get rows.budgets q)
  gained_carries [] m h q = h q
  gained_carries (g ∷ gs) m h q = gained_carries gs (insert m (budget_id to g.month) (with_gain g)) next q
    where
      by : (q : Text) (b : Bool) → same_id q (budget_id to g.month) ≡ b → carry (cond b (Some (with_gain g)) (get m q)) ≡ carry (get rows.budgets q)
      by q true e = carry_row (get rows.budgets (budget_id to g.month)) g.month ∙ ap (λ t. carry (get rows.budgets t)) (sym (same_is q (budget_id to g.month) e))
      by q false e = h q

      next : (q : Text) → carry (get (insert m (budget_id to g.month) (with_gain g)) q) ≡ carry (get rows.budgets q)
      next q = ap carry (get-insert text_total m (budget_id to g.month) (with_gain g) q) ∙ by q (same_id q (budget_id to g.month)) refl

  -- ---- what is gained from another category

  module _ (id : Text) where
    abbrev gain : ℕ → Gain
    gain = month_gain rows id to

    -- the row of a month then
    abbrev pub both_row : ℕ → BudgetRow
    both_row month = record (budget_row rows to month) { amount = budgeted rows to month +ℤ budgeted rows id month }

    others_apart : (ms : List ℕ) (a m : ℕ) → Above a ms → m < a → is_month m ≡ true → AllByRecursion (λ n. is_month n ≡ true) ms
        → AllByRecursion (λ (g : Gain). same_id (budget_id to g.month) (budget_id to m) ≡ false) (list_map gain ms)
    others_apart [] a m up h is all = tt
    others_apart (n ∷ ms) a m up h is all =
        let from : a ≤ n = up.0 in
        (months_apart to m n is all.0 (λ e. omega (arith, from, h, e)), others_apart ms (n + 1) m up.1 (omega (arith, from, h)) is all.1)

    apart : (ms : List ℕ) (a : ℕ) → Above a ms → AllByRecursion (λ n. is_month n ≡ true) ms → AreApart (list_map gain ms)
    apart [] a up all = tt
    apart (m ∷ ms) a up all = (others_apart ms (m + 1) m up.1 (omega arith) all.0 all.1, apart ms (m + 1) up.1 all.1)

    pub gains_apart : AreApart (gains rows id to)
    gains_apart = elim (is_income_category rows id) as (λ b. AreApart (if b then [] else list_map gain (given_months rows id))) [
      | true ↦ tt
      | false ↦ apart (given_months rows id) 0 (months_rise rows id) (are_months rows id)
    ]

    get-gained : (ms : List ℕ) (m : Texts BudgetRow) (month : ℕ) → is_month month ≡ true → AllByRecursion (λ n. is_month n ≡ true) ms
        → get (gained (list_map gain ms) m) (budget_id to month) ≡ cond (has ms month) (Some (both_row month)) (get m (budget_id to month))
    get-gained [] m month is all = refl
    get-gained (n ∷ ms) m month is all =
        get-gained ms (insert m (budget_id to n) (both_row n)) month is all.1
        ∙ ap (cond (has ms month) (Some (both_row month))) (get-insert text_total m (budget_id to n) (both_row n) (budget_id to month))
        ∙ by (month == n) refl (has ms month)
      where
        o : Option BudgetRow
        o = get m (budget_id to month)

        by : (e : Bool) → (month == n) ≡ e → (h : Bool)
            → cond h (Some (both_row month)) (cond (same_id (budget_id to month) (budget_id to n)) (Some (both_row n)) o) ≡ cond (e || h) (Some (both_row month)) o
        by true e true = refl
        by true e false =
            let same : month ≡ n = eqb-true month n e in
            ap (λ k. cond k (Some (both_row n)) o) (ap (λ t. same_id (budget_id to month) (budget_id to t)) (sym same) ∙ same_refl (budget_id to month)) ∙ ap (λ t. Some (both_row t)) (sym same)
        by false e h =
            ap (λ k. cond h (Some (both_row month)) (cond k (Some (both_row n)) o)) (months_apart to n month all.0 is (λ t. true_false (month == n) (eq-eqb month n t) e))

    -- a row that is of none of these months
    abbrev OfNone : Text → Type 0
    OfNone q = (month : ℕ) → is_month month ≡ true → budgeted rows id month ≢ pos 0 → q ≢ budget_id to month

    of_none : (q : Text) → OfNone q → (ms : List ℕ) → AllByRecursion (λ m. is_given rows id m ≡ true) ms → AllByRecursion (λ (g : Gain). q ≢ budget_id to g.month) (list_map gain ms)
    of_none q h [] all = tt
    of_none q h (m ∷ ms) all = (h m (some_given rows id m all.0).0 (some_given rows id m all.0).1, of_none q h ms all.1)

    pub other_row : (q : Text) → OfNone q → get (gained (gains rows id to) rows.budgets) q ≡ get rows.budgets q
    other_row q h = gained_other (gains rows id to) rows.budgets q (elim (is_income_category rows id) as (λ b. AllByRecursion (λ (g : Gain). q ≢ budget_id to g.month) (if b then [] else list_map gain (given_months rows id))) [
      | true ↦ tt
      | false ↦ of_none q h (given_months rows id) (are_given rows id)
    ])

    -- ---- which months these are

    back : (ms : List ℕ) → list_map (λ (g : Gain). g.month) (list_map gain ms) ≡ ms
    back [] = refl
    back (m ∷ ms) = ap (λ (ns : List ℕ). m ∷ ns) (back ms)

    rise : IsStrictlySortedBy nat_cmp (list_map (λ (g : Gain). g.month) (gains rows id to))
    rise = elim (is_income_category rows id) as (λ b. IsStrictlySortedBy nat_cmp (list_map (λ (g : Gain). g.month) (if b then [] else list_map gain (given_months rows id)))) [
      | true ↦ sorted 0 [] tt
      | false ↦ rw (back (given_months rows id)) (sorted 0 (given_months rows id) (months_rise rows id))
    ]

    any_month : (month : ℕ) (ms : List ℕ) → list_any (λ (g : Gain). month == g.month) (list_map gain ms) ≡ has ms month
    any_month month [] = refl
    any_month month (m ∷ ms) = ap (λ b. (month == m) || b) (any_month month ms)

    gained_in : (month : ℕ) → list_any (λ (g : Gain). month == g.month) (gains rows id to) ≡ true → (is_income_category rows id ≡ false) × (is_month month ≡ true) × (budgeted rows id month ≢ pos 0)
    gained_in month = by (is_income_category rows id)
      where
        by : (b : Bool) → list_any (λ (g : Gain). month == g.month) (if b then [] else list_map gain (given_months rows id)) ≡ true → (b ≡ false) × (is_month month ≡ true) × (budgeted rows id month ≢ pos 0)
        by true h = true_false false h refl
        by false h =
            let given = some_given rows id month (of_those (is_given rows id) month (given_months rows id) (are_given rows id) (sym (any_month month (given_months rows id)) ∙ h)) in
            (refl, given.0, given.1)

    in_gained : (month : ℕ) → (is_income_category rows id ≡ false) × (is_month month ≡ true) × (budgeted rows id month ≢ pos 0) → list_any (λ (g : Gain). month == g.month) (gains rows id to) ≡ true
    in_gained month h =
        ap (λ b. list_any (λ (g : Gain). month == g.month) (if b then [] else list_map gain (given_months rows id))) h.0
        ∙ any_month month (given_months rows id) ∙ has_given rows id month h.1 ∙ given_some rows id month h.1 h.2

    amounts_are : (ms : List ℕ) → AllByRecursion (λ (g : Gain). g.amount ≡ budgeted rows to g.month +ℤ budgeted rows id g.month) (list_map gain ms)
    amounts_are [] = tt
    amounts_are (m ∷ ms) = (refl, amounts_are ms)

    told : GainsAreTold rows id to
    told = record {
      rise = rise;
      months = λ month. (gained_in month, in_gained month);
      amounts = elim (is_income_category rows id) as (λ b. AllByRecursion (λ (g : Gain). g.amount ≡ budgeted rows to g.month +ℤ budgeted rows id g.month) (if b then [] else list_map gain (given_months rows id))) [
        | true ↦ tt
        | false ↦ amounts_are (given_months rows id)
      ];
    }

    -- what an expense category hands on
    module _ (spends : is_income_category rows id ≡ false) (month : ℕ) (is : is_month month ≡ true) where
      gains_are : gains rows id to ≡ list_map gain (given_months rows id)
      gains_are = ap (λ b. if b then [] else list_map gain (given_months rows id)) spends

      found : get (gained (gains rows id to) rows.budgets) (budget_id to month) ≡ cond (not (int_eq (budgeted rows id month) (pos 0))) (Some (both_row month)) (get rows.budgets (budget_id to month))
      found =
          ap (λ gs. get (gained gs rows.budgets) (budget_id to month)) gains_are
          ∙ get-gained (given_months rows id) rows.budgets month is (are_months rows id)
          ∙ ap (λ b. cond b (Some (both_row month)) (get rows.budgets (budget_id to month))) (has_given rows id month is ∙ ap (λ b. b && not (int_eq (budgeted rows id month) (pos 0))) is)

      pub row_gained : budgeted rows id month ≢ pos 0 → get (gained (gains rows id to) rows.budgets) (budget_id to month) ≡ Some (both_row month)
      row_gained some =
          found ∙ ap (λ b. cond (not b) (Some (both_row month)) (get rows.budgets (budget_id to month)))
          (bool_cases (int_eq (budgeted rows id month) (pos 0)) (λ t. absurd (some ((Decides-int_eq (budgeted rows id month) (pos 0)).0 t))) (λ f. f))

      pub amount_gained : value_or_zero (λ (b : BudgetRow). b.amount) (get (gained (gains rows id to) rows.budgets) (budget_id to month)) ≡ budgeted rows to month +ℤ budgeted rows id month
      amount_gained = ap (value_or_zero (λ (b : BudgetRow). b.amount)) found ∙ bool_cases (int_eq (budgeted rows id month) (pos 0))
          (λ t.
          let none : budgeted rows id month ≡ pos 0 = (Decides-int_eq (budgeted rows id month) (pos 0)).0 t in
          ap (λ b. value_or_zero (λ (b : BudgetRow). b.amount) (cond (not b) (Some (both_row month)) (get rows.budgets (budget_id to month)))) t ∙ plus_none (budgeted rows to month) (budgeted rows id month) none)
          (λ f. ap (λ b. value_or_zero (λ (b : BudgetRow). b.amount) (cond (not b) (Some (both_row month)) (get rows.budgets (budget_id to month)))) f)
        where
          plus_none : (a b : ℤ) → b ≡ pos 0 → a ≡ a +ℤ b
          plus_none a b h = omega (arith, ints, h)

pub gains_told : (rows : Rows) (id to : Text) → GainsAreTold rows id to
gains_told rows id to = told rows to id
