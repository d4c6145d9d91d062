-- What templates want.
use Rattle.std.proofs.Common.{◌≡◌, ℕ, zero, suc, ◌+◌, ◌-◌, ◌*◌, ◌/◌, ◌%◌, ◌<◌, ◌≤◌, true, cond, [], ◌∷◌, ◌++◌, refl, sym, subst, ap, ◌∙◌, arith, add-one}
use lib.IntN.{ℤ, pos, neg_ℤ, ◌+ℤ◌, ◌-ℤ◌}
use Rattle.std.specs.Prelude.{◌≤ℤ◌, nat_le, unsigned_abs, min}
use Rattle.std.specs.Int.{int_max}
use Rattle.std.specs.List.{filter, range_with_len}
use Rattle.std.proofs.lemmas.Int.{ints, clamps}
use Rattle.std.proofs.lemmas.Bool.{le-leb, lt-leb}
use Rattle.std.proofs.lemmas.Bool.Decides.{nat_tests}
use Rattle.std.proofs.lemmas.Nat.{mul-le, div-add-mod', div_below, le-div, mod_below}
use Rattle.std.proofs.lemmas.List.Elements.{filter-append, filter_agree}
use Rattle.field_values.specs.Value.{largest_number}
use Rattle.finite_sums.specs.Sums.{total}
use Rattle.finite_sums.specs.Maps.{Text}
use Rattle.finite_sums.proofs.Totals.{total-append}
use Rattle.envelope_cells.specs.Budget.{Budget}
use Rattle.envelope_cells.specs.Ids.{month_number}
use Rattle.goal_templates.specs.declared.template.TemplateBody.{TemplateBody}
use Rattle.goal_templates.specs.Wanted.{carry, missing, part_of, latest_sums, average_of, given_ago, due, want_of}
use Rattle.budget_laws.specs.Wanting.{carried, latest, AreFewest, AreMost, AreWants, WantsAreTold}

-- ---- what a category has
rest : (x y z : ℤ) → ((x +ℤ y) +ℤ z) -ℤ (x +ℤ y) ≡ z
rest x y z = omega (arith, ints)

carried_is : (b : Budget) (m : ℕ) (c : Text) → carried b m c ≡ carry b m c
carried_is b m c = rest (b.budgeted c m) (b.category_sum c m) (carry b m c)

filled : (limit has : ℤ) → has +ℤ pos (missing limit has) ≡ int_max limit has
filled limit has = omega (arith, ints, clamps)

-- ---- even parts
reaches : (n more : ℕ) → n ≤ part_of n more * (more + 1)
reaches n more =
    let whole : (n + more) / suc more * suc more + (n + more) % suc more ≡ n + more = div-add-mod' (n + more) (suc more) in
    let less : (n + more) % suc more < suc more = mod_below (n + more) (suc more) (omega arith) in
    let long : n ≤ (n + more) / suc more * suc more = omega (arith, whole, less) in
    subst (λ k. n ≤ (n + more) / suc more * k) (sym (add-one more)) long

least : (n more fewer : ℕ) → n ≤ fewer * (more + 1) → part_of n more ≤ fewer
least n more fewer h =
    let g : n ≤ fewer * suc more = subst (λ k. n ≤ fewer * k) (add-one more) h in
    let less : n + more < suc fewer * suc more = omega (arith, g) in
    let below : (n + more) / suc more < suc fewer = div_below (n + more) (suc more) (suc fewer) (omega arith) less in
    omega (arith, below)

fewest_are : (limit has : ℤ) (more : ℕ) → AreFewest limit has (more + 1) (pos (part_of (missing limit has) more))
fewest_are limit has more = record {
  cents = part_of (missing limit has) more;
  value = refl;
  enough = enough (part_of (missing limit has) more * (more + 1)) (reaches (missing limit has) more);
  fewest = λ fewer h. least (missing limit has) more fewer (short (fewer * (more + 1)) h);
}
  where
    enough : (n : ℕ) → missing limit has ≤ n → limit ≤ℤ (has +ℤ pos n)
    enough n h = omega (arith, ints, clamps)

    short : (n : ℕ) → limit ≤ℤ (has +ℤ pos n) → missing limit has ≤ n
    short n h = omega (arith, ints, clamps)

due_is : (m month : ℕ) (limit has : ℤ) (later : ℕ) → m + later ≡ month_number month → AreFewest limit has (later + 1) (due m month limit has)
due_is m month limit has later e =
    let there : nat_le m (month_number month) ≡ true = le-leb m (month_number month) (omega (arith, e)) in
    let left : month_number month - m ≡ later = omega (arith, e) in
    let is : due m month limit has ≡ pos (part_of (missing limit has) later) =
    ap (λ t. cond t (pos (part_of (missing limit has) (month_number month - m))) (pos 0)) there ∙ ap (λ k. pos (part_of (missing limit has) k)) left in
    subst (AreFewest limit has (later + 1)) (sym is) (fewest_are limit has later)

past_is : (m month : ℕ) (limit has : ℤ) → month_number month < m → due m month limit has ≡ pos 0
past_is m month limit has h = ap (λ t. cond t (pos (part_of (missing limit has) (month_number month - m))) (pos 0)) (lt-leb m (month_number month) h)

-- ---- averages
same_shift : (k j n : ℕ) → nat_le (suc k) (j + suc n) ≡ nat_le k (j + n)
same_shift k j n = grind (arith, nat_tests)

range_last : (a n : ℕ) → range_with_len a (suc n) ≡ range_with_len a n ++ (a + n) ∷ []
range_last a zero = ap (λ (j : ℕ). j ∷ []) (let e : a ≡ a + 0 = omega arith in e)
range_last a (suc n) = ap (λ js. a ∷ js) (range_last (a + 1) n) ∙ ap (λ (j : ℕ). a ∷ (range_with_len (a + 1) n ++ j ∷ [])) (let e : a + 1 + n ≡ a + suc n = omega arith in e)

none_latest : (m k : ℕ) → k ≤ m → filter (λ j. nat_le m (j + 0)) (range_with_len 0 k) ≡ []
none_latest m zero h = refl
none_latest m (suc k) h =
    ap (filter (λ j. nat_le m (j + 0))) (range_last 0 k) ∙ filter-append (λ j. nat_le m (j + 0)) (range_with_len 0 k) ((0 + k) ∷ [])
    ∙ ap (λ js. js ++ cond (nat_le m (0 + k + 0)) ((0 + k) ∷ []) []) (none_latest m k (omega arith))
    ∙ ap (λ t. cond t ((0 + k) ∷ []) []) (lt-leb m (0 + k + 0) (omega arith))

module _ (b : Budget) (c : Text) where
  abbrev sum_in : ℕ → ℤ
  sum_in k = b.category_sum c k

  sums_are : (m n : ℕ) → total sum_in (latest m n) ≡ latest_sums b c m n
  sums_are m zero = ap (total sum_in) (none_latest m m (omega arith))
  sums_are zero (suc n) = refl
  sums_are (suc k) (suc n) =
      let last : filter (λ j. nat_le (suc k) (j + suc n)) (range_with_len 0 (suc k)) ≡ latest k n ++ (0 + k) ∷ [] =
      ap (filter (λ j. nat_le (suc k) (j + suc n))) (range_last 0 k) ∙ filter-append (λ j. nat_le (suc k) (j + suc n)) (range_with_len 0 k) ((0 + k) ∷ [])
      ∙ ap (λ t. filter (λ j. nat_le (suc k) (j + suc n)) (range_with_len 0 k) ++ cond t ((0 + k) ∷ []) []) (le-leb (suc k) (0 + k + suc n) (omega arith))
      ∙ ap (λ js. js ++ (0 + k) ∷ []) (filter_agree (λ j. nat_le (suc k) (j + suc n)) (λ j. nat_le k (j + n)) (λ j. same_shift k j n) (range_with_len 0 k)) in
      let both : total sum_in (latest k n ++ (0 + k) ∷ []) ≡ total sum_in (latest k n) +ℤ (sum_in (0 + k) +ℤ pos 0) = total-append sum_in (latest k n) ((0 + k) ∷ []) in
      let same : sum_in (0 + k) ≡ sum_in k = ap sum_in (let e : 0 + k ≡ k = omega arith in e) in
      let before : total sum_in (latest k n) ≡ latest_sums b c k n = sums_are k n in
      let end : total sum_in (latest k n ++ (0 + k) ∷ []) ≡ sum_in k +ℤ latest_sums b c k n = omega (arith, ints, both, same, before) in
      ap (total sum_in) last ∙ end

no_more : (a u n : ℕ) → a ≤ u / n → a * n ≤ u
no_more a u n h =
    let low : a * n ≤ u / n * n = mul-le a n (u / n) n h (omega arith) in
    let whole : u / n * n + u % n ≡ u = div-add-mod' u n in
    omega (arith, low, whole)

most_are : (sum : ℤ) (n : ℕ) → 1 ≤ n → AreMost (int_max (pos 0) (neg_ℤ sum)) n (pos (average_of sum n))
most_are sum n h = by (unsigned_abs (int_max (pos 0) (neg_ℤ sum))) (let e : int_max (pos 0) (neg_ℤ sum) ≡ pos (unsigned_abs (int_max (pos 0) (neg_ℤ sum))) = omega (arith, ints, clamps) in e)
  where
    by : (u : ℕ) → int_max (pos 0) (neg_ℤ sum) ≡ pos u → AreMost (int_max (pos 0) (neg_ℤ sum)) n (pos (min largest_number (u / n)))
    by u e = subst (λ z. AreMost z n (pos (min largest_number (u / n)))) (sym e) (record {
      cents = min largest_number (u / n);
      value = refl;
      held = omega arith;
      within = up (min largest_number (u / n) * n) (no_more (min largest_number (u / n)) u n (omega arith));
      most = λ more small within. (let long : more ≤ u / n = le-div more u n (omega arith) (down (more * n) within) in omega (arith, small, long));
    })
      where
        up : (a : ℕ) → a ≤ u → pos a ≤ℤ pos u
        up a h = omega (arith, ints)

        down : (a : ℕ) → pos a ≤ℤ pos u → a ≤ u
        down a h = omega (arith, ints)

-- ---- copies
ago_is : (b : Budget) (m : ℕ) (c : Text) (n k : ℕ) → k + n ≡ m → given_ago b m c n ≡ int_max (pos 0) (b.budgeted c k)
ago_is b m c n k e =
    let there : nat_le n m ≡ true = le-leb n m (omega (arith, e)) in
    let at : m - n ≡ k = omega (arith, e) in
    ap (λ t. cond t (int_max (pos 0) (b.budgeted c (m - n))) (pos 0)) there ∙ ap (λ j. int_max (pos 0) (b.budgeted c j)) at

not_there : (b : Budget) (m : ℕ) (c : Text) (n : ℕ) → m < n → given_ago b m c n ≡ pos 0
not_there b m c n h = ap (λ t. cond t (int_max (pos 0) (b.budgeted c (m - n))) (pos 0)) (lt-leb n m h)

-- ---- all
wants_by : (b : Budget) (m : ℕ) (c : Text) (got : ℤ) (priority : ℕ)
    → AreWants b m c (carry b m c +ℤ got) (λ (body : TemplateBody). want_of b m c (record { priority = priority; body = body }) got)
wants_by b m c got priority = record {
  amount = λ z. refl;
  up_to = λ limit. filled limit (carry b m c +ℤ got);
  capped = λ z limit. refl;
  due = λ z month later e. due_is m month z (carry b m c +ℤ got) later e;
  past = λ z month h. past_is m month z (carry b m c +ℤ got) h;
  average = λ n h.
      subst (λ z. AreMost (int_max (pos 0) (neg_ℤ z)) n (pos (average_of (latest_sums b c m n) n))) (sym (sums_are b c m n)) (most_are (latest_sums b c m n) n h);
  copied = λ n k e. ago_is b m c n k e;
  too_early = λ n h. not_there b m c n h;
}

pub wants_told : WantsAreTold
wants_told b m c got priority =
    subst (λ (k : ℤ). AreWants b m c (k +ℤ got) (λ (body : TemplateBody). want_of b m c (record { priority = priority; body = body }) got)) (sym (carried_is b m c)) (wants_by b m c got priority)
