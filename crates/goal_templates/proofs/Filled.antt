-- A month that is filled by its templates.
use Rattle.std.proofs.Common.{◌≡◌, ℕ, ◌+◌, ◌*◌, ◌/◌, ◌%◌, ◌<◌, ◌≤◌, Bool, true, false, cond, not, List, [], ◌∷◌, ◌++◌, Option, Some, None, Result, Ok, Err, refl, sym, subst, ap, ◌∙◌, drop, arith}
use lib.IntN.{ℤ, pos, ◌-ℤ◌}
use Rattle.std.specs.Prelude.{◌≢◌, ◌&&◌, ◌≤ℤ◌, flat_map}
use Rattle.std.specs.Int.{int_min}
use Rattle.std.specs.Ordering.{int_eq}
use Rattle.std.specs.List.{AllByRecursion}
use Rattle.std.specs.FinMap.{get}
use Rattle.std.proofs.lemmas.Bool.Decides.{Decides-int_eq, nat_tests}
use Rattle.std.proofs.lemmas.Bool.{and_parts}
use Rattle.finite_sums.specs.Maps.{Text, Texts, text_cmp, some_and, value_or_zero, is_among, AreDistinct}
use Rattle.book_rows.specs.declared.rows.Rows.{Rows}
use Rattle.book_rows.specs.declared.rows.BudgetRow.{BudgetRow}
use Rattle.book_rows.specs.declared.rows.TxRow.{TxRow}
use Rattle.book_rows.specs.declared.write.Write.{Write}
use Rattle.book_rows.specs.declared.fault.EditFault.{EditFault}
use Rattle.book_rows.specs.declared.fault.EditFault.TheVariants.{BadMonth}
use Rattle.book_rows.specs.Ids.{budget_id}
use Rattle.book_rows.specs.Months.{is_month, budget_month}
use Rattle.book_rows.proofs.MonthIds.{budget_month_back}
use Rattle.book_edits.specs.Faults.{◌>>=◌, must}
use Rattle.book_edits.specs.Checks.{a_month}
use Rattle.book_edits.specs.Budgets.{budgeted}
use Rattle.book_edits.proofs.Valid.{inside, passed, was_so}
use Rattle.split_transfer.specs.After.{Ids, with_writes}
use Rattle.split_transfer.specs.Right.{IsLiveRow, ArePair, IsSplit}
use Rattle.envelope_cells.specs.Budget.{Budget, expense}
use Rattle.envelope_cells.specs.BudgetOf.{budget_of, carries}
use Rattle.envelope_cells.specs.Cells.{to_budget}
use Rattle.envelope_cells.specs.Ids.{month_number, month_at}
use Rattle.envelope_cells.proofs.Quiet.{month_back, month_rises}
use Rattle.goal_templates.specs.declared.share.Share.{Share}
use Rattle.goal_templates.specs.declared.share.Asked.{Asked}
use Rattle.goal_templates.specs.declared.share.Grant.{Grant}
use Rattle.goal_templates.specs.Notes.{templates}
use Rattle.goal_templates.specs.Sharing.{got, all_given, has_share}
use Rattle.goal_templates.specs.Allocation.{has_template, allocation}
use Rattle.goal_templates.specs.SharingLaws.{first_given}
use Rattle.goal_templates.specs.Goals.{shares_in, differs, granted, grants, grants_in, grant_writes, may_grant, goal_writes}
use Rattle.goal_templates.specs.Laws.{money_in, IsFilled, GoalsAreFilled}
use Rattle.goal_templates.proofs.Kept.{with_budgets, AreGiven}
use Rattle.goal_templates.proofs.Allocated.{have, shares_among, after_money, after_left, after_again, all_fair}
use Rattle.goal_templates.proofs.Sizes.{expense_distinct}
use Rattle.goal_templates.proofs.Asking.{all_asked}
use Rattle.goal_templates.proofs.Written.{with_grants, row_after, all_written, get-with_grants, carries_after, grants_distinct, all_fresh, untouched, given_at}

-- ---- months
valid_month : (k : ℕ) → k < 2760 → is_month (month_at k) ≡ true
valid_month k h =
    let year : month_at k / 100 ≡ 1970 + k / 12 = omega arith in
    let month : month_at k % 100 ≡ k % 12 + 1 = omega arith in
    grind (arith, nat_tests)

record MonthParts (m : ℕ) : Type 0 where
  from : 1970 ≤ m / 100
  to : m / 100 ≤ 2199
  first : 1 ≤ m % 100
  last : m % 100 ≤ 12

month_parts : (m : ℕ) → is_month m ≡ true → MonthParts m
month_parts m h = record { from = grind (arith, nat_tests); to = grind (arith, nat_tests); first = grind (arith, nat_tests); last = grind (arith, nat_tests) }

-- nothing differs once each category has what it got
nothing_differs : (r : Rows) (month : ℕ) (ss : List Share) → ((c : Text) → has_share ss c ≡ true → budgeted r c month ≡ got c ss) → (c : Text) → differs r month ss c ≡ false
nothing_differs r month ss h c = by (has_share ss c) refl
  where
    by : (t : Bool) → has_share ss c ≡ t → (t && not (int_eq (got c ss) (budgeted r c month))) ≡ false
    by true e = ap not ((Decides-int_eq (got c ss) (budgeted r c month)).1 (sym (h c e)))
    by false e = refl

no_grants : (r : Rows) (month : ℕ) (ss : List Share) → ((c : Text) → differs r month ss c ≡ false) → (cs : List Text) → grants r month ss cs ≡ []
no_grants r month ss h [] = refl
no_grants r month ss h (c ∷ cs) = ap (λ t. cond t (record { category = c; amount = got c ss } ∷ []) [] ++ grants r month ss cs) (h c) ∙ no_grants r month ss h cs

module _ (ids : Ids) (r : Rows) (month : ℕ) (valid : is_month month ≡ true) where
  abbrev m : ℕ
  m = month_number month

  abbrev b : Budget
  b = budget_of r

  abbrev ss : List Share
  ss = shares_in r month

  abbrev gs : List Grant
  gs = grants_in r month

  abbrev bs : Texts BudgetRow
  bs = with_grants month r.budgets gs

  abbrev new : Rows
  new = record r { budgets = bs }

  written : with_writes ids r (flat_map (grant_writes r month) gs) ≡ new
  written = all_written ids r month gs r (grants_distinct r month ss (expense b) (expense_distinct r)) (all_fresh r month ss gs)

  have_share : (c : Text) → has_share ss c ≡ has_template (templates r) c
  have_share c = have b m (templates r) (expense_distinct r) (all_asked r) c

  share_differs : (c : Text) → differs r month ss c ≡ true → has_template (templates r) c ≡ true
  share_differs c d = sym (have_share c) ∙ (and_parts (has_share ss c) _ d).0

  -- what became of the budgets
  unnamed : (id : Text) → ((c : Text) → has_template (templates r) c ≡ true → id ≢ budget_id c month) → get bs id ≡ get r.budgets id
  unnamed id h = get-with_grants month gs r.budgets id ∙ untouched r month ss (expense b) id (get r.budgets id) (λ c k d. h c (share_differs c d))

  -- a category with a share is one of expenses
  given_so : (c : Text) → has_share ss c ≡ true → budgeted new c month ≡ got c ss
  given_so c some =
      ap (value_or_zero (λ (x : BudgetRow). x.amount)) (get-with_grants month gs r.budgets (budget_id c month))
      ∙ given_at r month ss (expense b) (expense_distinct r) c (shares_among b m (templates r) (expense_distinct r) (all_asked r) c some) some (get r.budgets (budget_id c month)) refl

  others_so : (c : Text) → has_template (templates r) c ≡ false → budgeted new c month ≡ budgeted r c month
  others_so c none =
      ap (value_or_zero (λ (x : BudgetRow). x.amount)) (unnamed (budget_id c month) (λ q some e.
      absurd (let same : c ≡ q = ap (drop 7) e in let bad : false ≡ true = sym none ∙ ap (has_template (templates r)) same ∙ some in cc)))

  some_is : (x y : ℕ) → Some x ≡ Some y → x ≡ y
  some_is x y h = cc

  elsewhere_so : (c : Text) (k : ℕ) → is_month k ≡ true → k ≢ month → budgeted new c k ≡ budgeted r c k
  elsewhere_so c k month_k other =
      ap (value_or_zero (λ (x : BudgetRow). x.amount)) (unnamed (budget_id c k) (λ q some e.
      absurd (other (some_is k month (sym (budget_month_back c k month_k) ∙ ap budget_month e ∙ budget_month_back q month valid)))))

  carries_so : (c : Text) (k : ℕ) → carries new c k ≡ carries r c k
  carries_so c k = ap (some_and (λ (x : BudgetRow). x.carryover)) (get-with_grants month gs r.budgets (budget_id c k)) ∙ carries_after month (budget_id c k) gs (get r.budgets (budget_id c k))

  -- the budget of the new rows
  abbrev f : Text → ℕ → ℤ
  f c k = budgeted new c (month_at k)

  same_budget : budget_of new ≡ with_budgets b f
  same_budget i = record { groups = b.groups; category_sum = b.category_sum; budgeted = f; carries = λ c k. carries_so c (month_at k) i; buffered = b.buffered }

  back : month_at m ≡ month
  back = let p = month_parts month valid in month_back month p.from p.first p.last

  below : m < 2760
  below = let p = month_parts month valid in omega (arith, p.from, p.to, p.first, p.last)

  given : AreGiven b m ss f
  given = record {
    before = λ c k l.
        let rises = month_rises k m l in
        elsewhere_so c (month_at k) (valid_month k (omega (arith, below))) (λ e. omega (arith, rises, e, back));
    now = λ c. ap (budgeted new c) back ∙ now_so c (has_share ss c) refl ∙ ap (λ q. cond (has_share ss c) (got c ss) (budgeted r c q)) (sym back);
  }
    where
      now_so : (c : Text) (t : Bool) → has_share ss c ≡ t → budgeted new c month ≡ cond t (got c ss) (budgeted r c month)
      now_so c true e = given_so c e
      now_so c false e = others_so c (sym (have_share c) ∙ e)

  -- a second time
  shares_again : shares_in new month ≡ ss
  shares_again = ap (λ e. allocation e m (templates r)) same_budget ∙ after_again b m (templates r) (expense_distinct r) (all_asked r) f given

  none_again : grants_in new month ≡ []
  none_again =
      ap (λ s. grants new month s (expense b)) shares_again ∙ no_grants new month ss (nothing_differs new month ss given_so) (expense b)

  again_so : goal_writes new month ≡ Ok []
  again_so =
      ap (λ (t : Bool). must t (BadMonth month) >>= λ _. may_grant month (grants_in new month) >>= λ _. Ok (flat_map (grant_writes new month) (grants_in new month))) valid
      ∙ ap (λ (g : List Grant). may_grant month g >>= λ _. Ok (flat_map (grant_writes new month) g)) none_again

  -- transactions are as they were
  live_before : (id : Text) (x : TxRow) → IsLiveRow new id x → IsLiveRow r id x
  live_before id x h = record { there = h.there; live = h.live }

  pair_before : (p : Text) (x : TxRow) (q : Text) (y : TxRow) → ArePair new p x q y → ArePair r p x q y
  pair_before p x q y h = record { apart = h.apart; first = live_before p x h.first; second = live_before q y h.second; forth = h.forth; back = h.back }

  split_before : (id : Text) (x : TxRow) → IsSplit new id x → IsSplit r id x
  split_before id x h = record { parent = live_before id x h.parent; is_parent = h.is_parent }

  filled : IsFilled r month new
  filled = record {
    fair = all_fair b m (templates r) (expense_distinct r) (all_asked r);
    given = λ c some. given_so c (have_share c ∙ some);
    others = others_so;
    elsewhere = elsewhere_so;
    carries = carries_so;
    unnamed = unnamed;
    rest = refl;
    right = record { pairs = λ p q x y pair was. was x y (pair_before p x q y pair); splits = λ id x split was. was x (split_before id x split) };
    money = ap (λ e. to_budget e m) same_budget ∙ after_money b m (templates r) (expense_distinct r) (all_asked r) f given;
    left = subst (λ e. int_min (pos 0) (money_in r month -ℤ first_given ss) ≤ℤ to_budget e m) (sym same_budget) (after_left b m (templates r) (expense_distinct r) (all_asked r) f given);
    again = again_so;
  }

pub goals_are_filled_lem : GoalsAreFilled
goals_are_filled_lem ids r month ws h =
    let a = passed (a_month month) _ _ h in
    let valid = was_so (is_month month) (BadMonth month) a.0 a.1 in
    let g = passed (may_grant month (grants_in r month)) _ _ a.2 in
    let same : flat_map (grant_writes r month) (grants_in r month) ≡ ws = inside _ _ g.2 in
    subst (IsFilled r month) (sym (written ids r month valid) ∙ ap (with_writes ids r) same) (filled ids r month valid)
