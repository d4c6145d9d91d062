-- The cells of a sheet, from what each category has.
use Rattle.std.proofs.Common.{◌≡◌, ℕ, ◌^◌, ◌≤◌, Bool, true, false, not, cond, List, [], ◌∷◌, ◌++◌, map, unsigned_abs, refl, ap, sym, ◌∙◌, arith}
use lib.IntN.{ℤ, ◌+ℤ◌, ◌-ℤ◌}
use Rattle.std.proofs.lemmas.Int.{ints}
use Rattle.std.specs.List.{filter}
use Rattle.finite_sums.specs.Sums.{total, only_if, weight}
use Rattle.finite_sums.specs.Maps.{Text}
use Rattle.finite_sums.proofs.Totals.{total-append}
use Rattle.envelope_cells.specs.Budget.{Budget, categories_of}
use Rattle.envelope_cells.specs.declared.groups.BudgetGroup.{BudgetGroup}
use Rattle.envelope_cells.specs.Ids.{month_number}
use Rattle.envelope_cells.specs.Cells.{total_income, total_spent, all_budgeted}
use Rattle.tracking_budget.specs.declared.live.LiveCategory.{LiveCategory}
use Rattle.tracking_budget.specs.declared.part.Part.{Part}
use Rattle.tracking_budget.specs.declared.part.Pick.{Pick}
use Rattle.tracking_budget.specs.declared.whole.Whole.{Whole}
use Rattle.tracking_budget.specs.declared.part.Pick.TheVariants.{Sum, Given, Left}
use Rattle.tracking_budget.specs.Tracked.{left, planned_income, expenses_left}
use Rattle.tracking_budget.specs.CellOf.{live_on, live_of}
use Rattle.tracking_budget.specs.SheetOf.{month_cells, category_cells, live_cells, track_cells}
use Rattle.tracking_budget.specs.Parts.{first_cells, last_cells, cells_from, weight_of, part_of, picked, side_part, side_total, size_of, parts_cells, whole_of}
use Rattle.tracking_budget.proofs.GoingBack.{weight_next, add_one_left}

-- the cells of categories are those of the sheet
same_cells : (b : Budget) (month m : ℕ) (ls : List LiveCategory) → parts_cells month (map (part_of b m) ls) ≡ live_cells b month m ls
same_cells b month m [] = refl
same_cells b month m (l ∷ ls) = ap (λ t. category_cells b month m l ++ t) (same_cells b month m ls)

-- ---- each total, of the categories of a side
module _ (f : Text → ℤ) where
  on_income : (t : Bool) (cs : List Text) → total (λ l. only_if l.is_income (f l.id)) (live_on t cs) ≡ only_if t (total f cs)
  on_income true [] = refl
  on_income true (c ∷ cs) = ap (λ z. f c +ℤ z) (on_income true cs)
  on_income false [] = refl
  on_income false (c ∷ cs) = omega (arith, ints, on_income false cs)

  on_expense : (t : Bool) (cs : List Text) → total (λ l. only_if (not l.is_income) (f l.id)) (live_on t cs) ≡ only_if (not t) (total f cs)
  on_expense true [] = refl
  on_expense true (c ∷ cs) = omega (arith, ints, on_expense true cs)
  on_expense false [] = refl
  on_expense false (c ∷ cs) = ap (λ z. f c +ℤ z) (on_expense false cs)

  of_income : (gs : List BudgetGroup) → total (λ l. only_if l.is_income (f l.id)) (live_of gs) ≡ total f (categories_of (filter (λ g. g.is_income) gs))
  of_income [] = refl
  of_income (g ∷ gs) =
      total-append (λ l. only_if l.is_income (f l.id)) (live_on g.is_income g.categories) (live_of gs)
      ∙ by g.is_income (on_income g.is_income g.categories) (of_income gs)
    where
      by : (t : Bool) → total (λ l. only_if l.is_income (f l.id)) (live_on g.is_income g.categories) ≡ only_if t (total f g.categories) → total (λ l. only_if l.is_income (f l.id)) (live_of gs) ≡ total f (categories_of (filter (λ g. g.is_income) gs))
          → total (λ l. only_if l.is_income (f l.id)) (live_on g.is_income g.categories) +ℤ total (λ l. only_if l.is_income (f l.id)) (live_of gs) ≡ total f (categories_of (cond t (g ∷ filter (λ g. g.is_income) gs) (filter (λ g. g.is_income) gs)))
      by true p q = omega (arith, ints, p, q, total-append f g.categories (categories_of (filter (λ g. g.is_income) gs)))
      by false p q = omega (arith, ints, p, q)

  of_expense : (gs : List BudgetGroup) → total (λ l. only_if (not l.is_income) (f l.id)) (live_of gs) ≡ total f (categories_of (filter (λ g. not g.is_income) gs))
  of_expense [] = refl
  of_expense (g ∷ gs) =
      total-append (λ l. only_if (not l.is_income) (f l.id)) (live_on g.is_income g.categories) (live_of gs)
      ∙ by (not g.is_income) (on_expense g.is_income g.categories) (of_expense gs)
    where
      by : (t : Bool) → total (λ l. only_if (not l.is_income) (f l.id)) (live_on g.is_income g.categories) ≡ only_if t (total f g.categories) → total (λ l. only_if (not l.is_income) (f l.id)) (live_of gs) ≡ total f (categories_of (filter (λ g. not g.is_income) gs))
          → total (λ l. only_if (not l.is_income) (f l.id)) (live_on g.is_income g.categories) +ℤ total (λ l. only_if (not l.is_income) (f l.id)) (live_of gs) ≡ total f (categories_of (cond t (g ∷ filter (λ g. not g.is_income) gs) (filter (λ g. not g.is_income) gs)))
      by true p q = omega (arith, ints, p, q, total-append f g.categories (categories_of (filter (λ g. not g.is_income) gs)))
      by false p q = omega (arith, ints, p, q)

module _ (b : Budget) (m : ℕ) where
  totals : (k : Pick) (income : Bool) (f : LiveCategory → ℤ) → ((l : LiveCategory) → side_part k income (part_of b m l) ≡ f l) → (xs : List LiveCategory) → side_total k income (map (part_of b m) xs) ≡ total f xs
  totals k income f same [] = refl
  totals k income f same (x ∷ xs) = omega (arith, ints, same x, totals k income f same xs)

  left_side : (i : Bool) (c : Text) → only_if (not i) (left b i c m) ≡ only_if (not i) (left b false c m)
  left_side true c = refl
  left_side false c = refl

  abbrev parts : List Part
  parts = map (part_of b m) (live_of b.groups)

  in_sums : side_total Sum true parts ≡ total_income b m
  in_sums = totals Sum true (λ l. only_if l.is_income (b.category_sum l.id m)) (λ l. refl) (live_of b.groups) ∙ of_income (λ c. b.category_sum c m) b.groups

  in_given : side_total Given true parts ≡ planned_income b m
  in_given = totals Given true (λ l. only_if l.is_income (b.budgeted l.id m)) (λ l. refl) (live_of b.groups) ∙ of_income (λ c. b.budgeted c m) b.groups

  out_given : side_total Given false parts ≡ all_budgeted b m
  out_given = totals Given false (λ l. only_if (not l.is_income) (b.budgeted l.id m)) (λ l. refl) (live_of b.groups) ∙ of_expense (λ c. b.budgeted c m) b.groups

  out_sums : side_total Sum false parts ≡ total_spent b m
  out_sums = totals Sum false (λ l. only_if (not l.is_income) (b.category_sum l.id m)) (λ l. refl) (live_of b.groups) ∙ of_expense (λ c. b.category_sum c m) b.groups

  out_left : side_total Left false parts ≡ expenses_left b m
  out_left = totals Left false (λ l. only_if (not l.is_income) (left b false l.id m)) (λ l. left_side l.is_income l.id) (live_of b.groups) ∙ of_expense (λ c. left b false c m) b.groups

  -- the cells are those of the sheet
  pub sheet_is : (month : ℕ) → month_number month ≡ m → cells_from month (whole_of parts) parts ≡ track_cells b month
  sheet_is month e =
      (λ i. let w : Whole = record {
        income = in_sums i;
        planned = in_given i;
        given = out_given i;
        spent = out_sums i;
        left = out_left i;
        to_save = in_given i -ℤ out_given i;
        saved = in_sums i +ℤ out_sums i;
      } in first_cells month [] w ++ last_cells month [] w ++ same_cells b month m (live_of b.groups) i)
      ∙ ap (λ n. month_cells b month n ++ live_cells b month n (live_of b.groups)) (sym e)

-- ---- and none is great
only_small : (t : Bool) (z : ℤ) → unsigned_abs (only_if t z) ≤ unsigned_abs z
only_small true z = omega arith
only_small false z = omega (arith, ints)

pub side_small : (k : Pick) (income : Bool) (p : Part) → unsigned_abs (side_part k income p) ≤ size_of k p
side_small k income p = only_small (cond income p.is_income (not p.is_income)) (picked k p)

sized : (b : Budget) (m : ℕ) (k : Pick) (l : LiveCategory) → size_of k (part_of b m l) ≤ weight_of b m l
sized b m Sum l = omega (arith, weight_next b l.id m)
sized b m Given l = omega (arith, weight_next b l.id m)
sized b m Left l = omega (arith, add_one_left b l.is_income l.id m)

weights : (b : Budget) (m : ℕ) (k : Pick) (ls : List LiveCategory) → weight (size_of k) (map (part_of b m) ls) ≤ weight (weight_of b m) ls
weights b m k [] = omega arith
weights b m k (l ∷ ls) = omega (arith, sized b m k l, weights b m k ls)

pub parts_small : (b : Budget) (m : ℕ) (k : Pick) (ls : List LiveCategory) (ps : List Part) → ps ≡ map (part_of b m) ls → weight (weight_of b m) ls ≤ 2 ^ 120 → weight (size_of k) ps ≤ 2 ^ 120
parts_small b m k ls ps e h = omega (arith, ap (weight (size_of k)) e, weights b m k ls, h)
