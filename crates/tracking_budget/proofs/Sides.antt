-- On which side a category stands.
use Rattle.std.proofs.Common.{◌≡◌, Bool, true, false, not, cond, List, [], ◌∷◌, ◌++◌, Option, Some, None, refl, ap, sym, subst, ◌∙◌}
use Rattle.std.specs.Prelude.{◌&&◌, ◌||◌}
use Rattle.std.specs.List.{filter}
use Rattle.std.specs.Ordering.{eq_by_cmp}
use Rattle.std.specs.FinMap as map
use Rattle.finite_sums.specs.Maps.{Text, text_cmp, is_among, some_and}
use Rattle.book_rows.specs.declared.rows.Rows.{Rows}
use Rattle.book_rows.specs.declared.rows.CategoryRow.{CategoryRow}
use Rattle.book_rows.specs.Live.{is_live_category, is_income_category, is_expense_category, is_live_category_row, has_income_group}
use Rattle.envelope_cells.specs.Budget.{categories_of}
use Rattle.envelope_cells.specs.BudgetOf.{groups_of}
use Rattle.envelope_cells.specs.declared.groups.BudgetGroup.{BudgetGroup}
use Rattle.envelope_cells.specs.Laws.{LiveOnesAreListed}
use Rattle.envelope_cells.proofs.Among.{among-append, in_front, in_back, of_some}
use Rattle.envelope_cells.proofs.Listed.{live_ones_are_listed_lem}
use Rattle.tracking_budget.specs.declared.live.LiveCategory.{LiveCategory}
use Rattle.tracking_budget.specs.CellOf.{live_on, live_of, side_of}

-- the categories of one group, and then others
side-append : (c : Text) (t : Bool) (cs : List Text) (rest : List LiveCategory) → side_of (live_on t cs ++ rest) c ≡ cond (is_among text_cmp cs c) (Some t) (side_of rest c)
side-append c t [] rest = refl
side-append c t (x ∷ xs) rest = by (eq_by_cmp text_cmp c x) (side-append c t xs rest)
  where
    by : (e : Bool) → side_of (live_on t xs ++ rest) c ≡ cond (is_among text_cmp xs c) (Some t) (side_of rest c) → cond e (Some t) (side_of (live_on t xs ++ rest) c) ≡ cond (e || is_among text_cmp xs c) (Some t) (side_of rest c)
    by true h = refl
    by false h = h

abbrev on : Bool → Bool → Bool
on side t = cond side t (not t)

on_itself : (t : Bool) → on t t ≡ true
on_itself true = refl
on_itself false = refl

-- one that has a side is among the categories of that side
found : (c : Text) (t : Bool) (gs : List BudgetGroup) → side_of (live_of gs) c ≡ Some t → is_among text_cmp (categories_of (filter (λ g. on t g.is_income) gs)) c ≡ true
found c t [] e = absurd (cc)
found c t (g ∷ gs) e = by (is_among text_cmp g.categories c) refl (found c t gs) (sym (side-append c g.is_income g.categories (live_of gs)) ∙ e)
  where
    others : List BudgetGroup
    others = filter (λ g. on t g.is_income) gs

    either : (p : Bool) → is_among text_cmp (categories_of others) c ≡ true → is_among text_cmp (categories_of (cond p (g ∷ others) others)) c ≡ true
    either true k = in_back g.categories (categories_of others) c k
    either false k = k

    by : (a : Bool) → is_among text_cmp g.categories c ≡ a → (side_of (live_of gs) c ≡ Some t → is_among text_cmp (categories_of others) c ≡ true) → cond a (Some g.is_income) (side_of (live_of gs) c) ≡ Some t
        → is_among text_cmp (categories_of (cond (on t g.is_income) (g ∷ others) others)) c ≡ true
    by true h rest f =
        let same : g.is_income ≡ t = cc in
        subst (λ p. is_among text_cmp (categories_of (cond p (g ∷ others) others)) c ≡ true) (sym (ap (on t) same ∙ on_itself t)) (in_front g.categories (categories_of others) c h)
    by false h rest f = either (on t g.is_income) (rest f)

-- and one that has none is not among the categories
missing : (c : Text) (gs : List BudgetGroup) → side_of (live_of gs) c ≡ None → is_among text_cmp (categories_of gs) c ≡ false
missing c [] e = refl
missing c (g ∷ gs) e = among-append g.categories (categories_of gs) c ∙ by (is_among text_cmp g.categories c) (missing c gs) (sym (side-append c g.is_income g.categories (live_of gs)) ∙ e)
  where
    by : (a : Bool) → (side_of (live_of gs) c ≡ None → is_among text_cmp (categories_of gs) c ≡ false) → cond a (Some g.is_income) (side_of (live_of gs) c) ≡ None → (a || is_among text_cmp (categories_of gs) c) ≡ false
    by true rest f = absurd (cc)
    by false rest f = rest f

-- no category takes income and is of expenses
not_both : (live income : Bool) → (live && income) ≡ true → (live && not income) ≡ true → ⊥
not_both true true p q = cc
not_both true false p q = cc
not_both false income p q = cc

one_side : (rows : Rows) (c : Text) → is_income_category rows c ≡ true → is_expense_category rows c ≡ true → ⊥
one_side rows c = by (map.get rows.categories c)
  where
    by : (o : Option CategoryRow) → some_and (λ c. is_live_category_row rows c && has_income_group rows c) o ≡ true → some_and (λ c. is_live_category_row rows c && not (has_income_group rows c)) o ≡ true → ⊥
    by None p q = cc
    by (Some c) p q = not_both (is_live_category_row rows c) (has_income_group rows c) p q

-- the categories of a sheet are the live ones, each on the side that its group says
pub record HasSide (rows : Rows) (c : Text) : Type 0 where
  pub income : is_income_category rows c ≡ true → side_of (live_of (groups_of rows)) c ≡ Some true
  pub expense : is_expense_category rows c ≡ true → side_of (live_of (groups_of rows)) c ≡ Some false
  pub other : is_live_category rows c ≡ false → side_of (live_of (groups_of rows)) c ≡ None

module _ (rows : Rows) (c : Text) where
  are : LiveOnesAreListed rows
  are = live_ones_are_listed_lem rows

  abbrev side : Option Bool
  side = side_of (live_of (groups_of rows)) c

  takes_income : side ≡ Some true → is_income_category rows c ≡ true
  takes_income e = sym (are.income c) ∙ found c true (groups_of rows) e

  is_of_expenses : side ≡ Some false → is_expense_category rows c ≡ true
  is_of_expenses e = sym (are.expense c) ∙ found c false (groups_of rows) e

  is_none : side ≡ None → is_live_category rows c ≡ false
  is_none e = sym (are.category c) ∙ missing c (groups_of rows) e

  lives : (t : Bool) → is_among text_cmp (categories_of (filter (λ g. on t g.is_income) (groups_of rows))) c ≡ true → is_live_category rows c ≡ true
  lives t h = sym (are.category c) ∙ of_some (λ g. on t g.is_income) (groups_of rows) c h

  pub sided : HasSide rows c
  sided = record {
    income = λ h. income_by side refl h;
    expense = λ h. expense_by side refl h;
    other = λ h. other_by side refl h;
  }
    where
      income_by : (o : Option Bool) → side ≡ o → is_income_category rows c ≡ true → o ≡ Some true
      income_by None e h = absurd (let one = is_none e in let two = lives true (are.income c ∙ h) in cc)
      income_by (Some true) e h = refl
      income_by (Some false) e h = absurd (one_side rows c h (is_of_expenses e))

      expense_by : (o : Option Bool) → side ≡ o → is_expense_category rows c ≡ true → o ≡ Some false
      expense_by None e h = absurd (let one = is_none e in let two = lives false (are.expense c ∙ h) in cc)
      expense_by (Some true) e h = absurd (one_side rows c (takes_income e) h)
      expense_by (Some false) e h = refl

      other_by : (o : Option Bool) → side ≡ o → is_live_category rows c ≡ false → o ≡ None
      other_by None e h = refl
      other_by (Some true) e h = absurd (let one = lives true (found c true (groups_of rows) e) in cc)
      other_by (Some false) e h = absurd (let one = lives false (found c false (groups_of rows) e) in cc)

  -- a live one has one
  pub has_side : is_live_category rows c ≡ true → (t : Bool) × (side ≡ Some t)
  has_side h = by side refl
    where
      by : (o : Option Bool) → side ≡ o → (t : Bool) × (o ≡ Some t)
      by None e = absurd (let one = is_none e in cc)
      by (Some t) e = (t, refl)
