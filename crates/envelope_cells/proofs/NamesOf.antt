-- The cells of a sheet have the names of its month, and tell what the names do.
use Rattle.std.proofs.Common.{◌≡◌, ℕ, ◌+◌, ◌≤◌, Bool, true, false, not, cond, List, [], ◌∷◌, ◌++◌, map, Some, None, refl, ap, ap₂, sym, ◌∙◌, arith, true≢false}
use Rattle.std.specs.Prelude.{◌||◌}
use Rattle.std.specs.List.{filter, AllByRecursion}
use Rattle.std.specs.Ordering.{eq_by_cmp}
use Rattle.std.specs.FinMap.{entries}
use Rattle.finite_sums.specs.Sums.{hits, total}
use Rattle.finite_sums.specs.Maps.{Text, text_cmp, is_among}
use Rattle.book_rows.specs.declared.rows.Rows.{Rows}
use Rattle.envelope_cells.specs.Budget.{Budget, categories, categories_of, expense}
use Rattle.envelope_cells.specs.BudgetOf.{budget_of, groups_of}
use Rattle.envelope_cells.specs.Cells.{leftover}
use Rattle.envelope_cells.specs.CellOf.{of_group, group_named, flag_value, cell_of}
use Rattle.envelope_cells.specs.Ids.{month_number}
use Rattle.envelope_cells.specs.Places.{placed, group_places, category_places}
use Rattle.envelope_cells.specs.SheetOf.{cell, month_cells, categories_cells, group_cells, groups_cells, sheet_of}
use Rattle.envelope_cells.specs.NamesOf.{name, categories_names, group_names, groups_names, funds_names, rest_names, names_of}
use Rattle.envelope_cells.specs.Laws.{SheetsAreNamed}
use Rattle.envelope_cells.specs.declared.groups.BudgetGroup.{BudgetGroup}
use Rattle.envelope_cells.specs.declared.name.Cell.{Cell}
use Rattle.envelope_cells.specs.declared.name.CellName.{CellName}
use Rattle.envelope_cells.specs.declared.name.CellKind.TheVariants.{GroupSum, GroupBudget, GroupLeftover, Sum, Budget as OfBudget, Carryover, Leftover}
use Rattle.envelope_cells.proofs.Among.{itself, in_front, in_back}
use Rattle.envelope_cells.proofs.Distinct.{one_if, groups_once, hits-map}

-- ---- names
named-append : (xs ys : List Cell) → map (λ c. c.name) (xs ++ ys) ≡ map (λ c. c.name) xs ++ map (λ c. c.name) ys
named-append [] ys = refl
named-append (x ∷ xs) ys = ap (λ ns. x.name ∷ ns) (named-append xs ys)

module _ (b : Budget) (month m : ℕ) where
  categories_named : (t : Bool) (cs : List Text) → map (λ c. c.name) (categories_cells b month m t cs) ≡ categories_names month t cs
  categories_named t [] = refl
  categories_named true (c ∷ cs) = ap (λ ns. name month Sum c ∷ ns) (categories_named true cs)
  categories_named false (c ∷ cs) = ap (λ ns. name month Sum c ∷ name month OfBudget c ∷ name month Carryover c ∷ name month Leftover c ∷ ns) (categories_named false cs)

  group_is : (g : BudgetGroup) → map (λ c. c.name) (group_cells b month m g) ≡ group_names month g
  group_is g = by g.is_income
    where
      by : (t : Bool) → map (λ c. c.name) (cell month GroupSum g.id (total (λ c. b.category_sum c m) g.categories) ∷ cond t [] (cell month GroupBudget g.id (total (λ c. b.budgeted c m) g.categories) ∷ cell month GroupLeftover g.id (total (λ c. leftover b c m) g.categories) ∷ []))
          ≡ name month GroupSum g.id ∷ cond t [] (name month GroupBudget g.id ∷ name month GroupLeftover g.id ∷ [])
      by true = refl
      by false = refl

  groups_are : (gs : List BudgetGroup) → map (λ c. c.name) (groups_cells b month m gs) ≡ groups_names month gs
  groups_are [] = refl
  groups_are (g ∷ gs) =
      named-append (group_cells b month m g ++ categories_cells b month m g.is_income g.categories) (groups_cells b month m gs)
      ∙ ap₂ (λ (xs ys : List CellName). xs ++ ys)
      (named-append (group_cells b month m g) (categories_cells b month m g.is_income g.categories) ∙ ap₂ (λ (xs ys : List CellName). xs ++ ys) (group_is g) (categories_named g.is_income g.categories))
      (groups_are gs)

  named : map (λ c. c.name) (month_cells b month m ++ groups_cells b month m b.groups) ≡ names_of b.groups month
  named = ap (λ ns. funds_names month [] ++ rest_names month [] ++ ns) (groups_are b.groups)

-- ---- values
abbrev IsTold : Budget → Cell → Type 0
IsTold b c = cell_of b c.name ≡ Some c.value

all-append : {A : Type 0} (P : A → Type 0) (xs ys : List A) → AllByRecursion P xs → AllByRecursion P ys → AllByRecursion P (xs ++ ys)
all-append P [] ys h k = k
all-append P (x ∷ xs) ys h k = (h.0, all-append P xs ys h.1 k)

all_to : {A : Type 0} (P Q : A → Type 0) (xs : List A) → ((x : A) → P x → Q x) → AllByRecursion P xs → AllByRecursion Q xs
all_to P Q [] f h = tt
all_to P Q (x ∷ xs) f h = (f x h.0, all_to P Q xs f h.1)

-- what some groups say of one of them: it is the first one of its id, also among those of expenses, if it is one, and its categories are among theirs
record Own (gs : List BudgetGroup) (g : BudgetGroup) : Type 0 where
  group : group_named gs g.id ≡ Some g
  expense_group : g.is_income ≡ false → group_named (filter (λ g. not g.is_income) gs) g.id ≡ Some g
  among : (c : Text) → is_among text_cmp g.categories c ≡ true → is_among text_cmp (categories_of gs) c ≡ true
  expense_among : g.is_income ≡ false → (c : Text) → is_among text_cmp g.categories c ≡ true → is_among text_cmp (categories_of (filter (λ g. not g.is_income) gs)) c ≡ true

true_false : {P : Type 0} (t : Bool) → t ≡ true → t ≡ false → P
true_false t h k = absurd (true≢false (sym h ∙ k))

module _ (b : Budget) (month : ℕ) where
  abbrev m : ℕ
  m = month_number month

  categories_told : (t : Bool) (cs : List Text) → ((c : Text) → is_among text_cmp cs c ≡ true → is_among text_cmp (categories b) c ≡ true)
      → (t ≡ false → (c : Text) → is_among text_cmp cs c ≡ true → is_among text_cmp (expense b) c ≡ true) → AllByRecursion (IsTold b) (categories_cells b month m t cs)
  categories_told t [] all side = tt
  categories_told true (c ∷ cs) all side =
      let here = all c (in_front (c ∷ []) cs c (ap (λ t. t || false) (itself c))) in (
        ap (λ t. cond t (Some (b.category_sum c m)) None) here,
        categories_told true cs (λ q h. all q (in_back (c ∷ []) cs q h)) (λ e. absurd (true≢false e)),
      )
  categories_told false (c ∷ cs) all side =
      let first = in_front (c ∷ []) cs c (ap (λ t. t || false) (itself c)) in
      let here = all c first in
      let there = side refl c first in (
        ap (λ t. cond t (Some (b.category_sum c m)) None) here,
        (
          ap (λ t. cond t (Some (b.budgeted c m)) None) there,
          (
            ap (λ t. cond t (Some (flag_value (b.carries c m))) None) there,
            (
              ap (λ t. cond t (Some (leftover b c m)) None) there,
              categories_told false cs (λ q h. all q (in_back (c ∷ []) cs q h)) (λ e q h. side e q (in_back (c ∷ []) cs q h)),
            ),
          ),
        ),
      )

  group_told : (g : BudgetGroup) → Own b.groups g → AllByRecursion (IsTold b) (group_cells b month m g)
  group_told g own = by g.is_income refl
    where
      by : (t : Bool) → g.is_income ≡ t → AllByRecursion (IsTold b) (cell month GroupSum g.id (total (λ c. b.category_sum c m) g.categories) ∷ cond t [] (cell month GroupBudget g.id (total (λ c. b.budgeted c m) g.categories) ∷ cell month GroupLeftover g.id (total (λ c. leftover b c m) g.categories) ∷ []))
      by true e = (ap (of_group (λ c. b.category_sum c m)) own.group, tt)
      by false e = (ap (of_group (λ c. b.category_sum c m)) own.group, (ap (of_group (λ c. b.budgeted c m)) (own.expense_group e), (ap (of_group (λ c. leftover b c m)) (own.expense_group e), tt)))

  groups_told : (gs : List BudgetGroup) → AllByRecursion (Own b.groups) gs → AllByRecursion (IsTold b) (groups_cells b month m gs)
  groups_told [] own = tt
  groups_told (g ∷ gs) own =
      all-append (IsTold b) (group_cells b month m g ++ categories_cells b month m g.is_income g.categories) (groups_cells b month m gs)
      (all-append (IsTold b) (group_cells b month m g) (categories_cells b month m g.is_income g.categories) (group_told g own.0) (categories_told g.is_income g.categories own.0.among own.0.expense_among))
      (groups_told gs own.1)

  told : AllByRecursion (Own b.groups) b.groups → AllByRecursion (IsTold b) (sheet_of b month)
  told own = all-append (IsTold b) (month_cells b month m) (groups_cells b month m b.groups) (refl, (refl, (refl, (refl, (refl, (refl, (refl, (refl, (refl, tt))))))))) (groups_told b.groups own)

-- ---- groups with ids of their own
abbrev Distinct : List BudgetGroup → Type 0
Distinct gs = (q : Text) → hits (λ g. eq_by_cmp text_cmp q g.id) gs ≤ 1

named_hits : (q : Text) (gs : List BudgetGroup) (g : BudgetGroup) → group_named gs q ≡ Some g → 1 ≤ hits (λ g. eq_by_cmp text_cmp q g.id) gs
named_hits q [] g h = absurd (cc)
named_hits q (x ∷ xs) g h = by (eq_by_cmp text_cmp q x.id) h (named_hits q xs g)
  where
    by : (t : Bool) → cond t (Some x) (group_named xs q) ≡ Some g → (group_named xs q ≡ Some g → 1 ≤ hits (λ g. eq_by_cmp text_cmp q g.id) xs) → 1 ≤ one_if t + hits (λ g. eq_by_cmp text_cmp q g.id) xs
    by true k more = omega arith
    by false k more = omega (arith, more k)

module _ (x : BudgetGroup) (xs : List BudgetGroup) where
  own_first : Own (x ∷ xs) x
  own_first = record {
    group = ap (λ t. cond t (Some x) (group_named xs x.id)) (itself x.id);
    expense_group = λ e. ap (λ t. group_named (cond (not t) (x ∷ filter (λ g. not g.is_income) xs) (filter (λ g. not g.is_income) xs)) x.id) e ∙ ap (λ t. cond t (Some x) (group_named (filter (λ g. not g.is_income) xs) x.id)) (itself x.id);
    among = λ c h. in_front x.categories (categories_of xs) c h;
    expense_among = λ e c h. ap (λ t. is_among text_cmp (categories_of (cond (not t) (x ∷ filter (λ g. not g.is_income) xs) (filter (λ g. not g.is_income) xs))) c) e ∙ in_front x.categories (categories_of (filter (λ g. not g.is_income) xs)) c h;
  }

  -- one group more in front, of another id
  own_next : (g : BudgetGroup) → eq_by_cmp text_cmp g.id x.id ≡ false → Own xs g → Own (x ∷ xs) g
  own_next g apart own = record {
    group = ap (λ t. cond t (Some x) (group_named xs g.id)) apart ∙ own.group;
    expense_group = λ e. by_group x.is_income ∙ own.expense_group e;
    among = λ c h. in_back x.categories (categories_of xs) c (own.among c h);
    expense_among = λ e c h. by_among x.is_income c (own.expense_among e c h);
  }
    where
      by_group : (t : Bool) → group_named (cond (not t) (x ∷ filter (λ g. not g.is_income) xs) (filter (λ g. not g.is_income) xs)) g.id ≡ group_named (filter (λ g. not g.is_income) xs) g.id
      by_group true = refl
      by_group false = ap (λ t. cond t (Some x) (group_named (filter (λ g. not g.is_income) xs) g.id)) apart

      by_among : (t : Bool) (c : Text) → is_among text_cmp (categories_of (filter (λ g. not g.is_income) xs)) c ≡ true → is_among text_cmp (categories_of (cond (not t) (x ∷ filter (λ g. not g.is_income) xs) (filter (λ g. not g.is_income) xs))) c ≡ true
      by_among true c h = h
      by_among false c h = in_back x.categories (categories_of (filter (λ g. not g.is_income) xs)) c h

owned : (gs : List BudgetGroup) → Distinct gs → AllByRecursion (Own gs) gs
owned [] d = tt
owned (x ∷ xs) d = (own_first x xs, all_to (Own xs) (Own (x ∷ xs)) xs (λ g own. own_next x xs g (apart g own.group (eq_by_cmp text_cmp g.id x.id) refl) own) (owned xs (λ q. omega (arith, d q))))
  where
    apart : (g : BudgetGroup) → group_named xs g.id ≡ Some g → (t : Bool) → eq_by_cmp text_cmp g.id x.id ≡ t → eq_by_cmp text_cmp g.id x.id ≡ false
    apart g h true e =
        let one : one_if (eq_by_cmp text_cmp g.id x.id) ≡ 1 = ap (λ t. one_if t) e in
        absurd (omega (arith, d g.id, named_hits g.id xs g h, one))
    apart g h false e = e

pub sheets_are_named_lem : (rows : Rows) (month : ℕ) → SheetsAreNamed rows month
sheets_are_named_lem rows month = record {
  names = named (budget_of rows) month (month_number month);
  values = told (budget_of rows) month (owned (groups_of rows) (λ q. omega (arith, hits-map (λ (g : BudgetGroup). eq_by_cmp text_cmp q g.id) (λ e. record { id = e.0.id; is_income = e.1; categories = Rattle.envelope_cells.specs.Places.ids_of_group e.0.id (placed (category_places (entries rows.categories)) []) }) (placed (group_places (entries rows.groups)) []), groups_once rows q)));
}
