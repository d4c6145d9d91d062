-- The cells of a sheet: all of its month, each once.
use Rattle.std.proofs.Common.{◌≡◌, ◌≢◌, ℕ, zero, suc, ◌+◌, ◌≤◌, ◌<◌, Bool, true, false, not, cond, List, [], ◌∷◌, ◌++◌, length, get_or, Option, Some, None, refl, ap, sym, subst, ◌∙◌, arith}
use Rattle.std.specs.Prelude.{◌&&◌, ◌==◌}
use lib.IntN.{ℤ}
use Rattle.std.specs.List.{Contains, AllByRecursion}
use Rattle.std.specs.Ordering.{eq_by_cmp}
use Rattle.std.proofs.lemmas.Bool.{and_parts, and_from}
use Rattle.std.proofs.lemmas.Bool.Decides.{nat_tests}
use Rattle.std.proofs.lemmas.List.Elements.{All-from_recursion, All-contains, Contains-append_right}
use Rattle.finite_sums.specs.Sums.{hits}
use Rattle.finite_sums.specs.Maps.{Text, text_cmp}
use Rattle.book_rows.specs.declared.rows.Rows.{Rows}
use Rattle.envelope_cells.specs.declared.groups.BudgetGroup.{BudgetGroup}
use Rattle.envelope_cells.specs.Budget.{Budget, categories_of}
use Rattle.envelope_cells.specs.Ids.{month_number}
use Rattle.envelope_cells.proofs.Among.{same_texts, itself}
use Rattle.envelope_cells.proofs.Distinct.{hits-append, categories_once}
use Rattle.tracking_budget.specs.declared.live.LiveCategory.{LiveCategory}
use Rattle.tracking_budget.specs.declared.name.TrackCell.{TrackCell}
use Rattle.tracking_budget.specs.declared.name.TrackName.{TrackName}
use Rattle.tracking_budget.specs.declared.name.TrackKind.{TrackKind}
use Rattle.tracking_budget.specs.declared.name.TrackKind.TheVariants.{TotalIncome, TotalBudgetIncome, TotalBudgeted, TotalSpent, TotalLeftover, TotalSaved, RealSaved, Sum, Budget as OfBudget, Carryover, Leftover}
use Rattle.tracking_budget.specs.Tracked.{tracked_of}
use Rattle.tracking_budget.specs.CellOf.{live_on, live_of, track_cell_of}
use Rattle.tracking_budget.specs.SheetOf.{month_cells, live_cells, track_cells, value_named, is_same, kind_number}
use Rattle.tracking_budget.specs.Names.{all_kinds, is_of_month}
use Rattle.tracking_budget.proofs.Sheets.{track_sheets_tell_cells_lem}
use Rattle.cell_laws.specs.Sheets.{sheet, SheetsHaveMonths}

-- ---- names

number_is : (a b : ℕ) → (a == b) ≡ true → a ≡ b
number_is a b h = grind arith

number_itself : (n : ℕ) → (n == n) ≡ true
number_itself n = grind (arith, nat_tests)

pick : ℕ → List TrackKind → Option TrackKind
pick n [] = None
pick zero (k ∷ ks) = Some k
pick (suc n) (k ∷ ks) = pick n ks

placed : (k : TrackKind) → pick (kind_number k) all_kinds ≡ Some k
unfolding pick
placed TotalIncome = refl
placed TotalBudgetIncome = refl
placed TotalBudgeted = refl
placed TotalSpent = refl
placed TotalLeftover = refl
placed TotalSaved = refl
placed RealSaved = refl
placed Sum = refl
placed OfBudget = refl
placed Carryover = refl
placed Leftover = refl

some_is : (a b : TrackKind) → Some a ≡ Some b → a ≡ b
some_is a b e = cc

kind_is : (a b : TrackKind) → (kind_number a == kind_number b) ≡ true → a ≡ b
kind_is a b h = some_is a b (sym (placed a) ∙ ap (λ n. pick n all_kinds) (number_is (kind_number a) (kind_number b) h) ∙ placed b)

parts_are : (a b : TrackName) → is_same a b ≡ true → (a.month ≡ b.month) × (a.kind ≡ b.kind) × (a.id ≡ b.id)
parts_are a b h =
    let s = and_parts (a.month == b.month) ((kind_number a.kind == kind_number b.kind) && eq_by_cmp text_cmp a.id b.id) h in
    let t = and_parts (kind_number a.kind == kind_number b.kind) (eq_by_cmp text_cmp a.id b.id) s.1 in
    (number_is a.month b.month s.0, kind_is a.kind b.kind t.0, same_texts a.id b.id t.1)

same_itself : (a : TrackName) → is_same a a ≡ true
same_itself a = and_from _ _ (number_itself a.month) (and_from _ _ (number_itself (kind_number a.kind)) (itself a.id))

abbrev named : ℕ → TrackKind → Text → TrackName
named month kind id = record { month = month; kind = kind; id = id }

name_is : (a b : TrackName) → a.month ≡ b.month → a.kind ≡ b.kind → a.id ≡ b.id → a ≡ b
name_is a b month kind id = ap (λ m. named m a.kind a.id) month ∙ ap (λ k. named b.month k a.id) kind ∙ ap (named b.month b.kind) id

is_name : (a b : TrackName) → is_same a b ≡ true → a ≡ b
is_name a b h = let p = parts_are a b h in name_is a b p.0 p.1 p.2

same_names : (a b : TrackName) → (a.month ≡ b.month) × (a.kind ≡ b.kind) × (a.id ≡ b.id) → is_same a b ≡ true
same_names a b h = subst (λ n. is_same a n ≡ true) (name_is a b h.0 h.1 h.2) (same_itself a)

unless_true : (t : Bool) → (t ≡ true → ⊥) → t ≡ false
unless_true true h = absurd (h refl)
unless_true false h = refl

other_month : (name : TrackName) (month : ℕ) → month ≢ name.month → is_same name (record name { month = month }) ≡ false
other_month name month h = unless_true (is_same name (record name { month = month })) (λ t. h (sym (parts_are name (record name { month = month }) t).0))

-- ---- the cell of a name in a list

-- what a test finds is counted
counted : {X : Type 0} (p : X → Bool) (xs : List X) (x : X) (k : ℕ) → k < length xs → get_or xs k x ≡ x → p x ≡ true → 1 ≤ hits p xs
counted p [] x k lt e t = absurd (omega arith)
counted p (y ∷ xs) x zero lt e t =
    let here : p y ≡ true = ap p e ∙ t in
    rw here (omega arith)
counted p (y ∷ xs) x (suc k) lt e t = omega (arith, counted p xs x k (omega arith) e t)

abbrev count : TrackName → List TrackCell → ℕ
count n cs = hits (λ (c : TrackCell). is_same n c.name) cs

first_is : (cs : List TrackCell) (c : TrackCell) (k : ℕ) → k < length cs → get_or cs k c ≡ c → count c.name cs ≤ 1 → value_named cs c.name ≡ Some c.value
first_is [] c k lt e one = absurd (omega arith)
first_is (x ∷ cs) c zero lt e one =
    subst (λ y. cond (is_same c.name y.name) (Some y.value) (value_named cs c.name) ≡ Some c.value) (sym e) (ap (λ t. cond t (Some c.value) (value_named cs c.name)) (same_itself c.name))
first_is (x ∷ cs) c (suc k) lt e one = by (is_same c.name x.name) (counted (λ (d : TrackCell). is_same c.name d.name) cs c k (omega arith) e (same_itself c.name)) (first_is cs c k (omega arith) e) one
  where
    by : (t : Bool) → 1 ≤ count c.name cs → (count c.name cs ≤ 1 → value_named cs c.name ≡ Some c.value) → cond t 1 0 + count c.name cs ≤ 1 → cond t (Some x.value) (value_named cs c.name) ≡ Some c.value
    by true some rest one = absurd (omega arith)
    by false some rest one = rest (omega arith)

abbrev told_as : TrackName → ℤ → TrackCell
told_as name value = record { name = name; value = value }

found_at : (cs : List TrackCell) (n : TrackName) (v : ℤ) → value_named cs n ≡ Some v → Contains cs (record { name = n; value = v })
found_at [] n v h = absurd (cc)
found_at (x ∷ cs) n v h = by (is_same n x.name) refl (found_at cs n v) h
  where
    by : (t : Bool) → is_same n x.name ≡ t → (value_named cs n ≡ Some v → Contains cs (record { name = n; value = v })) → cond t (Some x.value) (value_named cs n) ≡ Some v → Contains (x ∷ cs) (record { name = n; value = v })
    by true e rest k =
        let name : n ≡ x.name = is_name n x.name e in
        let value : x.value ≡ v = cc in
        (0, omega arith, ap (λ m. told_as m x.value) (sym name) ∙ ap (told_as n) value)
    by false e rest k = Contains-append_right (x ∷ []) cs (record { name = n; value = v }) (rest k)

-- ---- each cell is one of the month

module _ (b : Budget) (month : ℕ) where
  lives_in : (m : ℕ) (ls : List LiveCategory) → AllByRecursion (λ (c : TrackCell). c.name.month ≡ month) (live_cells b month m ls)
  lives_in m [] = tt
  lives_in m (l ∷ ls) = (refl, (refl, (refl, (refl, lives_in m ls))))

  all_in : AllByRecursion (λ (c : TrackCell). c.name.month ≡ month) (track_cells b month)
  all_in = (refl, (refl, (refl, (refl, (refl, (refl, (refl, lives_in (month_number month) (live_of b.groups))))))))

  own_month : (c : TrackCell) → Contains (track_cells b month) c → c.name.month ≡ month
  own_month c h = All-contains (λ (d : TrackCell). d.name.month ≡ month) (track_cells b month) c (All-from_recursion (λ (d : TrackCell). d.name.month ≡ month) (track_cells b month) all_in) h

  not_told : (name : TrackName) → name.month ≢ month → value_named (track_cells b month) name ≡ None
  not_told name other = by (value_named (track_cells b month) name) refl
    where
      by : (o : Option ℤ) → value_named (track_cells b month) name ≡ o → o ≡ None
      by None e = refl
      by (Some v) e = absurd (other (own_month (record { name = name; value = v }) (found_at (track_cells b month) name v e)))

-- ---- none stands twice

abbrev one_if : Bool → ℕ
one_if t = cond t 1 0

at_most_one : (t : Bool) → one_if t ≤ 1
at_most_one true = omega arith
at_most_one false = omega arith

-- a name is that of a cell with a kind of this number, where month and id are the same
abbrev at_kind : Bool → Bool → TrackKind → ℕ → ℕ
at_kind t u k n = one_if (t && ((kind_number k == n) && u))

abbrev seven : Bool → Bool → TrackKind → ℕ
seven t u k = at_kind t u k 0 + (at_kind t u k 1 + (at_kind t u k 2 + (at_kind t u k 3 + (at_kind t u k 4 + (at_kind t u k 5 + at_kind t u k 6)))))

abbrev four : Bool → Bool → TrackKind → ℕ
four t u k = at_kind t u k 7 + (at_kind t u k 8 + (at_kind t u k 9 + at_kind t u k 10))

seven_few : (t u : Bool) (k : TrackKind) → seven t u k ≤ one_if (is_of_month k)
seven_few false u k = omega arith
seven_few true u TotalIncome = omega (arith, at_most_one u)
seven_few true u TotalBudgetIncome = omega (arith, at_most_one u)
seven_few true u TotalBudgeted = omega (arith, at_most_one u)
seven_few true u TotalSpent = omega (arith, at_most_one u)
seven_few true u TotalLeftover = omega (arith, at_most_one u)
seven_few true u TotalSaved = omega (arith, at_most_one u)
seven_few true u RealSaved = omega (arith, at_most_one u)
seven_few true u Sum = omega arith
seven_few true u OfBudget = omega arith
seven_few true u Carryover = omega arith
seven_few true u Leftover = omega arith

four_few : (t u : Bool) (k : TrackKind) → four t u k ≤ one_if (not (is_of_month k) && u)
four_few false u k = omega arith
four_few true u TotalIncome = omega arith
four_few true u TotalBudgetIncome = omega arith
four_few true u TotalBudgeted = omega arith
four_few true u TotalSpent = omega arith
four_few true u TotalLeftover = omega arith
four_few true u TotalSaved = omega arith
four_few true u RealSaved = omega arith
four_few true u Sum = omega arith
four_few true u OfBudget = omega arith
four_few true u Carryover = omega arith
four_few true u Leftover = omega arith

module _ (b : Budget) (month m : ℕ) (n : TrackName) where
  -- no more of the cells of categories than there are categories of the id, and none where the kind is of the whole month
  lives_few : (ls : List LiveCategory) → count n (live_cells b month m ls) ≤ hits (λ (l : LiveCategory). not (is_of_month n.kind) && eq_by_cmp text_cmp n.id l.id) ls
  lives_few [] = omega arith
  lives_few (l ∷ ls) = omega (arith, lives_few ls, four_few (n.month == month) (eq_by_cmp text_cmp n.id l.id) n.kind)

  of_side : (on : Bool) (t : Bool) (cs : List Text) (ls : List LiveCategory) → hits (λ (l : LiveCategory). t && eq_by_cmp text_cmp n.id l.id) (live_on on cs ++ ls) ≡ hits (λ (q : Text). t && eq_by_cmp text_cmp n.id q) cs + hits (λ (l : LiveCategory). t && eq_by_cmp text_cmp n.id l.id) ls
  of_side on t [] ls = omega arith
  of_side on t (c ∷ cs) ls = omega (arith, of_side on t cs ls)

  of_groups : (t : Bool) (gs : List BudgetGroup) → hits (λ (l : LiveCategory). t && eq_by_cmp text_cmp n.id l.id) (live_of gs) ≡ hits (λ (q : Text). t && eq_by_cmp text_cmp n.id q) (categories_of gs)
  of_groups t [] = refl
  of_groups t (g ∷ gs) = omega (arith, of_side g.is_income t g.categories (live_of gs), of_groups t gs, hits-append (λ (q : Text). t && eq_by_cmp text_cmp n.id q) g.categories (categories_of gs))

  only_there : (t : Bool) (cs : List Text) → hits (eq_by_cmp text_cmp n.id) cs ≤ 1 → hits (λ (q : Text). t && eq_by_cmp text_cmp n.id q) cs ≤ one_if t
  only_there true cs h = h
  only_there false cs h = none cs
    where
      none : (cs : List Text) → hits (λ (q : Text). false) cs ≤ 0
      none [] = omega arith
      none (c ∷ cs) = omega (arith, none cs)

  never_both : (t : Bool) → one_if t + one_if (not t) ≤ 1
  never_both true = omega arith
  never_both false = omega arith

  cells_once : hits (eq_by_cmp text_cmp n.id) (categories_of b.groups) ≤ 1 → count n (month_cells b month m ++ live_cells b month m (live_of b.groups)) ≤ 1
  cells_once h = omega (arith, seven_few (n.month == month) (eq_by_cmp text_cmp n.id []) n.kind, lives_few (live_of b.groups), of_groups (not (is_of_month n.kind)) b.groups, only_there (not (is_of_month n.kind)) (categories_of b.groups) h, never_both (is_of_month n.kind))

module _ (rows : Rows) (month : ℕ) where
  count_once : (n : TrackName) → count n (sheet rows month) ≤ 1
  count_once n = cells_once (tracked_of rows) month (month_number month) n (categories_once rows n.id)

  stands_once : (front back : List TrackCell) (c d : TrackCell) → sheet rows month ≡ front ++ c ∷ back → Contains back d → d.name ≢ c.name
  stands_once front back c d cut there same =
      let p = λ (x : TrackCell). is_same c.name x.name in
      let all : hits p (front ++ c ∷ back) ≤ 1 = subst (λ xs. hits p xs ≤ 1) cut (count_once c.name) in
      let here : one_if (is_same c.name c.name) ≡ 1 = ap one_if (same_itself c.name) in
      let behind : 1 ≤ hits p back = counted p back d there.0 there.1 there.2 (ap (is_same c.name) same ∙ same_itself c.name) in
      omega (arith, all, hits-append p front (c ∷ back), here, behind)

  tells : (c : TrackCell) → c.name.month ≡ month → value_named (sheet rows month) c.name ≡ track_cell_of (tracked_of rows) c.name
  tells c e = subst (λ k. value_named (sheet rows k) c.name ≡ track_cell_of (tracked_of rows) c.name) e (track_sheets_tell_cells_lem (tracked_of rows) c.name)

  is_told : (c : TrackCell) → Contains (sheet rows month) c → (c.name.month ≡ month) × (track_cell_of (tracked_of rows) c.name ≡ Some c.value)
  is_told c h =
      let own = own_month (tracked_of rows) month c h in
      (own, sym (tells c own) ∙ first_is (sheet rows month) c h.0 h.1 h.2 (count_once c.name))

  is_there : (c : TrackCell) → c.name.month ≡ month → track_cell_of (tracked_of rows) c.name ≡ Some c.value → Contains (sheet rows month) c
  is_there c own told = found_at (sheet rows month) c.name c.value (tells c own ∙ told)

pub sheets_have_months_lem : SheetsHaveMonths
sheets_have_months_lem = record {
  all = λ rows month c. (is_told rows month c, λ h. is_there rows month c h.0 h.1);
  once = stands_once;
  others = λ rows month name h. not_told (tracked_of rows) month name h;
  names = λ a b. (parts_are a b, same_names a b);
  months = other_month;
}
