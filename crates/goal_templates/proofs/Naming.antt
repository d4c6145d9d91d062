-- The writes of a filled month, and why it is refused.
use Rattle.std.proofs.Common.{◌≡◌, ℕ, true, List, [], ◌∷◌, ◌++◌, length, get_or, drop, ◌+◌, ◌<◌, Ok, Err, refl, sym, subst, ap, ap₂, ◌∙◌}
use lib.IntN.{pos}
use Rattle.std.specs.Prelude.{codes, is_some, flat_map}
use Rattle.std.specs.List.{AllByRecursion}
use Rattle.std.specs.FinMap as map
use Rattle.field_values.specs.declared.value.Value.TheVariants.{Number}
use Rattle.finite_sums.specs.Maps.{Text}
use Rattle.book_rows.specs.declared.rows.Rows.{Rows}
use Rattle.book_rows.specs.declared.write.Write.{Write}
use Rattle.book_rows.specs.declared.fault.EditFault.{EditFault}
use Rattle.book_rows.specs.declared.fault.EditFault.TheVariants.{BadMonth}
use Rattle.book_rows.specs.Ids.{budget_id}
use Rattle.book_rows.specs.Months.{is_month}
use Rattle.book_rows.specs.Writes.{IsWrite, AreWrites}
use Rattle.book_edits.specs.Faults.{◌>>=◌, Check, IsEditFault, each}
use Rattle.book_edits.specs.Checks.{a_month, an_amount, a_name}
use Rattle.book_edits.proofs.Passing.{name_of_is, amount_is}
use Rattle.book_edits.proofs.Valid.{inside, passed, was_so, each_was, month_is, all_append}
use Rattle.book_edits.proofs.ValidMappings.{column_writes_valid}
use Rattle.goal_templates.specs.declared.share.Grant.{Grant}
use Rattle.envelope_cells.specs.Budget.{expense}
use Rattle.envelope_cells.specs.BudgetOf.{budget_of}
use Rattle.envelope_cells.proofs.Lists.{from_here}
use Rattle.goal_templates.specs.declared.share.Share.{Share}
use Rattle.goal_templates.specs.Goals.{shares_in, granted, grants, grants_in, grant_writes, may_grant, goal_writes}

module _ (rows : Rows) (month : ℕ) (valid : is_month month ≡ true) where
  grants_valid : (n : ℕ) (gs : List Grant) → AllByRecursion (λ (g : Grant). an_amount g.amount ≡ Ok tt) gs → AllByRecursion (λ (g : Grant). a_name (budget_id g.category month) ≡ Ok tt) gs
      → AllByRecursion (IsWrite n) (flat_map (grant_writes rows month) gs)
  grants_valid n [] amounts named = tt
  grants_valid n (g ∷ gs) amounts named =
      all_append (IsWrite n) (grant_writes rows month g) (flat_map (grant_writes rows month) gs)
      (column_writes_valid n (is_some (map.get rows.budgets (budget_id g.category month))) (codes "zero_budgets") g.category month (codes "amount") (Number g.amount) refl
      (name_of_is (budget_id g.category month) (was_so _ _ _ named.0)) (month_is month valid) refl (amount_is g.amount (was_so _ _ _ amounts.0)))
      (grants_valid n gs amounts.1 named.1)

pub goal_writes_valid : (rows : Rows) (month : ℕ) (ws : List Write) → goal_writes rows month ≡ Ok ws → AreWrites ws
goal_writes_valid rows month ws h =
    let gs = grants_in rows month in
    let m = passed (a_month month) _ _ h in
    let g = passed (may_grant month gs) _ _ m.2 in
    let a = passed (each (λ (g : Grant). an_amount g.amount) gs) _ _ g.1 in
    let all = flat_map (grant_writes rows month) gs in
    subst AreWrites (inside _ _ g.2) (grants_valid rows month (was_so (is_month month) (BadMonth month) m.0 m.1) (length all) gs (each_was _ gs a.0 a.1) (each_was _ gs g.0 a.2))

-- ---- what the code has at hand makes the writes, or their refusal
module _ (rows : Rows) (month : ℕ) (ss : List Share) (cs : List Text) (shares : ss ≡ shares_in rows month) (categories : cs ≡ expense (budget_of rows)) where
  all_grants : grants rows month ss cs ≡ grants_in rows month
  all_grants = ap₂ (grants rows month) shares categories

  pub accepted : (gs : List Grant) (ws : List Write) → a_month month ≡ Ok tt → may_grant month (grants rows month ss cs) ≡ Ok tt → gs ≡ grants rows month ss cs → ws ≡ flat_map (grant_writes rows month) gs
      → goal_writes rows month ≡ Ok ws
  accepted gs ws valid may is made =
      ap (λ (c : Check). c >>= λ _. may_grant month (grants_in rows month) >>= λ _. Ok (flat_map (grant_writes rows month) (grants_in rows month))) valid
      ∙ ap (λ (c : Check). c >>= λ _. Ok (flat_map (grant_writes rows month) (grants_in rows month))) (ap (may_grant month) (sym all_grants) ∙ may)
      ∙ ap (λ (xs : List Grant). Ok (flat_map (grant_writes rows month) xs)) (sym (is ∙ all_grants)) ∙ ap Ok (sym made)

  pub refused : (fault : EditFault) → a_month month ≡ Ok tt → IsEditFault (may_grant month (grants rows month ss cs)) fault → IsEditFault (goal_writes rows month) fault
  refused fault valid due memory =
      ap (λ (c : Check). c >>= λ _. may_grant month (grants_in rows month) >>= λ _. Ok (flat_map (grant_writes rows month) (grants_in rows month))) valid
      ∙ ap (λ (c : Check). c >>= λ _. Ok (flat_map (grant_writes rows month) (grants_in rows month))) (ap (may_grant month) (sym all_grants) ∙ due memory)

-- a row that has no name refuses
pub nameless : (month : ℕ) (all gs : List Grant) (fault : EditFault) → gs ≡ all → each (λ (g : Grant). an_amount g.amount) all ≡ Ok tt
    → IsEditFault (each (λ (g : Grant). a_name (budget_id g.category month)) gs) fault → IsEditFault (may_grant month all) fault
nameless month all gs fault same amounts due memory =
    ap (λ (r : Check). r >>= λ _. each (λ (g : Grant). a_name (budget_id g.category month)) all) amounts
    ∙ subst (λ (xs : List Grant). each (λ (g : Grant). a_name (budget_id g.category month)) xs ≡ Err fault) same (due memory)

-- ---- checks of one list after the other
module _ (check : Grant → Check) where
  each_goes : (xs ys : List Grant) → each check xs ≡ Ok tt → each check (xs ++ ys) ≡ each check ys
  each_goes [] ys h = refl
  each_goes (x ∷ xs) ys h =
      let p = passed (check x) _ _ h in
      ap (λ (r : Check). r >>= λ _. each check (xs ++ ys)) p.1 ∙ each_goes xs ys p.2

  each_stops : (xs ys : List Grant) (fault : EditFault) → each check xs ≡ Err fault → each check (xs ++ ys) ≡ Err fault
  each_stops [] ys fault h = absurd (cc)
  each_stops (x ∷ xs) ys fault h = by (each_stops xs ys fault) (check x) h
    where
      by : (each check xs ≡ Err fault → each check (xs ++ ys) ≡ Err fault) → (o : Check) → (o >>= λ _. each check xs) ≡ Err fault → (o >>= λ _. each check (xs ++ ys)) ≡ Err fault
      by more (Ok u) k = more k
      by more (Err f) k = k

abbrev has_amount : Grant → Check
has_amount g = an_amount g.amount

module _ (rows : Rows) (month : ℕ) (ss : List Share) (cs : List Text) (i : ℕ) (c : Text) (within : i < length cs) (is : c ≡ get_or cs i c) where
  abbrev rest : List Grant
  rest = grants rows month ss (drop (i + 1) cs)

  here : each has_amount (grants rows month ss (drop i cs)) ≡ each has_amount (granted rows month ss c ++ rest)
  here = ap (λ (xs : List Text). each has_amount (grants rows month ss xs)) (from_here cs i c within is)

  -- a grant whose amount a value holds, and one whose amount none holds
  pub one_held : each has_amount (granted rows month ss c) ≡ Ok tt → each has_amount (grants rows month ss (drop i cs)) ≡ each has_amount (grants rows month ss cs) → each has_amount rest ≡ each has_amount (grants rows month ss cs)
  one_held ok before = sym (each_goes has_amount (granted rows month ss c) rest ok) ∙ sym here ∙ before

  pub one_not_held : (fault : EditFault) → each has_amount (grants rows month ss (drop i cs)) ≡ each has_amount (grants rows month ss cs) → IsEditFault (each has_amount (granted rows month ss c)) fault → IsEditFault (each has_amount (grants rows month ss cs)) fault
  one_not_held fault before due memory = sym before ∙ here ∙ each_stops has_amount (granted rows month ss c) rest fault (due memory)
