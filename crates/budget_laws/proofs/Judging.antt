-- The filling of a month is refused with the first fault of what it asks for.
use Rattle.std.proofs.Common.{◌≡◌, ℕ, Bool, true, false, cond, List, [], ◌∷◌, ◌++◌, Option, Result, Ok, Err, refl, sym, ap, ◌∙◌}
use Rattle.std.specs.Prelude.{◌||◌, ◌&&◌, not, unsigned_abs, nat_le, filter, flat_map, map as list_map}
use Rattle.std.specs.Option.{is_none}
use Rattle.std.specs.Ordering.{eq_by_cmp, int_eq}
use lib.IntN.{ℤ}
use Rattle.field_values.specs.declared.name.NamePart.TheVariants.{Row}
use Rattle.field_values.specs.Names.{name_fault}
use Rattle.field_values.specs.Value.{largest_number}
use Rattle.finite_sums.specs.Maps.{Text, text_cmp}
use Rattle.book_rows.specs.declared.rows.Rows.{Rows}
use Rattle.book_rows.specs.declared.write.Write.{Write}
use Rattle.book_rows.specs.declared.fault.EditFault.{EditFault}
use Rattle.book_rows.specs.declared.fault.EditFault.TheVariants.{BadId, BadAmount, BadMonth}
use Rattle.book_rows.specs.Ids.{budget_id}
use Rattle.book_rows.specs.Months.{is_month}
use Rattle.book_edits.specs.Faults.{◌>>=◌, Check, must, each}
use Rattle.book_edits.specs.Checks.{an_amount, a_name}
use Rattle.envelope_cells.specs.Budget.{expense}
use Rattle.envelope_cells.specs.BudgetOf.{budget_of, budgeted}
use Rattle.envelope_cells.specs.Ids.{month_number}
use Rattle.goal_templates.specs.declared.share.Share.{Share}
use Rattle.goal_templates.specs.declared.share.Asked.{Asked}
use Rattle.goal_templates.specs.declared.share.Grant.{Grant}
use Rattle.goal_templates.specs.Wanted.{want_of}
use Rattle.goal_templates.specs.Notes.{templates}
use Rattle.goal_templates.specs.Sharing.{Wants, put, in_order, is_of, share_of, shared, shares, has_share}
use Rattle.goal_templates.specs.Allocation.{has_template, shared_money}
use Rattle.goal_templates.specs.Goals.{shares_in, differs, grants, grant_writes, may_grant, goal_writes}
use Rattle.book_laws.specs.Asking.{unless, fault_of, first_fault}
use Rattle.book_laws.proofs.Asked.{asks, at_end}
use Rattle.budget_laws.specs.Judging.{given, written, asked, GoalsAreJudged}

-- ---- checks one after the other
module _ {A : Type 0} where
  in_turn : (a b : Check) (c : Result A EditFault) → fault_of ((a >>= λ _. b) >>= λ _. c) ≡ fault_of (a >>= λ _. (b >>= λ _. c))
  in_turn (Ok u) b c = refl
  in_turn (Err f) b c = refl

  each_asks : {X : Type 0} (so : X → Bool) (fault : X → EditFault) (xs : List X) (go : Result A EditFault) (others : List (Option EditFault)) → fault_of go ≡ first_fault others
      → fault_of (each (λ (x : X). must (so x) (fault x)) xs >>= λ _. go) ≡ first_fault (list_map (λ (x : X). unless (so x) (fault x)) xs ++ others)
  each_asks so fault [] go others h = h
  each_asks so fault (x ∷ xs) go others h =
      in_turn (must (so x) (fault x)) (each (λ x. must (so x) (fault x)) xs) go
      ∙ asks (so x) (fault x) (each (λ x. must (so x) (fault x)) xs >>= λ _. go) (list_map (λ x. unless (so x) (fault x)) xs ++ others) (each_asks so fault xs go others h)

-- ---- a category has a share where it has a template
or_true : (a b : Bool) → cond a true b ≡ (a || b)
or_true true b = refl
or_true false b = refl

or_swap : (a b c : Bool) → (a || (b || c)) ≡ (b || (a || c))
or_swap true true c = refl
or_swap true false c = refl
or_swap false true c = refl
or_swap false false c = refl

or_last : (a b c : Bool) → ((a || b) || c) ≡ (a || (b || c))
or_last true b c = refl
or_last false b c = refl

or_nothing : (a : Bool) → (a || false) ≡ a
or_nothing true = refl
or_nothing false = refl

has_next : (ss : List Share) (s : Share) (c : Text) → has_share (ss ++ s ∷ []) c ≡ (has_share ss c || is_of c s)
has_next [] s c = or_true (is_of c s) false ∙ or_nothing (is_of c s)
has_next (r ∷ ss) s c =
    ap (cond (is_of c r) true) (has_next ss s c) ∙ or_true (is_of c r) (has_share ss c || is_of c s) ∙ sym (or_last (is_of c r) (has_share ss c) (is_of c s))
    ∙ ap (λ t. t || is_of c s) (sym (or_true (is_of c r) (has_share ss c)))

put_has : (x : Asked) (ys : List Asked) (c : Text) → has_template (put x ys) c ≡ (eq_by_cmp text_cmp x.category c || has_template ys c)
put_has x [] c = refl
put_has x (y ∷ ys) c = by (nat_le x.template.priority y.template.priority) (put_has x ys c)
  where
    by : (b : Bool) → has_template (put x ys) c ≡ (eq_by_cmp text_cmp x.category c || has_template ys c)
        → has_template (cond b (x ∷ y ∷ ys) (y ∷ put x ys)) c ≡ (eq_by_cmp text_cmp x.category c || (eq_by_cmp text_cmp y.category c || has_template ys c))
    by true g = refl
    by false g = ap (λ t. eq_by_cmp text_cmp y.category c || t) g ∙ or_swap (eq_by_cmp text_cmp y.category c) (eq_by_cmp text_cmp x.category c) (has_template ys c)

order_has : (xs : List Asked) (c : Text) → has_template (in_order xs) c ≡ has_template xs c
order_has [] c = refl
order_has (x ∷ xs) c = put_has x (in_order xs) c ∙ ap (λ t. eq_by_cmp text_cmp x.category c || t) (order_has xs c)

shared_has : (wants : Wants) (money : ℤ) (xs : List Asked) (done : List Share) (c : Text) → has_share (shared wants money done xs) c ≡ (has_share done c || has_template xs c)
shared_has wants money [] done c = sym (or_nothing (has_share done c))
shared_has wants money (x ∷ xs) done c =
    shared_has wants money xs (done ++ share_of wants money done x ∷ []) c ∙ ap (λ t. t || has_template xs c) (has_next done (share_of wants money done x) c)
    ∙ or_last (has_share done c) (eq_by_cmp text_cmp x.category c) (has_template xs c)

shares_have : (wants : Wants) (money : ℤ) (xs : List Asked) (c : Text) → has_share (shares wants money xs) c ≡ has_template xs c
shares_have wants money xs c = shared_has wants money (in_order xs) [] c ∙ order_has xs c

-- ---- what is written
module _ (rows : Rows) (month : ℕ) where
  abbrev grant : Text → Grant
  grant c = record { category = c; amount = given rows month c }

  abbrev is_written : Text → Bool
  is_written c = has_template (templates rows) c && not (int_eq (given rows month c) (budgeted rows c month))

  differs_is : (c : Text) → differs rows month (shares_in rows month) c ≡ is_written c
  differs_is c = ap (λ t. t && not (int_eq (given rows month c) (budgeted rows c month)))
      (shares_have (want_of (budget_of rows) (month_number month)) (shared_money (budget_of rows) (month_number month) (templates rows)) (templates rows) c)

  grants_are : (cs : List Text) → grants rows month (shares_in rows month) cs ≡ list_map grant (filter is_written cs)
  grants_are [] = refl
  grants_are (c ∷ cs) = ap (λ t. cond t (grant c ∷ []) [] ++ grants rows month (shares_in rows month) cs) (differs_is c) ∙ by (is_written c) (grants_are cs)
    where
      by : (t : Bool) → grants rows month (shares_in rows month) cs ≡ list_map grant (filter is_written cs)
          → cond t (grant c ∷ []) [] ++ grants rows month (shares_in rows month) cs ≡ list_map grant (cond t (c ∷ filter is_written cs) (filter is_written cs))
      by true h = ap (λ gs. grant c ∷ gs) h
      by false h = h

  -- what is judged, where these are given
  abbrev filled : List Grant → Result (List Write) EditFault
  filled gs = must (is_month month) (BadMonth month) >>= λ _. (may_grant month gs >>= λ _. Ok (flat_map (grant_writes rows month) gs))

  abbrev amounts : List Grant → List (Option EditFault)
  amounts gs = list_map (λ (g : Grant). unless (nat_le (unsigned_abs g.amount) largest_number) (BadAmount g.amount)) gs

  abbrev names : List Grant → List (Option EditFault)
  names gs = list_map (λ (g : Grant). unless (is_none (name_fault Row (budget_id g.category month))) (BadId (budget_id g.category month))) gs

  judged_with : (gs : List Grant) → fault_of (filled gs) ≡ first_fault (unless (is_month month) (BadMonth month) ∷ (amounts gs ++ names gs))
  judged_with gs =
      asks (is_month month) (BadMonth month) _ _
      (in_turn (each (λ (g : Grant). an_amount g.amount) gs) (each (λ (g : Grant). a_name (budget_id g.category month)) gs) (Ok (flat_map (grant_writes rows month) gs))
      ∙ each_asks (λ (g : Grant). nat_le (unsigned_abs g.amount) largest_number) (λ (g : Grant). BadAmount g.amount) gs _ _
      (each_asks (λ (g : Grant). is_none (name_fault Row (budget_id g.category month))) (λ (g : Grant). BadId (budget_id g.category month)) gs (Ok (flat_map (grant_writes rows month) gs)) [] refl
      ∙ ap first_fault (at_end (names gs))))

  amounts_are : (cs : List Text) → amounts (list_map grant cs) ≡ list_map (λ c. unless (nat_le (unsigned_abs (given rows month c)) largest_number) (BadAmount (given rows month c))) cs
  amounts_are [] = refl
  amounts_are (c ∷ cs) = ap (λ os. unless (nat_le (unsigned_abs (given rows month c)) largest_number) (BadAmount (given rows month c)) ∷ os) (amounts_are cs)

  names_are : (cs : List Text) → names (list_map grant cs) ≡ list_map (λ c. unless (is_none (name_fault Row (budget_id c month))) (BadId (budget_id c month))) cs
  names_are [] = refl
  names_are (c ∷ cs) = ap (λ os. unless (is_none (name_fault Row (budget_id c month))) (BadId (budget_id c month)) ∷ os) (names_are cs)

  judged : fault_of (goal_writes rows month) ≡ first_fault (asked rows month)
  judged =
      ap (λ gs. fault_of (filled gs)) (grants_are (expense (budget_of rows)))
      ∙ judged_with (list_map grant (written rows month))
      ∙ ap (λ os. first_fault (unless (is_month month) (BadMonth month) ∷ (os ++ names (list_map grant (written rows month))))) (amounts_are (written rows month))
      ∙ ap (λ os. first_fault (unless (is_month month) (BadMonth month)
      ∷ (list_map (λ c. unless (nat_le (unsigned_abs (given rows month c)) largest_number) (BadAmount (given rows month c))) (written rows month) ++ os))) (names_are (written rows month))

pub goals_judged : GoalsAreJudged
goals_judged = judged
