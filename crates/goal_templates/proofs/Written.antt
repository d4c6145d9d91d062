-- The rows after the writes of grants.
use Rattle.std.proofs.Common.{◌≡◌, ℕ, Bool, true, false, cond, List, [], ◌∷◌, ◌++◌, Option, None, Some, refl, sym, subst, ap, ◌∙◌, drop}
use lib.IntN.{ℤ, pos}
use Rattle.std.specs.Prelude.{◌≢◌, ◌&&◌, ◌||◌, not, is_some, unwrap_or, flat_map, map as list_map, if◌then◌else◌}
use Rattle.std.specs.List.{AllByRecursion}
use Rattle.std.specs.Ordering.{int_eq, eq_by_cmp}
use Rattle.std.specs.FinMap.{get, insert, get-insert, same_map}
use Rattle.std.proofs.lemmas.Bool.Decides.{Decides-int_eq}
use Rattle.field_values.specs.declared.value.Value.{Value}
use Rattle.field_values.specs.declared.value.Value.TheVariants.{Number, Text as IsText}
use Rattle.finite_sums.specs.Maps.{Text, Texts, text_cmp, some_and, value_or_zero, is_among, AreDistinct}
use Rattle.finite_sums.proofs.Texts.{text_total, text_same}
use Rattle.book_rows.specs.declared.column.Dataset.TheVariants.{ZeroBudgets}
use Rattle.book_rows.specs.declared.column.Column.{Column}
use Rattle.book_rows.specs.declared.column.Column.TheVariants as of
use Rattle.book_rows.specs.declared.rows.Rows.{Rows}
use Rattle.book_rows.specs.declared.rows.BudgetRow.{BudgetRow}
use Rattle.book_rows.specs.declared.write.RowName.TheVariants.{Given}
use Rattle.book_rows.specs.declared.write.WriteValue.TheVariants.{Plain}
use Rattle.book_rows.specs.declared.write.Write.{Write}
use Rattle.book_rows.specs.Columns.{dataset_name, column_name, column_of}
use Rattle.book_rows.specs.Ids.{budget_id}
use Rattle.book_rows.specs.Rows.{with_cell, with_known}
use Rattle.book_rows.specs.Rules.{budget_table}
use Rattle.book_rows.specs.Tables.{Table, blank_row, with_column}
use Rattle.book_rows.proofs.Naming.{dataset_found, column_found}
use Rattle.book_edits.specs.Checks.{same_id}
use Rattle.book_edits.specs.Budgets.{budgeted}
use Rattle.split_transfer.specs.After.{Ids, with_write, with_writes}
use Rattle.split_transfer.proofs.After.{with_writes-append}
use Rattle.split_transfer.proofs.Basics.{bool_cases, same_refl, same_is, not_same, is_other, or_left, or_right}
use Rattle.goal_templates.specs.declared.share.Share.{Share}
use Rattle.goal_templates.specs.declared.share.Grant.{Grant}
use Rattle.goal_templates.specs.Sharing.{got, has_share}
use Rattle.goal_templates.specs.Goals.{differs, granted, grants, grant_writes}

-- ---- a row that is written twice
put_twice : {Row : Type 0} (m : Texts Row) (k : Text) (x y : Row) → insert (insert m k x) k y ≡ insert m k y
put_twice {Row} m k x y = same_map text_total text_same _ _ (λ q.
    get-insert text_total (insert m k x) k y q
    ∙ ap (cond (same_id q k) (Some y)) (get-insert text_total m k x q)
    ∙ by (same_id q k) (get m q)
    ∙ sym (get-insert text_total m k y q))
  where
    by : (b : Bool) (o : Option Row) → cond b (Some y) (cond b (Some x) o) ≡ cond b (Some y) o
    by true o = refl
    by false o = refl

module _ {Row : Type 0} (T : Table Row) (k : Text) (c : Column) (v : Value) (m : Texts Row) where
  one_more : (x : Row) → is_some (T.kind c) ≡ true → with_column T k c v (insert m k x) ≡ insert m k (T.set c v x)
  one_more x h =
      ap (λ b. cond b (insert (insert m k x) k (T.set c v (unwrap_or (get (insert m k x) k) (blank_row T k)))) (insert m k x)) h
      ∙ ap (λ o. insert (insert m k x) k (T.set c v (unwrap_or o (blank_row T k)))) (get-insert text_total m k x k ∙ ap (λ b. cond b (Some x) (get m k)) (same_refl k))
      ∙ put_twice m k x (T.set c v x)

-- ---- the row of one grant
abbrev pub new_row : ℕ → Text → BudgetRow
new_row month c = record { id = budget_id c month; month = pos month; category = Some c; amount = pos 0; carryover = false }

abbrev pub given_row : ℕ → Grant → Option BudgetRow → BudgetRow
given_row month g o = record (unwrap_or o (new_row month g.category)) { amount = g.amount }

abbrev pub with_grant : ℕ → Texts BudgetRow → Grant → Texts BudgetRow
with_grant month bs g = insert bs (budget_id g.category month) (given_row month g (get bs (budget_id g.category month)))

abbrev pub with_grants : ℕ → Texts BudgetRow → List Grant → Texts BudgetRow
with_grants month bs [] = bs
with_grants month bs (g ∷ gs) = with_grants month (with_grant month bs g) gs

abbrev put : Rows → Texts BudgetRow → Rows
put s bs = record s { budgets = bs }

module _ (ids : Ids) (month : ℕ) (g : Grant) (s : Rows) where
  abbrev key : Text
  key = budget_id g.category month

  abbrev into : Column → Value → Write
  into c v = record { dataset = dataset_name ZeroBudgets; row = Given key; column = column_name c; value = Plain v }

  cell : (r : Rows) (c : Column) (v : Value) → with_write ids r (into c v) ≡ with_cell ZeroBudgets key c v r
  cell r c v =
      ap (λ x. with_known x (column_of (column_name c)) key v r) (dataset_found ZeroBudgets)
      ∙ ap (λ x. with_known (Some ZeroBudgets) x key v r) (column_found c)

  abbrev at : BudgetRow → Rows
  at b = put s (insert s.budgets key b)

  step : (c : Column) (v : Value) (b : BudgetRow) → is_some (budget_table.kind c) ≡ true → with_write ids (at b) (into c v) ≡ at (budget_table.set c v b)
  step c v b h = cell (at b) c v ∙ ap (put s) (one_more budget_table key c v s.budgets b h)

  first : (c : Column) (v : Value) → is_some (budget_table.kind c) ≡ true → with_write ids s (into c v) ≡ at (budget_table.set c v (unwrap_or (get s.budgets key) (blank_row budget_table key)))
  first c v h =
      cell s c v
      ∙ ap (λ b. put s (cond b (insert s.budgets key (budget_table.set c v (unwrap_or (get s.budgets key) (blank_row budget_table key)))) s.budgets)) h

  by_row : (o : Option BudgetRow) → get s.budgets key ≡ o
      → with_writes ids s ((if is_some o then [] else into of.Month (Number (pos month)) ∷ into of.Category (IsText g.category) ∷ []) ++ into of.Amount (Number g.amount) ∷ [])
      ≡ at (given_row month g o)
  by_row (Some b) e = first of.Amount (Number g.amount) refl ∙ ap (λ o. at (budget_table.set of.Amount (Number g.amount) (unwrap_or o (blank_row budget_table key)))) e
  by_row None e =
      let w : Write = into of.Category (IsText g.category) in
      let last : Write = into of.Amount (Number g.amount) in
      ap (λ (t : Rows). with_writes ids t (w ∷ last ∷ [])) (first of.Month (Number (pos month)) refl ∙ ap (λ o. at (budget_table.set of.Month (Number (pos month)) (unwrap_or o (blank_row budget_table key)))) e)
      ∙ ap (λ (t : Rows). with_writes ids t (last ∷ [])) (step of.Category (IsText g.category) (budget_table.set of.Month (Number (pos month)) (blank_row budget_table key)) refl)
      ∙ step of.Amount (Number g.amount) (new_row month g.category) refl

  -- the writes of a grant, over rows in which its own row is as it was
  one_written : (r : Rows) → get s.budgets key ≡ get r.budgets key → with_writes ids s (grant_writes r month g) ≡ put s (with_grant month s.budgets g)
  one_written r e = by_row (get r.budgets key) e ∙ ap (λ o. at (given_row month g o)) (sym e)

-- ---- all of them
abbrev of_all : List Grant → List Text
of_all gs = list_map (λ (g : Grant). g.category) gs

two_keys : (month : ℕ) (from to : Text) → same_id from to ≡ false → same_id (budget_id to month) (budget_id from month) ≡ false
two_keys month from to h = not_same (budget_id to month) (budget_id from month) (λ e. is_other from to h (sym (ap (drop 7) e)))

no_or : (a b : Bool) → (a || b) ≡ false → (a ≡ false) × (b ≡ false)
no_or true b h = absurd (cc)
no_or false b h = (refl, h)

abbrev Fresh : Rows → ℕ → Texts BudgetRow → List Grant → Type 0
Fresh r month bs gs = AllByRecursion (λ (g : Grant). get bs (budget_id g.category month) ≡ get r.budgets (budget_id g.category month)) gs

still_fresh : (r : Rows) (month : ℕ) (bs : Texts BudgetRow) (g : Grant) (gs : List Grant) → is_among text_cmp (of_all gs) g.category ≡ false → Fresh r month bs gs → Fresh r month (with_grant month bs g) gs
still_fresh r month bs g [] d h = tt
still_fresh r month bs g (x ∷ xs) d h =
    let p = no_or (eq_by_cmp text_cmp g.category x.category) (is_among text_cmp (of_all xs) g.category) d in
    let row = given_row month g (get bs (budget_id g.category month)) in (
      get-insert text_total bs (budget_id g.category month) row (budget_id x.category month)
          ∙ ap (λ b. cond b (Some row) (get bs (budget_id x.category month))) (two_keys month g.category x.category p.0) ∙ h.0,
      still_fresh r month bs g xs p.1 h.1,
    )

pub all_written : (ids : Ids) (r : Rows) (month : ℕ) (gs : List Grant) (s : Rows) → AreDistinct text_cmp (of_all gs) → Fresh r month s.budgets gs
    → with_writes ids s (flat_map (grant_writes r month) gs) ≡ put s (with_grants month s.budgets gs)
all_written ids r month [] s d h = refl
all_written ids r month (g ∷ gs) s d h =
    with_writes-append ids s (grant_writes r month g) (flat_map (grant_writes r month) gs)
    ∙ ap (λ (t : Rows). with_writes ids t (flat_map (grant_writes r month) gs)) (one_written ids month g s r h.0)
    ∙ all_written ids r month gs (put s (with_grant month s.budgets g)) d.1 (still_fresh r month s.budgets g gs d.0 h.1)

-- ---- what becomes of a row
abbrev pub row_after : ℕ → Text → List Grant → Option BudgetRow → Option BudgetRow
row_after month id [] o = o
row_after month id (g ∷ gs) o = row_after month id gs (cond (same_id id (budget_id g.category month)) (Some (given_row month g o)) o)

got_one : (month : ℕ) (bs : Texts BudgetRow) (g : Grant) (id : Text)
    → get (with_grant month bs g) id ≡ cond (same_id id (budget_id g.category month)) (Some (given_row month g (get bs id))) (get bs id)
got_one month bs g id =
    get-insert text_total bs (budget_id g.category month) (given_row month g (get bs (budget_id g.category month))) id
    ∙ by (same_id id (budget_id g.category month)) refl
  where
    by : (b : Bool) → same_id id (budget_id g.category month) ≡ b
        → cond b (Some (given_row month g (get bs (budget_id g.category month)))) (get bs id) ≡ cond b (Some (given_row month g (get bs id))) (get bs id)
    by true e = ap (λ k. Some (given_row month g (get bs k))) (sym (same_is id (budget_id g.category month) e))
    by false e = refl

pub get-with_grants : (month : ℕ) (gs : List Grant) (bs : Texts BudgetRow) (id : Text) → get (with_grants month bs gs) id ≡ row_after month id gs (get bs id)
get-with_grants month [] bs id = refl
get-with_grants month (g ∷ gs) bs id = get-with_grants month gs (with_grant month bs g) id ∙ ap (row_after month id gs) (got_one month bs g id)

-- whether it carries over stays as it is
pub carries_after : (month : ℕ) (id : Text) (gs : List Grant) (o : Option BudgetRow) → some_and (λ (b : BudgetRow). b.carryover) (row_after month id gs o) ≡ some_and (λ (b : BudgetRow). b.carryover) o
carries_after month id [] o = refl
carries_after month id (g ∷ gs) o =
    carries_after month id gs (cond (same_id id (budget_id g.category month)) (Some (given_row month g o)) o) ∙ by (same_id id (budget_id g.category month)) o
  where
    by : (b : Bool) (o : Option BudgetRow) → some_and (λ (b : BudgetRow). b.carryover) (cond b (Some (given_row month g o)) o) ≡ some_and (λ (b : BudgetRow). b.carryover) o
    by true None = refl
    by true (Some x) = refl
    by false o = refl

-- ---- the grants of a month
module _ (r : Rows) (month : ℕ) (ss : List Share) where
  abbrev all : List Text → List Grant
  all cs = grants r month ss cs

  out_of : (cs : List Text) (q : Text) → is_among text_cmp cs q ≡ false → is_among text_cmp (of_all (all cs)) q ≡ false
  out_of [] q h = refl
  out_of (c ∷ cs) q h =
      let p = no_or (eq_by_cmp text_cmp q c) (is_among text_cmp cs q) h in
      by p.0 (out_of cs q p.1) (differs r month ss c)
    where
      by : eq_by_cmp text_cmp q c ≡ false → is_among text_cmp (of_all (all cs)) q ≡ false → (t : Bool)
          → is_among text_cmp (of_all (cond t (record { category = c; amount = got c ss } ∷ []) [] ++ all cs)) q ≡ false
      by other rest true = ap (λ b. b || is_among text_cmp (of_all (all cs)) q) other ∙ rest
      by other rest false = rest

  pub grants_distinct : (cs : List Text) → AreDistinct text_cmp cs → AreDistinct text_cmp (of_all (all cs))
  grants_distinct [] d = tt
  grants_distinct (c ∷ cs) d = by (out_of cs c d.0) (grants_distinct cs d.1) (differs r month ss c)
    where
      by : is_among text_cmp (of_all (all cs)) c ≡ false → AreDistinct text_cmp (of_all (all cs)) → (t : Bool)
          → AreDistinct text_cmp (of_all (cond t (record { category = c; amount = got c ss } ∷ []) [] ++ all cs))
      by out rest true = (out, rest)
      by out rest false = rest

  pub all_fresh : (gs : List Grant) → Fresh r month r.budgets gs
  all_fresh [] = tt
  all_fresh (g ∷ gs) = (refl, all_fresh gs)

  -- a row that belongs to none of them stays
  pub untouched : (cs : List Text) (id : Text) (o : Option BudgetRow)
      → ((c : Text) → is_among text_cmp cs c ≡ true → differs r month ss c ≡ true → id ≢ budget_id c month) → row_after month id (all cs) o ≡ o
  untouched [] id o h = refl
  untouched (c ∷ cs) id o h = by (untouched cs id o (λ q k. h q (or_right (eq_by_cmp text_cmp q c) (is_among text_cmp cs q) k))) (differs r month ss c) refl
    where
      by : row_after month id (all cs) o ≡ o → (t : Bool) → differs r month ss c ≡ t → row_after month id (cond t (record { category = c; amount = got c ss } ∷ []) [] ++ all cs) o ≡ o
      by rest true e =
          let g : Grant = record { category = c; amount = got c ss } in
          let other : same_id id (budget_id c month) ≡ false = not_same id (budget_id c month) (h c (or_left (eq_by_cmp text_cmp c c) (is_among text_cmp cs c) (same_refl c)) e) in
          ap (λ b. row_after month id (all cs) (cond b (Some (given_row month g o)) o)) other ∙ rest
      by rest false e = rest

  -- the row of a category with a share then has what it got
  abbrev amount : Option BudgetRow → ℤ
  amount o = value_or_zero (λ (b : BudgetRow). b.amount) o

  away : (c : Text) (cs : List Text) → is_among text_cmp cs c ≡ false → (q : Text) → is_among text_cmp cs q ≡ true → budget_id c month ≢ budget_id q month
  away c cs out q k e = absurd (let same : c ≡ q = ap (drop 7) e in let bad : false ≡ true = sym out ∙ ap (is_among text_cmp cs) same ∙ k in cc)

  not_so : (z y : ℤ) → not (int_eq z y) ≡ false → z ≡ y
  not_so z y h = (Decides-int_eq z y).0 (bool_cases (int_eq z y) (λ t. t) (λ f. absurd (let bad : true ≡ false = sym (ap not f) ∙ h in cc)))

  given_here : (c : Text) (cs : List Text) (o : Option BudgetRow) → is_among text_cmp cs c ≡ false → has_share ss c ≡ true → amount o ≡ budgeted r c month
      → amount (row_after month (budget_id c month) (all (c ∷ cs)) o) ≡ got c ss
  given_here c cs o out some e = by (differs r month ss c) refl
    where
      by : (t : Bool) → differs r month ss c ≡ t → amount (row_after month (budget_id c month) (cond t (record { category = c; amount = got c ss } ∷ []) [] ++ all cs) o) ≡ got c ss
      by true d =
          let g : Grant = record { category = c; amount = got c ss } in
          ap (λ b. amount (row_after month (budget_id c month) (all cs) (cond b (Some (given_row month g o)) o))) (same_refl (budget_id c month))
          ∙ ap amount (untouched cs (budget_id c month) (Some (given_row month g o)) (λ q k _. away c cs out q k))
      by false d =
          let same : not (int_eq (got c ss) (budgeted r c month)) ≡ false = sym (ap (λ t. t && not (int_eq (got c ss) (budgeted r c month))) some) ∙ d in
          ap amount (untouched cs (budget_id c month) o (λ q k _. away c cs out q k)) ∙ e ∙ sym (not_so (got c ss) (budgeted r c month) same)

  pub given_at : (cs : List Text) → AreDistinct text_cmp cs → (c : Text) → is_among text_cmp cs c ≡ true → has_share ss c ≡ true → (o : Option BudgetRow) → amount o ≡ budgeted r c month
      → amount (row_after month (budget_id c month) (all cs) o) ≡ got c ss
  given_at [] d c k some o e = absurd (cc)
  given_at (x ∷ xs) d c k some o e = by (λ l. given_at xs d.1 c l some o e) (eq_by_cmp text_cmp c x) refl k
    where
      step : amount (row_after month (budget_id c month) (all xs) o) ≡ got c ss → eq_by_cmp text_cmp c x ≡ false → (t : Bool)
          → amount (row_after month (budget_id c month) (cond t (record { category = x; amount = got x ss } ∷ []) [] ++ all xs) o) ≡ got c ss
      step rest other true =
          let g : Grant = record { category = x; amount = got x ss } in
          let apart : same_id (budget_id c month) (budget_id x month) ≡ false = not_same (budget_id c month) (budget_id x month) (λ s. is_other c x other (ap (drop 7) s)) in
          ap (λ b. amount (row_after month (budget_id c month) (all xs) (cond b (Some (given_row month g o)) o))) apart ∙ rest
      step rest other false = rest

      by : (is_among text_cmp xs c ≡ true → amount (row_after month (budget_id c month) (all xs) o) ≡ got c ss)
          → (t : Bool) → eq_by_cmp text_cmp c x ≡ t → (t || is_among text_cmp xs c) ≡ true → amount (row_after month (budget_id c month) (all (x ∷ xs)) o) ≡ got c ss
      by rest true same l =
          let is : c ≡ x = same_is c x same in
          ap (λ q. amount (row_after month (budget_id c month) (all (q ∷ xs)) o)) (sym is)
          ∙ given_here c xs o (ap (is_among text_cmp xs) is ∙ d.0) some e
      by rest false other l = step (rest l) other (differs r month ss x)
