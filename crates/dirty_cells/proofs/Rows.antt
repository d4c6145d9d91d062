-- The cells of one id, from those of its months.
use Rattle.std.proofs.Common.{◌≡◌, ℕ, inl, inr, true, false, cond, List, [], ◌∷◌, ◌++◌, Option, None, Some, refl, sym, ap, ◌∙◌, Ordering, Less, Equal, Greater}
use lib.IntN.{ℤ}
use Rattle.std.specs.Prelude.{unwrap_or}
use Rattle.std.proofs.Math.Path.{fun_ext}
use Rattle.std.specs.Ordering.{is_eq, eq_by_cmp, ordering_then, nat_cmp}
use Rattle.std.specs.Cmp.{nat_cmp_total, eq_by_cmp_equiv}
use Rattle.std.specs.BTreeMap.{is_at}
use Rattle.std.specs.Map.{lookup}
use Rattle.std.proofs.lemmas.Bool.{cases_Bool}
use Rattle.std.specs.FinMap.{empty, get, get-empty, get-insert, get-remove, nat_cmp-IsAntisymmetric}
use Rattle.envelope_cells.specs.Names.{kind_number}
use Rattle.envelope_cells.specs.declared.name.CellKind.{CellKind}
use Rattle.envelope_cells.specs.declared.name.CellKind.TheVariants.{TotalIncome, FromLastMonth, AvailableFunds, LastMonthOverspent, TotalBudgeted, Buffered, ToBudget, TotalSpent, TotalLeftover, GroupSum, GroupBudget, GroupLeftover, Sum, Budget as OfBudget, Carryover, Leftover}
use Rattle.dirty_cells.specs.declared.row.WholeCells.{WholeCells}
use Rattle.dirty_cells.specs.declared.row.GroupCells.{GroupCells}
use Rattle.dirty_cells.specs.declared.row.CategoryCells.{CategoryCells}
use Rattle.dirty_cells.specs.Spots.{Spot, spot_cmp, spots_total, spot_at, RowCells, RowSettled, RowThree, RowFour, RowNine}
use Rattle.dirty_cells.specs.Rows.{whole_by, group_by, category_by, whole_in, group_in, category_in, whole_at, group_at, category_at, kind_in, row_at, set_at, all_kinds, with_kinds, of_months, months_in, row_of}

-- ---- what is found

got_set : (cells : RowCells) (s : Spot) (value : Option ℤ) (q : Spot) → get (set_at cells s value) q ≡ cond (eq_by_cmp spot_cmp q s) value (get cells q)
got_set cells s None q = get-remove spots_total cells s q
got_set cells s (Some z) q = get-insert spots_total cells s z q

sets : (cells : RowCells) (s : Spot) (value : Option ℤ) → RowSettled cells (set_at cells s value) s value
sets cells s value = record { each = got_set cells s value }

-- what is shown at a kind of a month, where it compares by t to the month of these kinds
abbrev shown : (Spot → Option ℤ) → ℕ → List CellKind → Ordering → CellKind → Option ℤ → Option ℤ
shown f month [] t kind rest = rest
shown f month (k ∷ ks) t kind rest = cond (is_eq (ordering_then t (nat_cmp (kind_number kind) (kind_number k)))) (f (spot_at month k)) (shown f month ks t kind rest)

got_kinds : (f : Spot → Option ℤ) (month : ℕ) (ks : List CellKind) (cells : RowCells) (q : Spot) → get (with_kinds f month ks cells) q ≡ shown f month ks (nat_cmp q.month month) q.kind (get cells q)
got_kinds f month [] cells q = refl
got_kinds f month (k ∷ ks) cells q =
    got_set (with_kinds f month ks cells) (spot_at month k) (f (spot_at month k)) q
    ∙ ap (cond (eq_by_cmp spot_cmp q (spot_at month k)) (f (spot_at month k))) (got_kinds f month ks cells q)

shown_all : (f : Spot → Option ℤ) (month : ℕ) (t : Ordering) (kind : CellKind) (rest : Option ℤ) → shown f month all_kinds t kind rest ≡ cond (is_eq t) (f (spot_at month kind)) rest
shown_all f month Less kind rest = refl
shown_all f month Equal TotalIncome rest = refl
shown_all f month Equal FromLastMonth rest = refl
shown_all f month Equal AvailableFunds rest = refl
shown_all f month Equal LastMonthOverspent rest = refl
shown_all f month Equal TotalBudgeted rest = refl
shown_all f month Equal Buffered rest = refl
shown_all f month Equal ToBudget rest = refl
shown_all f month Equal TotalSpent rest = refl
shown_all f month Equal TotalLeftover rest = refl
shown_all f month Equal GroupSum rest = refl
shown_all f month Equal GroupBudget rest = refl
shown_all f month Equal GroupLeftover rest = refl
shown_all f month Equal Sum rest = refl
shown_all f month Equal OfBudget rest = refl
shown_all f month Equal Carryover rest = refl
shown_all f month Equal Leftover rest = refl
shown_all f month Greater kind rest = refl

equal_is : (o : Ordering) → is_eq o ≡ true → o ≡ Equal
equal_is Less h = cc
equal_is Equal h = refl
equal_is Greater h = cc

-- no month is this one
abbrev AreOthers : ℕ → List ℕ → Type 0
AreOthers month [] = Unit {0}
AreOthers month (m ∷ ms) = (is_eq (nat_cmp month m) ≡ false) × AreOthers month ms

got_step : (f : Spot → Option ℤ) (month : ℕ) (q : Spot) (rest : Option ℤ) → (is_eq (nat_cmp q.month month) ≡ false → rest ≡ f q) → cond (is_eq (nat_cmp q.month month)) (f (spot_at month q.kind)) rest ≡ f q
got_step f month q rest other = elim (cases_Bool (is_eq (nat_cmp q.month month))) [
  | inl tied ↦
      ap (λ b. cond b (f (spot_at month q.kind)) rest) tied
      ∙ ap (λ (m : ℕ). f (spot_at m q.kind)) (sym (nat_cmp-IsAntisymmetric q.month month (equal_is (nat_cmp q.month month) tied)))
  | inr apart ↦ ap (λ b. cond b (f (spot_at month q.kind)) rest) apart ∙ other apart
]

got_months : (f : Spot → Option ℤ) (months : List ℕ) (q : Spot) → (AreOthers q.month months → f q ≡ None) → get (of_months f months) q ≡ f q
got_months f [] q none = get-empty spot_cmp q ∙ sym (none tt)
got_months f (m ∷ ms) q none =
    got_kinds f m all_kinds (of_months f ms) q ∙ shown_all f m (nat_cmp q.month m) q.kind (get (of_months f ms) q)
    ∙ got_step f m q (get (of_months f ms) q) (λ apart. got_months f ms q (λ others. none (apart, others)))

module _ {V : Type 0} where
  parted : (month : ℕ) (es : List (ℕ × V)) (rest : List ℕ) → AreOthers month (months_in es ++ rest) → (lookup (is_at (nat_cmp month)) es ≡ None) × AreOthers month rest
  parted month [] rest others = (refl, others)
  parted month (e ∷ es) rest others =
      let more = parted month es rest others.1 in
      (ap (λ b. cond b (Some e.1) (lookup (is_at (nat_cmp month)) es)) others.0 ∙ more.0, more.1)

  alone : (month : ℕ) (es : List (ℕ × V)) → AreOthers month (months_in es) → lookup (is_at (nat_cmp month)) es ≡ None
  alone month [] others = refl
  alone month (e ∷ es) others = ap (λ b. cond b (Some e.1) (lookup (is_at (nat_cmp month)) es)) others.0 ∙ alone month es others.1

no_kind : (kind : CellKind) → kind_in (whole_by (λ k. None)) (group_by (λ k. None)) (category_by (λ k. None)) kind ≡ None
no_kind TotalIncome = refl
no_kind FromLastMonth = refl
no_kind AvailableFunds = refl
no_kind LastMonthOverspent = refl
no_kind TotalBudgeted = refl
no_kind Buffered = refl
no_kind ToBudget = refl
no_kind TotalSpent = refl
no_kind TotalLeftover = refl
no_kind GroupSum = refl
no_kind GroupBudget = refl
no_kind GroupLeftover = refl
no_kind Sum = refl
no_kind OfBudget = refl
no_kind Carryover = refl
no_kind Leftover = refl

module _ (ws : List (ℕ × WholeCells)) (gs : List (ℕ × GroupCells)) (cs : List (ℕ × CategoryCells)) where
  none_at : (q : Spot) → AreOthers q.month (months_in ws ++ (months_in gs ++ months_in cs)) → row_at ws gs cs q ≡ None
  none_at q others =
      let w = parted q.month ws (months_in gs ++ months_in cs) others in
      let g = parted q.month gs (months_in cs) w.1 in
      let c = alone q.month cs g.1 in
      ap (λ o. kind_in (unwrap_or o (whole_by (λ k. None))) (group_at gs q.month) (category_at cs q.month) q.kind) w.0
      ∙ ap (λ o. kind_in (whole_by (λ k. None)) (unwrap_or o (group_by (λ k. None))) (category_at cs q.month) q.kind) g.0
      ∙ ap (λ o. kind_in (whole_by (λ k. None)) (group_by (λ k. None)) (unwrap_or o (category_by (λ k. None))) q.kind) c
      ∙ no_kind q.kind

  got_row : (q : Spot) → get (row_of ws gs cs) q ≡ row_at ws gs cs q
  got_row q = got_months (row_at ws gs cs) (months_in ws ++ (months_in gs ++ months_in cs)) q (none_at q)

  pub whole_is : (cells : RowCells) → row_of ws gs cs ≡ cells → (month : ℕ) → whole_at ws month ≡ whole_in cells month
  whole_is cells is month =
      let at : CellKind → Option ℤ = λ k. row_at ws gs cs (spot_at month k) in
      let same : at ≡ (λ k. get (row_of ws gs cs) (spot_at month k)) = fun_ext (λ k. sym (got_row (spot_at month k))) in
      ap whole_by same ∙ ap (λ (r : RowCells). whole_in r month) is

  pub group_is : (cells : RowCells) → row_of ws gs cs ≡ cells → (month : ℕ) → group_at gs month ≡ group_in cells month
  group_is cells is month =
      let at : CellKind → Option ℤ = λ k. row_at ws gs cs (spot_at month k) in
      let same : at ≡ (λ k. get (row_of ws gs cs) (spot_at month k)) = fun_ext (λ k. sym (got_row (spot_at month k))) in
      ap group_by same ∙ ap (λ (r : RowCells). group_in r month) is

  pub category_is : (cells : RowCells) → row_of ws gs cs ≡ cells → (month : ℕ) → category_at cs month ≡ category_in cells month
  category_is cells is month =
      let at : CellKind → Option ℤ = λ k. row_at ws gs cs (spot_at month k) in
      let same : at ≡ (λ k. get (row_of ws gs cs) (spot_at month k)) = fun_ext (λ k. sym (got_row (spot_at month k))) in
      ap category_by same ∙ ap (λ (r : RowCells). category_in r month) is

pub no_months : (ws : List (ℕ × WholeCells)) (gs : List (ℕ × GroupCells)) (cs : List (ℕ × CategoryCells)) → ws ≡ [] → gs ≡ [] → cs ≡ [] → row_of ws gs cs ≡ empty
no_months ws gs cs w g c = ap (λ (x : List (ℕ × WholeCells)). row_of x gs cs) w ∙ ap (λ (x : List (ℕ × GroupCells)). row_of [] x cs) g ∙ ap (λ (x : List (ℕ × CategoryCells)). row_of [] [] x) c

-- ---- the cells of a month are put

-- es with other cells in a month
abbrev pub Puts : {V : Type 0} → List (ℕ × V) → List (ℕ × V) → ℕ → V → Type 0
Puts es fs month v = (m : ℕ) → lookup (is_at (nat_cmp m)) fs ≡ cond (is_at (nat_cmp month) m) (Some v) (lookup (is_at (nat_cmp m)) es)

found : {V : Type 0} (es fs : List (ℕ × V)) (month : ℕ) (v : V) → Puts es fs month v → (m : ℕ) → lookup (is_at (nat_cmp m)) fs ≡ cond (is_eq (nat_cmp m month)) (Some v) (lookup (is_at (nat_cmp m)) es)
found es fs month v puts m = puts m ∙ ap (λ b. cond b (Some v) (lookup (is_at (nat_cmp m)) es)) ((eq_by_cmp_equiv nat_cmp_total).symm month m)

whole_put : (g : GroupCells) (c : CategoryCells) (o : Option WholeCells) (new : WholeCells) (kind : CellKind) (t : Ordering) → kind_in (unwrap_or (cond (is_eq t) (Some new) o) (whole_by (λ k. None))) g c kind ≡ cond (is_eq (ordering_then t (nat_cmp (kind_number kind) (kind_number TotalLeftover)))) new.leftover (cond (is_eq (ordering_then t (nat_cmp (kind_number kind) (kind_number TotalSpent)))) new.spent (cond (is_eq (ordering_then t (nat_cmp (kind_number kind) (kind_number ToBudget)))) new.to_budget (cond (is_eq (ordering_then t (nat_cmp (kind_number kind) (kind_number Buffered)))) new.buffered (cond (is_eq (ordering_then t (nat_cmp (kind_number kind) (kind_number TotalBudgeted)))) new.budgeted (cond (is_eq (ordering_then t (nat_cmp (kind_number kind) (kind_number LastMonthOverspent)))) new.overspent (cond (is_eq (ordering_then t (nat_cmp (kind_number kind) (kind_number AvailableFunds)))) new.available (cond (is_eq (ordering_then t (nat_cmp (kind_number kind) (kind_number FromLastMonth)))) new.from_last (cond (is_eq (ordering_then t (nat_cmp (kind_number kind) (kind_number TotalIncome)))) new.income (kind_in (unwrap_or o (whole_by (λ k. None))) g c kind)))))))))
whole_put g c o new kind Less = refl
whole_put g c o new TotalIncome Equal = refl
whole_put g c o new FromLastMonth Equal = refl
whole_put g c o new AvailableFunds Equal = refl
whole_put g c o new LastMonthOverspent Equal = refl
whole_put g c o new TotalBudgeted Equal = refl
whole_put g c o new Buffered Equal = refl
whole_put g c o new ToBudget Equal = refl
whole_put g c o new TotalSpent Equal = refl
whole_put g c o new TotalLeftover Equal = refl
whole_put g c o new GroupSum Equal = refl
whole_put g c o new GroupBudget Equal = refl
whole_put g c o new GroupLeftover Equal = refl
whole_put g c o new Sum Equal = refl
whole_put g c o new OfBudget Equal = refl
whole_put g c o new Carryover Equal = refl
whole_put g c o new Leftover Equal = refl
whole_put g c o new kind Greater = refl

module _ (ws : List (ℕ × WholeCells)) (gs : List (ℕ × GroupCells)) (cs : List (ℕ × CategoryCells)) (fs : List (ℕ × WholeCells)) (month : ℕ) (new : WholeCells) where
  whole_shown : Puts ws fs month new → (q : Spot) → row_at fs gs cs q ≡ cond (is_eq (ordering_then (nat_cmp q.month month) (nat_cmp (kind_number q.kind) (kind_number TotalLeftover)))) new.leftover (cond (is_eq (ordering_then (nat_cmp q.month month) (nat_cmp (kind_number q.kind) (kind_number TotalSpent)))) new.spent (cond (is_eq (ordering_then (nat_cmp q.month month) (nat_cmp (kind_number q.kind) (kind_number ToBudget)))) new.to_budget (cond (is_eq (ordering_then (nat_cmp q.month month) (nat_cmp (kind_number q.kind) (kind_number Buffered)))) new.buffered (cond (is_eq (ordering_then (nat_cmp q.month month) (nat_cmp (kind_number q.kind) (kind_number TotalBudgeted)))) new.budgeted (cond (is_eq (ordering_then (nat_cmp q.month month) (nat_cmp (kind_number q.kind) (kind_number LastMonthOverspent)))) new.overspent (cond (is_eq (ordering_then (nat_cmp q.month month) (nat_cmp (kind_number q.kind) (kind_number AvailableFunds)))) new.available (cond (is_eq (ordering_then (nat_cmp q.month month) (nat_cmp (kind_number q.kind) (kind_number FromLastMonth)))) new.from_last (cond (is_eq (ordering_then (nat_cmp q.month month) (nat_cmp (kind_number q.kind) (kind_number TotalIncome)))) new.income (row_at ws gs cs q)))))))))
  whole_shown puts q = ap (λ x. kind_in (unwrap_or x (whole_by (λ k. None))) (group_at gs q.month) (category_at cs q.month) q.kind) (found ws fs month new puts q.month) ∙ whole_put (group_at gs q.month) (category_at cs q.month) (lookup (is_at (nat_cmp q.month)) ws) new q.kind (nat_cmp q.month month)

  pub whole_settles : (old : RowCells) → row_of ws gs cs ≡ old → Puts ws fs month new → RowNine old (row_of fs gs cs) month new
  whole_settles old is puts =
      let r1 = set_at old (spot_at month TotalIncome) new.income in
      let r2 = set_at r1 (spot_at month FromLastMonth) new.from_last in
      let r3 = set_at r2 (spot_at month AvailableFunds) new.available in
      let r4 = set_at r3 (spot_at month LastMonthOverspent) new.overspent in
      let r5 = set_at r4 (spot_at month TotalBudgeted) new.budgeted in
      let r6 = set_at r5 (spot_at month Buffered) new.buffered in
      let r7 = set_at r6 (spot_at month ToBudget) new.to_budget in
      let r8 = set_at r7 (spot_at month TotalSpent) new.spent in
      record {
        one = r1;
        two = r2;
        three = r3;
        four = r4;
        five = r5;
        six = r6;
        seven = r7;
        eight = r8;
        first = sets old (spot_at month TotalIncome) new.income;
        second = sets r1 (spot_at month FromLastMonth) new.from_last;
        third = sets r2 (spot_at month AvailableFunds) new.available;
        fourth = sets r3 (spot_at month LastMonthOverspent) new.overspent;
        fifth = sets r4 (spot_at month TotalBudgeted) new.budgeted;
        sixth = sets r5 (spot_at month Buffered) new.buffered;
        seventh = sets r6 (spot_at month ToBudget) new.to_budget;
        eighth = sets r7 (spot_at month TotalSpent) new.spent;
        ninth = record {
          each = λ q. got_row fs gs cs q ∙ whole_shown puts q
              ∙ ap (λ (x : Option ℤ). cond (eq_by_cmp spot_cmp q (spot_at month TotalLeftover)) new.leftover (cond (eq_by_cmp spot_cmp q (spot_at month TotalSpent)) new.spent (cond (eq_by_cmp spot_cmp q (spot_at month ToBudget)) new.to_budget (cond (eq_by_cmp spot_cmp q (spot_at month Buffered)) new.buffered (cond (eq_by_cmp spot_cmp q (spot_at month TotalBudgeted)) new.budgeted (cond (eq_by_cmp spot_cmp q (spot_at month LastMonthOverspent)) new.overspent (cond (eq_by_cmp spot_cmp q (spot_at month AvailableFunds)) new.available (cond (eq_by_cmp spot_cmp q (spot_at month FromLastMonth)) new.from_last (cond (eq_by_cmp spot_cmp q (spot_at month TotalIncome)) new.income (x)))))))))) (sym (got_row ws gs cs q) ∙ ap (λ (r : RowCells). get r q) is)
              ∙ ap (λ (x : Option ℤ). cond (eq_by_cmp spot_cmp q (spot_at month TotalLeftover)) new.leftover (cond (eq_by_cmp spot_cmp q (spot_at month TotalSpent)) new.spent (cond (eq_by_cmp spot_cmp q (spot_at month ToBudget)) new.to_budget (cond (eq_by_cmp spot_cmp q (spot_at month Buffered)) new.buffered (cond (eq_by_cmp spot_cmp q (spot_at month TotalBudgeted)) new.budgeted (cond (eq_by_cmp spot_cmp q (spot_at month LastMonthOverspent)) new.overspent (cond (eq_by_cmp spot_cmp q (spot_at month AvailableFunds)) new.available (cond (eq_by_cmp spot_cmp q (spot_at month FromLastMonth)) new.from_last (x))))))))) (sym (got_set old (spot_at month TotalIncome) new.income q))
              ∙ ap (λ (x : Option ℤ). cond (eq_by_cmp spot_cmp q (spot_at month TotalLeftover)) new.leftover (cond (eq_by_cmp spot_cmp q (spot_at month TotalSpent)) new.spent (cond (eq_by_cmp spot_cmp q (spot_at month ToBudget)) new.to_budget (cond (eq_by_cmp spot_cmp q (spot_at month Buffered)) new.buffered (cond (eq_by_cmp spot_cmp q (spot_at month TotalBudgeted)) new.budgeted (cond (eq_by_cmp spot_cmp q (spot_at month LastMonthOverspent)) new.overspent (cond (eq_by_cmp spot_cmp q (spot_at month AvailableFunds)) new.available (x)))))))) (sym (got_set r1 (spot_at month FromLastMonth) new.from_last q))
              ∙ ap (λ (x : Option ℤ). cond (eq_by_cmp spot_cmp q (spot_at month TotalLeftover)) new.leftover (cond (eq_by_cmp spot_cmp q (spot_at month TotalSpent)) new.spent (cond (eq_by_cmp spot_cmp q (spot_at month ToBudget)) new.to_budget (cond (eq_by_cmp spot_cmp q (spot_at month Buffered)) new.buffered (cond (eq_by_cmp spot_cmp q (spot_at month TotalBudgeted)) new.budgeted (cond (eq_by_cmp spot_cmp q (spot_at month LastMonthOverspent)) new.overspent (x))))))) (sym (got_set r2 (spot_at month AvailableFunds) new.available q))
              ∙ ap (λ (x : Option ℤ). cond (eq_by_cmp spot_cmp q (spot_at month TotalLeftover)) new.leftover (cond (eq_by_cmp spot_cmp q (spot_at month TotalSpent)) new.spent (cond (eq_by_cmp spot_cmp q (spot_at month ToBudget)) new.to_budget (cond (eq_by_cmp spot_cmp q (spot_at month Buffered)) new.buffered (cond (eq_by_cmp spot_cmp q (spot_at month TotalBudgeted)) new.budgeted (x)))))) (sym (got_set r3 (spot_at month LastMonthOverspent) new.overspent q))
              ∙ ap (λ (x : Option ℤ). cond (eq_by_cmp spot_cmp q (spot_at month TotalLeftover)) new.leftover (cond (eq_by_cmp spot_cmp q (spot_at month TotalSpent)) new.spent (cond (eq_by_cmp spot_cmp q (spot_at month ToBudget)) new.to_budget (cond (eq_by_cmp spot_cmp q (spot_at month Buffered)) new.buffered (x))))) (sym (got_set r4 (spot_at month TotalBudgeted) new.budgeted q))
              ∙ ap (λ (x : Option ℤ). cond (eq_by_cmp spot_cmp q (spot_at month TotalLeftover)) new.leftover (cond (eq_by_cmp spot_cmp q (spot_at month TotalSpent)) new.spent (cond (eq_by_cmp spot_cmp q (spot_at month ToBudget)) new.to_budget (x)))) (sym (got_set r5 (spot_at month Buffered) new.buffered q))
              ∙ ap (λ (x : Option ℤ). cond (eq_by_cmp spot_cmp q (spot_at month TotalLeftover)) new.leftover (cond (eq_by_cmp spot_cmp q (spot_at month TotalSpent)) new.spent (x))) (sym (got_set r6 (spot_at month ToBudget) new.to_budget q))
              ∙ ap (λ (x : Option ℤ). cond (eq_by_cmp spot_cmp q (spot_at month TotalLeftover)) new.leftover (x)) (sym (got_set r7 (spot_at month TotalSpent) new.spent q));
        };
      }

group_put : (w : WholeCells) (c : CategoryCells) (o : Option GroupCells) (new : GroupCells) (kind : CellKind) (t : Ordering) → kind_in w (unwrap_or (cond (is_eq t) (Some new) o) (group_by (λ k. None))) c kind ≡ cond (is_eq (ordering_then t (nat_cmp (kind_number kind) (kind_number GroupLeftover)))) new.leftover (cond (is_eq (ordering_then t (nat_cmp (kind_number kind) (kind_number GroupBudget)))) new.budget (cond (is_eq (ordering_then t (nat_cmp (kind_number kind) (kind_number GroupSum)))) new.sum (kind_in w (unwrap_or o (group_by (λ k. None))) c kind)))
group_put w c o new kind Less = refl
group_put w c o new TotalIncome Equal = refl
group_put w c o new FromLastMonth Equal = refl
group_put w c o new AvailableFunds Equal = refl
group_put w c o new LastMonthOverspent Equal = refl
group_put w c o new TotalBudgeted Equal = refl
group_put w c o new Buffered Equal = refl
group_put w c o new ToBudget Equal = refl
group_put w c o new TotalSpent Equal = refl
group_put w c o new TotalLeftover Equal = refl
group_put w c o new GroupSum Equal = refl
group_put w c o new GroupBudget Equal = refl
group_put w c o new GroupLeftover Equal = refl
group_put w c o new Sum Equal = refl
group_put w c o new OfBudget Equal = refl
group_put w c o new Carryover Equal = refl
group_put w c o new Leftover Equal = refl
group_put w c o new kind Greater = refl

module _ (ws : List (ℕ × WholeCells)) (gs : List (ℕ × GroupCells)) (cs : List (ℕ × CategoryCells)) (fs : List (ℕ × GroupCells)) (month : ℕ) (new : GroupCells) where
  group_shown : Puts gs fs month new → (q : Spot) → row_at ws fs cs q ≡ cond (is_eq (ordering_then (nat_cmp q.month month) (nat_cmp (kind_number q.kind) (kind_number GroupLeftover)))) new.leftover (cond (is_eq (ordering_then (nat_cmp q.month month) (nat_cmp (kind_number q.kind) (kind_number GroupBudget)))) new.budget (cond (is_eq (ordering_then (nat_cmp q.month month) (nat_cmp (kind_number q.kind) (kind_number GroupSum)))) new.sum (row_at ws gs cs q)))
  group_shown puts q = ap (λ x. kind_in (whole_at ws q.month) (unwrap_or x (group_by (λ k. None))) (category_at cs q.month) q.kind) (found gs fs month new puts q.month) ∙ group_put (whole_at ws q.month) (category_at cs q.month) (lookup (is_at (nat_cmp q.month)) gs) new q.kind (nat_cmp q.month month)

  pub group_settles : (old : RowCells) → row_of ws gs cs ≡ old → Puts gs fs month new → RowThree old (row_of ws fs cs) month new.sum new.budget new.leftover
  group_settles old is puts =
      let r1 = set_at old (spot_at month GroupSum) new.sum in
      let r2 = set_at r1 (spot_at month GroupBudget) new.budget in
      record {
        one = r1;
        two = r2;
        first = sets old (spot_at month GroupSum) new.sum;
        second = sets r1 (spot_at month GroupBudget) new.budget;
        third = record {
          each = λ q. got_row ws fs cs q ∙ group_shown puts q
              ∙ ap (λ (x : Option ℤ). cond (eq_by_cmp spot_cmp q (spot_at month GroupLeftover)) new.leftover (cond (eq_by_cmp spot_cmp q (spot_at month GroupBudget)) new.budget (cond (eq_by_cmp spot_cmp q (spot_at month GroupSum)) new.sum (x)))) (sym (got_row ws gs cs q) ∙ ap (λ (r : RowCells). get r q) is)
              ∙ ap (λ (x : Option ℤ). cond (eq_by_cmp spot_cmp q (spot_at month GroupLeftover)) new.leftover (cond (eq_by_cmp spot_cmp q (spot_at month GroupBudget)) new.budget (x))) (sym (got_set old (spot_at month GroupSum) new.sum q))
              ∙ ap (λ (x : Option ℤ). cond (eq_by_cmp spot_cmp q (spot_at month GroupLeftover)) new.leftover (x)) (sym (got_set r1 (spot_at month GroupBudget) new.budget q));
        };
      }

category_put : (w : WholeCells) (g : GroupCells) (o : Option CategoryCells) (new : CategoryCells) (kind : CellKind) (t : Ordering) → kind_in w g (unwrap_or (cond (is_eq t) (Some new) o) (category_by (λ k. None))) kind ≡ cond (is_eq (ordering_then t (nat_cmp (kind_number kind) (kind_number Leftover)))) new.leftover (cond (is_eq (ordering_then t (nat_cmp (kind_number kind) (kind_number Carryover)))) new.carryover (cond (is_eq (ordering_then t (nat_cmp (kind_number kind) (kind_number OfBudget)))) new.budget (cond (is_eq (ordering_then t (nat_cmp (kind_number kind) (kind_number Sum)))) new.sum (kind_in w g (unwrap_or o (category_by (λ k. None))) kind))))
category_put w g o new kind Less = refl
category_put w g o new TotalIncome Equal = refl
category_put w g o new FromLastMonth Equal = refl
category_put w g o new AvailableFunds Equal = refl
category_put w g o new LastMonthOverspent Equal = refl
category_put w g o new TotalBudgeted Equal = refl
category_put w g o new Buffered Equal = refl
category_put w g o new ToBudget Equal = refl
category_put w g o new TotalSpent Equal = refl
category_put w g o new TotalLeftover Equal = refl
category_put w g o new GroupSum Equal = refl
category_put w g o new GroupBudget Equal = refl
category_put w g o new GroupLeftover Equal = refl
category_put w g o new Sum Equal = refl
category_put w g o new OfBudget Equal = refl
category_put w g o new Carryover Equal = refl
category_put w g o new Leftover Equal = refl
category_put w g o new kind Greater = refl

module _ (ws : List (ℕ × WholeCells)) (gs : List (ℕ × GroupCells)) (cs : List (ℕ × CategoryCells)) (fs : List (ℕ × CategoryCells)) (month : ℕ) (new : CategoryCells) where
  category_shown : Puts cs fs month new → (q : Spot) → row_at ws gs fs q ≡ cond (is_eq (ordering_then (nat_cmp q.month month) (nat_cmp (kind_number q.kind) (kind_number Leftover)))) new.leftover (cond (is_eq (ordering_then (nat_cmp q.month month) (nat_cmp (kind_number q.kind) (kind_number Carryover)))) new.carryover (cond (is_eq (ordering_then (nat_cmp q.month month) (nat_cmp (kind_number q.kind) (kind_number OfBudget)))) new.budget (cond (is_eq (ordering_then (nat_cmp q.month month) (nat_cmp (kind_number q.kind) (kind_number Sum)))) new.sum (row_at ws gs cs q))))
  category_shown puts q = ap (λ x. kind_in (whole_at ws q.month) (group_at gs q.month) (unwrap_or x (category_by (λ k. None))) q.kind) (found cs fs month new puts q.month) ∙ category_put (whole_at ws q.month) (group_at gs q.month) (lookup (is_at (nat_cmp q.month)) cs) new q.kind (nat_cmp q.month month)

  pub category_settles : (old : RowCells) → row_of ws gs cs ≡ old → Puts cs fs month new → RowFour old (row_of ws gs fs) month new.sum new.budget new.carryover new.leftover
  category_settles old is puts =
      let r1 = set_at old (spot_at month Sum) new.sum in
      let r2 = set_at r1 (spot_at month OfBudget) new.budget in
      let r3 = set_at r2 (spot_at month Carryover) new.carryover in
      record {
        one = r1;
        two = r2;
        three = r3;
        first = sets old (spot_at month Sum) new.sum;
        second = sets r1 (spot_at month OfBudget) new.budget;
        third = sets r2 (spot_at month Carryover) new.carryover;
        fourth = record {
          each = λ q. got_row ws gs fs q ∙ category_shown puts q
              ∙ ap (λ (x : Option ℤ). cond (eq_by_cmp spot_cmp q (spot_at month Leftover)) new.leftover (cond (eq_by_cmp spot_cmp q (spot_at month Carryover)) new.carryover (cond (eq_by_cmp spot_cmp q (spot_at month OfBudget)) new.budget (cond (eq_by_cmp spot_cmp q (spot_at month Sum)) new.sum (x))))) (sym (got_row ws gs cs q) ∙ ap (λ (r : RowCells). get r q) is)
              ∙ ap (λ (x : Option ℤ). cond (eq_by_cmp spot_cmp q (spot_at month Leftover)) new.leftover (cond (eq_by_cmp spot_cmp q (spot_at month Carryover)) new.carryover (cond (eq_by_cmp spot_cmp q (spot_at month OfBudget)) new.budget (x)))) (sym (got_set old (spot_at month Sum) new.sum q))
              ∙ ap (λ (x : Option ℤ). cond (eq_by_cmp spot_cmp q (spot_at month Leftover)) new.leftover (cond (eq_by_cmp spot_cmp q (spot_at month Carryover)) new.carryover (x))) (sym (got_set r1 (spot_at month OfBudget) new.budget q))
              ∙ ap (λ (x : Option ℤ). cond (eq_by_cmp spot_cmp q (spot_at month Leftover)) new.leftover (x)) (sym (got_set r2 (spot_at month Carryover) new.carryover q));
        };
      }
