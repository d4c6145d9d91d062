-- Cells by id, and those of an id by month and kind, as one map by name.
use Rattle.std.proofs.Common.{◌≡◌, ℕ, inl, inr, Bool, true, false, cond, List, [], ◌∷◌, ◌++◌, Option, None, Some, refl, sym, ap, ◌∙◌, subst, true≢false, Ordering, Less, Equal, Greater, OnOk, Result, Ok, Err}
use lib.IntN.{ℤ}
use Rattle.std.specs.Prelude.{unwrap_or, T}
use Rattle.std.specs.Ordering.{is_lt, is_eq, eq_by_cmp, ordering_then, nat_cmp}
use Rattle.std.specs.List.{AllByRecursion}
use Rattle.std.specs.BTreeMap.{is_at}
use Rattle.std.specs.Map.{lookup}
use Rattle.std.proofs.lemmas.Bool.{cases_Bool, and_parts}
use Rattle.std.specs.FinMap.Entries.{below_all}
use Rattle.std.specs.FinMap.{FinMap, is_sorted, find, entries, entries_sorted, empty, from_entries, get, insert, get-from_entries, get-entries, get-empty, get-insert, same_map}
use Rattle.finite_sums.specs.Maps.{Text, text_cmp}
use Rattle.finite_sums.proofs.Texts.{text_total, text_same}
use Rattle.finite_sums.proofs.Maps.{IsRising, get_is, one_put}
use Rattle.envelope_cells.specs.Names.{Cells, cell_cmp, cells_total, kind_number}
use Rattle.envelope_cells.proofs.Exact.{cells_same}
use Rattle.envelope_cells.specs.declared.name.CellName.{CellName}
use Rattle.envelope_cells.specs.declared.name.CellKind.TheVariants.{TotalIncome, FromLastMonth, AvailableFunds, LastMonthOverspent, TotalBudgeted, Buffered, ToBudget, TotalSpent, TotalLeftover, GroupSum, GroupBudget, GroupLeftover, Sum, Budget as OfBudget, Carryover, Leftover}
use Rattle.dirty_cells.specs.declared.row.WholeCells.{WholeCells}
use Rattle.dirty_cells.specs.Right.{Settled}
use Rattle.dirty_cells.specs.Spots.{Spot, spot_cmp, spot_at, RowCells, name_at, named, all_named, flattened, RowSettled, RowFour, RowThree, RowNine, SettledFour, SettledThree, SettledNine}

-- where a name stands in the row of its id
abbrev pub spot_of : CellName → Spot
spot_of n = spot_at n.month n.kind

-- what an id's row, if it is there, has at a spot
abbrev pub cell_in : Option RowCells → Spot → Option ℤ
cell_in None s = None
cell_in (Some n) s = get n s

-- the cells of an id's row, if it is there
abbrev pub cells_of : Option RowCells → RowCells
cells_of o = unwrap_or o empty

then_equal : (b : Ordering) → ordering_then b Equal ≡ b
then_equal Less = refl
then_equal Equal = refl
then_equal Greater = refl

-- ids that are equal leave it to month and kind
same_id : (a b t : Ordering) → t ≡ Equal → ordering_then a (ordering_then b t) ≡ ordering_then a b
same_id a b t e = ap (λ o. ordering_then a (ordering_then b o)) e ∙ ap (ordering_then a) (then_equal b)

-- and other ids tie no names
other_id : (a b t : Ordering) → is_eq t ≡ false → is_eq (ordering_then a (ordering_then b t)) ≡ false
other_id Less b t h = refl
other_id Equal Less t h = refl
other_id Equal Equal t h = h
other_id Equal Greater t h = refl
other_id Greater b t h = refl

equal_is : (o : Ordering) → is_eq o ≡ true → o ≡ Equal
equal_is Less h = absurd (true≢false (sym h))
equal_is Equal h = refl
equal_is Greater h = absurd (true≢false (sym h))

-- ---- what is found

less_is : (o : Ordering) → is_lt o ≡ true → o ≡ Less
less_is Less h = refl
less_is Equal h = absurd (true≢false (sym h))
less_is Greater h = absurd (true≢false (sym h))

so : (b : Bool) → T b → b ≡ true
so true t = refl
so false t = absurd t

-- the entries of a map rise
module _ {V : Type 0} where
  below : (k : Text) (es : List (Text × V)) → below_all text_cmp k es ≡ true → AllByRecursion (λ f. text_cmp k f.0 ≡ Less) es
  below k [] h = tt
  below k (e ∷ es) h = let parts = and_parts _ _ h in (less_is _ parts.0, below k es parts.1)

  up : (es : List (Text × V)) → is_sorted text_cmp es ≡ true → IsRising text_cmp es
  up [] h = tt
  up (e ∷ es) h = let parts = and_parts _ _ h in (below e.0 es parts.0, up es parts.1)

  entries_rise : (m : FinMap text_cmp V) → IsRising text_cmp (entries m)
  entries_rise m = up (entries m) (so _ (entries_sorted m))

find_here : (p : CellName) (id : Text) (es : List (Spot × ℤ)) (rest : List (CellName × ℤ)) → text_cmp p.id id ≡ Equal → find cell_cmp p rest ≡ None → find cell_cmp p (named id es ++ rest) ≡ find spot_cmp (spot_of p) es
find_here p id [] rest tied none = none
find_here p id (e ∷ es) rest tied none =
    ap (λ o. cond (is_eq o) (Some e.1) (find cell_cmp p (named id es ++ rest))) (same_id (nat_cmp p.month e.0.month) (nat_cmp (kind_number p.kind) (kind_number e.0.kind)) (text_cmp p.id id) tied)
    ∙ ap (cond (is_eq (spot_cmp (spot_of p) e.0)) (Some e.1)) (find_here p id es rest tied none)

find_behind : (p : CellName) (id : Text) (es : List (Spot × ℤ)) (rest : List (CellName × ℤ)) → is_eq (text_cmp p.id id) ≡ false → find cell_cmp p (named id es ++ rest) ≡ find cell_cmp p rest
find_behind p id [] rest apart = refl
find_behind p id (e ∷ es) rest apart =
    ap (λ b. cond b (Some e.1) (find cell_cmp p (named id es ++ rest))) (other_id (nat_cmp p.month e.0.month) (nat_cmp (kind_number p.kind) (kind_number e.0.kind)) (text_cmp p.id id) apart)
    ∙ find_behind p id es rest apart

find_none : (p : CellName) (rs : List (Text × RowCells)) → AllByRecursion (λ f. text_cmp p.id f.0 ≡ Less) rs → find cell_cmp p (all_named rs) ≡ None
find_none p [] up = refl
find_none p (r ∷ rs) up = find_behind p r.0 (entries r.1) (all_named rs) (ap is_eq up.0) ∙ find_none p rs up.1

above_tied : (q id : Text) (rs : List (Text × RowCells)) → q ≡ id → AllByRecursion (λ f. text_cmp id f.0 ≡ Less) rs → AllByRecursion (λ f. text_cmp q f.0 ≡ Less) rs
above_tied q id rs same up = subst (λ (k : Text). AllByRecursion (λ f. text_cmp k f.0 ≡ Less) rs) (sym same) up

find_all : (p : CellName) (rs : List (Text × RowCells)) → IsRising text_cmp rs → find cell_cmp p (all_named rs) ≡ cell_in (find text_cmp p.id rs) (spot_of p)
find_all p [] up = refl
find_all p (r ∷ rs) up = elim (cases_Bool (is_eq (text_cmp p.id r.0))) [
  | inl tied ↦
      let same = equal_is _ tied in
      find_here p r.0 (entries r.1) (all_named rs) same (find_none p rs (above_tied p.id r.0 rs (text_same p.id r.0 same) up.0))
      ∙ sym (get-entries r.1 (spot_of p)) ∙ sym (ap (λ b. cell_in (cond b (Some r.1) (find text_cmp p.id rs)) (spot_of p)) tied)
  | inr apart ↦
      find_behind p r.0 (entries r.1) (all_named rs) apart ∙ find_all p rs up.1
      ∙ sym (ap (λ b. cell_in (cond b (Some r.1) (find text_cmp p.id rs)) (spot_of p)) apart)
]

-- all ids as one map have under a name what the id's row has at its spot
pub get-flattened : (m : FinMap text_cmp RowCells) (p : CellName) → get (flattened m) p ≡ cell_in (get m p.id) (spot_of p)
get-flattened m p =
    get-from_entries cells_total (all_named (entries m)) p ∙ find_all p (entries m) (entries_rise m)
    ∙ ap (λ o. cell_in o (spot_of p)) (sym (get-entries m p.id))

same_flattened : (m n : FinMap text_cmp RowCells) → ((p : CellName) → cell_in (get m p.id) (spot_of p) ≡ cell_in (get n p.id) (spot_of p)) → flattened m ≡ flattened n
same_flattened m n same = same_map cells_total cells_same _ _ (λ p. get-flattened m p ∙ same p ∙ sym (get-flattened n p))

pub flattened_empty : (es : List (Text × RowCells)) → es ≡ [] → flattened (from_entries es) ≡ empty
flattened_empty es none = ap (λ l. flattened (from_entries l)) none ∙ same_map cells_total cells_same _ _ (λ p. get-flattened empty p ∙ ap (λ o. cell_in o (spot_of p)) (get-empty text_cmp p.id) ∙ sym (get-empty cell_cmp p))

-- ---- a row is put

kept_cells : (o : Option RowCells) (s : Spot) → get (cells_of o) s ≡ cell_in o s
kept_cells None s = get-empty spot_cmp s
kept_cells (Some n) s = refl

-- a row that is put as it is changes nothing, and so for one without cells that is not there
stays : (m : FinMap text_cmp RowCells) (id : Text) → flattened (insert m id (cells_of (get m id))) ≡ flattened m
stays m id = same_flattened _ _ (λ p. ap (λ o. cell_in o (spot_of p)) (get-insert text_total m id (cells_of (get m id)) p.id) ∙ here p)
  where
    here : (p : CellName) → cell_in (cond (eq_by_cmp text_cmp p.id id) (Some (cells_of (get m id))) (get m p.id)) (spot_of p) ≡ cell_in (get m p.id) (spot_of p)
    here p = elim (cases_Bool (eq_by_cmp text_cmp p.id id)) [
      | inl tied ↦ rw tied (kept_cells (get m id) (spot_of p) ∙ ap (λ q. cell_in (get m q) (spot_of p)) (sym (text_same p.id id (equal_is _ tied))))
      | inr apart ↦ rw apart refl
    ]

-- one cell of a row is another one
step : (m : FinMap text_cmp RowCells) (id : Text) (old new : RowCells) (s : Spot) (value : Option ℤ) → RowSettled old new s value → Settled (flattened (insert m id old)) (flattened (insert m id new)) (name_at id s) value
step m id old new s value set = record { each = λ p. at p new ∙ by p (text_cmp p.id id) ∙ ap (cond (eq_by_cmp cell_cmp p (name_at id s)) value) (sym (at p old)) }
  where
    at : (p : CellName) (row : RowCells) → get (flattened (insert m id row)) p ≡ cell_in (cond (eq_by_cmp text_cmp p.id id) (Some row) (get m p.id)) (spot_of p)
    at p row = get-flattened (insert m id row) p ∙ ap (λ o. cell_in o (spot_of p)) (get-insert text_total m id row p.id)

    by : (p : CellName) (t : Ordering) → cell_in (cond (is_eq t) (Some new) (get m p.id)) (spot_of p) ≡ cond (is_eq (ordering_then (nat_cmp p.month s.month) (ordering_then (nat_cmp (kind_number p.kind) (kind_number s.kind)) t))) value (cell_in (cond (is_eq t) (Some old) (get m p.id)) (spot_of p))
    by p Less = sym (ap (λ b. cond b value (cell_in (get m p.id) (spot_of p))) (other_id (nat_cmp p.month s.month) (nat_cmp (kind_number p.kind) (kind_number s.kind)) Less refl))
    by p Equal = set.each (spot_of p) ∙ sym (ap (λ o. cond (is_eq o) value (get old (spot_of p))) (same_id (nat_cmp p.month s.month) (nat_cmp (kind_number p.kind) (kind_number s.kind)) Equal refl))
    by p Greater = sym (ap (λ b. cond b value (cell_in (get m p.id) (spot_of p))) (other_id (nat_cmp p.month s.month) (nat_cmp (kind_number p.kind) (kind_number s.kind)) Greater refl))

-- ---- rows before and after

-- rows of which one is another one, `all` being the cells of the rows before
module _ (es fs : List (Text × RowCells)) (all : Cells) (id : Text) (o : Option RowCells) (new : RowCells) where
  m : FinMap text_cmp RowCells
  m = from_entries es

  begin : flattened (from_entries es) ≡ all → lookup (is_at (text_cmp id)) es ≡ o → flattened (insert (from_entries es) id (cells_of o)) ≡ all
  begin is found = ap (λ x. flattened (insert (from_entries es) id (cells_of x))) (sym found ∙ sym (get_is text_total text_same es id)) ∙ stays (from_entries es) id ∙ is

  abbrev Puts : Type 0
  Puts = (q : Text) → lookup (is_at (text_cmp q)) fs ≡ cond (is_at (text_cmp id) q) (Some new) (lookup (is_at (text_cmp q)) es)

  end : Puts → flattened (from_entries fs) ≡ flattened (insert (from_entries es) id new)
  end puts = ap flattened (one_put text_total text_same es fs id new puts)

  pub row_four : flattened (from_entries es) ≡ all → lookup (is_at (text_cmp id)) es ≡ o → Puts → (month : ℕ) (a b c d : Option ℤ) → RowFour (cells_of o) new month a b c d → SettledFour all (flattened (from_entries fs)) month id a b c d
  row_four is found puts month a b c d set =
      let n = from_entries es in
      record {
        one = flattened (insert n id set.one);
        two = flattened (insert n id set.two);
        three = flattened (insert n id set.three);
        first = subst (λ (x : Cells). Settled x (flattened (insert n id set.one)) (name_at id (spot_at month Sum)) a) (begin is found) (step n id (cells_of o) set.one (spot_at month Sum) a set.first);
        second = step n id set.one set.two (spot_at month OfBudget) b set.second;
        third = step n id set.two set.three (spot_at month Carryover) c set.third;
        fourth = subst (λ (x : Cells). Settled (flattened (insert n id set.three)) x (name_at id (spot_at month Leftover)) d) (sym (end puts)) (step n id set.three new (spot_at month Leftover) d set.fourth);
      }

  pub row_three : flattened (from_entries es) ≡ all → lookup (is_at (text_cmp id)) es ≡ o → Puts → (month : ℕ) (a b c : Option ℤ) → RowThree (cells_of o) new month a b c → SettledThree all (flattened (from_entries fs)) month id a b c
  row_three is found puts month a b c set =
      let n = from_entries es in
      record {
        one = flattened (insert n id set.one);
        two = flattened (insert n id set.two);
        first = subst (λ (x : Cells). Settled x (flattened (insert n id set.one)) (name_at id (spot_at month GroupSum)) a) (begin is found) (step n id (cells_of o) set.one (spot_at month GroupSum) a set.first);
        second = step n id set.one set.two (spot_at month GroupBudget) b set.second;
        third = subst (λ (x : Cells). Settled (flattened (insert n id set.two)) x (name_at id (spot_at month GroupLeftover)) c) (sym (end puts)) (step n id set.two new (spot_at month GroupLeftover) c set.third);
      }

  pub row_nine : flattened (from_entries es) ≡ all → lookup (is_at (text_cmp id)) es ≡ o → Puts → (month : ℕ) (cells : WholeCells) → RowNine (cells_of o) new month cells → SettledNine all (flattened (from_entries fs)) month id cells
  row_nine is found puts month cells set =
      let n = from_entries es in
      record {
        one = flattened (insert n id set.one);
        two = flattened (insert n id set.two);
        three = flattened (insert n id set.three);
        four = flattened (insert n id set.four);
        five = flattened (insert n id set.five);
        six = flattened (insert n id set.six);
        seven = flattened (insert n id set.seven);
        eight = flattened (insert n id set.eight);
        first = subst (λ (x : Cells). Settled x (flattened (insert n id set.one)) (name_at id (spot_at month TotalIncome)) cells.income) (begin is found) (step n id (cells_of o) set.one (spot_at month TotalIncome) cells.income set.first);
        second = step n id set.one set.two (spot_at month FromLastMonth) cells.from_last set.second;
        third = step n id set.two set.three (spot_at month AvailableFunds) cells.available set.third;
        fourth = step n id set.three set.four (spot_at month LastMonthOverspent) cells.overspent set.fourth;
        fifth = step n id set.four set.five (spot_at month TotalBudgeted) cells.budgeted set.fifth;
        sixth = step n id set.five set.six (spot_at month Buffered) cells.buffered set.sixth;
        seventh = step n id set.six set.seven (spot_at month ToBudget) cells.to_budget set.seventh;
        eighth = step n id set.seven set.eight (spot_at month TotalSpent) cells.spent set.eighth;
        ninth = subst (λ (x : Cells). Settled (flattened (insert n id set.eight)) x (name_at id (spot_at month TotalLeftover)) cells.leftover) (sym (end puts)) (step n id set.eight new (spot_at month TotalLeftover) cells.leftover set.ninth);
      }

-- ---- what is read

pub got : (es : List (Text × RowCells)) (all : Cells) (id : Text) (o : Option RowCells) → flattened (from_entries es) ≡ all → lookup (is_at (text_cmp id)) es ≡ o → (s : Spot) → cell_in o s ≡ get all (name_at id s)
got es all id o is found s = sym (ap (λ (c : Cells). get c (name_at id s)) (sym is) ∙ get-flattened (from_entries es) (name_at id s) ∙ ap (λ x. cell_in x s) (get_is text_total text_same es id ∙ found))

pub on_ok : {A E : Type 0} {P Q : Type 0} (r : Result A E) → (P → Q) → OnOk r P → OnOk r Q
on_ok (Ok x) f p = f p
on_ok (Err e) f p = p
