-- No line that is answered of the books has a line feed.
use Rattle.std.proofs.Common.{◌≡◌, ℕ, Bool, true, false, cond, List, [], ◌∷◌, ◌++◌, map, Option, None, Some, refl, sym, ◌∙◌}
use Rattle.std.specs.Prelude.{codes, ℤ}
use Rattle.std.specs.List.{flat_map, AllByRecursion}
use Rattle.std.specs.Fmt.{signed_decimal}
use Rattle.std.specs.FinMap as fin
use Rattle.std.specs.BTreeMap.{insert_entry}
use Rattle.std.specs.Ordering.{eq_by_cmp, match_ordering}
use Rattle.std.specs.declared.cmp.Ordering.{Ordering}
use Rattle.std.specs.declared.cmp.Ordering.TheVariants.{Less, Equal, Greater}
use Rattle.field_merge.proofs.EscapeLemmas.{escaped-no_feed}
use Rattle.finite_sums.specs.Maps.{Text, text_cmp, is_among}
use Rattle.book_rows.specs.declared.rows.Rows.{Rows}
use Rattle.book_rows.specs.declared.rows.TxRow.{TxRow}
use Rattle.book_rows.specs.Live.{is_live_tx, category_of, payee_of}
use Rattle.book_rows.specs.Parts.{account_txs}
use Rattle.book_rows.specs.Named.{HasNames}
use Rattle.book_rows.specs.Book.{dated_cmp}
use Rattle.envelope_cells.specs.Budget.{Budget, categories_of}
use Rattle.envelope_cells.specs.BudgetOf.{budget_of, groups_of}
use Rattle.envelope_cells.specs.Ids.{month_number}
use Rattle.envelope_cells.specs.SheetOf.{cell, month_cells, category_cells, categories_cells, group_cells, groups_cells, sheet_of}
use Rattle.envelope_cells.specs.Text.{kind_text}
use Rattle.envelope_cells.specs.Laws.{LiveOnesAreListed}
use Rattle.book_rows.specs.Rows.{no_rows}
use Rattle.envelope_cells.specs.declared.name.Cell.{Cell}
use Rattle.envelope_cells.specs.declared.name.CellKind.{CellKind}
use Rattle.envelope_cells.specs.declared.name.CellKind.TheVariants.{TotalIncome, FromLastMonth, AvailableFunds, LastMonthOverspent, TotalBudgeted, Buffered, ToBudget, TotalSpent, TotalLeftover, GroupSum, GroupBudget, GroupLeftover, Sum, Budget as OfBudget, Carryover, Leftover}
use Rattle.envelope_cells.proofs.Among.{in_front, in_back, or_left, or_right, itself}
use Rattle.envelope_cells.proofs.Listed.{live_ones_are_listed_lem}
use Rattle.command_lines.specs.Register.{Entry, day_text, shown_id, register_line, entry_of_row, entry_of, placed, register_of, register_lines, day_or_first}
use Rattle.command_lines.specs.BookAnswers.{cell_text}
use Rattle.command_lines.specs.ReplyLines.{IsLine, AreLines}
use Rattle.command_lines.proofs.PlainTexts.{Plain, both, tested, is_line, plain_of, number_plain, signed_plain}
use Rattle.command_lines.proofs.RowIds.{name_line, there_named}

-- ---- a register

day_plain : (date : Option ℕ) → Plain (day_text date)
day_plain None = tested (codes "-") refl
day_plain (Some day) = number_plain day

id_plain : (id : Option Text) → Plain (shown_id id)
id_plain None = tested (codes "-") refl
id_plain (Some id) = escaped-no_feed id

line_plain : (rows : Rows) (id : Text) (x : TxRow) → Plain id → Plain (register_line rows id x)
line_plain rows id x h =
    let day : Text = id ++ 9 ∷ day_text x.date in
    let amount : Text = day ++ 9 ∷ signed_decimal x.amount in
    let category : Text = amount ++ 9 ∷ shown_id (category_of rows x) in
    both category (9 ∷ shown_id (payee_of rows x))
    (both amount (9 ∷ shown_id (category_of rows x))
    (both day (9 ∷ signed_decimal x.amount)
    (both id (9 ∷ day_text x.date) h (refl, day_plain x.date))
    (refl, signed_plain x.amount))
    (refl, id_plain (category_of rows x)))
    (refl, id_plain (payee_of rows x))

-- the lines of entries have no line feed
abbrev HaveLines : List Entry → Type 0
HaveLines es = AllByRecursion (λ e. IsLine e.1) es

entry_lines : (rows : Rows) → HasNames rows → (id : Text) → HaveLines (entry_of rows id)
entry_lines rows named id = by (fin.get rows.txs id) refl
  where
    live : (x : TxRow) (b : Bool) → Plain id → HaveLines (cond b (((day_or_first x.date, id), register_line rows id x) ∷ []) [])
    live x true h = (is_line (register_line rows id x) (line_plain rows id x h), tt)
    live x false h = tt

    by : (o : Option TxRow) → fin.get rows.txs id ≡ o → HaveLines (entry_of_row rows id o)
    by None e = tt
    by (Some x) e = live x (is_live_tx rows x) (plain_of id (name_line id (named.txs id x e)))

append_lines : (es fs : List Entry) → HaveLines es → HaveLines fs → HaveLines (es ++ fs)
append_lines [] fs h k = k
append_lines (e ∷ es) fs h k = (h.0, append_lines es fs h.1 k)

all_entry_lines : (rows : Rows) → HasNames rows → (ids : List Text) → HaveLines (flat_map (entry_of rows) ids)
all_entry_lines rows named [] = tt
all_entry_lines rows named (id ∷ ids) = append_lines (entry_of rows id) (flat_map (entry_of rows) ids) (entry_lines rows named id) (all_entry_lines rows named ids)

insert_lines : (es : List Entry) (k : ℕ × Text) (line : Text) → IsLine line → HaveLines es → HaveLines (insert_entry dated_cmp es k line)
insert_lines [] k line h all = (h, tt)
insert_lines (e ∷ es) k line h all = by (dated_cmp k e.0) (insert_lines es k line h all.1)
  where
    by : (o : Ordering) → HaveLines (insert_entry dated_cmp es k line) → HaveLines (match_ordering o ((k, line) ∷ e ∷ es) ((e.0, line) ∷ es) (e ∷ insert_entry dated_cmp es k line))
    by Less rest = (h, all)
    by Equal rest = (h, all.1)
    by Greater rest = (all.0, rest)

placed_lines : (es done : List Entry) → HaveLines es → HaveLines done → HaveLines (placed es done)
placed_lines [] done h k = k
placed_lines (e ∷ es) done h k = placed_lines es (insert_entry dated_cmp done e.0 e.1) h.1 (insert_lines done e.0 e.1 h.0 k)

lines_of : (es : List Entry) → HaveLines es → AreLines (map (λ (e : Entry). e.1) es)
lines_of [] h = tt
lines_of (e ∷ es) h = (h.0, lines_of es h.1)

pub register_is : (rows : Rows) (account : Text) → HasNames rows → AreLines (register_lines rows account)
register_is rows account named =
    lines_of (register_of rows account) (placed_lines (flat_map (entry_of rows) (account_txs rows account)) [] (all_entry_lines rows named (account_txs rows account)) tt)

-- ---- a sheet

kind_plain : (kind : CellKind) → Plain (kind_text kind)
kind_plain TotalIncome = tested (kind_text TotalIncome) refl
kind_plain FromLastMonth = tested (kind_text FromLastMonth) refl
kind_plain AvailableFunds = tested (kind_text AvailableFunds) refl
kind_plain LastMonthOverspent = tested (kind_text LastMonthOverspent) refl
kind_plain TotalBudgeted = tested (kind_text TotalBudgeted) refl
kind_plain Buffered = tested (kind_text Buffered) refl
kind_plain ToBudget = tested (kind_text ToBudget) refl
kind_plain TotalSpent = tested (kind_text TotalSpent) refl
kind_plain TotalLeftover = tested (kind_text TotalLeftover) refl
kind_plain GroupSum = tested (kind_text GroupSum) refl
kind_plain GroupBudget = tested (kind_text GroupBudget) refl
kind_plain GroupLeftover = tested (kind_text GroupLeftover) refl
kind_plain Sum = tested (kind_text Sum) refl
kind_plain OfBudget = tested (kind_text OfBudget) refl
kind_plain Carryover = tested (kind_text Carryover) refl
kind_plain Leftover = tested (kind_text Leftover) refl

cell_line : (month : ℕ) (kind : CellKind) (id : Text) (z : ℤ) → IsLine id → IsLine (cell_text (cell month kind id z))
cell_line month kind id z h =
    is_line (kind_text kind ++ id ++ 32 ∷ signed_decimal z)
    (both (kind_text kind ++ id) (32 ∷ signed_decimal z) (both (kind_text kind) id (kind_plain kind) (plain_of id h)) (refl, signed_plain z))

abbrev TellLines : List Cell → Type 0
TellLines cells = AreLines (map cell_text cells)

append_cells : (cs ds : List Cell) → TellLines cs → TellLines ds → TellLines (cs ++ ds)
append_cells [] ds h k = k
append_cells (c ∷ cs) ds h k = (h.0, append_cells cs ds h.1 k)

category_lines : (b : Budget) (month m : ℕ) (income : Bool) (id : Text) → IsLine id → TellLines (category_cells b month m income id)
category_lines b month m true id h = (cell_line month Sum id _ h, tt)
category_lines b month m false id h = (cell_line month Sum id _ h, (cell_line month OfBudget id _ h, (cell_line month Carryover id _ h, (cell_line month Leftover id _ h, tt))))

categories_lines : (b : Budget) (month m : ℕ) (income : Bool) (ids : List Text) → AreLines ids → TellLines (categories_cells b month m income ids)
categories_lines b month m income [] h = tt
categories_lines b month m income (id ∷ ids) h =
    append_cells (category_cells b month m income id) (categories_cells b month m income ids) (category_lines b month m income id h.0) (categories_lines b month m income ids h.1)

-- a group of a budget
abbrev ElementOf : {A : Type 0} → List A → Type 0
ElementOf {A} xs = A

abbrev pub Group : Type 0
Group = ElementOf (groups_of no_rows)

either_cells : (t : Bool) (cs ds : List Cell) → TellLines cs → TellLines ds → TellLines (cond t cs ds)
either_cells true cs ds h k = h
either_cells false cs ds h k = k

group_lines : (b : Budget) (month m : ℕ) (g : Group) → IsLine g.id → TellLines (group_cells b month m g)
group_lines b month m g h =
    (cell_line month GroupSum g.id _ h, either_cells g.is_income [] _ tt (cell_line month GroupBudget g.id _ h, (cell_line month GroupLeftover g.id _ h, tt)))

-- the ids of groups and of their categories have no line feed
abbrev pub HaveIds : List Group → Type 0
HaveIds gs = AllByRecursion (λ g. IsLine g.id × AreLines g.categories) gs

groups_lines : (b : Budget) (month m : ℕ) (gs : List Group) → HaveIds gs → TellLines (groups_cells b month m gs)
groups_lines b month m [] h = tt
groups_lines b month m (g ∷ gs) h =
    append_cells (group_cells b month m g ++ categories_cells b month m g.is_income g.categories) (groups_cells b month m gs)
    (append_cells (group_cells b month m g) (categories_cells b month m g.is_income g.categories) (group_lines b month m g h.0.0) (categories_lines b month m g.is_income g.categories h.0.1))
    (groups_lines b month m gs h.1)

empty_line : IsLine []
empty_line = is_line [] tt

month_lines : (b : Budget) (month m : ℕ) → TellLines (month_cells b month m)
month_lines b month m = (
  cell_line month TotalIncome [] _ empty_line,
  (
    cell_line month FromLastMonth [] _ empty_line,
    (
      cell_line month AvailableFunds [] _ empty_line,
      (
        cell_line month LastMonthOverspent [] _ empty_line,
        (
          cell_line month TotalBudgeted [] _ empty_line,
          (
            cell_line month Buffered [] _ empty_line,
            (cell_line month ToBudget [] _ empty_line, (cell_line month TotalSpent [] _ empty_line, (cell_line month TotalLeftover [] _ empty_line, tt))),
          ),
        ),
      ),
    ),
  ),
)

pub all_among : (ids : List Text) → ((q : Text) → is_among text_cmp ids q ≡ true → IsLine q) → AreLines ids
all_among [] h = tt
all_among (id ∷ ids) h =
    (h id (or_left (eq_by_cmp text_cmp id id) (is_among text_cmp ids id) (itself id)), all_among ids (λ q e. h q (or_right (eq_by_cmp text_cmp q id) (is_among text_cmp ids q) e)))

have_ids : (gs : List Group) → ((q : Text) → is_among text_cmp (map (λ (g : Group). g.id) gs) q ≡ true → IsLine q) → ((q : Text) → is_among text_cmp (categories_of gs) q ≡ true → IsLine q)
    → HaveIds gs
have_ids [] h k = tt
have_ids (g ∷ gs) h k =
    let ids : List Text = map (λ (g : Group). g.id) gs in (
      (h g.id (or_left (eq_by_cmp text_cmp g.id g.id) (is_among text_cmp ids g.id) (itself g.id)), all_among g.categories (λ q e. k q (in_front g.categories (categories_of gs) q e))),
      have_ids gs (λ q e. h q (or_right (eq_by_cmp text_cmp q g.id) (is_among text_cmp ids q) e)) (λ q e. k q (in_back g.categories (categories_of gs) q e)),
    )

pub groups_named : (rows : Rows) → HasNames rows → HaveIds (groups_of rows)
groups_named rows named =
    let listed : LiveOnesAreListed rows = live_ones_are_listed_lem rows in
    have_ids (groups_of rows)
    (λ q e. name_line q (there_named rows.groups _ q named.groups (sym (listed.group q) ∙ e)))
    (λ q e. name_line q (there_named rows.categories _ q named.categories (sym (listed.category q) ∙ e)))

pub sheet_is : (rows : Rows) (month : ℕ) → HasNames rows → AreLines (map cell_text (sheet_of (budget_of rows) month))
sheet_is rows month named =
    let m : ℕ = month_number month in
    append_cells (month_cells (budget_of rows) month m) (groups_cells (budget_of rows) month m (groups_of rows))
    (month_lines (budget_of rows) month m)
    (groups_lines (budget_of rows) month m (groups_of rows) (groups_named rows named))
