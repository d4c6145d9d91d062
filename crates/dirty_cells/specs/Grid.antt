-- What is kept, and which cells are computed anew.
use Rattle.std.specs.Prelude.{◌≡◌, ℕ, ◌<◌, Bool, true, false, pos, List, [], ◌∷◌, Some}
use Rattle.std.specs.FinMap as map
use Rattle.finite_sums.specs.Maps.{Text, text_cmp, is_among, some_and}
use Rattle.book_rows.specs.declared.rows.CategoryRow.{CategoryRow}
use Rattle.book_rows.specs.Parts.{is_text}
use Rattle.book_rows.specs.Ids.{budget_id}
use Rattle.book_rows.specs.declared.rows.Rows.{Rows}
use Rattle.envelope_cells.specs.Budget.{Budget, categories, expense, expense_groups}
use Rattle.envelope_cells.specs.CellOf.{group_named}
use Rattle.envelope_cells.specs.BudgetOf.{category_sum}
use Rattle.envelope_cells.specs.Laws.{SayTheSame}
use Rattle.envelope_cells.specs.declared.groups.BudgetGroup.{BudgetGroup}
use Rattle.envelope_cells.specs.declared.part.Past.{Past}
use Rattle.envelope_cells.specs.declared.name.CellKind.{CellKind}
use Rattle.envelope_cells.specs.declared.name.CellKind.TheVariants.{GroupSum, GroupBudget, GroupLeftover, Sum, Budget as OfBudget, Carryover, Leftover}

-- a cell of the whole month has the empty id: there is none with another, so none is to be computed
abbrev pub of_whole : Bool → Text → Bool
of_whole whole [] = whole
of_whole whole (x ∷ id) = false

-- the cell is still to be computed: one of the whole month where these are, one of a group or of a category where it is among those
abbrev pub is_pending : List Text → List Text → Bool → CellKind → Text → Bool
is_pending cs gs whole GroupSum id = is_among text_cmp gs id
is_pending cs gs whole GroupBudget id = is_among text_cmp gs id
is_pending cs gs whole GroupLeftover id = is_among text_cmp gs id
is_pending cs gs whole Sum id = is_among text_cmp cs id
is_pending cs gs whole OfBudget id = is_among text_cmp cs id
is_pending cs gs whole Carryover id = is_among text_cmp cs id
is_pending cs gs whole Leftover id = is_among text_cmp cs id
is_pending cs gs whole other id = of_whole whole id

-- two budgets say the same of all but some categories and groups
pub record SameBut (a b : Budget) (cs gs : List Text) : Type 0 where
  pub said : (c : Text) → is_among text_cmp cs c ≡ false → SayTheSame a b c
  pub listed : (c : Text) → is_among text_cmp cs c ≡ false → is_among text_cmp (categories a) c ≡ is_among text_cmp (categories b) c
  pub spent : (c : Text) → is_among text_cmp cs c ≡ false → is_among text_cmp (expense a) c ≡ is_among text_cmp (expense b) c
  pub group : (g : Text) → is_among text_cmp gs g ≡ false → group_named a.groups g ≡ group_named b.groups g
  pub expenses : (g : Text) → is_among text_cmp gs g ≡ false → group_named (expense_groups a) g ≡ group_named (expense_groups b) g
  -- and none of the categories is of another group
  pub members : (g : Text) (k : BudgetGroup) (c : Text) → is_among text_cmp gs g ≡ false → group_named b.groups g ≡ Some k → is_among text_cmp k.categories c ≡ true → is_among text_cmp cs c ≡ false
  pub spenders : (g : Text) (k : BudgetGroup) (c : Text) → is_among text_cmp gs g ≡ false → group_named (expense_groups b) g ≡ Some k → is_among text_cmp k.categories c ≡ true → is_among text_cmp cs c ≡ false

-- two budgets list the same, and say the same of the months before month n
pub record SameBefore (a b : Budget) (n : ℕ) : Type 0 where
  pub groups : a.groups ≡ b.groups
  pub sums : (c : Text) (m : ℕ) → m < n → a.category_sum c m ≡ b.category_sum c m
  pub budgeted : (c : Text) (m : ℕ) → m < n → a.budgeted c m ≡ b.budgeted c m
  pub carries : (c : Text) (m : ℕ) → m < n → a.carries c m ≡ b.carries c m
  pub buffered : (m : ℕ) → m < n → a.buffered m ≡ b.buffered m

-- the categories and the groups that are marked: of all others two states of a book's rows say the same
pub record Marks (r s : Rows) (cs gs : List Text) : Type 0 where
  pub sums : (c : Text) (month : ℕ) → is_among text_cmp cs c ≡ false → category_sum r c month ≡ category_sum s c month
  pub budgets : (c : Text) (month : ℕ) → is_among text_cmp cs c ≡ false → map.get r.budgets (budget_id c month) ≡ map.get s.budgets (budget_id c month)
  pub categories : (c : Text) → is_among text_cmp cs c ≡ false → map.get r.categories c ≡ map.get s.categories c
  -- its group's row
  pub owners : (c : Text) (row : CategoryRow) (g : Text) → is_among text_cmp cs c ≡ false → map.get r.categories c ≡ Some row → row.cat_group ≡ Some g → map.get r.groups g ≡ map.get s.groups g
  pub groups : (g : Text) → is_among text_cmp gs g ≡ false → map.get r.groups g ≡ map.get s.groups g
  -- a marked category was and is of marked groups
  pub theirs : (g c : Text) → is_among text_cmp gs g ≡ false → is_among text_cmp cs c ≡ true → (some_and (λ (row : CategoryRow). is_text g row.cat_group) (map.get r.categories c) ≡ false) × (some_and (λ (row : CategoryRow). is_text g row.cat_group) (map.get s.categories c) ≡ false)

-- nothing of any month before
abbrev pub nothing : Past
nothing = record { left = pos 0; carries = false; moved = pos 0 }
