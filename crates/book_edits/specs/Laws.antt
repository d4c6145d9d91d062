-- What the laws say.
use Rattle.std.specs.Prelude.{◌≡◌, ◌≢◌, ◌↔◌, ℕ, ℤ, ◌+ℤ◌, ◌-ℤ◌, Bool, true, false, List, Option, Some, Ok, Err}
use Rattle.std.specs.Option.{option_map}
use Rattle.std.specs.declared.cmp.Ordering.TheVariants.{Greater}
use Rattle.std.specs.FinMap as map
use Rattle.finite_sums.specs.Maps.{Text, Texts, text_cmp}
use Rattle.book_rows.specs.declared.rows.Rows.{Rows}
use Rattle.book_rows.specs.declared.rows.GroupRow.{GroupRow}
use Rattle.book_rows.specs.declared.rows.CategoryRow.{CategoryRow}
use Rattle.book_rows.specs.declared.rows.BudgetRow.{BudgetRow}
use Rattle.book_rows.specs.declared.write.Write.{Write}
use Rattle.book_rows.specs.declared.fault.EditFault.TheVariants.{NameTaken}
use Rattle.book_rows.specs.Live.{is_live_category}
use Rattle.book_edits.specs.Checks.{free_group_name, free_category_name}
use Rattle.book_edits.specs.Budgets.{budgeted, two_amounts, budget, carryover, move}
use Rattle.book_edits.specs.Mappings.{category_delete_to}

-- a group that was not deleted has the name
pub record IsGroupNamed (rows : Rows) (name id : Text) : Type 0 where
  pub group : (g : GroupRow) × (map.get rows.groups id ≡ Some g) × (g.tombstone ≡ false) × (g.name ≡ Some name)

-- a live category of the group has the name
pub record IsCategoryNamed (rows : Rows) (group name id : Text) : Type 0 where
  pub live : is_live_category rows id ≡ true
  pub category : (c : CategoryRow) × (map.get rows.categories id ≡ Some c) × (c.cat_group ≡ Some group) × (c.name ≡ Some name)

-- of those that have a name this is the one with the least id
pub record IsLeast (has : Text → Type 0) (id : Text) : Type 0 where
  pub one : has id
  pub least : (other : Text) → has other → text_cmp id other ≢ Greater

-- a name is free where nobody has it; else the least id of those that have it is told. What asks for the name isn't left out
pub record NamesAreTold (rows : Rows) : Type 0 where
  pub group_free : (name : Text) → (free_group_name rows name ≡ Ok tt) ↔ ((id : Text) → IsGroupNamed rows name id → ⊥)
  pub group_taken : (name id : Text) → (free_group_name rows name ≡ Err (NameTaken id)) ↔ IsLeast (IsGroupNamed rows name) id
  pub category_free : (group name : Text) → (free_category_name rows group name ≡ Ok tt) ↔ ((id : Text) → IsCategoryNamed rows group name id → ⊥)
  pub category_taken : (group name id : Text) → (free_category_name rows group name ≡ Err (NameTaken id)) ↔ IsLeast (IsCategoryNamed rows group name) id

-- the amount of a budget row, if it is there
abbrev pub amount_in : Texts BudgetRow → Text → Option ℤ
amount_in budgets id = option_map (λ (b : BudgetRow). b.amount) (map.get budgets id)

-- budget rows of the same ids and amounts make the same writes, whatever their columns say of months and categories
pub record IdsAloneChoose (rows : Rows) (budgets : Texts BudgetRow) (same : (id : Text) → amount_in rows.budgets id ≡ amount_in budgets id) : Type 0 where
  pub budget : (month : ℕ) (category : Text) (amount : ℤ) → budget rows month category amount ≡ budget (record rows { budgets = budgets }) month category amount
  pub carryover : (month : ℕ) (category : Text) (carries : Bool) → carryover rows month category carries ≡ carryover (record rows { budgets = budgets }) month category carries
  pub move : (month : ℕ) (from to : Text) (amount : ℤ) → move rows month from to amount ≡ move (record rows { budgets = budgets }) month from to amount
  pub handed_on : (id to : Text) → category_delete_to rows id to ≡ category_delete_to (record rows { budgets = budgets }) id to

-- what one category is given less the other one is given more: both together are given what they were given before
abbrev pub MovesKeepMoney : Type 0
MovesKeepMoney =
    (rows : Rows) (month : ℕ) (from to : Text) (amount : ℤ) (ws : List Write) → move rows month from to amount ≡ Ok ws
    → (less : ℤ) × (more : ℤ) × (ws ≡ two_amounts rows month from less to more) × (less ≡ budgeted rows from month -ℤ amount) × (less +ℤ more ≡ budgeted rows from month +ℤ budgeted rows to month)
