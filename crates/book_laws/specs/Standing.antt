-- Which payee a transfer has, and when it has a category.
use Rattle.std.specs.Prelude.{◌≡◌, ◌↔◌, ◌⊎◌, true, false, List, Option, Some, None, Ok}
use Rattle.std.specs.FinMap as map
use Rattle.finite_sums.specs.Maps.{Text}
use Rattle.book_rows.specs.declared.rows.Rows.{Rows}
use Rattle.book_rows.specs.declared.rows.AccountRow.{AccountRow}
use Rattle.book_rows.specs.declared.rows.PayeeRow.{PayeeRow}
use Rattle.book_rows.specs.declared.rows.TxRow.{TxRow}
use Rattle.book_rows.specs.declared.write.Write.{Write}
use Rattle.book_rows.specs.Live.{is_live_category}
use Rattle.book_edits.specs.Laws.{IsLeast}
use Rattle.split_transfer.specs.declared.edit.PairEdit.TheVariants.{TxSet}
use Rattle.split_transfer.specs.declared.edit.TxChange.TheVariants.{Category}
use Rattle.split_transfer.specs.Edits.{pair_writes}
use Rattle.split_transfer.specs.Right.{ArePair}
use Rattle.split_transfer.specs.Transfers.{payee_for}

-- a payee that was not deleted stands for the account
pub record StandsFor (rows : Rows) (account id : Text) : Type 0 where
  pub payee : PayeeRow
  pub there : map.get rows.payees id ≡ Some payee
  pub kept : payee.tombstone ≡ false
  pub stands : payee.transfer_acct ≡ Some account

-- an account that is there and stands outside the budget
pub record IsOutside (rows : Rows) (account : Option Text) : Type 0 where
  pub id : Text
  pub row : AccountRow
  pub is : account ≡ Some id
  pub there : map.get rows.accounts id ≡ Some row
  pub outside : row.offbudget ≡ true

-- of two accounts one stands outside the budget, and the other one doesn't
abbrev pub Cross : Rows → Option Text → Option Text → Type 0
Cross rows a b = (IsOutside rows a × (IsOutside rows b → ⊥)) ⊎ ((IsOutside rows a → ⊥) × IsOutside rows b)

-- the payees of transfers, and their categories
pub record TransfersAreOfAccounts (rows : Rows) : Type 0 where
  -- of the payees that stand for an account it is the one of the least id
  pub payee : (account id : Text) → (payee_for rows account ≡ Some id) ↔ IsLeast (StandsFor rows account) id
  -- where none does, there is none
  pub no_payee : (account : Text) → (payee_for rows account ≡ None) ↔ ((id : Text) → StandsFor rows account id → ⊥)
  -- one of a pair may have a category where the two accounts lie on both sides of the budget's border, it isn't split, and the category is
  -- live
  pub category : (a b category : Text) (x y : TxRow) → ArePair rows a x b y
      → ((ws : List Write) × (pair_writes rows (TxSet a (Category (Some category))) ≡ Ok ws))
      ↔ (Cross rows x.acct y.acct × (x.is_parent ≡ false) × (is_live_category rows category ≡ true))
