-- The ids of rows are names.
use Rattle.book_rows.specs.declared.rows.Rows.{Rows}
use Rattle.book_rows.specs.Tables.{AreNamed}

-- each id of a row is a name
pub record HasNames (rows : Rows) : Type 0 where
  pub accounts : AreNamed rows.accounts
  pub groups : AreNamed rows.groups
  pub categories : AreNamed rows.categories
  pub payees : AreNamed rows.payees
  pub txs : AreNamed rows.txs
  pub budgets : AreNamed rows.budgets
  pub months : AreNamed rows.months
  pub notes : AreNamed rows.notes
  pub rules : AreNamed rows.rules
  pub schedules : AreNamed rows.schedules
  pub category_mappings : AreNamed rows.category_mappings
  pub payee_mappings : AreNamed rows.payee_mappings
  pub tracked : AreNamed rows.tracked
