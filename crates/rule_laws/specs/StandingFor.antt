-- What conditions and rules say of payees and categories that stand for others.
use Rattle.std.specs.Prelude.{◌≡◌, ◌↔◌, ◌⊎◌, true, List, [], ◌∷◌, None, Some, Ok}
use Rattle.std.specs.List.{Contains}
use Rattle.finite_sums.specs.Maps.{Text, text_cmp, is_among}
use Rattle.book_rows.specs.declared.rows.Rows.{Rows}
use Rattle.book_rows.specs.declared.rows.TxRow.{TxRow}
use Rattle.book_rows.specs.declared.write.Write.{Write}
use Rattle.book_rows.specs.Live.{mapped_category, mapped_payee, category_of, payee_of}
use Rattle.book_rows.specs.Rows.{no_rows}
use Rattle.book_edits.specs.Mappings.{category_delete_to, payee_merge}
use Rattle.split_transfer.specs.After.{Ids, with_writes}
use Rattle.rule_engine.specs.declared.rule.CondField.{CondField}
use Rattle.rule_engine.specs.declared.rule.CondField.TheVariants.{Description, Category}
use Rattle.rule_engine.specs.declared.rule.CondOp.{CondOp}
use Rattle.rule_engine.specs.declared.rule.CondOp.TheVariants.{Is, OneOf}
use Rattle.rule_engine.specs.declared.rule.CondValue.TheVariants.{Null, Text as OneText, Texts}
use Rattle.rule_engine.specs.declared.rule.Condition.{Condition}
use Rattle.rule_engine.specs.declared.rule.Rule.{Rule}
use Rattle.rule_engine.specs.Conditions.{holds, holds_in}
use Rattle.rule_engine.specs.Running.{fires}

-- a test of a column by an id
abbrev pub by_id : CondField → CondOp → Text → Condition
by_id field op id = record { field = field; op = op; value = OneText id }

-- a test whether a column has one of some ids
abbrev pub is_one_of : CondField → List Text → Condition
is_one_of field ids = record { field = field; op = OneOf; value = Texts ids }

-- a test whether a column has no id
abbrev pub has_none : CondField → Condition
has_none field = record { field = field; op = Is; value = Null }

-- each payee and each category stands for itself
pub record StandForThemselves (rows : Rows) : Type 0 where
  pub payees : (id : Text) → mapped_payee rows id ≡ id
  pub categories : (id : Text) → mapped_category rows id ≡ id

-- payees that stand for others
pub record PayeesStandForOthers (rows : Rows) : Type 0 where
  -- a transaction is of a payee just where its own stands for what that one stands for
  pub is : (x : TxRow) (id : Text) → (holds_in rows x (by_id Description Is id) ≡ true) ↔ ((own : Text) × (x.description ≡ Some own) × (mapped_payee rows own ≡ mapped_payee rows id))
  -- of one of some payees, where its own stands for what one of them stands for
  pub one_of : (x : TxRow) (ids : List Text) → (holds_in rows x (is_one_of Description ids) ≡ true)
      ↔ ((own id : Text) × (x.description ≡ Some own) × Contains ids id × (mapped_payee rows own ≡ mapped_payee rows id))
  -- and of none, where it has none
  pub none : (x : TxRow) → (holds_in rows x (has_none Description) ≡ true) ↔ (x.description ≡ None)
  -- so a rule that tests for a payee alone fires on the transactions of all payees that stand for the same one, as those that were merged
  -- with it, and on no others
  pub rule : (r : Rule) (x : TxRow) (id : Text) → r.conditions ≡ by_id Description Is id ∷ []
      → (fires rows r x ≡ true) ↔ ((own : Text) × (x.description ≡ Some own) × (mapped_payee rows own ≡ mapped_payee rows id))
  -- of two payees that stand for the same one a transaction may have either, and a test by an id may name either
  pub same : (a b : Text) → mapped_payee rows a ≡ mapped_payee rows b → (x : TxRow) (c : Condition) → holds_in rows (record x { description = Some a }) c ≡ holds_in rows (record x { description = Some b }) c
  pub same_test : (a b : Text) → mapped_payee rows a ≡ mapped_payee rows b → (x : TxRow) (op : CondOp) → holds_in rows x (by_id Description op a) ≡ holds_in rows x (by_id Description op b)
  -- and only of such two
  pub only_same : (a b : Text) → ((x : TxRow) → holds_in rows x (by_id Description Is a) ≡ true → holds_in rows x (by_id Description Is b) ≡ true) → mapped_payee rows a ≡ mapped_payee rows b

-- and categories that do
pub record CategoriesStandForOthers (rows : Rows) : Type 0 where
  pub is : (x : TxRow) (id : Text) → (holds_in rows x (by_id Category Is id) ≡ true) ↔ ((own : Text) × (x.category ≡ Some own) × (mapped_category rows own ≡ mapped_category rows id))
  pub one_of : (x : TxRow) (ids : List Text) → (holds_in rows x (is_one_of Category ids) ≡ true)
      ↔ ((own id : Text) × (x.category ≡ Some own) × Contains ids id × (mapped_category rows own ≡ mapped_category rows id))
  pub none : (x : TxRow) → (holds_in rows x (has_none Category) ≡ true) ↔ (x.category ≡ None)
  pub rule : (r : Rule) (x : TxRow) (id : Text) → r.conditions ≡ by_id Category Is id ∷ []
      → (fires rows r x ≡ true) ↔ ((own : Text) × (x.category ≡ Some own) × (mapped_category rows own ≡ mapped_category rows id))
  pub same : (a b : Text) → mapped_category rows a ≡ mapped_category rows b → (x : TxRow) (c : Condition) → holds_in rows (record x { category = Some a }) c ≡ holds_in rows (record x { category = Some b }) c
  pub same_test : (a b : Text) → mapped_category rows a ≡ mapped_category rows b → (x : TxRow) (op : CondOp) → holds_in rows x (by_id Category op a) ≡ holds_in rows x (by_id Category op b)
  pub only_same : (a b : Text) → ((x : TxRow) → holds_in rows x (by_id Category Is a) ≡ true → holds_in rows x (by_id Category Is b) ≡ true) → mapped_category rows a ≡ mapped_category rows b

-- one of some payees, or the one that they became
abbrev pub IsOneOf : List Text → Text → Text → Type 0
IsOneOf these to id = (id ≡ to) ⊎ (is_among text_cmp these id ≡ true)

-- where payees became another one, which stood for itself: a rule that tests for any of them alone, dead or alive, fires on just the
-- transactions that are of the one that stays
abbrev pub MergedFireAlike : Type 0
MergedFireAlike = (ids : Ids) (rows : Rows) (to : Text) (these : List Text) (ws : List Write) → payee_merge rows to these ≡ Ok ws → mapped_payee rows to ≡ to
    → (r : Rule) (x : TxRow) (id : Text) → IsOneOf these to id → r.conditions ≡ by_id Description Is id ∷ []
    → (fires (with_writes ids rows ws) r x ≡ true) ↔ (payee_of (with_writes ids rows ws) x ≡ Some to)

-- where a category was handed on to another one, which stood for itself, so does a rule that tests for either
abbrev pub HandedOnFireAlike : Type 0
HandedOnFireAlike = (ids : Ids) (rows : Rows) (dead to : Text) (ws : List Write) → category_delete_to rows dead to ≡ Ok ws → mapped_category rows to ≡ to
    → (r : Rule) (x : TxRow) (id : Text) → (id ≡ to) ⊎ (id ≡ dead) → r.conditions ≡ by_id Category Is id ∷ []
    → (fires (with_writes ids rows ws) r x ≡ true) ↔ (category_of (with_writes ids rows ws) x ≡ Some to)

-- what conditions say of payees and categories that stand for others
pub record IdsStandForOthers : Type 0 where
  pub payees : (rows : Rows) → PayeesStandForOthers rows
  pub categories : (rows : Rows) → CategoriesStandForOthers rows
  -- where each stands for itself, a condition tests the columns as they are; so it is where there are no rows
  pub plain : (rows : Rows) → StandForThemselves rows → (x : TxRow) (c : Condition) → holds_in rows x c ≡ holds x c
  pub nothing : StandForThemselves no_rows
  -- what a merge of payees and the handing on of a category make of rules
  pub merged : MergedFireAlike
  pub handed_on : HandedOnFireAlike
