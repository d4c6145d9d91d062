-- What a new schedule says.
use Rattle.std.specs.Prelude.{◌≡◌, ◌≤◌, ◌++◌, ◌∷◌, [], ℤ, false, List, Option, None, Some, Ok}
use Rattle.std.specs.FinMap as map
use Rattle.serde_json.specs.Data.{Data, depth}
use Rattle.serde_json.specs.Read.{read}
use Rattle.serde_json.specs.Written.{has_float}
use Rattle.finite_sums.specs.Maps.{Text}
use Rattle.book_rows.specs.declared.rows.Rows.{Rows}
use Rattle.book_rows.specs.declared.rows.RuleRow.{RuleRow}
use Rattle.book_rows.specs.declared.rows.ScheduleRow.{ScheduleRow}
use Rattle.book_rows.specs.declared.write.Write.{Write}
use Rattle.split_transfer.specs.After.{Ids, with_writes}
use Rattle.rule_engine.specs.declared.rule.RuleOp.TheVariants.{And}
use Rattle.rule_engine.specs.declared.rule.Stage.TheVariants.{Plain}
use Rattle.rule_engine.specs.declared.rule.Condition.{Condition}
use Rattle.rule_engine.specs.declared.rule.CondField.TheVariants.{Acct, Description, Amount, Date}
use Rattle.rule_engine.specs.declared.rule.CondOp.TheVariants.{Is, IsApprox}
use Rattle.rule_engine.specs.declared.rule.CondValue.TheVariants.{Text as OneText, Number, Recurrence}
use Rattle.rule_engine.specs.Reading.{read_rule}
use Rattle.schedules.specs.Days.{Said}
use Rattle.schedules.specs.Reading.{recurrence_of}
use Rattle.schedules.specs.Terms.{Terms, terms_of}
use Rattle.schedules.specs.Edits.{schedule_add}
use Rattle.rule_laws.specs.Making.{own_id}
use Rattle.rule_laws.specs.Scheduling.{IsThere}

-- the JSON of a recurrence that is written again as it is meant
pub record IsPlain (recur : Text) (d : Data) : Type 0 where
  -- it is this value
  pub is : read recur ≡ Some d
  -- its numbers are whole and of at most 64 bits, and none is `-0`. No key that is read wants another one
  pub whole : has_float d ≡ false
  -- it nests no deeper than the reader of the conditions goes, in which it stands two deep. No key that is read wants more than 3
  pub flat : depth d ≤ 125

-- what is given for a schedule
abbrev pub given : Text → Option Text → ℤ → Said → Terms
given account payee amount days = record { account = account; payee = payee; amount = amount; days = days }

-- of this payee, if there is one
abbrev pub of_payee : Option Text → List Condition
of_payee None = []
of_payee (Some payee) = record { field = Description; op = Is; value = OneText payee } ∷ []

-- near a day of a recurrence, of this account, of the payee, and of this amount
abbrev pub conditions_of : Text → Option Text → ℤ → List Condition
conditions_of account payee amount =
    record { field = Date; op = IsApprox; value = Recurrence }
    ∷ record { field = Acct; op = Is; value = OneText account }
    ∷ (of_payee payee ++ record { field = Amount; op = Is; value = Number amount } ∷ [])

-- a schedule is added
pub record IsAdded (ids : Ids) (rows : Rows) (ws : List Write) (id : Option Text) (account : Text) (payee : Option Text) (amount : ℤ) (recur : Text) : Type 0 where
  pub name : Text
  -- it is accepted, with these writes
  pub accepted : schedule_add rows id name account payee amount recur ≡ Ok ws
  -- its rows are new
  pub new_rule : map.get rows.rules (ids 0) ≡ None
  pub new : map.get rows.schedules (own_id ids 4 id) ≡ None

-- a schedule that is added reads back, in the rows after
pub record SchedulesReadBack (ids : Ids) (rows : Rows) (ws : List Write) : Type 0 where
  -- it says what was given: the account, the payee, the amount, and the days of the recurrence
  pub says : (id : Option Text) (account : Text) (payee : Option Text) (amount : ℤ) (recur : Text) (d : Data)
      → IsAdded ids rows ws id account payee amount recur → IsPlain recur d
      → (row : ScheduleRow) × (days : Said) × IsThere (with_writes ids rows ws) (own_id ids 4 id) row × (recurrence_of recur ≡ Ok days)
      × (terms_of (with_writes ids rows ws) row ≡ Ok (given account payee amount days))
  -- and its rule tests for the account, the payee, the amount and a recurrence, of which it does not tell the days: it has no stage, all its
  -- conditions have to hold, and it has no actions
  pub tests : (id : Option Text) (account : Text) (payee : Option Text) (amount : ℤ) (recur : Text) (d : Data)
      → IsAdded ids rows ws id account payee amount recur → IsPlain recur d
      → (row : RuleRow) × (map.get (with_writes ids rows ws).rules (ids 0) ≡ Some row)
      × (read_rule (ids 0) row ≡ Ok (record { id = ids 0; stage = Plain; op = And; conditions = conditions_of account payee amount; actions = [] }))
