-- By which words and values the JSON of a rule says what it tests and does.
use Rattle.std.specs.Prelude.{◌≡◌, ◌↔◌, ◌⊎◌, ◌≤◌, ℤ, unsigned_abs, true, List, [], ◌∷◌, Option, None, Some, Ok, codes}
use Rattle.std.specs.List.{Contains}
use Rattle.serde_json.specs.Data.{Num, Data, null, boolean, number, string, array, object, Items, no_items, item, Members}
use Rattle.serde_json.specs.Find.{get, as_integer}
use Rattle.serde_json.specs.Read.{read}
use Rattle.field_values.specs.Value.{largest_number}
use Rattle.finite_sums.specs.Maps.{Text}
use Rattle.book_rows.specs.declared.rows.RuleRow.{RuleRow}
use Rattle.rule_engine.specs.declared.rule.CondField.{CondField}
use Rattle.rule_engine.specs.declared.rule.CondField.TheVariants.{Acct, Description, Category, ImportedDescription, Notes, Amount, Date, Cleared}
use Rattle.rule_engine.specs.declared.rule.CondOp.{CondOp}
use Rattle.rule_engine.specs.declared.rule.CondOp.TheVariants.{Is, IsNot, OneOf, NotOneOf, Contains as HasPart, DoesNotContain, IsApprox, IsBetween, Gt, Gte, Lt, Lte}
use Rattle.rule_engine.specs.declared.rule.CondValue.{CondValue}
use Rattle.rule_engine.specs.declared.rule.CondValue.TheVariants.{Null, Text as OneText, Texts, Number, Between, Date as Day, Recurrence, Flag}
use Rattle.rule_engine.specs.declared.rule.Condition.{Condition}
use Rattle.rule_engine.specs.declared.rule.Action.{Action}
use Rattle.rule_engine.specs.declared.rule.Action.TheVariants.{SetDescription, SetCategory, SetNotes, SetCleared, PrependNotes, AppendNotes, LinkSchedule}
use Rattle.rule_engine.specs.declared.rule.Stage.TheVariants.{Pre, Post}
use Rattle.rule_engine.specs.declared.rule.RuleOp.TheVariants.{Or}
use Rattle.rule_engine.specs.declared.rule.Rule.{Rule}
use Rattle.rule_engine.specs.Days.{day_of_text}
use Rattle.rule_engine.specs.Reading.{condition_of, action_of, read_rule}

-- ---- the table of words

-- the names of a column: some have two
abbrev pub column_words : CondField → List Text
column_words Acct = codes "acct" ∷ codes "account" ∷ []
column_words Description = codes "description" ∷ codes "payee" ∷ []
column_words Category = codes "category" ∷ []
column_words ImportedDescription = codes "imported_description" ∷ codes "imported_payee" ∷ []
column_words Notes = codes "notes" ∷ []
column_words Amount = codes "amount" ∷ []
column_words Date = codes "date" ∷ []
column_words Cleared = codes "cleared" ∷ []

-- the name of a test
abbrev pub test_word : CondOp → Text
test_word Is = codes "is"
test_word IsNot = codes "isNot"
test_word OneOf = codes "oneOf"
test_word NotOneOf = codes "notOneOf"
test_word HasPart = codes "contains"
test_word DoesNotContain = codes "doesNotContain"
test_word IsApprox = codes "isapprox"
test_word IsBetween = codes "isbetween"
test_word Gt = codes "gt"
test_word Gte = codes "gte"
test_word Lt = codes "lt"
test_word Lte = codes "lte"

-- ---- values

-- a whole number of cents that a field holds
abbrev pub IsAmount : ℤ → Data → Type 0
IsAmount z d = (n : Num) × (d ≡ number n) × (as_integer n ≡ Some z) × (unsigned_abs z ≤ largest_number)

abbrev pub texts : List Text → Items
texts [] = no_items
texts (t ∷ ts) = item (string t) (texts ts)

-- a member of a value says an amount
abbrev pub HasAmount : Text → ℤ → Data → Type 0
HasAmount key z d = (e : Data) × (get key d ≡ Some e) × IsAmount z e

-- what a condition compares with, as JSON: an amount between two has both ends, by their names
abbrev pub Says : CondValue → Data → Type 0
Says Null d = d ≡ null
Says (OneText t) d = d ≡ string t
Says (Texts ts) d = d ≡ array (texts ts)
Says (Number z) d = IsAmount z d
Says (Between a b) d = HasAmount (codes "num1") a d × HasAmount (codes "num2") b d
Says (Day n) d = (t : Text) × (d ≡ string t) × (day_of_text t ≡ Some n)
Says Recurrence d = (ms : Members) × (d ≡ object ms)
Says (Flag b) d = d ≡ boolean b

-- ---- which tests a column has, by the kind of value

-- an id is there, or none is
abbrev pub IsIdTest : CondOp → CondValue → Type 0
IsIdTest op Null = Contains (Is ∷ IsNot ∷ []) op
IsIdTest op (OneText t) = Contains (Is ∷ IsNot ∷ []) op
IsIdTest op (Texts ts) = Contains (OneOf ∷ NotOneOf ∷ []) op
IsIdTest op value = ⊥

abbrev pub IsTextTest : CondOp → CondValue → Type 0
IsTextTest op (OneText t) = Contains (Is ∷ IsNot ∷ HasPart ∷ DoesNotContain ∷ []) op
IsTextTest op (Texts ts) = Contains (OneOf ∷ NotOneOf ∷ []) op
IsTextTest op value = ⊥

abbrev pub IsAmountTest : CondOp → CondValue → Type 0
IsAmountTest op (Number z) = Contains (Is ∷ IsApprox ∷ Gt ∷ Gte ∷ Lt ∷ Lte ∷ []) op
IsAmountTest op (Between a b) = op ≡ IsBetween
IsAmountTest op value = ⊥

abbrev pub IsDayTest : CondOp → CondValue → Type 0
IsDayTest op (Day n) = Contains (Is ∷ IsApprox ∷ Gt ∷ Gte ∷ Lt ∷ Lte ∷ []) op
IsDayTest op Recurrence = Contains (Is ∷ IsApprox ∷ []) op
IsDayTest op value = ⊥

abbrev pub IsFlagTest : CondOp → CondValue → Type 0
IsFlagTest op (Flag b) = op ≡ Is
IsFlagTest op value = ⊥

abbrev pub IsTest : CondField → CondOp → CondValue → Type 0
IsTest Acct op value = IsIdTest op value
IsTest Description op value = IsIdTest op value
IsTest Category op value = IsIdTest op value
IsTest ImportedDescription op value = IsTextTest op value
IsTest Notes op value = IsTextTest op value
IsTest Amount op value = IsAmountTest op value
IsTest Date op value = IsDayTest op value
IsTest Cleared op value = IsFlagTest op value

-- ---- conditions and actions

-- a member that is true
abbrev pub IsSet : Text → Data → Type 0
IsSet key d = get key d ≡ Some (boolean true)

-- the options ask for money that comes in, or that goes out, alone
abbrev pub AsksDirection : Data → Type 0
AsksDirection d = (options : Data) × (get (codes "options") d ≡ Some options) × (IsSet (codes "inflow") options ⊎ IsSet (codes "outflow") options)

-- a value says a condition
pub record IsCondition (d : Data) (c : Condition) : Type 0 where
  -- it asks for no direction
  pub any_way : AsksDirection d → ⊥
  -- it names the column
  pub field : (word : Text) × (get (codes "field") d ≡ Some (string word)) × Contains (column_words c.field) word
  -- and the test
  pub test : get (codes "op") d ≡ Some (string (test_word c.op))
  -- and has what is compared with
  pub value : (v : Data) × (get (codes "value") d ≡ Some v) × Says c.value v
  -- which is of a kind that this test of the column has
  pub kind : IsTest c.field c.op c.value

-- an id, or null for none
abbrev pub id_or_null : Option Text → Data
id_or_null None = null
id_or_null (Some id) = string id

-- it sets a column: by the word `set`, or by no word
abbrev pub Sets : Data → Text → Data → Type 0
Sets d column value =
    ((get (codes "op") d ≡ None) ⊎ (get (codes "op") d ≡ Some (string (codes "set"))))
    × (get (codes "field") d ≡ Some (string column)) × (get (codes "value") d ≡ Some value)

-- it does something by a word of its own
abbrev pub Does : Data → Text → Text → Type 0
Does d word text = (get (codes "op") d ≡ Some (string word)) × (get (codes "value") d ≡ Some (string text))

-- a value says an action
abbrev pub IsAction : Data → Action → Type 0
IsAction d (SetDescription payee) = Sets d (codes "description") (id_or_null payee)
IsAction d (SetCategory category) = Sets d (codes "category") (id_or_null category)
IsAction d (SetNotes text) = Sets d (codes "notes") (string text)
IsAction d (SetCleared set) = Sets d (codes "cleared") (boolean set)
IsAction d (PrependNotes text) = Does d (codes "prepend-notes") text
IsAction d (AppendNotes text) = Does d (codes "append-notes") text
IsAction d (LinkSchedule id) = Does d (codes "link-schedule") id

-- ---- rules

-- each entry is read, in order
abbrev pub AreRead : {A : Type 0} → (Data → Option A) → Items → List A → Type 0
AreRead reading no_items [] = Unit {0}
AreRead reading (item d ds) (x ∷ xs) = (reading d ≡ Some x) × AreRead reading ds xs
AreRead reading ds xs = ⊥

-- a text is an array whose entries are read so. No text has no entries
abbrev pub Lists : {A : Type 0} → (Data → Option A) → Option Text → List A → Type 0
Lists reading None xs = xs ≡ []
Lists reading (Some text) xs = (ds : Items) × (read text ≡ Some (array ds)) × AreRead reading ds xs

-- a row says a rule
pub record IsRuleOf (id : Text) (row : RuleRow) (r : Rule) : Type 0 where
  -- of this id
  pub own : r.id ≡ id
  -- it runs first or last by these words alone
  pub first : (r.stage ≡ Pre) ↔ (row.stage ≡ Some (codes "pre"))
  pub last : (r.stage ≡ Post) ↔ (row.stage ≡ Some (codes "post"))
  -- one condition suffices by this word alone
  pub any : (r.op ≡ Or) ↔ (row.conditions_op ≡ Some (codes "or"))
  pub conditions : Lists condition_of row.conditions r.conditions
  pub actions : Lists action_of row.actions r.actions

-- how the JSON of rules is read
pub record RulePartsAreRead : Type 0 where
  pub condition : (d : Data) (c : Condition) → (condition_of d ≡ Some c) ↔ IsCondition d c
  pub action : (d : Data) (a : Action) → (action_of d ≡ Some a) ↔ IsAction d a
  pub rule : (id : Text) (row : RuleRow) (r : Rule) → (read_rule id row ≡ Ok r) ↔ IsRuleOf id row r
