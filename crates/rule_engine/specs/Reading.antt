-- What the JSON of conditions and actions says, and the first entry that is bad.
use Rattle.std.specs.Prelude.{ℕ, min, List, [], ◌∷◌, Bool, ◌||◌, if◌then◌else◌, Option, Some, None, is_none, option_map, option_and_then, Result, Ok, Err, codes, ℤ, nat_le, unsigned_abs}
use Rattle.std.specs.Option.{option_or}
use Rattle.std.specs.Str.{bytes_eq}
use Rattle.std.specs.List.{position, filter_map}
use Rattle.serde_json.specs.Data.{Data, null, string, object, Items, no_items, item}
use Rattle.serde_json.specs.Find.{get, as_bool, as_number, as_i64, as_str, as_array}
use Rattle.serde_json.specs.Read.{read}
use Rattle.field_values.specs.Value.{largest_number}
use Rattle.finite_sums.specs.Maps.{Text, some_and}
use Rattle.book_rows.specs.declared.rows.RuleRow.{RuleRow}
use Rattle.book_rows.specs.declared.fault.RulePart.{RulePart}
use Rattle.book_rows.specs.declared.fault.RulePart.TheVariants.{Conditions, Actions}
use Rattle.book_rows.specs.declared.fault.EditFault.{EditFault}
use Rattle.book_rows.specs.declared.fault.EditFault.TheVariants.{BadRule}
use Rattle.book_edits.specs.Faults.{◌>>=◌}
use Rattle.rule_engine.specs.declared.rule.CondField.{CondField}
use Rattle.rule_engine.specs.declared.rule.CondField.TheVariants.{Acct, Description, Category, ImportedDescription, Notes, Amount, Date, Cleared}
use Rattle.rule_engine.specs.declared.rule.CondOp.{CondOp}
use Rattle.rule_engine.specs.declared.rule.CondOp.TheVariants.{Is, IsNot, OneOf, NotOneOf, Contains, DoesNotContain, IsApprox, IsBetween, Gt, Gte, Lt, Lte}
use Rattle.rule_engine.specs.declared.rule.CondValue.{CondValue}
use Rattle.rule_engine.specs.declared.rule.CondValue.TheVariants.{Null, Text as OneText, Texts, Number, Between, Date as Day, Recurrence, Flag}
use Rattle.rule_engine.specs.declared.rule.Condition.{Condition}
use Rattle.rule_engine.specs.declared.rule.Action.{Action}
use Rattle.rule_engine.specs.declared.rule.Action.TheVariants.{SetDescription, SetCategory, SetNotes, SetCleared, PrependNotes, AppendNotes, LinkSchedule}
use Rattle.rule_engine.specs.declared.rule.Stage.{Stage}
use Rattle.rule_engine.specs.declared.rule.Stage.TheVariants.{Pre, Plain, Post}
use Rattle.rule_engine.specs.declared.rule.RuleOp.{RuleOp}
use Rattle.rule_engine.specs.declared.rule.RuleOp.TheVariants.{And, Or}
use Rattle.rule_engine.specs.declared.rule.Rule.{Rule}
use Rattle.rule_engine.specs.Days.{day_of_text}

-- ---- entries

abbrev pub entries_of : Items → List Data
entries_of no_items = []
entries_of (item d ds) = d ∷ entries_of ds

-- the place of the first entry that can't be read
abbrev pub first_bad : {A : Type 0} → (Data → Option A) → List Data → Option ℕ
first_bad reading ds = position (λ d. is_none (reading d)) ds

abbrev pub unless_bad : {A : Type 0} → Option ℕ → List A → Result (List A) ℕ
unless_bad None found = Ok found
unless_bad (Some at) found = Err at

-- what all entries are read as, or the place of the first that can't be read
unfoldable pub all_read : {A : Type 0} → (Data → Option A) → List Data → Result (List A) ℕ
all_read reading ds = unless_bad (first_bad reading ds) (filter_map reading ds)

-- ---- single values

abbrev pub ok_of : {A : Type 0} → Result A ℕ → Option A
ok_of (Ok a) = Some a
ok_of (Err at) = None

-- an array of texts, perhaps empty
abbrev pub as_texts : Data → Option (List Text)
as_texts d = option_and_then (λ ds. ok_of (all_read as_str (entries_of ds))) (as_array d)

-- a number that a value of a field holds
abbrev pub as_held : ℤ → Option ℤ
as_held z = if nat_le (unsigned_abs z) largest_number then Some z else None

-- a whole number that a value of a field holds. One with a point or an exponent is none, nor is -0
abbrev pub as_amount : Data → Option ℤ
as_amount d = option_and_then as_held (option_and_then as_i64 (as_number d))

-- the day of a text YYYY-MM-DD, from 1970 to 2199
abbrev pub as_day : Data → Option ℕ
as_day d = option_and_then day_of_text (as_str d)

-- a text, or null for none
abbrev pub as_maybe_text : Data → Option (Option Text)
as_maybe_text null = Some None
as_maybe_text (string t) = Some (Some t)
as_maybe_text other = None

-- ---- conditions

abbrev pub field_word : Text → Option CondField
field_word t =
    if bytes_eq t (codes "acct") || bytes_eq t (codes "account") then Some Acct else
    if bytes_eq t (codes "description") || bytes_eq t (codes "payee") then Some Description else
    if bytes_eq t (codes "category") then Some Category else
    if bytes_eq t (codes "imported_description") || bytes_eq t (codes "imported_payee") then Some ImportedDescription else
    if bytes_eq t (codes "notes") then Some Notes else
    if bytes_eq t (codes "amount") then Some Amount else
    if bytes_eq t (codes "date") then Some Date else
    if bytes_eq t (codes "cleared") then Some Cleared else
    None

-- the names of tests for ids and texts
abbrev pub text_op_word : Text → Option CondOp
text_op_word t =
    if bytes_eq t (codes "is") then Some Is else
    if bytes_eq t (codes "isNot") then Some IsNot else
    if bytes_eq t (codes "oneOf") then Some OneOf else
    if bytes_eq t (codes "notOneOf") then Some NotOneOf else
    if bytes_eq t (codes "contains") then Some Contains else
    if bytes_eq t (codes "doesNotContain") then Some DoesNotContain else
    None

-- the names of tests that are for amounts and days alone
abbrev pub order_op_word : Text → Option CondOp
order_op_word t =
    if bytes_eq t (codes "isapprox") then Some IsApprox else
    if bytes_eq t (codes "isbetween") then Some IsBetween else
    if bytes_eq t (codes "gt") then Some Gt else
    if bytes_eq t (codes "gte") then Some Gte else
    if bytes_eq t (codes "lt") then Some Lt else
    if bytes_eq t (codes "lte") then Some Lte else
    None

abbrev pub op_word : Text → Option CondOp
op_word t = option_or (text_op_word t) (order_op_word t)

abbrev pub maybe_value : Option Text → CondValue
maybe_value None = Null
maybe_value (Some t) = OneText t

-- what an id is compared with
abbrev pub id_value : CondOp → Data → Option CondValue
id_value Is d = option_map maybe_value (as_maybe_text d)
id_value IsNot d = option_map maybe_value (as_maybe_text d)
id_value OneOf d = option_map (λ ts. Texts ts) (as_texts d)
id_value NotOneOf d = option_map (λ ts. Texts ts) (as_texts d)
id_value other d = None

-- what a text is compared with
abbrev pub text_value : CondOp → Data → Option CondValue
text_value Is d = option_map (λ t. OneText t) (as_str d)
text_value IsNot d = option_map (λ t. OneText t) (as_str d)
text_value Contains d = option_map (λ t. OneText t) (as_str d)
text_value DoesNotContain d = option_map (λ t. OneText t) (as_str d)
text_value OneOf d = option_map (λ ts. Texts ts) (as_texts d)
text_value NotOneOf d = option_map (λ ts. Texts ts) (as_texts d)
text_value other d = None

abbrev pub between : Option ℤ → Option ℤ → Option CondValue
between (Some a) (Some b) = Some (Between a b)
between a b = None

-- what an amount is compared with
abbrev pub amount_value : CondOp → Data → Option CondValue
amount_value Is d = option_map (λ z. Number z) (as_amount d)
amount_value IsApprox d = option_map (λ z. Number z) (as_amount d)
amount_value Gt d = option_map (λ z. Number z) (as_amount d)
amount_value Gte d = option_map (λ z. Number z) (as_amount d)
amount_value Lt d = option_map (λ z. Number z) (as_amount d)
amount_value Lte d = option_map (λ z. Number z) (as_amount d)
amount_value IsBetween d = between (option_and_then as_amount (get (codes "num1") d)) (option_and_then as_amount (get (codes "num2") d))
amount_value other d = None

-- a day, or a recurrence, which is an object, whatever it says
abbrev pub day_or_recurrence : Data → Option CondValue
day_or_recurrence (object ms) = Some Recurrence
day_or_recurrence other = option_map (λ n. Day n) (as_day other)

-- what a day is compared with
abbrev pub day_value : CondOp → Data → Option CondValue
day_value Is d = day_or_recurrence d
day_value IsApprox d = day_or_recurrence d
day_value Gt d = option_map (λ n. Day n) (as_day d)
day_value Gte d = option_map (λ n. Day n) (as_day d)
day_value Lt d = option_map (λ n. Day n) (as_day d)
day_value Lte d = option_map (λ n. Day n) (as_day d)
day_value other d = None

-- what a flag is compared with
abbrev pub flag_value : CondOp → Data → Option CondValue
flag_value Is d = option_map (λ b. Flag b) (as_bool d)
flag_value other d = None

-- what a column is compared with
abbrev pub value_of : CondField → CondOp → Data → Option CondValue
value_of Acct op d = id_value op d
value_of Description op d = id_value op d
value_of Category op d = id_value op d
value_of ImportedDescription op d = text_value op d
value_of Notes op d = text_value op d
value_of Amount op d = amount_value op d
value_of Date op d = day_value op d
value_of Cleared op d = flag_value op d

abbrev pub text_at : Text → Data → Option Text
text_at key d = option_and_then as_str (get key d)

-- a member that is true
abbrev pub is_set : Text → Data → Bool
is_set key d = some_and (λ b. b) (option_and_then as_bool (get key d))

-- the options of an entry ask for a direction of money, `inflow` or `outflow`
abbrev pub asks_direction : Data → Bool
asks_direction d = some_and (λ options. is_set (codes "inflow") options || is_set (codes "outflow") options) (get (codes "options") d)

abbrev pub with_value : CondField → CondOp → Option CondValue → Option Condition
with_value field op None = None
with_value field op (Some value) = Some (record { field = field; op = op; value = value })

abbrev pub with_op : Data → CondField → Option CondOp → Option Condition
with_op d field None = None
with_op d field (Some op) = with_value field op (option_and_then (value_of field op) (get (codes "value") d))

abbrev pub with_field : Data → Option CondField → Option Condition
with_field d None = None
with_field d (Some field) = with_op d field (option_and_then op_word (text_at (codes "op") d))

-- a condition: `field`, `op` and `value`, which all have to be there. Other members are ignored, but for `options`
unfoldable pub condition_of : Data → Option Condition
condition_of d = if asks_direction d then None else with_field d (option_and_then field_word (text_at (codes "field") d))

-- ---- actions

-- `set` has a `field` besides
abbrev pub set_of : Text → Data → Option Action
set_of field d =
    if bytes_eq field (codes "category") then option_map (λ c. SetCategory c) (as_maybe_text d) else
    if bytes_eq field (codes "description") then option_map (λ p. SetDescription p) (as_maybe_text d) else
    if bytes_eq field (codes "notes") then option_map (λ t. SetNotes t) (as_str d) else
    if bytes_eq field (codes "cleared") then option_map (λ b. SetCleared b) (as_bool d) else
    None

-- the op is `set` where none is there
abbrev pub action_op : Option Data → Option Text
action_op None = Some (codes "set")
action_op (Some d) = as_str d

abbrev pub action_by : Text → Option Text → Data → Option Action
action_by op field d =
    if bytes_eq op (codes "set") then option_and_then (λ f. set_of f d) field else
    if bytes_eq op (codes "prepend-notes") then option_map (λ t. PrependNotes t) (as_str d) else
    if bytes_eq op (codes "append-notes") then option_map (λ t. AppendNotes t) (as_str d) else
    if bytes_eq op (codes "link-schedule") then option_map (λ t. LinkSchedule t) (as_str d) else
    None

-- an action: `op`, `value`, which has to be there, and for `set` a `field`. Other members are ignored
unfoldable pub action_of : Data → Option Action
action_of d =
    option_and_then (λ op. option_and_then (action_by op (text_at (codes "field") d)) (get (codes "value") d)) (action_op (get (codes "op") d))

-- ---- rules

-- the entries of a text, which has to be an array. Without a text there are none
abbrev pub entries_in : Option Text → Option (List Data)
entries_in None = Some []
entries_in (Some text) = option_map entries_of (option_and_then as_array (read text))

-- the greatest number of 32 bits
abbrev pub largest_place : ℕ
largest_place = 4_294_967_295

abbrev pub or_bad : {A : Type 0} → RulePart → Result (List A) ℕ → Result (List A) EditFault
or_bad part (Ok found) = Ok found
or_bad part (Err at) = Err (BadRule part (min at largest_place))

abbrev pub in_array : {A : Type 0} → (Data → Option A) → Option (List Data) → Result (List A) ℕ
in_array reading None = Err 0
in_array reading (Some ds) = all_read reading ds

-- a part of a rule, or the place of the first of its entries that is bad, or 0 where it is no array
abbrev pub read_part : {A : Type 0} → RulePart → (Data → Option A) → Option Text → Result (List A) EditFault
read_part part reading text = or_bad part (in_array reading (entries_in text))

-- what is neither `pre` nor `post` stands for `Plain`
abbrev pub stage_of : Option Text → Stage
stage_of None = Plain
stage_of (Some t) = if bytes_eq t (codes "pre") then Pre else if bytes_eq t (codes "post") then Post else Plain

abbrev pub op_of : Option Text → RuleOp
op_of None = And
op_of (Some t) = if bytes_eq t (codes "or") then Or else And

-- the rule of a row, or the first part of it that is bad: its conditions are read before its actions
unfoldable pub read_rule : Text → RuleRow → Result Rule EditFault
read_rule id row = do
  conditions ← read_part Conditions condition_of row.conditions
  actions ← read_part Actions action_of row.actions
  Ok (record { id = id; stage = stage_of row.stage; op = op_of row.conditions_op; conditions = conditions; actions = actions })
