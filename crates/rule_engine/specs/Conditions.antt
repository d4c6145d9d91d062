-- Which conditions hold on a transaction.
use Rattle.std.specs.Prelude.{◌≡◌, ◌↔◌, ℕ, map, ◌+◌, ◌*◌, ◌/◌, nat_le, nat_lt, ◌==◌, Bool, true, false, not, ◌&&◌, ◌||◌, [], ◌∷◌, Option, None, Some, ℤ, ◌-ℤ◌, unsigned_abs, int_le, int_lt, chars, encode_utf8_all}
use Rattle.std.specs.List.{list_any}
use Rattle.std.specs.Ordering.{int_eq}
use Rattle.std.specs.Str.{bytes_eq}
use Rattle.std.specs.Str.Iter.{HasSubslice}
use Rattle.caseless.specs.Caseless.{default_case_fold, IsDefaultMatch}
use Rattle.finite_sums.specs.Maps.{Text}
use Rattle.book_rows.specs.declared.rows.Rows.{Rows}
use Rattle.book_rows.specs.declared.rows.TxRow.{TxRow}
use Rattle.book_rows.specs.Live.{mapped_category, mapped_payee, category_of, payee_of}
use Rattle.rule_engine.specs.declared.rule.CondField.{CondField}
use Rattle.rule_engine.specs.declared.rule.CondField.TheVariants.{Acct, Description, Category, ImportedDescription, Notes, Amount, Date, Cleared}
use Rattle.rule_engine.specs.declared.rule.CondOp.{CondOp}
use Rattle.rule_engine.specs.declared.rule.CondOp.TheVariants.{Is, IsNot, OneOf, NotOneOf, Contains, DoesNotContain, IsApprox, IsBetween, Gt, Gte, Lt, Lte}
use Rattle.rule_engine.specs.declared.rule.CondValue.{CondValue}
use Rattle.rule_engine.specs.declared.rule.CondValue.TheVariants.{Null, Text as OneText, Texts, Number, Between, Date as Day, Flag}
use Rattle.rule_engine.specs.declared.rule.Condition.{Condition}
use Rattle.rule_engine.specs.Days.{are_within}

-- ---- ids: by bytes. None is only none, and is in no list

abbrev pub is_id : CondValue → Option Text → Bool
is_id Null None = true
is_id (OneText t) (Some id) = bytes_eq id t
is_id value id = false

abbrev pub is_one_id : CondValue → Option Text → Bool
is_one_id (Texts ts) (Some id) = list_any (bytes_eq id) ts
is_one_id value id = false

abbrev pub id_holds : CondOp → CondValue → Option Text → Bool
id_holds Is value id = is_id value id
id_holds IsNot value id = not (is_id value id)
id_holds OneOf value id = is_one_id value id
id_holds NotOneOf value id = not (is_one_id value id)
id_holds other value id = false

-- ---- texts: whatever their letters' case

-- one text under full case folding
abbrev pub is_same_text : Text → Text → Bool
is_same_text a b = bytes_eq (default_case_fold (chars a)) (default_case_fold (chars b))

unfoldable pub folded : Text → Text
folded text = encode_utf8_all (default_case_fold (chars text))

abbrev pub begins : Text → Text → Bool
begins [] text = true
begins (p ∷ part) [] = false
begins (p ∷ part) (b ∷ text) = (p == b) && begins part text

-- a part stands somewhere in a text
abbrev pub has_part : Text → Text → Bool
has_part part [] = begins part []
has_part part (b ∷ text) = begins part (b ∷ text) || has_part part text

-- a text, which is empty where there is none
abbrev pub or_empty : Option Text → Text
or_empty None = []
or_empty (Some t) = t

abbrev pub text_is : CondValue → Text → Bool
text_is (OneText t) text = is_same_text text t
text_is value text = false

abbrev pub text_is_one : CondValue → Text → Bool
text_is_one (Texts ts) text = list_any (is_same_text text) ts
text_is_one value text = false

abbrev pub text_has : CondValue → Text → Bool
text_has (OneText t) text = has_part (folded t) (folded text)
text_has value text = false

abbrev pub text_holds : CondOp → CondValue → Text → Bool
text_holds Is value text = text_is value text
text_holds IsNot value text = not (text_is value text)
text_holds OneOf value text = text_is_one value text
text_holds NotOneOf value text = not (text_is_one value text)
text_holds Contains value text = text_has value text
text_holds DoesNotContain value text = not (text_has value text)
text_holds other value text = false

-- ---- amounts

-- seven and a half in a hundred either way, rounded to the nearest cent, a half up
abbrev pub is_near : ℤ → ℤ → Bool
is_near z amount = nat_le (unsigned_abs (amount -ℤ z)) ((unsigned_abs z * 75 + 500) / 1000)

-- both ends are included, and may stand in either order
abbrev pub is_between : ℤ → ℤ → ℤ → Bool
is_between a b amount = (int_le a amount && int_le amount b) || (int_le b amount && int_le amount a)

abbrev pub number_holds : CondOp → ℤ → ℤ → Bool
number_holds Is z amount = int_eq amount z
number_holds IsApprox z amount = is_near z amount
number_holds Gt z amount = int_lt z amount
number_holds Gte z amount = int_le z amount
number_holds Lt z amount = int_lt amount z
number_holds Lte z amount = int_le amount z
number_holds other z amount = false

abbrev pub is_between_op : CondOp → Bool
is_between_op IsBetween = true
is_between_op other = false

abbrev pub amount_holds : CondOp → CondValue → ℤ → Bool
amount_holds op (Number z) amount = number_holds op z amount
amount_holds op (Between a b) amount = is_between_op op && is_between a b amount
amount_holds op value amount = false

-- ---- days. A transaction without a day meets no condition on days

abbrev pub day_holds_by : CondOp → ℕ → ℕ → Bool
day_holds_by Is n day = day == n
day_holds_by IsApprox n day = are_within 2 day n
day_holds_by Gt n day = nat_lt n day
day_holds_by Gte n day = nat_le n day
day_holds_by Lt n day = nat_lt day n
day_holds_by Lte n day = nat_le day n
day_holds_by other n day = false

abbrev pub day_holds : CondOp → CondValue → Option ℕ → Bool
day_holds op (Day n) (Some day) = day_holds_by op n day
day_holds op value day = false

-- ---- flags

unfoldable pub same_flag : Bool → Bool → Bool
same_flag true b = b
same_flag false b = not b

abbrev pub flag_holds : CondOp → CondValue → Bool → Bool
flag_holds Is (Flag b) set = same_flag b set
flag_holds op value set = false

-- ---- conditions

abbrev pub holds_by : CondField → CondOp → CondValue → TxRow → Bool
holds_by Acct op value x = id_holds op value x.acct
holds_by Description op value x = id_holds op value x.description
holds_by Category op value x = id_holds op value x.category
holds_by ImportedDescription op value x = text_holds op value (or_empty x.imported_description)
holds_by Notes op value x = text_holds op value (or_empty x.notes)
holds_by Amount op value x = amount_holds op value x.amount
holds_by Date op value x = day_holds op value x.date
holds_by Cleared op value x = flag_holds op value x.cleared

-- a condition holds on a transaction
unfoldable pub holds : TxRow → Condition → Bool
holds x c = holds_by c.field c.op c.value x

-- ---- conditions over rows, which map payees and categories to others

-- a transaction with the payee and the category that its own stand for
abbrev pub resolved_row : Rows → TxRow → TxRow
resolved_row rows x = record x { category = category_of rows x; description = payee_of rows x }

-- a value with other ids in place of its own
abbrev pub with_ids : (Text → Text) → CondValue → CondValue
with_ids other (OneText id) = OneText (other id)
with_ids other (Texts ids) = Texts (map other ids)
with_ids other value = value

-- what an id of a field stands for: only payees and categories stand for others
abbrev pub mapped_by : Rows → CondField → Text → Text
mapped_by rows Description id = mapped_payee rows id
mapped_by rows Category id = mapped_category rows id
mapped_by rows field id = id

-- a condition on payees or categories with what its ids stand for; any other as it is
abbrev pub resolved_value : Rows → CondField → CondValue → CondValue
resolved_value rows Description value = with_ids (mapped_payee rows) value
resolved_value rows Category value = with_ids (mapped_category rows) value
resolved_value rows field value = value

abbrev pub resolved_condition : Rows → Condition → Condition
resolved_condition rows c = record c { value = resolved_value rows c.field c.value }

-- a condition holds on a transaction over rows: on what its payee and its category stand for, where the ids of the condition stand for others too
unfoldable pub holds_in : Rows → TxRow → Condition → Bool
holds_in rows x c = holds (resolved_row rows x) (resolved_condition rows c)

-- how texts are compared
pub record TextsAreCompared : Type 0 where
  pub same : (a b : Text) → (is_same_text a b ≡ true) ↔ IsDefaultMatch (chars a) (chars b)
  pub part : (part text : Text) → (has_part part text ≡ true) ↔ HasSubslice text part
