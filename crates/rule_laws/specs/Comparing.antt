-- What the tests of conditions say.
use Rattle.std.specs.Prelude.{◌≡◌, ◌↔◌, ◌⊎◌, ℕ, ℤ, pos, ◌+◌, ◌*◌, ◌<◌, ◌≤◌, ◌+ℤ◌, ◌-ℤ◌, ◌≤ℤ◌, ◌<ℤ◌, unsigned_abs, Bool, true, false, not, ◌&&◌, List, [], ◌∷◌, Option, None, Some, chars, encode_utf8_all}
use Rattle.std.specs.List.{Contains}
use Rattle.std.specs.Str.Iter.{HasSubslice}
use Rattle.caseless.specs.Caseless.{default_case_fold, IsDefaultMatch}
use Rattle.jiff_core.specs.Calendar.{days_from_civil}
use Rattle.finite_sums.specs.Maps.{Text}
use Rattle.book_rows.specs.declared.rows.Rows.{Rows}
use Rattle.book_rows.specs.declared.rows.TxRow.{TxRow}
use Rattle.book_rows.specs.Kinds.{is_day}
use Rattle.book_rows.specs.Live.{mapped_category, mapped_payee, category_of, payee_of}
use Rattle.rule_engine.specs.declared.rule.CondField.TheVariants.{Acct, Description, Category, ImportedDescription, Notes, Amount, Date, Cleared}
use Rattle.rule_engine.specs.declared.rule.CondOp.{CondOp}
use Rattle.rule_engine.specs.declared.rule.CondOp.TheVariants.{Is, IsNot, OneOf, NotOneOf, Contains as HasPart, DoesNotContain, IsApprox, IsBetween, Gt, Gte, Lt, Lte}
use Rattle.rule_engine.specs.declared.rule.CondValue.{CondValue}
use Rattle.rule_engine.specs.declared.rule.CondValue.TheVariants.{Null, Text as OneText, Texts, Number, Between, Date as Day, Recurrence, Flag}
use Rattle.rule_engine.specs.declared.rule.Condition.{Condition}
use Rattle.rule_engine.specs.Days.{day_number}
use Rattle.rule_engine.specs.Conditions.{id_holds, text_holds, number_holds, amount_holds, day_holds, flag_holds, or_empty, with_ids, holds_in}

-- how ids are compared
pub record IdsAreCompared : Type 0 where
  -- an id is the same where it is there and has the same bytes, and none is only none
  pub is : (t : Text) (id : Option Text) → (id_holds Is (OneText t) id ≡ true) ↔ (id ≡ Some t)
  pub is_none : (id : Option Text) → (id_holds Is Null id ≡ true) ↔ (id ≡ None)
  pub one_of : (ts : List Text) (id : Option Text) → (id_holds OneOf (Texts ts) id ≡ true) ↔ ((t : Text) × Contains ts t × (id ≡ Some t))
  -- by a value of another kind neither of them holds
  pub is_kind : (value : CondValue) (id : Option Text) → id_holds Is value id ≡ true → (value ≡ Null) ⊎ ((t : Text) × (value ≡ OneText t))
  pub one_of_kind : (value : CondValue) (id : Option Text) → id_holds OneOf value id ≡ true → (ts : List Text) × (value ≡ Texts ts)
  -- the opposite tests hold where these don't
  pub is_not : (value : CondValue) (id : Option Text) → id_holds IsNot value id ≡ not (id_holds Is value id)
  pub not_one_of : (value : CondValue) (id : Option Text) → id_holds NotOneOf value id ≡ not (id_holds OneOf value id)
  -- and no other test of an id holds
  pub others : (op : CondOp) (value : CondValue) (id : Option Text) → id_holds op value id ≡ true → Contains (Is ∷ IsNot ∷ OneOf ∷ NotOneOf ∷ []) op

-- how texts are tested: whatever the letters' case is on either side
pub record TextsAreTested : Type 0 where
  pub is : (t text : Text) → (text_holds Is (OneText t) text ≡ true) ↔ IsDefaultMatch (chars text) (chars t)
  pub one_of : (ts : List Text) (text : Text) → (text_holds OneOf (Texts ts) text ≡ true) ↔ ((t : Text) × Contains ts t × IsDefaultMatch (chars text) (chars t))
  -- the part, folded, stands in the text, folded
  pub has : (t text : Text) → (text_holds HasPart (OneText t) text ≡ true) ↔ HasSubslice (encode_utf8_all (default_case_fold (chars text))) (encode_utf8_all (default_case_fold (chars t)))
  -- by a value of another kind none of them holds
  pub is_kind : (value : CondValue) (text : Text) → text_holds Is value text ≡ true → (t : Text) × (value ≡ OneText t)
  pub one_of_kind : (value : CondValue) (text : Text) → text_holds OneOf value text ≡ true → (ts : List Text) × (value ≡ Texts ts)
  pub has_kind : (value : CondValue) (text : Text) → text_holds HasPart value text ≡ true → (t : Text) × (value ≡ OneText t)
  -- the opposite tests hold where these don't
  pub is_not : (value : CondValue) (text : Text) → text_holds IsNot value text ≡ not (text_holds Is value text)
  pub not_one_of : (value : CondValue) (text : Text) → text_holds NotOneOf value text ≡ not (text_holds OneOf value text)
  pub has_not : (value : CondValue) (text : Text) → text_holds DoesNotContain value text ≡ not (text_holds HasPart value text)
  -- and no other test of a text holds
  pub others : (op : CondOp) (value : CondValue) (text : Text) → text_holds op value text ≡ true → Contains (Is ∷ IsNot ∷ OneOf ∷ NotOneOf ∷ HasPart ∷ DoesNotContain ∷ []) op
  -- no text is the empty one
  pub empty : or_empty None ≡ []
  pub given : (t : Text) → or_empty (Some t) ≡ t

-- how amounts are compared
pub record AmountsAreCompared : Type 0 where
  -- with one amount they are the tests of numbers that follow
  pub one : (op : CondOp) (z amount : ℤ) → amount_holds op (Number z) amount ≡ number_holds op z amount
  pub is : (z amount : ℤ) → (number_holds Is z amount ≡ true) ↔ (amount ≡ z)
  pub above : (z amount : ℤ) → (number_holds Gt z amount ≡ true) ↔ (z <ℤ amount)
  pub from : (z amount : ℤ) → (number_holds Gte z amount ≡ true) ↔ (z ≤ℤ amount)
  pub below : (z amount : ℤ) → (number_holds Lt z amount ≡ true) ↔ (amount <ℤ z)
  pub up_to : (z amount : ℤ) → (number_holds Lte z amount ≡ true) ↔ (amount ≤ℤ z)
  -- at most seven and a half in a hundred of what it is compared with away, rounded to the nearest cent, a half up
  pub near : (z amount : ℤ) → (number_holds IsApprox z amount ≡ true) ↔ (1000 * unsigned_abs (amount -ℤ z) ≤ 75 * unsigned_abs z + 500)
  -- no other test with one amount holds
  pub others : (op : CondOp) (z amount : ℤ) → number_holds op z amount ≡ true → Contains (Is ∷ IsApprox ∷ Gt ∷ Gte ∷ Lt ∷ Lte ∷ []) op
  -- between two amounts in either order, both included
  pub between : (a b amount : ℤ) → (amount_holds IsBetween (Between a b) amount ≡ true) ↔ (((a ≤ℤ amount) × (amount ≤ℤ b)) ⊎ ((b ≤ℤ amount) × (amount ≤ℤ a)))
  -- with two no other test holds, and none with a value of another kind
  pub kind : (op : CondOp) (value : CondValue) (amount : ℤ) → amount_holds op value amount ≡ true → ((z : ℤ) × (value ≡ Number z)) ⊎ ((a : ℤ) × (b : ℤ) × (op ≡ IsBetween) × (value ≡ Between a b))

-- how days are compared
pub record DaysAreCompared : Type 0 where
  -- where there is no day no test is met, and no day meets a recurrence
  pub none : (op : CondOp) (value : CondValue) → day_holds op value None ≡ false
  pub recurrence : (op : CondOp) (day : Option ℕ) → day_holds op Recurrence day ≡ false
  pub is : (n day : ℕ) → (day_holds Is (Day n) (Some day) ≡ true) ↔ (day ≡ n)
  pub above : (n day : ℕ) → (day_holds Gt (Day n) (Some day) ≡ true) ↔ (n < day)
  pub from : (n day : ℕ) → (day_holds Gte (Day n) (Some day) ≡ true) ↔ (n ≤ day)
  pub below : (n day : ℕ) → (day_holds Lt (Day n) (Some day) ≡ true) ↔ (day < n)
  pub up_to : (n day : ℕ) → (day_holds Lte (Day n) (Some day) ≡ true) ↔ (day ≤ n)
  -- at most two days of the calendar apart, either way
  pub near : (n day : ℕ) → is_day n ≡ true → is_day day ≡ true
      → (day_holds IsApprox (Day n) (Some day) ≡ true) ↔ ((day_number day ≤ℤ (day_number n +ℤ pos 2)) × (day_number n ≤ℤ (day_number day +ℤ pos 2)))
  pub near_none : (n day : ℕ) → (is_day n && is_day day) ≡ false → day_holds IsApprox (Day n) (Some day) ≡ false
  pub number : (year month place : ℕ) → month < 100 → place < 100 → day_number (year * 10_000 + month * 100 + place) ≡ days_from_civil (pos year) month place
  -- no other test of a day holds, and none by a value of another kind
  pub others : (op : CondOp) (n day : ℕ) → day_holds op (Day n) (Some day) ≡ true → Contains (Is ∷ IsApprox ∷ Gt ∷ Gte ∷ Lt ∷ Lte ∷ []) op
  pub kind : (op : CondOp) (value : CondValue) (day : Option ℕ) → day_holds op value day ≡ true → (n : ℕ) × (value ≡ Day n)

-- how flags are compared: one is the value, and no other test of a flag holds
abbrev pub FlagsAreCompared : Type 0
FlagsAreCompared = (op : CondOp) (value : CondValue) (set : Bool) → (flag_holds op value set ≡ true) ↔ ((op ≡ Is) × (value ≡ Flag set))

-- which column of a transaction a condition tests
pub record ColumnsAreTested (rows : Rows) (c : Condition) (x : TxRow) : Type 0 where
  -- ids: of the account, and of what the payee and the category stand for, by what the ids of the condition stand for
  pub account : c.field ≡ Acct → holds_in rows x c ≡ id_holds c.op c.value x.acct
  pub payee : c.field ≡ Description → holds_in rows x c ≡ id_holds c.op (with_ids (mapped_payee rows) c.value) (payee_of rows x)
  pub category : c.field ≡ Category → holds_in rows x c ≡ id_holds c.op (with_ids (mapped_category rows) c.value) (category_of rows x)
  -- texts: the payee as the statement has it, and the notes
  pub imported : c.field ≡ ImportedDescription → holds_in rows x c ≡ text_holds c.op c.value (or_empty x.imported_description)
  pub notes : c.field ≡ Notes → holds_in rows x c ≡ text_holds c.op c.value (or_empty x.notes)
  -- the amount, the day and the flag
  pub amount : c.field ≡ Amount → holds_in rows x c ≡ amount_holds c.op c.value x.amount
  pub day : c.field ≡ Date → holds_in rows x c ≡ day_holds c.op c.value x.date
  pub cleared : c.field ≡ Cleared → holds_in rows x c ≡ flag_holds c.op c.value x.cleared

-- what the tests of conditions say
pub record ConditionsAreTold : Type 0 where
  pub ids : IdsAreCompared
  pub texts : TextsAreTested
  pub amounts : AmountsAreCompared
  pub days : DaysAreCompared
  pub flags : FlagsAreCompared
  pub columns : (rows : Rows) (c : Condition) (x : TxRow) → ColumnsAreTested rows c x
