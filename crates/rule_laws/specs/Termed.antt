-- What the rule of a schedule says, in the words of its conditions.
use Rattle.std.specs.Prelude.{◌≡◌, ◌⊎◌, ℕ, ℤ, pos, ◌+ℤ◌, List, [], ◌∷◌, None, Some, Ok, codes}
use Rattle.std.specs.List.{Contains}
use Rattle.serde_json.specs.Data.{Data, array, Items, item}
use Rattle.serde_json.specs.Find.{get}
use Rattle.serde_json.specs.Read.{read}
use Rattle.finite_sums.specs.Maps.{Text}
use Rattle.book_rows.specs.declared.rows.RuleRow.{RuleRow}
use Rattle.rule_engine.specs.declared.rule.CondField.TheVariants.{Acct, Description, Amount, Date}
use Rattle.rule_engine.specs.declared.rule.CondOp.{CondOp}
use Rattle.rule_engine.specs.declared.rule.CondOp.TheVariants.{Is, IsApprox}
use Rattle.rule_engine.specs.declared.rule.CondValue.{CondValue}
use Rattle.rule_engine.specs.declared.rule.CondValue.TheVariants.{Text as OneText, Number, Between, Date as Day, Recurrence}
use Rattle.rule_engine.specs.declared.rule.Condition.{Condition}
use Rattle.rule_engine.specs.Reading.{condition_of}
use Rattle.schedules.specs.declared.recurrence.Frequency.TheVariants.{Daily}
use Rattle.schedules.specs.declared.recurrence.Weekends.TheVariants.{Stay}
use Rattle.schedules.specs.declared.recurrence.Ending.TheVariants.{Until}
use Rattle.schedules.specs.Months.{day_in}
use Rattle.schedules.specs.Days.{Said}
use Rattle.schedules.specs.Reading.{said_of}
use Rattle.schedules.specs.Terms.{Terms, rule_terms}
use Rattle.rule_laws.specs.Wording.{AreRead}

-- ---- the first of some conditions

-- of entries, which say these conditions, this one is the first whose condition passes: it stands in front and passes, or the one in front
-- doesn't pass, and it is the first of the others
abbrev pub IsFirst : (Condition → Type 0) → Items → List Condition → Data → Condition → Type 0
IsFirst P (item e es) (b ∷ bs) d c = ((e ≡ d) × (b ≡ c) × P c) ⊎ ((P b → ⊥) × IsFirst P es bs d c)
IsFirst P ds cs d c = ⊥

-- none of them passes
abbrev pub NonePasses : (Condition → Type 0) → List Condition → Type 0
NonePasses P cs = (c : Condition) → Contains cs c → P c → ⊥

-- ---- what a condition is about

abbrev pub of_account : Text → Condition
of_account id = record { field = Acct; op = Is; value = OneText id }

abbrev pub of_payee : Text → Condition
of_payee id = record { field = Description; op = Is; value = OneText id }

-- it names an account, or a payee
abbrev pub NamesAccount : Condition → Type 0
NamesAccount c = (id : Text) × (c ≡ of_account id)

abbrev pub NamesPayee : Condition → Type 0
NamesPayee c = (id : Text) × (c ≡ of_payee id)

-- it tests the amount, or the day
abbrev pub TestsAmount : Condition → Type 0
TestsAmount c = c.field ≡ Amount

abbrev pub TestsDay : Condition → Type 0
TestsDay c = c.field ≡ Date

-- ---- what it means

-- twice the middle of two amounts is their sum, or a cent more where a half is rounded up
abbrev pub IsMiddle : ℤ → ℤ → ℤ → Type 0
IsMiddle a b z = (z +ℤ z ≡ a +ℤ b) ⊎ (z +ℤ z ≡ a +ℤ b +ℤ pos 1)

-- an amount that is, or is near, this one means it, and any other test with one amount means 0
abbrev pub MeansOne : CondOp → ℤ → ℤ → Type 0
MeansOne Is y z = z ≡ y
MeansOne IsApprox y z = z ≡ y
MeansOne op y z = z ≡ pos 0

-- one that lies between two means their middle
abbrev pub MeansAmount : CondOp → CondValue → ℤ → Type 0
MeansAmount op (Number y) z = MeansOne op y z
MeansAmount op (Between a b) z = IsMiddle a b z
MeansAmount op value z = ⊥

-- one day alone, which does not move
abbrev pub that_day : ℕ → Said
that_day d = record { start = d; frequency = Daily; interval = 1; patterns = []; weekends = Stay; ending = Until d }

-- a day means itself, and a recurrence what its JSON says
abbrev pub MeansDays : CondValue → Data → Said → Type 0
MeansDays (Day n) v days = (d : ℕ) × (day_in n ≡ Some d) × (days ≡ that_day d)
MeansDays Recurrence v days = said_of v ≡ Ok days
MeansDays value v days = ⊥

-- entries, which say these conditions, say this of a schedule
pub record SayTerms (ds : Items) (cs : List Condition) (t : Terms) : Type 0 where
  -- the account is that of the first condition that names one
  pub account : (d : Data) × IsFirst NamesAccount ds cs d (of_account t.account)
  -- the payee is that of the first condition that names one, and none where none does
  pub payee : ((id : Text) × (d : Data) × (t.payee ≡ Some id) × IsFirst NamesPayee ds cs d (of_payee id)) ⊎ ((t.payee ≡ None) × NonePasses NamesPayee cs)
  -- the amount is what the first condition on it means, and 0 where there is none
  pub amount : ((d : Data) × (c : Condition) × IsFirst TestsAmount ds cs d c × MeansAmount c.op c.value t.amount) ⊎ ((t.amount ≡ pos 0) × NonePasses TestsAmount cs)
  -- the days are those that the first condition on them means
  pub days : (d : Data) × (c : Condition) × (v : Data) × IsFirst TestsDay ds cs d c × (get (codes "value") d ≡ Some v) × MeansDays c.value v t.days

-- what a rule says as that of a schedule its conditions say, as rules read them
abbrev pub TermsAreTold : Type 0
TermsAreTold = (row : RuleRow) (t : Terms) → rule_terms row ≡ Ok t
    → (text : Text) × (ds : Items) × (cs : List Condition) × (row.conditions ≡ Some text) × (read text ≡ Some (array ds)) × AreRead condition_of ds cs × SayTerms ds cs t
