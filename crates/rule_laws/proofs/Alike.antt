-- Rules and schedules read the same JSON.
use Rattle.std.proofs.Common.{◌≡◌, ℕ, ◌+◌, ◌-◌, ◌%◌, ◌≤◌, Bool, true, false, List, [], ◌∷◌, Option, Some, None, option_and_then, Ok, inl, inr, refl, sym, ap, ◌∙◌, subst, arith}
use lib.IntN.{ℤ, pos}
use Rattle.std.specs.Prelude.{◌⊎◌, ◌&&◌, ◌||◌, not, int_le, ◌≤ℤ◌, neg_ℤ, unsigned_abs, is_some, if◌then◌else◌, codes}
use Rattle.std.specs.List.{Contains}
use Rattle.std.specs.Str.{bytes_eq}
use Rattle.std.proofs.lemmas.Int.{ints}
use Rattle.std.proofs.lemmas.Bool.{and_parts, and_from, or_cases, or_left, or_right}
use Rattle.serde_json.specs.Data.{Data, null, boolean, number, string, array, object, Items, no_items, item, Members}
use Rattle.serde_json.specs.Find.{get, as_bool, as_number, as_i64, as_str, as_array}
use Rattle.serde_json.specs.Read.{read}
use Rattle.field_values.specs.Value.{largest_number}
use Rattle.finite_sums.specs.Maps.{Text, some_and}
use Rattle.book_rows.specs.declared.fault.RulePart.{RulePart}
use Rattle.book_rows.specs.declared.fault.RulePart.TheVariants.{Conditions, Actions}
use Rattle.book_rows.specs.Kinds.{is_day}
use Rattle.rule_engine.specs.declared.rule.CondField.{CondField}
use Rattle.rule_engine.specs.declared.rule.CondField.TheVariants.{Acct, Description, Category, ImportedDescription, Notes, Amount, Date, Cleared}
use Rattle.rule_engine.specs.declared.rule.CondOp.{CondOp}
use Rattle.rule_engine.specs.declared.rule.CondOp.TheVariants.{Is, IsNot, OneOf, NotOneOf, Contains as HasPart, DoesNotContain, IsApprox, IsBetween, Gt, Gte, Lt, Lte}
use Rattle.rule_engine.specs.declared.rule.CondValue.{CondValue}
use Rattle.rule_engine.specs.declared.rule.CondValue.TheVariants.{Null, Text as OneText, Texts, Number, Between, Date as Day, Recurrence, Flag}
use Rattle.rule_engine.specs.declared.rule.Condition.{Condition}
use Rattle.rule_engine.specs.declared.rule.Action.{Action}
use Rattle.rule_engine.specs.declared.rule.Action.TheVariants.{SetDescription, SetCategory, SetNotes, SetCleared, PrependNotes, AppendNotes, LinkSchedule}
use Rattle.rule_engine.specs.Days.{has_form, digits_number, day_of_text}
use Rattle.rule_engine.specs.Reading.{is_set as has_set, asks_direction, condition_of, action_of, read_part}
use Rattle.schedules.specs.Months.{day_in, month_in, month_start}
use Rattle.schedules.specs.Reading.{day_of_text as scheduled_day}
use Rattle.schedules.specs.Conditions.{says, is_words, is_id, all_of, are_words, exact, amount_at, is_between, is_date, is_keyed, is_flag, is_same_op, is_list_op, is_part_op, is_near_op, is_order_op, is_account_field, is_payee_field, is_id_field, is_words_field, is_id_test, is_words_test, is_amount_test, is_date_test, is_flag_test, is_test, asks_way, is_condition, is_set_op, is_words_op, is_setting, is_action}
use Rattle.schedules.specs.Terms.{entries_by, entries_of}
use Rattle.rule_laws.specs.Wording.{column_words, test_word, IsAmount, texts, HasAmount, Says, IsIdTest, IsTextTest, IsAmountTest, IsDayTest, IsFlagTest, IsTest, IsCondition, id_or_null, Sets, Does, IsAction, AreRead}
use Rattle.rule_laws.specs.Alike.{RulesAreReadAlike}
use Rattle.rule_laws.proofs.Choices.{some_is, none_is, is_false, not_true, only, then_some, text_eq, here, there, each_of}
use Rattle.rule_laws.proofs.Wording.{str_is, bool_is, number_is, array_is, integer_is, i64_is, asks_so, so_asks, condition_so, so_condition, action_so, so_action, lists_so, so_lists}
use Rattle.rule_laws.proofs.DayTexts.{days_written}
use Rattle.rule_laws.proofs.ReadBack.{exact_back}

-- ---- single values

pub says_so : (v : Option Data) (word : Text) → says v word ≡ true → v ≡ Some (string word)
says_so None word h = cc
says_so (Some d) word h = by (as_str d) refl h
  where
    by : (o : Option Text) → as_str d ≡ o → some_and (λ (t : Text). bytes_eq t word) o ≡ true → Some d ≡ Some (string word)
    by None e h = cc
    by (Some t) e h = ap Some (str_is d t e ∙ ap string (text_eq t word h))

the_some : {A : Type 0} (o : Option A) → is_some o ≡ true → (x : A) × (o ≡ Some x)
the_some None h = cc
the_some (Some x) h = (x, refl)

pub words_are : (v : Option Data) → is_words v ≡ true → (t : Text) × (v ≡ Some (string t))
words_are v h =
    let s = the_some (option_and_then as_str v) h in
    let d = then_some as_str v s.0 s.1 in
    (s.0, d.1 ∙ ap Some (str_is d.0 s.0 d.2))

all_words : (ds : Items) → all_of (λ d. is_words (Some d)) ds ≡ true → (ts : List Text) × (ds ≡ texts ts)
all_words no_items h = ([], refl)
all_words (item d ds) h =
    let p = and_parts (is_words (Some d)) (all_of (λ e. is_words (Some e)) ds) h in
    let t = words_are (Some d) p.0 in
    let ts = all_words ds p.1 in
    (t.0 ∷ ts.0, ap (λ e. item e ds) (some_is d (string t.0) t.1) ∙ ap (item (string t.0)) ts.1)

are_all_words : (ts : List Text) → all_of (λ d. is_words (Some d)) (texts ts) ≡ true
are_all_words [] = refl
are_all_words (t ∷ ts) = are_all_words ts

passing : {A : Type 0} (p : A → Bool) (o : Option A) → some_and p o ≡ true → (x : A) × (o ≡ Some x) × (p x ≡ true)
passing p None h = cc
passing p (Some x) h = (x, refl, h)

lists_are : (v : Option Data) → are_words v ≡ true → (ts : List Text) × (v ≡ Some (array (texts ts)))
lists_are v h =
    let a = passing (all_of (λ d. is_words (Some d))) (option_and_then as_array v) h in
    let d = then_some as_array v a.0 a.1 in
    let ts = all_words a.0 a.2 in
    (ts.0, d.1 ∙ ap Some (array_is d.0 a.0 d.2 ∙ ap array ts.1))

ids_are : (v : Option Data) → is_id v ≡ true → (o : Option Text) × (v ≡ Some (id_or_null o))
ids_are None h = cc
ids_are (Some null) h = (None, refl)
ids_are (Some (string t)) h = (Some t, refl)
ids_are (Some (boolean b)) h = cc
ids_are (Some (number n)) h = cc
ids_are (Some (array ds)) h = cc
ids_are (Some (object ms)) h = cc

flags_are : (v : Option Data) → is_flag v ≡ true → (b : Bool) × (v ≡ Some (boolean b))
flags_are v h =
    let b = the_some (option_and_then as_bool v) h in
    let d = then_some as_bool v b.0 b.1 in
    (b.0, d.1 ∙ ap Some (bool_is d.0 b.0 d.2))

keyed_are : (v : Option Data) → is_keyed v ≡ true → (ms : Members) × (v ≡ Some (object ms))
keyed_are None h = cc
keyed_are (Some null) h = cc
keyed_are (Some (string t)) h = cc
keyed_are (Some (boolean b)) h = cc
keyed_are (Some (number n)) h = cc
keyed_are (Some (array ds)) h = cc
keyed_are (Some (object ms)) h = (ms, refl)

-- ---- amounts

below : (z : ℤ) → (int_le (neg_ℤ (pos 9_007_199_254_740_991)) z && int_le z (pos 9_007_199_254_740_991)) ≡ true → unsigned_abs z ≤ largest_number
below z h =
    let p = and_parts (int_le (neg_ℤ (pos 9_007_199_254_740_991)) z) (int_le z (pos 9_007_199_254_740_991)) h in
    let low : neg_ℤ (pos 9_007_199_254_740_991) ≤ℤ z = int_le_so (neg_ℤ (pos 9_007_199_254_740_991)) z p.0 in
    let high : z ≤ℤ pos 9_007_199_254_740_991 = int_le_so z (pos 9_007_199_254_740_991) p.1 in
    omega (arith, ints, low, high)
  where
    int_le_so : (a b : ℤ) → int_le a b ≡ true → a ≤ℤ b
    int_le_so a b h = grind (arith, ints, h)

-- an amount for schedules is one for rules
amounts_are : (v : Option Data) (z : ℤ) → amount_at v ≡ Some z → (d : Data) × (v ≡ Some d) × IsAmount z d
amounts_are v z h =
    let whole = then_some exact (option_and_then as_i64 (option_and_then as_number v)) z h in
    let n = then_some as_i64 (option_and_then as_number v) whole.0 whole.1 in
    let d = then_some as_number v n.0 n.1 in
    let small = only (int_le (neg_ℤ (pos 9_007_199_254_740_991)) whole.0 && int_le whole.0 (pos 9_007_199_254_740_991)) (Some whole.0) z whole.2 in
    let same : whole.0 ≡ z = some_is whole.0 z small.1 in
    (d.0, d.1, subst (λ y. IsAmount y d.0) same (n.0, number_is d.0 n.0 d.2, integer_is n.0 whole.0 n.2, below whole.0 small.0))

pub are_amounts : (d : Data) (z : ℤ) → IsAmount z d → amount_at (Some d) ≡ Some z
are_amounts d z a = ap (λ e. amount_at (Some e)) a.1 ∙ ap (option_and_then exact) (i64_is a.0 z a.2 a.3) ∙ exact_back z a.3

-- ---- days

dates_are : (v : Option Data) → is_date v ≡ true → (t : Text) × (n : ℕ) × (v ≡ Some (string t)) × (day_of_text t ≡ Some n)
dates_are v h =
    let day = the_some (option_and_then scheduled_day (option_and_then as_str v)) h in
    let t = then_some scheduled_day (option_and_then as_str v) day.0 day.1 in
    let d = then_some as_str v t.0 t.1 in
    let same = (days_written.scheduled t.0 day.0).0 t.2 in
    (t.0, same.0, d.1 ∙ ap Some (str_is d.0 t.0 d.2), same.1)

pub are_dates : (t : Text) (n : ℕ) → day_of_text t ≡ Some n → is_date (Some (string t)) ≡ true
unfolding day_of_text day_in
are_dates t n h =
    let c = only (has_form t && is_day (digits_number t)) (Some (digits_number t)) n h in
    let same : digits_number t ≡ n = some_is (digits_number t) n c.1 in
    let day : is_day n ≡ true = subst (λ k. is_day k ≡ true) same (and_parts (has_form t) (is_day (digits_number t)) c.0).1 in
    let there = ap (λ b. if b then Some (month_start (month_in n) + n % 100 - 1) else None) day in
    ap is_some ((days_written.scheduled t (month_start (month_in n) + n % 100 - 1)).1 (n, h, there))

-- ---- what schedules take, rules do

record Tested (P : CondOp → CondValue → Type 0) (op v : Option Data) : Type 0 where
  test : CondOp
  value : CondValue
  named : op ≡ Some (string (test_word test))
  found : Data
  at : v ≡ Some found
  told : Says value found
  kind : P test value

one_named : (op : Option Data) (a b : CondOp) → (says op (test_word a) || says op (test_word b)) ≡ true → (o : CondOp) × (op ≡ Some (string (test_word o))) × Contains (a ∷ b ∷ []) o
one_named op a b h = elim (or_cases (says op (test_word a)) (says op (test_word b)) h) [
  | inl p ↦ (a, says_so op (test_word a) p, here a (b ∷ []))
  | inr p ↦ (b, says_so op (test_word b) p, there a (b ∷ []) b (here b []))
]

-- a test of a list
listed : (P : CondOp → CondValue → Type 0) → ((o : CondOp) (ts : List Text) → Contains (OneOf ∷ NotOneOf ∷ []) o → P o (Texts ts)) → (op v : Option Data) → (is_list_op op && are_words v) ≡ true → Tested P op v
listed P kind op v h =
    let p = and_parts (is_list_op op) (are_words v) h in
    let o = one_named op OneOf NotOneOf p.0 in
    let ts = lists_are v p.1 in
    record { test = o.0; value = Texts ts.0; named = o.1; found = array (texts ts.0); at = ts.1; told = refl; kind = kind o.0 ts.0 o.2 }

id_tested : (op v : Option Data) → is_id_test op v ≡ true → Tested IsIdTest op v
id_tested op v h = elim (or_cases (is_same_op op && is_id v) (is_list_op op && are_words v) h) [
  | inl s ↦
      let p = and_parts (is_same_op op) (is_id v) s in
      let o = one_named op Is IsNot p.0 in
      let i = ids_are v p.1 in
      own o.0 o.1 o.2 i.0 i.1
  | inr l ↦ listed IsIdTest (λ o ts c. c) op v l
]
  where
    own : (o : CondOp) → op ≡ Some (string (test_word o)) → Contains (Is ∷ IsNot ∷ []) o → (i : Option Text) → v ≡ Some (id_or_null i) → Tested IsIdTest op v
    own o named c None at = record { test = o; value = Null; named = named; found = null; at = at; told = refl; kind = c }
    own o named c (Some t) at = record { test = o; value = OneText t; named = named; found = string t; at = at; told = refl; kind = c }

words_tested : (op v : Option Data) → is_words_test op v ≡ true → Tested IsTextTest op v
words_tested op v h = elim (or_cases ((is_same_op op || is_part_op op) && is_words v) (is_list_op op && are_words v) h) [
  | inl s ↦
      let p = and_parts (is_same_op op || is_part_op op) (is_words v) s in
      let t = words_are v p.1 in
      elim (or_cases (is_same_op op) (is_part_op op) p.0) [
        | inl q ↦ let o = one_named op Is IsNot q in own t.0 t.1 o.0 o.1 (each_of (λ x. Contains (Is ∷ IsNot ∷ HasPart ∷ DoesNotContain ∷ []) x) (Is ∷ IsNot ∷ []) o.0 ((0, omega arith, refl), ((1, omega arith, refl), tt)) o.2)
        | inr q ↦ let o = one_named op HasPart DoesNotContain q in own t.0 t.1 o.0 o.1 (each_of (λ x. Contains (Is ∷ IsNot ∷ HasPart ∷ DoesNotContain ∷ []) x) (HasPart ∷ DoesNotContain ∷ []) o.0 ((2, omega arith, refl), ((3, omega arith, refl), tt)) o.2)
      ]
  | inr l ↦ listed IsTextTest (λ o ts c. c) op v l
]
  where
    own : (t : Text) → v ≡ Some (string t) → (o : CondOp) → op ≡ Some (string (test_word o)) → Contains (Is ∷ IsNot ∷ HasPart ∷ DoesNotContain ∷ []) o → Tested IsTextTest op v
    own t at o named c = record { test = o; value = OneText t; named = named; found = string t; at = at; told = refl; kind = c }

near_or_order : (op : Option Data) → (is_near_op op || is_order_op op) ≡ true → (o : CondOp) × (op ≡ Some (string (test_word o))) × Contains (Is ∷ IsApprox ∷ Gt ∷ Gte ∷ Lt ∷ Lte ∷ []) o
near_or_order op h = elim (or_cases (is_near_op op) (is_order_op op) h) [
  | inl n ↦
      let o = one_named op Is IsApprox n in
      (o.0, o.1, each_of (λ x. Contains (Is ∷ IsApprox ∷ Gt ∷ Gte ∷ Lt ∷ Lte ∷ []) x) (Is ∷ IsApprox ∷ []) o.0 ((0, omega arith, refl), ((1, omega arith, refl), tt)) o.2)
  | inr r ↦ elim (or_cases (says op (codes "gt") || says op (codes "gte")) (says op (codes "lt") || says op (codes "lte")) r) [
    | inl g ↦
        let o = one_named op Gt Gte g in
        (o.0, o.1, each_of (λ x. Contains (Is ∷ IsApprox ∷ Gt ∷ Gte ∷ Lt ∷ Lte ∷ []) x) (Gt ∷ Gte ∷ []) o.0 ((2, omega arith, refl), ((3, omega arith, refl), tt)) o.2)
    | inr l ↦
        let o = one_named op Lt Lte l in
        (o.0, o.1, each_of (λ x. Contains (Is ∷ IsApprox ∷ Gt ∷ Gte ∷ Lt ∷ Lte ∷ []) x) (Lt ∷ Lte ∷ []) o.0 ((4, omega arith, refl), ((5, omega arith, refl), tt)) o.2)
  ]
]

ends_are : (key : Text) (d : Data) (z : ℤ) → amount_at (option_and_then (get key) (Some d)) ≡ Some z → HasAmount key z d
ends_are key d z h = amounts_are (get key d) z h

amount_tested : (op v : Option Data) → is_amount_test op v ≡ true → Tested IsAmountTest op v
amount_tested op v h = elim (or_cases ((is_near_op op || is_order_op op) && is_some (amount_at v)) (says op (codes "isbetween") && is_between v) h) [
  | inl s ↦
      let p = and_parts (is_near_op op || is_order_op op) (is_some (amount_at v)) s in
      let o = near_or_order op p.0 in
      let z = the_some (amount_at v) p.1 in
      let d = amounts_are v z.0 z.1 in
      record { test = o.0; value = Number z.0; named = o.1; found = d.0; at = d.1; told = d.2; kind = o.2 }
  | inr b ↦
      let p = and_parts (says op (codes "isbetween")) (is_between v) b in
      ends v refl (says_so op (codes "isbetween") p.0) p.1
]
  where
    ends : (w : Option Data) → v ≡ w → op ≡ Some (string (codes "isbetween")) → is_between w ≡ true → Tested IsAmountTest op v
    ends None e named h = cc
    ends (Some d) e named h =
        let p = and_parts (is_some (amount_at (get (codes "num1") d))) (is_some (amount_at (get (codes "num2") d))) h in
        let a = the_some (amount_at (get (codes "num1") d)) p.0 in
        let b = the_some (amount_at (get (codes "num2") d)) p.1 in
        record { test = IsBetween; value = Between a.0 b.0; named = named; found = d; at = e; told = (ends_are (codes "num1") d a.0 a.1, ends_are (codes "num2") d b.0 b.1); kind = refl }

date_tested : (op v : Option Data) → is_date_test op v ≡ true → Tested IsDayTest op v
date_tested op v h = elim (or_cases ((is_near_op op || is_order_op op) && is_date v) (is_near_op op && is_keyed v) h) [
  | inl s ↦
      let p = and_parts (is_near_op op || is_order_op op) (is_date v) s in
      let o = near_or_order op p.0 in
      let d = dates_are v p.1 in
      record { test = o.0; value = Day d.1; named = o.1; found = string d.0; at = d.2; told = (d.0, refl, d.3); kind = o.2 }
  | inr k ↦
      let p = and_parts (is_near_op op) (is_keyed v) k in
      let o = one_named op Is IsApprox p.0 in
      let ms = keyed_are v p.1 in
      record { test = o.0; value = Recurrence; named = o.1; found = object ms.0; at = ms.1; told = (ms.0, refl); kind = o.2 }
]

flag_tested : (op v : Option Data) → is_flag_test op v ≡ true → Tested IsFlagTest op v
flag_tested op v h =
    let p = and_parts (says op (codes "is")) (is_flag v) h in
    let b = flags_are v p.1 in
    record { test = Is; value = Flag b.0; named = says_so op (codes "is") p.0; found = boolean b.0; at = b.1; told = refl; kind = refl }

-- a column that is named
record Named (P : CondOp → CondValue → Type 0) (f : Option Data) : Type 0 where
  field : CondField
  word : Text
  at : f ≡ Some (string word)
  is : Contains (column_words field) word
  test : (o : CondOp) (x : CondValue) → P o x → IsTest field o x

two_names : (P : CondOp → CondValue → Type 0) (f : Option Data) (field : CondField) (a b : Text) → column_words field ≡ a ∷ b ∷ [] → ((o : CondOp) (x : CondValue) → P o x → IsTest field o x) → (says f a || says f b) ≡ true → Named P f
two_names P f field a b own test h = elim (or_cases (says f a) (says f b) h) [
  | inl p ↦ record { field = field; word = a; at = says_so f a p; is = subst (λ ws. Contains ws a) (sym own) (here a (b ∷ [])); test = test }
  | inr p ↦ record { field = field; word = b; at = says_so f b p; is = subst (λ ws. Contains ws b) (sym own) (there a (b ∷ []) b (here b [])); test = test }
]

one_name : (P : CondOp → CondValue → Type 0) (f : Option Data) (field : CondField) (a : Text) → column_words field ≡ a ∷ [] → ((o : CondOp) (x : CondValue) → P o x → IsTest field o x) → says f a ≡ true → Named P f
one_name P f field a own test h = record { field = field; word = a; at = says_so f a h; is = subst (λ ws. Contains ws a) (sym own) (here a []); test = test }

id_named : (f : Option Data) → is_id_field f ≡ true → Named IsIdTest f
id_named f h = elim (or_cases (is_account_field f) (is_payee_field f || says f (codes "category")) h) [
  | inl p ↦ two_names IsIdTest f Acct (codes "acct") (codes "account") refl (λ o x k. k) p
  | inr r ↦ elim (or_cases (is_payee_field f) (says f (codes "category")) r) [
    | inl p ↦ two_names IsIdTest f Description (codes "description") (codes "payee") refl (λ o x k. k) p
    | inr p ↦ one_name IsIdTest f Category (codes "category") refl (λ o x k. k) p
  ]
]

words_named : (f : Option Data) → is_words_field f ≡ true → Named IsTextTest f
words_named f h = elim (or_cases (says f (codes "imported_description")) (says f (codes "imported_payee") || says f (codes "notes")) h) [
  | inl p ↦ two_names IsTextTest f ImportedDescription (codes "imported_description") (codes "imported_payee") refl (λ o x k. k) (or_left (says f (codes "imported_description")) (says f (codes "imported_payee")) p)
  | inr r ↦ elim (or_cases (says f (codes "imported_payee")) (says f (codes "notes")) r) [
    | inl p ↦ two_names IsTextTest f ImportedDescription (codes "imported_description") (codes "imported_payee") refl (λ o x k. k) (or_right (says f (codes "imported_description")) (says f (codes "imported_payee")) p)
    | inr p ↦ one_name IsTextTest f Notes (codes "notes") refl (λ o x k. k) p
  ]
]

way_is : (d : Data) → asks_way (get (codes "options") d) ≡ asks_direction d
way_is d = by (get (codes "options") d)
  where
    by : (o : Option Data) → asks_way o ≡ some_and (λ options. has_set (codes "inflow") options || has_set (codes "outflow") options) o
    by None = refl
    by (Some options) = refl

not_so : (b : Bool) → not b ≡ true → b ≡ false
not_so true h = cc
not_so false h = refl

module _ (d : Data) (way : asks_way (get (codes "options") d) ≡ false) where
  -- a column and a test of it are a condition
  is_one : (P : CondOp → CondValue → Type 0) → Named P (get (codes "field") d) → Tested P (get (codes "op") d) (get (codes "value") d) → (c : Condition) × IsCondition d c
  is_one P n t = (
    record { field = n.field; op = t.test; value = t.value },
    record {
      any_way = λ a. not_true (asks_direction d) (sym (way_is d) ∙ way) (so_asks d a);
      field = (n.word, n.at, n.is);
      test = t.named;
      value = (t.found, t.at, t.told);
      kind = n.test t.test t.value t.kind;
    },
  )

  tests_are : is_test (get (codes "field") d) (get (codes "op") d) (get (codes "value") d) ≡ true → (c : Condition) × IsCondition d c
  unfolding is_test
  tests_are h =
      let f = get (codes "field") d in
      let o = get (codes "op") d in
      let v = get (codes "value") d in
      elim (or_cases (is_id_field f && is_id_test o v) _ h) [
        | inl p ↦ let q = and_parts (is_id_field f) (is_id_test o v) p in is_one IsIdTest (id_named f q.0) (id_tested o v q.1)
        | inr r ↦ elim (or_cases (is_words_field f && is_words_test o v) _ r) [
          | inl p ↦ let q = and_parts (is_words_field f) (is_words_test o v) p in is_one IsTextTest (words_named f q.0) (words_tested o v q.1)
          | inr r ↦ elim (or_cases (says f (codes "amount") && is_amount_test o v) _ r) [
            | inl p ↦ let q = and_parts (says f (codes "amount")) (is_amount_test o v) p in is_one IsAmountTest (one_name IsAmountTest f Amount (codes "amount") refl (λ a x k. k) q.0) (amount_tested o v q.1)
            | inr r ↦ elim (or_cases (says f (codes "date") && is_date_test o v) (says f (codes "cleared") && is_flag_test o v) r) [
              | inl p ↦ let q = and_parts (says f (codes "date")) (is_date_test o v) p in is_one IsDayTest (one_name IsDayTest f Date (codes "date") refl (λ a x k. k) q.0) (date_tested o v q.1)
              | inr p ↦ let q = and_parts (says f (codes "cleared")) (is_flag_test o v) p in is_one IsFlagTest (one_name IsFlagTest f Cleared (codes "cleared") refl (λ a x k. k) q.0) (flag_tested o v q.1)
            ]
          ]
        ]
      ]

pub condition_taken : (d : Data) → is_condition d ≡ true → (c : Condition) × (condition_of d ≡ Some c)
unfolding is_condition
condition_taken d h =
    let p = and_parts (not (asks_way (get (codes "options") d))) (is_test (get (codes "field") d) (get (codes "op") d) (get (codes "value") d)) h in
    let c = tests_are d (not_so (asks_way (get (codes "options") d)) p.0) p.1 in
    (c.0, so_condition d c.0 c.1)

-- ---- what rules take, schedules do

id_takes : (o : CondOp) (x : CondValue) (v : Data) → IsIdTest o x → Says x v → is_id_test (Some (string (test_word o))) (Some v) ≡ true
id_takes o Null v k s =
    each_of (λ p. is_id_test (Some (string (test_word p))) (Some v) ≡ true) (Is ∷ IsNot ∷ []) o
    (ap (λ e. is_id_test (Some (string (codes "is"))) (Some e)) s, (ap (λ e. is_id_test (Some (string (codes "isNot"))) (Some e)) s, tt)) k
id_takes o (OneText t) v k s =
    each_of (λ p. is_id_test (Some (string (test_word p))) (Some v) ≡ true) (Is ∷ IsNot ∷ []) o
    (ap (λ e. is_id_test (Some (string (codes "is"))) (Some e)) s, (ap (λ e. is_id_test (Some (string (codes "isNot"))) (Some e)) s, tt)) k
id_takes o (Texts ts) v k s =
    each_of (λ p. is_id_test (Some (string (test_word p))) (Some v) ≡ true) (OneOf ∷ NotOneOf ∷ []) o
    (ap (λ e. is_id_test (Some (string (codes "oneOf"))) (Some e)) s ∙ are_all_words ts, (ap (λ e. is_id_test (Some (string (codes "notOneOf"))) (Some e)) s ∙ are_all_words ts, tt)) k
id_takes o other v k s = absurd k

words_take : (o : CondOp) (x : CondValue) (v : Data) → IsTextTest o x → Says x v → is_words_test (Some (string (test_word o))) (Some v) ≡ true
words_take o (OneText t) v k s =
    each_of (λ p. is_words_test (Some (string (test_word p))) (Some v) ≡ true) (Is ∷ IsNot ∷ HasPart ∷ DoesNotContain ∷ []) o (
      ap (λ e. is_words_test (Some (string (codes "is"))) (Some e)) s,
      (
        ap (λ e. is_words_test (Some (string (codes "isNot"))) (Some e)) s,
        (ap (λ e. is_words_test (Some (string (codes "contains"))) (Some e)) s, (ap (λ e. is_words_test (Some (string (codes "doesNotContain"))) (Some e)) s, tt)),
      ),
    ) k
words_take o (Texts ts) v k s =
    each_of (λ p. is_words_test (Some (string (test_word p))) (Some v) ≡ true) (OneOf ∷ NotOneOf ∷ []) o
    (ap (λ e. is_words_test (Some (string (codes "oneOf"))) (Some e)) s ∙ are_all_words ts, (ap (λ e. is_words_test (Some (string (codes "notOneOf"))) (Some e)) s ∙ are_all_words ts, tt)) k
words_take o other v k s = absurd k

amount_takes : (o : CondOp) (x : CondValue) (v : Data) → IsAmountTest o x → Says x v → is_amount_test (Some (string (test_word o))) (Some v) ≡ true
amount_takes o (Number z) v k s =
    let one : (is_some (amount_at (Some v)) || false) ≡ true = ap (λ e. is_some e || false) (are_amounts v z s) in
    each_of (λ p. is_amount_test (Some (string (test_word p))) (Some v) ≡ true) (Is ∷ IsApprox ∷ Gt ∷ Gte ∷ Lt ∷ Lte ∷ []) o (one, (one, (one, (one, (one, (one, tt)))))) k
amount_takes o (Between a b) v k s =
    ap (λ p. is_amount_test (Some (string (test_word p))) (Some v)) k
    ∙ ap (λ e. is_some (amount_at e) && is_some (amount_at (get (codes "num2") v))) s.0.1
    ∙ ap (λ e. is_some e && is_some (amount_at (get (codes "num2") v))) (are_amounts s.0.0 a s.0.2)
    ∙ ap (λ e. is_some (amount_at e)) s.1.1
    ∙ ap is_some (are_amounts s.1.0 b s.1.2)
amount_takes o other v k s = absurd k

date_takes : (o : CondOp) (x : CondValue) (v : Data) → IsDayTest o x → Says x v → is_date_test (Some (string (test_word o))) (Some v) ≡ true
date_takes o (Day n) v k s =
    let day : is_date (Some v) ≡ true = ap (λ e. is_date (Some e)) s.1 ∙ are_dates s.0 n s.2 in
    let near : (is_date (Some v) || is_keyed (Some v)) ≡ true = or_left (is_date (Some v)) (is_keyed (Some v)) day in
    let one : (is_date (Some v) || false) ≡ true = or_left (is_date (Some v)) false day in
    each_of (λ p. is_date_test (Some (string (test_word p))) (Some v) ≡ true) (Is ∷ IsApprox ∷ Gt ∷ Gte ∷ Lt ∷ Lte ∷ []) o (near, (near, (one, (one, (one, (one, tt)))))) k
date_takes o Recurrence v k s =
    let near : (is_date (Some v) || is_keyed (Some v)) ≡ true = or_right (is_date (Some v)) (is_keyed (Some v)) (ap (λ e. is_keyed (Some e)) s.1) in
    each_of (λ p. is_date_test (Some (string (test_word p))) (Some v) ≡ true) (Is ∷ IsApprox ∷ []) o (near, (near, tt)) k
date_takes o other v k s = absurd k

flag_takes : (o : CondOp) (x : CondValue) (v : Data) → IsFlagTest o x → Says x v → is_flag_test (Some (string (test_word o))) (Some v) ≡ true
flag_takes o (Flag b) v k s = ap (λ p. is_flag_test (Some (string (test_word p))) (Some v)) k ∙ ap (λ e. is_flag (Some e)) s
flag_takes o other v k s = absurd k

takes : (f : CondField) (w : Text) (o : CondOp) (x : CondValue) (v : Data) → Contains (column_words f) w → IsTest f o x → Says x v → is_test (Some (string w)) (Some (string (test_word o))) (Some v) ≡ true
unfolding is_test
takes Acct w o x v m k s =
    let one = or_left (is_id_test (Some (string (test_word o))) (Some v)) false (id_takes o x v k s) in
    each_of (λ q. is_test (Some (string q)) (Some (string (test_word o))) (Some v) ≡ true) (column_words Acct) w (one, (one, tt)) m
takes Description w o x v m k s =
    let one = or_left (is_id_test (Some (string (test_word o))) (Some v)) false (id_takes o x v k s) in
    each_of (λ q. is_test (Some (string q)) (Some (string (test_word o))) (Some v) ≡ true) (column_words Description) w (one, (one, tt)) m
takes Category w o x v m k s =
    let one = or_left (is_id_test (Some (string (test_word o))) (Some v)) false (id_takes o x v k s) in
    each_of (λ q. is_test (Some (string q)) (Some (string (test_word o))) (Some v) ≡ true) (column_words Category) w (one, tt) m
takes ImportedDescription w o x v m k s =
    let one = or_left (is_words_test (Some (string (test_word o))) (Some v)) false (words_take o x v k s) in
    each_of (λ q. is_test (Some (string q)) (Some (string (test_word o))) (Some v) ≡ true) (column_words ImportedDescription) w (one, (one, tt)) m
takes Notes w o x v m k s =
    let one = or_left (is_words_test (Some (string (test_word o))) (Some v)) false (words_take o x v k s) in
    each_of (λ q. is_test (Some (string q)) (Some (string (test_word o))) (Some v) ≡ true) (column_words Notes) w (one, tt) m
takes Amount w o x v m k s =
    let one = or_left (is_amount_test (Some (string (test_word o))) (Some v)) false (amount_takes o x v k s) in
    each_of (λ q. is_test (Some (string q)) (Some (string (test_word o))) (Some v) ≡ true) (column_words Amount) w (one, tt) m
takes Date w o x v m k s =
    let one = or_left (is_date_test (Some (string (test_word o))) (Some v)) false (date_takes o x v k s) in
    each_of (λ q. is_test (Some (string q)) (Some (string (test_word o))) (Some v) ≡ true) (column_words Date) w (one, tt) m
takes Cleared w o x v m k s = each_of (λ q. is_test (Some (string q)) (Some (string (test_word o))) (Some v) ≡ true) (column_words Cleared) w (flag_takes o x v k s, tt) m

pub condition_takes : (d : Data) (c : Condition) → IsCondition d c → is_condition d ≡ true
unfolding is_condition
condition_takes d c i =
    let way : asks_way (get (codes "options") d) ≡ false = way_is d ∙ is_false (asks_direction d) (λ h. i.any_way (asks_so d h)) in
    and_from (not (asks_way (get (codes "options") d))) (is_test (get (codes "field") d) (get (codes "op") d) (get (codes "value") d)) (ap not way)
    (ap (λ f. is_test f (get (codes "op") d) (get (codes "value") d)) i.field.1
    ∙ ap (λ o. is_test (Some (string i.field.0)) o (get (codes "value") d)) i.test
    ∙ ap (λ v. is_test (Some (string i.field.0)) (Some (string (test_word c.op))) v) i.value.1
    ∙ takes c.field i.field.0 c.op c.value i.value.0 i.field.2 i.kind i.value.2)

-- ---- actions

set_words : (o : Option Data) → is_set_op o ≡ true → (o ≡ None) ⊎ (o ≡ Some (string (codes "set")))
set_words None h = inl refl
set_words (Some d) h = inr (says_so (Some d) (codes "set") h)

action_taken : (d : Data) → is_action d ≡ true → (a : Action) × (action_of d ≡ Some a)
unfolding is_action
action_taken d h =
    let o = get (codes "op") d in
    let f = get (codes "field") d in
    let v = get (codes "value") d in
    elim (or_cases (is_set_op o && is_setting f v) (is_words_op o && is_words v) h) [
      | inl s ↦
          let p = and_parts (is_set_op o) (is_setting f v) s in
          let set = set_words o p.0 in
          elim (or_cases ((says f (codes "category") || says f (codes "description")) && is_id v) _ p.1) [
            | inl i ↦
                let q = and_parts (says f (codes "category") || says f (codes "description")) (is_id v) i in
                let id = ids_are v q.1 in
                elim (or_cases (says f (codes "category")) (says f (codes "description")) q.0) [
                  | inl c ↦ (SetCategory id.0, so_action d (SetCategory id.0) (set, says_so f (codes "category") c, id.1))
                  | inr c ↦ (SetDescription id.0, so_action d (SetDescription id.0) (set, says_so f (codes "description") c, id.1))
                ]
            | inr r ↦ elim (or_cases (says f (codes "notes") && is_words v) (says f (codes "cleared") && is_flag v) r) [
              | inl n ↦
                  let q = and_parts (says f (codes "notes")) (is_words v) n in
                  let t = words_are v q.1 in
                  (SetNotes t.0, so_action d (SetNotes t.0) (set, says_so f (codes "notes") q.0, t.1))
              | inr c ↦
                  let q = and_parts (says f (codes "cleared")) (is_flag v) c in
                  let b = flags_are v q.1 in
                  (SetCleared b.0, so_action d (SetCleared b.0) (set, says_so f (codes "cleared") q.0, b.1))
            ]
          ]
      | inr w ↦
          let p = and_parts (is_words_op o) (is_words v) w in
          let t = words_are v p.1 in
          elim (or_cases (says o (codes "prepend-notes")) _ p.0) [
            | inl q ↦ (PrependNotes t.0, so_action d (PrependNotes t.0) (says_so o (codes "prepend-notes") q, t.1))
            | inr r ↦ elim (or_cases (says o (codes "append-notes")) (says o (codes "link-schedule")) r) [
              | inl q ↦ (AppendNotes t.0, so_action d (AppendNotes t.0) (says_so o (codes "append-notes") q, t.1))
              | inr q ↦ (LinkSchedule t.0, so_action d (LinkSchedule t.0) (says_so o (codes "link-schedule") q, t.1))
            ]
          ]
    ]

-- what an op, a column and a value are as an action of a schedule's rule
abbrev taken : Option Data → Option Data → Option Data → Bool
taken o f v = (is_set_op o && is_setting f v) || (is_words_op o && is_words v)

sets_taken : (d : Data) (column : Text) (value : Data) → Sets d column value → is_setting (Some (string column)) (Some value) ≡ true → is_action d ≡ true
unfolding is_action
sets_taken d column value s h =
    let set : is_set_op (get (codes "op") d) ≡ true = elim s.0 [ inl n ↦ ap is_set_op n | inr w ↦ ap is_set_op w ] in
    or_left (is_set_op (get (codes "op") d) && is_setting (get (codes "field") d) (get (codes "value") d)) _
    (and_from (is_set_op (get (codes "op") d)) (is_setting (get (codes "field") d) (get (codes "value") d)) set
    (ap (λ f. is_setting f (get (codes "value") d)) s.1 ∙ ap (is_setting (Some (string column))) s.2 ∙ h))

does_taken : (d : Data) (word text : Text) → Does d word text → is_words_op (Some (string word)) ≡ true → is_action d ≡ true
unfolding is_action
does_taken d word text s h =
    or_right (is_set_op (get (codes "op") d) && is_setting (get (codes "field") d) (get (codes "value") d)) (is_words_op (get (codes "op") d) && is_words (get (codes "value") d))
    (and_from (is_words_op (get (codes "op") d)) (is_words (get (codes "value") d)) (ap is_words_op s.0 ∙ h) (ap is_words s.1))

action_takes : (d : Data) (a : Action) → IsAction d a → is_action d ≡ true
action_takes d (SetDescription None) s = sets_taken d (codes "description") null s refl
action_takes d (SetDescription (Some t)) s = sets_taken d (codes "description") (string t) s refl
action_takes d (SetCategory None) s = sets_taken d (codes "category") null s refl
action_takes d (SetCategory (Some t)) s = sets_taken d (codes "category") (string t) s refl
action_takes d (SetNotes text) s = sets_taken d (codes "notes") (string text) s refl
action_takes d (SetCleared set) s = sets_taken d (codes "cleared") (boolean set) s refl
action_takes d (PrependNotes text) s = does_taken d (codes "prepend-notes") text s refl
action_takes d (AppendNotes text) s = does_taken d (codes "append-notes") text s refl
action_takes d (LinkSchedule id) s = does_taken d (codes "link-schedule") id s refl

-- ---- entries

module _ {A : Type 0} (part : RulePart) (test : Data → Bool) (reading : Data → Option A) (to : (d : Data) → test d ≡ true → (x : A) × (reading d ≡ Some x)) (from : (d : Data) (x : A) → reading d ≡ Some x → test d ≡ true) where
  pub all_to : (ds : Items) → all_of test ds ≡ true → (xs : List A) × AreRead reading ds xs
  all_to no_items h = ([], tt)
  all_to (item d ds) h =
      let p = and_parts (test d) (all_of test ds) h in
      let x = to d p.0 in
      let xs = all_to ds p.1 in
      (x.0 ∷ xs.0, (x.1, xs.1))

  pub all_from : (ds : Items) (xs : List A) → AreRead reading ds xs → all_of test ds ≡ true
  all_from no_items xs h = refl
  all_from (item d ds) [] h = absurd h
  all_from (item d ds) (x ∷ xs) h = and_from (test d) (all_of test ds) (from d x h.0) (all_from ds xs h.1)

  part_to : (text : Option Text) (ds : Items) → entries_of test text ≡ Some ds → (xs : List A) × (read_part part reading text ≡ Ok xs)
  part_to None ds h = ([], so_lists part reading None [] refl)
  part_to (Some text) ds h = by (option_and_then as_array (read text)) refl h
    where
      by : (o : Option Items) → option_and_then as_array (read text) ≡ o → entries_by test o ≡ Some ds → (xs : List A) × (read_part part reading (Some text) ≡ Ok xs)
      by None e h = none_is ds h
      by (Some es) e h =
          let all = only (all_of test es) (Some es) ds h in
          let d = then_some as_array (read text) es e in
          let xs = all_to es all.0 in
          (xs.0, so_lists part reading (Some text) xs.0 (es, d.1 ∙ ap Some (array_is d.0 es d.2), xs.1))

  part_from : (text : Option Text) (xs : List A) → read_part part reading text ≡ Ok xs → (ds : Items) × (entries_of test text ≡ Some ds)
  part_from None xs h = (no_items, refl)
  part_from (Some text) xs h =
      let l = lists_so part reading (Some text) xs h in (
        l.0,
        ap (λ o. entries_by test (option_and_then as_array o)) l.1 ∙ ap (λ b. if b then Some l.0 else None) (all_from l.0 xs l.2),
      )

pub read_alike : RulesAreReadAlike
read_alike = record {
  condition = λ d. (condition_taken d, λ c. condition_takes d c.0 (condition_so d c.0 c.1));
  action = λ d. (action_taken d, λ a. action_takes d a.0 (action_so d a.0 a.1));
  conditions = λ text. (
    λ h. part_to Conditions is_condition condition_of condition_taken (λ d c e. condition_takes d c (condition_so d c e)) text h.0 h.1,
    λ h. part_from Conditions is_condition condition_of condition_taken (λ d c e. condition_takes d c (condition_so d c e)) text h.0 h.1,
  );
  actions = λ text. (
    λ h. part_to Actions is_action action_of action_taken (λ d a e. action_takes d a (action_so d a e)) text h.0 h.1,
    λ h. part_from Actions is_action action_of action_taken (λ d a e. action_takes d a (action_so d a e)) text h.0 h.1,
  );
}
