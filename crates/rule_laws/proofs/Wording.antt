-- By which words and values the JSON of rules is read.
use Rattle.std.proofs.Common.{◌≡◌, ◌≤◌, ◌^◌, ◌+◌, ℕ, Bool, true, false, List, [], ◌∷◌, Option, Some, None, option_map, option_and_then, Result, Ok, Err, inl, inr, refl, sym, ap, ◌∙◌, subst, arith, lt-ltb, le-leb, leb-true}
use Rattle.std.specs.Prelude.{◌↔◌, ◌⊎◌, ◌||◌, ℤ, pos, nat_lt, nat_le, unsigned_abs, if◌then◌else◌, codes}
use Rattle.std.specs.Option.{option_or}
use Rattle.std.specs.List.{Contains, AllByRecursion}
use Rattle.std.specs.Str.{bytes_eq}
use Rattle.std.proofs.lemmas.Bool.{or_cases, or_left, or_right}
use Rattle.serde_json.specs.Data.{Num, unsigned, negative, float, Data, null, boolean, number, string, array, object, Items, no_items, item}
use Rattle.serde_json.specs.Find.{get, as_bool, as_number, as_integer, as_i64, as_str, as_array}
use Rattle.serde_json.specs.Read.{read}
use Rattle.field_values.specs.Value.{largest_number}
use Rattle.finite_sums.specs.Maps.{Text, some_and}
use Rattle.book_rows.specs.declared.rows.RuleRow.{RuleRow}
use Rattle.book_rows.specs.declared.fault.RulePart.{RulePart}
use Rattle.book_rows.specs.declared.fault.RulePart.TheVariants.{Conditions, Actions}
use Rattle.book_edits.proofs.Valid.{inside, passed}
use Rattle.rule_engine.specs.declared.rule.CondField.{CondField}
use Rattle.rule_engine.specs.declared.rule.CondField.TheVariants.{Acct, Description, Category, ImportedDescription, Notes, Amount, Date, Cleared}
use Rattle.rule_engine.specs.declared.rule.CondOp.{CondOp}
use Rattle.rule_engine.specs.declared.rule.CondOp.TheVariants.{Is, IsNot, OneOf, NotOneOf, Contains as HasPart, DoesNotContain, IsApprox, IsBetween, Gt, Gte, Lt, Lte}
use Rattle.rule_engine.specs.declared.rule.CondValue.{CondValue}
use Rattle.rule_engine.specs.declared.rule.CondValue.TheVariants.{Null, Text as OneText, Texts, Number, Between, Date as Day, Recurrence, Flag}
use Rattle.rule_engine.specs.declared.rule.Condition.{Condition}
use Rattle.rule_engine.specs.declared.rule.Action.{Action}
use Rattle.rule_engine.specs.declared.rule.Action.TheVariants.{SetDescription, SetCategory, SetNotes, SetCleared, PrependNotes, AppendNotes, LinkSchedule}
use Rattle.rule_engine.specs.declared.rule.Stage.{Stage}
use Rattle.rule_engine.specs.declared.rule.Stage.TheVariants.{Pre, Plain, Post}
use Rattle.rule_engine.specs.declared.rule.RuleOp.{RuleOp}
use Rattle.rule_engine.specs.declared.rule.RuleOp.TheVariants.{And, Or}
use Rattle.rule_engine.specs.declared.rule.Rule.{Rule}
use Rattle.rule_engine.specs.Days.{day_of_text}
use Rattle.rule_engine.specs.Reading.{entries_of, all_read, ok_of, as_texts, as_held, as_amount, as_day, as_maybe_text, field_word, text_op_word, order_op_word, op_word, maybe_value, id_value, text_value, between, amount_value, day_or_recurrence, day_value, flag_value, value_of, text_at, is_set, asks_direction, with_value, with_op, with_field, condition_of, set_of, action_op, action_by, action_of, or_bad, in_array, read_part, stage_of, op_of, read_rule}
use Rattle.rule_engine.proofs.Entries.{ahead, one_ahead, all_from, from_read}
use Rattle.rule_laws.specs.Wording.{column_words, test_word, IsAmount, texts, HasAmount, Says, IsIdTest, IsTextTest, IsAmountTest, IsDayTest, IsFlagTest, IsTest, IsSet, AsksDirection, IsCondition, id_or_null, Sets, Does, IsAction, AreRead, Lists, IsRuleOf, RulePartsAreRead}
use Rattle.rule_laws.proofs.Choices.{some_is, none_is, is_false, not_true, mapped, then_some, branch, only, chosen, text_eq, here, there, each_of, is_one, is_one_of_two}
use Rattle.rule_laws.proofs.StageLaws.{read_so}

-- ---- words

column_named : (t : Text) (f : CondField) → field_word t ≡ Some f → Contains (column_words f) t
column_named t f h = elim (chosen (bytes_eq t (codes "acct") || bytes_eq t (codes "account")) Acct _ f h) [
  | inl p ↦ subst (λ g. Contains (column_words g) t) p.1 (is_one_of_two t (codes "acct") (codes "account") p.0)
  | inr h ↦ elim (chosen (bytes_eq t (codes "description") || bytes_eq t (codes "payee")) Description _ f h) [
    | inl p ↦ subst (λ g. Contains (column_words g) t) p.1 (is_one_of_two t (codes "description") (codes "payee") p.0)
    | inr h ↦ elim (chosen (bytes_eq t (codes "category")) Category _ f h) [
      | inl p ↦ subst (λ g. Contains (column_words g) t) p.1 (is_one t (codes "category") p.0)
      | inr h ↦ elim (chosen (bytes_eq t (codes "imported_description") || bytes_eq t (codes "imported_payee")) ImportedDescription _ f h) [
        | inl p ↦ subst (λ g. Contains (column_words g) t) p.1 (is_one_of_two t (codes "imported_description") (codes "imported_payee") p.0)
        | inr h ↦ elim (chosen (bytes_eq t (codes "notes")) Notes _ f h) [
          | inl p ↦ subst (λ g. Contains (column_words g) t) p.1 (is_one t (codes "notes") p.0)
          | inr h ↦ elim (chosen (bytes_eq t (codes "amount")) Amount _ f h) [
            | inl p ↦ subst (λ g. Contains (column_words g) t) p.1 (is_one t (codes "amount") p.0)
            | inr h ↦ elim (chosen (bytes_eq t (codes "date")) Date _ f h) [
              | inl p ↦ subst (λ g. Contains (column_words g) t) p.1 (is_one t (codes "date") p.0)
              | inr h ↦
                  let p = only (bytes_eq t (codes "cleared")) (Some Cleared) f h in
                  subst (λ g. Contains (column_words g) t) (some_is Cleared f p.1) (is_one t (codes "cleared") p.0)
            ]
          ]
        ]
      ]
    ]
  ]
]

pub named_column : (f : CondField) (t : Text) → Contains (column_words f) t → field_word t ≡ Some f
named_column f t c = each_of (λ q. field_word q ≡ Some f) (column_words f) t (all f) c
  where
    all : (f : CondField) → AllByRecursion (λ q. field_word q ≡ Some f) (column_words f)
    all Acct = (refl, (refl, tt))
    all Description = (refl, (refl, tt))
    all Category = (refl, tt)
    all ImportedDescription = (refl, (refl, tt))
    all Notes = (refl, tt)
    all Amount = (refl, tt)
    all Date = (refl, tt)
    all Cleared = (refl, tt)

text_test_named : (t : Text) (op : CondOp) → text_op_word t ≡ Some op → t ≡ test_word op
text_test_named t op h = elim (chosen (bytes_eq t (codes "is")) Is _ op h) [
  | inl p ↦ text_eq t (codes "is") p.0 ∙ ap test_word p.1
  | inr h ↦ elim (chosen (bytes_eq t (codes "isNot")) IsNot _ op h) [
    | inl p ↦ text_eq t (codes "isNot") p.0 ∙ ap test_word p.1
    | inr h ↦ elim (chosen (bytes_eq t (codes "oneOf")) OneOf _ op h) [
      | inl p ↦ text_eq t (codes "oneOf") p.0 ∙ ap test_word p.1
      | inr h ↦ elim (chosen (bytes_eq t (codes "notOneOf")) NotOneOf _ op h) [
        | inl p ↦ text_eq t (codes "notOneOf") p.0 ∙ ap test_word p.1
        | inr h ↦ elim (chosen (bytes_eq t (codes "contains")) HasPart _ op h) [
          | inl p ↦ text_eq t (codes "contains") p.0 ∙ ap test_word p.1
          | inr h ↦
              let p = only (bytes_eq t (codes "doesNotContain")) (Some DoesNotContain) op h in
              text_eq t (codes "doesNotContain") p.0 ∙ ap test_word (some_is DoesNotContain op p.1)
        ]
      ]
    ]
  ]
]

order_test_named : (t : Text) (op : CondOp) → order_op_word t ≡ Some op → t ≡ test_word op
order_test_named t op h = elim (chosen (bytes_eq t (codes "isapprox")) IsApprox _ op h) [
  | inl p ↦ text_eq t (codes "isapprox") p.0 ∙ ap test_word p.1
  | inr h ↦ elim (chosen (bytes_eq t (codes "isbetween")) IsBetween _ op h) [
    | inl p ↦ text_eq t (codes "isbetween") p.0 ∙ ap test_word p.1
    | inr h ↦ elim (chosen (bytes_eq t (codes "gt")) Gt _ op h) [
      | inl p ↦ text_eq t (codes "gt") p.0 ∙ ap test_word p.1
      | inr h ↦ elim (chosen (bytes_eq t (codes "gte")) Gte _ op h) [
        | inl p ↦ text_eq t (codes "gte") p.0 ∙ ap test_word p.1
        | inr h ↦ elim (chosen (bytes_eq t (codes "lt")) Lt _ op h) [
          | inl p ↦ text_eq t (codes "lt") p.0 ∙ ap test_word p.1
          | inr h ↦
              let p = only (bytes_eq t (codes "lte")) (Some Lte) op h in
              text_eq t (codes "lte") p.0 ∙ ap test_word (some_is Lte op p.1)
        ]
      ]
    ]
  ]
]

either : {A : Type 0} (a b : Option A) (x : A) → option_or a b ≡ Some x → (a ≡ Some x) ⊎ (b ≡ Some x)
either None b x h = inr h
either (Some y) b x h = inl h

test_named : (t : Text) (op : CondOp) → op_word t ≡ Some op → t ≡ test_word op
test_named t op h = elim (either (text_op_word t) (order_op_word t) op h) [ inl p ↦ text_test_named t op p | inr p ↦ order_test_named t op p ]

pub named_test : (op : CondOp) → op_word (test_word op) ≡ Some op
named_test Is = refl
named_test IsNot = refl
named_test OneOf = refl
named_test NotOneOf = refl
named_test HasPart = refl
named_test DoesNotContain = refl
named_test IsApprox = refl
named_test IsBetween = refl
named_test Gt = refl
named_test Gte = refl
named_test Lt = refl
named_test Lte = refl

-- ---- single values

pub str_is : (d : Data) (t : Text) → as_str d ≡ Some t → d ≡ string t
str_is (string s) t h = ap string (some_is s t h)
str_is null t h = none_is t h
str_is (boolean b) t h = none_is t h
str_is (number n) t h = none_is t h
str_is (array ds) t h = none_is t h
str_is (object ms) t h = none_is t h

pub bool_is : (d : Data) (b : Bool) → as_bool d ≡ Some b → d ≡ boolean b
bool_is (boolean a) b h = ap boolean (some_is a b h)
bool_is null b h = none_is b h
bool_is (string s) b h = none_is b h
bool_is (number n) b h = none_is b h
bool_is (array ds) b h = none_is b h
bool_is (object ms) b h = none_is b h

pub number_is : (d : Data) (n : Num) → as_number d ≡ Some n → d ≡ number n
number_is (number m) n h = ap number (some_is m n h)
number_is null n h = none_is n h
number_is (string s) n h = none_is n h
number_is (boolean b) n h = none_is n h
number_is (array ds) n h = none_is n h
number_is (object ms) n h = none_is n h

pub array_is : (d : Data) (ds : Items) → as_array d ≡ Some ds → d ≡ array ds
array_is (array es) ds h = ap array (some_is es ds h)
array_is null ds h = none_is ds h
array_is (string s) ds h = none_is ds h
array_is (boolean b) ds h = none_is ds h
array_is (number n) ds h = none_is ds h
array_is (object ms) ds h = none_is ds h

-- ---- amounts

pub integer_is : (n : Num) (z : ℤ) → as_i64 n ≡ Some z → as_integer n ≡ Some z
integer_is (unsigned n) z h = (only (nat_lt n (2 ^ 63)) (Some (pos n)) z h).1
integer_is (negative y) z h = h
integer_is (float x) z h = h

pub i64_is : (n : Num) (z : ℤ) → as_integer n ≡ Some z → unsigned_abs z ≤ largest_number → as_i64 n ≡ Some z
i64_is (unsigned n) z h small =
    let same : pos n ≡ z = some_is (pos n) z h in
    let below : unsigned_abs (pos n) ≤ largest_number = subst (λ y. unsigned_abs y ≤ largest_number) (sym same) small in
    ap (λ b. if b then Some (pos n) else None) (lt-ltb n (2 ^ 63) (omega (arith, below))) ∙ h
i64_is (negative y) z h small = h
i64_is (float x) z h small = h

pub amount_so : (d : Data) (z : ℤ) → as_amount d ≡ Some z → IsAmount z d
amount_so d z h =
    let held = then_some as_held (option_and_then as_i64 (as_number d)) z h in
    let whole = then_some as_i64 (as_number d) held.0 held.1 in
    let small = only (nat_le (unsigned_abs held.0) largest_number) (Some held.0) z held.2 in
    let same : held.0 ≡ z = some_is held.0 z small.1 in
    subst (λ y. IsAmount y d) same (whole.0, number_is d whole.0 whole.1, integer_is whole.0 held.0 whole.2, leb-true (unsigned_abs held.0) largest_number small.0)

pub so_amount : (d : Data) (z : ℤ) → IsAmount z d → as_amount d ≡ Some z
so_amount d z a =
    ap as_amount a.1 ∙ ap (option_and_then as_held) (i64_is a.0 z a.2 a.3) ∙ ap (λ b. if b then Some z else None) (le-leb (unsigned_abs z) largest_number a.3)

has_amount : (key : Text) (z : ℤ) (d : Data) → option_and_then as_amount (get key d) ≡ Some z → HasAmount key z d
has_amount key z d h = let e = then_some as_amount (get key d) z h in (e.0, e.1, amount_so e.0 z e.2)

amount_has : (key : Text) (z : ℤ) (d : Data) → HasAmount key z d → option_and_then as_amount (get key d) ≡ Some z
amount_has key z d a = ap (option_and_then as_amount) a.1 ∙ so_amount a.0 z a.2

both_ends : (a b : Option ℤ) (v : CondValue) → between a b ≡ Some v → (x : ℤ) × (y : ℤ) × (a ≡ Some x) × (b ≡ Some y) × (Between x y ≡ v)
both_ends None b v h = none_is v h
both_ends (Some x) None v h = none_is v h
both_ends (Some x) (Some y) v h = (x, y, refl, refl, some_is (Between x y) v h)

-- ---- entries

all_so : {A : Type 0} (f : Data → Option A) (n : ℕ) (ds : Items) (xs : List A) → all_from f n (entries_of ds) ≡ Ok xs → AreRead f ds xs
unfolding all_from
all_so f n no_items xs h = subst (AreRead f no_items) (result_is [] xs h) tt
  where
    result_is : {A : Type 0} (a b : List A) → ◌≡◌ {A = Result (List A) ℕ} (Ok a) (Ok b) → a ≡ b
    result_is a b h = cc
all_so {A} f n (item d ds) xs h = by (all_so f (n + 1) ds) (f d) refl h
  where
    later : (x : A) (r : Result (List A) ℕ) → ahead (x ∷ []) r ≡ Ok xs → (ys : List A) × (r ≡ Ok ys) × (x ∷ ys ≡ xs)
    later x (Err at) h = cc
    later x (Ok ys) h = (ys, refl, cc)

    by : ((ys : List A) → all_from f (n + 1) (entries_of ds) ≡ Ok ys → AreRead f ds ys) → (o : Option A) → f d ≡ o → one_ahead n o (all_from f (n + 1) (entries_of ds)) ≡ Ok xs → AreRead f (item d ds) xs
    by others None e h = cc
    by others (Some x) e h = let more = later x (all_from f (n + 1) (entries_of ds)) h in subst (AreRead f (item d ds)) more.2 (e, others more.0 more.1)

so_all : {A : Type 0} (f : Data → Option A) (n : ℕ) (ds : Items) (xs : List A) → AreRead f ds xs → all_from f n (entries_of ds) ≡ Ok xs
unfolding all_from
so_all f n no_items [] h = refl
so_all f n no_items (x ∷ xs) h = absurd h
so_all f n (item d ds) [] h = absurd h
so_all f n (item d ds) (x ∷ xs) h = ap (λ o. one_ahead n o (all_from f (n + 1) (entries_of ds))) h.0 ∙ ap (ahead (x ∷ [])) (so_all f (n + 1) ds xs h.1)

pub read_are : {A : Type 0} (f : Data → Option A) (ds : Items) (xs : List A) → all_read f (entries_of ds) ≡ Ok xs → AreRead f ds xs
read_are f ds xs h = all_so f 0 ds xs (from_read f (entries_of ds) ∙ h)

pub are_read : {A : Type 0} (f : Data → Option A) (ds : Items) (xs : List A) → AreRead f ds xs → all_read f (entries_of ds) ≡ Ok xs
are_read f ds xs h = sym (from_read f (entries_of ds)) ∙ so_all f 0 ds xs h

-- ---- texts

strings_are : (ds : Items) (ts : List Text) → AreRead as_str ds ts → ds ≡ texts ts
strings_are no_items [] h = refl
strings_are no_items (t ∷ ts) h = absurd h
strings_are (item d ds) [] h = absurd h
strings_are (item d ds) (t ∷ ts) h = ap (λ e. item e ds) (str_is d t h.0) ∙ ap (item (string t)) (strings_are ds ts h.1)

are_strings : (ts : List Text) → AreRead as_str (texts ts) ts
are_strings [] = tt
are_strings (t ∷ ts) = (refl, are_strings ts)

ok_is : {A : Type 0} (r : Result A ℕ) (a : A) → ok_of r ≡ Some a → r ≡ Ok a
ok_is (Ok b) a h = ap Ok (some_is b a h)
ok_is (Err at) a h = none_is a h

pub texts_so : (d : Data) (ts : List Text) → as_texts d ≡ Some ts → d ≡ array (texts ts)
texts_so d ts h =
    let e = then_some (λ ds. ok_of (all_read as_str (entries_of ds))) (as_array d) ts h in
    array_is d e.0 e.1 ∙ ap array (strings_are e.0 ts (read_are as_str e.0 ts (ok_is (all_read as_str (entries_of e.0)) ts e.2)))

pub so_texts : (ts : List Text) → as_texts (array (texts ts)) ≡ Some ts
so_texts ts = ap ok_of (are_read as_str (texts ts) ts (are_strings ts))

-- ---- what is compared with

maybe_so : (op : CondOp) → Contains (Is ∷ IsNot ∷ []) op → (d : Data) (v : CondValue) → option_map maybe_value (as_maybe_text d) ≡ Some v → IsIdTest op v × Says v d
maybe_so op k null v h = subst (λ w. IsIdTest op w × Says w null) (some_is Null v h) (k, refl)
maybe_so op k (string t) v h = subst (λ w. IsIdTest op w × Says w (string t)) (some_is (OneText t) v h) (k, refl)
maybe_so op k (boolean b) v h = none_is v h
maybe_so op k (number n) v h = none_is v h
maybe_so op k (array ds) v h = none_is v h
maybe_so op k (object ms) v h = none_is v h

text_so : (P : CondValue → Type 0) → ((t : Text) → P (OneText t)) → (d : Data) (v : CondValue) → option_map (λ t. OneText t) (as_str d) ≡ Some v → P v × Says v d
text_so P k d v h =
    let m = mapped (λ t. OneText t) (as_str d) v h in
    subst (λ w. P w × Says w d) m.2 (k m.0, str_is d m.0 m.1)

list_so : (P : CondValue → Type 0) → ((ts : List Text) → P (Texts ts)) → (d : Data) (v : CondValue) → option_map (λ ts. Texts ts) (as_texts d) ≡ Some v → P v × Says v d
list_so P k d v h =
    let m = mapped (λ ts. Texts ts) (as_texts d) v h in
    subst (λ w. P w × Says w d) m.2 (k m.0, texts_so d m.0 m.1)

id_so : (op : CondOp) (d : Data) (v : CondValue) → id_value op d ≡ Some v → IsIdTest op v × Says v d
id_so Is d v h = maybe_so Is (here Is (IsNot ∷ [])) d v h
id_so IsNot d v h = maybe_so IsNot (there Is (IsNot ∷ []) IsNot (here IsNot [])) d v h
id_so OneOf d v h = list_so (IsIdTest OneOf) (λ ts. here OneOf (NotOneOf ∷ [])) d v h
id_so NotOneOf d v h = list_so (IsIdTest NotOneOf) (λ ts. there OneOf (NotOneOf ∷ []) NotOneOf (here NotOneOf [])) d v h
id_so other d v h = none_is v h

so_id : (op : CondOp) (d : Data) (v : CondValue) → IsIdTest op v → Says v d → id_value op d ≡ Some v
so_id op d Null k s = each_of (λ o. id_value o d ≡ Some Null) (Is ∷ IsNot ∷ []) op (ap (λ e. option_map maybe_value (as_maybe_text e)) s, (ap (λ e. option_map maybe_value (as_maybe_text e)) s, tt)) k
so_id op d (OneText t) k s =
    each_of (λ o. id_value o d ≡ Some (OneText t)) (Is ∷ IsNot ∷ []) op (ap (λ e. option_map maybe_value (as_maybe_text e)) s, (ap (λ e. option_map maybe_value (as_maybe_text e)) s, tt)) k
so_id op d (Texts ts) k s =
    let is : option_map (λ q. Texts q) (as_texts d) ≡ Some (Texts ts) = ap (λ e. option_map (λ q. Texts q) (as_texts e)) s ∙ ap (option_map (λ q. Texts q)) (so_texts ts) in
    each_of (λ o. id_value o d ≡ Some (Texts ts)) (OneOf ∷ NotOneOf ∷ []) op (is, (is, tt)) k
so_id op d other k s = absurd k

text_tests : List CondOp
text_tests = Is ∷ IsNot ∷ HasPart ∷ DoesNotContain ∷ []

words_so : (op : CondOp) (d : Data) (v : CondValue) → text_value op d ≡ Some v → IsTextTest op v × Says v d
words_so Is d v h = text_so (IsTextTest Is) (λ t. (0, omega arith, refl)) d v h
words_so IsNot d v h = text_so (IsTextTest IsNot) (λ t. (1, omega arith, refl)) d v h
words_so HasPart d v h = text_so (IsTextTest HasPart) (λ t. (2, omega arith, refl)) d v h
words_so DoesNotContain d v h = text_so (IsTextTest DoesNotContain) (λ t. (3, omega arith, refl)) d v h
words_so OneOf d v h = list_so (IsTextTest OneOf) (λ ts. here OneOf (NotOneOf ∷ [])) d v h
words_so NotOneOf d v h = list_so (IsTextTest NotOneOf) (λ ts. there OneOf (NotOneOf ∷ []) NotOneOf (here NotOneOf [])) d v h
words_so other d v h = none_is v h

so_words : (op : CondOp) (d : Data) (v : CondValue) → IsTextTest op v → Says v d → text_value op d ≡ Some v
so_words op d (OneText t) k s =
    let is : option_map (λ q. OneText q) (as_str d) ≡ Some (OneText t) = ap (λ e. option_map (λ q. OneText q) (as_str e)) s in
    each_of (λ o. text_value o d ≡ Some (OneText t)) (Is ∷ IsNot ∷ HasPart ∷ DoesNotContain ∷ []) op (is, (is, (is, (is, tt)))) k
so_words op d (Texts ts) k s =
    let is : option_map (λ q. Texts q) (as_texts d) ≡ Some (Texts ts) = ap (λ e. option_map (λ q. Texts q) (as_texts e)) s ∙ ap (option_map (λ q. Texts q)) (so_texts ts) in
    each_of (λ o. text_value o d ≡ Some (Texts ts)) (OneOf ∷ NotOneOf ∷ []) op (is, (is, tt)) k
so_words op d other k s = absurd k

number_so : (P : CondValue → Type 0) → ((z : ℤ) → P (Number z)) → (d : Data) (v : CondValue) → option_map (λ z. Number z) (as_amount d) ≡ Some v → P v × Says v d
number_so P k d v h =
    let m = mapped (λ z. Number z) (as_amount d) v h in
    subst (λ w. P w × Says w d) m.2 (k m.0, amount_so d m.0 m.1)

amounts_so : (op : CondOp) (d : Data) (v : CondValue) → amount_value op d ≡ Some v → IsAmountTest op v × Says v d
amounts_so Is d v h = number_so (IsAmountTest Is) (λ z. (0, omega arith, refl)) d v h
amounts_so IsApprox d v h = number_so (IsAmountTest IsApprox) (λ z. (1, omega arith, refl)) d v h
amounts_so Gt d v h = number_so (IsAmountTest Gt) (λ z. (2, omega arith, refl)) d v h
amounts_so Gte d v h = number_so (IsAmountTest Gte) (λ z. (3, omega arith, refl)) d v h
amounts_so Lt d v h = number_so (IsAmountTest Lt) (λ z. (4, omega arith, refl)) d v h
amounts_so Lte d v h = number_so (IsAmountTest Lte) (λ z. (5, omega arith, refl)) d v h
amounts_so IsBetween d v h =
    let b = both_ends (option_and_then as_amount (get (codes "num1") d)) (option_and_then as_amount (get (codes "num2") d)) v h in
    subst (λ w. IsAmountTest IsBetween w × Says w d) b.4 (refl, (has_amount (codes "num1") b.0 d b.2, has_amount (codes "num2") b.1 d b.3))
amounts_so other d v h = none_is v h

so_amounts : (op : CondOp) (d : Data) (v : CondValue) → IsAmountTest op v → Says v d → amount_value op d ≡ Some v
so_amounts op d (Number z) k s =
    let is : option_map (λ q. Number q) (as_amount d) ≡ Some (Number z) = ap (option_map (λ q. Number q)) (so_amount d z s) in
    each_of (λ o. amount_value o d ≡ Some (Number z)) (Is ∷ IsApprox ∷ Gt ∷ Gte ∷ Lt ∷ Lte ∷ []) op (is, (is, (is, (is, (is, (is, tt)))))) k
so_amounts op d (Between a b) k s =
    ap (λ o. amount_value o d) k
    ∙ ap (λ x. between x (option_and_then as_amount (get (codes "num2") d))) (amount_has (codes "num1") a d s.0)
    ∙ ap (between (Some a)) (amount_has (codes "num2") b d s.1)
so_amounts op d other k s = absurd k

day_so : (d : Data) (n : ℕ) → as_day d ≡ Some n → Says (Day n) d
day_so d n h = let t = then_some day_of_text (as_str d) n h in (t.0, str_is d t.0 t.1, t.2)

so_day : (d : Data) (n : ℕ) → Says (Day n) d → as_day d ≡ Some n
so_day d n s = ap as_day s.1 ∙ s.2

days_so : (P : CondValue → Type 0) → ((n : ℕ) → P (Day n)) → (d : Data) (v : CondValue) → option_map (λ n. Day n) (as_day d) ≡ Some v → P v × Says v d
days_so P k d v h =
    let m = mapped (λ n. Day n) (as_day d) v h in
    subst (λ w. P w × Says w d) m.2 (k m.0, day_so d m.0 m.1)

near_so : (P : CondValue → Type 0) → ((n : ℕ) → P (Day n)) → P Recurrence → (d : Data) (v : CondValue) → day_or_recurrence d ≡ Some v → P v × Says v d
near_so P k r (object ms) v h = subst (λ w. P w × Says w (object ms)) (some_is Recurrence v h) (r, (ms, refl))
near_so P k r null v h = days_so P k null v h
near_so P k r (boolean b) v h = days_so P k (boolean b) v h
near_so P k r (number n) v h = days_so P k (number n) v h
near_so P k r (string t) v h = days_so P k (string t) v h
near_so P k r (array ds) v h = days_so P k (array ds) v h

dates_so : (op : CondOp) (d : Data) (v : CondValue) → day_value op d ≡ Some v → IsDayTest op v × Says v d
dates_so Is d v h = near_so (IsDayTest Is) (λ n. (0, omega arith, refl)) (0, omega arith, refl) d v h
dates_so IsApprox d v h = near_so (IsDayTest IsApprox) (λ n. (1, omega arith, refl)) (1, omega arith, refl) d v h
dates_so Gt d v h = days_so (IsDayTest Gt) (λ n. (2, omega arith, refl)) d v h
dates_so Gte d v h = days_so (IsDayTest Gte) (λ n. (3, omega arith, refl)) d v h
dates_so Lt d v h = days_so (IsDayTest Lt) (λ n. (4, omega arith, refl)) d v h
dates_so Lte d v h = days_so (IsDayTest Lte) (λ n. (5, omega arith, refl)) d v h
dates_so other d v h = none_is v h

so_dates : (op : CondOp) (d : Data) (v : CondValue) → IsDayTest op v → Says v d → day_value op d ≡ Some v
so_dates op d (Day n) k s =
    let is : option_map (λ q. Day q) (as_day d) ≡ Some (Day n) = ap (option_map (λ q. Day q)) (so_day d n s) in
    let text : day_or_recurrence d ≡ Some (Day n) = ap day_or_recurrence s.1 ∙ ap (option_map (λ q. Day q)) s.2 in
    each_of (λ o. day_value o d ≡ Some (Day n)) (Is ∷ IsApprox ∷ Gt ∷ Gte ∷ Lt ∷ Lte ∷ []) op (text, (text, (is, (is, (is, (is, tt)))))) k
so_dates op d Recurrence k s =
    let is : day_or_recurrence d ≡ Some Recurrence = ap day_or_recurrence s.1 in
    each_of (λ o. day_value o d ≡ Some Recurrence) (Is ∷ IsApprox ∷ []) op (is, (is, tt)) k
so_dates op d other k s = absurd k

flags_so : (op : CondOp) (d : Data) (v : CondValue) → flag_value op d ≡ Some v → IsFlagTest op v × Says v d
flags_so Is d v h =
    let m = mapped (λ b. Flag b) (as_bool d) v h in
    subst (λ w. IsFlagTest Is w × Says w d) m.2 (refl, bool_is d m.0 m.1)
flags_so other d v h = none_is v h

so_flags : (op : CondOp) (d : Data) (v : CondValue) → IsFlagTest op v → Says v d → flag_value op d ≡ Some v
so_flags op d (Flag b) k s = ap (λ o. flag_value o d) k ∙ ap (λ e. option_map (λ q. Flag q) (as_bool e)) s
so_flags op d other k s = absurd k

values_so : (f : CondField) (op : CondOp) (d : Data) (v : CondValue) → value_of f op d ≡ Some v → IsTest f op v × Says v d
values_so Acct op d v h = id_so op d v h
values_so Description op d v h = id_so op d v h
values_so Category op d v h = id_so op d v h
values_so ImportedDescription op d v h = words_so op d v h
values_so Notes op d v h = words_so op d v h
values_so Amount op d v h = amounts_so op d v h
values_so Date op d v h = dates_so op d v h
values_so Cleared op d v h = flags_so op d v h

so_values : (f : CondField) (op : CondOp) (d : Data) (v : CondValue) → IsTest f op v → Says v d → value_of f op d ≡ Some v
so_values Acct op d v k s = so_id op d v k s
so_values Description op d v k s = so_id op d v k s
so_values Category op d v k s = so_id op d v k s
so_values ImportedDescription op d v k s = so_words op d v k s
so_values Notes op d v k s = so_words op d v k s
so_values Amount op d v k s = so_amounts op d v k s
so_values Date op d v k s = so_dates op d v k s
so_values Cleared op d v k s = so_flags op d v k s

-- ---- directions

set_so : (key : Text) (d : Data) → is_set key d ≡ true → IsSet key d
set_so key d h = by (get key d) refl h
  where
    is_true : (b : Option Bool) → some_and (λ c. c) b ≡ true → b ≡ Some true
    is_true None h = cc
    is_true (Some b) h = ap Some h

    by : (o : Option Data) → get key d ≡ o → some_and (λ c. c) (option_and_then as_bool o) ≡ true → get key d ≡ Some (boolean true)
    by None e h = cc
    by (Some v) e h = e ∙ ap Some (bool_is v true (is_true (as_bool v) h))

so_set : (key : Text) (d : Data) → IsSet key d → is_set key d ≡ true
so_set key d h = ap (λ o. some_and (λ c. c) (option_and_then as_bool o)) h

pub asks_so : (d : Data) → asks_direction d ≡ true → AsksDirection d
asks_so d h = by (get (codes "options") d) refl h
  where
    by : (o : Option Data) → get (codes "options") d ≡ o → some_and (λ options. is_set (codes "inflow") options || is_set (codes "outflow") options) o ≡ true → AsksDirection d
    by None e h = cc
    by (Some options) e h = (
      options,
      e,
      elim (or_cases (is_set (codes "inflow") options) (is_set (codes "outflow") options) h) [ inl p ↦ inl (set_so (codes "inflow") options p) | inr p ↦ inr (set_so (codes "outflow") options p) ],
    )

pub so_asks : (d : Data) → AsksDirection d → asks_direction d ≡ true
so_asks d a =
    let one : (is_set (codes "inflow") a.0 || is_set (codes "outflow") a.0) ≡ true = elim a.2 [
      | inl p ↦ or_left (is_set (codes "inflow") a.0) (is_set (codes "outflow") a.0) (so_set (codes "inflow") a.0 p)
      | inr p ↦ or_right (is_set (codes "inflow") a.0) (is_set (codes "outflow") a.0) (so_set (codes "outflow") a.0 p)
    ] in
    ap (some_and (λ options. is_set (codes "inflow") options || is_set (codes "outflow") options)) a.1 ∙ one

-- ---- conditions

text_here : (key : Text) (d : Data) (t : Text) → text_at key d ≡ Some t → get key d ≡ Some (string t)
text_here key d t h = let e = then_some as_str (get key d) t h in e.1 ∙ ap Some (str_is e.0 t e.2)

no_way : {A : Type 0} (b : Bool) (o : Option A) (a : A) → (if b then None else o) ≡ Some a → (b ≡ false) × (o ≡ Some a)
no_way true o a h = none_is a h
no_way false o a h = (refl, h)

column_so : (d : Data) (o : Option CondField) (c : Condition) → with_field d o ≡ Some c → (f : CondField) × (o ≡ Some f) × (with_op d f (option_and_then op_word (text_at (codes "op") d)) ≡ Some c)
column_so d None c h = none_is c h
column_so d (Some f) c h = (f, refl, h)

op_so : (d : Data) (f : CondField) (o : Option CondOp) (c : Condition) → with_op d f o ≡ Some c → (op : CondOp) × (o ≡ Some op) × (with_value f op (option_and_then (value_of f op) (get (codes "value") d)) ≡ Some c)
op_so d f None c h = none_is c h
op_so d f (Some op) c h = (op, refl, h)

value_so : (f : CondField) (op : CondOp) (o : Option CondValue) (c : Condition) → with_value f op o ≡ Some c → (v : CondValue) × (o ≡ Some v) × (record { field = f; op = op; value = v } ≡ c)
value_so f op None c h = none_is c h
value_so f op (Some v) c h = (v, refl, some_is _ c h)

pub condition_so : (d : Data) (c : Condition) → condition_of d ≡ Some c → IsCondition d c
unfolding condition_of
condition_so d c h =
    let way = no_way (asks_direction d) (with_field d (option_and_then field_word (text_at (codes "field") d))) c h in
    let column = column_so d (option_and_then field_word (text_at (codes "field") d)) c way.1 in
    let name = then_some field_word (text_at (codes "field") d) column.0 column.1 in
    let test = op_so d column.0 (option_and_then op_word (text_at (codes "op") d)) c column.2 in
    let word = then_some op_word (text_at (codes "op") d) test.0 test.1 in
    let value = value_so column.0 test.0 (option_and_then (value_of column.0 test.0) (get (codes "value") d)) c test.2 in
    let at = then_some (value_of column.0 test.0) (get (codes "value") d) value.0 value.1 in
    let told = values_so column.0 test.0 at.0 value.0 at.2 in
    subst (IsCondition d) value.2 (record {
      any_way = λ a. not_true (asks_direction d) way.0 (so_asks d a);
      field = (name.0, text_here (codes "field") d name.0 name.1, column_named name.0 column.0 name.2);
      test = text_here (codes "op") d word.0 word.1 ∙ ap (λ t. Some (string t)) (test_named word.0 test.0 word.2);
      value = (at.0, at.1, told.1);
      kind = told.0;
    })

pub so_condition : (d : Data) (c : Condition) → IsCondition d c → condition_of d ≡ Some c
unfolding condition_of
so_condition d c is =
    ap (λ b. if b then None else with_field d (option_and_then field_word (text_at (codes "field") d))) (is_false (asks_direction d) (λ h. is.any_way (asks_so d h)))
    ∙ ap (with_field d) (ap (λ o. option_and_then field_word (option_and_then as_str o)) is.field.1 ∙ named_column c.field is.field.0 is.field.2)
    ∙ ap (with_op d c.field) (ap (λ o. option_and_then op_word (option_and_then as_str o)) is.test ∙ named_test c.op)
    ∙ ap (with_value c.field c.op) (ap (option_and_then (value_of c.field c.op)) is.value.1 ∙ so_values c.field c.op is.value.0 c.value is.kind is.value.2)

-- ---- actions

maybe_is : (d : Data) (o : Option Text) → as_maybe_text d ≡ Some o → d ≡ id_or_null o
maybe_is null o h = ap id_or_null (some_is None o h)
maybe_is (string t) o h = ap id_or_null (some_is (Some t) o h)
maybe_is (boolean b) o h = none_is o h
maybe_is (number n) o h = none_is o h
maybe_is (array ds) o h = none_is o h
maybe_is (object ms) o h = none_is o h

is_maybe : (o : Option Text) → as_maybe_text (id_or_null o) ≡ Some o
is_maybe None = refl
is_maybe (Some t) = refl

-- what the word of an action, its column and its value make of it
abbrev made : Option Data → Option Data → Option Data → Option Action
made op field value = option_and_then (λ w. option_and_then (action_by w (option_and_then as_str field)) value) (action_op op)

op_words : (o : Option Data) (w : Text) → action_op o ≡ Some w → ((o ≡ None) × (codes "set" ≡ w)) ⊎ (o ≡ Some (string w))
op_words None w h = inl (refl, some_is (codes "set") w h)
op_words (Some d) w h = inr (ap Some (str_is d w h))

module _ (d v : Data) (at : get (codes "value") d ≡ Some v) where
  sets_so : (column : Text) (a : Action) → ((get (codes "op") d ≡ None) ⊎ (get (codes "op") d ≡ Some (string (codes "set")))) → get (codes "field") d ≡ Some (string column) → set_of column v ≡ Some a → IsAction d a
  sets_so column a op field h = elim (branch (bytes_eq column (codes "category")) (option_map (λ c. SetCategory c) (as_maybe_text v)) _ a h) [
    | inl p ↦
        let m = mapped (λ c. SetCategory c) (as_maybe_text v) a p.1 in
        subst (IsAction d) m.2 (op, field ∙ ap (λ t. Some (string t)) (text_eq column (codes "category") p.0), at ∙ ap Some (maybe_is v m.0 m.1))
    | inr h ↦ elim (branch (bytes_eq column (codes "description")) (option_map (λ p. SetDescription p) (as_maybe_text v)) _ a h) [
      | inl p ↦
          let m = mapped (λ p. SetDescription p) (as_maybe_text v) a p.1 in
          subst (IsAction d) m.2 (op, field ∙ ap (λ t. Some (string t)) (text_eq column (codes "description") p.0), at ∙ ap Some (maybe_is v m.0 m.1))
      | inr h ↦ elim (branch (bytes_eq column (codes "notes")) (option_map (λ t. SetNotes t) (as_str v)) _ a h) [
        | inl p ↦
            let m = mapped (λ t. SetNotes t) (as_str v) a p.1 in
            subst (IsAction d) m.2 (op, field ∙ ap (λ t. Some (string t)) (text_eq column (codes "notes") p.0), at ∙ ap Some (str_is v m.0 m.1))
        | inr h ↦
            let p = only (bytes_eq column (codes "cleared")) (option_map (λ b. SetCleared b) (as_bool v)) a h in
            let m = mapped (λ b. SetCleared b) (as_bool v) a p.1 in
            subst (IsAction d) m.2 (op, field ∙ ap (λ t. Some (string t)) (text_eq column (codes "cleared") p.0), at ∙ ap Some (bool_is v m.0 m.1))
      ]
    ]
  ]

  -- by a word of its own, or by none
  by_word : (w : Text) (a : Action) → ((get (codes "op") d ≡ None) × (codes "set" ≡ w)) ⊎ (get (codes "op") d ≡ Some (string w)) → action_by w (text_at (codes "field") d) v ≡ Some a → IsAction d a
  by_word w a op h = elim (branch (bytes_eq w (codes "set")) (option_and_then (λ f. set_of f v) (text_at (codes "field") d)) _ a h) [
    | inl p ↦
        let f = then_some (λ f. set_of f v) (text_at (codes "field") d) a p.1 in
        let set : (get (codes "op") d ≡ None) ⊎ (get (codes "op") d ≡ Some (string (codes "set"))) = elim op [
          | inl n ↦ inl n.0
          | inr s ↦ inr (s ∙ ap (λ t. Some (string t)) (text_eq w (codes "set") p.0))
        ] in
        sets_so f.0 a set (text_here (codes "field") d f.0 f.1) f.2
    | inr h ↦ elim (branch (bytes_eq w (codes "prepend-notes")) (option_map (λ t. PrependNotes t) (as_str v)) _ a h) [
      | inl p ↦
          let m = mapped (λ t. PrependNotes t) (as_str v) a p.1 in
          subst (IsAction d) m.2 (own w (codes "prepend-notes") op (text_eq w (codes "prepend-notes") p.0) (λ e. cc), at ∙ ap Some (str_is v m.0 m.1))
      | inr h ↦ elim (branch (bytes_eq w (codes "append-notes")) (option_map (λ t. AppendNotes t) (as_str v)) _ a h) [
        | inl p ↦
            let m = mapped (λ t. AppendNotes t) (as_str v) a p.1 in
            subst (IsAction d) m.2 (own w (codes "append-notes") op (text_eq w (codes "append-notes") p.0) (λ e. cc), at ∙ ap Some (str_is v m.0 m.1))
        | inr h ↦
            let p = only (bytes_eq w (codes "link-schedule")) (option_map (λ t. LinkSchedule t) (as_str v)) a h in
            let m = mapped (λ t. LinkSchedule t) (as_str v) a p.1 in
            subst (IsAction d) m.2 (own w (codes "link-schedule") op (text_eq w (codes "link-schedule") p.0) (λ e. cc), at ∙ ap Some (str_is v m.0 m.1))
      ]
    ]
  ]
    where
      own : (w word : Text) → ((get (codes "op") d ≡ None) × (codes "set" ≡ w)) ⊎ (get (codes "op") d ≡ Some (string w)) → w ≡ word → (codes "set" ≡ word → ⊥) → get (codes "op") d ≡ Some (string word)
      own w word op e never = elim op [ inl n ↦ absurd (never (n.1 ∙ e)) | inr s ↦ s ∙ ap (λ t. Some (string t)) e ]

pub action_so : (d : Data) (a : Action) → action_of d ≡ Some a → IsAction d a
unfolding action_of
action_so d a h =
    let w = then_some (λ op. option_and_then (action_by op (text_at (codes "field") d)) (get (codes "value") d)) (action_op (get (codes "op") d)) a h in
    let v = then_some (action_by w.0 (text_at (codes "field") d)) (get (codes "value") d) a w.2 in
    by_word d v.0 v.1 w.0 a (op_words (get (codes "op") d) w.0 w.1) v.2

so_made : (d : Data) (op field value : Option Data) → get (codes "op") d ≡ op → get (codes "field") d ≡ field → get (codes "value") d ≡ value → action_of d ≡ made op field value
unfolding action_of
so_made d op field value o f v =
    ap (λ x. made x (get (codes "field") d) (get (codes "value") d)) o ∙ ap (λ x. made op x (get (codes "value") d)) f ∙ ap (made op field) v

so_sets : (d : Data) (column : Text) (value : Data) (a : Action) → Sets d column value → set_of column value ≡ Some a → action_of d ≡ Some a
so_sets d column value a s h = elim s.0 [
  | inl n ↦ so_made d None (Some (string column)) (Some value) n s.1 s.2 ∙ h
  | inr w ↦ so_made d (Some (string (codes "set"))) (Some (string column)) (Some value) w s.1 s.2 ∙ h
]

so_does : (d : Data) (word text : Text) (a : Action) → Does d word text → ((field : Option Data) → made (Some (string word)) field (Some (string text)) ≡ Some a) → action_of d ≡ Some a
so_does d word text a s h = so_made d (Some (string word)) (get (codes "field") d) (Some (string text)) s.0 refl s.1 ∙ h (get (codes "field") d)

pub so_action : (d : Data) (a : Action) → IsAction d a → action_of d ≡ Some a
so_action d (SetDescription payee) s = so_sets d (codes "description") (id_or_null payee) (SetDescription payee) s (ap (option_map (λ p. SetDescription p)) (is_maybe payee))
so_action d (SetCategory category) s = so_sets d (codes "category") (id_or_null category) (SetCategory category) s (ap (option_map (λ c. SetCategory c)) (is_maybe category))
so_action d (SetNotes text) s = so_sets d (codes "notes") (string text) (SetNotes text) s refl
so_action d (SetCleared set) s = so_sets d (codes "cleared") (boolean set) (SetCleared set) s refl
so_action d (PrependNotes text) s = so_does d (codes "prepend-notes") text (PrependNotes text) s (λ field. refl)
so_action d (AppendNotes text) s = so_does d (codes "append-notes") text (AppendNotes text) s (λ field. refl)
so_action d (LinkSchedule id) s = so_does d (codes "link-schedule") id (LinkSchedule id) s (λ field. refl)

-- ---- rules

module _ {A : Type 0} (part : RulePart) (f : Data → Option A) where
  good : (r : Result (List A) ℕ) (xs : List A) → or_bad part r ≡ Ok xs → r ≡ Ok xs
  good (Ok ys) xs h = ap Ok (inside ys xs h)
  good (Err at) xs h = cc

  pub lists_so : (text : Option Text) (xs : List A) → read_part part f text ≡ Ok xs → Lists f text xs
  unfolding all_read
  lists_so None xs h = sym (inside [] xs h)
  lists_so (Some text) xs h = by (option_and_then as_array (read text)) refl (good (in_array f (option_map entries_of (option_and_then as_array (read text)))) xs h)
    where
      by : (o : Option Items) → option_and_then as_array (read text) ≡ o → in_array f (option_map entries_of o) ≡ Ok xs → (ds : Items) × (read text ≡ Some (array ds)) × AreRead f ds xs
      by None e h = cc
      by (Some ds) e h =
          let d = then_some as_array (read text) ds e in
          (ds, d.1 ∙ ap Some (array_is d.0 ds d.2), read_are f ds xs h)

  pub so_lists : (text : Option Text) (xs : List A) → Lists f text xs → read_part part f text ≡ Ok xs
  unfolding all_read
  so_lists None xs h = ap Ok (sym h)
  so_lists (Some text) xs h =
      ap (λ o. or_bad part (in_array f (option_map entries_of (option_and_then as_array o)))) h.1
      ∙ ap (or_bad part) (are_read f h.0 xs h.2)

first_so : (o : Option Text) → (stage_of o ≡ Pre) ↔ (o ≡ Some (codes "pre"))
first_so o = (so o, λ e. ap stage_of e)
  where
    second : (b : Bool) → (if b then Post else Plain) ≡ Pre → ⊥
    second true h = cc
    second false h = cc

    by : (b c : Bool) → (if b then Pre else if c then Post else Plain) ≡ Pre → b ≡ true
    by true c h = refl
    by false c h = absurd (second c h)

    so : (o : Option Text) → stage_of o ≡ Pre → o ≡ Some (codes "pre")
    so None h = cc
    so (Some t) h = ap Some (text_eq t (codes "pre") (by (bytes_eq t (codes "pre")) (bytes_eq t (codes "post")) h))

last_so : (o : Option Text) → (stage_of o ≡ Post) ↔ (o ≡ Some (codes "post"))
last_so o = (so o, λ e. ap stage_of e)
  where
    second : (b : Bool) → (if b then Post else Plain) ≡ Post → b ≡ true
    second true h = refl
    second false h = cc

    by : (b c : Bool) → (if b then Pre else if c then Post else Plain) ≡ Post → c ≡ true
    by true c h = cc
    by false c h = second c h

    so : (o : Option Text) → stage_of o ≡ Post → o ≡ Some (codes "post")
    so None h = cc
    so (Some t) h = ap Some (text_eq t (codes "post") (by (bytes_eq t (codes "pre")) (bytes_eq t (codes "post")) h))

any_so : (o : Option Text) → (op_of o ≡ Or) ↔ (o ≡ Some (codes "or"))
any_so o = (so o, λ e. ap op_of e)
  where
    by : (b : Bool) → (if b then Or else And) ≡ Or → b ≡ true
    by true h = refl
    by false h = cc

    so : (o : Option Text) → op_of o ≡ Or → o ≡ Some (codes "or")
    so None h = cc
    so (Some t) h = ap Some (text_eq t (codes "or") (by (bytes_eq t (codes "or")) h))

same_stage : (s t : Stage) → (s ≡ Pre → t ≡ Pre) → (t ≡ Pre → s ≡ Pre) → (s ≡ Post → t ≡ Post) → (t ≡ Post → s ≡ Post) → s ≡ t
same_stage Pre t a b c d = sym (a refl)
same_stage Post t a b c d = sym (c refl)
same_stage Plain Pre a b c d = b refl
same_stage Plain Plain a b c d = refl
same_stage Plain Post a b c d = d refl

same_op : (s t : RuleOp) → (s ≡ Or → t ≡ Or) → (t ≡ Or → s ≡ Or) → s ≡ t
same_op Or t a b = sym (a refl)
same_op And Or a b = b refl
same_op And And a b = refl

rule_so : (id : Text) (row : RuleRow) (r : Rule) → read_rule id row ≡ Ok r → IsRuleOf id row r
unfolding read_rule
rule_so id row r h =
    let c = passed (read_part Conditions condition_of row.conditions) _ _ h in
    let a = passed (read_part Actions action_of row.actions) _ _ c.2 in
    subst (IsRuleOf id row) (inside _ _ a.2) (record {
      own = refl;
      first = first_so row.stage;
      last = last_so row.stage;
      any = any_so row.conditions_op;
      conditions = lists_so Conditions condition_of row.conditions c.0 c.1;
      actions = lists_so Actions action_of row.actions a.0 a.1;
    })

so_rule : (id : Text) (row : RuleRow) (r : Rule) → IsRuleOf id row r → read_rule id row ≡ Ok r
so_rule id row r is =
    let first = first_so row.stage in
    let last = last_so row.stage in
    let any = any_so row.conditions_op in
    read_so id row r
    (so_lists Conditions condition_of row.conditions r.conditions is.conditions)
    (so_lists Actions action_of row.actions r.actions is.actions)
    is.own
    (same_stage (stage_of row.stage) r.stage (λ h. is.first.1 (first.0 h)) (λ h. first.1 (is.first.0 h)) (λ h. is.last.1 (last.0 h)) (λ h. last.1 (is.last.0 h)))
    (same_op (op_of row.conditions_op) r.op (λ h. is.any.1 (any.0 h)) (λ h. any.1 (is.any.0 h)))

pub parts_are_read : RulePartsAreRead
parts_are_read = record {
  condition = λ d c. (condition_so d c, so_condition d c);
  action = λ d a. (action_so d a, so_action d a);
  rule = λ id row r. (rule_so id row r, so_rule id row r);
}
