-- What the tests of conditions say.
use Rattle.std.proofs.Common.{◌≡◌, ℕ, suc, ◌+◌, ◌*◌, ◌/◌, ◌<◌, ◌≤◌, Bool, true, false, List, [], ◌∷◌, Option, Some, None, inl, inr, refl, sym, ap, ◌∙◌, arith}
use lib.IntN.{ℤ, pos, ◌-ℤ◌}
use Rattle.std.specs.Prelude.{◌↔◌, ◌⊎◌, ◌&&◌, ◌||◌, ◌+ℤ◌, ◌%◌, unsigned_abs, nat_le, int_le, int_lt, ◌≤ℤ◌, ◌<ℤ◌, chars, encode_utf8_all}
use Rattle.std.specs.List.{Contains, list_any}
use Rattle.std.specs.Ordering.{int_eq}
use Rattle.std.specs.Str.{bytes_eq}
use Rattle.std.specs.Str.Iter.{HasSubslice}
use Rattle.std.proofs.lemmas.Int.{ints}
use Rattle.std.proofs.lemmas.Bool.{and_parts, and_from, or_cases, or_left, or_right, eqb-true, eq-eqb, ltb-true, lt-ltb, leb-true, le-leb}
use Rattle.std.proofs.lemmas.Bool.Decides.{Decides-int_eq}
use Rattle.std.proofs.lemmas.List.Folds.{list_any_at}
use Rattle.std.proofs.lemmas.Slice.Eq.{bytes_eq-Decides}
use Rattle.caseless.specs.Caseless.{default_case_fold, IsDefaultMatch}
use Rattle.jiff_core.specs.Calendar.{days_from_civil}
use Rattle.finite_sums.specs.Maps.{Text}
use Rattle.book_rows.specs.declared.rows.Rows.{Rows}
use Rattle.book_rows.specs.declared.rows.TxRow.{TxRow}
use Rattle.book_rows.specs.Kinds.{is_day}
use Rattle.rule_engine.specs.declared.rule.CondField.{CondField}
use Rattle.rule_engine.specs.declared.rule.CondOp.{CondOp}
use Rattle.rule_engine.specs.declared.rule.CondOp.TheVariants.{Is, IsNot, OneOf, NotOneOf, Contains as HasPart, DoesNotContain, IsApprox, IsBetween, Gt, Gte, Lt, Lte}
use Rattle.rule_engine.specs.declared.rule.CondValue.{CondValue}
use Rattle.rule_engine.specs.declared.rule.CondValue.TheVariants.{Null, Text as OneText, Texts, Number, Between, Date as Day, Recurrence, Flag}
use Rattle.rule_engine.specs.declared.rule.Condition.{Condition}
use Rattle.rule_engine.specs.Days.{day_number, are_within}
use Rattle.rule_engine.specs.Conditions.{id_holds, is_same_text, folded, text_holds, number_holds, amount_holds, day_holds, same_flag, flag_holds, holds, holds_by, resolved_row, resolved_value, holds_in}
use Rattle.rule_laws.specs.Comparing.{IdsAreCompared, TextsAreTested, AmountsAreCompared, DaysAreCompared, ColumnsAreTested, ConditionsAreTold}
use Rattle.rule_engine.proofs.Parts.{has_part-Decides}

-- ---- lists of which one passes

here : (t : Text) (ts : List Text) → Contains (t ∷ ts) t
here t ts = (0, omega arith, refl)

there : (t q : Text) (ts : List Text) → Contains ts q → Contains (t ∷ ts) q
there t q ts c = (suc c.0, omega (arith, c.1), c.2)

any_so : (p : Text → Bool) (ts : List Text) → list_any p ts ≡ true → (t : Text) × Contains ts t × (p t ≡ true)
any_so p [] h = cc
any_so p (t ∷ ts) h =
    (elim (p t) as (λ b. p t ≡ b → (b || list_any p ts) ≡ true → (q : Text) × Contains (t ∷ ts) q × (p q ≡ true)) [
      | true ↦ λ e k. (t, here t ts, e)
      | false ↦ λ e k. let more = any_so p ts k in (more.0, there t more.0 ts more.1, more.2)
    ]) refl h

so_any : (p : Text → Bool) (ts : List Text) (t : Text) → Contains ts t → p t ≡ true → list_any p ts ≡ true
so_any p ts t c h = list_any_at p ts c.0 t c.1 (ap p c.2 ∙ h)

-- ---- ids

same_bytes : (a b : Text) → (bytes_eq a b ≡ true) ↔ (a ≡ b)
same_bytes a b = let d = bytes_eq-Decides a b in (λ h. d.0 h, λ h. d.1 h)

pub none_some : {X : Type 0} (x : X) → None ≡ Some x → ⊥
none_some x h = cc

some_is : (a b : Text) → Some a ≡ Some b → a ≡ b
some_is a b h = cc

pub id_is : (t : Text) (id : Option Text) → (id_holds Is (OneText t) id ≡ true) ↔ (id ≡ Some t)
id_is t None = (λ h. cc, λ h. absurd (none_some t h))
id_is t (Some own) = (λ h. ap (λ (q : Text). Some q) ((same_bytes own t).0 h), λ h. (same_bytes own t).1 (some_is own t h))

pub id_none : (id : Option Text) → (id_holds Is Null id ≡ true) ↔ (id ≡ None)
id_none None = (λ h. refl, λ h. refl)
id_none (Some own) = (λ h. cc, λ h. absurd (none_some own (sym h)))

pub id_one : (ts : List Text) (id : Option Text) → (id_holds OneOf (Texts ts) id ≡ true) ↔ ((t : Text) × Contains ts t × (id ≡ Some t))
id_one ts None = (λ h. cc, λ h. absurd (none_some h.0 h.2))
id_one ts (Some own) = (
  λ h. let found = any_so (bytes_eq own) ts h in (found.0, found.1, ap (λ (q : Text). Some q) ((same_bytes own found.0).0 found.2)),
  λ h. so_any (bytes_eq own) ts h.0 h.1 ((same_bytes own h.0).1 (some_is own h.0 h.2)),
)

id_is_kind : (value : CondValue) (id : Option Text) → id_holds Is value id ≡ true → (value ≡ Null) ⊎ ((t : Text) × (value ≡ OneText t))
id_is_kind Null id h = inl refl
id_is_kind (OneText t) id h = inr (t, refl)
id_is_kind other id h = cc

id_one_kind : (value : CondValue) (id : Option Text) → id_holds OneOf value id ≡ true → (ts : List Text) × (value ≡ Texts ts)
id_one_kind (Texts ts) id h = (ts, refl)
id_one_kind other id h = cc

id_others : (op : CondOp) (value : CondValue) (id : Option Text) → id_holds op value id ≡ true → Contains (Is ∷ IsNot ∷ OneOf ∷ NotOneOf ∷ []) op
id_others Is value id h = (0, omega arith, refl)
id_others IsNot value id h = (1, omega arith, refl)
id_others OneOf value id h = (2, omega arith, refl)
id_others NotOneOf value id h = (3, omega arith, refl)
id_others other value id h = cc

ids_compared : IdsAreCompared
ids_compared = record {
  is = id_is;
  is_none = id_none;
  one_of = id_one;
  is_kind = id_is_kind;
  one_of_kind = id_one_kind;
  is_not = λ value id. refl;
  not_one_of = λ value id. refl;
  others = id_others;
}

-- ---- texts

text_is : (t text : Text) → (is_same_text text t ≡ true) ↔ IsDefaultMatch (chars text) (chars t)
text_is t text = let d = bytes_eq-Decides (default_case_fold (chars text)) (default_case_fold (chars t)) in (λ h. d.0 h, λ h. d.1 h)

text_one : (ts : List Text) (text : Text) → (text_holds OneOf (Texts ts) text ≡ true) ↔ ((t : Text) × Contains ts t × IsDefaultMatch (chars text) (chars t))
text_one ts text = (
  λ h. let found = any_so (is_same_text text) ts h in (found.0, found.1, (text_is found.0 text).0 found.2),
  λ h. so_any (is_same_text text) ts h.0 h.1 ((text_is h.0 text).1 h.2),
)

text_has : (t text : Text) → (text_holds HasPart (OneText t) text ≡ true) ↔ HasSubslice (encode_utf8_all (default_case_fold (chars text))) (encode_utf8_all (default_case_fold (chars t)))
unfolding folded
text_has t text = let d = has_part-Decides (encode_utf8_all (default_case_fold (chars t))) (encode_utf8_all (default_case_fold (chars text))) in (λ h. d.0 h, λ h. d.1 h)

text_is_kind : (value : CondValue) (text : Text) → text_holds Is value text ≡ true → (t : Text) × (value ≡ OneText t)
text_is_kind (OneText t) text h = (t, refl)
text_is_kind other text h = cc

text_one_kind : (value : CondValue) (text : Text) → text_holds OneOf value text ≡ true → (ts : List Text) × (value ≡ Texts ts)
text_one_kind (Texts ts) text h = (ts, refl)
text_one_kind other text h = cc

text_has_kind : (value : CondValue) (text : Text) → text_holds HasPart value text ≡ true → (t : Text) × (value ≡ OneText t)
text_has_kind (OneText t) text h = (t, refl)
text_has_kind other text h = cc

text_others : (op : CondOp) (value : CondValue) (text : Text) → text_holds op value text ≡ true → Contains (Is ∷ IsNot ∷ OneOf ∷ NotOneOf ∷ HasPart ∷ DoesNotContain ∷ []) op
text_others Is value text h = (0, omega arith, refl)
text_others IsNot value text h = (1, omega arith, refl)
text_others OneOf value text h = (2, omega arith, refl)
text_others NotOneOf value text h = (3, omega arith, refl)
text_others HasPart value text h = (4, omega arith, refl)
text_others DoesNotContain value text h = (5, omega arith, refl)
text_others other value text h = cc

texts_tested : TextsAreTested
texts_tested = record {
  is = text_is;
  one_of = text_one;
  has = text_has;
  is_kind = text_is_kind;
  one_of_kind = text_one_kind;
  has_kind = text_has_kind;
  is_not = λ value text. refl;
  not_one_of = λ value text. refl;
  has_not = λ value text. refl;
  others = text_others;
  empty = refl;
  given = λ t. refl;
}

-- ---- amounts

int_le_is : (a b : ℤ) → (int_le a b ≡ true) ↔ (a ≤ℤ b)
int_le_is a b = (λ h. grind (arith, ints, h), λ h. grind (arith, ints, h))

int_lt_is : (a b : ℤ) → (int_lt a b ≡ true) ↔ (a <ℤ b)
int_lt_is a b = (λ h. grind (arith, ints, h), λ h. grind (arith, ints, h))

near_is : (z amount : ℤ) → (number_holds IsApprox z amount ≡ true) ↔ (1000 * unsigned_abs (amount -ℤ z) ≤ 75 * unsigned_abs z + 500)
near_is z amount = (
  λ h. let far = leb-true (unsigned_abs (amount -ℤ z)) ((unsigned_abs z * 75 + 500) / 1000) h in omega (arith, far),
  λ h. le-leb (unsigned_abs (amount -ℤ z)) ((unsigned_abs z * 75 + 500) / 1000) (omega (arith, h)),
)

both_is : (a b amount : ℤ) → ((int_le a amount && int_le amount b) ≡ true) ↔ ((a ≤ℤ amount) × (amount ≤ℤ b))
both_is a b amount = (
  λ h. let p = and_parts (int_le a amount) (int_le amount b) h in ((int_le_is a amount).0 p.0, (int_le_is amount b).0 p.1),
  λ h. and_from (int_le a amount) (int_le amount b) ((int_le_is a amount).1 h.0) ((int_le_is amount b).1 h.1),
)

between_is : (a b amount : ℤ) → (amount_holds IsBetween (Between a b) amount ≡ true) ↔ (((a ≤ℤ amount) × (amount ≤ℤ b)) ⊎ ((b ≤ℤ amount) × (amount ≤ℤ a)))
between_is a b amount = (
  λ h. elim (or_cases (int_le a amount && int_le amount b) (int_le b amount && int_le amount a) h) [ inl p ↦ inl ((both_is a b amount).0 p) | inr p ↦ inr ((both_is b a amount).0 p) ],
  λ h. elim h [
    | inl p ↦ or_left (int_le a amount && int_le amount b) (int_le b amount && int_le amount a) ((both_is a b amount).1 p)
    | inr p ↦ or_right (int_le a amount && int_le amount b) (int_le b amount && int_le amount a) ((both_is b a amount).1 p)
  ],
)

amount_is : (z amount : ℤ) → (int_eq amount z ≡ true) ↔ (amount ≡ z)
amount_is z amount = let d = Decides-int_eq amount z in (λ h. d.0 h, λ h. d.1 h)

number_others : (op : CondOp) (z amount : ℤ) → number_holds op z amount ≡ true → Contains (Is ∷ IsApprox ∷ Gt ∷ Gte ∷ Lt ∷ Lte ∷ []) op
number_others Is z amount h = (0, omega arith, refl)
number_others IsApprox z amount h = (1, omega arith, refl)
number_others Gt z amount h = (2, omega arith, refl)
number_others Gte z amount h = (3, omega arith, refl)
number_others Lt z amount h = (4, omega arith, refl)
number_others Lte z amount h = (5, omega arith, refl)
number_others other z amount h = cc

amount_kind : (op : CondOp) (value : CondValue) (amount : ℤ) → amount_holds op value amount ≡ true → ((z : ℤ) × (value ≡ Number z)) ⊎ ((a : ℤ) × (b : ℤ) × (op ≡ IsBetween) × (value ≡ Between a b))
amount_kind op (Number z) amount h = inl (z, refl)
amount_kind IsBetween (Between a b) amount h = inr (a, b, refl, refl)
amount_kind op (Between a b) amount h = cc
amount_kind op other amount h = cc

amounts_compared : AmountsAreCompared
amounts_compared = record {
  one = λ op z amount. refl;
  is = amount_is;
  above = λ z amount. int_lt_is z amount;
  from = λ z amount. int_le_is z amount;
  below = λ z amount. int_lt_is amount z;
  up_to = λ z amount. int_le_is amount z;
  near = near_is;
  others = number_others;
  between = between_is;
  kind = amount_kind;
}

-- ---- days

no_day : (op : CondOp) (value : CondValue) → day_holds op value None ≡ false
no_day op Null = refl
no_day op (OneText t) = refl
no_day op (Texts ts) = refl
no_day op (Number z) = refl
no_day op (Between a b) = refl
no_day op (Day n) = refl
no_day op Recurrence = refl
no_day op (Flag b) = refl

near_days : (a b : ℤ) → (nat_le (unsigned_abs (a -ℤ b)) 2 ≡ true) ↔ ((a ≤ℤ (b +ℤ pos 2)) × (b ≤ℤ (a +ℤ pos 2)))
near_days a b = (
  λ h. let far = leb-true (unsigned_abs (a -ℤ b)) 2 h in (omega (arith, ints, far), omega (arith, ints, far)),
  λ h. le-leb (unsigned_abs (a -ℤ b)) 2 (omega (arith, ints, h.0, h.1)),
)

within_is : (n day : ℕ) → is_day n ≡ true → is_day day ≡ true → are_within 2 day n ≡ nat_le (unsigned_abs (day_number day -ℤ day_number n)) 2
within_is n day h k =
    ap (λ b. b && (is_day n && nat_le (unsigned_abs (day_number day -ℤ day_number n)) 2)) k ∙ ap (λ b. b && nat_le (unsigned_abs (day_number day -ℤ day_number n)) 2) h

number_is : (year month place : ℕ) → month < 100 → place < 100 → day_number (year * 10_000 + month * 100 + place) ≡ days_from_civil (pos year) month place
unfolding day_number
number_is year month place h k =
    let n = year * 10_000 + month * 100 + place in
    let y : n / 10_000 ≡ year = omega arith in
    let m : n / 100 % 100 ≡ month = omega arith in
    let p : n % 100 ≡ place = omega arith in
    rw (y, m, p) refl

no_near : (a b near : Bool) → (a && b) ≡ false → (b && (a && near)) ≡ false
no_near a false near h = refl
no_near false true near h = refl
no_near true true near h = cc

day_others : (op : CondOp) (n day : ℕ) → day_holds op (Day n) (Some day) ≡ true → Contains (Is ∷ IsApprox ∷ Gt ∷ Gte ∷ Lt ∷ Lte ∷ []) op
day_others Is n day h = (0, omega arith, refl)
day_others IsApprox n day h = (1, omega arith, refl)
day_others Gt n day h = (2, omega arith, refl)
day_others Gte n day h = (3, omega arith, refl)
day_others Lt n day h = (4, omega arith, refl)
day_others Lte n day h = (5, omega arith, refl)
day_others other n day h = cc

day_kind : (op : CondOp) (value : CondValue) (day : Option ℕ) → day_holds op value day ≡ true → (n : ℕ) × (value ≡ Day n)
day_kind op (Day n) day h = (n, refl)
day_kind op other day h = cc

days_compared : DaysAreCompared
days_compared = record {
  none = no_day;
  recurrence = λ op day. refl;
  is = λ n day. (eqb-true day n, eq-eqb day n);
  above = λ n day. (ltb-true n day, lt-ltb n day);
  from = λ n day. (leb-true n day, le-leb n day);
  below = λ n day. (ltb-true day n, lt-ltb day n);
  up_to = λ n day. (leb-true day n, le-leb day n);
  near = λ n day h k.
      let is = within_is n day h k in
      let near = near_days (day_number day) (day_number n) in (
        λ t. near.0 (sym is ∙ t),
        λ p. is ∙ near.1 p,
      );
  near_none = λ n day h. no_near (is_day n) (is_day day) (nat_le (unsigned_abs (day_number day -ℤ day_number n)) 2) h;
  number = number_is;
  others = day_others;
  kind = day_kind;
}

flag_is : (op : CondOp) (value : CondValue) (set : Bool) → (flag_holds op value set ≡ true) ↔ ((op ≡ Is) × (value ≡ Flag set))
unfolding same_flag
flag_is Is (Flag true) true = (λ h. (refl, refl), λ h. refl)
flag_is Is (Flag true) false = (λ h. cc, λ h. let no = h.1 in cc)
flag_is Is (Flag false) true = (λ h. cc, λ h. let no = h.1 in cc)
flag_is Is (Flag false) false = (λ h. (refl, refl), λ h. refl)
flag_is Is other set = (λ h. cc, λ h. let no = h.1 in cc)
flag_is other value set = (λ h. cc, λ h. let no = h.0 in cc)

-- ---- columns

columns_tested : (rows : Rows) (c : Condition) (x : TxRow) → ColumnsAreTested rows c x
unfolding holds holds_in
columns_tested rows c x = record {
  account = by;
  payee = by;
  category = by;
  imported = by;
  notes = by;
  amount = by;
  day = by;
  cleared = by;
}
  where
    by : {f : CondField} → c.field ≡ f → holds_by c.field c.op (resolved_value rows c.field c.value) (resolved_row rows x) ≡ holds_by f c.op (resolved_value rows f c.value) (resolved_row rows x)
    by is = ap (λ f. holds_by f c.op (resolved_value rows f c.value) (resolved_row rows x)) is

pub conditions_told : ConditionsAreTold
conditions_told = record { ids = ids_compared; texts = texts_tested; amounts = amounts_compared; days = days_compared; flags = flag_is; columns = columns_tested }
