-- What the rule of a schedule says, in the words of its conditions.
use Rattle.std.proofs.Common.{◌≡◌, ℕ, Bool, true, false, List, [], ◌∷◌, Option, Some, None, option_map, option_and_then, Result, Ok, Err, inl, inr, refl, sym, ap, ◌∙◌, subst}
use lib.IntN.{ℤ, pos}
use Rattle.std.specs.Prelude.{◌⊎◌, ◌&&◌, is_some, unwrap_or, if◌then◌else◌, codes}
use Rattle.std.specs.List.{Contains}
use Rattle.std.proofs.lemmas.Bool.{and_parts, and_from, or_cases}
use Rattle.serde_json.specs.Data.{Data, string, array, object, Items, no_items, item}
use Rattle.serde_json.specs.Find.{get, as_str, as_array}
use Rattle.serde_json.specs.Read.{read}
use Rattle.finite_sums.specs.Maps.{Text}
use Rattle.book_rows.specs.declared.fault.RecurPart.{RecurPart}
use Rattle.book_rows.specs.declared.fault.RecurPart.TheVariants.{Rule}
use Rattle.book_rows.specs.declared.fault.RulePart.TheVariants.{Conditions}
use Rattle.rule_engine.specs.declared.rule.CondField.{CondField}
use Rattle.rule_engine.specs.declared.rule.CondField.TheVariants.{Acct, Description, Amount, Date}
use Rattle.rule_engine.specs.declared.rule.CondOp.{CondOp}
use Rattle.rule_engine.specs.declared.rule.CondOp.TheVariants.{Is, IsNot, OneOf, NotOneOf, Contains as HasPart, DoesNotContain, IsApprox, IsBetween, Gt, Gte, Lt, Lte}
use Rattle.rule_engine.specs.declared.rule.CondValue.{CondValue}
use Rattle.rule_engine.specs.declared.rule.CondValue.TheVariants.{Null, Text as OneText, Texts, Number, Between, Date as Day, Recurrence}
use Rattle.rule_engine.specs.declared.rule.Condition.{Condition}
use Rattle.rule_engine.specs.Reading.{field_word, op_word, condition_of}
use Rattle.schedules.specs.Months.{day_in}
use Rattle.schedules.specs.Days.{Said}
use Rattle.schedules.specs.Reading.{day_of_text as scheduled_day, said_of, or_bad, result_then}
use Rattle.schedules.specs.Conditions.{says, is_words, amount_at, is_near_op, is_account_field, is_payee_field, all_of, is_condition, is_action}
use Rattle.schedules.specs.Terms.{Terms, first_where, field_of, op_of, value_of, words_of, names, middle, between, amount_meant, day_or, days_meant, terms_in, entries_by, entries_of}
use Rattle.rule_laws.specs.Wording.{column_words, test_word, IsAmount, Says, IsIdTest, IsAmountTest, IsDayTest, IsTest, IsCondition, AreRead}
use Rattle.rule_laws.specs.Termed.{IsFirst, NonePasses, of_account, of_payee, NamesAccount, NamesPayee, TestsAmount, TestsDay, IsMiddle, MeansOne, MeansAmount, that_day, MeansDays, SayTerms, TermsAreTold}
use Rattle.rule_laws.proofs.Choices.{some_is, none_is, not_true, only, then_some, eq_text, first_or_rest, nothing_in, each_of}
use Rattle.rule_laws.proofs.Wording.{array_is, named_column, named_test, condition_so}
use Rattle.rule_laws.proofs.DayTexts.{days_written}
use Rattle.rule_laws.proofs.Alike.{says_so, words_are, are_amounts, are_dates, condition_taken, condition_takes, all_to}
use Rattle.rule_laws.proofs.Cutting.{rounded}

-- ---- what an entry is about

abbrev on_day : Data → Bool
on_day d = says (field_of d) (codes "date")

abbrev on_amount : Data → Bool
on_amount d = says (field_of d) (codes "amount")

abbrev on_account : Data → Bool
on_account d = is_account_field (field_of d) && names d

abbrev on_payee : Data → Bool
on_payee d = is_payee_field (field_of d) && names d

module _ (d : Data) (c : Condition) (i : IsCondition d c) where
  -- an entry that names a column by this word tests it
  column_is : (word : Text) (f : CondField) → field_word word ≡ Some f → says (field_of d) word ≡ true → c.field ≡ f
  column_is word f named h =
      let same : i.field.0 ≡ word = (let e : Some (string i.field.0) ≡ Some (string word) = sym i.field.1 ∙ says_so (field_of d) word h in cc) in
      some_is c.field f (sym (named_column c.field i.field.0 i.field.2) ∙ ap field_word same ∙ named)

  says_word : (word : Text) → i.field.0 ≡ word → says (field_of d) word ≡ true
  says_word word e = ap (λ v. says v word) i.field.1 ∙ eq_text i.field.0 word e

  test_is : (o : CondOp) → says (op_of d) (test_word o) ≡ true → c.op ≡ o
  test_is o h =
      let same : test_word c.op ≡ test_word o = (let e : Some (string (test_word c.op)) ≡ Some (string (test_word o)) = sym i.test ∙ says_so (op_of d) (test_word o) h in cc) in
      some_is c.op o (sym (named_test c.op) ∙ ap op_word same ∙ named_test o)

  day_fits : on_day d ≡ true → TestsDay c
  day_fits h = column_is (codes "date") Date refl h

  fits_day : TestsDay c → on_day d ≡ true
  fits_day e = each_of (λ w. i.field.0 ≡ w → says (field_of d) (codes "date") ≡ true) (column_words Date) i.field.0 (says_word (codes "date"), tt) (subst (λ f. Contains (column_words f) i.field.0) e i.field.2) refl

  amount_fits : on_amount d ≡ true → TestsAmount c
  amount_fits h = column_is (codes "amount") Amount refl h

  fits_amount : TestsAmount c → on_amount d ≡ true
  fits_amount e = each_of (λ w. i.field.0 ≡ w → says (field_of d) (codes "amount") ≡ true) (column_words Amount) i.field.0 (says_word (codes "amount"), tt) (subst (λ f. Contains (column_words f) i.field.0) e i.field.2) refl

  -- a name: `is`, and a text
  text_is : (f : CondField) → c.field ≡ f → c.op ≡ Is → ((o : CondOp) (x : CondValue) → IsTest f o x → IsIdTest o x) → (t : Text) → value_of d ≡ Some (string t) → c ≡ record { field = f; op = Is; value = OneText t }
  text_is f e o id t v =
      let same : i.value.0 ≡ string t = some_is i.value.0 (string t) (sym i.value.1 ∙ v) in
      let value = own c.value (id Is c.value (subst (λ g. IsTest g Is c.value) e (subst (λ p. IsTest c.field p c.value) o i.kind))) (subst (Says c.value) same i.value.2) in
      ap (λ g. record { field = g; op = c.op; value = c.value }) e ∙ ap (λ p. record { field = f; op = p; value = c.value }) o ∙ ap (λ x. record { field = f; op = Is; value = x }) value
    where
      own : (x : CondValue) → IsIdTest Is x → Says x (string t) → x ≡ OneText t
      own Null k s = cc
      own (OneText q) k s = (let e : q ≡ t = cc in ap (λ (w : Text). OneText w) e)
      own (Texts ts) k s = cc
      own other k s = absurd k

  named_by : (f : CondField) → c.field ≡ f → ((o : CondOp) (x : CondValue) → IsTest f o x → IsIdTest o x) → names d ≡ true → (t : Text) × (c ≡ record { field = f; op = Is; value = OneText t })
  named_by f e id h =
      let p = and_parts (says (op_of d) (codes "is")) (is_words (value_of d)) h in
      let t = words_are (value_of d) p.1 in
      (t.0, text_is f e (test_is Is p.0) id t.0 t.1)

  account_fits : on_account d ≡ true → NamesAccount c
  account_fits h =
      let p = and_parts (is_account_field (field_of d)) (names d) h in
      let f : c.field ≡ Acct = elim (or_cases (says (field_of d) (codes "acct")) (says (field_of d) (codes "account")) p.0) [
        | inl q ↦ column_is (codes "acct") Acct refl q
        | inr q ↦ column_is (codes "account") Acct refl q
      ] in
      named_by Acct f (λ o x k. k) p.1

  payee_fits : on_payee d ≡ true → NamesPayee c
  payee_fits h =
      let p = and_parts (is_payee_field (field_of d)) (names d) h in
      let f : c.field ≡ Description = elim (or_cases (says (field_of d) (codes "description")) (says (field_of d) (codes "payee")) p.0) [
        | inl q ↦ column_is (codes "description") Description refl q
        | inr q ↦ column_is (codes "payee") Description refl q
      ] in
      named_by Description f (λ o x k. k) p.1

names_text : (d : Data) (f : CondField) (id : Text) → IsCondition d (record { field = f; op = Is; value = OneText id }) → names d ≡ true
names_text d f id i =
    and_from (says (op_of d) (codes "is")) (is_words (value_of d)) (ap (λ v. says v (codes "is")) i.test) (ap is_words (i.value.1 ∙ ap (λ v. Some v) i.value.2))

account_names : (d : Data) (c : Condition) → IsCondition d c → NamesAccount c → on_account d ≡ true
account_names d c i n =
    let j : IsCondition d (of_account n.0) = subst (IsCondition d) n.1 i in
    let field : is_account_field (field_of d) ≡ true =
    ap is_account_field j.field.1 ∙ each_of (λ w. is_account_field (Some (string w)) ≡ true) (column_words Acct) j.field.0 (refl, (refl, tt)) j.field.2 in
    and_from (is_account_field (field_of d)) (names d) field (names_text d Acct n.0 j)

payee_names : (d : Data) (c : Condition) → IsCondition d c → NamesPayee c → on_payee d ≡ true
payee_names d c i n =
    let j : IsCondition d (of_payee n.0) = subst (IsCondition d) n.1 i in
    let field : is_payee_field (field_of d) ≡ true =
    ap is_payee_field j.field.1 ∙ each_of (λ w. is_payee_field (Some (string w)) ≡ true) (column_words Description) j.field.0 (refl, (refl, tt)) j.field.2 in
    and_from (is_payee_field (field_of d)) (names d) field (names_text d Description n.0 j)

-- ---- the first one

module _ (test : Data → Bool) (P : Condition → Type 0) (to : (d : Data) (c : Condition) → IsCondition d c → test d ≡ true → P c) (from : (d : Data) (c : Condition) → IsCondition d c → P c → test d ≡ true) where
  first_so : (ds : Items) (cs : List Condition) → AreRead condition_of ds cs → (d : Data) → first_where test ds ≡ Some d → (c : Condition) × IsFirst P ds cs d c × IsCondition d c × P c
  first_so no_items cs r d h = none_is d h
  first_so (item e es) [] r d h = absurd r
  first_so (item e es) (b ∷ bs) r d h = by (first_so es bs r.1 d) (test e) refl h
    where
      by : (first_where test es ≡ Some d → (c : Condition) × IsFirst P es bs d c × IsCondition d c × P c) → (t : Bool) → test e ≡ t → (if t then Some e else first_where test es) ≡ Some d
          → (c : Condition) × IsFirst P (item e es) (b ∷ bs) d c × IsCondition d c × P c
      by others true t h =
          let same : e ≡ d = some_is e d h in
          let own = condition_so e b r.0 in
          (b, inl (same, refl, to e b own t), subst (λ x. IsCondition x b) same own, to e b own t)
      by others false t h =
          let more = others h in
          (more.0, inr (λ p. not_true (test e) t (from e b (condition_so e b r.0) p), more.1), more.2, more.3)

  none_so : (ds : Items) (cs : List Condition) → AreRead condition_of ds cs → first_where test ds ≡ None → NonePasses P cs
  none_so no_items [] r h c m p = nothing_in c m
  none_so no_items (b ∷ bs) r h c m p = absurd r
  none_so (item e es) [] r h c m p = absurd r
  none_so (item e es) (b ∷ bs) r h c m p = by (none_so es bs r.1) (test e) refl h
    where
      by : (first_where test es ≡ None → NonePasses P bs) → (t : Bool) → test e ≡ t → (if t then Some e else first_where test es) ≡ None → ⊥
      by others true t h = none_is e (sym h)
      by others false t h = elim (first_or_rest b bs c m) [
        | inl same ↦ not_true (test e) t (from e b (condition_so e b r.0) (subst P (sym same) p))
        | inr rest ↦ others h c rest p
      ]

-- ---- what is meant

good : {A B : Type 0} (part : RecurPart) (o : Option A) (next : A → Result B RecurPart) (b : B) → or_bad part o next ≡ Ok b → (a : A) × (o ≡ Some a) × (next a ≡ Ok b)
good part None next b h = cc
good part (Some a) next b h = (a, refl, h)

good_then : {A B : Type 0} (r : Result A RecurPart) (next : A → Result B RecurPart) (b : B) → result_then r next ≡ Ok b → (a : A) × (r ≡ Ok a) × (next a ≡ Ok b)
good_then (Ok a) next b h = (a, refl, h)
good_then (Err p) next b h = cc

ok_is : {A : Type 0} (a b : A) → ◌≡◌ {A = Result A RecurPart} (Ok a) (Ok b) → a ≡ b
ok_is a b h = cc

-- what an op and a value mean as an amount
abbrev meant : Option Data → Option Data → ℤ
meant o v = if is_near_op o then unwrap_or (amount_at v) (pos 0) else (if says o (codes "isbetween") then between v else pos 0)

amounts_meant : (d : Data) (c : Condition) → IsCondition d c → TestsAmount c → MeansAmount c.op c.value (amount_meant d)
amounts_meant d c i f = by c.op c.value (subst (λ g. IsTest g c.op c.value) f i.kind) i.test i.value.0 i.value.1 i.value.2
  where
    one : (o : CondOp) (z : ℤ) (v : Data) → IsAmount z v → MeansOne o z (if is_near_op (Some (string (test_word o))) then unwrap_or (amount_at (Some v)) (pos 0) else (if says (Some (string (test_word o))) (codes "isbetween") then between (Some v) else pos 0)) ⊎ (o ≡ IsBetween)
    one Is z v a = inl (ap (λ x. unwrap_or x (pos 0)) (are_amounts v z a))
    one IsApprox z v a = inl (ap (λ x. unwrap_or x (pos 0)) (are_amounts v z a))
    one IsBetween z v a = inr refl
    one IsNot z v a = inl refl
    one OneOf z v a = inl refl
    one NotOneOf z v a = inl refl
    one HasPart z v a = inl refl
    one DoesNotContain z v a = inl refl
    one Gt z v a = inl refl
    one Gte z v a = inl refl
    one Lt z v a = inl refl
    one Lte z v a = inl refl

    never_between : Contains (Is ∷ IsApprox ∷ Gt ∷ Gte ∷ Lt ∷ Lte ∷ []) IsBetween → ⊥
    never_between k = each_of (λ o. o ≡ IsBetween → ⊥) (Is ∷ IsApprox ∷ Gt ∷ Gte ∷ Lt ∷ Lte ∷ []) IsBetween ((λ e. cc), ((λ e. cc), ((λ e. cc), ((λ e. cc), ((λ e. cc), ((λ e. cc), tt)))))) k refl

    by : (o : CondOp) (x : CondValue) → IsAmountTest o x → op_of d ≡ Some (string (test_word o)) → (v : Data) → value_of d ≡ Some v → Says x v → MeansAmount o x (amount_meant d)
    by o (Number z) k t v at s =
        let is : amount_meant d ≡ meant (Some (string (test_word o))) (Some v) = ap (λ p. meant p (value_of d)) t ∙ ap (meant (Some (string (test_word o)))) at in
        subst (MeansOne o z) (sym is) (elim (one o z v s) [ inl m ↦ m | inr e ↦ absurd (never_between (subst (λ p. Contains (Is ∷ IsApprox ∷ Gt ∷ Gte ∷ Lt ∷ Lte ∷ []) p) e k)) ])
    by o (Between a b) k t v at s =
        let is : amount_meant d ≡ middle (Some a) (Some b) =
        ap (λ p. meant p (value_of d)) (t ∙ ap (λ p. Some (string (test_word p))) k) ∙ ap (meant (Some (string (codes "isbetween")))) at
        ∙ ap (λ x. middle (amount_at x) (amount_at (get (codes "num2") v))) s.0.1
        ∙ ap (λ x. middle x (amount_at (get (codes "num2") v))) (are_amounts s.0.0 a s.0.2)
        ∙ ap (λ x. middle (Some a) (amount_at x)) s.1.1
        ∙ ap (middle (Some a)) (are_amounts s.1.0 b s.1.2) in
        subst (IsMiddle a b) (sym is) (rounded a b)
    by o other k t v at s = absurd k

days_are_meant : (d : Data) (c : Condition) (days : Said) → IsCondition d c → TestsDay c → days_meant (value_of d) ≡ Ok days → (v : Data) × (value_of d ≡ Some v) × MeansDays c.value v days
days_are_meant d c days i f h = (i.value.0, i.value.1, by c.value (subst (λ g. IsTest g c.op c.value) f i.kind) i.value.0 i.value.2 (sym (ap days_meant i.value.1) ∙ h))
  where
    by : (x : CondValue) → IsDayTest c.op x → (v : Data) → Says x v → days_meant (Some v) ≡ Ok days → MeansDays x v days
    by (Day n) k v s h =
        let e : days_meant (Some (string s.0)) ≡ Ok days = ap (λ w. days_meant (Some w)) (sym s.1) ∙ h in
        dated (scheduled_day s.0) refl e
      where
        dated : (o : Option ℕ) → scheduled_day s.0 ≡ o → day_or o (said_of (string s.0)) ≡ Ok days → (q : ℕ) × (day_in n ≡ Some q) × (days ≡ that_day q)
        dated None e h = let bad : false ≡ true = sym (ap is_some e) ∙ are_dates s.0 n s.2 in cc
        dated (Some q) e h =
            let w = (days_written.scheduled s.0 q).0 e in
            let same : w.0 ≡ n = some_is w.0 n (sym w.1 ∙ s.2) in
            (q, ap day_in (sym same) ∙ w.2, sym (ok_is (that_day q) days h))
    by Recurrence k v s h = ap said_of s.1 ∙ (let e : days_meant (Some (object s.0)) ≡ Ok days = ap (λ w. days_meant (Some w)) (sym s.1) ∙ h in e)
    by other k v s h = absurd k

-- ---- the whole

module _ (ds : Items) (cs : List Condition) (r : AreRead condition_of ds cs) (t : Terms) where
  words_meant : (f : CondField) (d : Data) (id own : Text) → IsCondition d (record { field = f; op = Is; value = OneText id }) → words_of d ≡ Some own → own ≡ id
  words_meant f d id own i h = some_is own id (sym h ∙ ap (option_and_then as_str) (i.value.1 ∙ ap (λ v. Some v) i.value.2))

  account_told : (d : Data) (own : Text) → first_where on_account ds ≡ Some d → words_of d ≡ Some own → IsFirst NamesAccount ds cs d (of_account own)
  account_told d own h w =
      let f = first_so on_account NamesAccount account_fits account_names ds cs r d h in
      let same : own ≡ f.3.0 = words_meant Acct d f.3.0 own (subst (IsCondition d) f.3.1 f.2) w in
      subst (IsFirst NamesAccount ds cs d) (f.3.1 ∙ ap of_account (sym same)) f.1

  payee_told : (o : Option Data) → first_where on_payee ds ≡ o
      → ((id : Text) × (d : Data) × (option_and_then words_of o ≡ Some id) × IsFirst NamesPayee ds cs d (of_payee id)) ⊎ ((option_and_then words_of o ≡ None) × NonePasses NamesPayee cs)
  payee_told None h = inr (refl, none_so on_payee NamesPayee payee_fits payee_names ds cs r h)
  payee_told (Some d) h =
      let f = first_so on_payee NamesPayee payee_fits payee_names ds cs r d h in
      let i : IsCondition d (of_payee f.3.0) = subst (IsCondition d) f.3.1 f.2 in
      inl (f.3.0, d, ap (option_and_then as_str) (i.value.1 ∙ ap (λ v. Some v) i.value.2), subst (IsFirst NamesPayee ds cs d) f.3.1 f.1)

  amount_told : (o : Option Data) → first_where on_amount ds ≡ o
      → ((d : Data) × (c : Condition) × IsFirst TestsAmount ds cs d c × MeansAmount c.op c.value (unwrap_or (option_map amount_meant o) (pos 0)))
      ⊎ ((unwrap_or (option_map amount_meant o) (pos 0) ≡ pos 0) × NonePasses TestsAmount cs)
  amount_told None h = inr (refl, none_so on_amount TestsAmount amount_fits fits_amount ds cs r h)
  amount_told (Some d) h =
      let f = first_so on_amount TestsAmount amount_fits fits_amount ds cs r d h in
      inl (d, f.0, f.1, amounts_meant d f.0 f.2 f.3)

  days_told : (d : Data) (days : Said) → first_where on_day ds ≡ Some d → days_meant (value_of d) ≡ Ok days
      → (e : Data) × (c : Condition) × (v : Data) × IsFirst TestsDay ds cs e c × (get (codes "value") e ≡ Some v) × MeansDays c.value v days
  days_told d days h m =
      let f = first_so on_day TestsDay day_fits fits_day ds cs r d h in
      let v = days_are_meant d f.0 days f.2 f.3 m in
      (d, f.0, v.0, f.1, v.1, v.2)

  say_terms : terms_in ds ≡ Ok t → SayTerms ds cs t
  unfolding terms_in
  say_terms h =
      let date = good Rule (first_where on_day ds) _ t h in
      let account = good Rule (option_and_then words_of (first_where on_account ds)) _ t date.2 in
      let at = then_some words_of (first_where on_account ds) account.0 account.1 in
      let days = good_then (days_meant (value_of date.0)) _ t account.2 in
      subst (SayTerms ds cs) (ok_is _ t days.2) (record {
        account = (at.0, account_told at.0 account.0 at.1 at.2);
        payee = payee_told (first_where on_payee ds) refl;
        amount = amount_told (first_where on_amount ds) refl;
        days = days_told date.0 days.0 date.1 days.1;
      })

-- the entries of a text
entries_so : (text : Option Text) (ds : Items) → entries_of is_condition text ≡ Some ds → (text ≡ None) × (ds ≡ no_items) ⊎ ((t : Text) × (text ≡ Some t) × (read t ≡ Some (array ds)) × (all_of is_condition ds ≡ true))
entries_so None ds h = inl (refl, sym (some_is no_items ds h))
entries_so (Some t) ds h = by (option_and_then as_array (read t)) refl h
  where
    by : (o : Option Items) → option_and_then as_array (read t) ≡ o → entries_by is_condition o ≡ Some ds → (Some t ≡ None) × (ds ≡ no_items) ⊎ ((q : Text) × (Some t ≡ Some q) × (read q ≡ Some (array ds)) × (all_of is_condition ds ≡ true))
    by None e h = none_is ds h
    by (Some es) e h =
        let all = only (all_of is_condition es) (Some es) ds h in
        let same : es ≡ ds = some_is es ds all.1 in
        let d = then_some as_array (read t) es e in
        inr (t, refl, d.1 ∙ ap Some (array_is d.0 es d.2 ∙ ap array same), subst (λ x. all_of is_condition x ≡ true) same all.0)

nothing_said : (t : Terms) → terms_in no_items ≡ Ok t → ⊥
unfolding terms_in
nothing_said t h = cc

pub terms_told : TermsAreTold
terms_told row t h =
    let conditions = good Rule (entries_of is_condition row.conditions) _ t h in
    let actions = good Rule (entries_of is_action row.actions) _ t conditions.2 in
    elim (entries_so row.conditions conditions.0 conditions.1) [
      | inl none ↦ absurd (nothing_said t (ap terms_in (sym none.1) ∙ actions.2))
      | inr e ↦
          let cs = all_to Conditions is_condition condition_of condition_taken (λ d c k. condition_takes d c (condition_so d c k)) conditions.0 e.3 in
          (e.0, conditions.0, cs.0, e.1, e.2, cs.1, say_terms conditions.0 cs.0 cs.1 t actions.2)
    ]
