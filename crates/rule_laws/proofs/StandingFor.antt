-- What conditions and rules say of payees and categories that stand for others.
use Rattle.std.proofs.Common.{◌≡◌, zero, suc, Bool, true, false, List, [], ◌∷◌, Option, Some, None, Ok, inl, inr, refl, sym, ap, subst, ◌∙◌, arith}
use Rattle.std.specs.Prelude.{◌↔◌, ◌⊎◌, ◌&&◌, ◌||◌, map as list_map, option_map, unwrap_or}
use Rattle.std.specs.List.{Contains}
use Rattle.std.specs.FinMap as map
use Rattle.finite_sums.specs.Maps.{Text, text_cmp, is_among}
use Rattle.book_rows.specs.declared.rows.Rows.{Rows}
use Rattle.book_rows.specs.declared.rows.TxRow.{TxRow}
use Rattle.book_rows.specs.declared.write.Write.{Write}
use Rattle.book_rows.specs.Live.{target_of, mapped_category, mapped_payee, category_of, payee_of}
use Rattle.book_rows.specs.Rules.{tx_table}
use Rattle.book_rows.specs.Rows.{no_rows}
use Rattle.book_rows.specs.Tables.{blank_row}
use Rattle.book_edits.specs.Checks.{same_id}
use Rattle.book_edits.specs.Mappings.{category_delete_to, payee_merge}
use Rattle.split_transfer.specs.After.{Ids, with_writes}
use Rattle.split_transfer.proofs.Basics.{bool_cases, true_false, same_is, is_other}
use Rattle.book_laws.specs.Merging.{AreMerged}
use Rattle.book_laws.specs.HandingOn.{TransactionsAreHandedOn}
use Rattle.book_laws.proofs.Merged.{merged as payees_merged}
use Rattle.book_laws.proofs.HandedOn.{all_handed_on as categories_handed_on}
use Rattle.rule_engine.specs.declared.rule.CondField.{CondField}
use Rattle.rule_engine.specs.declared.rule.CondField.TheVariants.{Acct, Description, Category, ImportedDescription, Notes, Amount, Date, Cleared}
use Rattle.rule_engine.specs.declared.rule.CondOp.{CondOp}
use Rattle.rule_engine.specs.declared.rule.CondOp.TheVariants.{Is, OneOf}
use Rattle.rule_engine.specs.declared.rule.CondValue.{CondValue}
use Rattle.rule_engine.specs.declared.rule.CondValue.TheVariants.{Null, Text as OneText, Texts, Number, Between, Date as Day, Recurrence, Flag}
use Rattle.rule_engine.specs.declared.rule.Condition.{Condition}
use Rattle.rule_engine.specs.declared.rule.Rule.{Rule}
use Rattle.rule_engine.specs.declared.rule.RuleOp.{RuleOp}
use Rattle.rule_engine.specs.declared.rule.RuleOp.TheVariants.{And, Or}
use Rattle.rule_engine.specs.Conditions.{id_holds, holds_by, holds, with_ids, resolved_row, resolved_value, holds_in}
use Rattle.rule_engine.specs.Running.{fires_by, fires}
use Rattle.rule_laws.specs.StandingFor.{by_id, is_one_of, has_none, IsOneOf, StandForThemselves, PayeesStandForOthers, CategoriesStandForOthers, IdsStandForOthers}
use Rattle.rule_laws.proofs.Choices.{mapped, some_is}
use Rattle.rule_laws.proofs.TestLaws.{id_is, id_none, id_one}

-- ---- ids that are taken for others

module _ (other : Text → Text) where
  its_id : (own : Option Text) (id : Text) → (id_holds Is (OneText (other id)) (option_map other own) ≡ true) ↔ ((o : Text) × (own ≡ Some o) × (other o ≡ other id))
  its_id own id = (
    λ h. mapped other own (other id) ((id_is (other id) (option_map other own)).0 h),
    λ h. (id_is (other id) (option_map other own)).1 (ap (option_map other) h.1 ∙ ap (λ (t : Text). Some t) h.2),
  )

  into_map : (ids : List Text) (id : Text) → Contains ids id → Contains (list_map other ids) (other id)
  into_map [] id c = absurd (omega (arith, c.1))
  into_map (t ∷ ts) id (zero, h, e) = (0, omega arith, ap other e)
  into_map (t ∷ ts) id (suc k, h, e) =
      let more = into_map ts id (k, omega (arith, h), e) in
      (suc more.0, omega (arith, more.1), more.2)

  out_of_map : (ids : List Text) (t : Text) → Contains (list_map other ids) t → (id : Text) × Contains ids id × (other id ≡ t)
  out_of_map [] t c = absurd (omega (arith, c.1))
  out_of_map (i ∷ ids) t (zero, h, e) = (i, (0, omega arith, refl), e)
  out_of_map (i ∷ ids) t (suc k, h, e) =
      let more = out_of_map ids t (k, omega (arith, h), e) in
      (more.0, (suc more.1.0, omega (arith, more.1.1), more.1.2), more.2)

  one_id : (own : Option Text) (ids : List Text) → (id_holds OneOf (Texts (list_map other ids)) (option_map other own) ≡ true)
      ↔ ((o id : Text) × (own ≡ Some o) × Contains ids id × (other o ≡ other id))
  one_id own ids = (
    λ h.
        let found = (id_one (list_map other ids) (option_map other own)).0 h in
        let mine = mapped other own found.0 found.2 in
        let among = out_of_map ids found.0 found.1 in
        (mine.0, among.0, mine.1, among.1, mine.2 ∙ sym among.2),
    λ h. (id_one (list_map other ids) (option_map other own)).1 (other h.1, into_map ids h.1 h.3, ap (option_map other) h.2 ∙ ap (λ (t : Text). Some t) h.4),
  )

  none_mapped : (own : Option Text) → option_map other own ≡ None → own ≡ None
  none_mapped None h = refl
  none_mapped (Some o) h = cc

  no_id : (own : Option Text) → (id_holds Is Null (option_map other own) ≡ true) ↔ (own ≡ None)
  no_id own = (
    λ h. none_mapped own ((id_none (option_map other own)).0 h),
    λ h. (id_none (option_map other own)).1 (ap (option_map other) h),
  )

  -- where each id is taken for itself
  module _ (itself : (id : Text) → other id ≡ id) where
    as_it_is : (own : Option Text) → option_map other own ≡ own
    as_it_is None = refl
    as_it_is (Some o) = ap (λ (t : Text). Some t) (itself o)

    all_as_they_are : (ids : List Text) → list_map other ids ≡ ids
    all_as_they_are [] = refl
    all_as_they_are (id ∷ ids) = ap (λ (t : Text). t ∷ list_map other ids) (itself id) ∙ ap (λ (ts : List Text). id ∷ ts) (all_as_they_are ids)

    value_as_it_is : (value : CondValue) → with_ids other value ≡ value
    value_as_it_is Null = refl
    value_as_it_is (OneText t) = ap OneText (itself t)
    value_as_it_is (Texts ts) = ap Texts (all_as_they_are ts)
    value_as_it_is (Number n) = refl
    value_as_it_is (Between a b) = refl
    value_as_it_is (Day n) = refl
    value_as_it_is Recurrence = refl
    value_as_it_is (Flag b) = refl

-- ---- rules of one condition

and_true : (b : Bool) → (b && true) ≡ b
and_true true = refl
and_true false = refl

or_false : (b : Bool) → (b || false) ≡ b
or_false true = refl
or_false false = refl

by_one : (rows : Rows) (op : RuleOp) (c : Condition) (x : TxRow) → fires_by rows op (c ∷ []) x ≡ holds_in rows x c
by_one rows And c x = and_true (holds_in rows x c)
by_one rows Or c x = or_false (holds_in rows x c)

one_fires : (rows : Rows) (r : Rule) (c : Condition) (x : TxRow) → r.conditions ≡ c ∷ [] → fires rows r x ≡ holds_in rows x c
unfolding fires
one_fires rows r c x h = ap (λ cs. fires_by rows r.op cs x) h ∙ by_one rows r.op c x

turned : {P : Type 0} (a b : Bool) → a ≡ b → (b ≡ true) ↔ P → (a ≡ true) ↔ P
turned a b h t = (λ k. t.0 (sym h ∙ k), λ p. h ∙ t.1 p)

-- a transaction with nothing in its columns
abbrev a_row : TxRow
a_row = blank_row tx_table []

-- ---- payees and categories

module _ (rows : Rows) where
  payee_is : (x : TxRow) (id : Text) → (holds_in rows x (by_id Description Is id) ≡ true) ↔ ((own : Text) × (x.description ≡ Some own) × (mapped_payee rows own ≡ mapped_payee rows id))
  unfolding holds holds_in
  payee_is x id = its_id (mapped_payee rows) x.description id

  payee_one : (x : TxRow) (ids : List Text) → (holds_in rows x (is_one_of Description ids) ≡ true)
      ↔ ((own id : Text) × (x.description ≡ Some own) × Contains ids id × (mapped_payee rows own ≡ mapped_payee rows id))
  unfolding holds holds_in
  payee_one x ids = one_id (mapped_payee rows) x.description ids

  payee_none : (x : TxRow) → (holds_in rows x (has_none Description) ≡ true) ↔ (x.description ≡ None)
  unfolding holds holds_in
  payee_none x = no_id (mapped_payee rows) x.description

  payee_same : (a b : Text) → mapped_payee rows a ≡ mapped_payee rows b → (x : TxRow) (c : Condition) → holds_in rows (record x { description = Some a }) c ≡ holds_in rows (record x { description = Some b }) c
  unfolding holds holds_in
  payee_same a b h x c = ap (λ (t : Text). holds_by c.field c.op (resolved_value rows c.field c.value) (record x { category = category_of rows x; description = Some t })) h

  payee_test : (a b : Text) → mapped_payee rows a ≡ mapped_payee rows b → (x : TxRow) (op : CondOp) → holds_in rows x (by_id Description op a) ≡ holds_in rows x (by_id Description op b)
  unfolding holds holds_in
  payee_test a b h x op = ap (λ (t : Text). id_holds op (OneText t) (payee_of rows x)) h

  payee_only : (a b : Text) → ((x : TxRow) → holds_in rows x (by_id Description Is a) ≡ true → holds_in rows x (by_id Description Is b) ≡ true) → mapped_payee rows a ≡ mapped_payee rows b
  payee_only a b h =
      let x : TxRow = record a_row { description = Some a } in
      let found = (payee_is x b).0 (h x ((payee_is x a).1 (a, refl, refl))) in
      ap (mapped_payee rows) (some_is a found.0 found.1) ∙ found.2

  payees : PayeesStandForOthers rows
  payees = record {
    is = payee_is;
    one_of = payee_one;
    none = payee_none;
    rule = λ r x id h. turned (fires rows r x) (holds_in rows x (by_id Description Is id)) (one_fires rows r (by_id Description Is id) x h) (payee_is x id);
    same = payee_same;
    same_test = payee_test;
    only_same = payee_only;
  }

  category_is : (x : TxRow) (id : Text) → (holds_in rows x (by_id Category Is id) ≡ true) ↔ ((own : Text) × (x.category ≡ Some own) × (mapped_category rows own ≡ mapped_category rows id))
  unfolding holds holds_in
  category_is x id = its_id (mapped_category rows) x.category id

  category_one : (x : TxRow) (ids : List Text) → (holds_in rows x (is_one_of Category ids) ≡ true)
      ↔ ((own id : Text) × (x.category ≡ Some own) × Contains ids id × (mapped_category rows own ≡ mapped_category rows id))
  unfolding holds holds_in
  category_one x ids = one_id (mapped_category rows) x.category ids

  category_none : (x : TxRow) → (holds_in rows x (has_none Category) ≡ true) ↔ (x.category ≡ None)
  unfolding holds holds_in
  category_none x = no_id (mapped_category rows) x.category

  category_same : (a b : Text) → mapped_category rows a ≡ mapped_category rows b → (x : TxRow) (c : Condition) → holds_in rows (record x { category = Some a }) c ≡ holds_in rows (record x { category = Some b }) c
  unfolding holds holds_in
  category_same a b h x c = ap (λ (t : Text). holds_by c.field c.op (resolved_value rows c.field c.value) (record x { category = Some t; description = payee_of rows x })) h

  category_test : (a b : Text) → mapped_category rows a ≡ mapped_category rows b → (x : TxRow) (op : CondOp) → holds_in rows x (by_id Category op a) ≡ holds_in rows x (by_id Category op b)
  unfolding holds holds_in
  category_test a b h x op = ap (λ (t : Text). id_holds op (OneText t) (category_of rows x)) h

  category_only : (a b : Text) → ((x : TxRow) → holds_in rows x (by_id Category Is a) ≡ true → holds_in rows x (by_id Category Is b) ≡ true) → mapped_category rows a ≡ mapped_category rows b
  category_only a b h =
      let x : TxRow = record a_row { category = Some a } in
      let found = (category_is x b).0 (h x ((category_is x a).1 (a, refl, refl))) in
      ap (mapped_category rows) (some_is a found.0 found.1) ∙ found.2

  categories : CategoriesStandForOthers rows
  categories = record {
    is = category_is;
    one_of = category_one;
    none = category_none;
    rule = λ r x id h. turned (fires rows r x) (holds_in rows x (by_id Category Is id)) (one_fires rows r (by_id Category Is id) x h) (category_is x id);
    same = category_same;
    same_test = category_test;
    only_same = category_only;
  }

  -- ---- where each stands for itself

  module _ (t : StandForThemselves rows) where
    row_as_it_is : (x : TxRow) → resolved_row rows x ≡ x
    row_as_it_is x =
        ap (λ o. record x { category = o; description = payee_of rows x }) (as_it_is (mapped_category rows) t.categories x.category)
        ∙ ap (λ o. record x { description = o }) (as_it_is (mapped_payee rows) t.payees x.description)

    its_value : (field : CondField) (value : CondValue) → resolved_value rows field value ≡ value
    its_value Acct value = refl
    its_value Description value = value_as_it_is (mapped_payee rows) t.payees value
    its_value Category value = value_as_it_is (mapped_category rows) t.categories value
    its_value ImportedDescription value = refl
    its_value Notes value = refl
    its_value Amount value = refl
    its_value Date value = refl
    its_value Cleared value = refl

    plain : (x : TxRow) (c : Condition) → holds_in rows x c ≡ holds x c
    unfolding holds holds_in
    plain x c = ap (λ y. holds_by c.field c.op (resolved_value rows c.field c.value) y) (row_as_it_is x) ∙ ap (λ v. holds_by c.field c.op v x) (its_value c.field c.value)

nothing_stands : StandForThemselves no_rows
nothing_stands = record {
  payees = λ id. ap (λ o. unwrap_or (target_of (λ m. m.target_id) o) id) (map.get-empty _ id);
  categories = λ id. ap (λ o. unwrap_or (target_of (λ m. m.transfer_id) o) id) (map.get-empty _ id);
}

-- ---- after payees were merged, and a category was handed on

alike : (own : Option Text) (other : Text → Text) (id to : Text) → other id ≡ to → ((o : Text) × (own ≡ Some o) × (other o ≡ other id)) ↔ (option_map other own ≡ Some to)
alike own other id to is = (
  λ h. ap (option_map other) h.1 ∙ ap (λ (t : Text). Some t) (h.2 ∙ is),
  λ h. let mine = mapped other own to h in (mine.0, mine.1, mine.2 ∙ sym is),
)

both : {A B C : Type 0} → A ↔ B → B ↔ C → A ↔ C
both f g = (λ a. g.0 (f.0 a), λ c. f.1 (g.1 c))

abbrev of_payee : Text → TxRow
of_payee id = record a_row { description = Some id }

abbrev of_category : Text → TxRow
of_category id = record a_row { category = Some id }

module _ (ids : Ids) (rows : Rows) (to : Text) (ws : List Write) where
  abbrev after : Rows
  after = with_writes ids rows ws

  module _ (these : List Text) (h : payee_merge rows to these ≡ Ok ws) (itself : mapped_payee rows to ≡ to) where
    left : AreMerged rows after to these
    left = payees_merged ids rows to these ws h

    stays : mapped_payee after to ≡ to
    stays =
        bool_cases (is_among text_cmp these to)
        (λ t. some_is _ _ (left.named (of_payee to) to t refl))
        (λ f. some_is _ _ (left.others (of_payee to) (λ p a e. apart p a f (sym itself ∙ some_is _ _ e)) (λ p a e. apart p a f (some_is _ _ e)) ∙ ap (λ (t : Text). Some t) itself))
      where
        apart : (p : Text) → is_among text_cmp these p ≡ true → is_among text_cmp these to ≡ false → to ≡ p → ⊥
        apart p a f e = true_false (is_among text_cmp these to) (subst (λ (q : Text). is_among text_cmp these q ≡ true) (sym e) a) f

    lands : (id : Text) → IsOneOf these to id → mapped_payee after id ≡ to
    lands id (inl same) = ap (mapped_payee after) same ∙ stays
    lands id (inr among) = some_is _ _ (left.named (of_payee id) id among refl)

    merged_fires : (r : Rule) (x : TxRow) (id : Text) → IsOneOf these to id → r.conditions ≡ by_id Description Is id ∷ [] → (fires after r x ≡ true) ↔ (payee_of after x ≡ Some to)
    merged_fires r x id one is = both ((payees after).rule r x id is) (alike x.description (mapped_payee after) id to (lands id one))

  module _ (dead : Text) (h : category_delete_to rows dead to ≡ Ok ws) (itself : mapped_category rows to ≡ to) where
    handed : TransactionsAreHandedOn rows after dead to
    handed = (categories_handed_on ids rows dead to ws h).transactions

    goes_on : mapped_category after to ≡ to
    goes_on =
        bool_cases (same_id to dead)
        (λ t. some_is _ _ (handed.named (of_category to) (ap (λ (q : Text). Some q) (same_is to dead t))))
        (λ f. some_is _ _ (handed.others (of_category to) (λ e. is_other to dead f (sym itself ∙ some_is _ _ e)) (λ e. is_other to dead f (some_is _ _ e)) ∙ ap (λ (t : Text). Some t) itself))

    arrives : (id : Text) → (id ≡ to) ⊎ (id ≡ dead) → mapped_category after id ≡ to
    arrives id (inl same) = ap (mapped_category after) same ∙ goes_on
    arrives id (inr same) = some_is _ _ (handed.named (of_category id) (ap (λ (q : Text). Some q) same))

    handed_fires : (r : Rule) (x : TxRow) (id : Text) → (id ≡ to) ⊎ (id ≡ dead) → r.conditions ≡ by_id Category Is id ∷ [] → (fires after r x ≡ true) ↔ (category_of after x ≡ Some to)
    handed_fires r x id one is = both ((categories after).rule r x id is) (alike x.category (mapped_category after) id to (arrives id one))

pub stand_for_others : IdsStandForOthers
stand_for_others = record {
  payees = payees;
  categories = categories;
  plain = plain;
  nothing = nothing_stands;
  merged = λ ids rows to these ws h itself. merged_fires ids rows to ws these h itself;
  handed_on = λ ids rows dead to ws h itself. handed_fires ids rows to ws dead h itself;
}
