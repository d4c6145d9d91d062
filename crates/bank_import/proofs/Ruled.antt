-- What rules leave of a transaction, and what they make of it where payees were added.
use Rattle.std.proofs.Common.{◌≡◌, Bool, true, false, cond, List, [], ◌∷◌, Option, Some, None, refl, sym, ap, ◌∙◌, inl, inr}
use Rattle.std.specs.Prelude.{◌&&◌, ◌||◌, not}
use Rattle.std.specs.Option.{is_none, option_map}
use Rattle.std.specs.List.{fold, filter_map, list_all, list_any}
use Rattle.std.specs.FinMap.{get, entries}
use Rattle.finite_sums.specs.Maps.{Text, Texts, some_and}
use Rattle.book_rows.specs.declared.rows.Rows.{Rows}
use Rattle.book_rows.specs.declared.rows.TxRow.{TxRow}
use Rattle.book_rows.specs.declared.rows.GroupRow.{GroupRow}
use Rattle.book_rows.specs.declared.rows.CategoryRow.{CategoryRow}
use Rattle.book_rows.specs.declared.rows.CategoryMappingRow.{CategoryMappingRow}
use Rattle.book_rows.specs.declared.rows.PayeeMappingRow.{PayeeMappingRow}
use Rattle.book_rows.specs.Live.{is_live_payee, is_live_category, mapped, payee_of}
use Rattle.split_transfer.specs.Pairs.{only_where, names_back, partner_of}
use Rattle.book_edits.specs.Checks.{same_id}
use Rattle.rule_engine.specs.declared.rule.Action.{Action}
use Rattle.rule_engine.specs.declared.rule.Action.TheVariants.{SetDescription, SetCategory, SetNotes, SetCleared, PrependNotes, AppendNotes, LinkSchedule}
use Rattle.rule_engine.specs.declared.rule.CondField.{CondField}
use Rattle.rule_engine.specs.declared.rule.CondField.TheVariants.{Acct, Description, Category, ImportedDescription, Notes, Amount, Date, Cleared}
use Rattle.rule_engine.specs.declared.rule.CondValue.{CondValue}
use Rattle.rule_engine.specs.declared.rule.Condition.{Condition}
use Rattle.rule_engine.specs.declared.rule.Rule.{Rule}
use Rattle.rule_engine.specs.declared.rule.RuleOp.{RuleOp}
use Rattle.rule_engine.specs.declared.rule.RuleOp.TheVariants.{And, Or}
use Rattle.rule_engine.specs.Conditions.{holds, resolved_row, with_ids, resolved_value, resolved_condition, holds_in}
use Rattle.rule_engine.specs.Running.{fires_by, fires, if_given, takes_none, acted, applied, run, read_live, rules_of}
use Rattle.rule_engine.specs.Scores.{ranked}
use Rattle.bank_import.specs.Laws.{IsIn}
use Rattle.bank_import.proofs.Datasets.{SameElse}

-- ---- what rules leave

pub record Leaves (x y : TxRow) : Type 0 where
  pub acct : y.acct ≡ x.acct
  pub date : y.date ≡ x.date
  pub amount : y.amount ≡ x.amount
  pub financial : y.financial_id ≡ x.financial_id
  pub imported : y.imported_description ≡ x.imported_description
  pub transferred : y.transferred_id ≡ x.transferred_id
  pub split : y.is_parent ≡ x.is_parent

leaves : (x : TxRow) → Leaves x x
leaves x = record { acct = refl; date = refl; amount = refl; financial = refl; imported = refl; transferred = refl; split = refl }

leaves_cond : (b : Bool) (x y z : TxRow) → Leaves x y → Leaves x z → Leaves x (cond b y z)
leaves_cond true x y z h k = h
leaves_cond false x y z h k = k

leaves_trans : (x y z : TxRow) → Leaves x y → Leaves y z → Leaves x z
leaves_trans x y z h k = record {
  acct = k.acct ∙ h.acct;
  date = k.date ∙ h.date;
  amount = k.amount ∙ h.amount;
  financial = k.financial ∙ h.financial;
  imported = k.imported ∙ h.imported;
  transferred = k.transferred ∙ h.transferred;
  split = k.split ∙ h.split;
}

acted_leaves : (rows : Rows) (x : TxRow) (a : Action) → Leaves x (acted rows x a)
unfolding acted
acted_leaves rows x (SetDescription payee) = leaves_cond _ x (record x { description = payee }) x (record { acct = refl; date = refl; amount = refl; financial = refl; imported = refl; transferred = refl; split = refl }) (leaves x)
acted_leaves rows x (SetCategory category) = leaves_cond _ x (record x { category = category }) x (record { acct = refl; date = refl; amount = refl; financial = refl; imported = refl; transferred = refl; split = refl }) (leaves x)
acted_leaves rows x (SetNotes text) = record { acct = refl; date = refl; amount = refl; financial = refl; imported = refl; transferred = refl; split = refl }
acted_leaves rows x (SetCleared set) = record { acct = refl; date = refl; amount = refl; financial = refl; imported = refl; transferred = refl; split = refl }
acted_leaves rows x (PrependNotes text) = record { acct = refl; date = refl; amount = refl; financial = refl; imported = refl; transferred = refl; split = refl }
acted_leaves rows x (AppendNotes text) = record { acct = refl; date = refl; amount = refl; financial = refl; imported = refl; transferred = refl; split = refl }
acted_leaves rows x (LinkSchedule id) = record { acct = refl; date = refl; amount = refl; financial = refl; imported = refl; transferred = refl; split = refl }

fold_leaves : {A : Type 0} (f : TxRow → A → TxRow) → ((x : TxRow) (a : A) → Leaves x (f x a)) → (x : TxRow) (xs : List A) → Leaves x (fold f x xs)
fold_leaves f each x [] = leaves x
fold_leaves f each x (a ∷ xs) = leaves_trans x (f x a) (fold f (f x a) xs) (each x a) (fold_leaves f each (f x a) xs)

applied_leaves : (rows : Rows) (x : TxRow) (r : Rule) → Leaves x (applied rows x r)
unfolding applied
applied_leaves rows x r = leaves_cond (fires rows r x) x (fold (acted rows) x r.actions) x (fold_leaves (acted rows) (acted_leaves rows) x r.actions) (leaves x)

pub run_leaves : (rows : Rows) (rules : List Rule) (x : TxRow) → Leaves x (run rows rules x)
unfolding run
run_leaves rows rules x = fold_leaves (applied rows) (applied_leaves rows) x rules

-- ---- later rows, with more payees

abbrev live_by : Texts CategoryRow → Texts GroupRow → Text → Bool
live_by categories groups id =
    some_and (λ (c : CategoryRow). not c.tombstone && some_and (λ g. some_and (λ (row : GroupRow). not row.tombstone) (get groups g)) c.cat_group) (get categories id)

-- where ids stand for the same, and no action gives a payee that is live in one of them alone, rules make the same of a transaction that hangs together with no other
module _ (r s : Rows) (same : SameElse r s) where
  same_category : (id : Text) → is_live_category s id ≡ is_live_category r id
  same_category id = ap (λ m. live_by m s.groups id) same.categories ∙ ap (λ g. live_by r.categories g id) same.groups

  -- ---- what ids stand for

  same_row : (x : TxRow) → resolved_row s x ≡ resolved_row r x
  same_row x =
      ap (λ (m : Texts CategoryMappingRow). record x { category = option_map (mapped (λ (c : CategoryMappingRow). c.transfer_id) m) x.category; description = payee_of s x }) same.category_mappings
      ∙ ap (λ (m : Texts PayeeMappingRow). record (resolved_row r x) { description = option_map (mapped (λ (p : PayeeMappingRow). p.target_id) m) x.description }) same.payee_mappings

  same_value : (field : CondField) (value : CondValue) → resolved_value s field value ≡ resolved_value r field value
  same_value Acct value = refl
  same_value Description value = ap (λ (m : Texts PayeeMappingRow). with_ids (mapped (λ (p : PayeeMappingRow). p.target_id) m) value) same.payee_mappings
  same_value Category value = ap (λ (m : Texts CategoryMappingRow). with_ids (mapped (λ (c : CategoryMappingRow). c.transfer_id) m) value) same.category_mappings
  same_value ImportedDescription value = refl
  same_value Notes value = refl
  same_value Amount value = refl
  same_value Date value = refl
  same_value Cleared value = refl

  same_holds : (x : TxRow) (c : Condition) → holds_in s x c ≡ holds_in r x c
  unfolding holds_in
  same_holds x c =
      ap (λ y. holds y (resolved_condition s c)) (same_row x)
      ∙ ap (λ v. holds (resolved_row r x) (record c { value = v })) (same_value c.field c.value)

  same_all : (x : TxRow) (cs : List Condition) → list_all (holds_in s x) cs ≡ list_all (holds_in r x) cs
  same_all x [] = refl
  same_all x (c ∷ cs) = ap (λ b. b && list_all (holds_in s x) cs) (same_holds x c) ∙ ap (λ b. holds_in r x c && b) (same_all x cs)

  same_any : (x : TxRow) (cs : List Condition) → list_any (holds_in s x) cs ≡ list_any (holds_in r x) cs
  same_any x [] = refl
  same_any x (c ∷ cs) = ap (λ b. b || list_any (holds_in s x) cs) (same_holds x c) ∙ ap (λ b. holds_in r x c || b) (same_any x cs)

  same_fires_by : (op : RuleOp) (cs : List Condition) (x : TxRow) → fires_by s op cs x ≡ fires_by r op cs x
  same_fires_by op [] x = refl
  same_fires_by And (c ∷ cs) x = same_all x (c ∷ cs)
  same_fires_by Or (c ∷ cs) x = same_any x (c ∷ cs)

  same_fires : (rule : Rule) (x : TxRow) → fires s rule x ≡ fires r rule x
  unfolding fires
  same_fires rule x = same_fires_by rule.op rule.conditions x

  -- ---- actions

  abbrev pub SameFor : Action → Type 0
  SameFor a = (payee : Text) → a ≡ SetDescription (Some payee) → is_live_payee s payee ≡ is_live_payee r payee

  given_category : (o : Option Text) → if_given (is_live_category s) o ≡ if_given (is_live_category r) o
  given_category None = refl
  given_category (Some id) = same_category id

  given_payee : (o : Option Text) → SameFor (SetDescription o) → if_given (is_live_payee s) o ≡ if_given (is_live_payee r) o
  given_payee None h = refl
  given_payee (Some id) h = h id refl

  -- it is in no pair
  no_partner : (t : Rows) (x : TxRow) → x.transferred_id ≡ None → partner_of t x.id x ≡ None
  no_partner t x e = ap (only_where (λ other. not (same_id other x.id) && names_back t x.id other)) e

  same_takes : (x : TxRow) → x.transferred_id ≡ None → takes_none s x ≡ takes_none r x
  same_takes x e = ap (λ o. x.is_parent || not (is_none o)) (no_partner s x e ∙ sym (no_partner r x e))

  same_acted : (x : TxRow) (a : Action) → x.transferred_id ≡ None → SameFor a → acted s x a ≡ acted r x a
  unfolding acted
  same_acted x (SetDescription payee) e h = ap (λ b. cond b (record x { description = payee }) x) (given_payee payee h)
  same_acted x (SetCategory category) e h =
      ap (λ b. cond (not b && if_given (is_live_category s) category) (record x { category = category }) x) (same_takes x e)
      ∙ ap (λ b. cond (not (takes_none r x) && b) (record x { category = category }) x) (given_category category)
  same_acted x (SetNotes text) e h = refl
  same_acted x (SetCleared set) e h = refl
  same_acted x (PrependNotes text) e h = refl
  same_acted x (AppendNotes text) e h = refl
  same_acted x (LinkSchedule id) e h = refl

  same_actions : (xs : List Action) (x : TxRow) → x.transferred_id ≡ None → ((a : Action) → IsIn xs a → SameFor a) → fold (acted s) x xs ≡ fold (acted r) x xs
  same_actions [] x e h = refl
  same_actions (a ∷ xs) x e h =
      ap (λ y. fold (acted s) y xs) (same_acted x a e (h a (inl refl)))
      ∙ same_actions xs (acted r x a) ((acted_leaves r x a).transferred ∙ e) (λ b i. h b (inr i))

  same_applied : (x : TxRow) (rule : Rule) → x.transferred_id ≡ None → ((a : Action) → IsIn rule.actions a → SameFor a) → applied s x rule ≡ applied r x rule
  unfolding applied
  same_applied x rule e h =
      ap (λ b. cond b (fold (acted s) x rule.actions) x) (same_fires rule x)
      ∙ ap (λ y. cond (fires r rule x) y x) (same_actions rule.actions x e h)

  same_rules : (rules : List Rule) (x : TxRow) → x.transferred_id ≡ None → ((rule : Rule) (a : Action) → IsIn rules rule → IsIn rule.actions a → SameFor a)
      → fold (applied s) x rules ≡ fold (applied r) x rules
  same_rules [] x e h = refl
  same_rules (rule ∷ rules) x e h =
      ap (λ y. fold (applied s) y rules) (same_applied x rule e (λ a i. h rule a (inl refl) i))
      ∙ same_rules rules (applied r x rule) ((applied_leaves r x rule).transferred ∙ e) (λ q a i j. h q a (inr i) j)

  rules_same : rules_of s ≡ rules_of r
  unfolding rules_of
  rules_same = ap (λ m. ranked (filter_map read_live (entries m))) same.rules

  pub same_run : (x : TxRow) → x.transferred_id ≡ None → ((rule : Rule) (a : Action) → IsIn (rules_of r) rule → IsIn rule.actions a → SameFor a)
      → run s (rules_of s) x ≡ run r (rules_of r) x
  unfolding run
  same_run x e h = ap (λ rules. fold (applied s) x rules) rules_same ∙ same_rules (rules_of r) x e h
