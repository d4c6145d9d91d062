-- Rules that don't tell a payee from none.
use Rattle.std.proofs.Common.{◌≡◌, Bool, true, false, cond, List, [], ◌∷◌, Option, Some, None, refl, ap, ◌∙◌, inl, inr}
use Rattle.std.specs.Prelude.{◌&&◌, ◌||◌, not}
use Rattle.std.specs.Option.{option_map}
use Rattle.std.specs.List.{fold, list_all, list_any}
use Rattle.finite_sums.specs.Maps.{Text}
use Rattle.book_rows.specs.declared.rows.Rows.{Rows}
use Rattle.book_rows.specs.declared.rows.TxRow.{TxRow}
use Rattle.book_rows.specs.Live.{is_live_payee, is_live_category, mapped_payee}
use Rattle.rule_engine.specs.declared.rule.Action.{Action}
use Rattle.rule_engine.specs.declared.rule.Action.TheVariants.{SetDescription, SetCategory, SetNotes, SetCleared, PrependNotes, AppendNotes, LinkSchedule}
use Rattle.rule_engine.specs.declared.rule.CondField.{CondField}
use Rattle.rule_engine.specs.declared.rule.CondField.TheVariants as on
use Rattle.rule_engine.specs.declared.rule.CondOp.{CondOp}
use Rattle.rule_engine.specs.declared.rule.CondValue.{CondValue}
use Rattle.rule_engine.specs.declared.rule.Condition.{Condition}
use Rattle.rule_engine.specs.declared.rule.Rule.{Rule}
use Rattle.rule_engine.specs.declared.rule.RuleOp.{RuleOp}
use Rattle.rule_engine.specs.declared.rule.RuleOp.TheVariants.{And, Or}
use Rattle.rule_engine.specs.Conditions.{id_holds, holds_by, holds, with_ids, resolved_row, resolved_value, holds_in}
use Rattle.rule_engine.specs.Running.{fires_by, fires, if_given, takes_none, acted, applied, run, rules_of}
use Rattle.bank_import.specs.declared.entry.Entry.{Entry}
use Rattle.bank_import.specs.Laws.{IsIn}
use Rattle.bank_import.specs.Second.{or_else}
use Rattle.bank_import.specs.Drafts.{new_tx}
use Rattle.bank_import.specs.Twice.{with_payee, LeavePayee, TellsNot}

module _ (rows : Rows) (payee : Text) where
  abbrev given : TxRow → TxRow
  given x = with_payee payee x

  -- ---- conditions

  abbrev stood : Option Text → Option Text
  stood o = option_map (mapped_payee rows) o

  same_id_holds : (op : CondOp) (value : CondValue) (o : Option Text) → id_holds op value (stood (Some payee)) ≡ id_holds op value None → id_holds op value (stood (or_else o (Some payee))) ≡ id_holds op value (stood o)
  same_id_holds op value None h = h
  same_id_holds op value (Some t) h = refl

  abbrev IsUntold : CondField → CondOp → CondValue → Type 0
  IsUntold field op value = field ≡ on.Description → id_holds op (with_ids (mapped_payee rows) value) (stood (Some payee)) ≡ id_holds op (with_ids (mapped_payee rows) value) None

  same_by : (field : CondField) (op : CondOp) (value : CondValue) (x : TxRow) → IsUntold field op value
      → holds_by field op (resolved_value rows field value) (resolved_row rows (given x)) ≡ holds_by field op (resolved_value rows field value) (resolved_row rows x)
  same_by on.Acct op value x h = refl
  same_by on.Description op value x h = same_id_holds op (with_ids (mapped_payee rows) value) x.description (h refl)
  same_by on.Category op value x h = refl
  same_by on.ImportedDescription op value x h = refl
  same_by on.Notes op value x h = refl
  same_by on.Amount op value x h = refl
  same_by on.Date op value x h = refl
  same_by on.Cleared op value x h = refl

  same_holds : (x : TxRow) (c : Condition) → IsUntold c.field c.op c.value → holds_in rows (given x) c ≡ holds_in rows x c
  unfolding holds holds_in
  same_holds x c h = same_by c.field c.op c.value x h

  abbrev Alike : TxRow → List Condition → Type 0
  Alike x cs = (c : Condition) → IsIn cs c → holds_in rows (given x) c ≡ holds_in rows x c

  same_all : (x : TxRow) (cs : List Condition) → Alike x cs → list_all (holds_in rows (given x)) cs ≡ list_all (holds_in rows x) cs
  same_all x [] h = refl
  same_all x (c ∷ cs) h = ap (λ b. b && list_all (holds_in rows (given x)) cs) (h c (inl refl)) ∙ ap (λ b. holds_in rows x c && b) (same_all x cs (λ d i. h d (inr i)))

  same_any : (x : TxRow) (cs : List Condition) → Alike x cs → list_any (holds_in rows (given x)) cs ≡ list_any (holds_in rows x) cs
  same_any x [] h = refl
  same_any x (c ∷ cs) h = ap (λ b. b || list_any (holds_in rows (given x)) cs) (h c (inl refl)) ∙ ap (λ b. holds_in rows x c || b) (same_any x cs (λ d i. h d (inr i)))

  same_fires_by : (op : RuleOp) (cs : List Condition) (x : TxRow) → Alike x cs → fires_by rows op cs (given x) ≡ fires_by rows op cs x
  same_fires_by op [] x h = refl
  same_fires_by And (c ∷ cs) x h = same_all x (c ∷ cs) h
  same_fires_by Or (c ∷ cs) x h = same_any x (c ∷ cs) h

  same_fires : (r : Rule) (x : TxRow) → TellsNot rows payee r → fires rows r (given x) ≡ fires rows r x
  unfolding fires
  same_fires r x t = same_fires_by r.op r.conditions x (λ c i. same_holds x c (t.conditions c i))

  -- ---- actions

  same_acted : (x : TxRow) (a : Action) → (a ≡ SetDescription None → ⊥) → acted rows (given x) a ≡ given (acted rows x a)
  unfolding acted
  same_acted x (SetDescription None) h = absurd (h refl)
  same_acted x (SetDescription (Some p)) h = by (is_live_payee rows p)
    where
      by : (b : Bool) → cond b (record (given x) { description = Some p }) (given x) ≡ given (cond b (record x { description = Some p }) x)
      by true = refl
      by false = refl
  same_acted x (SetCategory category) h = by (not (takes_none rows x) && if_given (is_live_category rows) category)
    where
      by : (b : Bool) → cond b (record (given x) { category = category }) (given x) ≡ given (cond b (record x { category = category }) x)
      by true = refl
      by false = refl
  same_acted x (SetNotes text) h = refl
  same_acted x (SetCleared set) h = refl
  same_acted x (PrependNotes text) h = refl
  same_acted x (AppendNotes text) h = refl
  same_acted x (LinkSchedule id) h = refl

  same_actions : (xs : List Action) (x : TxRow) → (IsIn xs (SetDescription None) → ⊥) → fold (acted rows) (given x) xs ≡ given (fold (acted rows) x xs)
  same_actions [] x h = refl
  same_actions (a ∷ xs) x h =
      ap (λ y. fold (acted rows) y xs) (same_acted x a (λ e. h (inl e)))
      ∙ same_actions xs (acted rows x a) (λ i. h (inr i))

  same_applied : (x : TxRow) (r : Rule) → TellsNot rows payee r → applied rows (given x) r ≡ given (applied rows x r)
  unfolding applied
  same_applied x r t =
      ap (λ b. cond b (fold (acted rows) (given x) r.actions) (given x)) (same_fires r x t)
      ∙ ap (λ y. cond (fires rows r x) y (given x)) (same_actions r.actions x t.actions)
      ∙ by (fires rows r x)
    where
      by : (b : Bool) → cond b (given (fold (acted rows) x r.actions)) (given x) ≡ given (cond b (fold (acted rows) x r.actions) x)
      by true = refl
      by false = refl

  same_rules : (rules : List Rule) (x : TxRow) → ((r : Rule) → IsIn rules r → TellsNot rows payee r) → fold (applied rows) (given x) rules ≡ given (fold (applied rows) x rules)
  same_rules [] x h = refl
  same_rules (r ∷ rules) x h =
      ap (λ y. fold (applied rows) y rules) (same_applied x r (h r (inl refl)))
      ∙ same_rules rules (applied rows x r) (λ q i. h q (inr i))

pub leaves_payee : (rows : Rows) (account : Text) (e : Entry) (payee : Text) → ((r : Rule) → IsIn (rules_of rows) r → TellsNot rows payee r) → LeavePayee rows account e payee
unfolding run
leaves_payee rows account e payee h = same_rules rows payee (rules_of rows) (new_tx account None e) h
