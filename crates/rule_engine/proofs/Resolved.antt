-- Conditions whose ids stand for others.
use Rattle.std.proofs.Common.{◌≡◌, Bool, List, [], ◌∷◌, Option, refl, ap, sym, ◌∙◌}
use Rattle.std.specs.Prelude.{map, ◌||◌}
use Rattle.std.specs.List.{list_any}
use Rattle.std.proofs.lemmas.List.{map-id}
use Rattle.finite_sums.specs.Maps.{Text}
use Rattle.book_rows.specs.declared.rows.Rows.{Rows}
use Rattle.book_rows.specs.declared.rows.TxRow.{TxRow}
use Rattle.rule_engine.specs.declared.rule.CondField.TheVariants.{Acct}
use Rattle.rule_engine.specs.declared.rule.CondValue.{CondValue}
use Rattle.rule_engine.specs.declared.rule.CondValue.TheVariants.{Null, Text as OneText, Texts, Number, Between, Date as Day, Recurrence, Flag}
use Rattle.rule_engine.specs.declared.rule.Condition.{Condition}
use Rattle.rule_engine.specs.Conditions.{with_ids, mapped_by, id_holds, holds_by, holds, resolved_row, resolved_value, holds_in}

-- one of a list's images passes a test where one of the list passes it by its image
pub any_over : {A B : Type 0} (p : B → Bool) (f : A → B) (xs : List A) → list_any p (map f xs) ≡ list_any (λ a. p (f a)) xs
any_over p f [] = refl
any_over p f (x ∷ xs) = ap (λ b. p (f x) || b) (any_over p f xs)

-- ids that stand for themselves leave a value as it is
pub same_ids : (value : CondValue) → with_ids (λ id. id) value ≡ value
same_ids Null = refl
same_ids (OneText t) = refl
same_ids (Texts ts) = ap Texts (map-id ts)
same_ids (Number n) = refl
same_ids (Between a b) = refl
same_ids (Day n) = refl
same_ids Recurrence = refl
same_ids (Flag b) = refl

-- accounts stand for themselves
pub account_holds : (rows : Rows) (x : TxRow) (c : Condition) (own : Option Text) → c.field ≡ Acct → own ≡ x.acct → id_holds c.op (with_ids (mapped_by rows c.field) c.value) own ≡ holds_in rows x c
unfolding holds holds_in
account_holds rows x c own is same =
    ap (λ f. id_holds c.op (with_ids (mapped_by rows f) c.value) own) is ∙ ap (λ v. id_holds c.op v own) (same_ids c.value) ∙ ap (id_holds c.op c.value) same
    ∙ sym (ap (λ f. holds_by f c.op (resolved_value rows f c.value) (resolved_row rows x)) is)
