-- What actions make of a transaction.
use Rattle.std.proofs.Common.{◌≡◌, ◌++◌, Bool, true, false, cond, [], ◌∷◌, Option, None, Some, refl, ap, ◌∙◌, append-nil}
use Rattle.std.specs.Prelude.{◌&&◌, ◌||◌, not, is_none}
use Rattle.finite_sums.specs.Maps.{Text}
use Rattle.book_rows.specs.declared.rows.Rows.{Rows}
use Rattle.book_rows.specs.declared.rows.TxRow.{TxRow}
use Rattle.book_rows.specs.Live.{is_live_payee, is_live_category}
use Rattle.split_transfer.specs.Pairs.{partner_of}
use Rattle.rule_engine.specs.declared.rule.Action.TheVariants.{SetDescription, SetCategory, SetNotes, SetCleared, PrependNotes, AppendNotes, LinkSchedule}
use Rattle.rule_engine.specs.Conditions.{or_empty}
use Rattle.rule_engine.specs.Running.{noted, if_given, acted}
use Rattle.rule_laws.specs.Acting.{or_none, ActionsAreTold}

noted_is : (t : Text) → noted t ≡ or_none t
noted_is [] = refl
noted_is (b ∷ bs) = refl

module _ (rows : Rows) (x : TxRow) where
  given : (id : Text) (b : Bool) → is_live_payee rows id ≡ b → acted rows x (SetDescription (Some id)) ≡ cond b (record x { description = Some id }) x
  unfolding acted
  given id b h = ap (λ t. cond t (record x { description = Some id }) x) h

  -- the category, where the transaction takes one or not
  placed : (parent none : Bool) → x.is_parent ≡ parent → is_none (partner_of rows x.id x) ≡ none → (category : Option Text)
      → acted rows x (SetCategory category) ≡ cond (not (parent || not none) && if_given (is_live_category rows) category) (record x { category = category }) x
  unfolding acted
  placed parent none p n category =
      ap (λ t. cond (not (t || not (is_none (partner_of rows x.id x))) && if_given (is_live_category rows) category) (record x { category = category }) x) p
      ∙ ap (λ t. cond (not (parent || not t) && if_given (is_live_category rows) category) (record x { category = category }) x) n

  dead : (id : Text) → is_live_category rows id ≡ false → (b : Bool) → cond (b && is_live_category rows id) (record x { category = Some id }) x ≡ x
  dead id h true = ap (λ t. cond t (record x { category = Some id }) x) h
  dead id h false = refl

  in_pair : (parent : Bool) (category : Option Text) → cond (not (parent || true) && if_given (is_live_category rows) category) (record x { category = category }) x ≡ x
  in_pair true category = refl
  in_pair false category = refl

  written : (text : Text) → acted rows x (SetNotes text) ≡ record x { notes = or_none text }
  unfolding acted
  written text = ap (λ n. record x { notes = n }) (noted_is text)

  first : (text own : Text) → x.notes ≡ Some own → acted rows x (PrependNotes text) ≡ record x { notes = or_none (text ++ own) }
  unfolding acted
  first text own h = ap (λ o. record x { notes = noted (text ++ or_empty o) }) h ∙ ap (λ n. record x { notes = n }) (noted_is (text ++ own))

  only : (text : Text) → x.notes ≡ None → acted rows x (PrependNotes text) ≡ record x { notes = or_none text }
  unfolding acted
  only text h =
      ap (λ o. record x { notes = noted (text ++ or_empty o) }) h
      ∙ ap (λ n. record x { notes = n }) (noted_is (text ++ []) ∙ ap or_none (append-nil text))

  last : (text : Text) (o : Option Text) → x.notes ≡ o → acted rows x (AppendNotes text) ≡ record x { notes = or_none (or_empty o ++ text) }
  unfolding acted
  last text o h = ap (λ p. record x { notes = noted (or_empty p ++ text) }) h ∙ ap (λ n. record x { notes = n }) (noted_is (or_empty o ++ text))

  flagged : (set : Bool) → acted rows x (SetCleared set) ≡ record x { cleared = set }
  unfolding acted
  flagged set = refl

  linked : (id : Text) → acted rows x (LinkSchedule id) ≡ record x { schedule = Some id }
  unfolding acted
  linked id = refl

  nobody : acted rows x (SetDescription None) ≡ record x { description = None }
  unfolding acted
  nobody = refl

pub actions_told : (rows : Rows) (x : TxRow) → ActionsAreTold rows x
actions_told rows x = record {
  payee = λ id h. given rows x id true h;
  no_payee = nobody rows x;
  dead_payee = λ id h. given rows x id false h;
  category = λ id p n h. placed rows x false true p (ap is_none n) (Some id) ∙ ap (λ t. cond t (record x { category = Some id }) x) h;
  no_category = λ p n. placed rows x false true p (ap is_none n) None;
  dead_category = λ id h. placed rows x x.is_parent (is_none (partner_of rows x.id x)) refl refl (Some id) ∙ dead rows x id h (not (x.is_parent || not (is_none (partner_of rows x.id x))));
  split = λ category p. placed rows x true (is_none (partner_of rows x.id x)) p refl category;
  pair = λ category other n. placed rows x x.is_parent false refl (ap is_none n) category ∙ in_pair rows x x.is_parent category;
  notes = written rows x;
  before = first rows x;
  behind = λ text own h. last rows x text (Some own) h;
  before_none = only rows x;
  behind_none = λ text h. last rows x text None h;
  cleared = flagged rows x;
  schedule = linked rows x;
}
