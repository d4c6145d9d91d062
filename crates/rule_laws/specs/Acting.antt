-- What actions make of a transaction.
use Rattle.std.specs.Prelude.{◌≡◌, ◌++◌, Bool, true, false, [], ◌∷◌, Option, None, Some}
use Rattle.finite_sums.specs.Maps.{Text}
use Rattle.book_rows.specs.declared.rows.Rows.{Rows}
use Rattle.book_rows.specs.declared.rows.TxRow.{TxRow}
use Rattle.book_rows.specs.Live.{is_live_payee, is_live_category}
use Rattle.split_transfer.specs.Pairs.{partner_of}
use Rattle.rule_engine.specs.declared.rule.Action.TheVariants.{SetDescription, SetCategory, SetNotes, SetCleared, PrependNotes, AppendNotes, LinkSchedule}
use Rattle.rule_engine.specs.Running.{acted}

-- notes that come out empty are none
abbrev pub or_none : Text → Option Text
or_none [] = None
or_none (b ∷ bs) = Some (b ∷ bs)

-- what each action makes of a transaction
pub record ActionsAreTold (rows : Rows) (x : TxRow) : Type 0 where
  -- it has the payee that is given, where that is live, or none; one that isn't live changes nothing
  pub payee : (id : Text) → is_live_payee rows id ≡ true → acted rows x (SetDescription (Some id)) ≡ record x { description = Some id }
  pub no_payee : acted rows x (SetDescription None) ≡ record x { description = None }
  pub dead_payee : (id : Text) → is_live_payee rows id ≡ false → acted rows x (SetDescription (Some id)) ≡ x
  -- so it is with the category of a transaction that is neither split nor in a pair; any other keeps its own
  pub category : (id : Text) → x.is_parent ≡ false → partner_of rows x.id x ≡ None → is_live_category rows id ≡ true → acted rows x (SetCategory (Some id)) ≡ record x { category = Some id }
  pub no_category : x.is_parent ≡ false → partner_of rows x.id x ≡ None → acted rows x (SetCategory None) ≡ record x { category = None }
  pub dead_category : (id : Text) → is_live_category rows id ≡ false → acted rows x (SetCategory (Some id)) ≡ x
  pub split : (category : Option Text) → x.is_parent ≡ true → acted rows x (SetCategory category) ≡ x
  pub pair : (category : Option Text) (other : Text) → partner_of rows x.id x ≡ Some other → acted rows x (SetCategory category) ≡ x
  -- notes are written over, or stand before or behind those that are there
  pub notes : (text : Text) → acted rows x (SetNotes text) ≡ record x { notes = or_none text }
  pub before : (text own : Text) → x.notes ≡ Some own → acted rows x (PrependNotes text) ≡ record x { notes = or_none (text ++ own) }
  pub behind : (text own : Text) → x.notes ≡ Some own → acted rows x (AppendNotes text) ≡ record x { notes = or_none (own ++ text) }
  -- where there are none, they stand alone
  pub before_none : (text : Text) → x.notes ≡ None → acted rows x (PrependNotes text) ≡ record x { notes = or_none text }
  pub behind_none : (text : Text) → x.notes ≡ None → acted rows x (AppendNotes text) ≡ record x { notes = or_none text }
  pub cleared : (set : Bool) → acted rows x (SetCleared set) ≡ record x { cleared = set }
  pub schedule : (id : Text) → acted rows x (LinkSchedule id) ≡ record x { schedule = Some id }
