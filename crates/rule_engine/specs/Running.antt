-- What rules make of a transaction.
use Rattle.std.specs.Prelude.{Bool, true, false, not, ◌&&◌, ◌||◌, List, [], ◌∷◌, ◌++◌, Option, None, Some, is_none, Result, Ok, Err, if◌then◌else◌}
use Rattle.std.specs.List.{list_all, list_any, fold, filter_map}
use Rattle.std.specs.FinMap as map
use Rattle.finite_sums.specs.Maps.{Text}
use Rattle.book_rows.specs.declared.rows.Rows.{Rows}
use Rattle.book_rows.specs.declared.rows.RuleRow.{RuleRow}
use Rattle.book_rows.specs.declared.rows.TxRow.{TxRow}
use Rattle.book_rows.specs.declared.fault.EditFault.{EditFault}
use Rattle.book_rows.specs.Live.{is_live_payee, is_live_category}
use Rattle.split_transfer.specs.Pairs.{partner_of}
use Rattle.rule_engine.specs.declared.rule.Action.{Action}
use Rattle.rule_engine.specs.declared.rule.Action.TheVariants.{SetDescription, SetCategory, SetNotes, SetCleared, PrependNotes, AppendNotes, LinkSchedule}
use Rattle.rule_engine.specs.declared.rule.Condition.{Condition}
use Rattle.rule_engine.specs.declared.rule.Rule.{Rule}
use Rattle.rule_engine.specs.declared.rule.RuleOp.{RuleOp}
use Rattle.rule_engine.specs.declared.rule.RuleOp.TheVariants.{And, Or}
use Rattle.rule_engine.specs.Conditions.{holds_in, or_empty}
use Rattle.rule_engine.specs.Reading.{read_rule}
use Rattle.rule_engine.specs.Scores.{ranked}

-- ---- which rules change a transaction

-- all conditions hold, or one of them does. Where there is none, they don't hold
abbrev pub fires_by : Rows → RuleOp → List Condition → TxRow → Bool
fires_by rows op [] x = false
fires_by rows And (c ∷ cs) x = list_all (holds_in rows x) (c ∷ cs)
fires_by rows Or (c ∷ cs) x = list_any (holds_in rows x) (c ∷ cs)

unfoldable pub fires : Rows → Rule → TxRow → Bool
fires rows r x = fires_by rows r.op r.conditions x

-- ---- actions

-- notes that come out empty are none
abbrev pub noted : Text → Option Text
noted [] = None
noted (b ∷ bs) = Some (b ∷ bs)

-- what is given passes a test, or nothing is given
abbrev pub if_given : (Text → Bool) → Option Text → Bool
if_given test None = true
if_given test (Some id) = test id

-- the transaction is split, or is in a pair
abbrev pub takes_none : Rows → TxRow → Bool
takes_none rows x = x.is_parent || not (is_none (partner_of rows x.id x))

-- what an action makes of a transaction. A payee or a category that isn't live changes nothing; nor is a category set, or taken away, where
-- the transaction is split or in a pair
unfoldable pub acted : Rows → TxRow → Action → TxRow
acted rows x (SetDescription payee) = if if_given (is_live_payee rows) payee then record x { description = payee } else x
acted rows x (SetCategory category) =
    if not (takes_none rows x) && if_given (is_live_category rows) category then record x { category = category } else x
acted rows x (SetNotes text) = record x { notes = noted text }
acted rows x (SetCleared set) = record x { cleared = set }
acted rows x (PrependNotes text) = record x { notes = noted (text ++ or_empty x.notes) }
acted rows x (AppendNotes text) = record x { notes = noted (or_empty x.notes ++ text) }
acted rows x (LinkSchedule id) = record x { schedule = Some id }

-- ---- rules

-- what a rule makes of a transaction: where its conditions hold, its actions follow one another
unfoldable pub applied : Rows → TxRow → Rule → TxRow
applied rows x r = if fires rows r x then fold (acted rows) x r.actions else x

-- what rules make of a transaction: each has what the rules before it made
unfoldable pub run : Rows → List Rule → TxRow → TxRow
run rows rules x = fold (applied rows) x rules

-- ---- the rules of a book

abbrev pub ok_rule : Result Rule EditFault → Option Rule
ok_rule (Ok r) = Some r
ok_rule (Err fault) = None

-- the rule of a row, where it was not deleted and can be read
abbrev pub read_live : Text × RuleRow → Option Rule
read_live e = if e.1.tombstone then None else ok_rule (read_rule e.0 e.1)

-- the rules of a book, in the order in which they run
unfoldable pub rules_of : Rows → List Rule
rules_of rows = ranked (filter_map read_live (map.entries rows.rules))
