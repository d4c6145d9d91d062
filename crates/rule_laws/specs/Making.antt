-- In which order rules run, how they read back, and what running them on transactions leaves.
use Rattle.std.specs.Prelude.{◌≡◌, ◌≢◌, ◌<◌, ℕ, ◌++◌, ◌∷◌, true, false, List, [], Option, None, Some, option_map, Ok, Err, if◌then◌else◌, codes}
use Rattle.std.specs.List.{AllByRecursion, Contains}
use Rattle.std.specs.declared.cmp.Ordering.TheVariants.{Less}
use Rattle.std.specs.FinMap as map
use Rattle.field_values.specs.declared.value.Value.{Value}
use Rattle.finite_sums.specs.Maps.{Text, text_cmp, is_among}
use Rattle.book_rows.specs.declared.rows.Rows.{Rows}
use Rattle.book_rows.specs.declared.rows.TxRow.{TxRow}
use Rattle.book_rows.specs.declared.rows.RuleRow.{RuleRow}
use Rattle.book_rows.specs.declared.write.RowName.TheVariants.{Given}
use Rattle.book_rows.specs.declared.write.Write.{Write}
use Rattle.book_rows.specs.declared.fault.EditFault.TheVariants.{NoSuchTransaction}
use Rattle.book_rows.specs.declared.fault.RulePart.TheVariants.{Conditions, Actions}
use Rattle.book_rows.specs.Kinds.{text_of}
use Rattle.book_rows.specs.Live.{is_alive}
use Rattle.book_edits.specs.Checks.{distinct}
use Rattle.book_edits.specs.Writing.{flag, text_or_null}
use Rattle.split_transfer.specs.After.{Ids, with_writes}
use Rattle.split_transfer.specs.Writing.{tx_write}
use Rattle.rule_engine.specs.declared.rule.Rule.{Rule}
use Rattle.rule_engine.specs.declared.rule.RuleOp.{RuleOp}
use Rattle.rule_engine.specs.declared.rule.Stage.{Stage}
use Rattle.rule_engine.specs.declared.rule.Stage.TheVariants.{Pre, Plain, Post}
use Rattle.rule_engine.specs.Reading.{read_part, condition_of, action_of, read_rule}
use Rattle.rule_engine.specs.Running.{run, rules_of}
use Rattle.rule_engine.specs.Scores.{score, rank_cmp}
use Rattle.rule_engine.specs.Edits.{stage_value, op_text, rule_add, rule_delete, rules_run}

-- rules of the first stage come before those of none, and those of the last stage behind both
abbrev pub ComesBefore : Stage → Stage → Type 0
ComesBefore Pre Plain = Unit {0}
ComesBefore Pre Post = Unit {0}
ComesBefore Plain Post = Unit {0}
ComesBefore a b = ⊥

-- which of two rules runs first
pub record StagesComeInTurn : Type 0 where
  pub by_stage : (a b : Rule) → ComesBefore a.stage b.stage → rank_cmp a b ≡ Less
  -- within a stage the one that counts less, and of those that count the same the one with the lesser id
  pub by_score : (a b : Rule) → a.stage ≡ b.stage → score a < score b → rank_cmp a b ≡ Less
  pub by_id : (a b : Rule) → a.stage ≡ b.stage → score a ≡ score b → rank_cmp a b ≡ text_cmp a.id b.id

-- the row that the writes of a new rule make
abbrev pub added_row : Text → Stage → RuleOp → Text → Text → RuleRow
added_row id stage op conditions actions = record {
  id = id;
  stage = text_of (stage_value stage);
  conditions_op = Some (op_text op);
  conditions = Some conditions;
  actions = Some actions;
  tombstone = false;
}

-- the id of a new row: the given one, or the one that the write at this place makes
abbrev pub own_id : Ids → ℕ → Option Text → Text
own_id ids at None = ids at
own_id ids at (Some id) = id

-- what edits of rules leave
pub record RuleEditsDo (ids : Ids) (rows : Rows) (ws : List Write) : Type 0 where
  -- a new rule has a row that says what was given, where there was none with its id, and nothing else changes
  pub added : (given : Option Text) (stage : Stage) (op : RuleOp) (conditions actions : Text) → rule_add rows given stage op conditions actions ≡ Ok ws → map.get rows.rules (own_id ids 0 given) ≡ None
      → with_writes ids rows ws ≡ record rows { rules = map.insert rows.rules (own_id ids 0 given) (added_row (own_id ids 0 given) stage op conditions actions) }
  -- a rule that is deleted was there, stays as it was but for that, and nothing else changes
  pub deleted : (id : Text) → rule_delete rows id ≡ Ok ws
      → (r : RuleRow) × (map.get rows.rules id ≡ Some r) × (r.tombstone ≡ false) × (with_writes ids rows ws ≡ record rows { rules = map.insert rows.rules id (record r { tombstone = true }) })

-- a rule that is accepted can be read, with the id, the stage and the op that were given, and what the given texts are read as
pub record RulesReadBack : Type 0 where
  pub added : (rows : Rows) (given : Option Text) (id : Text) (stage : Stage) (op : RuleOp) (conditions actions : Text) (ws : List Write) → rule_add rows given stage op conditions actions ≡ Ok ws
      → (r : Rule) × (read_rule id (added_row id stage op conditions actions) ≡ Ok r) × (r.id ≡ id) × (r.stage ≡ stage) × (r.op ≡ op)
      × (read_part Conditions condition_of (Some conditions) ≡ Ok r.conditions) × (read_part Actions action_of (Some actions) ≡ Ok r.actions)

-- a transaction with the columns of another one that rules change
abbrev pub with_changed : TxRow → TxRow → TxRow
with_changed old new = record old { description = new.description; category = new.category; notes = new.notes; schedule = new.schedule; cleared = new.cleared }

-- what the columns that rules change have
abbrev pub changing : TxRow → List (Text × Value)
changing x =
    (codes "description", text_or_null x.description)
    ∷ (codes "category", text_or_null x.category)
    ∷ (codes "notes", text_or_null x.notes)
    ∷ (codes "schedule", text_or_null x.schedule)
    ∷ (codes "cleared", flag x.cleared)
    ∷ []

-- a write gives a transaction that is named what the rules make of one of these columns, which has something else
pub record IsChange (rows : Rows) (named : List Text) (w : Write) : Type 0 where
  pub id : Text
  pub tx : TxRow
  pub among : is_among text_cmp named id ≡ true
  pub there : map.get rows.txs id ≡ Some tx
  pub column : Text × Value
  pub made : Contains (changing (run rows (rules_of rows) tx)) column
  pub other : Contains (changing tx) column → ⊥
  pub written : w ≡ tx_write (Given id) column.0 column.1

-- ids of which each is taken once
pub record IdsAreTakenOnce : Type 0 where
  pub none : distinct [] ≡ []
  -- one that was named before is not taken again, and another one is taken behind those before it
  pub again : (named : List Text) (id : Text) → is_among text_cmp named id ≡ true → distinct (named ++ id ∷ []) ≡ distinct named
  pub new : (named : List Text) (id : Text) → is_among text_cmp named id ≡ false → distinct (named ++ id ∷ []) ≡ distinct named ++ id ∷ []

-- running the rules on transactions
pub record RulesMakeRows : Type 0 where
  -- it is accepted where each of them is live, and else the first that isn't is told
  pub accepted : (rows : Rows) (named : List Text) → AllByRecursion (λ id. is_alive rows id ≡ true) named → (ws : List Write) × (rules_run rows named ≡ Ok ws)
  pub refused : (rows : Rows) (before after : List Text) (id : Text) → AllByRecursion (λ q. is_alive rows q ≡ true) before → is_alive rows id ≡ false
      → rules_run rows (before ++ id ∷ after) ≡ Err (NoSuchTransaction id)
  -- then each of them stands as the rules make it of the book as it was, and each other one as before
  pub stands : (ids : Ids) (rows : Rows) (named : List Text) (ws : List Write) (q : Text) → rules_run rows named ≡ Ok ws
      → map.get (with_writes ids rows ws).txs q ≡ (if is_among text_cmp named q then option_map (run rows (rules_of rows)) (map.get rows.txs q) else map.get rows.txs q)
  -- rules change nothing but these columns, and what they don't change isn't written
  pub columns : (rows : Rows) (rules : List Rule) (x : TxRow) → run rows rules x ≡ with_changed x (run rows rules x)
  pub changes : (rows : Rows) (named : List Text) (ws : List Write) (w : Write) → rules_run rows named ≡ Ok ws → Contains ws w → IsChange rows named w
  -- no column of a transaction is written twice
  pub once : (rows : Rows) (named : List Text) (before after : List Write) (w v : Write) → rules_run rows named ≡ Ok (before ++ w ∷ after)
      → Contains after v → v.row ≡ w.row → v.column ≢ w.column
