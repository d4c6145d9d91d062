-- What the laws say.
use Rattle.std.specs.Prelude.{◌≡◌, ◌≢◌, ◌↔◌, true, false, List, [], ◌∷◌, ◌++◌, Some, Ok, Err}
use Rattle.std.specs.List.{All, Any, Contains, IsDistinct, fold}
use Rattle.std.specs.List.Sorted.{IsPermutation, IsStrictlySortedBy}
use Rattle.std.specs.FinMap as map
use Rattle.finite_sums.specs.Maps.{Text}
use Rattle.book_rows.specs.declared.rows.Rows.{Rows}
use Rattle.book_rows.specs.declared.rows.RuleRow.{RuleRow}
use Rattle.book_rows.specs.declared.rows.TxRow.{TxRow}
use Rattle.book_rows.specs.declared.fault.EditFault.{EditFault}
use Rattle.rule_engine.specs.declared.rule.Condition.{Condition}
use Rattle.rule_engine.specs.declared.rule.Rule.{Rule}
use Rattle.rule_engine.specs.declared.rule.RuleOp.TheVariants.{And, Or}
use Rattle.rule_engine.specs.Conditions.{holds_in}
use Rattle.rule_engine.specs.Reading.{read_rule}
use Rattle.rule_engine.specs.Running.{fires, acted, applied, run, rules_of}
use Rattle.rule_engine.specs.Scores.{rank_cmp, same_id, ranked}

-- rules whose ids differ have one order
pub record RanksAreOneOrder : Type 0 where
  -- no rule is lost, and none is made
  pub same : (rules : List Rule) → IsPermutation rules (ranked rules)
  -- each stands before the next, by stage, score and id
  pub rises : (rules : List Rule) → IsDistinct same_id rules → IsStrictlySortedBy rank_cmp (ranked rules)
  -- in whichever order they came
  pub one : (rules others : List Rule) → IsDistinct same_id rules → IsPermutation rules others → ranked rules ≡ ranked others

-- the rule is that of a row which was not deleted, and whose conditions and actions can be read
pub record IsLiveRule (rows : Rows) (r : Rule) : Type 0 where
  pub read : (row : RuleRow) × (map.get rows.rules r.id ≡ Some row) × (row.tombstone ≡ false) × (read_rule r.id row ≡ Ok r)

-- the rules that run are the live ones, in their one order
pub record RulesAreRanked : Type 0 where
  pub live : (rows : Rows) (r : Rule) → Contains (rules_of rows) r ↔ IsLiveRule rows r
  pub rises : (rows : Rows) → IsStrictlySortedBy rank_cmp (rules_of rows)
  -- there is no other such list
  pub one : (rows : Rows) (rules : List Rule) → ((r : Rule) → Contains rules r ↔ IsLiveRule rows r) → IsStrictlySortedBy rank_cmp rules → rules ≡ rules_of rows

-- which rules change a transaction, and over what
pub record RulesFollowOneAnother : Type 0 where
  -- a rule whose conditions have to hold all fires just where there are some, and each holds
  pub all : (rows : Rows) (r : Rule) (x : TxRow) → r.op ≡ And → (fires rows r x ≡ true) ↔ ((r.conditions ≢ []) × All (λ (c : Condition). holds_in rows x c ≡ true) r.conditions)
  -- a rule of whose conditions one has to hold fires just where one does
  pub one : (rows : Rows) (r : Rule) (x : TxRow) → r.op ≡ Or → (fires rows r x ≡ true) ↔ Any (λ (c : Condition). holds_in rows x c ≡ true) r.conditions
  -- a rule that doesn't fire changes nothing, and the actions of one that does follow one another in their order
  pub rests : (rows : Rows) (r : Rule) (x : TxRow) → fires rows r x ≡ false → applied rows x r ≡ x
  pub acts : (rows : Rows) (r : Rule) (x : TxRow) → fires rows r x ≡ true → applied rows x r ≡ fold (acted rows) x r.actions
  -- a rule without conditions changes nothing
  pub idle : (rows : Rows) (r : Rule) (x : TxRow) → r.conditions ≡ [] → applied rows x r ≡ x
  -- nor does a row that can't be read
  pub unread : (rows : Rows) (id : Text) (row : RuleRow) (fault : EditFault) → map.get rows.rules id ≡ Some row → read_rule id row ≡ Err fault → (r : Rule) → Contains (rules_of rows) r → r.id ≢ id
  -- without rules nothing changes, and a rule has what all rules before it made
  pub none : (rows : Rows) (x : TxRow) → run rows [] x ≡ x
  pub next : (rows : Rows) (before : List Rule) (r : Rule) (x : TxRow) → run rows (before ++ r ∷ []) x ≡ applied rows (run rows before x) r
