-- In which order rules run, and that they read back.
use Rattle.std.proofs.Common.{◌≡◌, ◌<◌, ℕ, ◌==◌, cond, List, Option, Some, Result, Ok, Err, refl, sym, ap, ◌∙◌, arith}
use Rattle.std.specs.declared.cmp.Ordering.{Ordering}
use Rattle.std.specs.declared.cmp.Ordering.TheVariants.{Less, Equal, Greater}
use Rattle.std.specs.Ordering.{nat_cmp, ordering_then}
use Rattle.std.proofs.lemmas.Bool.{lt-ltb, le-ltb, eq-eqb}
use Rattle.finite_sums.specs.Maps.{Text, text_cmp}
use Rattle.book_rows.specs.declared.rows.Rows.{Rows}
use Rattle.book_rows.specs.declared.rows.RuleRow.{RuleRow}
use Rattle.book_rows.specs.declared.write.Write.{Write}
use Rattle.book_rows.specs.declared.fault.EditFault.{EditFault}
use Rattle.book_rows.specs.declared.fault.RulePart.TheVariants.{Conditions, Actions}
use Rattle.book_rows.specs.Kinds.{text_of}
use Rattle.book_edits.specs.Faults.{◌>>=◌}
use Rattle.book_edits.specs.Checks.{new_row}
use Rattle.book_edits.proofs.Valid.{passed}
use Rattle.rule_engine.specs.declared.rule.Rule.{Rule}
use Rattle.rule_engine.specs.declared.rule.Stage.{Stage}
use Rattle.rule_engine.specs.declared.rule.Stage.TheVariants.{Pre, Plain, Post}
use Rattle.rule_engine.specs.declared.rule.RuleOp.{RuleOp}
use Rattle.rule_engine.specs.declared.rule.RuleOp.TheVariants.{And, Or}
use Rattle.rule_engine.specs.Reading.{read_part, condition_of, action_of, read_rule, stage_of, op_of}
use Rattle.rule_engine.specs.Scores.{score, stage_place}
use Rattle.rule_engine.specs.Edits.{is_rule, readable, stage_value, op_text, rule_add}
use Rattle.rule_laws.specs.Making.{ComesBefore, StagesComeInTurn, added_row, RulesReadBack}

-- ---- the order

less : (a b : ℕ) → a < b → nat_cmp a b ≡ Less
less a b h = ap (λ t. cond t Less (cond (a == b) Equal Greater)) (lt-ltb a b h)

tied : (a b : ℕ) → a ≡ b → nat_cmp a b ≡ Equal
tied a b e = ap (λ t. cond t Less (cond (a == b) Equal Greater)) (le-ltb a b (omega arith)) ∙ ap (λ t. cond t Equal Greater) (eq-eqb a b e)

before : (s t : Stage) → ComesBefore s t → nat_cmp (stage_place s) (stage_place t) ≡ Less
before Pre Pre h = absurd h
before Pre Plain h = refl
before Pre Post h = refl
before Plain Pre h = absurd h
before Plain Plain h = absurd h
before Plain Post h = refl
before Post Pre h = absurd h
before Post Plain h = absurd h
before Post Post h = absurd h

-- the rest of the order, behind the stages
abbrev behind_stage : Rule → Rule → Ordering → Ordering
behind_stage a b o = ordering_then (ordering_then o (nat_cmp (score a) (score b))) (text_cmp a.id b.id)

same_place : (a b : Rule) → a.stage ≡ b.stage → nat_cmp (stage_place a.stage) (stage_place b.stage) ≡ Equal
same_place a b e = tied (stage_place a.stage) (stage_place b.stage) (ap stage_place e)

pub in_turn : StagesComeInTurn
in_turn = record {
  by_stage = λ a b h. ap (behind_stage a b) (before a.stage b.stage h);
  by_score = λ a b e h. ap (behind_stage a b) (same_place a b e) ∙ ap (λ o. ordering_then o (text_cmp a.id b.id)) (less (score a) (score b) h);
  by_id = λ a b e h. ap (behind_stage a b) (same_place a b e) ∙ ap (λ o. ordering_then o (text_cmp a.id b.id)) (tied (score a) (score b) h);
}

-- ---- reading back

stage_back : (s : Stage) → stage_of (text_of (stage_value s)) ≡ s
stage_back Pre = refl
stage_back Plain = refl
stage_back Post = refl

op_back : (o : RuleOp) → op_of (Some (op_text o)) ≡ o
op_back And = refl
op_back Or = refl

-- what can be read is read
reads : {A : Type 0} (o : Result (List A) EditFault) → readable o ≡ Ok tt → (xs : List A) × (o ≡ Ok xs)
reads (Ok xs) h = (xs, refl)
reads (Err f) h = cc

pub read_so : (id : Text) (row : RuleRow) (r : Rule) → (read_part Conditions condition_of row.conditions ≡ Ok r.conditions) → (read_part Actions action_of row.actions ≡ Ok r.actions)
    → r.id ≡ id → stage_of row.stage ≡ r.stage → op_of row.conditions_op ≡ r.op → read_rule id row ≡ Ok r
unfolding read_rule
read_so id row r c a i s o =
    ap (λ x. x >>= (λ conditions. read_part Actions action_of row.actions >>= (λ actions. Ok (record { id = id; stage = stage_of row.stage; op = op_of row.conditions_op; conditions = conditions; actions = actions })))) c
    ∙ ap (λ x. x >>= (λ actions. Ok (record { id = id; stage = stage_of row.stage; op = op_of row.conditions_op; conditions = r.conditions; actions = actions }))) a
    ∙ ap (λ x. Ok (record { id = x; stage = stage_of row.stage; op = op_of row.conditions_op; conditions = r.conditions; actions = r.actions })) (sym i)
    ∙ ap (λ x. Ok (record { id = r.id; stage = x; op = op_of row.conditions_op; conditions = r.conditions; actions = r.actions })) s
    ∙ ap (λ x. Ok (record { id = r.id; stage = r.stage; op = x; conditions = r.conditions; actions = r.actions })) o

added : (rows : Rows) (given : Option Text) (id : Text) (stage : Stage) (op : RuleOp) (conditions actions : Text) (ws : List Write) → rule_add rows given stage op conditions actions ≡ Ok ws
    → (r : Rule) × (read_rule id (added_row id stage op conditions actions) ≡ Ok r) × (r.id ≡ id) × (r.stage ≡ stage) × (r.op ≡ op)
    × (read_part Conditions condition_of (Some conditions) ≡ Ok r.conditions) × (read_part Actions action_of (Some actions) ≡ Ok r.actions)
added rows given id stage op conditions actions ws h =
    let p = passed (new_row (is_rule rows) given) _ _ h in
    let c = passed (readable (read_part Conditions condition_of (Some conditions))) _ _ p.2 in
    let a = passed (readable (read_part Actions action_of (Some actions))) _ _ c.2 in
    let cs = reads (read_part Conditions condition_of (Some conditions)) c.1 in
    let xs = reads (read_part Actions action_of (Some actions)) a.1 in
    let r : Rule = record { id = id; stage = stage; op = op; conditions = cs.0; actions = xs.0 } in
    (r, read_so id (added_row id stage op conditions actions) r cs.1 xs.1 refl (stage_back stage) (op_back op), refl, refl, refl, cs.1, xs.1)

pub read_back : RulesReadBack
read_back = record { added = added }
