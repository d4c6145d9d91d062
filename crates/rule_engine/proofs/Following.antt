-- Which rules change a transaction, and that they follow one another.
use Rattle.std.proofs.Common.{◌≡◌, ◌≢◌, true, false, List, [], ◌∷◌, ◌++◌, Some, Ok, Err, refl, ap, sym, ◌∙◌, subst, arith}
use Rattle.std.specs.Prelude.{◌↔◌}
use Rattle.std.specs.List.{All, Any, Contains, fold}
use Rattle.std.specs.FinMap as map
use Rattle.std.proofs.lemmas.Bool.{cond-false, cond-true}
use Rattle.std.proofs.lemmas.List.Sums.{fold-append, AllPass-from_list_all, list_all-from_AllPass}
use Rattle.std.proofs.lemmas.List.Folds.{Any-from_list_any, list_any-from_Any}
use Rattle.finite_sums.specs.Maps.{Text}
use Rattle.book_rows.specs.declared.rows.Rows.{Rows}
use Rattle.book_rows.specs.declared.rows.RuleRow.{RuleRow}
use Rattle.book_rows.specs.declared.rows.TxRow.{TxRow}
use Rattle.book_rows.specs.declared.fault.EditFault.{EditFault}
use Rattle.rule_engine.specs.declared.rule.Condition.{Condition}
use Rattle.rule_engine.specs.declared.rule.Rule.{Rule}
use Rattle.rule_engine.specs.declared.rule.RuleOp.TheVariants.{And, Or}
use Rattle.rule_engine.specs.Conditions.{holds_in}
use Rattle.rule_engine.specs.Reading.{read_rule}
use Rattle.rule_engine.specs.Running.{fires_by, fires, acted, applied, run, rules_of}
use Rattle.rule_engine.specs.Laws.{RulesFollowOneAnother}
use Rattle.rule_engine.proofs.Live.{are_live}

all_by : (rows : Rows) (cs : List Condition) (x : TxRow) → (fires_by rows And cs x ≡ true) ↔ ((cs ≢ []) × All (λ (c : Condition). holds_in rows x c ≡ true) cs)
all_by rows [] x = (λ h. cc, λ h. absurd (h.0 refl))
all_by rows (c ∷ cs) x = (
  λ h. ((λ e. cc), AllPass-from_list_all (holds_in rows x) (c ∷ cs) h),
  λ h. list_all-from_AllPass (holds_in rows x) (c ∷ cs) h.1,
)

one_by : (rows : Rows) (cs : List Condition) (x : TxRow) → (fires_by rows Or cs x ≡ true) ↔ Any (λ (c : Condition). holds_in rows x c ≡ true) cs
one_by rows [] x = (λ h. cc, λ h. absurd (omega (arith, h.2)))
one_by rows (c ∷ cs) x = (Any-from_list_any (holds_in rows x) (c ∷ cs), list_any-from_Any (holds_in rows x) (c ∷ cs))

fires_all : (rows : Rows) (r : Rule) (x : TxRow) → r.op ≡ And → (fires rows r x ≡ true) ↔ ((r.conditions ≢ []) × All (λ (c : Condition). holds_in rows x c ≡ true) r.conditions)
unfolding fires
fires_all rows r x e = subst (λ op. (fires_by rows op r.conditions x ≡ true) ↔ ((r.conditions ≢ []) × All (λ (c : Condition). holds_in rows x c ≡ true) r.conditions)) (sym e) (all_by rows r.conditions x)

fires_one : (rows : Rows) (r : Rule) (x : TxRow) → r.op ≡ Or → (fires rows r x ≡ true) ↔ Any (λ (c : Condition). holds_in rows x c ≡ true) r.conditions
unfolding fires
fires_one rows r x e = subst (λ op. (fires_by rows op r.conditions x ≡ true) ↔ Any (λ (c : Condition). holds_in rows x c ≡ true) r.conditions) (sym e) (one_by rows r.conditions x)

rests : (rows : Rows) (r : Rule) (x : TxRow) → fires rows r x ≡ false → applied rows x r ≡ x
unfolding applied
rests rows r x e = cond-false _ _ _ e

acts : (rows : Rows) (r : Rule) (x : TxRow) → fires rows r x ≡ true → applied rows x r ≡ fold (acted rows) x r.actions
unfolding applied
acts rows r x e = cond-true _ _ _ e

idles : (rows : Rows) (r : Rule) (x : TxRow) → r.conditions ≡ [] → applied rows x r ≡ x
unfolding fires
idles rows r x e = rests rows r x (ap (λ cs. fires_by rows r.op cs x) e)

not_read : (rows : Rows) (id : Text) (row : RuleRow) (fault : EditFault) → map.get rows.rules id ≡ Some row → read_rule id row ≡ Err fault → (r : Rule) → Contains (rules_of rows) r → r.id ≢ id
not_read rows id row fault there bad r c same =
    let live = (are_live rows r).0 c in
    let F : Text → Type 0 = λ q. (map.get rows.rules q ≡ Some live.read.0) × (read_rule q live.read.0 ≡ Ok r) in
    let at : F id = subst F same (live.read.1, live.read.3) in
    let row_is : row ≡ live.read.0 = (let e : Some row ≡ Some live.read.0 = sym there ∙ at.0 in cc) in
    let no : Err fault ≡ Ok r = sym bad ∙ ap (read_rule id) row_is ∙ at.1 in
    cc

runs_none : (rows : Rows) (x : TxRow) → run rows [] x ≡ x
unfolding run
runs_none rows x = refl

runs_next : (rows : Rows) (before : List Rule) (r : Rule) (x : TxRow) → run rows (before ++ r ∷ []) x ≡ applied rows (run rows before x) r
unfolding run
runs_next rows before r x = fold-append (applied rows) x before (r ∷ [])

pub rules_follow : RulesFollowOneAnother
rules_follow = record { all = fires_all; one = fires_one; rests = rests; acts = acts; idle = idles; unread = not_read; none = runs_none; next = runs_next }
