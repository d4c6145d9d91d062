use Rattle.std.proofs.Common.{◌≡◌, ℕ, List, [], ◌∷◌, map, Bool, true, false, cond, Option, Some, Ok, IfOk, IfErr, IsUtf8, refl, sym, ap, ◌∙◌, subst}
use Rattle.std.specs.Str.{bytes_eq}
use Rattle.std.specs.List.{All, slice_get}
use Rattle.std.specs.Option.{option_and_then}
use Rattle.clap.specs.Walk.{Row, first_of}
use Rattle.clap.specs.Words.{rows_of, found_of, first_value}
use Rattle.clap.specs.declared.parser.matches.ArgMatches.{ArgMatches}
use Rattle.clap.proofs.WalkLemmas.{first_value-rows}
use Rattle.budget_top.specs.Line.{Pair, value_in}
use Rattle.budget_top.specs.Clap.{row, IsFoundIn}
use Rattle.budget_top.specs.Words.{planned, planned_line, planned_by, IsWordFault}
use Rattle.budget_top.proofs.planning.plan.Goals as goal

at_pair : (name : List ℕ) (pair : Pair) (pairs : List Pair) (b : Bool) (o : Option Row) → option_and_then (λ (r : Row). slice_get r.values 0) o ≡ value_in pairs name
    → option_and_then (λ (r : Row). slice_get r.values 0) (cond b (Some (row pair)) o) ≡ cond b (Some pair.1) (value_in pairs name)
at_pair name pair pairs true o h = refl
at_pair name pair pairs false o h = h

first_is : (name : List ℕ) (pairs : List Pair) → first_of name (map row pairs) ≡ value_in pairs name
first_is name [] = refl
first_is name (pair ∷ pairs) = at_pair name pair pairs (bytes_eq pair.0 name) _ (first_is name pairs)

given_is : (m : ArgMatches) (pairs : List Pair) → rows_of (found_of m) ≡ map row pairs → (name : List ℕ) → first_value (found_of m) name ≡ value_in pairs name
given_is m pairs e name = first_value-rows (found_of m) name ∙ ap (first_of name) e ∙ first_is name pairs

planned_is : (words : List (List ℕ)) (m : ArgMatches) → IsFoundIn words (Some m) → planned words ≡ planned_by (λ name. first_value (found_of m) name)
planned_is words m found =
    let same : (λ name. first_value (found_of m) name) ≡ value_in found.0 = λ i name. given_is m found.0 found.2 name i in
    ap planned_line found.1 ∙ sym (ap planned_by same)

pub line_matches-requires : goal.line_matches-requires
line_matches-requires c = subst (All (λ t. IsUtf8 t.now)) (sym c.as_slice-2.ensures.value) c.in_ok-texts.ensures.utf8

pub returns-in-Some-clause-ok : goal.returns-in-Some-clause-ok
returns-in-Some-clause-ok c =
    let words = ap (map (λ t. t.now)) c.as_slice-2.ensures.value ∙ c.in_ok-texts.ensures.same ∙ c.as_slice.ensures in
    let is = planned_is (map (λ t. t.now) c.as_slice-2.result.now) c.in-Some.given (rw c.in-Some.is at c.in_ok-given.ensures) in
    subst (λ d. IfOk c.plan_of.result (λ plan. d ≡ Ok plan)) (sym (ap planned (sym words) ∙ is)) c.plan_of.ensures.ok

pub returns-in-Some-clause-err : goal.returns-in-Some-clause-err
returns-in-Some-clause-err c =
    let words = ap (map (λ t. t.now)) c.as_slice-2.ensures.value ∙ c.in_ok-texts.ensures.same ∙ c.as_slice.ensures in
    let is = planned_is (map (λ t. t.now) c.as_slice-2.result.now) c.in-Some.given (rw c.in-Some.is at c.in_ok-given.ensures) in
    subst (λ d. IfErr c.plan_of.result (IsWordFault d)) (sym (ap planned (sym words) ∙ is)) c.plan_of.ensures.err
