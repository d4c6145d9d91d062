-- The rules that run are the live ones.
use Rattle.std.proofs.Common.{◌≡◌, Bool, true, false, cond, List, [], ◌∷◌, Some, None, Result, Ok, Err, arith, refl, ap, sym, ◌∙◌, subst, inl, inr}
use Rattle.std.specs.Prelude.{◌↔◌}
use Rattle.std.specs.declared.cmp.Ordering.{Ordering}
use Rattle.std.specs.declared.cmp.Ordering.TheVariants.{Less, Equal, Greater}
use Rattle.std.specs.Ordering.{is_eq, is_lt, eq_by_cmp}
use Rattle.std.specs.Cmp.{eq_by_cmp_equiv}
use Rattle.std.specs.List.{AllByRecursion, IsDistinct, Contains, filter_map, cons_option}
use Rattle.std.specs.List.Sorted.{IsStrictlySortedBy}
use Rattle.std.specs.FinMap as map
use Rattle.std.specs.FinMap.{find, is_sorted, entries_sorted, get-entries}
use Rattle.std.specs.FinMap.Entries.{below_all}
use Rattle.std.proofs.lemmas.List.Sorted.{Contains-permutation, IsPermutation-sym}
use Rattle.std.proofs.lemmas.Map.Text.{is_eq-slice_cmp}
use Rattle.finite_sums.specs.Maps.{Text, text_cmp}
use Rattle.finite_sums.proofs.Texts.{text_total, text_same}
use Rattle.finite_sums.proofs.MapSums.{both_true, so}
use Rattle.book_rows.specs.declared.rows.Rows.{Rows}
use Rattle.book_rows.specs.declared.rows.RuleRow.{RuleRow}
use Rattle.book_rows.specs.declared.fault.EditFault.{EditFault}
use Rattle.book_rows.specs.declared.fault.RulePart.TheVariants.{Conditions, Actions}
use Rattle.book_edits.proofs.Valid.{inside, passed}
use Rattle.rule_engine.specs.declared.rule.Rule.{Rule}
use Rattle.rule_engine.specs.Reading.{read_part, condition_of, action_of, read_rule}
use Rattle.rule_engine.specs.Running.{read_live, ok_rule, rules_of}
use Rattle.rule_engine.specs.Scores.{rank_cmp, same_id, ranked}
use Rattle.rule_engine.specs.Laws.{IsLiveRule, RulesAreRanked}
use Rattle.rule_engine.proofs.Ranks.{first_or_rest, here, there, unique, ranked_shuffles, ranked_rises}

-- ---- one row

pub read_id : (id : Text) (row : RuleRow) (r : Rule) → read_rule id row ≡ Ok r → r.id ≡ id
unfolding read_rule
read_id id row r h =
    let p = passed (read_part Conditions condition_of row.conditions) _ _ h in
    let q = passed (read_part Actions action_of row.actions) _ _ p.2 in
    ap (λ (x : Rule). x.id) (sym (inside _ _ q.2))

ok_is : (o : Result Rule EditFault) (r : Rule) → ok_rule o ≡ Some r → o ≡ Ok r
ok_is (Ok a) r h = ap (λ (x : Rule). Ok x) (let e : Some a ≡ Some r = h in cc)
ok_is (Err fault) r h = cc

live_parts : (id : Text) (row : RuleRow) (r : Rule) → read_live (id, row) ≡ Some r → (row.tombstone ≡ false) × (read_rule id row ≡ Ok r)
live_parts id row r h =
    (elim row.tombstone as (λ b. cond b None (ok_rule (read_rule id row)) ≡ Some r → (b ≡ false) × (read_rule id row ≡ Ok r)) [
      | true ↦ λ e. cc
      | false ↦ λ e. (refl, ok_is (read_rule id row) r e)
    ]) h

live_back : (id : Text) (row : RuleRow) (r : Rule) → row.tombstone ≡ false → read_rule id row ≡ Ok r → read_live (id, row) ≡ Some r
live_back id row r t h = ap (λ b. cond b None (ok_rule (read_rule id row))) t ∙ ap ok_rule h

-- ---- rows in the order of their ids

less_no_tie : (o : Ordering) → is_lt o ≡ true → is_eq o ≡ false
less_no_tie Less h = refl
less_no_tie Equal h = cc
less_no_tie Greater h = cc

equal : (o : Ordering) → is_eq o ≡ true → o ≡ Equal
equal Less h = cc
equal Equal h = refl
equal Greater h = cc

absent : (k : Text) (es : List (Text × RuleRow)) → below_all text_cmp k es ≡ true → find text_cmp k es ≡ None
absent k [] h = refl
absent k (e ∷ es) h =
    let p = both_true _ _ h in
    ap (λ b. cond b (Some e.1) (find text_cmp k es)) (less_no_tie (text_cmp k e.0) p.0) ∙ absent k es p.1

later : (e : Text × RuleRow) (es : List (Text × RuleRow)) → is_sorted text_cmp (e ∷ es) ≡ true → (q : Text) (x : RuleRow) → find text_cmp q es ≡ Some x → (b : Bool) → eq_by_cmp text_cmp q e.0 ≡ b → cond b (Some e.1) (find text_cmp q es) ≡ Some x
later e es s q x found true p =
    let same : q ≡ e.0 = text_same q e.0 (equal (text_cmp q e.0) p) in
    let gone : find text_cmp q es ≡ None = ap (λ k. find text_cmp k es) same ∙ absent e.0 es (both_true _ _ s).0 in
    let bad : None ≡ Some x = sym gone ∙ found in
    cc
later e es s q x found false p = found

-- the rule is that of the row of its id
abbrev IsAt : List (Text × RuleRow) → Rule → Type 0
IsAt es r = (row : RuleRow) × (find text_cmp r.id es ≡ Some row) × (row.tombstone ≡ false) × (read_rule r.id row ≡ Ok r)

at_front : (id : Text) (row : RuleRow) (es : List (Text × RuleRow)) (r : Rule) → read_live (id, row) ≡ Some r → IsAt ((id, row) ∷ es) r
at_front id row es r h =
    let parts = live_parts id row r h in
    let same : r.id ≡ id = read_id id row r parts.1 in
    let F : Text → Type 0 = λ q. (find text_cmp q ((id, row) ∷ es) ≡ Some row) × (row.tombstone ≡ false) × (read_rule q row ≡ Ok r) in
    let tied : eq_by_cmp text_cmp id id ≡ true = (eq_by_cmp_equiv text_total).refl id in
    let at = subst F (sym same) (ap (λ b. cond b (Some row) (find text_cmp id es)) tied, parts.0, parts.1) in
    (row, at.0, at.1, at.2)

forth : (es : List (Text × RuleRow)) (r : Rule) → is_sorted text_cmp es ≡ true → Contains (filter_map read_live es) r → IsAt es r
forth [] r s c = absurd (omega (arith, c.1))
forth (e ∷ es) r s c =
    let rest : Contains (filter_map read_live es) r → IsAt (e ∷ es) r = λ d.
    let at = forth es r (both_true _ _ s).1 d in
    (at.0, later e es s r.id at.0 at.1 (eq_by_cmp text_cmp r.id e.0) refl, at.2, at.3) in
    (elim (read_live e) as (λ o. read_live e ≡ o → Contains (cons_option o (filter_map read_live es)) r → IsAt (e ∷ es) r) [
      | None ↦ λ is d. rest d
      | Some a ↦ λ is d. elim (first_or_rest a (filter_map read_live es) r d) [
        | inl same ↦ at_front e.0 e.1 es r (is ∙ ap (λ (x : Rule). Some x) same)
        | inr more ↦ rest more
      ]
    ]) refl c

back : (es : List (Text × RuleRow)) (r : Rule) → IsAt es r → Contains (filter_map read_live es) r
back [] r at = absurd (let bad : None ≡ Some at.0 = at.1 in cc)
back (e ∷ es) r at =
    (elim (eq_by_cmp text_cmp r.id e.0) as (λ b. eq_by_cmp text_cmp r.id e.0 ≡ b → cond b (Some e.1) (find text_cmp r.id es) ≡ Some at.0 → Contains (filter_map read_live (e ∷ es)) r) [
      | true ↦ λ p found.
          let row : e.1 ≡ at.0 = (let f : Some e.1 ≡ Some at.0 = found in cc) in
          let id : r.id ≡ e.0 = text_same r.id e.0 (equal (text_cmp r.id e.0) p) in
          let G : Text → RuleRow → Type 0 = λ q x. read_live (q, x) ≡ Some r in
          let is : read_live (e.0, e.1) ≡ Some r = subst (λ q. G q e.1) id (subst (G r.id) (sym row) (live_back r.id at.0 r at.2 at.3)) in
          subst (λ o. Contains (cons_option o (filter_map read_live es)) r) (sym is) (here r (filter_map read_live es))
      | false ↦ λ p found.
          let more = back es r (at.0, found, at.2, at.3) in
          elim (read_live e) as (λ o. Contains (cons_option o (filter_map read_live es)) r) [ None ↦ more | Some a ↦ there a (filter_map read_live es) r more ]
    ]) refl at.1

apart : (a : Rule) (es : List (Text × RuleRow)) → below_all text_cmp a.id es ≡ true → AllByRecursion (λ y. same_id a y ≡ false) (filter_map read_live es)
apart a [] h = tt
apart a (e ∷ es) h =
    let p = both_true _ _ h in
    (elim (read_live e) as (λ o. read_live e ≡ o → AllByRecursion (λ y. same_id a y ≡ false) (cons_option o (filter_map read_live es))) [
      | None ↦ λ is. apart a es p.1
      | Some y ↦ λ is.
          let id : y.id ≡ e.0 = read_id e.0 e.1 y (live_parts e.0 e.1 y is).1 in
          let before : is_lt (text_cmp a.id y.id) ≡ true = ap (λ q. is_lt (text_cmp a.id q)) id ∙ p.0 in
          (sym (is_eq-slice_cmp a.id y.id) ∙ less_no_tie (text_cmp a.id y.id) before, apart a es p.1)
    ]) refl

distinct_in : (es : List (Text × RuleRow)) → is_sorted text_cmp es ≡ true → IsDistinct same_id (filter_map read_live es)
unfolding IsDistinct
distinct_in [] s = tt
distinct_in (e ∷ es) s =
    let p = both_true _ _ s in
    (elim (read_live e) as (λ o. read_live e ≡ o → IsDistinct same_id (cons_option o (filter_map read_live es))) [
      | None ↦ λ is. distinct_in es p.1
      | Some a ↦ λ is.
          let id : a.id ≡ e.0 = read_id e.0 e.1 a (live_parts e.0 e.1 a is).1 in
          (apart a es (ap (λ q. below_all text_cmp q es) id ∙ p.0), distinct_in es p.1)
    ]) refl

-- ---- the rules of a book

pub live_distinct : (rows : Rows) → IsDistinct same_id (filter_map read_live (map.entries rows.rules))
live_distinct rows = distinct_in (map.entries rows.rules) (so _ (entries_sorted rows.rules))

in_rank : (rules : List Rule) (r : Rule) → Contains (ranked rules) r → Contains rules r
in_rank rules r c = Contains-permutation (ranked rules) rules r (IsPermutation-sym rules (ranked rules) (ranked_shuffles rules)) c

pub are_live : (rows : Rows) (r : Rule) → Contains (rules_of rows) r ↔ IsLiveRule rows r
unfolding rules_of
are_live rows r = (
  λ c.
      let at = forth (map.entries rows.rules) r (so _ (entries_sorted rows.rules)) (in_rank (filter_map read_live (map.entries rows.rules)) r c) in
      record { read = (at.0, get-entries rows.rules r.id ∙ at.1, at.2, at.3) },
  λ l.
      Contains-permutation (filter_map read_live (map.entries rows.rules)) _ r (ranked_shuffles (filter_map read_live (map.entries rows.rules)))
      (back (map.entries rows.rules) r (l.read.0, sym (get-entries rows.rules r.id) ∙ l.read.1, l.read.2, l.read.3)),
)

rising : (rows : Rows) → IsStrictlySortedBy rank_cmp (rules_of rows)
unfolding rules_of
rising rows = ranked_rises _ (live_distinct rows)

pub rules_ranked : RulesAreRanked
rules_ranked = record {
  live = are_live;
  rises = rising;
  one = λ rows rules same up. unique rules (rules_of rows) up (rising rows) (λ q c. (are_live rows q).1 ((same q).0 c)) (λ q c. (same q).1 ((are_live rows q).0 c));
}
