-- Of an account the candidates that have what records ask for are enough.
use Rattle.std.proofs.Common.{◌≡◌, Bool, true, false, cond, List, [], ◌∷◌, Option, Some, None, ℤ, inl, inr, refl, sym, ap, ◌∙◌}
use Rattle.std.specs.Prelude.{◌||◌, not}
use Rattle.std.specs.List.{filter, filter_map, cons_option}
use Rattle.std.specs.Option.{option_and_then}
use Rattle.std.specs.Ordering.{int_eq}
use Rattle.std.specs.BTreeSet as set
use Rattle.std.specs.BTreeSet.{BTreeSet}
use Rattle.std.proofs.lemmas.Bool.{or_cases, or_left, or_right}
use Rattle.finite_sums.specs.Maps.{Text, text_cmp}
use Rattle.book_rows.specs.declared.rows.Rows.{Rows}
use Rattle.book_rows.specs.Parts.{account_txs}
use Rattle.bank_import.specs.Matching.{are_same, candidate_at, candidates, meets, is_near, is_open, turn, id_of, with_taken, run_pass, next_pass, somes, is_among, no_match, matched_among}
use Rattle.bank_import.specs.Wanted.{AreAsked, has_amount, has_id, is_asked, asked_at}
use Rattle.bank_import.proofs.Nearest.{and_true}
use Rattle.bank_import.proofs.Grouped.{enough, near_amount}
use Rattle.bank_import.specs.declared.facts.Facts.{Facts}
use Rattle.bank_import.specs.declared.facts.Candidate.{Candidate}
use Rattle.bank_import.specs.declared.facts.Pass.{Pass}
use Rattle.bank_import.specs.declared.facts.Pass.TheVariants.{ById, ByPayee, ByAmount}

abbrev Test : Type 0
Test = Candidate → Bool

abbrev any_id : List Facts → Option Text → Bool
any_id rs None = false
any_id rs (Some id) = has_id rs id

abbrev asks : List Facts → Test
asks rs c = has_amount rs c.amount || any_id rs c.financial_id

-- ---- what agrees with a record is asked for

id_asks : (r : Facts) (rs : List Facts) (o : Option Text) → are_same r.financial_id o ≡ true → any_id (r ∷ rs) o ≡ true
id_asks r rs None h = absurd (none r.financial_id h)
  where
    none : (x : Option Text) → are_same x None ≡ true → ⊥
    none None e = cc
    none (Some a) e = cc
id_asks r rs (Some id) h = or_left (are_same r.financial_id (Some id)) (has_id rs id) h

near_asks : (r : Facts) (rs : List Facts) (c : Candidate) → is_near r c ≡ true → asks (r ∷ rs) c ≡ true
near_asks r rs c h =
    or_left (has_amount (r ∷ rs) c.amount) (any_id (r ∷ rs) c.financial_id) (or_left (int_eq r.amount c.amount) (has_amount rs c.amount) (near_amount r c h))

meets_asks : (p : Pass) (r : Facts) (rs : List Facts) (c : Candidate) → meets p r c ≡ true → asks (r ∷ rs) c ≡ true
meets_asks ById r rs c h = or_right (has_amount (r ∷ rs) c.amount) (any_id (r ∷ rs) c.financial_id) (id_asks r rs c.financial_id h)
meets_asks ByPayee r rs c h = near_asks r rs c (and_true (is_near r c) (are_same r.payee c.payee) h).0
meets_asks ByAmount r rs c h = near_asks r rs c h

more_ids : (r : Facts) (rs : List Facts) (o : Option Text) → any_id rs o ≡ true → any_id (r ∷ rs) o ≡ true
more_ids r rs None h = h
more_ids r rs (Some id) h = or_right (are_same r.financial_id (Some id)) (has_id rs id) h

more_asks : (r : Facts) (rs : List Facts) (c : Candidate) → asks rs c ≡ true → asks (r ∷ rs) c ≡ true
more_asks r rs c h = elim (or_cases (has_amount rs c.amount) (any_id rs c.financial_id) h) [
  | inl s ↦ or_left (has_amount (r ∷ rs) c.amount) (any_id (r ∷ rs) c.financial_id) (or_right (int_eq r.amount c.amount) (has_amount rs c.amount) s)
  | inr s ↦ or_right (has_amount (r ∷ rs) c.amount) (any_id (r ∷ rs) c.financial_id) (more_ids r rs c.financial_id s)
]

-- a test passes all that agrees with one of the records
abbrev Passes : Pass → Test → List Facts → Type 0
Passes p w [] = Unit
Passes p w (r ∷ rs) = ((c : Candidate) → meets p r c ≡ true → w c ≡ true) × Passes p w rs

weaker : (p : Pass) (w v : Test) → ((c : Candidate) → w c ≡ true → v c ≡ true) → (rs : List Facts) → Passes p w rs → Passes p v rs
weaker p w v h [] k = tt
weaker p w v h (r ∷ rs) k = (λ c m. h c (k.0 c m), weaker p w v h rs k.1)

asks_pass : (p : Pass) (rs : List Facts) → Passes p (asks rs) rs
asks_pass p [] = tt
asks_pass p (r ∷ rs) = (meets_asks p r rs, weaker p (asks rs) (asks (r ∷ rs)) (more_asks r rs) rs (asks_pass p rs))

-- ---- the others change nothing

same_run : (p : Pass) (w : Test) (cs : List Candidate) (taken : Text → Bool) (rs : List Facts) (ms : List (Option Text)) → Passes p w rs
    → run_pass p (filter w cs) taken rs ms ≡ run_pass p cs taken rs ms
same_run p w cs taken [] ms h = refl
same_run p w cs taken (r ∷ rs) [] h = refl
same_run p w cs taken (r ∷ rs) (Some m ∷ ms) h = ap (λ l. Some m ∷ l) (same_run p w cs taken rs ms h.1)
same_run p w cs taken (r ∷ rs) (None ∷ ms) h =
    let one : turn p r taken (filter w cs) ≡ turn p r taken cs = enough r (is_open p r taken) w (λ c o. h.0 c (and_true (meets p r c) (not (taken c.id)) o).0) None cs in
    ap (λ o. id_of o ∷ run_pass p (filter w cs) (with_taken (id_of o) taken) rs ms) one
    ∙ ap (λ l. id_of (turn p r taken cs) ∷ l) (same_run p w cs (with_taken (id_of (turn p r taken cs)) taken) rs ms h.1)

module _ (rs : List Facts) (cs : List Candidate) where
  same_pass : (p : Pass) (ms : List (Option Text)) → next_pass p (filter (asks rs) cs) rs ms ≡ next_pass p cs rs ms
  same_pass p ms = same_run p (asks rs) cs (is_among (somes ms)) rs ms (asks_pass p rs)

  same_matches : matched_among (filter (asks rs) cs) rs ≡ matched_among cs rs
  same_matches =
      same_pass ByAmount (next_pass ByPayee (filter (asks rs) cs) rs (next_pass ById (filter (asks rs) cs) rs (no_match rs)))
      ∙ ap (next_pass ByAmount cs rs) (same_pass ByPayee (next_pass ById (filter (asks rs) cs) rs (no_match rs)) ∙ ap (next_pass ByPayee cs rs) (same_pass ById (no_match rs)))

-- ---- the candidates that are asked for

kept : (w : Test) (o : Option Candidate) (l cs : List Candidate) → l ≡ filter w cs
    → cons_option (option_and_then (λ c. cond (w c) (Some c) None) o) l ≡ filter w (cons_option o cs)
kept w None l cs h = h
kept w (Some c) l cs h = by (w c)
  where
    by : (b : Bool) → cons_option (cond b (Some c) None) l ≡ cond b (c ∷ filter w cs) (filter w cs)
    by true = ap (λ x. c ∷ x) h
    by false = h

listed : (w : Test) (f : Text → Option Candidate) (ids : List Text) → filter_map (λ id. option_and_then (λ c. cond (w c) (Some c) None) (f id)) ids ≡ filter w (filter_map f ids)
listed w f [] = refl
listed w f (id ∷ ids) = kept w (f id) (filter_map (λ id. option_and_then (λ c. cond (w c) (Some c) None) (f id)) ids) (filter_map f ids) (listed w f ids)

module _ (amounts : BTreeSet ℤ) (ids : BTreeSet Text) (rs : List Facts) (h : AreAsked amounts ids rs) where
  same_id : (o : Option Text) (amount : ℤ) → is_asked amounts ids amount o ≡ (has_amount rs amount || any_id rs o)
  same_id None amount = ap (λ b. b || false) (h.has_amounts amount)
  same_id (Some id) amount = ap (λ b. b || set.contains text_cmp ids id) (h.has_amounts amount) ∙ ap (λ b. has_amount rs amount || b) (h.has_ids id)

  same_test : (λ (c : Candidate). is_asked amounts ids c.amount c.financial_id) ≡ asks rs
  same_test = λ i. λ c. same_id c.financial_id c.amount i

  -- over them each record matches as over all
  pub asked_are_enough : (rows : Rows) (account : Text) → matched_among (filter_map (asked_at rows amounts ids) (account_txs rows account)) rs ≡ matched_among (candidates rows account) rs
  unfolding candidates
  asked_are_enough rows account =
      ap (λ cs. matched_among cs rs) (listed (λ c. is_asked amounts ids c.amount c.financial_id) (candidate_at rows) (account_txs rows account))
      ∙ ap (λ w. matched_among (filter w (filter_map (candidate_at rows) (account_txs rows account))) rs) same_test
      ∙ same_matches rs (filter_map (candidate_at rows) (account_txs rows account))
