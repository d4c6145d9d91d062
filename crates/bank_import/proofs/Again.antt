-- A second import finds each record's own row.
use Rattle.std.proofs.Common.{◌≡◌, ℕ, zero, suc, ◌<◌, Bool, true, false, cond, List, [], ◌∷◌, length, map, Option, Some, None, refl, sym, ap, ◌∙◌, ⊎_elim, subst, arith}
use Rattle.std.specs.Prelude.{◌&&◌, not, is_some, nat_le}
use Rattle.std.specs.List.{slice_get}
use Rattle.std.specs.Ordering.{int_eq, is_eq}
use Rattle.std.specs.declared.cmp.Ordering.TheVariants.{Less}
use Rattle.std.specs.Cmp.Lexicographic.{nat_list_cmp_total}
use Rattle.finite_sums.specs.Maps.{Text, text_cmp}
use Rattle.book_edits.specs.Checks.{same_id}
use Rattle.bank_import.specs.Matching.{are_same, is_near, distance, turn, id_of, meets, with_taken, run_pass, somes, is_among, next_pass, no_match, matched_among}
use Rattle.bank_import.specs.Laws.{IsIn, AllAbove, Rising, NoWorse, rank, IsBest}
use Rattle.bank_import.specs.Second.{or_else, but_payee, IsOwn, IsAfter, HaveIds, LawOfSecond}
use Rattle.bank_import.proofs.Passes.{Test}
use Rattle.bank_import.proofs.Mapped.{map_at, at_map}
use Rattle.bank_import.proofs.Nearest.{id_same, id_itself, and_true, turn_none}
use Rattle.bank_import.proofs.Runs.{Matches, some_is, law_of_matches}
use Rattle.bank_import.proofs.Best.{turn_best, law_of_best}
use Rattle.bank_import.specs.declared.facts.Facts.{Facts}
use Rattle.bank_import.specs.declared.facts.Candidate.{Candidate}
use Rattle.bank_import.specs.declared.facts.Pass.{Pass}
use Rattle.bank_import.specs.declared.facts.Pass.TheVariants.{ById, ByPayee, ByAmount}

-- ---- the run, where each turn finds its own

is_not : (b : Bool) → (b ≡ true → ⊥) → b ≡ false
is_not true h = absurd (h refl)
is_not false h = refl

pub run_own : (cs : List Candidate) (rs : List Facts) (os : List Text) (taken : Test) → length os ≡ length rs
    → ((i : ℕ) (r : Facts) (x : Text) → slice_get rs i ≡ Some r → slice_get os i ≡ Some x → (t : Test) → t x ≡ false → id_of (turn ById r t cs) ≡ Some x)
    → ((i j : ℕ) (x : Text) → slice_get os i ≡ Some x → slice_get os j ≡ Some x → i ≡ j)
    → ((i : ℕ) (x : Text) → slice_get os i ≡ Some x → taken x ≡ false)
    → run_pass ById cs taken rs (no_match rs) ≡ map (λ x. Some x) os
run_own cs [] [] taken len turns apart free = refl
run_own cs [] (x ∷ os) taken len turns apart free = absurd (let bad : suc (length os) ≡ zero = len in cc)
run_own cs (r ∷ rs) [] taken len turns apart free = absurd (let bad : zero ≡ suc (length rs) = len in cc)
run_own cs (r ∷ rs) (x ∷ os) taken len turns apart free =
    let here : id_of (turn ById r taken cs) ≡ Some x = turns zero r x refl refl taken (free zero x refl) in
    let later = run_own cs rs os (with_taken (Some x) taken) (let e : suc (length os) ≡ suc (length rs) = len in cc)
    (λ i s y a b. turns (suc i) s y a b)
    (λ i j y a b. let e : suc i ≡ suc j = apart (suc i) (suc j) y a b in cc)
    (λ i y a. ap (λ b. cond b true (taken y))
    (is_not (same_id x y) (λ e. let q : x ≡ y = id_same x y e in let bad : zero ≡ suc i = apart zero (suc i) y (ap (λ z. Some z) q) a in cc))
    ∙ free (suc i) y a) in
    ap (λ o. o ∷ run_pass ById cs (with_taken o taken) rs (no_match rs)) here ∙ ap (λ ms. Some x ∷ ms) later

pub run_full : (p : Pass) (cs : List Candidate) (rs : List Facts) (os : List Text) (taken : Test) → length os ≡ length rs
    → run_pass p cs taken rs (map (λ x. Some x) os) ≡ map (λ x. Some x) os
run_full p cs [] [] taken len = refl
run_full p cs [] (x ∷ os) taken len = absurd (let bad : suc (length os) ≡ zero = len in cc)
run_full p cs (r ∷ rs) [] taken len = absurd (let bad : zero ≡ suc (length rs) = len in cc)
run_full p cs (r ∷ rs) (x ∷ os) taken len = ap (λ ms. Some x ∷ ms) (run_full p cs rs os taken (let e : suc (length os) ≡ suc (length rs) = len in cc))

pub none_among : (rs : List Facts) (x : Text) → is_among (somes (no_match rs)) x ≡ false
none_among [] x = refl
none_among (r ∷ rs) x = none_among rs x

-- ---- order

pub irreflexive : (x : Text) → text_cmp x x ≡ Less → ⊥
irreflexive x h = let bad : true ≡ false = sym (id_itself x) ∙ ap is_eq h in cc

above : (a : Text) (cs : List Candidate) (c : Candidate) → AllAbove a cs → IsIn cs c → text_cmp a c.id ≡ Less
above a [] c h i = absurd i
above a (d ∷ cs) c h i = ⊎_elim (λ (e : d ≡ c). subst (λ (y : Candidate). text_cmp a y.id ≡ Less) e h.0) (λ j. above a cs c h.1 j) i

not_above : (x y : Text) → x ≡ y → text_cmp x y ≡ Less → ⊥
not_above x y e h = irreflexive x (subst (λ (z : Text). text_cmp x z ≡ Less) (sym e) h)

one_of : (cs : List Candidate) → Rising cs → (a b : Candidate) → IsIn cs a → IsIn cs b → a.id ≡ b.id → a ≡ b
one_of [] rise a b i j e = absurd i
one_of (c ∷ cs) rise a b i j e =
    ⊎_elim (λ (p : c ≡ a). ⊎_elim (λ (q : c ≡ b). sym p ∙ q)
    (λ q. absurd (not_above c.id b.id (ap (λ (y : Candidate). y.id) p ∙ e) (above c.id cs b rise.0 q))) j)
    (λ p. ⊎_elim (λ (q : c ≡ b). absurd (not_above c.id a.id (ap (λ (y : Candidate). y.id) q ∙ sym e) (above c.id cs a rise.0 p)))
    (λ q. one_of cs rise.1 a b p q e) j) i

-- c is no worse than d, and d no worse than what c became
both_ways : (r : Facts) (c d e : Candidate) → distance r e ≡ distance r c → e.id ≡ c.id → NoWorse r c d → NoWorse r d e → d.id ≡ e.id
both_ways r c d e far id n m =
    ⊎_elim (λ (l : distance r c < distance r d).
    ⊎_elim (λ (k : distance r d < distance r e). absurd (omega arith)) (λ k. let g : distance r d ≡ distance r e = k.0 in absurd (omega arith)) m)
    (λ l. let f : distance r c ≡ distance r d = l.0 in
    ⊎_elim (λ (k : distance r d < distance r e). absurd (omega arith))
    (λ k. ⊎_elim (λ (q : d ≡ e). ap (λ (y : Candidate). y.id) q)
    (λ (q : text_cmp d.id e.id ≡ Less).
    ⊎_elim (λ (s : c ≡ d). sym (ap (λ (y : Candidate). y.id) s) ∙ sym id)
    (λ (s : text_cmp c.id d.id ≡ Less). absurd (not_above c.id e.id (sym id) (nat_list_cmp_total.trans c.id d.id e.id s q))) l.1) k.1) m) n

-- ---- ids

near_one_id : (r : Facts) (c : Candidate) → is_near r c ≡ true → (is_some r.financial_id && is_some c.financial_id) ≡ false
near_one_id r c h = by (is_some r.financial_id && is_some c.financial_id) (and_true (int_eq r.amount c.amount && nat_le (distance r c) 7) (not (is_some r.financial_id && is_some c.financial_id)) h).1
  where
    by : (b : Bool) → not b ≡ true → b ≡ false
    by true e = cc
    by false e = refl

-- after a match the row has the record's id
id_then : (p : Pass) (r : Facts) (c : Candidate) (k : Text) → r.financial_id ≡ Some k → meets p r c ≡ true → or_else c.financial_id r.financial_id ≡ Some k
id_then p r c k e h = by p c.financial_id refl h
  where
    clash : (o : Option Text) (f : Text) → c.financial_id ≡ Some f → o ≡ Some k → (is_some o && is_some c.financial_id) ≡ false → ⊥
    clash None f g e2 h2 = let bad : None ≡ Some k = e2 in cc
    clash (Some q) f g e2 h2 = let bad : true ≡ false = sym (ap is_some g) ∙ h2 in cc

    by : (p : Pass) (o : Option Text) → c.financial_id ≡ o → meets p r c ≡ true → or_else o r.financial_id ≡ Some k
    by p None g m = e
    by ById (Some f) g m =
        let s : same_id k f ≡ true = sym (ap (λ o. are_same o c.financial_id) e ∙ ap (are_same (Some k)) g) ∙ m in
        ap (λ z. Some z) (sym (id_same k f s))
    by ByPayee (Some f) g m = absurd (clash r.financial_id f g e (near_one_id r c (and_true (is_near r c) (are_same r.payee c.payee) m).0))
    by ByAmount (Some f) g m = absurd (clash r.financial_id f g e (near_one_id r c m))

-- records that come again, with other payees perhaps
module _ (cs : List Candidate) (rise : Rising cs) (rs ss : List Facts) (same : map but_payee ss ≡ map but_payee rs) (os : List Text) where
  abbrev pub ms : Matches
  ms = matched_among cs rs

  -- what was compared of a record the first time
  record WasFirst (i : ℕ) (s : Facts) : Type 0 where
    facts : Facts
    at : slice_get rs i ≡ Some facts
    alike : but_payee facts ≡ but_payee s

  was_first : (i : ℕ) (s : Facts) → slice_get ss i ≡ Some s → WasFirst i s
  was_first i s a =
      let w = map_at but_payee rs i (but_payee s) (ap (λ l. slice_get l i) (sym same) ∙ at_map but_payee ss i s a) in
      record { facts = w.0; at = w.1; alike = w.2 }

  same_ids : (r s : Facts) → but_payee r ≡ but_payee s → r.financial_id ≡ s.financial_id
  same_ids r s e = ap (λ (y : Facts). y.financial_id) e

  pub own_id : (i : ℕ) (d : Candidate) (o : IsOwn cs ss ms os i d) (k : Text) → o.entry.financial_id ≡ Some k → d.financial_id ≡ Some k
  own_id i d o k e =
      let w = was_first i o.entry o.at in
      let r = w.facts in
      let id : r.financial_id ≡ o.entry.financial_id = same_ids r o.entry w.alike in
      ⊎_elim (λ m. ap (λ (y : Candidate). y.financial_id) m.1 ∙ e)
      (λ m. let b = law_of_best cs rise rs i r m.0.id w.at m.2 in
      let one : b.candidate ≡ m.0 = one_of cs rise b.candidate m.0 b.is_in m.1 b.id in
      ap (λ (y : Candidate). y.financial_id) m.3 ∙ ap (or_else m.0.financial_id) (sym id) ∙ id_then b.by r m.0 k (id ∙ e) (ap (meets b.by r) (sym one) ∙ b.agrees))
      o.how

  -- a record that matched nothing agrees with nothing that is left, also with its other payee
  pub left_again : (i : ℕ) (s : Facts) → slice_get ss i ≡ Some s → slice_get ms i ≡ Some None → (p : Pass) (c : Candidate) → IsIn cs c → is_among (somes ms) c.id ≡ false → meets p s c ≡ false
  left_again i s a none p c in' left = by p
    where
      w : WasFirst i s
      w = was_first i s a

      agrees : (p : Pass) → meets p w.facts c ≡ false
      agrees p = (law_of_matches cs rs).left i w.facts w.at none p c in' left

      near : is_near s c ≡ false
      near = ap (λ (y : Facts). is_near y c) (sym w.alike) ∙ agrees ByAmount

      by : (p : Pass) → meets p s c ≡ false
      by ById = ap (λ o. are_same o c.financial_id) (sym (same_ids w.facts s w.alike)) ∙ agrees ById
      by ByPayee = ap (λ b. b && are_same s.payee c.payee) near
      by ByAmount = near

  -- a match of a record with which one that is left agrees by id is of the first pass, and no worse
  pub first : (i : ℕ) (r : Facts) (x : Text) (b : IsBest cs r ms x) (d : Candidate) → IsIn cs d → is_among (somes ms) d.id ≡ false → meets ById r d ≡ true → NoWorse r b.candidate d
  first i r x b d in' left agrees = by b.by refl
    where
      late : (p : Pass) → b.by ≡ p → rank ById < rank p → ⊥
      late p e l = let bad : true ≡ false = sym agrees ∙ b.earlier ById (subst (λ (q : Pass). rank ById < rank q) (sym e) l) d in' left in cc

      by : (p : Pass) → b.by ≡ p → NoWorse r b.candidate d
      by ById e = b.best d in' left (ap (λ p. meets p r d) e ∙ agrees)
      by ByPayee e = absurd (late ByPayee e (omega arith))
      by ByAmount e = absurd (late ByAmount e (omega arith))

  pub found : (o : Option Text) (x : Text) → (o ≡ None → ⊥) → ((y : Text) → o ≡ Some y → y ≡ x) → o ≡ Some x
  found None x h g = absurd (h refl)
  found (Some y) x h g = ap (λ z. Some z) (g y refl)

  -- what is left and has the id is no better than the own row
  pub left_own : (i : ℕ) (s : Facts) → slice_get ss i ≡ Some s → (d0 : Candidate) (o : IsOwn cs ss ms os i d0) → (d : Candidate) → IsIn cs d → is_among (somes ms) d.id ≡ false
      → meets ById s d ≡ true → NoWorse s d d0 → d.id ≡ d0.id
  left_own i s a d0 o d in' left agrees worse =
      let w = was_first i s a in
      let r = w.facts in
      let agreed : meets ById r d ≡ true = ap (λ t. are_same t d.financial_id) (same_ids r s w.alike) ∙ agrees in
      ⊎_elim (λ m. absurd (let bad : true ≡ false = sym agrees ∙ left_again i s a m.0 ById d in' left in cc))
      (λ m. let b = law_of_best cs rise rs i r m.0.id w.at m.2 in
      let one : b.candidate ≡ m.0 = one_of cs rise b.candidate m.0 b.is_in m.1 b.id in
      let far : distance s d0 ≡ distance s m.0 = ap (distance s) m.3 in
      let id : d0.id ≡ m.0.id = ap (λ (y : Candidate). y.id) m.3 in
      let better : NoWorse r m.0 d = subst (λ (y : Candidate). NoWorse r y d) one (first i r m.0.id b d in' left agreed) in
      both_ways s m.0 d d0 far id (subst (λ (y : Facts). NoWorse y m.0 d) w.alike better) worse)
      o.how

module _ (cs : List Candidate) (rise : Rising cs) (rs ss : List Facts) (same : map but_payee ss ≡ map but_payee rs) (ids : HaveIds ss) (os : List Text) (after : List Candidate)
    (is : IsAfter cs ss (matched_among cs rs) os after) where
  turns : (i : ℕ) (r : Facts) (x : Text) → slice_get ss i ≡ Some r → slice_get os i ≡ Some x → (t : Test) → t x ≡ false → id_of (turn ById r t after) ≡ Some x
  turns i r x a b t free =
      let k = ids.some i r a in
      let w = is.owned i r a in
      let d0 = w.0 in
      let o = w.2 in
      let entry : o.entry ≡ r = some_is o.entry r (sym o.at ∙ a) in
      let x_is : d0.id ≡ x = some_is d0.id x (sym o.own ∙ b) in
      let id0 : d0.financial_id ≡ Some k.0 = own_id cs rise rs ss same os i d0 o k.0 (ap (λ (y : Facts). y.financial_id) entry ∙ k.1) in
      let agrees0 : meets ById r d0 ≡ true = ap (λ q. are_same q d0.financial_id) k.1 ∙ ap (are_same (Some k.0)) id0 ∙ id_itself k.0 in
      let free0 : t d0.id ≡ false = ap t x_is ∙ free in
      found cs rise rs ss same os (id_of (turn ById r t after)) x
      (λ e. let bad : true ≡ false = sym agrees0 ∙ turn_none ById r t after e d0 w.1 free0 in cc)
      (λ y e. let c = turn_best ById r t after is.rising y e in
      ⊎_elim (λ l. sym c.id ∙ left_own cs rise rs ss same os i r a d0 o c.candidate l.0 l.1 c.agrees (c.best d0 w.1 free0 agrees0) ∙ x_is)
      (λ l. let s = l.1 in
      let k2 = ids.some l.0 s.entry s.at in
      let id2 : c.candidate.financial_id ≡ Some k2.0 = own_id cs rise rs ss same os l.0 c.candidate s k2.0 k2.1 in
      let one_id : same_id k.0 k2.0 ≡ true = sym (ap (λ q. are_same q c.candidate.financial_id) k.1 ∙ ap (are_same (Some k.0)) id2) ∙ c.agrees in
      let one : i ≡ l.0 = ids.apart i l.0 r s.entry k.0 a s.at k.1 (k2.1 ∙ ap (λ z. Some z) (sym (id_same k.0 k2.0 one_id))) in
      some_is y x (sym (ap (λ z. Some z) c.id) ∙ sym s.own ∙ ap (slice_get os) (sym one) ∙ b))
      (is.from c.candidate c.is_in))

  second : matched_among after ss ≡ map (λ x. Some x) os
  second =
      let m1 : next_pass ById after ss (no_match ss) ≡ map (λ x. Some x) os =
      run_own after ss os (is_among (somes (no_match ss))) is.len turns is.apart (λ i x e. none_among ss x) in
      ap (λ ms. next_pass ByAmount after ss (next_pass ByPayee after ss ms)) m1
      ∙ ap (next_pass ByAmount after ss) (run_full ByPayee after ss os (is_among (somes (map (λ x. Some x) os))) is.len)
      ∙ run_full ByAmount after ss os (is_among (somes (map (λ x. Some x) os))) is.len

pub law_of_second : LawOfSecond
law_of_second cs rise rs ss same ids os after is = second cs rise rs ss same ids os after is
