-- A second import finds each record's own row, also of records without an id that made one.
use Rattle.std.proofs.Common.{◌≡◌, ℕ, zero, suc, ◌<◌, Bool, true, false, List, [], ◌∷◌, length, map, Option, Some, None, refl, sym, ap, ◌∙◌, inl, inr, ◌⊎◌, ⊎_elim, subst, arith}
use Rattle.std.proofs.Math.IntN.{+ℤ_invr}
use Rattle.std.specs.Prelude.{ℤ, ◌-ℤ◌, unsigned_abs, ◌&&◌, not, is_some, nat_le}
use Rattle.std.specs.List.{slice_get}
use Rattle.std.specs.Ordering.{int_eq}
use Rattle.std.specs.Cmp.{int_eq_equiv}
use Rattle.std.specs.declared.cmp.Ordering.TheVariants.{Less}
use Rattle.std.specs.Cmp.Lexicographic.{nat_list_cmp_total}
use Rattle.finite_sums.specs.Maps.{Text, text_cmp}
use Rattle.book_edits.specs.Checks.{same_id}
use Rattle.bank_import.specs.Matching.{are_same, is_near, distance, days_apart, turn, id_of, meets, is_open, run_pass, somes, is_among, next_pass, no_match, matched_among}
use Rattle.bank_import.specs.Laws.{Rising, NoWorse}
use Rattle.bank_import.specs.Second.{but_payee, made, IsOwn, IsAfter, HaveIdsOrRows, MadeRise, LawOfRows}
use Rattle.bank_import.proofs.Passes.{Test}
use Rattle.bank_import.proofs.Nearest.{id_same, id_itself, turn_none, turn_took}
use Rattle.bank_import.proofs.Runs.{Matches, some_is, among_at, no_match_len, no_match_at}
use Rattle.bank_import.proofs.Grouped.{turn_none_id, none_can}
use Rattle.bank_import.proofs.Best.{turn_best}
use Rattle.bank_import.proofs.Again.{irreflexive, none_among, own_id, found, left_again, left_own}
use Rattle.bank_import.proofs.Outs.{out, AreOwn, among_from, out_len, out_some, out_not, out_keep, out_none, out_own, out_all, is_not, run_takes, Taken}
use Rattle.bank_import.specs.declared.facts.Facts.{Facts}
use Rattle.bank_import.specs.declared.facts.Candidate.{Candidate}
use Rattle.bank_import.specs.declared.facts.Pass.{Pass}
use Rattle.bank_import.specs.declared.facts.Pass.TheVariants.{ById, ByPayee, ByAmount}

abbrev pub has_id : Facts → Bool
has_id r = is_some r.financial_id

abbrev pub has_payee : Facts → Bool
has_payee r = is_some r.payee

abbrev pub any : Facts → Bool
any r = true

is_none : (o : Option Text) → is_some o ≡ false → o ≡ None
is_none None h = refl
is_none (Some x) h = cc

there : (o : Option Text) → is_some o ≡ true → (k : Text) × (o ≡ Some k)
there None h = absurd (let bad : false ≡ true = h in cc)
there (Some x) h = (x, refl)

same_some : (a b : Option Text) → are_same a b ≡ true → is_some b ≡ true
same_some None b h = absurd (let bad : false ≡ true = h in cc)
same_some (Some x) None h = absurd (let bad : false ≡ true = h in cc)
same_some (Some x) (Some y) h = refl

same_itself : (a : Option Text) → is_some a ≡ true → are_same a a ≡ true
same_itself None h = h
same_itself (Some x) h = id_itself x

decide : (b : Bool) → (b ≡ true) ⊎ (b ≡ false)
decide true = inl refl
decide false = inr refl

no_way : (a : ℤ) → unsigned_abs (a -ℤ a) ≡ 0
no_way a = ap unsigned_abs (+ℤ_invr a)

same_day : (o : Option ℤ) → (d : ℤ) → o ≡ Some d → days_apart o o ≡ 0
same_day None d h = absurd (let bad : None ≡ Some d = h in cc)
same_day (Some a) d h = no_way a

compare : (i j : ℕ) → (j < i) ⊎ ((j ≡ i) ⊎ (i < j))
compare zero zero = inr (inl refl)
compare zero (suc j) = inr (inr (omega arith))
compare (suc i) zero = inl (omega arith)
compare (suc i) (suc j) = ⊎_elim (λ (l : j < i). inl (omega arith)) (λ m. ⊎_elim (λ e. inr (inl (ap suc e))) (λ (l : i < j). inr (inr (omega arith))) m) (compare i j)

and_none : (a b : Bool) → ((a && false) && b) ≡ false
and_none true b = refl
and_none false b = refl

three : (a b c : Bool) → a ≡ true → b ≡ true → c ≡ true → (a && b && c) ≡ true
three a b c p q r = rw (p, q, r) refl

two : (a b : Bool) → a ≡ true → b ≡ true → (a && b) ≡ true
two a b p q = rw (p, q) refl

none_there : (rs : List Facts) (j : ℕ) (s : Facts) → slice_get rs j ≡ Some s → slice_get (no_match rs) j ≡ Some None
none_there [] j s h = absurd (let bad : None ≡ Some s = h in cc)
none_there (r ∷ rs) zero s h = refl
none_there (r ∷ rs) (suc j) s h = none_there rs j s h

near_made : (r : Facts) (x : Text) (d : ℤ) → r.day ≡ Some d → r.financial_id ≡ None → is_near r (made x r) ≡ true
near_made r x d day e = three (int_eq r.amount r.amount) (nat_le (distance r (made x r)) 7) (not (is_some r.financial_id && is_some r.financial_id))
    (int_eq_equiv.refl r.amount) (ap (λ n. nat_le n 7) (same_day r.day d day)) (ap (λ o. not (is_some o && is_some o)) e)

-- nothing is nearer than the same day
beside : (r : Facts) (d e : Candidate) → distance r e ≡ 0 → NoWorse r d e → (d ≡ e) ⊎ (text_cmp d.id e.id ≡ Less)
beside r d e z n = ⊎_elim (λ (l : distance r d < distance r e). absurd (omega arith)) (λ m. m.1) n

module _ (cs : List Candidate) (rise : Rising cs) (fs rs : List Facts) (same : map but_payee rs ≡ map but_payee fs) (ids : HaveIdsOrRows rs (matched_among cs fs)) (os : List Text)
    (up : MadeRise (matched_among cs fs) os) (after : List Candidate) (is : IsAfter cs rs (matched_among cs fs) os after) where
  abbrev ms : Matches
  ms = matched_among cs fs

  is_made : (j : ℕ) (d : Candidate) (o : IsOwn cs rs ms os j d) → slice_get ms j ≡ Some None → d ≡ made d.id o.entry
  is_made j d o e = ⊎_elim (λ m. m.1) (λ m. absurd (let bad : Some (Some m.0.id) ≡ Some None = sym m.2 ∙ e in cc)) o.how

  turn1 : (i : ℕ) (r : Facts) (x : Text) → slice_get rs i ≡ Some r → slice_get os i ≡ Some x → (k : Text) → r.financial_id ≡ Some k → (t : Test) → t x ≡ false → id_of (turn ById r t after) ≡ Some x
  turn1 i r x a b k e t free =
      let w = is.owned i r a in
      let d0 = w.0 in
      let o = w.2 in
      let entry : o.entry ≡ r = some_is o.entry r (sym o.at ∙ a) in
      let x_is : d0.id ≡ x = some_is d0.id x (sym o.own ∙ b) in
      let id0 : d0.financial_id ≡ Some k = own_id cs rise fs rs same os i d0 o k (ap (λ (y : Facts). y.financial_id) entry ∙ e) in
      let agrees0 : meets ById r d0 ≡ true = ap (λ q. are_same q d0.financial_id) e ∙ ap (are_same (Some k)) id0 ∙ id_itself k in
      let free0 : t d0.id ≡ false = ap t x_is ∙ free in
      found cs rise fs rs same os (id_of (turn ById r t after)) x
      (λ n. let bad : true ≡ false = sym agrees0 ∙ turn_none ById r t after n d0 w.1 free0 in cc)
      (λ y h. let c = turn_best ById r t after is.rising y h in
      ⊎_elim (λ l. sym c.id ∙ left_own cs rise fs rs same os i r a d0 o c.candidate l.0 l.1 c.agrees (c.best d0 w.1 free0 agrees0) ∙ x_is)
      (λ l. let s = l.1 in
      ⊎_elim (λ k2. let id2 : c.candidate.financial_id ≡ Some k2.0 = own_id cs rise fs rs same os l.0 c.candidate s k2.0 k2.1 in
      let one_id : same_id k k2.0 ≡ true = sym (ap (λ q. are_same q c.candidate.financial_id) e ∙ ap (are_same (Some k)) id2) ∙ c.agrees in
      let one : i ≡ l.0 = ids.apart i l.0 r s.entry k a s.at e (k2.1 ∙ ap (λ z. Some z) (sym (id_same k k2.0 one_id))) in
      some_is y x (sym (ap (λ z. Some z) c.id) ∙ sym s.own ∙ ap (slice_get os) (sym one) ∙ b))
      (λ n. let none : c.candidate.financial_id ≡ None = ap (λ (y : Candidate). y.financial_id) (is_made l.0 c.candidate s n.1) ∙ n.0 in
      let bad : true ≡ false = sym c.agrees ∙ ap (λ q. are_same q c.candidate.financial_id) e ∙ ap (are_same (Some k)) none in absurd (let b2 : true ≡ false = bad in cc))
      (ids.each l.0 s.entry s.at))
      (is.from c.candidate c.is_in))

  abbrev m0 : Matches
  m0 = no_match rs

  abbrev m1 : Matches
  m1 = out has_id rs os m0

  abbrev m2 : Matches
  m2 = out has_payee rs os m1

  own0 : AreOwn os m0
  own0 i m h = absurd (no_match_at rs i m h)

  own1 : AreOwn os m1
  own1 = out_own has_id rs os m0 own0

  own2 : AreOwn os m2
  own2 = out_own has_payee rs os m1 own1

  len1 : length m1 ≡ length rs
  len1 = out_len has_id rs os m0 is.len (no_match_len rs)

  len2 : length m2 ≡ length rs
  len2 = out_len has_payee rs os m1 is.len len1

  -- an own row is not taken before its record's turn
  not_yet : (m : Matches) → AreOwn os m → (i : ℕ) (x : Text) → slice_get os i ≡ Some x → slice_get m i ≡ Some None → is_among (somes m) x ≡ false
  not_yet m own i x b c = is_not (is_among (somes m) x) (λ h.
      let f = among_from m x h in
      let one : f.0 ≡ i = is.apart f.0 i x (own f.0 x f.1) b in
      let bad : Some (Some x) ≡ Some None = sym f.1 ∙ ap (slice_get m) one ∙ c in cc)

  pass1 : run_pass ById after (is_among (somes m0)) rs m0 ≡ m1
  pass1 = run_takes ById after has_id rs os m0 (is_among (somes m0)) is.len (no_match_len rs) is.apart
      (λ i r x a b c d t f keep past. let k = there r.financial_id d in turn1 i r x a b k.0 k.1 t f)
      (λ i r a c d t. turn_none_id r t after (is_none r.financial_id d))
      (λ i r x a b c d. none_among rs x)

  -- a record without an id takes its own row where each other one is taken or comes later
  plain_turn : (p : Pass) (i : ℕ) (r : Facts) (x : Text) → slice_get rs i ≡ Some r → slice_get os i ≡ Some x → slice_get ms i ≡ Some None → meets p r (made x r) ≡ true
      → (t : Test) → t x ≡ false
      → ((j : ℕ) (d : Candidate) → IsOwn cs rs ms os j d → meets p r d ≡ true → (j ≡ i) ⊎ ((t d.id ≡ true) ⊎ ((i < j) × (slice_get ms j ≡ Some None))))
      → id_of (turn p r t after) ≡ Some x
  plain_turn p i r x a b un meet t free others =
      let w = is.owned i r a in
      let d0 = w.0 in
      let o = w.2 in
      let entry : o.entry ≡ r = some_is o.entry r (sym o.at ∙ a) in
      let x_is : d0.id ≡ x = some_is d0.id x (sym o.own ∙ b) in
      let made0 : d0 ≡ made x r = is_made i d0 o un ∙ ap (λ e. made d0.id e) entry ∙ ap (λ y. made y r) x_is in
      let agrees0 : meets p r d0 ≡ true = ap (meets p r) made0 ∙ meet in
      let free0 : t d0.id ≡ false = ap t x_is ∙ free in
      let zero0 : distance r d0 ≡ 0 = ap (distance r) made0 ∙ same_day r.day (ids.days i r a).0 (ids.days i r a).1 in
      found cs rise fs rs same os (id_of (turn p r t after)) x
      (λ n. let bad : true ≡ false = sym agrees0 ∙ turn_none p r t after n d0 w.1 free0 in cc)
      (λ y h. let c = turn_best p r t after is.rising y h in
      let took = turn_took p r t after y h in
      let open_y : t c.candidate.id ≡ false = ap t c.id ∙ took.free in
      ⊎_elim (λ l. absurd (let bad : true ≡ false = sym c.agrees ∙ left_again cs rise fs rs same os i r a un p c.candidate l.0 l.1 in cc))
      (λ l. ⊎_elim (λ (one : l.0 ≡ i). some_is y x (sym (ap (λ z. Some z) c.id) ∙ sym l.1.own ∙ ap (slice_get os) one ∙ b))
      (λ q. ⊎_elim (λ g. absurd (let bad : true ≡ false = sym g ∙ open_y in cc))
      (λ g. let above : text_cmp x c.candidate.id ≡ Less = up i l.0 x c.candidate.id g.0 b l.1.own un g.1 in
      ⊎_elim (λ e. sym c.id ∙ ap (λ (z : Candidate). z.id) e ∙ x_is)
      (λ e. let below : text_cmp c.candidate.id x ≡ Less = subst (λ (z : Text). text_cmp c.candidate.id z ≡ Less) x_is e in
      absurd (irreflexive x (nat_list_cmp_total.trans x c.candidate.id x above below)))
      (beside r c.candidate d0 zero0 (c.best d0 w.1 free0 agrees0))) q)
      (others l.0 c.candidate l.1 c.agrees))
      (is.from c.candidate c.is_in))

  -- a record without an id made its row
  plain : (i : ℕ) (r : Facts) → slice_get rs i ≡ Some r → is_some r.financial_id ≡ false → (r.financial_id ≡ None) × (slice_get ms i ≡ Some None)
  plain i r a h = ⊎_elim (λ k. absurd (let bad : true ≡ false = sym (ap is_some k.1) ∙ h in cc)) (λ n. n) (ids.each i r a)

  -- one with an id has taken its row in the first pass
  taken1 : (j : ℕ) (d : Candidate) (o : IsOwn cs rs ms os j d) (k : Text) → o.entry.financial_id ≡ Some k → slice_get m1 j ≡ Some (Some d.id)
  taken1 j d o k e = out_some has_id rs os m0 j o.entry d.id o.at o.own (none_there rs j o.entry o.at) (ap is_some e)

  still1 : (j : ℕ) (d : Candidate) (o : IsOwn cs rs ms os j d) → o.entry.financial_id ≡ None → slice_get m1 j ≡ Some None
  still1 j d o e = out_not has_id rs os m0 j o.entry d.id o.at o.own (none_there rs j o.entry o.at) (ap is_some e)

  pass2 : run_pass ByPayee after (is_among (somes m1)) rs m1 ≡ m2
  pass2 = run_takes ByPayee after has_payee rs os m1 (is_among (somes m1)) is.len len1 is.apart turns others
      (λ i r x a b c d. not_yet m1 own1 i x b c)
    where
      turns : (i : ℕ) (r : Facts) (x : Text) → slice_get rs i ≡ Some r → slice_get os i ≡ Some x → slice_get m1 i ≡ Some None → has_payee r ≡ true
          → (t : Test) → t x ≡ false → ((q : Text) → is_among (somes m1) q ≡ true → t q ≡ true) → Taken ByPayee after has_payee rs os m1 i t → id_of (turn ByPayee r t after) ≡ Some x
      turns i r x a b c d t f keep past =
          let n = plain i r a (out_none has_id rs os m0 i r a c).1 in
          plain_turn ByPayee i r x a b n.1 (two (is_near r (made x r)) (are_same r.payee r.payee) (near_made r x (ids.days i r a).0 (ids.days i r a).1 n.0) (same_itself r.payee d)) t f
          (λ j e o agrees. ⊎_elim (λ k. inr (inl (keep e.id (among_at m1 j e.id (taken1 j e o k.0 k.1)))))
          (λ q. let made_e = is_made j e o q.1 in
          let pay : has_payee o.entry ≡ true = sym (ap (λ (z : Candidate). is_some z.payee) made_e) ∙ same_some r.payee e.payee (payee_of r e agrees) in
          ⊎_elim (λ l. inr (inl (past j o.entry e.id l o.at o.own (still1 j e o q.0) pay))) (λ g. ⊎_elim (λ s. inl s) (λ l. inr (inr (l, q.1))) g) (compare i j))
          (ids.each j o.entry o.at))
        where
          payee_of : (r : Facts) (e : Candidate) → meets ByPayee r e ≡ true → are_same r.payee e.payee ≡ true
          payee_of r e h = by (is_near r e) h
            where
              by : (b : Bool) → (b && are_same r.payee e.payee) ≡ true → are_same r.payee e.payee ≡ true
              by true g = g
              by false g = absurd (let bad : false ≡ true = g in cc)

      others : (i : ℕ) (r : Facts) → slice_get rs i ≡ Some r → slice_get m1 i ≡ Some None → has_payee r ≡ false → (t : Test) → id_of (turn ByPayee r t after) ≡ None
      others i r a c d t =
          ap id_of (none_can r (is_open ByPayee r t) (λ e. ap (λ p. (is_near r e && are_same p e.payee) && not (t e.id)) (is_none r.payee d) ∙ and_none (is_near r e) (not (t e.id))) None after)

  pass3 : run_pass ByAmount after (is_among (somes m2)) rs m2 ≡ out any rs os m2
  pass3 = run_takes ByAmount after any rs os m2 (is_among (somes m2)) is.len len2 is.apart turns
      (λ i r a c d t. absurd (let bad : true ≡ false = d in cc))
      (λ i r x a b c d. not_yet m2 own2 i x b c)
    where
      turns : (i : ℕ) (r : Facts) (x : Text) → slice_get rs i ≡ Some r → slice_get os i ≡ Some x → slice_get m2 i ≡ Some None → any r ≡ true
          → (t : Test) → t x ≡ false → ((q : Text) → is_among (somes m2) q ≡ true → t q ≡ true) → Taken ByAmount after any rs os m2 i t → id_of (turn ByAmount r t after) ≡ Some x
      turns i r x a b c d t f keep past =
          let n = plain i r a (out_none has_id rs os m0 i r a (out_none has_payee rs os m1 i r a c).0).1 in
          plain_turn ByAmount i r x a b n.1 (near_made r x (ids.days i r a).0 (ids.days i r a).1 n.0) t f
          (λ j e o agrees. ⊎_elim (λ k. inr (inl (keep e.id (among_at m2 j e.id (out_keep has_payee rs os m1 j o.entry e.id e.id o.at o.own (taken1 j e o k.0 k.1))))))
          (λ q. ⊎_elim (λ pay. inr (inl (keep e.id (among_at m2 j e.id (out_some has_payee rs os m1 j o.entry e.id o.at o.own (still1 j e o q.0) pay)))))
          (λ pay. ⊎_elim (λ l. inr (inl (past j o.entry e.id l o.at o.own (out_not has_payee rs os m1 j o.entry e.id o.at o.own (still1 j e o q.0) pay) refl)))
          (λ g. ⊎_elim (λ s. inl s) (λ l. inr (inr (l, q.1))) g) (compare i j))
          (decide (has_payee o.entry)))
          (ids.each j o.entry o.at))

  again : matched_among after rs ≡ map (λ x. Some x) os
  again =
      ap (λ m. next_pass ByAmount after rs (next_pass ByPayee after rs m)) pass1
      ∙ ap (next_pass ByAmount after rs) pass2
      ∙ pass3 ∙ out_all rs os m2 is.len len2 own2

pub law_of_rows : LawOfRows
law_of_rows cs rise rs ss same ids os up after is = again cs rise rs ss same ids os up after is
