-- A match is the best of what is left.
use Rattle.std.proofs.Common.{◌≡◌, ℕ, zero, suc, ◌<◌, ◌≤◌, Bool, true, false, cond, List, [], ◌∷◌, Option, Some, None, refl, sym, ap, ◌∙◌, inl, inr, ◌⊎◌, ⊎_elim, subst, arith}
use Rattle.std.specs.Prelude.{◌&&◌, not, nat_lt}
use Rattle.std.specs.List.{slice_get}
use Rattle.std.specs.declared.cmp.Ordering.TheVariants.{Less}
use Rattle.std.specs.Cmp.Lexicographic.{nat_list_cmp_total}
use Rattle.std.proofs.lemmas.Bool.{ltb-true, lt-ltb}
use Rattle.finite_sums.specs.Maps.{Text, text_cmp}
use Rattle.bank_import.specs.Matching.{distance, nearest, is_nearer, is_open, turn, id_of, meets, with_taken, run_pass, somes, is_among}
use Rattle.bank_import.specs.Laws.{IsIn, AllAbove, Rising, NoWorse, rank, IsBest, LawOfBest}
use Rattle.bank_import.proofs.Passes.{Test}
use Rattle.bank_import.proofs.Nearest.{and_true, nearest_found}
use Rattle.bank_import.proofs.Runs.{Matches, later_other, rest_other, some_is, none_some, no_match_at, run_left, run_stay, m0, m1, m2, m3, not0, not1, not2}
use Rattle.bank_import.specs.declared.facts.Facts.{Facts}
use Rattle.bank_import.specs.declared.facts.Candidate.{Candidate}
use Rattle.bank_import.specs.declared.facts.Pass.{Pass}
use Rattle.bank_import.specs.declared.facts.Pass.TheVariants.{ById, ByPayee, ByAmount}

not_less : (b a : ℕ) → nat_lt b a ≡ false → a ≤ b
not_less b a h = ⊎_elim (λ (l : a ≤ b). l) (λ (l : b < a). absurd (let t : nat_lt b a ≡ true = lt-ltb b a l in let bad : true ≡ false = sym t ∙ h in cc)) (split a b)
  where
    split : (a b : ℕ) → (a ≤ b) ⊎ (b < a)
    split zero b = inl (omega arith)
    split (suc a) zero = inr (omega arith)
    split (suc a) (suc b) = ⊎_elim (λ (l : a ≤ b). inl (omega arith)) (λ (l : b < a). inr (omega arith)) (split a b)

order : (a b : ℕ) → a ≤ b → (a < b) ⊎ (a ≡ b)
order zero zero h = inr refl
order zero (suc b) h = inl (omega arith)
order (suc a) zero h = absurd (omega arith)
order (suc a) (suc b) h = ⊎_elim (λ (l : a < b). inl (omega arith)) (λ e. inr (ap suc e)) (order a b (omega arith))

-- nearer than what is no worse
beats : (r : Facts) (d c b : Candidate) → NoWorse r d c → distance r c < distance r b → NoWorse r d b
beats r d c b n l = inl (⊎_elim (λ (k : distance r d < distance r c). omega arith) (λ e. let f : distance r d ≡ distance r c = e.0 in omega arith) n)

-- no worse than what is no farther and of a lower id
keeps : (r : Facts) (d b c : Candidate) → NoWorse r d b → distance r b ≤ distance r c → text_cmp b.id c.id ≡ Less → NoWorse r d c
keeps r d b c n l below =
    ⊎_elim (λ (k : distance r d < distance r b). inl (omega arith))
    (λ e. let f : distance r d ≡ distance r b = e.0 in
    ⊎_elim (λ (k : distance r b < distance r c). inl (omega arith))
    (λ (s : distance r b ≡ distance r c). inr (
      f ∙ s,
      inr (⊎_elim (λ (q : d ≡ b). subst (λ (y : Candidate). text_cmp y.id c.id ≡ Less) (sym q) below)
          (λ (q : text_cmp d.id b.id ≡ Less). nat_list_cmp_total.trans d.id b.id c.id q below) e.1),
    ))
    (order (distance r b) (distance r c) l)) n

abbrev AllOver : Option Candidate → List Candidate → Type 0
AllOver best cs = (b : Candidate) → best ≡ Some b → AllAbove b.id cs

tail_over : (best : Option Candidate) (c : Candidate) (cs : List Candidate) → AllOver best (c ∷ cs) → AllOver best cs
tail_over best c cs h b e = (h b e).1

head_over : (t : Bool) (best : Option Candidate) (c : Candidate) (cs : List Candidate) → AllOver best (c ∷ cs) → AllAbove c.id cs → AllOver (cond t (Some c) best) cs
head_over true best c cs h above b e = subst (λ (y : Candidate). AllAbove y.id cs) (let s : Some c ≡ Some b = e in let q : c ≡ b = cc in q) above
head_over false best c cs h above b e = tail_over best c cs h b e

some_of : (t : Bool) (best : Option Candidate) (c b : Candidate) → t ≡ false → best ≡ Some b → cond t (Some c) best ≡ Some b
some_of true best c b h e = absurd (let bad : true ≡ false = h in cc)
some_of false best c b h e = e

some_new : (t : Bool) (best : Option Candidate) (c : Candidate) → t ≡ true → cond t (Some c) best ≡ Some c
some_new true best c h = refl
some_new false best c h = absurd (let bad : false ≡ true = h in cc)

module _ (r : Facts) (can : Candidate → Bool) (d : Candidate) where
  -- what the step says of the best before and of the new one
  before_best : (t : Bool) (best : Option Candidate) (c b : Candidate) → (can c && is_nearer r best c) ≡ t → best ≡ Some b
      → ((x : Candidate) → cond t (Some c) best ≡ Some x → NoWorse r d x) → NoWorse r d b
  before_best false best c b e s h = h b s
  before_best true best c b e s h =
      beats r d c b (h c refl) (ltb-true (distance r c) (distance r b) (ap (λ o. is_nearer r o c) (sym s) ∙ (and_true (can c) (is_nearer r best c) e).1))

  here_best : (t : Bool) (best : Option Candidate) (c : Candidate) (cs : List Candidate) → (can c && is_nearer r best c) ≡ t → can c ≡ true → AllOver best (c ∷ cs)
      → ((x : Candidate) → cond t (Some c) best ≡ Some x → NoWorse r d x) → NoWorse r d c
  here_best true best c cs e is over h = h c refl
  here_best false None c cs e is over h = absurd (let bad : (can c && true) ≡ false = e in let t : can c ≡ true = is in let worse : true ≡ false = sym (ap (λ b. b && true) t) ∙ bad in cc)
  here_best false (Some b) c cs e is over h =
      keeps r d b c (h b refl) (not_less (distance r c) (distance r b) (sym (ap (λ k. k && nat_lt (distance r c) (distance r b)) is) ∙ e)) (over b refl).0

  pub nearest_best : (best : Option Candidate) (cs : List Candidate) → Rising cs → AllOver best cs → nearest r can best cs ≡ Some d
      → ((e : Candidate) → IsIn cs e → can e ≡ true → NoWorse r d e) × ((b : Candidate) → best ≡ Some b → NoWorse r d b)
  nearest_best best [] rise over h = (λ e i c. absurd i, λ b s. inr (ap (distance r) (let q : Some d ≡ Some b = sym h ∙ s in let w : d ≡ b = cc in w), inl (let q : Some d ≡ Some b = sym h ∙ s in cc)))
  nearest_best best (c ∷ cs) rise over h =
      let t = can c && is_nearer r best c in
      let later = nearest_best (cond t (Some c) best) cs rise.1 (head_over t best c cs over rise.0) h in (
        λ e i is. ⊎_elim (λ (q : c ≡ e). subst (λ (y : Candidate). NoWorse r d y) q (here_best t best c cs refl (ap can q ∙ is) over later.1)) (λ j. later.0 e j is) i,
        λ b s. before_best t best c b refl s later.1,
      )

-- a turn takes the best of what is open
pub record TookBest (p : Pass) (r : Facts) (taken : Test) (cs : List Candidate) (x : Text) : Type 0 where
  pub candidate : Candidate
  pub is_in : IsIn cs candidate
  pub id : candidate.id ≡ x
  pub agrees : meets p r candidate ≡ true
  pub best : (d : Candidate) → IsIn cs d → taken d.id ≡ false → meets p r d ≡ true → NoWorse r candidate d

id_from : (o : Option Candidate) (x : Text) → id_of o ≡ Some x → (c : Candidate) × (o ≡ Some c) × (c.id ≡ x)
id_from None x h = cc
id_from (Some c) x h = (c, refl, cc)

open_is : (a b : Bool) → a ≡ true → b ≡ false → (a && not b) ≡ true
open_is true false h e = refl
open_is true true h e = cc
open_is false b h e = cc

pub turn_best : (p : Pass) (r : Facts) (taken : Test) (cs : List Candidate) → Rising cs → (x : Text) → id_of (turn p r taken cs) ≡ Some x → TookBest p r taken cs x
turn_best p r taken cs rise x h =
    let c = id_from (turn p r taken cs) x h in
    let found = nearest_found r (is_open p r taken) None cs c.0 c.1 in
    let over : AllOver None cs = λ b e. absurd (let bad : None ≡ Some b = e in cc) in
    let best = nearest_best r (is_open p r taken) c.0 None cs rise over c.1 in
    ⊎_elim (λ (e : None ≡ Some c.0). absurd (let bad : None ≡ Some c.0 = e in cc))
    (λ t. record {
      candidate = c.0;
      is_in = t.1;
      id = c.2;
      agrees = (and_true (meets p r c.0) (not (taken c.0.id)) t.0).0;
      best = λ d i free meet. best.0 d i (open_is (meets p r d) (taken d.id) meet free);
    })
    found

module _ (p : Pass) (cs : List Candidate) (rise : Rising cs) where
  pub record NewBest (r : Facts) (taken : Test) (out : Matches) (before : Option (Option Text)) (x : Text) : Type 0 where
    pub candidate : Candidate
    pub is_in : IsIn cs candidate
    pub id : candidate.id ≡ x
    pub agrees : meets p r candidate ≡ true
    pub best : (d : Candidate) → IsIn cs d → taken d.id ≡ false → is_among (somes out) d.id ≡ false → meets p r d ≡ true → NoWorse r candidate d
    pub none : before ≡ Some None

  pub run_best : (rs : List Facts) (ms : Matches) (taken : Test) (i : ℕ) (r : Facts) (x : Text) → slice_get rs i ≡ Some r → slice_get (run_pass p cs taken rs ms) i ≡ Some (Some x)
      → (slice_get ms i ≡ Some (Some x)) ⊎ NewBest r taken (run_pass p cs taken rs ms) (slice_get ms i) x
  run_best [] ms taken i r x a h = absurd (none_some (Some x) h)
  run_best (s ∷ rs) [] taken i r x a h = absurd (none_some (Some x) h)
  run_best (s ∷ rs) (Some m ∷ ms) taken zero r x a h = inl h
  run_best (s ∷ rs) (Some m ∷ ms) taken (suc i) r x a h =
      ⊎_elim (λ k. inl k) (λ (n : NewBest r taken (run_pass p cs taken rs ms) (slice_get ms i) x).
      inr (record {
        candidate = n.candidate;
        is_in = n.is_in;
        id = n.id;
        agrees = n.agrees;
        none = n.none;
        best = λ d j free left. n.best d j free (rest_other (Some m) (run_pass p cs taken rs ms) d.id left);
      }))
      (run_best rs ms taken i r x a h)
  run_best (s ∷ rs) (None ∷ ms) taken zero r x a h =
      let t = turn_best p r taken cs rise x (ap (λ e. id_of (turn p e taken cs)) (sym (some_is s r a)) ∙ some_is (id_of (turn p s taken cs)) (Some x) h) in
      inr (record { candidate = t.candidate; is_in = t.is_in; id = t.id; agrees = t.agrees; none = refl; best = λ d j free left. t.best d j free })
  run_best (s ∷ rs) (None ∷ ms) taken (suc i) r x a h =
      let o = id_of (turn p s taken cs) in
      let out = run_pass p cs (with_taken o taken) rs ms in
      ⊎_elim (λ k. inl k) (λ (n : NewBest r (with_taken o taken) out (slice_get ms i) x).
      inr (record {
        candidate = n.candidate;
        is_in = n.is_in;
        id = n.id;
        agrees = n.agrees;
        none = n.none;
        best = λ d j free left. n.best d j (later_other o out taken d.id free left) (rest_other o out d.id left);
      }))
      (run_best rs ms (with_taken o taken) i r x a h)

module _ (cs : List Candidate) (rise : Rising cs) (rs : List Facts) (i : ℕ) (r : Facts) (x : Text) (a : slice_get rs i ≡ Some r) where
  after3 : NewBest ByAmount cs rise r (is_among (somes (m2 cs rs))) (m3 cs rs) (slice_get (m2 cs rs) i) x → IsBest cs r (m3 cs rs) x
  after3 n = record {
    by = ByAmount;
    candidate = n.candidate;
    is_in = n.is_in;
    id = n.id;
    agrees = n.agrees;
    best = λ d j e meet. n.best d j (not2 cs rs d.id e) e meet;
    earlier = earlier;
  }
    where
      earlier : (p : Pass) → rank p < 2 → (d : Candidate) → IsIn cs d → is_among (somes (m3 cs rs)) d.id ≡ false → meets p r d ≡ false
      earlier ByAmount l d j e = absurd (omega arith)
      earlier ByPayee l d j e = run_left ByPayee cs rs (m1 cs rs) (is_among (somes (m1 cs rs))) i r d a n.none j (not1 cs rs d.id (not2 cs rs d.id e)) (not2 cs rs d.id e)
      earlier ById l d j e =
          run_left ById cs rs (m0 cs rs) (is_among (somes (m0 cs rs))) i r d a (run_stay ByPayee cs rs (m1 cs rs) (is_among (somes (m1 cs rs))) i n.none) j
          (not0 cs rs d.id (not1 cs rs d.id (not2 cs rs d.id e))) (not1 cs rs d.id (not2 cs rs d.id e))

  after2 : NewBest ByPayee cs rise r (is_among (somes (m1 cs rs))) (m2 cs rs) (slice_get (m1 cs rs) i) x → IsBest cs r (m3 cs rs) x
  after2 n = record {
    by = ByPayee;
    candidate = n.candidate;
    is_in = n.is_in;
    id = n.id;
    agrees = n.agrees;
    best = λ d j e meet. n.best d j (not1 cs rs d.id (not2 cs rs d.id e)) (not2 cs rs d.id e) meet;
    earlier = earlier;
  }
    where
      earlier : (p : Pass) → rank p < 1 → (d : Candidate) → IsIn cs d → is_among (somes (m3 cs rs)) d.id ≡ false → meets p r d ≡ false
      earlier ByAmount l d j e = absurd (omega arith)
      earlier ByPayee l d j e = absurd (omega arith)
      earlier ById l d j e =
          run_left ById cs rs (m0 cs rs) (is_among (somes (m0 cs rs))) i r d a n.none j
          (not0 cs rs d.id (not1 cs rs d.id (not2 cs rs d.id e))) (not1 cs rs d.id (not2 cs rs d.id e))

  after1 : NewBest ById cs rise r (is_among (somes (m0 cs rs))) (m1 cs rs) (slice_get (m0 cs rs) i) x → IsBest cs r (m3 cs rs) x
  after1 n = record {
    by = ById;
    candidate = n.candidate;
    is_in = n.is_in;
    id = n.id;
    agrees = n.agrees;
    best = λ d j e meet. n.best d j (not0 cs rs d.id (not1 cs rs d.id (not2 cs rs d.id e))) (not1 cs rs d.id (not2 cs rs d.id e)) meet;
    earlier = λ p l d j e. absurd (omega arith);
  }

  best3 : slice_get (m3 cs rs) i ≡ Some (Some x) → IsBest cs r (m3 cs rs) x
  best3 h =
      ⊎_elim (λ h2. ⊎_elim (λ h1. ⊎_elim (λ h0. absurd (no_match_at rs i x h0)) after1 (run_best ById cs rise rs (m0 cs rs) (is_among (somes (m0 cs rs))) i r x a h1))
      after2 (run_best ByPayee cs rise rs (m1 cs rs) (is_among (somes (m1 cs rs))) i r x a h2))
      after3 (run_best ByAmount cs rise rs (m2 cs rs) (is_among (somes (m2 cs rs))) i r x a h)

pub law_of_best : LawOfBest
law_of_best cs rise rs i r x a h = best3 cs rise rs i r x a h
