-- The bytes that a read gives.
use Rattle.std.proofs.Common.{◌≡◌, ℕ, ◌+◌, ◌-◌, ◌<◌, ◌≤◌, ◌⊎◌, inl, inr, min, nat_lt, Bool, false, List, ◌++◌, length, take, ap, sym, ◌∙◌, subst, arith, Option, length-append, length-take, take-take}
use Rattle.std.proofs.Math.Seq.{take-append-add}
use Rattle.std.proofs.lemmas.Bool.{cases_lt, ltb-true, ltb-false}
use Rattle.std.proofs.lemmas.Grind.{common_steps}
use Rattle.std.proofs.KnownBytes.{Consumes-trans}
use Rattle.std.specs.Io.KnownBytes.{Consumes}
use Rattle.budget_top.specs.Limits.{most_input, ReadsMore}

pub length_more : (read buffer : List ℕ) (taken count : ℕ) → length read ≡ taken → count ≤ length buffer → length (read ++ take count buffer) ≡ taken + count
length_more read buffer taken count h within = simp (length-append, length-take) (omega arith)

pub front_alone : (m : ℕ) (buffer rest : List ℕ) → m ≤ length buffer → take m (buffer ++ rest) ≡ take m buffer
front_alone m buffer rest h = grind (arith, common_steps)

pub all_of : (k : ℕ) (xs : List ℕ) → length xs ≤ k → take k xs ≡ xs
all_of k xs h = grind (arith, common_steps)

-- the bytes up to the limit
pub limit_taken : (most : ℕ) (read buffer rest : List ℕ) (taken count m : ℕ) → length read ≡ taken → taken ≤ most → count ≤ length buffer → m ≡ min count (most - taken)
    → read ++ take m (buffer ++ rest) ≡ take most (read ++ take count buffer)
limit_taken most read buffer rest taken count m long within inside least =
    let whole : length read + (most - taken) ≡ most = omega arith in
    let fits : m ≤ length buffer = omega arith in
    let same : take (most - taken) (take count buffer) ≡ take m buffer = of_both (cases_lt count (most - taken)) in
    let P : ℕ → Type 0 = λ k. read ++ take m (buffer ++ rest) ≡ take k (read ++ take count buffer) in
    subst P whole
    (ap (λ t. read ++ t) (front_alone m buffer rest fits ∙ sym same)
    ∙ sym (take-append-add read (take count buffer) (most - taken)))
  where
    of_both : (count < most - taken) ⊎ (most - taken ≤ count) → take (most - taken) (take count buffer) ≡ take m buffer
    of_both (inl less) =
        let short : length (take count buffer) ≤ most - taken = simp length-take (omega arith) in
        let is : count ≡ m = omega arith in
        all_of (most - taken) (take count buffer) short ∙ ap (λ k. take k buffer) is
    of_both (inr more) =
        let is : most - taken ≡ m = omega arith in
        take-take (most - taken) count buffer more ∙ ap (λ k. take k buffer) is

-- more bytes came, of which m are within the limit
pub read_more : (left mid new : Option (List ℕ)) (read buffer rest : List ℕ) (taken count m most : ℕ) (past : Bool) → length read ≡ taken → taken ≤ most_input → Consumes left mid read → Consumes mid new (take count buffer)
    → count ≤ length buffer → length buffer ≤ most → most ≤ most_input - taken + 1 → (count ≡ 0 → ⊥) → m ≡ min count (most_input - taken) → past ≡ nat_lt (most_input - taken) count
    → ReadsMore m past left new read (buffer ++ rest)
read_more left mid new read buffer rest taken count m most past many within reads more inside short asked some least tells = record {
  more = take count buffer;
  has_read = record {
    reads = Consumes-trans left mid new read (take count buffer) reads more;
    asked = simp (length-append, length-take) (omega arith);
  };
  inside = simp (length-append) (omega arith);
  within = sym (limit_taken most_input read buffer rest taken count m many within inside least);
  on = λ no.
      let fits : count ≤ most_input - taken = ltb-false (most_input - taken) count (sym tells ∙ no) in
      let is : m ≡ count = omega arith in
      (sym (front_alone m buffer rest (omega arith) ∙ ap (λ k. take k buffer) is), omega arith, omega arith);
  beyond = λ yes.
      let more : most_input - taken < count = ltb-true (most_input - taken) count (sym tells ∙ yes) in
      let all : length (read ++ take count buffer) ≡ taken + count = length_more read buffer taken count many inside in
      omega arith;
}

-- all that came is within the limit
pub many_on : (count : ℕ) (past : Bool) (left new : Option (List ℕ)) (read buffer : List ℕ) (taken : ℕ) (r : ReadsMore count past left new read buffer) → past ≡ false → length read ≡ taken → length (read ++ r.more) ≡ taken + count
many_on count past left new read buffer taken r inside many =
    ap (λ xs. length (read ++ xs)) (r.on inside).0 ∙ length_more read buffer taken count many r.inside

pub same_on : (count : ℕ) (past : Bool) (left new : Option (List ℕ)) (read buffer : List ℕ) (r : ReadsMore count past left new read buffer) → past ≡ false → read ++ take count buffer ≡ read ++ r.more
same_on count past left new read buffer r inside = sym (ap (λ xs. read ++ xs) (r.on inside).0)
