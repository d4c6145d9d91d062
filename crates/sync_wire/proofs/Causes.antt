-- A fault that is told of a field has its cause.
use Rattle.std.proofs.Common.{◌≡◌, ◌⊎◌, inl, inr, ℕ, zero, suc, ◌+◌, ◌-◌, ◌*◌, ◌/◌, ◌%◌, ◌^◌, ◌<◌, ◌≤◌, Bool, true, false, cond, ltb, eqb, List, [], ◌∷◌, ◌++◌, length, take, drop, Result, Ok, Err, refl, sym, ap, subst, arith}
use Rattle.std.proofs.lemmas.Bool.{ltb-true, ltb-false, eqb-true}
use Rattle.std.proofs.lemmas.List.Elements.{All-from_recursion}
use Rattle.std.specs.List.{AllByRecursion}
use Rattle.sync_wire.specs.declared.fault.WireFault.{WireFault}
use Rattle.sync_wire.specs.declared.fault.WireFault.TheVariants.{Truncated, BadTag, LongVarint}
use Rattle.sync_wire.specs.Reading.{◌>>=◌}
use Rattle.sync_wire.specs.Layouts.{allows}
use Rattle.sync_wire.specs.Fields.{Payload, Number, Fixed, Bytes, Tagged, digits, number_at, fixed_at, bytes_at, payload_at, field_at}
use Rattle.sync_wire.specs.Spelling.{IsNumber}
use Rattle.sync_wire.specs.Causes.{IsNumberFault, IsShort, IsBodyFault, FaultsHaveCauses}
use Rattle.sync_wire.proofs.Spelled.{digits_takes, number_takes, kind_allowed}

bind_err : {A B : Type 0} (r : Result A WireFault) (f : A → Result B WireFault) (e : WireFault) → (r >>= f) ≡ Err e → (r ≡ Err e) ⊎ ((x : A) × (r ≡ Ok x) × (f x ≡ Err e))
bind_err (Ok x) f e h = inr (x, refl, h)
bind_err (Err d) f e h = inl (cc h)

told : {A : Type 0} (b : Bool) (d e : WireFault) (r : Result A WireFault) → cond b r (Err d) ≡ Err e → ((b ≡ true) × (r ≡ Err e)) ⊎ ((b ≡ false) × (e ≡ d))
told true d e r h = inl (refl, h)
told false d e r h = inr (refl, cc)

guarded : {A : Type 0} (b : Bool) (d e : WireFault) (x : A) → cond b (Err d) (Ok x) ≡ Err e → (b ≡ true) × (e ≡ d)
guarded true d e x h = (refl, cc)
guarded false d e x h = absurd cc

-- ---- a number

-- all that is left has to go on, or so many bytes have
abbrev Runs : ℕ → ℕ → ℕ → List ℕ → WireFault → Type 0
Runs at end k bytes f =
    ((f ≡ Truncated end) × (length bytes < k) × AllByRecursion (λ b. 128 ≤ b) bytes)
    ⊎ ((f ≡ LongVarint at) × ((front : List ℕ) × (rest : List ℕ) × (bytes ≡ front ++ rest) × (length front ≡ k) × AllByRecursion (λ b. 128 ≤ b) front))

abbrev last_digit : ℕ → List ℕ → Result (ℕ × List ℕ) WireFault
last_digit b bs = Ok (b, bs)

abbrev digit_part : ℕ → ℕ × List ℕ → Result (ℕ × List ℕ) WireFault
digit_part b x = Ok (b - 128 + 128 * x.0, x.1)

no_part : (b : ℕ) (r : Result (ℕ × List ℕ) WireFault) (f : WireFault) → (r >>= digit_part b) ≡ Err f → r ≡ Err f
no_part b (Ok x) f h = absurd cc
no_part b (Err d) f h = cc h

digit_runs : (at end k b : ℕ) (bs : List ℕ) (f : WireFault) (r : Result (ℕ × List ℕ) WireFault) (test : Bool)
    → (r ≡ Err f → Runs at end k bs f) → ltb b 128 ≡ test → cond test (last_digit b bs) (r >>= digit_part b) ≡ Err f → Runs at end (suc k) (b ∷ bs) f
digit_runs at end k b bs f r true deeper t h = absurd cc
digit_runs at end k b bs f r false deeper t h =
    let high = ltb-false b 128 t in
    elim (deeper (no_part b r f h)) [
      | inl d ↦ inl (d.0, (let few = d.1 in omega arith), (high, d.2))
      | inr d ↦ inr (d.0, (b ∷ d.1.0, d.1.1, ap (λ (x : List ℕ). b ∷ x) d.1.2, ap suc d.1.3, (high, d.1.4)))
    ]

digits_run : (at end k : ℕ) (bytes : List ℕ) (f : WireFault) → digits at end k bytes ≡ Err f → Runs at end k bytes f
unfolding digits
digits_run at end zero bytes f e = inr (cc, ([], bytes, refl, refl, tt))
digits_run at end (suc k) [] f e = inl (cc, omega arith, tt)
digits_run at end (suc k) (b ∷ bs) f e = digit_runs at end k b bs f (digits at end k bs) (ltb b 128) (λ h. digits_run at end k bs f h) refl e

run_fault : (end : ℕ) (bytes : List ℕ) (f : WireFault) → Runs (end - length bytes) end 10 bytes f → IsNumberFault end bytes f
run_fault end bytes f (inl h) = inl (h.0, record { few = h.1; open_ = All-from_recursion (λ b. 128 ≤ b) bytes h.2 })
run_fault end bytes f (inr h) = inr (h.0, inl (record { front = h.1.0; rest = h.1.1; whole = h.1.2; ten = h.1.3; open_ = All-from_recursion (λ b. 128 ≤ b) h.1.0 h.1.4 }))

number_fault : (end : ℕ) (bytes : List ℕ) (f : WireFault) → number_at end bytes ≡ Err f → IsNumberFault end bytes f
unfolding number_at
number_fault end bytes f e =
    let at = end - length bytes in
    elim (bind_err (digits at end 10 bytes) (λ n. cond (ltb n.0 (2 ^ 64)) (Ok n) (Err (LongVarint at))) f e) [
      | inl h ↦ run_fault end bytes f (digits_run at end 10 bytes f h)
      | inr h ↦
          let large = told (ltb h.0.0 (2 ^ 64)) (LongVarint at) f (Ok h.0) h.2 in
          let t = digits_takes at end 10 bytes h.0.0 h.0.1 h.1 in
          elim large [
            | inl g ↦ absurd cc
            | inr g ↦ inr (g.1, inr (record { text = t.0; rest = h.0.1; number = h.0.0; whole = t.1; spells = t.2; short = t.3; large = ltb-false h.0.0 (2 ^ 64) g.0 }))
          ]
    ]

-- ---- what a field holds

abbrev number_part : ℕ × List ℕ → Result (Payload × List ℕ) WireFault
number_part n = Ok (Number n.0, n.1)

no_number : (r : Result (ℕ × List ℕ) WireFault) (f : WireFault) → (r >>= number_part) ≡ Err f → r ≡ Err f
no_number (Ok x) f h = absurd cc
no_number (Err d) f h = cc h

fixed_fault : (width end : ℕ) (bytes : List ℕ) (f : WireFault) → fixed_at width end bytes ≡ Err f → (f ≡ Truncated end) × (length bytes < width)
unfolding fixed_at
fixed_fault width end bytes f e =
    let g = guarded (ltb (length bytes) width) (Truncated end) f (Fixed, drop width bytes) e in
    (g.1, ltb-true _ _ g.0)

bytes_fault : (end : ℕ) (bytes : List ℕ) (f : WireFault) → bytes_at end bytes ≡ Err f → IsNumberFault end bytes f ⊎ ((f ≡ Truncated end) × IsShort bytes)
unfolding bytes_at
bytes_fault end bytes f e =
    elim (bind_err (number_at end bytes) (λ n. cond (ltb (length n.1) n.0) (Err (Truncated end)) (Ok (Bytes (end - length (drop n.0 n.1)) (take n.0 n.1), drop n.0 n.1))) f e) [
      | inl h ↦ inl (number_fault end bytes f h)
      | inr h ↦
          let n = h.0.0 in
          let after = h.0.1 in
          let t = number_takes end bytes n after h.1 in
          let g = guarded (ltb (length after) n) (Truncated end) f (Bytes (end - length (drop n after)) (take n after), drop n after) h.2 in
          inr (g.1, record { len = t.0; rest = after; number = n; whole = t.1; spelled = t.2; short = ltb-true _ _ g.0 })
    ]

body_by : (kind end : ℕ) (bytes : List ℕ) (f : WireFault) (t0 t2 t1 : Bool) → eqb kind 0 ≡ t0 → eqb kind 2 ≡ t2 → eqb kind 1 ≡ t1
    → ((eqb kind 0 ≡ false) → (eqb kind 2 ≡ false) → (eqb kind 1 ≡ false) → kind ≡ 5)
    → cond t0 (number_at end bytes >>= number_part) (cond t2 (bytes_at end bytes) (cond t1 (fixed_at 8 end bytes) (fixed_at 4 end bytes))) ≡ Err f → IsBodyFault kind end bytes f
body_by kind end bytes f true t2 t1 e0 e2 e1 only e = inl (eqb-true kind 0 e0, number_fault end bytes f (no_number (number_at end bytes) f e))
body_by kind end bytes f false true t1 e0 e2 e1 only e = inr (inl (eqb-true kind 2 e2, bytes_fault end bytes f e))
body_by kind end bytes f false false true e0 e2 e1 only e = let g = fixed_fault 8 end bytes f e in inr (inr (inl (eqb-true kind 1 e1, g.0, g.1)))
body_by kind end bytes f false false false e0 e2 e1 only e = let g = fixed_fault 4 end bytes f e in inr (inr (inr (only e0 e2 e1, g.0, g.1)))

body_fault : (kind end : ℕ) (bytes : List ℕ) (f : WireFault) → ((eqb kind 0 ≡ false) → (eqb kind 2 ≡ false) → (eqb kind 1 ≡ false) → kind ≡ 5) → payload_at kind end bytes ≡ Err f → IsBodyFault kind end bytes f
unfolding payload_at
body_fault kind end bytes f only e = body_by kind end bytes f (eqb kind 0) (eqb kind 2) (eqb kind 1) refl refl refl only e

-- ---- a field

abbrev field_part : ℕ → Payload × List ℕ → Result (Tagged × List ℕ) WireFault
field_part tag p = Ok (record { number = tag / 8; payload = p.0 }, p.1)

no_field : (tag : ℕ) (r : Result (Payload × List ℕ) WireFault) (f : WireFault) → (r >>= field_part tag) ≡ Err f → r ≡ Err f
no_field tag (Ok x) f h = absurd cc
no_field tag (Err d) f h = cc h

pub field_fault : FaultsHaveCauses
unfolding field_at
field_fault layout end bytes f e =
    let at = end - length bytes in
    elim (bind_err (number_at end bytes) (λ tag. cond (allows layout (tag.0 / 8) (tag.0 % 8)) (payload_at (tag.0 % 8) end tag.1 >>= field_part tag.0) (Err (BadTag at))) f e) [
      | inl h ↦ inl (number_fault end bytes f h)
      | inr h ↦
          let tag = h.0.0 in
          let after = h.0.1 in
          let t = number_takes end bytes tag after h.1 in
          let split : 8 * (tag / 8) + tag % 8 ≡ tag = omega arith in
          let spelled = subst (λ (k : ℕ). IsNumber t.0 k) (sym split) t.2 in
          let small : tag % 8 < 8 = omega arith in
          elim (told (allows layout (tag / 8) (tag % 8)) (BadTag at) f (payload_at (tag % 8) end after >>= field_part tag) h.2) [
            | inl g ↦ inr (record {
              tag = t.0;
              rest = after;
              number = tag / 8;
              kind = tag % 8;
              whole = t.1;
              spelled = spelled;
              small = small;
              fault = inr (g.0, body_fault (tag % 8) end after f (kind_allowed layout (tag / 8) (tag % 8) g.0) (no_field tag (payload_at (tag % 8) end after) f g.1));
            })
            | inr g ↦ inr (record { tag = t.0; rest = after; number = tag / 8; kind = tag % 8; whole = t.1; spelled = spelled; small = small; fault = inl g })
          ]
    ]
