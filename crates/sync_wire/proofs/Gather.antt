-- A message that is read field by field.
use Rattle.std.proofs.Common.{◌≡◌, ℕ, zero, suc, ◌<◌, ◌≤◌, List, [], ◌∷◌, length, Option, Some, None, Result, Ok, Err, true, false, eqb, refl, sym, ap, subst, ◌∙◌, arith}
use Rattle.std.specs.Option.{option_or}
use Rattle.std.proofs.lemmas.Bool.{eqb-true, eqb-false}
use Rattle.std.specs.List.{filter_map, last_or, cons_option}
use Rattle.sync_wire.specs.declared.fault.WireFault.{WireFault}
use Rattle.sync_wire.specs.declared.fault.WireFault.TheVariants as faults
use Rattle.sync_wire.specs.declared.layout.Layout.{Layout}
use Rattle.sync_wire.specs.Reading.{◌>>=◌, Fails, answer}
use Rattle.sync_wire.specs.Fields.{Tagged, field_at}
use Rattle.sync_wire.specs.Meaning.{then_steps, steps_within, steps, first_fault, fields_in, or, last_else}

abbrev pub gather : {X : Type 0} → (Tagged → Option WireFault) → (X → Tagged → X) → X → List (Result Tagged WireFault) → Result X WireFault
gather check with x [] = Ok x
gather check with x (Err f ∷ ss) = Err f
gather check with x (Ok t ∷ ss) = answer (check t) (with x t) >>= λ y. gather check with y ss

abbrev pub folded : {X : Type 0} → (X → Tagged → X) → X → List Tagged → X
folded with x [] = x
folded with x (t ∷ ts) = folded with (with x t) ts

bind_answer : {X : Type 0} (o : Option WireFault) (y : X) (next : X → Result X WireFault) (later : Option WireFault) (z : X)
    → next y ≡ answer later z → (answer o y >>= next) ≡ answer (option_or o later) z
bind_answer None y next later z e = e
bind_answer (Some f) y next later z e = refl

-- Reading field by field finds the first fault, or else what all fields mean.
pub gather_is : {X : Type 0} (check : Tagged → Option WireFault) (with : X → Tagged → X) (x : X) (ss : List (Result Tagged WireFault))
    → gather check with x ss ≡ answer (first_fault check ss) (folded with x (fields_in ss))
gather_is check with x [] = refl
gather_is check with x (Err f ∷ ss) = refl
gather_is check with x (Ok t ∷ ss) =
    bind_answer (check t) (with x t) (λ y. gather check with y ss) (first_fault check ss) (folded with x (fields_in (Ok t ∷ ss))) (gather_is check with (with x t) ss)

pub some_left : (n : ℕ) → false ≡ eqb n 0 → 0 < n
some_left n e = let h = eqb-false n 0 (sym e) in omega arith

pub none_left : (n : ℕ) → true ≡ eqb n 0 → n ≡ 0
none_left n e = eqb-true n 0 (sym e)

-- x is what the fields before rest made, and total is what all of them make
pub record IsOn {X : Type 0} (check : Tagged → Option WireFault) (with : X → Tagged → X) (layout : Layout) (end : ℕ) (x : X) (rest : List ℕ) (total : Result X WireFault) : Type 0 where
  pub placed : length rest ≤ end
  pub fuel : ℕ
  pub enough : length rest ≤ fuel
  pub same : gather check with x (steps_within layout end fuel rest) ≡ total

pub begins : {X : Type 0} (check : Tagged → Option WireFault) (with : X → Tagged → X) (layout : Layout) (end : ℕ) (x : X) (bytes : List ℕ)
    → length bytes ≤ end → IsOn check with layout end x bytes (gather check with x (steps layout end bytes))
begins check with layout end x bytes p = record { placed = p; fuel = length bytes; enough = omega arith; same = refl }

-- the first step of bytes that are left
pub one_step : (layout : Layout) (end fuel : ℕ) (rest : List ℕ) → 0 < length rest → length rest ≤ fuel
    → (k : ℕ) × (fuel ≡ suc k) × (steps_within layout end fuel rest ≡ then_steps (steps_within layout end k) (field_at layout end rest))
unfolding steps_within
one_step layout end fuel [] p q = absurd (omega arith)
one_step layout end zero (b ∷ bs) p q = absurd (omega arith)
one_step layout end (suc k) (b ∷ bs) p q = (k, refl, refl)

pub goes_on : {X : Type 0} (check : Tagged → Option WireFault) (with : X → Tagged → X) (layout : Layout) (end : ℕ) (x : X) (rest : List ℕ) (total : Result X WireFault) (t : Tagged) (after : List ℕ) (y : X)
    → IsOn check with layout end x rest total → 0 < length rest → field_at layout end rest ≡ Ok (t, after) → length after < length rest
    → answer (check t) (with x t) ≡ Ok y → IsOn check with layout end y after total
goes_on check with layout end x rest total t after y on some field shorter taken =
    let s = one_step layout end on.fuel rest some on.enough in
    let enough = on.enough in
    let placed = on.placed in
    let next : gather check with x (steps_within layout end on.fuel rest) ≡ gather check with y (steps_within layout end s.0 after) = rw (s.2, field, taken) refl in
    record { placed = omega arith; fuel = s.0; enough = omega (arith, s.1); same = sym next ∙ on.same }

fails_along : {Y : Type 0} (e : WireFault) (a : Result Y WireFault) (b : Result Y WireFault) → a ≡ b → Fails e a → Fails e b
fails_along e a b p h = subst (λ (r : Result _ WireFault). Fails e r) p h

-- the fault of a step is the fault of what follows it
fails_bind : {A B : Type 0} (e : WireFault) (a : Result A WireFault) (f : A → Result B WireFault) → Fails e a → Fails e (a >>= f)
fails_bind faults.NoMemory a f h = tt
fails_bind (faults.Truncated at) a f h = rw h refl
fails_bind (faults.BadTag at) a f h = rw h refl
fails_bind (faults.LongVarint at) a f h = rw h refl
fails_bind (faults.NotUtf8 at) a f h = rw h refl
fails_bind (faults.BadStamp at) a f h = rw h refl
fails_bind (faults.BadMessage at) a f h = rw h refl

first_of_steps : {X : Type 0} (check : Tagged → Option WireFault) (with : X → Tagged → X) (x : X) (next : List ℕ → List (Result Tagged WireFault)) (r : Result (Tagged × List ℕ) WireFault)
    → gather check with x (then_steps next r) ≡ (r >>= λ f. answer (check f.0) (with x f.0) >>= λ y. gather check with y (next f.1))
first_of_steps check with x next (Ok f) = refl
first_of_steps check with x next (Err f) = refl

pub field_fails : {X : Type 0} (check : Tagged → Option WireFault) (with : X → Tagged → X) (layout : Layout) (end : ℕ) (x : X) (rest : List ℕ) (total : Result X WireFault) (e : WireFault)
    → IsOn check with layout end x rest total → 0 < length rest → Fails e (field_at layout end rest) → Fails e total
field_fails check with layout end x rest total e on some fails =
    let s = one_step layout end on.fuel rest some on.enough in
    let shown = sym (ap (gather check with x) s.2 ∙ first_of_steps check with x (steps_within layout end s.0) (field_at layout end rest)) ∙ on.same in
    fails_along e _ _ shown (fails_bind e (field_at layout end rest) (λ f. answer (check f.0) (with x f.0) >>= λ y. gather check with y (steps_within layout end s.0 f.1)) fails)

pub check_fails : {X : Type 0} (check : Tagged → Option WireFault) (with : X → Tagged → X) (layout : Layout) (end : ℕ) (x : X) (rest : List ℕ) (total : Result X WireFault) (t : Tagged) (after : List ℕ) (e : WireFault)
    → IsOn check with layout end x rest total → 0 < length rest → field_at layout end rest ≡ Ok (t, after) → Fails e (answer (check t) (with x t)) → Fails e total
check_fails check with layout end x rest total t after e on some field fails =
    let s = one_step layout end on.fuel rest some on.enough in
    let shown : (answer (check t) (with x t) >>= λ y. gather check with y (steps_within layout end s.0 after)) ≡ total = sym (rw (s.2, field) refl) ∙ on.same in
    fails_along e _ _ shown (fails_bind e (answer (check t) (with x t)) (λ y. gather check with y (steps_within layout end s.0 after)) fails)

pub no_steps : (layout : Layout) (end fuel : ℕ) (rest : List ℕ) → length rest ≡ 0 → steps_within layout end fuel rest ≡ []
unfolding steps_within
no_steps layout end zero rest e = refl
no_steps layout end (suc k) [] e = refl
no_steps layout end (suc k) (b ∷ bs) e = absurd (omega arith)

pub is_over : {X : Type 0} (check : Tagged → Option WireFault) (with : X → Tagged → X) (layout : Layout) (end : ℕ) (x : X) (rest : List ℕ) (total : Result X WireFault)
    → IsOn check with layout end x rest total → length rest ≡ 0 → total ≡ Ok x
is_over check with layout end x rest total on over =
    sym on.same ∙ ap (gather check with x) (no_steps layout end on.fuel rest over)

-- ---- the last of its number

last_of_some : {A : Type 0} (a b y : A) (ys : List A) → or a (last_or (Some y) ys) ≡ or b (last_or (Some y) ys)
last_of_some a b y [] = refl
last_of_some a b y (z ∷ ys) = last_of_some a b z ys

last_shift : {A : Type 0} (a : A) (o : Option A) (ys : List A) → or a (last_or None (cons_option o ys)) ≡ or (or a o) (last_or None ys)
last_shift a None ys = refl
last_shift a (Some y) [] = refl
last_shift a (Some y) (z ∷ ys) = last_of_some a y z ys

-- one field more in front
pub last_else-cons : {A : Type 0} (a : A) (find : Tagged → Option A) (t : Tagged) (ts : List Tagged) → last_else a find (t ∷ ts) ≡ last_else (or a (find t)) find ts
last_else-cons a find t ts = last_shift a (find t) (filter_map find ts)
