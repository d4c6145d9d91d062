-- What is spelled is read, and what is read is spelled.
use Rattle.std.proofs.Common.{◌≡◌, ◌⊎◌, inl, inr, ℕ, zero, suc, ◌+◌, ◌-◌, ◌*◌, ◌/◌, ◌%◌, ◌^◌, ◌≤◌, Bool, true, false, cond, ltb, eqb, List, [], ◌∷◌, ◌++◌, length, take, drop, Result, Ok, Err, refl, sym, ap, subst, ◌∙◌, append_assoc, length-append, arith}
use Rattle.std.proofs.lemmas.Bool.{lt-ltb, le-ltb, ltb-true, ltb-false, or_cases, eqb-true, eqb-false}
use Rattle.std.proofs.lemmas.List.{take_at, drop_at, take-append-drop, length-take}
use Rattle.sync_wire.specs.declared.fault.WireFault.{WireFault}
use Rattle.sync_wire.specs.declared.fault.WireFault.TheVariants.{Truncated, LongVarint, BadTag}
use Rattle.sync_wire.specs.declared.layout.Layout.{Layout}
use Rattle.sync_wire.specs.Reading.{◌>>=◌}
use Rattle.sync_wire.specs.Layouts.{allows, wanted_type, is_type}
use Rattle.sync_wire.specs.declared.layout.Layout.TheVariants.{Request, Response, Envelope, Content}
use Rattle.std.specs.Prelude.{IfSome, ◌==◌, ◌||◌, Option, Some, None}
use Rattle.sync_wire.specs.Fields.{Payload, Number, Fixed, Bytes, Tagged, digits, number_at, fixed_at, bytes_at, payload_at, field_at}
use Rattle.sync_wire.specs.Spelling.{Spells, IsNumber, IsBody, IsField}

-- ---- what is spelled is read

digits_again : (at end k : ℕ) (text rest : List ℕ) (n : ℕ) → Spells text n → length text ≤ k → digits at end k (text ++ rest) ≡ Ok (n, rest)
unfolding digits
digits_again at end k [] rest n s p = absurd s
digits_again at end zero (b ∷ bs) rest n s p = absurd (omega arith)
digits_again at end (suc k) (b ∷ bs) rest n (inl s) p = rw (lt-ltb b 128 s.0, s.1, s.2) refl
digits_again at end (suc k) (b ∷ bs) rest n (inr s) p =
    let shorter : length bs ≤ k = omega arith in
    rw (le-ltb b 128 s.1, digits_again at end k bs rest s.0 s.3 shorter, s.2) refl

pub number_again : (end : ℕ) (text rest : List ℕ) (n : ℕ) → IsNumber text n → number_at end (text ++ rest) ≡ Ok (n, rest)
unfolding number_at
number_again end text rest n s = rw (digits_again (end - length (text ++ rest)) end 10 text rest n s.spells s.short, lt-ltb n (2 ^ 64) s.fits) refl

fixed_again : (width end : ℕ) (text rest : List ℕ) → length text ≡ width → fixed_at width end (text ++ rest) ≡ Ok (Fixed, rest)
unfolding fixed_at
fixed_again width end text rest e =
    let long : width ≤ length (text ++ rest) = omega (arith, length-append text rest) in
    rw (le-ltb (length (text ++ rest)) width long, drop_at text rest width e) refl

bytes_again : (end : ℕ) (len bytes rest : List ℕ) → IsNumber len (length bytes) → bytes_at end (len ++ (bytes ++ rest)) ≡ Ok (Bytes (end - length rest) bytes, rest)
unfolding bytes_at
bytes_again end len bytes rest s =
    let long : length bytes ≤ length (bytes ++ rest) = omega (arith, length-append bytes rest) in
    rw (number_again end len (bytes ++ rest) (length bytes) s, le-ltb (length (bytes ++ rest)) (length bytes) long, take_at bytes rest (length bytes) refl, drop_at bytes rest (length bytes) refl) refl

body_again : (kind end : ℕ) (text rest : List ℕ) (p : Payload) → IsBody kind text (end - length rest) p → payload_at kind end (text ++ rest) ≡ Ok (p, rest)
unfolding payload_at
body_again kind end text rest (Number n) h = rw (h.0, number_again end text rest n h.1) refl
body_again kind end text rest Fixed (inl h) = rw (h.0, fixed_again 8 end text rest h.1) refl
body_again kind end text rest Fixed (inr h) = rw (h.0, fixed_again 4 end text rest h.1) refl
body_again kind end text rest (Bytes place bytes) h =
    let regrouped : text ++ rest ≡ h.0 ++ (bytes ++ rest) = ap (λ (x : List ℕ). x ++ rest) h.4 ∙ append_assoc h.0 bytes rest in
    rw (h.1, h.2) (ap (bytes_at end) regrouped ∙ bytes_again end h.0 bytes rest h.3)

pub field_again : (layout : Layout) (end : ℕ) (text rest : List ℕ) (t : Tagged) → IsField layout text (end - length rest) t → field_at layout end (text ++ rest) ≡ Ok (t, rest)
unfolding field_at
field_again layout end text rest t f =
    let number : (8 * t.number + f.kind) / 8 ≡ t.number = let small = f.small in omega arith in
    let kind : (8 * t.number + f.kind) % 8 ≡ f.kind = let small = f.small in omega arith in
    let regrouped : text ++ rest ≡ f.tag ++ (f.body ++ rest) = ap (λ (x : List ℕ). x ++ rest) f.whole ∙ append_assoc f.tag f.body rest in
    ap (field_at layout end) regrouped ∙ rw (number_again end f.tag (f.body ++ rest) (8 * t.number + f.kind) f.tagged, number, kind, f.allowed, body_again f.kind end f.body rest t.payload f.holds) refl

-- ---- what is read is spelled

pub bind_ok : {A B : Type 0} (r : Result A WireFault) (f : A → Result B WireFault) (y : B) → (r >>= f) ≡ Ok y → (x : A) × (r ≡ Ok x) × (f x ≡ Ok y)
bind_ok (Ok x) f y e = (x, refl, e)
bind_ok (Err d) f y e = absurd cc

guard_ok : {A : Type 0} (b : Bool) (d : WireFault) (x y : A) → cond b (Err d) (Ok x) ≡ Ok y → (b ≡ false) × (x ≡ y)
guard_ok true d x y e = absurd cc
guard_ok false d x y e = (refl, cc)

abbrev done : {A : Type 0} → A → Result A WireFault
done x = Ok x

ok_is : {A : Type 0} (x y : A) → done x ≡ done y → x ≡ y
ok_is x y e = cc

let_ok : {A : Type 0} (b : Bool) (d : WireFault) (r : Result A WireFault) (y : A) → cond b r (Err d) ≡ Ok y → (b ≡ true) × (r ≡ Ok y)
let_ok true d r y e = (refl, e)
let_ok false d r y e = absurd cc

-- what reading took from the front
abbrev Took : ℕ → List ℕ → ℕ → List ℕ → Type 0
Took k bytes n rest = (text : List ℕ) × (bytes ≡ text ++ rest) × Spells text n × (length text ≤ k)

abbrev digit_part : ℕ → ℕ × List ℕ → Result (ℕ × List ℕ) WireFault
digit_part b x = Ok (b - 128 + 128 * x.0, x.1)

abbrev last_digit : ℕ → List ℕ → Result (ℕ × List ℕ) WireFault
last_digit b bs = Ok (b, bs)

digit_takes : (k b : ℕ) (bs : List ℕ) (n : ℕ) (rest : List ℕ) (r : Result (ℕ × List ℕ) WireFault) (test : Bool)
    → ((high : ℕ) (after : List ℕ) → r ≡ Ok (high, after) → Took k bs high after)
    → ltb b 128 ≡ test → cond test (last_digit b bs) (r >>= digit_part b) ≡ last_digit n rest → Took (suc k) (b ∷ bs) n rest
digit_takes k b bs n rest r true deeper t h =
    let made : ℕ × List ℕ = (b, bs) in
    let wanted : ℕ × List ℕ = (n, rest) in
    subst (λ (y : ℕ × List ℕ). Took (suc k) (b ∷ bs) y.0 y.1) (ok_is made wanted h) (b ∷ [], refl, inl (ltb-true b 128 t, refl, refl), omega arith)
digit_takes k b bs n rest r false deeper t h =
    let a = bind_ok r (digit_part b) (n, rest) h in
    let deep = deeper a.0.0 a.0.1 a.1 in
    let room = deep.3 in
    let made : ℕ × List ℕ = (b - 128 + 128 * a.0.0, a.0.1) in
    let wanted : ℕ × List ℕ = (n, rest) in
    subst (λ (y : ℕ × List ℕ). Took (suc k) (b ∷ bs) y.0 y.1) (ok_is made wanted a.2)
    (b ∷ deep.0, ap (λ (x : List ℕ). b ∷ x) deep.1, inr (a.0.0, ltb-false b 128 t, refl, deep.2), omega arith)

pub digits_takes : (at end k : ℕ) (bytes : List ℕ) (n : ℕ) (rest : List ℕ) → digits at end k bytes ≡ Ok (n, rest) → Took k bytes n rest
unfolding digits
digits_takes at end zero bytes n rest e = absurd cc
digits_takes at end (suc k) [] n rest e = absurd cc
digits_takes at end (suc k) (b ∷ bs) n rest e = digit_takes k b bs n rest (digits at end k bs) (ltb b 128) (λ high after h. digits_takes at end k bs high after h) refl e

pub number_takes : (end : ℕ) (bytes : List ℕ) (n : ℕ) (rest : List ℕ) → number_at end bytes ≡ Ok (n, rest) → (text : List ℕ) × (bytes ≡ text ++ rest) × IsNumber text n
unfolding number_at
number_takes end bytes n rest e =
    let a = bind_ok (digits (end - length bytes) end 10 bytes) (λ x. cond (ltb x.0 (2 ^ 64)) (Ok x) (Err (LongVarint (end - length bytes)))) (n, rest) e in
    let g = let_ok (ltb a.0.0 (2 ^ 64)) (LongVarint (end - length bytes)) (Ok a.0) (n, rest) a.2 in
    let same = g.1 in
    let x : a.0 ≡ (n, rest) = cc in
    let h : digits (end - length bytes) end 10 bytes ≡ Ok (n, rest) = a.1 ∙ ap (λ (y : ℕ × List ℕ). Ok y) x in
    let nx : a.0.0 ≡ n = ap (λ (y : ℕ × List ℕ). y.0) x in
    let below = ltb-true a.0.0 (2 ^ 64) g.0 in
    let t = digits_takes (end - length bytes) end 10 bytes n rest h in
    (t.0, t.1, record { spells = t.2; short = t.3; fits = rw nx at below })

-- what reading took of what a field holds
abbrev Holds : ℕ → ℕ → List ℕ → Payload → List ℕ → Type 0
Holds kind end bytes p rest = (text : List ℕ) × (bytes ≡ text ++ rest) × IsBody kind text (end - length rest) p

abbrev number_part : ℕ × List ℕ → Result (Payload × List ℕ) WireFault
number_part n = Ok (Number n.0, n.1)

number_holds : (end : ℕ) (bytes : List ℕ) (p : Payload) (rest : List ℕ) → (number_at end bytes >>= number_part) ≡ Ok (p, rest) → Holds 0 end bytes p rest
number_holds end bytes p rest e =
    let a = bind_ok (number_at end bytes) number_part (p, rest) e in
    let t = number_takes end bytes a.0.0 a.0.1 a.1 in
    let same = a.2 in
    let made : Payload × List ℕ = (Number a.0.0, a.0.1) in
    let wanted : Payload × List ℕ = (p, rest) in
    let x : made ≡ wanted = cc in
    subst (λ (y : Payload × List ℕ). Holds 0 end bytes y.0 y.1) x (t.0, t.1, (refl, t.2))

bytes_hold : (end : ℕ) (bytes : List ℕ) (p : Payload) (rest : List ℕ) → bytes_at end bytes ≡ Ok (p, rest) → Holds 2 end bytes p rest
unfolding bytes_at
bytes_hold end bytes p rest e =
    let a = bind_ok (number_at end bytes) (λ n. cond (ltb (length n.1) n.0) (Err (Truncated end)) (Ok (Bytes (end - length (drop n.0 n.1)) (take n.0 n.1), drop n.0 n.1))) (p, rest) e in
    let n = a.0.0 in
    let after = a.0.1 in
    let t = number_takes end bytes n after a.1 in
    let g = guard_ok (ltb (length after) n) (Truncated end) (Bytes (end - length (drop n after)) (take n after), drop n after) (p, rest) a.2 in
    let long : n ≤ length after = ltb-false _ _ g.0 in
    let len : length (take n after) ≡ n = omega (arith, length-take n after) in
    let whole : bytes ≡ (t.0 ++ take n after) ++ drop n after = t.1 ∙ ap (λ (x : List ℕ). t.0 ++ x) (sym (take-append-drop n after)) ∙ sym (append_assoc t.0 (take n after) (drop n after)) in
    let spelled : IsNumber t.0 (length (take n after)) = subst (λ (k : ℕ). IsNumber t.0 k) (sym len) t.2 in
    subst (λ (y : Payload × List ℕ). Holds 2 end bytes y.0 y.1) g.1 (t.0 ++ take n after, whole, (t.0, refl, refl, spelled, refl))

fixed_holds : (kind width end : ℕ) (bytes : List ℕ) (p : Payload) (rest : List ℕ) → ((kind ≡ 1) × (width ≡ 8)) ⊎ ((kind ≡ 5) × (width ≡ 4)) → fixed_at width end bytes ≡ Ok (p, rest) → Holds kind end bytes p rest
unfolding fixed_at
fixed_holds kind width end bytes p rest which e =
    let g = guard_ok (ltb (length bytes) width) (Truncated end) (Fixed, drop width bytes) (p, rest) e in
    let long : width ≤ length bytes = ltb-false _ _ g.0 in
    let len : length (take width bytes) ≡ width = omega (arith, length-take width bytes) in
    let body : IsBody kind (take width bytes) (end - length (drop width bytes)) Fixed = elim which [ inl h ↦ inl (h.0, len ∙ h.1) | inr h ↦ inr (h.0, len ∙ h.1) ] in
    subst (λ (y : Payload × List ℕ). Holds kind end bytes y.0 y.1) g.1 (take width bytes, sym (take-append-drop width bytes), body)

wanted_if : (b : Bool) (o : Option ℕ) → IfSome o (λ w. (w ≡ 0) ⊎ (w ≡ 2)) → IfSome (cond b (Some 2) o) (λ w. (w ≡ 0) ⊎ (w ≡ 2))
wanted_if true o h = inr refl
wanted_if false o h = h

flag_if : (b : Bool) (o : Option ℕ) → IfSome o (λ w. (w ≡ 0) ⊎ (w ≡ 2)) → IfSome (cond b (Some 0) o) (λ w. (w ≡ 0) ⊎ (w ≡ 2))
flag_if true o h = inl refl
flag_if false o h = h

wanted_is : (layout : Layout) (number : ℕ) → IfSome (wanted_type layout number) (λ w. (w ≡ 0) ⊎ (w ≡ 2))
wanted_is Request number = wanted_if (number == 1 || number == 2 || number == 3 || number == 5 || number == 6) None tt
wanted_is Response number = wanted_if (number == 1 || number == 2) None tt
wanted_is Envelope number = flag_if (number == 2) (cond (number == 1 || number == 3) (Some 2) None) (wanted_if (number == 1 || number == 3) None tt)
wanted_is Content number = wanted_if (number == 1 || number == 2 || number == 3 || number == 4) None tt

type_allowed : (b : Bool) (o : Option ℕ) (kind : ℕ) → IfSome o (λ w. (w ≡ 0) ⊎ (w ≡ 2)) → cond b false (is_type o kind) ≡ true → (eqb kind 0 ≡ false) → (eqb kind 2 ≡ false) → (eqb kind 1 ≡ false) → kind ≡ 5
type_allowed true o kind w a p q r = absurd cc
type_allowed false None kind w a p q r =
    let p0 = eqb-false kind 0 p in
    let q0 = eqb-false kind 2 q in
    let r0 = eqb-false kind 1 r in
    elim (or_cases (ltb kind 3) (eqb kind 5) a) [ inl h ↦ (let below = ltb-true kind 3 h in omega arith) | inr h ↦ eqb-true kind 5 h ]
type_allowed false (Some w) kind is a p q r =
    let p0 = eqb-false kind 0 p in
    let q0 = eqb-false kind 2 q in
    let e = eqb-true kind w a in
    elim is [ inl h ↦ absurd (p0 (e ∙ h)) | inr h ↦ absurd (q0 (e ∙ h)) ]

pub kind_allowed : (layout : Layout) (number kind : ℕ) → allows layout number kind ≡ true → (eqb kind 0 ≡ false) → (eqb kind 2 ≡ false) → (eqb kind 1 ≡ false) → kind ≡ 5
kind_allowed layout number kind a = type_allowed (eqb number 0) (wanted_type layout number) kind (wanted_is layout number) a

body_by : (kind end : ℕ) (bytes : List ℕ) (p : Payload) (rest : List ℕ) (t0 t2 t1 : Bool) → eqb kind 0 ≡ t0 → eqb kind 2 ≡ t2 → eqb kind 1 ≡ t1
    → ((eqb kind 0 ≡ false) → (eqb kind 2 ≡ false) → (eqb kind 1 ≡ false) → kind ≡ 5)
    → cond t0 (number_at end bytes >>= number_part) (cond t2 (bytes_at end bytes) (cond t1 (fixed_at 8 end bytes) (fixed_at 4 end bytes))) ≡ Ok (p, rest) → Holds kind end bytes p rest
body_by kind end bytes p rest true t2 t1 e0 e2 e1 only e = subst (λ (k : ℕ). Holds k end bytes p rest) (sym (eqb-true kind 0 e0)) (number_holds end bytes p rest e)
body_by kind end bytes p rest false true t1 e0 e2 e1 only e = subst (λ (k : ℕ). Holds k end bytes p rest) (sym (eqb-true kind 2 e2)) (bytes_hold end bytes p rest e)
body_by kind end bytes p rest false false true e0 e2 e1 only e = fixed_holds kind 8 end bytes p rest (inl (eqb-true kind 1 e1, refl)) e
body_by kind end bytes p rest false false false e0 e2 e1 only e = fixed_holds kind 4 end bytes p rest (inr (only e0 e2 e1, refl)) e

body_takes : (kind end : ℕ) (bytes : List ℕ) (p : Payload) (rest : List ℕ) → ((eqb kind 0 ≡ false) → (eqb kind 2 ≡ false) → (eqb kind 1 ≡ false) → kind ≡ 5) → payload_at kind end bytes ≡ Ok (p, rest) → Holds kind end bytes p rest
unfolding payload_at
body_takes kind end bytes p rest only e = body_by kind end bytes p rest (eqb kind 0) (eqb kind 2) (eqb kind 1) refl refl refl only e

pub field_takes : (layout : Layout) (end : ℕ) (bytes : List ℕ) (t : Tagged) (rest : List ℕ) → field_at layout end bytes ≡ Ok (t, rest) → (text : List ℕ) × (bytes ≡ text ++ rest) × IsField layout text (end - length rest) t
unfolding field_at
field_takes layout end bytes t rest e =
    let next = λ (tag : ℕ × List ℕ). payload_at (tag.0 % 8) end tag.1 >>= λ p. Ok (record { number = tag.0 / 8; payload = p.0 }, p.1) in
    let a = bind_ok (number_at end bytes) (λ tag. cond (allows layout (tag.0 / 8) (tag.0 % 8)) (next tag) (Err (BadTag (end - length bytes)))) (t, rest) e in
    let tag = a.0.0 in
    let after = a.0.1 in
    let g = let_ok (allows layout (tag / 8) (tag % 8)) (BadTag (end - length bytes)) (next a.0) (t, rest) a.2 in
    let b = bind_ok (payload_at (tag % 8) end after) (λ p. Ok (record { number = tag / 8; payload = p.0 }, p.1)) (t, rest) g.1 in
    let n = number_takes end bytes tag after a.1 in
    let h = body_takes (tag % 8) end after b.0.0 b.0.1 (kind_allowed layout (tag / 8) (tag % 8) g.0) b.1 in
    let made : Tagged = record { number = tag / 8; payload = b.0.0 } in
    let same = b.2 in
    let x : (made, b.0.1) ≡ (t, rest) = cc in
    let split : 8 * (tag / 8) + tag % 8 ≡ tag = omega arith in
    let field : IsField layout (n.0 ++ h.0) (end - length b.0.1) made = record {
      tag = n.0;
      body = h.0;
      kind = tag % 8;
      whole = refl;
      tagged = subst (λ (k : ℕ). IsNumber n.0 k) (sym split) n.2;
      small = omega arith;
      allowed = g.0;
      holds = h.2;
    } in
    let whole : bytes ≡ (n.0 ++ h.0) ++ b.0.1 = n.1 ∙ ap (λ (x : List ℕ). n.0 ++ x) h.1 ∙ sym (append_assoc n.0 h.0 b.0.1) in
    subst (λ (y : Tagged × List ℕ). (text : List ℕ) × (bytes ≡ text ++ y.1) × IsField layout text (end - length y.1) y.0) x (n.0 ++ h.0, whole, field)
