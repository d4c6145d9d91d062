-- How the outcomes of events are replied to.
use Rattle.std.proofs.Common.{◌≡◌, ℕ, ◌+◌, ◌%◌, ◌^◌, ◌<◌, ◌==◌, true, false, true≢false, eqb, eq-eqb, ltb-true, nat_lt, List, [], ◌∷◌, ◌++◌, map, get_or, drop, codes, Option, None, Some, refl, sym, ap, ap₂, ◌∙◌, arith}
use Rattle.std.specs.Fmt.{decimal}
use Rattle.std.proofs.lemmas.Bool.Decides.{nat_tests}
use Rattle.std.proofs.lemmas.Fmt.{decimal_by_steps, decimal_injective}
use Rattle.hybrid_clock.specs.declared.clock.ClockFault.{ClockFault}
use Rattle.hybrid_clock.specs.declared.clock.ClockFault.TheVariants.{Drift, Overflow, Beyond}
use Rattle.field_merge.proofs.EscapeLemmas.{Lacks, Fails-append}
use Rattle.book_rows.specs.declared.fault.EditFault.{EditFault}
use Rattle.book_rows.specs.declared.fault.EditFault.TheVariants.{NoMemory as NoMemoryOfEdit}
use Rattle.device_core.specs.declared.edit.LineRefusal.{LineRefusal}
use Rattle.device_core.specs.declared.edit.LineRefusal.TheVariants.{Edit, Clock, NoMemory as NoMemoryOfLine}
use Rattle.command_lines.specs.declared.reply.Reply.{Reply}
use Rattle.command_lines.specs.declared.reply.Reply.TheVariants.{Done, Refused}
use Rattle.command_lines.specs.Refusals.{refused_edit}
use Rattle.command_lines.specs.Replies.{refused, refused_clock}
use Rattle.sync_world.specs.declared.event.Outcome.{Outcome}
use Rattle.sync_world.specs.declared.event.Outcome.TheVariants.{Wrote, Asked, Served, Took, Stopped, Halted}
use Rattle.sync_world.specs.declared.event.WorldFault.{WorldFault}
use Rattle.sync_world.specs.declared.event.WorldFault.TheVariants.{NoSuchDevice, NoSuchRequest, NoSuchReply, Line, NoMemory}
use Rattle.world_lines.specs.Replies.{outcome_reply, fault_reply}
use Rattle.world_lines.specs.Session.{settled, reply_or_none}
use Rattle.world_laws.specs.Told.{Has64Bits, IsLacking, OutcomesAreTold}

-- ---- texts

-- a text up to the first place of a byte, and what stands behind it
up_to : (b : ℕ) (xs ys us vs : List ℕ) → Lacks b xs → Lacks b ys → xs ++ b ∷ us ≡ ys ++ b ∷ vs → (xs ≡ ys) × (us ≡ vs)
up_to b [] [] us vs h k e = (refl, ap (drop 1) e)
up_to b [] (y ∷ ys) us vs h k e =
    let same : y ≡ b = sym (ap (λ (t : List ℕ). get_or t 0 0) e) in
    absurd (true≢false (sym (eq-eqb y b same) ∙ k.0))
up_to b (x ∷ xs) [] us vs h k e =
    let same : x ≡ b = ap (λ (t : List ℕ). get_or t 0 0) e in
    absurd (true≢false (sym (eq-eqb x b same) ∙ h.0))
up_to b (x ∷ xs) (y ∷ ys) us vs h k e =
    let first : x ≡ y = ap (λ (t : List ℕ). get_or t 0 0) e in
    let rest = up_to b xs ys us vs h.1 k.1 (ap (drop 1) e) in
    (ap₂ (λ (a : ℕ) (t : List ℕ). a ∷ t) first rest.0, rest.1)

no_blank : (n : ℕ) → n < 2 ^ 64 → Lacks 32 (decimal n)
no_blank n h = decimal_by_steps (λ m ds. Lacks 32 ds) (λ m low. (digit m low, tt)) (λ m ds high before. Fails-append (λ x. x == 32) ds ((48 + m % 10) ∷ []) before (digit (m % 10) (omega arith), tt)) n h
  where
    digit : (d : ℕ) → d < 10 → ((48 + d) == 32) ≡ false
    digit d low = grind (arith, nat_tests)

same_ids : (xs ys : List (List ℕ)) → map (λ id. codes "made " ++ id) xs ≡ map (λ id. codes "made " ++ id) ys → xs ≡ ys
same_ids [] [] e = refl
same_ids [] (y ∷ ys) e = absurd (cc)
same_ids (x ∷ xs) [] e = absurd (cc)
same_ids (x ∷ xs) (y ∷ ys) e =
    let first : x ≡ y = ap (λ (ls : List (List ℕ)). drop 5 (get_or ls 0 [])) e in
    let rest : xs ≡ ys = same_ids xs ys (ap (drop 1) e) in
    ap₂ (λ (a : List ℕ) (t : List (List ℕ)). a ∷ t) first rest

-- ---- replies

abbrev lines_in : Reply → List (List ℕ)
lines_in (Done lines) = lines
lines_in (Refused number code detail) = []

abbrev first_line : Reply → List ℕ
first_line r = get_or (lines_in r) 0 []

-- the third byte tells which outcome it is
abbrev mark : Outcome → ℕ
mark outcome = get_or (first_line (outcome_reply outcome)) 2 0

abbrev number_in : Option Reply → ℕ
number_in None = 0
number_in (Some (Done lines)) = 0
number_in (Some (Refused number code detail)) = number

abbrev detail_in : Option Reply → List ℕ
detail_in None = []
detail_in (Some (Done lines)) = []
detail_in (Some (Refused number code detail)) = detail

-- ---- different ones

different : (a b : Outcome) → Has64Bits a → Has64Bits b → outcome_reply a ≡ outcome_reply b → a ≡ b
different (Wrote m xs) (Wrote n ys) p q e =
    let number : decimal m ≡ decimal n = ap (λ r. drop 7 (first_line r)) e in
    ap₂ (λ (k : ℕ) (ids : List (List ℕ)). Wrote k ids) (decimal_injective m n p q number) (same_ids xs ys (ap (λ r. drop 1 (lines_in r)) e))
different (Asked m) (Asked n) p q e = ap (λ (k : ℕ). Asked k) (decimal_injective m n p q (ap (λ r. drop 8 (first_line r)) e))
different (Served k m) (Served l n) p q e =
    let both = up_to 32 (decimal k) (decimal l) (decimal m) (decimal n) (no_blank k p.0) (no_blank l q.0) (ap (λ r. drop 6 (first_line r)) e) in
    ap₂ (λ (i j : ℕ). Served i j) (decimal_injective k l p.0 q.0 both.0) (decimal_injective m n p.1 q.1 both.1)
different (Took m) (Took n) p q e = ap (λ (k : ℕ). Took k) (decimal_injective m n p q (ap (λ r. drop 9 (first_line r)) e))
different Stopped Stopped p q e = refl
different Halted Halted p q e = refl
different a b p q e =
    let same : eqb (mark a) (mark b) ≡ true = eq-eqb (mark a) (mark b) (ap (λ r. get_or (first_line r) 2 0) e) in
    absurd (true≢false (sym same))

lacking : (a b : WorldFault) → IsLacking a → IsLacking b → fault_reply a ≡ fault_reply b → a ≡ b
lacking (NoSuchDevice m) (NoSuchDevice n) p q e = ap (λ (k : ℕ). NoSuchDevice k) (decimal_injective m n p q (ap detail_in e))
lacking (NoSuchRequest m) (NoSuchRequest n) p q e = ap (λ (k : ℕ). NoSuchRequest k) (decimal_injective m n p q (ap detail_in e))
lacking (NoSuchReply m) (NoSuchReply n) p q e = ap (λ (k : ℕ). NoSuchReply k) (decimal_injective m n p q (ap detail_in e))
lacking (Line refusal) b p q e = absurd p
lacking NoMemory b p q e = absurd p
lacking a (Line refusal) p q e = absurd q
lacking a NoMemory p q e = absurd q
lacking a b p q e =
    let same : eqb (number_in (fault_reply a)) (number_in (fault_reply b)) ≡ true = eq-eqb (number_in (fault_reply a)) (number_in (fault_reply b)) (ap number_in e) in
    absurd (true≢false (sym same))

-- ---- refusals of a device

low_edit : (fault : EditFault) → nat_lt (number_in (refused_edit fault)) 33 ≡ true
low_edit NoMemoryOfEdit = refl
low_edit other = refl

low_clock : (fault : ClockFault) → nat_lt (number_in (Some (refused_clock fault))) 33 ≡ true
low_clock (Drift logical reading) = refl
low_clock (Overflow counter) = refl
low_clock (Beyond reading) = refl

low : (refusal : LineRefusal) → nat_lt (number_in (refused refusal)) 33 ≡ true
low (Edit fault) = low_edit fault
low (Clock fault) = low_clock fault
low NoMemoryOfLine = refl

apart : (refusal : LineRefusal) (number : ℕ) (code detail : List ℕ) → refused refusal ≡ Some (Refused number code detail) → number < 33
apart refusal number code detail e = ltb-true number 33 (ap (λ o. nat_lt (number_in o) 33) (sym e) ∙ low refusal)

pub outcomes_told : OutcomesAreTold
outcomes_told = record {
  outcomes = record { wrote = λ writes made. refl; asked = λ request. refl; served = λ reply messages. refl; took = λ received. refl; stopped = refl; halted = refl };
  faults = record { device = λ number. refl; request = λ number. refl; reply = λ number. refl; line = λ refusal. refl; apart = apart };
  different = different;
  lacking = lacking;
  happened = λ w v e outcome is. ap (settled w) is;
  prevented = λ w e fault r is told. ap (settled w) is ∙ ap (λ o. (w, reply_or_none o)) told;
}
