-- A count that didn't rise tells that no call failed.
use Rattle.std.proofs.Common.{◌≡◌, ◌≢◌, inl, inr, ◌<◌, ◌≤◌, ◌-◌, ◌^◌, ℕ, Bool, true, false, ◌==◌, List, [], ◌∷◌, sym, ◌∙◌, arith}
use Rattle.std.proofs.lemmas.Bool.{eqb-true, false≢true, or_cases, eq-eqb}
use Rattle.std.specs.Prelude.{IsTrue}
use Rattle.std.specs.List.{list_any, AllByRecursion}
use Rattle.budget_ports.specs.Faults.{risen, count_after, IsUnfailed}

-- one more is more
rises : (a b : ℕ) → a < 2 ^ 64 - 1 → a ≤ b → risen b ≡ a → ⊥
rises a b below least e = omega (arith, below, least, e)

-- it may have risen before, but not below what it was
pub not_so : (failed : Bool) (a b c : ℕ) → IsUnfailed a c → a ≤ b → c ≡ count_after failed b → failed ≡ true → ⊥
not_so true a b c h least e did = rises a b h.below least (sym e ∙ h.same)
not_so false a b c h least e did = absurd (false≢true did)

pub count_grows : (failed : Bool) (a b : ℕ) → a < 2 ^ 64 - 1 → a ≤ b → a ≤ count_after failed b
count_grows true a b below least = omega (arith, below, least)
count_grows false a b below least = least

-- what is more stays more
pub stays_more : (failed : Bool) (a b : ℕ) → a < 2 ^ 64 - 1 → a < b → a < count_after failed b
stays_more true a b below more = omega (arith, below, more)
stays_more false a b below more = more

pub rises_by : (a : ℕ) → a < 2 ^ 64 - 1 → a < count_after true a
rises_by a below = omega (arith, below)

-- what holds of each of these numbers holds
pub by_known : (P : Type 0) (status : ℕ) (ss : List ℕ) → AllByRecursion (λ s. status ≡ s → P) ss → IsTrue (list_any (λ s. status == s) ss) → P
by_known P status [] h known = absurd (false≢true known)
by_known P status (s ∷ ss) h known = elim (or_cases (status == s) (list_any (λ s. status == s) ss) known) [ inl e ↦ h.0 (eqb-true status s e) | inr more ↦ by_known P status ss h.1 more ]

-- a run that ends so has failed once more
pub is_not : (status cause : ℕ) (a c : ℕ) → IsUnfailed a c → c ≡ count_after (status == cause) a → status ≡ cause → ⊥
is_not status cause a c h e is = not_so (status == cause) a a c h (omega arith) e (eq-eqb status cause is)
