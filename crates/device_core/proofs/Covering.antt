-- Where messages stay as they are: the months that are covered, and the steps.
use Rattle.std.proofs.Common.{◌≡◌, ℕ, ◌≤◌, ◌<◌, ◌+◌, List, [], Option, Some, None, true, refl, ap, ap₂, ◌∙◌, arith}
use Rattle.std.specs.Prelude.{◌&&◌, nat_le, nat_lt, min, max}
use Rattle.std.proofs.lemmas.Bool.Decides.{nat_tests}
use Rattle.field_merge.specs.declared.message.Message.{Message}
use Rattle.finite_sums.proofs.MapSums.{both_true}
use Rattle.book_rows.specs.Months.{is_month}
use Rattle.envelope_cells.specs.Ids.{month_number}
use Rattle.dirty_cells.specs.Stands.{HasWindow, is_between, with_month, with_window}
use Rattle.device_core.specs.Covering.{IsWithin}

is_month_between : (first end month : ℕ) → is_between first end month ≡ true → (first ≤ month_number month) × (month_number month < end)
is_month_between first end month h =
    let n = month_number month in
    let tests = both_true (nat_le first n) (nat_lt n end) (both_true (is_month month) (nat_le first n && nat_lt n end) h).1 in
    let low : nat_le first n ≡ true = tests.0 in
    let high : nat_lt n end ≡ true = tests.1 in
    (grind (arith, nat_tests), grind (arith, nat_tests))

month_there : (first end n : ℕ) → first ≤ n → n < end → with_month (first, end) n ≡ (first, end)
month_there first end n low high =
    let some : nat_lt first end ≡ true = grind (arith, nat_tests) in
    let front : min first n ≡ first = omega arith in
    let back : max end (n + 1) ≡ end = omega arith in
    rw some (ap₂ (λ (a b : ℕ). (a, b)) front back)

-- a window that is covered makes the covered months no more
pub window_there : (first end : ℕ) (window : Option (ℕ × ℕ)) → HasWindow first end window → with_window (first, end) window ≡ (first, end)
window_there first end None h = refl
window_there first end (Some w) h =
    let a = is_month_between first end w.0 h.0 in
    let b = is_month_between first end w.1 h.1 in
    ap (λ (r : ℕ × ℕ). with_month r (month_number w.1)) (month_there first end (month_number w.0) a.0 a.1) ∙ month_there first end (month_number w.1) b.0 b.1

-- where nothing changed, no step is made
pub still_within : (ms : List Message) (covered : ℕ × ℕ) (before after : ℕ) → after ≡ before → IsWithin ms ms covered covered before after
still_within ms covered before after same = record {
  changes = [];
  are = record { once = tt; changed = tt; valued = tt; others = λ f none. refl };
  within = omega (arith, same);
}
