-- The generated messages rise by timestamp.
use Rattle.std.proofs.Common.{◌≡◌, ℕ, zero, suc, ◌+◌, ◌*◌, ◌<◌, List, [], ◌∷◌, map, refl, sym, ap, ◌∙◌, subst, arith}
use Rattle.std.specs.Ordering.{nat_cmp}
use Rattle.std.specs.List.{AllByRecursion, range_with_len}
use Rattle.std.specs.List.Sorted.{IsStrictlySortedBy}
use Rattle.std.specs.Cmp.Lexicographic.{slice_cmp}
use Rattle.std.specs.declared.cmp.Ordering.{Ordering}
use Rattle.std.specs.declared.cmp.Ordering.TheVariants.{Less, Equal, Greater}
use Rattle.hybrid_clock.specs.declared.stamp.Stamp.{Stamp}
use Rattle.hybrid_clock.specs.Order.{stamp_cmp}
use Rattle.hybrid_clock.proofs.TextOrder.{nat_cmp-lt}
use Rattle.field_merge.specs.declared.message.Message.{Message}
use Rattle.field_merge.specs.Log.{IsRising}
use Rattle.generated_books.specs.Generated.{stamp, generated}
use Rattle.generated_books.specs.Numbers.{count_of, message_at, messages_at}
use Rattle.generated_books.proofs.Numbers.{generated_numbered}

less : (a b : ℕ) → a < b → stamp_cmp (stamp a) (stamp b) ≡ Less
less a b h = rw (nat_cmp-lt (1_704_067_200_000 + 1000 * a) (1_704_067_200_000 + 1000 * b) (omega arith)) refl

later : (a b n : ℕ) → a < b → AllByRecursion (λ s. stamp_cmp (stamp a) s ≡ Less) (map (λ (m : Message). m.stamp) (messages_at b n))
unfolding message_at
later a b zero h = tt
later a b (suc n) h = (less a b h, later a (b + 1) n (omega arith))

pub rising_at : (a n : ℕ) → IsRising (messages_at a n)
unfolding message_at IsStrictlySortedBy
rising_at a zero = tt
rising_at a (suc n) = (later a (a + 1) n (omega arith), rising_at (a + 1) n)

pub generated_rise : (n : ℕ) → IsRising (generated n)
generated_rise n = subst IsRising (sym (generated_numbered n)) (rising_at 0 (count_of n))
