-- Where a timestamp stands in a trie.
use Rattle.std.proofs.Common.{◌≡◌, ℕ, zero, suc, ◌*◌, ◌+◌, ◌/◌, ◌%◌, ◌^◌, ◌<◌, length, refl, ap, ◌∙◌, arith, pow-suc, sym}
use Rattle.std.proofs.Math.Nat.{mod-eq_of_lt}
use Rattle.std.proofs.lemmas.Int.{of_z-to_z}
use Rattle.std.specs.Int.{w32}
use Rattle.hybrid_clock.specs.Stamp.{stamp_text}
use Rattle.minute_trie.specs.Key.{digit_of}
use Rattle.minute_trie.specs.Murmur.{murmur}
use Rattle.minute_trie.specs.Diff.{digit_value}
use Rattle.minute_trie.specs.Laws.{number_behind, StampsArePlaced}
use Rattle.minute_trie.proofs.Blocks.{murmur_fits}
use Rattle.minute_trie.proofs.Splitting.{digits, key_is, mod_split}
use Rattle.minute_trie.proofs.Walking.{three_pos}

digit_there : (n : ℕ) → n < 3 → digit_value (digit_of n) ≡ n
digit_there zero h = refl
digit_there (suc zero) h = refl
digit_there (suc (suc zero)) h = refl
digit_there (suc (suc (suc n))) h = absurd (omega arith)

regrouped : (a b t r : ℕ) → (a * 3 + b) * t + r ≡ a * (t * 3) + (b * t + r)
regrouped a b t r = omega arith

-- the number that n digits of a minute write behind another one
number : (n a m : ℕ) → number_behind a (digits n m) ≡ a * 3 ^ n + m % 3 ^ n
number zero a m = omega arith
number (suc n) a m =
    let here : digit_value (digit_of (m / 3 ^ n % 3)) ≡ m / 3 ^ n % 3 = digit_there (m / 3 ^ n % 3) (omega arith) in
    ap (λ x. number_behind (a * 3 + x) (digits n m)) here
    ∙ number n (a * 3 + m / 3 ^ n % 3) m
    ∙ regrouped a (m / 3 ^ n % 3) (3 ^ n) (m % 3 ^ n)
    ∙ ap (λ x. a * (3 ^ n * 3) + x) (sym (mod_split m (3 ^ n) (three_pos n)))
    ∙ rw pow-suc refl

alone : (t n : ℕ) → 0 * t + n ≡ n
alone t n = omega arith

has_digits : (n m : ℕ) → length (digits n m) ≡ n
has_digits zero m = refl
has_digits (suc n) m = ap suc (has_digits n m)

pub stamps_are_placed_lem : StampsArePlaced
stamps_are_placed_lem = record {
  minute = λ stamp. (omega arith, omega arith);
  hash = λ stamp. of_z-to_z w32 (murmur (stamp_text stamp)) (murmur_fits (stamp_text stamp));
  key = λ minute within. (
    ap length (key_is minute) ∙ has_digits 16 minute,
    ap (number_behind 0) (key_is minute) ∙ number 16 0 minute ∙ alone (3 ^ 16) (minute % 3 ^ 16) ∙ mod-eq_of_lt within,
  );
}
