-- How the timestamps that came are kept: in the order in which they came, and by their hashes in buckets.
use Rattle.std.specs.Prelude.{◌≡◌, ◌≢◌, ◌≤◌, ◌<◌, ◌+◌, ◌-◌, ◌*◌, ◌^◌, ◌∷◌, ◌++◌, ℕ, List, [], length, map, slice_index, bit_and, bit_xor}
use Rattle.std.specs.List.{fold}
use Rattle.std.specs.Hash as fed
use Rattle.std.specs.Hash.FoldHasher as folding
use Rattle.hybrid_clock.specs.declared.stamp.Stamp.{Stamp}
use Rattle.field_merge.specs.declared.stamps.Kept.{Kept}

-- the hash of a timestamp
unfoldable pub stamp_hash : Stamp → ℕ
stamp_hash s = folding.finish (fold folding.write folding.initial (fed.u64 (bit_xor s.millis (folding.shl s.counter 48)) ++ s.node ∷ []))

-- the bucket of a timestamp among so many
abbrev pub bucket_of : ℕ → Stamp → ℕ
bucket_of count s = bit_and (stamp_hash s) (count - 1)

-- the timestamp of a minute, and of a millisecond in it
abbrev pub stamp_of : Kept → Stamp
stamp_of k = record { millis = k.minute * 60_000 + k.millis; counter = k.counter; node = k.node }

-- where the buckets of all are these, `at` is one past the last place below `upto` of one of the bucket b, or 0 where there is none
pub record IsLink (buckets : List ℕ) (b at upto : ℕ) : Type 0 where
  pub within : at ≤ upto
  pub last : 0 < at → slice_index buckets (at - 1) ≡ b
  pub none : (j : ℕ) → at ≤ j → j < upto → slice_index buckets j ≢ b

-- of those below `upto` each bucket has the last one, and each the one before it in its bucket
pub record IsLinked (heads before buckets : List ℕ) (upto : ℕ) : Type 0 where
  pub in_buckets : (b : ℕ) → b < length heads → IsLink buckets b (slice_index heads b) upto
  pub behind : (i : ℕ) → i < upto → IsLink buckets (slice_index buckets i) (slice_index before i) i

abbrev pub buckets_of : ℕ → List Kept → List ℕ
buckets_of count ks = map (λ k. bucket_of count (stamp_of k)) ks

abbrev pub before_of : List Kept → List ℕ
before_of ks = map (λ k. k.before) ks

-- all stand in their buckets, and are few enough to be counted there
pub record IsStored (heads : List ℕ) (ks : List Kept) : Type 0 where
  pub few : length ks < 2 ^ 32
  pub linked : IsLinked heads (before_of ks) (buckets_of (length heads) ks) (length ks)
