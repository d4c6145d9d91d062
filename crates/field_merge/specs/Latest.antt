-- What is kept of messages whose older writes are forgotten.
use Rattle.std.specs.Prelude.{◌≡◌, ◌≤◌, ◌*◌, ℕ, List, [], ◌∷◌, ◌++◌, length, max, Bool, false, Some, Result, Ok, if◌then◌else◌}
use Rattle.std.specs.Cmp.{IsTotalOrder}
use Rattle.std.proofs.lemmas.Cmp.{back_total, nat_cmp_total, nat_list_cmp_total, on_total, then_total}
use Rattle.std.specs.List.{Contains, list_any}
use Rattle.std.specs.Ordering.{is_eq, is_lt, ordering_then}
use Rattle.std.specs.declared.cmp.Ordering.{Ordering}
use Rattle.field_values.specs.Names.{names_cmp}
use Rattle.hybrid_clock.specs.declared.stamp.Stamp.{Stamp}
use Rattle.hybrid_clock.specs.Order.{stamp_cmp}
use Rattle.field_merge.specs.declared.line.LineFault.{LineFault}
use Rattle.field_merge.specs.declared.message.Message.{Message}
use Rattle.field_merge.specs.Log.{IsByField, fields, has_stamp, join, latest}

-- the timestamps that came, messages among which are the latest ones, how many of these there are when older ones go, and whether a want of memory has spoilt them
pub record LatestState : Type 0 where
  pub stamps : List Stamp
  pub messages : List Message
  pub most : ℕ
  pub spent : Bool

-- so many messages may be kept, however few fields there are
abbrev pub few_messages : ℕ
few_messages = 2_048

-- how many messages there are when older ones next go, where now there are these and no older ones: twice as many, or a few
abbrev pub next_most : List Message → ℕ
next_most kept = max few_messages (2 * length kept)

-- how many messages may be kept where ms came: two for each field, or a few
abbrev pub most_kept : List Message → ℕ
most_kept ms = next_most (fields (join [] ms))

-- no more messages than that are kept
abbrev pub IsFew : List Message → LatestState → Type 0
IsFew ms l = length l.messages ≤ most_kept ms

-- whether a list of timestamps has one
abbrev pub is_among : Stamp → List Stamp → Bool
is_among s stamps = list_any (λ t. is_eq (stamp_cmp s t)) stamps

-- nothing but the messages ms came: these are their timestamps, the messages are some of their join, the latest one of each field among them, and the number at which older ones next go is at least a few and at most what may be kept
pub record CameFrom (ms : List Message) (l : LatestState) : Type 0 where
  pub stamps : (s : Stamp) → is_among s l.stamps ≡ list_any (has_stamp s) ms
  pub some : (m : Message) → Contains l.messages m → Contains (join [] ms) m
  pub latest : (m : Message) → latest (join [] ms) m.field ≡ Some m → Contains l.messages m
  pub least : few_messages ≤ l.most
  pub most : l.most ≤ most_kept ms

-- a line that reads as this came, and is a message's: with its message the same came as before, and no more are kept than may be
abbrev pub AddsRead : Result Message LineFault → LatestState → LatestState → Type 0
AddsRead read old new =
    (m : Message) × (read ≡ Ok m) × ((ms : List Message) → CameFrom ms old → CameFrom (ms ++ m ∷ []) new × IsFew (ms ++ m ∷ []) new)

-- messages by field, those of one field from the latest on
abbrev pub latest_first : Message → Message → Ordering
latest_first m n = ordering_then (names_cmp m.field n.field) (stamp_cmp n.stamp m.stamp)

-- `new` has messages of `old` alone, and for each of `old` one of its field that is not earlier
pub record HasLatest (old new : List Message) : Type 0 where
  pub some : (m : Message) → Contains new m → Contains old m
  pub covers : (m : Message) → Contains old m → (n : Message) × (Contains new n × (n.field ≡ m.field) × (is_lt (stamp_cmp n.stamp m.stamp) ≡ false))

-- `new` has one message for each field of `old`, and none of the field in `old` is later
pub record KeepsLatest (old new : List Message) : Type 0 where
  pub in_order : IsByField new
  pub has : HasLatest old new

-- the later of two messages
abbrev pub later : Message → Message → Message
later m n = if is_lt (stamp_cmp m.stamp n.stamp) then n else m

-- `latest_first` is an order
pub latest_first_total : IsTotalOrder latest_first
latest_first_total =
    then_total
    (then_total (on_total (λ (m : Message). m.field.dataset) nat_list_cmp_total)
    (then_total (on_total (λ (m : Message). m.field.row) nat_list_cmp_total) (on_total (λ (m : Message). m.field.column) nat_list_cmp_total)))
    (back_total
    (then_total (on_total (λ (m : Message). m.stamp.millis) nat_cmp_total)
    (then_total (on_total (λ (m : Message). m.stamp.counter) nat_cmp_total) (on_total (λ (m : Message). m.stamp.node) nat_list_cmp_total))))
