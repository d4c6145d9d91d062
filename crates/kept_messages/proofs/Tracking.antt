-- The trie of messages, as messages join.
use Rattle.std.proofs.Common.{◌≡◌, List, [], ◌∷◌, ◌++◌, Bool, true, false, not, cond, is_none, IsPermutation, refl, sym, ap, ◌∙◌, true≢false}
use Rattle.std.specs.List.{list_any}
use Rattle.std.specs.Ordering.{is_lt}
use Rattle.std.proofs.lemmas.List.Sorted.{IsPermutation-refl, IsPermutation-trans, IsPermutation-cons, IsPermutation-middle, IsPermutation-to_front, IsPermutation-map}
use Rattle.hybrid_clock.specs.declared.stamp.Stamp.{Stamp}
use Rattle.hybrid_clock.specs.Stamp.{IsStamp}
use Rattle.field_merge.specs.declared.message.Message.{Message}
use Rattle.field_merge.specs.Log.{has_stamp, by_stamp, placed, join_one, at_stamp}
use Rattle.field_merge.specs.Messages.{AreMessages}
use Rattle.minute_trie.specs.Trie.{stamp_pair, IsPair, ArePairs}
use Rattle.kept_messages.specs.Pairs.{pairs_of}
use Rattle.kept_messages.proofs.Members.{found_any}

-- a message at its place among others is one more of them
placed_among : (ms : List Message) (n : Message) → IsPermutation (n ∷ ms) (placed by_stamp ms n)
placed_among [] n = IsPermutation-refl (n ∷ [])
placed_among (m ∷ ms) n = elim (is_lt (by_stamp n m)) as (λ b. IsPermutation (n ∷ m ∷ ms) (cond b (n ∷ m ∷ ms) (m ∷ placed by_stamp ms n))) [
  | true ↦ IsPermutation-refl (n ∷ m ∷ ms)
  | false ↦ IsPermutation-trans (n ∷ m ∷ ms) (m ∷ n ∷ ms) (m ∷ placed by_stamp ms n) (IsPermutation-middle (n ∷ []) m ms) (IsPermutation-cons m (n ∷ ms) (placed by_stamp ms n) (placed_among ms n))
]

new_among : (b : Bool) (ms : List Message) (n : Message) → b ≡ false → IsPermutation (n ∷ ms) (cond b ms (placed by_stamp ms n))
new_among true ms n e = absurd (true≢false e)
new_among false ms n e = placed_among ms n

any_of : (b : Bool) (ms : List Message) (n : Message) → b ≡ is_none (at_stamp ms n.stamp) → b ≡ not (list_any (has_stamp n.stamp) ms)
any_of b ms n fresh = fresh ∙ found_any (has_stamp n.stamp) ms

is_false : (b : Bool) → true ≡ not b → b ≡ false
is_false true h = absurd (true≢false h)
is_false false h = refl

is_true : (b : Bool) → false ≡ not b → b ≡ true
is_true true h = refl
is_true false h = absurd (true≢false (sym h))

-- a message with a new timestamp brings one pair more
pub pair_joined : (ms : List Message) (n : Message) (is_new : Bool) → is_new ≡ is_none (at_stamp ms n.stamp) → is_new ≡ true → IsPermutation (pairs_of ms ++ stamp_pair n.stamp ∷ []) (pairs_of (join_one ms n))
pair_joined ms n is_new fresh new =
    let absent : list_any (has_stamp n.stamp) ms ≡ false = is_false (list_any (has_stamp n.stamp) ms) (sym new ∙ any_of is_new ms n fresh) in
    IsPermutation-trans (pairs_of ms ++ stamp_pair n.stamp ∷ []) (stamp_pair n.stamp ∷ pairs_of ms) (pairs_of (join_one ms n))
    (IsPermutation-to_front (pairs_of ms) (stamp_pair n.stamp))
    (IsPermutation-map (λ (m : Message). stamp_pair m.stamp) (n ∷ ms) (join_one ms n) (new_among (list_any (has_stamp n.stamp) ms) ms n absent))

-- and a message with a known one changes nothing
pub known_joined : (ms : List Message) (n : Message) (is_new : Bool) → is_new ≡ is_none (at_stamp ms n.stamp) → is_new ≡ false → ms ≡ join_one ms n
known_joined ms n is_new fresh old =
    let there : list_any (has_stamp n.stamp) ms ≡ true = is_true (list_any (has_stamp n.stamp) ms) (sym old ∙ any_of is_new ms n fresh) in
    ap (λ b. cond b ms (placed by_stamp ms n)) (sym there)

-- each message has a minute of the trie
pub are_pairs : (ms : List Message) → ((s : Stamp) → IsStamp s → IsPair (stamp_pair s)) → AreMessages ms → ArePairs (pairs_of ms)
are_pairs [] pair valid = tt
are_pairs (m ∷ ms) pair valid = (pair m.stamp valid.0.stamp, are_pairs ms pair valid.1)
