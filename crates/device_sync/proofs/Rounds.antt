-- A round that was answered, over message sets.
use Rattle.std.proofs.Common.{◌≡◌, ℕ, ◌*◌, ◌/◌, ◌<◌, List, [], ◌∷◌, ◌++◌, Bool, true, false, not, ◌&&◌, ◌||◌, cond, is_none, nat_le, nat_lt, filter, refl, sym, ap, ◌∙◌, subst, arith, append-nil, append_assoc, ltb-true, ltb-false, IsPermutation}
use Rattle.std.proofs.lemmas.Bool.{le-leb, lt-leb}
use Rattle.std.proofs.lemmas.List.Sorted.{IsPermutation-refl, IsPermutation-trans, IsPermutation-append_left}
use Rattle.std.specs.List.{list_any}
use Rattle.std.specs.Ordering.{nat_cmp, is_gt}
use Rattle.std.specs.Cmp.Lexicographic.{slice_cmp}
use Rattle.hybrid_clock.specs.declared.stamp.Stamp.{Stamp}
use Rattle.hybrid_clock.specs.Stamp.{IsStamp, stamp_text, window}
use Rattle.hybrid_clock.specs.Moments.{moment_text}
use Rattle.hybrid_clock.proofs.Moments.{moments_are_in_order_lem}
use Rattle.field_merge.specs.declared.message.Message.{Message}
use Rattle.field_merge.specs.Messages.{AreMessages}
use Rattle.field_merge.specs.Log.{IsRising, has_stamp, by_stamp, placed, join, messages_after}
use Rattle.field_merge.proofs.Joining.{rising}
use Rattle.field_merge.proofs.Members.{none_from_any}
use Rattle.minute_trie.specs.Trie.{Pair, stamp_pair}
use Rattle.minute_trie.specs.Rounds.{is_before, is_from, IsGrown, IsRound}
use Rattle.kept_messages.specs.News.{new_in}
use Rattle.kept_messages.specs.Pairs.{pairs_of}
use Rattle.kept_messages.proofs.Tracking.{pair_joined}
use Rattle.device_sync.proofs.Sets.{has, those, has_join, has_those, those_rise, those_valid, join_valid, same_pairs, filter_pairs}

-- whether the text of a timestamp is greater than a text
abbrev pub is_later : List ℕ → Stamp → Bool
is_later text s = is_gt (slice_cmp nat_cmp (stamp_text s) text)

-- a time is not before a minute
scale : (minute time : ℕ) → nat_le (minute * 60_000) time ≡ not (nat_lt (time / 60_000) minute)
scale minute time = one (nat_lt (time / 60_000) minute) refl
  where
    one : (b : Bool) → nat_lt (time / 60_000) minute ≡ b → nat_le (minute * 60_000) time ≡ not b
    one true h = let less = ltb-true (time / 60_000) minute h in lt-leb _ _ (omega arith)
    one false h = let not_less = ltb-false (time / 60_000) minute h in le-leb _ _ (omega arith)

-- a timestamp is later than a minute's moment where its pair does not stand before the minute
pub from_moment : (minute : ℕ) (s : Stamp) → minute < window → IsStamp s → is_from minute (stamp_pair s) ≡ is_later (moment_text (minute * 60_000)) s
from_moment minute s small valid = sym (moments_are_in_order_lem s (minute * 60_000) valid (omega arith) ∙ scale minute s.millis)

twice_not : (b : Bool) → b ≡ not (not b)
twice_not true = refl
twice_not false = refl

before_moment : (minute : ℕ) (s : Stamp) → minute < window → IsStamp s → is_before minute (stamp_pair s) ≡ not (is_later (moment_text (minute * 60_000)) s)
before_moment minute s small valid = twice_not (is_before minute (stamp_pair s)) ∙ ap not (from_moment minute s small valid)

-- a join has one pair more for each message that is new
joined_pairs : (ms ns : List Message) → IsPermutation (pairs_of ms ++ pairs_of (new_in ms ns)) (pairs_of (join ms ns))
joined_pairs ms [] = subst (λ (ps : List Pair). IsPermutation ps (pairs_of ms)) (sym (append-nil (pairs_of ms))) (IsPermutation-refl (pairs_of ms))
joined_pairs ms (n ∷ ns) =
    elim (list_any (has_stamp n.stamp) ms) as (λ b. list_any (has_stamp n.stamp) ms ≡ b
    → IsPermutation (pairs_of ms ++ pairs_of (cond b (new_in ms ns) (n ∷ new_in (cond b ms (placed by_stamp ms n)) ns))) (pairs_of (join (cond b ms (placed by_stamp ms n)) ns))) [
      | true ↦ λ known. joined_pairs ms ns
      | false ↦ λ new. one_more new (joined_pairs (placed by_stamp ms n) ns)
    ] refl
  where
    one_more : list_any (has_stamp n.stamp) ms ≡ false → IsPermutation (pairs_of (placed by_stamp ms n) ++ pairs_of (new_in (placed by_stamp ms n) ns)) (pairs_of (join (placed by_stamp ms n) ns))
        → IsPermutation (pairs_of ms ++ stamp_pair n.stamp ∷ pairs_of (new_in (placed by_stamp ms n) ns)) (pairs_of (join (placed by_stamp ms n) ns))
    one_more new rest =
        let one : IsPermutation (pairs_of ms ++ stamp_pair n.stamp ∷ []) (pairs_of (placed by_stamp ms n)) =
        subst (λ b. IsPermutation (pairs_of ms ++ stamp_pair n.stamp ∷ []) (pairs_of (cond b ms (placed by_stamp ms n)))) new
        (pair_joined ms n true (sym (ap is_none (none_from_any (has_stamp n.stamp) ms new))) refl) in
        let more : List Pair = pairs_of (new_in (placed by_stamp ms n) ns) in
        IsPermutation-trans (pairs_of ms ++ stamp_pair n.stamp ∷ more) (pairs_of (placed by_stamp ms n) ++ more) (pairs_of (join (placed by_stamp ms n) ns))
        (subst (λ (ps : List Pair). IsPermutation ps (pairs_of (placed by_stamp ms n) ++ more)) (append_assoc (pairs_of ms) (stamp_pair n.stamp ∷ []) more)
        (IsPermutation-append_left more (pairs_of ms ++ stamp_pair n.stamp ∷ []) (pairs_of (placed by_stamp ms n)) one)) rest

-- where a set is joined with what another has that is later than a text
joined_those : (f g : Stamp → Bool) (k : Stamp) (ms ns : List Message) → has k (those f (join ms (those g ns))) ≡ (f k && (has k ms || (g k && has k ns)))
joined_those f g k ms ns = has_those f k (join ms (those g ns)) ∙ ap (λ (b : Bool). f k && b) (has_join k ms (those g ns) ∙ ap (λ (b : Bool). has k ms || b) (has_those g k ns))

from_there : (c a b : Bool) → (c && (a || (c && b))) ≡ (c && (b || (c && a)))
from_there true true true = refl
from_there true true false = refl
from_there true false true = refl
from_there true false false = refl
from_there false a b = refl

before_it : (c a b : Bool) → (not c && (a || (c && b))) ≡ (not c && a)
before_it true a b = refl
before_it false true b = refl
before_it false false b = refl

module _ (minute : ℕ) (small : minute < window) where
  abbrev later : Stamp → Bool
  later s = is_later (moment_text (minute * 60_000)) s

  abbrev earlier : Stamp → Bool
  earlier s = not (is_later (moment_text (minute * 60_000)) s)

  one_side : (ms rs : List Message) → IsRising ms → AreMessages ms → AreMessages rs
      → IsGrown minute (pairs_of ms) (pairs_of (new_in ms (those later rs))) (pairs_of (join ms (those later rs)))
  one_side ms rs up valid other = record {
    all = joined_pairs ms (those later rs);
    before = subst (λ (ps : List Pair). IsPermutation (filter (is_before minute) (pairs_of ms)) ps)
        (filter_pairs (is_before minute) earlier (λ s v. before_moment minute s small v) ms valid
        ∙ sym (same_pairs (those earlier (join ms (those later rs))) (those earlier ms)
        (those_rise earlier (join ms (those later rs)) (rising ms (those later rs) up)) (those_rise earlier ms up)
        (λ k. joined_those earlier later k ms rs ∙ before_it (later k) (has k ms) (has k rs) ∙ sym (has_those earlier k ms)))
        ∙ sym (filter_pairs (is_before minute) earlier (λ s v. before_moment minute s small v) (join ms (those later rs)) (join_valid ms (those later rs) valid (those_valid later rs other))))
        (IsPermutation-refl (filter (is_before minute) (pairs_of ms)));
  }

  -- both have the same from the minute on
  level_sides : (ms rs : List Message) → IsRising ms → IsRising rs → AreMessages ms → AreMessages rs
      → filter (is_from minute) (pairs_of (join ms (those later rs))) ≡ filter (is_from minute) (pairs_of (join rs (those later ms)))
  level_sides ms rs up down valid other =
      filter_pairs (is_from minute) later (λ s v. from_moment minute s small v) (join ms (those later rs)) (join_valid ms (those later rs) valid (those_valid later rs other))
      ∙ same_pairs (those later (join ms (those later rs))) (those later (join rs (those later ms)))
      (those_rise later (join ms (those later rs)) (rising ms (those later rs) up)) (those_rise later (join rs (those later ms)) (rising rs (those later ms) down))
      (λ k. joined_those later later k ms rs ∙ from_there (later k) (has k ms) (has k rs) ∙ sym (joined_those later later k rs ms))
      ∙ sym (filter_pairs (is_from minute) later (λ s v. from_moment minute s small v) (join rs (those later ms)) (join_valid rs (those later ms) other (those_valid later ms valid)))

  -- a round that was answered from a minute on
  pub answered : (ms rs : List Message) → IsRising ms → IsRising rs → AreMessages ms → AreMessages rs
      → IsRound minute (pairs_of ms) (pairs_of (new_in ms (messages_after (moment_text (minute * 60_000)) rs))) (pairs_of (join ms (messages_after (moment_text (minute * 60_000)) rs)))
      (pairs_of rs) (pairs_of (new_in rs (messages_after (moment_text (minute * 60_000)) ms))) (pairs_of (join rs (messages_after (moment_text (minute * 60_000)) ms)))
  answered ms rs up down valid other = record {
    mine_grown = one_side ms rs up valid other;
    theirs_grown = one_side rs ms down other valid;
    level = subst (λ (ps : List Pair). IsPermutation (filter (is_from minute) (pairs_of (join ms (those later rs)))) ps)
        (level_sides ms rs up down valid other) (IsPermutation-refl (filter (is_from minute) (pairs_of (join ms (those later rs)))));
  }
