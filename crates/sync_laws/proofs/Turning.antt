-- How a conversation begins, and how its last turn ends it.
use Rattle.std.proofs.Common.{◌≡◌, ◌≢◌, ℕ, zero, suc, ℤ, ◌+◌, ◌-◌, ◌<◌, ◌/◌, ◌*◌, nat_le, List, [], ◌∷◌, ◌++◌, Option, None, Some, is_ok, Result, Ok, Err, refl, sym, ap, ◌∙◌, subst, arith}
use Rattle.std.specs.Prelude.{if◌then◌else◌}
use Rattle.hybrid_clock.specs.declared.stamp.Stamp.{Stamp}
use Rattle.hybrid_clock.specs.declared.stamp.StampFault.{StampFault}
use Rattle.hybrid_clock.specs.Stamp.{IsStamp, stamp_text, window}
use Rattle.hybrid_clock.specs.Reading.{read_stamp}
use Rattle.hybrid_clock.specs.Moments.{moment_text}
use Rattle.hybrid_clock.proofs.Moments.{moments_are_in_order_lem}
use Rattle.hybrid_clock.proofs.Writing.{text_reads}
use Rattle.hybrid_clock.proofs.Texts.{read_valid, read_text}
use Rattle.field_merge.specs.declared.message.Message.{Message}
use Rattle.minute_trie.specs.Held.{Held}
use Rattle.minute_trie.specs.Diff.{difference}
use Rattle.device_core.specs.declared.edit.LineRefusal.{LineRefusal}
use Rattle.device_core.specs.Device.{State, Accepted, received}
use Rattle.device_sync.specs.declared.target.Target.{Target}
use Rattle.device_sync.specs.Replies.{Got, answer, refusal, bad}
use Rattle.device_sync.specs.Requests.{first_since}
use Rattle.device_sync.specs.Talk.{Outcome, going_on, agreed, out_of_sync, not_taken, refused, bad_reply, trie_in, root_of, Next, ends, asks, compared, taken, next, Turn, Ends, Follows, Talk}
use Rattle.sync_laws.specs.Turning.{TalksBegin, HasReceived, IsEndOf, IsLastTurn, TalksEnd}

-- ---- the beginning

from_synced : (s : Stamp) (reading : ℕ) → IsStamp s → first_since (Some (stamp_text s)) reading ≡ stamp_text s
from_synced s reading valid = ap (λ (r : Result Stamp StampFault). if is_ok r then stamp_text s else moment_text (reading - 300_000)) (text_reads s valid)

shifted : (reading millis : ℕ) → nat_le (reading - 300_000) millis ≡ nat_le reading (millis + 300_000)
shifted reading millis = grind arith

small_reading : (reading : ℕ) → reading / 60_000 < window → reading - 300_000 < 60_000 * window
small_reading reading small = omega (arith, small)

from_no_stamp : (text : List ℕ) (reading : ℕ) → ((s : Stamp) → IsStamp s → stamp_text s ≢ text) → first_since (Some text) reading ≡ first_since None reading
from_no_stamp text reading none = by (read_stamp text) refl
  where
    by : (r : Result Stamp StampFault) → read_stamp text ≡ r → first_since (Some text) reading ≡ first_since None reading
    by (Ok s) is = absurd (none s (read_valid text s is) (read_text text s is))
    by (Err fault) is = ap (λ (r : Result Stamp StampFault). if is_ok r then text else moment_text (reading - 300_000)) is

pub talks_begin_so : TalksBegin
talks_begin_so = record {
  synced = from_synced;
  fresh = λ reading s small valid. moments_are_in_order_lem s (reading - 300_000) valid (small_reading reading small) ∙ shifted reading s.millis;
  no_stamp = from_no_stamp;
}

-- ---- the end

-- what the last reply leads to, where so many requests may follow
record IsLast (reading left : ℕ) (p : State) (got : Got) (now : State) (o : Outcome) : Type 0 where
  ended : IsEndOf reading p got now o
  some_left : (since : List ℕ) → o ≡ going_on since → 0 < left
  all_made : (mine theirs : ℤ) → o ≡ out_of_sync mine theirs → left ≡ 0

module _ (target : Target) (reading : ℕ) (p now : State) (o : Outcome) where
  abbrev After : ℕ → Next → Type 0
  After left n = Follows n [] now o (λ q moment. Talk target reading left (moment_text moment) q [] now o)

  by_refusal : (left status : ℕ) → Ends p (refused status) [] now o → IsLast reading left p (refusal status) now o
  by_refusal left status e = record {
    ended = subst (IsEndOf reading p (refusal status) now) (sym e.outcome) (refl, e.stays);
    some_left = λ since is. (let no : refused status ≡ going_on since = sym e.outcome ∙ is in absurd (cc));
    all_made = λ mine theirs is. (let no : refused status ≡ out_of_sync mine theirs = sym e.outcome ∙ is in absurd (cc));
  }

  by_bad : (left at : ℕ) → Ends p (bad_reply at) [] now o → IsLast reading left p (bad at) now o
  by_bad left at e = record {
    ended = subst (IsEndOf reading p (bad at) now) (sym e.outcome) (refl, e.stays);
    some_left = λ since is. (let no : bad_reply at ≡ going_on since = sym e.outcome ∙ is in absurd (cc));
    all_made = λ mine theirs is. (let no : bad_reply at ≡ out_of_sync mine theirs = sym e.outcome ∙ is in absurd (cc));
  }

  module _ (ms : List Message) (f : Held) where
    by_clock : (left : ℕ) (fault : LineRefusal) → received p ms reading ≡ Err fault → Ends p (not_taken fault) [] now o → IsLast reading left p (answer ms f) now o
    by_clock left fault is e = record {
      ended = subst (IsEndOf reading p (answer ms f) now) (sym e.outcome) (ms, f, refl, is, e.stays);
      some_left = λ since at. (let no : not_taken fault ≡ going_on since = sym e.outcome ∙ at in absurd (cc));
      all_made = λ mine theirs at. (let no : not_taken fault ≡ out_of_sync mine theirs = sym e.outcome ∙ at in absurd (cc));
    }

    module _ (accepted : Accepted) (is : received p ms reading ≡ Ok accepted) where
      has_received : (differ : Option ℕ) → difference (trie_in accepted.state) f ≡ differ → now ≡ accepted.state → HasReceived reading p (answer ms f) now differ
      has_received differ d stays = record {
        messages = ms;
        trie = f;
        accepted = accepted;
        said = refl;
        took = is;
        state = stays;
        compared = ap (λ (z : State). difference (trie_in z) f) stays ∙ d;
      }

      by_difference : (left : ℕ) (differ : Option ℕ) → difference (trie_in accepted.state) f ≡ differ → After left (compared left accepted.state f differ) → IsLast reading left p (answer ms f) now o
      unfolding has_received
      by_difference left None d e = record {
        ended = subst (IsEndOf reading p (answer ms f) now) (sym e.outcome) (has_received None d e.stays);
        some_left = λ since at. (let no : agreed ≡ going_on since = sym e.outcome ∙ at in absurd (cc));
        all_made = λ mine theirs at. (let no : agreed ≡ out_of_sync mine theirs = sym e.outcome ∙ at in absurd (cc));
      }
      by_difference zero (Some moment) d e = record {
        ended = subst (IsEndOf reading p (answer ms f) now) (sym e.outcome)
            (moment, has_received (Some moment) d e.stays, ap (λ (z : State). root_of (trie_in z)) (sym e.stays), refl);
        some_left = λ since at. (let no : out_of_sync (root_of (trie_in accepted.state)) (root_of f) ≡ going_on since = sym e.outcome ∙ at in absurd (cc));
        all_made = λ mine theirs at. refl;
      }
      by_difference (suc left) (Some moment) d e = record {
        ended = subst (IsEndOf reading p (answer ms f) now) (sym e.outcome) (moment, refl, has_received (Some moment) d e.stays);
        some_left = λ since at. omega arith;
        all_made = λ mine theirs at. (let no : going_on (moment_text moment) ≡ out_of_sync mine theirs = sym e.outcome ∙ at in absurd (cc));
      }

    by_received : (left : ℕ) (r : Result Accepted LineRefusal) → received p ms reading ≡ r → After left (taken left p f r) → IsLast reading left p (answer ms f) now o
    by_received left (Err fault) is e = by_clock left fault is e
    by_received left (Ok accepted) is h = by_difference accepted is left (difference (trie_in accepted.state) f) refl h

  is_last : (left : ℕ) (got : Got) → After left (next reading left p got) → IsLast reading left p got now o
  is_last left (answer ms f) h = by_received ms f left (received p ms reading) refl h
  is_last left (refusal status) e = by_refusal left status e
  is_last left (bad at) e = by_bad left at e

not_empty : (front : List Turn) (last : Turn) → front ++ last ∷ [] ≡ [] → ⊥
not_empty [] last e = cc
not_empty (x ∷ front) last e = cc

ends_by : (front : List Turn) (last : Turn) (target : Target) (reading left : ℕ) (since : List ℕ) (p now : State) (o : Outcome) → Talk target reading left since p (front ++ last ∷ []) now o
    → IsLastTurn target reading left since p front last now o
ends_by [] last target reading zero since p now o h = absurd h
ends_by [] last target reading (suc left) since p now o h =
    let l = is_last target reading p now o left last.got h.2 in record {
      before = p;
      from = since;
      talk = record { last = refl; stays = refl; outcome = refl };
      sent = h.0;
      judged = h.1;
      ended = l.ended;
      some_left = λ text is. (let more = l.some_left text is in omega arith);
      all_made = λ mine theirs is. (let none = l.all_made mine theirs is in omega arith);
    }
ends_by (x ∷ front) last target reading zero since p now o h = absurd h
ends_by (x ∷ front) last target reading (suc left) since p now o h =
    by (next reading left p x.got) refl h.2 (λ q moment k. ends_by front last target reading left (moment_text moment) q now o k)
  where
    by : (n : Next) → next reading left p x.got ≡ n → Follows n (front ++ last ∷ []) now o (λ q moment. Talk target reading left (moment_text moment) q (front ++ last ∷ []) now o)
        → ((q : State) (moment : ℕ) → Talk target reading left (moment_text moment) q (front ++ last ∷ []) now o → IsLastTurn target reading left (moment_text moment) q front last now o)
        → IsLastTurn target reading (suc left) since p (x ∷ front) last now o
    by (ends q how) is e go = absurd (not_empty front last e.last)
    by (asks q moment) is k go =
        let l = go q moment k in record {
          before = l.before;
          from = l.from;
          talk = (
            h.0,
            h.1,
            subst (λ (n : Next). Follows n front l.before (going_on l.from) (λ q moment. Talk target reading left (moment_text moment) q front l.before (going_on l.from))) (sym is) l.talk,
          );
          sent = l.sent;
          judged = l.judged;
          ended = l.ended;
          some_left = λ text at. (let more = l.some_left text at in omega arith);
          all_made = λ mine theirs at. (let all = l.all_made mine theirs at in omega arith);
        }

pub talks_end_so : TalksEnd
talks_end_so = record {
  by_last = λ target reading left since p front last now o h. ends_by front last target reading left since p now o h;
  unbegun = λ target reading left since p now o e. (e.stays, e.outcome);
}
