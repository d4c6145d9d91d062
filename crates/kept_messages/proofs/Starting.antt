-- The messages of records, read one after the other.
use Rattle.std.proofs.Common.{◌≡◌, Bool, true, false, cond, ℕ, zero, suc, ◌+◌, ◌<◌, slice_index_or, drop, List, [], ◌∷◌, ◌++◌, length, Option, None, Some, Result, Ok, Err, is_none, is_some, refl, sym, subst, ap, ◌∙◌, arith}
use Rattle.std.specs.Prelude.{is_ok, if◌then◌else◌}
use Rattle.std.specs.Result.{result_ok}
use Rattle.std.specs.List.{filter_map, position_from, cons_option}
use Rattle.budget_ports.specs.declared.keeper.Record.{Record}
use Rattle.field_merge.specs.declared.message.Message.{Message}
use Rattle.hybrid_clock.specs.Order.{stamp_cmp}
use Rattle.hybrid_clock.specs.Reading.{read_stamp}
use Rattle.field_merge.specs.Lines.{reading}
use Rattle.field_merge.specs.Log.{IsRising, join_one, join}
use Rattle.field_merge.proofs.Ordered.{in_order_nil}
use Rattle.field_merge.proofs.Joining.{stamp_of, rising}
use Rattle.kept_messages.proofs.Members.{from_place}
use Rattle.kept_messages.specs.Records.{message_in, unless_bad, kept_set, HasFirstStamp, KeepMessages, RecordsAreRead}

-- the message set after the records from one with this index on were read into messages
abbrev pub kept_after : List Message → ℕ → List Record → Result (List Message) ℕ
kept_after ms index [] = Ok ms
kept_after ms index (r ∷ rs) = elim (message_in r) [ None ↦ Err index | Some m ↦ kept_after (join_one ms m) (index + 1) rs ]

-- one record on
pub kept_on : (ms new : List Message) (index : ℕ) (rs : List Record) (r : Record) (m : Message) (set : Result (List Message) ℕ) → index < length rs → r ≡ slice_index_or rs index r → Some m ≡ message_in r → new ≡ join_one ms m
    → kept_after ms index (drop index rs) ≡ set → kept_after new (index + 1) (drop (index + 1) rs) ≡ set
kept_on ms new index rs r m set within is read joined so_far =
    let later : List Record = drop (index + 1) rs in
    let next : kept_after ms index (r ∷ later) ≡ kept_after (join_one ms m) (index + 1) later =
    ap (λ o. elim o as (λ _. Result (List Message) ℕ) [ None ↦ Err index | Some n ↦ kept_after (join_one ms n) (index + 1) later ]) (sym read) in
    ap (λ l. kept_after l (index + 1) later) joined ∙ sym next ∙ ap (kept_after ms index) (sym (from_place rs index r within is)) ∙ so_far

abbrev settled : List Message → Option ℕ → List Message → Result (List Message) ℕ
settled ms None read = Ok (join ms read)
settled ms (Some index) read = Err index

abbrev keeps_none : Record → Bool
keeps_none r = is_none (message_in r)

settled_on : (o : Option ℕ) (ms : List Message) (m : Message) (read : List Message) → settled (join_one ms m) o read ≡ settled ms o (m ∷ read)
settled_on None ms m read = refl
settled_on (Some index) ms m read = refl

after_is : (ms : List Message) (index : ℕ) (rs : List Record) → kept_after ms index rs ≡ settled ms (position_from keeps_none index rs) (filter_map message_in rs)
after_is ms index [] = refl
after_is ms index (r ∷ rs) =
    elim (message_in r) as (λ o. elim o as (λ _. Result (List Message) ℕ) [ None ↦ Err index | Some m ↦ kept_after (join_one ms m) (index + 1) rs ]
    ≡ settled ms (cond (is_none o) (Some index) (position_from keeps_none (index + 1) rs)) (cons_option o (filter_map message_in rs))) [
      | None ↦ refl
      | Some m ↦ after_is (join_one ms m) (index + 1) rs ∙ settled_on (position_from keeps_none (index + 1) rs) ms m (filter_map message_in rs)
    ]

set_is : (o : Option ℕ) (read : List Message) → settled [] o read ≡ unless_bad o (join [] read)
set_is None read = refl
set_is (Some index) read = refl

-- all records, read from the first one on
pub kept_is : (rs : List Record) → kept_after [] 0 rs ≡ kept_set rs
kept_is rs = after_is [] 0 rs ∙ set_is (position_from keeps_none 0 rs) (filter_map message_in rs)

rising_of : (o : Option ℕ) (read ms : List Message) → unless_bad o (join [] read) ≡ Ok ms → IsRising ms
rising_of None read ms is = let same : join [] read ≡ ms = cc in subst IsRising same (rising [] read (in_order_nil stamp_of stamp_cmp))
rising_of (Some index) read ms is = absurd (cc)

-- a message set rises
pub rising_set : (rs : List Record) (ms : List Message) → kept_set rs ≡ Ok ms → IsRising ms
rising_set rs ms is = rising_of (position_from keeps_none 0 rs) (filter_map message_in rs) ms is

-- ---- the key of the first record

key_read : (b : Bool) (line : Option Message) (m : Message) → (if b then line else None) ≡ Some m → b ≡ true
key_read true line m h = refl
key_read false line m h = absurd (cc)

-- where a record has been read, the first one has a timestamp's text as its key
pub first_stamp : (rs : List Record) (i : ℕ) (r : Record) (m : Message) → i < length rs → r ≡ slice_index_or rs i r → Some m ≡ message_in r → (0 < i → HasFirstStamp rs) → HasFirstStamp rs
first_stamp [] i r m within is read before = absurd (omega (arith, within))
first_stamp (q ∷ rs) zero r m within is read before = ap (λ (s : Record). is_ok (read_stamp s.key)) (sym is) ∙ key_read (is_ok (read_stamp r.key)) (result_ok (reading (r.key ++ 9 ∷ r.body))) m (sym read)
first_stamp (q ∷ rs) (suc i) r m within is read before = before (omega arith)

-- ---- the first record that keeps no message

some_not_none : (o : Option Message) → is_some o ≡ true → is_none o ≡ false
some_not_none None h = absurd (cc)
some_not_none (Some m) h = refl

all_keep : (index : ℕ) (rs : List Record) → KeepMessages rs → position_from keeps_none index rs ≡ None
all_keep index [] all = refl
all_keep index (r ∷ rs) all =
    ap (λ b. cond b (Some index) (position_from keeps_none (index + 1) rs)) (some_not_none (message_in r) all.0) ∙ all_keep (index + 1) rs all.1

first_at : (index : ℕ) (front rest : List Record) (r : Record) → KeepMessages front → message_in r ≡ None → position_from keeps_none index (front ++ r ∷ rest) ≡ Some (index + length front)
first_at index [] rest r all none =
    let here : index ≡ index + 0 = omega arith in
    ap (λ o. cond (is_none o) (Some index) (position_from keeps_none (index + 1) rest)) none ∙ ap Some here
first_at index (q ∷ front) rest r all none =
    let there : (index + 1) + length front ≡ index + length (q ∷ front) = omega arith in
    ap (λ b. cond b (Some index) (position_from keeps_none (index + 1) (front ++ r ∷ rest))) (some_not_none (message_in q) all.0)
    ∙ first_at (index + 1) front rest r all.1 none ∙ ap Some there

bad_set : (front rest : List Record) (r : Record) → KeepMessages front → message_in r ≡ None → kept_set (front ++ r ∷ rest) ≡ Err (length front)
bad_set front rest r all none =
    let place : 0 + length front ≡ length front = omega arith in
    ap (λ o. unless_bad o (join [] (filter_map message_in (front ++ r ∷ rest)))) (first_at 0 front rest r all none ∙ ap Some place)

pub records_read : RecordsAreRead
records_read = record {
  good = λ rs all. ap (λ o. unless_bad o (join [] (filter_map message_in rs))) (all_keep 0 rs all);
  first_bad = bad_set;
}
