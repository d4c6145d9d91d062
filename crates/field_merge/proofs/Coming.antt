-- What one message more makes of what is kept of those that came.
use Rattle.std.proofs.Common.{◌≡◌, ◌≤◌, length, arith, List, [], ◌∷◌, ◌++◌, Bool, true, false, not, ◌||◌, ◌&&◌, inl, inr, cond, Option, None, Some, refl, sym, ap, ◌∙◌, subst}
use Rattle.std.specs.Ordering.{is_eq, is_gt, is_lt}
use Rattle.std.specs.Option.{is_some, option_or}
use Rattle.std.specs.Cmp.{tied_itself}
use Rattle.std.specs.declared.cmp.Ordering.{Ordering}
use Rattle.std.specs.declared.cmp.Ordering.TheVariants.{Less, Equal, Greater}
use Rattle.std.proofs.lemmas.List.Elements.{Contains-append_left, Contains-push, Contains-push_cases}
use Rattle.std.specs.List.{find, list_any, Contains}
use Rattle.field_values.specs.Names.{FieldNames, names_cmp}
use Rattle.hybrid_clock.specs.declared.stamp.Stamp.{Stamp}
use Rattle.hybrid_clock.specs.Order.{stamp_cmp}
use Rattle.field_merge.specs.declared.message.Message.{Message}
use Rattle.field_merge.specs.Log.{IsByField, IsRising, at_stamp, by_stamp, fields, has_field, has_stamp, join, join_one, latest, placed}
use Rattle.field_merge.specs.Latest.{CameFrom, HasLatest, KeepsLatest, LatestState, is_among, most_kept, next_most}
use Rattle.field_merge.proofs.Joining.{found, in_turn, rising, stamp_of}
use Rattle.field_merge.proofs.Stored.{join-fresh, join-there}
use Rattle.field_merge.proofs.Entering.{latest-placed, wins}
use Rattle.field_merge.proofs.Few.{fields_more}
use Rattle.field_merge.proofs.Fields.{field_of, fields_in_order, find-fields}
use Rattle.field_merge.proofs.Latest.{IsUpTo, is_some-latest, latest_greatest, latest_there}
use Rattle.field_merge.proofs.Members.{all_of, found_in, is_some-find, none_from_any, some_passes}
use Rattle.field_merge.proofs.Ordered.{equal, found_by_key, in_order_nil, same}
use Rattle.field_merge.proofs.Orders.{names_total, stamps_exact, stamps_total}

swapped : (a b c : Bool) → (a || (b || c)) ≡ (b || (a || c))
swapped true true c = refl
swapped true false c = refl
swapped false b c = refl

-- one more comes last
any-last : {X : Type 0} (t : X → Bool) (ms : List X) (n : X) → list_any t (ms ++ n ∷ []) ≡ (t n || list_any t ms)
any-last t [] n = refl
any-last t (m ∷ ms) n = ap (λ b. t m || b) (any-last t ms n) ∙ swapped (t m) (t n) (list_any t ms)

-- a timestamp stands in the join where it stands in the messages
known : (ms : List Message) (s : Stamp) → list_any (has_stamp s) (join [] ms) ≡ list_any (has_stamp s) ms
known ms s = sym (is_some-find (has_stamp s) (join [] ms)) ∙ ap is_some (found [] ms s) ∙ is_some-find (has_stamp s) ms

one_more : (ms : List Message) (n : Message) → join_one (join [] ms) n ≡ join [] (ms ++ n ∷ [])
one_more ms n = in_turn [] ms (n ∷ [])

pub joined_rises : (ms : List Message) → IsRising (join [] ms)
joined_rises ms = rising [] ms (in_order_nil stamp_of stamp_cmp)

-- ---- members of a join
its_own : (s : Stamp) → is_eq (stamp_cmp s s) ≡ true
its_own s = ap is_eq (tied_itself stamps_total s)

pub at_its_stamp : (ms : List Message) (m : Message) → Contains (join [] ms) m → at_stamp (join [] ms) m.stamp ≡ Some m
at_its_stamp ms m c = found_by_key stamp_of stamp_cmp stamps_total (join [] ms) (joined_rises ms) m c

unsome : (m n : Message) → Some m ≡ Some n → m ≡ n
unsome m n e = cc

-- a message stays in the join
stays : (ms : List Message) (n m : Message) → Contains (join [] ms) m → Contains (join [] (ms ++ n ∷ [])) m
stays ms n m c =
    let at : at_stamp (join (join [] ms) (n ∷ [])) m.stamp ≡ Some m =
    found (join [] ms) (n ∷ []) m.stamp ∙ ap (λ (o : Option Message). option_or o (at_stamp (n ∷ []) m.stamp)) (at_its_stamp ms m c) in
    subst (λ (js : List Message). Contains js m) (one_more ms n) (found_in (has_stamp m.stamp) (join (join [] ms) (n ∷ [])) m at).0

-- one with a new timestamp enters it
enters : (ms : List Message) (n : Message) → at_stamp (join [] ms) n.stamp ≡ None → Contains (join [] (ms ++ n ∷ [])) n
enters ms n new =
    let at : at_stamp (join (join [] ms) (n ∷ [])) n.stamp ≡ Some n =
    found (join [] ms) (n ∷ []) n.stamp ∙ ap (λ (o : Option Message). option_or o (at_stamp (n ∷ []) n.stamp)) new
    ∙ ap (λ b. cond b (Some n) None) (its_own n.stamp) in
    subst (λ (js : List Message). Contains js n) (one_more ms n) (found_in (has_stamp n.stamp) (join (join [] ms) (n ∷ [])) n at).0

-- with one message more, as many messages may be kept, or more
more_kept : (ms : List Message) (n : Message) → most_kept ms ≤ most_kept (ms ++ n ∷ [])
more_kept ms n = let longer = fields_more (join [] ms) (join [] (ms ++ n ∷ [])) (stays ms n) in omega (arith, longer)

still_few : (ms : List Message) (n : Message) (l m : LatestState) → CameFrom ms l → m.most ≡ l.most → m.most ≤ most_kept (ms ++ n ∷ [])
still_few ms n l m came same_most = omega (arith, came.most, same_most, more_kept ms n)

pub not_back : (b c : Bool) → b ≡ not c → c ≡ not b
not_back true true h = h
not_back true false h = refl
not_back false true h = refl
not_back false false h = h

-- ---- one message more
pub came_new : (ms : List Message) (n : Message) (l m : LatestState) → CameFrom ms l → is_among n.stamp l.stamps ≡ false → ((s : Stamp) → is_among s m.stamps ≡ (has_stamp s n || is_among s l.stamps)) → m.messages ≡ l.messages ++ n ∷ [] → m.most ≡ l.most → CameFrom (ms ++ n ∷ []) m
came_new ms n l m came fresh more pushed same_most =
    let lacks : list_any (has_stamp n.stamp) (join [] ms) ≡ false = known ms n.stamp ∙ sym (came.stamps n.stamp) ∙ fresh in
    let new : at_stamp (join [] ms) n.stamp ≡ None = none_from_any (has_stamp n.stamp) (join [] ms) lacks in
    let joined : placed by_stamp (join [] ms) n ≡ join [] (ms ++ n ∷ []) = join-fresh (join [] ms) n lacks ∙ one_more ms n in
    record {
      stamps = λ s. more s ∙ ap (λ b. has_stamp s n || b) (came.stamps s) ∙ sym (any-last (has_stamp s) ms n);
      some = λ x c. elim (Contains-push_cases l.messages n x (subst (λ (xs : List Message). Contains xs x) pushed c)) [
        | inl there ↦ stays ms n x (came.some x there)
        | inr is ↦ subst (λ (y : Message). Contains (join [] (ms ++ n ∷ [])) y) is (enters ms n new)
      ];
      latest = λ x h. subst (λ (xs : List Message). Contains xs x) (sym pushed)
          (latest_came ms n x l came (wins (join [] ms) n && has_field x.field n)
          (sym (latest-placed (join [] ms) n (joined_rises ms) new x.field) ∙ ap (λ (js : List Message). latest js x.field) joined ∙ h));
      least = omega (arith, came.least, same_most);
      most = still_few ms n l m came same_most;
    }
  where
    latest_came : (ms : List Message) (n x : Message) (l : LatestState) → CameFrom ms l → (b : Bool) → cond b (Some n) (latest (join [] ms) x.field) ≡ Some x → Contains (l.messages ++ n ∷ []) x
    latest_came ms n x l came true e = subst (λ (y : Message). Contains (l.messages ++ n ∷ []) y) (unsome n x e) (Contains-push l.messages n)
    latest_came ms n x l came false e = Contains-append_left l.messages (n ∷ []) x (came.latest x e)

there_too : (b c : Bool) → (b ≡ true → c ≡ true) → (b || c) ≡ c
there_too true c h = sym (h refl)
there_too false c h = refl

-- a message came whose timestamp had come before
pub came_again : (ms : List Message) (n : Message) (l m : LatestState) → CameFrom ms l → is_among n.stamp l.stamps ≡ true → m.stamps ≡ l.stamps → m.messages ≡ l.messages → m.most ≡ l.most → CameFrom (ms ++ n ∷ []) m
came_again ms n l m came there same_stamps same_messages same_most =
    let has : list_any (has_stamp n.stamp) ms ≡ true = sym (came.stamps n.stamp) ∙ there in
    let joined : join [] ms ≡ join [] (ms ++ n ∷ []) = join-there (join [] ms) n (known ms n.stamp ∙ has) ∙ one_more ms n in
    record {
      stamps = λ s.
          ap (is_among s) same_stamps ∙ came.stamps s
          ∙ sym (there_too (has_stamp s n) (list_any (has_stamp s) ms) (λ same. ap (λ (t : Stamp). list_any (has_stamp t) ms) (stamps_exact s n.stamp (equal _ same)) ∙ has))
          ∙ sym (any-last (has_stamp s) ms n);
      some = λ x c. subst (λ (js : List Message). Contains js x) joined (came.some x (subst (λ (xs : List Message). Contains xs x) same_messages c));
      latest = λ x h. subst (λ (xs : List Message). Contains xs x) (sym same_messages) (came.latest x (ap (λ (js : List Message). latest js x.field) joined ∙ h));
      least = omega (arith, came.least, same_most);
      most = still_few ms n l m came same_most;
    }

-- one timestamp more came
pub has_more : (n : Message) (old new : List Stamp) → new ≡ old ++ n.stamp ∷ [] → (s : Stamp) → is_among s new ≡ (has_stamp s n || is_among s old)
has_more n old new is s = ap (is_among s) is ∙ any-last (λ t. is_eq (stamp_cmp s t)) old n.stamp

-- ---- where older messages go
level : (r : Ordering) → is_lt r ≡ false → is_gt r ≡ false → r ≡ Equal
level Less h k = cc
level Equal h k = refl
level Greater h k = cc

-- a message of the join that isn't older than the latest one of its field is that one
not_older : (ms : List Message) (m n : Message) → latest (join [] ms) m.field ≡ Some m → Contains (join [] ms) n → n.field ≡ m.field → is_lt (stamp_cmp n.stamp m.stamp) ≡ false → n ≡ m
not_older ms m n h c field not_before =
    let of_field : has_field m.field n ≡ true = subst (λ (f : FieldNames). is_eq (names_cmp f n.field) ≡ true) field (ap is_eq (tied_itself names_total n.field)) in
    let not_after = all_of (IsUpTo m.field m) (join [] ms) (latest_greatest (join [] ms) m.field m (joined_rises ms) h) n c of_field in
    let stamps : n.stamp ≡ m.stamp = stamps_exact n.stamp m.stamp (level _ not_before not_after) in
    unsome n m (sym (at_its_stamp ms n c) ∙ ap (at_stamp (join [] ms)) stamps ∙ at_its_stamp ms m (latest_there (join [] ms) m.field m h).0)

-- what is kept, by field, is the list of the latest messages
listed_by_field : (ms kept : List Message) → ((m : Message) → Contains kept m → Contains (join [] ms) m) → ((m : Message) → latest (join [] ms) m.field ≡ Some m → Contains kept m) → IsByField kept → kept ≡ fields (join [] ms)
listed_by_field ms kept some latest_kept in_order =
    same field_of names_cmp names_total kept (fields (join [] ms)) in_order (fields_in_order (join [] ms))
    (λ k. found_latest k (latest (join [] ms) k) refl ∙ sym (find-fields (join [] ms) k))
  where
    found_none : (k : FieldNames) → latest (join [] ms) k ≡ None → (o : Option Message) → find (has_field k) kept ≡ o → o ≡ None
    found_none k e None is = refl
    found_none k e (Some x) is =
        let at = found_in (has_field k) kept x is in
        absurd (some_passes (has_field k) (join [] ms) x (some x at.0) at.1 (none_from_any (has_field k) (join [] ms) (sym (is_some-latest (join [] ms) k) ∙ ap is_some e)))

    found_latest : (k : FieldNames) (o : Option Message) → latest (join [] ms) k ≡ o → find (has_field k) kept ≡ latest (join [] ms) k
    found_latest k None e = found_none k e (find (has_field k) kept) refl ∙ sym e
    found_latest k (Some y) e =
        let of_field : y.field ≡ k = (latest_there (join [] ms) k y e).1 in
        let there : Contains kept y = latest_kept y (ap (latest (join [] ms)) of_field ∙ e) in
        subst (λ (f : FieldNames). find (has_field f) kept ≡ Some y) of_field (found_by_key field_of names_cmp names_total kept in_order y there) ∙ sym e

pub listed_latest : (ms : List Message) (l : LatestState) → CameFrom ms l → IsByField l.messages → l.messages ≡ fields (join [] ms)
listed_latest ms l came in_order = listed_by_field ms l.messages came.some came.latest in_order

kept_latest : (ms old new : List Message) → ((m : Message) → Contains old m → Contains (join [] ms) m) → ((m : Message) → latest (join [] ms) m.field ≡ Some m → Contains old m) → HasLatest old new → (m : Message) → latest (join [] ms) m.field ≡ Some m → Contains new m
kept_latest ms old new some latest_kept keeps m h =
    let y = keeps.covers m (latest_kept m h) in
    let one : y.0 ≡ m = not_older ms m y.0 h (some y.0 (keeps.some y.0 y.1.0)) y.1.1 y.1.2 in
    subst (λ (z : Message). Contains new z) one y.1.0

pub listed_tidied : (ms new : List Message) (l : LatestState) → CameFrom ms l → KeepsLatest l.messages new → new ≡ fields (join [] ms)
listed_tidied ms new l came keeps =
    listed_by_field ms new (λ m c. came.some m (keeps.has.some m c)) (kept_latest ms l.messages new came.some came.latest keeps.has) keeps.in_order

pub came_tidied : (ms : List Message) (l m : LatestState) → CameFrom ms l → KeepsLatest l.messages m.messages → m.stamps ≡ l.stamps → m.most ≡ next_most m.messages → CameFrom ms m
came_tidied ms l m came keeps same_stamps few = record {
  stamps = λ s. ap (is_among s) same_stamps ∙ came.stamps s;
  some = λ x c. came.some x (keeps.has.some x c);
  latest = kept_latest ms l.messages m.messages came.some came.latest keeps.has;
  least = omega (arith, few);
  most = let listed = ap (λ (xs : List Message). length xs) (listed_tidied ms m.messages l came keeps) in omega (arith, few, listed);
}

-- where some that are kept go, but the latest ones stay
pub came_with : (ms : List Message) (l m : LatestState) → CameFrom ms l → HasLatest l.messages m.messages → m.stamps ≡ l.stamps → m.most ≡ l.most → CameFrom ms m
came_with ms l m came has same_stamps same_most = record {
  stamps = λ s. ap (is_among s) same_stamps ∙ came.stamps s;
  some = λ x c. came.some x (has.some x c);
  latest = kept_latest ms l.messages m.messages came.some came.latest has;
  least = omega (arith, came.least, same_most);
  most = omega (arith, came.most, same_most);
}
