-- What the answers tell: the latest message of a field, the list of them, and the later messages.
use Rattle.std.proofs.Common.{◌≡◌, ℕ, List, [], ◌∷◌, Bool, true, false, cond, None, Some, map, refl, sym, ap, ◌∙◌, subst}
use Rattle.std.specs.Prelude.{filter}
use Rattle.std.specs.Cmp.Lexicographic.{slice_cmp}
use Rattle.std.specs.List.{find, AllByRecursion, Contains}
use Rattle.std.specs.List.Sorted.{IsStrictlySortedBy}
use Rattle.std.specs.Option.{option_map}
use Rattle.std.specs.Ordering.{is_gt, nat_cmp, ordering_reverse}
use Rattle.std.specs.declared.cmp.Ordering.{Ordering}
use Rattle.std.specs.declared.cmp.Ordering.TheVariants.{Less, Equal, Greater}
use Rattle.std.proofs.lemmas.List.Kept.{IsStrictlySortedBy-filter}
use Rattle.field_values.specs.Names.{FieldNames, field_of, names_cmp}
use Rattle.hybrid_clock.specs.declared.stamp.Stamp.{Stamp}
use Rattle.hybrid_clock.specs.Order.{stamp_cmp}
use Rattle.hybrid_clock.specs.Stamp.{stamp_text}
use Rattle.field_merge.specs.declared.message.Message.{Message}
use Rattle.field_merge.specs.Joining.{HasNone, HaveSame, IsLatest, IsLatestOrNone, ListsLatest}
use Rattle.field_merge.specs.Laws.{LatestIsLatest}
use Rattle.field_merge.specs.Log.{IsRising, fields, has_field, is_after, latest, messages_after}
use Rattle.field_merge.specs.Messages.{message_line, AreMessages}
use Rattle.field_merge.proofs.Fields.{fields_in_order, find-fields}
use Rattle.field_merge.proofs.Joining.{same_found, stamp_of}
use Rattle.field_merge.proofs.Latest.{has_its_own, latest_there}
use Rattle.field_merge.proofs.Members.{all_of, all_weaker, found_in, here, some_passes, there}
use Rattle.field_merge.proofs.Ordered.{equal, found_by_key, has, same}
use Rattle.field_merge.proofs.Orders.{names_exact, names_total, stamps_exact, stamps_total}
use Rattle.minute_trie.specs.Held.{IsMap}
use Rattle.minute_trie.specs.Json.{trie_text}
use Rattle.minute_trie.specs.Laws.{OrderIsFree, TriesAreMaps, TextsReadBack}
use Rattle.minute_trie.specs.Trie.{trie_of, ArePairs}
use Rattle.kept_messages.specs.Pairs.{pairs_of}
use Rattle.command_lines.specs.declared.reply.Reply.TheVariants.{Done}
use Rattle.command_lines.specs.Answers.{AnswersTell, ListsLater, TellsTrie}
use Rattle.command_lines.specs.Readings.{shown}
use Rattle.command_lines.proofs.BookAnswerLemmas.{books_told}

-- ---- the latest message of a field

-- neither timestamp is greater than the other
neither_greater : (r s : Ordering) → s ≡ ordering_reverse r → is_gt r ≡ false → is_gt s ≡ false → r ≡ Equal
neither_greater Less s e h k = let clash : ⊥ = cc in absurd clash
neither_greater Equal s e h k = refl
neither_greater Greater s e h k = cc

-- in a rising list a timestamp has one message
one_of_stamp : (ms : List Message) (m n : Message) → IsRising ms → Contains ms m → Contains ms n → m.stamp ≡ n.stamp → Some m ≡ Some n
one_of_stamp ms m n s at_m at_n e =
    sym (found_by_key stamp_of stamp_cmp stamps_total ms s m at_m)
    ∙ ap (λ (t : Stamp). find (has stamp_of stamp_cmp t) ms) e
    ∙ found_by_key stamp_of stamp_cmp stamps_total ms s n at_n

pub only_latest : LatestIsLatest → (ms : List Message) (f : FieldNames) (m : Message) → IsRising ms → IsLatest ms f m → latest ms f ≡ Some m
only_latest law ms f m s is =
    elim (latest ms f) as (λ o. IsLatestOrNone ms f o → o ≡ Some m) [
      | None ↦ λ none. absurd (none m is.there is.of_field)
      | Some n ↦ λ found.
          let tied : stamp_cmp n.stamp m.stamp ≡ Equal =
          neither_greater (stamp_cmp n.stamp m.stamp) (stamp_cmp m.stamp n.stamp) (stamps_total.antisymm m.stamp n.stamp)
          (is.greatest n found.there found.of_field) (found.greatest m is.there is.of_field) in
          one_of_stamp ms n m s found.there is.there (stamps_exact n.stamp m.stamp tied)
    ] (law ms f s)

no_latest : (ms : List Message) (f : FieldNames) → HasNone ms f → latest ms f ≡ None
no_latest ms f none =
    elim (latest ms f) as (λ o. latest ms f ≡ o → o ≡ None) [
      | None ↦ λ e. refl
      | Some n ↦ λ e. let at = latest_there ms f n e in absurd (none n at.0 at.1)
    ] refl

-- ---- the latest message of each field

find_listed : (ms listed : List Message) → ListsLatest ms listed → (f : FieldNames) → find (has_field f) listed ≡ latest ms f
find_listed ms listed h f =
    elim (find (has_field f) listed) as (λ o. find (has_field f) listed ≡ o → o ≡ latest ms f) [
      | None ↦ λ e.
          elim (latest ms f) as (λ o. latest ms f ≡ o → None ≡ o) [
            | None ↦ λ l. refl
            | Some m ↦ λ l.
                let at = latest_there ms f m l in
                absurd (some_passes (has_field f) listed m ((h.exactly m).1 (ap (latest ms) at.1 ∙ l)) (has_its_own f m at.1) e)
          ] refl
      | Some m ↦ λ e.
          let at = found_in (has_field f) listed m e in
          sym (ap (latest ms) (names_exact f m.field (equal _ at.1)) ∙ (h.exactly m).0 at.0)
    ] refl

only_listed : (ms listed : List Message) → ListsLatest ms listed → fields ms ≡ listed
only_listed ms listed h =
    same (λ (m : Message). m.field) names_cmp names_total (fields ms) listed (fields_in_order ms) h.in_order
    (λ f. find-fields ms f ∙ sym (find_listed ms listed h f))

-- ---- the later messages

module _ {A : Type 0} (p : A → Bool) where
  -- the elements that pass are elements, and pass
  kept_are : (xs : List A) → AllByRecursion (λ x. Contains xs x × (p x ≡ true)) (filter p xs)
  kept_are [] = tt
  kept_are (y ∷ ys) =
      let rest = all_weaker (λ x. Contains ys x × (p x ≡ true)) (λ x. Contains (y ∷ ys) x × (p x ≡ true)) (λ x h. (there y ys x h.0, h.1)) (filter p ys) (kept_are ys) in
      elim (p y) as (λ b. p y ≡ b → AllByRecursion (λ x. Contains (y ∷ ys) x × (p x ≡ true)) (cond b (y ∷ filter p ys) (filter p ys))) [
        | true ↦ λ e. ((here y ys, e), rest)
        | false ↦ λ e. rest
      ] refl

  -- each element that passes is kept
  are_kept : (xs : List A) → AllByRecursion (λ x. p x ≡ true → Contains (filter p xs) x) xs
  are_kept [] = tt
  are_kept (y ∷ ys) =
      elim (p y) as (λ b. p y ≡ b → AllByRecursion (λ x. p x ≡ true → Contains (cond b (y ∷ filter p ys) (filter p ys)) x) (y ∷ ys)) [
        | true ↦ λ e. (
          λ _. here y (filter p ys),
          all_weaker (λ x. p x ≡ true → Contains (filter p ys) x) (λ x. p x ≡ true → Contains (y ∷ filter p ys) x)
              (λ x h k. there y (filter p ys) x (h k)) ys (are_kept ys),
        )
        | false ↦ λ e. (λ k. cc, are_kept ys)
      ] refl

-- the test of `is_after` on a timestamp
abbrev stamp_after : List ℕ → Stamp → Bool
stamp_after since s = is_gt (slice_cmp nat_cmp (stamp_text s) since)

stamps_after : (since : List ℕ) (ms : List Message) → filter (stamp_after since) (map stamp_of ms) ≡ map stamp_of (messages_after since ms)
stamps_after since [] = refl
stamps_after since (m ∷ ms) =
    elim (is_after since m) as (λ b. cond b (m.stamp ∷ filter (stamp_after since) (map stamp_of ms)) (filter (stamp_after since) (map stamp_of ms)) ≡ map stamp_of (cond b (m ∷ messages_after since ms) (messages_after since ms))) [
      | true ↦ ap (λ ss. m.stamp ∷ ss) (stamps_after since ms)
      | false ↦ stamps_after since ms
    ]

later_rising : (since : List ℕ) (ms : List Message) → IsRising ms → IsRising (messages_after since ms)
later_rising since ms s =
    subst (IsStrictlySortedBy stamp_cmp) (stamps_after since ms) (IsStrictlySortedBy-filter stamp_cmp (stamp_after since) (map stamp_of ms) s)

-- rising lists with the same messages are the same
same_rising : (ms ns : List Message) → IsRising ms → IsRising ns → HaveSame ms ns → ms ≡ ns
same_rising ms ns s t have =
    same stamp_of stamp_cmp stamps_total ms ns s t
    (same_found ms ns (λ m n at_m at_n e. let one = one_of_stamp ms m n s at_m at_n e in cc) have)

only_later : (ms told : List Message) (since : List ℕ) → IsRising ms → ListsLater since ms told → messages_after since ms ≡ told
only_later ms told since s h =
    same_rising (messages_after since ms) told (later_rising since ms s) h.rising
    (λ m. (
      λ c. (h.exactly m).1 (all_of (λ x. Contains ms x × (is_after since x ≡ true)) (messages_after since ms) (kept_are (is_after since) ms) m c),
      λ c. let at = (h.exactly m).0 c in all_of (λ x. is_after since x ≡ true → Contains (messages_after since ms) x) ms (are_kept (is_after since) ms) m at.0 at.1,
    ))

-- ---- the answers

-- the trie of valid messages is one of pairs
pairs_are : TriesAreMaps → (ms : List Message) → AreMessages ms → ArePairs (pairs_of ms)
pairs_are maps [] valid = tt
pairs_are maps (m ∷ ms) valid = (maps.of_stamp m.stamp valid.0.stamp, pairs_are maps ms valid.1)

trie_told : TriesAreMaps → TextsReadBack → OrderIsFree → (ms : List Message) → AreMessages ms → TellsTrie ms (trie_text (trie_of (pairs_of ms)))
trie_told maps texts order ms valid =
    let is : IsMap 16 (trie_of (pairs_of ms)) = maps.of_pairs (pairs_of ms) (pairs_are maps ms valid) in
    record {
      right = texts.right (trie_of (pairs_of ms)) is;
      same = λ pairs permuted. texts.same (trie_of (pairs_of ms)) is ∙ sym (order.same pairs (pairs_of ms) permuted);
    }

pub they_tell : LatestIsLatest → TriesAreMaps → TextsReadBack → OrderIsFree → AnswersTell
they_tell law maps texts order = record {
  value = λ ms d r c m s is. ap (λ o. Done (shown (option_map (λ (m : Message). m.value) o) ∷ [])) (only_latest law ms (field_of d r c) m s is);
  none = λ ms d r c no. ap (λ o. Done (shown (option_map (λ (m : Message). m.value) o) ∷ [])) (no_latest ms (field_of d r c) no);
  fields = λ ms listed h. ap (λ ns. Done (map message_line ns)) (only_listed ms listed h);
  messages = λ ms told since s h. ap (λ ns. Done (map message_line ns)) (only_later ms told since s h);
  trie = λ ms valid. (trie_text (trie_of (pairs_of ms)), refl, trie_told maps texts order ms valid);
  books = books_told;
}
