-- What is answered.
use Rattle.std.proofs.Common.{◌≡◌, ℕ, List, [], ◌∷◌, Bool, true, false, cond, Result, refl, sym, ap, ap₂, ◌∙◌, subst}
use Rattle.std.specs.Prelude.{filter, IfOk}
use Rattle.std.specs.List.{AllByRecursion, Contains}
use Rattle.std.specs.Cmp.{tied_itself}
use Rattle.std.specs.Ordering.{is_eq}
use Rattle.std.specs.declared.cmp.Ordering.{Ordering}
use Rattle.hybrid_clock.specs.Stamp.{stamp_text, head_text}
use Rattle.hybrid_clock.specs.Order.{stamp_cmp}
use Rattle.field_merge.specs.declared.message.Message.{Message}
use Rattle.field_merge.specs.Log.{LogState, IsRising, is_after, has_stamp, join, messages_after}
use Rattle.field_merge.proofs.Joining.{found, rising, stamp_of}
use Rattle.field_merge.proofs.Members.{all_of, all_weaker, here, there, some_passes}
use Rattle.field_merge.proofs.Ordered.{IsBelow, IsInOrder, cons, head, in_order_nil, same, tail}
use Rattle.field_merge.proofs.Orders.{stamps_total}
use Rattle.field_values.specs.declared.memory.NoMemory.{NoMemory}
use Rattle.minute_trie.specs.declared.trie.Trie.{Trie}
use Rattle.minute_trie.specs.Trie.{held, trie_of, IsTrieOf}
use Rattle.minute_trie.specs.Json.{trie_text}
use Rattle.kept_messages.specs.Pairs.{pairs_of}
use Rattle.sync_wire.specs.declared.response.SyncResponse.{SyncResponse}
use Rattle.sync_wire.specs.declared.request.SyncRequest.{SyncRequest}
use Rattle.sync_server.specs.Answer.{answer_of}
use Rattle.sync_server.specs.Laws.{AnswersTell}

-- ---- a log whose messages are joined anew

after_all : (m : Message) → is_after [] m ≡ true
unfolding stamp_text head_text
after_all m = refl

after_nothing : (ms : List Message) → messages_after [] ms ≡ ms
after_nothing [] = refl
after_nothing (m ∷ ms) = ap₂ (λ (b : Bool) (ns : List Message). cond b (m ∷ ns) ns) (after_all m) (after_nothing ms)

pub joined_anew : (ms : List Message) → IsRising ms → join [] (messages_after [] ms) ≡ ms
joined_anew ms up = ap (join []) (after_nothing ms) ∙ same stamp_of stamp_cmp stamps_total (join [] ms) ms (rising [] ms (in_order_nil stamp_of stamp_cmp)) up (λ s. found [] ms s)

-- ---- which messages are answered

module _ {A : Type 0} (p : A → Bool) where
  -- the elements that pass are elements, and pass
  kept_are : (xs : List A) → AllByRecursion (λ x. Contains xs x × (p x ≡ true)) (filter p xs)
  kept_are [] = tt
  kept_are (y ∷ ys) =
      let rest = all_weaker (λ x. Contains ys x × (p x ≡ true)) (λ x. Contains (y ∷ ys) x × (p x ≡ true)) (λ x h. (there y ys x h.0, h.1)) (filter p ys) (kept_are ys) in
      elim (p y) as (λ b. p y ≡ b → AllByRecursion (λ x. Contains (y ∷ ys) x × (p x ≡ true)) (cond b (y ∷ filter p ys) (filter p ys))) [
        | true ↦ λ e. ((here y ys, e), rest)
        | false ↦ λ e. rest
      ] refl

  -- each element that passes is kept
  are_kept : (xs : List A) → AllByRecursion (λ x. p x ≡ true → Contains (filter p xs) x) xs
  are_kept [] = tt
  are_kept (y ∷ ys) =
      elim (p y) as (λ b. p y ≡ b → AllByRecursion (λ x. p x ≡ true → Contains (cond b (y ∷ filter p ys) (filter p ys)) x) (y ∷ ys)) [
        | true ↦ λ e. (
          λ _. here y (filter p ys),
          all_weaker (λ x. p x ≡ true → Contains (filter p ys) x) (λ x. p x ≡ true → Contains (y ∷ filter p ys) x)
              (λ x h k. there y (filter p ys) x (h k)) ys (are_kept ys),
        )
        | false ↦ λ e. (λ k. cc, are_kept ys)
      ] refl

-- what is kept of elements that are in order is in order
module _ {A K : Type 0} (key : A → K) (R : K → K → Ordering) (p : A → Bool) where
  kept_below : (k : K) (xs : List A) → IsBelow key R k xs → IsBelow key R k (filter p xs)
  kept_below k [] h = tt
  kept_below k (x ∷ xs) h =
      elim (p x) as (λ b. IsBelow key R k (cond b (x ∷ filter p xs) (filter p xs))) [
        | true ↦ (h.0, kept_below k xs h.1)
        | false ↦ kept_below k xs h.1
      ]

  kept_in_order : (xs : List A) → IsInOrder key R xs → IsInOrder key R (filter p xs)
  kept_in_order [] s = s
  kept_in_order (x ∷ xs) s =
      let rest = kept_in_order xs (tail key R x xs s) in
      elim (p x) as (λ b. IsInOrder key R (cond b (x ∷ filter p xs) (filter p xs))) [
        | true ↦ cons key R x (filter p xs) (kept_below (key x) xs (head key R x xs s)) rest
        | false ↦ rest
      ]

told : (ms : List Message) (q : SyncRequest) (m : Message) → Contains (messages_after q.since ms) m → Contains ms m × (is_after q.since m ≡ true)
told ms q m c = all_of (λ x. Contains ms x × (is_after q.since x ≡ true)) (messages_after q.since ms) (kept_are (is_after q.since) ms) m c

its_own : (m : Message) → has_stamp m.stamp m ≡ true
its_own m = ap is_eq (tied_itself stamps_total m.stamp)

pub they_tell : AnswersTell
they_tell = record {
  exactly = λ ms q m. (told ms q m, λ h. all_of (λ x. is_after q.since x ≡ true → Contains (messages_after q.since ms) x) ms (are_kept (is_after q.since) ms) m h.0 h.1);
  no_new = λ ms q m none c. some_passes (has_stamp m.stamp) ms m (told ms q m c).0 (its_own m) none;
  in_order = λ ms q up. kept_in_order stamp_of stamp_cmp (is_after q.since) ms up;
  trie = λ ms q t right. ap trie_text (sym right.same);
  trie_after = λ ms q r none. ap (λ (ns : List Message). trie_text (trie_of (pairs_of (join (join ms q.messages) ns)))) none;
}

-- ---- the answer that is made

abbrev reply : List Message → List ℕ → SyncResponse
reply ms text = record { messages = ms; encrypted = false; merkle = text }

pub answer_made : (ms now told ns : List Message) (since text : List ℕ) (q : SyncRequest) (trie : Trie) → since ≡ q.since → told ≡ messages_after since ms → ns ≡ q.messages → now ≡ join ms ns
    → IsTrieOf (pairs_of now) trie → text ≡ trie_text (held trie) → reply told text ≡ answer_of ms q
answer_made ms now told ns since text q trie es et en ej right etext =
    let joined : now ≡ join ms q.messages = ej ∙ ap (join ms) en in
    let later : told ≡ messages_after q.since ms = et ∙ ap (λ (t : List ℕ). messages_after t ms) es in
    let shown : text ≡ trie_text (trie_of (pairs_of (join ms q.messages))) = etext ∙ ap trie_text right.same ∙ ap (λ (js : List Message). trie_text (trie_of (pairs_of js))) joined in
    ap₂ reply later shown

-- the same of a log that was joined anew
pub answer_anew : (ms known made : List Message) (log : LogState) (ns : List Message) (q : SyncRequest) (r : Result SyncResponse NoMemory) → IsRising ms → log ≡ record { messages = []; spent = false }
    → known ≡ messages_after [] ms → ns ≡ known → made ≡ join log.messages ns → IfOk r (λ a. a ≡ answer_of made q) → IfOk r (λ a. a ≡ answer_of ms q)
answer_anew ms known made log ns q r up el ek en ej h =
    let all : join [] ns ≡ ms = ap (join []) (en ∙ ek) ∙ joined_anew ms up in
    let same : made ≡ ms = ej ∙ ap (λ (l : LogState). join l.messages ns) el ∙ all in
    subst (λ (js : List Message). IfOk r (λ a. a ≡ answer_of js q)) same h
