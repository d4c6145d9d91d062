-- The messages whose timestamp's text is greater than a text stand at the end of the list.
use Rattle.std.proofs.Common.{◌≡◌, List, [], ◌∷◌, ◌++◌, ℕ, Bool, true, false, cond, map, refl, sym, ap, ◌∙◌, append_assoc}
use Rattle.std.specs.Prelude.{filter, reverse}
use Rattle.std.specs.Ordering.{is_gt, nat_cmp}
use Rattle.std.specs.Cmp.Lexicographic.{slice_cmp}
use Rattle.std.specs.List.{AllByRecursion}
use Rattle.std.specs.declared.cmp.Ordering.TheVariants.{Less}
use Rattle.std.proofs.lemmas.Cmp.{nat_list_cmp_total, upto}
use Rattle.std.proofs.lemmas.List.{reverse-append}
use Rattle.std.proofs.lemmas.List.Elements.{filter-append}
use Rattle.hybrid_clock.specs.declared.stamp.Stamp.{Stamp}
use Rattle.hybrid_clock.specs.Stamp.{stamp_text}
use Rattle.hybrid_clock.specs.Laws.{StampsAreInOrder}
use Rattle.hybrid_clock.specs.Order.{stamp_cmp}
use Rattle.field_merge.specs.declared.message.Message.{Message}
use Rattle.field_merge.specs.Messages.{AreMessages, IsMessage}
use Rattle.field_merge.specs.Log.{IsRising, is_after, messages_after}
use Rattle.field_merge.proofs.Members.{all_keys}
use Rattle.field_merge.proofs.Ordered.{cons, head, in_order_nil, tail}
use Rattle.field_merge.proofs.Joining.{stamp_of}

module _ {A : Type 0} where
  pub all_front : (P : A → Type 0) (xs : List A) (x : A) → AllByRecursion P (xs ++ x ∷ []) → AllByRecursion P xs
  all_front P [] x h = tt
  all_front P (y ∷ xs) x h = (h.0, all_front P xs x h.1)

  pub at_end : (P : A → Type 0) (xs : List A) (x : A) → AllByRecursion P (xs ++ x ∷ []) → P x
  at_end P [] x h = h.0
  at_end P (y ∷ xs) x h = at_end P xs x h.1

  all_kept : {K : Type 0} (key : A → K) (P : K → Type 0) (xs : List A) → AllByRecursion (λ x. P (key x)) xs → AllByRecursion P (map key xs)
  all_kept key P [] h = tt
  all_kept key P (x ∷ xs) h = (h.0, all_kept key P xs h.1)

  filter_none : (p : A → Bool) (xs : List A) → AllByRecursion (λ x. p x ≡ false) xs → filter p xs ≡ []
  filter_none p [] h = refl
  filter_none p (x ∷ xs) h = ap (λ b. cond b (x ∷ filter p xs) (filter p xs)) h.0 ∙ filter_none p xs h.1

-- without its last message a rising list rises, and each message is below the last one
pub rising_front : (ms : List Message) (n : Message) → IsRising (ms ++ n ∷ []) → IsRising ms
rising_front [] n s = in_order_nil stamp_of stamp_cmp
rising_front (m ∷ ms) n s =
    let below = all_keys stamp_of (λ (t : Stamp). stamp_cmp m.stamp t ≡ Less) (ms ++ n ∷ []) (head stamp_of stamp_cmp m (ms ++ n ∷ []) s) in
    cons stamp_of stamp_cmp m ms
    (all_kept stamp_of (λ (t : Stamp). stamp_cmp m.stamp t ≡ Less) ms (all_front (λ (l : Message). stamp_cmp m.stamp l.stamp ≡ Less) ms n below))
    (rising_front ms n (tail stamp_of stamp_cmp m (ms ++ n ∷ []) s))

below_last : (ms : List Message) (n : Message) → IsRising (ms ++ n ∷ []) → AllByRecursion (λ (m : Message). stamp_cmp m.stamp n.stamp ≡ Less) ms
below_last [] n s = tt
below_last (m ∷ ms) n s =
    let below = all_keys stamp_of (λ (t : Stamp). stamp_cmp m.stamp t ≡ Less) (ms ++ n ∷ []) (head stamp_of stamp_cmp m (ms ++ n ∷ []) s) in
    (at_end (λ (l : Message). stamp_cmp m.stamp l.stamp ≡ Less) ms n below, below_last ms n (tail stamp_of stamp_cmp m (ms ++ n ∷ []) s))

none_after : StampsAreInOrder → (text : List ℕ) (ms : List Message) (n : Message) → AreMessages ms → IsMessage n → is_after text n ≡ false → AllByRecursion (λ (m : Message). stamp_cmp m.stamp n.stamp ≡ Less) ms → AllByRecursion (λ m. is_after text m ≡ false) ms
none_after order text [] n v w isnt h = tt
none_after order text (m ∷ ms) n v w isnt h =
    let under : is_gt (slice_cmp nat_cmp (stamp_text m.stamp) (stamp_text n.stamp)) ≡ false = ap is_gt (order m.stamp n.stamp v.0.stamp w.stamp ∙ h.0) in
    (upto nat_list_cmp_total (stamp_text m.stamp) (stamp_text n.stamp) text under isnt, none_after order text ms n v.1 w isnt h.1)

-- where the last message is not after the text, none is
pub none_later : StampsAreInOrder → (text : List ℕ) (ms : List Message) (n : Message) → AreMessages (ms ++ n ∷ []) → IsRising (ms ++ n ∷ []) → is_after text n ≡ false → messages_after text (ms ++ n ∷ []) ≡ []
none_later order text ms n v s isnt =
    filter-append (is_after text) ms (n ∷ [])
    ∙ ap (λ ns. ns ++ filter (is_after text) (n ∷ [])) (filter_none (is_after text) ms (none_after order text ms n (all_front IsMessage ms n v) (at_end IsMessage ms n v) isnt (below_last ms n s)))
    ∙ ap (λ b. cond b (n ∷ []) []) isnt

-- where it is, it is the last one of those that are
pub later_front : (text : List ℕ) (ms found : List Message) (n : Message) → is_after text n ≡ true → messages_after text (ms ++ n ∷ []) ++ reverse found ≡ messages_after text ms ++ reverse (found ++ n ∷ [])
later_front text ms found n is =
    ap (λ ns. ns ++ reverse found) (filter-append (is_after text) ms (n ∷ []) ∙ ap (λ b. messages_after text ms ++ cond b (n ∷ []) []) is)
    ∙ append_assoc (messages_after text ms) (n ∷ []) (reverse found)
    ∙ ap (λ ns. messages_after text ms ++ ns) (sym (reverse-append found (n ∷ [])))

-- the later ones of valid messages are valid
pub later_valid : (text : List ℕ) (ms : List Message) → AreMessages ms → AreMessages (messages_after text ms)
later_valid text [] h = tt
later_valid text (m ∷ ms) h =
    elim (is_after text m) as (λ b. AreMessages (cond b (m ∷ messages_after text ms) (messages_after text ms))) [ true ↦ (h.0, later_valid text ms h.1) | false ↦ later_valid text ms h.1 ]
