-- Maps whose values add the same make one sum.
use Rattle.std.proofs.Common.{◌≡◌, Bool, true, false, cond, List, [], ◌∷◌, Some, None, refl, ap, sym, ◌∙◌, arith}
use lib.IntN.{ℤ, pos}
use Rattle.std.proofs.lemmas.Int.{ints}
use Rattle.std.specs.FinMap.{find, is_sorted, get, remove, entries, entries_sorted, get-entries, get-remove}
use Rattle.std.specs.FinMap.Entries.{below_all}
use Rattle.std.specs.declared.cmp.Ordering.{Ordering}
use Rattle.std.specs.declared.cmp.Ordering.TheVariants.{Less, Equal, Greater}
use Rattle.std.specs.Ordering.{is_lt, is_eq}
use Rattle.finite_sums.specs.Sums.{total}
use Rattle.finite_sums.specs.Maps.{Text, Texts, text_cmp, value_or_zero, total_of}
use Rattle.finite_sums.proofs.Texts.{text_total, text_same}
use Rattle.finite_sums.proofs.MapSums.{total_same, total_of-remove, sorted_tail, so, both_true}
use Rattle.book_edits.specs.Checks.{same_id}
use Rattle.split_transfer.proofs.Basics.{same_refl, same_is}

less_no_tie : (r : Ordering) → is_lt r ≡ true → is_eq r ≡ false
less_no_tie Less h = refl
less_no_tie Equal h = cc
less_no_tie Greater h = cc

module _ {X : Type 0} where
  -- a key below all keys is not there
  pub absent : (k : Text) (es : List (Text × X)) → below_all text_cmp k es ≡ true → find text_cmp k es ≡ None
  absent k [] h = refl
  absent k (e ∷ es) h =
      let p = both_true _ _ h in
      ap (λ b. cond b (Some e.1) (find text_cmp k es)) (less_no_tie (text_cmp k e.0) p.0) ∙ absent k es p.1

  zeros : (es : List (Text × X)) → total (λ (e : Text × X). pos 0) es ≡ pos 0
  zeros [] = refl
  zeros (e ∷ es) = omega (arith, ints, zeros es)

  same_list : (f g : X → ℤ) (es : List (Text × X)) → is_sorted text_cmp es ≡ true → (n : Texts X) → ((q : Text) → value_or_zero f (find text_cmp q es) ≡ value_or_zero g (get n q)) → total (λ e. f e.1) es ≡ total_of g n
  same_list f g [] s n h =
      sym (total_same text_total text_same g (λ x. pos 0) n (λ q x found. sym (h q ∙ ap (value_or_zero g) found)) ∙ zeros (entries n))
  same_list f g (e ∷ es) s n h =
      let head : f e.1 ≡ value_or_zero g (get n e.0) = ap (λ b. value_or_zero f (cond b (Some e.1) (find text_cmp e.0 es))) (sym (same_refl e.0)) ∙ h e.0 in
      let tail = same_list f g es (sorted_tail text_total text_same e es s) (remove n e.0) (λ q. at q (same_id q e.0) refl) in
      omega (arith, ints, head, tail, total_of-remove text_total text_same g n e.0)
    where
      at : (q : Text) (b : Bool) → same_id q e.0 ≡ b → value_or_zero f (find text_cmp q es) ≡ value_or_zero g (get (remove n e.0) q)
      at q true p =
          ap (value_or_zero f) (ap (λ k. find text_cmp k es) (same_is q e.0 p) ∙ absent e.0 es (both_true _ _ s).0)
          ∙ ap (value_or_zero g) (sym (get-remove text_total n e.0 q ∙ ap (λ b. cond b None (get n q)) p))
      at q false p =
          ap (λ b. value_or_zero f (cond b (Some e.1) (find text_cmp q es))) (sym p) ∙ h q
          ∙ ap (value_or_zero g) (sym (get-remove text_total n e.0 q ∙ ap (λ b. cond b None (get n q)) p))

  -- maps whose values weigh the same at each key
  pub total_of-same_values : (f g : X → ℤ) (m n : Texts X) → ((q : Text) → value_or_zero f (get m q) ≡ value_or_zero g (get n q)) → total_of f m ≡ total_of g n
  total_of-same_values f g m n h = same_list f g (entries m) (so _ (entries_sorted m)) n (λ q. ap (value_or_zero f) (sym (get-entries m q)) ∙ h q)

  -- a map in which nothing weighs
  pub total_of-zero : (f : X → ℤ) (m : Texts X) → ((q : Text) (x : X) → get m q ≡ Some x → f x ≡ pos 0) → total_of f m ≡ pos 0
  total_of-zero f m h = total_same text_total text_same f (λ x. pos 0) m h ∙ zeros (entries m)
