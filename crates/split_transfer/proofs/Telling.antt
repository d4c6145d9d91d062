-- Nothing is told exactly where all is right.
use Rattle.std.proofs.Common.{◌≡◌, ℕ, Bool, true, false, cond, List, [], ◌∷◌, ◌++◌, Option, Some, None, refl, ap, sym, ◌∙◌, subst, arith}
use Rattle.std.specs.Prelude.{◌&&◌, not}
use lib.IntN.{pos, ◌+ℤ◌, ◌-ℤ◌}
use Rattle.std.proofs.lemmas.Int.{ints}
use Rattle.std.specs.FinMap.{get}
use Rattle.finite_sums.specs.Maps.{Text, text_cmp, some_and}
use Rattle.finite_sums.proofs.Texts.{text_total, text_same}
use Rattle.book_rows.specs.declared.rows.Rows.{Rows}
use Rattle.book_rows.specs.declared.rows.TxRow.{TxRow}
use Rattle.book_rows.specs.Live.{is_live_tx}
use Rattle.book_edits.specs.Checks.{same_id}
use Rattle.split_transfer.specs.Pairs.{partner_of, parts_sum}
use Rattle.split_transfer.specs.Right.{IsLiveRow, ArePair, AreOpposite, IsSplit}
use Rattle.split_transfer.proofs.Basics.{bool_cases, option_cases, both_true, and_both, true_false, none_some, some_is, same_refl, same_is, holds_some}
use Rattle.std.specs.Prelude.{is_some, flat_map}
use Rattle.std.specs.Ordering.{int_eq}
use Rattle.std.specs.FinMap.{find, is_sorted, entries, entries_sorted, get-entries}
use Rattle.std.proofs.lemmas.Bool.{eq-eqb, eqb-true}
use Rattle.std.proofs.lemmas.Bool.Decides.{Decides-int_eq}
use Rattle.finite_sums.proofs.MapSums.{sorted_tail, so}
use Rattle.split_transfer.specs.Broken.{same_day, are_opposite, is_paired, transfer_line, split_line, told_transfer, told_split, told_of, broken, AreAllRight, BrokenTellsAll}
use Rattle.split_transfer.proofs.Links.{partner_is, partner_found}
use Rattle.split_transfer.proofs.SameSums.{absent}

none_of : {X : Type 0} (a b : List X) → a ++ b ≡ [] → (a ≡ []) × (b ≡ [])
none_of [] b h = (refl, h)
none_of (x ∷ a) b h = absurd (clash h)
  where
    clash : x ∷ (a ++ b) ≡ [] → ⊥
    clash h = cc

-- nothing is told of a row
of_row : (r : Rows) (es : List (Text × TxRow)) (id : Text) (x : TxRow) → flat_map (told_of r) es ≡ [] → find text_cmp id es ≡ Some x → told_of r (id, x) ≡ []
of_row r [] id x h there = none_some x there
of_row r (e ∷ es) id x h there =
    let p = none_of (told_of r e) (flat_map (told_of r) es) h in
    bool_cases (same_id id e.0)
    (λ t.
    let row : e.1 ≡ x = some_is e.1 x (ap (λ b. cond b (Some e.1) (find text_cmp id es)) (sym t) ∙ there) in
    ap (λ y. told_of r (id, y)) (sym row) ∙ ap (λ k. told_of r (k, e.1)) (same_is id e.0 t) ∙ p.0)
    (λ f. of_row r es id x p.1 (ap (λ b. cond b (Some e.1) (find text_cmp id es)) (sym f) ∙ there))

no_line : (b : Bool) (n : ℕ) (rest : Text) → cond b (n ∷ rest) [] ≡ [] → b ≡ false
no_line true n rest h = absurd (clash h)
  where
    clash : n ∷ rest ≡ [] → ⊥
    clash h = cc
no_line false n rest h = refl

passes : (a b : Bool) → a ≡ true → (a && not b) ≡ false → b ≡ true
passes true true g h = refl
passes true false g h = true_false true refl h
passes false b g h = true_false false g refl

stops : (a b : Bool) → (a ≡ true → b ≡ true) → (a && not b) ≡ false
stops true b h = ap not (h refl)
stops false b h = refl

days : (a b : Option ℕ) → same_day a b ≡ true → a ≡ b
days None None h = refl
days None (Some b) h = true_false true refl (sym h)
days (Some a) None h = true_false true refl (sym h)
days (Some a) (Some b) h = ap Some (eqb-true a b h)

day_itself : (a : Option ℕ) → same_day a a ≡ true
day_itself None = refl
day_itself (Some a) = eq-eqb a a refl

opposite_is : (x y : TxRow) → are_opposite x y ≡ true → AreOpposite x y
opposite_is x y h =
    let both = both_true (int_eq (x.amount +ℤ y.amount) (pos 0)) (same_day x.date y.date) h in
    record { amounts = (Decides-int_eq (x.amount +ℤ y.amount) (pos 0)).0 both.0; dates = days x.date y.date both.1 }

is_opposite : (x y : TxRow) → AreOpposite x y → are_opposite x y ≡ true
is_opposite x y h = and_both _ _ ((Decides-int_eq (x.amount +ℤ y.amount) (pos 0)).1 h.amounts) (ap (same_day x.date) (sym h.dates) ∙ day_itself x.date)

paired_by : (r : Rows) (a b : Text) (x y : TxRow) → ArePair r a x b y → is_paired r a x ≡ are_opposite x y
paired_by r a b x y p =
    ap (some_and (λ other. some_and (are_opposite x) (get r.txs other))) (partner_found r a x b y p) ∙ ap (some_and (are_opposite x)) p.second.there

module _ (r : Rows) (h : broken r ≡ []) where
  of_live : (id : Text) (x : TxRow) → IsLiveRow r id x → (told_transfer r id x ≡ []) × (told_split r id x ≡ [])
  of_live id x l = none_of (told_transfer r id x) (told_split r id x)
      (ap (λ b. cond b (told_transfer r id x ++ told_split r id x) []) (sym l.live) ∙ of_row r (entries r.txs) id x h (sym (get-entries r.txs id) ∙ l.there))

  is_right : (a b : Text) (x : TxRow) → IsLiveRow r a x → x.transferred_id ≡ Some b → is_paired r a x ≡ true
  is_right a b x l named =
      let wrong = no_line (is_some x.transferred_id && not (is_paired r a x)) _ _ (of_live a x l).0 in
      passes (is_some x.transferred_id) (is_paired r a x) (ap is_some named) wrong

  pair : (a b : Text) (x y : TxRow) → ArePair r a x b y → AreOpposite x y
  pair a b x y p = opposite_is x y (sym (paired_by r a b x y p) ∙ is_right a b x p.first p.forth)

  paired : (a b : Text) (x : TxRow) → IsLiveRow r a x → x.transferred_id ≡ Some b → (y : TxRow) × ArePair r a x b y
  paired a b x l named =
      let w = holds_some (λ other. some_and (are_opposite x) (get r.txs other)) (partner_of r a x) (is_right a b x l named) in
      let p = partner_is r a x w.0 l w.1 in
      let same : w.0 ≡ b = some_is w.0 b (sym p.1.forth ∙ named) in
      (p.0, subst (λ (t : Text). ArePair r a x t p.0) same p.1)

  split : (id : Text) (x : TxRow) → IsSplit r id x → x.amount ≡ parts_sum r id
  split id x s =
      let wrong = no_line (x.is_parent && not (int_eq (x.amount -ℤ parts_sum r id) (pos 0))) _ _ (of_live id x s.parent).1 in
      let zero = (Decides-int_eq (x.amount -ℤ parts_sum r id) (pos 0)).0 (passes x.is_parent (int_eq (x.amount -ℤ parts_sum r id) (pos 0)) s.is_parent wrong) in
      omega (arith, ints, zero)

module _ (r : Rows) (right : AreAllRight r) where
  no_transfer : (id : Text) (x : TxRow) → IsLiveRow r id x → told_transfer r id x ≡ []
  no_transfer id x l = ap (λ b. cond b (transfer_line id) []) (stops (is_some x.transferred_id) (is_paired r id x) (λ t. option_cases x.transferred_id
      (λ none. true_false (is_some x.transferred_id) t (ap is_some none))
      (λ b named.
      let w = right.paired id b x l named in
      paired_by r id b x w.0 w.1 ∙ is_opposite x w.0 (right.pairs id b x w.0 w.1))))

  no_split : (id : Text) (x : TxRow) → IsLiveRow r id x → told_split r id x ≡ []
  no_split id x l = ap (λ b. cond b (split_line r id x) []) (stops x.is_parent (int_eq (x.amount -ℤ parts_sum r id) (pos 0)) (λ t.
      let e = right.splits id x (record { parent = l; is_parent = t }) in (Decides-int_eq (x.amount -ℤ parts_sum r id) (pos 0)).1 (omega (arith, ints, e))))

  nothing : (id : Text) (x : TxRow) → get r.txs id ≡ Some x → (b : Bool) → is_live_tx r x ≡ b → cond b (told_transfer r id x ++ told_split r id x) [] ≡ []
  nothing id x there true live =
      let l : IsLiveRow r id x = record { there = there; live = live } in
      ap (λ t. t ++ told_split r id x) (no_transfer id x l) ∙ no_split id x l
  nothing id x there false live = refl

  of_all : (es : List (Text × TxRow)) → is_sorted text_cmp es ≡ true → ((q : Text) (x : TxRow) → find text_cmp q es ≡ Some x → get r.txs q ≡ Some x) → flat_map (told_of r) es ≡ []
  of_all [] s found = refl
  of_all (e ∷ es) s found =
      let here = found e.0 e.1 (ap (λ b. cond b (Some e.1) (find text_cmp e.0 es)) (same_refl e.0)) in
      ap (λ t. t ++ flat_map (told_of r) es) (nothing e.0 e.1 here (is_live_tx r e.1) refl)
      ∙ of_all es (sorted_tail text_total text_same e es s) (λ q x h. found q x (later q x h (same_id q e.0) refl))
    where
      later : (q : Text) (x : TxRow) → find text_cmp q es ≡ Some x → (b : Bool) → same_id q e.0 ≡ b → cond b (Some e.1) (find text_cmp q es) ≡ Some x
      later q x h true t = none_some x (sym (ap (λ k. find text_cmp k es) (same_is q e.0 t) ∙ absent e.0 es (both_true _ _ s).0) ∙ h)
      later q x h false t = h

pub tells_all : BrokenTellsAll
tells_all r = (
  λ h. record { paired = paired r h; pairs = pair r h; splits = split r h },
  λ right. of_all r right (entries r.txs) (so _ (entries_sorted r.txs)) (λ q x h. get-entries r.txs q ∙ h),
)
