-- The orders of timestamps and of fields: they are total, and tell all timestamps and all fields apart.
use Rattle.std.proofs.Common.{◌≡◌, ◌&&◌, ◌==◌, ℕ, Bool, true, false, refl, sym, ap, ◌∙◌}
use Rattle.std.proofs.lemmas.Bool.{eq-eqb, eqb-true}
use Rattle.field_merge.proofs.Ordered.{equal}
use Rattle.std.specs.Str.{bytes_eq}
use Rattle.std.specs.Ordering.{is_eq, ordering_then, nat_cmp}
use Rattle.std.specs.Cmp.{IsTotalOrder, tied_itself, tied_then}
use Rattle.std.specs.Cmp.Lexicographic.{slice_cmp}
use Rattle.std.specs.declared.cmp.Ordering.{Ordering}
use Rattle.std.specs.declared.cmp.Ordering.TheVariants.{Less, Equal, Greater}
use Rattle.std.proofs.lemmas.Cmp.{then_total, on_total, nat_cmp_total, nat_list_cmp_total}
use Rattle.std.proofs.lemmas.Map.Lookups.{exact_unsigned, exact_bytes}
use Rattle.std.proofs.lemmas.Map.Text.{is_eq-slice_cmp}
use Rattle.field_values.specs.Names.{FieldNames, names_cmp, names_eq}
use Rattle.hybrid_clock.specs.declared.stamp.Stamp.{Stamp}
use Rattle.hybrid_clock.specs.Order.{stamp_cmp}

pub stamps_total : IsTotalOrder stamp_cmp
stamps_total =
    then_total (on_total (λ (s : Stamp). s.millis) nat_cmp_total)
    (then_total (on_total (λ (s : Stamp). s.counter) nat_cmp_total) (on_total (λ (s : Stamp). s.node) nat_list_cmp_total))

pub names_total : IsTotalOrder names_cmp
names_total =
    then_total (on_total (λ (f : FieldNames). f.dataset) nat_list_cmp_total)
    (then_total (on_total (λ (f : FieldNames). f.row) nat_list_cmp_total) (on_total (λ (f : FieldNames). f.column) nat_list_cmp_total))

both_equal : (r s : Ordering) → ordering_then r s ≡ Equal → (r ≡ Equal) × (s ≡ Equal)
both_equal Less s h = cc
both_equal Equal s h = (refl, h)
both_equal Greater s h = cc

-- equal timestamps are the same
pub stamps_exact : (s t : Stamp) → stamp_cmp s t ≡ Equal → s ≡ t
stamps_exact s t h =
    let first = both_equal (nat_cmp s.millis t.millis) (ordering_then (nat_cmp s.counter t.counter) (slice_cmp nat_cmp s.node t.node)) h in
    let second = both_equal (nat_cmp s.counter t.counter) (slice_cmp nat_cmp s.node t.node) first.1 in
    λ i. record { millis = exact_unsigned s.millis t.millis first.0 i; counter = exact_unsigned s.counter t.counter second.0 i; node = exact_bytes s.node t.node second.1 i }

-- equal fields are the same
pub names_exact : (f g : FieldNames) → names_cmp f g ≡ Equal → f ≡ g
names_exact f g h =
    let first = both_equal (slice_cmp nat_cmp f.dataset g.dataset) (ordering_then (slice_cmp nat_cmp f.row g.row) (slice_cmp nat_cmp f.column g.column)) h in
    let second = both_equal (slice_cmp nat_cmp f.row g.row) (slice_cmp nat_cmp f.column g.column) first.1 in
    λ i. record { dataset = exact_bytes f.dataset g.dataset first.0 i; row = exact_bytes f.row g.row second.0 i; column = exact_bytes f.column g.column second.1 i }

-- the test for the same names is that of the order
pub names_alike : (f g : FieldNames) → is_eq (names_cmp f g) ≡ names_eq f g
names_alike f g =
    let d = is_eq-slice_cmp f.dataset g.dataset in
    let r = is_eq-slice_cmp f.row g.row in
    let c = is_eq-slice_cmp f.column g.column in
    let tail = tied_then (slice_cmp nat_cmp f.row g.row) (slice_cmp nat_cmp f.column g.column) in
    let whole = tied_then (slice_cmp nat_cmp f.dataset g.dataset) (ordering_then (slice_cmp nat_cmp f.row g.row) (slice_cmp nat_cmp f.column g.column)) in
    sym whole ∙ (λ i. d i && (sym tail ∙ (λ j. r j && c j)) i)

same_truth : (b c : Bool) → (b ≡ true → c ≡ true) → (c ≡ true → b ≡ true) → b ≡ c
same_truth true c f g = sym (f refl)
same_truth false true f g = g refl
same_truth false false f g = refl

itself : (a : ℕ) → is_eq (nat_cmp a a) ≡ true
itself a = ap is_eq (tied_itself nat_cmp_total a)

nat_alike : (a b : ℕ) → is_eq (nat_cmp a b) ≡ (a == b)
nat_alike a b =
    same_truth (is_eq (nat_cmp a b)) (a == b)
    (λ h. eq-eqb a b (exact_unsigned a b (equal _ h)))
    (λ h. let same = eqb-true a b h in ap (λ c. is_eq (nat_cmp a c)) (sym same) ∙ itself a)

-- the test for the same timestamp is that of the order
pub stamps_alike : (s t : Stamp) → ((s.millis == t.millis) && ((s.counter == t.counter) && bytes_eq s.node t.node)) ≡ is_eq (stamp_cmp s t)
stamps_alike s t =
    let millis = nat_alike s.millis t.millis in
    let counter = nat_alike s.counter t.counter in
    let node = is_eq-slice_cmp s.node t.node in
    let tail = tied_then (nat_cmp s.counter t.counter) (slice_cmp nat_cmp s.node t.node) in
    let whole = tied_then (nat_cmp s.millis t.millis) (ordering_then (nat_cmp s.counter t.counter) (slice_cmp nat_cmp s.node t.node)) in
    sym (sym whole ∙ (λ i. millis i && (sym tail ∙ (λ j. counter j && node j)) i))
