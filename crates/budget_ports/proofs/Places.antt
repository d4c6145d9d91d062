-- Texts and places in order.
use Rattle.std.proofs.Common.{◌≡◌, refl, ap₂, Ordering, Less, Equal, Greater}
use Rattle.std.specs.Ordering.{ordering_then}
use Rattle.std.specs.Cmp.{IsTotalOrder}
use Rattle.std.proofs.lemmas.Cmp.{on_total, then_total, nat_list_cmp_total}
use Rattle.std.specs.FinMap.{IsAntisymmetric, nat_cmp-IsAntisymmetric, slice_cmp-IsAntisymmetric}
use Rattle.budget_ports.specs.Contents.{Text, text_cmp, place_cmp}

pub text_total : IsTotalOrder text_cmp
text_total = nat_list_cmp_total

pub text_same : IsAntisymmetric text_cmp
text_same = slice_cmp-IsAntisymmetric nat_cmp-IsAntisymmetric

pub place_total : IsTotalOrder place_cmp
place_total = then_total (on_total (λ p. p.0) text_total) (on_total (λ p. p.1) text_total)

then_equal : (a b : Ordering) → ordering_then a b ≡ Equal → (a ≡ Equal) × (b ≡ Equal)
then_equal Less b h = absurd (cc)
then_equal Equal b h = (refl, h)
then_equal Greater b h = absurd (cc)

pub place_same : IsAntisymmetric place_cmp
place_same x y e = let p = then_equal _ _ e in ap₂ (λ (a b : Text). (a, b)) (text_same x.0 y.0 p.0) (text_same x.1 y.1 p.1)
