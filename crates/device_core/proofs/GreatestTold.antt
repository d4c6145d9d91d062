-- The greatest timestamp of messages is that of one of them.
use Rattle.std.proofs.Common.{◌≡◌, zero, suc, true, false, cond, List, [], ◌∷◌, map, refl, ap, ◌∙◌, arith, Ordering, Less, Equal, Greater}
use Rattle.std.specs.Ordering.{is_lt, is_gt, ordering_reverse}
use Rattle.std.specs.Cmp.{tied_itself, upto}
use Rattle.std.specs.List.{Contains, AllByRecursion}
use Rattle.hybrid_clock.specs.declared.stamp.Stamp.{Stamp}
use Rattle.hybrid_clock.specs.Order.{stamp_cmp}
use Rattle.field_merge.specs.declared.message.Message.{Message}
use Rattle.field_merge.proofs.Joining.{stamp_of}
use Rattle.field_merge.proofs.Members.{all_of, here, there}
use Rattle.field_merge.proofs.Orders.{stamps_total}
use Rattle.device_core.specs.Device.{later_of, greatest}
use Rattle.device_core.specs.Greatest.{GreatestIsTold}

less_first : (r : Ordering) → is_lt r ≡ true → is_gt r ≡ false
less_first Less h = refl
less_first Equal h = refl
less_first Greater h = absurd (cc)

turned : (r : Ordering) → is_gt (ordering_reverse r) ≡ is_lt r
turned Less = refl
turned Equal = refl
turned Greater = refl

not_before_both : (s t : Stamp) → (is_gt (stamp_cmp s (later_of s t)) ≡ false) × (is_gt (stamp_cmp t (later_of s t)) ≡ false)
not_before_both s t =
    elim (is_lt (stamp_cmp s t)) as (λ b. is_lt (stamp_cmp s t) ≡ b → (is_gt (stamp_cmp s (cond b t s)) ≡ false) × (is_gt (stamp_cmp t (cond b t s)) ≡ false)) [
      | true ↦ λ less. (less_first (stamp_cmp s t) less, ap is_gt (tied_itself stamps_total t))
      | false ↦ λ not. (ap is_gt (tied_itself stamps_total s), ap is_gt (stamps_total.antisymm t s) ∙ turned (stamp_cmp s t) ∙ not)
    ] refl

-- beside one timestamp: neither it nor that of a message is greater
none_greater : (s : Stamp) (ms : List Message) → (is_gt (stamp_cmp s (greatest s ms)) ≡ false) × AllByRecursion (λ m. is_gt (stamp_cmp m.stamp (greatest s ms)) ≡ false) ms
none_greater s [] = (ap is_gt (tied_itself stamps_total s), tt)
none_greater s (m ∷ ms) =
    let l = later_of s m.stamp in
    let both = not_before_both s m.stamp in
    let rest = none_greater l ms in
    (upto stamps_total s l (greatest l ms) both.0 rest.0, (upto stamps_total m.stamp l (greatest l ms) both.1 rest.0, rest.1))

one_more : (s t g : Stamp) (ss : List Stamp) → Contains (s ∷ ss) g → Contains (s ∷ t ∷ ss) g
one_more s t g ss (zero, within, is) = (zero, omega arith, is)
one_more s t g ss (suc k, within, is) = (suc (suc k), omega (arith, within), is)

-- it is this timestamp, or that of a message
of_either : (s : Stamp) (ms : List Message) → Contains (s ∷ map stamp_of ms) (greatest s ms)
of_either s [] = here s []
of_either s (m ∷ ms) =
    elim (is_lt (stamp_cmp s m.stamp)) as (λ b. Contains (cond b m.stamp s ∷ map stamp_of ms) (greatest (cond b m.stamp s) ms)
    → Contains (s ∷ m.stamp ∷ map stamp_of ms) (greatest (cond b m.stamp s) ms)) [
      | true ↦ there s (m.stamp ∷ map stamp_of ms) (greatest m.stamp ms)
      | false ↦ one_more s m.stamp (greatest s ms) (map stamp_of ms)
    ] (of_either (later_of s m.stamp) ms)

pub greatest_told : GreatestIsTold
greatest_told [] = refl
greatest_told (m ∷ ms) =
    let bounds = none_greater m.stamp ms in record {
      of_one = of_either m.stamp ms;
      greatest = all_of (λ n. is_gt (stamp_cmp n.stamp (greatest m.stamp ms)) ≡ false) (m ∷ ms) bounds;
    }
