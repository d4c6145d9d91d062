-- With what a device begins, and the ids that it makes.
use Rattle.std.proofs.Common.{◌≡◌, ℕ, ◌+◌, ◌-◌, ◌<◌, ◌≤◌, Bool, true, false, cond, List, [], ◌∷◌, length, map, refl, sym, ap, ◌∙◌, arith}
use Rattle.std.specs.List.{AllByRecursion}
use Rattle.hybrid_clock.specs.declared.stamp.Stamp.{Stamp}
use Rattle.book_rows.specs.declared.write.Write.{Write}
use Rattle.device_core.specs.Device.{Accepted, first_in_row}
use Rattle.device_core.specs.Placing.{stamp_at, id_at, makes_row, ids_from}
use Rattle.device_core.proofs.Several.{is_drawn, is_written}
use Rattle.sync_laws.specs.Devices.{DevicesBeginAnew, Climb, IdsAreMadeInOrder}

pub begin_anew : DevicesBeginAnew
begin_anew node ms = record { no_undo = refl; no_redo = refl; undo = λ reading. refl; redo = λ reading. refl }

-- ---- the ids of rows, in order

-- places from one on, and their ids
record AreFrom (first : Stamp) (n : ℕ) (ws : List Write) : Type 0 where
  places : List ℕ
  later : AllByRecursion (λ m. n ≤ m) places
  within : AllByRecursion (λ m. m < n + length ws) places
  climb : Climb places
  made : ids_from first n ws ≡ map (id_at first) places

one_later : (n : ℕ) (places : List ℕ) → AllByRecursion (λ m. n + 1 ≤ m) places → AllByRecursion (λ m. n ≤ m) places
one_later n [] h = tt
one_later n (m ∷ places) h = ((let x = h.0 in omega arith), one_later n places h.1)

behind_it : (n : ℕ) (places : List ℕ) → AllByRecursion (λ m. n + 1 ≤ m) places → AllByRecursion (λ m. n < m) places
behind_it n [] h = tt
behind_it n (m ∷ places) h = ((let x = h.0 in omega arith), behind_it n places h.1)

moved : (n : ℕ) (w : Write) (ws : List Write) (places : List ℕ) → AllByRecursion (λ m. m < n + 1 + length ws) places → AllByRecursion (λ m. m < n + length (w ∷ ws)) places
moved n w ws [] h = tt
moved n w ws (m ∷ places) h = ((let x = h.0 in omega arith), moved n w ws places h.1)

from_start : (k : ℕ) (places : List ℕ) → AllByRecursion (λ m. m < 0 + k) places → AllByRecursion (λ m. m < k) places
from_start k [] h = tt
from_start k (m ∷ places) h = ((let x = h.0 in omega arith), from_start k places h.1)

are_from : (first : Stamp) (n : ℕ) (ws : List Write) → AreFrom first n ws
are_from first n [] = record { places = []; later = tt; within = tt; climb = tt; made = refl }
are_from first n (w ∷ ws) =
    let rest = are_from first (n + 1) ws in
    elim (makes_row n w.row) as (λ b. makes_row n w.row ≡ b → AreFrom first n (w ∷ ws)) [
      | true ↦ λ is. record {
        places = n ∷ rest.places;
        later = (omega arith, one_later n rest.places rest.later);
        within = (omega arith, moved n w ws rest.places rest.within);
        climb = (behind_it n rest.places rest.later, rest.climb);
        made = ap (λ (b : Bool). cond b (id_at first n ∷ ids_from first (n + 1) ws) (ids_from first (n + 1) ws)) is ∙ ap (λ (ids : List (List ℕ)). id_at first n ∷ ids) rest.made;
      }
      | false ↦ λ is. record {
        places = rest.places;
        later = one_later n rest.places rest.later;
        within = moved n w ws rest.places rest.within;
        climb = rest.climb;
        made = ap (λ (b : Bool). cond b (id_at first n ∷ ids_from first (n + 1) ws) (ids_from first (n + 1) ws)) is ∙ rest.made;
      }
    ] refl

-- the last of timestamps in a row is as far behind the first as they are many
in_row : (clock first : Stamp) (n : ℕ) → clock ≡ stamp_at first (n - 1) → clock ≡ stamp_at (first_in_row clock n) (n - 1)
in_row clock first n row =
    let same : (first.counter + (n - 1) - (n - 1)) + (n - 1) ≡ first.counter + (n - 1) = omega arith in
    row ∙ ap (λ (m : ℕ). record first { counter = m }) (sym same) ∙ ap (λ (c : Stamp). stamp_at (first_in_row c n) (n - 1)) (sym row)

pub made_in_order : IdsAreMadeInOrder
made_in_order s turn reading w ws accepted is =
    let written = is_written s turn reading w ws accepted is in
    let drawn = is_drawn s.clock written.clock reading (length (w ∷ ws)) written.drawn in
    let first : Stamp = first_in_row written.clock (length (w ∷ ws)) in
    let from = are_from first 0 (w ∷ ws) in record {
      first = first;
      places = from.places;
      at_clock = ap (λ (a : Accepted). a.state.clock) (sym written.is) ∙ in_row written.clock drawn.first (length (w ∷ ws)) drawn.row;
      climb = from.climb;
      within = from_start (length (w ∷ ws)) from.places from.within;
      made = ap (λ (a : Accepted). a.made) (sym written.is) ∙ from.made;
    }
