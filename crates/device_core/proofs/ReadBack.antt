-- A write that is accepted is read back.
use Rattle.std.proofs.Common.{◌≡◌, inl, inr, ℕ, ◌+◌, ◌-◌, ◌<◌, Bool, true, false, ◌||◌, cond, List, [], ◌∷◌, ◌++◌, Option, None, Some, Result, Ok, Err, refl, sym, ap, ◌∙◌, subst, arith, Ordering, Less, Equal, Greater}
use Rattle.std.specs.Prelude.{max, nat_lt, ◌==◌, map, ◌/◌}
use Rattle.std.specs.Option.{option_or}
use Rattle.std.specs.Ordering.{is_eq, is_lt, nat_cmp, ordering_then}
use Rattle.std.specs.Cmp.{ranked, tied_itself}
use Rattle.std.specs.Cmp.Lexicographic.{slice_cmp}
use Rattle.std.specs.List.{list_any, AllByRecursion}
use Rattle.std.proofs.lemmas.Bool.Decides.{nat_tests}
use Rattle.field_values.specs.declared.value.Value.{Value}
use Rattle.field_values.specs.declared.name.NameFault.{NameFault}
use Rattle.field_values.specs.Names.{field_of, names_fault}
use Rattle.hybrid_clock.specs.declared.stamp.Stamp.{Stamp}
use Rattle.hybrid_clock.specs.declared.clock.ClockFault.{ClockFault}
use Rattle.hybrid_clock.specs.Stamp.{window}
use Rattle.hybrid_clock.specs.Order.{stamp_cmp}
use Rattle.hybrid_clock.specs.Clock.{IsLater, draw, moved, first_counter, stands_at}
use Rattle.field_merge.specs.declared.message.Message.{Message}
use Rattle.field_merge.specs.Log.{has_stamp, has_field, by_stamp, placed, join_one, join, latest}
use Rattle.field_merge.proofs.Members.{none_from_any}
use Rattle.field_merge.proofs.Orders.{names_total}
use Rattle.field_merge.proofs.Latest.{latest-cons}
use Rattle.book_rows.specs.declared.write.RowName.TheVariants.{Given}
use Rattle.book_rows.specs.declared.write.Write.{Write}
use Rattle.book_edits.specs.Writing.{write}
use Rattle.book_edits.specs.Edits.{write_unless}
use Rattle.kept_messages.specs.Records.{record_of}
use Rattle.kept_messages.specs.News.{new_in}
use Rattle.edit_history.specs.declared.history.Turn.TheVariants.{New}
use Rattle.device_core.specs.Device.{State, Accepted, IsUpTo, IsAhead, first_in_row, with_writes, written, writing}
use Rattle.device_core.specs.Placing.{message_at}
use Rattle.device_core.specs.ReadBack.{IsReadBack, EditsReadBack}

-- ---- a timestamp past a clock is past all that the clock is not behind

past : (s old new : Stamp) → IsUpTo old s → IsLater old new → IsLater s new
past s old new (inl p) (inl q) = inl (omega arith)
past s old new (inl p) (inr q) = let e = q.0 in inl (omega arith)
past s old new (inr p) (inl q) = let e = p.0 in inl (omega arith)
past s old new (inr p) (inr q) = inr (p.0 ∙ q.0, (let x = p.1 in let y = q.1 in omega arith))

pub all_past : (old new : Stamp) (ms : List Message) → IsAhead old ms → IsLater old new → AllByRecursion (λ m. IsLater m.stamp new) ms
all_past old new [] ahead later = tt
all_past old new (m ∷ ms) ahead later = (past m.stamp old new ahead.0 later, all_past old new ms ahead.1 later)

greater : (x y : ℕ) → y < x → nat_cmp x y ≡ Greater
greater x y low = go (nat_cmp x y) refl
  where
    go : (r : Ordering) → r ≡ nat_cmp x y → r ≡ Greater
    go Less is = absurd (let l = ranked x y Less is in omega arith)
    go Equal is = absurd (let l = ranked x y Equal is in omega arith)
    go Greater is = refl

level : (x y : ℕ) → x ≡ y → nat_cmp x y ≡ Equal
level x y same = go (nat_cmp x y) refl
  where
    go : (r : Ordering) → r ≡ nat_cmp x y → r ≡ Equal
    go Less is = absurd (let l = ranked x y Less is in omega arith)
    go Equal is = refl
    go Greater is = absurd (let l = ranked x y Greater is in omega arith)

past_cmp : (s new : Stamp) → IsLater s new → stamp_cmp new s ≡ Greater
past_cmp s new (inl p) = ap (λ r. ordering_then r (ordering_then (nat_cmp new.counter s.counter) (slice_cmp nat_cmp new.node s.node))) (greater new.millis s.millis p)
past_cmp s new (inr p) =
    ap (λ r. ordering_then r (ordering_then (nat_cmp new.counter s.counter) (slice_cmp nat_cmp new.node s.node))) (level new.millis s.millis (sym p.0))
    ∙ ap (λ r. ordering_then r (slice_cmp nat_cmp new.node s.node)) (greater new.counter s.counter p.1)

-- ---- a message past all others is new, stands last, and is the latest of its field

pub is_new : (ms : List Message) (n : Message) → AllByRecursion (λ m. IsLater m.stamp n.stamp) ms → list_any (has_stamp n.stamp) ms ≡ false
is_new [] n low = refl
is_new (m ∷ ms) n low = ap (λ r. is_eq r || list_any (has_stamp n.stamp) ms) (past_cmp m.stamp n.stamp low.0) ∙ is_new ms n low.1

pub stands_last : (ms : List Message) (n : Message) → AllByRecursion (λ m. IsLater m.stamp n.stamp) ms → placed by_stamp ms n ≡ ms ++ n ∷ []
stands_last [] n low = refl
stands_last (m ∷ ms) n low =
    ap (λ r. cond (is_lt r) (n ∷ m ∷ ms) (m ∷ placed by_stamp ms n)) (past_cmp m.stamp n.stamp low.0) ∙ ap (λ l. m ∷ l) (stands_last ms n low.1)

latest_last : (ms : List Message) (n : Message) → latest (ms ++ n ∷ []) n.field ≡ Some n
latest_last [] n = latest-cons n [] n.field ∙ ap (λ r. cond (is_eq r) (Some n) None) (tied_itself names_total n.field)
latest_last (m ∷ ms) n = latest-cons m (ms ++ n ∷ []) n.field ∙ ap (λ o. option_or o (cond (has_field n.field m) (Some m) None)) (latest_last ms n)

-- ---- a clock that draws moves on

pub moved_to : (clock new : Stamp) (reading time counter : ℕ) → moved clock reading time counter ≡ Ok new → stands_at clock.node time counter ≡ new
moved_to clock new reading time counter h = go (nat_lt 300_000 (time - reading)) (nat_lt 65_535 counter) h
  where
    go : (far full : Bool) → cond far (Err (ClockFault.Drift time reading)) (cond full (Err (ClockFault.Overflow counter)) (Ok (stands_at clock.node time counter))) ≡ Ok new → stands_at clock.node time counter ≡ new
    go true full h = absurd (cc)
    go false true h = absurd (cc)
    go false false h = cc

on_at : (clock : Stamp) (reading : ℕ) → IsLater clock (stands_at clock.node (max clock.millis reading) (first_counter clock (max clock.millis reading) + (1 - 1)))
on_at clock reading = go (clock.millis == max clock.millis reading) refl
  where
    go : (same : Bool) → (clock.millis == max clock.millis reading) ≡ same
        → IsLater clock (stands_at clock.node (max clock.millis reading) (cond same (clock.counter + 1) 0 + (1 - 1)))
    go true is = inr ((grind (arith, nat_tests)), omega arith)
    go false is = inl (grind (arith, nat_tests))

draw_later : (clock new : Stamp) (reading : ℕ) → draw clock reading 1 ≡ Ok new → IsLater clock new
unfolding draw
draw_later clock new reading h = go (nat_lt (reading / 60_000) window) h
  where
    time : ℕ
    time = max clock.millis reading

    go : (within : Bool) → cond within (moved clock reading (max clock.millis reading) (first_counter clock (max clock.millis reading) + (1 - 1))) (Err (ClockFault.Beyond reading)) ≡ Ok new → IsLater clock new
    go true h = subst (IsLater clock) (moved_to clock new reading (max clock.millis reading) (first_counter clock (max clock.millis reading) + (1 - 1)) h) (on_at clock reading)
    go false h = absurd (cc)

-- and keeps its node
draw_node : (clock new : Stamp) (reading : ℕ) → draw clock reading 1 ≡ Ok new → new.node ≡ clock.node
unfolding draw
draw_node clock new reading h = go (nat_lt (reading / 60_000) window) h
  where
    go : (within : Bool) → cond within (moved clock reading (max clock.millis reading) (first_counter clock (max clock.millis reading) + (1 - 1))) (Err (ClockFault.Beyond reading)) ≡ Ok new → new.node ≡ clock.node
    go true h = sym (ap (λ (s : Stamp). s.node) (moved_to clock new reading (max clock.millis reading) (first_counter clock (max clock.millis reading) + (1 - 1)) h))
    go false h = absurd (cc)

-- ---- one write

write_is : (s : State) (reading : ℕ) (w : Write) (a : Accepted) → writing s New reading (Ok (w ∷ [])) ≡ Ok a
    → (clock : Stamp) × ((draw s.clock reading 1 ≡ Ok clock) × (with_writes s New (first_in_row clock 1) (w ∷ []) clock ≡ a))
write_is s reading w a h = go (draw s.clock reading 1) refl h
  where
    go : (d : Result Stamp ClockFault) → draw s.clock reading 1 ≡ d → written s New (w ∷ []) d ≡ Ok a
        → (clock : Stamp) × ((draw s.clock reading 1 ≡ Ok clock) × (with_writes s New (first_in_row clock 1) (w ∷ []) clock ≡ a))
    go (Ok clock) is k = (clock, (is, cc))
    go (Err fault) is k = absurd (cc)

read_write : (s : State) (dataset row column : List ℕ) (value : Value) (clock : Stamp) → IsAhead s.clock s.messages → IsLater s.clock clock → clock.node ≡ s.clock.node
    → IsReadBack s dataset row column value (with_writes s New (first_in_row clock 1) (write dataset (Given row) column value ∷ []) clock)
read_write s dataset row column value clock ahead later own =
    let ms = s.messages in
    let n : Message = message_at (first_in_row clock 1) 0 (write dataset (Given row) column value) in
    let counter : clock.counter ≡ (clock.counter - (1 - 1)) + 0 = omega arith in
    let first : clock ≡ n.stamp = ap (λ (k : ℕ). record clock { counter = k }) counter in
    let low : AllByRecursion (λ m. IsLater m.stamp n.stamp) ms = subst (λ (t : Stamp). AllByRecursion (λ m. IsLater m.stamp t) ms) first (all_past s.clock clock ms ahead later) in
    let unknown : list_any (has_stamp n.stamp) ms ≡ false = is_new ms n low in
    let last : join ms (n ∷ []) ≡ ms ++ n ∷ [] = ap (λ b. cond b ms (placed by_stamp ms n)) unknown ∙ stands_last ms n low in
    let added : new_in ms (n ∷ []) ≡ n ∷ [] = ap (λ b. cond b (new_in ms []) (n ∷ new_in (join_one ms n) [])) unknown in record {
      message = n;
      new = none_from_any (has_stamp n.stamp) ms unknown;
      own = own;
      at_clock = first;
      joined = refl;
      is_latest = ap (λ all. latest all (field_of dataset row column)) last ∙ latest_last ms n;
      has_value = refl;
      pending = ap (map record_of) added;
      none_made = refl;
      entry = refl;
      one = refl;
    }

pub read_back : EditsReadBack
read_back s dataset row column value reading a ahead h = by (names_fault (field_of dataset row column)) h
  where
    by : (o : Option NameFault) → writing s New reading (write_unless o (field_of dataset row column) value) ≡ Ok a → IsReadBack s dataset row column value a
    by (Some fault) k = absurd (cc)
    by None k =
        let w = write_is s reading (write dataset (Given row) column value) a k in
        subst (IsReadBack s dataset row column value) w.1.1 (read_write s dataset row column value w.0 ahead (draw_later s.clock w.0 reading w.1.0) (draw_node s.clock w.0 reading w.1.0))
