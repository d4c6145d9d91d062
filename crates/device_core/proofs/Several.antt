-- Several writes under timestamps in a row.
use Rattle.std.proofs.Common.{◌≡◌, ◌≢◌, inl, inr, ℕ, zero, suc, ◌+◌, ◌-◌, Bool, true, false, cond, List, [], ◌∷◌, ◌++◌, append_assoc, append-nil, None, Some, Result, Ok, Err, length, map, refl, sym, ap, ◌∙◌, subst, arith}
use Rattle.std.specs.Prelude.{max, nat_lt, ◌==◌, ◌/◌, option_map, slice_get}
use Rattle.std.specs.Option.{option_or}
use Rattle.std.specs.Ordering.{is_eq}
use Rattle.std.specs.Cmp.{tied_itself}
use Rattle.std.specs.List.{list_any, AllByRecursion}
use Rattle.std.proofs.lemmas.Bool.{cases_Bool}
use Rattle.std.proofs.lemmas.Bool.Decides.{nat_tests}
use Rattle.std.proofs.lemmas.List.{length-append}
use Rattle.field_values.specs.Names.{FieldNames, names_cmp}
use Rattle.hybrid_clock.specs.declared.stamp.Stamp.{Stamp}
use Rattle.hybrid_clock.specs.declared.clock.ClockFault.{ClockFault}
use Rattle.hybrid_clock.specs.Stamp.{window}
use Rattle.hybrid_clock.specs.Clock.{IsLater, draw, moved, first_counter, stands_at}
use Rattle.field_merge.specs.declared.message.Message.{Message}
use Rattle.field_merge.specs.Log.{has_stamp, has_field, by_stamp, placed, join_one, join, latest}
use Rattle.field_merge.proofs.Ordered.{equal}
use Rattle.field_merge.proofs.Orders.{names_total, names_exact}
use Rattle.field_merge.proofs.Latest.{latest-cons}
use Rattle.kept_messages.specs.Records.{record_of}
use Rattle.kept_messages.specs.News.{new_in}
use Rattle.kept_messages.proofs.Members.{all_join}
use Rattle.book_rows.specs.declared.fault.EditFault.{EditFault}
use Rattle.book_rows.specs.declared.fault.EditFault.TheVariants.{TooManyWrites}
use Rattle.book_rows.specs.declared.write.RowName.TheVariants.{Made}
use Rattle.book_rows.specs.declared.write.Write.{Write}
use Rattle.edit_history.specs.declared.history.Turn.{Turn}
use Rattle.edit_history.specs.declared.history.Turn.TheVariants.{New}
use Rattle.device_core.specs.declared.edit.LineRefusal.TheVariants.{Edit as OfEdit}
use Rattle.device_core.specs.Books.{rows_of}
use Rattle.device_core.specs.Edits.{writes_of}
use Rattle.device_core.specs.Placing.{stamp_at, id_at, message_at, messages_from, stamped}
use Rattle.device_core.specs.Device.{State, Accepted, IsUpTo, IsAhead, first_in_row, with_writes, written, writing}
use Rattle.device_core.specs.Several.{LeaveAlone, Makes, AreJoinedWrites, WritesAreJoined, IsMade, EditsAreMade}
use Rattle.device_core.proofs.Ids.{made_makes, makes_made, MakesFrom}
use Rattle.device_core.proofs.Greatest.{ahead_later}
use Rattle.device_core.proofs.ReadBack.{all_past, is_new, stands_last, moved_to}
use Rattle.device_core.proofs.Stamping.{stamped_up_to}
use Rattle.device_core.proofs.Writing.{writing_many, writing_some, first_is}

-- ---- a clock that draws timestamps in a row

-- the first of n timestamps in a row, of which `new` is the last
pub record IsDrawn (clock new : Stamp) (n : ℕ) : Type 0 where
  pub first : Stamp
  pub row : new ≡ stamp_at first (n - 1)
  pub later : IsLater clock first
  pub own : first.node ≡ clock.node

first_later : (clock : Stamp) (reading : ℕ) → IsLater clock (stands_at clock.node (max clock.millis reading) (first_counter clock (max clock.millis reading)))
first_later clock reading = go (clock.millis == max clock.millis reading) refl
  where
    go : (same : Bool) → (clock.millis == max clock.millis reading) ≡ same → IsLater clock (stands_at clock.node (max clock.millis reading) (cond same (clock.counter + 1) 0))
    go true is = inr ((grind (arith, nat_tests)), omega arith)
    go false is = inl (grind (arith, nat_tests))

pub is_drawn : (clock new : Stamp) (reading n : ℕ) → draw clock reading n ≡ Ok new → IsDrawn clock new n
unfolding draw
is_drawn clock new reading n h = go (nat_lt (reading / 60_000) window) h
  where
    go : (within : Bool) → cond within (moved clock reading (max clock.millis reading) (first_counter clock (max clock.millis reading) + (n - 1))) (Err (ClockFault.Beyond reading)) ≡ Ok new → IsDrawn clock new n
    go true k = record {
      first = stands_at clock.node (max clock.millis reading) (first_counter clock (max clock.millis reading));
      row = sym (moved_to clock new reading (max clock.millis reading) (first_counter clock (max clock.millis reading) + (n - 1)) k);
      later = first_later clock reading;
      own = refl;
    }
    go false k = absurd (cc)

pub later_on : (clock first new : Stamp) (n : ℕ) → new ≡ stamp_at first n → IsLater clock first → IsLater clock new
later_on clock first new n row (inl p) = subst (IsLater clock) (sym row) (inl p)
later_on clock first new n row (inr p) = subst (IsLater clock) (sym row) (inr (p.0, (let x = p.1 in omega arith)))

-- ---- timestamps in a row, all later than those of the messages

later_trans : (a b c : Stamp) → IsLater a b → IsLater b c → IsLater a c
later_trans a b c (inl p) (inl q) = inl (omega arith)
later_trans a b c (inl p) (inr q) = let e = q.0 in inl (omega arith)
later_trans a b c (inr p) (inl q) = let e = p.0 in inl (omega arith)
later_trans a b c (inr p) (inr q) = inr (p.0 ∙ q.0, (let x = p.1 in let y = q.1 in omega arith))

-- each message is before the timestamp
abbrev AreBefore : Stamp → List Message → Type 0
AreBefore s = AllByRecursion (λ m. IsLater m.stamp s)

before_next : (ms : List Message) (n : Message) (next : Stamp) → AreBefore n.stamp ms → IsLater n.stamp next → AreBefore next (ms ++ n ∷ [])
before_next [] n next low later = (later, tt)
before_next (m ∷ ms) n next low later = (later_trans m.stamp n.stamp next low.0 later, before_next ms n next low.1 later)

pub record AreBehind (ms ns : List Message) : Type 0 where
  pub joined : join ms ns ≡ ms ++ ns
  pub new : new_in ms ns ≡ ns

pub join_row : (ms : List Message) (first : Stamp) (n : ℕ) (ws : List Write) → AreBefore (stamp_at first n) ms → AreBehind ms (messages_from first n ws)
join_row ms first n [] low = record { joined = sym (append-nil ms); new = refl }
join_row ms first n (w ∷ ws) low =
    let m : Message = message_at first n w in
    let ns : List Message = messages_from first (n + 1) ws in
    let unknown : list_any (has_stamp m.stamp) ms ≡ false = is_new ms m low in
    let one : join_one ms m ≡ ms ++ m ∷ [] = ap (λ b. cond b ms (placed by_stamp ms m)) unknown ∙ stands_last ms m low in
    let rest = join_row (ms ++ m ∷ []) first (n + 1) ws (before_next ms m (stamp_at first (n + 1)) low (inr (refl, omega arith))) in record {
      joined = ap (λ l. join l ns) one ∙ rest.joined ∙ append_assoc ms (m ∷ []) ns;
      new = ap (λ b. cond b (new_in ms ns) (m ∷ new_in (join_one ms m) ns)) unknown ∙ ap (λ l. m ∷ new_in l ns) one ∙ ap (λ l. m ∷ l) rest.new;
    }

pub later_at : (clock first : Stamp) (n : ℕ) → IsLater clock first → IsLater clock (stamp_at first n)
later_at clock first n (inl p) = inl p
later_at clock first n (inr p) = inr (p.0, (let x = p.1 in omega arith))

pub row_length : (first : Stamp) (n : ℕ) (ws : List Write) → length (messages_from first n ws) ≡ length ws
row_length first n [] = refl
row_length first n (w ∷ ws) = ap suc (row_length first (n + 1) ws)

-- the message at each place
row_at : (first : Stamp) (n : ℕ) (ws : List Write) (i : ℕ) (w : Write) → slice_get ws i ≡ Some w → slice_get (messages_from first n ws) i ≡ Some (message_at first (n + i) w)
row_at first n [] i w is = absurd (cc)
row_at first n (v ∷ ws) zero w is =
    let same : v ≡ w = cc in
    let place : n ≡ n + 0 = omega arith in
    ap (λ (u : Write). Some (message_at first n u)) same ∙ ap (λ (k : ℕ). Some (message_at first k w)) place
row_at first n (v ∷ ws) (suc i) w is =
    let place : (n + 1) + i ≡ n + suc i = omega arith in
    row_at first (n + 1) ws i w is ∙ ap (λ (k : ℕ). Some (message_at first k w)) place

-- ---- the latest message of a field among messages that others follow

-- none of the messages is one of the field
abbrev AreOther : FieldNames → List Message → Type 0
AreOther f = AllByRecursion (λ m. has_field f m ≡ false)

none_latest : (f : FieldNames) (ns : List Message) → AreOther f ns → latest ns f ≡ None
none_latest f [] other = refl
none_latest f (n ∷ ns) other =
    latest-cons n ns f ∙ ap (λ o. option_or o (cond (has_field f n) (Some n) None)) (none_latest f ns other.1) ∙ ap (λ b. cond b (Some n) None) other.0

latest_stays : (f : FieldNames) (ms ns : List Message) → AreOther f ns → latest (ms ++ ns) f ≡ latest ms f
latest_stays f [] ns other = none_latest f ns other
latest_stays f (m ∷ ms) ns other =
    latest-cons m (ms ++ ns) f ∙ ap (λ o. option_or o (cond (has_field f m) (Some m) None)) (latest_stays f ms ns other) ∙ sym (latest-cons m ms f)

latest_is : (ms : List Message) (n : Message) (ns : List Message) → AreOther n.field ns → latest (ms ++ n ∷ ns) n.field ≡ Some n
latest_is [] n ns other =
    latest-cons n ns n.field ∙ ap (λ o. option_or o (cond (has_field n.field n) (Some n) None)) (none_latest n.field ns other)
    ∙ ap (λ r. cond (is_eq r) (Some n) None) (tied_itself names_total n.field)
latest_is (m ∷ ms) n ns other =
    latest-cons m (ms ++ n ∷ ns) n.field ∙ ap (λ o. option_or o (cond (has_field n.field m) (Some m) None)) (latest_is ms n ns other)

not_of : (f g : FieldNames) → g ≢ f → is_eq (names_cmp f g) ≡ false
not_of f g other = elim (cases_Bool (is_eq (names_cmp f g))) [
  | inl same ↦ absurd (other (sym (names_exact f g (equal _ same))))
  | inr apart ↦ apart
]

are_other : (f : FieldNames) (ms : List Message) → LeaveAlone f ms → AreOther f ms
are_other f [] alone = tt
are_other f (m ∷ ms) alone = (not_of f m.field alone.0, are_other f ms alone.1)

-- ---- what was written

-- the clock drew this for the writes
pub record IsWritten (s : State) (turn : Turn) (reading : ℕ) (ws : List Write) (accepted : Accepted) : Type 0 where
  pub clock : Stamp
  pub drawn : draw s.clock reading (length ws) ≡ Ok clock
  pub is : with_writes s turn (first_in_row clock (length ws)) ws clock ≡ accepted

pub is_written : (s : State) (turn : Turn) (reading : ℕ) (w : Write) (ws : List Write) (a : Accepted) → writing s turn reading (Ok (w ∷ ws)) ≡ Ok a → IsWritten s turn reading (w ∷ ws) a
is_written s turn reading w ws a h = by (nat_lt 65_536 (length (w ∷ ws))) h
  where
    go : (d : Result Stamp ClockFault) → draw s.clock reading (length (w ∷ ws)) ≡ d → written s turn (w ∷ ws) d ≡ Ok a → IsWritten s turn reading (w ∷ ws) a
    go (Ok clock) is k = record { clock = clock; drawn = is; is = cc }
    go (Err fault) is k = absurd (cc)

    by : (many : Bool) → cond many (Err (OfEdit (TooManyWrites (length (w ∷ ws))))) (written s turn (w ∷ ws) (draw s.clock reading (length (w ∷ ws)))) ≡ Ok a → IsWritten s turn reading (w ∷ ws) a
    by true k = absurd (cc)
    by false k = go (draw s.clock reading (length (w ∷ ws))) refl k

-- the clock is not behind a message
pub written_ahead : (s : State) (clock : Stamp) (w : Write) (ws : List Write) → IsDrawn s.clock clock (length (w ∷ ws)) → IsAhead s.clock s.messages
    → IsAhead clock (join s.messages (stamped (first_in_row clock (length (w ∷ ws))) (w ∷ ws)))
written_ahead s clock w ws d ahead =
    let first : first_in_row clock (length (w ∷ ws)) ≡ d.first = first_is clock d.first (length (w ∷ ws)) d.row in
    let time : d.first.millis ≡ clock.millis = ap (λ (t : Stamp). t.millis) (sym d.row) in
    let counter : clock.counter ≡ d.first.counter + (length (w ∷ ws) - 1) = ap (λ (t : Stamp). t.counter) d.row in
    let old : IsAhead clock s.messages = ahead_later s.clock clock s.messages (later_on s.clock d.first clock (length (w ∷ ws) - 1) d.row d.later) ahead in
    let new : IsAhead clock (stamped d.first (w ∷ ws)) = stamped_up_to clock d.first 0 (w ∷ ws) time (omega (arith, counter)) in
    subst (λ (t : Stamp). IsAhead clock (join s.messages (stamped t (w ∷ ws)))) (sym first) (all_join (λ (m : Message). IsUpTo clock m.stamp) s.messages (stamped d.first (w ∷ ws)) old new)

not_both : (clock s : Stamp) → IsLater clock s → IsUpTo clock s → ⊥
not_both clock s (inl p) (inl q) = omega arith
not_both clock s (inl p) (inr q) = let e = q.0 in omega arith
not_both clock s (inr p) (inl q) = let e = p.0 in omega arith
not_both clock s (inr p) (inr q) = let x = p.1 in let y = q.1 in omega arith

from_start : (first : Stamp) (ws : List Write) (id : List ℕ) → MakesFrom first 0 ws id → Makes first ws id
from_start first ws id m =
    let place : 0 + m.place ≡ m.place = omega arith in record {
      place = m.place;
      write = m.write;
      there = m.there;
      own = m.own ∙ ap (λ (k : ℕ). Made k) place;
      text = ap (id_at first) (sym place) ∙ m.text;
    }

to_start : (first : Stamp) (ws : List Write) (id : List ℕ) → Makes first ws id → MakesFrom first 0 ws id
to_start first ws id m =
    let place : m.place ≡ 0 + m.place = omega arith in record {
      place = m.place;
      write = m.write;
      there = m.there;
      own = m.own ∙ ap (λ (k : ℕ). Made k) place;
      text = ap (id_at first) (sym place) ∙ m.text;
    }

joined_writes : (s : State) (turn : Turn) (clock first : Stamp) (ws : List Write) → clock ≡ stamp_at first (length ws - 1) → IsLater s.clock first → first.node ≡ s.clock.node → IsAhead s.clock s.messages
    → AreJoinedWrites s turn ws (with_writes s turn first ws clock)
joined_writes s turn clock first ws row later own ahead =
    let b = join_row s.messages first 0 ws (all_past s.clock (stamp_at first 0) s.messages ahead (later_at s.clock first 0 later)) in record {
      messages = stamped first ws;
      first = first;
      number = row_length first 0 ws;
      each = λ i w is. let place : 0 + i ≡ i = omega arith in row_at first 0 ws i w is ∙ ap (λ (k : ℕ). Some (message_at first k w)) place;
      own = own;
      later = later;
      at_clock = row;
      joined = refl;
      behind = b.joined;
      grown = ap length b.joined ∙ length-append s.messages (stamped first ws) ∙ ap (λ (k : ℕ). length s.messages + k) (row_length first 0 ws);
      written = λ front back m is alone.
          ap (option_map (λ (m : Message). m.value))
          (ap (λ (l : List Message). latest l m.field) (b.joined ∙ ap (λ (l : List Message). s.messages ++ l) is ∙ sym (append_assoc s.messages front (m ∷ back)))
          ∙ latest_is (s.messages ++ front) m back (are_other m.field back alone));
      not_written = λ f alone. ap (λ (l : List Message). latest l f) b.joined ∙ latest_stays f s.messages (stamped first ws) (are_other f (stamped first ws) alone);
      made = λ id. (λ c. from_start first ws id (made_makes first 0 ws id c), λ m. makes_made first 0 ws id (to_start first ws id m));
      made_new = λ id m none c there is.
          let x = made_makes first 0 ws id c in
          not_both s.clock (stamp_at first (0 + x.place)) (later_at s.clock first (0 + x.place) later) (none m (stamp_at first (0 + x.place)) there (is ∙ sym x.text));
      entry = refl;
      pending = ap (map record_of) b.new;
      counted = refl;
    }

pub some_joined : (s : State) (turn : Turn) (reading : ℕ) (w : Write) (ws : List Write) (a : Accepted) → IsAhead s.clock s.messages → writing s turn reading (Ok (w ∷ ws)) ≡ Ok a → AreJoinedWrites s turn (w ∷ ws) a
some_joined s turn reading w ws a ahead h =
    let x = is_written s turn reading w ws a h in
    let d = is_drawn s.clock x.clock reading (length (w ∷ ws)) x.drawn in
    let first : d.first ≡ first_in_row x.clock (length (w ∷ ws)) = sym (first_is x.clock d.first (length (w ∷ ws)) d.row) in
    subst (AreJoinedWrites s turn (w ∷ ws)) x.is
    (subst (λ (t : Stamp). AreJoinedWrites s turn (w ∷ ws) (with_writes s turn t (w ∷ ws) x.clock)) first
    (joined_writes s turn x.clock d.first (w ∷ ws) d.row d.later d.own ahead))

pub writes_joined : WritesAreJoined
writes_joined = record {
  joined = some_joined;
  accepted = λ s turn reading w ws clock few drawn. (_, (writing_some s turn reading (w ∷ ws) (omega arith) few ∙ ap (written s turn (w ∷ ws)) drawn, refl));
  no_stamp = λ s turn reading w ws fault few drawn. writing_some s turn reading (w ∷ ws) (omega arith) few ∙ ap (written s turn (w ∷ ws)) drawn;
  too_many = writing_many;
  none = λ s turn reading. refl;
}

-- ---- an edit

pub edits_made : EditsAreMade
edits_made s edit reading a ahead h = by (writes_of (rows_of s.messages) edit) refl h
  where
    by : (o : Result (List Write) EditFault) → writes_of (rows_of s.messages) edit ≡ o → writing s New reading o ≡ Ok a → IsMade s edit a
    by (Err fault) e k = absurd (cc)
    by (Ok []) e k = record { writes = []; meant = e; some = λ w ws is. absurd (cc); none = λ is. cc }
    by (Ok (w ∷ ws)) e k = record { writes = w ∷ ws; meant = e; some = λ v vs is. some_joined s New reading w ws a ahead k; none = λ is. absurd (cc) }
