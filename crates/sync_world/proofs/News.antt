-- The messages of a device that are later than the last one of before are those that it made.
use Rattle.std.proofs.Common.{◌≡◌, ℕ, zero, suc, ◌-◌, List, [], ◌∷◌, ◌++◌, Bool, true, false, cond, Option, Some, length, refl, ap, ap₂, ◌∙◌, subst, arith, Less}
use Rattle.std.specs.Prelude.{option_map, slice_get}
use Rattle.std.specs.Cmp.{tied_itself}
use Rattle.std.specs.Ordering.{is_gt, ordering_reverse}
use Rattle.std.specs.List.{Contains, AllByRecursion}
use Rattle.std.proofs.lemmas.List.Elements.{Contains-append_right}
use Rattle.hybrid_clock.specs.declared.stamp.Stamp.{Stamp}
use Rattle.hybrid_clock.specs.Stamp.{IsStamp, stamp_text, head_text}
use Rattle.hybrid_clock.specs.Order.{stamp_cmp}
use Rattle.hybrid_clock.specs.Laws.{StampsAreInOrder}
use Rattle.field_merge.specs.declared.message.Message.{Message}
use Rattle.field_merge.specs.Messages.{IsMessage, AreMessages}
use Rattle.field_merge.specs.Log.{IsRising, is_after, last_stamp, messages_after}
use Rattle.field_merge.proofs.Members.{all_of, all_from, all_keys, here, there}
use Rattle.field_merge.proofs.Ordered.{head, tail}
use Rattle.field_merge.proofs.Orders.{stamps_total}
use Rattle.field_merge.proofs.Joining.{stamp_of}
use Rattle.device_core.specs.Accepting.{AcceptedAreJoined}
use Rattle.device_core.specs.Several.{WritesAreJoined}
use Rattle.sync_world.specs.News.{LinesMakeNews}
use Rattle.sync_world.specs.World.{news}
use Rattle.sync_world.proofs.Grown.{changed_makes}
use Rattle.sync_world.specs.Members.{text_of, last_text}
use Rattle.sync_world.proofs.Numbered.{no_member}

after_all : (m : Message) → is_after [] m ≡ true
unfolding stamp_text head_text
after_all m = refl

pub after_nothing : (ms : List Message) → messages_after [] ms ≡ ms
after_nothing [] = refl
after_nothing (m ∷ ms) = ap₂ (λ (b : Bool) (ns : List Message). cond b (m ∷ ns) ns) (after_all m) (after_nothing ms)

-- those behind pass, and those in front don't
none_then_all : (t : List ℕ) (ms ns : List Message) → AllByRecursion (λ m. is_after t m ≡ false) ms → AllByRecursion (λ n. is_after t n ≡ true) ns → messages_after t (ms ++ ns) ≡ ns
none_then_all t [] [] h k = refl
none_then_all t [] (n ∷ ns) h k = ap₂ (λ (b : Bool) (l : List Message). cond b (n ∷ l) l) k.0 (none_then_all t [] ns tt k.1)
none_then_all t (m ∷ ms) ns h k = ap₂ (λ (b : Bool) (l : List Message). cond b (m ∷ l) l) h.0 (none_then_all t ms ns h.1 k)

last_on : (m n : Message) (ms : List Message) → last_stamp (m ∷ n ∷ ms) ≡ last_stamp (n ∷ ms)
last_on m n ms = let e : length (m ∷ n ∷ ms) - 1 ≡ suc (length (n ∷ ms) - 1) = omega arith in ap (λ i. option_map (λ (x : Message). x.stamp) (slice_get (m ∷ n ∷ ms) i)) e

-- the last of some messages, with what is known of the others
record HasLast (ms : List Message) : Type 0 where
  last : Message
  there_it_is : Contains ms last
  stamp : last_stamp ms ≡ Some last.stamp
  none_past : AllByRecursion (λ m. is_gt (stamp_cmp m.stamp last.stamp) ≡ false) ms

low : (m : Message) (ms : List Message) → IsRising (m ∷ ms) → (n : Message) → Contains ms n → stamp_cmp m.stamp n.stamp ≡ Less
low m ms up n c = all_of (λ (x : Message). stamp_cmp m.stamp x.stamp ≡ Less) ms (all_keys stamp_of (λ (t : Stamp). stamp_cmp m.stamp t ≡ Less) ms (head stamp_of stamp_cmp m ms up)) n c

has_last : (m : Message) (ms : List Message) → IsRising (m ∷ ms) → HasLast (m ∷ ms)
has_last m [] up = record { last = m; there_it_is = here m []; stamp = refl; none_past = (ap is_gt (tied_itself stamps_total m.stamp), tt) }
has_last m (n ∷ ms) up =
    let rest = has_last n ms (tail stamp_of stamp_cmp m (n ∷ ms) up) in record {
      last = rest.last;
      there_it_is = there m (n ∷ ms) rest.last rest.there_it_is;
      stamp = last_on m n ms ∙ rest.stamp;
      none_past = (ap is_gt (low m (n ∷ ms) up rest.last rest.there_it_is), rest.none_past);
    }

behind : (ms ns : List Message) → IsRising (ms ++ ns) → (m n : Message) → Contains ms m → Contains ns n → stamp_cmp m.stamp n.stamp ≡ Less
behind [] ns up m n c d = absurd (no_member m c)
behind (x ∷ ms) ns up m n (zero, within, is) d = subst (λ (y : Message). stamp_cmp y.stamp n.stamp ≡ Less) is (low x (ms ++ ns) up n (Contains-append_right ms ns n d))
behind (x ∷ ms) ns up m n (suc k, within, is) d = behind ms ns (tail stamp_of stamp_cmp x (ms ++ ns) up) m n (k, omega (arith, within), is) d

pub later_ones : StampsAreInOrder → (ms ns : List Message) → IsRising ms → IsRising (ms ++ ns) → AreMessages ms → AreMessages ns → messages_after (last_text ms) (ms ++ ns) ≡ ns
later_ones order [] ns rises up valid new = after_nothing ns
later_ones order (m ∷ ms) ns rises up valid new =
    let l = has_last m ms rises in
    let at : (x : Message) → Contains (m ∷ ms) x → IsStamp x.stamp = λ x c. (all_of IsMessage (m ∷ ms) valid x c).stamp in
    let t : IsStamp l.last.stamp = at l.last l.there_it_is in
    ap (λ (o : Option Stamp). messages_after (text_of o) (m ∷ ms ++ ns)) l.stamp
    ∙ none_then_all (stamp_text l.last.stamp) (m ∷ ms) ns
    (all_from (λ (x : Message). is_after (stamp_text l.last.stamp) x ≡ false) (m ∷ ms)
    (λ x c. ap is_gt (order x.stamp l.last.stamp (at x c) t) ∙ all_of (λ (y : Message). is_gt (stamp_cmp y.stamp l.last.stamp) ≡ false) (m ∷ ms) l.none_past x c))
    (all_from (λ (x : Message). is_after (stamp_text l.last.stamp) x ≡ true) ns
    (λ x c. ap is_gt (order x.stamp l.last.stamp (all_of IsMessage ns new x c).stamp t
    ∙ stamps_total.antisymm x.stamp l.last.stamp ∙ ap ordering_reverse (behind (m ∷ ms) ns up l.last x l.there_it_is c))))

back_valid : (ms ns : List Message) → AreMessages (ms ++ ns) → AreMessages ns
back_valid [] ns h = h
back_valid (m ∷ ms) ns h = back_valid ms ns h.1

pub make_news : AcceptedAreJoined → WritesAreJoined → StampsAreInOrder → LinesMakeNews
make_news accepted writes order s edit reading a ahead rises valid after_valid up h =
    let m = changed_makes writes accepted s edit reading a ahead h in record {
      later = ap (messages_after (last_text s.messages)) m.behind
          ∙ later_ones order s.messages (news s a) rises (subst IsRising m.behind up) valid (back_valid s.messages (news s a) (subst AreMessages m.behind after_valid));
      node = m.node;
    }
