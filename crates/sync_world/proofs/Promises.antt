-- What a right world keeps to.
use Rattle.std.proofs.Common.{◌≡◌, ◌≢◌, ℕ, List, [], ◌∷◌, ◌++◌, sym, ◌∙◌, subst}
use Rattle.std.proofs.lemmas.List.Elements.{Contains-append_right}
use Rattle.field_merge.specs.declared.message.Message.{Message}
use Rattle.field_merge.specs.Log.{IsRising, join}
use Rattle.field_merge.specs.Joining.{HasOneEach, HaveSame}
use Rattle.field_merge.specs.Laws.{JoinsInAnyOrder}
use Rattle.field_merge.proofs.Members.{here, all_of}
use Rattle.field_merge.proofs.Ordered.{in_order_nil, same}
use Rattle.field_merge.proofs.Orders.{stamps_total}
use Rattle.field_merge.proofs.Joining.{stamp_of, rising, found}
use Rattle.hybrid_clock.specs.Order.{stamp_cmp}
use Rattle.sync_world.specs.World.{WorldState, messages_of}
use Rattle.sync_world.specs.Right.{AreApart, IsRight}
use Rattle.sync_world.specs.Promises.{KeepsPromises}
use Rattle.sync_world.proofs.Apart.{one_each}

apart_at : (front between back : List Message) (m n : Message) → AreApart (front ++ m ∷ between ++ n ∷ back) → n.stamp ≢ m.stamp
apart_at [] between back m n h = all_of (λ (x : Message). x.stamp ≢ m.stamp) (between ++ n ∷ back) h.0 n (Contains-append_right between (n ∷ back) n (here n back))
apart_at (x ∷ front) between back m n h = apart_at front between back m n h.1

-- rising messages are what they join to
join_itself : (ms : List Message) → IsRising ms → join [] ms ≡ ms
join_itself ms up = same stamp_of stamp_cmp stamps_total (join [] ms) ms (rising [] ms (in_order_nil stamp_of stamp_cmp)) up (λ s. found [] ms s)

-- rising messages are one list where they are the same
pub same_rising : JoinsInAnyOrder → (ms ns : List Message) → HasOneEach ms → IsRising ms → IsRising ns → HaveSame ms ns → ms ≡ ns
same_rising order ms ns one up also have = sym (join_itself ms up) ∙ order [] ms ns (in_order_nil stamp_of stamp_cmp) one have ∙ join_itself ns also

pub keeps : JoinsInAnyOrder → (nodes : List (List ℕ)) (w : WorldState) → IsRight nodes w → KeepsPromises w
keeps order nodes w r = record {
  devices_made = r.sets;
  server_made = r.server;
  acknowledged = λ x c. r.made x (r.acknowledged x c);
  kept = r.kept;
  unique = λ front between back m n is. apart_at front between back m n (subst AreApart is r.apart);
  any_order = λ ms ns ps up made have. order ms ns ps up (λ m n c d. one_each (messages_of w.made) r.apart m n (made m c) (made n d)) have;
  equal = λ i j s t h k have.
      same_rising order s.messages t.messages (λ m n c d. one_each (messages_of w.made) r.apart m n (r.sets i s h m c) (r.sets i s h n d)) (r.rising i s h) (r.rising j t k) have;
}
