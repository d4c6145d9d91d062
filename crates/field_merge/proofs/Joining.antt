-- What a join keeps, what is found in it, and in which orders messages may be joined.
use Rattle.std.proofs.Common.{◌≡◌, ◌⊎◌, List, [], ◌∷◌, ◌++◌, true, false, cond, Option, None, Some, refl, sym, ap, ◌∙◌, subst, inl, inr}
use Rattle.std.specs.Ordering.{is_eq}
use Rattle.std.specs.Option.{is_some, option_or}
use Rattle.std.specs.Cmp.{tied_itself}
use Rattle.std.specs.List.{list_any, Contains, AllByRecursion}
use Rattle.hybrid_clock.specs.declared.stamp.Stamp.{Stamp}
use Rattle.hybrid_clock.specs.Order.{stamp_cmp}
use Rattle.field_merge.specs.declared.message.Message.{Message}
use Rattle.field_merge.specs.Log.{IsRising, at_stamp, by_stamp, has_stamp, join, join_one, placed}
use Rattle.field_merge.specs.Joining.{HasOneEach, HaveSame, IsJoin}
use Rattle.field_merge.proofs.Orders.{stamps_total, stamps_exact}
use Rattle.field_merge.proofs.Members.{all_of, all_from, found_in, is_some-find, new_or_there, none_from_any, or_assoc, or_none, some_passes, there_already}
use Rattle.field_merge.proofs.Ordered.{equal, same}
use Rattle.field_merge.proofs.Placing.{all_placed, find-placed, in_order}

abbrev pub stamp_of : Message → Stamp
stamp_of m = m.stamp

-- ---- one message
pub found_one : (ms : List Message) (n : Message) (s : Stamp) → at_stamp (join_one ms n) s ≡ option_or (at_stamp ms s) (cond (has_stamp s n) (Some n) None)
found_one ms n s =
    elim (list_any (has_stamp n.stamp) ms) as (λ b. list_any (has_stamp n.stamp) ms ≡ b → at_stamp (cond b ms (placed by_stamp ms n)) s ≡ option_or (at_stamp ms s) (cond (has_stamp s n) (Some n) None)) [
      | true ↦ λ p. there_already (has_stamp s n) (at_stamp ms s) n
          (λ t. subst (λ (z : Stamp). is_some (at_stamp ms z) ≡ true) (sym (stamps_exact s n.stamp (equal _ t))) (is_some-find (has_stamp n.stamp) ms ∙ p))
      | false ↦ λ p.
          let new : at_stamp ms n.stamp ≡ None = none_from_any (has_stamp n.stamp) ms p in
          find-placed stamp_of stamp_cmp stamps_total ms n new s
          ∙ new_or_there (has_stamp s n) n (at_stamp ms s) (λ t. subst (λ (z : Stamp). at_stamp ms z ≡ None) (sym (stamps_exact s n.stamp (equal _ t))) new)
    ] refl

rising_one : (ms : List Message) (n : Message) → IsRising ms → IsRising (join_one ms n)
rising_one ms n h =
    elim (list_any (has_stamp n.stamp) ms) as (λ b. list_any (has_stamp n.stamp) ms ≡ b → IsRising (cond b ms (placed by_stamp ms n))) [
      | true ↦ λ p. h
      | false ↦ λ p. in_order stamp_of stamp_cmp stamps_total ms n (none_from_any (has_stamp n.stamp) ms p) h
    ] refl

all_one : (P : Message → Type 0) (ms : List Message) (n : Message) → P n → AllByRecursion P ms → AllByRecursion P (join_one ms n)
all_one P ms n p h =
    elim (list_any (has_stamp n.stamp) ms) as (λ b. AllByRecursion P (cond b ms (placed by_stamp ms n))) [ true ↦ h | false ↦ all_placed by_stamp P ms n p h ]

-- ---- a list of messages
pub rising : (ms ns : List Message) → IsRising ms → IsRising (join ms ns)
rising ms [] h = h
rising ms (n ∷ ns) h = rising (join_one ms n) ns (rising_one ms n h)

pub found : (ms ns : List Message) (s : Stamp) → at_stamp (join ms ns) s ≡ option_or (at_stamp ms s) (at_stamp ns s)
found ms [] s = or_none (at_stamp ms s)
found ms (n ∷ ns) s =
    found (join_one ms n) ns s ∙ ap (λ o. option_or o (at_stamp ns s)) (found_one ms n s) ∙ or_assoc (at_stamp ms s) (has_stamp s n) n (at_stamp ns s)

all_joined : (P : Message → Type 0) (ms ns : List Message) → AllByRecursion P ms → AllByRecursion P ns → AllByRecursion P (join ms ns)
all_joined P ms [] h k = h
all_joined P ms (n ∷ ns) h k = all_joined P (join_one ms n) ns (all_one P ms n k.0 h) k.1

pub is_join : (ms ns : List Message) → IsJoin ms ns (join ms ns)
is_join ms ns =
    let P : Message → Type 0 = λ m. Contains ms m ⊎ Contains ns m in
    let whole : AllByRecursion P (join ms ns) = all_joined P ms ns (all_from P ms (λ m c. inl c)) (all_from P ns (λ m c. inr c)) in
    record {
      rising = rising ms ns;
      found = found ms ns;
      no_other = λ m c. all_of P (join ms ns) whole m c;
    }

-- ---- again, in turn, in any order
absorbs : (ms ns : List Message) → AllByRecursion (λ n. list_any (has_stamp n.stamp) ms ≡ true) ns → join ms ns ≡ ms
absorbs ms [] h = refl
absorbs ms (n ∷ ns) h = ap (λ b. join (cond b ms (placed by_stamp ms n)) ns) h.0 ∙ absorbs ms ns h.1

or_some : (o p : Option Message) → is_some p ≡ true → is_some (option_or o p) ≡ true
or_some None p h = h
or_some (Some m) p h = refl

has_member : (ns : List Message) (n : Message) → Contains ns n → is_some (at_stamp ns n.stamp) ≡ true
has_member ns n c =
    elim (at_stamp ns n.stamp) as (λ o. at_stamp ns n.stamp ≡ o → is_some o ≡ true) [
      | None ↦ λ e. absurd (some_passes (has_stamp n.stamp) ns n c (ap is_eq (tied_itself stamps_total n.stamp)) e)
      | Some m ↦ λ e. refl
    ] refl

pub again : (ms ns : List Message) → join (join ms ns) ns ≡ join ms ns
again ms ns =
    absorbs (join ms ns) ns (all_from (λ n. list_any (has_stamp n.stamp) (join ms ns) ≡ true) ns
    (λ n c. sym (is_some-find (has_stamp n.stamp) (join ms ns)) ∙ ap is_some (found ms ns n.stamp) ∙ or_some (at_stamp ms n.stamp) (at_stamp ns n.stamp) (has_member ns n c)))

pub in_turn : (ms ns ps : List Message) → join (join ms ns) ps ≡ join ms (ns ++ ps)
in_turn ms [] ps = refl
in_turn ms (n ∷ ns) ps = in_turn (join_one ms n) ns ps

pub same_found : (ns ps : List Message) → HasOneEach ns → HaveSame ns ps → (s : Stamp) → at_stamp ns s ≡ at_stamp ps s
same_found ns ps one have s =
    elim (at_stamp ns s) as (λ o. at_stamp ns s ≡ o → o ≡ at_stamp ps s) [
      | None ↦ λ e.
          elim (at_stamp ps s) as (λ o. at_stamp ps s ≡ o → None ≡ o) [
            | None ↦ λ f. refl
            | Some p ↦ λ f. let in_ps = found_in (has_stamp s) ps p f in absurd (some_passes (has_stamp s) ns p ((have p).1 in_ps.0) in_ps.1 e)
          ] refl
      | Some m ↦ λ e.
          let in_ns = found_in (has_stamp s) ns m e in
          elim (at_stamp ps s) as (λ o. at_stamp ps s ≡ o → Some m ≡ o) [
            | None ↦ λ f. absurd (some_passes (has_stamp s) ps m ((have m).0 in_ns.0) in_ns.1 f)
            | Some p ↦ λ f.
                let in_ps = found_in (has_stamp s) ps p f in
                let stamps : m.stamp ≡ p.stamp = sym (stamps_exact s m.stamp (equal _ in_ns.1)) ∙ stamps_exact s p.stamp (equal _ in_ps.1) in
                ap (λ x. Some x) (one m p in_ns.0 ((have p).1 in_ps.0) stamps)
          ] refl
    ] refl

pub in_any_order : (ms ns ps : List Message) → IsRising ms → HasOneEach ns → HaveSame ns ps → join ms ns ≡ join ms ps
in_any_order ms ns ps h one have =
    same stamp_of stamp_cmp stamps_total (join ms ns) (join ms ps) (rising ms ns h) (rising ms ps h)
    (λ s. found ms ns s ∙ ap (option_or (at_stamp ms s)) (same_found ns ps one have s) ∙ sym (found ms ps s))
