-- The new ones of messages join as all of them do.
use Rattle.std.proofs.Common.{◌≡◌, inl, inr, suc, ◌+◌, true, false, cond, List, [], ◌∷◌, Option, None, Some, length, refl, sym, ap, ◌∙◌, arith}
use Rattle.std.specs.Option.{option_or}
use Rattle.std.specs.Ordering.{is_lt}
use Rattle.std.specs.List.{list_any, AllByRecursion}
use Rattle.hybrid_clock.specs.declared.stamp.Stamp.{Stamp}
use Rattle.field_merge.specs.declared.message.Message.{Message}
use Rattle.field_merge.specs.Log.{at_stamp, by_stamp, has_stamp, placed, join}
use Rattle.field_merge.proofs.Joining.{found_one}
use Rattle.field_merge.proofs.Members.{all_of, all_weaker, none_from_any}
use Rattle.kept_messages.specs.News.{new_in, IsPartOf, NewOnesAreAdded}

one_longer : (ms : List Message) (n : Message) → length (placed by_stamp ms n) ≡ suc (length ms)
one_longer [] n = refl
one_longer (m ∷ ms) n =
    elim (is_lt (by_stamp n m)) as (λ b. length (cond b (n ∷ m ∷ ms) (m ∷ placed by_stamp ms n)) ≡ suc (suc (length ms))) [
      | true ↦ refl
      | false ↦ ap suc (one_longer ms n)
    ]

join_all : (ms ns : List Message) → join ms (new_in ms ns) ≡ join ms ns
join_all ms [] = refl
join_all ms (n ∷ ns) =
    elim (list_any (has_stamp n.stamp) ms) as (λ b. list_any (has_stamp n.stamp) ms ≡ b
    → join ms (cond b (new_in ms ns) (n ∷ new_in (cond b ms (placed by_stamp ms n)) ns)) ≡ join (cond b ms (placed by_stamp ms n)) ns) [
      | true ↦ λ known. join_all ms ns
      | false ↦ λ new. ap (λ b. join (cond b ms (placed by_stamp ms n)) (new_in (placed by_stamp ms n) ns)) new ∙ join_all (placed by_stamp ms n) ns
    ] refl

pub one_each : (ms ns : List Message) → length (join ms ns) ≡ length ms + length (new_in ms ns)
one_each ms [] = omega arith
one_each ms (n ∷ ns) =
    elim (list_any (has_stamp n.stamp) ms) as (λ b.
    length (join (cond b ms (placed by_stamp ms n)) ns) ≡ length ms + length (cond b (new_in ms ns) (n ∷ new_in (cond b ms (placed by_stamp ms n)) ns))) [
      | true ↦ one_each ms ns
      | false ↦ let longer = one_longer ms n in let rest = one_each (placed by_stamp ms n) ns in omega arith
    ]

-- one more may be left out at the front
part_behind : (ms ns : List Message) (n : Message) → IsPartOf ms ns → IsPartOf ms (n ∷ ns)
part_behind [] ns n h = tt
part_behind (m ∷ ms) ns n h = inr h

part_of : (ms ns : List Message) → IsPartOf (new_in ms ns) ns
part_of ms [] = tt
part_of ms (n ∷ ns) =
    elim (list_any (has_stamp n.stamp) ms) as (λ b. IsPartOf (cond b (new_in ms ns) (n ∷ new_in (cond b ms (placed by_stamp ms n)) ns)) (n ∷ ns)) [
      | true ↦ part_behind (new_in ms ns) ns n (part_of ms ns)
      | false ↦ inl (refl, part_of (placed by_stamp ms n) ns)
    ]

-- no message of ms has its timestamp
abbrev IsUnknown : List Message → Message → Type 0
IsUnknown ms m = at_stamp ms m.stamp ≡ None

first_none : (o p : Option Message) → option_or o p ≡ None → o ≡ None
first_none None p h = refl
first_none (Some m) p h = absurd (cc)

unknown_before : (ms : List Message) (n : Message) (s : Stamp) → list_any (has_stamp n.stamp) ms ≡ false → at_stamp (placed by_stamp ms n) s ≡ None → at_stamp ms s ≡ None
unknown_before ms n s new h =
    first_none (at_stamp ms s) (cond (has_stamp s n) (Some n) None)
    (sym (found_one ms n s) ∙ ap (λ b. at_stamp (cond b ms (placed by_stamp ms n)) s) new ∙ h)

are_unknown : (ms ns : List Message) → AllByRecursion (IsUnknown ms) (new_in ms ns)
are_unknown ms [] = tt
are_unknown ms (n ∷ ns) =
    elim (list_any (has_stamp n.stamp) ms) as (λ b. list_any (has_stamp n.stamp) ms ≡ b
    → AllByRecursion (IsUnknown ms) (cond b (new_in ms ns) (n ∷ new_in (cond b ms (placed by_stamp ms n)) ns))) [
      | true ↦ λ known. are_unknown ms ns
      | false ↦ λ new. (
        none_from_any (has_stamp n.stamp) ms new,
        all_weaker (IsUnknown (placed by_stamp ms n)) (IsUnknown ms) (λ m h. unknown_before ms n m.stamp new h)
            (new_in (placed by_stamp ms n) ns) (are_unknown (placed by_stamp ms n) ns),
      )
    ] refl

pub new_ones : NewOnesAreAdded
new_ones ms ns = record {
  joined = join_all ms ns;
  number = one_each ms ns;
  in_order = part_of ms ns;
  unknown = all_of (IsUnknown ms) (new_in ms ns) (are_unknown ms ns);
}
