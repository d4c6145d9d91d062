-- What the index has once a message is noted in it.
use Rattle.std.proofs.Common.{◌≡◌, List, Bool, true, false, ◌&&◌, cond, Option, None, Some, sym, ap, ◌∙◌, subst}
use Rattle.std.specs.Ordering.{is_lt}
use Rattle.std.specs.Map.{lookup}
use Rattle.std.specs.BTreeMap.{is_at}
use Rattle.field_values.specs.Names.{FieldNames}
use Rattle.hybrid_clock.specs.Order.{stamp_cmp}
use Rattle.field_merge.specs.declared.message.Message.{Message}
use Rattle.field_merge.specs.Hashed.{hashed_cmp}
use Rattle.field_merge.specs.Stored.{Notes, is_newer}

abbrev Index : Type 0
Index = List (FieldNames × Message)

-- the message that the index has at the names f
abbrev pub at_names : Index → FieldNames → Option Message
at_names index f = lookup (is_at (hashed_cmp f)) index

-- the new index has n at the names k, and is otherwise as before
abbrev pub Puts : Index → Index → FieldNames → Message → Type 0
Puts index new k n = (f : FieldNames) → at_names new f ≡ cond (is_at (hashed_cmp k) f) (Some n) (at_names index f)

-- a message of a field that the index does not have
pub notes-first : (m n : Message) (index put new : Index) (k : FieldNames) → k ≡ m.field → n ≡ m → at_names index k ≡ None → Puts index put k n → new ≡ put → Notes index new m true
notes-first m n index put new k its same none puts now =
    let none' : at_names index m.field ≡ None = subst (λ (k : FieldNames). at_names index k ≡ None) its none in
    let puts' : Puts index put m.field m = subst (λ (k : FieldNames). Puts index put k m) its (subst (λ (n : Message). Puts index put k n) same puts) in
    record {
      is_later = sym (ap (λ o. is_newer o m.stamp) none');
      now = λ f. ap (λ (es : Index). at_names es f) now ∙ puts' f;
    }

-- whether a message is later than the one of its field
is_later_than : (m old : Message) (index : Index) (k : FieldNames) (w : Bool) → k ≡ m.field → at_names index k ≡ Some old → w ≡ is_lt (stamp_cmp old.stamp m.stamp) → w ≡ is_newer (at_names index m.field) m.stamp
is_later_than m old index k w its has is =
    let has' : at_names index m.field ≡ Some old = subst (λ (k : FieldNames). at_names index k ≡ Some old) its has in
    is ∙ sym (ap (λ o. is_newer o m.stamp) has')

-- a message that is later than the one of its field
pub notes-later : (m n old : Message) (index put new : Index) (k : FieldNames) (w : Bool) → k ≡ m.field → n ≡ m → at_names index k ≡ Some old → w ≡ is_lt (stamp_cmp old.stamp m.stamp) → w ≡ true → Puts index put k n → new ≡ put → Notes index new m w
notes-later m n old index put new k w its same has is wins puts now =
    let puts' : Puts index put m.field m = subst (λ (k : FieldNames). Puts index put k m) its (subst (λ (n : Message). Puts index put k n) same puts) in
    record {
      is_later = is_later_than m old index k w its has is;
      now = λ f. ap (λ (es : Index). at_names es f) now ∙ puts' f ∙ ap (λ b. cond (b && is_at (hashed_cmp m.field) f) (Some m) (at_names index f)) (sym wins);
    }

-- a message that is not later than the one of its field
pub notes-older : (m old : Message) (index new : Index) (k : FieldNames) (w : Bool) → k ≡ m.field → at_names index k ≡ Some old → w ≡ is_lt (stamp_cmp old.stamp m.stamp) → w ≡ false → new ≡ index → Notes index new m w
notes-older m old index new k w its has is loses same = record {
  is_later = is_later_than m old index k w its has is;
  now = λ f. ap (λ (es : Index). at_names es f) same ∙ ap (λ b. cond (b && is_at (hashed_cmp m.field) f) (Some m) (at_names index f)) (sym loses);
}
