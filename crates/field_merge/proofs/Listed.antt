-- The messages that an index leads to, in the order of the index.
use Rattle.std.proofs.Common.{◌≡◌, zero, suc, List, [], ◌∷◌, Bool, true, false, cond, Option, None, Some, refl, sym, ap, ◌∙◌, subst, arith}
use Rattle.std.specs.Ordering.{is_eq}
use Rattle.std.specs.Option.{option_map}
use Rattle.std.specs.Cmp.{tied_itself}
use Rattle.std.specs.List.{Contains, find}
use Rattle.std.specs.List.Sorted.{IsStrictlySortedBy}
use Rattle.std.specs.Map.{keys_of, lookup, values_of}
use Rattle.std.specs.BTreeMap.{is_at}
use Rattle.field_values.specs.Names.{FieldNames, names_cmp}
use Rattle.field_merge.specs.declared.message.Message.{Message}
use Rattle.field_merge.specs.Hashed.{hashed_cmp, hashed_total}
use Rattle.field_merge.specs.Latest.{KeepsLatest}
use Rattle.field_merge.specs.Messages.{AreMessages, IsMessage}
use Rattle.field_merge.specs.Log.{fields, has_field, latest}
use Rattle.field_merge.specs.Stored.{IsIndex}
use Rattle.field_merge.proofs.Orders.{names_exact, names_total}
use Rattle.field_merge.proofs.Hashing.{hashed_exact}
use Rattle.field_merge.proofs.Members.{all_from, all_of, found_in, here, some_passes, there}
use Rattle.field_merge.proofs.Ordered.{equal, found_by_key, same}
use Rattle.field_merge.proofs.Latest.{latest_there}
use Rattle.field_merge.proofs.Fields.{field_of, fields_in_order, find-fields}

abbrev Index : Type 0
Index = List (FieldNames × Message)

abbrev field_at : FieldNames × Message → FieldNames
field_at e = e.0

second : (k : FieldNames) (o : Option Message) (e : FieldNames × Message) → option_map (λ (m : Message). (k, m)) o ≡ Some e → o ≡ Some e.1
second k None e h = cc
second k (Some m) e h = cc

find-lookup : (k : FieldNames) (es : Index) → find (λ (e : FieldNames × Message). is_eq (hashed_cmp k e.0)) es ≡ option_map (λ (m : Message). (k, m)) (lookup (is_at (hashed_cmp k)) es)
find-lookup k [] = refl
find-lookup k (e ∷ es) =
    elim (is_eq (hashed_cmp k e.0)) as (λ b. is_eq (hashed_cmp k e.0) ≡ b → cond b (Some e) (find (λ (e : FieldNames × Message). is_eq (hashed_cmp k e.0)) es) ≡ option_map (λ (m : Message). (k, m)) (cond b (Some e.1) (lookup (is_at (hashed_cmp k)) es))) [
      | true ↦ λ t. let same : e.0 ≡ k = sym (hashed_exact k e.0 (equal _ t)) in λ i. Some (same i, e.1)
      | false ↦ λ t. find-lookup k es
    ] refl

-- each entry of an index has the latest message of its field
entry_is_latest : (ms : List Message) (index : Index) → IsIndex ms index → IsStrictlySortedBy hashed_cmp (keys_of index) → (e : FieldNames × Message) → Contains index e → latest ms e.1.field ≡ Some e.1
entry_is_latest ms index right s e c =
    let has : lookup (is_at (hashed_cmp e.0)) index ≡ Some e.1 = second e.0 _ e (sym (find-lookup e.0 index) ∙ found_by_key field_at hashed_cmp hashed_total index s e c) in
    let is : latest ms e.0 ≡ Some e.1 = sym (right e.0) ∙ has in
    subst (λ (f : FieldNames). latest ms f ≡ Some e.1) (sym (latest_there ms e.0 e.1 is).1) is

value_of : (es : Index) (m : Message) → Contains (values_of es) m → (e : FieldNames × Message) × (Contains es e × (e.1 ≡ m))
value_of [] m (k, h, is) = absurd (omega (arith, h))
value_of (e ∷ es) m (zero, h, is) = (e, (here e es, is))
value_of (e ∷ es) m (suc k, h, is) =
    let rest = value_of es m (k, omega (arith, h), is) in
    (rest.0, (there e es rest.0 rest.1.0, rest.1.1))

-- each message of an index is the latest of its field
pub value_is_latest : (ms : List Message) (index : Index) → IsIndex ms index → IsStrictlySortedBy hashed_cmp (keys_of index) → (m : Message) → Contains (values_of index) m → latest ms m.field ≡ Some m
value_is_latest ms index right s m c =
    let e = value_of index m c in
    subst (λ (n : Message). latest ms n.field ≡ Some n) e.1.1 (entry_is_latest ms index right s e.0 e.1.0)

lookup_there : (k : FieldNames) (es : Index) (m : Message) → lookup (is_at (hashed_cmp k)) es ≡ Some m → Contains (values_of es) m
lookup_there k [] m h = cc
lookup_there k (e ∷ es) m h =
    elim (is_at (hashed_cmp k) e.0) as (λ b. cond b (Some e.1) (lookup (is_at (hashed_cmp k)) es) ≡ Some m → Contains (e.1 ∷ values_of es) m) [
      | true ↦ λ is. let same : e.1 ≡ m = cc in subst (λ (n : Message). Contains (e.1 ∷ values_of es) n) same (here e.1 (values_of es))
      | false ↦ λ is. there e.1 (values_of es) m (lookup_there k es m is)
    ] h

-- the latest message of a field is in the index
latest_is_value : (ms : List Message) (index : Index) (f : FieldNames) (m : Message) → IsIndex ms index → latest ms f ≡ Some m → Contains (values_of index) m
latest_is_value ms index f m right is = lookup_there f index m (right f ∙ is)

of_field : (f : FieldNames) (m : Message) → m.field ≡ f → has_field f m ≡ true
of_field f m is = subst (λ (g : FieldNames). is_eq (names_cmp f g) ≡ true) (sym is) (ap is_eq (tied_itself names_total f))

-- where messages are all latest ones of their fields, and have that of a field, the field finds it among them
finds : (ms ns : List Message) (f : FieldNames) → ((m : Message) → Contains ns m → latest ms m.field ≡ Some m) → ((m : Message) → latest ms f ≡ Some m → Contains ns m) → find (has_field f) ns ≡ latest ms f
finds ms ns f own has =
    elim (find (has_field f) ns) as (λ o. find (has_field f) ns ≡ o → o ≡ latest ms f) [
      | None ↦ λ e. elim (latest ms f) as (λ p. latest ms f ≡ p → None ≡ p) [
        | None ↦ λ h. refl
        | Some m ↦ λ h. absurd (some_passes (has_field f) ns m (has m h) (of_field f m (latest_there ms f m h).1) e)
      ] refl
      | Some m ↦ λ e.
          let at = found_in (has_field f) ns m e in
          let same : f ≡ m.field = names_exact f m.field (equal _ at.1) in
          sym (ap (latest ms) same ∙ own m at.0)
    ] refl

-- a field finds its latest message among those of an index
pub found_among : (ms : List Message) (index : Index) (f : FieldNames) → IsIndex ms index → IsStrictlySortedBy hashed_cmp (keys_of index) → find (has_field f) (values_of index) ≡ latest ms f
found_among ms index f right s = finds ms (values_of index) f (value_is_latest ms index right s) (λ m is. latest_is_value ms index f m right is)

-- the messages of an index, by field, are the list of the latest ones
pub listed : (ms : List Message) (index : Index) (kept : List Message) → IsIndex ms index → IsStrictlySortedBy hashed_cmp (keys_of index) → KeepsLatest (values_of index) kept → kept ≡ fields ms
listed ms index kept right s keeps =
    let own : (m : Message) → Contains kept m → latest ms m.field ≡ Some m = λ m c. value_is_latest ms index right s m (keeps.has.some m c) in
    same field_of names_cmp names_total kept (fields ms) keeps.in_order (fields_in_order ms)
    (λ k. finds ms kept k own (λ m is.
    let c : Contains (values_of index) m = latest_is_value ms index k m right is in
    let y = keeps.has.covers m c in
    let one : Some y.0 ≡ Some m = sym (own y.0 y.1.0) ∙ ap (latest ms) (y.1.1 ∙ (latest_there ms k m is).1) ∙ is in
    subst (λ (z : Message). Contains kept z) (unsome y.0 m one) y.1.0)
    ∙ sym (find-fields ms k))
  where
    unsome : (x y : Message) → Some x ≡ Some y → x ≡ y
    unsome x y h = cc

-- the messages of an index are valid where all are
pub index_valid : (ms : List Message) (index : Index) → IsIndex ms index → IsStrictlySortedBy hashed_cmp (keys_of index) → AreMessages ms → AreMessages (values_of index)
index_valid ms index right s valid =
    all_from IsMessage (values_of index) (λ m c. all_of IsMessage ms valid m (latest_there ms m.field m (value_is_latest ms index right s m c)).0)

-- the first of a list is found, or the rest is searched
pub found_first : (t : Message → Bool) (ms rest : List Message) (m n : Message) → ms ≡ m ∷ rest → n ≡ m → t n ≡ true → Some n ≡ find t ms
found_first t ms rest m n step is passes = ap Some is ∙ sym (ap (find t) step ∙ ap (λ b. cond b (Some m) (find t rest)) (sym (ap t is) ∙ passes))

pub missed_first : (t : Message → Bool) (ms rest : List Message) (m n : Message) → ms ≡ m ∷ rest → n ≡ m → t n ≡ false → find t ms ≡ find t rest
missed_first t ms rest m n step is fails = ap (find t) step ∙ ap (λ b. cond b (Some m) (find t rest)) (sym (ap t is) ∙ fails)
