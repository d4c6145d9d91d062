-- The latest message of a field.
use Rattle.std.proofs.Common.{◌≡◌, List, [], ◌∷◌, Bool, true, false, ◌||◌, cond, Option, None, Some, refl, sym, ap, ◌∙◌, subst}
use Rattle.std.specs.Prelude.{filter}
use Rattle.std.proofs.lemmas.Bool.{or_parts}
use Rattle.std.specs.Ordering.{is_eq, is_gt}
use Rattle.std.specs.Option.{is_some, option_or}
use Rattle.std.specs.Cmp.{tied_itself}
use Rattle.std.specs.List.{list_any, last_or, Contains, AllByRecursion}
use Rattle.std.specs.declared.cmp.Ordering.TheVariants.{Less}
use Rattle.field_values.specs.Names.{FieldNames, names_cmp}
use Rattle.hybrid_clock.specs.declared.stamp.Stamp.{Stamp}
use Rattle.hybrid_clock.specs.Order.{stamp_cmp}
use Rattle.field_merge.specs.declared.message.Message.{Message}
use Rattle.field_merge.specs.Log.{IsRising, has_field, latest}
use Rattle.field_merge.specs.Joining.{IsLatestOrNone}
use Rattle.field_merge.proofs.Orders.{stamps_total, names_exact, names_total}
use Rattle.field_merge.proofs.Members.{all_of, all_keys, all_weaker, here, or_none, there}
use Rattle.field_merge.proofs.Ordered.{equal, head, tail}
use Rattle.field_merge.proofs.Joining.{stamp_of}

kept : (o : Option Message) (n m : Message) → option_or o (Some n) ≡ option_or (option_or o (Some n)) (Some m)
kept None n m = refl
kept (Some l) n m = refl

last_after : (m : Message) (ms : List Message) → last_or (Some m) ms ≡ option_or (last_or None ms) (Some m)
last_after m [] = refl
last_after m (n ∷ ms) = last_after n ms ∙ kept (last_or None ms) n m ∙ ap (λ o. option_or o (Some m)) (sym (last_after n ms))

-- the latest of a list is the latest of its rest, or else its first message
pub latest-cons : (m : Message) (ms : List Message) (f : FieldNames) → latest (m ∷ ms) f ≡ option_or (latest ms f) (cond (has_field f m) (Some m) None)
latest-cons m ms f =
    elim (has_field f m) as (λ b. last_or None (cond b (m ∷ filter (has_field f) ms) (filter (has_field f) ms)) ≡ option_or (latest ms f) (cond b (Some m) None)) [
      | true ↦ last_after m (filter (has_field f) ms)
      | false ↦ or_none (latest ms f)
    ]

-- it is there exactly where some message has the field
some_latest : (b : Bool) (o : Option Message) (m : Message) (r : Bool) → is_some o ≡ r → is_some (option_or o (cond b (Some m) None)) ≡ (b || r)
some_latest true None m r h = refl
some_latest false None m r h = h
some_latest true (Some n) m r h = refl
some_latest false (Some n) m r h = h

pub is_some-latest : (ms : List Message) (f : FieldNames) → is_some (latest ms f) ≡ list_any (has_field f) ms
is_some-latest [] f = refl
is_some-latest (m ∷ ms) f = ap is_some (latest-cons m ms f) ∙ some_latest (has_field f m) (latest ms f) m (list_any (has_field f) ms) (is_some-latest ms f)

none_has : (f : FieldNames) (ms : List Message) → list_any (has_field f) ms ≡ false → AllByRecursion (λ m. has_field f m ≡ false) ms
none_has f [] h = tt
none_has f (m ∷ ms) h = let parts = or_parts (has_field f m) (list_any (has_field f) ms) h in (parts.0, none_has f ms parts.1)

pub none_of_field : (ms : List Message) (f : FieldNames) → latest ms f ≡ None → AllByRecursion (λ m. has_field f m ≡ false) ms
none_of_field ms f h = none_has f ms (sym (is_some-latest ms f) ∙ ap is_some h)

-- the latest is a message of the field
pub latest_there : (ms : List Message) (f : FieldNames) (m : Message) → latest ms f ≡ Some m → Contains ms m × (m.field ≡ f)
latest_there [] f m h = cc
latest_there (x ∷ ms) f m h =
    elim (latest ms f) as (λ o. latest ms f ≡ o → option_or o (cond (has_field f x) (Some x) None) ≡ Some m → Contains (x ∷ ms) m × (m.field ≡ f)) [
      | Some l ↦ λ e is. let rest = latest_there ms f m (e ∙ is) in (there x ms m rest.0, rest.1)
      | None ↦ λ e is.
          elim (has_field f x) as (λ b. has_field f x ≡ b → cond b (Some x) None ≡ Some m → Contains (x ∷ ms) m × (m.field ≡ f)) [
            | true ↦ λ p one.
                let same : x ≡ m = cc in
                subst (λ (z : Message). Contains (x ∷ ms) z × (z.field ≡ f)) same (here x ms, sym (names_exact f x.field (equal _ p)))
            | false ↦ λ p one. cc
          ] refl is
    ] refl (sym (latest-cons x ms f) ∙ h)

-- in a rising list no message of the field is later
abbrev pub IsUpTo : FieldNames → Message → Message → Type 0
IsUpTo f m n = has_field f n ≡ true → is_gt (stamp_cmp n.stamp m.stamp) ≡ false

pub latest_greatest : (ms : List Message) (f : FieldNames) (m : Message) → IsRising ms → latest ms f ≡ Some m → AllByRecursion (IsUpTo f m) ms
latest_greatest [] f m s h = tt
latest_greatest (x ∷ ms) f m s h =
    elim (latest ms f) as (λ o. latest ms f ≡ o → option_or o (cond (has_field f x) (Some x) None) ≡ Some m → AllByRecursion (IsUpTo f m) (x ∷ ms)) [
      | Some l ↦ λ e is.
          let at : latest ms f ≡ Some m = e ∙ is in
          let below = all_keys stamp_of (λ (t : Stamp). stamp_cmp x.stamp t ≡ Less) ms (head stamp_of stamp_cmp x ms s) in
          let less : stamp_cmp x.stamp m.stamp ≡ Less = all_of (λ (n : Message). stamp_cmp x.stamp n.stamp ≡ Less) ms below m (latest_there ms f m at).0 in
          (λ _. ap is_gt less, latest_greatest ms f m (tail stamp_of stamp_cmp x ms s) at)
      | None ↦ λ e is.
          elim (has_field f x) as (λ b. cond b (Some x) None ≡ Some m → AllByRecursion (IsUpTo f m) (x ∷ ms)) [
            | true ↦ λ one.
                let same : x ≡ m = cc in
                let none : AllByRecursion (λ (n : Message). has_field f n ≡ false) ms = none_of_field ms f e in (
                  λ _. subst (λ (z : Message). is_gt (stamp_cmp x.stamp z.stamp) ≡ false) same (ap is_gt (tied_itself stamps_total x.stamp)),
                  all_weaker (λ (n : Message). has_field f n ≡ false) (IsUpTo f m) (λ n no yes. cc) ms none,
                )
            | false ↦ λ one. cc
          ] is
    ] refl (sym (latest-cons x ms f) ∙ h)

pub has_its_own : (f : FieldNames) (m : Message) → m.field ≡ f → has_field f m ≡ true
has_its_own f m h = subst (λ (z : FieldNames). is_eq (names_cmp z m.field) ≡ true) h (ap is_eq (tied_itself names_total m.field))

pub is_latest : (ms : List Message) (f : FieldNames) → IsRising ms → IsLatestOrNone ms f (latest ms f)
is_latest ms f s =
    elim (latest ms f) as (λ o. latest ms f ≡ o → IsLatestOrNone ms f o) [
      | None ↦ λ e. λ m c is.
          let no : has_field f m ≡ false = all_of (λ (n : Message). has_field f n ≡ false) ms (none_of_field ms f e) m c in
          let yes : has_field f m ≡ true = has_its_own f m is in cc
      | Some m ↦ λ e.
          let member = latest_there ms f m e in
          record {
            there = member.0;
            of_field = member.1;
            greatest = λ n c is. all_of (IsUpTo f m) ms (latest_greatest ms f m s e) n c (has_its_own f n is);
          }
    ] refl
