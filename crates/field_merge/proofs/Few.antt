-- How many fields messages have: more messages have as many or more.
use Rattle.std.proofs.Common.{◌≡◌, ◌≤◌, ◌||◌, List, [], ◌∷◌, length, map, Bool, true, false, None, Some, refl, sym, ap, ◌∙◌, arith}
use Rattle.std.specs.Ordering.{is_eq}
use Rattle.std.specs.Option.{is_some}
use Rattle.std.specs.Cmp.{eq_by_cmp_equiv}
use Rattle.std.specs.List.{Contains, find, list_any}
use Rattle.std.proofs.lemmas.List.{length-map}
use Rattle.std.proofs.lemmas.Map.Keys.{IsDistinct-from_sorted}
use Rattle.std.proofs.lemmas.Map.Made.{length-le_from_is_member}
use Rattle.field_values.specs.Names.{FieldNames, names_cmp}
use Rattle.field_merge.specs.declared.message.Message.{Message}
use Rattle.field_merge.specs.Log.{fields, has_field}
use Rattle.field_merge.proofs.Fields.{field_of, fields_in_order, find-fields}
use Rattle.field_merge.proofs.Latest.{is_some-latest}
use Rattle.field_merge.proofs.Members.{found_in, is_some-find, none_from_any, some_passes}
use Rattle.field_merge.proofs.Orders.{names_total}

any_field : (k : FieldNames) (ms : List Message) → list_any (λ f. is_eq (names_cmp k f)) (map field_of ms) ≡ list_any (has_field k) ms
any_field k [] = refl
any_field k (m ∷ ms) = ap (λ b. has_field k m || b) (any_field k ms)

-- a field stands among the latest messages where a message has it
listed_field : (ms : List Message) (k : FieldNames) → list_any (λ f. is_eq (names_cmp k f)) (map field_of (fields ms)) ≡ list_any (has_field k) ms
listed_field ms k = any_field k (fields ms) ∙ sym (is_some-find (has_field k) (fields ms)) ∙ ap is_some (find-fields ms k) ∙ is_some-latest ms k

-- what one of the messages passes, one of more messages passes
any_more : (t : Message → Bool) (ms ns : List Message) → ((m : Message) → Contains ms m → Contains ns m) → list_any t ms ≡ true → list_any t ns ≡ true
any_more t ms ns more h =
    elim (find t ms) as (λ o. find t ms ≡ o → list_any t ns ≡ true) [
      | None ↦ λ e. let no : false ≡ true = sym (ap is_some e) ∙ is_some-find t ms ∙ h in cc
      | Some m ↦ λ e.
          let at = found_in t ms m e in
          elim (list_any t ns) as (λ b. list_any t ns ≡ b → b ≡ true) [
            | true ↦ λ p. refl
            | false ↦ λ p. absurd (some_passes t ns m (more m at.0) at.1 (none_from_any t ns p))
          ] refl
    ] refl

-- where all of the messages are among others, these have no fewer fields
pub fields_more : (ms ns : List Message) → ((m : Message) → Contains ms m → Contains ns m) → length (fields ms) ≤ length (fields ns)
fields_more ms ns more =
    let few = length-le_from_is_member (eq_by_cmp_equiv names_total) (map field_of (fields ms)) (map field_of (fields ns))
    (IsDistinct-from_sorted names_cmp _ (fields_in_order ms))
    (λ k h. listed_field ns k ∙ any_more (has_field k) ms ns more (sym (listed_field ms k) ∙ h)) in
    omega (arith, few, length-map (fields ms) field_of, length-map (fields ns) field_of)
