-- The list of the latest message of each field.
use Rattle.std.proofs.Common.{◌≡◌, List, [], ◌∷◌, true, false, cond, None, Some, refl, sym, ap, ◌∙◌, subst}
use Rattle.std.specs.Option.{is_some, option_or}
use Rattle.std.specs.List.{find, list_any}
use Rattle.field_values.specs.Names.{FieldNames, names_cmp}
use Rattle.field_merge.specs.declared.message.Message.{Message}
use Rattle.field_merge.specs.Log.{IsByField, by_field, fields, has_field, latest, placed}
use Rattle.field_merge.specs.Joining.{ListsLatest}
use Rattle.field_merge.proofs.Orders.{names_exact, names_total}
use Rattle.field_merge.proofs.Members.{found_in, new_or_there, none, there_already}
use Rattle.field_merge.proofs.Ordered.{equal, found_by_key, in_order_nil}
use Rattle.field_merge.proofs.Placing.{find-placed, in_order}
use Rattle.field_merge.proofs.Latest.{is_some-latest, latest-cons}

abbrev pub field_of : Message → FieldNames
field_of m = m.field

no_latest : (ms : List Message) (f : FieldNames) → list_any (has_field f) ms ≡ false → latest ms f ≡ None
no_latest ms f h = none (latest ms f) (is_some-latest ms f ∙ h)

-- a field finds its latest message among them
pub find-fields : (ms : List Message) (f : FieldNames) → find (has_field f) (fields ms) ≡ latest ms f
find-fields [] f = refl
find-fields (m ∷ ms) f =
    elim (list_any (has_field m.field) ms) as (λ b. list_any (has_field m.field) ms ≡ b → find (has_field f) (cond b (fields ms) (placed by_field (fields ms) m)) ≡ option_or (latest ms f) (cond (has_field f m) (Some m) None)) [
      | true ↦ λ p. find-fields ms f ∙ there_already (has_field f m) (latest ms f) m
          (λ t. subst (λ (g : FieldNames). is_some (latest ms g) ≡ true) (sym (names_exact f m.field (equal _ t))) (is_some-latest ms m.field ∙ p))
      | false ↦ λ p.
          let new : find (has_field m.field) (fields ms) ≡ None = find-fields ms m.field ∙ no_latest ms m.field p in
          find-placed field_of names_cmp names_total (fields ms) m new f
          ∙ ap (cond (has_field f m) (Some m)) (find-fields ms f)
          ∙ new_or_there (has_field f m) m (latest ms f) (λ t. subst (λ (g : FieldNames). latest ms g ≡ None) (sym (names_exact f m.field (equal _ t))) (no_latest ms m.field p))
    ] refl ∙ sym (latest-cons m ms f)

pub fields_in_order : (ms : List Message) → IsByField (fields ms)
fields_in_order [] = in_order_nil field_of names_cmp
fields_in_order (m ∷ ms) =
    elim (list_any (has_field m.field) ms) as (λ b. list_any (has_field m.field) ms ≡ b → IsByField (cond b (fields ms) (placed by_field (fields ms) m))) [
      | true ↦ λ p. fields_in_order ms
      | false ↦ λ p. in_order field_of names_cmp names_total (fields ms) m (find-fields ms m.field ∙ no_latest ms m.field p) (fields_in_order ms)
    ] refl

pub lists_latest : (ms : List Message) → ListsLatest ms (fields ms)
lists_latest ms = record {
  in_order = fields_in_order ms;
  exactly = λ m. (
    λ c. sym (find-fields ms m.field) ∙ found_by_key field_of names_cmp names_total (fields ms) (fields_in_order ms) m c,
    λ is. (found_in (has_field m.field) (fields ms) m (find-fields ms m.field ∙ is)).0,
  );
}
