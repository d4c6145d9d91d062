-- Fields are equal where their names are, and ordered by them.
use Rattle.std.proofs.Common.{◌≡◌, ◌∙◌, ℕ, true, List, refl, sym, subst, rules}
use Rattle.std.specs.Cmp.{IsTotalOrder, Equal-is}
use Rattle.std.specs.Cmp.Rules.{comparing}
use Rattle.std.specs.Cmp.Lexicographic.{slice_cmp, pointwise, bytes_decides}
use Rattle.std.specs.Ordering.{nat_cmp, is_eq}
use Rattle.std.specs.declared.cmp.Ordering.TheVariants.{Equal}
use Rattle.std.specs.Prelude.{◌==◌}
use Rattle.std.proofs.lemmas.Bool.{and_from, and_parts}
use Rattle.std.proofs.lemmas.Cmp.{nat_list_cmp_total, on_total, then_total}
use Rattle.field_values.specs.Names.{FieldNames, names_eq, names_cmp}
use Rattle.field_values.specs.Laws.{FieldsAreOrdered}

ties : (a b : FieldNames) → names_eq a b ≡ is_eq (names_cmp a b)
ties = Prim.search (comparing, rules)

same_names : (a b : FieldNames) → a.dataset ≡ b.dataset → a.row ≡ b.row → a.column ≡ b.column → a ≡ b
same_names a b d r c = λ i. record { dataset = d i; row = r i; column = c i }

equal_then : (a b : FieldNames) → names_eq a b ≡ true → a ≡ b
equal_then a b e =
    let first = and_parts (pointwise ◌==◌ a.dataset b.dataset) _ e in
    let rest = and_parts (pointwise ◌==◌ a.row b.row) _ first.1 in
    same_names a b ((bytes_decides a.dataset b.dataset).0 first.0) ((bytes_decides a.row b.row).0 rest.0) ((bytes_decides a.column b.column).0 rest.1)

equal_self : (a : FieldNames) → names_eq a a ≡ true
equal_self a =
    and_from _ _ ((bytes_decides a.dataset a.dataset).1 refl)
    (and_from _ _ ((bytes_decides a.row a.row).1 refl) ((bytes_decides a.column a.column).1 refl))

then_equal : (a b : FieldNames) → a ≡ b → names_eq a b ≡ true
then_equal a b e = subst (λ (f : FieldNames). names_eq a f ≡ true) e (equal_self a)

level_then : (a b : FieldNames) → names_cmp a b ≡ Equal → a ≡ b
level_then a b e = equal_then a b (ties a b ∙ (Equal-is (names_cmp a b)).1 e)

then_level : (a b : FieldNames) → a ≡ b → names_cmp a b ≡ Equal
then_level a b e = (Equal-is (names_cmp a b)).0 (sym (ties a b) ∙ then_equal a b e)

-- a text is level with itself
level_text : (s t : List ℕ) → s ≡ t → slice_cmp nat_cmp s t ≡ Equal
level_text s t e =
    let same : is_eq (slice_cmp nat_cmp s t) ≡ true = sym (text_ties s t) ∙ (bytes_decides s t).1 e in
    (Equal-is (slice_cmp nat_cmp s t)).0 same
  where
    text_ties : (s t : List ℕ) → pointwise ◌==◌ s t ≡ is_eq (slice_cmp nat_cmp s t)
    text_ties = Prim.search (comparing, rules)

total : IsTotalOrder names_cmp
total =
    then_total (on_total (λ (f : FieldNames). f.dataset) nat_list_cmp_total)
    (then_total (on_total (λ (f : FieldNames). f.row) nat_list_cmp_total) (on_total (λ (f : FieldNames). f.column) nat_list_cmp_total))

pub fields_are_ordered_lem : FieldsAreOrdered
fields_are_ordered_lem = record {
  equal = λ a b. (equal_then a b, then_equal a b);
  level = λ a b. (level_then a b, then_level a b);
  total = total;
  by_dataset = λ a b less. rw less refl;
  by_row = λ a b d less. let same = level_text a.dataset b.dataset d in rw (same, less) refl;
  by_column = λ a b d r less.
      let first = level_text a.dataset b.dataset d in
      let second = level_text a.row b.row r in
      rw (first, second, less) refl;
}
