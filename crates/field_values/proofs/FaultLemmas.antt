-- The fault that is told is the first.
use Rattle.std.proofs.Common.{◌≡◌, ◌∙◌, ℕ, ◌<◌, ◌≤◌, List, length, arith, refl, sym, subst, true, Option, Some, None}
use Rattle.std.specs.Prelude.{◌==◌, nat_lt, position, option_map, slice_index}
use Rattle.std.specs.Option.{option_or}
use Rattle.std.specs.List.{position_or_len}
use Rattle.std.proofs.lemmas.List.Sums.{fails_before_first, passes_at_first}
use Rattle.std.proofs.lemmas.Bool.{cond_both, ltb-true, ltb-false, eqb-true, both_ways}
use Rattle.field_values.specs.declared.name.NamePart.{NamePart}
use Rattle.field_values.specs.declared.name.NamePart.TheVariants.{Dataset, Row, Column}
use Rattle.field_values.specs.declared.name.NameFault.{NameFault}
use Rattle.field_values.specs.declared.name.NameFault.TheVariants.{Empty, TooLong, BadByte}
use Rattle.field_values.specs.Names.{FieldNames, name_of, is_bad_byte, name_fault}
use Rattle.field_values.specs.Laws.{IsFirstBadByte, IsFaultOf, IsFirstFault, FaultsAreTold}
use Rattle.field_values.proofs.NameLemmas.{good_byte, not_bad, name_without_fault, names_without_fault, names_fault-none}

-- the place that is found is that of the first bad byte
first_bad : (name : List ℕ) (at : ℕ) → length name ≤ 255 → position is_bad_byte name ≡ Some at → IsFirstBadByte name at
first_bad name at short e =
    let place = position_or_len is_bad_byte name in
    cond_both (nat_lt place (length name)) (Some place) None (λ o. o ≡ Some at → IsFirstBadByte name at)
    (λ found same.
    let is : place ≡ at = cc in
    let within : place < length name = ltb-true _ _ found in
    record {
      short = short;
      within = omega (arith, is, within);
      bad = λ good. both_ways (is_bad_byte (slice_index name at)) (not_bad _ good) (subst (λ (k : ℕ). is_bad_byte (slice_index name k) ≡ true) is (passes_at_first is_bad_byte name 0 within));
      first = λ k before. good_byte (slice_index name k) (fails_before_first is_bad_byte name k 0 (omega (arith, is, before)));
    })
    (λ none same. let no : ⊥ = cc in absurd no)
    e

placed : (part : NamePart) (names : FieldNames) (o : Option ℕ) (fault : NameFault) → option_map (λ at. BadByte part at) o ≡ Some fault → ((at : ℕ) → o ≡ Some at → IsFirstBadByte (name_of part names) at) → IsFaultOf part names fault
placed part names None fault e bad = let no : ⊥ = cc in absurd no
placed part names (Some at) fault e bad =
    let is : BadByte part at ≡ fault = cc in
    subst (λ (f : NameFault). IsFaultOf part names f) is (refl, bad at refl)

-- what is told of a name is so
fault_is : (part : NamePart) (names : FieldNames) (fault : NameFault) → name_fault part (name_of part names) ≡ Some fault → IsFaultOf part names fault
fault_is part names fault e =
    let name = name_of part names in
    cond_both (length name == 0) (Some (Empty part)) _ (λ o. o ≡ Some fault → IsFaultOf part names fault)
    (λ empty same.
    let is : Empty part ≡ fault = cc in
    subst (λ (f : NameFault). IsFaultOf part names f) is (refl, eqb-true _ _ empty))
    (λ some. cond_both (nat_lt 255 (length name)) (Some (TooLong part (length name))) _ (λ o. o ≡ Some fault → IsFaultOf part names fault)
    (λ long same.
    let is : TooLong part (length name) ≡ fault = cc in
    subst (λ (f : NameFault). IsFaultOf part names f) is (refl, refl, ltb-true _ _ long))
    (λ short same. placed part names (position is_bad_byte name) fault same (λ at h. first_bad name at (ltb-false _ _ short) h)))
    e

-- the fault that is told of names is the dataset's, or the row's where the dataset has none, or the column's where neither has one
told : (names : FieldNames) (fault : NameFault) (d r c : Option NameFault) → d ≡ name_fault Dataset names.dataset → r ≡ name_fault Row names.row → c ≡ name_fault Column names.column → option_or d (option_or r c) ≡ Some fault → IsFirstFault names fault
told names fault (Some f) r c d_is r_is c_is e = (Dataset, tt, fault_is Dataset names fault (sym d_is ∙ e))
told names fault None (Some f) c d_is r_is c_is e =
    (Row, name_without_fault Dataset names.dataset (sym d_is), fault_is Row names fault (sym r_is ∙ e))
told names fault None None c d_is r_is c_is e =
    (Column, (name_without_fault Dataset names.dataset (sym d_is), name_without_fault Row names.row (sym r_is)), fault_is Column names fault (sym c_is ∙ e))

pub faults_are_told_lem : FaultsAreTold
faults_are_told_lem = record {
  none = λ names. (names_without_fault names, names_fault-none names);
  first = λ names fault e. told names fault _ _ _ refl refl refl e;
}
