-- A name without a fault is a name.
use Rattle.std.proofs.Common.{◌≡◌, ◌≢◌, ◌∙◌, ℕ, ◌+◌, ◌≤◌, List, [], ◌++◌, length, get_or, arith, refl, ap, subst, false, Option, Some, None}
use Rattle.std.specs.Prelude.{◌==◌, nat_lt, position, All, option_map, IsUtf8, IsCharBoundary}
use Rattle.std.proofs.lemmas.List.{append_assoc, length-append}
use Rattle.std.proofs.lemmas.Str.{IsUtf8-append, IsCharBoundary-at_seam}
use Rattle.std.specs.Option.{option_or}
use Rattle.std.specs.List.{position_or_len}
use Rattle.std.proofs.lemmas.List.Sums.{position_or_len_is, fails_before_first}
use Rattle.std.proofs.lemmas.Bool.{cond_both, or_parts, or_from, ltb-false, le-ltb, eqb-false, ne_eqb}
use Rattle.field_values.specs.declared.name.NamePart.{NamePart}
use Rattle.field_values.specs.declared.name.NamePart.TheVariants.{Dataset, Row, Column}
use Rattle.field_values.specs.declared.name.NameFault.{NameFault}
use Rattle.field_values.specs.declared.name.NameFault.TheVariants.{Empty, TooLong, BadByte}
use Rattle.field_values.specs.Names.{IsName, IsNameByte, AreNames, FieldNames, is_bad_byte, name_fault, names_fault, IsCut}

pub good_byte : (b : ℕ) → is_bad_byte b ≡ false → IsNameByte b
good_byte b e = let both = or_parts _ _ e in (ltb-false b 32 both.0, eqb-false b 127 both.1)

pub not_bad : (b : ℕ) → IsNameByte b → is_bad_byte b ≡ false
not_bad b p = or_from _ _ (le-ltb b 32 p.0) (ne_eqb b 127 p.1)

-- no place of a bad byte, so each byte is good
good_bytes : (name : List ℕ) → position is_bad_byte name ≡ None → All IsNameByte name
good_bytes name e k d within =
    let at = position_or_len is_bad_byte name in
    cond_both (nat_lt at (length name)) (Some at) None (λ o. o ≡ None → IsNameByte (get_or name k d))
    (λ found same. let no : ⊥ = cc in absurd no)
    (λ none same.
    let all : length name ≤ at = ltb-false _ _ none in
    good_byte (get_or name k d) (fails_before_first is_bad_byte name k d (omega arith)))
    e

no_place : (name : List ℕ) → All IsNameByte name → position is_bad_byte name ≡ None
no_place name good =
    let at : position_or_len is_bad_byte name ≡ length name =
    position_or_len_is is_bad_byte name (length name) 0 (omega arith)
    (λ k h. not_bad (get_or name k 0) (good k 0 h)) (λ h. absurd (omega arith)) in
    let none : nat_lt (position_or_len is_bad_byte name) (length name) ≡ false = le-ltb _ _ (omega arith) in
    rw none

no_map : (part : NamePart) (o : Option ℕ) → option_map (λ at. BadByte part at) o ≡ None → o ≡ None
no_map part None e = refl
no_map part (Some at) e = cc

-- a name without a fault is a name
pub name_without_fault : (part : NamePart) (name : List ℕ) → name_fault part name ≡ None → IsName name
name_without_fault part name e =
    cond_both (length name == 0) (Some (Empty part)) _ (λ o. o ≡ None → IsName name)
    (λ empty same. let no : ⊥ = cc in absurd no)
    (λ empty.
    let some : length name ≢ 0 = eqb-false _ _ empty in
    cond_both (nat_lt 255 (length name)) (Some (TooLong part (length name))) _ (λ o. o ≡ None → IsName name)
    (λ long same. let no : ⊥ = cc in absurd no)
    (λ long same. record {
      some = omega arith;
      short = ltb-false _ _ long;
      bytes = good_bytes name (no_map part _ same);
    }))
    e

-- a name has no fault
pub name_fault-none : (part : NamePart) (name : List ℕ) → IsName name → name_fault part name ≡ None
name_fault-none part name is =
    let some : (length name == 0) ≡ false = ne_eqb _ _ (λ e. omega (arith, is.some)) in
    let short : nat_lt 255 (length name) ≡ false = le-ltb _ _ is.short in
    let good = no_place name is.bytes in
    rw (some, short, good)

none_of_or : (a b : Option NameFault) → option_or a b ≡ None → (a ≡ None) × (b ≡ None)
none_of_or None b e = (refl, e)
none_of_or (Some x) b e = let no : ⊥ = cc in absurd no

-- names without a fault are names
pub names_without_fault : (names : FieldNames) → names_fault names ≡ None → AreNames names
names_without_fault names e =
    let first = none_of_or _ _ e in
    let rest = none_of_or _ _ first.1 in
    record {
      dataset = name_without_fault Dataset names.dataset first.0;
      row = name_without_fault Row names.row rest.0;
      column = name_without_fault Column names.column rest.1;
    }

pub names_fault-none : (names : FieldNames) → AreNames names → names_fault names ≡ None
names_fault-none names are =
    rw (name_fault-none Dataset names.dataset are.dataset, name_fault-none Row names.row are.row, name_fault-none Column names.column are.column)

-- the joints of names that are put one behind the other
pub cut_is : (t₀ t₁ t₂ t₃ d r c : List ℕ) → t₀ ≡ [] → t₁ ≡ t₀ ++ d → t₂ ≡ t₁ ++ r → t₃ ≡ t₂ ++ c → IsUtf8 r → IsUtf8 c → IsCut t₃ (length d) (length d + length r)
cut_is t₀ t₁ t₂ t₃ d r c e₀ e₁ e₂ e₃ u v =
    let e : t₃ ≡ d ++ r ++ c = e₃ ∙ ap (λ (t : List ℕ). t ++ c) (e₂ ∙ ap (λ (t : List ℕ). t ++ r) (e₁ ∙ ap (λ (t : List ℕ). t ++ d) e₀)) in
    record {
      in_order = omega arith;
      row = IsCharBoundary-at_seam t₃ d (r ++ c) (e ∙ append_assoc d r c) (IsUtf8-append r c u v);
      column = subst (IsCharBoundary t₃) (length-append d r) (IsCharBoundary-at_seam t₃ (d ++ r) c e v);
    }
