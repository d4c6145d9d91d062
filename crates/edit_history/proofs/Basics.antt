-- Truth values, and the sameness of fields.
use Rattle.std.proofs.Common.{◌≡◌, Bool, true, false, Option, Some, None, refl, ap, sym, ◌∙◌}
use Rattle.std.specs.Prelude.{◌||◌, ◌&&◌, not}
use Rattle.field_values.specs.Names.{FieldNames, names_eq}
use Rattle.field_values.proofs.FieldOrder.{fields_are_ordered_lem as fields_ordered}

pub bool_cases : (b : Bool) {P : Type 0} → (b ≡ true → P) → (b ≡ false → P) → P
bool_cases true t f = t refl
bool_cases false t f = f refl

pub true_false : {P : Type 0} (b : Bool) → b ≡ true → b ≡ false → P
true_false b t f = absurd (clash (sym t ∙ f))
  where
    clash : true ≡ false → ⊥
    clash h = cc

pub some_is : {X : Type 0} (x y : X) → Some x ≡ Some y → x ≡ y
some_is x y h = cc

pub option_cases : {X P : Type 0} (o : Option X) → (o ≡ None → P) → ((x : X) → o ≡ Some x → P) → P
option_cases None n s = n refl
option_cases (Some x) n s = s x refl

pub none_some : {X P : Type 0} (o : Option X) (x : X) → o ≡ Some x → o ≡ None → P
none_some o x s n = absurd (clash (sym n ∙ s))
  where
    clash : None ≡ Some x → ⊥
    clash h = cc

pub or_left : (a b : Bool) → a ≡ true → (a || b) ≡ true
or_left a b h = ap (λ t. t || b) h

pub or_right : (a b : Bool) → b ≡ true → (a || b) ≡ true
or_right true b h = refl
or_right false b h = h

pub not_true : (b : Bool) → b ≡ false → not b ≡ true
not_true b h = ap not h

pub both : (a b : Bool) → a ≡ true → b ≡ true → (a && b) ≡ true
both true b p q = q
both false b p q = p

pub both_parts : (a b : Bool) → (a && b) ≡ true → (a ≡ true) × (b ≡ true)
both_parts true b h = (refl, h)
both_parts false b h = absurd (clash h)
  where
    clash : false ≡ true → ⊥
    clash h = cc

pub second_false : (a b : Bool) → a ≡ true → (a && b) ≡ false → b ≡ false
second_false true b p h = h
second_false false b p h = absurd (clash p)
  where
    clash : false ≡ true → ⊥
    clash h = cc

pub hidden_parts : (a b : Bool) → (not a && b) ≡ true → (a ≡ false) × (b ≡ true)
hidden_parts true b h = absurd (clash h)
  where
    clash : false ≡ true → ⊥
    clash h = cc
hidden_parts false b h = (refl, h)

same_truth : (b c : Bool) → (b ≡ true → c ≡ true) → (c ≡ true → b ≡ true) → b ≡ c
same_truth true c f g = sym (f refl)
same_truth false true f g = g refl
same_truth false false f g = refl

pub same : (f g : FieldNames) → names_eq f g ≡ true → f ≡ g
same f g h = (fields_ordered.equal f g).0 h

pub itself : (f : FieldNames) → names_eq f f ≡ true
itself f = (fields_ordered.equal f f).1 refl

pub turned : (f g : FieldNames) → names_eq f g ≡ names_eq g f
turned f g = same_truth (names_eq f g) (names_eq g f)
    (λ h. (fields_ordered.equal g f).1 (sym (same f g h)))
    (λ h. (fields_ordered.equal f g).1 (sym (same g f h)))
