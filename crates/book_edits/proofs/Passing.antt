-- Ids and numbers that pass their checks.
use Rattle.std.proofs.Common.{◌≡◌, ◌≤◌, Bool, true, Option, Some, None, refl, arith}
use lib.IntN.{ℤ, pos, negsuc}
use Rattle.std.specs.Prelude.{unsigned_abs}
use Rattle.std.specs.Option.{is_none}
use Rattle.std.proofs.lemmas.Int.{ints}
use Rattle.std.proofs.lemmas.Bool.{leb-true}
use Rattle.field_values.specs.declared.name.NamePart.TheVariants.{Row}
use Rattle.field_values.specs.Names.{IsName, name_fault}
use Rattle.field_values.specs.Value.{HoldsNumber, largest_number}
use Rattle.field_values.proofs.NameLemmas.{name_without_fault}
use Rattle.finite_sums.specs.Maps.{Text, some_and}
use Rattle.book_edits.specs.Checks.{is_name, is_amount, is_held}

none_of : {X : Type 0} (o : Option X) → is_none o ≡ true → o ≡ None
none_of None h = refl
none_of (Some x) h = cc

pub name_of_is : (id : Text) → is_name id ≡ true → IsName id
name_of_is id h = name_without_fault Row id (none_of (name_fault Row id) h)

pub held : (n : ℤ) → unsigned_abs n ≤ largest_number → HoldsNumber n
held (pos n) h = record { low = omega (arith, ints, h); high = omega (arith, ints, h) }
held (negsuc n) h = record { low = omega (arith, ints, h); high = omega (arith, ints, h) }

pub amount_is : (n : ℤ) → is_amount n ≡ true → HoldsNumber n
amount_is n h = held n (leb-true _ _ h)

pub held_is : (n : ℤ) → is_held n ≡ true → HoldsNumber n
held_is (pos n) h = held (pos n) (leb-true _ _ h)
held_is (negsuc n) h = cc

-- what passes is there
pub there : {X : Type 0} (p : X → Bool) (o : Option X) → some_and p o ≡ true → (x : X) × (o ≡ Some x) × (p x ≡ true)
there p None h = cc
there p (Some x) h = (x, refl, h)
