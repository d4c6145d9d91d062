-- What is lent, or not.
use Rattle.std.proofs.Common.{◌≡◌, true, false, Option, None, Some, refl, Bor}
use Rattle.std.specs.Option.{option_copied, is_none}

pub copied_none : {X : Type 0} (o : Option (Bor X)) → is_none o ≡ true → option_copied o ≡ None
copied_none None h = refl
copied_none (Some b) h = absurd (let bad : false ≡ true = h in cc)

pub copied_some : {X : Type 0} (o : Option (Bor X)) → is_none o ≡ false → (x : X) × (option_copied o ≡ Some x)
copied_some None h = absurd (let bad : true ≡ false = h in cc)
copied_some (Some b) h = (b.now, refl)
