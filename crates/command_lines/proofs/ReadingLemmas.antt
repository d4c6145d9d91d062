-- The latest message of a field.
use Rattle.std.proofs.Common.{◌≡◌, Bool, true, false, cond, List, [], ◌∷◌, Option, None, Some, refl, ap, subst, ◌∙◌}
use Rattle.std.specs.Prelude.{filter}
use Rattle.std.specs.List.{last_or}
use Rattle.std.specs.Option.{option_map}
use Rattle.std.specs.Ordering.{is_eq}
use Rattle.std.specs.declared.cmp.Ordering.{Ordering}
use Rattle.std.specs.declared.cmp.Ordering.TheVariants.{Less, Equal, Greater}
use Rattle.field_values.specs.declared.name.NameFault.{NameFault}
use Rattle.field_values.specs.declared.value.Value.{Value}
use Rattle.field_values.specs.Value.{IsValue}
use Rattle.field_values.specs.Names.{FieldNames, names_cmp, names_fault, AreNames}
use Rattle.field_values.proofs.NameLemmas.{names_fault-none}
use Rattle.field_merge.specs.declared.message.Message.{Message}
use Rattle.field_merge.specs.Messages.{IsMessage, AreMessages}
use Rattle.field_merge.specs.Log.{has_field, latest, value_in}
use Rattle.field_merge.proofs.Orders.{names_exact}

equal_from_test : (o : Ordering) → is_eq o ≡ true → o ≡ Equal
equal_from_test Less h = cc
equal_from_test Equal h = refl
equal_from_test Greater h = cc

other_field : (b : Bool) (f : FieldNames) (m : Message) (fault : NameFault) → has_field f m ≡ b → AreNames m.field → names_fault f ≡ Some fault → b ≡ false
other_field false f m fault e are h = refl
other_field true f m fault e are h =
    let same : f ≡ m.field = names_exact f m.field (equal_from_test (names_cmp f m.field) e) in
    let none : names_fault f ≡ None = ap names_fault same ∙ names_fault-none m.field are in
    let clash : ⊥ = cc in absurd clash

-- names with a fault are no message's
pub none_of : (ms : List Message) (f : FieldNames) (fault : NameFault) → AreMessages ms → names_fault f ≡ Some fault → filter (has_field f) ms ≡ []
none_of [] f fault all h = refl
none_of (m ∷ ms) f fault all h = rw (other_field (has_field f m) f m fault refl all.0.field h) (none_of ms f fault all.1 h)

pub value_in-none : (ms : List Message) (f : FieldNames) (fault : NameFault) → AreMessages ms → names_fault f ≡ Some fault → value_in ms f ≡ None
value_in-none ms f fault all h = rw (none_of ms f fault all h) refl

kept_valid : (b : Bool) (m : Message) (ms : List Message) → IsMessage m → AreMessages ms → AreMessages (cond b (m ∷ ms) ms)
kept_valid true m ms one all = (one, all)
kept_valid false m ms one all = all

pub filter_valid : (p : Message → Bool) (ms : List Message) → AreMessages ms → AreMessages (filter p ms)
filter_valid p [] all = all
filter_valid p (m ∷ ms) all = kept_valid (p m) m (filter p ms) all.0 (filter_valid p ms all.1)

-- each message of an option is valid
IsMessageIf : Option Message → Type 0
IsMessageIf None = Unit {0}
IsMessageIf (Some m) = IsMessage m

last_valid : (o : Option Message) (ms : List Message) → IsMessageIf o → AreMessages ms → IsMessageIf (last_or o ms)
unfolding IsMessageIf
last_valid o [] one all = one
last_valid o (m ∷ ms) one all = last_valid (Some m) ms all.0 all.1

value_of_valid : (o : Option Message) (v : Value) → IsMessageIf o → Some v ≡ option_map (λ m. m.value) o → IsValue v
unfolding IsMessageIf
value_of_valid None v one e = let clash : ⊥ = cc in absurd clash
value_of_valid (Some m) v one e = let same : m.value ≡ v = cc in subst IsValue same one.value

-- the value of a field of valid messages is valid
pub value_in-valid : (ms : List Message) (f : FieldNames) (v : Value) → AreMessages ms → Some v ≡ value_in ms f → IsValue v
unfolding IsMessageIf
value_in-valid ms f v all e = value_of_valid (latest ms f) v (last_valid None (filter (has_field f) ms) tt (filter_valid (has_field f) ms all)) e
