-- The writes of edits are valid.
use Rattle.std.proofs.Common.{◌≡◌, ℕ, ◌+◌, ◌<◌, ◌/◌, ◌%◌, Bool, true, false, List, [], ◌∷◌, ◌++◌, Option, None, Some, Result, Ok, Err, cond, filter, refl, ap, subst, arith}
use lib.IntN.{pos}
use Rattle.std.specs.Prelude.{◌||◌, nat_le, not, map as list_map, flat_map}
use Rattle.std.specs.List.{AllByRecursion}
use Rattle.std.specs.Ordering.{eq_by_cmp}
use Rattle.std.specs.Cmp.{eq_by_cmp_equiv}
use Rattle.std.specs.FinMap as map
use Rattle.std.proofs.Math.Nat.{mod-lt}
use Rattle.std.proofs.lemmas.Bool.{leb-true, and_parts}
use Rattle.std.proofs.lemmas.List.Elements.{All-from_recursion}
use Rattle.field_values.specs.declared.name.NamePart.TheVariants.{Row}
use Rattle.field_values.specs.declared.value.Value.{Value}
use Rattle.field_values.specs.Names.{IsName, IsNameByte, name_fault}
use Rattle.field_values.specs.Value.{IsValue, HoldsNumber}
use Rattle.field_values.proofs.NameLemmas.{name_without_fault}
use Rattle.finite_sums.specs.Maps.{Text, Texts, text_cmp, some_and, is_among}
use Rattle.finite_sums.proofs.Texts.{text_total}
use Rattle.book_rows.specs.declared.write.RowName.{RowName}
use Rattle.book_rows.specs.declared.write.RowName.TheVariants.{Given, Made}
use Rattle.book_rows.specs.declared.fault.EditFault.{EditFault}
use Rattle.book_rows.specs.declared.fault.EditFault.TheVariants.{BadId, IdTaken}
use Rattle.book_rows.specs.Kinds.{is_day}
use Rattle.book_rows.specs.Months.{is_month}
use Rattle.book_rows.specs.Tables.{AreNamed}
use Rattle.book_rows.specs.Ids.{month_id}
use Rattle.book_rows.specs.Writes.{IsRowName, IsWriteValue, IsWrite}
use Rattle.book_edits.specs.Faults.{◌>>=◌, Check, must, each}
use Rattle.book_edits.specs.Checks.{may_be_chosen, new_row}
use Rattle.book_edits.specs.Writing.{write, flag, text_or_null, notes_value, id_value}
use Rattle.book_edits.proofs.Passing.{name_of_is, held, there}

-- ---- checks that passed

fault_ok : {A : Type 0} (f : EditFault) (a : A) → Err f ≡ Ok a → ⊥
fault_ok f a h = cc

abbrev value_in : {A : Type 0} → A → Result A EditFault → A
value_in d (Ok a) = a
value_in d (Err f) = d

pub inside : {A : Type 0} (a b : A) → ◌≡◌ {A = Result A EditFault} (Ok a) (Ok b) → a ≡ b
inside a b h = ap (value_in a) h

-- what a chain of checks that passes tells: its first check passed, and then the rest
pub passed : {A B : Type 0} (r : Result A EditFault) (next : A → Result B EditFault) (b : B) → (r >>= next) ≡ Ok b → (a : A) × (r ≡ Ok a) × (next a ≡ Ok b)
passed (Ok a) next b h = (a, refl, h)
passed (Err f) next b h = absurd (fault_ok f b h)

pub was_so : (b : Bool) (f : EditFault) (u : Unit {0}) → must b f ≡ Ok u → b ≡ true
was_so true f u h = refl
was_so false f u h = absurd (fault_ok f u h)

-- ---- values

pub flag_is : (b : Bool) → IsValue (flag b)
flag_is true = held (pos 1) (omega arith)
flag_is false = held (pos 0) (omega arith)

pub text_or_null_is : (t : Option Text) → IsValue (text_or_null t)
text_or_null_is None = tt
text_or_null_is (Some t) = tt

pub notes_is : (t : Text) → IsValue (notes_value t)
notes_is [] = tt
notes_is (x ∷ xs) = tt

pub day_is : (n : ℕ) → is_day n ≡ true → HoldsNumber (pos n)
unfolding is_day
day_is n h =
    let year = leb-true (n / 10000) 2199 (and_parts (nat_le 1970 (n / 10000)) (nat_le (n / 10000) 2199) (and_parts _ _ h).0).1 in
    held (pos n) (omega (arith, year))

pub month_is : (n : ℕ) → is_month n ≡ true → HoldsNumber (pos n)
month_is n h =
    let year = leb-true (n / 100) 2199 (and_parts (nat_le 1970 (n / 100)) (nat_le (n / 100) 2199) (and_parts _ _ h).0).1 in
    held (pos n) (omega (arith, year))

-- ---- names

digit_is : (n : ℕ) → IsNameByte (48 + n % 10)
digit_is n = let small : n % 10 < 10 = mod-lt n (omega arith) in (omega (arith, small), λ e. omega (arith, small, e))

pub month_name : (m : ℕ) → IsName (month_id m)
month_name m = record {
  some = omega arith;
  short = omega arith;
  bytes = All-from_recursion IsNameByte (month_id m) (digit_is _, (digit_is _, (digit_is _, (digit_is _, ((omega arith, λ e. omega (arith, e)), (digit_is _, (digit_is _, tt)))))));
}

-- the id of a row that passes a test is a name
pub name_there : {X : Type 0} (m : Texts X) (p : X → Bool) (id : Text) → AreNamed m → some_and p (map.get m id) ≡ true → IsName id
name_there m p id named h = let x = there p (map.get m id) h in named id x.0 x.1

pub new_row_is : (t : Text → Bool) (id : Option Text) (row : RowName) (n : ℕ) → new_row t id ≡ Ok row → 0 < n → IsRowName n row
new_row_is t None row n h some = subst (IsRowName n) (inside _ _ h) some
new_row_is t (Some id) row n h some =
    let first = passed (must (may_be_chosen id) (BadId id)) _ _ h in
    let second = passed (must (not (t id)) (IdTaken id)) _ _ first.2 in
    let chosen = was_so (may_be_chosen id) (BadId id) first.0 first.1 in
    subst (IsRowName n) (inside _ _ second.2) (name_of_is id (and_parts _ _ chosen).0)

pub id_value_is : (row : RowName) (n : ℕ) → IsRowName n row → IsWriteValue n (id_value row)
id_value_is (Given id) n h = tt
id_value_is (Made at) n h = h

-- ---- writes

pub write_is : (n : ℕ) (dataset : Text) (row : RowName) (column : Text) (value : Value) → name_fault Row dataset ≡ None → IsRowName n row → name_fault Row column ≡ None → IsValue value → IsWrite n (write dataset row column value)
write_is n dataset row column value d r c v = record { dataset = name_without_fault Row dataset d; row = r; column = name_without_fault Row column c; value = v }

pub all_append : {X : Type 0} (P : X → Type 0) (xs ys : List X) → AllByRecursion P xs → AllByRecursion P ys → AllByRecursion P (xs ++ ys)
all_append P [] ys h k = k
all_append P (x ∷ xs) ys h k = (h.0, all_append P xs ys h.1 k)

or_right : (a b : Bool) → b ≡ true → (a || b) ≡ true
or_right true b h = refl
or_right false b h = h

pub all_map : {Y : Type 0} (P : Y → Type 0) (f : Text → Y) (ks : List Text) → ((q : Text) → is_among text_cmp ks q ≡ true → P (f q)) → AllByRecursion P (list_map f ks)
all_map P f [] h = tt
all_map P f (k ∷ ks) h = (h k (ap (λ b. b || is_among text_cmp ks k) ((eq_by_cmp_equiv text_total).refl k)), all_map P f ks (λ q p. h q (or_right (eq_by_cmp text_cmp q k) (is_among text_cmp ks q) p)))

pub all_filter : {X : Type 0} (P : X → Type 0) (p : X → Bool) (xs : List X) → AllByRecursion P xs → AllByRecursion P (filter p xs)
all_filter P p [] h = tt
all_filter P p (x ∷ xs) h = elim (p x) as (λ b. AllByRecursion P (cond b (x ∷ filter p xs) (filter p xs))) [
  | true ↦ (h.0, all_filter P p xs h.1)
  | false ↦ all_filter P p xs h.1
]

pub all_flat : {X Y : Type 0} (P : Y → Type 0) (Q : X → Type 0) (f : X → List Y) (xs : List X) → ((x : X) → Q x → AllByRecursion P (f x)) → AllByRecursion Q xs → AllByRecursion P (flat_map f xs)
all_flat P Q f [] each h = tt
all_flat P Q f (x ∷ xs) each h = all_append P (f x) (flat_map f xs) (each x h.0) (all_flat P Q f xs each h.1)

-- what a check of each that passes tells: it passes for each
pub each_was : {X : Type 0} (check : X → Check) (xs : List X) (u : Unit {0}) → each check xs ≡ Ok u → AllByRecursion (λ x. check x ≡ Ok tt) xs
each_was check [] u h = tt
each_was check (x ∷ xs) u h =
    let first = passed (check x) (λ _. each check xs) u h in
    (first.1, each_was check xs u first.2)
