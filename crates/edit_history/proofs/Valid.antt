-- Entries and the writes that undo them are valid.
use Rattle.std.proofs.Common.{◌≡◌, ◌≢◌, ℕ, ◌<◌, ◌≤◌, Bool, true, false, cond, List, [], ◌∷◌, length, map, Option, Some, None, refl, sym, subst, arith}
use Rattle.std.specs.Prelude.{not, ◌&&◌, codes, pos, option_map}
use Rattle.field_values.specs.declared.name.NamePart.TheVariants.{Column}
use Rattle.field_values.specs.declared.value.Value.{Value}
use Rattle.field_values.specs.declared.value.Value.TheVariants.{Number}
use Rattle.field_values.specs.Names.{FieldNames, AreNames}
use Rattle.field_values.specs.Value.{IsValue}
use Rattle.field_values.proofs.NameLemmas.{name_without_fault}
use Rattle.field_merge.specs.declared.message.Message.{Message}
use Rattle.field_merge.specs.Messages.{IsMessage, AreMessages}
use Rattle.field_merge.specs.Log.{latest, value_in}
use Rattle.field_merge.proofs.Latest.{latest_there}
use Rattle.field_merge.proofs.Members.{all_of}
use Rattle.book_rows.specs.declared.kind.Kind.{Kind}
use Rattle.book_rows.specs.declared.kind.Kind.TheVariants.{Flag, Int, Text, Day}
use Rattle.book_rows.specs.Rows.{kind_of, has_tombstone}
use Rattle.book_rows.specs.Writes.{IsWrite, AreWrites}
use Rattle.edit_history.specs.declared.before.Before.{Before}
use Rattle.edit_history.specs.Undo.{first_of_each, before_of, entry_over, tombstone_of, blank_of, undo_to, undo_of, undo_values, undo_writes, write_of}
use Rattle.edit_history.specs.History.{IsBefore, IsEntry}
use Rattle.edit_history.proofs.Listing.{all_first, all_map, first_few, first_some, map_length}

-- ---- the writes that undo an entry

-- a field and the value that it gets
record AreGood (e : FieldNames × Value) : Type 0 where
  names : AreNames e.0
  value : IsValue e.1

zero_is : IsValue (Number (pos 0))
zero_is = record { low = omega arith; high = omega arith }

one_is : IsValue (Number (pos 1))
one_is = record { low = omega arith; high = omega arith }

blank_good : (k : Option Kind) → IsValue (blank_of k)
blank_good (Some Flag) = zero_is
blank_good (Some Int) = zero_is
blank_good (Some Text) = tt
blank_good (Some Day) = tt
blank_good None = tt

undo_good : (f : FieldNames) (was_there : Bool) (o : Option Value) → AreNames f → ((v : Value) → o ≡ Some v → IsValue v) → AreGood (undo_to f was_there o)
undo_good f was_there (Some v) names value = record { names = names; value = value v refl }
undo_good f was_there None names value = by (not was_there && has_tombstone f.dataset)
  where
    by : (b : Bool) → AreGood (cond b (tombstone_of f, Number (pos 1)) (f, blank_of (kind_of f.dataset f.column)))
    by true = record { names = record { dataset = names.dataset; row = names.row; column = name_without_fault Column (codes "tombstone") refl }; value = one_is }
    by false = record { names = names; value = blank_good (kind_of f.dataset f.column) }

write_good : (n : ℕ) (e : FieldNames × Value) → AreGood e → IsWrite n (write_of e)
write_good n e good = record { dataset = good.names.dataset; row = good.names.row; column = good.names.column; value = good.value }

pub undo_valid : (bs : List Before) → IsEntry bs → AreWrites (undo_writes bs)
undo_valid bs is =
    all_map (IsWrite (length (undo_writes bs))) AreGood write_of (undo_values bs) (write_good (length (undo_writes bs)))
    (all_first AreGood (λ e. e.0) (map undo_of bs)
    (all_map AreGood IsBefore undo_of bs (λ b good. undo_good b.field b.was_there b.value good.field good.value) is.valid))

undo_length : (bs : List Before) → length (undo_writes bs) ≡ length (undo_values bs)
undo_length bs = map_length write_of (undo_values bs)

pub undo_some : (bs : List Before) → IsEntry bs → 0 < length (undo_writes bs)
undo_some bs is =
    let some : 0 < length (map undo_of bs) = subst (λ n. 0 < n) (sym (map_length undo_of bs)) is.some in
    subst (λ n. 0 < n) (sym (undo_length bs)) (first_some (λ e. e.0) (map undo_of bs) some)

pub undo_few : (bs : List Before) → IsEntry bs → length (undo_writes bs) ≤ 65_536
undo_few bs is =
    let few : length (undo_values bs) ≤ length (map undo_of bs) = first_few (λ e. e.0) (map undo_of bs) in
    let same = map_length undo_of bs in
    let own = undo_length bs in
    let most = is.few in
    omega (arith, few, same, own, most)

-- ---- an entry

value_good : (ms : List Message) (f : FieldNames) (v : Value) → AreMessages ms → value_in ms f ≡ Some v → IsValue v
value_good ms f v are h = by (latest ms f) refl h
  where
    by : (o : Option Message) → latest ms f ≡ o → option_map (λ (m : Message). m.value) o ≡ Some v → IsValue v
    by None e h = absurd (cc)
    by (Some m) e h =
        let there = latest_there ms f m e in
        let is : m.value ≡ v = cc in
        subst IsValue is (all_of IsMessage ms are m there.0).value

before_good : (ms : List Message) → AreMessages ms → (f : FieldNames) → AreNames f → IsBefore (before_of (value_in ms) f)
before_good ms are f names = record { field = names; value = λ v h. value_good ms f v are h }

pub entry_valid : (ms ns : List Message) → AreMessages ms → AreMessages ns → ns ≢ [] → length ns ≤ 65_536 → IsEntry (entry_over (value_in ms) (map (λ (n : Message). n.field) ns))
entry_valid ms ns of_ms of_ns some few =
    let fs : List FieldNames = map (λ (n : Message). n.field) ns in
    let own = map_length (before_of (value_in ms)) (first_of_each (λ f. f) fs) in
    let all = map_length (λ (n : Message). n.field) ns in
    let less = first_few (λ f. f) fs in record {
      some = subst (λ n. 0 < n) (sym own) (first_some (λ f. f) fs (subst (λ n. 0 < n) (sym all) (not_none ns some)));
      few = omega (arith, own, all, less, few);
      valid = all_map IsBefore AreNames (before_of (value_in ms)) (first_of_each (λ f. f) fs) (before_good ms of_ms)
          (all_first AreNames (λ f. f) fs (all_map AreNames IsMessage (λ (n : Message). n.field) ns (λ n is. is.field) of_ns));
    }
  where
    not_none : (ns : List Message) → ns ≢ [] → 0 < length ns
    not_none [] some = absurd (some refl)
    not_none (n ∷ ns) some = omega arith
