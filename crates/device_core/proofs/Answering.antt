-- Which writes and which messages are accepted, and why the others are refused.
use Rattle.std.proofs.Common.{◌≡◌, inl, inr, ℕ, Bool, true, false, cond, List, [], ◌∷◌, Option, None, Some, Result, Ok, Err, length, refl, sym, ap, ◌∙◌, subst}
use Rattle.std.specs.Prelude.{nat_lt, ◌==◌, position, option_map}
use Rattle.std.specs.Option.{option_or}
use Rattle.field_values.specs.declared.value.Value.{Value}
use Rattle.field_values.specs.declared.name.NamePart.{NamePart}
use Rattle.field_values.specs.declared.name.NamePart.TheVariants.{Dataset, Row, Column}
use Rattle.field_values.specs.declared.name.NameFault.{NameFault}
use Rattle.field_values.specs.declared.name.NameFault.TheVariants.{Empty, TooLong, BadByte}
use Rattle.field_values.specs.Names.{FieldNames, field_of, name_of, AreNames, IsName, is_bad_byte, name_fault, names_fault}
use Rattle.field_values.proofs.NameLemmas.{name_without_fault, name_fault-none, names_without_fault}
use Rattle.hybrid_clock.specs.declared.stamp.Stamp.{Stamp}
use Rattle.hybrid_clock.specs.declared.clock.ClockFault.{ClockFault}
use Rattle.hybrid_clock.specs.Clock.{draw, receive}
use Rattle.field_merge.specs.declared.message.Message.{Message}
use Rattle.book_rows.specs.declared.fault.EditFault.TheVariants.{BadId}
use Rattle.book_rows.specs.declared.write.RowName.TheVariants.{Given}
use Rattle.book_rows.specs.declared.write.Write.{Write}
use Rattle.book_edits.specs.Writing.{write}
use Rattle.book_edits.specs.Edits.{bad_id, write_unless}
use Rattle.device_core.specs.declared.edit.LineRefusal.TheVariants.{Edit as OfEdit}
use Rattle.edit_history.specs.declared.history.Turn.TheVariants.{New}
use Rattle.device_core.specs.Device.{State, written, writing, taken_in, receiving, greatest_of, received}
use Rattle.device_core.specs.Answering.{IsAcceptedAt, IsFirstBadName, WritesAreAnswered, MessagesAreAnswered}

-- ---- the name that is told is the first that is none

told_for : (field : FieldNames) (part : NamePart) (name : List ℕ) (fault : NameFault) → name_fault part name ≡ Some fault → bad_id field fault ≡ BadId (name_of part field)
told_for field part name fault h = go (length name == 0) (nat_lt 255 (length name)) (position is_bad_byte name) h
  where
    go : (empty long : Bool) (at : Option ℕ) → cond empty (Some (Empty part)) (cond long (Some (TooLong part (length name))) (option_map (λ i. BadByte part i) at)) ≡ Some fault
        → bad_id field fault ≡ BadId (name_of part field)
    go true long at e = let same : Empty part ≡ fault = cc in ap (bad_id field) (sym same)
    go false true at e = let same : TooLong part (length name) ≡ fault = cc in ap (bad_id field) (sym same)
    go false false None e = absurd (cc)
    go false false (Some i) e = let same : BadByte part i ≡ fault = cc in ap (bad_id field) (sym same)

no_name : (part : NamePart) (name : List ℕ) (fault : NameFault) → name_fault part name ≡ Some fault → IsName name → ⊥
no_name part name fault h is = let none = name_fault-none part name is in cc

record IsTold (dataset row column : List ℕ) (fault : NameFault) : Type 0 where
  id : List ℕ
  told : bad_id (field_of dataset row column) fault ≡ BadId id
  first : IsFirstBadName dataset row column id

first_told : (dataset row column : List ℕ) (fault : NameFault) → names_fault (field_of dataset row column) ≡ Some fault → IsTold dataset row column fault
first_told dataset row column fault h = go (name_fault Dataset dataset) (name_fault Row row) (name_fault Column column) refl refl refl h
  where
    go : (one two three : Option NameFault) → name_fault Dataset dataset ≡ one → name_fault Row row ≡ two → name_fault Column column ≡ three
        → option_or one (option_or two three) ≡ Some fault → IsTold dataset row column fault
    go (Some x) two three a b c e = let same : x ≡ fault = cc in record {
      id = dataset;
      told = told_for (field_of dataset row column) Dataset dataset fault (a ∙ e);
      first = inl (refl, no_name Dataset dataset x a);
    }
    go None (Some x) three a b c e = record {
      id = row;
      told = told_for (field_of dataset row column) Row row fault (b ∙ e);
      first = inr (inl (name_without_fault Dataset dataset a, (refl, no_name Row row x b)));
    }
    go None None (Some x) a b c e = record {
      id = column;
      told = told_for (field_of dataset row column) Column column fault (c ∙ e);
      first = inr (inr (name_without_fault Dataset dataset a, (name_without_fault Row row b, (refl, no_name Column column x c))));
    }
    go None None None a b c e = absurd (cc)

-- ---- writes

pub no_fault : (names : FieldNames) → AreNames names → names_fault names ≡ None
no_fault names are = rw (name_fault-none Dataset names.dataset are.dataset, name_fault-none Row names.row are.row) (name_fault-none Column names.column are.column)

named : (s : State) (reading : ℕ) (names : FieldNames) (value : Value) → AreNames names
    → writing s New reading (write_unless (names_fault names) names value) ≡ written s New (write names.dataset (Given names.row) names.column value ∷ []) (draw s.clock reading 1)
named s reading names value are = ap (λ o. writing s New reading (write_unless o names value)) (no_fault names are)

no_bad_id : (s : State) (ws : List Write) (r : Result Stamp ClockFault) (id : List ℕ) → written s New ws r ≡ Err (OfEdit (BadId id)) → ⊥
no_bad_id s ws (Ok clock) id h = cc
no_bad_id s ws (Err fault) id h = cc

refused_for : (s : State) (dataset row column : List ℕ) (value : Value) (reading : ℕ) (fault : NameFault) → names_fault (field_of dataset row column) ≡ Some fault
    → writing s New reading (write_unless (names_fault (field_of dataset row column)) (field_of dataset row column) value) ≡ Err (OfEdit (bad_id (field_of dataset row column) fault))
refused_for s dataset row column value reading fault h = ap (λ o. writing s New reading (write_unless o (field_of dataset row column) value)) h

pub writes_answered : WritesAreAnswered
writes_answered s dataset row column value reading =
    let names : FieldNames = field_of dataset row column in
    let ws : List Write = write dataset (Given row) column value ∷ [] in record {
      accepted = λ clock are drawn. (_, (named s reading names value are ∙ ap (written s New ws) drawn, refl));
      no_stamp = λ fault are drawn. named s reading names value are ∙ ap (written s New ws) drawn;
      bad_name = λ bad. refused bad (names_fault (field_of dataset row column)) refl;
      first_bad = λ id h. first id (names_fault (field_of dataset row column)) refl h;
    }
  where
    refused : (AreNames (field_of dataset row column) → ⊥) → (o : Option NameFault) → names_fault (field_of dataset row column) ≡ o
        → (id : List ℕ) × (writing s New reading (write_unless (names_fault (field_of dataset row column)) (field_of dataset row column) value) ≡ Err (OfEdit (BadId id)))
    refused bad None is = absurd (bad (names_without_fault (field_of dataset row column) is))
    refused bad (Some fault) is =
        let t = first_told dataset row column fault is in
        (t.id, refused_for s dataset row column value reading fault is ∙ ap (λ f. Err (OfEdit f)) t.told)

    first : (id : List ℕ) (o : Option NameFault) → names_fault (field_of dataset row column) ≡ o
        → writing s New reading (write_unless o (field_of dataset row column) value) ≡ Err (OfEdit (BadId id)) → IsFirstBadName dataset row column id
    first id None is h = absurd (no_bad_id s (write dataset (Given row) column value ∷ []) (draw s.clock reading 1) id h)
    first id (Some fault) is h =
        let t = first_told dataset row column fault is in
        let told = t.told in
        let same : t.id ≡ id = cc in
        subst (IsFirstBadName dataset row column) same t.first

-- ---- messages

at_greatest : (s : State) (ns : List Message) (reading : ℕ) (t : Stamp) (r : Result Stamp ClockFault) → greatest_of ns ≡ Some t → receive s.clock reading t ≡ r → received s ns reading ≡ taken_in s ns r
at_greatest s ns reading t r is drawn = ap (receiving s ns reading) is ∙ ap (taken_in s ns) drawn

none_answered : (s : State) (reading : ℕ) → IsAcceptedAt (received s [] reading) s.clock
none_answered s reading = (_, (refl, refl))

pub messages_answered : MessagesAreAnswered
messages_answered s ns reading = record {
  accepted = λ t clock is drawn. (_, (at_greatest s ns reading t (Ok clock) is drawn, refl));
  no_stamp = λ t fault is drawn. at_greatest s ns reading t (Err fault) is drawn;
  none = λ none. subst (λ l. IsAcceptedAt (received s l reading) s.clock) (sym none) (none_answered s reading);
}
