-- The book of messages, as messages join.
use Rattle.std.proofs.Common.{◌≡◌, Bool, true, false, cond, List, [], ◌∷◌, Option, None, Some, refl, sym, ap, subst, ◌∙◌}
use Rattle.std.specs.Prelude.{◌&&◌, ◌||◌, option_map}
use Rattle.std.specs.Option.{is_some, option_or}
use Rattle.std.specs.List.{AllByRecursion, find, list_any}
use Rattle.field_values.specs.declared.value.Value.{Value}
use Rattle.field_values.specs.Names.{FieldNames, names_cmp, names_eq}
use Rattle.field_merge.specs.declared.message.Message.{Message}
use Rattle.field_merge.specs.Log.{IsByField, fields, has_field, latest, value_in}
use Rattle.field_merge.proofs.Orders.{names_total, names_alike, names_exact}
use Rattle.field_merge.proofs.Members.{none_from_any, or_none}
use Rattle.field_merge.proofs.Ordered.{equal, found_by_key}
use Rattle.field_merge.proofs.Latest.{is_some-latest, latest-cons, latest_there}
use Rattle.field_merge.proofs.Fields.{field_of, fields_in_order, find-fields}
use Rattle.field_merge.proofs.Joining.{in_any_order}
use Rattle.book_rows.specs.declared.rows.Rows.{Rows}
use Rattle.book_rows.specs.Rows.{Values, AreRowsOf, no_rows, with_field, with_value}
use Rattle.book_rows.proofs.Following.{no_fields, one_book, rows_follow}
use Rattle.dirty_cells.specs.Changes.{Change, with_fields as with_changes}
use Rattle.device_core.specs.Books.{with_fields, rows_of, BooksFollowMessages}
use Rattle.device_core.specs.Changes.{AreChangesOf}

abbrev value_of : Message → Value
value_of m = m.value

-- ---- the values that messages leave one after the other

abbrev pub values_after : Values → List Message → Values
values_after values [] = values
values_after values (m ∷ ms) = values_after (with_value values m.field m.value) ms

rows_after : (values : Values) (rows : Rows) (ms : List Message) → AreRowsOf values rows → AreRowsOf (values_after values ms) (with_fields rows ms)
rows_after values rows [] are = are
rows_after values rows (m ∷ ms) are = rows_after (with_value values m.field m.value) (with_field rows m.field m.value) ms (rows_follow values m.field m.value rows are)

-- a field has the value of its latest message, or else that of before
pub after_is : (values : Values) (ms : List Message) (f : FieldNames) → values_after values ms f ≡ option_or (value_in ms f) (values f)
after_is values [] f = refl
after_is values (m ∷ ms) f =
    after_is (with_value values m.field m.value) ms f
    ∙ ap (λ (b : Bool). option_or (value_in ms f) (cond b (Some m.value) (values f))) (sym (names_alike f m.field))
    ∙ two (latest ms f) (has_field f m)
    ∙ ap (λ (o : Option Message). option_or (option_map value_of o) (values f)) (sym (latest-cons m ms f))
  where
    two : (o : Option Message) (b : Bool) → option_or (option_map value_of o) (cond b (Some m.value) (values f)) ≡ option_or (option_map value_of (option_or o (cond b (Some m) None))) (values f)
    two None true = refl
    two None false = refl
    two (Some l) b = refl

-- ---- the latest messages have the same latest messages

last_found : (xs : List Message) → IsByField xs → (f : FieldNames) → latest xs f ≡ find (has_field f) xs
last_found xs s f = go (latest xs f) refl
  where
    go : (o : Option Message) → latest xs f ≡ o → latest xs f ≡ find (has_field f) xs
    go (Some m) e =
        let there = latest_there xs f m e in
        e ∙ sym (subst (λ (g : FieldNames). find (has_field g) xs ≡ Some m) there.1 (found_by_key field_of names_cmp names_total xs s m there.0))
    go None e = e ∙ sym (none_from_any (has_field f) xs (sym (is_some-latest xs f) ∙ ap is_some e))

latest-fields : (ms : List Message) (f : FieldNames) → latest (fields ms) f ≡ latest ms f
latest-fields ms f = last_found (fields ms) (fields_in_order ms) f ∙ find-fields ms f

-- ---- the rows of messages

pub rows_latest : (ms : List Message) → AreRowsOf (value_in ms) (rows_of ms)
rows_latest ms =
    let same : (f : FieldNames) → values_after (λ (f : FieldNames). None) (fields ms) f ≡ value_in ms f =
    λ f. after_is (λ (f : FieldNames). None) (fields ms) f ∙ sym (or_none (value_in (fields ms) f)) ∙ ap (option_map value_of) (latest-fields ms f) in
    subst (λ (values : Values). AreRowsOf values (rows_of ms)) (λ i f. same f i) (rows_after (λ (f : FieldNames). None) no_rows (fields ms) no_fields)

pub same_rows : (ms ns : List Message) → ((f : FieldNames) → value_in ms f ≡ value_in ns f) → rows_of ms ≡ rows_of ns
same_rows ms ns same = one_book (value_in ms) (rows_of ms) (rows_of ns) (rows_latest ms) (subst (λ (values : Values). AreRowsOf values (rows_of ns)) (λ i f. sym (same f) i) (rows_latest ns))

-- ---- the fields whose latest messages changed

-- the values that changes leave
abbrev values_by : Values → List Change → Values
values_by values [] = values
values_by values (c ∷ cs) = values_by (with_value values c.0 c.1) cs

rows_by : (values : Values) (rows : Rows) (cs : List Change) → AreRowsOf values rows → AreRowsOf (values_by values cs) (with_changes rows cs)
rows_by values rows [] are = are
rows_by values rows (c ∷ cs) are = rows_by (with_value values c.0 c.1) (with_field rows c.0 c.1) cs (rows_follow values c.0 c.1 rows are)

-- where changes name each field in which two states differ, with its value in the second, they lead from the first to it
values_told : (after : Values) (values : Values) (cs : List Change) → AllByRecursion (λ c. after c.0 ≡ Some c.1) cs
    → ((f : FieldNames) → list_any (λ c. names_eq f c.0) cs ≡ false → values f ≡ after f) → (f : FieldNames) → values_by values cs f ≡ after f
values_told after values [] all same f = same f refl
values_told after values (c ∷ cs) all same f = values_told after (with_value values c.0 c.1) cs all.1 (λ g none. by g none (names_eq g c.0) refl) f
  where
    by : (g : FieldNames) → list_any (λ d. names_eq g d.0) cs ≡ false → (b : Bool) → names_eq g c.0 ≡ b → cond b (Some c.1) (values g) ≡ after g
    by g none true e = sym all.0 ∙ ap after (sym (names_exact g c.0 (equal _ (names_alike g c.0 ∙ e))))
    by g none false e = same g (ap (λ b. b || list_any (λ d. names_eq g d.0) cs) e ∙ none)

pub rows_changed : (old new : List Message) (changes : List Change) → AreChangesOf old new changes → with_changes (rows_of old) changes ≡ rows_of new
rows_changed old new changes are =
    let told : (f : FieldNames) → values_by (value_in old) changes f ≡ value_in new f =
    values_told (value_in new) (value_in old) changes are.valued (λ f none. ap (option_map value_of) (are.others f none)) in
    one_book (value_in new) (with_changes (rows_of old) changes) (rows_of new)
    (subst (λ (values : Values). AreRowsOf values (with_changes (rows_of old) changes)) (λ i f. told f i) (rows_by (value_in old) (rows_of old) changes (rows_latest old))) (rows_latest new)

pub books_follow : BooksFollowMessages
books_follow = record {
  latest = rows_latest;
  no_other = λ ms rows are. one_book (value_in ms) rows (rows_of ms) are (rows_latest ms);
  same_values = same_rows;
  any_order = λ ms ns ps up one have. ap rows_of (in_any_order ms ns ps up one have);
  changes = rows_changed;
}

-- ---- one message more

set_rows : (old new : List Message) (m : Message) → ((f : FieldNames) → latest new f ≡ cond (has_field f m) (Some m) (latest old f)) → with_field (rows_of old) m.field m.value ≡ rows_of new
set_rows old new m wins =
    one_book (value_in new) (with_field (rows_of old) m.field m.value) (rows_of new)
    (subst (λ (values : Values). AreRowsOf values (with_field (rows_of old) m.field m.value)) (λ i f. same f i) (rows_follow (value_in old) m.field m.value (rows_of old) (rows_latest old))) (rows_latest new)
  where
    by : (b : Bool) (o : Option Message) → cond b (Some m.value) (option_map value_of o) ≡ option_map value_of (cond b (Some m) o)
    by true o = refl
    by false o = refl

    same : (f : FieldNames) → with_value (value_in old) m.field m.value f ≡ value_in new f
    same f = ap (λ (b : Bool). cond b (Some m.value) (value_in old f)) (sym (names_alike f m.field)) ∙ by (has_field f m) (latest old f) ∙ ap (option_map value_of) (sym (wins f))

-- the book of messages with one more is that of before, with the message's field set where the message is now the latest of it
pub one_more : (old new : List Message) (m : Message) (is_latest : Bool) (rows now : Rows) → ((f : FieldNames) → latest new f ≡ cond (is_latest && has_field f m) (Some m) (latest old f))
    → rows ≡ rows_of old → now ≡ cond is_latest (with_field rows m.field m.value) rows → now ≡ rows_of new
one_more old new m true rows now wins before is = is ∙ ap (λ (r : Rows). with_field r m.field m.value) before ∙ set_rows old new m wins
one_more old new m false rows now wins before is = is ∙ before ∙ same_rows old new (λ f. ap (option_map value_of) (sym (wins f)))
