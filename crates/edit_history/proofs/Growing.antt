-- What grows by one field after the other.
use Rattle.std.proofs.Common.{◌≡◌, ℕ, ◌+◌, ◌<◌, Bool, true, false, cond, List, [], ◌∷◌, ◌++◌, length, take, get_or, refl, ap, sym, ◌∙◌}
use Rattle.std.specs.Prelude.{◌||◌, map}
use Rattle.std.specs.List.{list_any}
use Rattle.std.specs.BTreeMap.{is_at}
use Rattle.std.proofs.lemmas.List.{take_more}
use Rattle.field_values.specs.declared.value.Value.{Value}
use Rattle.field_values.specs.Names.{FieldNames, names_eq, names_cmp}
use Rattle.field_merge.proofs.Orders.{names_alike}
use Rattle.field_merge.specs.declared.message.Message.{Message}
use Rattle.book_rows.specs.Rows.{Values}
use Rattle.edit_history.specs.declared.before.Before.{Before}
use Rattle.edit_history.specs.Undo.{first_of_each, before_of, entry_over, undo_of, undo_values, undo_writes, write_of}
use Rattle.edit_history.proofs.Listing.{wrote, first_wrote, map_plus, any_map, one_more}

-- ---- the fields that were seen

-- one more field is among them
pub seen_more : (k f : FieldNames) (before : Bool) → cond (is_at (names_cmp k) f) true before ≡ cond (names_eq k f) true before
seen_more k f before = ap (λ b. cond b true before) (names_alike k f)

any_snoc : {X : Type 0} (p : X → Bool) (xs : List X) (x : X) → list_any p (xs ++ x ∷ []) ≡ cond (p x) true (list_any p xs)
any_snoc p [] x = by (p x)
  where
    by : (b : Bool) → (b || false) ≡ cond b true false
    by true = refl
    by false = refl
any_snoc p (y ∷ ys) x = ap (λ b. p y || b) (any_snoc p ys x) ∙ by (p y) (p x) (list_any p ys)
  where
    by : (a b c : Bool) → (a || cond b true c) ≡ cond b true (a || c)
    by true true c = refl
    by true false c = refl
    by false b c = refl

-- the fields of a list that has one element more
pub wrote_snoc : {X : Type 0} (field : X → FieldNames) (xs : List X) (x : X) (f : FieldNames) → wrote field (xs ++ x ∷ []) f ≡ cond (names_eq (field x) f) true (wrote field xs f)
wrote_snoc field xs x f = any_snoc (λ y. names_eq (field y) f) xs x

-- ---- an entry

abbrev field_of : Message → FieldNames
field_of m = m.field

pub entry_more : (values : Values) (ms : List Message) (i : ℕ) (m : Message) → i < length ms → m ≡ get_or ms i m
    → entry_over values (map field_of (take i ms)) ++ cond (list_any (λ (b : Before). names_eq b.field m.field) (entry_over values (map field_of (take i ms)))) [] (before_of values m.field ∷ [])
    ≡ entry_over values (map field_of (take (i + 1) ms))
entry_more values ms i m h is =
    let fs = map field_of (take i ms) in
    ap (λ b. entry_over values fs ++ cond b [] (before_of values m.field ∷ [])) (any_map (λ (b : Before). names_eq b.field m.field) (before_of values) (first_of_each (λ f. f) fs) ∙ first_wrote (λ f. f) fs m.field)
    ∙ by (wrote (λ f. f) fs m.field)
    ∙ sym (map_plus (before_of values) (first_of_each (λ f. f) fs) (cond (wrote (λ f. f) fs m.field) [] (m.field ∷ [])))
    ∙ ap (map (before_of values)) (sym (one_more (λ f. f) field_of ms i m h is))
  where
    by : (c : Bool) → entry_over values (map field_of (take i ms)) ++ cond c [] (before_of values m.field ∷ []) ≡ entry_over values (map field_of (take i ms)) ++ map (before_of values) (cond c [] (m.field ∷ []))
    by true = refl
    by false = refl

-- ---- the writes that undo it

abbrev pub first : FieldNames × Value → FieldNames
first e = e.0

pub undo_more : (bs : List Before) (i : ℕ) (b : Before) → i < length bs → b ≡ get_or bs i b
    → undo_writes (take i bs) ++ cond (wrote first (map undo_of (take i bs)) (undo_of b).0) [] (write_of (undo_of b) ∷ []) ≡ undo_writes (take (i + 1) bs)
undo_more bs i b h is =
    by (wrote first (map undo_of (take i bs)) (undo_of b).0)
    ∙ sym (map_plus write_of (undo_values (take i bs)) (cond (wrote first (map undo_of (take i bs)) (undo_of b).0) [] (undo_of b ∷ [])))
    ∙ ap (map write_of) (sym (one_more first undo_of bs i b h is))
  where
    by : (c : Bool) → undo_writes (take i bs) ++ cond c [] (write_of (undo_of b) ∷ []) ≡ undo_writes (take i bs) ++ map write_of (cond c [] (undo_of b ∷ []))
    by true = refl
    by false = refl

pub undo_seen : (bs : List Before) (i : ℕ) (b : Before) (f : FieldNames) → i < length bs → b ≡ get_or bs i b
    → cond (names_eq (undo_of b).0 f) true (wrote first (map undo_of (take i bs)) f) ≡ wrote first (map undo_of (take (i + 1) bs)) f
undo_seen bs i b f h is =
    sym (ap (λ l. wrote first (map undo_of l) f) (take_more bs i b h ∙ ap (λ u. take i bs ++ u ∷ []) (sym is))
    ∙ ap (λ l. wrote first l f) (map_plus undo_of (take i bs) (b ∷ []))
    ∙ wrote_snoc first (map undo_of (take i bs)) (undo_of b) f)
