-- The writes of an import are valid.
use Rattle.std.proofs.Common.{◌≡◌, ℕ, suc, ◌+◌, ◌<◌, ◌≤◌, Bool, true, false, cond, List, [], ◌∷◌, ◌++◌, length, length-append, map, Option, None, Some, Ok, refl, sym, ap, ◌∙◌, subst, arith}
use lib.IntN.{pos}
use Rattle.std.specs.Prelude.{codes}
use Rattle.std.specs.List.{AllByRecursion, fold}
use Rattle.std.specs.Option.{option_map}
use Rattle.std.specs.FinMap as finite
use Rattle.field_values.specs.declared.name.NamePart.TheVariants.{Row}
use Rattle.field_values.specs.Names.{IsName, name_fault}
use Rattle.field_values.specs.Value.{IsValue, HoldsNumber}
use Rattle.field_values.specs.declared.value.Value.TheVariants.{Number, Text as IsText}
use Rattle.field_values.proofs.NameLemmas.{name_without_fault}
use Rattle.finite_sums.specs.Maps.{Text}
use Rattle.book_rows.specs.declared.rows.Rows.{Rows}
use Rattle.book_rows.specs.declared.rows.TxRow.{TxRow}
use Rattle.book_rows.specs.declared.write.RowName.{RowName}
use Rattle.book_rows.specs.declared.write.RowName.TheVariants.{Given, Made}
use Rattle.book_rows.specs.declared.write.WriteValue.{WriteValue}
use Rattle.book_rows.specs.declared.write.WriteValue.TheVariants.{Plain, IdOf}
use Rattle.book_rows.specs.declared.write.Write.{Write}
use Rattle.book_rows.specs.Named.{HasNames}
use Rattle.book_rows.specs.Writes.{IsRowName, IsWriteValue, IsWrite, AreWrites}
use Rattle.book_edits.specs.Checks.{live_account, same_id}
use Rattle.book_edits.specs.Writing.{flag, text_or_null}
use Rattle.book_edits.proofs.Valid.{inside, passed, flag_is, text_or_null_is, write_is, all_append}
use Rattle.split_transfer.specs.Writing.{day_or_null}
use Rattle.rule_engine.specs.declared.rule.Action.{Action}
use Rattle.rule_engine.specs.declared.rule.Action.TheVariants.{SetDescription, SetCategory, SetNotes, SetCleared, PrependNotes, AppendNotes, LinkSchedule}
use Rattle.rule_engine.specs.declared.rule.Rule.{Rule}
use Rattle.rule_engine.specs.Conditions.{folded}
use Rattle.rule_engine.specs.Running.{fires, acted, applied, run, rules_of}
use Rattle.bank_import.specs.declared.edit.ImportEdit.{ImportEdit}
use Rattle.bank_import.specs.declared.entry.Entry.{Entry}
use Rattle.bank_import.specs.declared.drafts.Draft.{Draft}
use Rattle.bank_import.specs.Statement.{statement, HasNumbers}
use Rattle.bank_import.specs.Matching.{matched}
use Rattle.bank_import.specs.Drafts.{draft_of, new_tx, payee_of, place_from, place_of, new_names}
use Rattle.bank_import.specs.Edits.{value_write, text_write, missing, payee_by, payee_value, takes_none, missing_category, texts_writes, clearing, filling, entry_writes, making, filling_at, record_writes, payee_writes, records_writes, drafts_writes, entries_writes, import_writes}

-- ---- rules leave the amount and the day

record Keeps (x y : TxRow) : Type 0 where
  amount : y.amount ≡ x.amount
  date : y.date ≡ x.date

keeps : (x : TxRow) → Keeps x x
keeps x = record { amount = refl; date = refl }

keeps_cond : (b : Bool) (x y z : TxRow) → Keeps x y → Keeps x z → Keeps x (cond b y z)
keeps_cond true x y z h k = h
keeps_cond false x y z h k = k

keeps_trans : (x y z : TxRow) → Keeps x y → Keeps y z → Keeps x z
keeps_trans x y z h k = record { amount = k.amount ∙ h.amount; date = k.date ∙ h.date }

acted_keeps : (rows : Rows) (x : TxRow) (a : Action) → Keeps x (acted rows x a)
unfolding acted
acted_keeps rows x (SetDescription payee) = keeps_cond _ x (record x { description = payee }) x (record { amount = refl; date = refl }) (keeps x)
acted_keeps rows x (SetCategory category) = keeps_cond _ x (record x { category = category }) x (record { amount = refl; date = refl }) (keeps x)
acted_keeps rows x (SetNotes text) = record { amount = refl; date = refl }
acted_keeps rows x (SetCleared set) = record { amount = refl; date = refl }
acted_keeps rows x (PrependNotes text) = record { amount = refl; date = refl }
acted_keeps rows x (AppendNotes text) = record { amount = refl; date = refl }
acted_keeps rows x (LinkSchedule id) = record { amount = refl; date = refl }

fold_keeps : {A : Type 0} (f : TxRow → A → TxRow) → ((x : TxRow) (a : A) → Keeps x (f x a)) → (x : TxRow) (xs : List A) → Keeps x (fold f x xs)
fold_keeps f each x [] = keeps x
fold_keeps f each x (a ∷ xs) = keeps_trans x (f x a) (fold f (f x a) xs) (each x a) (fold_keeps f each (f x a) xs)

applied_keeps : (rows : Rows) (x : TxRow) (r : Rule) → Keeps x (applied rows x r)
unfolding applied
applied_keeps rows x r = keeps_cond (fires rows r x) x (fold (acted rows) x r.actions) x (fold_keeps (acted rows) (acted_keeps rows) x r.actions) (keeps x)

run_keeps : (rows : Rows) (rules : List Rule) (x : TxRow) → Keeps x (run rows rules x)
unfolding run
run_keeps rows rules x = fold_keeps (applied rows) (applied_keeps rows) x rules

-- ---- drafts

-- the amount and the day of a draft are numbers that a value holds
pub record IsDraft (d : Draft) : Type 0 where
  pub amount : HoldsNumber d.row.amount
  pub date : (day : ℕ) → d.row.date ≡ Some day → HoldsNumber (pos day)

some_is : {A : Type 0} (d x y : A) → Some x ≡ Some y → x ≡ y
some_is d x y e = ap (or_this d) e
  where
    or_this : {A : Type 0} → A → Option A → A
    or_this d None = d
    or_this d (Some x) = x

draft_is : (rows : Rows) (account : Text) (e : Entry) → HasNumbers e → IsDraft (draft_of rows account e)
unfolding draft_of
draft_is rows account e h =
    let k = run_keeps rows (rules_of rows) (new_tx account (payee_of rows e) e) in
    record {
      amount = subst HoldsNumber (sym k.amount) h.amount;
      date = λ day is. subst (λ (n : ℕ). HoldsNumber (pos n)) (some_is day e.date day (sym k.date ∙ is)) h.date;
    }

drafts_are : (rows : Rows) (account : Text) (es : List Entry) → AllByRecursion HasNumbers es → AllByRecursion IsDraft (map (draft_of rows account) es)
drafts_are rows account [] h = tt
drafts_are rows account (e ∷ es) h = (draft_is rows account e h.0, drafts_are rows account es h.1)

-- ---- values

abbrev All : ℕ → List Write → Type 0
All n ws = AllByRecursion (IsWrite n) ws

value_valid : (n : ℕ) (row : RowName) (column : Text) (value : Option WriteValue) → IsRowName n row → name_fault Row column ≡ None
    → ((v : WriteValue) → value ≡ Some v → IsWriteValue n v) → All n (value_write row column value)
value_valid n row column None r c v = tt
value_valid n row column (Some value) r c v = (record { dataset = name_without_fault Row (codes "transactions") refl; row = r; column = name_without_fault Row column c; value = v value refl }, tt)

text_valid : (n : ℕ) (row : RowName) (column : Text) (text : Option Text) → IsRowName n row → name_fault Row column ≡ None → All n (text_write row column text)
text_valid n row column None r c = tt
text_valid n row column (Some t) r c = (write_is n (codes "transactions") row column (IsText t) refl r c tt, tt)

texts_valid : (n : ℕ) (row : RowName) (notes imported id schedule : Option Text) → IsRowName n row → All n (texts_writes row notes imported id schedule)
texts_valid n row notes imported id schedule r =
    all_append (IsWrite n) _ _ (all_append (IsWrite n) _ _ (all_append (IsWrite n) _ _ (text_valid n row (codes "notes") notes r refl) (text_valid n row (codes "imported_description") imported r refl))
    (text_valid n row (codes "financial_id") id r refl)) (text_valid n row (codes "schedule") schedule r refl)

clearing_valid : (n : ℕ) (row : RowName) (known : Bool) → IsRowName n row → All n (clearing row known)
clearing_valid n row true r = tt
clearing_valid n row false r = (write_is n (codes "transactions") row (codes "cleared") (flag true) refl r refl (flag_is true), tt)

-- a place is that of a name
place_below : (k : ℕ) (names : List Text) (key : Text) (at : ℕ) → place_from k names key ≡ Some at → at < k + length names
place_below k [] key at h = absurd (let bad : None ≡ Some at = h in cc)
place_below k (name ∷ names) key at h = by (same_id (folded name) key) (place_below (k + 1) names key at) h
  where
    by : (b : Bool) → (place_from (k + 1) names key ≡ Some at → at < k + 1 + length names) → cond b (Some k) (place_from (k + 1) names key) ≡ Some at → at < k + suc (length names)
    by true rest e = let s : k ≡ at = some_is at k at e in omega (arith, s)
    by false rest e = let l = rest e in omega (arith, l)

payee_valid : (n : ℕ) (names : List Text) (wanted own : Option Text) → length names ≤ n → (v : WriteValue) → payee_by names wanted own ≡ Some v → IsWriteValue n v
payee_valid n names None None few v h = absurd (let bad : None ≡ Some v = h in cc)
payee_valid n names None (Some id) few v h = subst (IsWriteValue n) (some_is v (Plain (IsText id)) v h) tt
payee_valid n names (Some name) own few v h = by (place_of names (folded name)) refl h
  where
    by : (o : Option ℕ) → place_of names (folded name) ≡ o → option_map (λ at. IdOf at) o ≡ Some v → IsWriteValue n v
    by None e k = absurd (let bad : None ≡ Some v = k in cc)
    by (Some at) e k = let l = place_below 0 names (folded name) at e in subst (IsWriteValue n) (some_is v (IdOf at) v k) (omega (arith, l, few))

missing_is : (own : Option Text) (new : Option WriteValue) (v : WriteValue) → missing own new ≡ Some v → new ≡ Some v
missing_is None new v h = h
missing_is (Some t) new v h = absurd (let bad : None ≡ Some v = h in cc)

day_valid : (d : Draft) → IsDraft d → (o : Option ℕ) → d.row.date ≡ o → IsValue (day_or_null o)
day_valid d h None e = tt
day_valid d h (Some day) e = h.date day e

-- ---- records

module _ (rows : Rows) (named : HasNames rows) (n : ℕ) (names : List Text) (few : length names ≤ n) where
  filling_valid : (id : Text) (x : TxRow) (d : Draft) → IsName id → All n (filling rows names id x d)
  unfolding filling
  filling_valid id x d name =
      let payee = value_valid n (Given id) (codes "description") (missing x.description (payee_value names d)) name refl
      (λ v h. payee_valid n names d.wanted d.row.description few v (missing_is x.description (payee_value names d) v h)) in
      let category = text_valid n (Given id) (codes "category") (missing_category (takes_none rows id x) x.category d.row.category) name refl in
      let texts = texts_valid n (Given id) (missing x.notes d.row.notes) (missing x.imported_description d.row.imported_description) (missing x.financial_id d.row.financial_id) (missing x.schedule d.row.schedule) name in
      all_append (IsWrite n) _ _ (all_append (IsWrite n) _ _ (all_append (IsWrite n) _ _ payee category) texts) (clearing_valid n (Given id) x.cleared name)

  making_valid : (at : ℕ) (d : Draft) → IsDraft d → at < n → All n (making names at d)
  unfolding making
  making_valid at d is below =
      let entry : All n (entry_writes (Made at) d.row) = (
        write_is n (codes "transactions") (Made at) (codes "acct") (text_or_null d.row.acct) refl below refl (text_or_null_is d.row.acct),
        (
          write_is n (codes "transactions") (Made at) (codes "date") (day_or_null d.row.date) refl below refl (day_valid d is d.row.date refl),
          (write_is n (codes "transactions") (Made at) (codes "amount") (Number d.row.amount) refl below refl is.amount, tt),
        ),
      ) in
      let payee = value_valid n (Made at) (codes "description") (payee_value names d) below refl (payee_valid n names d.wanted d.row.description few) in
      let category = text_valid n (Made at) (codes "category") d.row.category below refl in
      let texts = texts_valid n (Made at) d.row.notes d.row.imported_description d.row.financial_id d.row.schedule below in
      let a = entry_writes (Made at) d.row in
      let b = value_write (Made at) (codes "description") (payee_value names d) in
      let c = text_write (Made at) (codes "category") d.row.category in
      let e = texts_writes (Made at) d.row.notes d.row.imported_description d.row.financial_id d.row.schedule in
      let f = clearing (Made at) false in
      all_append (IsWrite n) (((a ++ b) ++ c) ++ e) f
      (all_append (IsWrite n) ((a ++ b) ++ c) e (all_append (IsWrite n) (a ++ b) c (all_append (IsWrite n) a b entry payee) category) texts)
      (clearing_valid n (Made at) false below)

  -- a new transaction has writes
  making_some : (at : ℕ) (d : Draft) → 0 < length (making names at d)
  unfolding making
  making_some at d = omega arith

  record_valid : (at : ℕ) (d : Draft) (m : Option Text) → IsDraft d → at + length (record_writes rows names at d m) ≤ n → All n (record_writes rows names at d m)
  record_valid at d None is room = let some = making_some at d in making_valid at d is (omega (arith, some, room))
  record_valid at d (Some id) is room = by (finite.get rows.txs id) refl
    where
      by : (o : Option TxRow) → finite.get rows.txs id ≡ o → All n (filling_at rows names id d o)
      by None e = tt
      by (Some x) e = filling_valid id x d (named.txs id x e)

  records_valid : (at : ℕ) (ds : List Draft) (ms : List (Option Text)) → AllByRecursion IsDraft ds → at + length (records_writes rows names at ds ms) ≤ n → All n (records_writes rows names at ds ms)
  records_valid at [] ms is room = tt
  records_valid at (d ∷ ds) [] is room = tt
  records_valid at (d ∷ ds) (m ∷ ms) is room =
      let first = record_writes rows names at d m in
      let rest = records_writes rows names (at + length first) ds ms in
      let both : length (first ++ rest) ≡ length first + length rest = length-append first rest in
      all_append (IsWrite n) first rest (record_valid at d m is.0 (omega (arith, both, room))) (records_valid (at + length first) ds ms is.1 (omega (arith, both, room)))

-- ---- payees

payees_valid : (n at : ℕ) (names : List Text) → at + length names ≤ n → All n (payee_writes at names)
payees_valid n at [] room = tt
payees_valid n at (name ∷ names) room =
    let here : at < n = omega (arith, room) in
    (write_is n (codes "payees") (Made at) (codes "name") (IsText name) refl here refl tt, payees_valid n (at + 1) names (omega (arith, room)))

pub payees_length : (at : ℕ) (names : List Text) → length (payee_writes at names) ≡ length names
payees_length at [] = refl
payees_length at (name ∷ names) = ap suc (payees_length (at + 1) names)

-- ---- all writes

drafts_valid : (rows : Rows) → HasNames rows → (account : Text) (ds : List Draft) → AllByRecursion IsDraft ds → AreWrites (drafts_writes rows account ds)
drafts_valid rows named account ds is =
    let names = new_names ds in
    let first = payee_writes 0 names in
    let rest = records_writes rows names (length names) ds (matched rows account (map (λ (d : Draft). d.row) ds)) in
    let n = length (first ++ rest) in
    let both : length (first ++ rest) ≡ length first + length rest = length-append first rest in
    let few = payees_length 0 names in
    all_append (IsWrite n) first rest (payees_valid n 0 names (omega (arith, both, few))) (records_valid rows named n names (omega (arith, both, few)) (length names) ds _ is (omega (arith, both, few)))

pub writes_valid : (rows : Rows) → HasNames rows → (account : Text) (es : List Entry) → AllByRecursion HasNumbers es → AreWrites (entries_writes rows account es)
writes_valid rows named account es h = drafts_valid rows named account (map (draft_of rows account) es) (drafts_are rows account es h)

pub import_valid : (rows : Rows) → HasNames rows → (edit : ImportEdit) (ws : List Write) → ((es : List Entry) → statement edit.statement ≡ Ok es → AllByRecursion HasNumbers es) → import_writes rows edit ≡ Ok ws → AreWrites ws
import_valid rows named edit ws numbers h =
    let p = passed (live_account rows edit.account) _ _ h in
    let q = passed (statement edit.statement) _ _ p.2 in
    subst AreWrites (inside _ _ q.2) (writes_valid rows named edit.account q.0 (numbers q.0 q.1))

pub same_entries : (text : Text) (read : List Entry) → statement text ≡ Ok read → AllByRecursion HasNumbers read → (es : List Entry) → statement text ≡ Ok es → AllByRecursion HasNumbers es
same_entries text read e h es f = subst (AllByRecursion HasNumbers) (inside read es (sym e ∙ f)) h
