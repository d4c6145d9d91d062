-- What the writes of an import leave of other datasets, and of payees.
use Rattle.std.proofs.Common.{◌≡◌, ℕ, zero, suc, ◌+◌, ◌<◌, ◌≤◌, Bool, true, false, cond, List, [], ◌∷◌, ◌++◌, length, Option, Some, None, refl, sym, ap, ◌∙◌, subst, arith, codes}
use Rattle.std.specs.Prelude.{unwrap_or}
use Rattle.std.specs.List.{AllByRecursion, slice_get}
use Rattle.std.specs.FinMap.{get, insert, get-insert}
use Rattle.field_values.specs.declared.value.Value.{Value}
use Rattle.field_values.specs.declared.value.Value.TheVariants.{Text as IsText}
use Rattle.finite_sums.specs.Maps.{Text, Texts}
use Rattle.finite_sums.proofs.Texts.{text_total}
use Rattle.book_rows.specs.declared.column.Column.{Column}
use Rattle.book_rows.specs.declared.column.Column.TheVariants as of
use Rattle.book_rows.specs.declared.column.Dataset.TheVariants.{Payees, Transactions}
use Rattle.book_rows.specs.declared.rows.Rows.{Rows}
use Rattle.book_rows.specs.declared.rows.PayeeRow.{PayeeRow}
use Rattle.book_rows.specs.declared.rows.TxRow.{TxRow}
use Rattle.book_rows.specs.declared.write.RowName.{RowName}
use Rattle.book_rows.specs.declared.write.RowName.TheVariants.{Given, Made}
use Rattle.book_rows.specs.declared.write.WriteValue.{WriteValue}
use Rattle.book_rows.specs.declared.write.Write.{Write}
use Rattle.book_rows.specs.Columns.{dataset_of, column_of}
use Rattle.book_rows.specs.Rows.{with_known}
use Rattle.book_rows.specs.Rules.{payee_table}
use Rattle.book_rows.specs.Tables.{blank_row}
use Rattle.book_rows.proofs.Naming.{dataset_found, column_found}
use Rattle.book_edits.specs.Checks.{same_id}
use Rattle.book_edits.specs.Writing.{write}
use Rattle.book_edits.proofs.Valid.{all_append}
use Rattle.split_transfer.specs.After.{Ids, row_of, value_in, with_write, with_writes}
use Rattle.bank_import.specs.declared.drafts.Draft.{Draft}
use Rattle.bank_import.specs.Edits.{value_write, text_write, missing, payee_value, takes_none, missing_category, texts_writes, clearing, filling, entry_writes, making, filling_at, record_writes, payee_writes, records_writes}
use Rattle.bank_import.proofs.Nearest.{id_same, id_itself}
use Rattle.bank_import.proofs.Outs.{is_not}

-- the later rows have the accounts, the categories, the rules and the mappings of the earlier ones
pub record SameElse (r s : Rows) : Type 0 where
  pub accounts : s.accounts ≡ r.accounts
  pub groups : s.groups ≡ r.groups
  pub categories : s.categories ≡ r.categories
  pub rules : s.rules ≡ r.rules
  pub category_mappings : s.category_mappings ≡ r.category_mappings
  pub payee_mappings : s.payee_mappings ≡ r.payee_mappings

same_else : (r : Rows) → SameElse r r
same_else r = record { accounts = refl; groups = refl; categories = refl; rules = refl; category_mappings = refl; payee_mappings = refl }

pub then_else : (r s t : Rows) → SameElse r s → SameElse s t → SameElse r t
then_else r s t a b = record {
  accounts = b.accounts ∙ a.accounts;
  groups = b.groups ∙ a.groups;
  categories = b.categories ∙ a.categories;
  rules = b.rules ∙ a.rules;
  category_mappings = b.category_mappings ∙ a.category_mappings;
  payee_mappings = b.payee_mappings ∙ a.payee_mappings;
}

-- ---- writes into transactions

abbrev pub IsOfTxs : Write → Type 0
IsOfTxs w = w.dataset ≡ codes "transactions"

-- accounts, groups, categories, rules, mappings and payees stay
record OnlyTxs (r s : Rows) : Type 0 where
  kept : SameElse r s
  payees : s.payees ≡ r.payees

only_known : (c : Option Column) (id : Text) (v : Value) (r : Rows) → OnlyTxs r (with_known (Some Transactions) c id v r)
only_known None id v r = record { kept = same_else r; payees = refl }
only_known (Some c) id v r = record { kept = record { accounts = refl; groups = refl; categories = refl; rules = refl; category_mappings = refl; payee_mappings = refl }; payees = refl }

only_write : (ids : Ids) (r : Rows) (w : Write) → IsOfTxs w → OnlyTxs r (with_write ids r w)
only_write ids r w is =
    subst (λ s. OnlyTxs r s)
    (sym (ap (λ t. with_known (dataset_of t) (column_of w.column) (row_of ids w.row) (value_in ids w.value) r) is
    ∙ ap (λ d. with_known d (column_of w.column) (row_of ids w.row) (value_in ids w.value) r) (dataset_found Transactions)))
    (only_known (column_of w.column) (row_of ids w.row) (value_in ids w.value) r)

only_writes : (ids : Ids) (ws : List Write) (r : Rows) → AllByRecursion IsOfTxs ws → OnlyTxs r (with_writes ids r ws)
only_writes ids [] r h = record { kept = same_else r; payees = refl }
only_writes ids (w ∷ ws) r h =
    let a = only_write ids r w h.0 in
    let b = only_writes ids ws (with_write ids r w) h.1 in
    record { kept = then_else r (with_write ids r w) (with_writes ids (with_write ids r w) ws) a.kept b.kept; payees = b.payees ∙ a.payees }

abbrev AreOfTxs : List Write → Type 0
AreOfTxs ws = AllByRecursion IsOfTxs ws

value_of_txs : (row : RowName) (column : Text) (v : Option WriteValue) → AreOfTxs (value_write row column v)
value_of_txs row column None = tt
value_of_txs row column (Some v) = (refl, tt)

text_of_txs : (row : RowName) (column : Text) (t : Option Text) → AreOfTxs (text_write row column t)
text_of_txs row column None = tt
text_of_txs row column (Some t) = (refl, tt)

texts_of_txs : (row : RowName) (n i f s : Option Text) → AreOfTxs (texts_writes row n i f s)
texts_of_txs row n i f s =
    all_append IsOfTxs _ _ (all_append IsOfTxs _ _ (all_append IsOfTxs _ _ (text_of_txs row (codes "notes") n) (text_of_txs row (codes "imported_description") i))
    (text_of_txs row (codes "financial_id") f)) (text_of_txs row (codes "schedule") s)

clearing_of_txs : (row : RowName) (known : Bool) → AreOfTxs (clearing row known)
clearing_of_txs row true = tt
clearing_of_txs row false = (refl, tt)

module _ (rows : Rows) (names : List Text) where
  filling_of_txs : (id : Text) (x : TxRow) (d : Draft) → AreOfTxs (filling rows names id x d)
  unfolding filling
  filling_of_txs id x d =
      all_append IsOfTxs _ _ (all_append IsOfTxs _ _ (all_append IsOfTxs _ _
      (value_of_txs (Given id) (codes "description") (missing x.description (payee_value names d)))
      (text_of_txs (Given id) (codes "category") (missing_category (takes_none rows id x) x.category d.row.category)))
      (texts_of_txs (Given id) (missing x.notes d.row.notes) (missing x.imported_description d.row.imported_description) (missing x.financial_id d.row.financial_id) (missing x.schedule d.row.schedule)))
      (clearing_of_txs (Given id) x.cleared)

  making_of_txs : (at : ℕ) (d : Draft) → AreOfTxs (making names at d)
  unfolding making
  making_of_txs at d =
      let a = entry_writes (Made at) d.row in
      let b = value_write (Made at) (codes "description") (payee_value names d) in
      let c = text_write (Made at) (codes "category") d.row.category in
      let e = texts_writes (Made at) d.row.notes d.row.imported_description d.row.financial_id d.row.schedule in
      all_append IsOfTxs (((a ++ b) ++ c) ++ e) (clearing (Made at) false)
      (all_append IsOfTxs ((a ++ b) ++ c) e (all_append IsOfTxs (a ++ b) c (all_append IsOfTxs a b (refl, (refl, (refl, tt)))
      (value_of_txs (Made at) (codes "description") (payee_value names d)))
      (text_of_txs (Made at) (codes "category") d.row.category))
      (texts_of_txs (Made at) d.row.notes d.row.imported_description d.row.financial_id d.row.schedule))
      (clearing_of_txs (Made at) false)

  record_of_txs : (at : ℕ) (d : Draft) (m : Option Text) → AreOfTxs (record_writes rows names at d m)
  record_of_txs at d None = making_of_txs at d
  record_of_txs at d (Some id) = by (get rows.txs id)
    where
      by : (o : Option TxRow) → AreOfTxs (filling_at rows names id d o)
      by None = tt
      by (Some x) = filling_of_txs id x d

  records_of_txs : (at : ℕ) (ds : List Draft) (ms : List (Option Text)) → AreOfTxs (records_writes rows names at ds ms)
  records_of_txs at [] ms = tt
  records_of_txs at (d ∷ ds) [] = tt
  records_of_txs at (d ∷ ds) (m ∷ ms) = all_append IsOfTxs _ _ (record_of_txs at d m) (records_of_txs (at + length (record_writes rows names at d m)) ds ms)

  pub records_else : (ids : Ids) (r : Rows) (at : ℕ) (ds : List Draft) (ms : List (Option Text)) → SameElse r (with_writes ids r (records_writes rows names at ds ms))
  records_else ids r at ds ms = (only_writes ids (records_writes rows names at ds ms) r (records_of_txs at ds ms)).kept

  pub records_payees : (ids : Ids) (r : Rows) (at : ℕ) (ds : List Draft) (ms : List (Option Text)) → (with_writes ids r (records_writes rows names at ds ms)).payees ≡ r.payees
  records_payees ids r at ds ms = (only_writes ids (records_writes rows names at ds ms) r (records_of_txs at ds ms)).payees

-- ---- new payees

-- a payee that has a name alone
abbrev pub payee_with : Text → Text → PayeeRow
payee_with id name = record (blank_row payee_table id) { name = Some name }

abbrev named : Text → Text → Texts PayeeRow → Texts PayeeRow
named id name payees = insert payees id (record (unwrap_or (get payees id) (blank_row payee_table id)) { name = Some name })

payee_write : (ids : Ids) (r : Rows) (at : ℕ) (name : Text) → with_write ids r (write (codes "payees") (Made at) (codes "name") (IsText name)) ≡ record r { payees = named (ids at) name r.payees }
payee_write ids r at name =
    ap (λ d. with_known d (column_of (codes "name")) (ids at) (IsText name) r) (dataset_found Payees)
    ∙ ap (λ c. with_known (Some Payees) c (ids at) (IsText name) r) (column_found of.Name)

-- accounts, groups, categories, rules, mappings and transactions stay
pub record OnlyPayees (r s : Rows) : Type 0 where
  pub kept : SameElse r s
  pub txs : s.txs ≡ r.txs

pub payees_only : (ids : Ids) (names : List Text) (at : ℕ) (r : Rows) → OnlyPayees r (with_writes ids r (payee_writes at names))
payees_only ids [] at r = record { kept = same_else r; txs = refl }
payees_only ids (name ∷ names) at r =
    let s : Rows = record r { payees = named (ids at) name r.payees } in
    let h = payees_only ids names (at + 1) s in
    subst (λ t. OnlyPayees r (with_writes ids t (payee_writes (at + 1) names))) (sym (payee_write ids r at name))
    (record { kept = then_else r s (with_writes ids s (payee_writes (at + 1) names)) (record { accounts = refl; groups = refl; categories = refl; rules = refl; category_mappings = refl; payee_mappings = refl }) h.kept; txs = h.txs })

get-named : (id name : Text) (m : Texts PayeeRow) (q : Text)
    → get (named id name m) q ≡ cond (same_id q id) (Some (record (unwrap_or (get m id) (blank_row payee_table id)) { name = Some name })) (get m q)
get-named id name m q = get-insert text_total m id (record (unwrap_or (get m id) (blank_row payee_table id)) { name = Some name }) q

after_one : (ids : Ids) (r : Rows) (at : ℕ) (name : Text) (names : List Text) (q : Text)
    → get (with_writes ids r (payee_writes at (name ∷ names))).payees q ≡ get (with_writes ids (record r { payees = named (ids at) name r.payees }) (payee_writes (at + 1) names)).payees q
after_one ids r at name names q = ap (λ (t : Rows). get (with_writes ids t (payee_writes (at + 1) names)).payees q) (payee_write ids r at name)

-- a payee that is none of the new ones stays
pub payee_other : (ids : Ids) (names : List Text) (at : ℕ) (r : Rows) (q : Text) → ((k : ℕ) → k < length names → q ≡ ids (at + k) → ⊥)
    → get (with_writes ids r (payee_writes at names)).payees q ≡ get r.payees q
payee_other ids [] at r q h = refl
payee_other ids (name ∷ names) at r q h =
    after_one ids r at name names q
    ∙ payee_other ids names (at + 1) (record r { payees = named (ids at) name r.payees }) q
    (λ k l e. h (suc k) (omega arith) (e ∙ ap ids (let g : at + 1 + k ≡ at + suc k = omega arith in g)))
    ∙ get-named (ids at) name r.payees q
    ∙ ap (λ b. cond b (Some (record (unwrap_or (get r.payees (ids at)) (blank_row payee_table (ids at))) { name = Some name })) (get r.payees q))
    (is_not (same_id q (ids at)) (λ e. h zero (omega arith) (id_same q (ids at) e ∙ ap ids (let g : at ≡ at + 0 = omega arith in g))))

no_some : {X P : Type 0} (x : X) → None ≡ Some x → P
no_some x h = absurd (clash h)
  where
    clash : None ≡ Some x → ⊥
    clash h = cc

some_is : {X : Type 0} (x y : X) → Some x ≡ Some y → x ≡ y
some_is x y h = cc

-- the ids of new payees differ
abbrev pub AreApartFrom : Ids → ℕ → ℕ → Type 0
AreApartFrom ids at n = (a b : ℕ) → at ≤ a → a < b → b < at + n → ids a ≡ ids b → ⊥

-- each new payee has its name
pub payee_made : (ids : Ids) (names : List Text) (at : ℕ) (r : Rows) (k : ℕ) (name : Text) → slice_get names k ≡ Some name → AreApartFrom ids at (length names)
    → get r.payees (ids (at + k)) ≡ None → get (with_writes ids r (payee_writes at names)).payees (ids (at + k)) ≡ Some (payee_with (ids (at + k)) name)
payee_made ids [] at r k name h apart none = no_some name h
payee_made ids (n ∷ names) at r zero name h apart none =
    let q = ids (at + 0) in
    let s : Rows = record r { payees = named (ids at) n r.payees } in
    let same : at + 0 ≡ at = omega arith in
    let is : q ≡ ids at = ap ids same in
    let first : get (named (ids at) n r.payees) q ≡ Some (payee_with (ids at) n) =
    get-named (ids at) n r.payees q
    ∙ ap (λ b. cond b (Some (record (unwrap_or (get r.payees (ids at)) (blank_row payee_table (ids at))) { name = Some n })) (get r.payees q)) (ap (λ t. same_id t (ids at)) is ∙ id_itself (ids at))
    ∙ ap (λ o. Some (record (unwrap_or o (blank_row payee_table (ids at))) { name = Some n })) (ap (get r.payees) (sym is) ∙ none) in
    after_one ids r at n names q
    ∙ payee_other ids names (at + 1) s q (λ k l e. apart at (at + 1 + k) (omega arith) (omega arith) (omega (arith, l)) (sym is ∙ e))
    ∙ first
    ∙ ap (λ t. Some (payee_with t n)) (sym is)
    ∙ ap (λ t. Some (payee_with q t)) (some_is n name h)
payee_made ids (n ∷ names) at r (suc k) name h apart none =
    let s : Rows = record r { payees = named (ids at) n r.payees } in
    let q = ids (at + suc k) in
    let g : at + suc k ≡ at + 1 + k = omega arith in
    let is : q ≡ ids (at + 1 + k) = ap ids g in
    let few : k < length names = below names k name h in
    let far : same_id q (ids at) ≡ false = is_not (same_id q (ids at)) (λ e. apart at (at + suc k) (omega arith) (omega arith) (omega (arith, few)) (sym (id_same q (ids at) e))) in
    let still : get s.payees (ids (at + 1 + k)) ≡ None =
    ap (get (named (ids at) n r.payees)) (sym is)
    ∙ get-named (ids at) n r.payees q
    ∙ ap (λ b. cond b (Some (record (unwrap_or (get r.payees (ids at)) (blank_row payee_table (ids at))) { name = Some n })) (get r.payees q)) far
    ∙ none in
    after_one ids r at n names q
    ∙ ap (λ t. get (with_writes ids s (payee_writes (at + 1) names)).payees t) is
    ∙ payee_made ids names (at + 1) s k name h (λ a b l m o e. apart a b (omega (arith, l)) m (omega (arith, o)) e) still
    ∙ ap (λ t. Some (payee_with t name)) (sym is)
  where
    below : (ns : List Text) (k : ℕ) (name : Text) → slice_get ns k ≡ Some name → k < length ns
    below [] k name h = no_some name h
    below (n ∷ ns) zero name h = omega arith
    below (n ∷ ns) (suc k) name h = let l = below ns k name h in omega (arith, l)
