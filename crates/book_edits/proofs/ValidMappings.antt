-- The writes of edits of mappings are valid.
use Rattle.std.proofs.Common.{◌≡◌, ℕ, Bool, true, false, List, [], ◌∷◌, ◌++◌, length, filter, Option, None, Ok, refl, ap, sym, ◌∙◌, subst, if◌then◌else◌}
use lib.IntN.{pos}
use Rattle.std.specs.Prelude.{codes, is_some, not, ◌||◌, map as list_map, flat_map}
use Rattle.std.specs.List.{AllByRecursion}
use Rattle.std.specs.Ordering.{eq_by_cmp}
use Rattle.std.specs.Cmp.{eq_by_cmp_equiv}
use Rattle.std.specs.FinMap as map
use Rattle.std.proofs.lemmas.Bool.{and_parts}
use Rattle.field_values.specs.declared.name.NamePart.TheVariants.{Row}
use Rattle.field_values.specs.declared.value.Value.{Value}
use Rattle.field_values.specs.declared.value.Value.TheVariants.{Number, Text as IsText}
use Rattle.field_values.specs.Names.{IsName, name_fault}
use Rattle.field_values.specs.Value.{IsValue, HoldsNumber}
use Rattle.finite_sums.specs.Maps.{Text, Texts, is_among, text_cmp, keys_where}
use Rattle.finite_sums.proofs.Texts.{text_total, text_same}
use Rattle.finite_sums.proofs.MapSums.{among-keys_where}
use Rattle.book_rows.specs.declared.rows.Rows.{Rows}
use Rattle.book_rows.specs.declared.rows.CategoryMappingRow.{CategoryMappingRow}
use Rattle.book_rows.specs.declared.rows.PayeeMappingRow.{PayeeMappingRow}
use Rattle.book_rows.specs.declared.write.RowName.TheVariants.{Given}
use Rattle.book_rows.specs.declared.write.Write.{Write}
use Rattle.book_rows.specs.Live.{is_income_category}
use Rattle.book_rows.specs.Ids.{budget_id}
use Rattle.book_rows.specs.Months.{is_month}
use Rattle.book_rows.specs.Named.{HasNames}
use Rattle.book_rows.specs.Parts.{is_text}
use Rattle.book_rows.specs.Tables.{AreNamed}
use Rattle.book_rows.specs.Writes.{IsWrite, AreWrites}
use Rattle.book_edits.specs.declared.gains.Gain.{Gain}
use Rattle.book_edits.specs.Faults.{each}
use Rattle.book_edits.specs.Checks.{live_category, live_payee, two_ids, distinct, same_id, no_transfer, an_amount, a_name}
use Rattle.book_edits.specs.Writing.{write, flag}
use Rattle.book_edits.specs.Accounts.{payee_deletion}
use Rattle.book_edits.specs.Budgets.{made_unless, column_writes}
use Rattle.book_edits.specs.Categories.{category_deletion}
use Rattle.book_edits.specs.Mappings.{calendar, mapped_to, category_mapped, categories_mapped, payee_mapped, payees_mapped, is_given, given_months, month_gain, gains, gain_writes, may_hand_on, may_gain, category_delete_to, payee_merged, payee_merge}
use Rattle.book_edits.proofs.Passing.{name_of_is, amount_is}
use Rattle.book_edits.proofs.Valid.{inside, passed, was_so, each_was, flag_is, month_is, name_there, write_is, all_append, all_filter, all_flat}

-- ---- rows of what categories are given
made_valid : (n : ℕ) (there : Bool) (dataset category : Text) (month : ℕ) → name_fault Row dataset ≡ None → IsName (budget_id category month) → HoldsNumber (pos month) → AllByRecursion (IsWrite n) (made_unless there dataset category month)
made_valid n true dataset category month d name number = tt
made_valid n false dataset category month d name number =
    let id = budget_id category month in
    (write_is n dataset (Given id) (codes "month") (Number (pos month)) d name refl number, (write_is n dataset (Given id) (codes "category") (IsText category) d name refl tt, tt))

pub column_writes_valid : (n : ℕ) (there : Bool) (dataset category : Text) (month : ℕ) (column : Text) (value : Value) → name_fault Row dataset ≡ None → IsName (budget_id category month) → HoldsNumber (pos month) → name_fault Row column ≡ None → IsValue value → AllByRecursion (IsWrite n) (column_writes there dataset category month column value)
column_writes_valid n there dataset category month column value d name number c v =
    all_append (IsWrite n) (made_unless there dataset category month) (write dataset (Given (budget_id category month)) column value ∷ [])
    (made_valid n there dataset category month d name number)
    (write_is n dataset (Given (budget_id category month)) column value d name c v, tt)

-- ---- ids of rows that are there
all_ids : (ks : List Text) (P : Text → Type 0) → ((q : Text) → is_among text_cmp ks q ≡ true → P q) → AllByRecursion P ks
all_ids [] P h = tt
all_ids (k ∷ ks) P h = (h k (ap (λ b. b || is_among text_cmp ks k) ((eq_by_cmp_equiv text_total).refl k)), all_ids ks P (λ q p. h q (either (eq_by_cmp text_cmp q k) (is_among text_cmp ks q) p)))
  where
    either : (a b : Bool) → b ≡ true → (a || b) ≡ true
    either true b h = refl
    either false b h = h

along : {P Q : Text → Type 0} (qs : List Text) → ((q : Text) → P q → Q q) → AllByRecursion P qs → AllByRecursion Q qs
along [] f h = tt
along (q ∷ qs) f h = (f q h.0, along qs f h.1)

all_mapped : {X Y : Type 0} (P : Y → Type 0) (f : X → Y) (xs : List X) → AllByRecursion (λ x. P (f x)) xs → AllByRecursion P (list_map f xs)
all_mapped P f [] h = tt
all_mapped P f (x ∷ xs) h = (h.0, all_mapped P f xs h.1)

all_distinct : (P : Text → Type 0) (ids : List Text) → AllByRecursion P ids → AllByRecursion P (distinct ids)
all_distinct P [] h = tt
all_distinct P (id ∷ ids) h = (h.0, all_filter P (λ other. not (same_id id other)) (distinct ids) (all_distinct P ids h.1))

all_passing : {X : Type 0} (P : X → Type 0) (p : X → Bool) (xs : List X) → ((x : X) → p x ≡ true → P x) → AllByRecursion P (filter p xs)
all_passing P p [] h = tt
all_passing P p (x ∷ xs) h = by (p x) refl (all_passing P p xs h)
  where
    by : (b : Bool) → p x ≡ b → AllByRecursion P (filter p xs) → AllByRecursion P (if b then x ∷ filter p xs else filter p xs)
    by true e rest = (h x e, rest)
    by false e rest = rest

mapped_named : {M : Type 0} (target : M → Option Text) (rows : Texts M) (id : Text) → AreNamed rows → AllByRecursion IsName (mapped_to target rows id)
mapped_named {M} target rows id named =
    let p : M → Bool = λ row. is_text id (target row) in
    all_filter IsName (λ other. not (same_id other id)) (keys_where p (map.entries rows))
    (all_ids (keys_where p (map.entries rows)) IsName (λ q among. name_there rows p q named (sym (among-keys_where text_total text_same p rows q) ∙ among)))

module _ (rows : Rows) (names : HasNames rows) where
  -- ---- categories
  abbrev category_target : CategoryMappingRow → Option Text
  category_target m = m.transfer_id

  categories_mapped_valid : (n : ℕ) (id to : Text) → IsName id → AllByRecursion (IsWrite n) (categories_mapped rows id to)
  categories_mapped_valid n id to is =
      let others = mapped_to category_target rows.category_mappings id in
      let each = λ (q : Text) (name : IsName q). write_is n (codes "category_mapping") (Given q) (codes "transferId") (IsText to) refl name refl tt in
      all_append (IsWrite n) (list_map (category_mapped to) others) (category_mapped to id ∷ [])
      (all_mapped (IsWrite n) (category_mapped to) others (along others each (mapped_named category_target rows.category_mappings id names.category_mappings)))
      (each id is, tt)

  gains_months : (id to : Text) → AllByRecursion (λ (g : Gain). is_month g.month ≡ true) (gains rows id to)
  gains_months id to =
      let months = all_mapped (λ (g : Gain). is_month g.month ≡ true) (month_gain rows id to) (given_months rows id) (all_passing (λ m. is_month m ≡ true) (is_given rows id) calendar (λ m h. (and_parts _ _ h).0)) in
      elim (is_income_category rows id) as (λ b. AllByRecursion (λ (g : Gain). is_month g.month ≡ true) (if b then [] else list_map (month_gain rows id to) (given_months rows id))) [
        | true ↦ tt
        | false ↦ months
      ]

  gains_valid : (n : ℕ) (to : Text) (gs : List Gain) → AllByRecursion (λ (g : Gain). is_month g.month ≡ true) gs → AllByRecursion (λ (g : Gain). an_amount g.amount ≡ Ok tt) gs → AllByRecursion (λ (g : Gain). a_name (budget_id to g.month) ≡ Ok tt) gs → AllByRecursion (IsWrite n) (flat_map (gain_writes rows to) gs)
  gains_valid n to [] months amounts named = tt
  gains_valid n to (g ∷ gs) months amounts named =
      all_append (IsWrite n) (gain_writes rows to g) (flat_map (gain_writes rows to) gs)
      (column_writes_valid n (is_some (map.get rows.budgets (budget_id to g.month))) (codes "zero_budgets") to g.month (codes "amount") (Number g.amount) refl (name_of_is (budget_id to g.month) (was_so _ _ _ named.0)) (month_is g.month months.0) refl (amount_is g.amount (was_so _ _ _ amounts.0)))
      (gains_valid n to gs months.1 amounts.1 named.1)

  pub category_delete_to_valid : (id to : Text) (ws : List Write) → category_delete_to rows id to ≡ Ok ws → AreWrites ws
  category_delete_to_valid id to ws h =
      let m = passed (may_hand_on rows id to) _ _ h in
      let p = passed (live_category rows id) _ _ m.1 in
      let e = passed (may_gain rows id to) _ _ m.2 in
      let a = passed (each (λ (g : Gain). an_amount g.amount) (gains rows id to)) _ _ e.1 in
      let is = name_there rows.categories _ id names.categories (was_so _ _ _ p.1) in
      let moved = flat_map (gain_writes rows to) (gains rows id to) in
      let n = length (categories_mapped rows id to ++ moved ++ category_deletion id ∷ []) in
      subst AreWrites (inside _ _ e.2)
      (all_append (IsWrite n) (categories_mapped rows id to ++ moved) (category_deletion id ∷ [])
      (all_append (IsWrite n) (categories_mapped rows id to) moved
      (categories_mapped_valid n id to is)
      (gains_valid n to (gains rows id to) (gains_months id to) (each_was _ (gains rows id to) a.0 a.1) (each_was _ (gains rows id to) e.0 a.2)))
      (write_is n (codes "categories") (Given id) (codes "tombstone") (flag true) refl is refl (flag_is true), tt))

  -- ---- payees
  abbrev payee_target : PayeeMappingRow → Option Text
  payee_target m = m.target_id

  merged_valid : (n : ℕ) (to id : Text) → live_payee rows id ≡ Ok tt → AllByRecursion (IsWrite n) (payee_merged rows to id)
  merged_valid n to id live =
      let is = name_there rows.payees _ id names.payees (was_so _ _ _ live) in
      let others = mapped_to payee_target rows.payee_mappings id in
      let each = λ (q : Text) (name : IsName q). write_is n (codes "payee_mapping") (Given q) (codes "targetId") (IsText to) refl name refl tt in
      all_append (IsWrite n) (payees_mapped rows to id) (payee_deletion id ∷ [])
      (all_append (IsWrite n) (list_map (payee_mapped to) others) (payee_mapped to id ∷ [])
      (all_mapped (IsWrite n) (payee_mapped to) others (along others each (mapped_named payee_target rows.payee_mappings id names.payee_mappings)))
      (each id is, tt))
      (write_is n (codes "payees") (Given id) (codes "tombstone") (flag true) refl is refl (flag_is true), tt)

  pub payee_merge_valid : (to : Text) (ids : List Text) (ws : List Write) → payee_merge rows to ids ≡ Ok ws → AreWrites ws
  payee_merge_valid to ids ws h =
      let p = passed (live_payee rows to) _ _ h in
      let q = passed (each (live_payee rows) ids) _ _ p.2 in
      let r = passed (each (two_ids to) ids) _ _ q.2 in
      let s = passed (no_transfer rows to) _ _ r.2 in
      let t = passed (each (no_transfer rows) ids) _ _ s.2 in
      let all = flat_map (payee_merged rows to) (distinct ids) in
      subst AreWrites (inside _ _ t.2)
      (all_flat (IsWrite (length all)) (λ id. live_payee rows id ≡ Ok tt) (payee_merged rows to) (distinct ids) (merged_valid (length all) to)
      (all_distinct (λ id. live_payee rows id ≡ Ok tt) ids (each_was (live_payee rows) ids q.0 q.1)))
