-- Rows and sheets after the undo of an edit.
use Rattle.std.proofs.Common.{◌≡◌, ℕ, Bool, List, [], Option, Some, None, refl, sym, ap, ap₂, ◌∙◌}
use Rattle.std.specs.Prelude.{◌&&◌, ◌==◌, unwrap_or}
use Rattle.std.specs.Option.{option_map}
use Rattle.std.specs.FinMap.{get, entries}
use Rattle.field_values.specs.declared.value.Value.{Value}
use Rattle.field_values.specs.Names.{FieldNames}
use Rattle.finite_sums.specs.Sums.{only_if}
use Rattle.finite_sums.specs.Maps.{Text, Texts, some_and, value_or_zero, total_of}
use Rattle.finite_sums.proofs.Texts.{text_total, text_same}
use Rattle.finite_sums.proofs.MapSums.{total_same}
use Rattle.book_rows.specs.declared.column.Dataset.TheVariants.{Accounts, CategoryGroups, Categories, Payees, Transactions, ZeroBudgets, ZeroBudgetMonths, Notes, Rules, Schedules, CategoryMapping, PayeeMapping, ReflectBudgets}
use Rattle.book_rows.specs.declared.rows.Rows.{Rows}
use Rattle.book_rows.specs.declared.rows.AccountRow.{AccountRow}
use Rattle.book_rows.specs.declared.rows.BudgetRow.{BudgetRow}
use Rattle.book_rows.specs.declared.rows.CategoryMappingRow.{CategoryMappingRow}
use Rattle.book_rows.specs.declared.rows.CategoryRow.{CategoryRow}
use Rattle.book_rows.specs.declared.rows.GroupRow.{GroupRow}
use Rattle.book_rows.specs.declared.rows.MonthRow.{MonthRow}
use Rattle.book_rows.specs.declared.rows.PayeeMappingRow.{PayeeMappingRow}
use Rattle.book_rows.specs.declared.rows.TxRow.{TxRow}
use Rattle.book_rows.specs.Ids.{budget_id, month_id}
use Rattle.book_rows.specs.Live.{target_of, mapped, mapped_category, mapped_payee, category_of, payee_of, is_counted}
use Rattle.book_rows.specs.Months.{month_of_row}
use Rattle.book_rows.specs.Parts.{is_text}
use Rattle.book_rows.specs.Rules.{account_table, group_table, category_table, payee_table, tx_table, budget_table, month_table, note_table, rule_table, schedule_table, category_mapping_table, payee_mapping_table}
use Rattle.book_rows.specs.Tables.{Table, blank_row}
use Rattle.book_rows.specs.Rows.{Values, AreRowsOf}
use Rattle.envelope_cells.specs.BudgetOf.{share, category_sum, groups_of, budget_of}
use Rattle.envelope_cells.specs.Ids.{month_at}
use Rattle.envelope_cells.specs.Places.{placed, group_places, category_places, with_categories}
use Rattle.book_laws.specs.Undone.{undone_values, SayTheSame, RowsAreAgain, MakeNone, AreAsBefore}
use Rattle.book_laws.proofs.Again.{again, say_the_same, no_more, tombstone_is}
use Rattle.book_laws.proofs.Columns.{account_reads, group_reads, category_reads, payee_reads, tx_reads, budget_reads, month_reads, note_reads, rule_reads, schedule_reads, category_mapping_reads, payee_mapping_reads}

-- ---- what rows say that can't be deleted

same_target : {Row : Type 0} (t : Table Row) (target : Row → Option Text) → ((id : Text) → target (blank_row t id) ≡ None) → (r u : Texts Row) → SayTheSame t r u → (id : Text) → mapped target u id ≡ mapped target r id
same_target {Row} t target nothing r u same id = ap (λ o. unwrap_or o id) (told (get u id) ∙ ap target (same id) ∙ sym (told (get r id)))
  where
    told : (o : Option Row) → target_of target o ≡ target (unwrap_or o (blank_row t id))
    told None = sym (nothing id)
    told (Some row) = refl

module _ (r u : Texts BudgetRow) (same : SayTheSame budget_table r u) where
  same_amount : (id : Text) → value_or_zero (λ b. b.amount) (get u id) ≡ value_or_zero (λ b. b.amount) (get r id)
  same_amount id = told (get u id) ∙ ap (λ (b : BudgetRow). b.amount) (same id) ∙ sym (told (get r id))
    where
      told : (o : Option BudgetRow) → value_or_zero (λ b. b.amount) o ≡ (unwrap_or o (blank_row budget_table id)).amount
      told None = refl
      told (Some b) = refl

  same_flag : (id : Text) → some_and (λ b. b.carryover) (get u id) ≡ some_and (λ b. b.carryover) (get r id)
  same_flag id = told (get u id) ∙ ap (λ (b : BudgetRow). b.carryover) (same id) ∙ sym (told (get r id))
    where
      told : (o : Option BudgetRow) → some_and (λ b. b.carryover) o ≡ (unwrap_or o (blank_row budget_table id)).carryover
      told None = refl
      told (Some b) = refl

same_held : (r u : Texts MonthRow) → SayTheSame month_table r u → (id : Text) → value_or_zero (λ m. m.buffered) (get u id) ≡ value_or_zero (λ m. m.buffered) (get r id)
same_held r u same id = told (get u id) ∙ ap (λ (m : MonthRow). m.buffered) (same id) ∙ sym (told (get r id))
  where
    told : (o : Option MonthRow) → value_or_zero (λ m. m.buffered) o ≡ (unwrap_or o (blank_row month_table id)).buffered
    told None = refl
    told (Some m) = refl

same_column : (f g : Text → Text) → ((id : Text) → f id ≡ g id) → (o : Option Text) → option_map f o ≡ option_map g o
same_column f g h None = refl
same_column f g h (Some id) = ap (λ (t : Text). Some t) (h id)

-- ---- all datasets

module _ (values : Values) (ws : List (FieldNames × Value)) (r u : Rows) (is_r : AreRowsOf values r) (is_u : AreRowsOf (undone_values values ws) u) where
  budgets_say : SayTheSame budget_table r.budgets u.budgets
  budgets_say = say_the_same budget_table ZeroBudgets (λ c. refl) budget_reads values ws r.budgets u.budgets is_r.budgets is_u.budgets (tombstone_is ZeroBudgets)

  months_say : SayTheSame month_table r.months u.months
  months_say = say_the_same month_table ZeroBudgetMonths (λ c. refl) month_reads values ws r.months u.months is_r.months is_u.months (tombstone_is ZeroBudgetMonths)

  categories_say : SayTheSame category_mapping_table r.category_mappings u.category_mappings
  categories_say =
      say_the_same category_mapping_table CategoryMapping (λ c. refl) category_mapping_reads values ws r.category_mappings u.category_mappings is_r.category_mappings is_u.category_mappings (tombstone_is CategoryMapping)

  payees_say : SayTheSame payee_mapping_table r.payee_mappings u.payee_mappings
  payees_say =
      say_the_same payee_mapping_table PayeeMapping (λ c. refl) payee_mapping_reads values ws r.payee_mappings u.payee_mappings is_r.payee_mappings is_u.payee_mappings (tombstone_is PayeeMapping)

  of_category : (x : TxRow) → category_of u x ≡ category_of r x
  of_category x = same_column (mapped_category u) (mapped_category r) (same_target category_mapping_table (λ (m : CategoryMappingRow). m.transfer_id) (λ id. refl) r.category_mappings u.category_mappings categories_say) x.category

  of_payee : (x : TxRow) → payee_of u x ≡ payee_of r x
  of_payee x = same_column (mapped_payee u) (mapped_payee r) (same_target payee_mapping_table (λ (m : PayeeMappingRow). m.target_id) (λ id. refl) r.payee_mappings u.payee_mappings payees_say) x.description

  rows_again : RowsAreAgain r u
  rows_again = record {
    accounts = again account_table Accounts (λ c. refl) account_reads values ws r.accounts u.accounts is_r.accounts is_u.accounts;
    groups = again group_table CategoryGroups (λ c. refl) group_reads values ws r.groups u.groups is_r.groups is_u.groups;
    categories = again category_table Categories (λ c. refl) category_reads values ws r.categories u.categories is_r.categories is_u.categories;
    payees = again payee_table Payees (λ c. refl) payee_reads values ws r.payees u.payees is_r.payees is_u.payees;
    transactions = again tx_table Transactions (λ c. refl) tx_reads values ws r.txs u.txs is_r.txs is_u.txs;
    rules = again rule_table Rules (λ c. refl) rule_reads values ws r.rules u.rules is_r.rules is_u.rules;
    schedules = again schedule_table Schedules (λ c. refl) schedule_reads values ws r.schedules u.schedules is_r.schedules is_u.schedules;
    budgets = budgets_say;
    tracked = say_the_same budget_table ReflectBudgets (λ c. refl) budget_reads values ws r.tracked u.tracked is_r.tracked is_u.tracked (tombstone_is ReflectBudgets);
    months = months_say;
    notes = say_the_same note_table Notes (λ c. refl) note_reads values ws r.notes u.notes is_r.notes is_u.notes (tombstone_is Notes);
    category_mappings = categories_say;
    payee_mappings = payees_say;
    category = of_category;
    payee = of_payee;
    given = λ c month. same_amount r.budgets u.budgets budgets_say (budget_id c month);
    carried = λ c month. same_flag r.budgets u.budgets budgets_say (budget_id c month);
    held = λ month. same_held r.months u.months months_say (month_id month);
  }

  module _ (none : MakeNone values ws) where
    accounts_same : u.accounts ≡ r.accounts
    accounts_same = no_more account_table Accounts (λ c. refl) account_reads values ws r.accounts u.accounts is_r.accounts is_u.accounts (tombstone_is Accounts) none

    groups_same : u.groups ≡ r.groups
    groups_same = no_more group_table CategoryGroups (λ c. refl) group_reads values ws r.groups u.groups is_r.groups is_u.groups (tombstone_is CategoryGroups) none

    categories_same : u.categories ≡ r.categories
    categories_same = no_more category_table Categories (λ c. refl) category_reads values ws r.categories u.categories is_r.categories is_u.categories (tombstone_is Categories) none

    txs_same : u.txs ≡ r.txs
    txs_same = no_more tx_table Transactions (λ c. refl) tx_reads values ws r.txs u.txs is_r.txs is_u.txs (tombstone_is Transactions) none

    -- what a transaction adds
    share_same : (c : Text) (month : ℕ) (x : TxRow) → share u c month x ≡ share r c month x
    share_same c month x =
        ap (λ (counts : Bool). only_if (counts && (is_text c (category_of u x) && some_and (λ m. m == month) (month_of_row x))) x.amount)
        (ap₂ (λ (txs : Texts TxRow) (accounts : Texts AccountRow). is_counted (record r { txs = txs; accounts = accounts }) x) txs_same accounts_same)
        ∙ ap (λ (o : Option Text). only_if (is_counted r x && (is_text c o && some_and (λ m. m == month) (month_of_row x))) x.amount) (of_category x)

    sum_same : (c : Text) (month : ℕ) → category_sum u c month ≡ category_sum r c month
    sum_same c month = ap (total_of (share u c month)) txs_same ∙ total_same text_total text_same (share u c month) (share r c month) r.txs (λ q x there. share_same c month x)

    groups_of_same : groups_of u ≡ groups_of r
    groups_of_same =
        ap₂ (λ (cs : Texts CategoryRow) (gs : Texts GroupRow). with_categories (placed (category_places (entries cs)) []) (placed (group_places (entries gs)) [])) categories_same groups_same

    sheets_same : budget_of u ≡ budget_of r
    sheets_same = λ i. record {
      groups = groups_of_same i;
      category_sum = λ c m. sum_same c (month_at m) i;
      budgeted = λ c m. same_amount r.budgets u.budgets budgets_say (budget_id c (month_at m)) i;
      carries = λ c m. same_flag r.budgets u.budgets budgets_say (budget_id c (month_at m)) i;
      buffered = λ m. same_held r.months u.months months_say (month_id (month_at m)) i;
    }

    as_before : AreAsBefore r u
    as_before = record {
      again = rows_again;
      accounts = accounts_same;
      groups = groups_same;
      categories = categories_same;
      payees = no_more payee_table Payees (λ c. refl) payee_reads values ws r.payees u.payees is_r.payees is_u.payees (tombstone_is Payees) none;
      transactions = txs_same;
      rules = no_more rule_table Rules (λ c. refl) rule_reads values ws r.rules u.rules is_r.rules is_u.rules (tombstone_is Rules) none;
      schedules = no_more schedule_table Schedules (λ c. refl) schedule_reads values ws r.schedules u.schedules is_r.schedules is_u.schedules (tombstone_is Schedules) none;
      sheets = sheets_same;
    }

pub all_again : (values : Values) (ws : List (FieldNames × Value)) (before undone : Rows) → AreRowsOf values before → AreRowsOf (undone_values values ws) undone → RowsAreAgain before undone
all_again values ws before undone is_before is_undone = rows_again values ws before undone is_before is_undone

pub all_as_before : (values : Values) (ws : List (FieldNames × Value)) (before undone : Rows) → MakeNone values ws → AreRowsOf values before → AreRowsOf (undone_values values ws) undone → AreAsBefore before undone
all_as_before values ws before undone none is_before is_undone = as_before values ws before undone is_before is_undone none
