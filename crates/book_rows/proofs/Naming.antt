-- No two datasets have one name, nor two columns, and each dataset and column is found by its name.
use Rattle.std.proofs.Common.{◌≡◌, ◌==◌, ℕ, zero, suc, Bool, true, false, List, [], ◌∷◌, Option, Some, None, refl, sym, ap, ◌∙◌, if◌then◌else◌, nat_eq, true≢false, codes, arith}
use Rattle.std.specs.Prelude.{◌||◌}
use Rattle.std.specs.Cmp.Lexicographic.{pointwise, texts_ties}
use Rattle.std.specs.List.{list_any}
use Rattle.finite_sums.specs.Maps.{Text}
use Rattle.finite_sums.proofs.Texts.{text_same}
use Rattle.book_rows.specs.declared.column.Dataset.{Dataset}
use Rattle.book_rows.specs.declared.column.Dataset.TheVariants.{Accounts, CategoryGroups, Categories, Payees, Transactions, ZeroBudgets, ZeroBudgetMonths, Notes, Rules, Schedules, CategoryMapping, PayeeMapping, ReflectBudgets}
use Rattle.book_rows.specs.declared.column.Column.{Column}
use Rattle.book_rows.specs.declared.column.Column.TheVariants.{Acct, Date, Amount, Category, Description, Notes, Name, Tombstone, SortOrder, Cleared, Reconciled, Note, IsParent, IsChild, ParentId, TransferredId, Schedule, ImportedDescription, FinancialId, CatGroup, IsIncome, Hidden, Offbudget, Closed, TransferAcct, Month, Carryover, Buffered, Stage, ConditionsOp, Conditions, Actions, Rule, NextDate, Completed, PostsTransaction, TransferId, TargetId}
use Rattle.book_rows.specs.Columns.{same_text, dataset_name, column_name, column_number, same_column, all_columns, dataset_of, later_dataset_of, last_dataset_of, column_of, second_column_of, third_column_of, fourth_column_of, fifth_column_of, sixth_column_of, seventh_column_of}
use Rattle.book_rows.proofs.Pairs.{is_equal, itself}

never : {P : Type 0} → false ≡ true → P
never h = absurd (true≢false (sym h))

no_some : {X : Type 0} {P : Type 0} (x : X) → None ≡ Some x → P
no_some x h = absurd (cc)

some_is : {X : Type 0} (x y : X) → Some x ≡ Some y → x ≡ y
some_is x y e = cc

-- texts are the same where the program says so
pub text_is : (a b : Text) → pointwise nat_eq a b ≡ true → a ≡ b
text_is a b h = text_same a b (is_equal _ (sym (texts_ties a b) ∙ h))

pub is_text_itself : (a : Text) → pointwise nat_eq a a ≡ true
is_text_itself a = texts_ties a a ∙ itself a

same_is : (a b : Text) → same_text a b ≡ true → a ≡ b
unfolding same_text
same_is a b h = text_is a b h

step : {X : Type 0} (name : X → Text) (t w : Text) (x y : X) (rest : Option X) → name x ≡ w → (rest ≡ Some y → t ≡ name y) → (if same_text t w then Some x else rest) ≡ Some y → t ≡ name y
step name t w x y rest at more h = by (same_text t w) refl h
  where
    by : (b : Bool) → same_text t w ≡ b → (if b then Some x else rest) ≡ Some y → t ≡ name y
    by true e k = same_is t w e ∙ sym at ∙ ap name (some_is x y k)
    by false e k = more k

last_dataset_named : (t : Text) (y : Dataset) → last_dataset_of t ≡ Some y → t ≡ dataset_name y
unfolding last_dataset_of
last_dataset_named t y h =
    step dataset_name t (codes "reflect_budgets") ReflectBudgets y None refl (λ h.
    no_some y h) h

later_dataset_named : (t : Text) (y : Dataset) → later_dataset_of t ≡ Some y → t ≡ dataset_name y
unfolding later_dataset_of
later_dataset_named t y h =
    step dataset_name t (codes "zero_budget_months") ZeroBudgetMonths y (if same_text t (codes "notes") then Some Notes else (if same_text t (codes "rules") then Some Rules else (if same_text t (codes "schedules") then Some Schedules else (if same_text t (codes "category_mapping") then Some CategoryMapping else (if same_text t (codes "payee_mapping") then Some PayeeMapping else last_dataset_of t))))) refl (λ h.
    step dataset_name t (codes "notes") Notes y (if same_text t (codes "rules") then Some Rules else (if same_text t (codes "schedules") then Some Schedules else (if same_text t (codes "category_mapping") then Some CategoryMapping else (if same_text t (codes "payee_mapping") then Some PayeeMapping else last_dataset_of t)))) refl (λ h.
    step dataset_name t (codes "rules") Rules y (if same_text t (codes "schedules") then Some Schedules else (if same_text t (codes "category_mapping") then Some CategoryMapping else (if same_text t (codes "payee_mapping") then Some PayeeMapping else last_dataset_of t))) refl (λ h.
    step dataset_name t (codes "schedules") Schedules y (if same_text t (codes "category_mapping") then Some CategoryMapping else (if same_text t (codes "payee_mapping") then Some PayeeMapping else last_dataset_of t)) refl (λ h.
    step dataset_name t (codes "category_mapping") CategoryMapping y (if same_text t (codes "payee_mapping") then Some PayeeMapping else last_dataset_of t) refl (λ h.
    step dataset_name t (codes "payee_mapping") PayeeMapping y (last_dataset_of t) refl (λ h.
    last_dataset_named t y h) h) h) h) h) h) h

pub dataset_named : (t : Text) (y : Dataset) → dataset_of t ≡ Some y → t ≡ dataset_name y
unfolding dataset_of
dataset_named t y h =
    step dataset_name t (codes "transactions") Transactions y (if same_text t (codes "zero_budgets") then Some ZeroBudgets else (if same_text t (codes "accounts") then Some Accounts else (if same_text t (codes "category_groups") then Some CategoryGroups else (if same_text t (codes "categories") then Some Categories else (if same_text t (codes "payees") then Some Payees else later_dataset_of t))))) refl (λ h.
    step dataset_name t (codes "zero_budgets") ZeroBudgets y (if same_text t (codes "accounts") then Some Accounts else (if same_text t (codes "category_groups") then Some CategoryGroups else (if same_text t (codes "categories") then Some Categories else (if same_text t (codes "payees") then Some Payees else later_dataset_of t)))) refl (λ h.
    step dataset_name t (codes "accounts") Accounts y (if same_text t (codes "category_groups") then Some CategoryGroups else (if same_text t (codes "categories") then Some Categories else (if same_text t (codes "payees") then Some Payees else later_dataset_of t))) refl (λ h.
    step dataset_name t (codes "category_groups") CategoryGroups y (if same_text t (codes "categories") then Some Categories else (if same_text t (codes "payees") then Some Payees else later_dataset_of t)) refl (λ h.
    step dataset_name t (codes "categories") Categories y (if same_text t (codes "payees") then Some Payees else later_dataset_of t) refl (λ h.
    step dataset_name t (codes "payees") Payees y (later_dataset_of t) refl (λ h.
    later_dataset_named t y h) h) h) h) h) h) h

seventh_named : (t : Text) (y : Column) → seventh_column_of t ≡ Some y → t ≡ column_name y
unfolding seventh_column_of
seventh_named t y h =
    step column_name t (codes "transferId") TransferId y (if same_text t (codes "targetId") then Some TargetId else None) refl (λ h.
    step column_name t (codes "targetId") TargetId y None refl (λ h.
    no_some y h) h) h

sixth_named : (t : Text) (y : Column) → sixth_column_of t ≡ Some y → t ≡ column_name y
unfolding sixth_column_of
sixth_named t y h =
    step column_name t (codes "conditions") Conditions y (if same_text t (codes "actions") then Some Actions else (if same_text t (codes "rule") then Some Rule else (if same_text t (codes "next_date") then Some NextDate else (if same_text t (codes "completed") then Some Completed else (if same_text t (codes "posts_transaction") then Some PostsTransaction else seventh_column_of t))))) refl (λ h.
    step column_name t (codes "actions") Actions y (if same_text t (codes "rule") then Some Rule else (if same_text t (codes "next_date") then Some NextDate else (if same_text t (codes "completed") then Some Completed else (if same_text t (codes "posts_transaction") then Some PostsTransaction else seventh_column_of t)))) refl (λ h.
    step column_name t (codes "rule") Rule y (if same_text t (codes "next_date") then Some NextDate else (if same_text t (codes "completed") then Some Completed else (if same_text t (codes "posts_transaction") then Some PostsTransaction else seventh_column_of t))) refl (λ h.
    step column_name t (codes "next_date") NextDate y (if same_text t (codes "completed") then Some Completed else (if same_text t (codes "posts_transaction") then Some PostsTransaction else seventh_column_of t)) refl (λ h.
    step column_name t (codes "completed") Completed y (if same_text t (codes "posts_transaction") then Some PostsTransaction else seventh_column_of t) refl (λ h.
    step column_name t (codes "posts_transaction") PostsTransaction y (seventh_column_of t) refl (λ h.
    seventh_named t y h) h) h) h) h) h) h

fifth_named : (t : Text) (y : Column) → fifth_column_of t ≡ Some y → t ≡ column_name y
unfolding fifth_column_of
fifth_named t y h =
    step column_name t (codes "transfer_acct") TransferAcct y (if same_text t (codes "month") then Some Month else (if same_text t (codes "carryover") then Some Carryover else (if same_text t (codes "buffered") then Some Buffered else (if same_text t (codes "stage") then Some Stage else (if same_text t (codes "conditions_op") then Some ConditionsOp else sixth_column_of t))))) refl (λ h.
    step column_name t (codes "month") Month y (if same_text t (codes "carryover") then Some Carryover else (if same_text t (codes "buffered") then Some Buffered else (if same_text t (codes "stage") then Some Stage else (if same_text t (codes "conditions_op") then Some ConditionsOp else sixth_column_of t)))) refl (λ h.
    step column_name t (codes "carryover") Carryover y (if same_text t (codes "buffered") then Some Buffered else (if same_text t (codes "stage") then Some Stage else (if same_text t (codes "conditions_op") then Some ConditionsOp else sixth_column_of t))) refl (λ h.
    step column_name t (codes "buffered") Buffered y (if same_text t (codes "stage") then Some Stage else (if same_text t (codes "conditions_op") then Some ConditionsOp else sixth_column_of t)) refl (λ h.
    step column_name t (codes "stage") Stage y (if same_text t (codes "conditions_op") then Some ConditionsOp else sixth_column_of t) refl (λ h.
    step column_name t (codes "conditions_op") ConditionsOp y (sixth_column_of t) refl (λ h.
    sixth_named t y h) h) h) h) h) h) h

fourth_named : (t : Text) (y : Column) → fourth_column_of t ≡ Some y → t ≡ column_name y
unfolding fourth_column_of
fourth_named t y h =
    step column_name t (codes "financial_id") FinancialId y (if same_text t (codes "cat_group") then Some CatGroup else (if same_text t (codes "is_income") then Some IsIncome else (if same_text t (codes "hidden") then Some Hidden else (if same_text t (codes "offbudget") then Some Offbudget else (if same_text t (codes "closed") then Some Closed else fifth_column_of t))))) refl (λ h.
    step column_name t (codes "cat_group") CatGroup y (if same_text t (codes "is_income") then Some IsIncome else (if same_text t (codes "hidden") then Some Hidden else (if same_text t (codes "offbudget") then Some Offbudget else (if same_text t (codes "closed") then Some Closed else fifth_column_of t)))) refl (λ h.
    step column_name t (codes "is_income") IsIncome y (if same_text t (codes "hidden") then Some Hidden else (if same_text t (codes "offbudget") then Some Offbudget else (if same_text t (codes "closed") then Some Closed else fifth_column_of t))) refl (λ h.
    step column_name t (codes "hidden") Hidden y (if same_text t (codes "offbudget") then Some Offbudget else (if same_text t (codes "closed") then Some Closed else fifth_column_of t)) refl (λ h.
    step column_name t (codes "offbudget") Offbudget y (if same_text t (codes "closed") then Some Closed else fifth_column_of t) refl (λ h.
    step column_name t (codes "closed") Closed y (fifth_column_of t) refl (λ h.
    fifth_named t y h) h) h) h) h) h) h

third_named : (t : Text) (y : Column) → third_column_of t ≡ Some y → t ≡ column_name y
unfolding third_column_of
third_named t y h =
    step column_name t (codes "isParent") IsParent y (if same_text t (codes "isChild") then Some IsChild else (if same_text t (codes "parent_id") then Some ParentId else (if same_text t (codes "transferred_id") then Some TransferredId else (if same_text t (codes "schedule") then Some Schedule else (if same_text t (codes "imported_description") then Some ImportedDescription else fourth_column_of t))))) refl (λ h.
    step column_name t (codes "isChild") IsChild y (if same_text t (codes "parent_id") then Some ParentId else (if same_text t (codes "transferred_id") then Some TransferredId else (if same_text t (codes "schedule") then Some Schedule else (if same_text t (codes "imported_description") then Some ImportedDescription else fourth_column_of t)))) refl (λ h.
    step column_name t (codes "parent_id") ParentId y (if same_text t (codes "transferred_id") then Some TransferredId else (if same_text t (codes "schedule") then Some Schedule else (if same_text t (codes "imported_description") then Some ImportedDescription else fourth_column_of t))) refl (λ h.
    step column_name t (codes "transferred_id") TransferredId y (if same_text t (codes "schedule") then Some Schedule else (if same_text t (codes "imported_description") then Some ImportedDescription else fourth_column_of t)) refl (λ h.
    step column_name t (codes "schedule") Schedule y (if same_text t (codes "imported_description") then Some ImportedDescription else fourth_column_of t) refl (λ h.
    step column_name t (codes "imported_description") ImportedDescription y (fourth_column_of t) refl (λ h.
    fourth_named t y h) h) h) h) h) h) h

second_named : (t : Text) (y : Column) → second_column_of t ≡ Some y → t ≡ column_name y
unfolding second_column_of
second_named t y h =
    step column_name t (codes "name") Name y (if same_text t (codes "tombstone") then Some Tombstone else (if same_text t (codes "sort_order") then Some SortOrder else (if same_text t (codes "cleared") then Some Cleared else (if same_text t (codes "reconciled") then Some Reconciled else (if same_text t (codes "note") then Some Note else third_column_of t))))) refl (λ h.
    step column_name t (codes "tombstone") Tombstone y (if same_text t (codes "sort_order") then Some SortOrder else (if same_text t (codes "cleared") then Some Cleared else (if same_text t (codes "reconciled") then Some Reconciled else (if same_text t (codes "note") then Some Note else third_column_of t)))) refl (λ h.
    step column_name t (codes "sort_order") SortOrder y (if same_text t (codes "cleared") then Some Cleared else (if same_text t (codes "reconciled") then Some Reconciled else (if same_text t (codes "note") then Some Note else third_column_of t))) refl (λ h.
    step column_name t (codes "cleared") Cleared y (if same_text t (codes "reconciled") then Some Reconciled else (if same_text t (codes "note") then Some Note else third_column_of t)) refl (λ h.
    step column_name t (codes "reconciled") Reconciled y (if same_text t (codes "note") then Some Note else third_column_of t) refl (λ h.
    step column_name t (codes "note") Note y (third_column_of t) refl (λ h.
    third_named t y h) h) h) h) h) h) h

pub column_named : (t : Text) (y : Column) → column_of t ≡ Some y → t ≡ column_name y
unfolding column_of
column_named t y h =
    step column_name t (codes "acct") Acct y (if same_text t (codes "date") then Some Date else (if same_text t (codes "amount") then Some Amount else (if same_text t (codes "category") then Some Category else (if same_text t (codes "description") then Some Description else (if same_text t (codes "notes") then Some Notes else second_column_of t))))) refl (λ h.
    step column_name t (codes "date") Date y (if same_text t (codes "amount") then Some Amount else (if same_text t (codes "category") then Some Category else (if same_text t (codes "description") then Some Description else (if same_text t (codes "notes") then Some Notes else second_column_of t)))) refl (λ h.
    step column_name t (codes "amount") Amount y (if same_text t (codes "category") then Some Category else (if same_text t (codes "description") then Some Description else (if same_text t (codes "notes") then Some Notes else second_column_of t))) refl (λ h.
    step column_name t (codes "category") Category y (if same_text t (codes "description") then Some Description else (if same_text t (codes "notes") then Some Notes else second_column_of t)) refl (λ h.
    step column_name t (codes "description") Description y (if same_text t (codes "notes") then Some Notes else second_column_of t) refl (λ h.
    step column_name t (codes "notes") Notes y (second_column_of t) refl (λ h.
    second_named t y h) h) h) h) h) h) h

pub dataset_found : (d : Dataset) → dataset_of (dataset_name d) ≡ Some d
unfolding dataset_of later_dataset_of last_dataset_of same_text
dataset_found Transactions = refl
dataset_found ZeroBudgets = refl
dataset_found Accounts = refl
dataset_found CategoryGroups = refl
dataset_found Categories = refl
dataset_found Payees = refl
dataset_found ZeroBudgetMonths = refl
dataset_found Notes = refl
dataset_found Rules = refl
dataset_found Schedules = refl
dataset_found CategoryMapping = refl
dataset_found PayeeMapping = refl
dataset_found ReflectBudgets = refl

pub column_found : (c : Column) → column_of (column_name c) ≡ Some c
unfolding column_of second_column_of third_column_of fourth_column_of fifth_column_of sixth_column_of seventh_column_of same_text
column_found Acct = refl
column_found Date = refl
column_found Amount = refl
column_found Category = refl
column_found Description = refl
column_found Notes = refl
column_found Name = refl
column_found Tombstone = refl
column_found SortOrder = refl
column_found Cleared = refl
column_found Reconciled = refl
column_found Note = refl
column_found IsParent = refl
column_found IsChild = refl
column_found ParentId = refl
column_found TransferredId = refl
column_found Schedule = refl
column_found ImportedDescription = refl
column_found FinancialId = refl
column_found CatGroup = refl
column_found IsIncome = refl
column_found Hidden = refl
column_found Offbudget = refl
column_found Closed = refl
column_found TransferAcct = refl
column_found Month = refl
column_found Carryover = refl
column_found Buffered = refl
column_found Stage = refl
column_found ConditionsOp = refl
column_found Conditions = refl
column_found Actions = refl
column_found Rule = refl
column_found NextDate = refl
column_found Completed = refl
column_found PostsTransaction = refl
column_found TransferId = refl
column_found TargetId = refl

-- ---- all columns
abbrev pick : {X : Type 0} → ℕ → List X → Option X
pick n [] = None
pick zero (x ∷ xs) = Some x
pick (suc n) (x ∷ xs) = pick n xs

placed : (c : Column) → pick (column_number c) all_columns ≡ Some c
placed Acct = refl
placed Date = refl
placed Amount = refl
placed Category = refl
placed Description = refl
placed Notes = refl
placed Name = refl
placed Tombstone = refl
placed SortOrder = refl
placed Cleared = refl
placed Reconciled = refl
placed Note = refl
placed IsParent = refl
placed IsChild = refl
placed ParentId = refl
placed TransferredId = refl
placed Schedule = refl
placed ImportedDescription = refl
placed FinancialId = refl
placed CatGroup = refl
placed IsIncome = refl
placed Hidden = refl
placed Offbudget = refl
placed Closed = refl
placed TransferAcct = refl
placed Month = refl
placed Carryover = refl
placed Buffered = refl
placed Stage = refl
placed ConditionsOp = refl
placed Conditions = refl
placed Actions = refl
placed Rule = refl
placed NextDate = refl
placed Completed = refl
placed PostsTransaction = refl
placed TransferId = refl
placed TargetId = refl

none_passes : {X : Type 0} (p : X → Bool) (xs : List X) (i : ℕ) (x : X) → list_any p xs ≡ false → pick i xs ≡ Some x → p x ≡ false
none_passes p [] i x h at = no_some x at
none_passes p (y ∷ xs) zero x h at = ap p (sym (some_is y x at)) ∙ first (p y) (list_any p xs) h
  where
    first : (a b : Bool) → (a || b) ≡ false → a ≡ false
    first true b h = absurd (true≢false h)
    first false b h = refl
none_passes p (y ∷ xs) (suc i) x h at = none_passes p xs i x (second (p y) (list_any p xs) h) at
  where
    second : (a b : Bool) → (a || b) ≡ false → b ≡ false
    second true b h = absurd (true≢false h)
    second false b h = h

-- what no column passes, this column doesn't pass
pub no_column : (p : Column → Bool) → list_any p all_columns ≡ false → (c : Column) → p c ≡ false
no_column p h c = none_passes p all_columns (column_number c) c h (placed c)

-- what a column passes, some column passes
pub some_column : (p : Column → Bool) (c : Column) → p c ≡ true → list_any p all_columns ≡ true
some_column p c h = by (list_any p all_columns) refl
  where
    by : (b : Bool) → list_any p all_columns ≡ b → b ≡ true
    by true e = refl
    by false e = sym (no_column p e c) ∙ h

number_is : (a b : ℕ) → (a == b) ≡ true → a ≡ b
number_is a b h = grind arith

pub column_is : (a b : Column) → same_column a b ≡ true → a ≡ b
column_is a b h = some_is a b (sym (placed a) ∙ ap (λ n. pick n all_columns) (number_is (column_number a) (column_number b) h) ∙ placed b)

number_itself : (a : ℕ) → (a == a) ≡ true
number_itself a = grind arith

pub column_itself : (c : Column) → same_column c c ≡ true
column_itself c = number_itself (column_number c)

-- two columns have one name just where they are the same
pub names_tell : (d c : Column) → pointwise nat_eq (column_name d) (column_name c) ≡ same_column d c
names_tell d c = by (same_column d c) (pointwise nat_eq (column_name d) (column_name c)) refl refl
  where
    by : (a b : Bool) → same_column d c ≡ a → pointwise nat_eq (column_name d) (column_name c) ≡ b → b ≡ a
    by true true e f = refl
    by true false e f = sym f ∙ ap (λ x. pointwise nat_eq (column_name x) (column_name c)) (column_is d c e) ∙ is_text_itself (column_name c)
    by false false e f = refl
    by false true e f =
        let same : d ≡ c = some_is d c (sym (column_found d) ∙ ap column_of (text_is _ _ f) ∙ column_found c) in
        sym (column_itself c) ∙ ap (λ x. same_column x c) (sym same) ∙ e
