-- Rows read the columns of their datasets alone.
use Rattle.std.proofs.Common.{◌≡◌, Option, Some, None}
use Rattle.field_values.specs.declared.value.Value.{Value}
use Rattle.finite_sums.specs.Maps.{Text}
use Rattle.book_rows.specs.declared.column.Column.{Column}
use Rattle.book_rows.specs.declared.column.Column.TheVariants as of
use Rattle.book_rows.specs.declared.kind.Kind.{Kind}
use Rattle.book_rows.specs.declared.kind.Kind.TheVariants.{Flag, Int, Day, Text as Words}
use Rattle.book_rows.specs.Kinds.{flag_of, int_of, text_of, day_of}
use Rattle.book_rows.specs.Tables.{Table}
use Rattle.book_rows.specs.Rules.{account_table, group_table, category_table, payee_table, tx_table, budget_table, month_table, note_table, rule_table, schedule_table, category_mapping_table, payee_mapping_table}

-- two values read alike in a column of a kind
abbrev pub ReadAlike : Option Kind → Value → Value → Type 0
ReadAlike (Some Flag) v w = flag_of v ≡ flag_of w
ReadAlike (Some Int) v w = int_of v ≡ int_of w
ReadAlike (Some Words) v w = text_of v ≡ text_of w
ReadAlike (Some Day) v w = day_of v ≡ day_of w
ReadAlike None v w = Unit {0}

-- rows whose columns read alike are the same
abbrev pub ReadsColumns : {Row : Type 0} → Table Row → Type 0
ReadsColumns table = (id : Text) (f g : Column → Value) → ((c : Column) → ReadAlike (table.kind c) (f c) (g c)) → table.row id f ≡ table.row id g

pub tx_reads : ReadsColumns tx_table
tx_reads id f g h =
    let e0 = h of.Acct in
    let e1 = h of.Date in
    let e2 = h of.Amount in
    let e3 = h of.Description in
    let e4 = h of.Category in
    let e5 = h of.Notes in
    let e6 = h of.ImportedDescription in
    let e7 = h of.FinancialId in
    let e8 = h of.TransferredId in
    let e9 = h of.Schedule in
    let e10 = h of.IsParent in
    let e11 = h of.IsChild in
    let e12 = h of.ParentId in
    let e13 = h of.Cleared in
    let e14 = h of.Reconciled in
    let e15 = h of.SortOrder in
    let e16 = h of.Tombstone in
    cc

pub budget_reads : ReadsColumns budget_table
budget_reads id f g h =
    let e0 = h of.Month in
    let e1 = h of.Category in
    let e2 = h of.Amount in
    let e3 = h of.Carryover in
    cc

pub account_reads : ReadsColumns account_table
account_reads id f g h =
    let e0 = h of.Name in
    let e1 = h of.Offbudget in
    let e2 = h of.Closed in
    let e3 = h of.SortOrder in
    let e4 = h of.Tombstone in
    cc

pub group_reads : ReadsColumns group_table
group_reads id f g h =
    let e0 = h of.Name in
    let e1 = h of.IsIncome in
    let e2 = h of.SortOrder in
    let e3 = h of.Hidden in
    let e4 = h of.Tombstone in
    cc

pub category_reads : ReadsColumns category_table
category_reads id f g h =
    let e0 = h of.Name in
    let e1 = h of.CatGroup in
    let e2 = h of.IsIncome in
    let e3 = h of.SortOrder in
    let e4 = h of.Hidden in
    let e5 = h of.Tombstone in
    cc

pub payee_reads : ReadsColumns payee_table
payee_reads id f g h =
    let e0 = h of.Name in
    let e1 = h of.TransferAcct in
    let e2 = h of.Tombstone in
    cc

pub month_reads : ReadsColumns month_table
month_reads id f g h =
    let e0 = h of.Buffered in
    cc

pub note_reads : ReadsColumns note_table
note_reads id f g h =
    let e0 = h of.Note in
    cc

pub rule_reads : ReadsColumns rule_table
rule_reads id f g h =
    let e0 = h of.Stage in
    let e1 = h of.ConditionsOp in
    let e2 = h of.Conditions in
    let e3 = h of.Actions in
    let e4 = h of.Tombstone in
    cc

pub schedule_reads : ReadsColumns schedule_table
schedule_reads id f g h =
    let e0 = h of.Rule in
    let e1 = h of.Name in
    let e2 = h of.NextDate in
    let e3 = h of.Completed in
    let e4 = h of.PostsTransaction in
    let e5 = h of.Tombstone in
    cc

pub category_mapping_reads : ReadsColumns category_mapping_table
category_mapping_reads id f g h =
    let e0 = h of.TransferId in
    cc

pub payee_mapping_reads : ReadsColumns payee_mapping_table
payee_mapping_reads id f g h =
    let e0 = h of.TargetId in
    cc
