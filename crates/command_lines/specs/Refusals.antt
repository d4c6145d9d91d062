-- How an edit that was refused is replied to.
use Rattle.std.specs.Prelude.{List, ℕ, [], ◌∷◌, ◌++◌, codes, Option, None, Some}
use Rattle.std.specs.Fmt.{decimal, signed_decimal}
use Rattle.book_rows.specs.declared.fault.EditFault.{EditFault}
use Rattle.book_rows.specs.declared.fault.EditFault.TheVariants.{BadId, IdTaken, NoSuchAccount, NoSuchGroup, NoSuchCategory, NoSuchPayee, NoSuchTransaction, BadDate, BadAmount, BadMonth, SplitSum, IsChild, IsTransferPart, SameAccount, ClosedAccount, IncomeCategory, NameTaken, TooManyWrites, BadRule, NoSuchSchedule, BadRecur, ScheduleDone, BadStatement, NothingToUndo, NothingToRedo, CategoryType, TransferPayee, NoMemory}
use Rattle.book_rows.specs.declared.fault.RulePart.{RulePart}
use Rattle.book_rows.specs.declared.fault.RulePart.TheVariants.{Id, Conditions, Actions}
use Rattle.book_rows.specs.declared.fault.RecurPart.{RecurPart}
use Rattle.book_rows.specs.declared.fault.RecurPart.TheVariants.{Object, Start, Frequency, Interval, Patterns, SkipWeekend, WeekendSolveMode, EndMode, EndOccurrences, EndDate, Rule}
use Rattle.command_lines.specs.declared.reply.Reply.{Reply}
use Rattle.command_lines.specs.declared.reply.Reply.TheVariants.{Refused}

-- there is no live account, group or category of this id
abbrev pub no_such_account : List ℕ → Reply
no_such_account id = Refused 3 (codes "no-such-account") id

abbrev pub no_such_group : List ℕ → Reply
no_such_group id = Refused 4 (codes "no-such-group") id

abbrev pub no_such_category : List ℕ → Reply
no_such_category id = Refused 5 (codes "no-such-category") id

-- there is no live schedule of this id
abbrev pub no_such_schedule : List ℕ → Reply
no_such_schedule id = Refused 20 (codes "no-such-schedule") id

-- this is no day
abbrev pub bad_date : ℕ → Reply
bad_date n = Refused 8 (codes "bad-date") (decimal n)

-- this is no month
abbrev pub bad_month : ℕ → Reply
bad_month n = Refused 10 (codes "bad-month") (decimal n)

-- the parts of a rule, and of a recurrence
abbrev pub rule_part : RulePart → List ℕ
rule_part Id = codes "id"
rule_part Conditions = codes "conditions"
rule_part Actions = codes "actions"

abbrev pub recur_part : RecurPart → List ℕ
recur_part Object = codes "object"
recur_part Start = codes "start"
recur_part Frequency = codes "frequency"
recur_part Interval = codes "interval"
recur_part Patterns = codes "patterns"
recur_part SkipWeekend = codes "skipWeekend"
recur_part WeekendSolveMode = codes "weekendSolveMode"
recur_part EndMode = codes "endMode"
recur_part EndOccurrences = codes "endOccurrences"
recur_part EndDate = codes "endDate"
recur_part Rule = codes "rule"

-- an edit that was refused; a want of memory has no reply
abbrev pub refused_edit : EditFault → Option Reply
refused_edit (BadId id) = Some (Refused 1 (codes "bad-id") id)
refused_edit (IdTaken id) = Some (Refused 2 (codes "id-taken") id)
refused_edit (NoSuchAccount id) = Some (no_such_account id)
refused_edit (NoSuchGroup id) = Some (no_such_group id)
refused_edit (NoSuchCategory id) = Some (no_such_category id)
refused_edit (NoSuchPayee id) = Some (Refused 6 (codes "no-such-payee") id)
refused_edit (NoSuchTransaction id) = Some (Refused 7 (codes "no-such-transaction") id)
refused_edit (BadDate n) = Some (bad_date n)
refused_edit (BadAmount n) = Some (Refused 9 (codes "bad-amount") (signed_decimal n))
refused_edit (BadMonth n) = Some (bad_month n)
refused_edit (SplitSum difference) = Some (Refused 11 (codes "split-sum") (signed_decimal difference))
refused_edit (IsChild id) = Some (Refused 12 (codes "split-part") id)
refused_edit (IsTransferPart id) = Some (Refused 13 (codes "transfer-part") id)
refused_edit (SameAccount id) = Some (Refused 14 (codes "same-id") id)
refused_edit (ClosedAccount balance) = Some (Refused 15 (codes "account-balance") (signed_decimal balance))
refused_edit (IncomeCategory id) = Some (Refused 16 (codes "income-category") id)
refused_edit (NameTaken id) = Some (Refused 17 (codes "name-taken") id)
refused_edit (TooManyWrites n) = Some (Refused 18 (codes "too-many-writes") (decimal n))
refused_edit (BadRule part at) = Some (Refused 19 (codes "bad-rule") (rule_part part ++ 32 ∷ decimal at))
refused_edit (NoSuchSchedule id) = Some (no_such_schedule id)
refused_edit (BadRecur part) = Some (Refused 21 (codes "bad-recur") (recur_part part))
refused_edit (ScheduleDone id) = Some (Refused 22 (codes "schedule-done") id)
refused_edit (BadStatement row column) = Some (Refused 23 (codes "bad-statement") (decimal row ++ 32 ∷ decimal column))
refused_edit NothingToUndo = Some (Refused 24 (codes "nothing-to-undo") [])
refused_edit NothingToRedo = Some (Refused 25 (codes "nothing-to-redo") [])
refused_edit (CategoryType id) = Some (Refused 31 (codes "category-type") id)
refused_edit (TransferPayee id) = Some (Refused 32 (codes "transfer-payee") id)
refused_edit NoMemory = None
