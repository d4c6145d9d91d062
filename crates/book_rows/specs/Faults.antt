-- What a refusal of an edit tells.
use Rattle.book_rows.specs.declared.fault.EditFault.{EditFault}
use Rattle.book_rows.specs.declared.fault.EditFault.TheVariants.{BadId, IdTaken, NoSuchAccount, NoSuchGroup, NoSuchCategory, NoSuchPayee, NoSuchTransaction, IsChild, IsTransferPart, SameAccount, IncomeCategory, NameTaken, NoSuchSchedule, ScheduleDone, CategoryType, TransferPayee}

-- the refusal tells an id, which takes memory to copy
abbrev pub TellsId : EditFault → Type 0
TellsId (BadId id) = Unit {0}
TellsId (IdTaken id) = Unit {0}
TellsId (NoSuchAccount id) = Unit {0}
TellsId (NoSuchGroup id) = Unit {0}
TellsId (NoSuchCategory id) = Unit {0}
TellsId (NoSuchPayee id) = Unit {0}
TellsId (NoSuchTransaction id) = Unit {0}
TellsId (IsChild id) = Unit {0}
TellsId (IsTransferPart id) = Unit {0}
TellsId (SameAccount id) = Unit {0}
TellsId (IncomeCategory id) = Unit {0}
TellsId (NameTaken id) = Unit {0}
TellsId (NoSuchSchedule id) = Unit {0}
TellsId (ScheduleDone id) = Unit {0}
TellsId (CategoryType id) = Unit {0}
TellsId (TransferPayee id) = Unit {0}
TellsId fault = ⊥
