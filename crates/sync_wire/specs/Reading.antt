-- What a reader answers.
use Rattle.std.specs.Prelude.{◌≡◌, Option, Some, None, Result, Ok, Err}
use Rattle.sync_wire.specs.declared.fault.WireFault.{WireFault}
use Rattle.sync_wire.specs.declared.fault.WireFault.TheVariants.{Truncated, BadTag, LongVarint, NotUtf8, BadStamp, BadMessage, NoMemory}

-- first the one, and then the other with what the one gave; the first fault ends it
infixl 10 ◌>>=◌
abbrev pub ◌>>=◌ : {A B : Type 0} → Result A WireFault → (A → Result B WireFault) → Result B WireFault
(Ok x) >>= f = f x
(Err e) >>= f = Err e

-- e is the fault, or memory ran out
abbrev pub Fails : {Y : Type 0} → WireFault → Result Y WireFault → Type 0
Fails NoMemory read = Unit {0}
Fails (Truncated at) read = read ≡ Err (Truncated at)
Fails (BadTag at) read = read ≡ Err (BadTag at)
Fails (LongVarint at) read = read ≡ Err (LongVarint at)
Fails (NotUtf8 at) read = read ≡ Err (NotUtf8 at)
Fails (BadStamp at) read = read ≡ Err (BadStamp at)
Fails (BadMessage at) read = read ≡ Err (BadMessage at)

-- what a function returned, seen by view, is what reading gives, unless memory ran out
abbrev pub Gives : {X Y : Type 0} → (X → Y) → Result X WireFault → Result Y WireFault → Type 0
Gives view (Ok x) read = read ≡ Ok (view x)
Gives view (Err e) read = Fails e read

-- the fault, or else x
abbrev pub answer : {X : Type 0} → Option WireFault → X → Result X WireFault
answer None x = Ok x
answer (Some f) x = Err f

-- the fault that was found
abbrev pub fault_of : {X : Type 0} → Result X WireFault → Option WireFault
fault_of (Ok x) = None
fault_of (Err f) = Some f
