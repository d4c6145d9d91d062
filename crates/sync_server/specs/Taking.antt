-- What the bytes that were taken say.
use Rattle.std.specs.Prelude.{◌≡◌, ◌⊎◌, ◌<◌, ◌≤◌, ℕ, List, length, drop, Bool, true, false, Option, Ok, Err}
use Rattle.std.specs.Io.KnownBytes.{IsAtEnd}
use Rattle.httparse.specs.Grammar.{RequestHead, HasNoRequest}
use Rattle.sync_server.specs.declared.refusal.Refusal.{Refusal}
use Rattle.sync_server.specs.declared.refusal.Refusal.TheVariants.{TooLarge, BadRequest}
use Rattle.sync_server.specs.declared.head.Glance.{Glance}
use Rattle.sync_server.specs.declared.head.Glance.TheVariants as glances
use Rattle.sync_server.specs.declared.head.HeadEnd.{HeadEnd}
use Rattle.sync_server.specs.declared.head.HeadEnd.TheVariants as ends
use Rattle.sync_server.specs.Heads.{judge_head, HasHead, NeverHasHead}

-- a whole head stands in front, which is so many bytes long, and takes a body of this length
abbrev pub Takes : List ℕ → List ℕ → ℕ → ℕ → Type 0
Takes token bytes start count = (head : RequestHead) × HasHead bytes head (drop start bytes) × (start ≤ length bytes) × (judge_head token head ≡ Ok count)

-- a whole head stands in front, and is refused
abbrev pub Refuses : List ℕ → List ℕ → Refusal → Type 0
Refuses token bytes refusal = (head : RequestHead) × (rest : List ℕ) × HasHead bytes head rest × (judge_head token head ≡ Err refusal)

-- no bytes complete a head
abbrev pub IsNone : List ℕ → Refusal → Type 0
IsNone bytes refusal = NeverHasHead bytes × (refusal ≡ BadRequest)

abbrev pub IsGlance : List ℕ → List ℕ → Glance → Type 0
IsGlance token bytes (glances.Whole start count) = Takes token bytes start count
IsGlance token bytes (glances.Refused refusal) = Refuses token bytes refusal ⊎ IsNone bytes refusal
IsGlance token bytes glances.NotYet = HasNoRequest bytes

-- there are 65,536 bytes, and no head in them is whole
abbrev pub IsTooLong : List ℕ → Refusal → Type 0
IsTooLong bytes refusal = HasNoRequest bytes × (length bytes ≡ 65536) × (refusal ≡ TooLarge)

abbrev pub IsHeadEnd : List ℕ → List ℕ → Option (List ℕ) → HeadEnd → Type 0
IsHeadEnd token taken left (ends.Whole start count) = Takes token taken start count
IsHeadEnd token taken left (ends.Refused refusal) = (Refuses token taken refusal ⊎ IsNone taken refusal) ⊎ IsTooLong taken refusal
IsHeadEnd token taken left ends.Ended = HasNoRequest taken × (length taken < 65536) × IsAtEnd left
IsHeadEnd token taken left ends.Failed = HasNoRequest taken × (length taken < 65536)
IsHeadEnd token taken left ends.NoMemory = Unit {0}

-- whether a read failed
abbrev pub has_failed : HeadEnd → Bool
has_failed (ends.Whole start count) = false
has_failed (ends.Refused refusal) = false
has_failed ends.Ended = false
has_failed ends.Failed = true
has_failed ends.NoMemory = false
