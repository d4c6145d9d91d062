-- Where two tries differ: a walk over the strings of digits.
use Rattle.std.specs.Prelude.{ℕ, zero, suc, ◌+◌, ◌*◌, ◌^◌, List, [], ◌∷◌, Option, Some, None, Bool, true, false, eqb, if◌then◌else◌}
use Rattle.minute_trie.specs.declared.key.Digit.{Digit}
use Rattle.minute_trie.specs.declared.key.Digit.TheVariants.{Zero, One, Two}
use Rattle.minute_trie.specs.declared.walk.Turn.{Turn}
use Rattle.minute_trie.specs.declared.walk.Turn.TheVariants.{On, Down, Stop}
use Rattle.minute_trie.specs.Held.{Held, after}

-- what the walk does at a child: it goes on to the next where neither side has it or both have one hash there,
-- it goes down where the hashes are two, and it stops where one side alone has it
abbrev pub turn_of : Option ℕ → Option ℕ → Turn
turn_of None None = On
turn_of None (Some b) = Stop
turn_of (Some a) None = Stop
turn_of (Some a) (Some b) = if eqb a b then On else Down

-- the same of what stands behind a digit on either side
abbrev pub turn_at : Digit → Held → Held → Turn
turn_at d f g = turn_of (f (d ∷ [])) (g (d ∷ []))

-- the digit by which the walk goes down once it came to a child: this one's, none, or what the next children give
abbrev pub digit_by_turn : Turn → Digit → Option Digit → Option Digit
digit_by_turn On d next = next
digit_by_turn Down d next = Some d
digit_by_turn Stop d next = None

-- the digit by which the walk goes down, if it does
abbrev pub way_down : Held → Held → Option Digit
way_down f g = digit_by_turn (turn_at Zero f g) Zero (digit_by_turn (turn_at One f g) One (digit_by_turn (turn_at Two f g) Two None))

-- the walk by a digit and then below it, or the empty string where it goes down by none
abbrev pub going_down : (Digit → List Digit) → Option Digit → List Digit
going_down below None = []
going_down below (Some d) = d ∷ below d

-- where the walk ends that takes so many steps at most
abbrev pub walk : ℕ → Held → Held → List Digit
walk zero f g = []
walk (suc n) f g = going_down (λ d. walk n (after d f) (after d g)) (way_down f g)

-- a digit as a number
abbrev pub digit_value : Digit → ℕ
digit_value Zero = 0
digit_value One = 1
digit_value Two = 2

-- the number of a string that is padded on the right with zeros to n digits
abbrev pub padded : ℕ → List Digit → ℕ
padded n [] = 0
padded zero (d ∷ p) = 0
padded (suc n) (d ∷ p) = digit_value d * 3 ^ n + padded n p

-- have both sides one hash, or neither any?
abbrev pub same_hash : Option ℕ → Option ℕ → Bool
same_hash None None = true
same_hash (Some a) (Some b) = eqb a b
same_hash a b = false

-- the string where the walk ends, which has sixteen digits at most
unfoldable pub end_of_walk : Held → Held → List Digit
end_of_walk f g = walk 16 f g

-- the first minute whose key begins with the string
abbrev pub minute_of : List Digit → ℕ
minute_of s = padded 16 s

-- the moment of the difference in milliseconds since 1970, or none where the two have one hash at the root
abbrev pub difference : Held → Held → Option ℕ
difference f g = if same_hash (f []) (g []) then None else Some (minute_of (end_of_walk f g) * 60_000)
