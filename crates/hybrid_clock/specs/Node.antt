-- Nodes: the sixteen characters by which timestamps tell devices apart.
use Rattle.std.specs.Prelude.{◌≡◌, ℕ, ◌-◌, Bool, false, not, ◌==◌, nat_lt, if◌then◌else◌, List, ◌++◌, length, replicate, position, Option, None, Some, Result, Ok, Err, IsTrue}
use Rattle.std.specs.List.{list_all}
use Rattle.std.specs.Char.{is_ascii_alphanumeric}
use Rattle.hybrid_clock.specs.declared.node.NodeFault.{NodeFault}
use Rattle.hybrid_clock.specs.declared.node.NodeFault.TheVariants.{Empty, TooLong, BadByte, Zero}

-- whether each character is `0`
abbrev pub is_zeros : List ℕ → Bool
is_zeros text = list_all (λ b. b == 48) text

-- sixteen letters and digits of ASCII, not all of them `0`
pub record IsNode (node : List ℕ) : Type 0 where
  pub sixteen : length node ≡ 16
  pub characters : IsTrue (list_all is_ascii_alphanumeric node)
  pub nonzero : is_zeros node ≡ false

-- a text of at most sixteen characters, with `0` on its left up to sixteen
abbrev pub padded : List ℕ → List ℕ
padded text = replicate (16 - length text) 48 ++ text

-- the node of a text whose first character that is no letter or digit stands at this place, if there is one
abbrev pub node_unless_bad : List ℕ → Option ℕ → Result (List ℕ) NodeFault
node_unless_bad text (Some at) = Err (BadByte at)
node_unless_bad text None = if is_zeros text then Err Zero else Ok (padded text)

-- the node that a text names: it has one to sixteen letters and digits, not all of them `0`
unfoldable pub node_of : List ℕ → Result (List ℕ) NodeFault
node_of text =
    if length text == 0 then Err Empty
    else (if nat_lt 16 (length text) then Err (TooLong (length text))
    else node_unless_bad text (position (λ b. not (is_ascii_alphanumeric b)) text))
