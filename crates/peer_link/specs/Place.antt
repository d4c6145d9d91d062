-- Which group the server has.
use Rattle.std.specs.Prelude.{List, ℕ, codes}

-- its token
abbrev pub token : List ℕ
token = codes "local"

-- its file
abbrev pub file : List ℕ
file = codes "home"

-- the group of the file
abbrev pub group : List ℕ
group = codes "home"
