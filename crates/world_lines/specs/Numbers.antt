-- Numbers in their plain digits.
use Rattle.std.specs.Prelude.{ℕ, List, nat_lt, ◌&&◌, if◌then◌else◌, Option, None, Some}
use Rattle.std.specs.Fmt.{decimal}
use Rattle.std.specs.Str.{bytes_eq}
use Rattle.std.specs.Str.Parse.{digits_value}

-- the number below a limit whose decimal text this is: so no plus and no leading zero
abbrev pub number_of : ℕ → List ℕ → Option ℕ
number_of limit text = let n = digits_value 10 text in if nat_lt n limit && bytes_eq (decimal n) text then Some n else None
