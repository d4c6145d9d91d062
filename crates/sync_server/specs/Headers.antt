-- How the fields of a head are gone through.
use Rattle.std.specs.Prelude.{ℕ, List, [], ◌∷◌, ◌==◌, Option, Some, None, Result, Ok, Err, codes, if◌then◌else◌}
use Rattle.sync_server.specs.declared.refusal.Refusal.{Refusal}
use Rattle.sync_server.specs.declared.refusal.Refusal.TheVariants.{LengthRequired, BadRequest}
use Rattle.sync_server.specs.Heads.{Pair, has_name, length_in}

-- one more length is told: the same number as before, where there was one
abbrev pub agree : Option ℕ → Option ℕ → Result (Option ℕ) Refusal
agree found None = Err BadRequest
agree None (Some n) = Ok (Some n)
agree (Some m) (Some n) = if n == m then Ok (Some m) else Err BadRequest

infixl 10 ◌>>=◌
abbrev pub ◌>>=◌ : {A B : Type 0} → Result A Refusal → (A → Result B Refusal) → Result B Refusal
(Ok x) >>= f = f x
(Err e) >>= f = Err e

-- what one field more says of the length
abbrev pub agree_at : Option ℕ → Pair → Result (Option ℕ) Refusal
agree_at found f = if has_name (codes "content-length") f then agree found (length_in f.1) else Ok found

abbrev pub found_length : Option ℕ → Result ℕ Refusal
found_length None = Err LengthRequired
found_length (Some n) = Ok n

-- the one length that all fields of the name tell
abbrev pub agreed : Option ℕ → List Pair → Result ℕ Refusal
agreed found [] = found_length found
agreed found (f ∷ fs) = agree_at found f >>= λ now. agreed now fs
