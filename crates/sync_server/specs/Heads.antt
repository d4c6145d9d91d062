-- What the head of a request decides.
use Rattle.std.specs.Prelude.{◌≡◌, ℕ, ◌<◌, ◌≤◌, List, [], ◌∷◌, length, take, map, Bool, false, ◌==◌, ◌&&◌, nat_lt, Option, Some, None, Result, Ok, Err, codes, position, if◌then◌else◌}
use Rattle.std.specs.Char.{is_ascii_digit}
use Rattle.std.specs.List.{list_all, list_any, filter_map}
use Rattle.std.specs.Str.{str_eq_ignore_ascii_case, bytes_eq}
use Rattle.std.specs.Str.Parse.{digits_value}
use Rattle.httparse.specs.Grammar.{RequestHead, ReadsRequest, HasNoRequest}
use Rattle.httparse.specs.Spans.{RequestOverflows, name_and_value}
use Rattle.sync_server.specs.declared.refusal.Refusal.{Refusal}
use Rattle.sync_server.specs.declared.refusal.Refusal.TheVariants.{NotFound, MethodNotAllowed, LengthRequired, BadRequest, TooLarge, TokenNotFound}

-- a field of a head: its name, and its value without the blanks around it
abbrev pub Pair : Type 0
Pair = List ℕ × List ℕ

-- whether the field has this name, in letters of either case
abbrev pub has_name : List ℕ → Pair → Bool
has_name name f = str_eq_ignore_ascii_case f.0 name

-- the value of a field of this name
abbrev pub value_under : List ℕ → Pair → Option (List ℕ)
value_under name f = if has_name name f then Some f.1 else None

-- the values of all fields of this name, in order
abbrev pub values_under : List ℕ → List Pair → List (List ℕ)
values_under name fields = filter_map (value_under name) fields

-- the number that 1 to 18 digits write
abbrev pub length_in : List ℕ → Option ℕ
length_in text = if nat_lt 0 (length text) && nat_lt (length text) 19 && list_all is_ascii_digit text then Some (digits_value 10 text) else None

-- whether it is this number
abbrev pub is_number : ℕ → Option ℕ → Bool
is_number n None = false
is_number n (Some m) = m == n

-- whether a text writes this number
abbrev pub tells : ℕ → List ℕ → Bool
tells n text = is_number n (length_in text)

-- the number that was told first, where all other values tell it too
abbrev pub told_by_all : List (List ℕ) → Option ℕ → Result ℕ Refusal
told_by_all texts None = Err BadRequest
told_by_all texts (Some n) = if list_all (tells n) texts then Ok n else Err BadRequest

-- the length of the body, which each of the values tells
abbrev pub length_told : List (List ℕ) → Result ℕ Refusal
length_told [] = Err LengthRequired
length_told (text ∷ texts) = told_by_all texts (length_in text)

-- the length of a body is to be 67,108,864 at most
abbrev pub not_too_long : Result ℕ Refusal → Result ℕ Refusal
not_too_long (Err refusal) = Err refusal
not_too_long (Ok n) = if nat_lt 67108864 n then Err TooLarge else Ok n

-- the length of a body that is not too long
abbrev pub body_length : List Pair → Result ℕ Refusal
body_length fields = not_too_long (length_told (values_under (codes "content-length") fields))

-- whether the first of the values is the token, all of it
abbrev pub is_token : List ℕ → List (List ℕ) → Bool
is_token token [] = false
is_token token (text ∷ texts) = bytes_eq text token

-- whether a byte is a question mark
abbrev pub is_question : ℕ → Bool
is_question b = b == 63

-- what stands before the place, or all of it
abbrev pub up_to : Option ℕ → List ℕ → List ℕ
up_to None text = text
up_to (Some i) text = take i text

-- what stands before the first question mark, if there is one
abbrev pub path_of : List ℕ → List ℕ
path_of target = up_to (position is_question target) target

-- a length is taken where the token is the server's
abbrev pub with_token : Bool → Result ℕ Refusal → Result ℕ Refusal
with_token right (Err refusal) = Err refusal
with_token right (Ok n) = if right then Ok n else Err TokenNotFound

-- the length of the body that follows, or the first refusal: by path, method, the fields that tell the length, and the token
abbrev pub judged : List ℕ → List ℕ → List ℕ → List Pair → Result ℕ Refusal
judged token target method fields =
    if bytes_eq (path_of target) (codes "/sync/sync") then (
    if bytes_eq method (codes "POST") then (
    if list_any (has_name (codes "transfer-encoding")) fields then Err LengthRequired else (
    with_token (is_token token (values_under (codes "x-actual-token") fields)) (body_length fields)))
    else Err MethodNotAllowed) else Err NotFound

-- the same of a head
abbrev pub judge_head : List ℕ → RequestHead → Result ℕ Refusal
judge_head token h = judged token h.target h.method (map name_and_value h.fields)

-- a whole head of a request with at most 64 fields stands in front, and behind it the rest
pub record HasHead (bytes : List ℕ) (head : RequestHead) (rest : List ℕ) : Type 0 where
  pub reads : ReadsRequest bytes head rest
  pub few : length head.fields ≤ 64

-- no head of a request with at most 64 fields stands in front, whatever bytes follow
abbrev pub NeverHasHead : List ℕ → Type 0
NeverHasHead bytes = RequestOverflows 64 bytes

-- the bytes that came decide nothing yet: no head is whole and more may come, or one is, and its body is not whole
pub data IsUndecided (token : List ℕ) (came : List ℕ) : Type 0 where
  in_head : HasNoRequest came → length came < 65536 → IsUndecided token came
  in_body : (head : RequestHead) (rest : List ℕ) (n : ℕ) → HasHead came head rest → judge_head token head ≡ Ok n → length rest < n → IsUndecided token came
