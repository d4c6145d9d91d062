-- The forms that the words of a line have, and the command that words of a form make.
use Rattle.std.specs.Prelude.{ℕ, ◌+◌, ◌==◌, List, [], ◌∷◌, ◌++◌, length, slice_index, Bool, true, false, ◌&&◌, if◌then◌else◌, codes, Option, None, Some, is_none, Result, Ok, Err, ℤ, pos, neg_ℤ, int_le}
use Rattle.std.specs.Fmt.{signed_decimal}
use Rattle.std.specs.Str.{bytes_eq}
use Rattle.std.specs.Str.Parse.{signed_digits_value}
use Rattle.field_values.specs.declared.name.NamePart.TheVariants.{Dataset}
use Rattle.field_values.specs.Names.{name_fault}
use Rattle.hybrid_clock.specs.declared.stamp.Stamp.{Stamp}
use Rattle.hybrid_clock.specs.declared.stamp.StampFault.{StampFault}
use Rattle.hybrid_clock.specs.Reading.{read_stamp}
use Rattle.field_merge.specs.Escapes.{unescaped, bad_escape}
use Rattle.book_rows.specs.Months.{behind as before_last, two_at, four_at}
use Rattle.rule_engine.specs.declared.rule.Stage.{Stage}
use Rattle.rule_engine.specs.declared.rule.Stage.TheVariants.{Pre, Plain, Post}
use Rattle.rule_engine.specs.declared.rule.RuleOp.{RuleOp}
use Rattle.rule_engine.specs.declared.rule.RuleOp.TheVariants.{And, Or}
use Rattle.command_lines.specs.declared.command.Command.{Command}

-- an amount, and an id or none
abbrev pub Share : Type 0
Share = ℤ × Option (List ℕ)

-- What a line wants behind the words that were read.
pub data Wanted : Type 0 where
  -- no more words: then it makes this command
  no_more : Command → Wanted
  -- a word, whose text says what is wanted next
  word : (List ℕ → Wanted) → Wanted
  -- no more words, and then it makes the command; or a word, whose text says what is wanted next
  may_end : Command → (List ℕ → Wanted) → Wanted
  -- texts, behind those that were read: it makes the command of one or more of them
  some_texts : List (List ℕ) → (List (List ℕ) → Command) → Wanted
  -- shares, behind those that were read, each an amount and an id or none: it makes the command of one or more of them
  some_shares : List Share → (List Share → Command) → Wanted
  -- the last word was not of its form
  misfit : Wanted

-- ---- the forms of a word

-- what is wanted behind a word that was read as a timestamp, or was none
abbrev pub of_stamp : (Stamp → Wanted) → Result Stamp StampFault → Wanted
of_stamp next (Ok stamp) = next stamp
of_stamp next (Err fault) = misfit

-- a word that is a timestamp's text
abbrev pub stamp_word : (Stamp → Wanted) → Wanted
stamp_word next = word (λ text. of_stamp next (read_stamp text))

-- whether a text is a name; the part of the field is told with a fault, and decides nothing
abbrev pub is_name : List ℕ → Bool
is_name text = is_none (name_fault Dataset text)

-- a word that is a name of a field
abbrev pub name_word : (List ℕ → Wanted) → Wanted
name_word next = word (λ text. if is_name text then next text else misfit)

-- an amount has 64 bits
abbrev pub is_amount : ℤ → Bool
is_amount n = int_le (neg_ℤ (pos 9_223_372_036_854_775_808)) n && int_le n (pos 9_223_372_036_854_775_807)

-- the amount that a text writes, where its decimal text is this very text: so no plus, no leading zero, no minus before 0
abbrev pub amount_of : List ℕ → Option ℤ
amount_of text = let n = signed_digits_value 10 text in
    if is_amount n && bytes_eq (signed_decimal n) text then Some n else None

-- a flag is written `1` or `0`
abbrev pub flag_of : List ℕ → Option Bool
flag_of text = if bytes_eq text (codes "1") then Some true else (if bytes_eq text (codes "0") then Some false else None)

-- the number YYYYMMDD that eight digits write, whether or not it is a day
unfoldable pub date_of : List ℕ → Option ℕ
date_of text = if length text == 8 then before_last 10000 (four_at text 0) (four_at text 4) else None

-- the number YYYYMM that four digits, `-` and two digits write, whether or not it is a month
unfoldable pub month_of : List ℕ → Option ℕ
month_of text =
    if length text == 7 then (if slice_index text 4 == 45 then before_last 100 (four_at text 0) (two_at text 5) else None)
    else None

-- the stage of a rule: `none` is neither of the others
abbrev pub stage_of : List ℕ → Option Stage
stage_of text =
    if bytes_eq text (codes "pre") then Some Pre
    else (if bytes_eq text (codes "none") then Some Plain else (if bytes_eq text (codes "post") then Some Post else None))

-- whether all conditions of a rule have to hold, or one
abbrev pub op_of : List ℕ → Option RuleOp
op_of text = if bytes_eq text (codes "and") then Some And else (if bytes_eq text (codes "or") then Some Or else None)

-- what is wanted behind a word that was read, or was not of its form
abbrev pub if_read : {A : Type 0} → (A → Wanted) → Option A → Wanted
if_read next (Some a) = next a
if_read next None = misfit

-- a word of a form: what its text is read as says what is wanted next
abbrev pub form_word : {A : Type 0} → (List ℕ → Option A) → (A → Wanted) → Wanted
form_word read next = word (λ text. if_read next (read text))

abbrev pub amount_word : (ℤ → Wanted) → Wanted
amount_word = form_word amount_of

abbrev pub flag_word : (Bool → Wanted) → Wanted
flag_word = form_word flag_of

abbrev pub date_word : (ℕ → Wanted) → Wanted
date_word = form_word date_of

abbrev pub month_word : (ℕ → Wanted) → Wanted
month_word = form_word month_of

abbrev pub stage_word : (Stage → Wanted) → Wanted
stage_word = form_word stage_of

abbrev pub op_word : (RuleOp → Wanted) → Wanted
op_word = form_word op_of

-- an id that may be left out: a hyphen stands for none
abbrev pub id_or_none : List ℕ → Option (List ℕ)
id_or_none text = if bytes_eq text (codes "-") then None else Some text

-- any text is such an id
unfoldable pub id_of : List ℕ → Option (Option (List ℕ))
id_of text = Some (id_or_none text)

abbrev pub id_word : (Option (List ℕ) → Wanted) → Wanted
id_word = form_word id_of

-- ---- the words of a line

-- a command of one or more
abbrev pub of_some : {A : Type 0} → (List A → Command) → List A → Option Command
of_some made [] = None
of_some made (x ∷ xs) = Some (made (x ∷ xs))

-- the command that a line makes if its words end here
abbrev pub ends : Wanted → Option Command
ends (no_more command) = Some command
ends (word next) = None
ends (may_end command next) = Some command
ends (some_texts texts made) = of_some made texts
ends (some_shares shares made) = of_some made shares
ends misfit = None

-- what is wanted behind one more word with this text
abbrev pub behind : Wanted → List ℕ → Wanted
behind (no_more command) text = misfit
behind (word next) text = next text
behind (may_end command next) text = next text
behind (some_texts texts made) text = some_texts (texts ++ text ∷ []) made
behind (some_shares shares made) text =
    if_read (λ n. word (λ id. some_shares (shares ++ (n, id_or_none id) ∷ []) made)) (amount_of text)
behind misfit text = misfit

-- what is wanted behind a word as it is written: one with a bad escape is of no form
abbrev pub unescaped_for : (List ℕ → Wanted) → List ℕ → Option ℕ → Wanted
unescaped_for next written None = next (unescaped written)
unescaped_for next written (Some at) = misfit

-- the command, or the index of a word that is missing
abbrev pub or_missing : Option Command → ℕ → Result Command ℕ
or_missing (Some command) index = Ok command
or_missing None index = Err index

-- the command of the words behind the one with the index `last`, or the index of the first word that is not of its form,
-- where a missing word stands behind the others
abbrev pub command_of : Wanted → ℕ → List (List ℕ) → Result Command ℕ
command_of misfit last words = Err last
command_of wanted last [] = or_missing (ends wanted) (last + 1)
command_of wanted last (w ∷ ws) = command_of (unescaped_for (behind wanted) w (bad_escape w)) (last + 1) ws
