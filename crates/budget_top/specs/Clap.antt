-- What `clap` is told of the command line, and what it finds there.
use Rattle.std.specs.Prelude.{◌≡◌, ℕ, ◌&&◌, ◌||◌, List, [], ◌∷◌, Bool, Some, None, Option, true, false, map, codes, bytes_eq}
use Rattle.clap.specs.Words.{App, Rule, new_app, new_rule, with_rule, rows_of, found_of}
use Rattle.clap.specs.Walk.{Row}
use Rattle.clap.specs.Simple.{on_top}
use Rattle.clap.specs.declared.builder.ArgAction.TheVariants.{Set}
use Rattle.clap.specs.declared.builder.value_parser.Reading.TheVariants as reading
use Rattle.clap.specs.declared.parser.matches.ArgMatches.{ArgMatches}
use Rattle.clap.specs.declared.parser.matches.ValueSource.TheVariants.{CommandLine}
use Rattle.budget_top.specs.Line.{Pair, Look, long, look, mode, line}

-- an option takes one value
abbrev pub option_rule : List ℕ → Rule
option_rule id = record (new_rule id) { long = Some id; action = Some Set }

-- the mode word has to be there
abbrev pub mode_rule : Rule
mode_rule = record (new_rule mode) { required = true; action = Some Set }

-- a command without a program's name among its words and without an option for help, which takes nothing yet
abbrev pub bare_app : App
bare_app = on_top (λ s. record s { no_binary_name = true; disable_help_flag = true }) (new_app (codes "gizsorved"))

-- that command with the mode word and the eight options
abbrev pub plan_app : App
plan_app = with_rule (with_rule (with_rule (with_rule (with_rule (with_rule (with_rule (with_rule (with_rule bare_app mode_rule)
    (option_rule (codes "store"))) (option_rule (codes "node"))) (option_rule (codes "token"))) (option_rule (codes "file")))
    (option_rule (codes "group"))) (option_rule (codes "count"))) (option_rule (codes "listen"))) (option_rule (codes "peer"))

-- the row of a pair
abbrev pub row : Pair → Row
row p = record { id = p.0; values = p.1 ∷ []; count = None; source = Some CommandLine; reading = reading.AsWritten }

-- the pairs of the line are those that were found
abbrev pub IsFoundIn : List (List ℕ) → Option ArgMatches → Type 0
IsFoundIn words None = line words ≡ None
IsFoundIn words (Some matches) = (pairs : List Pair) × (line words ≡ Some pairs) × (rows_of (found_of matches) ≡ map row pairs)

-- an option stands without its value
abbrev pub wants : Look → Bool
wants (long name None) = true
wants shape = false

-- whether a word is written as an option that wants the next word for its value
abbrev pub wants_value : List ℕ → Bool
wants_value word = wants (look word)

-- a hyphen alone stands behind an option that wants its value, or first where one did before
abbrev pub hyphen_after : Bool → List (List ℕ) → Bool
hyphen_after wanted [] = false
hyphen_after wanted (word ∷ words) = (wanted && bytes_eq word (codes "-")) || hyphen_after (wants_value word) words

-- a hyphen alone stands where a value is wanted: `clap` would take it
abbrev pub hyphen_for_value : List (List ℕ) → Bool
hyphen_for_value words = hyphen_after false words
