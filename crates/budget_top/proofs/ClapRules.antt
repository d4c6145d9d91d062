-- What clap's definitions come to at the command of a plan.
use Rattle.std.proofs.Common.{◌≡◌, ◌||◌, List, [], ◌∷◌, map, Bool, true, false, cond, not, Some, None, refl, sym, ap, ◌∙◌, ◌⊎◌, inl, inr, fold, true≢false, subst}
use Rattle.std.specs.Str.{bytes_eq}
use Rattle.std.specs.List.{list_any}
use Rattle.std.proofs.lemmas.Slice.Eq.{bytes_eq-Decides}
use Rattle.clap.specs.Kinds.{or_else}
use Rattle.clap.specs.Walk.{Rule, Row, arg_by_long, arg_by_id, arg_by_index, with_default, has_row, used, with_values, without, most_values}
use Rattle.clap.specs.Simple.{Shape, built}
use Rattle.clap.specs.Takes.{is_given}
use Rattle.clap.specs.Faults.{use_fault, repeat_fault, defaults_fault, check_fault}
use Rattle.clap.specs.declared.builder.value_parser.Reading.TheVariants as reading
use Rattle.clap.specs.declared.builder.value_parser.ValueParser.TheVariants as vp
use Rattle.clap.specs.declared.error.kind.ErrorKind.TheVariants as kind
use Rattle.clap.specs.declared.parser.matches.ValueSource.TheVariants.{CommandLine}
use Rattle.budget_top.specs.Clap.{plan_app, option_rule, mode_rule}
use Rattle.budget_top.specs.Line.{option_names, is_option, mode}
use Rattle.budget_top.proofs.ClapWords.{Text}

abbrev pub shape : Shape
shape = (built plan_app).top

abbrev pub filled_option : Text → Rule
filled_option n = record (option_rule n) {
  parser = Some vp.String;
  range = Some (record { start_inclusive = 1; end_inclusive = 1 });
}

abbrev pub filled_mode : Rule
filled_mode = record mode_rule {
  index = Some 1;
  parser = Some vp.String;
  range = Some (record { start_inclusive = 1; end_inclusive = 1 });
}

abbrev pub rules : List Rule
rules = filled_mode ∷ map filled_option option_names

among : (m n : Text) (ns : List Text) (b : Bool) → bytes_eq m n ≡ b → arg_by_long (map filled_option ns) n ≡ cond (list_any (λ s. bytes_eq s n) ns) (Some (filled_option n)) None
    → cond (b || false) (Some (filled_option m)) (arg_by_long (map filled_option ns) n) ≡ cond (b || list_any (λ s. bytes_eq s n) ns) (Some (filled_option n)) None
among m n ns true e rest = ap (λ s. Some (filled_option s)) ((bytes_eq-Decides m n).0 e)
among m n ns false e rest = rest

long_among : (ns : List Text) (n : Text) → arg_by_long (map filled_option ns) n ≡ cond (list_any (λ s. bytes_eq s n) ns) (Some (filled_option n)) None
long_among [] n = refl
long_among (m ∷ ns) n = among m n ns (bytes_eq m n) refl (long_among ns n)

pub by_long : (n : Text) → arg_by_long rules n ≡ cond (is_option n) (Some (filled_option n)) None
by_long n = long_among option_names n

id_step : (m n : Text) (ns : List Text) (b : Bool) → bytes_eq m n ≡ b → arg_by_id (map filled_option ns) n ≡ cond (list_any (λ s. bytes_eq s n) ns) (Some (filled_option n)) None
    → cond b (Some (filled_option m)) (arg_by_id (map filled_option ns) n) ≡ cond (b || list_any (λ s. bytes_eq s n) ns) (Some (filled_option n)) None
id_step m n ns true e rest = ap (λ s. Some (filled_option s)) ((bytes_eq-Decides m n).0 e)
id_step m n ns false e rest = rest

id_among : (ns : List Text) (n : Text) → arg_by_id (map filled_option ns) n ≡ cond (list_any (λ s. bytes_eq s n) ns) (Some (filled_option n)) None
id_among [] n = refl
id_among (m ∷ ns) n = id_step m n ns (bytes_eq m n) refl (id_among ns n)

-- what one use of an argument with one value, or none, comes to
pub record IsEntry (n : Text) (a : Rule) : Type 0 where
  pub id : a.id ≡ n
  pub most : most_values a ≡ 1
  pub none : (rows : List Row) → use_fault false a [] rows ≡ kind.InvalidValue ∷ []
  pub one : (v : Text) (rows : List Row) → use_fault false a (v ∷ []) rows ≡ or_else (repeat_fault false n rows) []
  pub adds : (v : Text) (rows : List Row) → used a (v ∷ []) rows ≡ with_values n reading.AsWritten CommandLine (v ∷ []) (without n rows)

option_entry : (n : Text) → IsEntry n (filled_option n)
option_entry n = record { id = refl; most = refl; none = λ rows. refl; one = λ v rows. refl; adds = λ v rows. refl }

mode_entry : IsEntry mode filled_mode
mode_entry = record { id = refl; most = refl; none = λ rows. refl; one = λ v rows. refl; adds = λ v rows. refl }

abbrev pub Known : Text → Type 0
Known n = (n ≡ mode) ⊎ (is_option n ≡ true)

abbrev pub Found : Text → Type 0
Found n = (a : Rule) × (arg_by_id rules n ≡ Some a) × IsEntry n a

pub not_mode : (n : Text) (b : Bool) → bytes_eq mode n ≡ b → is_option n ≡ true → b ≡ false
not_mode n true e h = absurd (true≢false (sym h ∙ ap is_option (sym ((bytes_eq-Decides mode n).0 e))))
not_mode n false e h = refl

pub by_id : (n : Text) → Known n → Found n
by_id n (inl e) = (filled_mode, ap (arg_by_id rules) e, subst (λ m. IsEntry m filled_mode) (sym e) mode_entry)
by_id n (inr h) = (filled_option n, rw (not_mode n (bytes_eq mode n) refl h) (id_among option_names n ∙ ap (λ b. cond b (Some (filled_option n)) None) h), option_entry n)

pub first_place : arg_by_index rules 1 ≡ Some filled_mode
first_place = refl

same_either : {A : Type 0} (b : Bool) (x : A) → cond b x x ≡ x
same_either true x = refl
same_either false x = refl

true_or : (b : Bool) → (b || true) ≡ true
true_or true = refl
true_or false = refl

options_default : (ns : List Text) (rows : List Row) → defaults_fault rows (map filled_option ns) ≡ []
unfolding defaults_fault
options_default [] rows = refl
options_default (n ∷ ns) rows = rw (true_or (has_row n rows), same_either (has_row n rows) rows) (options_default ns rows)

pub no_defaults : (rows : List Row) → defaults_fault rows rules ≡ []
unfolding defaults_fault
no_defaults rows = rw (true_or (has_row mode rows), same_either (has_row mode rows) rows) (options_default option_names rows)

options_keep : (ns : List Text) (rows : List Row) → fold with_default rows (map filled_option ns) ≡ rows
options_keep [] rows = refl
options_keep (n ∷ ns) rows = rw (fold, same_either (has_row n rows) rows) (options_keep ns rows)

pub keeps : (rows : List Row) → fold with_default rows rules ≡ rows
keeps rows = rw (fold, same_either (has_row mode rows) rows) (options_keep option_names rows)

flip : {A : Type 0} (b : Bool) (x y : A) → cond (not b || false) x y ≡ cond b y x
flip true x y = refl
flip false x y = refl

pub checks : (rows : List Row) → check_fault shape rows false ≡ cond (is_given mode rows) [] (kind.MissingRequiredArgument ∷ [])
checks rows = flip (is_given mode rows) _ _
