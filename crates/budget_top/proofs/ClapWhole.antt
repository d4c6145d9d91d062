-- clap's answer at a command line is that of `taken`, where the pairs are those of a line.
use Rattle.std.specs.Bool.{MatchBool}
use Rattle.budget_top.specs.Line.{Pair, is_line, anywhere}
use Rattle.budget_top.specs.Clap.{row}
use Rattle.budget_top.proofs.ClapWords.{Text, AreSpelled, taken}
use Rattle.budget_top.proofs.ClapWalk.{NonEmpty}
use Rattle.std.proofs.Common.{inl, inr, unwrap_or, is_some, ◌≡◌, List, [], ◌∷◌, map, Bool, true, false, Option, Some, None, refl, sym, ap, ◌∙◌, subst, fold}
use Rattle.clap.specs.Kinds.{Kinds, or_else, HasKind}
use Rattle.clap.specs.Values.{kind_of}
use Rattle.clap.specs.declared.error.Error.{Error}
use Rattle.clap.specs.Walk.{Row, Held, Walk, walk_from, nothing_held, walked, walk, settled, finished}
use Rattle.clap.specs.Simple.{App, built, entered, matches_of}
use Rattle.clap.specs.Faults.{level_fault, fault_of, walk_fault, turn_fault, settle_fault, defaults_fault, check_fault, entered_fault}
use Rattle.clap.specs.declared.error.kind.ErrorKind.TheVariants as kind
use Rattle.budget_top.specs.Clap.{plan_app}
use Rattle.budget_top.proofs.ClapRules.{rules, shape, no_defaults, keeps, checks}
use Rattle.budget_top.proofs.ClapLines.{Agrees, line_is, faults, rows_end, tail}

abbrev pub IsLineWith : List Text → List Row → Type 0
IsLineWith words rows = (ps : List Pair) × (taken anywhere words ≡ Some ps) × (is_line ps ≡ true) × (rows ≡ map row ps)

abbrev pub IsNoLine : List Text → Type 0
IsNoLine words = (ps : List Pair) → taken anywhere words ≡ Some ps → is_line ps ≡ false

or_assoc : (a b c : Kinds) → or_else (or_else a b) c ≡ or_else a (or_else b c)
or_assoc [] b c = refl
or_assoc (k ∷ ks) b c = refl

abbrev whole_tail : Held → Kinds
whole_tail h = or_else (settle_fault rules false h) (or_else (defaults_fault (settled rules h).rows rules) (check_fault shape (finished rules h) false))

tail_is : (h : Held) → whole_tail h ≡ tail h
tail_is h = ap (λ ks. or_else (settle_fault rules false h) ks)
    (ap (λ ks. or_else ks (check_fault shape (finished rules h) false)) (no_defaults (settled rules h).rows)
    ∙ ap (λ rs. check_fault shape rs false) (keeps (settled rules h).rows) ∙ checks (settled rules h).rows)

faults_are : (words : List Text) (w : Walk) → or_else (walk_fault shape [] w words) (whole_tail (fold (walked rules []) w words).held) ≡ faults w words
unfolding walk_fault
faults_are [] w = tail_is w.held
faults_are (word ∷ words) w = or_assoc (turn_fault shape [] w word) _ _ ∙ ap (or_else (turn_fault shape [] w word)) (faults_are words (walked rules [] w word))

rows_are : (words : List Text) (w : Walk) → finished rules (fold (walked rules []) w words).held ≡ rows_end w words
rows_are [] w = keeps (settled rules w.held).rows
rows_are (word ∷ words) w = rows_are words (walked rules [] w word)

abbrev plan_built : App
plan_built = built plan_app

none_below : (stop : Option (Text × List Text)) → entered_fault plan_built stop ≡ []
none_below None = refl
none_below (Some p) = refl

none_entered : (stop : Option (Text × List Text)) → entered plan_built stop ≡ None
none_entered None = refl
none_entered (Some p) = refl

pub matches_are : (words : List Text) → matches_of plan_app words ≡ rows_end (walk_from nothing_held) words
matches_are words = rows_are words (walk_from nothing_held)

pub fault_is : (words : List Text) → fault_of plan_app words ≡ faults (walk_from nothing_held) words
fault_is words =
    let stop = (walk rules [] nothing_held words).stopped in
    ap (λ o. level_fault shape [] nothing_held words (is_some o) (entered_fault plan_built stop)) (none_entered stop)
    ∙ ap (level_fault shape [] nothing_held words false) (none_below stop)
    ∙ faults_are words (walk_from nothing_held)

line_of : (words : List Text) (o : Option (List Pair)) (ks : Kinds) (rows : List Row) → taken anywhere words ≡ o → Agrees [] o ks rows → ks ≡ [] → IsLineWith words rows
line_of words None ks rows e h none = absurd (h none)
line_of words (Some ps) ks rows e h none = at_test (is_line ps) refl h
  where
    at_test : (b : Bool) → is_line ps ≡ b → MatchBool b ((ks ≡ []) × (rows ≡ map row ps)) (NonEmpty ks) → IsLineWith words rows
    at_test true t g = (ps, e, t, g.1)
    at_test false t g = absurd (g none)

no_line_of : (words : List Text) (o : Option (List Pair)) (ks : Kinds) (rows : List Row) → taken anywhere words ≡ o → Agrees [] o ks rows → NonEmpty ks → IsNoLine words
no_line_of words None ks rows e h some ps is = absurd (none_is_some (sym e ∙ is))
  where
    none_is_some : None ≡ Some ps → ⊥
    none_is_some e = cc
no_line_of words (Some qs) ks rows e h some ps is = at_test (is_line qs) refl h
  where
    same : qs ≡ ps
    same = ap (λ o. unwrap_or o qs) (sym e ∙ is)

    at_test : (b : Bool) → is_line qs ≡ b → MatchBool b ((ks ≡ []) × (rows ≡ map row qs)) (NonEmpty ks) → is_line ps ≡ false
    at_test true t g = absurd (some g.0)
    at_test false t g = ap is_line (sym same) ∙ t

pub is_line_with : (words : List Text) (rows : List Row) → AreSpelled words → fault_of plan_app words ≡ [] → rows ≡ matches_of plan_app words → IsLineWith words rows
is_line_with words rows spelled none is =
    subst (IsLineWith words) (sym (is ∙ matches_are words))
    (line_of words (taken anywhere words) _ _ refl (line_is words spelled) (sym (fault_is words) ∙ none))

pub is_no_line : (words : List Text) → AreSpelled words → NonEmpty (fault_of plan_app words) → IsNoLine words
is_no_line words spelled some =
    no_line_of words (taken anywhere words) _ _ refl (line_is words spelled) (λ none. some (fault_is words ∙ none))

pub some_of : (ks : Kinds) (e : Error) → HasKind ks e → (kind_of e ≡ kind.OutOfMemory → ⊥) → NonEmpty ks
some_of [] e (inl h) other none = other h
some_of [] e (inr h) other none = absurd h
some_of (k ∷ ks) e h other none = cc
