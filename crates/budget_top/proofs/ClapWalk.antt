-- clap's walk over the words of a line.
use Rattle.std.proofs.Common.{◌≡◌, ◌&&◌, ◌||◌, List, [], ◌∷◌, ◌++◌, map, Bool, true, false, cond, not, Option, Some, None, refl, sym, ap, ◌∙◌, true≢false, append_assoc, append-nil}
use Rattle.std.specs.Str.{bytes_eq}
use Rattle.std.specs.Option.{option_map_or}
use Rattle.std.proofs.lemmas.Slice.Eq.{bytes_eq-Decides}
use Rattle.clap.specs.Facts.{explicit_source}
use Rattle.clap.specs.Kinds.{Kinds, or_else}
use Rattle.clap.specs.Walk.{Rule, arg_by_id, used_by_id, Row, Held, settled, has_row, with_values, without}
use Rattle.clap.specs.Takes.{is_given}
use Rattle.clap.specs.Faults.{use_fault, settle_fault}
use Rattle.clap.specs.declared.builder.value_parser.Reading.TheVariants as reading
use Rattle.clap.specs.declared.parser.matches.ValueSource.TheVariants.{CommandLine}
use Rattle.clap.specs.declared.error.kind.ErrorKind.TheVariants as kind
use Rattle.budget_top.specs.Line.{Pair, mode, has, each_once}
use Rattle.budget_top.specs.Clap.{row}
use Rattle.budget_top.proofs.ClapWords.{Text}
use Rattle.budget_top.proofs.ClapRules.{rules, Known, Found, by_id, IsEntry}

-- ---- pairs as rows

pub has_row_is : (n : Text) (ps : List Pair) → has_row n (map row ps) ≡ has n ps
has_row_is n [] = refl
has_row_is n (p ∷ ps) = ap (λ b. bytes_eq p.0 n || b) (has_row_is n ps)

given_step : (b : Bool) (p : Pair) (o : Option Row) → option_map_or (λ r. explicit_source r.source) (cond b (Some (row p)) o) false ≡ (b || option_map_or (λ r. explicit_source r.source) o false)
given_step true p o = refl
given_step false p o = refl

pub given_is : (ps : List Pair) → is_given mode (map row ps) ≡ has mode ps
given_is [] = refl
given_is (p ∷ ps) = given_step (bytes_eq p.0 mode) p _ ∙ ap (λ b. bytes_eq p.0 mode || b) (given_is ps)

pub or_false : (a b : Bool) → (a || b) ≡ false → (a ≡ false) × (b ≡ false)
or_false true b h = absurd (true≢false h)
or_false false b h = (refl, h)

pub added : (n v : Text) (ps : List Pair) → has n ps ≡ false → with_values n reading.AsWritten CommandLine (v ∷ []) (without n (map row ps)) ≡ map row (ps ++ (n, v) ∷ [])
added n v [] h = refl
added n v (p ∷ ps) h =
    let apart = or_false (bytes_eq p.0 n) (has n ps) h in
    rw (apart.0) (rw (apart.0) (ap (λ rs. row p ∷ rs) (added n v ps apart.1)))

-- ---- lists of pairs

or_assoc : (a b c : Bool) → (a || (b || c)) ≡ ((a || b) || c)
or_assoc true b c = refl
or_assoc false b c = refl

pub has_append : (n : Text) (ps qs : List Pair) → has n (ps ++ qs) ≡ (has n ps || has n qs)
has_append n [] qs = refl
has_append n (p ∷ ps) qs = ap (λ b. bytes_eq p.0 n || b) (has_append n ps qs) ∙ or_assoc (bytes_eq p.0 n) (has n ps) (has n qs)

and_true : (a b : Bool) → (a && b) ≡ true → (a ≡ true) × (b ≡ true)
and_true true b h = (refl, h)
and_true false b h = absurd (true≢false (sym h))

and_false : (a : Bool) → (a && false) ≡ false
and_false true = refl
and_false false = refl

or_true : (a : Bool) → (a || true) ≡ true
or_true true = refl
or_true false = refl

pub same_text : (n : Text) → bytes_eq n n ≡ true
same_text n = (bytes_eq-Decides n n).1 refl

twice_step : (p : Pair) (ps : List Pair) (n v : Text) (more : List Pair) (b : Bool) → bytes_eq p.0 n ≡ b → (b || has n ps) ≡ true → (has n ps ≡ true → each_once (ps ++ (n, v) ∷ more) ≡ false) → each_once ((p ∷ ps) ++ (n, v) ∷ more) ≡ false
twice_step p ps n v more true e k rest =
    let there : has p.0 (ps ++ (n, v) ∷ more) ≡ true = has_append p.0 ps ((n, v) ∷ more)
    ∙ ap (λ b. has p.0 ps || (b || has p.0 more)) (ap (λ m. bytes_eq n m) ((bytes_eq-Decides p.0 n).0 e) ∙ same_text n) ∙ or_true (has p.0 ps) in
    rw there refl
twice_step p ps n v more false e k rest = ap (λ b. not (has p.0 (ps ++ (n, v) ∷ more)) && b) (rest k) ∙ and_false _

-- a pair that comes twice
pub twice : (ps : List Pair) (n v : Text) (more : List Pair) → has n ps ≡ true → each_once (ps ++ (n, v) ∷ more) ≡ false
twice [] n v more h = absurd (true≢false (sym h))
twice (p ∷ ps) n v more h = twice_step p ps n v more (bytes_eq p.0 n) refl h (twice ps n v more)

turned_at : (a b : Text) (r : Bool) → bytes_eq b a ≡ r → bytes_eq a b ≡ false → r ≡ false
turned_at a b true e h = absurd (true≢false (sym ((bytes_eq-Decides a b).1 (sym ((bytes_eq-Decides b a).0 e))) ∙ h))
turned_at a b false e h = refl

pub turned : (a b : Text) → bytes_eq a b ≡ false → bytes_eq b a ≡ false
turned a b h = turned_at a b (bytes_eq b a) refl h

not_true : (b : Bool) → not b ≡ true → b ≡ false
not_true true h = absurd (true≢false (sym h))
not_true false h = refl

pub once_more : (ps : List Pair) (n v : Text) → each_once ps ≡ true → has n ps ≡ false → each_once (ps ++ (n, v) ∷ []) ≡ true
once_more [] n v h k = refl
once_more (p ∷ ps) n v h k =
    let both = and_true (not (has p.0 ps)) (each_once ps) h in
    let apart = or_false (bytes_eq p.0 n) (has n ps) k in
    let new : has p.0 (ps ++ (n, v) ∷ []) ≡ false = has_append p.0 ps ((n, v) ∷ [])
    ∙ ap (λ b. b || (bytes_eq n p.0 || false)) (not_true _ both.0) ∙ ap (λ b. b || false) (turned p.0 n apart.0) in
    rw new (once_more ps n v both.1 apart.1)

-- ---- settling what is pending

pub data Pending : Type 0 where
  nothing : Pending
  complete : Text → Text → Pending
  unfinished : Text → Pending

abbrev pub pend : Pending → Option (Text × List Text)
pend nothing = None
pend (complete n v) = Some (n, v ∷ [])
pend (unfinished n) = Some (n, [])

abbrev pub pairs : Pending → List Pair
pairs nothing = []
pairs (complete n v) = (n, v) ∷ []
pairs (unfinished n) = []

abbrev pub IsKnown : Pending → Type 0
IsKnown nothing = Unit {0}
IsKnown (complete n v) = Known n
IsKnown (unfinished n) = ⊥

abbrev pub held : List Pair → Pending → Held
held ps q = record { rows = map row ps; pending = pend q; skip = 0 }

abbrev pub NonEmpty : Kinds → Type 0
NonEmpty ks = ks ≡ [] → ⊥

pub some_kind : (k : _) (ks : Kinds) → NonEmpty (k ∷ ks)
some_kind k ks e = cc

-- a clash of option_names, or the rows with the pending pair
pub data Settles (ps : List Pair) (q : Pending) : Type 0 where
  clash : NonEmpty (settle_fault rules false (held ps q)) → ((more : List Pair) → each_once ((ps ++ pairs q) ++ more) ≡ false) → Settles ps q
  fine : settle_fault rules false (held ps q) ≡ [] → settled rules (held ps q) ≡ held (ps ++ pairs q) nothing → each_once (ps ++ pairs q) ≡ true → Settles ps q

fault_at : (ps : List Pair) (n v : Text) (b : Bool) → has n ps ≡ b → (a : Rule) → arg_by_id rules n ≡ Some a → IsEntry n a
    → settle_fault rules false (held ps (complete n v)) ≡ or_else (cond (b && true) (kind.ArgumentConflict ∷ []) []) []
fault_at ps n v b e a is entry =
    ap (λ o. option_map_or (λ a. use_fault false a (v ∷ []) (map row ps)) o []) is ∙ entry.one v (map row ps)
    ∙ ap (λ b. or_else (cond (b && true) (kind.ArgumentConflict ∷ []) []) []) (has_row_is n ps ∙ e)

complete_settles : (ps : List Pair) (n v : Text) (b : Bool) → has n ps ≡ b → each_once ps ≡ true → Found n → Settles ps (complete n v)
complete_settles ps n v true e once (a, is, entry) =
    let fault = fault_at ps n v true e a is entry in
    clash (λ none. some_kind kind.ArgumentConflict [] (sym fault ∙ none))
    (λ more. ap each_once (append_assoc ps ((n, v) ∷ []) more) ∙ twice ps n v more e)
complete_settles ps n v false e once (a, is, entry) =
    fine (fault_at ps n v false e a is entry)
    (ap (λ rs. let h : Held = record { rows = rs; pending = None; skip = 0 } in h) (ap (λ o. used_by_id o (v ∷ []) (map row ps)) is ∙ entry.adds v (map row ps) ∙ added n v ps e))
    (once_more ps n v once e)

pub settles : (ps : List Pair) (q : Pending) → each_once ps ≡ true → IsKnown q → Settles ps q
settles ps nothing once known = fine refl (ap (λ rs. held rs nothing) (sym (append-nil ps))) (ap each_once (append-nil ps) ∙ once)
settles ps (complete n v) once known = complete_settles ps n v (has n ps) refl once (by_id n known)
settles ps (unfinished n) once known = absurd known
