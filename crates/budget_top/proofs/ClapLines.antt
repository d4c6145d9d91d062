-- clap takes exactly what `taken` takes, where the pairs are those of a line, and its rows are these pairs.
use Rattle.std.proofs.Common.{◌≡◌, ℕ, ◌&&◌, ◌||◌, List, [], ◌∷◌, ◌++◌, map, length, Bool, true, false, cond, Option, Some, None, refl, sym, ap, ◌∙◌, subst, inl, inr, append_assoc, append-nil}
use Rattle.std.specs.Bool.{MatchBool}
use Rattle.std.specs.Prelude.{if◌then◌else◌}
use Rattle.std.specs.Str.{bytes_eq, chars}
use Rattle.std.specs.List.{slice_get}
use Rattle.std.specs.Option.{option_map_or}
use Rattle.clap.specs.Kinds.{Kinds, or_else}
use Rattle.clap.specs.Lexer.{long_of, short_of}
use Rattle.clap.specs.Walk.{Rule, Row, Held, Walk, Waiting, idle, option, settled, walked, after_step, Step, trailing, is_pending, walk_from, nothing_held, arg_by_long, arg_by_id, option_word, next, plain_word, short_or_plain, long_or_other, long_met, after_flag, option_met, reacted, used, positional_held, pushed}
use Rattle.clap.specs.Takes.{is_given}
use Rattle.clap.specs.Faults.{use_fault, repeat_fault, long_fault, bundle_fault, flags_fault, positional_fault, settle_fault, turn_fault, step_fault, flag_word_fault}
use Rattle.clap.specs.declared.error.kind.ErrorKind.TheVariants as kind
use Rattle.budget_top.specs.Line.{Pair, dashes, is_line, is_option, mode, anywhere, value_of, after_dashes, pair_then, has, each_once}
use Rattle.budget_top.specs.Clap.{row}
use Rattle.budget_top.proofs.ClapWords as own
use Rattle.budget_top.proofs.ClapWords.{Text, IsSpelled, AreSpelled, taken}
use Rattle.budget_top.proofs.ClapRules.{rules, shape, Found, by_id, by_long, filled_option, filled_mode, IsEntry, not_mode}
use Rattle.budget_top.proofs.ClapWalk.{given_is, has_row_is, added, has_append, same_text, twice, once_more, turned, Pending, nothing, complete, unfinished, pend, pairs, IsKnown, held, NonEmpty, some_kind, Settles, clash, fine, settles}

abbrev pub at : Held → Waiting → ℕ → Bool → Walk
at h waiting position t = record { held = h; waiting = waiting; position = position; is_trailing = t; stopped = None }

-- the faults at the end, and those of the words to come
abbrev pub tail : Held → Kinds
tail h = or_else (settle_fault rules false h) (cond (is_given mode (settled rules h).rows) [] (kind.MissingRequiredArgument ∷ []))

abbrev pub faults : Walk → List Text → Kinds
faults w [] = tail w.held
faults w (word ∷ words) = or_else (turn_fault shape [] w word) (faults (walked rules [] w word) words)

abbrev pub rows_end : Walk → List Text → List Row
rows_end w [] = (settled rules w.held).rows
rows_end w (word ∷ words) = rows_end (walked rules [] w word) words

abbrev pub Agrees : List Pair → Option (List Pair) → Kinds → List Row → Type 0
Agrees sofar None ks rows = NonEmpty ks
Agrees sofar (Some more) ks rows = MatchBool (is_line (sofar ++ more)) ((ks ≡ []) × (rows ≡ map row (sofar ++ more))) (NonEmpty ks)

no_line : (ps : List Pair) → each_once ps ≡ false → is_line ps ≡ false
no_line ps e = ap (λ b. b && has mode ps) e

-- a clash that nothing can mend
clashes : (sofar : List Pair) (o : Option (List Pair)) (ks : Kinds) (rows : List Row) → ((more : List Pair) → each_once (sofar ++ more) ≡ false) → NonEmpty ks → Agrees sofar o ks rows
clashes sofar None ks rows never some = some
clashes sofar (Some more) ks rows never some = rw (no_line (sofar ++ more) (never more)) some

first_some : (a b : Kinds) → NonEmpty a → NonEmpty (or_else a b)
first_some [] b some = absurd (some refl)
first_some (k ∷ ks) b some = some_kind k ks

-- a pair of a word and then those of the rest
with_pair : (sofar : List Pair) (p : Pair) (o : Option (List Pair)) (ks : Kinds) (rows : List Row) → Agrees (sofar ++ p ∷ []) o ks rows → Agrees sofar (pair_then p o) ks rows
with_pair sofar p None ks rows h = h
with_pair sofar p (Some more) ks rows h = let P : List Pair → Type 0 = λ ps. MatchBool (is_line ps) ((ks ≡ []) × (rows ≡ map row ps)) (NonEmpty ks) in
    subst P (append_assoc sofar (p ∷ []) more) h

abbrev place_for : Bool → ℕ
place_for m = cond m 2 1

-- ---- the end

end_at : (ps : List Pair) (m : Bool) → has mode ps ≡ m → each_once ps ≡ true → (rows : List Row) → rows ≡ map row ps
    → Agrees ps (Some []) (cond (is_given mode rows) [] (kind.MissingRequiredArgument ∷ [])) rows
end_at ps true e once rows is =
    let line : is_line (ps ++ []) ≡ true = ap is_line (append-nil ps) ∙ ap (λ b. b && has mode ps) once ∙ e in
    let given : is_given mode rows ≡ true = ap (is_given mode) is ∙ given_is ps ∙ e in
    rw (line, given) (refl, is ∙ ap (map row) (sym (append-nil ps)))
end_at ps false e once rows is =
    let line : is_line (ps ++ []) ≡ false = ap is_line (append-nil ps) ∙ ap (λ b. b && has mode ps) once ∙ e in
    let given : is_given mode rows ≡ false = ap (is_given mode) is ∙ given_is ps ∙ e in
    rw (line, given) (some_kind kind.MissingRequiredArgument [])

first_of_both : (a b : Kinds) → a ≡ [] → or_else a b ≡ b
first_of_both a b e = ap (λ x. or_else x b) e

-- the words have ended
ends : (ps : List Pair) (q : Pending) (m : Bool) → has mode (ps ++ pairs q) ≡ m → Settles ps q → Agrees (ps ++ pairs q) (Some []) (tail (held ps q)) (settled rules (held ps q)).rows
ends ps q m e (clash some never) = clashes (ps ++ pairs q) (Some []) _ _ never (first_some _ _ some)
ends ps q m e (fine none is once) =
    rw (first_of_both _ (cond (is_given mode (settled rules (held ps q)).rows) [] (kind.MissingRequiredArgument ∷ [])) none)
    (end_at (ps ++ pairs q) m e once _ (ap (λ (h : Held). h.rows) is))

-- ---- the words to come, from each place

pub record SimAt (words : List Text) : Type 0 where
  pub anywhere : (ps : List Pair) (q : Pending) (m : Bool) → has mode (ps ++ pairs q) ≡ m → each_once ps ≡ true → IsKnown q
      → Agrees (ps ++ pairs q) (taken anywhere words) (faults (at (held ps q) idle (place_for m) false) words) (rows_end (at (held ps q) idle (place_for m) false) words)
  pub after : (ps : List Pair) (q : Pending) (m : Bool) (w : Waiting) → has mode (ps ++ pairs q) ≡ m → each_once ps ≡ true → IsKnown q
      → Agrees (ps ++ pairs q) (taken after_dashes words) (faults (at (held ps q) w (place_for m) true) words) (rows_end (at (held ps q) w (place_for m) true) words)
  pub value : (ps : List Pair) (n : Text) (m : Bool) → has mode ps ≡ m → each_once ps ≡ true → is_option n ≡ true
      → Agrees ps (taken (value_of n) words) (faults (at (held ps (unfinished n)) (option n) (place_for m) false) words) (rows_end (at (held ps (unfinished n)) (option n) (place_for m) false) words)

-- ---- a word that goes to the mode

skip_if : (b : Bool) (x : Kinds) → (if b && false then [] else x) ≡ x
skip_if true x = refl
skip_if false x = refl

keep_if : (b : Bool) (x y : Held) → (if b && false then x else y) ≡ y
keep_if true x y = refl
keep_if false x y = refl

mode_known : (ps : List Pair) (v : Text) → has mode (ps ++ (mode, v) ∷ []) ≡ true
mode_known ps v = has_append mode ps ((mode, v) ∷ []) ∙ or_last (has mode ps)
  where
    or_last : (b : Bool) → (b || true) ≡ true
    or_last true = refl
    or_last false = refl

-- the same claim of a step whose faults and walk are known
known_step : (sofar : List Pair) (o : Option (List Pair)) (words : List Text) (a b : Kinds) (v w : Walk) → a ≡ b → v ≡ w
    → Agrees sofar o (or_else b (faults w words)) (rows_end w words) → Agrees sofar o (or_else a (faults v words)) (rows_end v words)
known_step sofar o words a b v w ea ew h =
    let P : Kinds → Type 0 = λ x. Agrees sofar o (or_else x (faults v words)) (rows_end v words) in
    let Q : Walk → Type 0 = λ x. Agrees sofar o (or_else b (faults x words)) (rows_end x words) in
    subst P (sym ea) (subst Q (sym ew) h)

abbrev Follows : List Pair → Option (List Pair) → Walk → List Text → Type 0
Follows sofar o w words = Agrees sofar o (faults w words) (rows_end w words)

to_mode : (ps : List Pair) (q : Pending) → Settles ps q → (word : Text) (t : Bool) (words : List Text) (o : Option (List Pair))
    → (each_once (ps ++ pairs q) ≡ true → Follows ((ps ++ pairs q) ++ (mode, word) ∷ []) o (at (held (ps ++ pairs q) (complete mode word)) idle 2 t) words)
    → Agrees (ps ++ pairs q) (pair_then (mode, word) o)
    (or_else (positional_fault rules false filled_mode (held ps q)) (faults (at (positional_held rules filled_mode word (held ps q)) idle 2 t) words))
    (rows_end (at (positional_held rules filled_mode word (held ps q)) idle 2 t) words)
to_mode ps q (clash some never) word t words o later =
    clashes (ps ++ pairs q) (pair_then (mode, word) o) _ _ never
    (first_some _ _ (subst NonEmpty (sym (skip_if (is_pending filled_mode (pend q)) (settle_fault rules false (held ps q)))) some))
to_mode ps q (fine none is once) word t words o later =
    known_step (ps ++ pairs q) (pair_then (mode, word) o) words (positional_fault rules false filled_mode (held ps q)) []
    (at (positional_held rules filled_mode word (held ps q)) idle 2 t) (at (held (ps ++ pairs q) (complete mode word)) idle 2 t)
    (skip_if (is_pending filled_mode (pend q)) (settle_fault rules false (held ps q)) ∙ none)
    (ap (λ h. at (pushed mode word h) idle 2 t) (keep_if (is_pending filled_mode (pend q)) (held ps q) (settled rules (held ps q)) ∙ is))
    (with_pair (ps ++ pairs q) (mode, word) o _ _ (later once))

second_mode : (sofar : List Pair) (word : Text) (o : Option (List Pair)) (ks : Kinds) (rows : List Row) → has mode sofar ≡ true → NonEmpty ks → Agrees sofar (pair_then (mode, word) o) ks rows
second_mode sofar word o ks rows e some =
    with_pair sofar (mode, word) o ks rows (clashes (sofar ++ (mode, word) ∷ []) o ks rows (λ more. ap each_once (append_assoc sofar ((mode, word) ∷ []) more) ∙ twice sofar mode word more e) some)

-- after `--`
after_word : (word : Text) (words : List Text) → SimAt words → (ps : List Pair) (q : Pending) (m : Bool) (w : Waiting) → has mode (ps ++ pairs q) ≡ m → Settles ps q
    → Follows (ps ++ pairs q) (taken after_dashes (word ∷ words)) (at (held ps q) w (place_for m) true) (word ∷ words)
unfolding walked
after_word word words later ps q true w e set =
    second_mode (ps ++ pairs q) word (taken after_dashes words) _ _ e (first_some (kind.UnknownArgument ∷ []) (faults (walked rules [] (at (held ps q) w 2 true) word) words) (some_kind kind.UnknownArgument []))
after_word word words later ps q false w e set =
    to_mode ps q set word true words (taken after_dashes words)
    (λ once. later.after (ps ++ pairs q) (complete mode word) true idle (mode_known (ps ++ pairs q) word) once (inl refl))

-- ---- a word anywhere

bundle_fails : (flags : Text) (h : Held) (y : ℕ) (ys : Text) (x : ℕ) → flags ≡ y ∷ ys → slice_get (chars flags) 0 ≡ Some x → h.skip ≡ 0 → bundle_fault rules false flags h ≡ kind.UnknownArgument ∷ []
unfolding flags_fault
bundle_fails flags h y ys x is first none = rw (none, ap length is) (rw first refl)

no_more : (sofar : List Pair) (n v : Text) (o : Option (List Pair)) (ks : Kinds) (rows : List Row) → has n sofar ≡ true → NonEmpty ks → Agrees sofar (pair_then (n, v) o) ks rows
no_more sofar n v o ks rows e some =
    with_pair sofar (n, v) o ks rows (clashes (sofar ++ (n, v) ∷ []) o ks rows (λ more. ap each_once (append_assoc sofar ((n, v) ∷ []) more) ∙ twice sofar n v more e) some)

-- the part of a step that comes of `--name` and `--name=value`, at what was found of the name
abbrev LongStep : List Pair → Held → ℕ → Text → Text → Option Text → Option (List Pair) → List Text → Option Rule → Type 0
LongStep sofar h position word n v o words found =
    let met = long_met rules found v h in
    let m = after_flag rules idle word met.0 met.1 in
    Agrees sofar o (or_else (or_else (long_fault rules false found v h) (step_fault shape position m.0 m.1)) (faults (after_step rules word (at h idle position false) m.0 m.1) words))
    (rows_end (after_step rules word (at h idle position false) m.0 m.1) words)

abbrev once_fault : Bool → Kinds
once_fault b = or_else (or_else (cond (b && true) (kind.ArgumentConflict ∷ []) []) []) []

long_fault_is : (ps : List Pair) (q : Pending) (n v : Text) (b : Bool) → settle_fault rules false (held ps q) ≡ [] → settled rules (held ps q) ≡ held (ps ++ pairs q) nothing → has n (ps ++ pairs q) ≡ b
    → or_else (long_fault rules false (Some (filled_option n)) (Some v) (held ps q)) [] ≡ once_fault b
long_fault_is ps q n v b none is e =
    ap (λ x. or_else (or_else x (or_else (repeat_fault false n (settled rules (held ps q)).rows) [])) []) none
    ∙ ap (λ (h : Held). or_else (or_else (repeat_fault false n h.rows) []) []) is
    ∙ ap once_fault (has_row_is n (ps ++ pairs q) ∙ e)

value_given : (ps : List Pair) (q : Pending) → Settles ps q → (position : ℕ) (word n v : Text) (words : List Text) (o : Option (List Pair)) (b : Bool) → has n (ps ++ pairs q) ≡ b
    → (each_once (ps ++ pairs q) ≡ true → b ≡ false → Follows ((ps ++ pairs q) ++ (n, v) ∷ []) o (at (held ((ps ++ pairs q) ++ (n, v) ∷ []) nothing) idle position false) words)
    → LongStep (ps ++ pairs q) (held ps q) position word n (Some v) (pair_then (n, v) o) words (Some (filled_option n))
value_given ps q (clash some never) position word n v words o b e later =
    clashes (ps ++ pairs q) (pair_then (n, v) o) _ _ never (first_some _ _ (first_some _ _ (first_some _ _ some)))
value_given ps q (fine none is once) position word n v words o true e later =
    no_more (ps ++ pairs q) n v o _ _ e (first_some _ _ (subst NonEmpty (sym (long_fault_is ps q n v true none is e)) (some_kind kind.ArgumentConflict [])))
value_given ps q (fine none is once) position word n v words o false e later =
    known_step (ps ++ pairs q) (pair_then (n, v) o) words
    (or_else (long_fault rules false (Some (filled_option n)) (Some v) (held ps q)) []) []
    (at (reacted rules (filled_option n) (v ∷ []) (held ps q)) idle position false) (at (held ((ps ++ pairs q) ++ (n, v) ∷ []) nothing) idle position false)
    (long_fault_is ps q n v false none is e)
    (ap (λ (h : Held). let now : Held = record { rows = used (filled_option n) (v ∷ []) h.rows; pending = None; skip = h.skip } in at now idle position false) is
    ∙ ap (λ rs. let now : Held = record { rows = rs; pending = None; skip = 0 } in at now idle position false) (added n v (ps ++ pairs q) e))
    (with_pair (ps ++ pairs q) (n, v) o _ _ (later once refl))

value_wanted : (ps : List Pair) (q : Pending) → Settles ps q → (position : ℕ) (word n : Text) (words : List Text) (o : Option (List Pair))
    → (each_once (ps ++ pairs q) ≡ true → Follows (ps ++ pairs q) o (at (held (ps ++ pairs q) (unfinished n)) (option n) position false) words)
    → LongStep (ps ++ pairs q) (held ps q) position word n None o words (Some (filled_option n))
value_wanted ps q (clash some never) position word n words o later =
    clashes (ps ++ pairs q) o _ _ never (first_some _ _ (first_some _ _ some))
value_wanted ps q (fine none is once) position word n words o later =
    known_step (ps ++ pairs q) o words
    (or_else (long_fault rules false (Some (filled_option n)) None (held ps q)) []) []
    (at (option_met rules (filled_option n) None (held ps q)).0 (option n) position false) (at (held (ps ++ pairs q) (unfinished n)) (option n) position false)
    (ap (λ x. or_else x []) none)
    (ap (λ (h : Held). let now : Held = record h { pending = Some (n, []) } in at now (option n) position false) is)
    (later once)

-- ---- at a name, known or not

option_apart : (n v : Text) (sofar : List Pair) (m : Bool) → is_option n ≡ true → has mode sofar ≡ m → has mode (sofar ++ (n, v) ∷ []) ≡ m
option_apart n v sofar m name e = has_append mode sofar ((n, v) ∷ [])
    ∙ ap (λ b. has mode sofar || (b || false)) (turned mode n (not_mode n (bytes_eq mode n) refl name)) ∙ or_last (has mode sofar) ∙ e
  where
    or_last : (b : Bool) → (b || false) ≡ b
    or_last true = refl
    or_last false = refl

end_none : (sofar : List Pair) (m : Bool) → has mode sofar ≡ m → has mode (sofar ++ []) ≡ m
end_none sofar m e = ap (has mode) (append-nil sofar) ∙ e

named_value : (words : List Text) → SimAt words → (ps : List Pair) (q : Pending) (m : Bool) → has mode (ps ++ pairs q) ≡ m → Settles ps q → (word n v : Text) (b : Bool) → is_option n ≡ b
    → (found : Option Rule) → found ≡ cond b (Some (filled_option n)) None
    → LongStep (ps ++ pairs q) (held ps q) (place_for m) word n (Some v) (cond b (pair_then (n, v) (taken anywhere words)) None) words found
named_value words later ps q m e set word n v true name found is =
    subst (LongStep (ps ++ pairs q) (held ps q) (place_for m) word n (Some v) (pair_then (n, v) (taken anywhere words)) words) (sym is)
    (value_given ps q set (place_for m) word n v words (taken anywhere words) (has n (ps ++ pairs q)) refl
    (λ once apart. let sofar = (ps ++ pairs q) ++ (n, v) ∷ [] in
    let P : List Pair → Type 0 = λ x. Follows x (taken anywhere words) (at (held sofar nothing) idle (place_for m) false) words in
    subst P (append-nil sofar) (later.anywhere sofar nothing m (end_none sofar m (option_apart n v (ps ++ pairs q) m name e)) (once_more (ps ++ pairs q) n v once apart) tt)))
named_value words later ps q m e set word n v false name found is =
    subst (LongStep (ps ++ pairs q) (held ps q) (place_for m) word n (Some v) None words) (sym is)
    (some_kind kind.UnknownArgument [])

named_alone : (words : List Text) → SimAt words → (ps : List Pair) (q : Pending) (m : Bool) → has mode (ps ++ pairs q) ≡ m → Settles ps q → (word n : Text) (b : Bool) → is_option n ≡ b
    → (found : Option Rule) → found ≡ cond b (Some (filled_option n)) None
    → LongStep (ps ++ pairs q) (held ps q) (place_for m) word n None (cond b (taken (value_of n) words) None) words found
named_alone words later ps q m e set word n true name found is =
    subst (LongStep (ps ++ pairs q) (held ps q) (place_for m) word n None (taken (value_of n) words) words) (sym is)
    (value_wanted ps q set (place_for m) word n words (taken (value_of n) words) (λ once. later.value (ps ++ pairs q) n m e once name))
named_alone words later ps q m e set word n false name found is =
    subst (LongStep (ps ++ pairs q) (held ps q) (place_for m) word n None None words) (sym is)
    (some_kind kind.UnknownArgument [])

-- ---- a word anywhere, by what it looks like

abbrev WordStep : List Pair → Held → Waiting → ℕ → Text → Option (List Pair) → List Text → Kinds → Held × Step → Type 0
WordStep sofar h w position word o words ks m =
    Agrees sofar o (or_else (or_else ks (step_fault shape position m.0 m.1)) (faults (after_step rules word (at h w position false) m.0 m.1) words))
    (rows_end (after_step rules word (at h w position false) m.0 m.1) words)

plain_anywhere : (words : List Text) → SimAt words → (ps : List Pair) (q : Pending) (m : Bool) → has mode (ps ++ pairs q) ≡ m → Settles ps q → (word : Text)
    → WordStep (ps ++ pairs q) (held ps q) idle (place_for m) word (pair_then (mode, word) (taken anywhere words)) words [] (plain_word rules idle word (held ps q))
plain_anywhere words later ps q true e set word =
    second_mode (ps ++ pairs q) word (taken anywhere words) _ _ e (some_kind kind.UnknownArgument [])
plain_anywhere words later ps q false e set word =
    to_mode ps q set word false words (taken anywhere words)
    (λ once. later.anywhere (ps ++ pairs q) (complete mode word) true (mode_known (ps ++ pairs q) word) once (inl refl))

short_anywhere : (words : List Text) → SimAt words → (ps : List Pair) (q : Pending) (m : Bool) → has mode (ps ++ pairs q) ≡ m → Settles ps q → (word : Text) → IsSpelled word
    → (s : Option Text) → short_of word ≡ s
    → WordStep (ps ++ pairs q) (held ps q) idle (place_for m) word (own.taken_part anywhere (own.short_or_plain s) word (λ next. taken next words)) words
    (option_map_or (λ flags. bundle_fault rules false flags (held ps q)) s []) (short_or_plain rules idle word s (held ps q))
short_anywhere words later ps q m e set word spelled (Some flags) is =
    let first = spelled flags is in
    first_some _ _ (first_some _ _ (subst NonEmpty (sym (bundle_fails flags (held ps q) first.0 first.1 first.2 first.3 first.4 refl)) (some_kind kind.UnknownArgument [])))
short_anywhere words later ps q m e set word spelled None is = plain_anywhere words later ps q m e set word

by_look : (words : List Text) → SimAt words → (ps : List Pair) (q : Pending) (m : Bool) → has mode (ps ++ pairs q) ≡ m → each_once ps ≡ true → IsKnown q → (word : Text) → IsSpelled word
    → (b : Bool) (l : Option (Text × Option Text))
    → WordStep (ps ++ pairs q) (held ps q) idle (place_for m) word (own.taken_part anywhere (if b then dashes else own.long_or_other l word) word (λ next. taken next words)) words
    (if b then [] else flag_word_fault rules false l word (held ps q)) (if b then (held ps q, trailing (place_for m)) else long_or_other rules idle word l (held ps q))
by_look words later ps q m e once known word spelled true l = later.after ps q m idle e once known
by_look words later ps q m e once known word spelled false (Some (n, Some v)) = named_value words later ps q m e (settles ps q once known) word n v (is_option n) refl (arg_by_long rules n) (by_long n)
by_look words later ps q m e once known word spelled false (Some (n, None)) = named_alone words later ps q m e (settles ps q once known) word n (is_option n) refl (arg_by_long rules n) (by_long n)
by_look words later ps q m e once known word spelled false None = short_anywhere words later ps q m e (settles ps q once known) word spelled (short_of word) refl

anywhere_word : (words : List Text) → SimAt words → (ps : List Pair) (q : Pending) (m : Bool) → has mode (ps ++ pairs q) ≡ m → each_once ps ≡ true → IsKnown q → (word : Text) → IsSpelled word
    → Follows (ps ++ pairs q) (taken anywhere (word ∷ words)) (at (held ps q) idle (place_for m) false) (word ∷ words)
unfolding walked
anywhere_word words later ps q m e once known word spelled = by_look words later ps q m e once known word spelled (bytes_eq word (45 ∷ 45 ∷ [])) (long_of word)

-- ---- a word after an option that wants its value

unfinished_fault : (ps : List Pair) (n : Text) → is_option n ≡ true → settle_fault rules false (held ps (unfinished n)) ≡ kind.InvalidValue ∷ []
unfinished_fault ps n name =
    let found = by_id n (inr name) in
    ap (λ o. option_map_or (λ a. use_fault false a [] (map row ps)) o []) found.1 ∙ found.2.none (map row ps)

unfinished_some : (ps : List Pair) (n : Text) → is_option n ≡ true → NonEmpty (settle_fault rules false (held ps (unfinished n)))
unfinished_some ps n name = subst NonEmpty (sym (unfinished_fault ps n name)) (some_kind kind.InvalidValue [])

-- after `--` no value comes
never_given : (words : List Text) (ps : List Pair) (n : Text) (m : Bool) (w : Waiting) → is_option n ≡ true → NonEmpty (faults (at (held ps (unfinished n)) w (place_for m) true) words)
never_given [] ps n m w name = first_some _ _ (unfinished_some ps n name)
never_given (word ∷ words) ps n true w name = some_kind kind.UnknownArgument []
never_given (word ∷ words) ps n false w name =
    first_some _ _ (subst NonEmpty (sym (skip_if (is_pending filled_mode (pend (unfinished n))) (settle_fault rules false (held ps (unfinished n))))) (unfinished_some ps n name))

long_wanted : (ps : List Pair) (n : Text) → is_option n ≡ true → (found : Option Rule) (other : Text) (v : Option Text) (b : Bool) → found ≡ cond b (Some (filled_option other)) None → NonEmpty (long_fault rules false found v (held ps (unfinished n)))
long_wanted ps n name found other v true is = subst (λ f. NonEmpty (long_fault rules false f v (held ps (unfinished n)))) (sym is) (either v)
  where
    either : (v : Option Text) → NonEmpty (long_fault rules false (Some (filled_option other)) v (held ps (unfinished n)))
    either (Some x) = first_some _ _ (unfinished_some ps n name)
    either None = unfinished_some ps n name
long_wanted ps n name found other v false is = subst (λ f. NonEmpty (long_fault rules false f v (held ps (unfinished n)))) (sym is) (some_kind kind.UnknownArgument [])

no_longer : (ps : List Pair) (n word : Text) (a : Rule) → IsEntry n a → (option_word (Some a) n word (held ps (unfinished n))).1 ≡ idle
no_longer ps n word a entry = rw (entry.id, same_text n, entry.most) refl

value_taken : (words : List Text) → SimAt words → (ps : List Pair) (n : Text) (m : Bool) → has mode ps ≡ m → each_once ps ≡ true → is_option n ≡ true → (word : Text) → (found : Option Rule) → Found n → arg_by_id rules n ≡ found
    → WordStep ps (held ps (unfinished n)) (option n) (place_for m) word (pair_then (n, word) (taken anywhere words)) words [] ((option_word found n word (held ps (unfinished n))).0, next (option_word found n word (held ps (unfinished n))).1)
value_taken words later ps n m e once name word found (a, is, entry) at_id =
    known_step ps (pair_then (n, word) (taken anywhere words)) words [] []
    (at (option_word found n word (held ps (unfinished n))).0 (option_word found n word (held ps (unfinished n))).1 (place_for m) false) (at (held ps (complete n word)) idle (place_for m) false)
    refl
    (ap (λ f. at (option_word f n word (held ps (unfinished n))).0 (option_word f n word (held ps (unfinished n))).1 (place_for m) false) (sym at_id ∙ is)
    ∙ ap (λ w. at (held ps (complete n word)) w (place_for m) false) (no_longer ps n word a entry))
    (with_pair ps (n, word) (taken anywhere words) _ _ (later.anywhere ps (complete n word) m (option_apart n word ps m name e) once (inr name)))

short_wanted : (words : List Text) → SimAt words → (ps : List Pair) (n : Text) (m : Bool) → has mode ps ≡ m → each_once ps ≡ true → is_option n ≡ true → (word : Text) → IsSpelled word
    → (s : Option Text) → short_of word ≡ s
    → WordStep ps (held ps (unfinished n)) (option n) (place_for m) word (own.taken_part (value_of n) (own.short_or_plain s) word (λ next. taken next words)) words
    (option_map_or (λ flags. bundle_fault rules false flags (held ps (unfinished n))) s []) (short_or_plain rules (option n) word s (held ps (unfinished n)))
short_wanted words later ps n m e once name word spelled (Some flags) is =
    let first = spelled flags is in
    first_some _ _ (first_some _ _ (subst NonEmpty (sym (bundle_fails flags (held ps (unfinished n)) first.0 first.1 first.2 first.3 first.4 refl)) (some_kind kind.UnknownArgument [])))
short_wanted words later ps n m e once name word spelled None is = value_taken words later ps n m e once name word (arg_by_id rules n) (by_id n (inr name)) refl

by_look_wanted : (words : List Text) → SimAt words → (ps : List Pair) (n : Text) (m : Bool) → has mode ps ≡ m → each_once ps ≡ true → is_option n ≡ true → (word : Text) → IsSpelled word
    → (b : Bool) (l : Option (Text × Option Text))
    → WordStep ps (held ps (unfinished n)) (option n) (place_for m) word (own.taken_part (value_of n) (if b then dashes else own.long_or_other l word) word (λ next. taken next words)) words
    (if b then [] else flag_word_fault rules false l word (held ps (unfinished n))) (if b then (held ps (unfinished n), trailing (place_for m)) else long_or_other rules (option n) word l (held ps (unfinished n)))
by_look_wanted words later ps n m e once name word spelled true l = never_given words ps n m (option n) name
by_look_wanted words later ps n m e once name word spelled false (Some (other, v)) =
    first_some _ _ (first_some _ _ (long_wanted ps n name (arg_by_long rules other) other v (is_option other) (by_long other)))
by_look_wanted words later ps n m e once name word spelled false None = short_wanted words later ps n m e once name word spelled (short_of word) refl

value_word : (words : List Text) → SimAt words → (ps : List Pair) (n : Text) (m : Bool) → has mode ps ≡ m → each_once ps ≡ true → is_option n ≡ true → (word : Text) → IsSpelled word
    → Follows ps (taken (value_of n) (word ∷ words)) (at (held ps (unfinished n)) (option n) (place_for m) false) (word ∷ words)
unfolding walked
value_word words later ps n m e once name word spelled = by_look_wanted words later ps n m e once name word spelled (bytes_eq word (45 ∷ 45 ∷ [])) (long_of word)

-- ---- all words

pub sim : (words : List Text) → AreSpelled words → SimAt words
sim [] spelled = record {
  anywhere = λ ps q m e once known. ends ps q m e (settles ps q once known);
  after = λ ps q m w e once known. ends ps q m e (settles ps q once known);
  value = λ ps n m e once name. first_some _ _ (unfinished_some ps n name);
}
sim (word ∷ words) spelled =
    let later = sim words spelled.1 in
    record {
      anywhere = λ ps q m e once known. anywhere_word words later ps q m e once known word spelled.0;
      after = λ ps q m w e once known. after_word word words later ps q m w e (settles ps q once known);
      value = λ ps n m e once name. value_word words later ps n m e once name word spelled.0;
    }

-- clap takes words where `taken` has the pairs of a line for them, and its rows are these pairs; other words have a fault
pub line_is : (words : List Text) → AreSpelled words → Agrees [] (taken anywhere words) (faults (walk_from nothing_held) words) (rows_end (walk_from nothing_held) words)
line_is words spelled = (sim words spelled).anywhere [] nothing false refl refl tt
