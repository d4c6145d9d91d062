-- Edits of rules and of schedules are refused with the first fault of what they ask for.
use Rattle.std.proofs.Common.{◌≡◌, ℕ, ◌+◌, min, Bool, true, false, List, [], ◌∷◌, ◌++◌, Option, None, Some, Result, Ok, Err, refl, ap, ap₂, sym, ◌∙◌, subst, arith}
use Rattle.std.specs.Prelude.{◌&&◌, ◌||◌, codes, unsigned_abs, nat_le, not, is_some, map as list_map, ok_or, if◌then◌else◌}
use Rattle.std.specs.Option.{option_map, option_and_then, is_none}
use Rattle.std.specs.Result.{result_ok}
use Rattle.std.specs.List.{filter_map}
use Rattle.std.specs.Str.{bytes_eq}
use Rattle.std.proofs.lemmas.Bool.{cond-false}
use Rattle.std.proofs.lemmas.Slice.Eq.{bytes_eq-Decides}
use Rattle.std.specs.FinMap.{get}
use Rattle.serde_json.specs.Data.{Data, Items, no_items, item}
use Rattle.serde_json.specs.Find.{as_str, as_array, as_object}
use Rattle.serde_json.specs.Read.{read}
use Rattle.field_values.specs.Value.{largest_number}
use Rattle.finite_sums.specs.Maps.{Text, some_and}
use Rattle.book_rows.specs.declared.rows.Rows.{Rows}
use Rattle.book_rows.specs.declared.rows.RuleRow.{RuleRow}
use Rattle.book_rows.specs.declared.rows.ScheduleRow.{ScheduleRow}
use Rattle.book_rows.specs.declared.write.RowName.TheVariants.{Given}
use Rattle.book_rows.specs.declared.write.Write.{Write}
use Rattle.book_rows.specs.declared.fault.EditFault.{EditFault}
use Rattle.book_rows.specs.declared.fault.EditFault.TheVariants.{BadId, IdTaken, NoSuchAccount, NoSuchPayee, NoSuchTransaction, BadAmount, BadRule, NoSuchSchedule, BadRecur, ScheduleDone}
use Rattle.book_rows.specs.declared.fault.RulePart.{RulePart}
use Rattle.book_rows.specs.declared.fault.RulePart.TheVariants.{Id, Conditions, Actions}
use Rattle.book_rows.specs.declared.fault.RecurPart.{RecurPart}
use Rattle.book_rows.specs.declared.fault.RecurPart.TheVariants.{Object, Start, Frequency, Interval, Patterns, SkipWeekend, WeekendSolveMode, EndMode, EndOccurrences, EndDate, Rule}
use Rattle.book_rows.specs.Live.{is_live_account, is_live_payee, is_live_rule, is_alive}
use Rattle.book_edits.specs.Faults.{◌>>=◌, Check, must, each}
use Rattle.book_edits.specs.Checks.{may_be_chosen, given_row, new_row, live_payee}
use Rattle.book_edits.proofs.Valid.{inside}
use Rattle.rule_engine.specs.declared.edit.RuleEdit.{RuleEdit}
use Rattle.rule_engine.specs.declared.edit.RuleEdit.TheVariants.{RuleAdd, RuleDelete, RulesRun}
use Rattle.rule_engine.specs.Reading.{entries_of, first_bad, unless_bad, all_read, in_array, read_part, condition_of, action_of}
use Rattle.rule_engine.specs.Reading.{or_bad as or_bad_entry}
use Rattle.rule_engine.specs.Edits.{is_rule, readable, rule_writes}
use Rattle.rule_engine.proofs.Places.{at_front, behind}
use Rattle.schedules.specs.declared.edit.ScheduleEdit.{ScheduleEdit}
use Rattle.schedules.specs.declared.edit.ScheduleEdit.TheVariants.{Add, Post, Skip, Delete}
use Rattle.schedules.specs.declared.recurrence.Ending.TheVariants.{Times, Until}
use Rattle.schedules.specs.Months.{day_in}
use Rattle.schedules.specs.Days.{Said, next_from}
use Rattle.schedules.specs.Reading.{day_of_text, start_of, frequency_of, interval_of, patterns_for, skip_of, solve_of, at_key, mode_word, mode_at, times_of, until_of, or_bad, result_then, weekends_of, ending_by, ending_of, said_of, said_in, or_recur, recurrence_of}
use Rattle.schedules.specs.Conditions.{says, is_account_field, is_payee_field, is_condition, is_action, all_of}
use Rattle.schedules.specs.Terms.{Terms, field_of, names, value_of, words_of, first_where, amount_in, day_or, days_meant, terms_in, entries_by, live_rule, rule_terms, terms_of}
use Rattle.schedules.specs.Terms.{entries_of as read_entries}
use Rattle.schedules.specs.Edits.{not_done, is_schedule, new_schedule, schedule_writes}
use Rattle.book_laws.specs.Asking.{unless, fault_of, first_fault, new, account, payee}
use Rattle.book_laws.proofs.Asked.{asks, maybe, at_end}
use Rattle.rule_laws.specs.Asking.{transaction, entries, array, rule_part, asked_of_rules, ends, keys, recurrence, occurs, listed, when, asked_of_rule, rule, its_rule, where_live, going, asked_of_schedules, RuleEditsAreJudged, ScheduleEditsAreJudged}

-- ---- checks one after the other

-- what is asked behind what is so
passes : (told others : List (Option EditFault)) → first_fault told ≡ None → first_fault (told ++ others) ≡ first_fault others
passes [] others h = refl
passes (None ∷ told) others h = passes told others h
passes (Some f ∷ told) others h = absurd (clash h)
  where
    clash : ◌≡◌ {A = Option EditFault} (Some f) None → ⊥
    clash h = cc

-- and behind what isn't
stops : (told others : List (Option EditFault)) (f : EditFault) → Some f ≡ first_fault told → Some f ≡ first_fault (told ++ others)
stops [] others f h = absurd (clash h)
  where
    clash : ◌≡◌ {A = Option EditFault} (Some f) None → ⊥
    clash h = cc
stops (None ∷ told) others f h = stops told others f h
stops (Some g ∷ told) others f h = h

-- a check that asks for something, and then the others
follows : {A B : Type 0} (r : Result A EditFault) (told others : List (Option EditFault)) (go : A → Result B EditFault) → fault_of r ≡ first_fault told → ((a : A) → r ≡ Ok a → fault_of (go a) ≡ first_fault others)
    → fault_of (r >>= go) ≡ first_fault (told ++ others)
follows (Ok a) told others go h next = next a refl ∙ sym (passes told others (sym h))
follows (Err f) told others go h next = stops told others f h

module _ {A : Type 0} where
  -- what has to be there
  wants : {X : Type 0} (o : Option X) (f : EditFault) (go : X → Result A EditFault) → ((x : X) → fault_of (go x) ≡ None) → fault_of (ok_or o f >>= go) ≡ first_fault (unless (is_some o) f ∷ [])
  wants None f go h = refl
  wants (Some x) f go h = h x

-- an id that is given
given_asked : (there : Bool) (id : Text) → fault_of (given_row there id) ≡ first_fault (unless (may_be_chosen id) (BadId id) ∷ unless (not there) (IdTaken id) ∷ [])
given_asked there id = by (may_be_chosen id) (not there)
  where
    by : (a b : Bool) → fault_of (must a (BadId id) >>= λ _. must b (IdTaken id) >>= λ _. Ok (Given id)) ≡ first_fault (unless a (BadId id) ∷ unless b (IdTaken id) ∷ [])
    by true true = refl
    by true false = refl
    by false b = refl

-- ---- a part of a rule

abbrev at_place : RulePart → ℕ → EditFault
at_place part at = BadRule part (min at 4_294_967_295)

shifted : (part : RulePart) (n : ℕ) (o : Option ℕ) → option_map (λ i. at_place part (n + i)) (option_map (λ i. 1 + i) o) ≡ option_map (λ i. at_place part (n + 1 + i)) o
shifted part n None = refl
shifted part n (Some i) = ap (λ (k : ℕ). Some (at_place part k)) (let e : n + (1 + i) ≡ n + 1 + i = omega arith in e)

from_start : (part : RulePart) (o : Option ℕ) → option_map (λ i. at_place part i) o ≡ option_map (λ i. at_place part (0 + i)) o
from_start part None = refl
from_start part (Some i) = ap (λ (k : ℕ). Some (at_place part k)) (let e : i ≡ 0 + i = omega arith in e)

module _ {A : Type 0} (part : RulePart) (reading : Data → Option A) where
  place : (n : ℕ) (ds : Items) → option_map (λ i. at_place part (n + i)) (first_bad reading (entries_of ds)) ≡ first_fault (entries part reading n ds)
  place n no_items = refl
  place n (item d ds) = by (reading d) refl (place (n + 1) ds)
    where
      by : (o : Option A) → reading d ≡ o → option_map (λ i. at_place part (n + 1 + i)) (first_bad reading (entries_of ds)) ≡ first_fault (entries part reading (n + 1) ds)
          → option_map (λ i. at_place part (n + i)) (first_bad reading (d ∷ entries_of ds)) ≡ first_fault (unless (is_some o) (at_place part n) ∷ entries part reading (n + 1) ds)
      by None e later =
          ap (option_map (λ i. at_place part (n + i))) (at_front (λ x. is_none (reading x)) d (entries_of ds) (ap is_none e))
          ∙ ap (λ (k : ℕ). Some (at_place part k)) (let same : n + 0 ≡ n = omega arith in same)
      by (Some a) e later =
          ap (option_map (λ i. at_place part (n + i))) (behind (λ x. is_none (reading x)) d (entries_of ds) (ap is_none e))
          ∙ shifted part n (first_bad reading (entries_of ds)) ∙ later

  unless_read : (o : Option ℕ) (found : List A) → fault_of (readable (or_bad_entry part (unless_bad o found))) ≡ option_map (λ i. at_place part i) o
  unless_read None found = refl
  unless_read (Some at) found = refl

  part_asked : (text : Text) → fault_of (readable (read_part part reading (Some text))) ≡ first_fault (rule_part part reading text)
  unfolding all_read
  part_asked text = by (option_and_then as_array (read text))
    where
      by : (o : Option Items) → fault_of (readable (or_bad_entry part (in_array reading (option_map entries_of o)))) ≡ first_fault (array part reading o)
      by None = refl
      by (Some ds) = unless_read (first_bad reading (entries_of ds)) (filter_map reading (entries_of ds)) ∙ from_start part (first_bad reading (entries_of ds)) ∙ place 0 ds

-- ---- edits of rules

module _ (rows : Rows) where
  rule_id_asked : (id : Option Text) → fault_of (new_row (is_rule rows) id) ≡ first_fault (new (is_rule rows) id)
  rule_id_asked None = refl
  rule_id_asked (Some id) = given_asked (is_rule rows id) id

  each_asked : (ids : List Text) (go : Result (List Write) EditFault) → fault_of go ≡ None → fault_of (each (λ id. must (is_alive rows id) (NoSuchTransaction id)) ids >>= λ _. go) ≡ first_fault (list_map (transaction rows) ids)
  each_asked [] go h = h
  each_asked (id ∷ ids) go h =
      in_turn (must (is_alive rows id) (NoSuchTransaction id)) (each (λ q. must (is_alive rows q) (NoSuchTransaction q)) ids) go
      ∙ asks (is_alive rows id) (NoSuchTransaction id) _ _ (each_asked ids go h)
    where
      in_turn : (a b : Check) (c : Result (List Write) EditFault) → fault_of ((a >>= λ _. b) >>= λ _. c) ≡ fault_of (a >>= λ _. (b >>= λ _. c))
      in_turn (Ok u) b c = refl
      in_turn (Err f) b c = refl

  rules_by : (edit : RuleEdit) → fault_of (rule_writes rows edit) ≡ first_fault (asked_of_rules rows edit)
  rules_by (RuleAdd id stage op conditions actions) =
      follows (new_row (is_rule rows) id) (new (is_rule rows) id) _ _ (rule_id_asked id) (λ row e.
      follows (readable (read_part Conditions condition_of (Some conditions))) (rule_part Conditions condition_of conditions) _ _ (part_asked Conditions condition_of conditions) (λ u f.
      follows (readable (read_part Actions action_of (Some actions))) (rule_part Actions action_of actions) [] _ (part_asked Actions action_of actions) (λ v g. refl)
      ∙ ap first_fault (at_end (rule_part Actions action_of actions))))
  rules_by (RuleDelete id) = asks (is_live_rule rows id) (BadRule Id 0) _ [] refl
  rules_by (RulesRun ids) = each_asked ids _ refl

pub rules_judged : RuleEditsAreJudged
rules_judged = rules_by

-- ---- the keys of a recurrence

module _ {A B : Type 0} where
  key : (part : RecurPart) (o : Option A) (next : A → Result B RecurPart) (others : List (Option EditFault)) → ((a : A) → o ≡ Some a → fault_of (or_recur (next a)) ≡ first_fault others)
      → fault_of (or_recur (or_bad part o next)) ≡ first_fault (unless (is_some o) (BadRecur part) ∷ others)
  key part None next others h = refl
  key part (Some a) next others h = h a refl

  -- some keys, and then others
  then_keys : (r : Result A RecurPart) (told others : List (Option EditFault)) (next : A → Result B RecurPart) → fault_of (or_recur r) ≡ first_fault told → ((a : A) → fault_of (or_recur (next a)) ≡ first_fault others)
      → fault_of (or_recur (result_then r next)) ≡ first_fault (told ++ others)
  then_keys (Ok a) told others next h rest = rest a ∙ sym (passes told others (sym h))
  then_keys (Err part) told others next h rest = stops told others (BadRecur part) h

-- no word of an end
no_mode : (t : Text) → bytes_eq t (codes "never") ≡ false → bytes_eq t (codes "after_n_occurrences") ≡ false → bytes_eq t (codes "on_date") ≡ false → mode_word (Some t) ≡ None
no_mode t e f g = cond-false (bytes_eq t (codes "never")) _ _ e ∙ cond-false (bytes_eq t (codes "after_n_occurrences")) _ _ f ∙ cond-false (bytes_eq t (codes "on_date")) _ _ g

-- the text is this word
abbrev is : Option Text → Text → Bool
is w word = some_and (λ (t : Text). bytes_eq t word) w

module _ (d : Data) where
  abbrev of_weekends : List (Option EditFault)
  of_weekends = unless (is_some (skip_of d)) (BadRecur SkipWeekend) ∷ unless (is_some (solve_of d)) (BadRecur WeekendSolveMode) ∷ []

  weekends_asked : fault_of (or_recur (weekends_of d)) ≡ first_fault of_weekends
  unfolding weekends_of
  weekends_asked = key SkipWeekend (skip_of d) _ _ (λ skip e. key WeekendSolveMode (solve_of d) _ [] (λ solve f. refl))

  abbrev of_ending : List (Option EditFault)
  of_ending = ends d (at_key (codes "endMode") d)

  abbrev IsAsked : Text → Type 0
  IsAsked t = fault_of (or_recur (or_bad EndMode (mode_word (Some t)) (λ mode. ending_by mode d)))
      ≡ first_fault (unless (bytes_eq t (codes "never") || (bytes_eq t (codes "after_n_occurrences") || bytes_eq t (codes "on_date"))) (BadRecur EndMode)
      ∷ unless (not (bytes_eq t (codes "after_n_occurrences")) || is_some (times_of d)) (BadRecur EndOccurrences)
      ∷ unless (not (bytes_eq t (codes "on_date")) || is_some (until_of d)) (BadRecur EndDate)
      ∷ [])

  -- the word of an end, and what follows it
  word_asked : (w : Option Text) → fault_of (or_recur (or_bad EndMode (mode_word w) (λ mode. ending_by mode d)))
      ≡ first_fault (unless (is w (codes "never") || (is w (codes "after_n_occurrences") || is w (codes "on_date"))) (BadRecur EndMode)
      ∷ unless (not (is w (codes "after_n_occurrences")) || is_some (times_of d)) (BadRecur EndOccurrences)
      ∷ unless (not (is w (codes "on_date")) || is_some (until_of d)) (BadRecur EndDate)
      ∷ [])
  word_asked None = refl
  word_asked (Some t) = by (bytes_eq t (codes "never")) refl (bytes_eq t (codes "after_n_occurrences")) refl (bytes_eq t (codes "on_date")) refl
    where
      same : (word : Text) → bytes_eq t word ≡ true → IsAsked word → IsAsked t
      same word e h = subst IsAsked (sym ((bytes_eq-Decides t word).0 e)) h

      by : (never : Bool) → bytes_eq t (codes "never") ≡ never → (after : Bool) → bytes_eq t (codes "after_n_occurrences") ≡ after → (on : Bool) → bytes_eq t (codes "on_date") ≡ on → IsAsked t
      by true e after f on g = same (codes "never") e refl
      by false e true f on g = same (codes "after_n_occurrences") f (key EndOccurrences (times_of d) (λ n. Ok (Times n)) (None ∷ []) (λ n h. refl))
      by false e false f true g = same (codes "on_date") g (key EndDate (until_of d) (λ n. Ok (Until n)) [] (λ n h. refl))
      by false e false f false g =
          ap (λ o. fault_of (or_recur (or_bad EndMode o (λ mode. ending_by mode d)))) (no_mode t e f g)
          ∙ sym (ap (λ b. first_fault (unless b (BadRecur EndMode)
          ∷ unless (not (bytes_eq t (codes "after_n_occurrences")) || is_some (times_of d)) (BadRecur EndOccurrences)
          ∷ unless (not (bytes_eq t (codes "on_date")) || is_some (until_of d)) (BadRecur EndDate)
          ∷ [])) (ap₂ (λ a b. a || b) e (ap₂ (λ a b. a || b) f g)))

  ending_asked : fault_of (or_recur (ending_of d)) ≡ first_fault of_ending
  unfolding ending_of
  ending_asked = by (at_key (codes "endMode") d)
    where
      by : (o : Option Data) → fault_of (or_recur (or_bad EndMode (mode_at o) (λ mode. ending_by mode d))) ≡ first_fault (ends d o)
      by None = refl
      by (Some x) = word_asked (as_str x)

  abbrev behind_patterns : List (Option EditFault)
  behind_patterns = of_weekends ++ of_ending

  keys_asked : fault_of (or_recur (said_of d)) ≡ first_fault (keys d)
  unfolding said_of
  keys_asked = object (is_some (as_object d)) _ _
      (key Start (start_of d) _ _ (λ start e.
      key Frequency (frequency_of d) _ _ (λ f is.
      key Interval (interval_of d) _ _ (λ interval g.
      key Patterns (patterns_for f d) _ behind_patterns (λ patterns h.
      then_keys (weekends_of d) of_weekends of_ending _ weekends_asked (λ weekends.
      then_keys (ending_of d) of_ending [] _ ending_asked (λ ending. refl)))
      ∙ ap (λ o. first_fault (option_and_then (λ q. unless (is_some (patterns_for q d)) (BadRecur Patterns)) o ∷ behind_patterns)) (sym is)))))
    where
      object : (b : Bool) (rest : Result Said RecurPart) (others : List (Option EditFault)) → fault_of (or_recur rest) ≡ first_fault others → fault_of (or_recur (if b then rest else Err Object)) ≡ first_fault (unless b (BadRecur Object) ∷ others)
      object true rest others h = h
      object false rest others h = refl

recur_asked : (text : Text) → fault_of (recurrence_of text) ≡ first_fault (recurrence (read text))
recur_asked text = by (read text)
  where
    by : (o : Option Data) → fault_of (or_recur (said_in o)) ≡ first_fault (recurrence o)
    by None = refl
    by (Some d) = keys_asked d

-- ---- the rule of a schedule

entries_read : (test : Data → Bool) (text : Option Text) → read_entries test text ≡ option_and_then (λ ds. if all_of test ds then Some ds else None) (listed text)
entries_read test None = refl
entries_read test (Some text) = by (option_and_then as_array (read text))
  where
    by : (o : Option Items) → entries_by test o ≡ option_and_then (λ ds. if all_of test ds then Some ds else None) o
    by None = refl
    by (Some ds) = refl

module _ {B : Type 0} where
  of_entries : (test : Data → Bool) (o : Option Items) (next : Items → Result B RecurPart) (others : List (Option EditFault)) → ((ds : Items) → o ≡ Some ds → fault_of (or_recur (next ds)) ≡ first_fault others)
      → fault_of (or_recur (or_bad Rule (option_and_then (λ ds. if all_of test ds then Some ds else None) o) next)) ≡ first_fault (unless (some_and (all_of test) o) (BadRecur Rule) ∷ others)
  of_entries test None next others h = refl
  of_entries test (Some ds) next others h = by (all_of test ds)
    where
      by : (b : Bool) → fault_of (or_recur (or_bad Rule (if b then Some ds else None) next)) ≡ first_fault (unless b (BadRecur Rule) ∷ others)
      by true = h ds refl
      by false = refl

  part_of_rule : (test : Data → Bool) (text : Option Text) (next : Items → Result B RecurPart) (others : List (Option EditFault)) → ((ds : Items) → listed text ≡ Some ds → fault_of (or_recur (next ds)) ≡ first_fault others)
      → fault_of (or_recur (or_bad Rule (read_entries test text) next)) ≡ first_fault (unless (some_and (all_of test) (listed text)) (BadRecur Rule) ∷ others)
  part_of_rule test text next others h = ap (λ o. fault_of (or_recur (or_bad Rule o next))) (entries_read test text) ∙ of_entries test (listed text) next others h

-- the days that a date means
days_asked : (go : Said → Terms) (v : Option Data) → fault_of (or_recur (result_then (days_meant v) (λ days. Ok (go days)))) ≡ first_fault (when v)
days_asked go None = refl
days_asked go (Some x) = by (option_and_then day_of_text (as_str x))
  where
    by : (o : Option ℕ) → fault_of (or_recur (result_then (day_or o (said_of x)) (λ days. Ok (go days)))) ≡ first_fault (if is_some o then [] else keys x)
    by None = then_keys (said_of x) (keys x) [] (λ days. Ok (go days)) (keys_asked x) (λ days. refl) ∙ ap first_fault (at_end (keys x))
    by (Some day) = refl

terms_asked : (go : Text → Said → Terms) (own : Option Text) (on : Option Data) → fault_of (or_recur (or_bad Rule on (λ date. or_bad Rule own (λ account. result_then (days_meant (value_of date)) (λ days. Ok (go account days))))))
    ≡ first_fault (unless (is_some own) (BadRecur Rule) ∷ when (option_and_then value_of on))
terms_asked go None None = refl
terms_asked go None (Some d) = refl
terms_asked go (Some own) None = refl
terms_asked go (Some own) (Some d) = days_asked (go own) (value_of d)

rule_asked : (r : RuleRow) → fault_of (or_recur (rule_terms r)) ≡ first_fault (asked_of_rule r)
unfolding terms_in
rule_asked r =
    part_of_rule is_condition r.conditions _ _ (λ ds listed_is.
    part_of_rule is_action r.actions _ _ (λ xs e.
    terms_asked (λ own days. record { account = own; payee = option_and_then words_of (first_where (λ d. is_payee_field (field_of d) && names d) ds); amount = amount_in ds; days = days })
    (option_and_then words_of (first_where (λ d. is_account_field (field_of d) && names d) ds)) (first_where (λ d. says (field_of d) (codes "date")) ds)
    ∙ ap (λ o. first_fault (unless (is_some (option_and_then words_of (option_and_then (first_where (λ d. is_account_field (field_of d) && names d)) o))) (BadRecur Rule)
    ∷ when (option_and_then value_of (option_and_then (first_where (λ d. says (field_of d) (codes "date"))) o)))) (sym listed_is)))

module _ (rows : Rows) where
  its_rule_asked : (row : ScheduleRow) → fault_of (or_recur (terms_of rows row)) ≡ first_fault (its_rule rows row)
  its_rule_asked row = by row.rule
    where
      at : (o : Option RuleRow) → fault_of (or_recur (or_bad Rule (option_and_then (λ (r : RuleRow). if r.tombstone then None else Some r) o) rule_terms)) ≡ first_fault (rule o)
      at None = refl
      at (Some r) = dead r.tombstone
        where
          dead : (b : Bool) → fault_of (or_recur (or_bad Rule (if b then None else Some r) rule_terms)) ≡ first_fault (if b then Some (BadRecur Rule) ∷ [] else asked_of_rule r)
          dead true = refl
          dead false = rule_asked r

      by : (o : Option Text) → fault_of (or_recur (or_bad Rule (option_and_then (live_rule rows) o) rule_terms)) ≡ first_fault (rule (option_and_then (get rows.rules) o))
      by None = refl
      by (Some id) = at (get rows.rules id)

  -- ---- edits of schedules

  schedule_id_asked : (id : Option Text) → fault_of (new_schedule rows id) ≡ first_fault (new (is_schedule rows) id)
  schedule_id_asked None = refl
  schedule_id_asked (Some id) = given_asked (is_schedule rows id) id

  payee_asked : (x : Text) (go : Result (List Write) EditFault) (others : List (Option EditFault)) → fault_of go ≡ first_fault others → fault_of (live_payee rows x >>= λ _. go) ≡ first_fault (payee rows x ∷ others)
  payee_asked x go others h = asks (is_live_payee rows x) (NoSuchPayee x) go others h

  -- what an edit finds, where it is live
  finds : (id : Text) (go : ScheduleRow → Result (List Write) EditFault) (more : ScheduleRow → List (Option EditFault)) → ((row : ScheduleRow) → fault_of (go row) ≡ first_fault (more row)) → (o : Option ScheduleRow)
      → fault_of (ok_or (option_and_then (λ (row : ScheduleRow). if row.tombstone then None else Some row) o) (NoSuchSchedule id) >>= go) ≡ first_fault (where_live id more o)
  finds id go more h None = refl
  finds id go more h (Some row) = by row.tombstone
    where
      by : (b : Bool) → fault_of (ok_or (if b then None else Some row) (NoSuchSchedule id) >>= go) ≡ first_fault (if b then Some (NoSuchSchedule id) ∷ [] else more row)
      by true = refl
      by false = h row

  going_asked : (id : Text) (row : ScheduleRow) → fault_of (not_done id row) ≡ first_fault (going id row ∷ [])
  going_asked id row = by row.completed (option_and_then day_in row.next_date)
    where
      by : (b : Bool) (o : Option ℕ) → fault_of (ok_or (if b then None else o) (ScheduleDone id)) ≡ first_fault (unless (not b && is_some o) (ScheduleDone id) ∷ [])
      by true o = refl
      by false None = refl
      by false (Some day) = refl

  was_read : {X : Type 0} (r : Result X RecurPart) (x : X) → or_recur r ≡ Ok x → r ≡ Ok x
  was_read (Ok y) x h = ap Ok (inside y x h)
  was_read (Err part) x h = cc

  schedules_by : (edit : ScheduleEdit) → fault_of (schedule_writes rows edit) ≡ first_fault (asked_of_schedules rows edit)
  schedules_by (Add id name own to amount recur) =
      follows (new_schedule rows id) (new (is_schedule rows) id) _ _ (schedule_id_asked id) (λ row e.
      asks (is_live_account rows own) (NoSuchAccount own) _ _
      (maybe (live_payee rows) (payee rows) payee_asked to _ _
      (asks (nat_le (unsigned_abs amount) largest_number) (BadAmount amount) _ _
      (follows (recurrence_of recur) (recurrence (read recur)) _ _ (recur_asked recur) (λ r is.
      wants (next_from r 0) (BadRecur EndMode) _ (λ day. refl)
      ∙ ap (λ o. first_fault (option_and_then occurs (result_ok o) ∷ [])) (sym is))))))
  schedules_by (Post id) =
      finds id _ _ (λ row.
      follows (not_done id row) (going id row ∷ []) _ _ (going_asked id row) (λ day e.
      follows (or_recur (terms_of rows row)) (its_rule rows row) _ _ (its_rule_asked row) (λ t is.
      asks (is_live_account rows t.account) (NoSuchAccount t.account) _ [] refl
      ∙ ap (λ o. first_fault (option_and_then (λ (s : Terms). account rows s.account) (result_ok o) ∷ [])) (sym (was_read (terms_of rows row) t is))))) (get rows.schedules id)
  schedules_by (Skip id) =
      finds id _ _ (λ row.
      follows (not_done id row) (going id row ∷ []) _ _ (going_asked id row) (λ day e.
      follows (or_recur (terms_of rows row)) (its_rule rows row) [] _ (its_rule_asked row) (λ t is. refl) ∙ ap first_fault (at_end (its_rule rows row)))) (get rows.schedules id)
  schedules_by (Delete id) = finds id _ _ (λ row. refl) (get rows.schedules id)

pub schedules_judged : ScheduleEditsAreJudged
schedules_judged = schedules_by
