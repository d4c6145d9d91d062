-- A line behind `receive` is read as the message of the line.
use Rattle.std.proofs.Common.{◌≡◌, ◌≢◌, ℕ, zero, suc, arith, ◌+◌, ◌≤◌, Bool, true, false, cond, ◌&&◌, eqb, List, [], ◌∷◌, ◌++◌, length, Option, None, Some, is_none, Result, Ok, Err, refl, sym, ap, ap₂, ◌∙◌}
use Rattle.std.specs.Prelude.{codes, if◌then◌else◌, option_map}
use Rattle.std.specs.List.{join_with_byte, list_all}
use Rattle.std.specs.Option.{option_or}
use Rattle.std.specs.Result.{result_ok}
use Rattle.std.proofs.lemmas.Bool.{le-ltb}
use Rattle.std.proofs.lemmas.List.Splits.{join_with_byte-slice_split}
use Rattle.field_values.specs.declared.name.NamePart.{NamePart}
use Rattle.field_values.specs.declared.name.NamePart.TheVariants.{Dataset, Row, Column}
use Rattle.field_values.specs.declared.name.NameFault.{NameFault}
use Rattle.field_values.specs.Names.{field_of, name_fault, names_fault}
use Rattle.field_values.proofs.NameLemmas.{name_without_fault, name_fault-none}
use Rattle.hybrid_clock.specs.declared.stamp.Stamp.{Stamp}
use Rattle.hybrid_clock.specs.declared.stamp.StampFault.{StampFault}
use Rattle.hybrid_clock.specs.Reading.{read_stamp}
use Rattle.field_merge.specs.declared.message.Message.{Message}
use Rattle.field_merge.specs.declared.line.LineFault.{LineFault}
use Rattle.field_merge.specs.Escapes.{unescaped, bad_escape, is_escape, place_after}
use Rattle.field_merge.specs.Lines.{parts, with_names, with_stamp, of_parts, reading}
use Rattle.field_merge.specs.Messages.{message_of}
use Rattle.field_merge.proofs.EscapeLemmas.{bad_escape-plain}
use Rattle.field_merge.proofs.LineLemmas.{parts-at, reading-columns}
use Rattle.command_lines.specs.declared.command.Command.{Command}
use Rattle.command_lines.specs.declared.command.Command.TheVariants.{Receive}
use Rattle.command_lines.specs.Forms.{Wanted, word, no_more, may_end, some_texts, some_shares, misfit, is_name, of_stamp, name_word, behind, unescaped_for, command_of}
use Rattle.command_lines.specs.Commands.{receive_words, of_words, command, longest_line}
use Rattle.command_lines.specs.Written.{receive_line, ReceivesMessageLines}

-- ---- a line has no bad escape exactly where no part has one

abbrev is_good : List ℕ → Bool
is_good text = is_none (bad_escape text)

none_after : (n : ℕ) (o : Option ℕ) → is_none (place_after n o) ≡ is_none o
none_after n None = refl
none_after n (Some at) = refl

behind_tab : (rest : List ℕ) → is_good (9 ∷ rest) ≡ is_good rest
behind_tab rest = ap is_none (bad_escape-plain 9 rest refl) ∙ none_after 1 (bad_escape rest)

one_cut : (t : Bool) (rest : List ℕ) → is_none (cond (t && false) (place_after 2 (bad_escape rest)) (cond t (Some 0) (place_after 1 (bad_escape (9 ∷ rest))))) ≡ (is_none (cond {A = Option ℕ} t (Some 0) None) && is_good rest)
one_cut true rest = refl
one_cut false rest = none_after 1 (bad_escape (9 ∷ rest)) ∙ behind_tab rest

pair_cut : (t u : Bool) (short short_cut long long_cut : Option ℕ) (rest : Bool) → is_none short ≡ (is_none short_cut && rest) → is_none long ≡ (is_none long_cut && rest)
    → is_none (cond t (place_after 2 short) (cond u (Some 0) (place_after 1 long))) ≡ (is_none (cond t (place_after 2 short_cut) (cond u (Some 0) (place_after 1 long_cut))) && rest)
pair_cut true u short short_cut long long_cut rest of_short of_long = none_after 2 short ∙ of_short ∙ ap (λ b. b && rest) (sym (none_after 2 short_cut))
pair_cut false true short short_cut long long_cut rest of_short of_long = refl
pair_cut false false short short_cut long long_cut rest of_short of_long = none_after 1 long ∙ of_long ∙ ap (λ b. b && rest) (sym (none_after 1 long_cut))

-- a TAB is no letter of an escape
good_cut : (part rest : List ℕ) → is_good (part ++ 9 ∷ rest) ≡ (is_good part && is_good rest)
good_cut [] rest = behind_tab rest
good_cut (b ∷ []) rest = one_cut (eqb b 92) rest
good_cut (b ∷ c ∷ part) rest =
    pair_cut (is_escape b c) (eqb b 92) (bad_escape (part ++ 9 ∷ rest)) (bad_escape part) (bad_escape (c ∷ (part ++ 9 ∷ rest))) (bad_escape (c ∷ part)) (is_good rest)
    (good_cut part rest) (good_cut (c ∷ part) rest)

and_true : (b : Bool) → b ≡ (b && true)
and_true true = refl
and_true false = refl

good_parts : (ps : List (List ℕ)) → is_good (join_with_byte 9 ps) ≡ list_all is_good ps
good_parts [] = refl
good_parts (p ∷ []) = and_true (is_good p)
good_parts (p ∷ q ∷ ps) = good_cut p (join_with_byte 9 (q ∷ ps)) ∙ ap (λ b. is_good p && b) (good_parts (q ∷ ps))

-- ---- five texts

-- a text is a name whatever its part
any_part : (part : NamePart) (text : List ℕ) → is_name text ≡ is_none (name_fault part text)
any_part part text = by (name_fault Dataset text) (name_fault part text) refl refl
  where
    by : (o p : Option NameFault) → name_fault Dataset text ≡ o → name_fault part text ≡ p → is_name text ≡ is_none (name_fault part text)
    by None p e f = ap is_none e ∙ sym (ap is_none (name_fault-none part text (name_without_fault Dataset text e)))
    by (Some fault) None e f = absurd (let none = name_fault-none Dataset text (name_without_fault part text f) in cc)
    by (Some fault) (Some other) e f = ap is_none e ∙ sym (ap is_none f)

-- what is read, as the command to receive it
abbrev received : Result Message LineFault → Option Command
received read = option_map (λ m. Receive m) (result_ok read)

-- a command, where the test holds
abbrev only : Bool → Option Command → Option Command
only b found = if b then found else None

abbrev of_read : Result Stamp StampFault → (Stamp → Option Command) → Option Command
of_read (Ok s) found = found s
of_read (Err fault) found = None

only_none : (b : Bool) → only b None ≡ None
only_none true = refl
only_none false = refl

each_read : (read : Result Stamp StampFault) (f g : Stamp → Option Command) → ((s : Stamp) → f s ≡ g s) → of_read read f ≡ of_read read g
each_read (Ok s) f g h = h s
each_read (Err fault) f g h = refl

stamp_step : (bad : Option ℕ) (w : List ℕ) (next : Stamp → Wanted) (last : ℕ) (ws : List (List ℕ)) → result_ok (command_of (unescaped_for (λ text. of_stamp next (read_stamp text)) w bad) last ws)
    ≡ only (is_none bad) (of_read (read_stamp (unescaped w)) (λ s. result_ok (command_of (next s) last ws)))
stamp_step (Some at) w next last ws = refl
stamp_step None w next last ws =
    elim (read_stamp (unescaped w)) as (λ read. result_ok (command_of (of_stamp next read) last ws) ≡ of_read read (λ s. result_ok (command_of (next s) last ws))) [
      | Ok s ↦ refl
      | Err fault ↦ refl
    ]

name_step : (bad : Option ℕ) (w : List ℕ) (next : List ℕ → Wanted) (last : ℕ) (ws : List (List ℕ)) → result_ok (command_of (unescaped_for (λ text. if is_name text then next text else misfit) w bad) last ws)
    ≡ only (is_none bad) (only (is_name (unescaped w)) (result_ok (command_of (next (unescaped w)) last ws)))
name_step (Some at) w next last ws = refl
name_step None w next last ws =
    elim (is_name (unescaped w)) as (λ b. result_ok (command_of (if b then next (unescaped w) else misfit) last ws) ≡ only b (result_ok (command_of (next (unescaped w)) last ws))) [
      | true ↦ refl
      | false ↦ refl
    ]

value_step : (bad : Option ℕ) (w : List ℕ) (made : List ℕ → Command) (last : ℕ) → result_ok (command_of (unescaped_for (λ text. no_more (made text)) w bad) last []) ≡ only (is_none bad) (Some (made (unescaped w)))
value_step (Some at) w made last = refl
value_step None w made last = refl

-- names and words may be judged in turn or at once
at_once : (ga gb nb gc nc gd nd ge : Bool) (found : Option Command) → only ga (only gb (only nb (only gc (only nc (only gd (only nd (only ge found)))))))
    ≡ only (ga && (gb && (gc && (gd && (ge && true))))) (only (nb && (nc && nd)) found)
at_once false gb nb gc nc gd nd ge found = refl
at_once true false nb gc nc gd nd ge found = refl
at_once true true false gc nc gd nd ge found = sym (only_none (gc && (gd && (ge && true))))
at_once true true true false nc gd nd ge found = refl
at_once true true true true false gd nd ge found = sym (only_none (gd && (ge && true)))
at_once true true true true true false nd ge found = refl
at_once true true true true true true false ge found = sym (only_none (ge && true))
at_once true true true true true true true false found = refl
at_once true true true true true true true true found = refl

read_at_once : (read : Result Stamp StampFault) (ga gb nb gc nc gd nd ge : Bool) (found : Stamp → Option Command)
    → only ga (of_read read (λ s. only gb (only nb (only gc (only nc (only gd (only nd (only ge (found s)))))))))
    ≡ only (ga && (gb && (gc && (gd && (ge && true))))) (of_read read (λ s. only (nb && (nc && nd)) (found s)))
read_at_once (Ok s) ga gb nb gc nc gd nd ge found = at_once ga gb nb gc nc gd nd ge (found s)
read_at_once (Err fault) ga gb nb gc nc gd nd ge found = only_none ga ∙ sym (only_none (ga && (gb && (gc && (gd && (ge && true))))))

five_words : (a b c d e : List ℕ) → result_ok (command_of receive_words 0 (a ∷ b ∷ c ∷ d ∷ e ∷ []))
    ≡ only (list_all is_good (a ∷ b ∷ c ∷ d ∷ e ∷ [])) (of_read (read_stamp (unescaped a)) (λ s.
    only (is_name (unescaped b) && (is_name (unescaped c) && is_name (unescaped d))) (Some (Receive (message_of s (field_of (unescaped b) (unescaped c) (unescaped d)) (unescaped e))))))
five_words a b c d e =
    stamp_step (bad_escape a) a _ 1 (b ∷ c ∷ d ∷ e ∷ [])
    ∙ ap (only (is_good a)) (each_read (read_stamp (unescaped a)) _ _ (λ s.
    name_step (bad_escape b) b (λ dataset. name_word (λ row. name_word (λ column. word (λ value. no_more (Receive (message_of s (field_of dataset row column) value)))))) 2 (c ∷ d ∷ e ∷ [])
    ∙ ap (λ found. only (is_good b) (only (is_name (unescaped b)) found)) (
    name_step (bad_escape c) c (λ row. name_word (λ column. word (λ value. no_more (Receive (message_of s (field_of (unescaped b) row column) value))))) 3 (d ∷ e ∷ [])
    ∙ ap (λ found. only (is_good c) (only (is_name (unescaped c)) found)) (
    name_step (bad_escape d) d (λ column. word (λ value. no_more (Receive (message_of s (field_of (unescaped b) (unescaped c) column) value)))) 4 (e ∷ [])
    ∙ ap (λ found. only (is_good d) (only (is_name (unescaped d)) found)) (
    value_step (bad_escape e) e (λ value. Receive (message_of s (field_of (unescaped b) (unescaped c) (unescaped d)) value)) 5)))))
    ∙ read_at_once (read_stamp (unescaped a)) (is_good a) (is_good b) (is_name (unescaped b)) (is_good c) (is_name (unescaped c)) (is_good d) (is_name (unescaped d)) (is_good e)
    (λ s. Some (Receive (message_of s (field_of (unescaped b) (unescaped c) (unescaped d)) (unescaped e))))

-- the same five, read as a message's line
with_three : (o p q : Option NameFault) → is_none (option_or o (option_or p q)) ≡ (is_none o && (is_none p && is_none q))
with_three None None q = refl
with_three None (Some fault) q = refl
with_three (Some fault) p q = refl

three_names : (d r c : List ℕ) → is_none (names_fault (field_of d r c)) ≡ (is_name d && (is_name r && is_name c))
three_names d r c =
    with_three (name_fault Dataset d) (name_fault Row r) (name_fault Column c)
    ∙ ap₂ (λ p q. is_name d && (p && q)) (sym (any_part Row r)) (sym (any_part Column c))

received_names : (found : Option NameFault) (s : Stamp) (d r c v : List ℕ) → received (with_names found s (field_of d r c) v) ≡ only (is_none found) (Some (Receive (message_of s (field_of d r c) v)))
received_names None s d r c v = refl
received_names (Some fault) s d r c v = refl

received_stamp : (read : Result Stamp StampFault) (d r c v : List ℕ) → received (with_stamp read (field_of d r c) v)
    ≡ of_read read (λ s. only (is_name d && (is_name r && is_name c)) (Some (Receive (message_of s (field_of d r c) v))))
received_stamp (Ok s) d r c v =
    received_names (names_fault (field_of d r c)) s d r c v ∙ ap (λ b. only b (Some (Receive (message_of s (field_of d r c) v)))) (three_names d r c)
received_stamp (Err fault) d r c v = refl

five_parts : (bad : Option ℕ) (a b c d e : List ℕ) → received (of_parts (a ∷ b ∷ c ∷ d ∷ e ∷ []) bad)
    ≡ only (is_none bad) (of_read (read_stamp (unescaped a)) (λ s.
    only (is_name (unescaped b) && (is_name (unescaped c) && is_name (unescaped d))) (Some (Receive (message_of s (field_of (unescaped b) (unescaped c) (unescaped d)) (unescaped e))))))
five_parts (Some at) a b c d e = refl
five_parts None a b c d e = received_stamp (read_stamp (unescaped a)) (unescaped b) (unescaped c) (unescaped d) (unescaped e)

-- ---- another number of words

-- so many words are wanted, and no more
abbrev Wants : ℕ → Wanted → Type 0
Wants n misfit = Unit {0}
Wants n (no_more made) = n ≡ 0
Wants zero (word next) = ⊥
Wants (suc n) (word next) = (text : List ℕ) → Wants n (next text)
Wants n wanted = ⊥

wants_stamp : (n : ℕ) (next : Stamp → Wanted) (read : Result Stamp StampFault) → ((s : Stamp) → Wants n (next s)) → Wants n (of_stamp next read)
wants_stamp n next (Ok s) h = h s
wants_stamp n next (Err fault) h = tt

wants_name : (n : ℕ) (next : Wanted) (is : Bool) → Wants n next → Wants n (if is then next else misfit)
wants_name n next true h = h
wants_name n next false h = tt

receive_wants : Wants 5 receive_words
receive_wants text = wants_stamp 4 _ (read_stamp text) (λ s d. wants_name 3 _ (is_name d) (λ r. wants_name 2 _ (is_name r) (λ c. wants_name 1 _ (is_name c) (λ v. refl))))

wants_word : (bad : Option ℕ) (n : ℕ) (next : List ℕ → Wanted) (w : List ℕ) → ((text : List ℕ) → Wants n (next text)) → Wants n (unescaped_for next w bad)
wants_word None n next w h = h (unescaped w)
wants_word (Some at) n next w h = tt

other_number : (ws : List (List ℕ)) (n : ℕ) (wanted : Wanted) (last : ℕ) → Wants n wanted → length ws ≢ n → result_ok (command_of wanted last ws) ≡ None
other_number ws n misfit last h other = refl
other_number [] n (no_more made) last h other = absurd (other (sym h))
other_number (w ∷ ws) n (no_more made) last h other =
    elim (bad_escape w) as (λ bad. result_ok (command_of (unescaped_for (behind (no_more made)) w bad) (last + 1) ws) ≡ None) [
      | None ↦ refl
      | Some at ↦ refl
    ]
other_number ws n (may_end made next) last h other = absurd h
other_number ws n (some_texts texts made) last h other = absurd h
other_number ws n (some_shares shares made) last h other = absurd h
other_number [] n (word next) last h other = refl
other_number (w ∷ ws) zero (word next) last h other = absurd h
other_number (w ∷ ws) (suc n) (word next) last h other =
    other_number ws n (unescaped_for next w (bad_escape w)) (last + 1) (wants_word (bad_escape w) n next w h) (λ e. other (ap suc e))

not_five : (ws : List (List ℕ)) (bad : Option ℕ) → length ws ≢ 5 → result_ok (command_of receive_words 0 ws) ≡ received (of_parts ws bad)
not_five ws bad other = other_number ws 5 receive_words 0 receive_wants other ∙ sym (ap received (reading-columns ws bad other))

-- ---- a line

same_words : (ws : List (List ℕ)) (bad : Option ℕ) → is_none bad ≡ list_all is_good ws → result_ok (command_of receive_words 0 ws) ≡ received (of_parts ws bad)
same_words [] bad h = not_five [] bad (λ e. omega (arith, e))
same_words (a ∷ []) bad h = not_five (a ∷ []) bad (λ e. omega (arith, e))
same_words (a ∷ b ∷ []) bad h = not_five (a ∷ b ∷ []) bad (λ e. omega (arith, e))
same_words (a ∷ b ∷ c ∷ []) bad h = not_five (a ∷ b ∷ c ∷ []) bad (λ e. omega (arith, e))
same_words (a ∷ b ∷ c ∷ d ∷ []) bad h = not_five (a ∷ b ∷ c ∷ d ∷ []) bad (λ e. omega (arith, e))
same_words (a ∷ b ∷ c ∷ d ∷ e ∷ []) bad h = five_words a b c d e ∙ ap (λ g. only g (of_read (read_stamp (unescaped a)) (λ s.
    only (is_name (unescaped b) && (is_name (unescaped c) && is_name (unescaped d))) (Some (Receive (message_of s (field_of (unescaped b) (unescaped c) (unescaped d)) (unescaped e))))))) (sym h) ∙ sym (five_parts bad a b c d e)
same_words (a ∷ b ∷ c ∷ d ∷ e ∷ f ∷ ws) bad h = not_five (a ∷ b ∷ c ∷ d ∷ e ∷ f ∷ ws) bad (λ e. omega (arith, e))

same_line : (line : List ℕ) → length (receive_line line) ≤ longest_line → result_ok (command (receive_line line)) ≡ received (reading line)
same_line line short =
    ap (λ long. result_ok (if long then Err 0 else of_words (parts (receive_line line)))) (le-ltb longest_line (length (receive_line line)) short)
    ∙ ap (λ ws. result_ok (of_words ws)) (parts-at (codes "receive") line (refl, (refl, (refl, (refl, (refl, (refl, (refl, tt))))))))
    ∙ same_words (parts line) (bad_escape line) (ap is_good (sym (join_with_byte-slice_split 9 line)) ∙ good_parts (parts line))

command_is : (read : Result Command ℕ) (c : Command) → result_ok read ≡ Some c → read ≡ Ok c
command_is (Ok found) c h = let same : found ≡ c = cc in ap (λ x. Ok x) same
command_is (Err at) c h = absurd (cc)

message_is : (read : Result Message LineFault) (m : Message) → received read ≡ Some (Receive m) → read ≡ Ok m
message_is (Ok n) m h = let same : n ≡ m = cc in ap (λ x. Ok x) same
message_is (Err fault) m h = absurd (cc)

pub receives_lines : ReceivesMessageLines
receives_lines line m short = (
  λ h. message_is (reading line) m (sym (same_line line short) ∙ ap result_ok h),
  λ h. command_is (command (receive_line line)) (Receive m) (same_line line short ∙ ap received h),
)
