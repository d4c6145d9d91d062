-- What a line is judged as.
use Rattle.std.proofs.Common.{◌≡◌, ℕ, ◌<◌, ◌≤◌, Bool, true, false, cond, List, length, Result, Ok, Err, refl, ap, sym, ◌∙◌}
use Rattle.std.specs.Prelude.{nat_lt, IsUtf8}
use Rattle.std.specs.Str.{is_utf8}
use Rattle.std.proofs.lemmas.Bool.{ltb-true, ltb-false, le-ltb, lt-ltb, false_from_ne_true, false≢true}
use Rattle.std.proofs.lemmas.Str.{IsUtf8-from_is_utf8, is_utf8-from_IsUtf8}
use Rattle.field_merge.specs.declared.message.Message.{Message}
use Rattle.field_merge.specs.declared.line.LineFault.{LineFault}
use Rattle.field_merge.specs.declared.line.LineFault.TheVariants.{Columns as BadColumns, Escape as BadEscape, Stamp as BadStamp, Name as BadName, NoMemory}
use Rattle.field_merge.specs.Lines.{reading}
use Rattle.command_lines.specs.Commands.{longest_line}
use Rattle.budget_top.specs.declared.verdict.Word.TheVariants.{Long, Utf8}
use Rattle.budget_top.specs.Verdicts.{Verdict, word_of, worded, judged_short, judged}
use Rattle.budget_top.specs.Merging.{IsLineOf, LinesAreJudged}

-- the verdict, by what holds of the line
abbrev verdict : Bool → Bool → Result Message LineFault → Verdict
verdict long text read = cond long (Err Long) (cond text (worded read) (Err Utf8))

judged_by : (line : List ℕ) (long text : Bool) (read : Result Message LineFault) → nat_lt longest_line (length line) ≡ long → is_utf8 line ≡ text → reading line ≡ read → judged line ≡ verdict long text read
unfolding judged_short
judged_by line long text read e f g = rw (e, f, g) refl

-- a line that is not too long and UTF-8 is judged by what it reads as
judged_text : (line : List ℕ) (read : Result Message LineFault) → length line ≤ longest_line → IsUtf8 line → reading line ≡ read → judged line ≡ worded read
judged_text line read short utf8 e = judged_by line false true read (le-ltb longest_line (length line) short) (is_utf8-from_IsUtf8 line utf8) e

-- a fault of reading is told as neither of the others
not_long : (fault : LineFault) → ◌≡◌ {A = Verdict} (Err (word_of fault)) (Err Long) → ⊥
not_long (BadColumns found) e = cc
not_long (BadEscape at) e = cc
not_long (BadStamp found) e = cc
not_long (BadName found) e = cc
not_long NoMemory e = cc

not_utf8 : (fault : LineFault) → ◌≡◌ {A = Verdict} (Err (word_of fault)) (Err Utf8) → ⊥
not_utf8 (BadColumns found) e = cc
not_utf8 (BadEscape at) e = cc
not_utf8 (BadStamp found) e = cc
not_utf8 (BadName found) e = cc
not_utf8 NoMemory e = cc

good_is : (line : List ℕ) (m : Message) (long text : Bool) (read : Result Message LineFault) → nat_lt longest_line (length line) ≡ long → is_utf8 line ≡ text → reading line ≡ read
    → verdict long text read ≡ Ok m → IsLineOf m line
good_is line m true text read e f g is = absurd (cc)
good_is line m false false read e f g is = absurd (cc)
good_is line m false true (Err fault) e f g is = absurd (cc)
good_is line m false true (Ok n) e f g is =
    let same : n ≡ m = cc in
    record { short = ltb-false longest_line (length line) e; text = IsUtf8-from_is_utf8 line f; reads = g ∙ ap (λ x. Ok x) same }

long_is : (line : List ℕ) (long text : Bool) (read : Result Message LineFault) → nat_lt longest_line (length line) ≡ long → verdict long text read ≡ Err Long → longest_line < length line
long_is line true text read e is = ltb-true longest_line (length line) e
long_is line false false read e is = absurd (cc)
long_is line false true (Ok m) e is = absurd (cc)
long_is line false true (Err fault) e is = absurd (not_long fault is)

utf8_is : (line : List ℕ) (long text : Bool) (read : Result Message LineFault) → nat_lt longest_line (length line) ≡ long → is_utf8 line ≡ text → verdict long text read ≡ Err Utf8
    → (length line ≤ longest_line) × (IsUtf8 line → ⊥)
utf8_is line true text read e f is = absurd (cc)
utf8_is line false false read e f is = (ltb-false longest_line (length line) e, λ utf8. false≢true (sym f ∙ is_utf8-from_IsUtf8 line utf8))
utf8_is line false true (Ok m) e f is = absurd (cc)
utf8_is line false true (Err fault) e f is = absurd (not_utf8 fault is)

pub lines_judged : LinesAreJudged
lines_judged = record {
  good = λ line m. (
    λ is. good_is line m (nat_lt longest_line (length line)) (is_utf8 line) (reading line) refl refl refl (sym (judged_by line _ _ _ refl refl refl) ∙ is),
    λ is. judged_text line (Ok m) is.short is.text is.reads,
  );
  long = λ line. (
    λ is. long_is line (nat_lt longest_line (length line)) (is_utf8 line) (reading line) refl (sym (judged_by line _ _ _ refl refl refl) ∙ is),
    λ long. judged_by line true (is_utf8 line) (reading line) (lt-ltb longest_line (length line) long) refl refl,
  );
  utf8 = λ line. (
    λ is. utf8_is line (nat_lt longest_line (length line)) (is_utf8 line) (reading line) refl refl (sym (judged_by line _ _ _ refl refl refl) ∙ is),
    λ no. judged_by line false false (reading line) (le-ltb longest_line (length line) no.0) (false_from_ne_true (is_utf8 line) (λ e. no.1 (IsUtf8-from_is_utf8 line e))) refl,
  );
  columns = λ line found short text e. judged_text line (Err (BadColumns found)) short text e;
  escape = λ line at short text e. judged_text line (Err (BadEscape at)) short text e;
  stamp = λ line fault short text e. judged_text line (Err (BadStamp fault)) short text e;
  name = λ line fault short text e. judged_text line (Err (BadName fault)) short text e;
}
