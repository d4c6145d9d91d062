-- The verdict on a line that is short enough.
use Rattle.std.proofs.Common.{◌≡◌, List, ℕ, true, false, refl, ap, sym, subst, ◌∙◌, Result, Ok, Err}
use Rattle.std.specs.Prelude.{IsUtf8}
use Rattle.std.specs.Str.{is_utf8}
use Rattle.std.proofs.lemmas.Bool.{false_from_ne_true}
use Rattle.std.proofs.lemmas.Str.{IsUtf8-from_is_utf8, is_utf8-from_IsUtf8}
use Rattle.field_merge.specs.declared.message.Message.{Message}
use Rattle.field_merge.specs.declared.line.LineFault.{LineFault}
use Rattle.field_merge.specs.Latest.{AddsRead, LatestState}
use Rattle.field_merge.specs.Lines.{reading}
use Rattle.budget_top.specs.declared.verdict.Word.TheVariants.{Utf8}
use Rattle.budget_top.specs.Verdicts.{judged_short, word_of, worded, Takes, Verdict}

pub worded-reading : (line text : List ℕ) (read : Result Message LineFault) → IsUtf8 line → text ≡ line → reading text ≡ read → worded read ≡ judged_short line
unfolding judged_short
worded-reading line text read utf8 same is =
    let yes : is_utf8 line ≡ true = is_utf8-from_IsUtf8 line utf8 in
    rw yes (ap worded (sym is) ∙ ap (λ t. worded (reading t)) same)

pub no_utf8 : (line : List ℕ) → (IsUtf8 line → ⊥) → Err Utf8 ≡ judged_short line
unfolding judged_short
no_utf8 line h =
    let no_text : is_utf8 line ≡ false = false_from_ne_true (is_utf8 line) (λ e. h (IsUtf8-from_is_utf8 line e)) in
    rw no_text refl

-- where a line's message was taken, the line is a message's
pub takes_message : (line text : List ℕ) (old new : LatestState) → IsUtf8 line → text ≡ line → AddsRead (reading text) old new → new.spent ≡ false → Takes (judged_short line) (Ok tt) old new
takes_message line text old new utf8 same (m, read, came) live =
    subst (λ (v : Verdict). Takes v (Ok tt) old new) (worded-reading line text (Ok m) utf8 same read) (refl, live, λ ms before. (came ms before).0)

-- where it has a fault, it is a bad line by the word for the fault
pub takes_word : (line text : List ℕ) (fault : LineFault) (old new : LatestState) → IsUtf8 line → text ≡ line → reading text ≡ Err fault → new ≡ old → Takes (judged_short line) (Err (word_of fault)) old new
takes_word line text fault old new utf8 same read stays =
    subst (λ (v : Verdict). Takes v (Err (word_of fault)) old new) (worded-reading line text (Err fault) utf8 same read) (refl, stays)

-- what is no text
pub takes_no_text : (line : List ℕ) (latest : LatestState) → (IsUtf8 line → ⊥) → Takes (judged_short line) (Err Utf8) latest latest
takes_no_text line latest h = subst (λ (v : Verdict). Takes v (Err Utf8) latest latest) (no_utf8 line h) (refl, refl)
