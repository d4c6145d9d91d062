-- What a line makes of a device.
use Rattle.std.proofs.Common.{◌≡◌, ℕ, List, true, false, cond, sym, ap, ◌∙◌, subst, Option, Some, Result, Ok, Err}
use Rattle.std.specs.Prelude.{IsUtf8, OnOk, OnErr}
use Rattle.std.specs.Str.{is_utf8}
use Rattle.std.proofs.lemmas.Bool.{false_from_ne_true}
use Rattle.std.proofs.lemmas.Str.{IsUtf8-from_is_utf8, is_utf8-from_IsUtf8}
use Rattle.command_lines.specs.declared.command.Command.{Command}
use Rattle.command_lines.specs.declared.command.CommandFault.{CommandFault}
use Rattle.command_lines.specs.Commands.{command, IsRead}
use Rattle.budget_top.specs.Session.{asked_kept_line}

-- ---- what is asked

pub asked_text : (kept : Option (List ℕ)) (line text : List ℕ) (read : Result Command CommandFault) → kept ≡ Some line → text ≡ line → IsUtf8 line → IsRead (command text) read → IsRead (asked_kept_line kept) read
asked_text kept line text read is same utf8 h =
    let yes : is_utf8 line ≡ true = is_utf8-from_IsUtf8 line utf8 in
    let asks : asked_kept_line kept ≡ command text = ap asked_kept_line is ∙ ap (λ b. cond b (command line) (Err 0)) yes ∙ ap command (sym same) in
    subst (λ (m : Result Command ℕ). IsRead m read) (sym asks) h

pub asked_none : (kept : Option (List ℕ)) (line : List ℕ) → kept ≡ Some line → (IsUtf8 line → ⊥) → asked_kept_line kept ≡ Err 0
asked_none kept line is h =
    let no : is_utf8 line ≡ false = false_from_ne_true (is_utf8 line) (λ e. h (IsUtf8-from_is_utf8 line e)) in
    ap asked_kept_line is ∙ ap (λ b. cond b (command line) (Err 0)) no

-- ---- of any outcome

pub whether_ok : {T E : Type 0} (P : Type 0) (r : Result T E) → P → OnOk r P
whether_ok P (Ok x) p = p
whether_ok P (Err e) p = tt

pub whether_err : {T E : Type 0} (P : Type 0) (r : Result T E) → P → OnErr r P
whether_err P (Ok x) p = tt
whether_err P (Err e) p = p
