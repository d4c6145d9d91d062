-- The end of the input.
use Rattle.std.proofs.Common.{◌≡◌, ℕ, List, [], ◌∷◌, ◌++◌, refl, ap, sym, subst, ◌∙◌, Option, Some, append-nil}
use Rattle.std.proofs.KnownBytes.{Appends-trans, Appends-kept}
use Rattle.std.specs.Io.KnownBytes.{Appends, Keeps}
use Rattle.field_merge.specs.Log.{join, field_text}
use Rattle.field_merge.specs.Latest.{CameFrom}
use Rattle.budget_top.specs.declared.merge.Merge.{Merge}
use Rattle.budget_top.specs.Lines.{whole_lines, last_piece, all_lines, line_if_some}
use Rattle.budget_top.specs.Verdicts.{bad_lines, messages_of, some_bad, merge_text}
use Rattle.budget_top.specs.KeptLine.{kept_line}
use Rattle.budget_top.specs.Fronts.{AppendsFront}
use Rattle.budget_top.specs.Steps.{Stands, Ended}
use Rattle.budget_top.proofs.Cutting.{whole_lines-end}
use Rattle.budget_top.proofs.Standing.{front_all, front_then, front_as, appends_as}

one_line : (p : List ℕ) → (p ≡ [] → ⊥) → line_if_some p ≡ p ∷ []
one_line [] no_end = absurd (no_end refl)
one_line (b ∷ bs) no_end = refl

pub one_begun : (read : List ℕ) (m : Option (List ℕ)) → m ≡ kept_line (last_piece read) → (m ≡ Some [] → ⊥) → all_lines read ≡ whole_lines (read ++ 10 ∷ [])
one_begun read m h some =
    ap (λ ls. whole_lines read ++ ls) (one_line (last_piece read) (λ e. some (h ∙ ap kept_line e)))
    ∙ sym (whole_lines-end read)

pub ended_last : (entry now then : Option (List ℕ)) (read : List ℕ) (old new : Merge) → (old.line ≡ Some [] → ⊥) → Stands entry now read old → Stands entry then (read ++ 10 ∷ []) new → Ended entry then read new
ended_last entry now then read old new some h k =
    let lines = sym (one_begun read old.line h.line some) in
    record {
      live = k.live;
      messages = subst (λ (ls : List (List ℕ)). CameFrom (messages_of ls) new.latest) lines k.messages;
      bad = k.bad ∙ ap some_bad lines;
      written = appends_as entry then _ _ (ap bad_lines lines) k.written;
    }

pub breaks_last : (entry now then : Option (List ℕ)) (read : List ℕ) (old : Merge) → (old.line ≡ Some [] → ⊥) → Stands entry now read old → AppendsFront entry then (bad_lines (whole_lines (read ++ 10 ∷ []))) → AppendsFront entry then (bad_lines (all_lines read))
breaks_last entry now then read old some h k = front_as entry then _ _ (ap bad_lines (sym (one_begun read old.line h.line some))) k

-- the fields

fields_text : (read : List ℕ) (m : Merge) (entry now : Option (List ℕ)) (text : List ℕ) → Ended entry now read m → text ≡ field_text (join [] (messages_of (all_lines read))) → bad_lines (all_lines read) ++ text ≡ merge_text read
fields_text read m entry now text h is = ap (λ t. bad_lines (all_lines read) ++ t) is

pub merged : (entry a b c : Option (List ℕ)) (read text : List ℕ) (m : Merge) → Ended entry a read m → text ≡ field_text (join [] (messages_of (all_lines read))) → Appends a b text → Keeps b c → Appends entry c (merge_text read)
merged entry a b c read text m h is written kept =
    appends_as entry c _ _ (fields_text read m entry a text h is) (Appends-kept entry b c _ (Appends-trans entry a b (bad_lines (all_lines read)) text h.written written) kept)

pub breaks_fields : (entry a b : Option (List ℕ)) (read text : List ℕ) (m : Merge) → Ended entry a read m → text ≡ field_text (join [] (messages_of (all_lines read))) → AppendsFront a b text → AppendsFront entry b (merge_text read)
breaks_fields entry a b read text m h is front =
    front_as entry b _ _ (fields_text read m entry a text h is) (front_then entry a b (bad_lines (all_lines read)) text h.written front)

pub breaks_flush : (entry a b c : Option (List ℕ)) (read text : List ℕ) (m : Merge) → Ended entry a read m → text ≡ field_text (join [] (messages_of (all_lines read))) → Appends a b text → Keeps b c → AppendsFront entry c (merge_text read)
breaks_flush entry a b c read text m h is written kept =
    front_as entry c _ _ (append-nil (merge_text read)) (front_all entry c (merge_text read) [] (merged entry a b c read text m h is written kept))
