-- Lines with their ends, cut again; and the numbers of the bad ones.
use Rattle.std.proofs.Common.{◌≡◌, ◌≢◌, ℕ, zero, suc, ◌+◌, Bool, true, false, cond, eqb, List, [], ◌∷◌, ◌++◌, length, Ok, Err, refl, ap, sym, ◌∙◌, arith, append_assoc, append-nil}
use Rattle.std.specs.List.{flat_map, join_with_byte, onto_first}
use Rattle.std.proofs.lemmas.Bool.{eqb-false}
use Rattle.std.proofs.lemmas.List.Splits.{join_with_byte-slice_split}
use Rattle.field_merge.specs.Lines.{ended}
use Rattle.command_lines.specs.ReplyLines.{IsLine, AreLines}
use Rattle.command_lines.proofs.Cutting.{pieces-none, pieces-at}
use Rattle.budget_top.specs.Lines.{pieces, all_but_last, last_of, whole_lines, last_piece, line_if_some, all_lines}
use Rattle.budget_top.specs.Verdicts.{Verdict, judged, bad_line, bad_lines_from, bad_lines}
use Rattle.budget_top.specs.CutLines.{IsMadeOf, LinesAreCut}
use Rattle.budget_top.proofs.Cutting.{but_last-append, last_of-append}

-- ---- lines that were put together are cut again

cut_made : (lines : List (List ℕ)) (last : List ℕ) → AreLines lines → IsLine last → pieces (flat_map ended lines ++ last) ≡ lines ++ last ∷ []
cut_made [] last are is = pieces-none 10 last (λ i l. is i 0 l)
cut_made (line ∷ lines) last are is =
    ap pieces (append_assoc (line ++ 10 ∷ []) (flat_map ended lines) last ∙ append_assoc line (10 ∷ []) (flat_map ended lines ++ last))
    ∙ pieces-at 10 line (flat_map ended lines ++ last) (λ i l. are.0 i 0 l)
    ∙ ap (λ ps. line ∷ ps) (cut_made lines last are.1 is)

whole_made : (bytes : List ℕ) (lines : List (List ℕ)) (last : List ℕ) → IsMadeOf bytes lines last → whole_lines bytes ≡ lines
whole_made bytes lines last h =
    ap whole_lines h.same ∙ ap all_but_last (cut_made lines last h.are_lines h.is_line) ∙ but_last-append lines last [] ∙ append-nil lines

last_made : (bytes : List ℕ) (lines : List (List ℕ)) (last : List ℕ) → IsMadeOf bytes lines last → last_piece bytes ≡ last
last_made bytes lines last h =
    ap last_piece h.same ∙ ap last_of (cut_made lines last h.are_lines h.is_line) ∙ last_of-append lines last []

all_made : (bytes : List ℕ) (lines : List (List ℕ)) (last : List ℕ) → IsMadeOf bytes lines last → all_lines bytes ≡ lines ++ line_if_some last
all_made bytes lines last h =
    ap (λ ls. ls ++ line_if_some (last_piece bytes)) (whole_made bytes lines last h) ∙ ap (λ l. lines ++ line_if_some l) (last_made bytes lines last h)

begun_line : (last : List ℕ) → last ≢ [] → line_if_some last ≡ last ∷ []
begun_line [] h = absurd (h refl)
begun_line (b ∷ bs) h = refl

-- ---- any bytes are put together of lines

no_end : IsLine []
no_end i d l = absurd (omega arith)

more_line : (b : ℕ) (bs : List ℕ) → eqb b 10 ≡ false → IsLine bs → IsLine (b ∷ bs)
more_line b bs e is zero d l = eqb-false b 10 e
more_line b bs e is (suc i) d l = is i d (omega arith)

onto_are : (b : ℕ) (ps : List (List ℕ)) → eqb b 10 ≡ false → AreLines ps → AreLines (onto_first b ps)
onto_are b [] e are = (more_line b [] e no_end, tt)
onto_are b (p ∷ ps) e are = (more_line b p e are.0, are.1)

pieces_are : (bytes : List ℕ) → AreLines (pieces bytes)
pieces_are [] = (no_end, tt)
pieces_are (b ∷ bs) = pieces_by (eqb b 10) b (pieces bs) refl (pieces_are bs)
  where
    pieces_by : (t : Bool) (b : ℕ) (ps : List (List ℕ)) → eqb b 10 ≡ t → AreLines ps → AreLines (cond t ([] ∷ ps) (onto_first b ps))
    pieces_by true b ps e are = (no_end, are)
    pieces_by false b ps e are = onto_are b ps e are

but_last_are : (ps : List (List ℕ)) → AreLines ps → AreLines (all_but_last ps)
but_last_are [] are = tt
but_last_are (p ∷ []) are = tt
but_last_are (p ∷ q ∷ ps) are = (are.0, but_last_are (q ∷ ps) are.1)

last_is : (ps : List (List ℕ)) → AreLines ps → IsLine (last_of ps)
last_is [] are = no_end
last_is (p ∷ []) are = are.0
last_is (p ∷ q ∷ ps) are = last_is (q ∷ ps) are.1

joined_pieces : (ps : List (List ℕ)) → join_with_byte 10 ps ≡ flat_map ended (all_but_last ps) ++ last_of ps
joined_pieces [] = refl
joined_pieces (p ∷ []) = refl
joined_pieces (p ∷ q ∷ ps) =
    ap (λ t. p ++ 10 ∷ t) (joined_pieces (q ∷ ps))
    ∙ sym (append_assoc p (10 ∷ []) (flat_map ended (all_but_last (q ∷ ps)) ++ last_of (q ∷ ps)))
    ∙ sym (append_assoc (p ++ 10 ∷ []) (flat_map ended (all_but_last (q ∷ ps))) (last_of (q ∷ ps)))

made_of_lines : (bytes : List ℕ) → IsMadeOf bytes (whole_lines bytes) (last_piece bytes)
made_of_lines bytes = record {
  are_lines = but_last_are (pieces bytes) (pieces_are bytes);
  is_line = last_is (pieces bytes) (pieces_are bytes);
  same = sym (join_with_byte-slice_split 10 bytes) ∙ joined_pieces (pieces bytes);
}

-- ---- bad lines

-- what is written of lines, and then of one more
bad_behind : (number : ℕ) (lines : List (List ℕ)) (line : List ℕ) → bad_lines_from number (lines ++ line ∷ []) ≡ bad_lines_from number lines ++ bad_line (number + length lines) (judged line)
bad_behind number [] line =
    let first : number ≡ number + 0 = omega arith in append-nil (bad_line number (judged line)) ∙ ap (λ n. bad_line n (judged line)) first
bad_behind number (next ∷ lines) line =
    let count : (number + 1) + length lines ≡ number + length (next ∷ lines) = omega arith in
    ap (λ t. bad_line number (judged next) ++ t) (bad_behind (number + 1) lines line ∙ ap (λ n. bad_lines_from (number + 1) lines ++ bad_line n (judged line)) count)
    ∙ sym (append_assoc (bad_line number (judged next)) (bad_lines_from (number + 1) lines) (bad_line (number + length (next ∷ lines)) (judged line)))

numbered : (lines : List (List ℕ)) (line : List ℕ) (verdict : Verdict) → judged line ≡ verdict → bad_lines (lines ++ line ∷ []) ≡ bad_lines lines ++ bad_line (length lines + 1) verdict
numbered lines line verdict e =
    let count : 1 + length lines ≡ length lines + 1 = omega arith in
    bad_behind 1 lines line ∙ ap (λ n. bad_lines lines ++ bad_line n (judged line)) count ∙ ap (λ v. bad_lines lines ++ bad_line (length lines + 1) v) e

pub lines_cut : LinesAreCut
lines_cut = record {
  made = λ bytes. (whole_lines bytes, last_piece bytes, made_of_lines bytes);
  whole = whole_made;
  ended = λ bytes lines h. all_made bytes lines [] h ∙ append-nil lines;
  begun = λ bytes lines last some h. all_made bytes lines last h ∙ ap (λ ls. lines ++ ls) (begun_line last some);
  bad = λ lines line word e. numbered lines line (Err word) e;
  good = λ lines line m e. numbered lines line (Ok m) e ∙ append-nil (bad_lines lines);
  none = refl;
}
