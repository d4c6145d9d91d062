-- What the notes of a book ask for, and in which order.
use Rattle.std.proofs.Common.{◌≡◌, ℕ, zero, suc, ◌+◌, ◌<◌, ◌≤◌, Bool, true, false, cond, List, [], ◌∷◌, ◌++◌, length, get_or, ◌⊎◌, inl, inr, Option, Result, Ok, Err, refl, sym, subst, ap, ◌∙◌, arith, append_assoc}
use Rattle.std.specs.Prelude.{◌==◌, nat_le, AllPairs}
use Rattle.std.specs.Option.{option_and_then}
use Rattle.std.specs.Ordering.{eq_by_cmp}
use Rattle.std.specs.List.{slice_split, onto_first, filter, AllByRecursion}
use Rattle.std.specs.List.Sorted.{IsPermutation}
use Rattle.std.proofs.lemmas.Bool.{eqb-true, eqb-false, leb-false}
use Rattle.std.proofs.lemmas.List.Concat.{flat_map-append}
use Rattle.std.proofs.lemmas.List.Splits.{length-slice_split, join_with_byte-slice_split}
use Rattle.std.proofs.lemmas.List.Sorted.{IsPermutation-refl, IsPermutation-cons, IsPermutation-trans, IsPermutation-middle}
use Rattle.finite_sums.specs.Maps.{Text, text_cmp}
use Rattle.book_rows.specs.declared.rows.Rows.{Rows}
use Rattle.book_rows.specs.declared.rows.NoteRow.{NoteRow}
use Rattle.envelope_cells.proofs.Among.{same_texts, itself, or_left, or_right, or_either}
use Rattle.goal_templates.specs.declared.template.Template.{Template}
use Rattle.goal_templates.specs.declared.template.TemplateFault.{TemplateFault}
use Rattle.goal_templates.specs.declared.share.Asked.{Asked}
use Rattle.goal_templates.specs.declared.share.BadLine.{BadLine}
use Rattle.goal_templates.specs.Reading.{template_of}
use Rattle.goal_templates.specs.Grammar.{IsTemplate, Begins}
use Rattle.goal_templates.specs.Notes.{lines_in, note_lines, asked_by, asked_in, templates, bad_by, bad_from}
use Rattle.goal_templates.specs.NoteLaws.{IsIn}
use Rattle.goal_templates.specs.Sharing.{put, in_order}
use Rattle.goal_templates.specs.Allocation.{has_template}
use Rattle.goal_templates.proofs.Lines.{templates_are_read_lem}
use Rattle.goal_templates.proofs.Ordered.{IsRising, order_rises}
use Rattle.budget_laws.specs.Noting.{AreLinesOf, LinesAreTold, IsNoTemplate, LinesAsk, LinesAreBad, BooksAsk, AreInOrder, NotesAreWhole}

-- ---- lines
abbrev AreWhole : List Text → Type 0
AreWhole lines = (line : Text) → IsIn line lines → IsIn 10 line → ⊥

more_whole : (b : ℕ) (parts : List Text) → (b == 10) ≡ false → AreWhole parts → AreWhole (onto_first b parts)
more_whole b [] e h line (inl is) k = by (subst (IsIn 10) is k)
  where
    by : ((10 ≡ b) ⊎ ⊥) → ⊥
    by (inl same) = eqb-false b 10 e (sym same)
    by (inr none) = none
more_whole b [] e h line (inr none) k = none
more_whole b (part ∷ parts) e h line (inl is) k = by (subst (IsIn 10) is k)
  where
    by : ((10 ≡ b) ⊎ IsIn 10 part) → ⊥
    by (inl same) = eqb-false b 10 e (sym same)
    by (inr within) = h part (inl refl) within
more_whole b (part ∷ parts) e h line (inr within) k = h line (inr within) k

first_whole : (parts : List Text) → AreWhole parts → AreWhole ([] ∷ parts)
first_whole parts h line (inl is) k = subst (IsIn 10) is k
first_whole parts h line (inr within) k = h line within k

lines_whole : (note : Text) → AreWhole (slice_split (λ b. b == 10) note)
lines_whole [] = first_whole [] (λ line none k. none)
lines_whole (b ∷ bs) = by (b == 10) refl (lines_whole bs)
  where
    by : (t : Bool) → (b == 10) ≡ t → AreWhole (slice_split (λ b. b == 10) bs) → AreWhole (cond t ([] ∷ slice_split (λ b. b == 10) bs) (onto_first b (slice_split (λ b. b == 10) bs)))
    by true e h = first_whole (slice_split (λ b. b == 10) bs) h
    by false e h = more_whole b (slice_split (λ b. b == 10) bs) e h

lines_are : (note : Text) → AreLinesOf note (slice_split (λ b. b == 10) note)
lines_are note = record {
  some = (let long = length-slice_split (λ b. b == 10) note in omega (arith, long));
  joined = join_with_byte-slice_split 10 note;
  whole = lines_whole note;
}

abbrev text_in : Option NoteRow → Option Text
text_in o = option_and_then (λ (n : NoteRow). n.note) o

lines_told : (rows : Rows) (c : Text) → LinesAreTold rows c
lines_told rows c = record {
  noted = λ row note there is. subst (λ (o : Option Text). AreLinesOf note (lines_in o)) (sym (ap text_in there ∙ is)) (lines_are note);
  empty = λ row there is. ap lines_in (ap text_in there ∙ is);
  absent = λ there. ap lines_in (ap text_in there);
}

-- ---- what lines ask for
none_read : {P : Type 0} (line : Text) (t : Template) → IsNoTemplate line → template_of line ≡ Ok t → P
none_read line t never h = absurd (never t ((templates_are_read_lem.good line t).0 h))

asks_nothing : (c line : Text) → IsNoTemplate line → asked_by c (template_of line) ≡ []
asks_nothing c line never = by (template_of line) refl
  where
    by : (r : Result Template TemplateFault) → template_of line ≡ r → asked_by c r ≡ []
    by (Ok t) e = none_read line t never e
    by (Err fault) e = refl

lines_ask : (c : Text) → LinesAsk c
lines_ask c = record {
  nothing = refl;
  template = λ before after line t is.
      cut before line after ∙ ap (λ (r : Result Template TemplateFault). asked_in c before ++ (asked_by c r ++ asked_in c after)) ((templates_are_read_lem.good line t).1 is);
  other = λ before after line never. cut before line after ∙ ap (λ own. asked_in c before ++ (own ++ asked_in c after)) (asks_nothing c line never);
}
  where
    cut : (before : List Text) (line : Text) (after : List Text) → asked_in c (before ++ line ∷ after) ≡ asked_in c before ++ (asked_by c (template_of line) ++ asked_in c after)
    cut before line after = flat_map-append (λ line. asked_by c (template_of line)) before (line ∷ after)

-- ---- bad lines
bad_cut : (c : Text) (n : ℕ) (before : List Text) (line : Text) (after : List Text)
    → bad_from c n (before ++ line ∷ after) ≡ bad_from c n before ++ (bad_by c (n + length before) (template_of line) ++ bad_from c (n + length before + 1) after)
bad_cut c n [] line after = ap (λ k. bad_by c k (template_of line) ++ bad_from c (k + 1) after) (let e : n ≡ n + 0 = omega arith in e)
bad_cut c n (l ∷ before) line after =
    ap (λ rest. bad_by c n (template_of l) ++ rest) (bad_cut c (n + 1) before line after)
    ∙ sym (append_assoc (bad_by c n (template_of l)) (bad_from c (n + 1) before) (bad_by c (n + 1 + length before) (template_of line) ++ bad_from c (n + 1 + length before + 1) after))
    ∙ ap (λ k. (bad_by c n (template_of l) ++ bad_from c (n + 1) before) ++ (bad_by c k (template_of line) ++ bad_from c (k + 1) after))
    (let e : n + 1 + length before ≡ n + suc (length before) = omega arith in e)

is_bad : (c line : Text) (n : ℕ) → Begins line → IsNoTemplate line → bad_by c n (template_of line) ≡ record { category = c; number = n } ∷ []
is_bad c line n begins never = ap (bad_by c n) ((templates_are_read_lem.bad line).1 (begins, never))

is_good : (c line : Text) (n : ℕ) (t : Template) → IsTemplate line t → bad_by c n (template_of line) ≡ []
is_good c line n t is = ap (bad_by c n) ((templates_are_read_lem.good line t).1 is)

is_other : (c line : Text) (n : ℕ) → (Begins line → ⊥) → bad_by c n (template_of line) ≡ []
is_other c line n never = ap (bad_by c n) ((templates_are_read_lem.other line).1 never)

lines_bad : (c : Text) (n : ℕ) → LinesAreBad c n
lines_bad c n = record {
  nothing = refl;
  bad = λ before after line begins never. cut before line after ∙ put_in before after (is_bad c line (n + length before) begins never);
  good = λ before after line t is. cut before line after ∙ put_in before after (is_good c line (n + length before) t is);
  other = λ before after line never. cut before line after ∙ put_in before after (is_other c line (n + length before) never);
}
  where
    cut : (before : List Text) (line : Text) (after : List Text)
        → bad_from c n (before ++ line ∷ after) ≡ bad_from c n before ++ (bad_by c (n + length before) (template_of line) ++ bad_from c (n + length before + 1) after)
    cut before line after = bad_cut c n before line after

    put_in : (before after : List Text) {own is : List BadLine} → own ≡ is
        → bad_from c n before ++ (own ++ bad_from c (n + length before + 1) after) ≡ bad_from c n before ++ (is ++ bad_from c (n + length before + 1) after)
    put_in before after e = ap (λ own. bad_from c n before ++ (own ++ bad_from c (n + length before + 1) after)) e

-- ---- books
has_so : (xs : List Asked) (c : Text) → has_template xs c ≡ true → (t : Template) × IsIn (record { category = c; template = t }) xs
has_so [] c h = absurd (cc)
has_so (x ∷ xs) c h = or_either (eq_by_cmp text_cmp x.category c) (has_template xs c) h
    (λ e. (x.template, inl (ap (λ (q : Text). record { category = q; template = x.template }) (sym (same_texts x.category c e)))))
    (λ k. let more = has_so xs c k in (more.0, inr more.1))

so_has : (xs : List Asked) (c : Text) (t : Template) → IsIn (record { category = c; template = t }) xs → has_template xs c ≡ true
so_has [] c t h = absurd h
so_has (x ∷ xs) c t (inl e) =
    or_left (eq_by_cmp text_cmp x.category c) (has_template xs c) (subst (λ (q : Text). eq_by_cmp text_cmp q c ≡ true) (ap (λ (a : Asked). a.category) e) (itself c))
so_has (x ∷ xs) c t (inr h) = or_right (eq_by_cmp text_cmp x.category c) (has_template xs c) (so_has xs c t h)

books_ask : (rows : Rows) → BooksAsk rows
books_ask rows = record {
  book = refl;
  nothing = refl;
  category = λ before after c. flat_map-append (λ c. asked_in c (note_lines rows c)) before (c ∷ after);
  has = λ c. (has_so (templates rows) c, λ h. so_has (templates rows) c h.0 h.1);
  bad_of_book = refl;
  nothing_bad = refl;
  bad_of_category = λ before after c. flat_map-append (λ c. bad_from c 1 (note_lines rows c)) before (c ∷ after);
}

-- ---- the order
put_moves : (x : Asked) (ys : List Asked) → IsPermutation (x ∷ ys) (put x ys)
put_moves x [] = IsPermutation-refl (x ∷ [])
put_moves x (y ∷ ys) = by (nat_le x.template.priority y.template.priority) (put_moves x ys)
  where
    by : (t : Bool) → IsPermutation (x ∷ ys) (put x ys) → IsPermutation (x ∷ y ∷ ys) (cond t (x ∷ y ∷ ys) (y ∷ put x ys))
    by true h = IsPermutation-refl (x ∷ y ∷ ys)
    by false h =
        IsPermutation-trans (x ∷ y ∷ ys) (y ∷ x ∷ ys) (y ∷ put x ys) (IsPermutation-middle (x ∷ []) y ys)
        (IsPermutation-cons y (x ∷ ys) (put x ys) h)

pub same_ones : (xs : List Asked) → IsPermutation xs (in_order xs)
same_ones [] = IsPermutation-refl []
same_ones (x ∷ xs) = IsPermutation-trans (x ∷ xs) (x ∷ in_order xs) (put x (in_order xs)) (IsPermutation-cons x xs (in_order xs) (same_ones xs)) (put_moves x (in_order xs))

abbrev Below : ℕ → Asked → Type 0
Below k x = k ≤ x.template.priority

least_at : (k : ℕ) (xs : List Asked) (i : ℕ) (d : Asked) → AllByRecursion (Below k) xs → i < length xs → Below k (get_or xs i d)
least_at k [] i d h short = absurd (omega arith)
least_at k (x ∷ xs) zero d h short = h.0
least_at k (x ∷ xs) (suc i) d h short = least_at k xs i d h.1 (omega arith)

abbrev Rises : Asked → Asked → Type 0
Rises x y = x.template.priority ≤ y.template.priority

rises : (xs : List Asked) → IsRising xs → AllPairs Rises xs
rises [] h i j d less short = absurd (omega arith)
rises (x ∷ xs) h zero zero d less short = absurd (omega arith)
rises (x ∷ xs) h zero (suc j) d less short = least_at x.template.priority xs j d h.0 (omega arith)
rises (x ∷ xs) h (suc i) zero d less short = absurd (omega arith)
rises (x ∷ xs) h (suc i) (suc j) d less short = rises xs h.1 i j d (omega arith) (omega arith)

abbrev of_place : ℕ → List Asked → List Asked
of_place k xs = filter (λ (x : Asked). x.template.priority == k) xs

put_keeps : (k : ℕ) (x : Asked) (ys : List Asked) → of_place k (put x ys) ≡ of_place k (x ∷ ys)
put_keeps k x [] = refl
put_keeps k x (y ∷ ys) = by (nat_le x.template.priority y.template.priority) refl (put_keeps k x ys)
  where
    turned : (s t : Bool) → (x.template.priority == k) ≡ s → (y.template.priority == k) ≡ t → y.template.priority < x.template.priority
        → cond t (y ∷ cond s (x ∷ of_place k ys) (of_place k ys)) (cond s (x ∷ of_place k ys) (of_place k ys))
        ≡ cond s (x ∷ cond t (y ∷ of_place k ys) (of_place k ys)) (cond t (y ∷ of_place k ys) (of_place k ys))
    turned true true e f less = let p = eqb-true x.template.priority k e in let q = eqb-true y.template.priority k f in absurd (omega (arith, p, q))
    turned true false e f less = refl
    turned false true e f less = refl
    turned false false e f less = refl

    by : (t : Bool) → nat_le x.template.priority y.template.priority ≡ t → of_place k (put x ys) ≡ of_place k (x ∷ ys) → of_place k (cond t (x ∷ y ∷ ys) (y ∷ put x ys)) ≡ of_place k (x ∷ y ∷ ys)
    by true e h = refl
    by false e h =
        ap (λ rest. cond (y.template.priority == k) (y ∷ rest) rest) h
        ∙ turned (x.template.priority == k) (y.template.priority == k) refl refl (leb-false x.template.priority y.template.priority e)

order_keeps : (k : ℕ) (xs : List Asked) → of_place k (in_order xs) ≡ of_place k xs
order_keeps k [] = refl
order_keeps k (x ∷ xs) = put_keeps k x (in_order xs) ∙ ap (λ rest. cond (x.template.priority == k) (x ∷ rest) rest) (order_keeps k xs)

ordered : (xs : List Asked) → AreInOrder xs (in_order xs)
ordered xs = record { same = same_ones xs; rising = rises (in_order xs) (order_rises xs); kept = λ k. order_keeps k xs }

pub notes_whole : NotesAreWhole
notes_whole = record { lines = lines_told; asked = lines_ask; bad = lines_bad; books = books_ask; order = ordered }
