-- What the notes of a book say.
use Rattle.std.proofs.Common.{◌≡◌, ℕ, ◌+◌, Bool, true, false, List, [], ◌∷◌, ◌++◌, length, ◌⊎◌, inl, inr, Result, Ok, Err, IfOk, refl, sym, subst, ap, ◌∙◌, arith}
use Rattle.std.specs.Prelude.{◌↔◌, ◌||◌, flat_map}
use Rattle.std.specs.Ordering.{eq_by_cmp}
use Rattle.finite_sums.specs.Maps.{Text, text_cmp, is_among}
use Rattle.book_rows.specs.declared.rows.Rows.{Rows}
use Rattle.book_rows.specs.Live.{is_expense_category}
use Rattle.envelope_cells.specs.Budget.{expense}
use Rattle.envelope_cells.specs.BudgetOf.{budget_of}
use Rattle.envelope_cells.proofs.Among.{same_texts, itself, or_left, or_right, or_either}
use Rattle.envelope_cells.proofs.Listed.{live_ones_are_listed_lem}
use Rattle.goal_templates.specs.declared.template.Template.{Template}
use Rattle.goal_templates.specs.declared.template.TemplateFault.{TemplateFault}
use Rattle.goal_templates.specs.declared.template.TemplateFault.TheVariants.{Other, Bad, NoMemory}
use Rattle.goal_templates.specs.declared.share.Asked.{Asked}
use Rattle.goal_templates.specs.declared.share.BadLine.{BadLine}
use Rattle.goal_templates.specs.Reading.{template_of}
use Rattle.goal_templates.specs.Grammar.{IsTemplate, Begins}
use Rattle.goal_templates.specs.Notes.{note_lines, asked_by, asked_in, templates, bad_by, bad_from, bad_lines}
use Rattle.goal_templates.specs.NoteLaws.{IsIn, IsLine, NotesAreRead}
use Rattle.goal_templates.proofs.Lines.{templates_are_read_lem}

-- what holds of a value that came
pub of_ok : {T E : Type 0} (r : Result T E) (x : T) (P : T → Type 0) → r ≡ Ok x → IfOk r P → P x
of_ok r x P e h = subst (λ s. IfOk s P) e h

-- ---- lists
module _ {X : Type 0} (x : X) where
  in_front : (xs ys : List X) → IsIn x xs → IsIn x (xs ++ ys)
  in_front [] ys h = absurd h
  in_front (y ∷ xs) ys (inl e) = inl e
  in_front (y ∷ xs) ys (inr h) = inr (in_front xs ys h)

  in_back : (xs ys : List X) → IsIn x ys → IsIn x (xs ++ ys)
  in_back [] ys h = h
  in_back (y ∷ xs) ys h = inr (in_back xs ys h)

  in_either : (xs ys : List X) → IsIn x (xs ++ ys) → IsIn x xs ⊎ IsIn x ys
  in_either [] ys h = inr h
  in_either (y ∷ xs) ys (inl e) = inl (inl e)
  in_either (y ∷ xs) ys (inr h) = by (in_either xs ys h)
    where
      by : (IsIn x xs ⊎ IsIn x ys) → (((x ≡ y) ⊎ IsIn x xs) ⊎ IsIn x ys)
      by (inl k) = inl (inr k)
      by (inr k) = inr k

  module _ {A : Type 0} (f : A → List X) where
    from_flat : (as_ : List A) → IsIn x (flat_map f as_) → (a : A) × IsIn a as_ × IsIn x (f a)
    from_flat [] h = absurd h
    from_flat (a ∷ rest) h = by (from_flat rest) (in_either (f a) (flat_map f rest) h)
      where
        by : (IsIn x (flat_map f rest) → (q : A) × IsIn q rest × IsIn x (f q)) → (IsIn x (f a) ⊎ IsIn x (flat_map f rest)) → (q : A) × ((q ≡ a) ⊎ IsIn q rest) × IsIn x (f q)
        by more (inl k) = (a, inl refl, k)
        by more (inr k) = let m = more k in (m.0, inr m.1, m.2)

    into_flat : (as_ : List A) (a : A) → IsIn a as_ → IsIn x (f a) → IsIn x (flat_map f as_)
    into_flat [] a h k = absurd h
    into_flat (q ∷ rest) a (inl e) k = in_front (f q) (flat_map f rest) (subst (λ b. IsIn x (f b)) e k)
    into_flat (q ∷ rest) a (inr h) k = in_back (f q) (flat_map f rest) (into_flat rest a h k)

among_in : (cs : List Text) (c : Text) → is_among text_cmp cs c ≡ true → IsIn c cs
among_in [] c h = absurd (cc)
among_in (q ∷ cs) c h = or_either (eq_by_cmp text_cmp c q) (is_among text_cmp cs c) h (λ e. inl (same_texts c q e)) (λ k. inr (among_in cs c k))

in_among : (cs : List Text) (c : Text) → IsIn c cs → is_among text_cmp cs c ≡ true
in_among [] c h = absurd h
in_among (q ∷ cs) c (inl e) = or_left (eq_by_cmp text_cmp c q) (is_among text_cmp cs c) (subst (λ t. eq_by_cmp text_cmp c t ≡ true) e (itself c))
in_among (q ∷ cs) c (inr h) = or_right (eq_by_cmp text_cmp c q) (is_among text_cmp cs c) (in_among cs c h)

-- ---- templates
by_template : (c : Text) (o : Result Template TemplateFault) (x : Asked) → IsIn x (asked_by c o) → (x.category ≡ c) × (o ≡ Ok x.template)
by_template c (Ok t) x (inl e) = (ap (λ (a : Asked). a.category) e, ap (λ (a : Asked). Ok a.template) (sym e))
by_template c (Ok t) x (inr h) = absurd h
by_template c (Err fault) x h = absurd h

to_template : (c : Text) (o : Result Template TemplateFault) (t : Template) → o ≡ Ok t → IsIn (record { category = c; template = t }) (asked_by c o)
to_template c o t e = subst (λ (r : Result Template TemplateFault). IsIn (record { category = c; template = t }) (asked_by c r)) (sym e) (inl refl)

-- ---- bad lines

-- a bad line among lines, of which the first has number n
record IsBadAt (lines : List Text) (n m : ℕ) : Type 0 where
  before : List Text
  line : Text
  after : List Text
  here : lines ≡ before ++ line ∷ after
  number : m ≡ n + length before
  bad : template_of line ≡ Err Bad

by_bad : (c : Text) (n : ℕ) (o : Result Template TemplateFault) (x : BadLine) → IsIn x (bad_by c n o) → (x.category ≡ c) × (x.number ≡ n) × (o ≡ Err Bad)
by_bad c n (Ok t) x h = absurd h
by_bad c n (Err Bad) x (inl e) = (ap (λ (b : BadLine). b.category) e, ap (λ (b : BadLine). b.number) e, refl)
by_bad c n (Err Bad) x (inr h) = absurd h
by_bad c n (Err Other) x h = absurd h
by_bad c n (Err NoMemory) x h = absurd h

bad_at : (c : Text) (n : ℕ) (lines : List Text) (x : BadLine) → IsIn x (bad_from c n lines) → (x.category ≡ c) × IsBadAt lines n x.number
bad_at c n [] x h = absurd h
bad_at c n (line ∷ lines) x h = by (bad_at c (n + 1) lines x) (in_either x (bad_by c n (template_of line)) (bad_from c (n + 1) lines) h)
  where
    by : (IsIn x (bad_from c (n + 1) lines) → (x.category ≡ c) × IsBadAt lines (n + 1) x.number) → (IsIn x (bad_by c n (template_of line)) ⊎ IsIn x (bad_from c (n + 1) lines)) → (x.category ≡ c) × IsBadAt (line ∷ lines) n x.number
    by more (inl k) =
        let p = by_bad c n (template_of line) x k in
        (p.0, record { before = []; line = line; after = lines; here = refl; number = (let is = p.1 in omega (arith, is)); bad = p.2 })
    by more (inr k) =
        let m = more k in
        (m.0, record { before = line ∷ m.1.before; line = m.1.line; after = m.1.after; here = ap (λ ls. line ∷ ls) m.1.here; number = (let is = m.1.number in omega (arith, is)); bad = m.1.bad })

to_bad : (c : Text) (n m : ℕ) (before : List Text) (line : Text) (after : List Text) → m ≡ n + length before → template_of line ≡ Err Bad → IsIn (record { category = c; number = m }) (bad_from c n (before ++ line ∷ after))
to_bad c n m [] line after e h =
    in_front (record { category = c; number = m }) (bad_by c n (template_of line)) (bad_from c (n + 1) after)
    (subst (λ (r : Result Template TemplateFault). IsIn (record { category = c; number = m }) (bad_by c n r)) (sym h) (inl (ap (λ (k : ℕ). record { category = c; number = k }) (let is : m ≡ n = omega (arith, e) in is))))
to_bad c n m (other ∷ before) line after e h =
    in_back (record { category = c; number = m }) (bad_by c n (template_of other)) (bad_from c (n + 1) (before ++ line ∷ after))
    (to_bad c (n + 1) m before line after (omega (arith, e)) h)

-- ---- of a book
module _ (rows : Rows) where
  abbrev cs : List Text
  cs = expense (budget_of rows)

  listed : (c : Text) → IsIn c cs → is_expense_category rows c ≡ true
  listed c h = sym ((live_ones_are_listed_lem rows).expense c) ∙ in_among cs c h

  in_list : (c : Text) → is_expense_category rows c ≡ true → IsIn c cs
  in_list c h = among_in cs c ((live_ones_are_listed_lem rows).expense c ∙ h)

  asked_so : (c : Text) (t : Template) → IsIn (record { category = c; template = t }) (templates rows) → (is_expense_category rows c ≡ true) × ((line : Text) × IsIn line (note_lines rows c) × IsTemplate line t)
  asked_so c t h =
      let x : Asked = record { category = c; template = t } in
      let p = from_flat x (λ q. asked_in q (note_lines rows q)) cs h in
      let l = from_flat x (λ line. asked_by p.0 (template_of line)) (note_lines rows p.0) p.2 in
      let is = by_template p.0 (template_of l.0) x l.2 in
      (listed c (subst (λ q. IsIn q cs) (sym is.0) p.1), (l.0, subst (λ q. IsIn l.0 (note_lines rows q)) (sym is.0) l.1, (templates_are_read_lem.good l.0 t).0 is.1))

  so_asked : (c : Text) (t : Template) → ((is_expense_category rows c ≡ true) × ((line : Text) × IsIn line (note_lines rows c) × IsTemplate line t)) → IsIn (record { category = c; template = t }) (templates rows)
  so_asked c t h =
      let x : Asked = record { category = c; template = t } in
      into_flat x (λ q. asked_in q (note_lines rows q)) cs c (in_list c h.0)
      (into_flat x (λ line. asked_by c (template_of line)) (note_lines rows c) h.1.0 h.1.1 (to_template c (template_of h.1.0) t ((templates_are_read_lem.good h.1.0 t).1 h.1.2)))

  bad_so : (x : BadLine) → IsIn x (bad_lines rows) → (is_expense_category rows x.category ≡ true) × ((line : Text) × IsLine (note_lines rows x.category) x.number line × Begins line × ((t : Template) → IsTemplate line t → ⊥))
  bad_so x h =
      let p = from_flat x (λ q. bad_from q 1 (note_lines rows q)) cs h in
      let w = bad_at p.0 1 (note_lines rows p.0) x p.2 in
      let at = w.1 in
      let is = (templates_are_read_lem.bad at.line).0 at.bad in (
        listed x.category (subst (λ q. IsIn q cs) (sym w.0) p.1),
        (at.line, (at.before, at.after, ap (note_lines rows) w.0 ∙ at.here, (let n = at.number in omega (arith, n))), is.0, is.1),
      )

  so_bad : (x : BadLine) → ((is_expense_category rows x.category ≡ true) × ((line : Text) × IsLine (note_lines rows x.category) x.number line × Begins line × ((t : Template) → IsTemplate line t → ⊥))) → IsIn x (bad_lines rows)
  so_bad x h =
      let c = x.category in
      let line = h.1.0 in
      let at = h.1.1 in
      let n = at.3 in
      let here = to_bad c 1 x.number at.0 line at.1 (omega (arith, n)) ((templates_are_read_lem.bad line).1 (h.1.2, h.1.3)) in
      into_flat x (λ q. bad_from q 1 (note_lines rows q)) cs c (in_list c h.0) (subst (λ ls. IsIn x (bad_from c 1 ls)) (sym at.2) here)

pub notes_are_read_lem : (rows : Rows) → NotesAreRead rows
notes_are_read_lem rows = record { asked = λ c t. (asked_so rows c t, so_asked rows c t); bad = λ x. (bad_so rows x, so_bad rows x) }
