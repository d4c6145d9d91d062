-- The templates of a book are in range, and of its expense categories.
use Rattle.std.proofs.Common.{◌≡◌, Bool, true, List, [], ◌∷◌, ◌++◌, Result, Ok, Err, refl, arith}
use Rattle.std.specs.Prelude.{◌<◌, flat_map}
use Rattle.std.specs.Ordering.{eq_by_cmp}
use Rattle.std.specs.List.{AllByRecursion}
use Rattle.finite_sums.specs.Maps.{Text, text_cmp, is_among}
use Rattle.book_rows.specs.declared.rows.Rows.{Rows}
use Rattle.envelope_cells.specs.Budget.{Budget, expense}
use Rattle.envelope_cells.specs.BudgetOf.{budget_of}
use Rattle.envelope_cells.proofs.Among.{itself, or_left, or_right}
use Rattle.goal_templates.specs.declared.template.Template.{Template}
use Rattle.goal_templates.specs.declared.template.TemplateFault.{TemplateFault}
use Rattle.goal_templates.specs.declared.share.Asked.{Asked}
use Rattle.goal_templates.specs.Reading.{template_of}
use Rattle.goal_templates.specs.Notes.{note_lines, asked_by, asked_in, asked_for, templates}
use Rattle.goal_templates.specs.Sizes.{IsAsked, AreAsked}
use Rattle.goal_templates.proofs.Lines.{templates_read_back_lem}

asked-append : (b : Budget) (xs ys : List Asked) → AreAsked b xs → AreAsked b ys → AreAsked b (xs ++ ys)
asked-append b [] ys h k = k
asked-append b (x ∷ xs) ys h k = (h.0, asked-append b xs ys h.1 k)

module _ (b : Budget) (c : Text) (among : is_among text_cmp (expense b) c ≡ true) where
  by_line : (line : Text) (o : Result Template TemplateFault) → template_of line ≡ o → AreAsked b (asked_by c o)
  by_line line (Ok t) e = (record { range = templates_read_back_lem.ranges line t e; among = among }, tt)
  by_line line (Err fault) e = tt

  by_lines : (lines : List Text) → AreAsked b (asked_in c lines)
  by_lines [] = tt
  by_lines (line ∷ lines) = asked-append b (asked_by c (template_of line)) (asked_in c lines) (by_line line (template_of line) refl) (by_lines lines)

each_asked : (b : Budget) (rows : Rows) (cs : List Text) → ((q : Text) → is_among text_cmp cs q ≡ true → is_among text_cmp (expense b) q ≡ true) → AreAsked b (asked_for rows cs)
each_asked b rows [] h = tt
each_asked b rows (c ∷ cs) h =
    asked-append b (asked_in c (note_lines rows c)) (asked_for rows cs)
    (by_lines b c (h c (or_left (eq_by_cmp text_cmp c c) (is_among text_cmp cs c) (itself c))) (note_lines rows c))
    (each_asked b rows cs (λ q k. h q (or_right (eq_by_cmp text_cmp q c) (is_among text_cmp cs q) k)))

pub all_asked : (rows : Rows) → AreAsked (budget_of rows) (templates rows)
all_asked rows = each_asked (budget_of rows) rows (expense (budget_of rows)) (λ q k. k)

-- so no priority is greater than 99
pub few_priorities : (b : Budget) (xs : List Asked) → AreAsked b xs → AllByRecursion (λ x. x.template.priority < 100) xs
few_priorities b [] h = tt
few_priorities b (x ∷ xs) h = ((let r = h.0 in let p = r.range.priority in omega (arith, p)), few_priorities b xs h.1)
