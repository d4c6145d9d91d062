-- The answers about the tracking budget: the cells that texts name, and that the lines of cells have no line feed.
use Rattle.std.proofs.Common.{◌≡◌, ◌≢◌, ℕ, Bool, List, [], ◌∷◌, ◌++◌, map, Option, None, Some, refl, ap, ◌∙◌}
use Rattle.std.specs.Prelude.{ℤ}
use Rattle.std.specs.Fmt.{signed_decimal}
use Rattle.std.specs.List.{AllByRecursion}
use Rattle.finite_sums.specs.Maps.{Text}
use Rattle.book_rows.specs.declared.rows.Rows.{Rows}
use Rattle.book_rows.specs.Named.{HasNames}
use Rattle.envelope_cells.specs.Budget.{Budget}
use Rattle.envelope_cells.specs.BudgetOf.{groups_of}
use Rattle.envelope_cells.specs.Ids.{month_number}
use Rattle.tracking_budget.specs.declared.live.LiveCategory.{LiveCategory}
use Rattle.tracking_budget.specs.declared.name.TrackCell.{TrackCell}
use Rattle.tracking_budget.specs.declared.name.TrackName.{TrackName}
use Rattle.tracking_budget.specs.declared.name.TrackKind.{TrackKind}
use Rattle.tracking_budget.specs.declared.name.TrackKind.TheVariants.{TotalIncome, TotalBudgetIncome, TotalBudgeted, TotalSpent, TotalLeftover, TotalSaved, RealSaved, Sum, Budget as OfBudget, Carryover, Leftover}
use Rattle.tracking_budget.specs.CellOf.{live_on, live_of, track_cell_of}
use Rattle.tracking_budget.specs.Names.{kind_text, track_named, track_line}
use Rattle.tracking_budget.specs.SheetOf.{cell, month_cells, category_cells, live_cells, track_cells}
use Rattle.tracking_budget.specs.Tracked.{tracked_of}
use Rattle.tracking_budget.proofs.Naming.{track_names_are_read_lem}
use Rattle.command_lines.specs.Answers.{MayHaveTrackId, track_text}
use Rattle.command_lines.specs.BookAnswers.{told_track, track_or_faulty}
use Rattle.command_lines.specs.Replies.{faulty}
use Rattle.command_lines.specs.ReplyLines.{IsLine, AreLines}
use Rattle.command_lines.proofs.BookLineLemmas.{Group, HaveIds, groups_named}
use Rattle.command_lines.proofs.PlainTexts.{Plain, both, tested, is_line, plain_of, signed_plain}

-- ---- names of cells

module _ (rows : Rows) where
  pub named_track : (name : TrackName) (o : Option ℤ) → MayHaveTrackId name → track_cell_of (tracked_of rows) name ≡ o → track_or_faulty rows (track_named name.month (track_text name)) ≡ told_track name o
  named_track name o h e = ap (track_or_faulty rows) (track_names_are_read_lem.read name.month name.kind name.id h) ∙ ap (told_track name) e

  pub none_tracked : (month : ℕ) (text : List ℕ) → ((name : TrackName) → MayHaveTrackId name → track_text name ≢ text) → track_or_faulty rows (track_named month text) ≡ faulty 2
  none_tracked month text h = by (track_named month text) refl
    where
      by : (o : Option TrackName) → track_named month text ≡ o → track_or_faulty rows o ≡ faulty 2
      by None e = refl
      by (Some name) e = let is = track_names_are_read_lem.told month text name e in absurd (h name is.2 is.1)

-- ---- lines of cells

kind_plain : (kind : TrackKind) → Plain (kind_text kind)
kind_plain TotalIncome = tested (kind_text TotalIncome) refl
kind_plain TotalBudgetIncome = tested (kind_text TotalBudgetIncome) refl
kind_plain TotalBudgeted = tested (kind_text TotalBudgeted) refl
kind_plain TotalSpent = tested (kind_text TotalSpent) refl
kind_plain TotalLeftover = tested (kind_text TotalLeftover) refl
kind_plain TotalSaved = tested (kind_text TotalSaved) refl
kind_plain RealSaved = tested (kind_text RealSaved) refl
kind_plain Sum = tested (kind_text Sum) refl
kind_plain OfBudget = tested (kind_text OfBudget) refl
kind_plain Carryover = tested (kind_text Carryover) refl
kind_plain Leftover = tested (kind_text Leftover) refl

cell_line : (month : ℕ) (kind : TrackKind) (id : Text) (z : ℤ) → IsLine id → IsLine (track_line (cell month kind id z))
cell_line month kind id z h =
    is_line (kind_text kind ++ id ++ 32 ∷ signed_decimal z)
    (both (kind_text kind ++ id) (32 ∷ signed_decimal z) (both (kind_text kind) id (kind_plain kind) (plain_of id h)) (refl, signed_plain z))

empty_line : IsLine []
empty_line = is_line [] tt

abbrev TellLines : List TrackCell → Type 0
TellLines cells = AreLines (map track_line cells)

append_cells : (cs ds : List TrackCell) → TellLines cs → TellLines ds → TellLines (cs ++ ds)
append_cells [] ds h k = k
append_cells (c ∷ cs) ds h k = (h.0, append_cells cs ds h.1 k)

month_lines : (b : Budget) (month m : ℕ) → TellLines (month_cells b month m)
month_lines b month m = (
  cell_line month TotalIncome [] _ empty_line,
  (
    cell_line month TotalBudgetIncome [] _ empty_line,
    (
      cell_line month TotalBudgeted [] _ empty_line,
      (
        cell_line month TotalSpent [] _ empty_line,
        (cell_line month TotalLeftover [] _ empty_line, (cell_line month TotalSaved [] _ empty_line, (cell_line month RealSaved [] _ empty_line, tt))),
      ),
    ),
  ),
)

category_lines : (b : Budget) (month m : ℕ) (l : LiveCategory) → IsLine l.id → TellLines (category_cells b month m l)
category_lines b month m l h =
    (cell_line month Sum l.id _ h, (cell_line month OfBudget l.id _ h, (cell_line month Carryover l.id _ h, (cell_line month Leftover l.id _ h, tt))))

abbrev HaveLineIds : List LiveCategory → Type 0
HaveLineIds ls = AllByRecursion (λ l. IsLine l.id) ls

live_lines : (b : Budget) (month m : ℕ) (ls : List LiveCategory) → HaveLineIds ls → TellLines (live_cells b month m ls)
live_lines b month m [] h = tt
live_lines b month m (l ∷ ls) h = append_cells (category_cells b month m l) (live_cells b month m ls) (category_lines b month m l h.0) (live_lines b month m ls h.1)

append_ids : (ks ls : List LiveCategory) → HaveLineIds ks → HaveLineIds ls → HaveLineIds (ks ++ ls)
append_ids [] ls h g = g
append_ids (k ∷ ks) ls h g = (h.0, append_ids ks ls h.1 g)

on_ids : (is_income : Bool) (cs : List Text) → AreLines cs → HaveLineIds (live_on is_income cs)
on_ids is_income [] h = tt
on_ids is_income (c ∷ cs) h = (h.0, on_ids is_income cs h.1)

of_ids : (gs : List Group) → HaveIds gs → HaveLineIds (live_of gs)
of_ids [] h = tt
of_ids (g ∷ gs) h = append_ids (live_on g.is_income g.categories) (live_of gs) (on_ids g.is_income g.categories h.0.1) (of_ids gs h.1)

pub track_is : (rows : Rows) (month : ℕ) → HasNames rows → AreLines (map track_line (track_cells (tracked_of rows) month))
track_is rows month named =
    let b : Budget = tracked_of rows in
    let m : ℕ = month_number month in
    append_cells (month_cells b month m) (live_cells b month m (live_of (groups_of rows))) (month_lines b month m)
    (live_lines b month m (live_of (groups_of rows)) (of_ids (groups_of rows) (groups_named rows named)))
