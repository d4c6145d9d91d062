-- What each template is given in its turn.
use Rattle.std.specs.Prelude.{◌≡◌, ◌≢◌, ℕ, ℤ, pos, ◌-ℤ◌, List, ◌∷◌, ◌++◌, length}
use Rattle.std.specs.Int.{int_max, int_min}
use Rattle.book_rows.specs.declared.rows.Rows.{Rows}
use Rattle.envelope_cells.specs.BudgetOf.{budget_of}
use Rattle.envelope_cells.specs.Ids.{month_number}
use Rattle.goal_templates.specs.declared.share.Share.{Share}
use Rattle.goal_templates.specs.declared.share.Asked.{Asked}
use Rattle.goal_templates.specs.Wanted.{want_of}
use Rattle.goal_templates.specs.Notes.{templates}
use Rattle.goal_templates.specs.Sharing.{Wants, in_order, got, all_given}
use Rattle.goal_templates.specs.Allocation.{shared_money}
use Rattle.goal_templates.specs.Goals.{shares_in}

-- the share of a template, where these were given before it
pub record IsShareOf (wants : Wants) (money : ℤ) (before : List Share) (x : Asked) (s : Share) : Type 0 where
  pub category : s.category ≡ x.category
  pub template : s.template ≡ x.template
  -- it wants what is wanted where its category got what these gave it
  pub want : s.want ≡ wants x.category x.template (got x.category before)
  -- at priority 0 it is given that, else no more than is left, if anything is
  pub first : x.template.priority ≡ 0 → s.given ≡ s.want
  pub later : x.template.priority ≢ 0 → s.given ≡ int_min s.want (int_max (pos 0) (money -ℤ all_given before))

-- there is a share for each template, at its place in the order, and no other
pub record AreInTurn (wants : Wants) (money : ℤ) (xs : List Asked) (ss : List Share) : Type 0 where
  pub long : length ss ≡ length xs
  pub each : (front back : List Asked) (x : Asked) → in_order xs ≡ front ++ x ∷ back
      → (before : List Share) × (after : List Share) × (s : Share) × (ss ≡ before ++ s ∷ after) × (length before ≡ length front) × IsShareOf wants money before x s

-- the shares of a month YYYYMM: of the templates of the book, by what they want in the month, and of the money that it has to share out
abbrev pub SharesAreInTurn : Type 0
SharesAreInTurn = (rows : Rows) (month : ℕ)
    → AreInTurn (want_of (budget_of rows) (month_number month)) (shared_money (budget_of rows) (month_number month) (templates rows)) (templates rows) (shares_in rows month)
