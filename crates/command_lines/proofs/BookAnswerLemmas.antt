-- What the answers about the books tell.
use Rattle.std.proofs.Common.{◌≡◌, ◌≢◌, ℕ, Bool, true, false, cond, List, [], ◌∷◌, ◌++◌, map, drop, length, Option, None, Some, refl, ap, sym, subst, ◌∙◌, append_assoc}
use Rattle.std.specs.Prelude.{ℤ, nat_eq, ◌&&◌, not}
use Rattle.std.specs.List.{flat_map, starts_with}
use Rattle.std.specs.Fmt.{signed_decimal}
use Rattle.field_merge.specs.declared.message.Message.{Message}
use Rattle.field_merge.specs.Lines.{ended}
use Rattle.book_rows.specs.declared.rows.Rows.{Rows}
use Rattle.book_rows.specs.Balances.{balance_of}
use Rattle.envelope_cells.specs.declared.name.Cell.{Cell as ACell}
use Rattle.envelope_cells.specs.declared.name.CellName.{CellName}
use Rattle.envelope_cells.specs.declared.name.CellKind.{CellKind}
use Rattle.envelope_cells.specs.declared.name.CellKind.TheVariants.{TotalIncome, FromLastMonth, AvailableFunds, LastMonthOverspent, TotalBudgeted, Buffered, ToBudget, TotalSpent, TotalLeftover, GroupSum, GroupBudget, GroupLeftover, Sum, Budget as OfBudget, Carryover, Leftover}
use Rattle.envelope_cells.specs.BudgetOf.{budget_of}
use Rattle.envelope_cells.specs.CellOf.{cell_of, is_of_category}
use Rattle.envelope_cells.specs.SheetOf.{sheet_of}
use Rattle.envelope_cells.specs.Text.{kind_text, cell_line, sheet_text}
use Rattle.goal_templates.specs.Goals.{shares_in}
use Rattle.goal_templates.specs.Notes.{bad_lines}
use Rattle.tracking_budget.specs.Names.{track_named, track_line}
use Rattle.tracking_budget.specs.SheetOf.{track_cells}
use Rattle.tracking_budget.specs.Tracked.{tracked_of}
use Rattle.device_core.specs.Books.{rows_of}
use Rattle.command_lines.specs.declared.reply.Reply.TheVariants.{Done}
use Rattle.command_lines.specs.Answers.{MayHaveId, name_text, track_text, BooksAreTold}
use Rattle.split_transfer.specs.Broken.{broken}
use Rattle.book_rows.specs.Kinds.{is_day}
use Rattle.schedules.specs.Status.{status_in}
use Rattle.command_lines.specs.BookAnswers.{told_cell, cell_or_faulty, cell_text, lines_of, told_status, share_text, bad_text, track_or_faulty}
use Rattle.command_lines.proofs.StatusLemmas.{standing}
use Rattle.command_lines.proofs.TextLines.{broken_lines}
use Rattle.command_lines.proofs.TrackReplies.{named_track, none_tracked}
use Rattle.command_lines.specs.CellNames.{is_of_group, is_of_month, is_empty, id_behind, this_or, named_by, all_kinds, cell_named}
use Rattle.command_lines.specs.Refusals.{no_such_account, no_such_group, no_such_category, no_such_schedule, bad_date, bad_month}
use Rattle.command_lines.specs.Register.{register_lines, register_of}
use Rattle.command_lines.specs.Replies.{faulty}
use Rattle.command_lines.proofs.Prefixes.{starts_written}
use Rattle.command_lines.proofs.RegisterLemmas.{is_register}

-- ---- names of cells

-- the name of a cell names it
named_back : (month : ℕ) (kind : CellKind) (id : List ℕ) → MayHaveId kind id → cell_named month (kind_text kind ++ id) ≡ Some (record { month = month; kind = kind; id = id })
named_back month TotalIncome [] h = refl
named_back month TotalIncome (b ∷ bs) h = absurd (let none : b ∷ bs ≡ [] = h refl in cc)
named_back month FromLastMonth [] h = refl
named_back month FromLastMonth (b ∷ bs) h = absurd (let none : b ∷ bs ≡ [] = h refl in cc)
named_back month AvailableFunds [] h = refl
named_back month AvailableFunds (b ∷ bs) h = absurd (let none : b ∷ bs ≡ [] = h refl in cc)
named_back month LastMonthOverspent [] h = refl
named_back month LastMonthOverspent (b ∷ bs) h = absurd (let none : b ∷ bs ≡ [] = h refl in cc)
named_back month TotalBudgeted [] h = refl
named_back month TotalBudgeted (b ∷ bs) h = absurd (let none : b ∷ bs ≡ [] = h refl in cc)
named_back month Buffered [] h = refl
named_back month Buffered (b ∷ bs) h = absurd (let none : b ∷ bs ≡ [] = h refl in cc)
named_back month ToBudget [] h = refl
named_back month ToBudget (b ∷ bs) h = absurd (let none : b ∷ bs ≡ [] = h refl in cc)
named_back month TotalSpent [] h = refl
named_back month TotalSpent (b ∷ bs) h = absurd (let none : b ∷ bs ≡ [] = h refl in cc)
named_back month TotalLeftover [] h = refl
named_back month TotalLeftover (b ∷ bs) h = absurd (let none : b ∷ bs ≡ [] = h refl in cc)
named_back month GroupSum id h = refl
named_back month GroupBudget id h = refl
named_back month GroupLeftover id h = refl
named_back month Sum id h = refl
named_back month OfBudget id h = refl
named_back month Carryover id h = refl
named_back month Leftover id h = refl

record IsNameOf (name : CellName) (text : List ℕ) : Type 0 where
  id : MayHaveId name.kind name.id
  same : name_text name ≡ text

empty_is : (id : List ℕ) → is_empty id ≡ true → id ≡ []
empty_is [] h = refl
empty_is (b ∷ bs) h = absurd (cc)

behind_written : (month : ℕ) (kind : CellKind) (text id : List ℕ) → id_behind kind text ≡ Some id → IsNameOf (record { month = month; kind = kind; id = id }) text
behind_written month kind text id e = by (starts_with nat_eq text (kind_text kind)) refl e
  where
    rest : List ℕ
    rest = drop (length (kind_text kind)) text

    either : (whole empty : Bool) → is_of_month kind ≡ whole → is_empty rest ≡ empty → starts_with nat_eq text (kind_text kind) ≡ true → cond (whole && not empty) None (Some rest) ≡ Some id
        → IsNameOf (record { month = month; kind = kind; id = id }) text
    either true false p q s found = absurd (cc)
    either true true p q s found =
        let same : rest ≡ id = cc in
        record { id = λ _. sym same ∙ empty_is rest q; same = ap (λ t. kind_text kind ++ t) (sym same) ∙ starts_written (kind_text kind) text s }
    either false empty p q s found =
        let same : rest ≡ id = cc in
        record { id = λ is. absurd (let clash : true ≡ false = sym is ∙ p in cc); same = ap (λ t. kind_text kind ++ t) (sym same) ∙ starts_written (kind_text kind) text s }

    by : (b : Bool) → starts_with nat_eq text (kind_text kind) ≡ b → cond b (cond (is_of_month kind && not (is_empty rest)) None (Some rest)) None ≡ Some id
        → IsNameOf (record { month = month; kind = kind; id = id }) text
    by true s found = either (is_of_month kind) (is_empty rest) refl refl s found
    by false s found = absurd (cc)

-- what a text names has the text as its name
named_written : (kinds : List CellKind) (month : ℕ) (text : List ℕ) (name : CellName) → named_by kinds month text ≡ Some name → IsNameOf name text
named_written [] month text name e = absurd (cc)
named_written (kind ∷ kinds) month text name e = by (id_behind kind text) refl (named_written kinds month text name) e
  where
    by : (o : Option (List ℕ)) → id_behind kind text ≡ o → (named_by kinds month text ≡ Some name → IsNameOf name text) → this_or month kind o (named_by kinds month text) ≡ Some name → IsNameOf name text
    by None p rest found = rest found
    by (Some id) p rest found =
        let same : record { month = month; kind = kind; id = id } ≡ name = cc in
        subst (λ (n : CellName). IsNameOf n text) same (behind_written month kind text id p)

-- ---- the answers

module _ (rows : Rows) where
  named_told : (name : CellName) (o : Option ℤ) → MayHaveId name.kind name.id → cell_of (budget_of rows) name ≡ o → cell_or_faulty rows (cell_named name.month (name_text name)) ≡ told_cell name o
  named_told name o h e = ap (cell_or_faulty rows) (named_back name.month name.kind name.id h) ∙ ap (told_cell name) e

  none_named : (month : ℕ) (text : List ℕ) → ((name : CellName) → MayHaveId name.kind name.id → name_text name ≢ text) → cell_or_faulty rows (cell_named month text) ≡ faulty 2
  none_named month text h = by (cell_named month text) refl
    where
      by : (o : Option CellName) → cell_named month text ≡ o → cell_or_faulty rows o ≡ faulty 2
      by None e = refl
      by (Some name) e = let is = named_written all_kinds month text name e in absurd (h name is.id is.same)

lines_of_sheet : (cells : List ACell) → flat_map ended (map cell_text cells) ≡ sheet_text cells
lines_of_sheet [] = refl
lines_of_sheet (c ∷ cs) = ap (λ t. t ++ flat_map ended (map cell_text cs)) (one c) ∙ ap (λ t. cell_line c ++ t) (lines_of_sheet cs)
  where
    one : (c : ACell) → ended (cell_text c) ≡ cell_line c
    one c = ap (λ t. t ++ 10 ∷ []) (sym (append_assoc (kind_text c.name.kind ++ c.name.id) (32 ∷ []) (signed_decimal c.value)))

not_of_group : (kind : CellKind) → is_of_category kind ≡ true → is_of_group kind ≡ false
not_of_group TotalIncome h = refl
not_of_group FromLastMonth h = refl
not_of_group AvailableFunds h = refl
not_of_group LastMonthOverspent h = refl
not_of_group TotalBudgeted h = refl
not_of_group Buffered h = refl
not_of_group ToBudget h = refl
not_of_group TotalSpent h = refl
not_of_group TotalLeftover h = refl
not_of_group GroupSum h = absurd (cc)
not_of_group GroupBudget h = absurd (cc)
not_of_group GroupLeftover h = absurd (cc)
not_of_group Sum h = refl
not_of_group OfBudget h = refl
not_of_group Carryover h = refl
not_of_group Leftover h = refl

-- a kind of groups or of categories is none of the whole month
group_id : (kind : CellKind) (id : List ℕ) → is_of_group kind ≡ true → MayHaveId kind id
group_id TotalIncome id h = absurd (cc)
group_id FromLastMonth id h = absurd (cc)
group_id AvailableFunds id h = absurd (cc)
group_id LastMonthOverspent id h = absurd (cc)
group_id TotalBudgeted id h = absurd (cc)
group_id Buffered id h = absurd (cc)
group_id ToBudget id h = absurd (cc)
group_id TotalSpent id h = absurd (cc)
group_id TotalLeftover id h = absurd (cc)
group_id GroupSum id h = λ no. absurd (cc)
group_id GroupBudget id h = λ no. absurd (cc)
group_id GroupLeftover id h = λ no. absurd (cc)
group_id Sum id h = absurd (cc)
group_id OfBudget id h = absurd (cc)
group_id Carryover id h = absurd (cc)
group_id Leftover id h = absurd (cc)

category_id : (kind : CellKind) (id : List ℕ) → is_of_category kind ≡ true → MayHaveId kind id
category_id TotalIncome id h = absurd (cc)
category_id FromLastMonth id h = absurd (cc)
category_id AvailableFunds id h = absurd (cc)
category_id LastMonthOverspent id h = absurd (cc)
category_id TotalBudgeted id h = absurd (cc)
category_id Buffered id h = absurd (cc)
category_id ToBudget id h = absurd (cc)
category_id TotalSpent id h = absurd (cc)
category_id TotalLeftover id h = absurd (cc)
category_id GroupSum id h = absurd (cc)
category_id GroupBudget id h = absurd (cc)
category_id GroupLeftover id h = absurd (cc)
category_id Sum id h = λ no. absurd (cc)
category_id OfBudget id h = λ no. absurd (cc)
category_id Carryover id h = λ no. absurd (cc)
category_id Leftover id h = λ no. absurd (cc)

pub books_told : (ms : List Message) → BooksAreTold ms
books_told ms =
    let rows : Rows = rows_of ms in
    record {
      balance = λ account live. ap (λ b. cond b (Done (signed_decimal (balance_of rows account) ∷ [])) (no_such_account account)) live;
      register = λ account live. (register_of rows account, ap (λ b. cond b (Done (register_lines rows account)) (no_such_account account)) live, is_register rows account);
      no_balance = λ account live. ap (λ b. cond b (Done (signed_decimal (balance_of rows account) ∷ [])) (no_such_account account)) live;
      no_register = λ account live. ap (λ b. cond b (Done (register_lines rows account)) (no_such_account account)) live;
      cell = λ name z month id told.
          ap (λ b. cond b (cell_or_faulty rows (cell_named name.month (name_text name))) (bad_month name.month)) month
          ∙ named_told rows name (Some z) id told;
      no_group = λ name month group told.
          ap (λ b. cond b (cell_or_faulty rows (cell_named name.month (name_text name))) (bad_month name.month)) month
          ∙ named_told rows name None (group_id name.kind name.id group) told
          ∙ ap (λ b. cond b (no_such_group name.id) (no_such_category name.id)) group;
      no_category = λ name month category told.
          ap (λ b. cond b (cell_or_faulty rows (cell_named name.month (name_text name))) (bad_month name.month)) month
          ∙ named_told rows name None (category_id name.kind name.id category) told
          ∙ ap (λ b. cond b (no_such_group name.id) (no_such_category name.id)) (not_of_group name.kind category);
      no_kind = λ month text is none.
          ap (λ b. cond b (cell_or_faulty rows (cell_named month text)) (bad_month month)) is
          ∙ none_named rows month text none;
      sheet = λ month is.
          let cells : List ACell = sheet_of (budget_of rows) month in
          (map cell_text cells, ap (λ b. cond b (Done (map cell_text cells)) (bad_month month)) is, lines_of_sheet cells);
      broken = (lines_of (broken rows), refl, broken_lines rows);
      status = λ id day live is.
          let s = standing rows id day live is in (
            s.0,
            s.1,
            ap (λ b. cond b (cond (is_day day) (told_status id (status_in rows id day)) (bad_date day)) (no_such_schedule id)) live
                ∙ ap (λ b. cond b (told_status id (status_in rows id day)) (bad_date day)) is
                ∙ ap (told_status id) s.1,
          );
      no_schedule = λ id day live. ap (λ b. cond b (cond (is_day day) (told_status id (status_in rows id day)) (bad_date day)) (no_such_schedule id)) live;
      no_day = λ id day live is.
          ap (λ b. cond b (cond (is_day day) (told_status id (status_in rows id day)) (bad_date day)) (no_such_schedule id)) live
          ∙ ap (λ b. cond b (told_status id (status_in rows id day)) (bad_date day)) is;
      goals = λ month is. ap (λ b. cond b (Done (map share_text (shares_in rows month) ++ map bad_text (bad_lines rows))) (bad_month month)) is;
      track_cell = λ name z month id told.
          ap (λ b. cond b (track_or_faulty rows (track_named name.month (track_text name))) (bad_month name.month)) month
          ∙ named_track rows name (Some z) id told;
      no_track = λ name month id told.
          ap (λ b. cond b (track_or_faulty rows (track_named name.month (track_text name))) (bad_month name.month)) month
          ∙ named_track rows name None id told;
      no_track_kind = λ month text is none.
          ap (λ b. cond b (track_or_faulty rows (track_named month text)) (bad_month month)) is
          ∙ none_tracked rows month text none;
      track_sheet = λ month is. ap (λ b. cond b (Done (map track_line (track_cells (tracked_of rows) month))) (bad_month month)) is;
      no_cell = λ month text is. ap (λ b. cond b (cell_or_faulty rows (cell_named month text)) (bad_month month)) is;
      no_sheet = λ month is. ap (λ b. cond b (Done (map cell_text (sheet_of (budget_of rows) month))) (bad_month month)) is;
      no_track_cell = λ month text is. ap (λ b. cond b (track_or_faulty rows (track_named month text)) (bad_month month)) is;
      no_track_sheet = λ month is. ap (λ b. cond b (Done (map track_line (track_cells (tracked_of rows) month))) (bad_month month)) is;
      no_goals = λ month is. ap (λ b. cond b (Done (map share_text (shares_in rows month) ++ map bad_text (bad_lines rows))) (bad_month month)) is;
    }
