use Rattle.std.proofs.Common.{◌≡◌, ℕ, ◌+◌, ◌≤◌, ◌∙◌, List, ap, sym, subst}
use Rattle.field_merge.specs.declared.message.Message.{Message}
use Rattle.field_merge.specs.Messages.{IsMessage, AreMessages}
use Rattle.book_rows.specs.declared.rows.Rows.{Rows}
use Rattle.book_rows.specs.Months.{window_of}
use Rattle.dirty_cells.specs.Bound.{bound}
use Rattle.dirty_cells.specs.Changes.{Change, AreDifferent, AreValues, with_fields as with_changes}
use Rattle.dirty_cells.specs.Stands.{StandsFor, with_window}
use Rattle.kept_messages.proofs.Members.{all_join}
use Rattle.device_core.specs.Books.{rows_of}
use Rattle.device_core.specs.Changes.{AreChangesOf}
use Rattle.device_core.specs.Covering.{IsWithin, more_months}
use Rattle.device_core.proofs.Books.{rows_changed}
use Rattle.device_core.proofs.Changes.{changes_valid}
use Rattle.device_core.proofs.known.join_all.Goals as goal

pub apply-requires-clause-values : goal.apply-requires-clause-values
apply-requires-clause-values g c =
    subst AreValues (sym c.as_slice.ensures.value)
    (changes_valid c.args.known.now.log.messages c.join_changes.new.log.messages
    (subst AreMessages (sym c.in_ok-changes.ensures.joined) (all_join IsMessage c.args.known.now.log.messages c.args.messages.now c.requires.known.valid c.requires.valid)) c.in_ok-changes.changes.items c.in_ok-changes.ensures.changed.valued)

pub apply-requires-clause-stands : goal.apply-requires-clause-stands
apply-requires-clause-stands g c = subst (StandsFor c.args.grid.now) (sym c.requires.known.book_right) c.requires.stands

-- what holds once the changes are made: of the messages before and after, the changes, and the rows before and after
module _ (old new : List Message) (listed changes : List Change) (before after : Rows) (own : changes ≡ listed) (are : AreChangesOf old new listed) (was : before ≡ rows_of old) (now : after ≡ with_changes before changes) where
  changes_told : AreChangesOf old new changes
  changes_told = subst (AreChangesOf old new) (sym own) are

  rows_told : after ≡ rows_of new
  rows_told = now ∙ ap (λ (rows : Rows). with_changes rows changes) was ∙ rows_changed old new changes changes_told

  is_within : (from to : ℕ × ℕ) (steps done : ℕ) → (AreDifferent changes → done ≤ steps + bound from.0 from.1 before after changes (more_months from to)) → IsWithin old new from to steps done
  is_within from to steps done cost = record {
    changes = changes;
    are = changes_told;
    within = subst (λ (rows : Rows). done ≤ steps + bound from.0 from.1 rows (rows_of new) changes (more_months from to)) was
        (subst (λ (rows : Rows). done ≤ steps + bound from.0 from.1 before rows changes (more_months from to)) rows_told (cost changes_told.once));
  }

pub returns-clause-known : goal.returns-clause-known
returns-clause-known g c =
    let told = c.in_ok-changes.ensures in record {
      live = told.live;
      valid = subst AreMessages (sym told.joined) (all_join IsMessage c.args.known.now.log.messages c.args.messages.now c.requires.known.valid c.requires.valid);
      trie_live = told.trie_live;
      trie_right = told.right;
      book_live = c.in_ok-apply.ensures.live;
      book_right = rows_told c.args.known.now.log.messages c.join_changes.new.log.messages c.in_ok-changes.changes.items c.as_slice.result.now c.args.known.now.book.rows c.apply.new.book.rows
          c.as_slice.ensures.value told.changed c.requires.known.book_right c.in_ok-apply.ensures.book;
    }

pub returns-clause-stands : goal.returns-clause-stands
returns-clause-stands g c =
    subst (StandsFor c.apply.new.self)
    (rows_told c.args.known.now.log.messages c.join_changes.new.log.messages c.in_ok-changes.changes.items c.as_slice.result.now c.args.known.now.book.rows c.apply.new.book.rows
    c.as_slice.ensures.value c.in_ok-changes.ensures.changed c.requires.known.book_right c.in_ok-apply.ensures.book)
    c.in_ok-apply.ensures.stands

pub returns-clause-range : goal.returns-clause-range
returns-clause-range g c =
    c.in_ok-apply.ensures.range
    ∙ ap (λ (rows : Rows). with_window (c.args.grid.now.first, c.args.grid.now.end) (window_of rows))
    (rows_told c.args.known.now.log.messages c.join_changes.new.log.messages c.in_ok-changes.changes.items c.as_slice.result.now c.args.known.now.book.rows c.apply.new.book.rows
    c.as_slice.ensures.value c.in_ok-changes.ensures.changed c.requires.known.book_right c.in_ok-apply.ensures.book)

pub returns-clause-cost : goal.returns-clause-cost
returns-clause-cost g c =
    is_within c.args.known.now.log.messages c.join_changes.new.log.messages c.in_ok-changes.changes.items c.as_slice.result.now c.args.known.now.book.rows c.apply.new.book.rows
    c.as_slice.ensures.value c.in_ok-changes.ensures.changed c.requires.known.book_right c.in_ok-apply.ensures.book
    (c.args.grid.now.first, c.args.grid.now.end) (c.apply.new.self.first, c.apply.new.self.end) c.args.steps.now c.apply.new.steps c.in_ok-apply.ensures.cost
