use Rattle.std.proofs.Common.{◌≡◌, ◌<◌, ◌+◌, Bool, true, false, drop, length, map, refl, rules, arith, ap, sym, ◌∙◌}
use Rattle.std.specs.Prelude.{◌||◌, flat_map}
use Rattle.std.specs.BTreeSet as set
use Rattle.finite_sums.specs.Maps.{text_cmp, is_among}
use Rattle.envelope_cells.proofs.Lists.{from_here, none_left}
use Rattle.dirty_cells.specs.Marking.{categories_by, groups_by, month_by, earliest, is_order, set_in, is_rearranged}
use Rattle.dirty_cells.proofs.Gathered.{gather_step, gathered}
use Rattle.dirty_cells.proofs.marks.mark_changes.Goals as goal

or_moved : (a b c : Bool) → ((a || b) || c) ≡ (a || (b || c))
or_moved true b c = refl
or_moved false b c = refl

or_nothing : (a : Bool) → (a || false) ≡ a
or_nothing true = refl
or_nothing false = refl

pub loop-field-preserved : goal.loop-field-preserved
loop-field-preserved c =
    let changes = c.args.changes.now in
    let r = c.args.book.now.rows in
    let i = c.loop-field.field-index in
    let x = c.loop-field-item.result in
    let inside : i < length changes = search rules in
    let here = from_here changes i x inside c.loop-field-item.is in
    let old = c.loop-field.begun in
    let new = c.mark_change.new.begun in
    let done = c.in_ok-mark_change.ensures in
    record {
      categories = λ q. gather_step (categories_by r) changes i x (set.contains text_cmp old.categories) (set.contains text_cmp new.categories) q here (done.categories q) ∙ c.loop-field.invariant.categories q;
      groups = λ q. gather_step (groups_by r) changes i x (set.contains text_cmp old.groups) (set.contains text_cmp new.groups) q here (done.groups q) ∙ c.loop-field.invariant.groups q;
      first = ap (λ n. earliest n (map month_by (drop (i + 1) changes))) done.first ∙ ap (λ l. earliest old.first (map month_by l)) (sym here) ∙ c.loop-field.invariant.first;
      rearranged =
          ap (λ b. b || is_rearranged (drop (i + 1) changes)) done.rearranged
          ∙ or_moved old.rearranged (is_order (set_in x)) (is_rearranged (drop (i + 1) changes))
          ∙ ap (λ l. old.rearranged || is_rearranged l) (sym here) ∙ c.loop-field.invariant.rearranged;
    }

pub returns-clause-categories : goal.returns-clause-categories
returns-clause-categories c = λ q.
    let f = categories_by c.args.book.now.rows in
    gathered f c.args.changes.now c.loop-field.field-index (set.contains text_cmp c.loop-field.begun.categories) q (is_among text_cmp (flat_map f c.args.changes.now) q) (omega arith) (c.loop-field.invariant.categories q)

pub returns-clause-groups : goal.returns-clause-groups
returns-clause-groups c = λ q.
    let f = groups_by c.args.book.now.rows in
    gathered f c.args.changes.now c.loop-field.field-index (set.contains text_cmp c.loop-field.begun.groups) q (is_among text_cmp (flat_map f c.args.changes.now) q) (omega arith) (c.loop-field.invariant.groups q)

pub returns-clause-first : goal.returns-clause-first
returns-clause-first c = ap (λ l. earliest c.loop-field.begun.first (map month_by l)) (sym (none_left c.args.changes.now c.loop-field.field-index (omega arith))) ∙ c.loop-field.invariant.first

pub returns-clause-rearranged : goal.returns-clause-rearranged
returns-clause-rearranged c =
    let b = c.loop-field.begun.rearranged in
    sym (or_nothing b) ∙ ap (λ l. b || is_rearranged l) (sym (none_left c.args.changes.now c.loop-field.field-index (omega arith))) ∙ c.loop-field.invariant.rearranged
