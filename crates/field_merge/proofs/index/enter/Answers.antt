use Rattle.std.proofs.Common.{◌∙◌, ap}
use Rattle.std.specs.Map.{values_of}
use Rattle.std.specs.BTreeMap.{insert_entry}
use Rattle.hybrid_clock.specs.Order.{stamp_cmp}
use Rattle.field_merge.specs.declared.message.Message.{Message}
use Rattle.field_merge.proofs.Stored.{entered_right, entered_wins, entries-insert, values-insert}
use Rattle.field_merge.proofs.index.enter.Goals as goal

pub returns-clause-stands : goal.returns-clause-stands
returns-clause-stands c =
    entries-insert c.args.message c.args.messages.now.entries c.store.new.messages.entries c.requires.stands c.requires.valid c.requires.fresh
    (c.in_ok-store.ensures.stored ∙ ap (λ (n : Message). insert_entry stamp_cmp c.args.messages.now.entries n.stamp n) c.in_ok-entered.ensures.0)

pub returns-clause-right : goal.returns-clause-right
returns-clause-right c =
    entered_right c.args.message c.args.messages.now.entries c.store.new.messages.entries c.args.index.now.entries c.note.new.index.entries c.in_ok-entered.is_latest
    c.requires.stands c.requires.fresh
    (c.in_ok-store.ensures.stored ∙ ap (λ (n : Message). insert_entry stamp_cmp c.args.messages.now.entries n.stamp n) c.in_ok-entered.ensures.0)
    c.requires.right c.in_ok-entered.ensures.1

pub returns-clause-placed : goal.returns-clause-placed
returns-clause-placed c =
    ap values_of (c.in_ok-store.ensures.stored ∙ ap (λ (n : Message). insert_entry stamp_cmp c.args.messages.now.entries n.stamp n) c.in_ok-entered.ensures.0)
    ∙ values-insert c.args.message c.args.messages.now.entries c.requires.stands.own c.requires.fresh

pub returns-clause-wins : goal.returns-clause-wins
returns-clause-wins c =
    entered_wins c.args.message c.args.messages.now.entries c.store.new.messages.entries c.args.index.now.entries c.note.new.index.entries c.in_ok-entered.is_latest
    c.requires.stands c.requires.fresh
    (c.in_ok-store.ensures.stored ∙ ap (λ (n : Message). insert_entry stamp_cmp c.args.messages.now.entries n.stamp n) c.in_ok-entered.ensures.0)
    c.requires.right c.in_ok-entered.ensures.1
