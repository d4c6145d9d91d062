use Rattle.std.proofs.Common.{◌≡◌, ◌∙◌, false, inl, inr, refl, sym, subst, arith}
use Rattle.sqlite.specs.Held.{state}
use Rattle.sqlite_catalog.specs.Listing.{IsSound}
use Rattle.sqlite_trees.specs.View.{IsClean}
use Rattle.sqlite_keeper.proofs.Relisted.{relisted, unlisted}
use Rattle.sqlite_keeper.proofs.OrderLemmas.{fresh, rows_rise, open_of, lost, unread, told_unread, quiet_on}
use Rattle.sqlite_keeper.proofs.order.in_order.Goals as goal

pub over-requires : goal.over-requires
over-requires g c clean =
    let store = c.into_store-store.result in
    fresh (g.S.Store.view c.args.connection.store) (g.S.Store.view store) (g.met.S.Store.broken_if_shut store) c.into_store-store.ensures.undone (c.into_store-store.ensures.numbered clean) (sym (c.if-is_broken.ensures clean)) clean

pub returns-in-Ok-clause-ordered : goal.returns-in-Ok-clause-ordered
returns-in-Ok-clause-ordered g c clean is_open =
    let store = c.into_store-store.result in
    let early : IsClean (g.S.Store.view store) = omega (arith, c.in-Ok.ensures.clean) in
    let sound : (g.S.Store.view store).is_broken ≡ false = sym (c.if-is_broken.ensures early) in
    rows_rise (g.S.Store.view store) (state g.S.Store c.in-Ok.again).now.trees c.in-Ok.again.schema (c.in-Ok.ensures.trees clean) (g.met.S.Alter.listed store sound) (g.met.S.Store.ordered store sound)
    (c.schema-schema.ensures.live is_open).0.lists.listed

pub returns-in-Ok-clause-rows : goal.returns-in-Ok-clause-rows
returns-in-Ok-clause-rows g c clean =
    let store = c.into_store-store.result in
    let early : IsClean (g.S.Store.view store) = omega (arith, c.in-Ok.ensures.clean) in
    let sound : (g.S.Store.view store).is_broken ≡ false = sym (c.if-is_broken.ensures early) in
    let is_open = open_of (g.S.Store.view store) (g.met.S.Store.broken_if_shut store) sound in
    ((c.in-Ok.ensures.opens clean).0.is_open, c.in-Ok.ensures.trees clean ∙ (c.into_store-store.ensures.undone.undone is_open).0)

pub returns-in-Ok-clause-sound : goal.returns-in-Ok-clause-sound
returns-in-Ok-clause-sound g c clean =
    let store = c.into_store-store.result in
    let early : IsClean (g.S.Store.view store) = omega (arith, c.in-Ok.ensures.clean) in
    let sound : (g.S.Store.view store).is_broken ≡ false = sym (c.if-is_broken.ensures early) in
    let is_open = open_of (g.S.Store.view store) (g.met.S.Store.broken_if_shut store) sound in
    let rows = c.in-Ok.ensures.trees clean ∙ (c.into_store-store.ensures.undone.undone is_open).0 in
    subst (IsSound c.in-Ok.again.schema) rows (c.schema-schema.ensures.live (c.in-Ok.ensures.opens clean).0.is_open).0

pub returns-in-Ok-clause-listed : goal.returns-in-Ok-clause-listed
returns-in-Ok-clause-listed g c clean schema simple listed =
    let store = c.into_store-store.result in
    let early : IsClean (g.S.Store.view store) = omega (arith, c.in-Ok.ensures.clean) in
    let sound : (g.S.Store.view store).is_broken ≡ false = sym (c.if-is_broken.ensures early) in
    let is_open = open_of (g.S.Store.view store) (g.met.S.Store.broken_if_shut store) sound in
    let rows = c.in-Ok.ensures.trees clean ∙ (c.into_store-store.ensures.undone.undone is_open).0 in
    let live = subst (IsSound c.in-Ok.again.schema) rows (c.schema-schema.ensures.live (c.in-Ok.ensures.opens clean).0.is_open).0 in
    relisted _ schema c.in-Ok.again.schema simple listed.lists.listed live.lists.listed

pub returns-in-Ok-clause-unlisted : goal.returns-in-Ok-clause-unlisted
returns-in-Ok-clause-unlisted g c clean listed =
    let store = c.into_store-store.result in
    let early : IsClean (g.S.Store.view store) = omega (arith, c.in-Ok.ensures.clean) in
    let sound : (g.S.Store.view store).is_broken ≡ false = sym (c.if-is_broken.ensures early) in
    let is_open = open_of (g.S.Store.view store) (g.met.S.Store.broken_if_shut store) sound in
    let rows = c.in-Ok.ensures.trees clean ∙ (c.into_store-store.ensures.undone.undone is_open).0 in
    let live = subst (IsSound c.in-Ok.again.schema) rows (c.schema-schema.ensures.live (c.in-Ok.ensures.opens clean).0.is_open).0 in
    unlisted _ c.in-Ok.again.schema listed.lists.listed live.lists.listed

pub returns-in-Ok-clause-opened : goal.returns-in-Ok-clause-opened
returns-in-Ok-clause-opened g c clean =
    let store = c.into_store-store.result in
    let early : IsClean (g.S.Store.view store) = omega (arith, c.in-Ok.ensures.clean) in
    let sound : (g.S.Store.view store).is_broken ≡ false = sym (c.if-is_broken.ensures early) in
    let is_open = open_of (g.S.Store.view store) (g.met.S.Store.broken_if_shut store) sound in
    (c.into_store-store.ensures.undone.kept early).was_open is_open

pub returns-then-is_broken-clause-back : goal.returns-then-is_broken-clause-back
returns-then-is_broken-clause-back g c clean is_open = (c.into_store-store.ensures.undone.undone is_open).0

pub returns-then-is_broken-clause-cause : goal.returns-then-is_broken-clause-cause
returns-then-is_broken-clause-cause g c clean =
    let store = c.into_store-store.result in
    inr (lost (state g.S.Store c.args.connection).is_open (g.S.Store.view store).is_open (g.S.Store.view store).is_broken
    (c.into_store-store.ensures.quiet.closes clean) (λ is_open. (c.into_store-store.ensures.undone.undone is_open).1) (sym (c.if-is_broken.ensures clean)))

pub returns-then-is_broken-clause-told : goal.returns-then-is_broken-clause-told
returns-then-is_broken-clause-told g c clean = inr (inl (refl, sym (c.if-is_broken.ensures clean)))

pub returns-in-Err-clause-quiet : goal.returns-in-Err-clause-quiet
returns-in-Err-clause-quiet g c = quiet_on g.S.Store c.args.connection.store c.into_store-store.result c.in-Err.store c.into_store-store.ensures.quiet c.in-Err.ensures.unharmed

pub returns-in-Err-clause-back : goal.returns-in-Err-clause-back
returns-in-Err-clause-back g c clean is_open =
    let store = c.into_store-store.result in
    let early : IsClean (g.S.Store.view store) = omega (arith, c.in-Err.ensures.unharmed.clean, clean) in
    let sound : (g.S.Store.view store).is_broken ≡ false = sym (c.if-is_broken.ensures early) in
    let was_open = open_of (g.S.Store.view store) (g.met.S.Store.broken_if_shut store) sound in
    c.in-Err.ensures.rows clean is_open ∙ (c.into_store-store.ensures.undone.undone was_open).0

pub returns-in-Err-clause-cause : goal.returns-in-Err-clause-cause
returns-in-Err-clause-cause g c clean =
    let old = c.args.connection.store in
    let store = c.into_store-store.result in
    let left = c.in-Err.store in
    let early : IsClean (g.S.Store.view store) = omega (arith, c.in-Err.ensures.unharmed.clean, clean) in
    let sound : (g.S.Store.view store).is_broken ≡ false = sym (c.if-is_broken.ensures early) in
    let is_open = open_of (g.S.Store.view store) (g.met.S.Store.broken_if_shut store) sound in
    let same = (fresh (g.S.Store.view old) (g.S.Store.view store) (g.met.S.Store.broken_if_shut store) c.into_store-store.ensures.undone (c.into_store-store.ensures.numbered early) sound early).clean in
    let listed = c.into_store-store.ensures.sound early (g.S.Store.view store).committed (g.met.S.Store.stays store is_open) in
    elim (unread (g.S.Store.faults old) (g.S.Store.faults store) (g.S.Store.faults left) (g.S.Store.view store).trees c.in-Err.error (listed.0, subst (IsSound listed.0) (sym same) listed.1) c.into_store-store.ensures.quiet.counts (c.in-Err.ensures.err clean)) [
      | inl memory ↦ inl memory
      | inr more ↦ inr (inr more)
    ]

pub returns-in-Err-clause-told : goal.returns-in-Err-clause-told
returns-in-Err-clause-told g c clean =
    let old = c.args.connection.store in
    let store = c.into_store-store.result in
    let left = c.in-Err.store in
    let early : IsClean (g.S.Store.view store) = omega (arith, c.in-Err.ensures.unharmed.clean, clean) in
    let sound : (g.S.Store.view store).is_broken ≡ false = sym (c.if-is_broken.ensures early) in
    let is_open = open_of (g.S.Store.view store) (g.met.S.Store.broken_if_shut store) sound in
    let same = (fresh (g.S.Store.view old) (g.S.Store.view store) (g.met.S.Store.broken_if_shut store) c.into_store-store.ensures.undone (c.into_store-store.ensures.numbered early) sound early).clean in
    let listed = c.into_store-store.ensures.sound early (g.S.Store.view store).committed (g.met.S.Store.stays store is_open) in
    told_unread g.S.Store left (g.S.Store.view store).trees c.in-Err.error (listed.0, subst (IsSound listed.0) (sym same) listed.1) (c.in-Err.ensures.err clean) c.in-Err.ensures.told
