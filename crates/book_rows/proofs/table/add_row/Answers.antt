use Rattle.std.proofs.Common.{◌≡◌, ap, sym, ◌∙◌, subst}
use Rattle.std.specs.FinMap as map
use Rattle.finite_sums.specs.Maps.{map_of}
use Rattle.finite_sums.proofs.Texts.{map_of-insert}
use Rattle.field_values.specs.Names.{IsName}
use Rattle.book_rows.specs.Tables.{AreNamed, blank_row}
use Rattle.book_rows.proofs.RowNames.{named-insert}
use Rattle.book_rows.proofs.table.add_row.Goals as goal

pub returns-clause-row : goal.returns-clause-row
returns-clause-row g c =
    let t = g.R.Row.table in
    let rows = c.args.rows.now in
    let id = c.args.id.now in
    let row : c.set.new.self ≡ t.set c.args.column c.args.value.now (blank_row t id) =
    c.in_ok-set.ensures ∙ ap (t.set c.args.column c.args.value.now) (c.blank-row.ensures ∙ ap (blank_row t) c.in_ok-copy.ensures) in
    map_of-insert rows c.insert.new.self c.in_ok-copy-2.field-0 c.set.new.self c.in_ok-insert.ensures.updates.0
    ∙ ap (λ k. map.insert (map_of rows) k c.set.new.self) c.in_ok-copy-2.ensures
    ∙ ap (map.insert (map_of rows) id) row

pub returns-clause-named : goal.returns-clause-named
returns-clause-named g c = λ name named.
    let rows = c.args.rows.now in
    let id : c.in_ok-copy-2.field-0 ≡ c.args.id.now = c.in_ok-copy-2.ensures in
    let put = map_of-insert rows c.insert.new.self c.in_ok-copy-2.field-0 c.set.new.self c.in_ok-insert.ensures.updates.0 in
    subst AreNamed (sym put) (named-insert (map_of rows) c.in_ok-copy-2.field-0 c.set.new.self (subst IsName (sym id) name) named)
