use Rattle.std.proofs.Common.{◌≡◌, None, Some, ap, sym, ◌∙◌, subst}
use Rattle.std.specs.FinMap as map
use Rattle.finite_sums.specs.Maps.{map_of}
use Rattle.finite_sums.proofs.Texts.{map_of-insert}
use Rattle.field_values.specs.Names.{IsName}
use Rattle.book_rows.specs.Tables.{AreNamed, blank_row}
use Rattle.book_rows.specs.Rules.{tx_table}
use Rattle.book_rows.specs.Book.{keys_of}
use Rattle.book_rows.proofs.RowNames.{named-insert}
use Rattle.book_rows.proofs.txs.add_keyed.Goals as goal

pub returns-clause-row : goal.returns-clause-row
returns-clause-row c =
    let rows = c.args.rows.now in
    let id = c.args.id.now in
    let row : c.set_keyed.new.row ≡ tx_table.set c.args.column c.args.value.now (blank_row tx_table id) =
    c.in_ok-keys.ensures.row ∙ ap (tx_table.set c.args.column c.args.value.now) (c.blank-row.ensures ∙ ap (blank_row tx_table) c.in_ok-copy.ensures) in
    map_of-insert rows c.insert.new.self c.in_ok-copy-2.field-0 c.set_keyed.new.row c.in_ok-insert.ensures.updates.0
    ∙ ap (λ k. map.insert (map_of rows) k c.set_keyed.new.row) c.in_ok-copy-2.ensures
    ∙ ap (map.insert (map_of rows) id) row

pub returns-clause-keys : goal.returns-clause-keys
returns-clause-keys c =
    let blank : c.blank-row.result ≡ blank_row tx_table c.args.id.now = c.blank-row.ensures ∙ ap (blank_row tx_table) c.in_ok-copy.ensures in
    c.in_ok-keys.ensures.keys
    ∙ ap (λ row. (keys_of (Some row), keys_of (Some c.set_keyed.new.row))) blank
    ∙ ap (λ row. (keys_of None, keys_of (Some row))) (c.in_ok-keys.ensures.row ∙ ap (tx_table.set c.args.column c.args.value.now) blank)

pub returns-clause-named : goal.returns-clause-named
returns-clause-named c = λ name named.
    let rows = c.args.rows.now in
    let id : c.in_ok-copy-2.field-0 ≡ c.args.id.now = c.in_ok-copy-2.ensures in
    let put = map_of-insert rows c.insert.new.self c.in_ok-copy-2.field-0 c.set_keyed.new.row c.in_ok-insert.ensures.updates.0 in
    subst AreNamed (sym put) (named-insert (map_of rows) c.in_ok-copy-2.field-0 c.set_keyed.new.row (subst IsName (sym id) name) named)

pub returns-in_err-insert-clause-named : goal.returns-in_err-insert-clause-named
returns-in_err-insert-clause-named c = λ name named. subst AreNamed (ap map.from_entries (sym c.in_err-insert.ensures.err)) named
