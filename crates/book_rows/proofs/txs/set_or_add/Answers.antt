use Rattle.std.proofs.Common.{◌≡◌, Some, None, IsSome, refl, ap, sym, ◌∙◌, rules, subst}
use Rattle.std.specs.Prelude.{unwrap_or}
use Rattle.std.specs.FinMap as map
use Rattle.std.specs.BTreeMap as tree
use Rattle.finite_sums.specs.Maps.{text_cmp, map_of}
use Rattle.finite_sums.proofs.Texts.{get-map_of, map_of-insert}
use Rattle.book_rows.specs.Tables.{blank_row, AreNamed}
use Rattle.book_rows.specs.Rules.{tx_table}
use Rattle.book_rows.proofs.Pairs.{on_ok}
use Rattle.book_rows.proofs.Keyed.{keys_between}
use Rattle.book_rows.proofs.Pairs.{if_ok, if_both}
use Rattle.book_rows.proofs.RowNames.{named-insert}
use Rattle.book_rows.proofs.txs.set_or_add.Goals as goal

pub returns-clause-named : goal.returns-clause-named
returns-clause-named c = λ name named. c.add_keyed.ensures.named name (subst AreNamed (sym (ap map_of c.get_mut.follows.holds-at-none)) named)

pub returns-in-Some-clause-named : goal.returns-in-Some-clause-named
returns-in-Some-clause-named c = λ name named.
    let rows = c.args.rows.now in
    let id = c.args.id.now in
    let h = c.get_mut.follows.holds c.set_keyed.new.row in
    let there : tree.get text_cmp rows id ≡ Some c.in-Some.row.now = search rules in
    let updates = h.3 (subst IsSome (sym there) refl) in
    let put = map_of-insert rows (c.get_mut.follows.lender c.set_keyed.new.row) id c.set_keyed.new.row updates.0 in
    subst AreNamed (sym put) (named-insert (map_of rows) id c.set_keyed.new.row name named)

pub returns-clause-row : goal.returns-clause-row
returns-clause-row c =
    let rows = c.args.rows.now in
    let id = c.args.id.now in
    let absent : tree.get text_cmp rows id ≡ None = search rules in
    let old : unwrap_or (map.get (map_of rows) id) (blank_row tx_table id) ≡ blank_row tx_table id = ap (λ o. unwrap_or o (blank_row tx_table id)) (get-map_of rows id ∙ absent) in
    let same = ap map_of c.get_mut.follows.holds-at-none in
    on_ok c.add_keyed.result (λ e. e ∙ ap (λ m. map.insert m id (tx_table.set c.args.column c.args.value.now (blank_row tx_table id))) same
    ∙ ap (map.insert (map_of rows) id) (ap (tx_table.set c.args.column c.args.value.now) (sym old))) c.add_keyed.ensures.row

pub returns-in-Some-clause-row : goal.returns-in-Some-clause-row
returns-in-Some-clause-row c =
    let rows = c.args.rows.now in
    let id = c.args.id.now in
    let h = c.get_mut.follows.holds c.set_keyed.new.row in
    let there : tree.get text_cmp rows id ≡ Some c.in-Some.row.now = search rules in
    let updates = h.3 (subst IsSome (sym there) refl) in
    let old : unwrap_or (map.get (map_of rows) id) (blank_row tx_table id) ≡ c.in-Some.row.now = ap (λ o. unwrap_or o (blank_row tx_table id)) (get-map_of rows id ∙ there) in
    on_ok c.set_keyed.result (λ e. map_of-insert rows (c.get_mut.follows.lender c.set_keyed.new.row) id c.set_keyed.new.row updates.0
    ∙ ap (map.insert (map_of rows) id) (e ∙ ap (tx_table.set c.args.column c.args.value.now) (sym old))) c.set_keyed.ensures.row

pub returns-clause-keys : goal.returns-clause-keys
returns-clause-keys c =
    let rows = c.args.rows.now in
    let id = c.args.id.now in
    let row = tx_table.set c.args.column c.args.value.now (blank_row tx_table id) in
    let absent : tree.get text_cmp rows id ≡ None = search rules in
    let same = ap map_of c.get_mut.follows.holds-at-none in
    if_both c.add_keyed.result (λ keys e told. keys_between (map_of rows) (map_of c.add_keyed.new.rows) id row None keys (get-map_of rows id ∙ absent)
    (e ∙ ap (λ m. map.insert m id row) same) told) c.add_keyed.ensures.row c.add_keyed.ensures.keys

pub returns-in-Some-clause-keys : goal.returns-in-Some-clause-keys
returns-in-Some-clause-keys c =
    let rows = c.args.rows.now in
    let id = c.args.id.now in
    let h = c.get_mut.follows.holds c.set_keyed.new.row in
    let there : tree.get text_cmp rows id ≡ Some c.in-Some.row.now = search rules in
    let updates = h.3 (subst IsSome (sym there) refl) in
    let put = map_of-insert rows (c.get_mut.follows.lender c.set_keyed.new.row) id c.set_keyed.new.row updates.0 in
    if_ok c.set_keyed.result (λ keys told. keys_between (map_of rows) (map_of (c.get_mut.follows.lender c.set_keyed.new.row)) id c.set_keyed.new.row (Some c.in-Some.row.now) keys
    (get-map_of rows id ∙ there) put told) c.set_keyed.ensures.keys
