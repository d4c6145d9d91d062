use Rattle.std.proofs.Common.{◌≡◌, Some, None, IsSome, refl, ap, sym, ◌∙◌, rules, subst}
use Rattle.std.specs.Prelude.{unwrap_or}
use Rattle.std.specs.FinMap as map
use Rattle.std.specs.BTreeMap as tree
use Rattle.finite_sums.specs.Maps.{text_cmp, map_of}
use Rattle.finite_sums.proofs.Texts.{get-map_of, map_of-insert}
use Rattle.book_rows.specs.Tables.{blank_row, AreNamed}
use Rattle.book_rows.proofs.Pairs.{on_ok}
use Rattle.book_rows.proofs.RowNames.{named-insert}
use Rattle.book_rows.proofs.table.set_row.Goals as goal

pub returns-clause-named : goal.returns-clause-named
returns-clause-named g c = λ name named. c.add_row.ensures.named name (subst AreNamed (sym (ap map_of c.get_mut.follows.holds-at-none)) named)

pub returns-in-Some-clause-named : goal.returns-in-Some-clause-named
returns-in-Some-clause-named g c = λ name named.
    let rows = c.args.rows.now in
    let id = c.args.id.now in
    let h = c.get_mut.follows.holds c.set.new.self in
    let there : tree.get text_cmp rows id ≡ Some c.in-Some.row.now = search rules in
    let updates = h.3 (subst IsSome (sym there) refl) in
    let put = map_of-insert rows (c.get_mut.follows.lender c.set.new.self) id c.set.new.self updates.0 in
    subst AreNamed (sym put) (named-insert (map_of rows) id c.set.new.self name named)

pub returns-clause-row : goal.returns-clause-row
returns-clause-row g c =
    let t = g.R.Row.table in
    let rows = c.args.rows.now in
    let id = c.args.id.now in
    let absent : tree.get text_cmp rows id ≡ None = search rules in
    let old : unwrap_or (map.get (map_of rows) id) (blank_row t id) ≡ blank_row t id = ap (λ o. unwrap_or o (blank_row t id)) (get-map_of rows id ∙ absent) in
    let same = ap map_of c.get_mut.follows.holds-at-none in
    on_ok c.add_row.result (λ e. e ∙ ap (λ m. map.insert m id (t.set c.args.column c.args.value.now (blank_row t id))) same
    ∙ ap (map.insert (map_of rows) id) (ap (t.set c.args.column c.args.value.now) (sym old))) c.add_row.ensures.row

pub returns-in-Some-clause-row : goal.returns-in-Some-clause-row
returns-in-Some-clause-row g c =
    let t = g.R.Row.table in
    let rows = c.args.rows.now in
    let id = c.args.id.now in
    let h = c.get_mut.follows.holds c.set.new.self in
    let there : tree.get text_cmp rows id ≡ Some c.in-Some.row.now = search rules in
    let updates = h.3 (subst IsSome (sym there) refl) in
    let old : unwrap_or (map.get (map_of rows) id) (blank_row t id) ≡ c.in-Some.row.now = ap (λ o. unwrap_or o (blank_row t id)) (get-map_of rows id ∙ there) in
    on_ok c.set.result (λ e. map_of-insert rows (c.get_mut.follows.lender c.set.new.self) id c.set.new.self updates.0
    ∙ ap (map.insert (map_of rows) id) (e ∙ ap (t.set c.args.column c.args.value.now) (sym old))) c.set.ensures
