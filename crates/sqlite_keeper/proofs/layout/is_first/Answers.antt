use Rattle.std.proofs.Common.{◌≡◌, [], ◌∷◌, codes, refl, sym, ◌∙◌}
use Rattle.sqlite.specs.Schema.{Schema}
use Rattle.sqlite_keeper.specs.Tables.{items, named, index_of, first_schema}
use Rattle.sqlite_keeper.proofs.Layouts.{two_are, none_left, first_indexes}
use Rattle.sqlite_keeper.proofs.layout.is_first.Goals as goal

pub returns-clause-same : goal.returns-clause-same
returns-clause-same c last =
    let s : Schema = c.args.schema.now in
    let views : s.views ≡ [] = none_left _ (rw c.as_slice-3.ensures at c.if-not-is_empty.ensures) in
    let tables : s.tables ≡ first_schema.tables = two_are s.tables c.items-item.result c.named-item.result (items 0) (named 2) (rw c.as_slice.ensures at c.in-len2.len_at_least) (rw c.as_slice.ensures at c.in-len2.len_below)
    (rw c.as_slice.ensures at c.items-item.is) (rw c.as_slice.ensures at c.named-item.is) (c.if-not-is_items.ensures.same refl) (c.if-not-is_named.ensures.same refl) in
    let indexes : s.indexes ≡ first_schema.indexes = two_are s.indexes c.by_place-item.result c.by_name-item.result (index_of (codes "sqlite_autoindex_items_1") 1 (1 ∷ 2 ∷ [])) (index_of (codes "sqlite_autoindex_named_1") 3 (1 ∷ [])) (rw c.as_slice-2.ensures at c.in-len2-as_slice.len_at_least) (rw c.as_slice-2.ensures at c.in-len2-as_slice.len_below)
    (rw c.as_slice-2.ensures at c.by_place-item.is) (rw c.as_slice-2.ensures at c.by_name-item.is) (c.if-not-is_index.ensures.same refl) (c.is_index-2.ensures.same last) ∙ sym first_indexes in
    λ i. record { tables = tables i; indexes = indexes i; views = views i }
