use Rattle.std.proofs.Common.{◌≡◌, [], ◌∷◌, codes, refl, sym, ◌∙◌}
use Rattle.sqlite.specs.Schema.{Schema}
use Rattle.sqlite_keeper.specs.Tables.{items, named, grps, counters, entries, index_of, moved_schema}
use Rattle.sqlite_keeper.proofs.Layouts.{five_are, four_are, none_left, moved_indexes}
use Rattle.sqlite_keeper.proofs.layout.is_moved.Goals as goal

pub returns-clause-same : goal.returns-clause-same
returns-clause-same c last =
    let s : Schema = c.args.schema.now in
    let views : s.views ≡ [] = none_left _ (rw c.as_slice-3.ensures at c.if-not-is_empty.ensures) in
    let tables : s.tables ≡ moved_schema.tables = five_are s.tables c.items-item.result c.named-item.result c.grps-item.result c.counters-item.result c.entries-item.result (items 0) (named 2) (grps 4) (counters 6) (entries 7) (rw c.as_slice.ensures at c.in-len5.len_at_least) (rw c.as_slice.ensures at c.in-len5.len_below)
    (rw c.as_slice.ensures at c.items-item.is) (rw c.as_slice.ensures at c.named-item.is) (rw c.as_slice.ensures at c.grps-item.is) (rw c.as_slice.ensures at c.counters-item.is) (rw c.as_slice.ensures at c.entries-item.is) (c.if-not-is_items.ensures.same refl) (c.if-not-is_named.ensures.same refl) (c.if-not-is_grps.ensures.same refl) (c.if-not-is_counters.ensures.same refl) (c.if-not-is_entries.ensures.same refl) in
    let indexes : s.indexes ≡ moved_schema.indexes = four_are s.indexes c.by_item-item.result c.by_name-item.result c.by_group-item.result c.by_place-item.result (index_of (codes "sqlite_autoindex_items_1") 1 (1 ∷ 2 ∷ [])) (index_of (codes "sqlite_autoindex_named_1") 3 (1 ∷ [])) (index_of (codes "sqlite_autoindex_grps_1") 5 (2 ∷ [])) (index_of (codes "sqlite_autoindex_entries_1") 8 (1 ∷ 2 ∷ [])) (rw c.as_slice-2.ensures at c.in-len4.len_at_least) (rw c.as_slice-2.ensures at c.in-len4.len_below)
    (rw c.as_slice-2.ensures at c.by_item-item.is) (rw c.as_slice-2.ensures at c.by_name-item.is) (rw c.as_slice-2.ensures at c.by_group-item.is) (rw c.as_slice-2.ensures at c.by_place-item.is) (c.if-not-is_index.ensures.same refl) (c.if-not-is_index-2.ensures.same refl) (c.if-not-is_index-3.ensures.same refl) (c.is_index-4.ensures.same last) ∙ sym moved_indexes in
    λ i. record { tables = tables i; indexes = indexes i; views = views i }
