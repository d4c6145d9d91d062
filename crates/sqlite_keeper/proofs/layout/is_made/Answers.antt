use Rattle.std.proofs.Common.{◌≡◌, [], ◌∷◌, codes, refl, sym, ◌∙◌}
use Rattle.sqlite.specs.Schema.{Schema}
use Rattle.sqlite_keeper.specs.Tables.{grps, counters, entries, named, index_of, made_schema}
use Rattle.sqlite_keeper.proofs.Layouts.{four_are, three_are, none_left, made_indexes}
use Rattle.sqlite_keeper.proofs.layout.is_made.Goals as goal

pub returns-clause-same : goal.returns-clause-same
returns-clause-same c last =
    let s : Schema = c.args.schema.now in
    let views : s.views ≡ [] = none_left _ (rw c.as_slice-3.ensures at c.if-not-is_empty.ensures) in
    let tables : s.tables ≡ made_schema.tables = four_are s.tables c.grps-item.result c.counters-item.result c.entries-item.result c.named-item.result (grps 0) (counters 2) (entries 3) (named 5) (rw c.as_slice.ensures at c.in-len4.len_at_least) (rw c.as_slice.ensures at c.in-len4.len_below)
    (rw c.as_slice.ensures at c.grps-item.is) (rw c.as_slice.ensures at c.counters-item.is) (rw c.as_slice.ensures at c.entries-item.is) (rw c.as_slice.ensures at c.named-item.is) (c.if-not-is_grps.ensures.same refl) (c.if-not-is_counters.ensures.same refl) (c.if-not-is_entries.ensures.same refl) (c.if-not-is_named.ensures.same refl) in
    let indexes : s.indexes ≡ made_schema.indexes = three_are s.indexes c.by_group-item.result c.by_place-item.result c.by_name-item.result (index_of (codes "sqlite_autoindex_grps_1") 1 (2 ∷ [])) (index_of (codes "sqlite_autoindex_entries_1") 4 (1 ∷ 2 ∷ [])) (index_of (codes "sqlite_autoindex_named_1") 6 (1 ∷ [])) (rw c.as_slice-2.ensures at c.in-len3.len_at_least) (rw c.as_slice-2.ensures at c.in-len3.len_below)
    (rw c.as_slice-2.ensures at c.by_group-item.is) (rw c.as_slice-2.ensures at c.by_place-item.is) (rw c.as_slice-2.ensures at c.by_name-item.is) (c.if-not-is_index.ensures.same refl) (c.if-not-is_index-2.ensures.same refl) (c.is_index-3.ensures.same last) ∙ sym made_indexes in
    λ i. record { tables = tables i; indexes = indexes i; views = views i }
