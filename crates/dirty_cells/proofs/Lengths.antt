-- How many transactions are touched.
use Rattle.std.proofs.Common.{◌≡◌, ◌+◌, ◌≤◌, List, [], ◌∷◌, ◌++◌, map, filter, length, arith, length-append}
use Rattle.std.specs.Prelude.{flat_map}
use Rattle.finite_sums.specs.Maps.{Text, text_cmp, some_and, AreDistinct}
use Rattle.book_rows.specs.declared.rows.Rows.{Rows}
use Rattle.book_rows.specs.declared.column.Dataset.{Dataset}
use Rattle.book_rows.specs.declared.column.Dataset.TheVariants.{Accounts, Transactions, CategoryMapping}
use Rattle.dirty_cells.specs.Changes.{Change, Within}
use Rattle.dirty_cells.specs.Marking.{set_in}
use Rattle.dirty_cells.specs.Bound.{same_dataset, changed, of_account, of_parent, of_mapping, pairs, touched_txs}
use Rattle.dirty_cells.proofs.Counting.{few, no_longer, no_longer_filtered, length-flat}

length_rows : {X : Type 0} (f : X → Text) (xs : List X) → length (map f xs) ≡ length xs
length_rows f [] = omega arith
length_rows f (x ∷ xs) = omega (arith, length_rows f xs)

pub length_changed : (d : Dataset) (cs : List Change) → length (changed d cs) ≤ length cs
length_changed d cs =
    let kept = filter (λ (c : Change). some_and (same_dataset d) (set_in c)) cs in
    omega (arith, no_longer (map (λ (c : Change). c.0.row) kept), length_rows (λ (c : Change). c.0.row) kept, no_longer_filtered (λ (c : Change). some_and (same_dataset d) (set_in c)) cs)

module _ (r s : Rows) (cs : List Change) where
  abbrev by_accounts : List Text
  by_accounts = flat_map (of_account r s) (changed Accounts cs)

  abbrev by_parents : List Text
  by_parents = flat_map (of_parent r s) (changed Transactions cs)

  abbrev by_mappings : List Text
  by_mappings = flat_map (of_mapping r s) (changed CategoryMapping cs)

  pub length_touched : length (touched_txs r s cs) ≤ length cs + pairs r s cs
  length_touched =
      let own = changed Transactions cs in
      omega (
        arith,
        length_changed Transactions cs,
        length-append ((own ++ by_accounts) ++ by_parents) by_mappings,
        length-append (own ++ by_accounts) by_parents,
        length-append own by_accounts,
        length-flat (of_account r s) (changed Accounts cs),
        length-flat (of_parent r s) (changed Transactions cs),
        length-flat (of_mapping r s) (changed CategoryMapping cs),
      )

  -- each once, they are no more than the changes and the pairs
  pub few_ids : (ids : List Text) → AreDistinct text_cmp ids → Within ids (touched_txs r s cs) → length ids ≤ length cs + pairs r s cs
  few_ids ids d w = omega (arith, few ids (touched_txs r s cs) d w, length_touched)
