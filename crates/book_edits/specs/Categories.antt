-- Edits of groups and of their categories.
use Rattle.std.specs.Prelude.{Bool, true, ◌&&◌, List, [], ◌∷◌, ◌++◌, map as list_map, Option, is_some, Result, Ok, codes}
use Rattle.std.specs.FinMap as map
use Rattle.field_values.specs.declared.value.Value.TheVariants.{Text as IsText}
use Rattle.finite_sums.specs.Maps.{Text, some_and, keys_where}
use Rattle.book_rows.specs.declared.rows.Rows.{Rows}
use Rattle.book_rows.specs.declared.rows.CategoryRow.{CategoryRow}
use Rattle.book_rows.specs.declared.write.RowName.{RowName}
use Rattle.book_rows.specs.declared.write.RowName.TheVariants.{Given}
use Rattle.book_rows.specs.declared.write.Write.{Write}
use Rattle.book_rows.specs.declared.fault.EditFault.{EditFault}
use Rattle.book_rows.specs.Live.{is_live_category_row}
use Rattle.book_rows.specs.Parts.{is_text}
use Rattle.book_edits.specs.Faults.{◌>>=◌, if_there}
use Rattle.book_edits.specs.Checks.{new_row, live_group, live_category, free_group_name, free_category_name, group_of, name_of}
use Rattle.book_edits.specs.Writing.{write, flag}

-- there is a row of the id, dead or alive
abbrev pub is_group : Rows → Text → Bool
is_group rows id = is_some (map.get rows.groups id)

abbrev pub is_category : Rows → Text → Bool
is_category rows id = is_some (map.get rows.categories id)

-- whether a group takes income
abbrev pub takes_income : Rows → Text → Bool
takes_income rows group = some_and (λ g. g.is_income) (map.get rows.groups group)

-- the category is live and of the group
abbrev pub is_live_in : Rows → Text → CategoryRow → Bool
is_live_in rows group c = is_live_category_row rows c && is_text group c.cat_group

-- the ids of the live categories of a group, in order
abbrev pub categories_of : Rows → Text → List Text
categories_of rows group = keys_where (is_live_in rows group) (map.entries rows.categories)

abbrev pub group_add : Rows → Option Text → Text → Bool → Result (List Write) EditFault
group_add rows id name income = do
  row ← new_row (is_group rows) id
  _ ← free_group_name rows name
  Ok (write (codes "category_groups") row (codes "name") (IsText name) ∷ write (codes "category_groups") row (codes "is_income") (flag income) ∷ [])

abbrev pub group_rename : Rows → Text → Text → Result (List Write) EditFault
group_rename rows id name = do
  _ ← live_group rows id
  _ ← free_group_name rows name
  Ok (write (codes "category_groups") (Given id) (codes "name") (IsText name) ∷ [])

-- a category is deleted
abbrev pub category_deletion : Text → Write
category_deletion id = write (codes "categories") (Given id) (codes "tombstone") (flag true)

-- a group is deleted
abbrev pub group_deletion : Text → Write
group_deletion id = write (codes "category_groups") (Given id) (codes "tombstone") (flag true)

-- the live categories of a group are deleted with it, and before it
abbrev pub group_delete : Rows → Text → Result (List Write) EditFault
group_delete rows id = do
  _ ← live_group rows id
  Ok (list_map category_deletion (categories_of rows id) ++ group_deletion id ∷ [])

-- a category comes to a group, whose kind it takes over
abbrev pub placed_in : Rows → RowName → Text → List Write
placed_in rows row group =
    write (codes "categories") row (codes "cat_group") (IsText group)
    ∷ write (codes "categories") row (codes "is_income") (flag (takes_income rows group))
    ∷ []

abbrev pub category_add : Rows → Option Text → Text → Text → Result (List Write) EditFault
category_add rows id group name = do
  row ← new_row (is_category rows) id
  _ ← live_group rows group
  _ ← free_category_name rows group name
  Ok (write (codes "categories") row (codes "name") (IsText name) ∷ placed_in rows row group)

-- the name has to be free in the group in which the category stands
abbrev pub category_rename : Rows → Text → Text → Result (List Write) EditFault
category_rename rows id name = do
  _ ← live_category rows id
  _ ← if_there (λ group. free_category_name rows group name) (group_of rows id)
  Ok (write (codes "categories") (Given id) (codes "name") (IsText name) ∷ [])

-- the name that the category has, if it has one, has to be free in the group to which it moves
abbrev pub category_move : Rows → Text → Text → Result (List Write) EditFault
category_move rows id group = do
  _ ← live_category rows id
  _ ← live_group rows group
  _ ← if_there (free_category_name rows group) (name_of rows id)
  Ok (placed_in rows (Given id) group)

abbrev pub category_delete : Rows → Text → Result (List Write) EditFault
category_delete rows id = do
  _ ← live_category rows id
  Ok (category_deletion id ∷ [])
