-- The ids of rows are names, so they have no line feed.
use Rattle.std.proofs.Common.{◌≡◌, ◌≤◌, Bool, true, Option, None, Some, refl, arith}
use Rattle.std.specs.FinMap as map
use Rattle.field_values.specs.Names.{IsName}
use Rattle.finite_sums.specs.Maps.{Text, Texts, some_and}
use Rattle.book_rows.specs.Tables.{AreNamed}
use Rattle.command_lines.specs.ReplyLines.{IsLine}

-- a name has no line feed
pub name_line : (id : Text) → IsName id → IsLine id
name_line id name k d l e = let high : 32 ≤ _ = (name.bytes k d l).0 in omega (arith, high, e)

-- the id of a row that passes a test is a name
pub there_named : {X : Type 0} (rows : Texts X) (p : X → Bool) (id : Text) → AreNamed rows → some_and p (map.get rows id) ≡ true → IsName id
there_named {X} rows p id named h = by (map.get rows id) refl h
  where
    by : (o : Option X) → map.get rows id ≡ o → some_and p o ≡ true → IsName id
    by None e found = absurd (cc)
    by (Some x) e found = named id x e
