-- Which pairs and splits are wrong.
use Rattle.std.specs.Prelude.{◌≡◌, ◌↔◌, ℕ, pos, ◌+ℤ◌, ◌-ℤ◌, Bool, true, false, not, ◌&&◌, ◌==◌, [], ◌∷◌, ◌++◌, flat_map, Option, None, Some, is_some, if◌then◌else◌, codes}
use Rattle.std.specs.Ordering.{int_eq}
use Rattle.std.specs.Fmt.{signed_decimal}
use Rattle.std.specs.FinMap as map
use Rattle.finite_sums.specs.Maps.{Text, some_and}
use Rattle.book_rows.specs.declared.rows.Rows.{Rows}
use Rattle.book_rows.specs.declared.rows.TxRow.{TxRow}
use Rattle.book_rows.specs.Live.{is_live_tx}
use Rattle.split_transfer.specs.Pairs.{partner_of, parts_sum}
use Rattle.split_transfer.specs.Right.{IsLiveRow, ArePair, AreOpposite, IsSplit}

-- the same day, or none twice
abbrev pub same_day : Option ℕ → Option ℕ → Bool
same_day None None = true
same_day None (Some b) = false
same_day (Some a) None = false
same_day (Some a) (Some b) = a == b

abbrev pub are_opposite : TxRow → TxRow → Bool
are_opposite x y = int_eq (x.amount +ℤ y.amount) (pos 0) && same_day x.date y.date

-- a live transaction is in a pair that is right
abbrev pub is_paired : Rows → Text → TxRow → Bool
is_paired rows id x = some_and (λ other. some_and (are_opposite x) (map.get rows.txs other)) (partner_of rows id x)

-- `transfer`, a blank, the id, a line feed
abbrev pub transfer_line : Text → Text
transfer_line id = codes "transfer " ++ id ++ (10 ∷ [])

-- `split`, a blank, the id, a blank, what is left of the amount, a line feed
abbrev pub split_line : Rows → Text → TxRow → Text
split_line rows id x = codes "split " ++ id ++ (32 ∷ []) ++ signed_decimal (x.amount -ℤ parts_sum rows id) ++ (10 ∷ [])

-- of a transaction that names one, be it itself, and is in no right pair
abbrev pub told_transfer : Rows → Text → TxRow → Text
told_transfer rows id x = if is_some x.transferred_id && not (is_paired rows id x) then transfer_line id else []

-- of one that is split, and whose parts don't add up to its amount
abbrev pub told_split : Rows → Text → TxRow → Text
told_split rows id x = if x.is_parent && not (int_eq (x.amount -ℤ parts_sum rows id) (pos 0)) then split_line rows id x else []

-- what is wrong with a transaction, if it is live
abbrev pub told_of : Rows → Text × TxRow → Text
told_of rows e = if is_live_tx rows e.1 then told_transfer rows e.0 e.1 ++ told_split rows e.0 e.1 else []

-- what is wrong, by id
abbrev pub broken : Rows → Text
broken rows = flat_map (told_of rows) (map.entries rows.txs)

-- all pairs and splits are right
pub record AreAllRight (rows : Rows) : Type 0 where
  -- a live transaction that names one, be it itself, is in a pair with it
  pub paired : (a b : Text) (x : TxRow) → IsLiveRow rows a x → x.transferred_id ≡ Some b → (y : TxRow) × ArePair rows a x b y
  pub pairs : (a b : Text) (x y : TxRow) → ArePair rows a x b y → AreOpposite x y
  pub splits : (id : Text) (x : TxRow) → IsSplit rows id x → x.amount ≡ parts_sum rows id

-- nothing is told exactly where all pairs and splits are right
abbrev pub BrokenTellsAll : Type 0
BrokenTellsAll = (rows : Rows) → (broken rows ≡ []) ↔ AreAllRight rows
