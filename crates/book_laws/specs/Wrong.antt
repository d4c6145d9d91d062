-- Which lines are told of pairs and splits that are wrong.
use Rattle.std.specs.Prelude.{◌≡◌, ◌≢◌, ◌++◌, ◌∷◌, [], ℤ, pos, ◌-ℤ◌, flat_map, Some, codes}
use Rattle.std.specs.Fmt.{signed_decimal}
use Rattle.std.specs.FinMap as map
use Rattle.finite_sums.specs.Maps.{Text}
use Rattle.book_rows.specs.declared.rows.Rows.{Rows}
use Rattle.book_rows.specs.declared.rows.TxRow.{TxRow}
use Rattle.split_transfer.specs.Pairs.{parts_sum}
use Rattle.split_transfer.specs.Right.{IsLiveRow, ArePair, AreOpposite, IsSplit}
use Rattle.split_transfer.specs.Broken.{broken}

-- a live transaction names one, be it itself, and is in no right pair with it
pub record IsWrongPair (rows : Rows) (id : Text) : Type 0 where
  pub tx : TxRow
  pub other : Text
  pub live : IsLiveRow rows id tx
  pub names : tx.transferred_id ≡ Some other
  pub wrong : (y : TxRow) → ArePair rows id tx other y → AreOpposite tx y → ⊥

-- a split transaction whose parts don't add up to its amount: this is left of it, the amount less its parts
pub record IsWrongSplit (rows : Rows) (id : Text) (left : ℤ) : Type 0 where
  pub tx : TxRow
  pub split : IsSplit rows id tx
  pub rest : left ≡ tx.amount -ℤ parts_sum rows id
  pub some : left ≢ pos 0

-- the lines that are told
pub record BrokenIsTold (rows : Rows) : Type 0 where
  -- for each id a text on its pair and one on its split, perhaps empty
  pub pair : Text → Text
  pub split : Text → Text
  -- they stand in the order of the ids of all transactions, of each the one on its pair first
  pub told : broken rows ≡ flat_map (λ e. pair e.0 ++ split e.0) (map.entries rows.txs)
  -- a line on each wrong pair, and none on any other
  pub wrong_pair : (id : Text) → IsWrongPair rows id → pair id ≡ codes "transfer " ++ id ++ (10 ∷ [])
  pub right_pair : (id : Text) → (IsWrongPair rows id → ⊥) → pair id ≡ []
  -- a line on each wrong split, with what is left, and none on any other
  pub wrong_split : (id : Text) (left : ℤ) → IsWrongSplit rows id left → split id ≡ codes "split " ++ id ++ codes " " ++ signed_decimal left ++ (10 ∷ [])
  pub right_split : (id : Text) → ((left : ℤ) → IsWrongSplit rows id left → ⊥) → split id ≡ []
