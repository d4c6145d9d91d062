-- What changes of transactions leave as it was.
use Rattle.std.specs.Prelude.{◌≡◌, ℕ, ℤ, neg_ℤ, Bool, true, List, [], ◌∷◌, ◌++◌, Option, Some, Ok, option_to_list, if◌then◌else◌}
use Rattle.std.specs.Option.{option_map}
use Rattle.std.specs.FinMap as map
use Rattle.finite_sums.specs.Maps.{Text, text_cmp, is_among}
use Rattle.book_rows.specs.declared.rows.Rows.{Rows}
use Rattle.book_rows.specs.declared.rows.TxRow.{TxRow}
use Rattle.book_rows.specs.declared.write.Write.{Write}
use Rattle.split_transfer.specs.Pairs.{partner_of, parts_of}
use Rattle.split_transfer.specs.Changes.{set_date, set_amount, set_account, set_payee, set_category, set_cleared, set_schedule, set_notes, tx_delete}
use Rattle.split_transfer.specs.After.{Ids, with_writes}
use Rattle.book_laws.specs.Leaving.{notes_or_none}

-- these transactions are changed, as far as they are there, and nothing else is
pub record AreChanged (before after : Rows) (these : List Text) (change : TxRow → TxRow) : Type 0 where
  pub txs : (q : Text) → map.get after.txs q ≡ (if is_among text_cmp these q then option_map change (map.get before.txs q) else map.get before.txs q)
  pub others : after ≡ record before { txs = after.txs }

-- which transactions a change that is accepted changes, and that it changes nothing else
pub record ChangesDoNoMore (ids : Ids) (rows : Rows) (id : Text) (x : TxRow) (ws : List Write) : Type 0 where
  -- a day is that of the parts and of the partner too, and an account that of the parts
  pub date : (day : ℕ) → set_date rows id day ≡ Ok ws → AreChanged rows (with_writes ids rows ws) (id ∷ parts_of rows id ++ option_to_list (partner_of rows id x)) (λ y. record y { date = Some day })
  pub account : (account : Text) → set_account rows id account ≡ Ok ws → AreChanged rows (with_writes ids rows ws) (id ∷ parts_of rows id) (λ y. record y { acct = Some account })
  -- the partner has the opposite amount then
  pub amount : (z : ℤ) → set_amount rows id z ≡ Ok ws → (mid : Rows) × AreChanged rows mid (id ∷ []) (λ y. record y { amount = z })
      × AreChanged mid (with_writes ids rows ws) (option_to_list (partner_of rows id x)) (λ y. record y { amount = neg_ℤ z })
  -- all else is of the transaction alone
  pub payee : (payee : Option Text) → set_payee rows id payee ≡ Ok ws → AreChanged rows (with_writes ids rows ws) (id ∷ []) (λ y. record y { description = payee })
  pub category : (category : Option Text) → set_category rows id category ≡ Ok ws → AreChanged rows (with_writes ids rows ws) (id ∷ []) (λ y. record y { category = category })
  pub cleared : (cleared : Bool) → set_cleared rows id cleared ≡ Ok ws → AreChanged rows (with_writes ids rows ws) (id ∷ []) (λ y. record y { cleared = cleared })
  pub schedule : (schedule : Option Text) → set_schedule rows id schedule ≡ Ok ws → AreChanged rows (with_writes ids rows ws) (id ∷ []) (λ y. record y { schedule = schedule })
  pub notes : (text : Text) → set_notes rows id text ≡ Ok ws → AreChanged rows (with_writes ids rows ws) (id ∷ []) (λ y. record y { notes = notes_or_none text })
  -- the partner is deleted with it
  pub gone : tx_delete rows id ≡ Ok ws → AreChanged rows (with_writes ids rows ws) (id ∷ option_to_list (partner_of rows id x)) (λ y. record y { tombstone = true })
