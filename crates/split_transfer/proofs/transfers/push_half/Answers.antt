use Rattle.std.proofs.Common.{◌≡◌, ◌++◌, ◌∷◌, [], List, ap, ◌∙◌, codes}
use Rattle.field_values.specs.declared.value.Value.{Value}
use Rattle.book_rows.specs.declared.write.Write.{Write}
use lib.IntN.{ℤ, pos}
use Rattle.std.proofs.Common.{to_z, of_z}
use Rattle.std.proofs.Common.{rules}
use Rattle.std.specs.Int.{w64}
use Rattle.std.proofs.lemmas.Int.{to_z-of_z}
use Rattle.std.specs.Option.{option_copied}
use Rattle.field_values.specs.declared.value.Value.TheVariants.{Number, Text as IsText}
use Rattle.book_rows.specs.declared.write.RowName.TheVariants.{Made}
use Rattle.book_rows.specs.declared.write.WriteValue.TheVariants.{IdOf}
use Rattle.book_edits.specs.Writing.{text_or_null, notes_value}
use Rattle.book_edits.proofs.Lists.{on_ok}
use Rattle.split_transfer.specs.Writing.{tx_write}
use Rattle.split_transfer.proofs.Lists.{four_more}
use Rattle.split_transfer.proofs.transfers.push_half.Goals as goal

pub returns : goal.returns
returns c =
    let items = c.args.writes.now.items in
    let put = tx_write (Made c.args.at) in
    let entry : Value → Value → ℤ → List Write = λ a d n. put (codes "acct") a ∷ put (codes "date") d ∷ put (codes "amount") (Number n) ∷ [] in
    let same : to_z w64 (of_z w64 c.args.amount) ≡ c.args.amount = to_z-of_z w64 c.args.amount (search rules) in
    on_ok c.push_id.result
    (λ e. four_more items (entry (IsText c.args.account.now) (Number (pos c.args.date)) c.args.amount) (record { dataset = codes "transactions"; row = Made c.args.at; column = codes "transferred_id"; value = IdOf c.args.other } ∷ [])
    c.push_entry.new.writes.items c.push_made.new.writes.items c.push_made-2.new.writes.items c.push_id.new.writes.items (put (codes "description") (text_or_null (option_copied c.args.payee))) (put (codes "notes") (notes_value c.args.notes.now))
    (c.in_ok-push_entry.ensures ∙ ap (λ n. items ++ entry c.in_ok-text.field-0 c.number.result n) same
    ∙ ap (λ v. items ++ entry v c.number.result c.args.amount) c.in_ok-text.ensures ∙ ap (λ v. items ++ entry (IsText c.args.account.now) v c.args.amount) c.number.ensures)
    (c.in_ok-push_made.ensures ∙ ap (λ v. c.push_entry.new.writes.items ++ put (codes "description") v ∷ []) c.in_ok-maybe_text.ensures)
    (c.in_ok-push_made-2.ensures ∙ ap (λ v. c.push_made.new.writes.items ++ put (codes "notes") v ∷ []) c.in_ok-notes_value.ensures)
    e)
    c.push_id.ensures
