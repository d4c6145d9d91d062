use Rattle.std.proofs.Common.{◌≡◌, ◌++◌, ◌∷◌, [], List, true, length, ap, ◌∙◌, codes, rules}
use lib.IntN.{ℤ}
use Rattle.std.proofs.Common.{to_z, of_z}
use Rattle.std.specs.Int.{w64}
use Rattle.std.proofs.lemmas.Int.{to_z-of_z}
use Rattle.field_values.specs.declared.value.Value.{Value}
use Rattle.book_rows.specs.declared.write.Write.{Write}
use Rattle.field_values.specs.declared.value.Value.TheVariants.{Number, Text as IsText}
use Rattle.book_rows.specs.declared.write.RowName.TheVariants.{Made}
use Rattle.book_edits.specs.Writing.{flag, text_or_null}
use Rattle.book_edits.proofs.Lists.{on_ok}
use Rattle.split_transfer.specs.Writing.{tx_write, day_or_null}
use Rattle.split_transfer.specs.Splits.{part_writes}
use Rattle.split_transfer.proofs.Lists.{four_more}
use Rattle.split_transfer.proofs.splits.push_part.Goals as goal

pub returns : goal.returns
returns c =
    let items = c.args.writes.now.items in
    let row = c.args.row.now in
    let part = c.args.part.now in
    let put = tx_write (Made c.in_ok-at.at) in
    let entry : Value → Value → ℤ → List Write = λ a d n. put (codes "acct") a ∷ put (codes "date") d ∷ put (codes "amount") (Number n) ∷ [] in
    let own : ℤ = c.amount_of.result in
    let same : to_z w64 (of_z w64 own) ≡ own = to_z-of_z w64 own (search rules) in
    let at : c.in_ok-at.at ≡ length items = c.in_ok-at.ensures in
    on_ok c.push_parent.result
    (λ e. four_more items (entry (text_or_null row.acct) (day_or_null row.date) part.amount) (put (codes "isChild") (flag true) ∷ put (codes "parent_id") (IsText c.args.id.now) ∷ [])
    c.push_entry.new.writes.items c.push_made.new.writes.items c.push_made-2.new.writes.items c.push_parent.new.writes.items (put (codes "category") (text_or_null part.category)) (put (codes "description") (text_or_null row.description))
    (c.in_ok-push_entry.ensures ∙ ap (λ n. items ++ entry c.in_ok-account.account c.day_or_null-date.result n) (same ∙ c.amount_of.ensures)
    ∙ ap (λ v. items ++ entry v c.day_or_null-date.result part.amount) c.in_ok-account.ensures ∙ ap (λ v. items ++ entry (text_or_null row.acct) v part.amount) c.day_or_null-date.ensures)
    (c.in_ok-push_made.ensures ∙ ap (λ v. c.push_entry.new.writes.items ++ put (codes "category") v ∷ []) c.in_ok-category.ensures)
    (c.in_ok-push_made-2.ensures ∙ ap (λ v. c.push_made.new.writes.items ++ put (codes "description") v ∷ []) c.in_ok-payee.ensures)
    e ∙ ap (λ n. items ++ part_writes n c.args.id.now row part) at)
    c.push_parent.ensures
