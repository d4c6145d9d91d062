use Rattle.std.proofs.Common.{◌≡◌, ◌++◌, ◌∷◌, [], List, true, ap, ◌∙◌, codes}
use Rattle.book_rows.specs.declared.write.RowName.TheVariants.{Given}
use Rattle.book_rows.specs.declared.write.Write.{Write}
use Rattle.book_edits.specs.Writing.{flag}
use Rattle.split_transfer.specs.Pairs.{parts_of}
use Rattle.split_transfer.specs.Writing.{tx_write, on_each}
use Rattle.split_transfer.proofs.Lists.{split_list}
use Rattle.split_transfer.proofs.splits.split_writes.Goals as goal

pub returns : goal.returns
returns c =
    let dead = codes "tombstone" in
    let ids = c.as_slice.result.now in
    let old : ids ≡ parts_of c.args.book.now.rows c.args.id.now = c.as_slice.ensures.value ∙ c.in_ok-earlier.ensures in
    let a : c.push_each.new.writes.items ≡ [] ++ on_each dead (flag true) (parts_of c.args.book.now.rows c.args.id.now) =
    c.in_ok-push_each.ensures ∙ ap (λ (ws : List Write). ws ++ on_each dead c.flag-dead.result ids) c.new-writes.ensures.items
    ∙ ap (λ v. [] ++ on_each dead v ids) c.flag-dead.ensures ∙ ap (λ ts. [] ++ on_each dead (flag true) ts) old in
    let b = c.in_ok-push.ensures ∙ ap (λ v. c.push_each.new.writes.items ++ tx_write (Given c.args.id.now) (codes "isParent") v ∷ []) c.flag.ensures in
    split_list c.args.book.now.rows c.args.id.now c.args.row.now c.args.parts.now c.push_each.new.writes.items c.push.new.writes.items c.push-2.new.writes.items c.push_parts.new.writes.items a b c.in_ok-push-2.ensures c.in_ok-push_parts.ensures
