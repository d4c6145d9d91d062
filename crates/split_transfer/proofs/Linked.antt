-- Partners and parts are told.
use Rattle.std.proofs.Common.{◌≡◌, true, false, cond, Some, ap, sym, ◌∙◌}
use Rattle.std.specs.Prelude.{not}
use Rattle.std.specs.FinMap.{get}
use Rattle.finite_sums.specs.Maps.{Text, text_cmp, some_and, is_among}
use Rattle.book_rows.specs.declared.rows.Rows.{Rows}
use Rattle.book_rows.specs.declared.rows.TxRow.{TxRow}
use Rattle.book_rows.specs.Live.{has_parent}
use Rattle.split_transfer.specs.Pairs.{is_part, is_kept, parts_of}
use Rattle.split_transfer.specs.Right.{IsLiveRow, LinksAreTold}
use Rattle.split_transfer.proofs.Basics.{both_true, and_both, names_is, names_it, holds_some}
use Rattle.split_transfer.proofs.Links.{partner_is, partner_found, parts_are}

part_is : (rows : Rows) (id q : Text) (p : TxRow) → get rows.txs id ≡ Some p → p.tombstone ≡ false → is_among text_cmp (parts_of rows id) q ≡ true
    → (y : TxRow) × IsLiveRow rows q y × (y.is_child ≡ true) × (y.parent_id ≡ Some id)
part_is rows id q p there kept among =
    let w = holds_some (is_part id) (get rows.txs q) (sym (parts_are rows id q) ∙ among) in
    let both = both_true _ _ w.2 in
    let child = both_true _ _ both.0 in
    let named = names_is w.0.parent_id id child.1 in
    let up : has_parent rows w.0 ≡ true = ap (λ b. cond b (some_and (is_kept rows) w.0.parent_id) true) child.0 ∙ ap (some_and (is_kept rows)) named ∙ ap (some_and (λ (x : TxRow). not x.tombstone)) there ∙ ap not kept in
    (w.0, record { there = w.1; live = and_both _ _ both.1 up }, child.0, named)

part_found : (rows : Rows) (id q : Text) (y : TxRow) → IsLiveRow rows q y → y.is_child ≡ true → y.parent_id ≡ Some id → is_among text_cmp (parts_of rows id) q ≡ true
part_found rows id q y l child named =
    parts_are rows id q ∙ ap (some_and (is_part id)) l.there ∙ and_both _ _ (and_both _ _ child (names_it y.parent_id id named)) (both_true _ _ l.live).0

pub links_told : (rows : Rows) → LinksAreTold rows
links_told rows = record {
  partner = λ a b x l. (λ h. partner_is rows a x b l h, λ w. partner_found rows a x b w.0 w.1);
  part = λ id q p there kept. (λ h. part_is rows id q p there kept h, λ w. part_found rows id q w.0 w.1 w.2 w.3);
}
