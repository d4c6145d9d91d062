-- Ids stand for others by one step.
use Rattle.std.proofs.Common.{◌≡◌, Bool, true, false, cond, [], Option, Some, refl, ap, ◌∙◌}
use Rattle.std.specs.Prelude.{unwrap_or}
use Rattle.std.specs.FinMap.{get, get-insert}
use Rattle.field_values.specs.declared.value.Value.TheVariants.{Text as IsText}
use Rattle.finite_sums.specs.Maps.{Text, Texts}
use Rattle.finite_sums.proofs.Texts.{text_total}
use Rattle.book_rows.specs.declared.column.Dataset.TheVariants.{CategoryMapping, PayeeMapping}
use Rattle.book_rows.specs.declared.column.Column.TheVariants as of
use Rattle.book_rows.specs.declared.rows.Rows.{Rows}
use Rattle.book_rows.specs.declared.rows.CategoryMappingRow.{CategoryMappingRow}
use Rattle.book_rows.specs.declared.rows.PayeeMappingRow.{PayeeMappingRow}
use Rattle.book_rows.specs.declared.write.RowName.TheVariants.{Given}
use Rattle.book_rows.specs.declared.write.WriteValue.TheVariants.{Plain}
use Rattle.book_rows.specs.Laws.{HasTarget}
use Rattle.book_rows.specs.Live.{target_of, mapped, mapped_category, mapped_payee}
use Rattle.book_rows.specs.Rules.{category_mapping_table, payee_mapping_table}
use Rattle.book_rows.specs.Tables.{blank_row}
use Rattle.book_edits.specs.Checks.{same_id}
use Rattle.split_transfer.specs.After.{Ids}
use Rattle.split_transfer.proofs.Basics.{same_refl, not_same}
use Rattle.book_laws.specs.Mapping.{with_category_mapped, with_payee_mapped, OneStepIsTaken}
use Rattle.book_laws.proofs.Done.{cell}

told : {Row : Type 0} (target : Row → Option Text) (rows : Texts Row) (id to : Text) → HasTarget target rows id to → mapped target rows id ≡ to
told target rows id to h = ap (λ o. unwrap_or (target_of target o) id) h.1 ∙ ap (λ o. unwrap_or o id) h.2

no_ids : Ids
no_ids n = []

module _ (rows : Rows) (k on : Text) where
  category_row : CategoryMappingRow
  category_row = record (unwrap_or (get rows.category_mappings k) (blank_row category_mapping_table k)) { transfer_id = Some on }

  payee_row : PayeeMappingRow
  payee_row = record (unwrap_or (get rows.payee_mappings k) (blank_row payee_mapping_table k)) { target_id = Some on }

  category_then : (q : Text) → mapped_category (with_category_mapped rows k on) q ≡ cond (same_id q k) on (mapped_category rows q)
  unfolding category_row
  category_then q =
      ap (λ (s : Rows). mapped_category s q) (cell no_ids rows CategoryMapping (Given k) of.TransferId (Plain (IsText on)))
      ∙ ap (λ o. unwrap_or (target_of (λ (m : CategoryMappingRow). m.transfer_id) o) q) (get-insert text_total rows.category_mappings k category_row q)
      ∙ by (same_id q k)
    where
      by : (b : Bool) → unwrap_or (target_of (λ (m : CategoryMappingRow). m.transfer_id) (cond b (Some category_row) (get rows.category_mappings q))) q ≡ cond b on (mapped_category rows q)
      by true = refl
      by false = refl

  payee_then : (q : Text) → mapped_payee (with_payee_mapped rows k on) q ≡ cond (same_id q k) on (mapped_payee rows q)
  unfolding payee_row
  payee_then q =
      ap (λ (s : Rows). mapped_payee s q) (cell no_ids rows PayeeMapping (Given k) of.TargetId (Plain (IsText on)))
      ∙ ap (λ o. unwrap_or (target_of (λ (m : PayeeMappingRow). m.target_id) o) q) (get-insert text_total rows.payee_mappings k payee_row q)
      ∙ by (same_id q k)
    where
      by : (b : Bool) → unwrap_or (target_of (λ (m : PayeeMappingRow). m.target_id) (cond b (Some payee_row) (get rows.payee_mappings q))) q ≡ cond b on (mapped_payee rows q)
      by true = refl
      by false = refl

-- of an id that gets a target, and of another one
pub one_step : OneStepIsTaken
one_step = record {
  category = λ rows id to h. told (λ (m : CategoryMappingRow). m.transfer_id) rows.category_mappings id to h;
  payee = λ rows id to h. told (λ (m : PayeeMappingRow). m.target_id) rows.payee_mappings id to h;
  category_stays = λ rows id to on h is. category_then rows to on id ∙ ap (λ b. cond b on (mapped_category rows id)) (not_same id to h) ∙ is;
  payee_stays = λ rows id to on h is. payee_then rows to on id ∙ ap (λ b. cond b on (mapped_payee rows id)) (not_same id to h) ∙ is;
  categories_exchanged = λ rows a b h.
      let s = with_category_mapped rows a b in (
        category_then s b a a ∙ ap (λ t. cond t a (mapped_category s a)) (not_same a b h) ∙ category_then rows a b a ∙ ap (λ t. cond t b (mapped_category rows a)) (same_refl a),
        category_then s b a b ∙ ap (λ t. cond t a (mapped_category s b)) (same_refl b),
      );
  payees_exchanged = λ rows a b h.
      let s = with_payee_mapped rows a b in (
        payee_then s b a a ∙ ap (λ t. cond t a (mapped_payee s a)) (not_same a b h) ∙ payee_then rows a b a ∙ ap (λ t. cond t b (mapped_payee rows a)) (same_refl a),
        payee_then s b a b ∙ ap (λ t. cond t a (mapped_payee s b)) (same_refl b),
      );
}
