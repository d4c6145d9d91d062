-- What ids stand for: one step of the mappings, and never two.
use Rattle.std.specs.Prelude.{◌≡◌, ◌≢◌, codes}
use Rattle.field_values.specs.declared.value.Value.TheVariants.{Text as IsText}
use Rattle.field_values.specs.Names.{field_of}
use Rattle.finite_sums.specs.Maps.{Text}
use Rattle.book_rows.specs.declared.rows.Rows.{Rows}
use Rattle.book_rows.specs.Live.{mapped_category, mapped_payee}
use Rattle.book_rows.specs.Laws.{HasTarget}
use Rattle.book_rows.specs.Rows.{with_field}

-- a category is mapped to another one
abbrev pub with_category_mapped : Rows → Text → Text → Rows
with_category_mapped rows id to = with_field rows (field_of (codes "category_mapping") id (codes "transferId")) (IsText to)

-- a payee is
abbrev pub with_payee_mapped : Rows → Text → Text → Rows
with_payee_mapped rows id to = with_field rows (field_of (codes "payee_mapping") id (codes "targetId")) (IsText to)

pub record OneStepIsTaken : Type 0 where
  -- an id stands for the target of its own row, whatever the row of the target says
  pub category : (rows : Rows) (id to : Text) → HasTarget (λ m. m.transfer_id) rows.category_mappings id to → mapped_category rows id ≡ to
  pub payee : (rows : Rows) (id to : Text) → HasTarget (λ m. m.target_id) rows.payee_mappings id to → mapped_payee rows id ≡ to
  -- what is mapped to a target that is then mapped on stays with the target
  pub category_stays : (rows : Rows) (id to on : Text) → id ≢ to → mapped_category rows id ≡ to → mapped_category (with_category_mapped rows to on) id ≡ to
  pub payee_stays : (rows : Rows) (id to on : Text) → id ≢ to → mapped_payee rows id ≡ to → mapped_payee (with_payee_mapped rows to on) id ≡ to
  -- two that are mapped to each other are exchanged
  pub categories_exchanged : (rows : Rows) (a b : Text) → a ≢ b
      → (mapped_category (with_category_mapped (with_category_mapped rows a b) b a) a ≡ b) × (mapped_category (with_category_mapped (with_category_mapped rows a b) b a) b ≡ a)
  pub payees_exchanged : (rows : Rows) (a b : Text) → a ≢ b
      → (mapped_payee (with_payee_mapped (with_payee_mapped rows a b) b a) a ≡ b) × (mapped_payee (with_payee_mapped (with_payee_mapped rows a b) b a) b ≡ a)
