use Rattle.book_rows.proofs.Resolving.{resolves}
use Rattle.book_rows.proofs.laws.mappings_are_told.Goals as goal

pub returns : goal.returns
returns c = record {
  category = λ rows x. resolves (λ m. m.transfer_id) rows.category_mappings x.category;
  payee = λ rows x. resolves (λ m. m.target_id) rows.payee_mappings x.description;
}
