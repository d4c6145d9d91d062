use Rattle.generated_books.proofs.Valid.{category_named}
use Rattle.generated_books.proofs.contents.category_in.Goals as goal

pub text_in-requires : goal.text_in-requires
text_in-requires c = category_named
