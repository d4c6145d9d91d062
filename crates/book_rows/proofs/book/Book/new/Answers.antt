use Rattle.book_rows.proofs.Empty.{empty_indexed}
use Rattle.book_rows.proofs.book.Book.new.Goals as goal

pub invariant_of-result : goal.invariant_of-result
invariant_of-result c = λ _. empty_indexed _ c.new-19.result c.new-5.result c.new-6.result c.new-7.result c.new-13.result c.new-14.ensures.empty c.new-15.ensures.empty c.new-16.ensures.empty c.new-17.ensures.empty c.new-18.ensures.empty c.new-19.ensures.empty c.new-5.ensures c.new-6.ensures c.new-7.ensures c.new-13.ensures
