use Rattle.book_rows.proofs.Following.{no_fields, rows_follow, one_book, unknown_stays, row_there}
use Rattle.book_rows.proofs.laws.rows_follow_fields.Goals as goal

pub returns : goal.returns
returns c = record {
  none = no_fields;
  set = λ values rows field value are. rows_follow values field value rows are;
  one = one_book;
  unknown = unknown_stays;
  there = row_there;
}
