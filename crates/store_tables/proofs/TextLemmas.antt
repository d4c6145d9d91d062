-- Each text computes.
use Rattle.std.proofs.Common.{refl}
use Rattle.sqlite_tied.specs.Compute.{everything}
use Rattle.sqlite.specs.Listing.{understood}
use Rattle.store_tables.specs.Texts.{Texts, TextsOfAll, TextsOfMaking, made_tables, moved_tables}

pub made_texts : Texts made_tables
unfolding understood everything Rattle.sqlite_schema.specs.Names.same_name
made_texts = record {
  find_is = refl;
  find_plain = (refl, refl);
  find_unlisted = refl;
  group_is = refl;
  group_shows = (refl, refl);
  entry_is = refl;
  entry_plain = (refl, refl);
  since_is = refl;
  since_plain = (refl, refl);
  since_unlisted = refl;
  counts_in = refl;
}

pub moved_texts : Texts moved_tables
unfolding understood everything Rattle.sqlite_schema.specs.Names.same_name
moved_texts = record {
  find_is = refl;
  find_plain = (refl, refl);
  find_unlisted = refl;
  group_is = refl;
  group_shows = (refl, refl);
  entry_is = refl;
  entry_plain = (refl, refl);
  since_is = refl;
  since_plain = (refl, refl);
  since_unlisted = refl;
  counts_in = refl;
}

pub all_texts : TextsOfAll
unfolding understood everything Rattle.sqlite_schema.specs.Names.same_name
all_texts = record {
  grps_defined = refl;
  entries_defined = refl;
  counters_defined = refl;
  first_lacks = refl;
  moved_lacks = refl;
  has = refl;
  made_has = refl;
  grps_made = refl;
  grps_moved = refl;
  entries_made = refl;
  entries_moved = refl;
  named_made = refl;
  all_is = refl;
  all_plain = (refl, refl);
  all_unlisted = refl;
  empty_is = refl;
  empty_plain = (refl, refl);
}

pub making_texts : TextsOfMaking
unfolding understood everything Rattle.sqlite_schema.specs.Names.same_name
making_texts = record {
  grps_made_plain = (refl, refl);
  grps_made_whole = refl;
  grps_moved_plain = (refl, refl);
  grps_moved_whole = refl;
  entries_made_plain = (refl, refl);
  entries_made_whole = refl;
  entries_moved_plain = (refl, refl);
  entries_moved_whole = refl;
  named_made_plain = (refl, refl);
  named_made_whole = refl;
  named_defined = refl;
}
