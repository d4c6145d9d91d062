-- Both layouts of the second version are known.
use Rattle.std.proofs.Common.{inl, inr, sym, subst}
use Rattle.store_tables.specs.Texts.{Tables, made_tables, moved_tables}
use Rattle.store_tables.specs.Known.{IsSecond, Known}
use Rattle.store_tables.proofs.TextLemmas.{made_texts, moved_texts}
use Rattle.store_tables.proofs.LayoutLemmas.{made_layout, moved_layout}
use Rattle.store_tables.proofs.NamedTables.{made_is, made_named, moved_is, moved_named}
use Rattle.store_tables.proofs.StoredLemmas.{is_read}

made_known : Known made_tables
made_known = record {
  layout = made_layout;
  texts = made_texts;
  named = made_is;
  named_texts = made_named;
  reads = λ db sound. (is_read db).made sound;
}

moved_known : Known moved_tables
moved_known = record {
  layout = moved_layout;
  texts = moved_texts;
  named = moved_is;
  named_texts = moved_named;
  reads = λ db sound. (is_read db).moved sound;
}

pub known : (t : Tables) → IsSecond t → Known t
known t (inl is) = subst Known (sym is) made_known
known t (inr is) = subst Known (sym is) moved_known
