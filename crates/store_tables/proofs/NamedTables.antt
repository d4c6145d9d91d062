-- The table of texts in the three layouts.
use Rattle.std.proofs.Common.{◌≡◌, List, [], length, refl, inl, inr}
use Rattle.std.specs.Prelude.{◌==◌}
use Rattle.std.proofs.lemmas.Bool.{cases_Bool}
use Rattle.sqlite_tied.specs.Compute.{everything}
use Rattle.sqlite_value.specs.Order.{Row}
use Rattle.sqlite_value.specs.Keys.{first_key}
use Rattle.sqlite_schema.specs.declared.schema.Keys.TheVariants.{Enforced}
use Rattle.sqlite_rules.specs.Action.{works}
use Rattle.sqlite.specs.Listing.{understood}
use Rattle.store_tables.specs.Tables.{made_schema, moved_schema}
use Rattle.store_tables.specs.Named.{IsNamed, NamedTexts, named_first, named_made, named_moved}

made_acts : (olds news : List Row) → works made_schema Enforced 0 5 olds news ≡ []
made_acts olds news = elim (cases_Bool (length news == 0)) [ inl none ↦ rw none refl | inr some ↦ rw some refl ]

moved_acts : (olds news : List Row) → works moved_schema Enforced 0 2 olds news ≡ []
moved_acts olds news = elim (cases_Bool (length news == 0)) [ inl none ↦ rw none refl | inr some ↦ rw some refl ]

pub first_is : IsNamed named_first
unfolding Rattle.sqlite_schema.specs.Names.same_name first_key Rattle.sqlite_value.specs.Keys.joined
first_is = record {
  there = refl;
  has = inr (inl refl);
  indexed = inr (inl refl);
  guarded = refl;
  reads = λ db. refl;
  unreferred = λ olds news. refl;
  conflict_is = λ new r. refl;
}

pub made_is : IsNamed named_made
unfolding Rattle.sqlite_schema.specs.Names.same_name first_key Rattle.sqlite_value.specs.Keys.joined
made_is = record {
  there = refl;
  has = inr (inr (inr (inl refl)));
  indexed = inr (inr (inl refl));
  guarded = refl;
  reads = λ db. refl;
  unreferred = made_acts;
  conflict_is = λ new r. refl;
}

pub moved_is : IsNamed named_moved
unfolding Rattle.sqlite_schema.specs.Names.same_name first_key Rattle.sqlite_value.specs.Keys.joined
moved_is = record {
  there = refl;
  has = inr (inl refl);
  indexed = inr (inl refl);
  guarded = refl;
  reads = λ db. refl;
  unreferred = moved_acts;
  conflict_is = λ new r. refl;
}

pub first_named : NamedTexts named_first
unfolding understood everything Rattle.sqlite_schema.specs.Names.same_name
first_named = record {
  get_is = refl;
  get_plain = (refl, refl);
  get_unlisted = refl;
  put_is = refl;
  put_plain = (refl, refl);
  names_is = refl;
  names_plain = (refl, refl);
  names_unlisted = refl;
}

pub made_named : NamedTexts named_made
unfolding understood everything Rattle.sqlite_schema.specs.Names.same_name
made_named = record {
  get_is = refl;
  get_plain = (refl, refl);
  get_unlisted = refl;
  put_is = refl;
  put_plain = (refl, refl);
  names_is = refl;
  names_plain = (refl, refl);
  names_unlisted = refl;
}

pub moved_named : NamedTexts named_moved
unfolding understood everything Rattle.sqlite_schema.specs.Names.same_name
moved_named = record {
  get_is = refl;
  get_plain = (refl, refl);
  get_unlisted = refl;
  put_is = refl;
  put_plain = (refl, refl);
  names_is = refl;
  names_plain = (refl, refl);
  names_unlisted = refl;
}
