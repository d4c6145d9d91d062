-- Both layouts.
use Rattle.std.proofs.Common.{arith, refl, inl, inr}
use Rattle.sqlite_value.specs.Keys.{first_key, plain}
use Rattle.store_tables.specs.Texts.{made_tables, moved_tables}
use Rattle.store_tables.specs.Layout.{Layout}

pub made_layout : Layout made_tables
unfolding Rattle.sqlite_schema.specs.Names.same_name first_key Rattle.sqlite_value.specs.Keys.joined
made_layout = record {
  grps_there = refl;
  entries_there = refl;
  counts_in = refl;
  unreferred = λ tree olds new. refl;
  has_grps = inl refl;
  has_entries = inr (inr (inl refl));
  has_named = inr (inr (inr (inl refl)));
  apart = refl;
  named_apart = (λ same. omega (arith, same), λ same. omega (arith, same), λ same. omega (arith, same));
  grps_indexed = inl refl;
  grps_guarded = refl;
  entries_indexed = inr (inl refl);
  entries_guarded = refl;
  reads_groups = λ db. refl;
  reads_entries = λ db. refl;
  parent_is = (plain, refl, refl);
  conflict_is = λ new r. refl;
}

pub moved_layout : Layout moved_tables
unfolding Rattle.sqlite_schema.specs.Names.same_name first_key Rattle.sqlite_value.specs.Keys.joined
moved_layout = record {
  grps_there = refl;
  entries_there = refl;
  counts_in = refl;
  unreferred = λ tree olds new. refl;
  has_grps = inr (inr (inl refl));
  has_entries = inr (inr (inr (inr (inl refl))));
  has_named = inr (inl refl);
  apart = refl;
  named_apart = (λ same. omega (arith, same), λ same. omega (arith, same), λ same. omega (arith, same));
  grps_indexed = inr (inr (inl refl));
  grps_guarded = refl;
  entries_indexed = inr (inr (inr (inl refl)));
  entries_guarded = refl;
  reads_groups = λ db. refl;
  reads_entries = λ db. refl;
  parent_is = (plain, refl, refl);
  conflict_is = λ new r. refl;
}
