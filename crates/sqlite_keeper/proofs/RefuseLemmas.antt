-- Why the making of a new store is refused.
use Rattle.std.proofs.Common.{arith, true, ◌≡◌, ℕ, [], ◌∷◌, Option, None, Some, Ok, Err, refl, subst, ◌∙◌, IsSome}
use Rattle.sqlite_value.specs.Order.{Row}
use Rattle.sqlite_value.specs.declared.value.Value.TheVariants.{Text}
use Rattle.sqlite.specs.Command.TheVariants.{CreateTable}
use Rattle.sqlite.specs.declared.error.Error.{Error}
use Rattle.sqlite.specs.Does.{Does}
use Rattle.sqlite.specs.Listing.{understood}
use Rattle.sqlite.specs.Store.{Ghosts}
use Rattle.sqlite.specs.Held.{Held, state}
use Rattle.sqlite.specs.State.{ExecutesInside}
use Rattle.sqlite_tied.specs.Compute.{everything}
use Rattle.store_tables.specs.Texts.{grps_text, entries_text, named_text, statement_of}
use Rattle.store_tables.specs.Tables.{grps, entries, named, with_groups, with_entries}
use Rattle.store_tables.specs.Named.{named_made, put_text, put_command}
use Rattle.store_tables.specs.Grouped.{mode}
use Rattle.store_tables.proofs.NamedTables.{made_named}
use Rattle.store_tables.proofs.TextLemmas.{all_texts, making_texts}
use Rattle.store_tables.proofs.WithinLemmas.{same_command}
use Rattle.sqlite_keeper.specs.Tables.{no_schema, made_schema}
use Rattle.sqlite_keeper.specs.Contents.{Contents}
use Rattle.sqlite_keeper.specs.Adopting.{Begins, version_name, version_two, IsReason}
use Rattle.sqlite_keeper.proofs.Kept.{rules_as}
use Rattle.sqlite_keeper.proofs.StopLemmas.{Acts, stop_reason}
use Rattle.sqlite_keeper.proofs.CreateLemmas.{grps_fresh, counters_fresh, entries_fresh, named_fresh, creates, creates_both}
use Rattle.sqlite_keeper.proofs.InsertLemmas.{inserts}
use Rattle.sqlite_keeper.proofs.MakeLemmas.{same_statement, entries_counted, first_written, second_schema, second_written, third_schema, third_written, all_made}

grps_acts : Acts grps_text 0 (understood no_schema grps_text)
unfolding understood everything
grps_acts = (omega arith, refl, refl)

entries_acts : Acts entries_text 0 (understood (with_groups no_schema) entries_text)
unfolding understood everything
entries_acts = (omega arith, refl, refl)

named_acts : Acts named_text 0 (understood (with_entries no_schema) named_text)
unfolding understood everything
named_acts = (omega arith, refl, refl)

put_acts : Acts put_text 2 (understood made_schema put_text)
unfolding understood everything
put_acts = (omega arith, refl, refl)

put_whole : statement_of put_text (understood made_schema put_text) ≡ put_text
unfolding understood everything
put_whole = refl

abbrev version_params : Row
version_params = Text version_name ∷ Text version_two ∷ []

module _ {S : Type 0} (g : Ghosts S) (a : Held S) (k : Contents) (begins : Begins g true a k) where
  module _ (b : Held S) where
    ungrouped : (stop : Option Error) → Does (state g a).step_limit mode [] (state g a).now grps_text None CreateTable (Err stop) → ⊥
    ungrouped stop h = creates_both no_schema grps_text (grps 0) grps_fresh all_texts.first_lacks counters_fresh (state g a).step_limit (state g a).now begins.ready.0 stop h

    pub first_reason : (e : Error) → ExecutesInside 0 grps_text [] (state g a) (state g b) (Err e) → IsReason (state g a) (state g b) e
    first_reason e = stop_reason grps_text [] (state g a) (state g b) e no_schema begins.ready.0 begins.is_open CreateTable (same_command (understood no_schema grps_text) ∙ all_texts.grps_made)
        (same_statement grps_text (understood no_schema grps_text) ∙ making_texts.grps_made_whole) making_texts.grps_made_plain grps_acts tt (ungrouped None) (λ stop. absurd (ungrouped (Some e) stop))

module _ {S : Type 0} (g : Ghosts S) (a b : Held S) (k : Contents) (begins : Begins g true a k) (m : ℕ) (one : ExecutesInside 0 grps_text [] (state g a) (state g b) (Ok m)) where
  module _ (c : Held S) where
    listed : b.schema ≡ with_groups no_schema
    listed = second_schema g a b k begins m one

    unentered : (stop : Option Error) → Does (state g b).step_limit mode [] (state g b).now entries_text None CreateTable (Err stop) → ⊥
    unentered stop h = creates (with_groups no_schema) entries_text (entries 0) entries_fresh entries_counted (state g b).step_limit (state g b).now listed stop h

    pub second_reason : (e : Error) → ExecutesInside 0 entries_text [] (state g b) (state g c) (Err e) → IsReason (state g b) (state g c) e
    second_reason e = stop_reason entries_text [] (state g b) (state g c) e (with_groups no_schema) listed (first_written g a b k begins m one).0.shown.is_open CreateTable (same_command (understood (with_groups no_schema) entries_text) ∙ all_texts.entries_made)
        (same_statement entries_text (understood (with_groups no_schema) entries_text) ∙ making_texts.entries_made_whole) making_texts.entries_made_plain entries_acts tt (unentered None) (λ stop. absurd (unentered (Some e) stop))

  module _ (c : Held S) (n : ℕ) (two : ExecutesInside 0 entries_text [] (state g b) (state g c) (Ok n)) where
    module _ (d : Held S) where
      beside : c.schema ≡ with_entries no_schema
      beside = third_schema g a b k begins m one c n two

      unnamed : (stop : Option Error) → Does (state g c).step_limit mode [] (state g c).now named_text None CreateTable (Err stop) → ⊥
      unnamed stop h = creates (with_entries no_schema) named_text (named 0) named_fresh all_texts.made_has (state g c).step_limit (state g c).now beside stop h

      pub third_reason : (e : Error) → ExecutesInside 0 named_text [] (state g c) (state g d) (Err e) → IsReason (state g c) (state g d) e
      third_reason e = stop_reason named_text [] (state g c) (state g d) e (with_entries no_schema) beside (second_written g a b k begins m one c n two).0.shown.is_open CreateTable (same_command (understood (with_entries no_schema) named_text) ∙ all_texts.named_made)
          (same_statement named_text (understood (with_entries no_schema) named_text) ∙ making_texts.named_made_whole) making_texts.named_made_plain named_acts tt (unnamed None) (λ stop. absurd (unnamed (Some e) stop))

    module _ (d : Held S) (o : ℕ) (three : ExecutesInside 0 named_text [] (state g c) (state g d) (Ok o)) (e : Held S) where
      all : (d.schema ≡ made_schema) × ((state g d).now.trees 0 ≡ []) × ((state g d).now.trees 3 ≡ []) × ((state g d).now.trees 5 ≡ [])
      all = all_made g a b k begins m one c n two d o three

      stopped : (s : Option Error) → Does (state g d).step_limit mode version_params (state g d).now put_text None (put_command named_made) (Err s) → IsSome s × IsSome (state g d).step_limit
      stopped s h = inserts (state g d).step_limit (state g d).now.trees all.1 all.2 all.3 (rules_as made_schema (state g d).now all.0 (third_written g a b k begins m one c n two d o three).0.sound) s
          (subst (λ schema. Does (state g d).step_limit mode version_params (record { schema = schema; trees = (state g d).now.trees }) put_text None (put_command named_made) (Err s)) all.0 h)

      pub fourth_reason : (why : Error) → ExecutesInside 0 put_text version_params (state g d) (state g e) (Err why) → IsReason (state g d) (state g e) why
      fourth_reason why = stop_reason put_text version_params (state g d) (state g e) why made_schema all.0 (third_written g a b k begins m one c n two d o three).0.shown.is_open (put_command named_made) (same_command (understood made_schema put_text) ∙ made_named.put_is)
          (same_statement put_text (understood made_schema put_text) ∙ put_whole) made_named.put_plain put_acts tt (λ big. let no = (stopped None big).0 in cc) (λ stop. (stopped (Some why) stop).1)
