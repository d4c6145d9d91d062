-- A store that was read again is taken.
use Rattle.std.proofs.Common.{arith, ◌≡◌, ◌⊎◌, true, false, [], None, Some, IsTrue, IsSome, inl, inr, refl, sym, ap, subst, ◌∙◌, true≢false}
use Rattle.std.specs.Prelude.{◌≢◌}
use Rattle.std.specs.FinMap.{get}
use Rattle.sqlite_catalog.specs.Listing.{IsSound}
use Rattle.sqlite_trees.specs.Tree.{Trees}
use Rattle.sqlite.specs.Schema.{Schema}
use Rattle.sqlite.specs.Store.{Ghosts}
use Rattle.sqlite.specs.State.{HasCleanDisk}
use Rattle.sqlite.specs.Held.{Held, state}
use Rattle.sqlite_keeper.specs.Tables.{IsOurs, IsSimple, first_schema, made_schema, moved_schema, no_schema}
use Rattle.sqlite_keeper.specs.Contents.{Contents, contents_of, contents_now}
use Rattle.sqlite_keeper.specs.Keeping.{Keeping, TellsAll}
use Rattle.sqlite_keeper.specs.Adopting.{HasVersion, IsToTake, IsToKeep, moved, new_contents, version_name, version_one, version_two}
use Rattle.sqlite_keeper.specs.Adopted.{IsTaken}
use Rattle.sqlite_keeper.specs.Taking.{IsSecondStore, IsStore, IsStoreOrBlank, IsKeptOrBlank, HasFailedSince}

made_simple : IsSimple made_schema
made_simple = record { tables = (tt, (tt, (tt, (tt, tt)))); views = refl }

moved_simple : IsSimple moved_schema
moved_simple = record { tables = (tt, (tt, (tt, (tt, (tt, tt))))); views = refl }

first_simple : IsSimple first_schema
first_simple = record { tables = (tt, (tt, tt)); views = refl }

none_simple : IsSimple no_schema
none_simple = record { tables = tt; views = refl }

-- the schema that was read again is the one that is listed
module _ (schema : Schema) (db : Trees) (listed : (s : Schema) → IsSimple s → IsSound s db → schema ≡ s) where
  pub second_listed : IsSecondStore db → IsOurs schema
  second_listed (inl is) = inl (listed made_schema made_simple is)
  second_listed (inr is) = inr (listed moved_schema moved_simple is)

  pub store_listed : IsStore db → HasVersion schema
  store_listed (inl second) = inl (second_listed second)
  store_listed (inr first) = inr (listed first_schema first_simple first)

  pub none_listed : IsSound no_schema db → schema ≡ no_schema
  none_listed none = listed no_schema none_simple none

  pub to_take : IsStoreOrBlank db → IsToTake schema
  to_take (inl store) = inl (store_listed store)
  to_take (inr none) = inr (none_listed none)

  pub to_keep : (now : Trees) → now ≡ db → IsKeptOrBlank db → IsToKeep schema (contents_of now)
  to_keep now same (inl store) = inl (store_listed store.0, λ e. store.1 (ap (λ (d : Trees). get (contents_of d).texts version_name) (sym same) ∙ e))
  to_keep now same (inr none) = inr (none_listed none)

module _ {S : Type 0} (g : Ghosts S) (old again : Held S) (k : Keeping S) (taken : IsTaken g again k) (rows : HasCleanDisk (state g again) → IsTrue (state g again).is_open × ((state g again).now.trees ≡ (state g old).committed.trees))
    (sound : HasCleanDisk (state g again) → IsSound again.schema (state g old).committed.trees) (listed : HasCleanDisk (state g again) → (s : Schema) → IsSimple s → IsSound s (state g old).committed.trees → again.schema ≡ s) where
  abbrev db : Trees
  db = (state g old).committed.trees

  early : HasCleanDisk (state g k.conn) → HasCleanDisk (state g again)
  early clean = omega (arith, clean, taken.clean)

  held : HasCleanDisk (state g k.conn) → contents_now g again ≡ contents_of db
  held clean = ap contents_of (rows (early clean)).1

  pub taken_again : TellsAll g k → ((contents_now g k.conn ≡ contents_of db) × IsSecondStore db) ⊎ (((contents_now g k.conn ≡ moved (contents_of db)) × IsSound first_schema db) ⊎ ((contents_now g k.conn ≡ new_contents) × IsSound no_schema db))
  taken_again tells = by (taken.ours tells.ours)
    where
      second : IsOurs again.schema → IsSecondStore db
      second (inl is) = inl (subst (λ s. IsSound s db) is (sound (early tells.clean)))
      second (inr is) = inr (subst (λ s. IsSound s db) is (sound (early tells.clean)))

      by : IsToTake again.schema → ((contents_now g k.conn ≡ contents_of db) × IsSecondStore db) ⊎ (((contents_now g k.conn ≡ moved (contents_of db)) × IsSound first_schema db) ⊎ ((contents_now g k.conn ≡ new_contents) × IsSound no_schema db))
      by (inl (inl mine)) = inl ((taken.kept mine tells.unshut tells.clean).1 ∙ held tells.clean, second mine)
      by (inl (inr first)) = inr (inl ((taken.moved first tells.unshut tells.clean (inl tells.ours)).1 ∙ ap moved (held tells.clean), subst (λ s. IsSound s db) first (sound (early tells.clean))))
      by (inr none) = inr (inr ((taken.made none tells.unshut tells.clean).1, subst (λ s. IsSound s db) none (sound (early tells.clean))))

  pub taken_kept : IsSecondStore db → k.is_shut ≡ false → HasCleanDisk (state g k.conn) → TellsAll g k × (contents_now g k.conn ≡ contents_of db) × (get (contents_now g k.conn).texts version_name ≡ Some version_two)
  taken_kept second unshut clean =
      let it = taken.kept (second_listed again.schema db (listed (early clean)) second) unshut clean in
      (it.0, it.1 ∙ held clean, ap (λ (c : Contents). get c.texts version_name) it.1 ∙ it.2)

  pub taken_moved : IsSound first_schema db → k.is_shut ≡ false → HasCleanDisk (state g k.conn) → get (contents_of db).texts version_name ≢ Some version_two
      → TellsAll g k × (contents_now g k.conn ≡ moved (contents_of db)) × (get (contents_of db).texts version_name ≡ Some version_one) × ((state g k.conn).now.trees 0 ≡ [])
  taken_moved first unshut clean other =
      let it = taken.moved (listed (early clean) first_schema first_simple first) unshut clean (inr (λ e. other (ap (λ (c : Contents). get c.texts version_name) (sym (held clean)) ∙ e))) in
      (it.0, it.1 ∙ ap moved (held clean), ap (λ (c : Contents). get c.texts version_name) (sym (held clean)) ∙ it.2, it.3)

  pub taken_made : IsSound no_schema db → k.is_shut ≡ false → HasCleanDisk (state g k.conn) → TellsAll g k × (contents_now g k.conn ≡ new_contents)
  taken_made none unshut clean = taken.made (none_listed again.schema db (listed (early clean)) none) unshut clean

  pub taken_reason : again.in_transaction ≡ false → again.step_limit ≡ None → k.is_shut ≡ true → IsKeptOrBlank db → HasCleanDisk (state g k.conn) → HasFailedSince g old k.conn
  taken_reason idle unlimited shut keep clean =
      let it = rows (early clean) in (
        again,
        record { is_open = it.0; idle = idle; rows = it.1; unlimited = unlimited },
        elim (taken.reason shut (to_keep again.schema db (listed (early clean)) (state g again).now.trees it.1 keep) it.0 clean) [
          | inl more ↦ more
          | inr limit ↦ absurd (true≢false (sym (subst IsSome unlimited limit)))
        ],
      )

  pub taken_shut : k.is_shut ≡ true → IsStoreOrBlank db → HasCleanDisk (state g k.conn) → IsTrue (state g k.conn).is_open → contents_now g k.conn ≡ contents_of db
  taken_shut shut store clean is_open = taken.shut shut (to_take again.schema db (listed (early clean)) store) clean is_open ∙ held clean
