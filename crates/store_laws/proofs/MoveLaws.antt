-- What a stop leaves of a store of the first version.
use Rattle.std.proofs.Common.{◌≡◌, ◌⊎◌, inl, inr, false, Some, ◌∙◌}
use Rattle.std.specs.Prelude.{◌≢◌}
use Rattle.std.specs.FinMap.{get}
use Rattle.sqlite.specs.Store.{Ghosts}
use Rattle.sqlite.specs.State.{HasCleanDisk}
use Rattle.sqlite.specs.Held.{Held, state}
use Rattle.sqlite_keeper.specs.Tables.{first_schema}
use Rattle.sqlite_keeper.specs.Contents.{Contents, MayLeave, contents_now}
use Rattle.sqlite_keeper.specs.Keeping.{Keeping}
use Rattle.sqlite_keeper.specs.Adopting.{LeavesOrBegins, moved, version_name, version_two}
use Rattle.sqlite_keeper.specs.Adopted.{IsTaken}
use Rattle.sqlite_keeper.proofs.AdoptLemmas.{first_not_blank}

pub either_left : {S : Type 0} (g : Ghosts S) (old new : Held S) → old.schema ≡ first_schema → ((c : Contents) → MayLeave g old c → c ≡ contents_now g old) → LeavesOrBegins g old new
    → (c : Contents) → MayLeave g new c → (c ≡ contents_now g old) ⊎ (c ≡ moved (contents_now g old))
either_left g old new first settled leaves c there = elim (leaves c there) [
  | inl before ↦ inl (settled c before)
  | inr begun ↦ elim begun [ inl made ↦ absurd (first_not_blank old.schema first made.0) | inr it ↦ inr it.1 ]
]

pub second_left : {S : Type 0} (g : Ghosts S) (old : Held S) (k : Keeping S) → IsTaken g old k → old.schema ≡ first_schema → k.is_shut ≡ false → get (contents_now g old).texts version_name ≢ Some version_two → HasCleanDisk (state g k.conn)
    → (c : Contents) → MayLeave g k.conn c → c ≡ moved (contents_now g old)
second_left g old k taken first unshut other clean c there =
    let it = taken.moved first unshut clean (inr other) in
    (taken.alone c (record { unshut = unshut; ours = it.0.ours; clean = clean; left = there })).1 ∙ it.1
