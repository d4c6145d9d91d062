-- What a call leaves of the connection, whatever it answers.
use Rattle.std.proofs.Common.{arith, ◌≤◌, ◌≡◌, ◌⊎◌, ℕ, Bool, true, false, List, [], ◌∷◌, None, Ok, Err, inl, inr, sym, ap, subst, subst₂, ◌∙◌, append-nil, IsTrue, Result, OnOk, OnErr}
use Rattle.std.proofs.lemmas.Bool.{cases_Bool}
use Rattle.sqlite_value.specs.Order.{Row}
use Rattle.sqlite_value.specs.declared.value.Value.TheVariants.{Text}
use Rattle.sqlite_trees.specs.Tree.{Trees}
use Rattle.sqlite_trees.specs.View.{doubt}
use Rattle.sqlite_schema.specs.declared.schema.Schema.{Schema}
use Rattle.sqlite_schema.specs.declared.command.Command.{Command}
use Rattle.sqlite.specs.declared.error.Error.{Error}
use Rattle.sqlite.specs.Effect.{Database, IsDatabase}
use Rattle.sqlite.specs.Listing.{understood}
use Rattle.sqlite.specs.Clock.{timed}
use Rattle.sqlite.specs.State.{State, Executes, ExecutesIn, IsNotRun, RunsCommand, IsUnchanged, IsRolledBack, CommitsBy, MayCommit, Writes, Shows, Survives, HasCleanDisk, mode_of, shows_rows}
use Rattle.sqlite.specs.Does.{Does}
use Rattle.sqlite.specs.Store.{Ghosts}
use Rattle.sqlite.specs.Held.{Held, state}
use Rattle.sqlite.proofs.Callers.{IsPlain, command_of, statement_of, runs_as}
use Rattle.store_tables.specs.Named.{NamedAt, IsNamed, NamedTexts, Turned, put_text, put_command}
use Rattle.store_tables.specs.Layout.{Rises}
use Rattle.store_tables.proofs.NamedPut.{does_put}
use Rattle.store_tables.proofs.WithinLemmas.{same_command}
use Rattle.sqlite_keeper.proofs.Kept.{rules_as}
use Rattle.sqlite_keeper.specs.Queries.{IsQuery, MayAsk}
use Rattle.sqlite_keeper.specs.Adopting.{IsReady, MayBecome, Begins}
use Rattle.budget_ports.specs.declared.keeper.Record.{Record}
use Rattle.sqlite_keeper.specs.Contents.{Contents, Text as Bytes, contents_of, contents_now, MayLeave, Sound, Stands, Rests, HasTables, Inside, Adds, LeavesItself, appended}

-- a statement that is not run, or fails, leaves the database or the last commit
pub execute_err : (sql : List ℕ) (params : Row) (old new : State) (e : Error) → Executes sql params old new (Err e) → IsUnchanged old new ⊎ IsRolledBack old new
unfolding ExecutesIn IsNotRun
execute_err sql params old new e (inl (inl h)) = inl h.1
execute_err sql params old new e (inl (inr h)) = inr h.3
execute_err sql params old new e (inr h) = elim (cases_Bool (shows_rows false h.0)) [
  | inl shows ↦ inl (rw shows at h.2).1
  | inr runs ↦ ran (rw runs at h.2)
]
  where
    ran : RunsCommand old new sql h.0 (timed params h.0.formats h.1.now) (Err e) → IsUnchanged old new ⊎ IsRolledBack old new
    ran (inl same) = inl same.1
    ran (inr failed) = inr failed.3

-- where no transaction is open, that is the database as it was
pub same_after : (old new : State) → old.now ≡ old.committed → IsUnchanged old new ⊎ IsRolledBack old new → IsTrue new.is_open → new.now ≡ old.now
same_after old new settled (inl same) is_open = same.0.now_is
same_after old new settled (inr back) is_open = (back.undone is_open).0 ∙ sym settled

-- and the last commit too
pub same_commit : (old new : State) → IsUnchanged old new ⊎ IsRolledBack old new → IsTrue new.is_open → new.committed ≡ old.committed
same_commit old new (inl same) is_open = same.0.committed_is
same_commit old new (inr back) is_open = (back.undone is_open).1

pub idle_after : (old new : State) → old.in_transaction ≡ false → IsUnchanged old new ⊎ IsRolledBack old new → new.in_transaction ≡ false
idle_after old new idle (inl same) = same.0.mode ∙ idle
idle_after old new idle (inr back) = back.autocommit

module _ (sql : List ℕ) (params : Row) (s : State) (schema : Schema) (has : s.now.schema ≡ schema) (command : Command) (is : command_of (understood schema sql) ≡ command)
    (plain : IsPlain (understood schema sql)) where
  pub commits_as : (db : Trees) → CommitsBy sql params s db → MayCommit s None command (statement_of sql (understood schema sql)) params db
  unfolding CommitsBy
  commits_as db h =
      let known = sym h.1.is ∙ ap (λ s. understood s sql) has in
      let bare = subst IsPlain (sym known) plain in
      subst₂ (λ k t. MayCommit s None k t params db) (ap command_of known ∙ is) (ap (statement_of sql) known) (rw (bare.0, bare.1, append-nil params) at h.2)

-- ---- put

-- a text was put, and what the database is like is committed
pub record IsPut (spot : NamedAt) (old new : State) (name text : List ℕ) : Type 0 where
  pub is_open : IsTrue new.is_open
  pub mode : new.in_transaction ≡ old.in_transaction
  pub sound : IsDatabase new.now
  pub settled : old.in_transaction ≡ false → new.committed ≡ new.now
  pub schema : new.now.schema ≡ spot.schema
  pub turned : Turned spot old.now.trees new.now.trees name text

module _ (spot : NamedAt) (laid : IsNamed spot) (known : NamedTexts spot) (old new : State) (name text : List ℕ) (has : old.now.schema ≡ spot.schema) (sound : IsDatabase old.now) (rises : Rises (old.now.trees spot.tree)) where
  abbrev params : Row
  params = Text name ∷ Text text ∷ []

  put_is : command_of (understood spot.schema put_text) ≡ put_command spot
  put_is = same_command (understood spot.schema put_text) ∙ known.put_is

  pub put_done : (count : ℕ) → Executes put_text params old new (Ok count) → IsPut spot old new name text
  put_done count h =
      let w : Writes old new None (put_command spot) (statement_of put_text (understood spot.schema put_text)) params count = runs_as put_text params old new spot.schema has (put_command spot) put_is known.put_plain count h in
      let r = does_put spot laid old.step_limit old.now.trees name text w.tally new.now (rules_as spot.schema old.now has sound) rises
      (subst (λ s. Does old.step_limit (mode_of old) params (record { schema = s; trees = old.now.trees }) (statement_of put_text (understood spot.schema put_text)) None (put_command spot) (Ok (w.tally, new.now))) has w.changed) in
      record { is_open = w.shown.is_open; mode = w.shown.mode; sound = w.sound; settled = λ idle. w.shown.committed_is ∙ rw idle; schema = r.0; turned = r.1 }

  -- what a stop leaves was left before, or is what it made
  pub put_left : Survives old new (CommitsBy put_text params old) → HasCleanDisk new → (db : Trees) → new.may_leave db
      → old.may_leave db ⊎ ((after : Database) × (after.schema ≡ spot.schema) × IsDatabase after × Turned spot old.now.trees after.trees name text × (db ≡ after.trees))
  put_left s clean db may = elim (s.crash clean db may) [
    | inl was ↦ inl was
    | inr commits ↦ inr (ended (commits_as put_text params old spot.schema has (put_command spot) put_is known.put_plain db commits))
  ]
    where
      ended : MayCommit old None (put_command spot) (statement_of put_text (understood spot.schema put_text)) params db
          → (after : Database) × (after.schema ≡ spot.schema) × IsDatabase after × Turned spot old.now.trees after.trees name text × (db ≡ after.trees)
      ended (inl h) = absurd (elim h.0 [ inl e ↦ (let p = e in cc) | inr e ↦ (let p = e.2 in cc) ])
      ended (inr h) =
          let r = does_put spot laid old.step_limit old.now.trees name text h.1 h.2 (rules_as spot.schema old.now has sound) rises
          (subst (λ s. Does old.step_limit (mode_of old) params (record { schema = s; trees = old.now.trees }) (statement_of put_text (understood spot.schema put_text)) None (put_command spot) (Ok (h.1, h.2))) has h.3) in
          (h.2, r.0, h.4, r.1, h.5)

-- ---- what stays

-- after a call that leaves the database or the last commit, nothing is pending, as before
pub rests_still : {S : Type 0} (g : Ghosts S) (old new : Held S) → Rests g old → HasCleanDisk (state g new) → IsTrue (state g new).is_open
    → IsUnchanged (state g old) (state g new) ⊎ IsRolledBack (state g old) (state g new) → Rests g new × ((state g new).now ≡ (state g old).now)
rests_still g old new was clean is_open back =
    let same = same_after (state g old) (state g new) was.settled back is_open in (
      record {
        clean = clean;
        is_open = is_open;
        autocommit = idle_after (state g old) (state g new) was.autocommit back;
        settled = same ∙ was.settled ∙ sym (same_commit (state g old) (state g new) back is_open);
      },
      same,
    )

-- and the tables stand
pub stands_on : {S : Type 0} (g : Ghosts S) (old new : Held S) → HasTables (state g old).now → Rests g new × ((state g new).now ≡ (state g old).now) → Stands g new × (contents_now g new ≡ contents_now g old)
stands_on g old new kept rests = (record { rests = rests.0; kept = subst HasTables (sym rests.1) kept }, ap (λ (d : Database). contents_of d.trees) rests.1)

pub stands_still : {S : Type 0} (g : Ghosts S) (old new : Held S) → Stands g old → HasCleanDisk (state g new) → IsTrue (state g new).is_open
    → IsUnchanged (state g old) (state g new) ⊎ IsRolledBack (state g old) (state g new) → Stands g new × (contents_now g new ≡ contents_now g old)
stands_still g old new was clean is_open back = stands_on g old new was.kept (rests_still g old new was.rests clean is_open back)

pub on_err : {T E : Type 0} (r : Result T E) (P : Type 0) → P → OnErr r P
on_err (Ok x) P p = tt
on_err (Err e) P p = p

pub not_run : (sql : List ℕ) (ps : Row) (old new : State) (e : Error) → IsNotRun old new sql ps e → IsUnchanged old new ⊎ IsRolledBack old new
unfolding IsNotRun
not_run sql ps old new e (inl h) = inl h.1
not_run sql ps old new e (inr h) = inr h.3

pub was_open : (old new : State) → IsUnchanged old new ⊎ IsRolledBack old new → IsTrue new.is_open → IsTrue old.is_open
was_open old new (inl same) is_open = same.0.was_open
was_open old new (inr back) is_open = back.was_open is_open

-- a query was ready, so nothing is pending still, and it is a query of the same tables
pub asked : {S : Type 0} (g : Ghosts S) (old mid : Held S) (sql : List ℕ) → MayAsk g sql old → IsUnchanged (state g old) (state g mid) → doubt (state g old).is_clean ≤ doubt (state g mid).is_clean
    → HasCleanDisk (state g mid) → Rests g mid × ((state g mid).now ≡ (state g old).now) × IsQuery mid.schema sql
asked g old mid sql may same less clean =
    let early : HasCleanDisk (state g old) = omega arith in
    let was = may early same.0.was_open in
    let rests = rests_still g old mid was.0 clean same.0.is_open (inl same) in
    (rests.0, rests.1, subst (λ (d : Database). IsQuery d.schema sql) (sym rests.1) was.1)

-- a call that was refused has changed nothing, where the connection is open after it
pub refused : {S : Type 0} (g : Ghosts S) (old new : Held S) → Sound g old → doubt (state g old).is_clean ≤ doubt (state g new).is_clean
    → IsUnchanged (state g old) (state g new) ⊎ IsRolledBack (state g old) (state g new) → HasCleanDisk (state g new) → IsTrue (state g new).is_open
    → Stands g new × (contents_now g new ≡ contents_now g old) × IsTrue (state g old).is_open
refused g old new sound less back clean is_open =
    let before = was_open (state g old) (state g new) back is_open in
    let early : HasCleanDisk (state g old) = omega arith in
    let still = stands_still g old new (sound early before) clean is_open back in
    (still.0, still.1, before)

-- a statement was ready, so the connection was open; what the call after it leaves was left before, or is what it made of the contents
pub left_before : {S : Type 0} (g : Ghosts S) (old mid : Held S) (k : Contents) (made : Contents → Contents) → IsUnchanged (state g old) (state g mid)
    → Survives (state g old) (state g mid) (λ _. ⊥) → HasCleanDisk (state g mid) → MayLeave g mid k ⊎ (k ≡ made (contents_now g mid))
    → MayLeave g old k ⊎ (IsTrue (state g old).is_open × (k ≡ made (contents_now g old)))
left_before g old mid k made same survives clean (inl was) = elim (survives.crash clean was.0 was.1) [
  | inl there ↦ inl (was.0, there, was.2)
  | inr none ↦ absurd none
]
left_before g old mid k made same survives clean (inr is) = inr (same.0.was_open, is ∙ ap (λ (d : Database). made (contents_of d.trees)) same.0.now_is)

-- a statement was ready, so the connection stands as before
pub ready : {S : Type 0} (g : Ghosts S) (old mid : Held S) → Sound g old → IsUnchanged (state g old) (state g mid) → doubt (state g old).is_clean ≤ doubt (state g mid).is_clean
    → HasCleanDisk (state g mid) → Stands g mid × (contents_now g mid ≡ contents_now g old)
ready g old mid sound same less clean = let early : HasCleanDisk (state g old) = omega arith in stands_still g old mid (sound early same.0.was_open) clean same.0.is_open (inl same)

-- what the answers of one call say together
module _ {S T E : Type 0} (g : Ghosts S) (old mid new : Held S) (r : Result T E) (made : Contents → Contents) (same : contents_now g mid ≡ contents_now g old) where
  pub call_sound : OnOk r (Stands g new × (contents_now g new ≡ made (contents_now g mid))) → OnErr r (Stands g new × (contents_now g new ≡ contents_now g mid)) → Stands g new
  call_sound done failed = go r done failed
    where
      go : (x : Result T E) → OnOk x (Stands g new × (contents_now g new ≡ made (contents_now g mid))) → OnErr x (Stands g new × (contents_now g new ≡ contents_now g mid)) → Stands g new
      go (Ok x) d f = d.0
      go (Err e) d f = f.0

  pub call_done : OnOk r (Stands g new × (contents_now g new ≡ made (contents_now g mid))) → OnOk r (contents_now g new ≡ made (contents_now g old))
  call_done done = go r done
    where
      go : (x : Result T E) → OnOk x (Stands g new × (contents_now g new ≡ made (contents_now g mid))) → OnOk x (contents_now g new ≡ made (contents_now g old))
      go (Ok x) d = d.1 ∙ ap made same
      go (Err e) d = tt

  pub call_failed : OnErr r (Stands g new × (contents_now g new ≡ contents_now g mid)) → OnErr r (contents_now g new ≡ contents_now g old)
  call_failed failed = go r failed
    where
      go : (x : Result T E) → OnErr x (Stands g new × (contents_now g new ≡ contents_now g mid)) → OnErr x (contents_now g new ≡ contents_now g old)
      go (Ok x) d = tt
      go (Err e) d = d.1 ∙ same

  pub call_alone : OnOk r (Stands g new × (contents_now g new ≡ made (contents_now g mid))) → OnOk r (LeavesItself g new)
      → OnOk r ((k : Contents) → MayLeave g new k → IsTrue (state g new).is_open × (k ≡ contents_now g new))
  call_alone done only = go r done only
    where
      go : (x : Result T E) → OnOk x (Stands g new × (contents_now g new ≡ made (contents_now g mid))) → OnOk x (LeavesItself g new)
          → OnOk x ((k : Contents) → MayLeave g new k → IsTrue (state g new).is_open × (k ≡ contents_now g new))
      go (Ok x) d o = λ k left. (d.0.rests.is_open, o.only k left)
      go (Err e) d o = tt

-- of a connection that stands, a stop leaves its contents alone
pub left_alone : {S : Type 0} (g : Ghosts S) (h : Held S) (k : Contents) → ((db : Trees) → IsTrue (state g h).is_open → (state g h).may_leave db → db ≡ (state g h).committed.trees) → Stands g h → MayLeave g h k → k ≡ contents_now g h
left_alone g h k settled stands left = left.2 ∙ ap contents_of (settled left.0 stands.rests.is_open left.1 ∙ ap (λ (d : Database). d.trees) (sym stands.rests.settled))

-- ---- a transaction

-- it begins over the store as it stands
pub begun : {S : Type 0} (g : Ghosts S) (old tx : Held S) → tx ≡ record old { in_transaction = true } → IsTrue (state g old).is_open → HasTables (state g old).now → Inside g tx
begun {S = S} g old tx is is_open kept = record {
  is_open = subst (λ (h : Held S). IsTrue (state g h).is_open) (sym is) is_open;
  inside = ap (λ (h : Held S). h.in_transaction) is;
  kept = subst (λ (h : Held S). HasTables (state g h).now) (sym is) kept;
}

-- what was added within it stands once it is committed
pub adds_stand : {S : Type 0} (g : Ghosts S) (old tx mid new : Held S) (group : Bytes) (batch : List Record) → tx ≡ record old { in_transaction = true } → HasCleanDisk (state g new) → new.in_transaction ≡ false → Adds g tx mid group batch
    → Shows (state g mid) (state g new) (state g mid).now (state g mid).now false → Stands g new × (contents_now g new ≡ appended (contents_now g old) group batch)
adds_stand {S = S} g old tx mid new group batch is clean ended adds shows = (
  record {
    rests = record { clean = clean; is_open = shows.is_open; autocommit = ended; settled = shows.now_is ∙ sym shows.committed_is };
    kept = subst HasTables (sym shows.now_is) adds.inside.kept;
  },
  ap (λ (d : Database). contents_of d.trees) shows.now_is ∙ adds.contents ∙ ap (λ (h : Held S). appended (contents_now g h) group batch) is,
)

pub adds_alone : {S : Type 0} (g : Ghosts S) (mid new : Held S) → ((db : Trees) → IsTrue (state g new).is_open → (state g new).may_leave db → db ≡ (state g new).committed.trees)
    → Shows (state g mid) (state g new) (state g mid).now (state g mid).now false → LeavesItself g new
adds_alone g mid new settled shows = record { only = λ k left. left.2 ∙ ap contents_of (settled left.0 shows.is_open left.1 ∙ ap (λ (d : Database). d.trees) (shows.committed_is ∙ sym shows.now_is)) }

-- a transaction begins over a store that is to become something
pub begins_as : {S : Type 0} (g : Ghosts S) (is_new : Bool) (old tx : Held S) (k : Contents) → tx ≡ record old { in_transaction = true } → HasCleanDisk (state g tx) → MayBecome g is_new old k → IsTrue (state g old).is_open → Begins g is_new tx k
begins_as {S = S} g is_new old tx k is clean may is_open =
    let early : HasCleanDisk (state g old) = subst (λ (h : Held S). HasCleanDisk (state g h)) is clean in
    record {
      is_open = subst (λ (h : Held S). IsTrue (state g h).is_open) (sym is) is_open;
      inside = ap (λ (h : Held S). h.in_transaction) is;
      ready = subst (λ (h : Held S). IsReady is_new (state g h).now k) (sym is) (may early is_open).1;
    }
