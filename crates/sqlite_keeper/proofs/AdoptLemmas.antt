-- What is known of a store that is taken.
use Rattle.std.proofs.Common.{arith, true≢false, ℕ, length, [], ◌≡◌, ◌≤◌, Bool, true, false, IsTrue, Some, inl, inr, refl, sym, ap, subst, ◌∙◌}
use Rattle.std.specs.Prelude.{◌≢◌, if◌then◌else◌}
use Rattle.std.proofs.lemmas.Bool.{cases_Bool}
use Rattle.budget_ports.specs.Keeper.{IsAlone}
use Rattle.sqlite_keeper.specs.Keeping.{Keeping, TellsAll, MayBeLeft}
use Rattle.std.specs.FinMap.{get}
use Rattle.sqlite_trees.specs.View.{doubt}
use Rattle.sqlite_trees.specs.Tree.{Trees}
use Rattle.sqlite.specs.Table.{Table}
use Rattle.sqlite.specs.Schema.{Schema}
use Rattle.sqlite.specs.State.{HasCleanDisk, IsLive}
use Rattle.sqlite.specs.Effect.{Database}
use Rattle.sqlite.specs.Held.{Held, state}
use Rattle.sqlite.specs.Store.{Ghosts}
use Rattle.sqlite_rules.specs.Lists.{Has}
use Rattle.store_tables.specs.Tables.{grps, entries, named}
use Rattle.store_tables.proofs.KnownTables.{known}
use Rattle.sqlite_keeper.specs.Tables.{IsOurs, items, first_schema, no_schema}
use Rattle.sqlite_keeper.specs.Contents.{Contents, Rests, Stands, HasTables, IsFirst, MayLeave, contents_of, contents_now}
use Rattle.sqlite_keeper.specs.Queries.{LeavesAll, HasWords}
use Rattle.sqlite_keeper.specs.Adopting.{IsInOrder, HasVersion, IsToTake, IsToKeep, TellsVersion, MayBecome, IsVersion, HasReason, IsStopped, LeavesOr, LeavesOrBegins, moved, new_contents, version_name, version_one, version_two}
use Rattle.sqlite_keeper.specs.Adopted.{IsTaken, IsGivenBack}
use Rattle.sqlite_keeper.specs.declared.keeper.AdoptFault.{AdoptFault}
use Rattle.sqlite.specs.declared.error.Error.{Error}
use Rattle.sqlite_keeper.specs.declared.keeper.AdoptFault.TheVariants.{Refused, NoMemory}
use Rattle.sqlite_keeper.proofs.Calls.{was_open, rests_still, left_alone}
use Rattle.sqlite_keeper.proofs.CauseLemmas.{has_since}
use Rattle.sqlite_keeper.proofs.Kept.{tables_of, kept_texts, first_texts}

-- a connection in order, outside a transaction
module _ {S : Type 0} (g : Ghosts S) (h : Held S) (idle : h.in_transaction ≡ false) (settled : IsTrue (state g h).is_open → (state g h).now ≡ (state g h).committed) (live : IsLive (state g h)) (ordered : IsInOrder g h) where
  pub resting : HasCleanDisk (state g h) → IsTrue (state g h).is_open → Rests g h
  resting clean is_open = record { clean = clean; is_open = is_open; autocommit = idle; settled = settled is_open }

  pub ours_kept : IsOurs h.schema → HasCleanDisk (state g h) → IsTrue (state g h).is_open → HasTables (state g h).now
  ours_kept ours clean is_open =
      let it = tables_of h.schema ours in
      let t = it.0 in
      let l = (known t it.1).layout in
      let there : (u : Table) → Has t.schema.tables u → Has h.schema.tables u = λ u has. subst (λ (s : Schema). Has s.tables u) (sym it.2) has in (
        t,
        record {
          second = it.1;
          schema = it.2;
          sound = (live is_open).0;
          groups = ordered clean is_open (grps t.grps_tree) (there _ l.has_grps);
          entries = ordered clean is_open (entries t.entries_tree) (there _ l.has_entries);
          named = ordered clean is_open (named t.named_tree) (there _ l.has_named);
        },
      )

  pub first_is : h.schema ≡ first_schema → HasCleanDisk (state g h) → IsTrue (state g h).is_open → IsFirst (state g h).now
  first_is is clean is_open =
      let there : (u : Table) → Has first_schema.tables u → Has h.schema.tables u = λ u has. subst (λ (s : Schema). Has s.tables u) (sym is) has in
      record {
        schema = is;
        sound = (live is_open).0;
        items = ordered clean is_open (items 0) (there _ (inl refl));
        named = ordered clean is_open (named 2) (there _ (inr (inl refl)));
      }

  pub words : HasVersion h.schema → HasWords g h
  words (inl ours) clean is_open = let kept = ours_kept ours clean is_open in (resting clean is_open, kept_texts kept.0 (state g h).now kept.1)
  words (inr first) clean is_open = (resting clean is_open, first_texts (state g h).now (first_is first clean is_open))

  -- what was read changed nothing
  module _ (mid : Held S) (less : doubt (state g h).is_clean ≤ doubt (state g mid).is_clean) where
    pub read_stands : IsOurs h.schema → HasCleanDisk (state g mid) → IsTrue (state g h).is_open → Rests g mid × ((state g mid).now ≡ (state g h).now) → Stands g mid
    read_stands ours clean is_open read =
        let early : HasCleanDisk (state g h) = omega arith in
        record { rests = read.0; kept = subst HasTables (sym read.1) (ours_kept ours early is_open) }

    pub may_move : h.schema ≡ first_schema → (HasCleanDisk (state g mid) → IsTrue (state g mid).is_open → IsTrue (state g h).is_open)
        → (HasCleanDisk (state g mid) → IsTrue (state g mid).is_open → Rests g mid × ((state g mid).now ≡ (state g h).now)) → MayBecome g false mid (moved (contents_now g h))
    may_move is told read clean is_open =
        let early : HasCleanDisk (state g h) = omega arith in
        let it = read clean is_open in
        let first = first_is is early (told clean is_open) in
        (it.0, (subst IsFirst (sym it.1) first, ap (λ (d : Database). moved (contents_of d.trees)) (sym it.1)))

    pub may_make : h.schema ≡ no_schema → (HasCleanDisk (state g mid) → LeavesAll g h mid) → MayBecome g true mid new_contents
    may_make none leaves clean is_open =
        let early : HasCleanDisk (state g h) = omega arith in
        let all = leaves clean in
        let it = rests_still g h mid (resting early (was_open (state g h) (state g mid) all.back is_open)) clean is_open all.back in
        (it.0, (ap (λ (d : Database). d.schema) it.1 ∙ none, refl))

    pub blank_same : LeavesAll g h mid → HasCleanDisk (state g mid) → IsTrue (state g mid).is_open → (state g mid).now ≡ (state g h).now
    blank_same all clean is_open =
        let early : HasCleanDisk (state g h) = omega arith in
        (rests_still g h mid (resting early (was_open (state g h) (state g mid) all.back is_open)) clean is_open all.back).1

-- what a stop may leave of a connection from which no more can be left
pub no_more : {S : Type 0} (g : Ghosts S) (old new : Held S) → LeavesAll g old new → (k : Contents) → MayLeave g new k → MayLeave g old k
no_more g old new all k left = (left.0, all.left left.0 left.1, left.2)

-- why a new store is shut: the first statement met a fault of the disk, or else the making has its reason
pub reason_made : {S : Type 0} (g : Ghosts S) (old mid new : Held S) → LeavesAll g old mid → (state g mid).faults ≤ (state g new).faults → IsTrue (state g old).is_open → (IsTrue (state g mid).is_open → HasReason (state g mid) (state g new))
    → HasReason (state g old) (state g new)
reason_made g old mid new all counts is_open made = elim (all.closes is_open) [
  | inl open_still ↦ has_since (state g old) (state g mid) (state g new) all.counts all.limit (made open_still)
  | inr more ↦ inl (omega (arith, more, counts))
]

-- the version that is told is the store's
pub version_found : (k : Contents) (t : _) → IsVersion k t → (v : _) → t ≡ v → (v ≡ [] → ⊥) → get k.texts version_name ≡ Some v
version_found k t version v is some = elim version.is [
  | inl has ↦ has ∙ ap Some is
  | inr none ↦ absurd (some (sym is ∙ none.0))
]

-- a schema of one kind is not one of another
pub not_first : (s : Schema) → IsOurs s → s ≡ first_schema → ⊥
not_first s (inl is) first = let e : ◌≡◌ {A = ℕ} 4 2 = ap (λ (t : Schema). length t.tables) (sym is ∙ first) in cc
not_first s (inr is) first = let e : ◌≡◌ {A = ℕ} 5 2 = ap (λ (t : Schema). length t.tables) (sym is ∙ first) in cc

pub first_not_blank : (s : Schema) → s ≡ first_schema → s ≡ no_schema → ⊥
first_not_blank s first none = let e : ◌≡◌ {A = ℕ} 2 0 = ap (λ (t : Schema). length t.tables) (sym first ∙ none) in cc

-- after the first statement, whatever it answered
module _ {S : Type 0} (g : Ghosts S) (old mid : Held S) (idle : old.in_transaction ≡ false) (settled : IsTrue (state g old).is_open → (state g old).now ≡ (state g old).committed) (live : IsLive (state g old)) (ordered : IsInOrder g old)
    (less : doubt (state g old).is_clean ≤ doubt (state g mid).is_clean) (rests : HasCleanDisk (state g mid) → HasWords g old → IsTrue (state g mid).is_open → Rests g mid × ((state g mid).now ≡ (state g old).now))
    (left : HasCleanDisk (state g mid) → HasWords g old → (k : Contents) → MayLeave g mid k → MayLeave g old k) (blank : HasCleanDisk (state g mid) → old.schema ≡ no_schema → LeavesAll g old mid) where
  pub read_left : IsToTake old.schema → HasCleanDisk (state g mid) → (k : Contents) → MayLeave g mid k → MayLeave g old k
  read_left (inl version) clean k there = left clean (words g old idle settled live ordered version) k there
  read_left (inr none) clean k there = no_more g old mid (blank clean none) k there

  pub read_same : IsToTake old.schema → HasCleanDisk (state g mid) → IsTrue (state g mid).is_open → contents_now g mid ≡ contents_now g old
  read_same (inl version) clean is_open = ap (λ (d : Database). contents_of d.trees) (rests clean (words g old idle settled live ordered version) is_open).1
  read_same (inr none) clean is_open = ap (λ (d : Database). contents_of d.trees) (blank_same g old idle settled live ordered mid less (blank clean none) clean is_open)

  -- a keeper that is shut then
  pub shut_taken : IsToTake old.schema → (IsToKeep old.schema (contents_now g old) → IsTrue (state g old).is_open → HasCleanDisk (state g mid) → HasReason (state g old) (state g mid)) → IsTaken g old (record { conn = mid; is_shut = true; is_ours = false; faults = 1 })
  shut_taken known reason = record {
    count = refl;
    kept = λ ours unshut. absurd (true≢false unshut);
    moved = λ first unshut. absurd (true≢false unshut);
    made = λ none unshut. absurd (true≢false unshut);
    alone = λ c there. absurd (true≢false there.unshut);
    ours = λ ours. absurd (true≢false (sym ours));
    clean = less;
    opened = λ unshut. absurd (true≢false unshut);
    known = λ shut. known;
    reason = λ shut. reason;
    shut = λ shut. read_same;
    left = λ take clean k there. inl (read_left take clean k there);
  }

  -- a keeper over a store that tells this version
  pub two_taken : (has : Bool) → (has ≡ true → IsOurs old.schema) → (IsOurs old.schema → has ≡ true) → (HasVersion old.schema → HasCleanDisk (state g mid) → get (contents_now g old).texts version_name ≡ Some version_two)
      → (old.schema ≡ no_schema → HasCleanDisk (state g mid) → ⊥) → (HasCleanDisk (state g mid) → IsTrue (state g mid).is_open → IsTrue (state g old).is_open) → (HasVersion old.schema → HasCleanDisk (state g mid) → IsTrue (state g mid).is_open)
      → ((db : Trees) → IsTrue (state g mid).is_open → (state g mid).may_leave db → db ≡ (state g mid).committed.trees) → IsTaken g old (record { conn = mid; is_shut = false; is_ours = has; faults = 0 })
  two_taken has of have two unblank told known law = record {
    count = refl;
    kept = λ mine unshut clean. (record { unshut = refl; ours = have mine; clean = clean; is_open = known (inl mine) clean }, read_same (inl (inl mine)) clean (known (inl mine) clean), two (inl mine) clean);
    moved = λ first unshut clean either. absurd (elim either [ inl mine ↦ not_first old.schema (of mine) first | inr other ↦ other (two (inr first) clean) ]);
    made = λ none unshut clean. absurd (unblank none clean);
    alone = λ c there.
        let mine = of there.ours in
        let is_open = known (inl mine) there.clean in
        let stands = read_stands g old idle settled live ordered mid less mine there.clean (told there.clean is_open) (rests there.clean (words g old idle settled live ordered (inl mine)) is_open) in
        (record { unshut = refl; ours = there.ours; clean = there.clean; is_open = is_open }, left_alone g mid c law stands there.left);
    ours = λ is. inl (inl (of is));
    clean = less;
    opened = λ unshut take clean. elim take [ inl version ↦ told clean (known version clean) | inr none ↦ absurd (unblank none clean) ];
    known = λ shut. absurd (true≢false (sym shut));
    reason = λ shut. absurd (true≢false (sym shut));
    shut = λ shut. absurd (true≢false (sym shut));
    left = λ take clean k there. inl (read_left take clean k there);
  }

  -- a connection that is given back then
  pub read_back : (fault : AdoptFault) → mid.in_transaction ≡ false → (HasVersion old.schema → HasCleanDisk (state g mid) → TellsVersion (contents_now g old) fault) → (old.schema ≡ no_schema → HasCleanDisk (state g mid) → fault ≡ NoMemory)
      → (fault ≢ NoMemory → HasVersion old.schema → HasCleanDisk (state g mid) → IsTrue (state g old).is_open) → ((e : Error) → fault ≢ Refused e) → IsGivenBack g old fault mid
  read_back fault still version none told unrefused = record {
    version = version;
    blank = none;
    refused = λ e is. absurd (unrefused e is);
    told = told;
    left = λ take clean k there. inl (read_left take clean k there);
    clean = less;
    idle = still;
    same = read_same;
  }

  -- a stop leaves what it could leave before the making
  pub left_moved : old.schema ≡ first_schema → HasCleanDisk (state g mid) → (new : Held S) → LeavesOr g (moved (contents_now g old)) mid new → LeavesOrBegins g old new
  left_moved first clean new made k there = elim (made k there) [
    | inl before ↦ inl (read_left (inl (inr first)) clean k before)
    | inr is ↦ inr (inr (first, is))
  ]

  pub left_made : old.schema ≡ no_schema → HasCleanDisk (state g mid) → (new : Held S) → LeavesOr g new_contents mid new → LeavesOrBegins g old new
  left_made none clean new made k there = elim (made k there) [
    | inl before ↦ inl (read_left (inr none) clean k before)
    | inr is ↦ inr (inl (none, is))
  ]

  -- a store of the first version became one of the second, or the keeper is shut
  module _ (k : Keeping S) (told : HasCleanDisk (state g mid) → IsTrue (state g mid).is_open → IsTrue (state g old).is_open) (one : HasVersion old.schema → HasCleanDisk (state g mid) → get (contents_now g old).texts version_name ≡ Some version_one)
      (not_ours : IsOurs old.schema → ⊥) (unblank : old.schema ≡ no_schema → HasCleanDisk (state g mid) → ⊥) (is_known : Bool) (known : old.schema ≡ first_schema → is_known ≡ true) (known_as : is_known ≡ true → old.schema ≡ first_schema)
      (count : k.faults ≡ (if k.is_shut then 1 else 0)) (made : (c : Contents) → MayBecome g false mid c → k.is_shut ≡ false → HasCleanDisk (state g k.conn) → IsTrue (state g k.conn).is_open × (contents_now g k.conn ≡ c))
      (alone : IsAlone (TellsAll g k) (contents_now g k.conn) (MayBeLeft g k)) (ours : k.is_shut ≡ false → k.is_ours ≡ is_known) (shut_ours : k.is_shut ≡ true → k.is_ours ≡ false) (shut_known : k.is_shut ≡ true → is_known ≡ true)
      (shut : k.is_shut ≡ true → (c : Contents) → MayBecome g false mid c → HasCleanDisk (state g k.conn) → IsTrue (state g k.conn).is_open → ((state g k.conn).now ≡ (state g mid).now) × IsTrue (state g mid).is_open)
      (opened : k.is_shut ≡ false → HasCleanDisk (state g k.conn) → IsTrue (state g mid).is_open) (leaves : (c : Contents) → MayBecome g false mid c → HasCleanDisk (state g k.conn) → LeavesOr g c mid k.conn)
      (more : doubt (state g mid).is_clean ≤ doubt (state g k.conn).is_clean) (emptied : (c : Contents) → MayBecome g false mid c → k.is_shut ≡ false → HasCleanDisk (state g k.conn) → (state g k.conn).now.trees 0 ≡ []) where
    early : HasCleanDisk (state g k.conn) → HasCleanDisk (state g mid)
    early clean = omega (arith, clean, more)

    may : old.schema ≡ first_schema → HasCleanDisk (state g k.conn) → MayBecome g false mid (moved (contents_now g old))
    may first clean = may_move g old idle settled live ordered mid less first told (λ soon. rests soon (words g old idle settled live ordered (inr first)))

    same_shut : k.is_shut ≡ true → IsToTake old.schema → HasCleanDisk (state g k.conn) → IsTrue (state g k.conn).is_open → contents_now g k.conn ≡ contents_now g old
    same_shut is (inl (inl mine)) clean is_open = absurd (not_ours mine)
    same_shut is (inl (inr first)) clean is_open =
        let it = shut is (moved (contents_now g old)) (may first clean) clean is_open in
        ap (λ (d : Database). contents_of d.trees) it.0 ∙ read_same (inl (inr first)) (early clean) it.1
    same_shut is (inr none) clean is_open = absurd (unblank none (early clean))

    leaves_on : IsToTake old.schema → HasCleanDisk (state g k.conn) → LeavesOrBegins g old k.conn
    leaves_on (inl (inl mine)) clean = absurd (not_ours mine)
    leaves_on (inl (inr first)) clean = left_moved first (early clean) k.conn (leaves (moved (contents_now g old)) (may first clean) clean)
    leaves_on (inr none) clean = absurd (unblank none (early clean))

    pub moved_taken : IsTaken g old k
    moved_taken = record {
      count = count;
      kept = λ mine. absurd (not_ours mine);
      moved = λ first unshut clean either.
          let it = made (moved (contents_now g old)) (may first clean) unshut clean in
          (record { unshut = unshut; ours = ours unshut ∙ known first; clean = clean; is_open = it.0 }, it.1, one (inr first) (early clean), emptied (moved (contents_now g old)) (may first clean) unshut clean);
      made = λ none unshut clean. absurd (unblank none (early clean));
      alone = alone;
      ours = λ is. elim (cases_Bool k.is_shut) [
        | inl yes_it ↦ absurd (true≢false (sym is ∙ shut_ours yes_it))
        | inr unshut ↦ inl (inr (known_as (sym (ours unshut) ∙ is)))
      ];
      clean = omega (arith, less, more);
      opened = λ unshut take clean. told (early clean) (opened unshut clean);
      known = λ yes_it. inl (inr (known_as (shut_known yes_it)));
      reason = λ yes_it keep is_open clean. elim keep [ inl version ↦ absurd (version.1 (one version.0 (early clean))) | inr none ↦ absurd (unblank none (early clean)) ];
      shut = same_shut;
      left = leaves_on;
    }

  -- a new store was made, or the keeper is shut
  module _ (k : Keeping S) (unversioned : HasVersion old.schema → ⊥) (is_known : Bool) (known : old.schema ≡ no_schema → is_known ≡ true) (known_as : is_known ≡ true → old.schema ≡ no_schema)
      (count : k.faults ≡ (if k.is_shut then 1 else 0)) (made : (c : Contents) → MayBecome g true mid c → k.is_shut ≡ false → HasCleanDisk (state g k.conn) → IsTrue (state g k.conn).is_open × (contents_now g k.conn ≡ c))
      (alone : IsAlone (TellsAll g k) (contents_now g k.conn) (MayBeLeft g k)) (ours : k.is_shut ≡ false → k.is_ours ≡ is_known) (shut_ours : k.is_shut ≡ true → k.is_ours ≡ false) (shut_known : k.is_shut ≡ true → is_known ≡ true)
      (shut : k.is_shut ≡ true → (c : Contents) → MayBecome g true mid c → HasCleanDisk (state g k.conn) → IsTrue (state g k.conn).is_open → ((state g k.conn).now ≡ (state g mid).now) × IsTrue (state g mid).is_open)
      (reason : k.is_shut ≡ true → (c : Contents) → MayBecome g true mid c → IsTrue (state g mid).is_open → HasCleanDisk (state g k.conn) → HasReason (state g mid) (state g k.conn))
      (opened : k.is_shut ≡ false → HasCleanDisk (state g k.conn) → IsTrue (state g mid).is_open) (counts : (state g mid).faults ≤ (state g k.conn).faults)
      (leaves : (c : Contents) → MayBecome g true mid c → HasCleanDisk (state g k.conn) → LeavesOr g c mid k.conn) (more : doubt (state g mid).is_clean ≤ doubt (state g k.conn).is_clean) where
    before : HasCleanDisk (state g k.conn) → HasCleanDisk (state g mid)
    before clean = omega (arith, clean, more)

    may_begin : old.schema ≡ no_schema → HasCleanDisk (state g k.conn) → MayBecome g true mid new_contents
    may_begin none clean = may_make g old idle settled live ordered mid less none (λ soon. blank soon none)

    shut_same : k.is_shut ≡ true → IsToTake old.schema → HasCleanDisk (state g k.conn) → IsTrue (state g k.conn).is_open → contents_now g k.conn ≡ contents_now g old
    shut_same is (inl version) clean is_open = absurd (unversioned version)
    shut_same is (inr none) clean is_open =
        let it = shut is new_contents (may_begin none clean) clean is_open in
        ap (λ (d : Database). contents_of d.trees) it.0 ∙ read_same (inr none) (before clean) it.1

    leaves_made : IsToTake old.schema → HasCleanDisk (state g k.conn) → LeavesOrBegins g old k.conn
    leaves_made (inl version) clean = absurd (unversioned version)
    leaves_made (inr none) clean = left_made none (before clean) k.conn (leaves new_contents (may_begin none clean) clean)

    told_open : k.is_shut ≡ false → IsToTake old.schema → HasCleanDisk (state g k.conn) → IsTrue (state g old).is_open
    told_open unshut (inl version) clean = absurd (unversioned version)
    told_open unshut (inr none) clean = was_open (state g old) (state g mid) (blank (before clean) none).back (opened unshut clean)

    pub made_taken : IsTaken g old k
    made_taken = record {
      count = count;
      kept = λ mine. absurd (unversioned (inl mine));
      moved = λ first. absurd (unversioned (inr first));
      made = λ none unshut clean. let it = made new_contents (may_begin none clean) unshut clean in (record { unshut = unshut; ours = ours unshut ∙ known none; clean = clean; is_open = it.0 }, it.1);
      alone = alone;
      ours = λ is. elim (cases_Bool k.is_shut) [
        | inl yes_it ↦ absurd (true≢false (sym is ∙ shut_ours yes_it))
        | inr unshut ↦ inr (known_as (sym (ours unshut) ∙ is))
      ];
      clean = omega (arith, less, more);
      opened = told_open;
      known = λ yes_it. inr (known_as (shut_known yes_it));
      reason = λ yes_it keep is_open clean. elim keep [
        | inl version ↦ absurd (unversioned version.0)
        | inr none ↦ reason_made g old mid k.conn (blank (before clean) none) counts is_open (λ mid_open. reason yes_it new_contents (may_begin none clean) mid_open clean)
      ];
      shut = shut_same;
      left = leaves_made;
    }

  -- it was not to become another: memory was wanting, or what stands there is not known and refused a statement
  module _ (fault : AdoptFault) (new : Held S) (is_known : Bool) (which : IsStopped is_known fault) (still : new.in_transaction ≡ false) (more : doubt (state g mid).is_clean ≤ doubt (state g new).is_clean) where
    sooner : HasCleanDisk (state g new) → HasCleanDisk (state g mid)
    sooner clean = omega (arith, clean, more)

    given_back : (is_known ≡ false → HasCleanDisk (state g new) → IsToTake old.schema → ⊥) → (IsToTake old.schema → HasCleanDisk (state g new) → LeavesOrBegins g old new) → (IsToTake old.schema → HasCleanDisk (state g new) → IsTrue (state g new).is_open → contents_now g new ≡ contents_now g old) → IsGivenBack g old fault new
    given_back foreign leaves same = record {
      version = λ version clean. elim which [
        | inl memory ↦ subst (TellsVersion (contents_now g old)) (sym memory) tt
        | inr other ↦ absurd (foreign other.0 clean (inl version))
      ];
      blank = λ none clean. elim which [
        | inl memory ↦ memory
        | inr other ↦ absurd (foreign other.0 clean (inr none))
      ];
      refused = λ e is clean take. elim which [
        | inl memory ↦ let never = sym memory ∙ is in cc
        | inr other ↦ foreign other.0 clean take
      ];
      told = λ unlike version clean. elim which [
        | inl memory ↦ absurd (unlike memory)
        | inr other ↦ absurd (foreign other.0 clean (inl version))
      ];
      left = leaves;
      clean = omega (arith, less, more);
      idle = still;
      same = same;
    }

    pub moved_back : (old.schema ≡ first_schema → is_known ≡ true) → (HasCleanDisk (state g mid) → IsTrue (state g mid).is_open → IsTrue (state g old).is_open) → (IsOurs old.schema → ⊥) → (old.schema ≡ no_schema → HasCleanDisk (state g mid) → ⊥)
        → ((c : Contents) → MayBecome g false mid c → HasCleanDisk (state g new) → LeavesOr g c mid new) → ((c : Contents) → MayBecome g false mid c → HasCleanDisk (state g new) → IsTrue (state g new).is_open → (state g new).now ≡ (state g mid).now)
        → (HasCleanDisk (state g new) → IsTrue (state g new).is_open → IsTrue (state g mid).is_open) → IsGivenBack g old fault new
    moved_back known told not_ours unblank leaves same opened = given_back foreign left_on same_on
      where
        foreign : is_known ≡ false → HasCleanDisk (state g new) → IsToTake old.schema → ⊥
        foreign not clean (inl (inl mine)) = not_ours mine
        foreign not clean (inl (inr first)) = true≢false (sym (known first) ∙ not)
        foreign not clean (inr none) = unblank none (sooner clean)

        may_turn : old.schema ≡ first_schema → HasCleanDisk (state g new) → MayBecome g false mid (moved (contents_now g old))
        may_turn first clean = may_move g old idle settled live ordered mid less first told (λ soon. rests soon (words g old idle settled live ordered (inr first)))

        left_on : IsToTake old.schema → HasCleanDisk (state g new) → LeavesOrBegins g old new
        left_on (inl (inl mine)) clean = absurd (not_ours mine)
        left_on (inl (inr first)) clean = left_moved first (sooner clean) new (leaves (moved (contents_now g old)) (may_turn first clean) clean)
        left_on (inr none) clean = absurd (unblank none (sooner clean))

        same_on : IsToTake old.schema → HasCleanDisk (state g new) → IsTrue (state g new).is_open → contents_now g new ≡ contents_now g old
        same_on (inl (inl mine)) clean is_open = absurd (not_ours mine)
        same_on (inl (inr first)) clean is_open = ap (λ (d : Database). contents_of d.trees) (same (moved (contents_now g old)) (may_turn first clean) clean is_open) ∙ read_same (inl (inr first)) (sooner clean) (opened clean is_open)
        same_on (inr none) clean is_open = absurd (unblank none (sooner clean))

    pub made_back : (old.schema ≡ no_schema → is_known ≡ true) → (HasVersion old.schema → ⊥) → ((c : Contents) → MayBecome g true mid c → HasCleanDisk (state g new) → LeavesOr g c mid new)
        → ((c : Contents) → MayBecome g true mid c → HasCleanDisk (state g new) → IsTrue (state g new).is_open → (state g new).now ≡ (state g mid).now) → (HasCleanDisk (state g new) → IsTrue (state g new).is_open → IsTrue (state g mid).is_open) → IsGivenBack g old fault new
    made_back known unversioned leaves same opened = given_back foreign left_on same_on
      where
        foreign : is_known ≡ false → HasCleanDisk (state g new) → IsToTake old.schema → ⊥
        foreign not clean (inl version) = unversioned version
        foreign not clean (inr none) = true≢false (sym (known none) ∙ not)

        may_begin : old.schema ≡ no_schema → HasCleanDisk (state g new) → MayBecome g true mid new_contents
        may_begin none clean = may_make g old idle settled live ordered mid less none (λ soon. blank soon none)

        left_on : IsToTake old.schema → HasCleanDisk (state g new) → LeavesOrBegins g old new
        left_on (inl version) clean = absurd (unversioned version)
        left_on (inr none) clean = left_made none (sooner clean) new (leaves new_contents (may_begin none clean) clean)

        same_on : IsToTake old.schema → HasCleanDisk (state g new) → IsTrue (state g new).is_open → contents_now g new ≡ contents_now g old
        same_on (inl version) clean is_open = absurd (unversioned version)
        same_on (inr none) clean is_open = ap (λ (d : Database). contents_of d.trees) (same new_contents (may_begin none clean) clean is_open) ∙ read_same (inr none) (sooner clean) (opened clean is_open)
