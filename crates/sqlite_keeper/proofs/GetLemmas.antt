-- What `get` answers.
use Rattle.std.proofs.Common.{◌≡◌, ◌⊎◌, ℕ, List, Option, [], ◌∷◌, Some, Ok, Err, ◌≤◌, ◌<◌, length, slice_index, slice_index_or, zero, suc, arith, Result, IfOk, OnOk, inl, inr, sym, ap, subst, ◌∙◌, IsTrue}
use Rattle.std.specs.FinMap.{get}
use Rattle.std.specs.Str.{IsUtf8}
use Rattle.std.proofs.lemmas.Str.{IsUtf8-from_ascii}
use Rattle.sqlite_value.specs.declared.value.Value.TheVariants.{Text}
use Rattle.sqlite_value.specs.Order.{Row, column, bytes}
use Rattle.sqlite_rules.proofs.ListLemmas.{has_at}
use Rattle.sqlite.specs.State.{State, Shown, ShowsRows, IsUnchanged, IsRolledBack, FailsToQuery, FailsToShow}
use Rattle.sqlite.specs.declared.error.Error.{Error}
use Rattle.sqlite.specs.Listing.{understood, reads_listing, IsSourceOf}
use Rattle.sqlite.specs.Effect.{Database, Reads}
use Rattle.sqlite.specs.Store.{Ghosts}
use Rattle.sqlite.specs.Held.{Held, state}
use Rattle.sqlite.specs.Clock.{timed}
use Rattle.sqlite.proofs.Callers.{IsPlain, reads_as, unchanged_then}
use Rattle.store_tables.specs.Named.{TellsText, TellsNames, get_text, get_filter, get_project, names_text}
use Rattle.store_tables.specs.Texts.{select, query_of, by}
use Rattle.sqlite.specs.Term.{col}
use Rattle.std.specs.Prelude.{codes}
use Rattle.store_tables.proofs.NamedGet.{text_asked, names_asked}
use Rattle.store_tables.proofs.WithinLemmas.{same_command}
use Rattle.budget_ports.specs.Contents.{records_after}
use Rattle.budget_ports.specs.declared.keeper.Record.{Record}
use Rattle.sqlite_keeper.specs.Contents.{Contents, contents_of, contents_now}
use Rattle.sqlite_keeper.specs.Queries.{ShowsText, HasTexts}
use Rattle.sqlite_keeper.specs.Adopting.{IsVersion, version_name, version_one, version_two}
use Rattle.sqlite_keeper.proofs.Kept.{rules_as}
use Rattle.sqlite_keeper.proofs.Calls.{not_run}

module _ (old new : State) (t : HasTexts old.now) where
  pub shows_text : (name : List ℕ) (rows : List Row) → Shown get_text (Text name ∷ []) old new rows → ShowsText (contents_of old.now.trees) name rows
  shows_text name rows shown =
      let read = reads_as get_text (Text name ∷ []) old new t.spot.schema t.schema _ (same_command (understood t.spot.schema get_text) ∙ t.texts.get_is) t.texts.get_plain t.texts.get_unlisted rows shown in
      subst (λ m. TellsText m name rows) (sym t.told)
      (text_asked t.spot t.is old.now.trees (rules_as t.spot.schema old.now t.schema t.sound) t.rises name rows
      (subst (λ s. Reads (select (query_of t.spot.tree get_filter get_project []) (codes "body" ∷ [])) (record { schema = s; trees = old.now.trees }) (Text name ∷ []) rows) t.schema read))

  pub shows_names : (rows : List Row) → Shown names_text [] old new rows → TellsNames (contents_of old.now.trees).texts rows
  shows_names rows shown =
      let read = reads_as names_text [] old new t.spot.schema t.schema _ (same_command (understood t.spot.schema names_text) ∙ t.texts.names_is) t.texts.names_plain t.texts.names_unlisted rows shown in
      subst (λ m. TellsNames m rows) (sym t.told)
      (names_asked t.spot t.is old.now.trees (rules_as t.spot.schema old.now t.schema t.sound) t.rises rows
      (subst (λ s. Reads (select (query_of t.spot.tree [] (col 1 1 ∷ []) (by 1 ∷ [])) (codes "name" ∷ [])) (record { schema = s; trees = old.now.trees }) [] rows) t.schema read))

-- a query that is plain changes nothing
pub shown_unchanged : (sql : List ℕ) (params : Row) (old new : State) (rows : List Row) → IsPlain (understood old.now.schema sql) → Shown sql params old new rows → IsUnchanged old new
unfolding Shown
shown_unchanged sql params old new rows plain h =
    let none = (subst IsPlain h.1.is plain).0 in
    (subst (ShowsRows old new sql h.0 (timed params h.0.formats h.1.now) rows) none h.2).3

-- nor does one that fails, unless what was not committed is rolled back
pub query_err : (sql : List ℕ) (params : Row) (old new : State) (e : Error) → IsPlain (understood old.now.schema sql) → FailsToQuery sql params old new e → IsUnchanged old new ⊎ IsRolledBack old new
unfolding FailsToQuery
query_err sql params old new e plain (inl h) = not_run sql params old new e h
query_err sql params old new e plain (inr h) =
    let none = (subst IsPlain h.1.is plain).0 in
    inl (subst (FailsToShow old new sql h.0 (timed params h.0.formats h.1.now) e) none h.2).3

-- what a query shows after a call that changed nothing it shows before it
pub shown_before : (sql : List ℕ) (params : Row) (old mid new : State) (rows : List Row) → IsPlain (understood mid.now.schema sql) → IsUnchanged old mid → Shown sql params mid new rows → Shown sql params old new rows
unfolding Shown
shown_before sql params old mid new rows plain same h =
    let none = (subst IsPlain h.1.is plain).0 in
    let full = timed params h.0.formats h.1.now in
    let it = subst (ShowsRows mid new sql h.0 full rows) none h.2 in
    let now = same.0.now_is in (
      h.0,
      record { is = subst (λ (d : Database). understood d.schema sql ≡ Ok h.0) now h.1.is; whole = h.1.whole; given = h.1.given; now = h.1.now },
      subst (ShowsRows old new sql h.0 full rows) (sym none) (it.0, subst (λ (d : Database). IsSourceOf (reads_listing d.schema sql) d it.0) now it.1, it.2, unchanged_then old mid new same it.3),
    )

pub shown_first : {S T E : Type 0} (g : Ghosts S) (old mid new : Held S) (sql : List ℕ) (params : Row) (items : T → List Row) (r : Result T E) → IsPlain (understood mid.schema sql) → IsUnchanged (state g old) (state g mid)
    → IfOk r (λ rows. Shown sql params (state g mid) (state g new) (items rows))
    → IfOk r (λ rows. IsTrue (state g old).is_open × Shown sql params (state g old) (state g new) (items rows))
shown_first g old mid new sql params items (Ok rows) plain same h = (same.0.was_open, shown_before sql params (state g old) (state g mid) (state g new) (items rows) plain same h)
shown_first g old mid new sql params items (Err e) plain same h = tt

-- what is told of the rows is told of the answer
pub text_is : {E : Type 0} (r : Result (Option (List ℕ)) E) (k : Contents) (name : List ℕ) (rows : List Row) → IfOk r (λ o. (k : Contents) (name : List ℕ) → ShowsText k name rows → o ≡ get k.texts name) → ShowsText k name rows → IfOk r (λ o. o ≡ get k.texts name)
text_is (Ok o) k name rows h shows = h k name shows
text_is (Err e) k name rows h shows = tt

pub same_if_ok : {X E : Type 0} (r : Result X E) (P : X → Type 0) (a b : X) → IfOk r (λ x. x ≡ a) → IfOk r P → (P a → a ≡ b) → IfOk r (λ x. x ≡ b)
same_if_ok (Ok x) P a b is p same = is ∙ same (subst P is p)
same_if_ok (Err e) P a b is p same = tt

pub version_is : {E : Type 0} (r : Result (List ℕ) E) (k : Contents) (rows : List Row) → IfOk r (λ t. (k : Contents) → ShowsText k version_name rows → IsVersion k t) → ShowsText k version_name rows → IfOk r (IsVersion k)
version_is (Ok t) k rows h shows = h k shows
version_is (Err e) k rows h shows = tt

-- a row whose value is read as no text does not show this version
pub unreadable : (k : Contents) (rows : List Row) (row : Row) (t : List ℕ) → 1 ≤ length rows → row ≡ slice_index_or rows 0 row → t ≡ [] → (0 < length row → (b : List ℕ) × (column row 0 ≡ Text b) × IsUtf8 b → ⊥) → ShowsText k version_name rows → IsVersion k t
unreadable k rows row t some is empty never shows =
    record {
      is = inr (
        empty,
        λ b has utf8.
            let same : ◌≡◌ {A = Option (List ℕ)} (Some (bytes (column row 0))) (Some b) = sym at.1 ∙ has in
            let one : bytes (column row 0) ≡ b = cc in
            never (some_column row _ at.0) (b, at.0 ∙ ap Text one, utf8),
      );
      not_one = other version_one low_one;
      not_two = other version_two low_two;
    }
  where
    low_one : (i : ℕ) → slice_index version_one i < 128
    low_one zero = omega arith
    low_one (suc i) = omega arith

    low_two : (i : ℕ) → slice_index version_two i < 128
    low_two zero = omega arith
    low_two (suc i) = omega arith

    some_column : (r : Row) (b : List ℕ) → column r 0 ≡ Text b → 0 < length r
    some_column [] b h = absurd (let e = h in cc)
    some_column (v ∷ r) b h = omega arith

    at : (column row 0 ≡ Text (bytes (column row 0))) × (get k.texts version_name ≡ Some (bytes (column row 0)))
    at = shows.some row (has_at rows 0 row (omega arith) is)

    other : (v : List ℕ) → ((i : ℕ) → slice_index v i < 128) → (t ≡ v → ⊥) → get k.texts version_name ≡ Some v → ⊥
    other v low not has =
        let same : ◌≡◌ {A = Option (List ℕ)} (Some (bytes (column row 0))) (Some v) = sym at.1 ∙ has in
        let one : bytes (column row 0) ≡ v = cc in
        never (some_column row _ at.0) (v, at.0 ∙ ap Text one, IsUtf8-from_ascii v low)

pub if_text : {X E P : Type 0} (r : Result X E) → P → OnOk r P
if_text (Ok x) p = p
if_text (Err e) p = tt

-- what was told of a group after a call that changed nothing was so before it
pub told_before : {S E : Type 0} (g : Ghosts S) (old mid : Held S) (r : Result (List Record) E) (group after : List ℕ) → (state g mid).now ≡ (state g old).now
    → IfOk r (λ rs. rs ≡ records_after (contents_now g mid) group after) → IfOk r (λ rs. rs ≡ records_after (contents_now g old) group after)
told_before g old mid (Ok rs) group after same h = h ∙ ap (λ (d : Database). records_after (contents_of d.trees) group after) same
told_before g old mid (Err e) group after same h = tt
