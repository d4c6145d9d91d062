-- What is read of a store of the second version.
use Rattle.std.proofs.Common.{arith, ◌≡◌, ◌≤◌, ℕ, ℤ, List, [], ◌∷◌, map, Some, refl, sym, ap, subst, ◌∙◌, IsTrue, codes}
use Rattle.std.specs.FinMap.{get, keys}
use Rattle.std.specs.declared.cmp.Ordering.TheVariants.{Less}
use Rattle.sqlite_value.specs.declared.value.Value.TheVariants.{Int, Text}
use Rattle.sqlite_value.specs.Order.{Row}
use Rattle.sqlite_trees.specs.Tree.{Trees}
use Rattle.sqlite_trees.specs.View.{doubt}
use Rattle.sqlite_rules.specs.Lists.{Has}
use Rattle.sqlite_rules.proofs.ProbeLemmas.{has_mapped, mapped_has}
use Rattle.sqlite.specs.Term.{col}
use Rattle.sqlite.specs.Effect.{Database, IsDatabase, Reads}
use Rattle.sqlite.specs.Listing.{understood}
use Rattle.sqlite.specs.State.{State, Shown, HasCleanDisk}
use Rattle.sqlite.specs.Store.{Ghosts}
use Rattle.sqlite.specs.Held.{Held, state}
use Rattle.sqlite.proofs.Callers.{reads_as}
use Rattle.budget_ports.specs.Contents.{records_after}
use Rattle.budget_ports.specs.Keeper.{Rise}
use Rattle.budget_ports.specs.declared.keeper.Record.{Record}
use Rattle.store_tables.specs.Texts.{Tables, find_text, since_text, select, query_of, by}
use Rattle.store_tables.specs.Named.{TellsNames, get_text, names_text}
use Rattle.store_tables.specs.Known.{Known, contents_in}
use Rattle.store_tables.specs.Since.{FindsGroup, TellsSince, find_query, since_filter}
use Rattle.store_tables.specs.Within.{IsIdOf}
use Rattle.store_tables.specs.Entered.{Stand}
use Rattle.store_tables.proofs.KnownTables.{known}
use Rattle.store_tables.proofs.SinceLemmas.{asks_since, asks_group, asks_nobody}
use Rattle.store_tables.proofs.WithinLemmas.{same_command, stand}
use Rattle.sqlite_keeper.specs.Contents.{Contents, contents_of, contents_now, text_cmp, IsKept, Rests, Stands, Sound, MayLeave}
use Rattle.sqlite_keeper.specs.Queries.{IsQuery, MayAsk, HasTexts, HasWords, Climb, record_in, name_in}
use Rattle.sqlite_keeper.proofs.Calls.{stands_on}
use Rattle.sqlite_keeper.proofs.Kept.{rules_as, kept_contents}
use Rattle.sqlite_keeper.proofs.Ordered.{records_are, names_are}

-- ---- each text is a query

pub get_query : (d : Database) → HasTexts d → IsQuery d.schema get_text
get_query d t = subst (λ s. IsQuery s get_text) (sym t.schema) (record { is_plain = t.texts.get_plain; unlisted = t.texts.get_unlisted })

pub names_query : (d : Database) → HasTexts d → IsQuery d.schema names_text
names_query d t = subst (λ s. IsQuery s names_text) (sym t.schema) (record { is_plain = t.texts.names_plain; unlisted = t.texts.names_unlisted })

pub group_query : (t : Tables) (d : Database) → IsKept t d → IsQuery d.schema find_text
group_query t d kept = let m = (known t kept.second).texts in subst (λ s. IsQuery s find_text) (sym kept.schema) (record { is_plain = m.find_plain; unlisted = m.find_unlisted })

pub since_query : (t : Tables) (d : Database) → IsKept t d → IsQuery d.schema since_text
since_query t d kept = let m = (known t kept.second).texts in subst (λ s. IsQuery s since_text) (sym kept.schema) (record { is_plain = m.since_plain; unlisted = m.since_unlisted })

module _ {S : Type 0} (g : Ghosts S) (h : Held S) where
  pub may_get : HasWords g h → MayAsk g get_text h
  may_get words clean is_open = let w = words clean is_open in (w.0, get_query (state g h).now w.1)

  pub may_name : HasWords g h → MayAsk g names_text h
  may_name words clean is_open = let w = words clean is_open in (w.0, names_query (state g h).now w.1)

  pub may_find : Sound g h → MayAsk g find_text h
  may_find sound clean is_open = let s = sound clean is_open in (s.rests, group_query s.kept.0 (state g h).now s.kept.1)

  pub may_since : Sound g h → MayAsk g since_text h
  may_since sound clean is_open = let s = sound clean is_open in (s.rests, since_query s.kept.0 (state g h).now s.kept.1)

-- after a query that left all as it was, what stood stands
pub stands_after : {S : Type 0} (g : Ghosts S) (old new : Held S) → Sound g old → doubt (state g old).is_clean ≤ doubt (state g new).is_clean → (IsTrue (state g new).is_open → IsTrue (state g old).is_open)
    → (IsTrue (state g new).is_open → Rests g new × ((state g new).now ≡ (state g old).now)) → HasCleanDisk (state g new) → IsTrue (state g new).is_open → Stands g new × (contents_now g new ≡ contents_now g old)
stands_after g old new sound less told rests clean is_open = let early : HasCleanDisk (state g old) = omega arith in stands_on g old new (sound early (told is_open)).kept (rests is_open)

pub left_same : {S : Type 0} (g : Ghosts S) (old new : Held S) (k : Contents) → ((db : Trees) → (state g new).may_leave db → (state g old).may_leave db) → MayLeave g new k → MayLeave g old k
left_same g old new k all left = (left.0, all left.0 left.1, left.2)

-- ---- the names

pub names_told : (k : Contents) (rows : List Row) → TellsNames k.texts rows → Climb (map name_in rows) → map name_in rows ≡ keys k.texts
names_told k rows told up = names_are k (map name_in rows) up
    (λ n h.
    let x = has_mapped name_in rows n h in
    let r = told.sound x.0 x.1 in
    (r.0, subst (λ (n : List ℕ). get k.texts n ≡ Some r.0) (sym x.2) r.1))
    (λ n t is. let x = told.complete n t is in subst (Has (map name_in rows)) x.2 (mapped_has name_in rows x.0 x.1))

-- ---- the records of a group

module _ (t : Tables) (d : Database) (kept : IsKept t d) where
  abbrev k : Known t
  k = known t kept.second

  pub standing : Stand t d.trees
  standing = stand t k.layout d.trees (subst (λ s. IsDatabase (record { schema = s; trees = d.trees })) kept.schema kept.sound) kept.groups kept.entries

  pub since_told : (group after : List ℕ) (rows : List Row) → TellsSince d.trees t group after rows → Rise (map record_in rows) → map record_in rows ≡ records_after (contents_of d.trees) group after
  since_told group after rows told up =
      let here : map record_in rows ≡ records_after (contents_in t d.trees) group after = records_are (contents_in t d.trees) group after (map record_in rows) up
      (λ p h.
      let x = has_mapped record_in rows p h in
      subst (λ (q : Record). (get (contents_in t d.trees).records (group, q.key) ≡ Some q.body) × (text_cmp after q.key ≡ Less)) (sym x.2) (told.sound x.0 x.1))
      (λ key body is low.
      let x = told.complete key body is low in
      let pair : record_in x.0 ≡ record { key = key; body = body } = λ i. record { key = x.2 i; body = x.3 i } in
      subst (Has (map record_in rows)) pair (mapped_has record_in rows x.0 x.1)) in
      here ∙ ap (λ (c : Contents). records_after c group after) (sym (kept_contents t d kept))

  pub nobody_told : (group after : List ℕ) → FindsGroup (d.trees t.grps_tree) group [] → [] ≡ records_after (contents_of d.trees) group after
  nobody_told group after found = since_told group after [] (asks_nobody t k.layout d.trees group after standing (λ q there. found.none refl q there)) tt

module _ (t : Tables) (old new : State) (kept : IsKept t old.now) where
  abbrev all : Known t
  all = known t kept.second

  pub group_found : (group : List ℕ) (rows : List Row) → Shown find_text (Text group ∷ []) old new rows → FindsGroup (old.now.trees t.grps_tree) group rows
  group_found group rows shown =
      let read = reads_as find_text (Text group ∷ []) old new t.schema kept.schema _ (same_command (understood t.schema find_text) ∙ all.texts.find_is) all.texts.find_plain all.texts.find_unlisted rows shown in
      asks_group t all.layout old.now.trees (rules_as t.schema old.now kept.schema kept.sound) group rows
      (subst (λ s. Reads (find_query t) (record { schema = s; trees = old.now.trees }) (Text group ∷ []) rows) kept.schema read)

  pub since_shown : (id : ℤ) (group after : List ℕ) (rows : List Row) → IsIdOf (old.now.trees t.grps_tree) id group → Shown since_text (Int id ∷ Text after ∷ []) old new rows → TellsSince old.now.trees t group after rows
  since_shown id group after rows of shown =
      let read = reads_as since_text (Int id ∷ Text after ∷ []) old new t.schema kept.schema _ (same_command (understood t.schema since_text) ∙ all.texts.since_is) all.texts.since_plain all.texts.since_unlisted rows shown in
      asks_since t all.layout old.now.trees id group after (standing t old.now kept) of.row of.there of.id_is of.named rows
      (subst (λ s. Reads (select (query_of t.entries_tree since_filter (col 1 2 ∷ col 1 3 ∷ []) (by 2 ∷ [])) (codes "stamp" ∷ codes "body" ∷ [])) (record { schema = s; trees = old.now.trees }) (Int id ∷ Text after ∷ []) rows) kept.schema read)
