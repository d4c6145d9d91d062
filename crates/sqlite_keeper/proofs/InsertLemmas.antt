-- Why the version can be written into a table of texts that is empty.
use Rattle.std.proofs.Common.{arith, ◌&&◌, ◌≡◌, ℕ, zero, suc, ℤ, pos, Bool, true, false, not, List, [], ◌∷◌, Option, Some, None, Err, Result, inl, inr, refl, sym, ap, subst, ◌∙◌, length, length-append, cond, true≢false, IsSome}
use Rattle.std.specs.List.{AllByRecursion, list_all}
use Rattle.std.proofs.lemmas.List.Elements.{All-nil, All-cons}
use Rattle.std.proofs.lemmas.Nat.Bits.{bit_at-zero}
use Rattle.std.specs.Float.{NotNan}
use Rattle.sqlite_value.specs.declared.value.Value.{Value}
use Rattle.sqlite_value.specs.declared.value.Value.TheVariants.{Null, Int, Text}
use Rattle.sqlite_value.specs.Order.{Row, number}
use Rattle.sqlite_value.specs.Keys.{first_key}
use Rattle.sqlite_trees.specs.Tree.{Trees, with_tree, rowid}
use Rattle.sqlite_trees.specs.View.{IsStorable, IsStorableRow}
use Rattle.sqlite_sql.specs.Ops.{unary, binary, fits_i64}
use Rattle.sqlite_sql.specs.Catalog.{entry_of}
use Rattle.sqlite_schema.specs.declared.schema.Constraint.TheVariants.{Datatype, NotNull, Check, PrimaryKey, Unique, ForeignKey}
use Rattle.sqlite_schema.specs.declared.schema.Keys.TheVariants.{Enforced}
use Rattle.sqlite_schema.specs.declared.schema.Kind.TheVariants.{Integer}
use Rattle.sqlite_schema.specs.declared.schema.Index.{Index}
use Rattle.sqlite_schema.specs.declared.command.Upsert.{Upsert}
use Rattle.sqlite_schema.specs.declared.command.Conflict.TheVariants.{Abort}
use Rattle.sqlite_schema.specs.Rules.{Keeps, passes, guards, clashes, table_reals, index_reals}
use Rattle.sqlite_rules.specs.declared.error.Rowids.TheVariants.{Chosen, Given}
use Rattle.sqlite_rules.specs.declared.error.Refusal.{Refusal}
use Rattle.sqlite_rules.specs.declared.error.Refusal.TheVariants.{Violates, Mismatch, NoRowid, BadReference, TooDeep}
use Rattle.sqlite_rules.specs.Lists.{Has}
use Rattle.sqlite_rules.specs.Cast.{cast, cast_row}
use Rattle.sqlite_rules.specs.Steps.{IsJudged}
use Rattle.sqlite_rules.specs.Keys.{AreConflicts}
use Rattle.sqlite_rules.specs.Edit.{Edit, edit_of, edited, left_by, with_rowid, put_all, are_fresh, have_rowids, id_in, IsRefused, IsOversized}
use Rattle.sqlite_rules.specs.Action.{Writes, Leads}
use Rattle.sqlite.specs.declared.error.Error.{Error}
use Rattle.sqlite.specs.Does.{Does, Concludes}
use Rattle.sqlite.specs.Rows.{Task, Puts, Clears, Meets, Upserts, Judged, Tries, TriesEach, InsertsOr, Sourced, Written, nothing, count_of}
use Rattle.store_tables.specs.Tables.{grps, counters, entries, named, made_schema}
use Rattle.sqlite_keeper.specs.Adopting.{version_name, version_two}
use Rattle.store_tables.specs.Grouped.{mode}
use Rattle.store_tables.specs.Layout.{Rises, Rules}
use Rattle.store_tables.proofs.GroupLemmas.{cast_null}
use Rattle.store_tables.proofs.NamedTables.{made_is}
use Rattle.store_tables.proofs.NamedPut.{task, put_rows}
use Rattle.store_tables.specs.Named.{named_made, put_source, put_text, put_command, put_clauses, update_query}

abbrev params : Row
params = Text version_name ∷ Text version_two ∷ []

-- the first row of the table
abbrev first : Row
first = Int (pos 1) ∷ Text version_name ∷ Text version_two ∷ []

either : (b : Bool) (x : Value) → cond b x x ≡ x
either true x = refl
either false x = refl

cast_one : cast Integer (Int (pos 1)) ≡ Int (pos 1)
unfolding unary
cast_one = either _ (Int (pos 1))

-- no other row has its key
abbrev stands_alone : List Row → Bool
stands_alone rows = list_all (λ i. not (guards i (named 5) && clashes i.order i.columns rows first)) made_schema.indexes

alone : stands_alone (first ∷ []) ≡ true
unfolding binary first_key Rattle.sqlite_value.specs.Order.value_cmp lib.Ieee.is_nan lib.Ieee.lt
alone = refl

-- no key guards SQLite's own table
unkeyed : (db : Trees) (rows all : List Row) → AllByRecursion (λ row. list_all (λ i. not (guards i (counters 2) && clashes i.order i.columns all row)) made_schema.indexes ≡ true) rows
unkeyed db [] all = tt
unkeyed db (r ∷ rows) all = (refl, unkeyed db rows all)

unique : (db : Trees) → db 0 ≡ [] → db 3 ≡ [] → db 5 ≡ first ∷ [] → Keeps Unique made_schema db
unique db none empty one = (
  subst (λ l. AllByRecursion (λ row. passes Unique made_schema db (grps 0) row ≡ true) l) (sym none) tt,
  (
    unkeyed db (db 2) (db 2),
    (
      subst (λ l. AllByRecursion (λ row. passes Unique made_schema db (entries 3) row ≡ true) l) (sym empty) tt,
      (subst (λ l. AllByRecursion (λ row. list_all (λ i. not (guards i (named 5) && clashes i.order i.columns l row)) made_schema.indexes ≡ true) l) (sym one) (alone, tt), tt),
    ),
  ),
)

-- no table refers to another
none_refer : (rows : List Row) → AllByRecursion (λ row. true ≡ true) rows
none_refer [] = tt
none_refer (r ∷ rows) = (refl, none_refer rows)

storable : IsStorableRow (table_reals (named 5)) first
unfolding lib.Ieee.is_nan
storable = (
  record {
    typed = λ c bit. let none = bit_at-zero c in absurd (omega (arith, bit, none));
    columns = (omega arith, omega arith);
    numbers = All-cons (λ v. NotNan (number v)) (Int (pos 1)) params tt (All-cons (λ v. NotNan (number v)) (Text version_name) (Text version_two ∷ []) tt (All-cons (λ v. NotNan (number v)) (Text version_two) [] tt (All-nil _)));
    short = omega arith;
  },
  omega arith,
)

entry_storable : IsStorable (index_reals (table_reals (named 5)) (1 ∷ [])) (entry_of (1 ∷ []) first)
unfolding lib.Ieee.is_nan
entry_storable = record {
  typed = λ c bit. let none = bit_at-zero c in absurd (omega (arith, bit, none));
  columns = (omega arith, omega arith);
  numbers = All-cons (λ v. NotNan (number v)) (Text version_name) (Int (pos 1) ∷ []) tt (All-cons (λ v. NotNan (number v)) (Int (pos 1)) [] tt (All-nil _));
  short = omega arith;
}

pub small : IsOversized made_schema (named 5) first → ⊥
small (inl row) = row storable
small (inr entry) = by entry.0 entry.1 entry.2 entry.3
  where
    by : (i : Index) → Has made_schema.indexes i → i.table ≡ 5 → (IsStorable (index_reals (table_reals (named 5)) i.columns) (entry_of i.columns first) → ⊥) → ⊥
    by i (inl is) table big = let zero_is : ◌≡◌ {A = ℕ} 0 5 = sym (ap (λ (x : Index). x.table) is) ∙ table in cc
    by i (inr (inl is)) table big = let three_is : ◌≡◌ {A = ℕ} 3 5 = sym (ap (λ (x : Index). x.table) is) ∙ table in cc
    by i (inr (inr (inl is))) table big = subst (λ (x : Index). IsStorable (index_reals (table_reals (named 5)) x.columns) (entry_of x.columns first) → ⊥) is big entry_storable
    by i (inr (inr (inr never))) table big = absurd never

same_stop : {B : Type 0} {a b : Option Error} → ◌≡◌ {A = Result B (Option Error)} (Err a) (Err b) → a ≡ b
same_stop e = cc

abbrev put_clause : Upsert
put_clause = record { target = Some (1 ∷ []); update = Some (record { lets = []; body = update_query 5 }) }

module _ (limit : Option ℕ) (db : Trees) (groups_none : db 0 ≡ []) (entries_none : db 3 ≡ []) (named_none : db 5 ≡ []) where
  abbrev edit : Edit
  edit = edit_of db (named 5) [] Given 0 (first ∷ [])

  news_is : edit.news ≡ first ∷ []
  news_is = rw cast_one

  rows_are : edited db edit ≡ first ∷ []
  rows_are = λ i. put_all (named_none i) (news_is i)

  fresh : are_fresh (left_by db edit) edit.news ≡ true
  fresh = λ i. are_fresh (named_none i) (news_is i)

  unrefused : (why : Refusal) → IsRefused made_schema Enforced db edit why → ⊥
  unrefused (Violates Datatype) h = true≢false h
  unrefused (Violates NotNull) h = true≢false h
  unrefused (Violates Check) h = true≢false h
  unrefused (Violates PrimaryKey) h = true≢false (sym fresh ∙ h)
  unrefused (Violates Unique) h = h (unique (with_tree db 5 (edited db edit)) groups_none entries_none rows_are)
  unrefused (Violates ForeignKey) h = h
  unrefused Mismatch h = true≢false (subst (λ l. have_rowids l ≡ false) news_is h)
  unrefused NoRowid h = true≢false (subst (λ l. list_all (λ r. fits_i64 (id_in (rowid r))) l ≡ false) news_is h)
  unrefused BadReference h = true≢false h
  unrefused TooDeep h = h

  settled : (n : ℕ) (next : Trees) (why : Option Refusal) → Leads made_schema Enforced n next [] (Err why) → ⊥
  settled zero next why h = let e = h.1 in cc
  settled (suc n) next why h = omega (arith, ap length h.2, length-append h.0 (h.1 ∷ []))

  written : (why : Option Refusal) → Writes made_schema Enforced db edit (Err why) → ⊥
  written why (inl h) = unrefused h.0 h.1
  written why (inr (inl h)) = elim (subst (λ l. Has l h.0) news_is h.1) [
    | inl is ↦ small (subst (IsOversized made_schema (named 5)) is h.2)
    | inr never ↦ absurd never
  ]
  written why (inr (inr h)) = settled h.2.0 h.0 why h.2.1

  abbrev t : Task
  t = task named_made limit params

  puts : (stop : Option Error) → Puts t first db (Err stop) → ⊥
  puts stop (inl h) = written h.1.0 h.1.1
  puts stop (inr h) = let e = h.2 in cc

  clears : (stop : Option Error) (found : List Row) → Clears t Abort first db found (Err stop) → ⊥
  clears stop [] h = puts stop h
  clears stop (x ∷ more) h = puts stop h

  tries : (stop : Option Error) → Tries t Abort (put_clauses 5) first db (Err stop) → ⊥
  tries stop (inl h) = true≢false h.0
  tries stop (inr h) = judged h.0 h.1 h.2
    where
      met : (found : List Row) → AreConflicts (Some (1 ∷ [])) made_schema.indexes (named 5) (db 5) first found → Meets t (Upserts t Abort first db []) first db put_clause found (Err stop) → ⊥
      met [] are m = clears stop m.0 m.2
      met (x ∷ more) are m = let r = are.sound x (inl refl) in subst (λ l. Has l r.0) named_none r.1

      judged : (verdict : Option Refusal) → IsJudged (named 5) first verdict → Judged t Abort (put_clauses 5) first db verdict (Err stop) → ⊥
      judged None is h = met h.0 h.1 h.2
      judged (Some Mismatch) is h = true≢false is
      judged (Some NoRowid) is h = is
      judged (Some BadReference) is h = is
      judged (Some TooDeep) is h = is
      judged (Some (Violates Datatype)) is h = true≢false is
      judged (Some (Violates NotNull)) is h = true≢false is
      judged (Some (Violates Check)) is h = true≢false is
      judged (Some (Violates PrimaryKey)) is h = is
      judged (Some (Violates Unique)) is h = is
      judged (Some (Violates ForeignKey)) is h = is

  first_is : with_rowid Chosen (db 5) (cast_row (named 5) (Null ∷ params)) ≡ first
  first_is = rw (cast_null, named_none)

  each : (top : ℤ) (stop : Option Error) → TriesEach t Abort (put_clauses 5) ((Null ∷ params) ∷ []) top (nothing db) (Err stop) → ⊥
  each top stop (inl h) = tries h.0 (subst (λ n. Tries t Abort (put_clauses 5) n db (Err h.0)) first_is h.1)
  each top stop (inr h) = let e = h.2 in cc

  abbrev Limited : Option Error → Type 0
  Limited stop = IsSome stop × IsSome limit

  sourced : (stop : Option Error) → Sourced limit (record { schema = made_schema; trees = db }) params put_source (Err stop) → Limited stop
  sourced None h = absurd h
  sourced (Some e) (inl h) = absurd (true≢false h.1)
  sourced (Some e) (inr h) = (refl, h.1)

  inserted : (stop : Option Error) → InsertsOr t Abort (put_clauses 5) put_source db (Err stop) → Limited stop
  inserted stop (inl h) = subst Limited (sym (same_stop h.2)) (sourced h.0 h.1)
  inserted stop (inr h) = elim h.2 [
    | inl counter ↦ absurd (let e = counter.1 in cc)
    | inr row ↦ elim row.2 [
      | inl one ↦ absurd (each (count_of row.0) one.0 (subst (λ rs. TriesEach t Abort (put_clauses 5) rs (count_of row.0) (nothing db) (Err one.0)) h.1.1 one.1))
      | inr done ↦ elim done.2 [ inl counts ↦ absurd (let e = counts.1 in cc) | inr next ↦ absurd (let e = next.2 in cc) ]
    ]
  ]

  concluded : (w : Written) (stop : Option Error) → w.trees 3 ≡ [] → Concludes t mode None w (Err stop) → ⊥
  concluded w stop empty (inl h) = h.1.0 (none_refer (w.trees 0), (none_refer (w.trees 2), (subst (λ l. AllByRecursion (λ row. passes ForeignKey made_schema w.trees (entries 3) row ≡ true) l) (sym empty) tt, (none_refer (w.trees 5), tt))))
  concluded w stop empty (inr h) = elim h.2 [ inl rows ↦ (let e = rows.1 in cc) | inr shown ↦ (let e = shown.2 in cc) ]

  pub inserts : Rules made_schema db → (stop : Option Error) → Does limit mode params (record { schema = made_schema; trees = db }) put_text None (put_command named_made) (Err stop) → Limited stop
  inserts rules stop (inl h) = subst Limited (sym (same_stop h.2)) (inserted h.0 h.1)
  inserts rules stop (inr h) =
      let turned = put_rows named_made made_is limit db version_name version_two rules (subst Rises (sym named_none) (record { up = tt; ints = tt })) h.0 h.1 in
      absurd (concluded h.0 stop (turned.others (entries 3) (inr (inr (inl refl))) (λ e. omega arith) ∙ entries_none) h.2)
