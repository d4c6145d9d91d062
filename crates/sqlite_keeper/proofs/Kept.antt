-- What is known of a store of either version.
use Rattle.std.proofs.Common.{arith, ◌≡◌, ℕ, List, true, inl, inr, refl, sym, ap, subst, ◌∙◌, IsTrue}
use Rattle.sqlite_tied.specs.Compute.{everything}
use Rattle.sqlite.specs.Listing.{understood}
use Rattle.sqlite_catalog.specs.Listing.{IsSound}
use Rattle.sqlite.specs.Schema.{Schema}
use Rattle.sqlite.specs.Effect.{Database, IsDatabase}
use Rattle.sqlite.specs.Store.{Ghosts}
use Rattle.sqlite.specs.Held.{Held, state}
use Rattle.store_tables.specs.Texts.{Tables, made_tables, moved_tables}
use Rattle.store_tables.specs.Named.{named_first, named_made, named_moved, Turned, texts_in}
use Rattle.store_tables.specs.Known.{IsSecond, named_in, contents_in}
use Rattle.store_tables.specs.Joined.{joined}
use Rattle.store_tables.specs.Stored.{first_records}
use Rattle.store_tables.specs.Layout.{Rules}
use Rattle.store_tables.specs.Tables.{grps, entries}
use Rattle.store_tables.proofs.KnownTables.{known}
use Rattle.store_tables.proofs.NamedTables.{first_is, first_named}
use Rattle.store_tables.proofs.StoredLemmas.{is_read}
use Rattle.store_tables.proofs.RowRules.{rules_of}
use Rattle.sqlite_keeper.specs.Tables.{IsOurs}
use Rattle.sqlite_keeper.specs.Contents.{Contents, contents_of, with_text, Within, Rises, IsKept, IsFirst, Sound}
use Rattle.sqlite_keeper.specs.Queries.{AsksVersion, HasTexts, HasWords}

-- which tables a schema of the second version has
pub tables_of : (s : Schema) → IsOurs s → (t : Tables) × IsSecond t × (s ≡ t.schema)
tables_of s (inl is) = (made_tables, inl refl, is)
tables_of s (inr is) = (moved_tables, inr refl, is)

-- a sound database with this schema obeys it
pub rules_as : (s : Schema) (d : Database) → d.schema ≡ s → IsDatabase d → Rules s d.trees
rules_as s d has sound = rules_of s d.trees (subst (λ t. IsSound t d.trees) has sound)

pub kept_contents : (t : Tables) (d : Database) → IsKept t d → contents_of d.trees ≡ contents_in t d.trees
kept_contents t d kept = (known t kept.second).reads d.trees (subst (λ s. IsSound s d.trees) kept.schema kept.sound)

pub first_contents : (d : Database) → IsFirst d → contents_of d.trees ≡ record { records = first_records (d.trees 0); texts = texts_in (d.trees 2) }
first_contents d first = (is_read d.trees).first (subst (λ s. IsSound s d.trees) first.schema first.sound)

first_asks : AsksVersion named_first
unfolding understood everything
first_asks = record { takes = (omega arith, refl); typed = refl }

made_asks : AsksVersion named_made
unfolding understood everything
made_asks = record { takes = (omega arith, refl); typed = refl }

moved_asks : AsksVersion named_moved
unfolding understood everything
moved_asks = record { takes = (omega arith, refl); typed = refl }

second_asks : (t : Tables) → IsSecond t → AsksVersion (named_in t)
second_asks t (inl is) = subst (λ u. AsksVersion (named_in u)) (sym is) made_asks
second_asks t (inr is) = subst (λ u. AsksVersion (named_in u)) (sym is) moved_asks

pub kept_texts : (t : Tables) (d : Database) → IsKept t d → HasTexts d
kept_texts t d kept =
    let k = known t kept.second in
    record { spot = named_in t; is = k.named; texts = k.named_texts; asks = second_asks t kept.second; schema = kept.schema; sound = kept.sound; rises = kept.named; told = ap (λ (c : Contents). c.texts) (kept_contents t d kept) }

pub first_texts : (d : Database) → IsFirst d → HasTexts d
first_texts d first = record { spot = named_first; is = first_is; texts = first_named; asks = first_asks; schema = first.schema; sound = first.sound; rises = first.named; told = ap (λ (c : Contents). c.texts) (first_contents d first) }

-- a sound connection has a table of texts
pub sound_words : {S : Type 0} (g : Ghosts S) (h : Held S) → Sound g h → HasWords g h
sound_words g h sound clean is_open = let s = sound clean is_open in (s.rests, kept_texts s.kept.0 (state g h).now s.kept.1)

pub within_of : (t : Tables) {S : Type 0} (g : Ghosts S) (h : Held S) → IsTrue (state g h).is_open → h.in_transaction ≡ true → IsKept t (state g h).now → Within t g h
within_of t g h is_open inside kept = record { is_open = is_open; inside = inside; schema = kept.schema; sound = kept.sound; groups = kept.groups; entries = kept.entries }

-- and back, where the rows of the texts rise
pub kept_of : (t : Tables) {S : Type 0} (g : Ghosts S) (h : Held S) → IsSecond t → Within t g h → Rises ((state g h).now.trees t.named_tree) → IsKept t (state g h).now
kept_of t g h second within named = record { second = second; schema = within.schema; sound = within.sound; groups = within.groups; entries = within.entries; named = named }

-- a text was put: the tables stay, and so do the records
pub turned_kept : (t : Tables) (d e : Database) (name text : List ℕ) → IsKept t d → e.schema ≡ t.schema → IsDatabase e → Turned (named_in t) d.trees e.trees name text
    → IsKept t e × (contents_of e.trees ≡ with_text (contents_of d.trees) name text)
turned_kept t d e name text kept schema sound turned =
    let l = (known t kept.second).layout in
    let groups : e.trees t.grps_tree ≡ d.trees t.grps_tree = turned.others (grps t.grps_tree) l.has_grps (λ same. l.named_apart.0 (sym same)) in
    let entries_are : e.trees t.entries_tree ≡ d.trees t.entries_tree = turned.others (entries t.entries_tree) l.has_entries (λ same. l.named_apart.2 (sym same)) in
    let after : IsKept t e = record { second = kept.second; schema = schema; sound = sound; groups = subst Rises (sym groups) kept.groups; entries = subst Rises (sym entries_are) kept.entries; named = turned.rises } in
    let here : contents_in t e.trees ≡ with_text (contents_in t d.trees) name text = λ i. record { records = joined (groups i) (entries_are i); texts = turned.texts i } in
    (after, kept_contents t e after ∙ here ∙ ap (λ (k : Contents). with_text k name text) (sym (kept_contents t d kept)))
