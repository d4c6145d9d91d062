-- Records added to a group within a transaction.
use Rattle.std.proofs.Common.{subst, ◌≡◌, ◌<◌, ◌+◌, ℕ, List, [], ◌∷◌, length, drop, slice_index_or, refl, sym, ap, ◌∙◌}
use Rattle.std.specs.FinMap.{FinMap}
use Rattle.std.proofs.lemmas.List.{drop_more}
use Rattle.sqlite.specs.Store.{Ghosts}
use Rattle.sqlite.specs.Held.{Held, state}
use Rattle.budget_ports.specs.declared.keeper.Record.{Record}
use Rattle.store_tables.specs.Texts.{Tables}
use Rattle.store_tables.specs.Layout.{Rises}
use Rattle.store_tables.specs.Within.{Within, Goes, Fell, records_now}
use Rattle.store_tables.specs.Named.{texts_in}
use Rattle.sqlite_keeper.specs.Contents.{Contents, Text, place_cmp, with_records, with_record, appended, AddsOn, Inside, Adds, IsKept}
use Rattle.sqlite_keeper.proofs.Kept.{kept_contents, kept_of}

pub begins : (t : Tables) {S : Type 0} (g : Ghosts S) (a : Held S) (group : Text) (batch : List Record) → Within t g a → AddsOn t g a a group batch batch
begins t g a group batch was = record { within = was; committed = refl; texts = refl; groups = refl; records = refl }

pub adds_next : (t : Tables) {S : Type 0} (g : Ghosts S) (a b c : Held S) (group : Text) (batch : List Record) (i : ℕ) (kept : Record) → i < length batch → kept ≡ slice_index_or batch i kept
    → AddsOn t g a b group batch (drop i batch) → Goes t g b c (with_record group (records_now t g b) kept) → (state g c).now.trees t.grps_tree ≡ (state g b).now.trees t.grps_tree → AddsOn t g a c group batch (drop (i + 1) batch)
adds_next t g a b c group batch i kept low is one two groups =
    let left : drop i batch ≡ kept ∷ drop (i + 1) batch = drop_more batch i kept low ∙ ap (λ (r : Record). r ∷ drop (i + 1) batch) (sym is) in
    record {
      within = two.within;
      committed = two.committed ∙ one.committed;
      texts = two.texts ∙ one.texts;
      groups = groups ∙ one.groups;
      records = ap (λ (m : FinMap place_cmp Text). with_records group m (drop (i + 1) batch)) two.records_are ∙ ap (with_records group (records_now t g b)) (sym left) ∙ one.records;
    }

pub fell_late : (t : Tables) {S : Type 0} (g : Ghosts S) (a b c : Held S) (group : Text) (batch left : List Record) → Within t g a → AddsOn t g a b group batch left → Fell g b c → Fell g a c
fell_late t g a b c group batch left was one two = record { was_open = λ _. was.is_open; committed = λ is_open. two.committed is_open ∙ one.committed }

-- once the group was found or made, all were added
pub adds_all : (t : Tables) {S : Type 0} (g : Ghosts S) (a b c : Held S) (group : Text) (batch : List Record) → IsKept t (state g a).now → Goes t g a b (records_now t g a) → AddsOn t g b c group batch [] → Adds g a c group batch
adds_all t g a b c group batch kept one two =
    let texts : (state g c).now.trees t.named_tree ≡ (state g a).now.trees t.named_tree = two.texts ∙ one.texts in
    let after : IsKept t (state g c).now = kept_of t g c kept.second two.within (subst Rises (sym texts) kept.named) in
    let records : records_now t g c ≡ with_records group (records_now t g a) batch = two.records ∙ ap (λ (m : FinMap place_cmp Text). with_records group m batch) one.records_are in
    record {
      inside = record { is_open = two.within.is_open; inside = two.within.inside; kept = (t, after) };
      contents = kept_contents t (state g c).now after ∙ (λ i. record { records = records i; texts = texts_in (texts i) }) ∙ ap (λ (k : Contents). appended k group batch) (sym (kept_contents t (state g a).now kept));
      committed = two.committed ∙ one.committed;
    }

pub adds_none : {S : Type 0} (g : Ghosts S) (a : Held S) (group : Text) → Inside g a → Adds g a a group []
adds_none g a group was = record { inside = was; contents = refl; committed = refl }
