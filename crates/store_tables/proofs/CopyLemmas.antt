-- The copies within a transaction.
use Rattle.std.proofs.Common.{◌≡◌, ◌<◌, ◌+◌, ℕ, List, [], ◌∷◌, length, drop, slice_index_or, refl, sym, ap, ◌∙◌}
use Rattle.std.specs.FinMap.{FinMap}
use Rattle.std.proofs.lemmas.List.{drop_more}
use Rattle.sqlite_value.specs.declared.value.Value.TheVariants.{Null, Text as Words}
use Rattle.sqlite_value.specs.Order.{Row, column, bytes}
use Rattle.sqlite_sql.specs.Program.{overlay}
use Rattle.sqlite.specs.Store.{Ghosts}
use Rattle.sqlite.specs.Held.{Held}
use Rattle.sqlite.specs.Term.{col}
use Rattle.store_tables.specs.Texts.{Tables, by}
use Rattle.store_tables.specs.Joined.{Text, place_cmp}
use Rattle.store_tables.specs.Within.{Within, Goes, Fell, records_now}
use Rattle.store_tables.specs.Copied.{copied, with_shown, CopiesOn, AsksItems}
use Rattle.store_tables.proofs.Lists.{Shows, shows, shows_same}
use Rattle.store_tables.proofs.RowRules.{items_moved}

pub begins : (t : Tables) {S : Type 0} (g : Ghosts S) (a : Held S) (rows : List Row) → Within t g a → CopiesOn t g a a rows rows
begins t g a rows was = record { goes = record { within = was; committed = refl; texts = refl; others = λ u has x y z. refl; records_are = refl }; records = refl }

pub copies_on : (t : Tables) {S : Type 0} (g : Ghosts S) (a b c : Held S) (rows : List Row) (i : ℕ) (row : Row) → i < length rows → row ≡ slice_index_or rows i row
    → CopiesOn t g a b rows (drop i rows) → Goes t g b c (with_shown (records_now t g b) row) → CopiesOn t g a c rows (drop (i + 1) rows)
copies_on t g a b c rows i row low is one two =
    let left : drop i rows ≡ row ∷ drop (i + 1) rows = drop_more rows i row low ∙ ap (λ (x : Row). x ∷ drop (i + 1) rows) (sym is) in
    record {
      goes = record { within = two.within; committed = two.committed ∙ one.goes.committed; texts = two.texts ∙ one.goes.texts; others = λ u has x y z. two.others u has x y z ∙ one.goes.others u has x y z; records_are = refl };
      records = ap (λ (m : FinMap place_cmp Text). copied m (drop (i + 1) rows)) two.records_are ∙ ap (copied (records_now t g b)) (sym left) ∙ one.records;
    }

-- a later row failed
pub fell_later : (t : Tables) {S : Type 0} (g : Ghosts S) (a b c : Held S) (rows left : List Row) → Within t g a → CopiesOn t g a b rows left → Fell g b c → Fell g a c
fell_later t g a b c rows left was one two = record { was_open = λ _. was.is_open; committed = λ is_open. two.committed is_open ∙ one.goes.committed }

pub asks_items : AsksItems
asks_items db rules rises rows h =
    let read = shows 0 [] (col 1 1 ∷ col 1 2 ∷ col 1 3 ∷ []) (by 1 ∷ by 2 ∷ []) (overlay db []) [] rows (h.answer Null) in
    let all : Shows db 0 [] (col 1 1 ∷ col 1 2 ∷ col 1 3 ∷ []) [] rows = shows_same (overlay db []) db 0 [] (col 1 1 ∷ col 1 2 ∷ col 1 3 ∷ []) [] rows refl read in (
      record {
        sound = λ x at. let r = all.sound x at in (r.0, r.1, ap (λ (z : Row). (bytes (column z 0), bytes (column z 1))) r.3, ap (λ (z : Row). bytes (column z 2)) r.3);
        complete = λ r there. (column r 1 ∷ column r 2 ∷ column r 3 ∷ [], all.complete r there refl, refl, refl);
      },
      λ x at.
          let r = all.sound x at in
          let typed = items_moved db rules r.0 r.1 in
          record {
            group = ap (λ (z : Row). column z 0) r.3 ∙ typed.0 ∙ ap (λ (z : Row). Words (bytes (column z 0))) (sym r.3);
            key = ap (λ (z : Row). column z 1) r.3 ∙ typed.1 ∙ ap (λ (z : Row). Words (bytes (column z 1))) (sym r.3);
            body = ap (λ (z : Row). column z 2) r.3 ∙ typed.2 ∙ ap (λ (z : Row). Words (bytes (column z 2))) (sym r.3);
          },
    )
