-- The transaction that was noted last need not be noted again.
use Rattle.std.proofs.Common.{◌≡◌, Bool, true, false, Option, Some, None, refl, ap, sym, ◌∙◌, true≢false}
use Rattle.std.specs.Prelude.{◌||◌, ◌&&◌}
use Rattle.std.specs.Ordering.{eq_by_cmp}
use Rattle.std.specs.FinMap.{get}
use Rattle.field_values.specs.declared.value.Value.{Value}
use Rattle.finite_sums.specs.Maps.{Text, text_cmp, is_among}
use Rattle.book_rows.specs.declared.rows.Rows.{Rows}
use Rattle.book_rows.specs.declared.rows.TxRow.{TxRow}
use Rattle.book_rows.specs.Kinds.{flag_of}
use Rattle.book_rows.specs.declared.column.Column.{Column}
use Rattle.book_rows.specs.declared.column.Column.TheVariants.{Tombstone}
use Rattle.envelope_cells.proofs.Among.{same_texts, itself, or_left}
use Rattle.dirty_cells.specs.Changes.{differ, sets_tombstone, tx_governs}
use Rattle.dirty_cells.specs.Governing.{only_where, is_last, IsNoted}

has_no_row : {A : Type 0} (o : Option A) → elim o as (λ _. Bool) [ None ↦ true | Some x ↦ false ] ≡ true → o ≡ None
has_no_row None h = refl
has_no_row (Some x) h = absurd (true≢false (sym h))

module _ (r : Rows) (id : Text) (value : Value) (txs parents : Text → Bool) where
  -- it is where a change of its row would put it
  pub last_noted : (column : Column) (last : Option Text) → is_last last id column ≡ true → IsNoted r last txs parents → (txs id ≡ true) × (tx_governs r id column value ≡ true → parents id ≡ true)
  last_noted column None h noted = absurd (true≢false (sym h))
  last_noted Tombstone (Some last) h noted = absurd (true≢false (sym h))
  last_noted other (Some last) h noted =
      let same = same_texts last id h in
      (ap txs (sym same) ∙ noted.0, λ governs. ap parents (sym same) ∙ noted.1 (ap (get r.txs) same ∙ has_no_row (get r.txs id) governs))

-- one that has no row governs its parts
pub governs_new : (r : Rows) (id : Text) (column : Column) (value : Value) → get r.txs id ≡ None → tx_governs r id column value ≡ true
governs_new r id column value e = ap (λ (o : Option TxRow). elim o as (λ _. Bool) [ None ↦ true | Some x ↦ sets_tombstone column && differ x.tombstone (flag_of value) ]) e

-- a set where an id is, where a test passes, is as if the id were put into it
pub put_before : (ids : Text → Bool) (id q : Text) (b : Bool) → (b ≡ true → ids id ≡ true) → ids q ≡ (is_among text_cmp (only_where b id) q || ids q)
put_before ids id q true h = by (eq_by_cmp text_cmp q id) refl
  where
    by : (e : Bool) → eq_by_cmp text_cmp q id ≡ e → ids q ≡ ((e || false) || ids q)
    by true e = ap ids (same_texts q id e) ∙ h refl
    by false e = refl
put_before ids id q false h = refl

pub put_itself : (b o : Bool) (id : Text) → b ≡ true → (is_among text_cmp (only_where b id) id || o) ≡ true
put_itself true o id h = or_left _ o (or_left _ false (itself id))
put_itself false o id h = absurd (true≢false (sym h))
