use Rattle.std.proofs.Common.{◌≡◌, Bool, true, false, cond, List, [], ◌∷◌, map, filter, refl, ap, sym, ◌∙◌, if◌then◌else◌}
use Rattle.std.specs.Prelude.{◌||◌}
use Rattle.std.specs.BTreeSet as set
use Rattle.std.specs.Ordering.{eq_by_cmp}
use Rattle.std.specs.Map.Iter.{deref_pair}
use Rattle.std.proofs.lemmas.Map.Iter.{rest_more}
use Rattle.finite_sums.specs.Maps.{Text, text_cmp, is_among, keys_where}
use Rattle.book_rows.specs.declared.rows.CategoryRow.{CategoryRow}
use Rattle.dirty_cells.specs.Marking.{is_in_group}
use Rattle.dirty_cells.proofs.marks.mark_members.Goals as goal

or_turn : (e r o : Bool) → (r || ((e || false) || o)) ≡ ((e || r) || o)
or_turn true true o = refl
or_turn true false o = refl
or_turn false true o = refl
or_turn false false o = refl

one_more : (p : CategoryRow → Bool) (id q : Text) (row : CategoryRow) (es : List (Text × CategoryRow)) (o : Bool) (b : Bool) → p row ≡ b
    → (is_among text_cmp (keys_where p es) q || (is_among text_cmp (if b then id ∷ [] else []) q || o)) ≡ (is_among text_cmp (keys_where p ((id, row) ∷ es)) q || o)
one_more p id q row es o true e = or_turn (eq_by_cmp text_cmp q id) (is_among text_cmp (keys_where p es) q) o ∙ ap (λ t. is_among text_cmp (map (λ e. e.0) (cond t ((id, row) ∷ filter (λ e. p e.1) es) (filter (λ e. p e.1) es))) q || o) (sym e)
one_more p id q row es o false e = ap (λ t. is_among text_cmp (map (λ e. e.0) (cond t ((id, row) ∷ filter (λ e. p e.1) es) (filter (λ e. p e.1) es))) q || o) (sym e)

pub loop-id-preserved : goal.loop-id-preserved
loop-id-preserved c = λ q.
    let more : c.loop-id.id-iterator ≡ (c.in-Some.id.now, c.in-Some.row.now) ∷ c.next.new.self = rest_more deref_pair c.loop-id.id-iterator c.next.new.self c.next.result (c.in-Some.id, c.in-Some.row) c.in-Some.is c.next.ensures.steps in
    let p = is_in_group c.args.group.now in
    ap (λ b. is_among text_cmp (keys_where p c.next.new.self) q || b) (c.in_ok-mark_member.ensures q)
    ∙ one_more p c.in-Some.id.now q c.in-Some.row.now c.next.new.self (set.contains text_cmp c.loop-id.cs q) (p c.in-Some.row.now) refl
    ∙ ap (λ es. is_among text_cmp (keys_where p es) q || set.contains text_cmp c.loop-id.cs q) (sym more) ∙ c.loop-id.invariant q
