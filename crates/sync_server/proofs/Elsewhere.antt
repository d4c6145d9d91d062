-- What is added to a group leaves the records of each other.
use Rattle.std.proofs.Common.{◌≡◌, ◌≢◌, ◌∙◌, Bool, true, false, cond, List, [], ◌∷◌, map, filter, refl, sym, ap, subst, Less, Equal, Greater}
use Rattle.std.specs.Ordering.{is_eq}
use Rattle.std.specs.FinMap.{FinMap, entries, insert, contains_key, entries-insert}
use Rattle.std.specs.FinMap.Entries.{put, by_order}
use Rattle.budget_ports.specs.declared.keeper.Record.{Record}
use Rattle.budget_ports.specs.Contents.{Contents, Text, Place, text_cmp, place_cmp, is_in, of_entry, records_of_after, records_after, with_record, with_records, appended}
use Rattle.budget_ports.proofs.Places.{place_total, place_same}
use Rattle.sync_server.proofs.Sets.{not_at}

module _ (h : Text) where
  out_skip : (e : Place × Text) (es : List (Place × Text)) → is_eq (text_cmp e.0.0 h) ≡ false → filter (is_in h []) (e ∷ es) ≡ filter (is_in h []) es
  out_skip e es out = rw out refl

  filter_put : (p : Place) (b : Text) → is_eq (text_cmp p.0 h) ≡ false → (es : List (Place × Text)) → filter (is_in h []) (put place_cmp p b es) ≡ filter (is_in h []) es
  filter_put p b out [] = out_skip (p, b) [] out
  filter_put p b out (e ∷ es) =
      elim (place_cmp p e.0) as (λ o. place_cmp p e.0 ≡ o → filter (is_in h []) (by_order o ((p, b) ∷ e ∷ es) ((e.0, b) ∷ es) (e ∷ put place_cmp p b es)) ≡ filter (is_in h []) (e ∷ es)) [
        | Less ↦ λ t. out_skip (p, b) (e ∷ es) out
        | Equal ↦ λ t. (let there : is_eq (text_cmp e.0.0 h) ≡ false = subst (λ (x : Place). is_eq (text_cmp x.0 h) ≡ false) (place_same p e.0 t) out in
            out_skip (e.0, b) es there ∙ sym (out_skip e es there))
        | Greater ↦ λ t. ap (λ (us : List (Place × Text)). cond (is_in h [] e) (e ∷ us) us) (filter_put p b out es)
      ] refl

  one_more : (m : FinMap place_cmp Text) (g : Text) (r : Record) → is_eq (text_cmp g h) ≡ false → records_of_after (with_record g m r) h [] ≡ records_of_after m h []
  one_more m g r out = by (contains_key m (g, r.key))
    where
      by : (b : Bool) → records_of_after (cond b m (insert m (g, r.key) r.body)) h [] ≡ records_of_after m h []
      by true = refl
      by false = ap (λ (es : List (Place × Text)). map of_entry (filter (is_in h []) es)) (entries-insert place_total m (g, r.key) r.body) ∙ ap (map of_entry) (filter_put (g, r.key) r.body out (entries m))

  all_more : (m : FinMap place_cmp Text) (g : Text) (rs : List Record) → is_eq (text_cmp g h) ≡ false → records_of_after (with_records g m rs) h [] ≡ records_of_after m h []
  all_more m g [] out = refl
  all_more m g (r ∷ rs) out = all_more (with_record g m r) g rs out ∙ one_more m g r out

pub elsewhere : (k : Contents) (g h : Text) (rs : List Record) → h ≢ g → records_after (appended k g rs) h [] ≡ records_after k h []
elsewhere k g h rs n = all_more h k.records g rs (not_at g h n)
