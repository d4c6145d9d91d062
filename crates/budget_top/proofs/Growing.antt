-- What a group keeps when records are added.
use Rattle.std.proofs.Common.{◌≡◌, ◌≢◌, Bool, true, false, cond, ◌&&◌, ℕ, List, [], ◌∷◌, map, Result, Ok, inl, inr, refl, sym, ap, subst, ◌∙◌, Less, Equal, Greater}
use Rattle.std.specs.Prelude.{bytes_eq}
use Rattle.std.specs.List.{Contains, list_any}
use Rattle.std.specs.Ordering.{is_eq, is_lt}
use Rattle.std.proofs.lemmas.Bool.{cases_Bool}
use Rattle.std.proofs.lemmas.Slice.Eq.{bytes_eq-Decides}
use Rattle.std.specs.FinMap.{FinMap, put, entries, entries-insert, contains_key, insert}
use Rattle.std.specs.FinMap.Entries.{by_order}
use Rattle.budget_ports.specs.declared.keeper.Record.{Record}
use Rattle.budget_ports.specs.Contents.{Contents, Text, text_cmp, Place, place_cmp, is_in, records_of_after, records_after, with_record, with_records, appended}
use Rattle.budget_ports.proofs.Places.{text_same, place_total, place_same}
use Rattle.field_merge.specs.declared.message.Message.{Message}
use Rattle.field_merge.specs.Messages.{AreMessages}
use Rattle.field_merge.specs.Log.{has_stamp, by_stamp, placed, join_one, join}
use Rattle.field_merge.proofs.Ordered.{equal}
use Rattle.kept_messages.specs.Records.{record_of, kept_set}
use Rattle.kept_messages.specs.News.{new_in}
use Rattle.kept_messages.specs.Holding.{Holds}
use Rattle.kept_messages.proofs.OneRecord.{group, skip, hold}
use Rattle.kept_messages.proofs.KeptSets.{batches_kept}
use Rattle.kept_messages.proofs.Members.{still_there}
use Rattle.budget_top.specs.ServeSteps.{KeepsMore}

-- ---- records of another group

module _ (g h : Text) (other : g ≢ h) where
  out_by : (t : Text) (b : Bool) → t ≡ g → (is_eq (text_cmp t h) && b) ≡ false
  out_by t b is = elim (cases_Bool (is_eq (text_cmp t h))) [
    | inl tied ↦ absurd (other (sym is ∙ text_same t h (equal _ tied)))
    | inr apart ↦ ap (λ a. a && b) apart
  ]

  out : (e : Place × Text) → e.0.0 ≡ g → is_in h [] e ≡ false
  out e is = out_by e.0.0 (is_lt (text_cmp [] e.0.1)) is

  with_first : (e : Place × Text) (xs ys : List (Place × Text)) → group h xs ≡ group h ys → group h (e ∷ xs) ≡ group h (e ∷ ys)
  with_first e xs ys same = elim (cases_Bool (is_in h [] e)) [
    | inl mine ↦ hold h e xs mine ∙ ap (λ rs. record { key = e.0.1; body = e.1 } ∷ rs) same ∙ sym (hold h e ys mine)
    | inr apart ↦ skip h e xs apart ∙ same ∙ sym (skip h e ys apart)
  ]

  other_put : (key body : Text) (es : List (Place × Text)) → group h (put place_cmp (g, key) body es) ≡ group h es
  other_put key body [] = skip h ((g, key), body) [] (out ((g, key), body) refl)
  other_put key body (e ∷ es) =
      elim (place_cmp (g, key) e.0) as (λ r. place_cmp (g, key) e.0 ≡ r → group h (by_order r (((g, key), body) ∷ e ∷ es) ((e.0, body) ∷ es) (e ∷ put place_cmp (g, key) body es)) ≡ group h (e ∷ es)) [
        | Less ↦ λ is. skip h ((g, key), body) (e ∷ es) (out ((g, key), body) refl)
        | Equal ↦ λ is.
            let at : e.0.0 ≡ g = ap (λ (p : Place). p.0) (sym (place_same (g, key) e.0 is)) in
            skip h (e.0, body) es (out (e.0, body) at) ∙ sym (skip h e es (out e at))
        | Greater ↦ λ is. with_first e (put place_cmp (g, key) body es) es (other_put key body es)
      ] refl

  other_record : (m : FinMap place_cmp Text) (r : Record) → records_of_after (with_record g m r) h [] ≡ records_of_after m h []
  other_record m r = by (contains_key m (g, r.key))
    where
      by : (b : Bool) → group h (entries (cond b m (insert m (g, r.key) r.body))) ≡ group h (entries m)
      by true = refl
      by false = ap (group h) (entries-insert place_total m (g, r.key) r.body) ∙ other_put r.key r.body (entries m)

  other_records : (m : FinMap place_cmp Text) (rs : List Record) → records_of_after (with_records g m rs) h [] ≡ records_of_after m h []
  other_records m [] = refl
  other_records m (r ∷ rs) = other_records (with_record g m r) rs ∙ other_record m r

-- ---- messages

in_join : (ms ns : List Message) (m : Message) → Contains ms m → Contains (join ms ns) m
in_join ms [] m c = c
in_join ms (n ∷ ns) m c = in_join (join_one ms n) ns m (elim (list_any (has_stamp n.stamp) ms) as (λ b. Contains (cond b ms (placed by_stamp ms n)) m) [ true ↦ c | false ↦ still_there ms n m c ])

holds_itself : (g : Text) (k : Contents) (ms : List Message) → kept_set (records_after k g []) ≡ Ok ms → Holds g k k ms
holds_itself g k ms is = record {
  messages = is;
  kept = λ key body has. has;
  written = λ key body lacks has. absurd (let no = sym lacks ∙ has in cc);
  others = record { records = λ place apart. refl; texts = refl };
}

-- the contents with the records of the new ones of some messages
abbrev pub grown : Contents → Text → List Message → List Message → Contents
grown k g ms ns = appended k g (map record_of (new_in ms ns))

pub grown_set : (k : Contents) (g : Text) (ms ns : List Message) → AreMessages ns → kept_set (records_after k g []) ≡ Ok ms → kept_set (records_after (grown k g ms ns) g []) ≡ Ok (join ms ns)
grown_set k g ms ns valid is = (batches_kept g k k ms ns valid (holds_itself g k ms is)).messages

abbrev set : List Message → Result (List Message) ℕ
set ms = Ok ms

same_set : (ms ns : List Message) → set ms ≡ set ns → ms ≡ ns
same_set ms ns e = cc

pub grown_more : (k : Contents) (g : Text) (ms ns : List Message) → AreMessages ns → kept_set (records_after k g []) ≡ Ok ms → KeepsMore k (grown k g ms ns)
grown_more k g ms ns valid is h wanted keeps = elim (cases_Bool (bytes_eq g h)) [
  | inl same ↦
      let here : g ≡ h = (bytes_eq-Decides g h).0 same in
      let P : Text → Type 0 = λ t. kept_set (records_after (grown k g ms ns) t []) ≡ Ok (join ms ns) in
      let Q : Text → Type 0 = λ t. kept_set (records_after k t []) ≡ Ok ms in
      let all : keeps.set ≡ ms = same_set keeps.set ms (sym keeps.is_set ∙ subst Q here is) in
      record {
        set = join ms ns;
        is_set = subst P here (grown_set k g ms ns valid is);
        has = λ m c. in_join ms ns m (subst (λ (xs : List Message). Contains xs m) all (keeps.has m c));
      }
  | inr apart ↦
      let other : g ≢ h = λ e. let yes = (bytes_eq-Decides g h).1 e in absurd (let no = sym yes ∙ apart in cc) in
      record {
        set = keeps.set;
        is_set = ap kept_set (other_records g h other k.records (map record_of (new_in ms ns))) ∙ keeps.is_set;
        has = keeps.has;
      }
]
