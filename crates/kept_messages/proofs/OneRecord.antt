-- What a keeper's records are with one more: those of its group, and all other places.
use Rattle.std.proofs.Common.{◌≡◌, ◌≢◌, ◌<◌, Bool, true, false, ◌&&◌, cond, List, [], ◌∷◌, map, filter, length, Option, None, Some, is_some, refl, sym, ap, ap₂, ◌∙◌, true≢false, inl, inr, arith, Ordering, Less, Equal, Greater}
use Rattle.std.specs.Option.{option_or}
use Rattle.std.specs.Ordering.{is_eq, is_lt, ordering_then, ordering_reverse}
use Rattle.std.specs.Cmp.{tied_itself}
use Rattle.std.proofs.lemmas.Bool.{cases_Bool}
use Rattle.std.specs.FinMap.{FinMap, find, put, entries, entries_sorted, entries-insert, get, get-entries, get-insert, contains_key, insert}
use Rattle.std.specs.FinMap.Entries.{by_order}
use Rattle.budget_ports.specs.declared.keeper.Record.{Record}
use Rattle.budget_ports.specs.Contents.{Text, text_cmp, Place, place_cmp, is_in, of_entry, records_of_after, with_record}
use Rattle.budget_ports.proofs.Maps.{IsRising}
use Rattle.budget_ports.proofs.Rising.{is_true, in_order}
use Rattle.budget_ports.proofs.Places.{text_total, text_same, place_total, place_same}
use Rattle.budget_ports.proofs.Scans.{of_group, Above}
use Rattle.field_merge.proofs.Members.{or_none}
use Rattle.field_merge.proofs.Ordered.{equal}

-- ---- entries in order

lower : (x y : Place) (es : List (Place × Text)) → place_cmp x y ≡ Less → Above y es → Above x es
lower x y [] low all = tt
lower x y (e ∷ es) low all = (place_total.trans x y e.0 low all.0, lower x y es low all.1)

pub rising : (m : FinMap place_cmp Text) → IsRising place_cmp (entries m)
rising m = in_order (entries m) (is_true _ (entries_sorted m))

pub none_below : (p : Place) (es : List (Place × Text)) → Above p es → find place_cmp p es ≡ None
none_below p [] h = refl
none_below p (e ∷ es) h = ap (λ r. cond (is_eq r) (Some e.1) (find place_cmp p es)) h.0 ∙ none_below p es h.1

-- ---- the records of one group

abbrev pub group : Text → List (Place × Text) → List Record
group g es = of_group g [] es

pub skip : (g : Text) (e : Place × Text) (es : List (Place × Text)) → is_in g [] e ≡ false → group g (e ∷ es) ≡ group g es
skip g e es h = ap (λ b. map of_entry (cond b (e ∷ filter (is_in g []) es) (filter (is_in g []) es))) h

pub hold : (g : Text) (e : Place × Text) (es : List (Place × Text)) → is_in g [] e ≡ true → group g (e ∷ es) ≡ of_entry e ∷ group g es
hold g e es h = ap (λ b. map of_entry (cond b (e ∷ filter (is_in g []) es) (filter (is_in g []) es))) h

turned : (r : Ordering) → is_eq (ordering_reverse r) ≡ is_eq r
turned Less = refl
turned Equal = refl
turned Greater = refl

tied_by : (g : Text) (e : Place × Text) (r : Ordering) → text_cmp g e.0.0 ≡ r → is_eq (text_cmp e.0.0 g) ≡ is_eq r
tied_by g e r h = ap is_eq (text_total.antisymm e.0.0 g ∙ ap ordering_reverse h) ∙ turned r

outside : (g : Text) (e : Place × Text) (r : Ordering) → text_cmp g e.0.0 ≡ r → is_eq r ≡ false → is_in g [] e ≡ false
outside g e r h other = ap (λ b. b && is_lt (text_cmp [] e.0.1)) (tied_by g e r h ∙ other)

pub inside : (g : Text) (e : Place × Text) → text_cmp g e.0.0 ≡ Equal → text_cmp [] e.0.1 ≡ Less → is_in g [] e ≡ true
inside g e h some = ap₂ (λ (b : Bool) (r : Ordering). b && is_lt r) (tied_by g e Equal h) some

-- behind a record above the group none is of the group
none_above : (g : Text) (e : Place × Text) (es : List (Place × Text)) → text_cmp g e.0.0 ≡ Less → Above e.0 es → group g es ≡ []
none_above g e [] low all = refl
none_above g e (f ∷ es) low all =
    let above : text_cmp g f.0.0 ≡ Less = over (text_cmp e.0.0 f.0.0) (text_cmp e.0.1 f.0.1) refl all.0 in
    skip g f es (outside g f Less above refl) ∙ none_above g e es low all.1
  where
    over : (a b : Ordering) → text_cmp e.0.0 f.0.0 ≡ a → ordering_then a b ≡ Less → text_cmp g f.0.0 ≡ Less
    over Less b is h = text_total.trans g e.0.0 f.0.0 low is
    over Equal b is h = ap (text_cmp g) (sym (text_same e.0.0 f.0.0 is)) ∙ low
    over Greater b is h = absurd (cc)

-- entries with one more, where its place is not there
abbrev with_entry : Place → Text → List (Place × Text) → List (Place × Text)
with_entry p b es = cond (is_some (find place_cmp p es)) es (put place_cmp p b es)

absent : (p : Place) (b : Text) (es : List (Place × Text)) → find place_cmp p es ≡ None → with_entry p b es ≡ put place_cmp p b es
absent p b es h = ap (λ o. cond (is_some o) es (put place_cmp p b es)) h

-- records with one more, where its key is not there
abbrev pub add_record : List Record → Record → List Record
add_record [] r = r ∷ []
add_record (s ∷ rs) r = by_order (text_cmp r.key s.key) (r ∷ s ∷ rs) (s ∷ rs) (s ∷ add_record rs r)

cond_cons : {X : Type 0} (b : Bool) (x : X) (us vs : List X) → cond b (x ∷ us) (x ∷ vs) ≡ x ∷ cond b us vs
cond_cons true x us vs = refl
cond_cons false x us vs = refl

module _ (g k : Text) (b : Text) (some : text_cmp [] k ≡ Less) where
  abbrev new : Place × Text
  new = ((g, k), b)

  mine : is_in g [] new ≡ true
  mine = inside g new (tied_itself text_total g) some

  grown : (es : List (Place × Text)) → IsRising place_cmp es → group g (with_entry (g, k) b es) ≡ add_record (group g es) (of_entry new)
  grown [] up = hold g new [] mine
  grown (e ∷ es) up = go (grown es up.1) (text_cmp g e.0.0) (text_cmp k e.0.1) refl refl
    where
      found_by : (r : Ordering) → place_cmp (g, k) e.0 ≡ r → find place_cmp (g, k) (e ∷ es) ≡ cond (is_eq r) (Some e.1) (find place_cmp (g, k) es)
      found_by r h = ap (λ s. cond (is_eq s) (Some e.1) (find place_cmp (g, k) es)) h

      put_by : (r : Ordering) → place_cmp (g, k) e.0 ≡ r → put place_cmp (g, k) b (e ∷ es) ≡ by_order r (new ∷ e ∷ es) ((e.0, b) ∷ es) (e ∷ put place_cmp (g, k) b es)
      put_by r h = ap (λ s. by_order s (new ∷ e ∷ es) ((e.0, b) ∷ es) (e ∷ put place_cmp (g, k) b es)) h

      add_by : (xs : List Record) (r : Ordering) → text_cmp k e.0.1 ≡ r → add_record (of_entry e ∷ xs) (of_entry new) ≡ by_order r (of_entry new ∷ of_entry e ∷ xs) (of_entry e ∷ xs) (of_entry e ∷ add_record xs (of_entry new))
      add_by xs r h = ap (λ s. by_order s (of_entry new ∷ of_entry e ∷ xs) (of_entry e ∷ xs) (of_entry e ∷ add_record xs (of_entry new))) h

      before : place_cmp (g, k) e.0 ≡ Less → with_entry (g, k) b (e ∷ es) ≡ new ∷ e ∷ es
      before h = absent (g, k) b (e ∷ es) (found_by Less h ∙ none_below (g, k) es (lower (g, k) e.0 es h up.0)) ∙ put_by Less h

      there : place_cmp (g, k) e.0 ≡ Equal → with_entry (g, k) b (e ∷ es) ≡ e ∷ es
      there h = ap (λ o. cond (is_some o) (e ∷ es) (put place_cmp (g, k) b (e ∷ es))) (found_by Equal h)

      after : place_cmp (g, k) e.0 ≡ Greater → with_entry (g, k) b (e ∷ es) ≡ e ∷ with_entry (g, k) b es
      after h =
          ap (λ o. cond (is_some o) (e ∷ es) (put place_cmp (g, k) b (e ∷ es))) (found_by Greater h)
          ∙ ap (λ xs. cond (is_some (find place_cmp (g, k) es)) (e ∷ es) xs) (put_by Greater h)
          ∙ cond_cons (is_some (find place_cmp (g, k) es)) e es (put place_cmp (g, k) b es)

      -- the new record stands behind e
      behind : group g (with_entry (g, k) b es) ≡ add_record (group g es) (of_entry new) → place_cmp (g, k) e.0 ≡ Greater → is_in g [] e ≡ false
          → group g (with_entry (g, k) b (e ∷ es)) ≡ add_record (group g (e ∷ es)) (of_entry new)
      behind ih h out =
          ap (group g) (after h) ∙ skip g e (with_entry (g, k) b es) out ∙ ih ∙ ap (λ xs. add_record xs (of_entry new)) (sym (skip g e es out))

      go : group g (with_entry (g, k) b es) ≡ add_record (group g es) (of_entry new) → (r s : Ordering) → text_cmp g e.0.0 ≡ r → text_cmp k e.0.1 ≡ s
          → group g (with_entry (g, k) b (e ∷ es)) ≡ add_record (group g (e ∷ es)) (of_entry new)
      go ih Less s hr hs =
          let nothing : group g (e ∷ es) ≡ [] = skip g e es (outside g e Less hr refl) ∙ none_above g e es hr up.0 in
          ap (group g) (before (ap (λ r. ordering_then r (text_cmp k e.0.1)) hr))
          ∙ hold g new (e ∷ es) mine ∙ ap (λ xs. of_entry new ∷ xs) nothing ∙ ap (λ xs. add_record xs (of_entry new)) (sym nothing)
      go ih Greater s hr hs = behind ih (ap (λ r. ordering_then r (text_cmp k e.0.1)) hr) (outside g e Greater hr refl)
      go ih Equal Less hr hs =
          let whole : group g (e ∷ es) ≡ of_entry e ∷ group g es = hold g e es (inside g e hr (text_total.trans [] k e.0.1 some hs)) in
          ap (group g) (before (ap (λ r. ordering_then r (text_cmp k e.0.1)) hr ∙ hs))
          ∙ hold g new (e ∷ es) mine ∙ ap (λ xs. of_entry new ∷ xs) whole
          ∙ sym (add_by (group g es) Less hs) ∙ ap (λ xs. add_record xs (of_entry new)) (sym whole)
      go ih Equal Equal hr hs =
          let whole : group g (e ∷ es) ≡ of_entry e ∷ group g es = hold g e es (inside g e hr (ap (text_cmp []) (sym (text_same k e.0.1 hs)) ∙ some)) in
          ap (group g) (there (ap (λ r. ordering_then r (text_cmp k e.0.1)) hr ∙ hs)) ∙ whole
          ∙ sym (add_by (group g es) Equal hs) ∙ ap (λ xs. add_record xs (of_entry new)) (sym whole)
      go ih Equal Greater hr hs =
          let up_here : place_cmp (g, k) e.0 ≡ Greater = ap (λ r. ordering_then r (text_cmp k e.0.1)) hr ∙ hs in
          elim (cases_Bool (is_in g [] e)) [
            | inl in_it ↦
                let whole : group g (e ∷ es) ≡ of_entry e ∷ group g es = hold g e es in_it in
                ap (group g) (after up_here) ∙ hold g e (with_entry (g, k) b es) in_it ∙ ap (λ xs. of_entry e ∷ xs) ih
                ∙ sym (add_by (group g es) Greater hs) ∙ ap (λ xs. add_record xs (of_entry new)) (sym whole)
            | inr out ↦ behind ih up_here out
          ]

-- ---- a map with one record more

entries_with : (m : FinMap place_cmp Text) (g : Text) (r : Record) → entries (with_record g m r) ≡ with_entry (g, r.key) r.body (entries m)
entries_with m g r =
    by (contains_key m (g, r.key))
    ∙ ap (λ o. cond (is_some o) (entries m) (put place_cmp (g, r.key) r.body (entries m))) (get-entries m (g, r.key))
  where
    by : (b : Bool) → entries (cond b m (insert m (g, r.key) r.body)) ≡ cond b (entries m) (put place_cmp (g, r.key) r.body (entries m))
    by true = refl
    by false = entries-insert place_total m (g, r.key) r.body

pub above_none : (key : Text) → 0 < length key → text_cmp [] key ≡ Less
above_none [] some = absurd (omega arith)
above_none (x ∷ key) some = refl

pub group_with : (m : FinMap place_cmp Text) (g : Text) (r : Record) → 0 < length r.key → records_of_after (with_record g m r) g [] ≡ add_record (records_of_after m g []) r
group_with m g r some = ap (group g) (entries_with m g r) ∙ grown g r.key r.body (above_none r.key some) (entries m) (rising m)

-- what stands at a place with one record more: what stood there, or else the record, where the place is its own
pub get_with : (m : FinMap place_cmp Text) (g : Text) (r : Record) (p : Place) → get (with_record g m r) p ≡ option_or (get m p) (cond (is_eq (place_cmp p (g, r.key))) (Some r.body) None)
get_with m g r p = by (contains_key m (g, r.key)) refl
  where
    own : is_eq (place_cmp p (g, r.key)) ≡ true → contains_key m p ≡ contains_key m (g, r.key)
    own tied = ap (contains_key m) (place_same p (g, r.key) (equal _ tied))

    stays : (o : Option Text) (b : Bool) → (b ≡ true → is_some o ≡ true) → o ≡ option_or o (cond b (Some r.body) None)
    stays None true h = absurd (true≢false (sym (h refl)))
    stays None false h = refl
    stays (Some body) b h = refl

    enters : (o : Option Text) (b : Bool) → (b ≡ true → is_some o ≡ false) → cond b (Some r.body) o ≡ option_or o (cond b (Some r.body) None)
    enters None b h = refl
    enters (Some body) true h = absurd (true≢false (h refl))
    enters (Some body) false h = refl

    by : (b : Bool) → contains_key m (g, r.key) ≡ b → get (cond b m (insert m (g, r.key) r.body)) p ≡ option_or (get m p) (cond (is_eq (place_cmp p (g, r.key))) (Some r.body) None)
    by true there = stays (get m p) (is_eq (place_cmp p (g, r.key))) (λ tied. own tied ∙ there)
    by false new = get-insert place_total m (g, r.key) r.body p ∙ enters (get m p) (is_eq (place_cmp p (g, r.key))) (λ tied. own tied ∙ new)

pub others_with : (m : FinMap place_cmp Text) (g : Text) (r : Record) (p : Place) → p.0 ≢ g → get (with_record g m r) p ≡ get m p
others_with m g r p other = get_with m g r p ∙ ap (λ b. option_or (get m p) (cond b (Some r.body) None)) apart ∙ sym (or_none (get m p))
  where
    apart : is_eq (place_cmp p (g, r.key)) ≡ false
    apart = elim (cases_Bool (is_eq (place_cmp p (g, r.key)))) [
      | inl same ↦ absurd (other (ap (λ (q : Place). q.0) (place_same p (g, r.key) (equal _ same))))
      | inr out ↦ out
    ]
