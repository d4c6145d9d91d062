-- The records of a group, and the messages or the place that they are read as.
use Rattle.std.proofs.Common.{◌≡◌, ◌<◌, ℕ, zero, suc, ◌+◌, Bool, true, false, cond, List, [], ◌∷◌, ◌++◌, length, Option, None, Some, is_none, Result, Ok, Err, inl, inr, refl, sym, ap, subst, ◌∙◌, arith, Less, Equal}
use Rattle.std.specs.List.{Contains, AllByRecursion, filter_map, position_from}
use Rattle.std.specs.Ordering.{is_eq}
use Rattle.std.specs.Cmp.{tied_itself}
use Rattle.std.proofs.lemmas.Bool.{and_parts}
use Rattle.std.proofs.lemmas.List.Elements.{Contains-append_left, Contains-append_right, Contains-append_cases}
use Rattle.std.specs.FinMap.{find, entries, get-entries}
use Rattle.budget_ports.specs.declared.keeper.Record.{Record}
use Rattle.budget_ports.specs.Contents.{Contents, Text, text_cmp, Place, place_cmp, is_in, of_entry, records_after}
use Rattle.budget_ports.specs.Keeper.{Rise}
use Rattle.budget_ports.proofs.Maps.{IsRising as AreRising}
use Rattle.budget_ports.proofs.Rising.{less_is, records_rise}
use Rattle.budget_ports.proofs.Places.{text_total, text_same, place_total, place_same}
use Rattle.budget_ports.proofs.Scans.{Above}
use Rattle.field_merge.specs.declared.message.Message.{Message}
use Rattle.field_merge.specs.Log.{join}
use Rattle.field_merge.proofs.Members.{here, there, all_of}
use Rattle.field_merge.proofs.Ordered.{equal}
use Rattle.kept_messages.specs.Records.{message_in, unless_bad, kept_set, KeepMessages}
use Rattle.kept_messages.specs.Groups.{IsKept, AreOfGroup, IsFirstBad, IsReadAs, GroupsAreRead}
use Rattle.kept_messages.proofs.OneRecord.{group, rising, none_below, skip, hold, inside, above_none}
use Rattle.kept_messages.proofs.KeptSets.{Reads, kept_reads, rise_too, keeps_none}

-- ---- a member is the first element, or one of the others

module _ {A : Type 0} where
  pub of_cons : (P : A → Type 0) (x : A) (xs : List A) (y : A) → P x → ((z : A) → Contains xs z → P z) → Contains (x ∷ xs) y → P y
  of_cons P x xs y first rest (zero, within, is) = subst P is first
  of_cons P x xs y first rest (suc k, within, is) = rest y (k, omega (arith, within), is)

  none_in : (y : A) → Contains [] y → ⊥
  none_in y (k, within, is) = omega (arith, within)

-- ---- the records of a group are those that the map has at its places

-- found among entries, under a key of at least one byte
abbrev IsFound : Text → List (Place × Text) → Record → Type 0
IsFound g es r = (0 < length r.key) × (find place_cmp (g, r.key) es ≡ Some r.body)

some_above : (key : Text) → text_cmp [] key ≡ Less → 0 < length key
some_above [] h = cc
some_above (x ∷ key) h = omega arith

-- what is found behind an entry is found with it
behind : (g : Text) (e : Place × Text) (es : List (Place × Text)) (r : Record) → Above e.0 es → IsFound g es r → IsFound g (e ∷ es) r
behind g e es r low h = (h.0, go (is_eq (place_cmp (g, r.key) e.0)) refl)
  where
    go : (b : Bool) → is_eq (place_cmp (g, r.key) e.0) ≡ b → find place_cmp (g, r.key) (e ∷ es) ≡ Some r.body
    go false is = ap (λ b. cond b (Some e.1) (find place_cmp (g, r.key) es)) is ∙ h.1
    go true is =
        let at : (g, r.key) ≡ e.0 = place_same (g, r.key) e.0 (equal _ is) in
        let none : find place_cmp (g, r.key) es ≡ None = ap (λ (p : Place). find place_cmp p es) at ∙ none_below e.0 es low in
        absurd (let no = sym none ∙ h.1 in cc)

first_found : (g : Text) (e : Place × Text) (es : List (Place × Text)) → is_in g [] e ≡ true → IsFound g (e ∷ es) (of_entry e)
first_found g e es h =
    let parts = and_parts _ _ h in
    let here : e.0.0 ≡ g = text_same e.0.0 g (equal _ parts.0) in
    let own : place_cmp (g, e.0.1) e.0 ≡ Equal = ap (λ (t : Text). place_cmp (t, e.0.1) e.0) (sym here) ∙ tied_itself place_total e.0 in
    (some_above e.0.1 (less_is _ parts.1), ap (λ o. cond (is_eq o) (Some e.1) (find place_cmp (g, e.0.1) es)) own)

all_found : (g : Text) (es : List (Place × Text)) → AreRising place_cmp es → (r : Record) → Contains (group g es) r → IsFound g es r
all_found g [] up r c = absurd (none_in r c)
all_found g (e ∷ es) up r c = by (λ q d. behind g e es q up.0 (all_found g es up.1 q d)) (is_in g [] e) refl
  where
    by : ((q : Record) → Contains (group g es) q → IsFound g (e ∷ es) q) → (b : Bool) → is_in g [] e ≡ b → IsFound g (e ∷ es) r
    by later true is = of_cons (IsFound g (e ∷ es)) (of_entry e) (group g es) r (first_found g e es is) later (subst (λ (rs : List Record). Contains rs r) (hold g e es is) c)
    by later false is = later r (subst (λ (rs : List Record). Contains rs r) (skip g e es is) c)

found_there : (g : Text) (es : List (Place × Text)) (r : Record) → IsFound g es r → Contains (group g es) r
found_there g [] r h = absurd (let no = h.1 in cc)
found_there g (e ∷ es) r h = by (found_there g es r) (is_eq (place_cmp (g, r.key) e.0)) refl
  where
    later : (b : Bool) → is_in g [] e ≡ b → Contains (group g es) r → Contains (group g (e ∷ es)) r
    later true is c = subst (λ (rs : List Record). Contains rs r) (sym (hold g e es is)) (there (of_entry e) (group g es) r c)
    later false is c = subst (λ (rs : List Record). Contains rs r) (sym (skip g e es is)) c

    by : (IsFound g es r → Contains (group g es) r) → (b : Bool) → is_eq (place_cmp (g, r.key) e.0) ≡ b → Contains (group g (e ∷ es)) r
    by on false is = later (is_in g [] e) refl (on (h.0, ap (λ b. cond b (Some e.1) (find place_cmp (g, r.key) es)) (sym is) ∙ h.1))
    by on true is =
        let at : e.0 ≡ (g, r.key) = sym (place_same (g, r.key) e.0 (equal _ is)) in
        let body : Some e.1 ≡ Some r.body = ap (λ b. cond b (Some e.1) (find place_cmp (g, r.key) es)) (sym is) ∙ h.1 in
        let same : e.1 ≡ r.body = cc in
        let mine : is_in g [] e ≡ true =
        inside g e (ap (λ (p : Place). text_cmp g p.0) at ∙ tied_itself text_total g) (ap (λ (p : Place). text_cmp [] p.1) at ∙ above_none r.key h.0) in
        let is_it : of_entry e ≡ r = ap (λ (p : Place). record { key = p.1; body = e.1 }) at ∙ ap (λ (t : Text). record { key = r.key; body = t }) same in
        subst (Contains (group g (e ∷ es))) is_it (subst (λ (rs : List Record). Contains rs (of_entry e)) (sym (hold g e es mine)) (here (of_entry e) (group g es)))

-- a record is one of those of the group just where the group keeps it
pub is_kept : (k : Contents) (g : Text) (r : Record) → Contains (records_after k g []) r → IsKept k g r
is_kept k g r c = let f = all_found g (entries k.records) (rising k.records) r c in (f.0, get-entries k.records (g, r.key) ∙ f.1)

pub kept_is : (k : Contents) (g : Text) (r : Record) → IsKept k g r → Contains (records_after k g []) r
kept_is k g r h = found_there g (entries k.records) r (h.0, sym (get-entries k.records (g, r.key)) ∙ h.1)

-- ---- a message set

message_of : (rs : List Record) (ms : List Message) → Reads rs ms → (r : Record) → Contains rs r → (m : Message) × (message_in r ≡ Some m) × Contains ms m
message_of [] ms reads r c = absurd (none_in r c)
message_of (q ∷ rs) [] reads r c = absurd reads
message_of (q ∷ rs) (n ∷ ms) reads r c =
    of_cons (λ p. (m : Message) × (message_in p ≡ Some m) × Contains (n ∷ ms) m) q rs r (n, reads.0, here n ms)
    (λ p d. let rest = message_of rs ms reads.1 p d in (rest.0, rest.1, there n ms rest.0 rest.2)) c

record_for : (rs : List Record) (ms : List Message) → Reads rs ms → (m : Message) → Contains ms m → (r : Record) × Contains rs r × (message_in r ≡ Some m)
record_for rs [] reads m c = absurd (none_in m c)
record_for [] (n ∷ ms) reads m c = absurd reads
record_for (q ∷ rs) (n ∷ ms) reads m c =
    of_cons (λ k. (r : Record) × Contains (q ∷ rs) r × (message_in r ≡ Some k)) n ms m (q, here q rs, reads.0)
    (λ k d. let rest = record_for rs ms reads.1 k d in (rest.0, there q rs rest.0 rest.1, rest.2)) c

set_read : (k : Contents) (g : Text) (ms : List Message) → kept_set (records_after k g []) ≡ Ok ms → AreOfGroup k g ms
set_read k g ms h =
    let rs : List Record = records_after k g [] in
    let up : Rise rs = records_rise k.records g [] in
    let reads : Reads rs ms = kept_reads rs ms up h in record {
      rising = rise_too rs ms up reads;
      each = λ r kept. message_of rs ms reads r (kept_is k g r kept);
      no_other = λ m c. let r = record_for rs ms reads m c in (r.0, is_kept k g r.0 r.1, r.2);
    }

-- ---- a bad record

record IsCut (rs : List Record) (index : ℕ) : Type 0 where
  front : List Record
  bad : Record
  rest : List Record
  whole : front ++ bad ∷ rest ≡ rs
  number : length front ≡ index
  keep : KeepMessages front
  none : message_in bad ≡ None

cut_at : (rs : List Record) (from place : ℕ) → position_from keeps_none from rs ≡ Some place → (index : ℕ) × (from + index ≡ place) × IsCut rs index
cut_at [] from place h = absurd (cc)
cut_at (r ∷ rs) from place h = by (cut_at rs (from + 1) place) (message_in r) refl h
  where
    by : (position_from keeps_none (from + 1) rs ≡ Some place → (index : ℕ) × ((from + 1) + index ≡ place) × IsCut rs index) → (o : Option Message) → message_in r ≡ o → cond (is_none o) (Some from) (position_from keeps_none (from + 1) rs) ≡ Some place → (index : ℕ) × (from + index ≡ place) × IsCut (r ∷ rs) index
    by on None is k =
        let at : from ≡ place = cc in
        (0, (omega (arith, at)), record { front = []; bad = r; rest = rs; whole = refl; number = refl; keep = tt; none = is })
    by on (Some m) is k =
        let later = on k in
        let c = later.2 in (
          suc later.0,
          (let at = later.1 in omega arith),
          record {
            front = r ∷ c.front;
            bad = c.bad;
            rest = c.rest;
            whole = ap (λ l. r ∷ l) c.whole;
            number = ap suc c.number;
            keep = (rw is refl, c.keep);
            none = c.none;
          },
        )

-- the first ones of rising records rise, and are below the next one, which is below the others
record IsSplit (front : List Record) (bad : Record) (rest : List Record) : Type 0 where
  up : Rise front
  low : AllByRecursion (λ q. text_cmp q.key bad.key ≡ Less) front
  high : AllByRecursion (λ q. text_cmp bad.key q.key ≡ Less) rest

all_front : (P : Record → Type 0) (front : List Record) (bad : Record) (rest : List Record) → AllByRecursion P (front ++ bad ∷ rest) → AllByRecursion P front × P bad
all_front P [] bad rest all = (tt, all.0)
all_front P (q ∷ front) bad rest all = let later = all_front P front bad rest all.1 in ((all.0, later.0), later.1)

split : (front : List Record) (bad : Record) (rest : List Record) → Rise (front ++ bad ∷ rest) → IsSplit front bad rest
split [] bad rest up = record { up = tt; low = tt; high = up.1 }
split (q ∷ front) bad rest up =
    let later = split front bad rest up.2 in
    let low = all_front (λ s. text_cmp q.key s.key ≡ Less) front bad rest up.1 in
    record { up = (up.0, low.0, later.up); low = (low.1, later.low); high = later.high }

never : (a b : Text) → text_cmp a b ≡ Less → text_cmp b a ≡ Less → ⊥
never a b low up = let no = sym (text_total.trans a b a low up) ∙ tied_itself text_total a in cc

first_bad : (k : Contents) (g : Text) (index : ℕ) → kept_set (records_after k g []) ≡ Err index → IsFirstBad k g index
first_bad k g index h = by (position_from keeps_none 0 (records_after k g [])) refl h
  where
    rs : List Record
    rs = records_after k g []

    told : (c : IsCut rs index) → IsFirstBad k g index
    told c =
        let s = split c.front c.bad c.rest (subst Rise (sym c.whole) (records_rise k.records g [])) in record {
          bad = c.bad;
          kept = is_kept k g c.bad (subst (λ (l : List Record). Contains l c.bad) c.whole (Contains-append_right c.front (c.bad ∷ c.rest) c.bad (here c.bad c.rest)));
          no_message = c.none;
          before = c.front;
          each_once = s.up;
          are_before = λ r. (
            λ d. (is_kept k g r (subst (λ (l : List Record). Contains l r) c.whole (Contains-append_left c.front (c.bad ∷ c.rest) r d)), all_of (λ q. text_cmp q.key c.bad.key ≡ Less) c.front s.low r d),
            λ d. elim (Contains-append_cases c.front (c.bad ∷ c.rest) r (subst (λ (l : List Record). Contains l r) (sym c.whole) (kept_is k g r d.0))) [
              | inl first ↦ first
              | inr later ↦ absurd (of_cons (λ q. text_cmp q.key c.bad.key ≡ Less → ⊥) c.bad c.rest r (λ low. never c.bad.key c.bad.key low low)
                  (λ q e low. never q.key c.bad.key low (all_of (λ p. text_cmp c.bad.key p.key ≡ Less) c.rest s.high q e)) later d.1)
            ],
          );
          keep = c.keep;
          number = c.number;
        }

    by : (o : Option ℕ) → position_from keeps_none 0 rs ≡ o → unless_bad o (join [] (filter_map message_in rs)) ≡ Err index → IsFirstBad k g index
    by None is e = absurd (cc)
    by (Some place) is e =
        let c = cut_at rs 0 place is in
        let same : place ≡ index = cc in
        let at : c.0 ≡ index = let begun = c.1 in omega arith in
        told (subst (IsCut rs) at c.2)

pub groups_read : GroupsAreRead
groups_read k g = by (kept_set (records_after k g [])) refl
  where
    by : (read : Result (List Message) ℕ) → kept_set (records_after k g []) ≡ read → IsReadAs k g read
    by (Ok ms) is = set_read k g ms is
    by (Err index) is = first_bad k g index is
