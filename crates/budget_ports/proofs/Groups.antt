-- Records in two levels, as one map.
use Rattle.std.proofs.Common.{◌≡◌, inl, inr, Result, Ok, Err, OnOk, OnErr, IfOk, true, false, cond, List, [], ◌∷◌, ◌++◌, map, filter, Option, None, Some, is_some, refl, sym, ap, ◌∙◌, true≢false, Ordering, Less, Equal, Greater}
use Rattle.std.specs.Prelude.{unwrap_or, if◌then◌else◌}
use Rattle.std.specs.Ordering.{is_lt, is_eq, eq_by_cmp, ordering_then}
use Rattle.std.specs.Cmp.{tied_itself, eq_by_cmp_equiv}
use Rattle.std.specs.List.{AllByRecursion}
use Rattle.std.specs.BTreeMap.{is_at}
use Rattle.std.specs.Map.{lookup}
use Rattle.std.proofs.lemmas.Bool.{cases_Bool}
use Rattle.std.specs.FinMap.{FinMap, find, entries, empty, from_entries, get, insert, contains_key, get-from_entries, get-entries, get-empty, get-insert, same_map}
use Rattle.budget_ports.specs.declared.keeper.Record.{Record}
use Rattle.budget_ports.specs.Contents.{Text, text_cmp, Place, place_cmp, is_in, of_entry, records_of_after, with_record, with_records}
use Rattle.budget_ports.specs.Groups.{Bodies, placed, all_placed, flattened, with_body, with_bodies, bodies_after}
use Rattle.budget_ports.proofs.Maps.{IsRising, entries_rise, entries_are, no_entries, equal_is, get_is, one_put}
use Rattle.budget_ports.proofs.Scans.{of_group}
use Rattle.budget_ports.proofs.Bodies.{of_pair}
use Rattle.budget_ports.proofs.Places.{text_total, text_same, place_total, place_same}

-- what a group, if it is there, has under a key
abbrev pub body_in : Option Bodies → Text → Option Text
body_in None k = None
body_in (Some n) k = get n k

-- the bodies of a group, if it is there
abbrev pub bodies_of : Option Bodies → Bodies
bodies_of o = unwrap_or o empty

-- ---- what is found

not_tied : (o x : Ordering) → is_eq o ≡ false → is_eq (ordering_then o x) ≡ false
not_tied Less x h = refl
not_tied Equal x h = absurd (true≢false h)
not_tied Greater x h = refl

-- in a group and what follows it, in which nothing is found
find_here : (p : Place) (g : Text) (es : List (Text × Text)) (rest : List (Place × Text)) → text_cmp p.0 g ≡ Equal → find place_cmp p rest ≡ None → find place_cmp p (placed g es ++ rest) ≡ find text_cmp p.1 es
find_here p g [] rest tied none = none
find_here p g (e ∷ es) rest tied none =
    ap (λ o. cond (is_eq (ordering_then o (text_cmp p.1 e.0))) (Some e.1) (find place_cmp p (placed g es ++ rest))) tied
    ∙ ap (cond (is_eq (text_cmp p.1 e.0)) (Some e.1)) (find_here p g es rest tied none)

-- behind another group
find_behind : (p : Place) (g : Text) (es : List (Text × Text)) (rest : List (Place × Text)) → is_eq (text_cmp p.0 g) ≡ false → find place_cmp p (placed g es ++ rest) ≡ find place_cmp p rest
find_behind p g [] rest apart = refl
find_behind p g (e ∷ es) rest apart =
    ap (λ b. cond b (Some e.1) (find place_cmp p (placed g es ++ rest))) (not_tied (text_cmp p.0 g) (text_cmp p.1 e.0) apart) ∙ find_behind p g es rest apart

-- among groups that are all above
find_none : (p : Place) (gs : List (Text × Bodies)) → AllByRecursion (λ f. text_cmp p.0 f.0 ≡ Less) gs → find place_cmp p (all_placed gs) ≡ None
find_none p [] up = refl
find_none p (g ∷ gs) up = find_behind p g.0 (entries g.1) (all_placed gs) (ap is_eq up.0) ∙ find_none p gs up.1

above_tied : (q g : Text) (gs : List (Text × Bodies)) → text_cmp q g ≡ Equal → AllByRecursion (λ f. text_cmp g f.0 ≡ Less) gs → AllByRecursion (λ f. text_cmp q f.0 ≡ Less) gs
above_tied q g gs tied up = rw (text_same q g tied) up

find_all : (p : Place) (gs : List (Text × Bodies)) → IsRising text_cmp gs → find place_cmp p (all_placed gs) ≡ body_in (find text_cmp p.0 gs) p.1
find_all p [] up = refl
find_all p (g ∷ gs) up = elim (cases_Bool (is_eq (text_cmp p.0 g.0))) [
  | inl tied ↦
      let same = equal_is _ tied in
      find_here p g.0 (entries g.1) (all_placed gs) same (find_none p gs (above_tied p.0 g.0 gs same up.0))
      ∙ sym (get-entries g.1 p.1) ∙ sym (ap (λ b. body_in (cond b (Some g.1) (find text_cmp p.0 gs)) p.1) tied)
  | inr apart ↦
      find_behind p g.0 (entries g.1) (all_placed gs) apart ∙ find_all p gs up.1
      ∙ sym (ap (λ b. body_in (cond b (Some g.1) (find text_cmp p.0 gs)) p.1) apart)
]

-- both levels as one map have at a place what its group has under its key
pub get-flattened : (m : FinMap text_cmp Bodies) (p : Place) → get (flattened m) p ≡ body_in (get m p.0) p.1
get-flattened m p =
    get-from_entries place_total (all_placed (entries m)) p ∙ find_all p (entries m) (entries_rise text_cmp m)
    ∙ ap (λ o. body_in o p.1) (sym (get-entries m p.0))

-- two levels with the same at each place are one map
same_flattened : (m n : FinMap text_cmp Bodies) → ((p : Place) → body_in (get m p.0) p.1 ≡ body_in (get n p.0) p.1) → flattened m ≡ flattened n
same_flattened m n same = same_map place_total place_same _ _ (λ p. get-flattened m p ∙ same p ∙ sym (get-flattened n p))

-- ---- records are added

-- a group that is put as it is changes nothing, and so for one without bodies that is not there
stays : (m : FinMap text_cmp Bodies) (g : Text) → flattened (insert m g (bodies_of (get m g))) ≡ flattened m
stays m g = same_flattened _ _ (λ p. ap (λ o. body_in o p.1) (get-insert text_total m g (bodies_of (get m g)) p.0) ∙ here p)
  where
    kept : (o : Option Bodies) (k : Text) → body_in (Some (bodies_of o)) k ≡ body_in o k
    kept None k = get-empty text_cmp k
    kept (Some n) k = refl

    here : (p : Place) → body_in (cond (eq_by_cmp text_cmp p.0 g) (Some (bodies_of (get m g))) (get m p.0)) p.1 ≡ body_in (get m p.0) p.1
    here p = elim (cases_Bool (eq_by_cmp text_cmp p.0 g)) [
      | inl tied ↦ rw tied (kept (get m g) p.1 ∙ ap (λ q. body_in (get m q) p.1) (sym (text_same p.0 g (equal_is _ tied))))
      | inr apart ↦ rw apart refl
    ]

-- a body is put under a key of a group
put_in : (m : FinMap text_cmp Bodies) (g : Text) (n : Bodies) (k v : Text) → insert (flattened (insert m g n)) (g, k) v ≡ flattened (insert m g (insert n k v))
put_in m g n k v = same_map place_total place_same _ _ (λ p.
    get-insert place_total (flattened (insert m g n)) (g, k) v p
    ∙ ap (cond (eq_by_cmp place_cmp p (g, k)) (Some v)) (get-flattened (insert m g n) p ∙ ap (λ o. body_in o p.1) (get-insert text_total m g n p.0))
    ∙ by_group p (text_cmp p.0 g)
    ∙ sym (get-flattened (insert m g (insert n k v)) p ∙ ap (λ o. body_in o p.1) (get-insert text_total m g (insert n k v) p.0)))
  where
    by_group : (p : Place) (o : Ordering) → cond (is_eq (ordering_then o (text_cmp p.1 k))) (Some v) (body_in (cond (is_eq o) (Some n) (get m p.0)) p.1) ≡ body_in (cond (is_eq o) (Some (insert n k v)) (get m p.0)) p.1
    by_group p Less = refl
    by_group p Equal = sym (get-insert text_total n k v p.1)
    by_group p Greater = refl

has_flattened : (m : FinMap text_cmp Bodies) (g : Text) (n : Bodies) (k : Text) → contains_key (flattened (insert m g n)) (g, k) ≡ contains_key n k
has_flattened m g n k = ap is_some (get-flattened (insert m g n) (g, k) ∙ ap (λ o. body_in o k) (get-insert text_total m g n g ∙ ap (λ o. cond (is_eq o) (Some n) (get m g)) (tied_itself text_total g)))

one_more : (m : FinMap text_cmp Bodies) (g : Text) (n : Bodies) (r : Record) → with_record g (flattened (insert m g n)) r ≡ flattened (insert m g (with_body n r))
one_more m g n r =
    ap (λ b. if b then flattened (insert m g n) else insert (flattened (insert m g n)) (g, r.key) r.body) (has_flattened m g n r.key)
    ∙ elim (contains_key n r.key) as (λ b. (if b then flattened (insert m g n) else insert (flattened (insert m g n)) (g, r.key) r.body) ≡ flattened (insert m g (if b then n else insert n r.key r.body))) [
      | true ↦ refl
      | false ↦ put_in m g n r.key r.body
    ]

all_more : (m : FinMap text_cmp Bodies) (g : Text) (n : Bodies) (rs : List Record) → with_records g (flattened (insert m g n)) rs ≡ flattened (insert m g (with_bodies n rs))
all_more m g n [] = refl
all_more m g n (r ∷ rs) = ap (λ x. with_records g x rs) (one_more m g n r) ∙ all_more m g (with_body n r) rs

-- a group's bodies are those before with the records of a list
pub grown : (es fs : List (Text × Bodies)) (all : FinMap place_cmp Text) (g : Text) (o : Option Bodies) (n : Bodies) (rs : List Record) → flattened (from_entries es) ≡ all → lookup (is_at (text_cmp g)) es ≡ o
    → ((q : Text) → lookup (is_at (text_cmp q)) fs ≡ cond (is_at (text_cmp g) q) (Some n) (lookup (is_at (text_cmp q)) es)) → n ≡ with_bodies (bodies_of o) rs → flattened (from_entries fs) ≡ with_records g all rs
grown es fs all g o n rs is found puts more =
    let m = from_entries es in
    let here : get m g ≡ o = get_is text_total text_same es g ∙ found in
    ap flattened (one_put text_total text_same es fs g n puts ∙ ap (insert m g) more)
    ∙ sym (all_more m g (bodies_of o) rs)
    ∙ ap (λ x. with_records g x rs) (ap (λ x. flattened (insert m g (bodies_of x))) (sym here) ∙ stays m g ∙ is)

-- ---- the records of a group

above_all : (g : Text) (es : List (Text × Text)) (rest : List (Place × Text)) (x : Text) → text_cmp x g ≡ Less → AllByRecursion (λ f. text_cmp x f.0.0 ≡ Less) rest → AllByRecursion (λ f. text_cmp x f.0.0 ≡ Less) (placed g es ++ rest)
above_all g [] rest x low up = up
above_all g (e ∷ es) rest x low up = (low, above_all g es rest x low up)

above_groups : (x : Text) (gs : List (Text × Bodies)) → AllByRecursion (λ f. text_cmp x f.0 ≡ Less) gs → AllByRecursion (λ f. text_cmp x f.0.0 ≡ Less) (all_placed gs)
above_groups x [] up = tt
above_groups x (g ∷ gs) up = above_all g.0 (entries g.1) (all_placed gs) x up.0 (above_groups x gs up.1)

above_place : (g k : Text) (es : List (Text × Text)) (rest : List (Place × Text)) → AllByRecursion (λ f. text_cmp k f.0 ≡ Less) es → AllByRecursion (λ f. text_cmp g f.0.0 ≡ Less) rest → AllByRecursion (λ f. place_cmp (g, k) f.0 ≡ Less) (placed g es ++ rest)
above_place g k [] [] up later = tt
above_place g k [] (f ∷ rest) up later = (ap (λ o. ordering_then o (text_cmp k f.0.1)) later.0, above_place g k [] rest up later.1)
above_place g k (e ∷ es) rest up later = (ap (λ o. ordering_then o (text_cmp k e.0)) (tied_itself text_total g) ∙ up.0, above_place g k es rest up.1 later)

rising_here : (g : Text) (es : List (Text × Text)) (rest : List (Place × Text)) → IsRising text_cmp es → AllByRecursion (λ f. text_cmp g f.0.0 ≡ Less) rest → IsRising place_cmp rest → IsRising place_cmp (placed g es ++ rest)
rising_here g [] rest up later rises = rises
rising_here g (e ∷ es) rest up later rises = (above_place g e.0 es rest up.0 later, rising_here g es rest up.1 later rises)

rising_all : (gs : List (Text × Bodies)) → IsRising text_cmp gs → IsRising place_cmp (all_placed gs)
rising_all [] up = tt
rising_all (g ∷ gs) up = rising_here g.0 (entries g.1) (all_placed gs) (entries_rise text_cmp g.1) (above_groups g.0 gs up.0) (rising_all gs up.1)

scan_here : (group after g : Text) (es : List (Text × Text)) (rest : List (Place × Text)) → text_cmp g group ≡ Equal → filter (is_in group after) rest ≡ []
    → of_group group after (placed g es ++ rest) ≡ map of_pair (filter (λ e. is_lt (text_cmp after e.0)) es)
scan_here group after g [] rest tied none = ap (map of_entry) none
scan_here group after g (e ∷ es) rest tied none = elim (cases_Bool (is_lt (text_cmp after e.0))) [
  | inl low ↦ rw (tied, low) (ap (λ l. of_pair e ∷ l) (scan_here group after g es rest tied none))
  | inr high ↦ rw (tied, high) (scan_here group after g es rest tied none)
]

scan_behind : (group after g : Text) (es : List (Text × Text)) (rest : List (Place × Text)) → is_eq (text_cmp g group) ≡ false → filter (is_in group after) (placed g es ++ rest) ≡ filter (is_in group after) rest
scan_behind group after g [] rest apart = refl
scan_behind group after g (e ∷ es) rest apart = rw apart (scan_behind group after g es rest apart)

scan_none : (group after : Text) (gs : List (Text × Bodies)) → AllByRecursion (λ f. text_cmp group f.0 ≡ Less) gs → filter (is_in group after) (all_placed gs) ≡ []
scan_none group after [] up = refl
scan_none group after (g ∷ gs) up =
    scan_behind group after g.0 (entries g.1) (all_placed gs) (sym ((eq_by_cmp_equiv text_total).symm group g.0) ∙ ap is_eq up.0) ∙ scan_none group after gs up.1

pub no_bodies : (after : Text) → bodies_after empty after ≡ []
no_bodies after = ap (λ es. map of_pair (filter (λ e. is_lt (text_cmp after e.0)) es)) (no_entries text_total text_same)

scan_all : (group after : Text) (gs : List (Text × Bodies)) → IsRising text_cmp gs → of_group group after (all_placed gs) ≡ bodies_after (bodies_of (find text_cmp group gs)) after
scan_all group after [] up = sym (no_bodies after)
scan_all group after (g ∷ gs) up = elim (cases_Bool (is_eq (text_cmp group g.0))) [
  | inl tied ↦
      let same = equal_is _ tied in
      let back : text_cmp g.0 group ≡ Equal = equal_is _ (sym ((eq_by_cmp_equiv text_total).symm group g.0) ∙ tied) in
      scan_here group after g.0 (entries g.1) (all_placed gs) back (scan_none group after gs (above_tied group g.0 gs same up.0))
      ∙ sym (ap (λ b. bodies_after (bodies_of (cond b (Some g.1) (find text_cmp group gs))) after) tied)
  | inr apart ↦
      ap (map of_entry) (scan_behind group after g.0 (entries g.1) (all_placed gs) (sym ((eq_by_cmp_equiv text_total).symm group g.0) ∙ apart))
      ∙ scan_all group after gs up.1
      ∙ sym (ap (λ b. bodies_after (bodies_of (cond b (Some g.1) (find text_cmp group gs))) after) apart)
]

-- the records of a group are those that its bodies have
pub after_flattened : (es : List (Text × Bodies)) (all : FinMap place_cmp Text) (group after : Text) (o : Option Bodies) → flattened (from_entries es) ≡ all → lookup (is_at (text_cmp group)) es ≡ o
    → records_of_after all group after ≡ bodies_after (bodies_of o) after
after_flattened es all group after o is found =
    let m = from_entries es in
    ap (λ x. records_of_after x group after) (sym is)
    ∙ ap (of_group group after) (entries_are place_total place_same (all_placed (entries m)) (rising_all (entries m) (entries_rise text_cmp m)))
    ∙ scan_all group after (entries m) (entries_rise text_cmp m)
    ∙ ap (λ x. bodies_after (bodies_of x) after) (sym (get-entries m group) ∙ get_is text_total text_same es group ∙ found)

-- no records, and no bodies
pub flattened_empty : (es : List (Text × Bodies)) → es ≡ [] → flattened (from_entries es) ≡ empty
flattened_empty es none = ap (λ l. flattened (from_entries l)) none ∙ ap (λ l. from_entries (all_placed l)) (no_entries text_total text_same)

pub on_ok : {A E P Q : Type 0} (r : Result A E) → (P → Q) → OnOk r P → OnOk r Q
on_ok (Ok x) f p = f p
on_ok (Err e) f p = p

pub on_err : {A E P Q : Type 0} (r : Result A E) → (P → Q) → OnErr r P → OnErr r Q
on_err (Ok x) f p = p
on_err (Err e) f p = f p

pub if_ok : {A E : Type 0} {P Q : A → Type 0} (r : Result A E) → ((x : A) → P x → Q x) → IfOk r P → IfOk r Q
if_ok (Ok x) f p = f x p
if_ok (Err e) f p = p
