-- Lists in order with the same elements are one: the records of a group, and the names.
use Rattle.std.proofs.Common.{ℕ, zero, suc, ◌+◌, ◌-◌, ◌≤◌, take, slice_index_or, ◌≡◌, ◌<◌, Bool, true, false, List, [], ◌∷◌, ◌++◌, map, length, filter, Option, Some, inl, inr, refl, sym, ap, ap₂, subst, ◌∙◌, true≢false, Ordering, Less, Equal, Greater, arith}
use Rattle.std.specs.Ordering.{is_lt, is_eq, ordering_reverse}
use Rattle.std.specs.List.{AllByRecursion}
use Rattle.std.specs.Cmp.{IsTotalOrder}
use Rattle.std.proofs.lemmas.Cmp.{tied_itself}
use Rattle.std.proofs.lemmas.Bool.{cases_Bool, and_parts, and_from}
use Rattle.std.specs.FinMap.{FinMap, IsAntisymmetric, get, find, keys, entries, entries_sorted, get-entries, is_sorted}
use Rattle.std.specs.Prelude.{T}
use Rattle.sqlite_rules.specs.Lists.{Has}
use Rattle.sqlite_rules.proofs.ListLemmas.{all_has, all_from, has_filtered, has_kept}
use Rattle.sqlite_rules.proofs.ProbeLemmas.{has_mapped, mapped_has}
use Rattle.budget_ports.specs.declared.keeper.Record.{Record}
use Rattle.budget_ports.specs.Contents.{Contents, Text, text_cmp, Place, is_in, of_entry, records_after}
use Rattle.budget_ports.specs.Keeper.{Rise}
use Rattle.budget_ports.proofs.Rising.{records_rise}
use Rattle.budget_ports.proofs.Places.{text_total, text_same, place_total, place_same}
use Rattle.sqlite_keeper.specs.Queries.{last_name, last_key, is_next, Climb}

equal_is : (o : Ordering) → is_eq o ≡ true → o ≡ Equal
equal_is Less h = absurd (true≢false (sym h))
equal_is Equal h = refl
equal_is Greater h = absurd (true≢false (sym h))

less_is : (o : Ordering) → is_lt o ≡ true → o ≡ Less
less_is Less h = refl
less_is Equal h = absurd (true≢false (sym h))
less_is Greater h = absurd (true≢false (sym h))

is_true : (b : Bool) → T b → b ≡ true
is_true true t = refl
is_true false t = absurd t

never_both : {K : Type 0} {R : K → K → Ordering} → IsTotalOrder R → (a b : K) → R a b ≡ Less → R b a ≡ Less → ⊥
never_both total a b p q = let e = total.antisymm a b ∙ ap ordering_reverse q in cc

-- two lists that go up and have the same elements are one
module _ {X : Type 0} (Below : X → X → Type 0) (apart : (a b : X) → Below a b → Below b a → ⊥) where
  abbrev pub Up : List X → Type 0
  Up [] = Unit {0}
  Up (x ∷ xs) = AllByRecursion (Below x) xs × Up xs

  pub same_up : (xs ys : List X) → Up xs → Up ys → ((e : X) → Has xs e → Has ys e) → ((e : X) → Has ys e → Has xs e) → xs ≡ ys
  same_up [] [] p q a b = refl
  same_up [] (y ∷ ys) p q a b = absurd (b y (inl refl))
  same_up (x ∷ xs) [] p q a b = absurd (a x (inl refl))
  same_up (x ∷ xs) (y ∷ ys) p q a b =
      let first : x ≡ y = elim (a x (inl refl)) [
        | inl e ↦ e
        | inr later ↦ elim (b y (inl refl)) [
          | inl e ↦ sym e
          | inr also ↦ absurd (apart x y (all_has (Below x) xs y p.0 also) (all_has (Below y) ys x q.0 later))
        ]
      ] in
      let past : (z : X) (zs : List X) → AllByRecursion (Below z) zs → (e : X) → Has zs e → e ≡ z → ⊥ = λ z zs up e h is.
      let self : Below z z = subst (Below z) is (all_has (Below z) zs e up h) in apart z z self self in
      ap₂ ◌∷◌ first (same_up xs ys p.1 q.1
      (λ e h. elim (a e (inr h)) [ inl is ↦ absurd (past x xs p.0 e h (is ∙ sym first)) | inr k ↦ k ])
      (λ e h. elim (b e (inr h)) [ inl is ↦ absurd (past y ys q.0 e h (is ∙ first)) | inr k ↦ k ]))

-- ---- the entries of a map

module _ {K V : Type 0} {R : K → K → Ordering} (total : IsTotalOrder R) (same : IsAntisymmetric R) where
  abbrev Rises : List (K × V) → Type 0
  Rises [] = Unit {0}
  Rises (e ∷ es) = AllByRecursion (λ f. R e.0 f.0 ≡ Less) es × Rises es

  lower_all : (x y : K) (es : List (K × V)) → R x y ≡ Less → AllByRecursion (λ f. R y f.0 ≡ Less) es → AllByRecursion (λ f. R x f.0 ≡ Less) es
  lower_all x y [] low all = tt
  lower_all x y (e ∷ es) low all = (total.trans x y e.0 low all.0, lower_all x y es low all.1)

  rising : (es : List (K × V)) → is_sorted R es ≡ true → Rises es
  rising [] h = tt
  rising (e ∷ []) h = (tt, tt)
  rising (e ∷ f ∷ es) h =
      let p = and_parts _ _ h in
      let low = less_is _ (and_parts _ _ p.0).0 in
      let later = rising (f ∷ es) p.1 in
      ((low, lower_all e.0 f.0 es low later.0), later)

  pub entries_rise : (m : FinMap R V) → Rises (entries m)
  entries_rise m = rising (entries m) (is_true _ (entries_sorted m))

  found : (es : List (K × V)) (e : K × V) → Rises es → Has es e → find R e.0 es ≡ Some e.1
  found [] e up h = absurd h
  found (f ∷ es) e up (inl is) = rw (is, ap is_eq (tied_itself total f.0)) refl
  found (f ∷ es) e up (inr later) =
      let low = all_has (λ g. R f.0 g.0 ≡ Less) es e up.0 later in
      let other : is_eq (R e.0 f.0) ≡ false = ap is_eq (total.antisymm e.0 f.0 ∙ ap ordering_reverse low) in
      rw other (found es e up.1 later)

  there : (es : List (K × V)) (q : K) (v : V) → find R q es ≡ Some v → Has es (q, v)
  there [] q v h = cc
  there (f ∷ es) q v h = elim (cases_Bool (is_eq (R q f.0))) [
    | inl tied ↦ inl (
        let key : q ≡ f.0 = same q f.0 (equal_is _ tied) in
        let is : ◌≡◌ {A = Option V} (Some f.1) (Some v) = rw tied at h in
        let value : f.1 ≡ v = cc in
        ap₂ (λ (k : K) (x : V). (k, x)) key (sym value))
    | inr other ↦ inr (there es q v (rw other at h))
  ]

  -- an entry is what `get` answers
  pub entry_get : (m : FinMap R V) (e : K × V) → Has (entries m) e → get m e.0 ≡ Some e.1
  entry_get m e h = get-entries m e.0 ∙ found (entries m) e (entries_rise m) h

  pub get_entry : (m : FinMap R V) (q : K) (v : V) → get m q ≡ Some v → Has (entries m) (q, v)
  get_entry m q v h = there (entries m) q v (sym (get-entries m q) ∙ h)

-- ---- the records of a group

abbrev Lower : Record → Record → Type 0
Lower r s = text_cmp r.key s.key ≡ Less

lower_apart : (r s : Record) → Lower r s → Lower s r → ⊥
lower_apart r s = never_both text_total r.key s.key

rise_up : (rs : List Record) → Rise rs → Up Lower lower_apart rs
rise_up [] h = tt
rise_up (r ∷ rs) h = (h.1, rise_up rs h.2)

-- a list that rises and has just the records of the group after a key
pub records_are : (k : Contents) (group after : Text) (rs : List Record) → Rise rs
    → ((r : Record) → Has rs r → (get k.records (group, r.key) ≡ Some r.body) × (text_cmp after r.key ≡ Less))
    → ((key body : Text) → get k.records (group, key) ≡ Some body → text_cmp after key ≡ Less → Has rs (record { key = key; body = body }))
    → rs ≡ records_after k group after
records_are k group after rs up sound complete =
    let es = filter (is_in group after) (entries k.records) in
    same_up Lower lower_apart rs (map of_entry es) (rise_up rs up) (rise_up _ (records_rise k.records group after))
    (λ r h.
    let s = sound r h in
    let e : Place × Text = ((group, r.key), r.body) in
    mapped_has of_entry es e (has_kept (is_in group after) (entries k.records) e (get_entry place_total place_same k.records (group, r.key) r.body s.0)
    (and_from _ _ (ap is_eq (tied_itself text_total group)) (ap is_lt s.1))))
    (λ r h.
    let e = has_mapped of_entry es r h in
    let f = has_filtered (is_in group after) (entries k.records) e.0 e.1 in
    let p = and_parts _ _ f.1 in
    let g = entry_get place_total place_same k.records e.0 f.0 in
    let of : e.0.0.0 ≡ group = text_same e.0.0.0 group (equal_is _ p.0) in
    subst (Has rs) (sym e.2) (complete e.0.0.1 e.0.1 (subst (λ (n : Text). get k.records (n, e.0.0.1) ≡ Some e.0.1) of g) (less_is _ p.1)))

-- ---- the names

abbrev Under : Text → Text → Type 0
Under a b = text_cmp a b ≡ Less

under_apart : (a b : Text) → Under a b → Under b a → ⊥
under_apart = never_both text_total

climb_up : (ns : List Text) → Climb ns → Up Under under_apart ns
climb_up [] h = tt
climb_up (n ∷ ns) h = (h.0, climb_up ns h.1)

keys_up : (es : List (Text × Text)) → Rises text_total text_same es → Up Under under_apart (map (λ e. e.0) es)
keys_up [] h = tt
keys_up (e ∷ es) h = (all_from (Under e.0) (map (λ f. f.0) es) (λ n there. let f = has_mapped (λ (f : Text × Text). f.0) es n there in subst (Under e.0) (sym f.2) (all_has (λ f. Under e.0 f.0) es f.0 h.0 f.1)), keys_up es h.1)

pub names_are : (k : Contents) (ns : List Text) → Climb ns → ((n : Text) → Has ns n → (t : Text) × (get k.texts n ≡ Some t)) → ((n t : Text) → get k.texts n ≡ Some t → Has ns n) → ns ≡ keys k.texts
names_are k ns up sound complete =
    same_up Under under_apart ns (map (λ e. e.0) (entries k.texts)) (climb_up ns up) (keys_up (entries k.texts) (entries_rise text_total text_same k.texts))
    (λ n h. let s = sound n h in mapped_has (λ (e : Text × Text). e.0) (entries k.texts) (n, s.0) (get_entry text_total text_same k.texts n s.0 s.1))
    (λ n h. let e = has_mapped (λ (e : Text × Text). e.0) (entries k.texts) n h in subst (Has ns) (sym e.2) (complete e.0.0 e.0.1 (entry_get text_total text_same k.texts e.0 e.1)))

-- ---- one more at the end

below_last : (a : Text) (n : Text) (more : List Text) → AllByRecursion (Under a) (n ∷ more) → Under a (last_name (n ∷ more))
below_last a n [] all = all.0
below_last a n (m ∷ more) all = below_last a m more all.1

all_push : {X : Type 0} (P : X → Type 0) (xs : List X) (x : X) → AllByRecursion P xs → P x → AllByRecursion P (xs ++ x ∷ [])
all_push P [] x all p = (p, tt)
all_push P (y ∷ xs) x all p = (all.0, all_push P xs x all.1 p)

pub climb_push : (ns : List Text) (n : Text) → Climb ns → is_next ns n ≡ true → Climb (ns ++ n ∷ [])
climb_push [] n up next = (tt, tt)
climb_push (m ∷ []) n up next = ((less_is _ next, tt), (tt, tt))
climb_push (m ∷ k ∷ ns) n up next =
    (all_push (Under m) (k ∷ ns) n up.0 (text_total.trans m (last_name (k ∷ ns)) n (below_last m k ns up.0) (less_is _ next)), climb_push (k ∷ ns) n up.1 next)

above_some : (after key : Text) → text_cmp after key ≡ Less → 0 < length key
above_some [] [] h = cc
above_some (x ∷ after) [] h = cc
above_some after (y ∷ key) h = omega arith

all_keys : (P : Text → Type 0) (rs : List Record) → AllByRecursion (λ r. P r.key) rs → AllByRecursion P (map (λ r. r.key) rs)
all_keys P [] all = tt
all_keys P (r ∷ rs) all = (all.0, all_keys P rs all.1)

pub rise_push : (rs : List Record) (r : Record) → Rise rs → is_lt (text_cmp (last_key rs) r.key) ≡ true → Rise (rs ++ r ∷ [])
rise_push [] r up low = (above_some [] r.key (less_is _ low), tt, tt)
rise_push (s ∷ []) r up low = (up.0, (less_is _ low, tt), (above_some s.key r.key (less_is _ low), tt, tt))
rise_push (s ∷ t ∷ rs) r up low = (
  up.0,
  all_push (λ q. Under s.key q.key) (t ∷ rs) r up.1
      (text_total.trans s.key (last_key (t ∷ rs)) r.key (below_last s.key t.key (map (λ r. r.key) rs) (all_keys (Under s.key) (t ∷ rs) up.1)) (less_is _ low)),
  rise_push (t ∷ rs) r up.2 low,
)

-- ---- the last of a list

last_is : (ns : List Text) (x : Text) → 1 ≤ length ns → x ≡ slice_index_or ns (length ns - 1) x → last_name ns ≡ x
last_is [] x low is = absurd (omega arith)
last_is (n ∷ []) x low is = sym is
last_is (n ∷ m ∷ more) x low is =
    let e : length (n ∷ m ∷ more) - 1 ≡ suc (length (m ∷ more) - 1) = omega arith in
    last_is (m ∷ more) x (omega arith) (rw e at is)

pub next_is : (ns : List Text) (x n : Text) → 1 ≤ length ns → x ≡ slice_index_or ns (length ns - 1) x → is_lt (text_cmp x n) ≡ is_next ns n
next_is [] x n low is = absurd (omega arith)
next_is (m ∷ ns) x n low is = ap (λ l. is_lt (text_cmp l n)) (sym (last_is (m ∷ ns) x low is))

pub last_key_is : (rs : List Record) (x : Record) → 1 ≤ length rs → x ≡ slice_index_or rs (length rs - 1) x → last_key rs ≡ x.key
last_key_is [] x low is = absurd (omega arith)
last_key_is (r ∷ []) x low is = ap (λ r. r.key) (sym is)
last_key_is (r ∷ s ∷ more) x low is =
    let e : length (r ∷ s ∷ more) - 1 ≡ suc (length (s ∷ more) - 1) = omega arith in
    last_key_is (s ∷ more) x (omega arith) (rw e at is)

-- ---- the rows so far

take_more : {X : Type 0} (rows : List X) (at : ℕ) (row : X) → at < length rows → row ≡ slice_index_or rows at row → take (suc at) rows ≡ take at rows ++ row ∷ []
take_more [] at row low is = absurd (omega arith)
take_more (x ∷ rows) zero row low is = ap (λ y. y ∷ []) (sym is)
take_more (x ∷ rows) (suc at) row low is = ap (λ l. x ∷ l) (take_more rows at row (omega arith) is)

map_more : {X Y : Type 0} (f : X → Y) (xs : List X) (x : X) → map f (xs ++ x ∷ []) ≡ map f xs ++ f x ∷ []
map_more f [] x = refl
map_more f (y ∷ xs) x = ap (λ l. f y ∷ l) (map_more f xs x)

pub one_shown : {X Y : Type 0} (f : X → Y) (rows : List X) (at : ℕ) (row : X) (so_far new : List Y) (made : Y) → at < length rows → row ≡ slice_index_or rows at row → so_far ≡ map f (take at rows) → made ≡ f row → new ≡ so_far ++ made ∷ []
    → new ≡ map f (take (at + 1) rows)
one_shown f rows at row so_far new made low is so push grown =
    let e : at + 1 ≡ suc at = omega arith in
    grown ∙ ap₂ (λ a b. a ++ b ∷ []) so push ∙ sym (map_more f (take at rows) row) ∙ ap (map f) (sym (take_more rows at row low is) ∙ ap (λ n. take n rows) (sym e))
