-- The plan that words ask for.
use Rattle.std.proofs.Common.{◌≡◌, ℕ, zero, suc, ◌≤◌, Bool, true, false, cond, ◌&&◌, ◌||◌, ◌==◌, not, List, [], ◌∷◌, length, Option, None, Some, ◌⊎◌, inl, inr, Result, Ok, Err, refl, ap, sym, subst, ◌∙◌, arith}
use Rattle.std.specs.Prelude.{◌≢◌, codes, bytes_eq, nat_le, slice_index}
use Rattle.std.specs.Char.{is_ascii_digit}
use Rattle.std.specs.List.{list_all, Contains}
use Rattle.std.specs.Option.{unwrap_or, ok_or}
use Rattle.std.specs.Str.Parse.{digits_value}
use Rattle.std.proofs.lemmas.Bool.{and_parts, and_from, leb-true, le-leb, eqb-false, ne_eqb, false≢true}
use Rattle.std.proofs.lemmas.Slice.Eq.{bytes_eq-Decides}
use Rattle.hybrid_clock.specs.declared.node.NodeFault.{NodeFault}
use Rattle.hybrid_clock.specs.Node.{node_of}
use Rattle.field_merge.proofs.Members.{here, there}
use Rattle.budget_top.specs.declared.words.Mode.{Mode}
use Rattle.budget_top.specs.declared.words.Mode.TheVariants.{Merge, Device, Serve, Generate, World}
use Rattle.budget_top.specs.declared.words.Plan.{Plan}
use Rattle.budget_top.specs.declared.words.WordFault.{WordFault}
use Rattle.budget_top.specs.declared.words.WordFault.TheVariants.{Mode as BadMode, Count, Token, Name}
use Rattle.budget_top.specs.Line.{Pair, mode, parts, anywhere, has, each_once, is_line, line_of, line, value_in}
use Rattle.budget_top.specs.Words.{◌>>=◌, mode_named, most_of, node_given, node_for, is_plain_number, is_within, count_of, count_from, is_name_byte, is_name, name_or, planned_by, planned_line}
use Rattle.budget_top.specs.Asking.{IsAbsent, IsGivenOr, IsModeOf, IsNodeOf, IsStoreOf, IsCount, most_in, IsCountOf, IsNameText, IsPlanOf, PlansAreAsked}

-- ---- what stands under a name

first_or_rest : {A : Type 0} (x y : A) (xs : List A) → Contains (x ∷ xs) y → (x ≡ y) ⊎ Contains xs y
first_or_rest x y xs (zero, below, is) = inl is
first_or_rest x y xs (suc k, below, is) = inr (k, omega (arith, below), is)

none_in : {A : Type 0} (y : A) → Contains [] y → ⊥
none_in y (k, below, is) = omega (arith, below)

value_given : (pairs : List Pair) (name value : List ℕ) → value_in pairs name ≡ Some value → Contains pairs (name, value)
value_given [] name value e = absurd (cc)
value_given (pair ∷ pairs) name value e = by (bytes_eq pair.0 name) refl (value_given pairs name value) e
  where
    by : (t : Bool) → bytes_eq pair.0 name ≡ t → (value_in pairs name ≡ Some value → Contains pairs (name, value)) → cond t (Some pair.1) (value_in pairs name) ≡ Some value → Contains (pair ∷ pairs) (name, value)
    by true f on e =
        let name_is : pair.0 ≡ name = (bytes_eq-Decides pair.0 name).0 f in
        let value_is : pair.1 ≡ value = cc in
        let same : pair ≡ (name, value) = (λ i. (name_is i, value_is i)) in
        subst (Contains (pair ∷ pairs)) same (here pair pairs)
    by false f on e = there pair pairs (name, value) (on e)

value_absent : (pairs : List Pair) (name : List ℕ) → value_in pairs name ≡ None → IsAbsent pairs name
value_absent [] name e value c = none_in (name, value) c
value_absent (pair ∷ pairs) name e value c = by (bytes_eq pair.0 name) refl (λ k. value_absent pairs name k value) e
  where
    by : (t : Bool) → bytes_eq pair.0 name ≡ t → (value_in pairs name ≡ None → Contains pairs (name, value) → ⊥) → cond t (Some pair.1) (value_in pairs name) ≡ None → ⊥
    by true f on e = cc
    by false f on e =
        elim (first_or_rest pair (name, value) pairs c) [
          | inl is ↦ false≢true (sym f ∙ (bytes_eq-Decides pair.0 name).1 (ap (λ (p : Pair). p.0) is))
          | inr more ↦ on e more
        ]

has_name : (pairs : List Pair) (name value : List ℕ) → Contains pairs (name, value) → has name pairs ≡ true
has_name [] name value c = absurd (none_in (name, value) c)
has_name (pair ∷ pairs) name value c =
    elim (first_or_rest pair (name, value) pairs c) [
      | inl is ↦ ap (λ t. t || has name pairs) ((bytes_eq-Decides pair.0 name).1 (ap (λ (p : Pair). p.0) is))
      | inr more ↦ or_true (bytes_eq pair.0 name) (has_name pairs name value more)
    ]
  where
    or_true : (a : Bool) {b : Bool} → b ≡ true → (a || b) ≡ true
    or_true true e = refl
    or_true false e = e

given_value : (pairs : List Pair) (name value : List ℕ) → each_once pairs ≡ true → Contains pairs (name, value) → value_in pairs name ≡ Some value
given_value [] name value once c = absurd (none_in (name, value) c)
given_value (pair ∷ pairs) name value once c =
    let parts = and_parts (not (has pair.0 pairs)) (each_once pairs) once in
    elim (first_or_rest pair (name, value) pairs c) [
      | inl is ↦
          ap (λ t. cond t (Some pair.1) (value_in pairs name)) ((bytes_eq-Decides pair.0 name).1 (ap (λ (p : Pair). p.0) is))
          ∙ ap (λ (p : Pair). Some p.1) is
      | inr more ↦ by (bytes_eq pair.0 name) refl parts.0 (has_name pairs name value more) (given_value pairs name value parts.1 more)
    ]
  where
    by : (t : Bool) → bytes_eq pair.0 name ≡ t → not (has pair.0 pairs) ≡ true → has name pairs ≡ true → value_in pairs name ≡ Some value → cond t (Some pair.1) (value_in pairs name) ≡ Some value
    by true f alone twice rest =
        let again : has pair.0 pairs ≡ true = ap (λ n. has n pairs) ((bytes_eq-Decides pair.0 name).0 f) ∙ twice in
        let clash : not true ≡ true = ap not (sym again) ∙ alone in absurd (cc)
    by false f alone twice rest = rest

absent_value : (pairs : List Pair) (name : List ℕ) → IsAbsent pairs name → value_in pairs name ≡ None
absent_value pairs name absent = by (value_in pairs name) refl
  where
    by : (o : Option (List ℕ)) → value_in pairs name ≡ o → o ≡ None
    by None e = refl
    by (Some value) e = absurd (absent value (value_given pairs name value e))

-- ---- one value or the other

given_or : (pairs : List Pair) (name other value : List ℕ) → unwrap_or (value_in pairs name) other ≡ value → IsGivenOr pairs name other value
given_or pairs name other value e = by (value_in pairs name) refl e
  where
    by : (o : Option (List ℕ)) → value_in pairs name ≡ o → unwrap_or o other ≡ value → IsGivenOr pairs name other value
    by None f e = inr (value_absent pairs name f, sym e)
    by (Some given) f e = inl (value_given pairs name value (f ∙ ap (λ x. Some x) e))

or_given : (pairs : List Pair) (name other value : List ℕ) → each_once pairs ≡ true → IsGivenOr pairs name other value → unwrap_or (value_in pairs name) other ≡ value
or_given pairs name other value once (inl c) = ap (λ o. unwrap_or o other) (given_value pairs name value once c)
or_given pairs name other value once (inr absent) = ap (λ o. unwrap_or o other) (absent_value pairs name absent.0) ∙ sym absent.1

-- ---- what each option asks for

then_ok : {A B : Type 0} (r : Result A WordFault) (next : A → Result B WordFault) (b : B) → (r >>= next) ≡ Ok b → (a : A) × (r ≡ Ok a) × (next a ≡ Ok b)
then_ok (Ok a) next b e = (a, refl, e)
then_ok (Err fault) next b e = absurd (cc)

ok_then : {A B : Type 0} (r : Result A WordFault) (next : A → Result B WordFault) (a : A) (b : B) → r ≡ Ok a → next a ≡ Ok b → (r >>= next) ≡ Ok b
ok_then r next a b e f = ap (λ x. x >>= next) e ∙ f

store_is : (pairs : List Pair) (store : Option (List ℕ)) → value_in pairs (codes "store") ≡ store → IsStoreOf pairs store
store_is pairs None e = value_absent pairs (codes "store") e
store_is pairs (Some path) e = value_given pairs (codes "store") path e

is_store : (pairs : List Pair) (store : Option (List ℕ)) → each_once pairs ≡ true → IsStoreOf pairs store → value_in pairs (codes "store") ≡ store
is_store pairs None once absent = absent_value pairs (codes "store") absent
is_store pairs (Some path) once c = given_value pairs (codes "store") path once c

mode_is : (pairs : List Pair) (m : Mode) → mode_named (unwrap_or (value_in pairs mode) []) ≡ Ok m → IsModeOf pairs m
mode_is pairs m e = of_given (value_in pairs mode) refl e
  where
    -- the word is the one that is given
    is_given : (word name : List ℕ) → value_in pairs mode ≡ Some word → bytes_eq word name ≡ true → Contains pairs (mode, name)
    is_given word name given f = value_given pairs mode name (given ∙ ap (λ x. Some x) ((bytes_eq-Decides word name).0 f))

    named : (word : List ℕ) (merge device serve generate world : Bool) → value_in pairs mode ≡ Some word
        → bytes_eq word (codes "merge") ≡ merge → bytes_eq word (codes "device") ≡ device → bytes_eq word (codes "serve") ≡ serve → bytes_eq word (codes "generate") ≡ generate → bytes_eq word (codes "world") ≡ world
        → cond merge (Ok Merge) (cond device (Ok Device) (cond serve (Ok Serve) (cond generate (Ok Generate) (cond world (Ok World) (Err BadMode))))) ≡ Ok m → IsModeOf pairs m
    named word true device serve generate world given f g h k l e = let same : Merge ≡ m = cc in subst (IsModeOf pairs) same (is_given word (codes "merge") given f)
    named word false true serve generate world given f g h k l e = let same : Device ≡ m = cc in subst (IsModeOf pairs) same (is_given word (codes "device") given g)
    named word false false true generate world given f g h k l e = let same : Serve ≡ m = cc in subst (IsModeOf pairs) same (is_given word (codes "serve") given h)
    named word false false false true world given f g h k l e = let same : Generate ≡ m = cc in subst (IsModeOf pairs) same (is_given word (codes "generate") given k)
    named word false false false false true given f g h k l e = let same : World ≡ m = cc in subst (IsModeOf pairs) same (is_given word (codes "world") given l)
    named word false false false false false given f g h k l e = absurd (cc)

    of_given : (o : Option (List ℕ)) → value_in pairs mode ≡ o → mode_named (unwrap_or o []) ≡ Ok m → IsModeOf pairs m
    of_given None f e = absurd (cc)
    of_given (Some word) f e =
        named word (bytes_eq word (codes "merge")) (bytes_eq word (codes "device")) (bytes_eq word (codes "serve")) (bytes_eq word (codes "generate")) (bytes_eq word (codes "world"))
        f refl refl refl refl refl e

is_mode : (pairs : List Pair) (m : Mode) → each_once pairs ≡ true → IsModeOf pairs m → mode_named (unwrap_or (value_in pairs mode) []) ≡ Ok m
is_mode pairs Merge once c = ap (λ o. mode_named (unwrap_or o [])) (given_value pairs mode (codes "merge") once c)
is_mode pairs Device once c = ap (λ o. mode_named (unwrap_or o [])) (given_value pairs mode (codes "device") once c)
is_mode pairs Serve once c = ap (λ o. mode_named (unwrap_or o [])) (given_value pairs mode (codes "serve") once c)
is_mode pairs Generate once c = ap (λ o. mode_named (unwrap_or o [])) (given_value pairs mode (codes "generate") once c)
is_mode pairs World once c = ap (λ o. mode_named (unwrap_or o [])) (given_value pairs mode (codes "world") once c)

node_is : (pairs : List Pair) (m : Mode) (node : Option (List ℕ)) → node_for m (value_in pairs (codes "node")) ≡ Ok node → IsNodeOf pairs m node
node_is pairs m node e = of_given m (value_in pairs (codes "node")) refl e
  where
    named : (m : Mode) (text : List ℕ) (read : Result (List ℕ) NodeFault) → value_in pairs (codes "node") ≡ Some text → node_of text ≡ read → node_given read ≡ Ok node → IsNodeOf pairs m node
    named m text (Err fault) given f e = absurd (cc)
    named m text (Ok found) given f e =
        let same : ◌≡◌ {A = Option (List ℕ)} (Some found) node = cc in
        subst (IsNodeOf pairs m) same (text, value_given pairs (codes "node") text given, f)

    of_given : (m : Mode) (o : Option (List ℕ)) → value_in pairs (codes "node") ≡ o → node_for m o ≡ Ok node → IsNodeOf pairs m node
    of_given Merge None f e =
        let same : ◌≡◌ {A = Option (List ℕ)} None node = cc in subst (IsNodeOf pairs Merge) same (value_absent pairs (codes "node") f, λ is. cc)
    of_given Serve None f e =
        let same : ◌≡◌ {A = Option (List ℕ)} None node = cc in subst (IsNodeOf pairs Serve) same (value_absent pairs (codes "node") f, λ is. cc)
    of_given Generate None f e =
        let same : ◌≡◌ {A = Option (List ℕ)} None node = cc in subst (IsNodeOf pairs Generate) same (value_absent pairs (codes "node") f, λ is. cc)
    of_given World None f e =
        let same : ◌≡◌ {A = Option (List ℕ)} None node = cc in subst (IsNodeOf pairs World) same (value_absent pairs (codes "node") f, λ is. cc)
    of_given Device None f e = absurd (cc)
    of_given Merge (Some text) f e = named Merge text (node_of text) f refl e
    of_given Device (Some text) f e = named Device text (node_of text) f refl e
    of_given Serve (Some text) f e = named Serve text (node_of text) f refl e
    of_given Generate (Some text) f e = named Generate text (node_of text) f refl e
    of_given World (Some text) f e = named World text (node_of text) f refl e

given_for : (m : Mode) (text : List ℕ) → node_for m (Some text) ≡ node_given (node_of text)
given_for Merge text = refl
given_for Device text = refl
given_for Serve text = refl
given_for Generate text = refl
given_for World text = refl

without : (m : Mode) → m ≢ Device → node_for m None ≡ Ok None
without Merge other = refl
without Device other = absurd (other refl)
without Serve other = refl
without Generate other = refl
without World other = refl

is_node : (pairs : List Pair) (m : Mode) (node : Option (List ℕ)) → each_once pairs ≡ true → IsNodeOf pairs m node → node_for m (value_in pairs (codes "node")) ≡ Ok node
is_node pairs m None once absent =
    ap (node_for m) (absent_value pairs (codes "node") absent.0) ∙ without m absent.1
is_node pairs m (Some node) once (text, c, e) =
    ap (node_for m) (given_value pairs (codes "node") text once c) ∙ given_for m text ∙ ap node_given e

most_is : (m : Mode) → most_of m ≡ most_in m
most_is Merge = refl
most_is Device = refl
most_is Serve = refl
most_is Generate = refl
most_is World = refl

count_is : (most : ℕ) (text : List ℕ) (number : ℕ) → count_of most text ≡ Some number → IsCount most text number
count_is most text number e = by (is_plain_number text && is_within most (digits_value 10 text)) refl e
  where
    by : (t : Bool) → (is_plain_number text && is_within most (digits_value 10 text)) ≡ t → cond t (Some (digits_value 10 text)) None ≡ Some number → IsCount most text number
    by false f e = absurd (cc)
    by true f e =
        let value : digits_value 10 text ≡ number = cc in
        let both = and_parts (is_plain_number text) (is_within most (digits_value 10 text)) f in
        let plain = and_parts (list_all is_ascii_digit text) (not (slice_index text 0 == 48)) both.0 in
        let within = and_parts (nat_le 1 (digits_value 10 text)) (nat_le (digits_value 10 text) most) both.1 in
        record {
          digits = plain.0;
          plain = eqb-false (slice_index text 0) 48 (not_true (slice_index text 0 == 48) plain.1);
          value = value;
          some = subst (λ n. 1 ≤ n) value (leb-true 1 (digits_value 10 text) within.0);
          few = subst (λ n. n ≤ most) value (leb-true (digits_value 10 text) most within.1);
        }
      where
        not_true : (t : Bool) → not t ≡ true → t ≡ false
        not_true true e = cc
        not_true false e = refl

is_count : (most : ℕ) (text : List ℕ) (number : ℕ) → IsCount most text number → count_of most text ≡ Some number
is_count most text number h =
    let plain : is_plain_number text ≡ true = and_from (list_all is_ascii_digit text) (not (slice_index text 0 == 48)) h.digits (ap not (ne_eqb (slice_index text 0) 48 h.plain)) in
    let within : is_within most number ≡ true = and_from (nat_le 1 number) (nat_le number most) (le-leb 1 number h.some) (le-leb number most h.few) in
    let tests : (is_plain_number text && is_within most (digits_value 10 text)) ≡ true = and_from (is_plain_number text) (is_within most (digits_value 10 text)) plain (ap (is_within most) h.value ∙ within) in
    ap (λ t. cond t (Some (digits_value 10 text)) None) tests ∙ ap (λ n. Some n) h.value

count_asked : (pairs : List Pair) (m : Mode) (count : ℕ) → count_from m (value_in pairs (codes "count")) ≡ Ok count → IsCountOf pairs m count
count_asked pairs m count e = of_given (value_in pairs (codes "count")) refl e
  where
    said : (text : List ℕ) (o : Option ℕ) → value_in pairs (codes "count") ≡ Some text → count_of (most_of m) text ≡ o → ok_or o Count ≡ Ok count → IsCountOf pairs m count
    said text None given f e = absurd (cc)
    said text (Some number) given f e =
        let same : number ≡ count = cc in
        inl (text, value_given pairs (codes "count") text given, subst (λ n. IsCount n text count) (most_is m) (subst (IsCount (most_of m) text) same (count_is (most_of m) text number f)))

    of_given : (o : Option (List ℕ)) → value_in pairs (codes "count") ≡ o → count_from m o ≡ Ok count → IsCountOf pairs m count
    of_given None f e = let same : 1000 ≡ count = cc in inr (value_absent pairs (codes "count") f, sym same)
    of_given (Some text) f e = said text (count_of (most_of m) text) f refl e

asked_count : (pairs : List Pair) (m : Mode) (count : ℕ) → each_once pairs ≡ true → IsCountOf pairs m count → count_from m (value_in pairs (codes "count")) ≡ Ok count
asked_count pairs m count once (inl (text, c, is)) =
    ap (count_from m) (given_value pairs (codes "count") text once c)
    ∙ ap (λ (o : Option ℕ). ok_or o Count) (is_count (most_of m) text count (subst (λ n. IsCount n text count) (sym (most_is m)) is))
asked_count pairs m count once (inr absent) = ap (count_from m) (absent_value pairs (codes "count") absent.0) ∙ ap (λ n. Ok n) (sym absent.1)

name_text : (text : List ℕ) → is_name text ≡ true → IsNameText text
name_text text e =
    let some = and_parts (nat_le 1 (length text)) (nat_le (length text) 64 && list_all is_name_byte text) e in
    let few = and_parts (nat_le (length text) 64) (list_all is_name_byte text) some.1 in
    record { some = leb-true 1 (length text) some.0; few = leb-true (length text) 64 few.0; bytes = few.1 }

text_name : (text : List ℕ) → IsNameText text → is_name text ≡ true
text_name text h =
    and_from (nat_le 1 (length text)) (nat_le (length text) 64 && list_all is_name_byte text) (le-leb 1 (length text) h.some)
    (and_from (nat_le (length text) 64) (list_all is_name_byte text) (le-leb (length text) 64 h.few) h.bytes)

name_is : (fault : WordFault) (pairs : List Pair) (name other value : List ℕ) → name_or fault (unwrap_or (value_in pairs name) other) ≡ Ok value → IsGivenOr pairs name other value × IsNameText value
name_is fault pairs name other value e = by (unwrap_or (value_in pairs name) other) (is_name (unwrap_or (value_in pairs name) other)) refl refl e
  where
    by : (text : List ℕ) (t : Bool) → unwrap_or (value_in pairs name) other ≡ text → is_name text ≡ t → cond t (Ok text) (Err fault) ≡ Ok value → IsGivenOr pairs name other value × IsNameText value
    by text false g f e = absurd (cc)
    by text true g f e = let same : text ≡ value = cc in (given_or pairs name other value (g ∙ same), subst IsNameText same (name_text text f))

is_named : (fault : WordFault) (pairs : List Pair) (name other value : List ℕ) → each_once pairs ≡ true → IsGivenOr pairs name other value × IsNameText value
    → name_or fault (unwrap_or (value_in pairs name) other) ≡ Ok value
is_named fault pairs name other value once h =
    ap (name_or fault) (or_given pairs name other value once h.0) ∙ ap (λ t. cond t (Ok value) (Err fault)) (text_name value h.1)

-- ---- the plan

planned_is : (pairs : List Pair) (plan : Plan) → planned_by (value_in pairs) ≡ Ok plan → IsPlanOf pairs plan
planned_is pairs plan e =
    let m = then_ok (mode_named (unwrap_or (value_in pairs mode) [])) _ plan e in
    let node = then_ok (node_for m.0 (value_in pairs (codes "node"))) _ plan m.2 in
    let count = then_ok (count_from m.0 (value_in pairs (codes "count"))) _ plan node.2 in
    let token = then_ok (name_or Token (unwrap_or (value_in pairs (codes "token")) (codes "local"))) _ plan count.2 in
    let file = then_ok (name_or Name (unwrap_or (value_in pairs (codes "file")) (codes "home"))) _ plan token.2 in
    let group = then_ok (name_or Name (unwrap_or (value_in pairs (codes "group")) (codes "home"))) _ plan file.2 in
    let made : Plan = record {
      mode = m.0;
      store = value_in pairs (codes "store");
      node = node.0;
      token = token.0;
      file = file.0;
      group = group.0;
      count = count.0;
      listen = unwrap_or (value_in pairs (codes "listen")) (codes "127.0.0.1:5006");
      peer = unwrap_or (value_in pairs (codes "peer")) (codes "127.0.0.1:5006");
    } in
    let same : made ≡ plan = let found : ◌≡◌ {A = Result Plan WordFault} (Ok made) (Ok plan) = group.2 in cc in
    subst (IsPlanOf pairs) same (record {
      mode = mode_is pairs m.0 m.1;
      store = store_is pairs made.store refl;
      node = node_is pairs m.0 node.0 node.1;
      count = count_asked pairs m.0 count.0 count.1;
      token = name_is Token pairs (codes "token") (codes "local") token.0 token.1;
      file = name_is Name pairs (codes "file") (codes "home") file.0 file.1;
      group = name_is Name pairs (codes "group") (codes "home") group.0 group.1;
      listen = given_or pairs (codes "listen") (codes "127.0.0.1:5006") made.listen refl;
      peer = given_or pairs (codes "peer") (codes "127.0.0.1:5006") made.peer refl;
    })

is_planned : (pairs : List Pair) (plan : Plan) → each_once pairs ≡ true → IsPlanOf pairs plan → planned_by (value_in pairs) ≡ Ok plan
is_planned pairs plan once h =
    let listen = or_given pairs (codes "listen") (codes "127.0.0.1:5006") plan.listen once h.listen in
    let peer = or_given pairs (codes "peer") (codes "127.0.0.1:5006") plan.peer once h.peer in
    let store = is_store pairs plan.store once h.store in
    ok_then (mode_named (unwrap_or (value_in pairs mode) [])) _ plan.mode plan (is_mode pairs plan.mode once h.mode) (
    ok_then (node_for plan.mode (value_in pairs (codes "node"))) _ plan.node plan (is_node pairs plan.mode plan.node once h.node) (
    ok_then (count_from plan.mode (value_in pairs (codes "count"))) _ plan.count plan (asked_count pairs plan.mode plan.count once h.count) (
    ok_then (name_or Token (unwrap_or (value_in pairs (codes "token")) (codes "local"))) _ plan.token plan (is_named Token pairs (codes "token") (codes "local") plan.token once h.token) (
    ok_then (name_or Name (unwrap_or (value_in pairs (codes "file")) (codes "home"))) _ plan.file plan (is_named Name pairs (codes "file") (codes "home") plan.file once h.file) (
    ok_then (name_or Name (unwrap_or (value_in pairs (codes "group")) (codes "home"))) _ plan.group plan (is_named Name pairs (codes "group") (codes "home") plan.group once h.group) (
    λ i. Ok (record {
      mode = plan.mode;
      store = store i;
      node = plan.node;
      token = plan.token;
      file = plan.file;
      group = plan.group;
      count = plan.count;
      listen = listen i;
      peer = peer i;
    })))))))

once_of : (words : List (List ℕ)) (pairs : List Pair) → line words ≡ Some pairs → each_once pairs ≡ true
once_of words pairs e = of_parts (parts anywhere words) e
  where
    of_line : (ps : List Pair) (t : Bool) → is_line ps ≡ t → cond t (Some ps) None ≡ Some pairs → each_once pairs ≡ true
    of_line ps false f e = absurd (cc)
    of_line ps true f e = let same : ps ≡ pairs = cc in subst (λ (x : List Pair). each_once x ≡ true) same (and_parts (each_once ps) (has mode ps) f).0

    of_parts : (o : Option (List Pair)) → line_of o ≡ Some pairs → each_once pairs ≡ true
    of_parts None e = absurd (cc)
    of_parts (Some ps) e = of_line ps (is_line ps) refl e

pub plans_asked : PlansAreAsked
plans_asked words plan = (asked (line words) refl, λ (pairs, e, h). ap planned_line e ∙ is_planned pairs plan (once_of words pairs e) h)
  where
    asked : (o : Option (List Pair)) → line words ≡ o → planned_line o ≡ Ok plan → (pairs : List Pair) × (line words ≡ Some pairs) × IsPlanOf pairs plan
    asked None f e = absurd (cc)
    asked (Some pairs) f e = (pairs, f, planned_is pairs plan e)
