-- A JSON value that was read, and has no float, is read back from its text.
use Rattle.std.proofs.Common.{◌≡◌, ℕ, zero, suc, max, ◌+◌, ◌^◌, ◌<◌, ◌≤◌, ℤ, pos, negsuc, inl, inr, List, [], Bool, true, false, Option, None, Some, option_map, option_and_then, refl, sym, ap, ap₂, ◌∙◌, subst, arith, append-nil}
use Rattle.std.specs.Prelude.{⊤, ◌&&◌, ◌==◌, ◌⊎◌, nat_lt, nat_le, if◌then◌else◌, neg_ℤ, drop, slice_index}
use Rattle.std.specs.Fmt.{signed_decimal, digits}
use Rattle.std.specs.Cmp.Lexicographic.{slice_cmp}
use Rattle.std.specs.Ordering.{nat_cmp, match_ordering, ordering_reverse}
use Rattle.std.specs.declared.cmp.Ordering.{Ordering}
use Rattle.std.specs.declared.cmp.Ordering.TheVariants.{Less, Equal, Greater}
use Rattle.std.specs.Float.{binary64, float_is_finite}
use Rattle.std.proofs.lemmas.Cmp.{nat_list_cmp_total}
use Rattle.std.proofs.lemmas.Bool.{and_parts, or_parts, ltb-true, leb-true, cases_lt}
use Rattle.std.specs.Float.Numeral.{Parts, numeral_digits as digits_of, nearest_float as nearest, minus, scan_numeral as scan}
use Rattle.json.specs.Token.{Token}
use Rattle.json.specs.Lex.{tokens}
use Rattle.json.specs.Word.{after_number}
use Rattle.json.specs.Print.{IsNumber}
use Rattle.json.specs.Json as json
use Rattle.json.specs.Tree as tree
use Rattle.json.specs.Tree.{HasNumbers, ItemsHaveNumbers, MembersHaveNumbers, json_tokens}
use Rattle.json.proofs.Printed.Tokens.{tokens-print}
use Rattle.json.proofs.Printed.Trees.{value-json_tokens, ArePrintable-json_tokens}
use Rattle.json.proofs.Printed.Decimals.{IsNumber-decimal, IsNumber-signed_decimal}
use Rattle.serde_json.specs.Data.{Num, unsigned, negative, float, Data, null, boolean, number, string, array, object, Items, no_items, item, Members, no_members, member, put, depth, items_depth, members_depth}
use Rattle.serde_json.specs.Find.{is_float}
use Rattle.serde_json.specs.Read.{is_integer, float_of, number_from, number_of, of_json, of_items, of_members, read, max_depth}
use Rattle.serde_json.specs.Written.{number_text, outline, items_outline, members_outline, has_float, items_have_float, members_have_float, compact_text}
use Rattle.serde_json.proofs.Numbers.{number_of-decimal, number_of-negative}
use Rattle.serde_json.proofs.Texts.{print-outline}

some_is : {X : Type 0} (x y : X) → Some x ≡ Some y → x ≡ y
some_is x y h = cc

none_some : {X P : Type 0} (x : X) → None ≡ Some x → P
none_some x h = absurd (clash h)
  where
    clash : None ≡ Some x → ⊥
    clash h = cc

-- ---- what is read is in order, and its numbers have 64 bits

abbrev cmp : List ℕ → List ℕ → Ordering
cmp = slice_cmp nat_cmp

-- each key stands behind this one
abbrev AreAbove : List ℕ → Members → Type 0
AreAbove l no_members = ⊤
AreAbove l (member k d ms) = (cmp k l ≡ Greater) × AreAbove l ms

abbrev IsBelowNone : ℤ → Type 0
IsBelowNone (pos n) = ⊥
IsBelowNone (negsuc n) = n < 2 ^ 63

abbrev Fits : Num → Type 0
Fits (unsigned n) = n < 2 ^ 64
Fits (negative z) = IsBelowNone z
Fits (float x) = ⊤

abbrev mutual
  pub IsTidy : Data → Type 0
  IsTidy null = ⊤
  IsTidy (boolean b) = ⊤
  IsTidy (number n) = Fits n
  IsTidy (string s) = ⊤
  IsTidy (array ds) = AreTidy ds
  IsTidy (object ms) = HasTidy ms

  pub AreTidy : Items → Type 0
  AreTidy no_items = ⊤
  AreTidy (item d ds) = IsTidy d × AreTidy ds

  pub HasTidy : Members → Type 0
  HasTidy no_members = ⊤
  HasTidy (member k d ms) = AreAbove k ms × IsTidy d × HasTidy ms

back_round : (a b : List ℕ) (o : Ordering) → cmp a b ≡ o → cmp b a ≡ ordering_reverse o
back_round a b o h = nat_list_cmp_total.antisymm b a ∙ ap ordering_reverse h

above_too : (k l : List ℕ) (ms : Members) → cmp l k ≡ Greater → AreAbove l ms → AreAbove k ms
above_too k l no_members h a = tt
above_too k l (member m d ms) h a = (back_round k m Less (nat_list_cmp_total.trans k l m (back_round l k Greater h) (back_round m l Greater a.0)), above_too k l ms h a.1)

above_put : (l k : List ℕ) (d : Data) (ms : Members) → cmp k l ≡ Greater → AreAbove l ms → AreAbove l (put k d ms)
above_put l k d no_members h a = (h, tt)
above_put l k d (member m e ms) h a = by (cmp k m) (above_put l k d ms h a.1)
  where
    by : (o : Ordering) → AreAbove l (put k d ms) → AreAbove l (match_ordering o (member k d (member m e ms)) (member m d ms) (member m e (put k d ms)))
    by Less later = (h, a)
    by Equal later = a
    by Greater later = (a.0, later)

put_tidy : (k : List ℕ) (d : Data) (ms : Members) → IsTidy d → HasTidy ms → HasTidy (put k d ms)
put_tidy k d no_members h t = (tt, h, tt)
put_tidy k d (member l e ms) h t = by (cmp k l) refl (put_tidy k d ms h t.2)
  where
    by : (o : Ordering) → cmp k l ≡ o → HasTidy (put k d ms) → HasTidy (match_ordering o (member k d (member l e ms)) (member l d ms) (member l e (put k d ms)))
    by Less o later = let below = back_round k l Less o in ((below, above_too k l ms below t.0), h, t)
    by Equal o later = (t.0, h, t.2)
    by Greater o later = (above_put l k d ms o t.0, t.1, later)

float_fits : (b : Bool) (x : Num) (n : Num) → Fits x → (if b then Some x else None) ≡ Some n → Fits n
float_fits true x n f h = subst Fits (some_is x n h) f
float_fits false x n f h = none_some n h

low : (n : ℕ) → 0 < n → n ≤ 2 ^ 63 → IsBelowNone (neg_ℤ (pos n))
low zero h k = absurd (omega arith)
low (suc n) h k = omega (arith, k)

from_fits : (sign : Bool) (p : Parts) (n : Num) → number_from sign p ≡ Some n → Fits n
from_fits false p n h = by (is_integer p && nat_lt (digits_of p) (2 ^ 64)) refl h
  where
    by : (b : Bool) → (is_integer p && nat_lt (digits_of p) (2 ^ 64)) ≡ b → (if b then Some (unsigned (digits_of p)) else float_of false p) ≡ Some n → Fits n
    by true e k = subst Fits (some_is (unsigned (digits_of p)) n k) (ltb-true (digits_of p) (2 ^ 64) (and_parts (is_integer p) _ e).1)
    by false e k = float_fits (float_is_finite (nearest binary64 false p)) (float (nearest binary64 false p)) n tt k
from_fits true p n h = by (is_integer p && nat_lt 0 (digits_of p) && nat_le (digits_of p) (2 ^ 63)) refl h
  where
    by : (b : Bool) → (is_integer p && nat_lt 0 (digits_of p) && nat_le (digits_of p) (2 ^ 63)) ≡ b → (if b then Some (negative (neg_ℤ (pos (digits_of p)))) else float_of true p) ≡ Some n → Fits n
    by true e k =
        let both = and_parts (is_integer p && nat_lt 0 (digits_of p)) (nat_le (digits_of p) (2 ^ 63)) e in
        let some = and_parts (is_integer p) (nat_lt 0 (digits_of p)) both.0 in
        subst Fits (some_is (negative (neg_ℤ (pos (digits_of p)))) n k) (low (digits_of p) (ltb-true 0 (digits_of p) some.1) (leb-true (digits_of p) (2 ^ 63) both.1))
    by false e k = float_fits (float_is_finite (nearest binary64 true p)) (float (nearest binary64 true p)) n tt k

number_fits : (s : List ℕ) (n : Num) → number_of s ≡ Some n → Fits n
unfolding number_of
number_fits s n h = by (slice_index s 0 == minus) (scan (drop 1 s)) (scan s) h
  where
    by : (b : Bool) (p q : Parts) → (if b then number_from true p else number_from false q) ≡ Some n → Fits n
    by true p q k = from_fits true p n k
    by false p q k = from_fits false q n k

mutual
  read_tidy : (j : json.Json) (d : Data) → of_json j ≡ Some d → IsTidy d
  read_tidy json.null d h = subst IsTidy (some_is null d h) tt
  read_tidy (json.boolean b) d h = subst IsTidy (some_is (boolean b) d h) tt
  read_tidy (json.number s) d h = by (number_of s) refl h
    where
      by : (o : Option Num) → number_of s ≡ o → option_map number o ≡ Some d → IsTidy d
      by None e k = none_some d k
      by (Some n) e k = subst IsTidy (some_is (number n) d k) (number_fits s n e)
  read_tidy (json.string s) d h = subst IsTidy (some_is (string s) d h) tt
  read_tidy (json.array js) d h = by (of_items js) (λ ds e. items_tidy js ds e) h
    where
      by : (o : Option Items) → ((ds : Items) → o ≡ Some ds → AreTidy ds) → option_map array o ≡ Some d → IsTidy d
      by None tidy k = none_some d k
      by (Some ds) tidy k = subst IsTidy (some_is (array ds) d k) (tidy ds refl)
  read_tidy (json.object ms) d h = by (of_members ms no_members) (λ ns e. members_tidy ms no_members ns e tt) h
    where
      by : (o : Option Members) → ((ns : Members) → o ≡ Some ns → HasTidy ns) → option_map object o ≡ Some d → IsTidy d
      by None tidy k = none_some d k
      by (Some ns) tidy k = subst IsTidy (some_is (object ns) d k) (tidy ns refl)

  items_tidy : (js : json.Items) (ds : Items) → of_items js ≡ Some ds → AreTidy ds
  items_tidy json.no_items ds h = subst AreTidy (some_is no_items ds h) tt
  items_tidy (json.item j js) ds h = by (of_json j) (λ d e. read_tidy j d e) (of_items js) (λ es e. items_tidy js es e) h
    where
      by : (o : Option Data) → ((d : Data) → o ≡ Some d → IsTidy d) → (p : Option Items) → ((es : Items) → p ≡ Some es → AreTidy es) → option_and_then (λ d. option_map (item d) p) o ≡ Some ds → AreTidy ds
      by None tidy p more k = none_some ds k
      by (Some d) tidy None more k = none_some ds k
      by (Some d) tidy (Some es) more k = subst AreTidy (some_is (item d es) ds k) (tidy d refl, more es refl)

  members_tidy : (ms : json.Members) (found out : Members) → of_members ms found ≡ Some out → HasTidy found → HasTidy out
  members_tidy json.no_members found out h t = subst HasTidy (some_is found out h) t
  members_tidy (json.member k j ms) found out h t = by (of_json j) (λ d e. read_tidy j d e) (λ next u q. members_tidy ms next out q u) h
    where
      by : (o : Option Data) → ((d : Data) → o ≡ Some d → IsTidy d) → ((next : Members) → HasTidy next → of_members ms next ≡ Some out → HasTidy out) → option_and_then (λ d. of_members ms (put k d found)) o ≡ Some out → HasTidy out
      by None tidy more q = none_some out q
      by (Some d) tidy more q = more (put k d found) (put_tidy k d found (tidy d refl) t) q

-- ---- and reads back

number_back : (n : Num) → Fits n → is_float n ≡ false → number_of (number_text n) ≡ Some n
number_back (unsigned n) h f = number_of-decimal n h
number_back (negative (pos n)) h f = absurd h
number_back (negative (negsuc n)) h f = number_of-negative n h
number_back (float x) h f = cc

abbrev join : Members → Members → Members
join no_members ms = ms
join (member k d ns) ms = member k d (join ns ms)

-- each of the first keys stands before each of the others
abbrev AreBefore : Members → Members → Type 0
AreBefore no_members ms = ⊤
AreBefore (member l e ns) ms = AreAbove l ms × AreBefore ns ms

put_last : (k : List ℕ) (d : Data) (ns ms : Members) → AreBefore ns (member k d ms) → put k d ns ≡ join ns (member k d no_members)
put_last k d no_members ms h = refl
put_last k d (member l e ns) ms h = ap (λ o. match_ordering o (member k d (member l e ns)) (member l d ns) (member l e (put k d ns))) h.0.0 ∙ ap (member l e) (put_last k d ns ms h.1)

joined : (k : List ℕ) (d : Data) (ns ms : Members) → join (join ns (member k d no_members)) ms ≡ join ns (member k d ms)
joined k d no_members ms = refl
joined k d (member l e ns) ms = ap (member l e) (joined k d ns ms)

still_before : (k : List ℕ) (d : Data) (ns ms : Members) → AreBefore ns (member k d ms) → AreAbove k ms → AreBefore (join ns (member k d no_members)) ms
still_before k d no_members ms h a = (a, tt)
still_before k d (member l e ns) ms h a = (h.0.1, still_before k d ns ms h.1 a)

mutual
  back : (d : Data) → IsTidy d → has_float d ≡ false → of_json (outline d) ≡ Some d
  back null t f = refl
  back (boolean b) t f = refl
  back (number n) t f = ap (option_map number) (number_back n t f)
  back (string s) t f = refl
  back (array ds) t f = ap (option_map array) (items_back ds t f)
  back (object ms) t f = ap (option_map object) (members_back no_members ms t f tt)

  items_back : (ds : Items) → AreTidy ds → items_have_float ds ≡ false → of_items (items_outline ds) ≡ Some ds
  items_back no_items t f = refl
  items_back (item d ds) t f =
      let p = or_parts (has_float d) (items_have_float ds) f in
      ap (option_and_then (λ e. option_map (item e) (of_items (items_outline ds)))) (back d t.0 p.0) ∙ ap (option_map (item d)) (items_back ds t.1 p.1)

  members_back : (found ms : Members) → HasTidy ms → members_have_float ms ≡ false → AreBefore found ms → of_members (members_outline ms) found ≡ Some (join found ms)
  members_back found no_members t f b = ap Some (sym (join_none found))
    where
      join_none : (ns : Members) → join ns no_members ≡ ns
      join_none no_members = refl
      join_none (member k d ns) = ap (member k d) (join_none ns)
  members_back found (member k d ms) t f b =
      let p = or_parts (has_float d) (members_have_float ms) f in
      ap (option_and_then (λ e. of_members (members_outline ms) (put k e found))) (back d t.1 p.0)
      ∙ ap (of_members (members_outline ms)) (put_last k d found ms b)
      ∙ members_back (join found (member k d no_members)) ms t.2 p.1 (still_before k d found ms b t.0)
      ∙ ap Some (joined k d found ms)

-- ---- its text

least : IsNumber (signed_decimal (negsuc 9_223_372_036_854_775_807))
unfolding after_number digits
least = refl

negative_text : (n : ℕ) → n < 2 ^ 63 → (n + 1 < 2 ^ 63) ⊎ (n ≡ 9_223_372_036_854_775_807) → IsNumber (signed_decimal (negsuc n))
negative_text n h (inl few) = IsNumber-signed_decimal (negsuc n) (omega (arith, few))
negative_text n h (inr is) = subst (λ k. IsNumber (signed_decimal (negsuc k))) (sym is) least

number_written : (n : Num) → Fits n → is_float n ≡ false → IsNumber (number_text n)
number_written (unsigned n) h f = IsNumber-decimal n h
number_written (negative (pos n)) h f = absurd h
number_written (negative (negsuc n)) h f = negative_text n h (either n h)
  where
    either : (n : ℕ) → n < 2 ^ 63 → (n + 1 < 2 ^ 63) ⊎ (n ≡ 9_223_372_036_854_775_807)
    either n h = elim (cases_lt (n + 1) (2 ^ 63)) [ inl few ↦ inl few | inr most ↦ inr (omega (arith, h, most)) ]
number_written (float x) h f = cc

mutual
  written : (d : Data) → IsTidy d → has_float d ≡ false → HasNumbers (outline d)
  written null t f = tt
  written (boolean b) t f = tt
  written (number n) t f = number_written n t f
  written (string s) t f = tt
  written (array ds) t f = items_written ds t f
  written (object ms) t f = members_written ms t f

  items_written : (ds : Items) → AreTidy ds → items_have_float ds ≡ false → ItemsHaveNumbers (items_outline ds)
  items_written no_items t f = tt
  items_written (item d ds) t f = let p = or_parts (has_float d) (items_have_float ds) f in (written d t.0 p.0, items_written ds t.1 p.1)

  members_written : (ms : Members) → HasTidy ms → members_have_float ms ≡ false → MembersHaveNumbers (members_outline ms)
  members_written no_members t f = tt
  members_written (member k d ms) t f = let p = or_parts (has_float d) (members_have_float ms) f in (written d t.1 p.0, members_written ms t.2 p.1)

mutual
  as_deep : (d : Data) → tree.depth (outline d) ≡ depth d
  as_deep null = refl
  as_deep (boolean b) = refl
  as_deep (number n) = refl
  as_deep (string s) = refl
  as_deep (array ds) = ap suc (items_as_deep ds)
  as_deep (object ms) = ap suc (members_as_deep ms)

  items_as_deep : (ds : Items) → tree.items_depth (items_outline ds) ≡ items_depth ds
  items_as_deep no_items = refl
  items_as_deep (item d ds) = ap₂ max (as_deep d) (items_as_deep ds)

  members_as_deep : (ms : Members) → tree.members_depth (members_outline ms) ≡ members_depth ms
  members_as_deep no_members = refl
  members_as_deep (member k d ms) = ap₂ max (as_deep d) (members_as_deep ms)

abbrev whole : Option (json.Json × List Token) → Option Data
whole o = option_and_then of_json (option_and_then (λ p. json.if_last p.0 p.1) o)

pub compact_back : (d : Data) → IsTidy d → has_float d ≡ false → depth d ≤ max_depth → read (compact_text d) ≡ Some d
compact_back d t f shallow =
    ap (λ text. read text) (sym (print-outline d))
    ∙ ap (λ ts. whole (json.value max_depth ts)) (tokens-print (json_tokens (outline d)) (ArePrintable-json_tokens (outline d) (written d t f)) ∙ sym (append-nil (json_tokens (outline d))))
    ∙ ap whole (value-json_tokens (outline d) max_depth [] (omega (arith, as_deep d, shallow)))
    ∙ back d t f

pub text_tidy : (text : List ℕ) (d : Data) → read text ≡ Some d → IsTidy d
text_tidy text d h = by (option_and_then (λ p. json.if_last p.0 p.1) (json.value max_depth (tokens text))) h
  where
    by : (o : Option json.Json) → option_and_then of_json o ≡ Some d → IsTidy d
    by None k = none_some d k
    by (Some j) k = read_tidy j d k
