-- What a head decides, by the first row that holds.
use Rattle.std.proofs.Common.{◌≡◌, ◌≢◌, ◌∙◌, ◌<◌, ◌≤◌, ◌==◌, ◌&&◌, ◌||◌, ℕ, List, [], ◌∷◌, map, Bool, true, false, cond, Option, Some, None, Result, Ok, Err, refl, sym, ap, subst, codes, inl, inr, arith, nat_lt}
use Rattle.std.proofs.lemmas.Slice.Eq.{bytes_eq-Decides}
use Rattle.std.specs.List.{AllByRecursion, list_all, list_any, cons_option}
use Rattle.std.specs.Str.{bytes_eq}
use Rattle.httparse.specs.Grammar.{RequestHead}
use Rattle.httparse.specs.Spans.{name_and_value}
use Rattle.sync_server.specs.declared.refusal.Refusal.{Refusal}
use Rattle.sync_server.specs.declared.refusal.Refusal.TheVariants.{NotFound, MethodNotAllowed, LengthRequired, BadRequest, TooLarge, TokenNotFound}
use Rattle.sync_server.specs.Heads.{Pair, has_name, values_under, length_in, is_number, tells, told_by_all, length_told, not_too_long, body_length, is_token, path_of, with_token, judge_head}
use Rattle.sync_server.specs.Laws.{values_in, IsSync, LacksLength, TellsLength, HasToken, IsJudged, other_path, other_method, no_length, bad_length, too_long, other_token, takes}

true_is : {P : Type 0} → true ≡ false → P
true_is e = absurd (the_same e)
  where
    the_same : true ≡ false → ⊥
    the_same e = cc

pub same_bytes : (xs ys : List ℕ) → bytes_eq xs ys ≡ true → xs ≡ ys
same_bytes xs ys e = (bytes_eq-Decides xs ys).0 e

pub other_bytes : (xs ys : List ℕ) → bytes_eq xs ys ≡ false → xs ≢ ys
other_bytes xs ys e s = true_is (sym ((bytes_eq-Decides xs ys).1 s) ∙ e)

pub no_bytes : (xs ys : List ℕ) → xs ≢ ys → bytes_eq xs ys ≡ false
no_bytes xs ys n = elim (bytes_eq xs ys) as (λ b. bytes_eq xs ys ≡ b → b ≡ false) [ true ↦ λ e. absurd (n (same_bytes xs ys e)) | false ↦ λ e. refl ] refl

-- ---- whether there is a field of a name

-- some of them have the name exactly where there are values under it
abbrev Finds : Bool → List (List ℕ) → Type 0
Finds found values = (found ≡ true → values ≢ []) × (found ≡ false → values ≡ [])

finds : (name : List ℕ) (fs : List Pair) → Finds (list_any (has_name name) fs) (values_under name fs)
finds name [] = (λ e. cc, λ e. refl)
finds name (f ∷ fs) =
    elim (has_name name f) as (λ b. Finds (b || list_any (has_name name) fs) (cons_option (cond b (Some f.1) None) (values_under name fs))) [
      | true ↦ (λ e s. cc, λ e. true_is e)
      | false ↦ finds name fs
    ]

-- ---- the length that is told

same_number : (m n : ℕ) → (m == n) ≡ true → m ≡ n
same_number m n e = grind arith

number_itself : (n : ℕ) → (n == n) ≡ true
number_itself n = grind arith

is_above : (m n : ℕ) → nat_lt m n ≡ true → m < n
is_above m n e = grind arith

above : (m n : ℕ) → m < n → nat_lt m n ≡ true
above m n e = grind arith

is_within : (m n : ℕ) → nat_lt m n ≡ false → n ≤ m
is_within m n e = grind arith

within : (m n : ℕ) → n ≤ m → nat_lt m n ≡ false
within m n e = grind arith

number_is : (n : ℕ) (o : Option ℕ) → is_number n o ≡ true → o ≡ Some n
number_is n None e = cc
number_is n (Some m) e = ap Some (same_number m n e)

is_itself : (n : ℕ) (o : Option ℕ) → o ≡ Some n → is_number n o ≡ true
is_itself n o e = rw e (number_itself n)

each_tells : (n : ℕ) (texts : List (List ℕ)) → list_all (tells n) texts ≡ true → AllByRecursion (λ t. length_in t ≡ Some n) texts
each_tells n [] e = tt
each_tells n (t ∷ ts) e =
    elim (is_number n (length_in t)) as (λ b. is_number n (length_in t) ≡ b → (b && list_all (tells n) ts) ≡ true → AllByRecursion (λ t. length_in t ≡ Some n) (t ∷ ts)) [
      | true ↦ λ h k. (number_is n (length_in t) h, each_tells n ts k)
      | false ↦ λ h k. true_is (sym k)
    ] refl e

all_tell : (n : ℕ) (texts : List (List ℕ)) → AllByRecursion (λ t. length_in t ≡ Some n) texts → list_all (tells n) texts ≡ true
all_tell n [] h = refl
all_tell n (t ∷ ts) h = rw (is_itself n (length_in t) h.0) (all_tell n ts h.1)

-- what values tell
data IsTold (texts : List (List ℕ)) (r : Result ℕ Refusal) : Type 0 where
  none : texts ≡ [] → r ≡ Err LengthRequired → IsTold texts r
  apart : texts ≢ [] → ((n : ℕ) → AllByRecursion (λ t. length_in t ≡ Some n) texts → ⊥) → r ≡ Err BadRequest → IsTold texts r
  same : (n : ℕ) → texts ≢ [] → AllByRecursion (λ t. length_in t ≡ Some n) texts → r ≡ Ok n → IsTold texts r

some_is : (n m : ℕ) → Some n ≡ Some m → n ≡ m
some_is n m e = cc

none_is : (n : ℕ) → None ≡ Some n → ⊥
none_is n e = cc

not_empty : (t : List ℕ) (ts : List (List ℕ)) → (t ∷ ts) ≢ []
not_empty t ts e = cc

told : (texts : List (List ℕ)) → IsTold texts (length_told texts)
told [] = none refl refl
told (t ∷ ts) = by (length_in t) refl
  where
    by : (o : Option ℕ) → length_in t ≡ o → IsTold (t ∷ ts) (told_by_all ts o)
    by None e = apart (not_empty t ts) (λ n h. none_is n (sym e ∙ h.0)) refl
    by (Some m) e = elim (list_all (tells m) ts) as (λ b. list_all (tells m) ts ≡ b → IsTold (t ∷ ts) (cond b (Ok m) (Err BadRequest))) [
      | true ↦ λ k. same m (not_empty t ts) (e, each_tells m ts k) refl
      | false ↦ λ k. apart (not_empty t ts) (λ n h. (let s : n ≡ m = some_is n m (sym h.0 ∙ e) in
          true_is (sym (all_tell m ts (subst (λ (x : ℕ). AllByRecursion (λ t. length_in t ≡ Some x) ts) s h.1)) ∙ k))) refl
    ] refl

told_same : (n : ℕ) (texts : List (List ℕ)) → texts ≢ [] → AllByRecursion (λ t. length_in t ≡ Some n) texts → length_told texts ≡ Ok n
told_same n [] some h = absurd (some refl)
told_same n (t ∷ ts) some h = rw (h.0, all_tell n ts h.1) refl

told_apart : (texts : List (List ℕ)) → texts ≢ [] → ((n : ℕ) → AllByRecursion (λ t. length_in t ≡ Some n) texts → ⊥) → length_told texts ≡ Err BadRequest
told_apart texts some many = by (told texts)
  where
    by : IsTold texts (length_told texts) → length_told texts ≡ Err BadRequest
    by (none e q) = absurd (some e)
    by (apart s h q) = q
    by (same n s h q) = absurd (many n h)

-- ---- the token

found_token : (token : List ℕ) (texts : List (List ℕ)) → is_token token texts ≡ true → (others : List (List ℕ)) × (texts ≡ token ∷ others)
found_token token [] e = cc
found_token token (t ∷ ts) e = (ts, ap (λ (x : List ℕ). x ∷ ts) (same_bytes t token e))

token_is : (token : List ℕ) (texts others : List (List ℕ)) → texts ≡ token ∷ others → is_token token texts ≡ true
token_is token texts others e = rw e ((bytes_eq-Decides token token).1 refl)

no_token : (token : List ℕ) (h : RequestHead) → (HasToken token h → ⊥) → is_token token (values_in (codes "x-actual-token") h) ≡ false
no_token token h n = elim (is_token token (values_in (codes "x-actual-token") h)) as (λ b. is_token token (values_in (codes "x-actual-token") h) ≡ b → b ≡ false) [
  | true ↦ λ e. absurd (n (found_token token (values_in (codes "x-actual-token") h) e))
  | false ↦ λ e. refl
] refl

-- ---- a head

module _ (token : List ℕ) (h : RequestHead) where
  abbrev fields : List Pair
  fields = map name_and_value h.fields

  abbrev right : Bool
  right = is_token token (values_in (codes "x-actual-token") h)

  abbrev coded : Bool
  coded = list_any (has_name (codes "transfer-encoding")) fields

  abbrev lengths : List (List ℕ)
  lengths = values_in (codes "content-length") h

  by_length : IsSync h → coded ≡ false → (t : Result ℕ Refusal) → IsTold lengths t → IsJudged token h (with_token right (not_too_long t))
  by_length s plain t (none e q) = no_length s (inr e) (rw q refl)
  by_length s plain t (apart some many q) =
      let nothing : values_in (codes "transfer-encoding") h ≡ [] = (finds (codes "transfer-encoding") fields).1 plain in
      bad_length s (λ l. lacks nothing l) (λ n u. many n u.each) (rw q refl)
    where
      lacks : values_in (codes "transfer-encoding") h ≡ [] → LacksLength h → ⊥
      lacks e (inl k) = k e
      lacks e (inr k) = some k
  by_length s plain t (same n some each q) =
      let u : TellsLength h n = record { plain = (finds (codes "transfer-encoding") fields).1 plain; some = some; each = each } in
      rw q (elim (nat_lt 67108864 n) as (λ b. nat_lt 67108864 n ≡ b → IsJudged token h (with_token right (cond b (Err TooLarge) (Ok n)))) [
        | true ↦ λ e. too_long n s u (is_above 67108864 n e) refl
        | false ↦ λ e. elim right as (λ b. right ≡ b → IsJudged token h (cond b (Ok n) (Err TokenNotFound))) [
          | true ↦ λ k. takes n s u (is_within 67108864 n e) (found_token token (values_in (codes "x-actual-token") h) k) refl
          | false ↦ λ k. other_token n s u (is_within 67108864 n e) (λ t. true_is (sym (token_is token (values_in (codes "x-actual-token") h) t.0 t.1) ∙ k)) refl
        ] refl
      ] refl)

  abbrev after_method : Result ℕ Refusal
  after_method = cond coded (Err LengthRequired) (with_token right (body_length fields))

  by_coding : IsSync h → IsJudged token h after_method
  by_coding s = elim coded as (λ b. coded ≡ b → IsJudged token h (cond b (Err LengthRequired) (with_token right (body_length fields)))) [
    | true ↦ λ e. no_length s (inl ((finds (codes "transfer-encoding") fields).0 e)) refl
    | false ↦ λ e. by_length s e (length_told lengths) (told lengths)
  ] refl

  by_method : path_of h.target ≡ codes "/sync/sync" → IsJudged token h (cond (bytes_eq h.method (codes "POST")) after_method (Err MethodNotAllowed))
  by_method p = elim (bytes_eq h.method (codes "POST")) as (λ b. bytes_eq h.method (codes "POST") ≡ b → IsJudged token h (cond b after_method (Err MethodNotAllowed))) [
    | true ↦ λ e. by_coding (record { path = p; method = same_bytes h.method (codes "POST") e })
    | false ↦ λ e. other_method p (other_bytes h.method (codes "POST") e) refl
  ] refl

  judges_it : IsJudged token h (judge_head token h)
  judges_it = elim (bytes_eq (path_of h.target) (codes "/sync/sync")) as (λ b. bytes_eq (path_of h.target) (codes "/sync/sync") ≡ b
      → IsJudged token h (cond b (cond (bytes_eq h.method (codes "POST")) after_method (Err MethodNotAllowed)) (Err NotFound))) [
        | true ↦ λ e. by_method (same_bytes (path_of h.target) (codes "/sync/sync") e)
        | false ↦ λ e. other_path (other_bytes (path_of h.target) (codes "/sync/sync") e) refl
      ] refl

  pub judges : (r : Result ℕ Refusal) → judge_head token h ≡ r → IsJudged token h r
  judges r e = subst (IsJudged token h) e judges_it

  -- ---- and back

  of_path : path_of h.target ≡ codes "/sync/sync" → judge_head token h ≡ cond (bytes_eq h.method (codes "POST")) after_method (Err MethodNotAllowed)
  of_path p = rw ((bytes_eq-Decides (path_of h.target) (codes "/sync/sync")).1 p) refl

  of_sync : IsSync h → judge_head token h ≡ after_method
  of_sync s = of_path s.path ∙ rw ((bytes_eq-Decides h.method (codes "POST")).1 s.method) refl

  not_coded : values_in (codes "transfer-encoding") h ≡ [] → coded ≡ false
  not_coded e = elim coded as (λ b. coded ≡ b → b ≡ false) [ true ↦ λ k. absurd ((finds (codes "transfer-encoding") fields).0 k e) | false ↦ λ k. refl ] refl

  is_coded : values_in (codes "transfer-encoding") h ≢ [] → coded ≡ true
  is_coded n = elim coded as (λ b. coded ≡ b → b ≡ true) [ true ↦ λ k. refl | false ↦ λ k. absurd (n ((finds (codes "transfer-encoding") fields).1 k)) ] refl

  lacking : LacksLength h → after_method ≡ Err LengthRequired
  lacking (inl n) = rw (is_coded n) refl
  lacking (inr e) = elim coded as (λ b. cond b (Err LengthRequired) (with_token right (body_length fields)) ≡ Err LengthRequired) [ true ↦ refl | false ↦ rw e refl ]

  of_told : (t : Result ℕ Refusal) → values_in (codes "transfer-encoding") h ≡ [] → length_told lengths ≡ t → after_method ≡ with_token right (not_too_long t)
  of_told t plain e = rw (not_coded plain, e) refl

  of_length : (n : ℕ) → TellsLength h n → after_method ≡ with_token right (not_too_long (Ok n))
  of_length n u = of_told (Ok n) u.plain (told_same n lengths u.some u.each)

  uncoded : (LacksLength h → ⊥) → values_in (codes "transfer-encoding") h ≡ []
  uncoded n = (finds (codes "transfer-encoding") fields).1
      (elim coded as (λ b. coded ≡ b → b ≡ false) [ true ↦ λ k. absurd (n (inl ((finds (codes "transfer-encoding") fields).0 k))) | false ↦ λ k. refl ] refl)

  fits : (n : ℕ) → n ≤ 67108864 → nat_lt 67108864 n ≡ false
  fits n p = within 67108864 n p

  pub is_judged : (r : Result ℕ Refusal) → IsJudged token h r → judge_head token h ≡ r
  is_judged r (other_path n e) = rw (no_bytes (path_of h.target) (codes "/sync/sync") n) (sym e)
  is_judged r (other_method p n e) = of_path p ∙ rw (no_bytes h.method (codes "POST") n) (sym e)
  is_judged r (no_length s l e) = of_sync s ∙ lacking l ∙ sym e
  is_judged r (bad_length s l many e) =
      let plain = uncoded l in
      of_sync s ∙ of_told (Err BadRequest) plain (told_apart lengths (λ k. l (inr k)) (λ n each. many n (record { plain = plain; some = λ k. l (inr k); each = each }))) ∙ sym e
  is_judged r (too_long n s u p e) = of_sync s ∙ of_length n u ∙ rw (above 67108864 n p) (sym e)
  is_judged r (other_token n s u p t e) = of_sync s ∙ of_length n u ∙ rw (fits n p, no_token token h t) (sym e)
  is_judged r (takes n s u p t e) = of_sync s ∙ of_length n u ∙ rw (fits n p, token_is token (values_in (codes "x-actual-token") h) t.0 t.1) (sym e)
