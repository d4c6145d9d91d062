-- A reply that tells its length is not cut.
use Rattle.std.proofs.Common.{◌≡◌, ◌∙◌, ℕ, List, Option, Some, None, [], ◌∷◌, ◌++◌, map, length, Bool, true, false, not, ◌||◌, codes, refl, sym, ap, subst, length-append, arith}
use Rattle.std.specs.List.{list_any, list_all}
use Rattle.std.proofs.lemmas.Bool.{and_parts}
use Rattle.httparse.specs.Spans.{name_and_value}
use Rattle.httparse.specs.Grammar.{ResponseHead}
use Rattle.httparse.proofs.GrammarLemmas.{response_prefix_free}
use Rattle.sync_server.specs.Heads.{Pair, has_name, length_in, is_number, tells}
use Rattle.device_sync.specs.Replies.{fits_length}
use Rattle.sync_laws.specs.Whole.{RepliesAreWhole}

abbrev is_length : Pair → Bool
is_length = has_name (codes "Content-Length")

-- a text tells one number
one_number : (m n : ℕ) (o : Option ℕ) → is_number m o ≡ true → is_number n o ≡ true → m ≡ n
one_number m n None a b = absurd (cc)
one_number m n (Some k) a b = grind arith

-- a field that fits two lengths, and tells one
one_field : (m n : ℕ) (field : Pair) → is_length field ≡ true → fits_length m field ≡ true → fits_length n field ≡ true → m ≡ n
one_field m n field is a b =
    let first : tells m field.1 ≡ true = sym (ap (λ t. not t || tells m field.1) is) ∙ a in
    let second : tells n field.1 ≡ true = sym (ap (λ t. not t || tells n field.1) is) ∙ b in
    one_number m n (length_in field.1) first second

some_field : (m n : ℕ) (fields : List Pair) → list_any is_length fields ≡ true → list_all (fits_length m) fields ≡ true → list_all (fits_length n) fields ≡ true → m ≡ n
some_field m n [] has a b = absurd (cc)
some_field m n (f ∷ fs) has a b = by (is_length f) refl has (some_field m n fs)
  where
    first : (fits_length m f ≡ true) × (list_all (fits_length m) fs ≡ true)
    first = and_parts (fits_length m f) (list_all (fits_length m) fs) a

    second : (fits_length n f ≡ true) × (list_all (fits_length n) fs ≡ true)
    second = and_parts (fits_length n f) (list_all (fits_length n) fs) b

    by : (t : Bool) → is_length f ≡ t → (t || list_any is_length fs) ≡ true
        → (list_any is_length fs ≡ true → list_all (fits_length m) fs ≡ true → list_all (fits_length n) fs ≡ true → m ≡ n) → m ≡ n
    by true is h go = one_field m n f is first.0 second.0
    by false is h go = go h first.1 second.1

no_rest : (part rest : List ℕ) → length (part ++ rest) ≡ length part → rest ≡ []
no_rest part [] e = refl
no_rest part (x ∷ rest) e = let long = length-append part (x ∷ rest) in absurd (omega arith)

pub whole_replies : RepliesAreWhole
whole_replies front rest status other body part whole told cut =
    let same = response_prefix_free front rest cut.head whole.head part body cut.reads whole.reads in
    let fits : list_all (fits_length (length part)) (map name_and_value whole.head.fields) ≡ true =
    subst (λ (h : ResponseHead). list_all (fits_length (length part)) (map name_and_value h.fields) ≡ true) same.0 cut.sized in
    let level : length body ≡ length part = some_field (length body) (length part) (map name_and_value whole.head.fields) told whole.sized fits in
    no_rest part rest (ap length same.1 ∙ level)
