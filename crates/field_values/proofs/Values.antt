-- Values and their texts are one to one.
use Rattle.std.proofs.Common.{◌≡◌, ◌∙◌, ℕ, List, ◌∷◌, ◌++◌, arith, ap, sym, refl, subst, ℤ, drop, take, ◌<◌, lit<, true, false, Option, Some, None}
use Rattle.std.specs.Prelude.{codes, nat_eq}
use Rattle.std.specs.Fmt.{signed_decimal}
use Rattle.std.specs.List.{starts_with}
use Rattle.std.specs.Str.{bytes_eq}
use Rattle.std.proofs.lemmas.Fmt.{signed_decimal_injective}
use Rattle.std.proofs.lemmas.List.{take-append-drop}
use Rattle.std.proofs.lemmas.Slice.Eq.{bytes_eq-Decides}
use Rattle.std.proofs.lemmas.Bool.{cond_both, false≢true}
use Rattle.field_values.specs.declared.value.Value.{Value}
use Rattle.field_values.specs.declared.value.Value.TheVariants.{Null, Number, Text, Other}
use Rattle.field_values.specs.Value.{value_text, IsValue, IsOtherText, KeepsText, value_of, number_of, number_or_other, IsNumberText, ValuesReadBack, TextsWriteBack}
use Rattle.field_values.proofs.Numbers.{number_small, number_of_is}

differ : (m n : ℕ) (xs ys : List ℕ) → m < n → m ∷ xs ≡ n ∷ ys → ⊥
differ m n xs ys less e = let same : m ≡ n = cc in omega arith

-- two values of one text are one value
pub value_text-injective : (v w : Value) → IsValue v → IsValue w → value_text v ≡ value_text w → v ≡ w
value_text-injective Null Null p q e = refl
value_text-injective Null (Number n) p q e = absurd (differ 48 78 _ _ (lit< tt) e)
value_text-injective Null (Text t) p q e = absurd (differ 48 83 _ _ (lit< tt) e)
value_text-injective Null (Other o) p q e = absurd (q.no_null (sym e))
value_text-injective (Number m) Null p q e = absurd (differ 48 78 _ _ (lit< tt) (sym e))
value_text-injective (Number m) (Number n) p q e =
    let same : signed_decimal m ≡ signed_decimal n = ap (drop 2) e in
    ap Number (signed_decimal_injective m n (number_small m p) (number_small n q) same)
value_text-injective (Number m) (Text t) p q e = absurd (differ 78 83 _ _ (lit< tt) e)
value_text-injective (Number m) (Other o) p q e = absurd (q.no_number m p (sym e))
value_text-injective (Text s) Null p q e = absurd (differ 48 83 _ _ (lit< tt) (sym e))
value_text-injective (Text s) (Number n) p q e = absurd (differ 78 83 _ _ (lit< tt) (sym e))
value_text-injective (Text s) (Text t) p q e = let same : s ≡ t = ap (drop 2) e in ap Text same
value_text-injective (Text s) (Other o) p q e = absurd (q.no_text s (sym e))
value_text-injective (Other o) Null p q e = absurd (p.no_null e)
value_text-injective (Other o) (Number n) p q e = absurd (p.no_number n q e)
value_text-injective (Other o) (Text t) p q e = absurd (p.no_text t e)
value_text-injective (Other o) (Other u) p q e = ap Other e

-- the value is valid and has the text
IsOf : List ℕ → Value → Type 0
IsOf text v = IsValue v × (value_text v ≡ text)

-- a text with two given bytes in front
front : (p text : List ℕ) → bytes_eq p (take 2 text) ≡ true → p ++ drop 2 text ≡ text
front p text e = ap (λ q. q ++ drop 2 text) ((bytes_eq-Decides p (take 2 text)).0 e) ∙ take-append-drop 2 text

-- no text without them in front has them
no_front : (p text front_bytes : List ℕ) → bytes_eq p front_bytes ≡ false → take 2 text ≡ front_bytes → p ≡ take 2 text → ⊥
no_front p text front_bytes e same is = false≢true (sym e ∙ (bytes_eq-Decides p front_bytes).1 (is ∙ same))

numbered : (text : List ℕ) (o : Option ℤ) → codes "N:" ++ drop 2 text ≡ text → (text ≡ codes "0:" → ⊥) → ((t : List ℕ) → text ≡ codes "S:" ++ t → ⊥) → IsNumberText (drop 2 text) o → IsOf text (number_or_other text o)
unfolding IsOf
numbered text (Some n) is not_null not_text p = (p.0, ap (λ d. codes "N:" ++ d) (sym p.1) ∙ is)
numbered text None is not_null not_text p =
    (record { no_null = not_null; no_number = λ n h e. p n h (ap (drop 2) e); no_text = not_text }, refl)

pub texts_write_back_lem : TextsWriteBack
unfolding value_of IsOf
texts_write_back_lem text =
    cond_both (bytes_eq text (codes "0:")) Null _ (IsOf text)
    (λ null. (tt, sym ((bytes_eq-Decides text (codes "0:")).0 null)))
    (λ null.
    let not_null : text ≡ codes "0:" → ⊥ = λ e. false≢true (sym null ∙ (bytes_eq-Decides text (codes "0:")).1 e) in
    cond_both (starts_with nat_eq text (codes "S:")) (Text (drop 2 text)) _ (IsOf text)
    (λ s. (tt, front (codes "S:") text s))
    (λ s.
    let not_text : (t : List ℕ) → text ≡ codes "S:" ++ t → ⊥ = λ t e. no_front (codes "S:") text (take 2 text) s refl (sym (ap (take 2) e)) in
    cond_both (starts_with nat_eq text (codes "N:")) (number_or_other text (number_of (drop 2 text))) (Other text) (IsOf text)
    (λ n. numbered text (number_of (drop 2 text)) (front (codes "N:") text n) not_null not_text (number_of_is (drop 2 text)))
    (λ n. (
      record {
        no_null = not_null;
        no_number = λ m h e. no_front (codes "N:") text (take 2 text) n refl (sym (ap (take 2) e));
        no_text = not_text;
      },
      refl,
    ))))

pub values_read_back_lem : ValuesReadBack
values_read_back_lem v p =
    let back = texts_write_back_lem (value_text v) in
    value_text-injective (value_of (value_text v)) v back.0 p back.1

-- what `Value::text` promises besides the text
pub value_of_text : (v : Value) → IsValue v → value_of (value_text v) ≡ v
value_of_text v p = values_read_back_lem v p

-- a value with the text is the one that the text is read as
pub value_of_is : (v : Value) (text : List ℕ) → IsValue v → value_text v ≡ text → v ≡ value_of text
value_of_is v text p e =
    let back = texts_write_back_lem text in
    value_text-injective v (value_of text) p back.0 (e ∙ sym back.1)

-- a text that begins with `S:` is read as a value that keeps a text
pub text_is_kept : (text rest : List ℕ) → text ≡ codes "S:" ++ rest → KeepsText (value_of text)
text_is_kept text rest e = subst KeepsText (value_of_is (Text rest) text tt (sym e)) tt

-- and so is one of no form
pub other_is_kept : (text : List ℕ) → IsOtherText text → KeepsText (value_of text)
other_is_kept text p = subst KeepsText (value_of_is (Other text) text p refl) tt
