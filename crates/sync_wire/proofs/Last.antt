-- Of a field that may stand once the last counts.
use Rattle.std.proofs.Common.{◌≡◌, ℕ, false, List, [], ◌∷◌, ◌++◌, Option, Some, None, refl, ◌∙◌}
use Rattle.std.proofs.lemmas.Bool.{eq-eqb, ne_eqb}
use Rattle.std.specs.List.{AllByRecursion}
use Rattle.std.specs.Prelude.{nat_lt}
use Rattle.sync_wire.specs.Fields.{Bytes, Tagged}
use Rattle.sync_wire.specs.Meaning.{last_else, text_in, flag_in, bytes_in}
use Rattle.sync_wire.specs.Laws.{HasNone, LastOnesCount}
use Rattle.sync_wire.proofs.Gather.{last_else-cons}

none_found : {A : Type 0} (a : A) (find : Tagged → Option A) (ts : List Tagged) → AllByRecursion (λ t. find t ≡ None) ts → last_else a find ts ≡ a
none_found a find [] h = refl
none_found a find (t ∷ ts) h = last_else-cons a find t ts ∙ rw h.0 (none_found a find ts h.1)

last_found : {A : Type 0} (a v : A) (find : Tagged → Option A) (before : List Tagged) (t : Tagged) (after : List Tagged) → find t ≡ Some v → AllByRecursion (λ u. find u ≡ None) after
    → last_else a find (before ++ t ∷ after) ≡ v
last_found a v find [] t after e h = last_else-cons a find t after ∙ rw e (none_found v find after h)
last_found a v find (b ∷ bs) t after e h = last_else-cons a find b (bs ++ t ∷ after) ∙ last_found _ v find bs t after e h

no_texts : (n : ℕ) (ts : List Tagged) → HasNone n ts → AllByRecursion (λ t. text_in n t ≡ None) ts
no_texts n [] h = tt
no_texts n (t ∷ ts) h = let e = ne_eqb t.number n h.0 in (rw (e, text_in) refl, no_texts n ts h.1)

no_flags : (ts : List Tagged) → HasNone 2 ts → AllByRecursion (λ t. flag_in 2 t ≡ None) ts
no_flags [] h = tt
no_flags (t ∷ ts) h = let e = ne_eqb t.number 2 h.0 in (rw e refl, no_flags ts h.1)

no_bytes : (ts : List Tagged) → HasNone 3 ts → AllByRecursion (λ t. bytes_in 3 t ≡ None) ts
no_bytes [] h = tt
no_bytes (t ∷ ts) h = let e = ne_eqb t.number 3 h.0 in (rw e refl, no_bytes ts h.1)

is_text : (n place : ℕ) (bytes : List ℕ) → text_in n (record { number = n; payload = Bytes place bytes }) ≡ Some bytes
is_text n place bytes = let e = eq-eqb n n refl in rw (e, text_in) refl

pub last_ones : LastOnesCount
last_ones = record {
  texts = λ n place bytes before after h. last_found [] bytes (text_in n) before _ after (is_text n place bytes) (no_texts n after h);
  no_text = λ n fields h. none_found [] (text_in n) fields (no_texts n fields h);
  flags = λ k before after h. last_found false (nat_lt 0 k) (flag_in 2) before _ after refl (no_flags after h);
  no_flag = λ fields h. none_found false (flag_in 2) fields (no_flags fields h);
  contents = λ place bytes before after h. last_found (0, []) (place, bytes) (bytes_in 3) before _ after refl (no_bytes after h);
  no_content = λ fields h. none_found (0, []) (bytes_in 3) fields (no_bytes fields h);
}
