-- Names that are found: of payees, and of those that are made.
use Rattle.std.proofs.Common.{◌≡◌, ℕ, suc, ◌+◌, Bool, true, false, cond, List, [], ◌∷◌, ◌++◌, length, Option, None, Some, refl, sym, ap, ◌∙◌, subst, arith}
use Rattle.std.specs.Option.{option_map, option_or}
use Rattle.std.specs.List as list
use Rattle.std.specs.BTreeMap as tree
use Rattle.std.specs.BTreeMap.{BTreeMap, is_at}
use Rattle.finite_sums.specs.Maps.{Text, text_cmp}
use Rattle.book_rows.specs.declared.rows.PayeeRow.{PayeeRow}
use Rattle.book_rows.specs.Parts.{is_text}
use Rattle.book_edits.specs.Checks.{same_id, least_where}
use Rattle.rule_engine.specs.Conditions.{folded}
use Rattle.bank_import.specs.Drafts.{key_of, is_called, place_from, place_of}
use Rattle.bank_import.proofs.Nearest.{id_same}

abbrev Entry : Type 0
Entry = Text × PayeeRow

abbrev first : Option Entry → Option Text
first o = option_map (λ e. e.0) o

new_one : (b : Bool) (f f2 w : Option Text) (e : Entry) (r : Option Entry) → (b ≡ true → f ≡ None) → f2 ≡ cond b (Some e.0) f → option_or f (first (cond b (Some e) r)) ≡ w → option_or f2 (first r) ≡ w
new_one true f f2 w e r h g inv = ap (λ o. option_or o (first r)) g ∙ sym (ap (λ o. option_or o (Some e.0)) (h refl)) ∙ inv
new_one false f f2 w e r h g inv = ap (λ o. option_or o (first r)) g ∙ inv

old_one : (b : Bool) (f w : Option Text) (e : Entry) (r : Option Entry) → (b ≡ true → (y : Text) × (f ≡ Some y)) → option_or f (first (cond b (Some e) r)) ≡ w → option_or f (first r) ≡ w
old_one true f w e r h inv = let y = h refl in ap (λ o. option_or o (first r)) y.1 ∙ sym (ap (λ o. option_or o (Some e.0)) y.1) ∙ inv
old_one false f w e r h inv = inv

module _ (found : BTreeMap Text Text) (key : Text) (e : Entry) (is : key_of e.1 ≡ Some key) (es : List Entry) (all : List Entry)
    (inv : (q : Text) → option_or (tree.get text_cmp found q) (least_where (is_called q) (e ∷ es)) ≡ least_where (is_called q) all) where
  here : (q : Text) → option_or (tree.get text_cmp found q) (first (cond (same_id key q) (Some e) (list.find (λ e. is_called q e.1) es))) ≡ least_where (is_called q) all
  here q = subst (λ (o : Option Text). option_or (tree.get text_cmp found q) (first (cond (is_text q o) (Some e) (list.find (λ e. is_called q e.1) es))) ≡ least_where (is_called q) all) is (inv q)

  -- one more payee, whose name was not found
  pub found_new : (found2 : BTreeMap Text Text) → tree.get text_cmp found key ≡ None → ((q : Text) → tree.get text_cmp found2 q ≡ cond (is_at (text_cmp key) q) (Some e.0) (tree.get text_cmp found q))
      → (q : Text) → option_or (tree.get text_cmp found2 q) (least_where (is_called q) es) ≡ least_where (is_called q) all
  found_new found2 none more q =
      new_one (same_id key q) (tree.get text_cmp found q) (tree.get text_cmp found2 q) (least_where (is_called q) all) e (list.find (λ e. is_called q e.1) es)
      (λ h. ap (tree.get text_cmp found) (sym (id_same key q h)) ∙ none) (more q) (here q)

  -- or was
  pub found_old : (y : Text) → tree.get text_cmp found key ≡ Some y → (q : Text) → option_or (tree.get text_cmp found q) (least_where (is_called q) es) ≡ least_where (is_called q) all
  found_old y some q =
      old_one (same_id key q) (tree.get text_cmp found q) (least_where (is_called q) all) e (list.find (λ e. is_called q e.1) es)
      (λ h. (y, ap (tree.get text_cmp found) (sym (id_same key q h)) ∙ some)) (here q)

-- ---- places

pub behind : (at : ℕ) (names : List Text) (name key : Text)
    → place_from at (names ++ name ∷ []) key ≡ option_or (place_from at names key) (cond (same_id (folded name) key) (Some (at + length names)) None)
behind at [] name key = let e : at ≡ at + 0 = omega arith in ap (λ n. cond (same_id (folded name) key) (Some n) None) e
behind at (n ∷ names) name key = by (same_id (folded n) key) (behind (at + 1) names name key)
  where
    next : cond (same_id (folded name) key) (Some (at + 1 + length names)) None ≡ cond (same_id (folded name) key) (Some (at + suc (length names))) None
    next = let e : at + 1 + length names ≡ at + suc (length names) = omega arith in ap (λ k. cond (same_id (folded name) key) (Some k) None) e

    by : (b : Bool) → place_from (at + 1) (names ++ name ∷ []) key ≡ option_or (place_from (at + 1) names key) (cond (same_id (folded name) key) (Some (at + 1 + length names)) None)
        → cond b (Some at) (place_from (at + 1) (names ++ name ∷ []) key) ≡ option_or (cond b (Some at) (place_from (at + 1) names key)) (cond (same_id (folded name) key) (Some (at + suc (length names))) None)
    by true h = refl
    by false h = h ∙ ap (option_or (place_from (at + 1) names key)) next

one_place : (b : Bool) (f : Option ℕ) (at : ℕ) → (b ≡ true → f ≡ None) → cond b (Some at) f ≡ option_or f (cond b (Some at) None)
one_place true f at h = sym (ap (λ o. option_or o (Some at)) (h refl))
one_place false None at h = refl
one_place false (Some x) at h = refl

-- one more name, which was not found
pub name_more : (places places2 : BTreeMap Text ℕ) (names names2 : List Text) (key name : Text) (at : ℕ) → key ≡ folded name → at ≡ length names → tree.get text_cmp places key ≡ None
    → ((q : Text) → tree.get text_cmp places2 q ≡ cond (is_at (text_cmp key) q) (Some at) (tree.get text_cmp places q)) → names2 ≡ names ++ name ∷ []
    → ((q : Text) → tree.get text_cmp places q ≡ place_of names q) → (q : Text) → tree.get text_cmp places2 q ≡ place_of names2 q
name_more places places2 names names2 key name at k n none more list inv q =
    more q
    ∙ one_place (same_id key q) (tree.get text_cmp places q) at (λ h. ap (tree.get text_cmp places) (sym (id_same key q h)) ∙ none)
    ∙ ap (λ o. option_or o (cond (same_id key q) (Some at) None)) (inv q)
    ∙ ap (λ x. option_or (place_of names q) (cond (same_id x q) (Some at) None)) k
    ∙ ap (λ m. option_or (place_of names q) (cond (same_id (folded name) q) (Some m) None)) (n ∙ (let e : length names ≡ 0 + length names = omega arith in e))
    ∙ sym (behind 0 names name q)
    ∙ sym (ap (λ l. place_of l q) list)
