-- Pairs of a key and an id, put into an index and taken out.
use Rattle.std.proofs.Common.{◌≡◌, ◌==◌, ℕ, Bool, true, false, cond, [], Option, Some, None, Result, Ok, Err, OnOk, refl, ap, sym, ◌∙◌}
use Rattle.std.specs.Option.{option_eq}
use Rattle.std.specs.Cmp.Lexicographic.{pointwise, texts_ties}
use Rattle.std.specs.Prelude.{◌&&◌, IfOk}
use Rattle.std.specs.declared.cmp.Ordering.{Ordering}
use Rattle.std.specs.declared.cmp.Ordering.TheVariants.{Less, Equal, Greater}
use Rattle.std.specs.Ordering.{is_eq, eq_by_cmp, nat_cmp, ordering_then}
use Rattle.std.specs.Cmp.{eq_by_cmp_equiv}
use Rattle.std.specs.List.Sorted.{IsStrictlySortedBy}
use Rattle.std.specs.BTreeMap as tree
use Rattle.std.specs.BTreeMap.{BTreeMap}
use Rattle.std.specs.BTreeSet as set
use Rattle.std.specs.BTreeSet.{BTreeSet}
use Rattle.finite_sums.specs.Maps.{Text, text_cmp}
use Rattle.finite_sums.proofs.Texts.{text_total, text_same}
use Rattle.book_rows.specs.Book.{has_id, holds, is_pair, dated_cmp}

pub is_equal : (r : Ordering) → is_eq r ≡ true → r ≡ Equal
is_equal Less h = cc
is_equal Equal h = refl
is_equal Greater h = cc

abbrev pub Tree : Type 0
Tree = BTreeMap Text (BTreeSet Text)

module _ (m n : Tree) (key id : Text) (s t : BTreeSet Text) (b : Bool)
    (at_key : (k : Text) → tree.get text_cmp n k ≡ cond (eq_by_cmp text_cmp key k) (Some t) (tree.get text_cmp m k))
    (at_id : (q : Text) → set.contains text_cmp t q ≡ cond (eq_by_cmp text_cmp id q) b (set.contains text_cmp s q))
    (before : (q : Text) → has_id (tree.get text_cmp m key) q ≡ set.contains text_cmp s q) where
  pub set_pair : (k q : Text) → holds n k q ≡ cond (is_pair key id k q) b (holds m k q)
  set_pair k q = by (eq_by_cmp text_cmp key k) refl
    where
      by : (e : Bool) → eq_by_cmp text_cmp key k ≡ e → holds n k q ≡ cond (e && eq_by_cmp text_cmp id q) b (holds m k q)
      by false h = ap (λ o. has_id o q) (at_key k ∙ ap (λ e. cond e (Some t) (tree.get text_cmp m k)) h)
      by true h =
          ap (λ o. has_id o q) (at_key k ∙ ap (λ e. cond e (Some t) (tree.get text_cmp m k)) h) ∙ at_id q
          ∙ ap (cond (eq_by_cmp text_cmp id q) b) (sym (before q) ∙ ap (λ j. has_id (tree.get text_cmp m j) q) (text_same key k (is_equal _ h)))

-- a pair of a key that is not there is not held
pub absent_pair : (m : Tree) (key id : Text) → tree.get text_cmp m key ≡ None → (k q : Text) → holds m k q ≡ cond (is_pair key id k q) false (holds m k q)
absent_pair m key id none k q = by (eq_by_cmp text_cmp key k) refl
  where
    either : (e : Bool) (x : Bool) → x ≡ false → x ≡ cond e false x
    either true x h = h
    either false x h = refl

    by : (e : Bool) → eq_by_cmp text_cmp key k ≡ e → holds m k q ≡ cond (e && eq_by_cmp text_cmp id q) false (holds m k q)
    by false h = refl
    by true h = either (eq_by_cmp text_cmp id q) (holds m k q) (ap (λ j. holds m j q) (sym (text_same key k (is_equal _ h))) ∙ ap (λ o. has_id o q) none)

pub none_sorted : IsStrictlySortedBy text_cmp []
unfolding IsStrictlySortedBy
none_sorted = tt

pub on_ok : {A E : Type 0} {P Q : Type 0} (r : Result A E) → (P → Q) → OnOk r P → OnOk r Q
on_ok (Ok x) f p = f p
on_ok (Err e) f p = p

pub if_ok : {A E : Type 0} {Q S : A → Type 0} (r : Result A E) → ((x : A) → Q x → S x) → IfOk r Q → IfOk r S
if_ok (Ok x) f q = f x q
if_ok (Err e) f q = q

pub if_both : {A E : Type 0} {P : Type 0} {Q S : A → Type 0} (r : Result A E) → ((x : A) → P → Q x → S x) → OnOk r P → IfOk r Q → IfOk r S
if_both (Ok x) f p q = f x p q
if_both (Err e) f p q = q

-- texts that may be absent are equal where the program says so
pub same_option : (a b : Option Text) → option_eq (pointwise ◌==◌) a b ≡ true → a ≡ b
same_option None None h = refl
same_option None (Some y) h = cc
same_option (Some x) None h = cc
same_option (Some x) (Some y) h = ap Some (text_same x y (is_equal _ (sym (texts_ties x y) ∙ h)))

pub itself : (id : Text) → eq_by_cmp text_cmp id id ≡ true
itself id = (eq_by_cmp_equiv text_total).refl id

either_way : (q id : Text) → eq_by_cmp text_cmp id q ≡ eq_by_cmp text_cmp q id
either_way q id = (eq_by_cmp_equiv text_total).symm id q

both : (e p : Bool) → p ≡ false → (e && p) ≡ false
both true p h = h
both false p h = refl

-- ---- an id under keys of any kind; e says of a key whether it is the one that is put or taken
module _ {K : Type 0} (id : Text) where
  -- what is known at the id alone
  at_id : (f g : K → Text → Bool) → ((k : K) (q : Text) → eq_by_cmp text_cmp q id ≡ false → f k q ≡ g k q) → ((k : K) → f k id ≡ g k id) → (k : K) (q : Text) → f k q ≡ g k q
  at_id f g apart own k q = by (eq_by_cmp text_cmp q id) refl
    where
      by : (b : Bool) → eq_by_cmp text_cmp q id ≡ b → f k q ≡ g k q
      by false h = apart k q h
      by true h = let same : id ≡ q = sym (text_same q id (is_equal _ h)) in ap (f k) (sym same) ∙ own k ∙ ap (g k) same

  pub stays : (old : K → Text → Bool) (t : K → Bool) → ((k : K) → old k id ≡ t k) → (k : K) (q : Text) → old k q ≡ cond (eq_by_cmp text_cmp q id) (t k) (old k q)
  stays old t is = at_id old (λ k q. cond (eq_by_cmp text_cmp q id) (t k) (old k q))
      (λ k q h. sym (ap (λ b. cond b (t k) (old k q)) h))
      (λ k. is k ∙ sym (ap (λ b. cond b (t k) (old k id)) (itself id)))

  pub taken_out : (old new : K → Text → Bool) (e : K → Bool) → ((k : K) → old k id ≡ e k) → ((k : K) (q : Text) → new k q ≡ cond (e k && eq_by_cmp text_cmp id q) false (old k q))
      → (k : K) (q : Text) → new k q ≡ cond (eq_by_cmp text_cmp q id) false (old k q)
  taken_out old new e is out = at_id new (λ k q. cond (eq_by_cmp text_cmp q id) false (old k q))
      (λ k q h. out k q ∙ ap (λ b. cond b false (old k q)) (both (e k) _ (either_way q id ∙ h)) ∙ sym (ap (λ b. cond b false (old k q)) h))
      (λ k. out k id ∙ ap (λ b. cond (e k && b) false (old k id)) (itself id) ∙ ap (cond (e k && true) false) (is k) ∙ gone (e k) ∙ sym (ap (λ b. cond b false (old k id)) (itself id)))
    where
      gone : (b : Bool) → cond (b && true) false b ≡ false
      gone true = refl
      gone false = refl

  pub put_in : (old new : K → Text → Bool) (e : K → Bool) → ((k : K) → old k id ≡ false) → ((k : K) (q : Text) → new k q ≡ cond (e k && eq_by_cmp text_cmp id q) true (old k q))
      → (k : K) (q : Text) → new k q ≡ cond (eq_by_cmp text_cmp q id) (e k) (old k q)
  put_in old new e is put = at_id new (λ k q. cond (eq_by_cmp text_cmp q id) (e k) (old k q))
      (λ k q h. put k q ∙ ap (λ b. cond b true (old k q)) (both (e k) _ (either_way q id ∙ h)) ∙ sym (ap (λ b. cond b (e k) (old k q)) h))
      (λ k. put k id ∙ ap (λ b. cond (e k && b) true (old k id)) (itself id) ∙ ap (cond (e k && true) true) (is k) ∙ there (e k) ∙ sym (ap (λ b. cond b (e k) (old k id)) (itself id)))
    where
      there : (b : Bool) → cond (b && true) true false ≡ b
      there true = refl
      there false = refl

  pub none_left : (old new : K → Text → Bool) → ((k : K) (q : Text) → new k q ≡ cond (eq_by_cmp text_cmp q id) false (old k q)) → (k : K) → new k id ≡ false
  none_left old new out k = out k id ∙ ap (λ b. cond b false (old k id)) (itself id)

  pub moved : (old mid new : K → Text → Bool) (t : K → Bool) → ((k : K) (q : Text) → mid k q ≡ cond (eq_by_cmp text_cmp q id) false (old k q))
      → ((k : K) (q : Text) → new k q ≡ cond (eq_by_cmp text_cmp q id) (t k) (mid k q)) → (k : K) (q : Text) → new k q ≡ cond (eq_by_cmp text_cmp q id) (t k) (old k q)
  moved old mid new t out put k q = put k q ∙ ap (cond (eq_by_cmp text_cmp q id) (t k)) (out k q) ∙ twice (eq_by_cmp text_cmp q id)
    where
      twice : (b : Bool) → cond b (t k) (cond b false (old k q)) ≡ cond b (t k) (old k q)
      twice true = refl
      twice false = refl

-- ---- months with ids
then_eq : (a b : Ordering) → is_eq (ordering_then a b) ≡ (is_eq a && is_eq b)
then_eq Less b = refl
then_eq Equal b = refl
then_eq Greater b = refl

pub dated_tie : (month m : ℕ) (id q : Text) → is_eq (dated_cmp (month, id) (m, q)) ≡ (eq_by_cmp nat_cmp month m && eq_by_cmp text_cmp id q)
dated_tie month m id q = then_eq (nat_cmp month m) (text_cmp id q)
