-- What changes touch, gathered from the rows by which they touch it.
use Rattle.std.proofs.Common.{◌≡◌, ℕ, ◌+◌, ◌≤◌, Bool, true, false, List, [], ◌∷◌, ◌++◌, length, Option, Some, None, refl, ap, sym, ◌∙◌, arith, true≢false, subst, append_assoc}
use Rattle.std.specs.Prelude.{◌||◌, ◌&&◌, flat_map, is_some, if◌then◌else◌}
use Rattle.std.specs.Ordering.{eq_by_cmp}
use Rattle.field_values.specs.declared.value.Value.{Value}
use Rattle.finite_sums.specs.Sums.{weight}
use Rattle.finite_sums.specs.Maps.{Text, text_cmp, is_among, AreDistinct}
use Rattle.book_rows.specs.declared.rows.Rows.{Rows}
use Rattle.book_rows.specs.declared.column.Dataset.{Dataset}
use Rattle.book_rows.specs.declared.column.Dataset.TheVariants.{Accounts, Transactions, CategoryMapping}
use Rattle.book_rows.specs.declared.column.Column.{Column}
use Rattle.book_rows.specs.Columns.{dataset_of, column_of}
use Rattle.book_rows.specs.Rows.{dataset_kind}
use Rattle.envelope_cells.proofs.Among.{same_texts, itself, or_left, or_right, or_either, among-append, in_front, in_back}
use Rattle.dirty_cells.specs.Changes.{Change, Within, account_governs, tx_governs, mapping_governs}
use Rattle.dirty_cells.proofs.Touches.{touched_known, AreTouched}
use Rattle.dirty_cells.specs.Governing.{governed, only_where, tx_set, account_set, parent_set, mapping_set, of_known, txs_by, accounts_by, parents_by, mappings_by, touched_list, distinct, governed_by, listed_by}
use Rattle.dirty_cells.specs.declared.touching.Governor.{Governor}
use Rattle.dirty_cells.specs.declared.touching.Governor.TheVariants.{Account, Parent, Mapping}
use Rattle.dirty_cells.proofs.Counting.{weighs_less, among-distinct}
use Rattle.dirty_cells.proofs.Gathered.{among_flat}

-- lists of the same texts give the same
module _ (f : Text → List Text) where
  from_one : (xs ys : List Text) (q : Text) → Within xs ys → is_among text_cmp (flat_map f xs) q ≡ true → is_among text_cmp (flat_map f ys) q ≡ true
  from_one [] ys q w h = absurd (true≢false (sym h))
  from_one (x ∷ xs) ys q w h = or_either (is_among text_cmp (f x) q) (is_among text_cmp (flat_map f xs) q) (sym (among-append (f x) (flat_map f xs) q) ∙ h)
      (λ k. among_flat f ys x q (w.each x (or_left _ _ (itself x))) k)
      (λ k. from_one xs ys q (record { each = λ p l. w.each p (or_right (eq_by_cmp text_cmp p x) _ l) }) k)

  pub flat_within : (xs ys : List Text) → Within xs ys → Within (flat_map f xs) (flat_map f ys)
  flat_within xs ys w = record { each = λ q h. from_one xs ys q w h }

  pub same_flat : (xs ys : List Text) → ((q : Text) → is_among text_cmp xs q ≡ is_among text_cmp ys q) → (q : Text) → is_among text_cmp (flat_map f xs) q ≡ is_among text_cmp (flat_map f ys) q
  same_flat xs ys e q = by (is_among text_cmp (flat_map f xs) q) (is_among text_cmp (flat_map f ys) q) (from_one xs ys q (record { each = λ p h. sym (e p) ∙ h })) (from_one ys xs q (record { each = λ p h. e p ∙ h }))
    where
      by : (a b : Bool) → (a ≡ true → b ≡ true) → (b ≡ true → a ≡ true) → a ≡ b
      by true true f g = refl
      by true false f g = sym (f refl)
      by false true f g = g refl
      by false false f g = refl

-- ---- what the sets have
turned : (m p a t : Bool) → (m || (p || (a || t))) ≡ (((t || a) || p) || m)
turned true true true true = refl
turned true true true false = refl
turned true true false true = refl
turned true true false false = refl
turned true false true true = refl
turned true false true false = refl
turned true false false true = refl
turned true false false false = refl
turned false true true true = refl
turned false true true false = refl
turned false true false true = refl
turned false true false false = refl
turned false false true true = refl
turned false false true false = refl
turned false false false true = refl
turned false false false false = refl

module _ (r : Rows) (cs : List Change) (accounts parents mappings : List Text)
    (of_accounts : (q : Text) → is_among text_cmp accounts q ≡ is_among text_cmp (flat_map (accounts_by r) cs) q)
    (of_parents : (q : Text) → is_among text_cmp parents q ≡ is_among text_cmp (flat_map (parents_by r) cs) q)
    (of_mappings : (q : Text) → is_among text_cmp mappings q ≡ is_among text_cmp (flat_map (mappings_by r) cs) q) where
  pub all_listed : (t0 t1 t2 t3 : Text → Bool) (q : Text) → t0 q ≡ is_among text_cmp (flat_map txs_by cs) q
      → t1 q ≡ (is_among text_cmp (flat_map (governed r Account) accounts) q || t0 q)
      → t2 q ≡ (is_among text_cmp (flat_map (governed r Parent) parents) q || t1 q)
      → t3 q ≡ (is_among text_cmp (flat_map (governed r Mapping) mappings) q || t2 q)
      → t3 q ≡ is_among text_cmp (touched_list r cs) q
  all_listed t0 t1 t2 t3 q e0 e1 e2 e3 =
      let a = flat_map (governed r Account) (flat_map (accounts_by r) cs) in
      let p = flat_map (governed r Parent) (flat_map (parents_by r) cs) in
      let m = flat_map (governed r Mapping) (flat_map (mappings_by r) cs) in
      let t = flat_map txs_by cs in
      e3
      ∙ ap (λ b. is_among text_cmp (flat_map (governed r Mapping) mappings) q || b) (e2 ∙ ap (λ b. is_among text_cmp (flat_map (governed r Parent) parents) q || b) (e1 ∙ ap (λ b. is_among text_cmp (flat_map (governed r Account) accounts) q || b) e0))
      ∙ ap (λ b. b || (is_among text_cmp (flat_map (governed r Parent) parents) q || (is_among text_cmp (flat_map (governed r Account) accounts) q || is_among text_cmp t q))) (same_flat (governed r Mapping) mappings (flat_map (mappings_by r) cs) of_mappings q)
      ∙ ap (λ b. is_among text_cmp m q || (b || (is_among text_cmp (flat_map (governed r Account) accounts) q || is_among text_cmp t q))) (same_flat (governed r Parent) parents (flat_map (parents_by r) cs) of_parents q)
      ∙ ap (λ b. is_among text_cmp m q || (is_among text_cmp p q || (b || is_among text_cmp t q))) (same_flat (governed r Account) accounts (flat_map (accounts_by r) cs) of_accounts q)
      ∙ turned (is_among text_cmp m q) (is_among text_cmp p q) (is_among text_cmp a q) (is_among text_cmp t q)
      ∙ sym (among-append ((t ++ a) ++ p) m q ∙ ap (λ b. b || is_among text_cmp m q) (among-append (t ++ a) p q ∙ ap (λ b. b || is_among text_cmp p q) (among-append t a q)))

  asked : (g : Governor) (xs ys : List Text) → AreDistinct text_cmp xs → ((q : Text) → is_among text_cmp xs q ≡ is_among text_cmp ys q) → weight (λ id. length (governed r g id)) xs ≤ governed_by r g ys
  asked g xs ys d e = weighs_less (λ id. length (governed r g id)) xs (distinct ys) d (record { each = λ q h. among-distinct ys q ∙ sym (e q) ∙ h })

  pub all_asked : AreDistinct text_cmp accounts → AreDistinct text_cmp parents → AreDistinct text_cmp mappings
      → (s0 s1 s2 s3 s4 n : ℕ) → s1 ≤ s0 + n → s2 ≤ s1 + weight (λ id. length (governed r Account id)) accounts → s3 ≤ s2 + weight (λ id. length (governed r Parent id)) parents
      → s4 ≤ s3 + weight (λ id. length (governed r Mapping id)) mappings → s4 ≤ s0 + (n + listed_by r cs)
  all_asked da dp dm s0 s1 s2 s3 s4 n h1 h2 h3 h4 =
      omega (arith, h1, h2, h3, h4, asked Account accounts (flat_map (accounts_by r) cs) da of_accounts, asked Parent parents (flat_map (parents_by r) cs) dp of_parents, asked Mapping mappings (flat_map (mappings_by r) cs) dm of_mappings)

-- ---- what each change touches is among it
front : (xs ys ids : List Text) → Within (xs ++ ys) ids → Within xs ids
front xs ys ids w = record { each = λ q h. w.each q (in_front xs ys q h) }

back : (xs ys ids : List Text) → Within (xs ++ ys) ids → Within ys ids
back xs ys ids w = record { each = λ q h. w.each q (in_back xs ys q h) }

flat-append : (f : Text → List Text) (xs ys : List Text) → flat_map f (xs ++ ys) ≡ flat_map f xs ++ flat_map f ys
flat-append f [] ys = refl
flat-append f (x ∷ xs) ys = ap (λ zs. f x ++ zs) (flat-append f xs ys) ∙ sym (append_assoc (f x) (flat_map f xs) (flat_map f ys))

module _ (r : Rows) (ids : List Text) where
  one_governed : (g : Governor) (id : Text) (b : Bool) → Within (flat_map (governed r g) (only_where b id)) ids → Within (if b then governed r g id else []) ids
  one_governed g id true w = front (governed r g id) [] ids w
  one_governed g id false w = record { each = λ q h. absurd (true≢false (sym h)) }

  nothing_within : Within [] ids
  nothing_within = record { each = λ q h. absurd (true≢false (sym h)) }

  by_kind : (k g : Bool) (xs : List Text) → (k ≡ true → Within (if g then xs else []) ids) → Within (if k && g then xs else []) ids
  by_kind true g xs h = h refl
  by_kind false g xs h = nothing_within

  of_tx : (k g : Bool) (id : Text) (xs : List Text) → (k ≡ true → (is_among text_cmp ids id ≡ true) × Within (if g then xs else []) ids) → Within (if k then id ∷ (if g then xs else []) else []) ids
  of_tx true g id xs h = record { each = λ q l. or_either (eq_by_cmp text_cmp q id) (is_among text_cmp (if g then xs else []) q) l (λ e. ap (is_among text_cmp ids) (same_texts q id e) ∙ (h refl).0) (λ e. (h refl).1.each q e) }
  of_tx false g id xs h = nothing_within

  where_known : (k : Bool) (xs : List Text) → Within (if k then xs else []) ids → k ≡ true → Within xs ids
  where_known true xs w e = w
  where_known false xs w e = absurd (true≢false (sym e))

  -- what rows of one kind govern, where a field is known
  known_governed : (g : Governor) (k : Bool) (xs : List Text) → Within (flat_map (governed r g) (if k then xs else [])) ids → k ≡ true → Within (flat_map (governed r g) xs) ids
  known_governed g true xs w e = w
  known_governed g false xs w e = absurd (true≢false (sym e))

  module _ (id : Text) (v : Value) where
    touched_within : (d : Option Dataset) (k : Option Column)
        → Within (of_known (λ (d : Dataset) (k : Column). tx_set d id) d k) ids
        → Within (flat_map (governed r Account) (of_known (λ (d : Dataset) (k : Column). account_set r d k id v) d k)) ids
        → Within (flat_map (governed r Parent) (of_known (λ (d : Dataset) (k : Column). parent_set r d k id v) d k)) ids
        → Within (flat_map (governed r Mapping) (of_known (λ (d : Dataset) (k : Column). mapping_set r d k id v) d k)) ids
        → Within (touched_known r d k id v) ids
    touched_within None k t a p m = nothing_within
    touched_within (Some d) None t a p m = nothing_within
    touched_within (Some Accounts) (Some k) t a p m =
        by_kind (is_some (dataset_kind Accounts k)) (account_governs r id k v) (governed r Account id)
        (λ e. one_governed Account id (account_governs r id k v) (known_governed Account (is_some (dataset_kind Accounts k)) (only_where (account_governs r id k v) id) a e))
    touched_within (Some Transactions) (Some k) t a p m =
        of_tx (is_some (dataset_kind Transactions k)) (tx_governs r id k v) id (governed r Parent id)
        (λ e. (
          (where_known (is_some (dataset_kind Transactions k)) (id ∷ []) t e).each id (or_left _ _ (itself id)),
          one_governed Parent id (tx_governs r id k v) (known_governed Parent (is_some (dataset_kind Transactions k)) (only_where (tx_governs r id k v) id) p e),
        ))
    touched_within (Some CategoryMapping) (Some k) t a p m =
        by_kind (is_some (dataset_kind CategoryMapping k)) (mapping_governs r id k v) (governed r Mapping id)
        (λ e. one_governed Mapping id (mapping_governs r id k v) (known_governed Mapping (is_some (dataset_kind CategoryMapping k)) (only_where (mapping_governs r id k v) id) m e))
    touched_within (Some other) (Some k) t a p m = nothing_within

  split : (g : Governor) (xs ys : List Text) → Within (flat_map (governed r g) (xs ++ ys)) ids → Within (flat_map (governed r g) xs ++ flat_map (governed r g) ys) ids
  split g xs ys w = subst (λ l. Within l ids) (flat-append (governed r g) xs ys) w

  are_touched : (cs : List Change) → Within (flat_map txs_by cs) ids → Within (flat_map (governed r Account) (flat_map (accounts_by r) cs)) ids
      → Within (flat_map (governed r Parent) (flat_map (parents_by r) cs)) ids → Within (flat_map (governed r Mapping) (flat_map (mappings_by r) cs)) ids → AreTouched r cs ids
  are_touched [] t a p m = tt
  are_touched (c ∷ cs) t a p m =
      let sa = split Account (accounts_by r c) (flat_map (accounts_by r) cs) a in
      let sp = split Parent (parents_by r c) (flat_map (parents_by r) cs) p in
      let sm = split Mapping (mappings_by r c) (flat_map (mappings_by r) cs) m in (
        touched_within c.0.row c.1 (dataset_of c.0.dataset) (column_of c.0.column) (front (txs_by c) (flat_map txs_by cs) ids t)
            (front (flat_map (governed r Account) (accounts_by r c)) (flat_map (governed r Account) (flat_map (accounts_by r) cs)) ids sa)
            (front (flat_map (governed r Parent) (parents_by r c)) (flat_map (governed r Parent) (flat_map (parents_by r) cs)) ids sp)
            (front (flat_map (governed r Mapping) (mappings_by r c)) (flat_map (governed r Mapping) (flat_map (mappings_by r) cs)) ids sm),
        are_touched cs (back (txs_by c) (flat_map txs_by cs) ids t)
            (back (flat_map (governed r Account) (accounts_by r c)) (flat_map (governed r Account) (flat_map (accounts_by r) cs)) ids sa)
            (back (flat_map (governed r Parent) (parents_by r c)) (flat_map (governed r Parent) (flat_map (parents_by r) cs)) ids sp)
            (back (flat_map (governed r Mapping) (mappings_by r c)) (flat_map (governed r Mapping) (flat_map (mappings_by r) cs)) ids sm),
      )

  pub listed_touched : (cs : List Change) → ((q : Text) → is_among text_cmp ids q ≡ is_among text_cmp (touched_list r cs) q) → AreTouched r cs ids
  listed_touched cs e =
      let t = flat_map txs_by cs in
      let a = flat_map (governed r Account) (flat_map (accounts_by r) cs) in
      let p = flat_map (governed r Parent) (flat_map (parents_by r) cs) in
      let m = flat_map (governed r Mapping) (flat_map (mappings_by r) cs) in
      let all : Within (((t ++ a) ++ p) ++ m) ids = record { each = λ q h. e q ∙ h } in
      let three = front ((t ++ a) ++ p) m ids all in
      let two = front (t ++ a) p ids three in
      are_touched cs (front t a ids two) (back t a ids two) (back (t ++ a) p ids three) (back ((t ++ a) ++ p) m ids all)
