-- The rows that a split makes.
use Rattle.std.proofs.Common.{◌≡◌, ℕ, ◌+◌, ◌≤◌, Bool, true, false, cond, List, [], ◌∷◌, Option, Some, None, refl, ap, sym, ◌∙◌, subst, arith}
use Rattle.std.specs.Prelude.{◌≢◌, ◌&&◌, ◌==◌, unwrap_or}
use lib.IntN.{ℤ, pos, ◌+ℤ◌}
use Rattle.std.proofs.lemmas.Int.{ints}
use Rattle.std.specs.FinMap.{get}
use Rattle.finite_sums.specs.Sums.{total, only_if}
use Rattle.finite_sums.specs.Maps.{Text, value_or_zero, total_of}
use Rattle.finite_sums.proofs.Texts.{text_total, text_same}
use Rattle.field_values.specs.declared.value.Value.{Value}
use Rattle.field_values.specs.declared.value.Value.TheVariants.{Number, Text as IsText}
use Rattle.book_rows.specs.declared.rows.Rows.{Rows}
use Rattle.book_rows.specs.declared.rows.TxRow.{TxRow}
use Rattle.book_rows.specs.declared.write.Write.{Write}
use Rattle.book_edits.specs.Checks.{same_id}
use Rattle.split_transfer.specs.declared.edit.SplitPart.{SplitPart}
use Rattle.split_transfer.specs.Pairs.{share, parts_sum}
use Rattle.split_transfer.specs.After.{Ids, with_writes, makes}
use Rattle.split_transfer.proofs.Columns.{TxColumn, Acct, Date, Amount, Description, Category, IsChild, ParentId, with_column, blank, Put, put}
use Rattle.split_transfer.proofs.Basics.{either, or_left, or_right, same_is, not_same}
use Rattle.split_transfer.proofs.Single.{clash}
use Rattle.split_transfer.proofs.After.{get-with_writes}
use Rattle.split_transfer.proofs.SameSums.{total_of-same_values}
use Rattle.split_transfer.specs.Splits.{part_writes, parts_writes}
use Rattle.split_transfer.specs.Writing.{day_or_null}
use Rattle.book_edits.specs.Writing.{text_or_null}
use Rattle.std.specs.FinMap.{insert, get-insert}
use Rattle.finite_sums.proofs.MapSums.{total_of-insert}
use Rattle.std.proofs.lemmas.Bool.{eq-eqb, eqb-true}

-- the writes of one part
abbrev seven : ℕ → Text → TxRow → SplitPart → List Put
seven n id x p =
    put n Acct (text_or_null x.acct) ∷ put n Date (day_or_null x.date) ∷ put n Amount (Number p.amount) ∷ put n Category (text_or_null p.category)
    ∷ put n Description (text_or_null x.description) ∷ put n IsChild (Number (pos 1)) ∷ put n ParentId (IsText id) ∷ []

-- what they make of a row
abbrev pub child : Text → TxRow → SplitPart → TxRow → TxRow
child id x p base =
    with_column ParentId (IsText id) (with_column IsChild (Number (pos 1)) (with_column Description (text_or_null x.description) (with_column Category (text_or_null p.category)
    (with_column Amount (Number p.amount) (with_column Date (day_or_null x.date) (with_column Acct (text_or_null x.acct) base))))))

abbrev set : Text → Bool → TxColumn → Value → Option TxRow → Option TxRow
set q b c v o = cond b (Some (with_column c v (unwrap_or o (blank q)))) o

pub record AreNew (ids : Ids) (m : Rows) (ws : List Write) : Type 0 where
  pub new : (k : ℕ) → makes ws k ≡ true → get m.txs (ids k) ≡ None
  pub different : (j k : ℕ) → makes ws j ≡ true → makes ws k ≡ true → ids j ≡ ids k → j ≡ k

-- the row, if there is one, names no partner and is not split
abbrev IsBare : Option TxRow → Type 0
IsBare None = Unit {0}
IsBare (Some y) = (y.transferred_id ≡ None) × (y.is_parent ≡ false)

module _ (ids : Ids) (id : Text) (x : TxRow) where
  get-part_writes : (m : Rows) (n : ℕ) (p : SplitPart) (q : Text) → get (with_writes ids m (part_writes n id x p)).txs q
      ≡ cond (same_id q (ids n)) (Some (child id x p (unwrap_or (get m.txs q) (blank q)))) (get m.txs q)
  get-part_writes m n p q = get-with_writes ids m (seven n id x p) q ∙ by (same_id q (ids n)) (get m.txs q)
    where
      by : (b : Bool) (o : Option TxRow) → set q b ParentId (IsText id) (set q b IsChild (Number (pos 1)) (set q b Description (text_or_null x.description) (set q b Category (text_or_null p.category)
          (set q b Amount (Number p.amount) (set q b Date (day_or_null x.date) (set q b Acct (text_or_null x.acct) o))))))
          ≡ cond b (Some (child id x p (unwrap_or o (blank q)))) o
      by true o = refl
      by false o = refl

  first_made : (n : ℕ) (p : SplitPart) (ps : List SplitPart) → makes (parts_writes n id x (p ∷ ps)) n ≡ true
  first_made n p ps = or_left _ _ (eq-eqb n n refl)

  later_made : (n k : ℕ) (p : SplitPart) (ps : List SplitPart) → makes (parts_writes (n + 7) id x ps) k ≡ true → makes (parts_writes n id x (p ∷ ps)) k ≡ true
  later_made n k p ps h = or_right (n == k) _ (or_right (n == k) _ (or_right (n == k) _ (or_right (n == k) _ (or_right (n == k) _ (or_right (n == k) _ (or_right (n == k) _ h))))))

  made_after : (ps : List SplitPart) (n k : ℕ) → makes (parts_writes n id x ps) k ≡ true → n ≤ k
  made_after [] n k h = absurd (none h)
    where
      none : false ≡ true → ⊥
      none h = cc
  made_after (p ∷ ps) n k h =
      either (n == k) _ h here (λ h. either (n == k) _ h here (λ h. either (n == k) _ h here (λ h. either (n == k) _ h here (λ h. either (n == k) _ h here (λ h. either (n == k) _ h here (λ h. either (n == k) _ h here (λ h.
      let e = made_after ps (n + 7) k h in omega (arith, e))))))))
    where
      here : (n == k) ≡ true → n ≤ k
      here t = let e = eqb-true n k t in omega (arith, e)

  not_first : (m : Rows) (n k : ℕ) (p : SplitPart) (ps : List SplitPart) → AreNew ids m (parts_writes n id x (p ∷ ps)) → makes (parts_writes (n + 7) id x ps) k ≡ true → ids k ≢ ids n
  not_first m n k p ps a h e =
      let same = a.different k n (later_made n k p ps h) (first_made n p ps) e in
      let above = made_after ps (n + 7) k h in
      omega (arith, same, above)

  next_new : (m : Rows) (n : ℕ) (p : SplitPart) (ps : List SplitPart) → AreNew ids m (parts_writes n id x (p ∷ ps)) → AreNew ids (with_writes ids m (part_writes n id x p)) (parts_writes (n + 7) id x ps)
  next_new m n p ps a = record {
    new = λ k h. get-part_writes m n p (ids k)
        ∙ ap (λ b. cond b (Some (child id x p (unwrap_or (get m.txs (ids k)) (blank (ids k))))) (get m.txs (ids k))) (not_same (ids k) (ids n) (not_first m n k p ps a h))
        ∙ a.new k (later_made n k p ps h);
    different = λ j k g h. a.different j k (later_made n j p ps g) (later_made n k p ps h);
  }

  -- a row that was there stays
  pub kept : (ps : List SplitPart) (n : ℕ) (m : Rows) (q : Text) (y : TxRow) → AreNew ids m (parts_writes n id x ps) → get m.txs q ≡ Some y → get (with_writes ids m (parts_writes n id x ps)).txs q ≡ Some y
  kept [] n m q y a h = h
  kept (p ∷ ps) n m q y a h =
      kept ps (n + 7) (with_writes ids m (part_writes n id x p)) q y (next_new m n p ps a)
      (get-part_writes m n p q ∙ ap (λ b. cond b (Some (child id x p (unwrap_or (get m.txs q) (blank q)))) (get m.txs q))
      (not_same q (ids n) (λ e. clash _ y h (ap (get m.txs) e ∙ a.new n (first_made n p ps)))) ∙ h)

  -- a row that is not made stays
  pub untouched : (ps : List SplitPart) (n : ℕ) (m : Rows) (q : Text) → ((k : ℕ) → makes (parts_writes n id x ps) k ≡ true → q ≢ ids k) → get (with_writes ids m (parts_writes n id x ps)).txs q ≡ get m.txs q
  untouched [] n m q h = refl
  untouched (p ∷ ps) n m q h =
      untouched ps (n + 7) (with_writes ids m (part_writes n id x p)) q (λ k t. h k (later_made n k p ps t))
      ∙ get-part_writes m n p q ∙ ap (λ b. cond b (Some (child id x p (unwrap_or (get m.txs q) (blank q)))) (get m.txs q)) (not_same q (ids n) (h n (first_made n p ps)))

  bare : (ps : List SplitPart) (n : ℕ) (m : Rows) (q : Text) → IsBare (get m.txs q) → IsBare (get (with_writes ids m (parts_writes n id x ps)).txs q)
  bare [] n m q h = h
  bare (p ∷ ps) n m q h = bare ps (n + 7) (with_writes ids m (part_writes n id x p)) q (subst IsBare (sym (get-part_writes m n p q)) (by (same_id q (ids n)) (get m.txs q) h))
    where
      by : (b : Bool) (o : Option TxRow) → IsBare o → IsBare (cond b (Some (child id x p (unwrap_or o (blank q)))) o)
      by true None h = (refl, refl)
      by true (Some y) h = h
      by false o h = h

  -- a row that is made names no partner and is not split
  pub made_is_bare : (ps : List SplitPart) (n : ℕ) (m : Rows) (q : Text) (y : TxRow) → get m.txs q ≡ None → get (with_writes ids m (parts_writes n id x ps)).txs q ≡ Some y → (y.transferred_id ≡ None) × (y.is_parent ≡ false)
  made_is_bare ps n m q y none there = subst IsBare there (bare ps n m q (subst IsBare (sym none) tt))

  only_plus : (b : Bool) (old head rest : ℤ) → (old +ℤ only_if b head) +ℤ only_if b rest ≡ old +ℤ only_if b (head +ℤ rest)
  only_plus true old head rest = omega (arith, ints)
  only_plus false old head rest = omega (arith, ints)

  and_true : (b : Bool) → (b && true) ≡ b
  and_true true = refl
  and_true false = refl

  one_more : (m : Rows) (n : ℕ) (p : SplitPart) (other : Text) → get m.txs (ids n) ≡ None → parts_sum (with_writes ids m (part_writes n id x p)) other ≡ parts_sum m other +ℤ only_if (same_id id other) p.amount
  one_more m n p other none =
      let new = child id x p (blank (ids n)) in
      let grown = insert m.txs (ids n) new in
      let e : parts_sum (with_writes ids m (part_writes n id x p)) other ≡ total_of (share other) grown =
      total_of-same_values (share other) (share other) (with_writes ids m (part_writes n id x p)).txs grown
      (λ q. ap (value_or_zero (share other)) (get-part_writes m n p q ∙ by q (same_id q (ids n)) refl ∙ sym (get-insert text_total m.txs (ids n) new q))) in
      let f = total_of-insert text_total text_same (share other) m.txs (ids n) new in
      let g : value_or_zero (share other) (get m.txs (ids n)) ≡ pos 0 = ap (value_or_zero (share other)) none in
      let s : share other new ≡ only_if (same_id id other) p.amount = ap (λ b. only_if b p.amount) (and_true (same_id id other)) in
      omega (arith, ints, e, f, g, s)
    where
      by : (q : Text) (b : Bool) → same_id q (ids n) ≡ b → cond b (Some (child id x p (unwrap_or (get m.txs q) (blank q)))) (get m.txs q) ≡ cond b (Some (child id x p (blank (ids n)))) (get m.txs q)
      by q true t = ap (λ o. Some (child id x p (unwrap_or o (blank q)))) (ap (get m.txs) (same_is q (ids n) t) ∙ none) ∙ ap (λ k. Some (child id x p (blank k))) (same_is q (ids n) t)
      by q false t = refl

  -- the made rows are parts of the split row alone
  pub sum_parts : (ps : List SplitPart) (n : ℕ) (m : Rows) (other : Text) → AreNew ids m (parts_writes n id x ps)
      → parts_sum (with_writes ids m (parts_writes n id x ps)) other ≡ parts_sum m other +ℤ only_if (same_id id other) (total (λ (p : SplitPart). p.amount) ps)
  sum_parts [] n m other a = none (same_id id other)
    where
      none : (b : Bool) → parts_sum m other ≡ parts_sum m other +ℤ only_if b (pos 0)
      none true = omega (arith, ints)
      none false = omega (arith, ints)
  sum_parts (p ∷ ps) n m other a =
      sum_parts ps (n + 7) (with_writes ids m (part_writes n id x p)) other (next_new m n p ps a)
      ∙ ap (λ z. z +ℤ only_if (same_id id other) (total (λ (p : SplitPart). p.amount) ps)) (one_more m n p other (a.new n (first_made n p ps)))
      ∙ only_plus (same_id id other) (parts_sum m other) p.amount (total (λ (p : SplitPart). p.amount) ps)
