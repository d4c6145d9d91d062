-- What a split makes.
use Rattle.std.proofs.Common.{◌≡◌, ℕ, zero, suc, ◌+◌, ◌*◌, ◌<◌, Bool, true, false, cond, List, [], ◌∷◌, ◌++◌, length, Option, None, Some, refl, ap, sym, ◌∙◌, subst, arith}
use Rattle.std.specs.Prelude.{◌≢◌, ◌&&◌, ◌||◌, ◌==◌, ◌-ℤ◌, not, unwrap_or}
use Rattle.std.proofs.lemmas.Bool.{eq-eqb}
use lib.IntN.{pos}
use Rattle.std.specs.List.{slice_get}
use Rattle.std.specs.FinMap.{get}
use Rattle.field_values.specs.declared.value.Value.{Value}
use Rattle.field_values.specs.declared.value.Value.TheVariants.{Null, Number, Text as IsText}
use Rattle.finite_sums.specs.Sums.{total}
use Rattle.finite_sums.specs.Maps.{Text, text_cmp, some_and, is_among}
use Rattle.book_rows.specs.declared.rows.Rows.{Rows}
use Rattle.book_rows.specs.declared.rows.TxRow.{TxRow}
use Rattle.book_rows.specs.declared.write.Write.{Write}
use Rattle.book_rows.specs.Kinds.{is_day, text_of, day_of}
use Rattle.book_rows.specs.Parts.{is_text}
use Rattle.book_edits.specs.Faults.{if_there, each}
use Rattle.book_edits.specs.Checks.{same_id, an_amount, live_category}
use Rattle.book_edits.specs.Writing.{flag, text_or_null}
use Rattle.book_edits.proofs.Valid.{inside, passed, was_so}
use Rattle.book_rows.specs.declared.fault.EditFault.TheVariants.{IsChild as FaultOfChild}
use Rattle.split_transfer.specs.declared.edit.SplitPart.{SplitPart}
use Rattle.split_transfer.specs.Pairs.{is_part, parts_of}
use Rattle.split_transfer.specs.Checks.{live_tx, no_child, no_pair, no_rest}
use Rattle.split_transfer.specs.Splits.{part_writes, parts_writes, split_writes}
use Rattle.split_transfer.specs.Writing.{day_or_null}
use Rattle.split_transfer.specs.After.{Ids, with_writes, makes}
use Rattle.split_transfer.proofs.After.{with_writes-append, get-with_writes, each_row, each_none}
use Rattle.split_transfer.proofs.Basics.{same_refl, not_same, not_true, none_some, or_left, or_right, some_is, true_false}
use Rattle.split_transfer.proofs.Children.{child}
use Rattle.split_transfer.proofs.Columns.{TxColumn, Acct, Date, Amount, Description, Category, IsChild, ParentId, IsParent, Tombstone, with_column, blank, Put, put, named, on_each}
use Rattle.split_transfer.proofs.Links.{parts_are}
use Rattle.split_transfer.proofs.Promise.{live_is}
use Rattle.book_laws.specs.Splitting.{part_row, part_at, IsSplitInto, AreNewIds, SplitsMakeParts}
use Rattle.book_laws.proofs.Done.{text_back}
use Rattle.book_laws.proofs.Unchanged.{InTxs, both_in, puts_in, each_in}

abbrev set : Text → Bool → TxColumn → Value → Option TxRow → Option TxRow
set q b c v o = cond b (Some (with_column c v (unwrap_or o (blank q)))) o

-- the writes of one part
abbrev seven : ℕ → Text → TxRow → SplitPart → List Put
seven n id x p =
    put n Acct (text_or_null x.acct) ∷ put n Date (day_or_null x.date) ∷ put n Amount (Number p.amount) ∷ put n Category (text_or_null p.category)
    ∷ put n Description (text_or_null x.description) ∷ put n IsChild (Number (pos 1)) ∷ put n ParentId (IsText id) ∷ []

day_back : (o : Option ℕ) → ((day : ℕ) → o ≡ Some day → is_day day ≡ true) → day_of (day_or_null o) ≡ o
day_back None h = refl
day_back (Some day) h = ap (λ b. cond b (Some day) None) (h day refl)

-- the row that the writes of a part make is the one that is meant
child_is : (own id : Text) (x : TxRow) (p : SplitPart) → ((day : ℕ) → x.date ≡ Some day → is_day day ≡ true) → child id x p (blank own) ≡ part_row own id x p
child_is own id x p dated =
    let row : Option Text → Option ℕ → Option Text → Option Text → TxRow = λ a d y c. record (part_row own id x p) { acct = a; date = d; description = y; category = c } in
    ap (λ a. row a (day_of (day_or_null x.date)) (text_of (text_or_null x.description)) (text_of (text_or_null p.category))) (text_back x.acct)
    ∙ ap (λ d. row x.acct d (text_of (text_or_null x.description)) (text_of (text_or_null p.category))) (day_back x.date dated)
    ∙ ap (λ y. row x.acct x.date y (text_of (text_or_null p.category))) (text_back x.description)
    ∙ ap (λ c. row x.acct x.date x.description c) (text_back p.category)

-- what the later writes make
makes-append : (ws vs : List Write) (k : ℕ) → makes vs k ≡ true → makes (ws ++ vs) k ≡ true
makes-append [] vs k h = h
makes-append (w ∷ ws) vs k h = or_right _ _ (makes-append ws vs k h)

-- the writes of the parts make a row for each
part_made : (id : Text) (x : TxRow) (ps : List SplitPart) (n i : ℕ) → i < length ps → makes (parts_writes n id x ps) (n + 7 * i) ≡ true
part_made id x [] n i l = absurd (omega arith)
part_made id x (p ∷ ps) n zero l =
    let e : n + 7 * 0 ≡ n = omega arith in
    ap (makes (parts_writes n id x (p ∷ ps))) e ∙ or_left _ _ (eq-eqb n n refl)
part_made id x (p ∷ ps) n (suc i) l =
    let k = n + 7 + 7 * i in
    let e : n + 7 * suc i ≡ k = omega arith in
    ap (makes (parts_writes n id x (p ∷ ps))) e
    ∙ or_right (n == k) _ (or_right (n == k) _ (or_right (n == k) _ (or_right (n == k) _ (or_right (n == k) _ (or_right (n == k) _ (or_right (n == k) _ (part_made id x ps (n + 7) i (omega arith))))))))

module _ (ids : Ids) (id : Text) (x : TxRow) where
  one_part : (m : Rows) (n : ℕ) (p : SplitPart) (q : Text) → get (with_writes ids m (part_writes n id x p)).txs q
      ≡ cond (same_id q (ids n)) (Some (child id x p (unwrap_or (get m.txs q) (blank q)))) (get m.txs q)
  one_part m n p q = get-with_writes ids m (seven n id x p) q ∙ by (same_id q (ids n)) (get m.txs q)
    where
      by : (b : Bool) (o : Option TxRow) → set q b ParentId (IsText id) (set q b IsChild (Number (pos 1)) (set q b Description (text_or_null x.description) (set q b Category (text_or_null p.category)
          (set q b Amount (Number p.amount) (set q b Date (day_or_null x.date) (set q b Acct (text_or_null x.acct) o))))))
          ≡ cond b (Some (child id x p (unwrap_or o (blank q)))) o
      by true o = refl
      by false o = refl

  -- a row that is no part's stays
  stays : (ps : List SplitPart) (n : ℕ) (m : Rows) (q : Text) → ((i : ℕ) → i < length ps → q ≢ ids (n + 7 * i)) → get (with_writes ids m (parts_writes n id x ps)).txs q ≡ get m.txs q
  stays [] n m q h = refl
  stays (p ∷ ps) n m q h =
      stays ps (n + 7) (with_writes ids m (part_writes n id x p)) q (λ i l e. h (i + 1) (omega arith) (e ∙ ap ids (omega arith)))
      ∙ one_part m n p q
      ∙ ap (λ b. cond b (Some (child id x p (unwrap_or (get m.txs q) (blank q)))) (get m.txs q)) (not_same q (ids n) (λ e. h 0 (omega arith) (e ∙ ap ids (omega arith))))

  -- the parts are transactions, and nothing else changes
  parts_in : (ps : List SplitPart) (n : ℕ) (m : Rows) → InTxs m (with_writes ids m (parts_writes n id x ps))
  parts_in [] n m = refl
  parts_in (p ∷ ps) n m =
      let mid = with_writes ids m (part_writes n id x p) in
      both_in m mid (with_writes ids mid (parts_writes (n + 7) id x ps)) (puts_in ids m (seven n id x p)) (parts_in ps (n + 7) mid)

  -- the place of the first part, and those of the others
  first_place : (ws : List Write) (ps : List SplitPart) (n : ℕ) (p : SplitPart) → ((i : ℕ) → i < length (p ∷ ps) → makes ws (n + 7 * i) ≡ true) → makes ws n ≡ true
  first_place ws ps n p made =
      let e : n ≡ n + 7 * 0 = omega arith in
      ap (makes ws) e ∙ made 0 (omega arith)

  later_place : (ws : List Write) (ps : List SplitPart) (n : ℕ) (p : SplitPart) → ((i : ℕ) → i < length (p ∷ ps) → makes ws (n + 7 * i) ≡ true) → (i : ℕ) → i < length ps → makes ws (n + 7 + 7 * i) ≡ true
  later_place ws ps n p made i l =
      let e : n + 7 + 7 * i ≡ n + 7 * suc i = omega arith in
      ap (makes ws) e ∙ made (suc i) (omega arith)

  -- each part has its row
  part_got : (ws : List Write) (different : (a b : ℕ) → makes ws a ≡ true → makes ws b ≡ true → ids a ≡ ids b → a ≡ b) (ps : List SplitPart) (n : ℕ) (m : Rows)
      → ((i : ℕ) → i < length ps → makes ws (n + 7 * i) ≡ true) → ((i : ℕ) → i < length ps → get m.txs (ids (n + 7 * i)) ≡ None)
      → (i : ℕ) (p : SplitPart) → slice_get ps i ≡ Some p → get (with_writes ids m (parts_writes n id x ps)).txs (ids (n + 7 * i)) ≡ Some (child id x p (blank (ids (n + 7 * i))))
  part_got ws different [] n m made none i p h = none_some p h
  part_got ws different (p ∷ ps) n m made none zero part h =
      let k = ids (n + 7 * 0) in
      let same : n + 7 * 0 ≡ n = omega arith in
      stays ps (n + 7) (with_writes ids m (part_writes n id x p)) k (λ i l e. let f = different (n + 7 * 0) (n + 7 + 7 * i) (made 0 (omega arith)) (later_place ws ps n p made i l) e in omega (arith, f))
      ∙ one_part m n p k
      ∙ ap (λ b. cond b (Some (child id x p (unwrap_or (get m.txs k) (blank k)))) (get m.txs k)) (ap (λ t. same_id k (ids t)) (sym same) ∙ same_refl k)
      ∙ ap (λ o. Some (child id x p (unwrap_or o (blank k)))) (none 0 (omega arith))
      ∙ ap (λ t. Some (child id x t (blank k))) (some_is p part h)
  part_got ws different (p ∷ ps) n m made none (suc i) part h =
      let n1 = n + 7 in
      let same : n1 + 7 * i ≡ n + 7 * suc i = omega arith in
      let mid = with_writes ids m (part_writes n id x p) in
      subst (λ t. get (with_writes ids mid (parts_writes n1 id x ps)).txs (ids t) ≡ Some (child id x part (blank (ids t)))) same
      (part_got ws different ps n1 mid (later_place ws ps n p made) (λ j l.
      let k = ids (n1 + 7 * j) in
      one_part m n p k
      ∙ ap (λ b. cond b (Some (child id x p (unwrap_or (get m.txs k) (blank k)))) (get m.txs k)) (not_same k (ids n) (λ e. let f = different (n1 + 7 * j) n (later_place ws ps n p made j l) (first_place ws ps n p made) e in omega (arith, f)))
      ∙ ap (λ t. get m.txs (ids t)) (omega arith) ∙ none (j + 1) (omega arith)) i part h)

module _ (ids : Ids) (r : Rows) (id : Text) (x : TxRow) (ps : List SplitPart) (there : get r.txs id ≡ Some x) (alone : x.is_child ≡ false) (dated : (day : ℕ) → x.date ≡ Some day → is_day day ≡ true) (ws : List Write)
    (made : (i : ℕ) → i < length ps → makes ws (part_at r id i) ≡ true) (new : AreNewIds ids r ws) where
  abbrev gone : TxRow → TxRow
  gone y = with_column Tombstone (flag true) y

  abbrev one : Rows
  one = with_writes ids r (on_each Tombstone (flag true) (parts_of r id))

  abbrev two : Rows
  two = with_writes ids one (on_each IsParent (flag true) (id ∷ []))

  abbrev three : Rows
  three = with_writes ids two (on_each Category Null (id ∷ []))

  abbrev last : Rows
  last = with_writes ids three (parts_writes (length (parts_of r id) + 2) id x ps)

  -- the transaction is no part of itself
  no_part : is_among text_cmp (parts_of r id) id ≡ false
  no_part = parts_are r id id ∙ ap (some_and (is_part id)) there ∙ ap (λ b. (b && is_text id x.parent_id) && not x.tombstone) alone

  abbrev self : Text → Bool
  self q = is_among text_cmp (id ∷ []) q

  self_so : self id ≡ true
  self_so = ap (λ b. b || false) (same_refl id)

  not_self : (q : Text) → q ≢ id → self q ≡ false
  not_self q h = ap (λ b. b || false) (not_same q id h)

  -- a row that is there is not made
  not_made : (q : Text) (y : TxRow) → get r.txs q ≡ Some y → (i : ℕ) → i < length ps → q ≢ ids (part_at r id i)
  not_made q y h i l e = none_some y (sym (new.new (part_at r id i) (made i l)) ∙ ap (get r.txs) (sym e) ∙ h)

  whole : get last.txs id ≡ Some (record x { is_parent = true; category = None })
  whole =
      let a : get one.txs id ≡ Some x = each_row ids r Tombstone (flag true) (parts_of r id) id x there ∙ ap (λ b. Some (cond b (gone x) x)) no_part in
      let y = with_column IsParent (flag true) x in
      let b : get two.txs id ≡ Some y = each_row ids one IsParent (flag true) (id ∷ []) id x a ∙ ap (λ b. Some (cond b y x)) self_so in
      stays ids id x ps (length (parts_of r id) + 2) three id (not_made id x there)
      ∙ each_row ids two Category Null (id ∷ []) id y b ∙ ap (λ b. Some (cond b (with_column Category Null y) y)) self_so

  other : (q : Text) → q ≢ id → is_among text_cmp (parts_of r id) q ≡ false → ((i : ℕ) → i < length ps → q ≢ ids (part_at r id i)) → get last.txs q ≡ get r.txs q
  other q apart none free =
      stays ids id x ps (length (parts_of r id) + 2) three q free
      ∙ each_none ids two Category Null (id ∷ []) q (not_self q apart)
      ∙ each_none ids one IsParent (flag true) (id ∷ []) q (not_self q apart)
      ∙ each_none ids r Tombstone (flag true) (parts_of r id) q none

  earlier : (q : Text) (y : TxRow) → is_among text_cmp (parts_of r id) q ≡ true → get r.txs q ≡ Some y → get last.txs q ≡ Some (record y { tombstone = true })
  earlier q y is h =
      let apart : q ≢ id = λ e. true_false (is_among text_cmp (parts_of r id) q) is (ap (is_among text_cmp (parts_of r id)) e ∙ no_part) in
      stays ids id x ps (length (parts_of r id) + 2) three q (not_made q y h)
      ∙ each_none ids two Category Null (id ∷ []) q (not_self q apart)
      ∙ each_none ids one IsParent (flag true) (id ∷ []) q (not_self q apart)
      ∙ each_row ids r Tombstone (flag true) (parts_of r id) q y h ∙ ap (λ b. Some (cond b (gone y) y)) is

  -- a new row isn't there before its part
  none_three : (i : ℕ) → i < length ps → get three.txs (ids (part_at r id i)) ≡ None
  none_three i l =
      let q = ids (part_at r id i) in
      let none : get r.txs q ≡ None = new.new (part_at r id i) (made i l) in
      let apart : q ≢ id = λ e. not_made id x there i l (sym e) in
      each_none ids two Category Null (id ∷ []) q (not_self q apart)
      ∙ each_none ids one IsParent (flag true) (id ∷ []) q (not_self q apart)
      ∙ each_none ids r Tombstone (flag true) (parts_of r id) q (parts_are r id q ∙ ap (some_and (is_part id)) none)
      ∙ none

  in_txs : InTxs r last
  in_txs =
      let a : InTxs r two = both_in r one two (each_in ids Tombstone (flag true) r (parts_of r id)) (each_in ids IsParent (flag true) one (id ∷ [])) in
      let b : InTxs r three = both_in r two three a (each_in ids Category Null two (id ∷ [])) in
      both_in r three last b (parts_in ids id x ps (length (parts_of r id) + 2) three)

  into_parts : IsSplitInto ids r last id x ps
  into_parts = record {
    whole = whole;
    earlier = earlier;
    part = λ i p h.
        let k = ids (part_at r id i) in
        part_got ids id x ws new.different ps (length (parts_of r id) + 2) three made none_three i p h
        ∙ ap (λ (y : TxRow). Some y) (child_is k id x p dated);
    others = other;
    elsewhere = in_txs;
  }

pub splits_make : SplitsMakeParts
splits_make ids rows id x parts ws h there dated new =
    let own : TxColumn → Value → Write = λ c v. named id c v in
    let a = passed (live_tx rows id) _ _ h in
    let b = passed (no_child id a.0) _ _ a.2 in
    let c = passed (no_pair rows id a.0) _ _ b.2 in
    let d = passed (each (λ (p : SplitPart). an_amount p.amount) parts) _ _ c.2 in
    let e = passed (each (λ (p : SplitPart). if_there (live_category rows) p.category) parts) _ _ d.2 in
    let f = passed (no_rest (a.0.amount -ℤ total (λ (p : SplitPart). p.amount) parts)) _ _ e.2 in
    let is : a.0 ≡ x = some_is a.0 x (sym (live_is rows id a.0 a.1).there ∙ there) in
    let alone = not_true a.0.is_child (was_so (not a.0.is_child) (FaultOfChild id) b.0 b.1) in
    let same : split_writes rows id x parts ≡ ws = ap (λ (y : TxRow). split_writes rows id y parts) (sym is) ∙ inside _ _ f.2 in
    let old = on_each Tombstone (flag true) (parts_of rows id) in
    let new_writes = own IsParent (flag true) ∷ own Category Null ∷ parts_writes (length (parts_of rows id) + 2) id x parts in
    let made : (i : ℕ) → i < length parts → makes ws (part_at rows id i) ≡ true = λ i l.
    subst (λ (vs : List Write). makes vs (part_at rows id i) ≡ true) same (makes-append old new_writes (part_at rows id i) (part_made id x parts (length (parts_of rows id) + 2) i l)) in
    subst (λ s. IsSplitInto ids rows s id x parts) (sym (with_writes-append ids rows old new_writes) ∙ ap (with_writes ids rows) same)
    (into_parts ids rows id x parts there (ap (λ (y : TxRow). y.is_child) (sym is) ∙ alone) dated ws made new)
