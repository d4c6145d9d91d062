-- A register tells exactly the live transactions of its account, each once, in order.
use Rattle.std.proofs.Common.{◌≡◌, ℕ, Bool, true, false, cond, List, [], ◌∷◌, ◌++◌, map, Option, None, Some, refl, ap, sym, subst, ◌∙◌}
use Rattle.std.specs.Prelude.{◌||◌}
use Rattle.std.specs.List.{flat_map, AllByRecursion, Contains}
use Rattle.std.specs.List.Sorted.{IsStrictlySortedBy}
use Rattle.std.specs.FinMap as fin
use Rattle.std.specs.BTreeMap.{insert_entry}
use Rattle.std.specs.Ordering.{eq_by_cmp, is_eq, match_ordering, nat_cmp, ordering_reverse}
use Rattle.std.specs.declared.cmp.Ordering.{Ordering}
use Rattle.std.specs.declared.cmp.Ordering.TheVariants.{Less, Equal, Greater}
use Rattle.std.specs.Cmp.{IsTotalOrder, on_total, nat_cmp_total, eq_by_cmp_equiv}
use Rattle.std.proofs.lemmas.Cmp.{then_total, nat_list_cmp_total}
use Rattle.field_merge.proofs.Members.{here, there, all_of, all_weaker}
use Rattle.finite_sums.specs.Maps.{Text, text_cmp, some_and, is_among, AreDistinct}
use Rattle.finite_sums.proofs.MapSums.{among-keys_where, distinct-keys_where}
use Rattle.finite_sums.proofs.Texts.{text_total, text_same}
use Rattle.book_rows.specs.declared.rows.Rows.{Rows}
use Rattle.book_rows.specs.declared.rows.TxRow.{TxRow}
use Rattle.book_rows.specs.Live.{is_live_tx}
use Rattle.book_rows.specs.Parts.{is_in_account, account_txs}
use Rattle.book_rows.specs.Book.{dated_cmp}
use Rattle.envelope_cells.proofs.Among.{itself, same_texts, or_left, or_right, or_either}
use Rattle.envelope_cells.proofs.Distinct.{then_equal}
use Rattle.command_lines.specs.Register.{Entry, day_or_first, register_line, entry_of_row, entry_of, placed, register_of}
use Rattle.command_lines.specs.RegisterLaws.{IsRegistered, IsRegister}

dated_total : IsTotalOrder dated_cmp
dated_total = then_total (on_total (λ (p : ℕ × Text). p.0) nat_cmp_total) (on_total (λ (p : ℕ × Text). p.1) nat_list_cmp_total)

-- the id of no entry is this one
abbrev Apart : Text → List Entry → Type 0
Apart q es = AllByRecursion (λ e. eq_by_cmp text_cmp q e.0.1 ≡ false) es

never_equal : (k : ℕ × Text) (e : Entry) → eq_by_cmp text_cmp k.1 e.0.1 ≡ false → dated_cmp k e.0 ≡ Equal → ⊥
never_equal k e apart p =
    let same : text_cmp k.1 e.0.1 ≡ Equal = then_equal (nat_cmp k.0 e.0.0) (text_cmp k.1 e.0.1) p in
    let clash : true ≡ false = sym (ap is_eq same) ∙ apart in cc

-- ---- one entry put in its place

module _ (k : ℕ × Text) (line : Text) where
  abbrev put : List Entry → List Entry
  put es = insert_entry dated_cmp es k line

  -- what holds of it and of the others holds of all
  put_all : (P : Entry → Type 0) (es : List Entry) → Apart k.1 es → P (k, line) → AllByRecursion P es → AllByRecursion P (put es)
  put_all P [] apart h all = (h, tt)
  put_all P (e ∷ es) apart h all = by (dated_cmp k e.0) refl (put_all P es apart.1 h all.1)
    where
      by : (o : Ordering) → dated_cmp k e.0 ≡ o → AllByRecursion P (put es) → AllByRecursion P (match_ordering o ((k, line) ∷ e ∷ es) ((e.0, line) ∷ es) (e ∷ put es))
      by Less p rest = (h, all)
      by Equal p rest = absurd (never_equal k e apart.0 p)
      by Greater p rest = (all.0, rest)

  put_there : (es : List Entry) → Apart k.1 es → Contains (put es) (k, line)
  put_there [] apart = here (k, line) []
  put_there (e ∷ es) apart = by (dated_cmp k e.0) refl (put_there es apart.1)
    where
      by : (o : Ordering) → dated_cmp k e.0 ≡ o → Contains (put es) (k, line) → Contains (match_ordering o ((k, line) ∷ e ∷ es) ((e.0, line) ∷ es) (e ∷ put es)) (k, line)
      by Less p rest = here (k, line) (e ∷ es)
      by Equal p rest = absurd (never_equal k e apart.0 p)
      by Greater p rest = there e (put es) (k, line) rest

  others_in : (es : List Entry) → AllByRecursion (λ e. Contains es e) es
  others_in [] = tt
  others_in (e ∷ es) = (here e es, all_weaker (λ f. Contains es f) (λ f. Contains (e ∷ es) f) (λ f c. there e es f c) es (others_in es))

  put_keeps : (es : List Entry) → Apart k.1 es → AllByRecursion (λ e. Contains (put es) e) es
  put_keeps [] apart = tt
  put_keeps (e ∷ es) apart = by (dated_cmp k e.0) refl (put_keeps es apart.1)
    where
      by : (o : Ordering) → dated_cmp k e.0 ≡ o → AllByRecursion (λ e. Contains (put es) e) es
          → AllByRecursion (λ f. Contains (match_ordering o ((k, line) ∷ e ∷ es) ((e.0, line) ∷ es) (e ∷ put es)) f) (e ∷ es)
      by Less p rest = all_weaker (λ f. Contains (e ∷ es) f) (λ f. Contains ((k, line) ∷ e ∷ es) f) (λ f c. there (k, line) (e ∷ es) f c) (e ∷ es) (others_in (e ∷ es))
      by Equal p rest = absurd (never_equal k e apart.0 p)
      by Greater p rest = (here e (put es), all_weaker (λ f. Contains (put es) f) (λ f. Contains (e ∷ put es) f) (λ f c. there e (put es) f c) es rest)

  abbrev keys : List Entry → List (ℕ × Text)
  keys es = map (λ (e : Entry). e.0) es

  below : (j : ℕ × Text) (es : List Entry) → dated_cmp j k ≡ Less → AllByRecursion (λ y. dated_cmp j y ≡ Less) (keys es) → AllByRecursion (λ y. dated_cmp j y ≡ Less) (keys (put es))
  below j [] h all = (h, tt)
  below j (e ∷ es) h all = by (dated_cmp k e.0) (below j es h all.1)
    where
      by : (o : Ordering) → AllByRecursion (λ y. dated_cmp j y ≡ Less) (keys (put es))
          → AllByRecursion (λ y. dated_cmp j y ≡ Less) (keys (match_ordering o ((k, line) ∷ e ∷ es) ((e.0, line) ∷ es) (e ∷ put es)))
      by Less rest = (h, all)
      by Equal rest = all
      by Greater rest = (all.0, rest)

  all_above : (x : ℕ × Text) (ys : List (ℕ × Text)) → dated_cmp k x ≡ Less → AllByRecursion (λ y. dated_cmp x y ≡ Less) ys → AllByRecursion (λ y. dated_cmp k y ≡ Less) ys
  all_above x ys h all = all_weaker (λ y. dated_cmp x y ≡ Less) (λ y. dated_cmp k y ≡ Less) (λ y c. dated_total.trans k x y h c) ys all

  put_sorted : (es : List Entry) → IsStrictlySortedBy dated_cmp (keys es) → IsStrictlySortedBy dated_cmp (keys (put es))
  unfolding IsStrictlySortedBy
  put_sorted [] s = (tt, tt)
  put_sorted (e ∷ es) s = by (dated_cmp k e.0) refl (put_sorted es s.1)
    where
      by : (o : Ordering) → dated_cmp k e.0 ≡ o → IsStrictlySortedBy dated_cmp (keys (put es))
          → IsStrictlySortedBy dated_cmp (keys (match_ordering o ((k, line) ∷ e ∷ es) ((e.0, line) ∷ es) (e ∷ put es)))
      by Less p rest = ((p, all_above e.0 (keys es) p s.0), s)
      by Equal p rest = s
      by Greater p rest = (below e.0 es (dated_total.antisymm e.0 k ∙ ap ordering_reverse p) s.0, rest)

-- ---- all entries, each put in its place

-- no two of the entries have one id, and none has the id of one that is placed
abbrev AreApart : List Entry → List Entry → Type 0
AreApart [] done = Unit {0}
AreApart (e ∷ es) done = Apart e.0.1 done × Apart e.0.1 es × AreApart es done

apart_put : (e : Entry) (es done : List Entry) → Apart e.0.1 done → Apart e.0.1 es → AreApart es done → AreApart es (put e.0 e.1 done)
apart_put e [] done h k a = tt
apart_put e (f ∷ es) done h k a =
    (put_all e.0 e.1 (λ x. eq_by_cmp text_cmp f.0.1 x.0.1 ≡ false) done h ((eq_by_cmp_equiv text_total).symm f.0.1 e.0.1 ∙ k.0) a.0, a.1, apart_put e es done h k.1 a.2)

placed_all : (P : Entry → Type 0) (es done : List Entry) → AreApart es done → AllByRecursion P es → AllByRecursion P done → AllByRecursion P (placed es done)
placed_all P [] done a h k = k
placed_all P (e ∷ es) done a h k = placed_all P es (put e.0 e.1 done) (apart_put e es done a.0 a.1 a.2) h.1 (put_all e.0 e.1 P done a.0 h.0 k)

placed_has : (es done : List Entry) → AreApart es done → AllByRecursion (λ x. Contains (placed es done) x) done × AllByRecursion (λ x. Contains (placed es done) x) es
placed_has [] done a = (others_in (0, []) [] done, tt)
placed_has (e ∷ es) done a =
    let more : List Entry = put e.0 e.1 done in
    let rest = placed_has es more (apart_put e es done a.0 a.1 a.2) in
    let found : (x : Entry) → Contains more x → Contains (placed es more) x = all_of (λ x. Contains (placed es more) x) more rest.0 in
    (all_weaker (λ x. Contains more x) (λ x. Contains (placed es more) x) found done (put_keeps e.0 e.1 done a.0), (found e (put_there e.0 e.1 done a.0), rest.1))

placed_sorted : (es done : List Entry) → IsStrictlySortedBy dated_cmp (map (λ (e : Entry). e.0) done) → IsStrictlySortedBy dated_cmp (map (λ (e : Entry). e.0) (placed es done))
placed_sorted [] done s = s
placed_sorted (e ∷ es) done s = placed_sorted es (put e.0 e.1 done) (put_sorted e.0 e.1 done s)

-- ---- the entries of transactions

module _ (rows : Rows) (account : Text) where
  abbrev entries : List Text → List Entry
  entries ids = flat_map (entry_of rows) ids

  -- behind an entry that there may be
  one_apart : (q id : Text) (o : Option TxRow) (es : List Entry) → eq_by_cmp text_cmp q id ≡ false → Apart q es → Apart q (entry_of_row rows id o ++ es)
  one_apart q id None es h k = k
  one_apart q id (Some x) es h k = by (is_live_tx rows x)
    where
      by : (b : Bool) → Apart q (cond b (((day_or_first x.date, id), register_line rows id x) ∷ []) [] ++ es)
      by true = (h, k)
      by false = k

  or_first : (a b : Bool) → (a || b) ≡ false → (a ≡ false) × (b ≡ false)
  or_first true b h = absurd (cc)
  or_first false b h = (refl, h)

  entries_apart : (q : Text) (ids : List Text) → is_among text_cmp ids q ≡ false → Apart q (entries ids)
  entries_apart q [] h = tt
  entries_apart q (id ∷ ids) h =
      let both = or_first (eq_by_cmp text_cmp q id) (is_among text_cmp ids q) h in one_apart q id (fin.get rows.txs id) (entries ids) both.0 (entries_apart q ids both.1)

  one_more : (id : Text) (o : Option TxRow) (es : List Entry) → Apart id es → AreApart es [] → AreApart (entry_of_row rows id o ++ es) []
  one_more id None es h k = k
  one_more id (Some x) es h k = by (is_live_tx rows x)
    where
      by : (b : Bool) → AreApart (cond b (((day_or_first x.date, id), register_line rows id x) ∷ []) [] ++ es) []
      by true = (tt, h, k)
      by false = k

  all_apart : (ids : List Text) → AreDistinct text_cmp ids → AreApart (entries ids) []
  all_apart [] h = tt
  all_apart (id ∷ ids) h = one_more id (fin.get rows.txs id) (entries ids) (entries_apart id ids h.0) (all_apart ids h.1)

  -- each is that of a live transaction of the account
  one_is : (id : Text) (o : Option TxRow) (es : List Entry) → fin.get rows.txs id ≡ o → some_and (is_in_account account) o ≡ true → AllByRecursion (IsRegistered rows account) es
      → AllByRecursion (IsRegistered rows account) (entry_of_row rows id o ++ es)
  one_is id None es e h all = all
  one_is id (Some x) es e h all = by (is_live_tx rows x) refl
    where
      by : (b : Bool) → is_live_tx rows x ≡ b → AllByRecursion (IsRegistered rows account) (cond b (((day_or_first x.date, id), register_line rows id x) ∷ []) [] ++ es)
      by true p = (record { row = x; there = e; of_account = h; live = p; day = refl; line = refl }, all)
      by false p = all

  all_are : (ids : List Text) → ((q : Text) → is_among text_cmp ids q ≡ true → some_and (is_in_account account) (fin.get rows.txs q) ≡ true) → AllByRecursion (IsRegistered rows account) (entries ids)
  all_are [] h = tt
  all_are (id ∷ ids) h =
      one_is id (fin.get rows.txs id) (entries ids) refl (h id (or_left (eq_by_cmp text_cmp id id) (is_among text_cmp ids id) (itself id)))
      (all_are ids (λ q e. h q (or_right (eq_by_cmp text_cmp q id) (is_among text_cmp ids q) e)))

  -- and each such transaction has its entry
  behind_one : (xs ys : List Entry) (e : Entry) → Contains ys e → Contains (xs ++ ys) e
  behind_one [] ys e c = c
  behind_one (x ∷ xs) ys e c = there x (xs ++ ys) e (behind_one xs ys e c)

  its_own : (e : Entry) (id : Text) (es : List Entry) → e.0.1 ≡ id → IsRegistered rows account e → Contains (entry_of rows id ++ es) e
  its_own e id es same is =
      let P : Text → Type 0 = λ q. Contains (entry_of rows q ++ es) e in
      subst P same
      (subst (λ (o : Option TxRow). Contains (entry_of_row rows e.0.1 o ++ es) e) (sym is.there)
      (subst (λ (b : Bool). Contains (cond b (((day_or_first is.row.date, e.0.1), register_line rows e.0.1 is.row) ∷ []) [] ++ es) e) (sym is.live)
      (subst (λ (d : ℕ). Contains (((d, e.0.1), register_line rows e.0.1 is.row) ∷ es) e) is.day
      (subst (λ (t : Text). Contains (((e.0.0, e.0.1), t) ∷ es) e) is.line (here e es)))))

  has_entry : (e : Entry) (ids : List Text) → IsRegistered rows account e → is_among text_cmp ids e.0.1 ≡ true → Contains (entries ids) e
  has_entry e [] is h = absurd (cc)
  has_entry e (id ∷ ids) is h =
      or_either (eq_by_cmp text_cmp e.0.1 id) (is_among text_cmp ids e.0.1) h
      (λ first. its_own e id (entries ids) (same_texts e.0.1 id first) is)
      (λ later. behind_one (entry_of rows id) (entries ids) e (has_entry e ids is later))

  pub is_register : IsRegister rows account (register_of rows account)
  unfolding IsStrictlySortedBy
  is_register =
      let ids : List Text = account_txs rows account in
      let of_map : (q : Text) → is_among text_cmp ids q ≡ some_and (is_in_account account) (fin.get rows.txs q) = among-keys_where text_total text_same (is_in_account account) rows.txs in
      let apart : AreApart (entries ids) [] = all_apart ids (distinct-keys_where text_total text_same (is_in_account account) rows.txs) in
      record {
        in_order = placed_sorted (entries ids) [] tt;
        exactly = λ e. (
          all_of (IsRegistered rows account) (register_of rows account) (placed_all (IsRegistered rows account) (entries ids) [] apart (all_are ids (λ q h. sym (of_map q) ∙ h)) tt) e,
          λ is.
              let among : is_among text_cmp ids e.0.1 ≡ true = of_map e.0.1 ∙ ap (some_and (is_in_account account)) is.there ∙ is.of_account in
              all_of (λ x. Contains (register_of rows account) x) (entries ids) (placed_has (entries ids) [] apart).1 e (has_entry e ids is among),
        );
      }
