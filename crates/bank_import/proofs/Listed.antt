-- The candidates of a book: the whole transactions of the account that are live, in the order of their ids.
use Rattle.std.proofs.Common.{◌≡◌, Bool, true, false, cond, List, [], ◌∷◌, Option, Some, None, refl, sym, ap, ◌∙◌, inl, inr, ◌⊎◌, ⊎_elim, subst}
use Rattle.std.specs.Prelude.{◌&&◌, ◌||◌, not, map as list_map}
use Rattle.std.specs.Option.{option_and_then}
use Rattle.std.specs.List.{AllByRecursion, filter, filter_map, cons_option}
use Rattle.std.specs.declared.cmp.Ordering.{Ordering}
use Rattle.std.specs.declared.cmp.Ordering.TheVariants.{Less, Equal, Greater}
use Rattle.std.specs.Ordering.{is_lt}
use Rattle.std.specs.FinMap.{get, entries, entries_sorted, is_sorted}
use Rattle.std.specs.FinMap.Entries.{below_all}
use Rattle.finite_sums.specs.Maps.{Text, text_cmp, some_and, keys_where, is_among}
use Rattle.finite_sums.proofs.MapSums.{both_true, so, among-keys_where}
use Rattle.finite_sums.proofs.Texts.{text_total, text_same}
use Rattle.book_rows.specs.declared.rows.Rows.{Rows}
use Rattle.book_rows.specs.declared.rows.TxRow.{TxRow}
use Rattle.book_rows.specs.Live.{is_live_tx, has_parent}
use Rattle.book_rows.specs.Parts.{is_text, is_in_account, account_txs}
use Rattle.book_edits.specs.Checks.{same_id}
use Rattle.split_transfer.specs.Pairs.{only_where}
use Rattle.bank_import.specs.declared.facts.Candidate.{Candidate}
use Rattle.bank_import.specs.Matching.{candidate_of, candidate_in, candidate_at, candidates}
use Rattle.bank_import.specs.Laws.{IsIn, AllAbove, Rising, IsWhole, LawOfCandidates}
use Rattle.bank_import.proofs.Nearest.{id_same, id_itself, not_true}

none_some : {X P : Type 0} (x : X) → None ≡ Some x → P
none_some x h = absurd (let bad : None ≡ Some x = h in cc)

some_is : {X : Type 0} (x y : X) → Some x ≡ Some y → x ≡ y
some_is x y e = ap (or_this x) e
  where
    or_this : {X : Type 0} → X → Option X → X
    or_this d None = d
    or_this d (Some x) = x

-- ---- one id

record IsAt (rows : Rows) (id : Text) (c : Candidate) : Type 0 where
  x : TxRow
  there : get rows.txs id ≡ Some x
  live : is_live_tx rows x ≡ true
  whole : x.is_child ≡ false
  is : candidate_of rows id x ≡ c

by_child : (rows : Rows) (id : Text) (c : Candidate) (x : TxRow) → get rows.txs id ≡ Some x → is_live_tx rows x ≡ true → (b : Bool) → x.is_child ≡ b → cond b None (Some (candidate_of rows id x)) ≡ Some c → IsAt rows id c
by_child rows id c x e l true w h = none_some c h
by_child rows id c x e l false w h = record { x = x; there = e; live = l; whole = w; is = some_is (candidate_of rows id x) c h }

by_live : (rows : Rows) (id : Text) (c : Candidate) (x : TxRow) → get rows.txs id ≡ Some x → (b : Bool) → is_live_tx rows x ≡ b → option_and_then (candidate_in rows id) (cond b (Some x) None) ≡ Some c → IsAt rows id c
by_live rows id c x e true l h = by_child rows id c x e l x.is_child refl h
by_live rows id c x e false l h = none_some c h

by_row : (rows : Rows) (id : Text) (c : Candidate) (o : Option TxRow) → get rows.txs id ≡ o → option_and_then (candidate_in rows id) (only_where (is_live_tx rows) o) ≡ Some c → IsAt rows id c
by_row rows id c None e h = none_some c h
by_row rows id c (Some x) e h = by_live rows id c x e (is_live_tx rows x) refl h

at : (rows : Rows) (id : Text) (c : Candidate) → candidate_at rows id ≡ Some c → IsAt rows id c
at rows id c h = by_row rows id c (get rows.txs id) refl h

found_at : (rows : Rows) (id : Text) (x : TxRow) → get rows.txs id ≡ Some x → is_live_tx rows x ≡ true → x.is_child ≡ false → candidate_at rows id ≡ Some (candidate_of rows id x)
found_at rows id x there live whole =
    ap (λ o. option_and_then (candidate_in rows id) (only_where (is_live_tx rows) o)) there
    ∙ ap (λ b. option_and_then (candidate_in rows id) (cond b (Some x) None)) live
    ∙ ap (λ b. cond b None (Some (candidate_of rows id x))) whole

own_id : (rows : Rows) (id : Text) (c : Candidate) → candidate_at rows id ≡ Some c → id ≡ c.id
own_id rows id c h = ap (λ (d : Candidate). d.id) (at rows id c h).is

-- ---- order

lt_is : (r : Ordering) → is_lt r ≡ true → r ≡ Less
lt_is Less h = refl
lt_is Equal h = absurd (let bad : false ≡ true = h in cc)
lt_is Greater h = absurd (let bad : false ≡ true = h in cc)

abbrev pub Below : Text → List Text → Type 0
Below k ks = AllByRecursion (λ q. text_cmp k q ≡ Less) ks

abbrev pub Up : List Text → Type 0
Up [] = Unit {0}
Up (k ∷ ks) = Below k ks × Up ks

one_below : (b : Bool) (k q : Text) (qs : List Text) → text_cmp k q ≡ Less → Below k qs → Below k (cond b (q ∷ qs) qs)
one_below true k q qs h r = (h, r)
one_below false k q qs h r = r

one_up : (b : Bool) (q : Text) (qs : List Text) → Below q qs → Up qs → Up (cond b (q ∷ qs) qs)
one_up true q qs h r = (h, r)
one_up false q qs h r = r

keyed : {X : Type 0} (b : Bool) (e : Text × X) (es : List (Text × X)) → cond b (e.0 ∷ list_map (λ e. e.0) es) (list_map (λ e. e.0) es) ≡ list_map (λ e. e.0) (cond b (e ∷ es) es)
keyed true e es = refl
keyed false e es = refl

module _ {X : Type 0} (p : X → Bool) where
  below_keys : (k : Text) (es : List (Text × X)) → below_all text_cmp k es ≡ true → Below k (keys_where p es)
  below_keys k [] h = tt
  below_keys k (e ∷ es) h =
      let parts = both_true _ _ h in
      subst (Below k) (keyed (p e.1) e (filter (λ e. p e.1) es)) (one_below (p e.1) k e.0 (keys_where p es) (lt_is (text_cmp k e.0) parts.0) (below_keys k es parts.1))

  pub up_keys : (es : List (Text × X)) → is_sorted text_cmp es ≡ true → Up (keys_where p es)
  up_keys [] h = tt
  up_keys (e ∷ es) h =
      let parts = both_true _ _ h in
      subst Up (keyed (p e.1) e (filter (λ e. p e.1) es)) (one_up (p e.1) e.0 (keys_where p es) (below_keys e.0 es parts.0) (up_keys es parts.1))

module _ (rows : Rows) where
  abbrev out : List Text → List Candidate
  out ks = filter_map (candidate_at rows) ks

  above_cons : (k q : Text) (o : Option Candidate) (cs : List Candidate) → candidate_at rows q ≡ o → text_cmp k q ≡ Less → AllAbove k cs → AllAbove k (cons_option o cs)
  above_cons k q None cs e h r = r
  above_cons k q (Some c) cs e h r = (subst (λ (x : Text). text_cmp k x ≡ Less) (own_id rows q c e) h, r)

  above_out : (k : Text) (ks : List Text) → Below k ks → AllAbove k (out ks)
  above_out k [] h = tt
  above_out k (q ∷ qs) h = above_cons k q (candidate_at rows q) (out qs) refl h.0 (above_out k qs h.1)

  up_cons : (q : Text) (o : Option Candidate) (cs : List Candidate) → candidate_at rows q ≡ o → AllAbove q cs → Rising cs → Rising (cons_option o cs)
  up_cons q None cs e h r = r
  up_cons q (Some c) cs e h r = (subst (λ (x : Text). AllAbove x cs) (own_id rows q c e) h, r)

  up_out : (ks : List Text) → Up ks → Rising (out ks)
  up_out [] h = tt
  up_out (q ∷ qs) h = up_cons q (candidate_at rows q) (out qs) refl (above_out q qs h.0) (up_out qs h.1)

  -- ---- which are candidates

  in_cons : (o : Option Candidate) (cs : List Candidate) (c : Candidate) → (o ≡ Some c) ⊎ IsIn cs c → IsIn (cons_option o cs) c
  in_cons None cs c h = ⊎_elim (λ e. none_some c e) (λ i. i) h
  in_cons (Some d) cs c h = ⊎_elim (λ e. inl (some_is d c e)) (λ i. inr i) h

  from_cons : (o : Option Candidate) (cs : List Candidate) (c : Candidate) → IsIn (cons_option o cs) c → (o ≡ Some c) ⊎ IsIn cs c
  from_cons None cs c h = inr h
  from_cons (Some d) cs c h = ⊎_elim (λ e. inl (ap Some e)) (λ i. inr i) h

  is_out : (ks : List Text) (k : Text) (c : Candidate) → is_among text_cmp ks k ≡ true → candidate_at rows k ≡ Some c → IsIn (out ks) c
  is_out [] k c h e = absurd (let bad : false ≡ true = h in cc)
  is_out (q ∷ qs) k c h e = in_cons (candidate_at rows q) (out qs) c (by (same_id k q) refl h (λ r. is_out qs k c r e))
    where
      by : (b : Bool) → same_id k q ≡ b → (b || is_among text_cmp qs k) ≡ true → (is_among text_cmp qs k ≡ true → IsIn (out qs) c) → (candidate_at rows q ≡ Some c) ⊎ IsIn (out qs) c
      by true s g r = inl (ap (candidate_at rows) (sym (id_same k q s)) ∙ e)
      by false s g r = inr (r g)

  record Was (ks : List Text) (c : Candidate) : Type 0 where
    key : Text
    among : is_among text_cmp ks key ≡ true
    made : candidate_at rows key ≡ Some c

  later : (q : Text) (qs : List Text) (c : Candidate) → Was qs c → Was (q ∷ qs) c
  later q qs c w = record { key = w.key; among = by (same_id w.key q) w.among; made = w.made }
    where
      by : (b : Bool) → is_among text_cmp qs w.key ≡ true → (b || is_among text_cmp qs w.key) ≡ true
      by true h = refl
      by false h = h

  was_in : (ks : List Text) (c : Candidate) → IsIn (out ks) c → Was ks c
  was_in [] c h = absurd h
  was_in (q ∷ qs) c h =
      ⊎_elim (λ e. record { key = q; among = ap (λ b. b || is_among text_cmp qs q) (id_itself q); made = e }) (λ i. later q qs c (was_in qs c i))
      (from_cons (candidate_at rows q) (out qs) c h)

  module _ (account : Text) where
    among : (q : Text) → is_among text_cmp (account_txs rows account) q ≡ some_and (is_in_account account) (get rows.txs q)
    among q = among-keys_where text_total text_same (is_in_account account) rows.txs q

    is_here : (o : Option Text) → is_text account o ≡ true → o ≡ Some account
    is_here None h = absurd (let bad : false ≡ true = h in cc)
    is_here (Some a) h = ap Some (id_same a account h)

    forth : (c : Candidate) → IsIn (out (account_txs rows account)) c → (x : TxRow) × IsWhole rows account c.id x × (c ≡ candidate_of rows c.id x)
    forth c h =
        let w = was_in (account_txs rows account) c h in
        let a = at rows w.key c w.made in
        let own : w.key ≡ c.id = own_id rows w.key c w.made in
        let live = both_true _ _ a.live in
        let acct : a.x.acct ≡ Some account = is_here a.x.acct (sym (ap (some_and (is_in_account account)) a.there) ∙ sym (among w.key) ∙ w.among) in
        (a.x, record { there = ap (get rows.txs) (sym own) ∙ a.there; here = acct; kept = not_true a.x.tombstone live.0; whole = a.whole }, sym a.is ∙ ap (λ id. candidate_of rows id a.x) own)

    back : (c : Candidate) → ((x : TxRow) × IsWhole rows account c.id x × (c ≡ candidate_of rows c.id x)) → IsIn (out (account_txs rows account)) c
    back c h =
        let x = h.0 in
        let w = h.1 in
        let parent : has_parent rows x ≡ true = ap (λ b. cond b (some_and (λ p. some_and (λ row. not row.tombstone) (get rows.txs p)) x.parent_id) true) w.whole in
        let live : is_live_tx rows x ≡ true = ap (λ b. not b && has_parent rows x) w.kept ∙ parent in
        is_out (account_txs rows account) c.id c
        (among c.id ∙ ap (some_and (is_in_account account)) w.there ∙ ap (is_text account) w.here ∙ id_itself account)
        (found_at rows c.id x w.there live w.whole ∙ ap Some (sym h.2))

pub law_of_candidates : LawOfCandidates
unfolding candidates
law_of_candidates = record {
  rise = λ rows account. up_out rows (account_txs rows account) (up_keys (is_in_account account) (entries rows.txs) (so _ (entries_sorted rows.txs)));
  told = λ rows account c. (forth rows account c, back rows account c);
}
