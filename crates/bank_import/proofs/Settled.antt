-- What records make of the rows that their first import left: what they made before, with the payees that it made.
use Rattle.std.proofs.Common.{◌≡◌, ℕ, zero, suc, ◌+◌, ◌<◌, ◌≤◌, Bool, true, false, cond, List, [], ◌∷◌, length, Option, Some, None, refl, sym, ap, ◌∙◌, inl, inr, ◌⊎◌, ⊎_elim, subst, arith}
use Rattle.std.specs.Prelude.{◌||◌, not, is_some}
use Rattle.std.specs.Option.{option_map, option_and_then}
use Rattle.std.specs.List.{slice_get}
use Rattle.std.specs.FinMap.{get, entries}
use Rattle.std.specs.declared.cmp.Ordering.TheVariants.{Less}
use Rattle.std.proofs.lemmas.Bool.{eq-eqb}
use Rattle.finite_sums.specs.Maps.{Text, text_cmp, some_and}
use Rattle.book_rows.specs.declared.rows.Rows.{Rows}
use Rattle.book_rows.specs.declared.rows.TxRow.{TxRow}
use Rattle.book_rows.specs.declared.rows.PayeeRow.{PayeeRow}
use Rattle.book_rows.specs.declared.write.WriteValue.TheVariants.{IdOf}
use Rattle.book_rows.specs.declared.write.Write.{Write}
use Rattle.book_edits.specs.Checks.{same_id, least_where}
use Rattle.split_transfer.specs.After.{Ids, with_writes, makes}
use Rattle.split_transfer.proofs.After.{with_writes-append}
use Rattle.split_transfer.proofs.Basics.{or_left, or_right}
use Rattle.rule_engine.specs.declared.rule.Action.{Action}
use Rattle.rule_engine.specs.declared.rule.Action.TheVariants.{SetDescription}
use Rattle.rule_engine.specs.declared.rule.Rule.{Rule}
use Rattle.rule_engine.specs.Conditions.{folded}
use Rattle.rule_engine.specs.Running.{run, rules_of}
use Rattle.bank_import.specs.declared.entry.Entry.{Entry}
use Rattle.bank_import.specs.declared.drafts.Draft.{Draft}
use Rattle.bank_import.specs.Laws.{IsIn}
use Rattle.bank_import.specs.Second.{or_else}
use Rattle.bank_import.specs.Matching.{matched}
use Rattle.bank_import.specs.Drafts.{is_called, payee_named, payee_of, new_tx, ruled, wanted_by, draft_of, place_of, new_names}
use Rattle.bank_import.specs.Edits.{payee_by, payee_value, payee_writes, records_writes, drafts_writes}
use Rattle.bank_import.specs.Rest.{drafts_in, rows_in_drafts}
use Rattle.bank_import.specs.Twice.{AreNew, LeavePayee, AskNothingNew, with_payee}
use Rattle.bank_import.proofs.Nearest.{id_same, id_itself}
use Rattle.bank_import.proofs.Mapped.{map_at, at_map}
use Rattle.bank_import.proofs.Again.{irreflexive}
use Rattle.bank_import.proofs.Least.{least_none, least_only, none_passes, same_least}
use Rattle.bank_import.proofs.Blocks.{pick}
use Rattle.bank_import.proofs.Places.{makes-first}
use Rattle.bank_import.proofs.Datasets.{SameElse, then_else, records_else, records_payees, payee_with, payees_only, payee_other, payee_made}
use Rattle.bank_import.proofs.NewNames.{place_name, names_once, names_found, names_first}
use Rattle.bank_import.proofs.Ruled.{SameFor, same_run}

no_some : {X P : Type 0} (x : X) → None ≡ Some x → P
no_some x h = absurd (clash h)
  where
    clash : None ≡ Some x → ⊥
    clash h = cc

some_is : {X : Type 0} (x y : X) → Some x ≡ Some y → x ≡ y
some_is x y h = cc

-- ---- lists

below : {X : Type 0} (xs : List X) (k : ℕ) (x : X) → slice_get xs k ≡ Some x → k < length xs
below [] k x h = no_some x h
below (y ∷ xs) zero x h = omega arith
below (y ∷ xs) (suc k) x h = let l = below xs k x h in omega (arith, l)

-- each new payee is made by the write at its place
payee_makes : (names : List Text) (at k : ℕ) → k < length names → makes (payee_writes at names) (at + k) ≡ true
payee_makes [] at k l = absurd (omega arith)
payee_makes (name ∷ names) at zero l = or_left _ _ (eq-eqb at (at + 0) (omega arith))
payee_makes (name ∷ names) at (suc k) l = or_right _ _ (ap (makes (payee_writes (at + 1) names)) (let e : at + suc k ≡ at + 1 + k = omega arith in e) ∙ payee_makes names (at + 1) k (omega arith))

-- an id is that of a new payee, or of none
abbrev IsIdOrNone : Ids → Text → List Text → ℕ → Type 0
IsIdOrNone ids q names at = ((k : ℕ) × (name : Text) × (slice_get names k ≡ Some name) × (q ≡ ids (at + k))) ⊎ ((k : ℕ) → k < length names → q ≡ ids (at + k) → ⊥)

find_id : (ids : Ids) (names : List Text) (at : ℕ) (q : Text) → IsIdOrNone ids q names at
find_id ids [] at q = inr (λ k l e. absurd (omega arith))
find_id ids (name ∷ names) at q = by (same_id q (ids at)) refl (find_id ids names (at + 1) q)
  where
    by : (b : Bool) → same_id q (ids at) ≡ b → IsIdOrNone ids q names (at + 1) → IsIdOrNone ids q (name ∷ names) at
    by true e r = inl (zero, name, refl, id_same q (ids at) e ∙ ap ids (let g : at ≡ at + 0 = omega arith in g))
    by false e r = ⊎_elim (λ w. inl (suc w.0, w.1, w.2, w.3 ∙ ap ids (let g : at + 1 + w.0 ≡ at + suc w.0 = omega arith in g))) (λ n. inr (neither n)) r
      where
        neither : ((k : ℕ) → k < length names → q ≡ ids (at + 1 + k) → ⊥) → (k : ℕ) → k < suc (length names) → q ≡ ids (at + k) → ⊥
        neither n zero l g =
            let same : q ≡ ids at = g ∙ ap ids (let t : at + 0 ≡ at = omega arith in t) in
            let bad : true ≡ false = sym (ap (λ t. same_id t (ids at)) same ∙ id_itself (ids at)) ∙ e in cc
        neither n (suc k) l g = n k (omega arith) (g ∙ ap ids (let t : at + suc k ≡ at + 1 + k = omega arith in t))

-- ---- what a record wants

-- a payee that is wanted is not there, and rules gave none
record IsWant (found : Bool) (o name : Option Text) (n : Text) : Type 0 where
  named : name ≡ Some n
  not_found : found ≡ false
  none : o ≡ None

want_is : (found : Bool) (o name : Option Text) (n : Text) → cond (found || is_some o) None name ≡ Some n → IsWant found o name n
want_is true o name n h = no_some n h
want_is false None name n h = record { named = h; not_found = refl; none = refl }
want_is false (Some y) name n h = no_some n h

none_is : (o : Option Text) → is_some o ≡ false → o ≡ None
none_is None h = refl
none_is (Some x) h = cc

wants : (rows : Rows) (account : Text) (e : Entry) (n : Text) → (draft_of rows account e).wanted ≡ Some n → (e.payee ≡ Some n) × (payee_named rows n ≡ None) × ((draft_of rows account e).row.description ≡ None)
unfolding draft_of
wants rows account e n h =
    let w = want_is (is_some (payee_of rows e)) (ruled rows account e).description e.payee n h in
    (w.named, sym (ap (option_and_then (payee_named rows)) w.named) ∙ none_is (payee_of rows e) w.not_found, w.none)

-- the payee that the first import gives a record
abbrev pub given : Ids → List Text → Draft → Option Text
given ids names d = pick ids None (payee_value names d)

-- what it made, with that payee
abbrev pub settled : Ids → List Text → Draft → TxRow
settled ids names d = record d.row { description = given ids names d }

abbrev draft : TxRow → Option Text → Draft
draft x w = record { row = x; wanted = w }

same_draft : (x y : TxRow) (v w : Option Text) → x ≡ y → v ≡ w → draft x v ≡ draft y w
same_draft x y v w e f = ap (λ z. draft z v) e ∙ ap (draft y) f

plain_given : (ids : Ids) (names : List Text) (own : Option Text) → pick ids None (payee_by names None own) ≡ own
plain_given ids names None = refl
plain_given ids names (Some y) = refl

nothing_wanted : (b : Bool) → ◌≡◌ {A = Option Text} (cond b None None) None
nothing_wanted true = refl
nothing_wanted false = refl

-- a name that is wanted is that of no payee
pub wanted_at : (rows : Rows) (account : Text) (es : List Entry) (k : ℕ) (name : Text) → slice_get (new_names (drafts_in rows account es)) k ≡ Some name → payee_named rows name ≡ None
wanted_at rows account es k name h =
    let w = names_first (drafts_in rows account es) k name h in
    let e = map_at (draft_of rows account) es w.0 w.1.draft w.1.at in
    (wants rows account e.0 name (ap (λ (d : Draft). d.wanted) e.2 ∙ w.1.wants)).1

module _ (ids : Ids) (rows : Rows) (account : Text) (es : List Entry) where
  abbrev pub ds : List Draft
  ds = drafts_in rows account es

  abbrev pub names : List Text
  names = new_names ds

  abbrev pub ms : List (Option Text)
  ms = matched rows account (rows_in_drafts ds)

  abbrev pub ws : List Write
  ws = drafts_writes rows account ds

  -- the rows with the new payees, and with all that is written
  abbrev pub mid : Rows
  mid = with_writes ids rows (payee_writes 0 names)

  abbrev pub later : Rows
  later = with_writes ids rows ws

  abbrev pub rest : List Write
  rest = records_writes rows names (length names) ds ms

  pub later_is : later ≡ with_writes ids mid rest
  later_is = with_writes-append ids rows (payee_writes 0 names) rest

  pub later_else : SameElse rows later
  later_else = subst (λ s. SameElse rows s) (sym later_is)
      (then_else rows mid (with_writes ids mid rest) (payees_only ids names 0 rows).kept (records_else rows names ids mid (length names) ds ms))

  later_payees : later.payees ≡ mid.payees
  later_payees = ap (λ (s : Rows). s.payees) later_is ∙ records_payees rows names ids mid (length names) ds ms

  name_makes : (k : ℕ) → k < length names → makes ws k ≡ true
  name_makes k l = makes-first (payee_writes 0 names) rest k (ap (makes (payee_writes 0 names)) (let e : k ≡ 0 + k = omega arith in e) ∙ payee_makes names 0 k l)

  module _ (new : AreNew ids rows ws) where
    apart : (a b : ℕ) → 0 ≤ a → a < b → b < 0 + length names → ids a ≡ ids b → ⊥
    apart a b o l m e =
        irreflexive (ids b) (subst (λ (t : Text). text_cmp t (ids b) ≡ Less) e (new.rise a b l (name_makes a (omega arith)) (name_makes b (omega arith))))

    -- a new payee stands under the id of its place
    absent_at : (k : ℕ) (name : Text) → slice_get names k ≡ Some name → get rows.payees (ids (0 + k)) ≡ None
    absent_at k name h = ap (λ j. get rows.payees (ids j)) (let e : 0 + k ≡ k = omega arith in e) ∙ new.payees k (name_makes k (below names k name h))

    made_mid : (k : ℕ) (name : Text) → slice_get names k ≡ Some name → get mid.payees (ids k) ≡ Some (payee_with (ids k) name)
    made_mid k name h =
        subst (λ (j : ℕ). get mid.payees (ids j) ≡ Some (payee_with (ids j) name)) (let e : 0 + k ≡ k = omega arith in e) (payee_made ids names 0 rows k name h apart (absent_at k name h))

    made_there : (k : ℕ) (name : Text) → slice_get names k ≡ Some name → get later.payees (ids k) ≡ Some (payee_with (ids k) name)
    made_there k name h = ap (λ m. get m (ids k)) later_payees ∙ made_mid k name h

    -- a payee was there, or is new
    record IsNewPayee (q : Text) : Type 0 where
      k : ℕ
      name : Text
      there : slice_get names k ≡ Some name
      is : q ≡ ids k
      was : get rows.payees q ≡ None
      now : get later.payees q ≡ Some (payee_with q name)

    is_new : (q : Text) (k : ℕ) (name : Text) → slice_get names k ≡ Some name → q ≡ ids k → IsNewPayee q
    is_new q k name h is = record {
      k = k;
      name = name;
      there = h;
      is = is;
      was = ap (get rows.payees) is ∙ new.payees k (name_makes k (below names k name h));
      now = subst (λ (t : Text). get later.payees t ≡ Some (payee_with t name)) (sym is) (made_there k name h);
    }

    payee_cases : (q : Text) → (get later.payees q ≡ get rows.payees q) ⊎ IsNewPayee q
    payee_cases q = ⊎_elim
        (λ w. inr (is_new q w.0 w.1 w.2 (w.3 ∙ ap ids (let e : 0 + w.0 ≡ w.0 = omega arith in e))))
        (λ n. inl (ap (λ m. get m q) later_payees ∙ payee_other ids names 0 rows q n))
        (find_id ids names 0 q)

    called : (k : Text) (q name : Text) → is_called k (payee_with q name) ≡ true → folded name ≡ k
    called k q name h = id_same (folded name) k h

    -- a payee that was found is found again
    found_again : (name p : Text) → payee_named rows name ≡ Some p → payee_named later name ≡ Some p
    found_again name p h = same_least (is_called (folded name)) later.payees rows.payees (λ q. ⊎_elim (λ e. ap (some_and (is_called (folded name))) e) (λ w. other q w) (payee_cases q)) ∙ h
      where
        other : (q : Text) → IsNewPayee q → some_and (is_called (folded name)) (get later.payees q) ≡ some_and (is_called (folded name)) (get rows.payees q)
        other q w = ap (some_and (is_called (folded name))) w.now ∙ by (is_called (folded name) (payee_with q w.name)) refl ∙ sym (ap (some_and (is_called (folded name))) w.was)
          where
            by : (b : Bool) → is_called (folded name) (payee_with q w.name) ≡ b → b ≡ false
            by false e = refl
            by true e =
                let same : folded w.name ≡ folded name = called (folded name) q w.name e in
                no_some p (sym (wanted_at rows account es w.k w.name w.there) ∙ ap (λ t. least_where (is_called t) (entries rows.payees)) same ∙ h)

    -- one that is called so has the place of the name
    place_called : (key q : Text) (x : PayeeRow) (w : IsNewPayee q) → get later.payees q ≡ Some x → is_called key x ≡ true → place_of names key ≡ Some w.k
    place_called key q x w now pass =
        ap (place_of names) (sym (called key q w.name (ap (is_called key) (some_is (payee_with q w.name) x (sym w.now ∙ now)) ∙ pass))) ∙ names_once ds w.k w.name w.there

    -- one that is made is found
    made_found : (name : Text) (k : ℕ) → payee_named rows name ≡ None → place_of names (folded name) ≡ Some k → payee_named later name ≡ Some (ids k)
    made_found name k none h =
        let n = place_name names (folded name) k h in
        least_only (is_called (folded name)) later.payees (ids k) (payee_with (ids k) n.0) (made_there k n.0 n.1) (ap (λ t. same_id t (folded name)) n.2 ∙ id_itself (folded name)) only
      where
        only : (q : Text) (x : PayeeRow) → get later.payees q ≡ Some x → is_called (folded name) x ≡ true → q ≡ ids k
        only q x now pass = ⊎_elim
            (λ e. absurd (none_passes (is_called (folded name)) rows.payees none q x (sym e ∙ now) pass))
            (λ w. w.is ∙ ap ids (some_is w.k k (sym (place_called (folded name) q x w now pass) ∙ h)))
            (payee_cases q)

    -- and one that is not made is not found
    still_none : (name : Text) → payee_named rows name ≡ None → place_of names (folded name) ≡ None → payee_named later name ≡ None
    still_none name none h = least_none (is_called (folded name)) later.payees never
      where
        never : (q : Text) (x : PayeeRow) → get later.payees q ≡ Some x → is_called (folded name) x ≡ true → ⊥
        never q x now pass = ⊎_elim
            (λ e. none_passes (is_called (folded name)) rows.payees none q x (sym e ∙ now) pass)
            (λ w. no_some w.k (sym h ∙ place_called (folded name) q x w now pass))
            (payee_cases q)

    -- ---- rules

    same_live : (rule : Rule) (a : Action) → IsIn (rules_of rows) rule → IsIn rule.actions a → SameFor rows later later_else a
    same_live rule a i j payee e = ⊎_elim
        (λ s. ap (some_and (λ (p : PayeeRow). not p.tombstone)) s)
        (λ w. absurd (new.ungiven w.k rule (name_makes w.k (below names w.k w.name w.there)) i (subst (λ (b : Action). IsIn rule.actions b) (e ∙ ap (λ t. SetDescription (Some t)) w.is) j)))
        (payee_cases payee)

    same_made : (payee : Option Text) (e : Entry) → run later (rules_of later) (new_tx account payee e) ≡ run rows (rules_of rows) (new_tx account payee e)
    same_made payee e = same_run rows later later_else (new_tx account payee e) refl same_live

    -- ---- drafts

    abbrev Settles : Entry → Type 0
    Settles e = draft_of later account e ≡ record { row = settled ids names (draft_of rows account e); wanted = None }

    abbrev first_wanted : Entry → Option Text
    first_wanted e = wanted_by (is_some (payee_of rows e)) (ruled rows account e) e.payee

    -- where rules make of it what they made before
    unchanged : (e : Entry) → payee_of later e ≡ payee_of rows e → (draft_of rows account e).wanted ≡ None → Settles e
    unfolding draft_of
    unchanged e same want =
        let x = ruled rows account e in
        let row : ruled later account e ≡ x = same_made (payee_of later e) e ∙ ap (λ o. run rows (rules_of rows) (new_tx account o e)) same in
        let own : x.description ≡ given ids names (draft_of rows account e) = sym (ap (λ w. pick ids None (payee_by names w x.description)) want ∙ plain_given ids names x.description) in
        let none : wanted_by (is_some (payee_of later e)) (ruled later account e) e.payee ≡ None =
        ap (λ o. wanted_by (is_some o) (ruled later account e) e.payee) same ∙ ap (λ (y : TxRow). wanted_by (is_some (payee_of rows e)) y e.payee) row ∙ want in
        same_draft (ruled later account e) (settled ids names (draft_of rows account e)) (wanted_by (is_some (payee_of later e)) (ruled later account e) e.payee) None
        (row ∙ ap (λ (o : Option Text). record x { description = o }) own) none

    made_given : (name : Text) (k : ℕ) → place_of names (folded name) ≡ Some k → (own : Option Text) → pick ids None (payee_by names (cond (false || is_some own) None (Some name)) own) ≡ or_else own (Some (ids k))
    made_given name k h None = ap (λ o. pick ids None (option_map (λ at. IdOf at) o)) h
    made_given name k h (Some y) = refl

    -- where its payee is made
    with_made : (e : Entry) (name : Text) (k : ℕ) → e.payee ≡ Some name → payee_named rows name ≡ None → place_of names (folded name) ≡ Some k → LeavePayee rows account e (ids k) → Settles e
    unfolding draft_of
    with_made e name k is none h asked =
        let x = ruled rows account e in
        let was : payee_of rows e ≡ None = ap (option_and_then (payee_named rows)) is ∙ none in
        let now : payee_of later e ≡ Some (ids k) = ap (option_and_then (payee_named later)) is ∙ made_found name k none h in
        let row : ruled later account e ≡ with_payee (ids k) x =
        same_made (payee_of later e) e ∙ ap (λ o. run rows (rules_of rows) (new_tx account o e)) now ∙ asked
        ∙ ap (λ o. with_payee (ids k) (run rows (rules_of rows) (new_tx account o e))) (sym was) in
        let own : or_else x.description (Some (ids k)) ≡ given ids names (draft_of rows account e) =
        sym (ap (λ o. pick ids None (payee_by names (wanted_by (is_some o) x e.payee) x.description)) was
        ∙ ap (λ o. pick ids None (payee_by names (wanted_by false x o) x.description)) is
        ∙ made_given name k h x.description) in
        let wanted : wanted_by (is_some (payee_of later e)) (ruled later account e) e.payee ≡ None = ap (λ o. wanted_by (is_some o) (ruled later account e) e.payee) now in
        same_draft (ruled later account e) (settled ids names (draft_of rows account e)) (wanted_by (is_some (payee_of later e)) (ruled later account e) e.payee) None
        (row ∙ ap (λ (o : Option Text). record x { description = o }) own) wanted

    want_none : (e : Entry) → first_wanted e ≡ None → (draft_of rows account e).wanted ≡ None
    unfolding draft_of
    want_none e h = h

    -- what a record makes of the rows after the import
    pub settles : AskNothingNew ids rows account es ws → (i : ℕ) (e : Entry) → slice_get es i ≡ Some e → Settles e
    settles asked i e a = by e.payee refl
      where
        without : (name : Text) → e.payee ≡ Some name → place_of names (folded name) ≡ None → (o : Option Text) → (draft_of rows account e).wanted ≡ o → (draft_of rows account e).wanted ≡ None
        without name is h None w = w
        without name is h (Some n) w =
            let same : n ≡ name = some_is n name (sym (wants rows account e n w).0 ∙ is) in
            let f = names_found ds i (draft_of rows account e) n (at_map (draft_of rows account) es i e a) w in
            no_some f.0 (sym h ∙ ap (λ t. place_of names (folded t)) (sym same) ∙ f.1)

        not_found : (name : Text) → e.payee ≡ Some name → payee_named rows name ≡ None → (o : Option ℕ) → place_of names (folded name) ≡ o → Settles e
        not_found name is none (Some k) h =
            let few : k < length names = (let n = place_name names (folded name) k h in below names k n.0 n.1) in
            with_made e name k is none h (asked i k e a (ap (option_and_then (payee_named rows)) is ∙ none) (name_makes k few))
        not_found name is none None h =
            unchanged e (ap (option_and_then (payee_named later)) is ∙ still_none name none h ∙ sym (ap (option_and_then (payee_named rows)) is ∙ none))
            (without name is h (draft_of rows account e).wanted refl)

        named : (name : Text) → e.payee ≡ Some name → (o : Option Text) → payee_named rows name ≡ o → Settles e
        named name is None h = not_found name is h (place_of names (folded name)) refl
        named name is (Some p) h =
            let was : payee_of rows e ≡ Some p = ap (option_and_then (payee_named rows)) is ∙ h in
            unchanged e (ap (option_and_then (payee_named later)) is ∙ found_again name p h ∙ sym was)
            (want_none e (ap (λ o. wanted_by (is_some o) (ruled rows account e) e.payee) was))

        by : (o : Option Text) → e.payee ≡ o → Settles e
        by None is =
            unchanged e (ap (option_and_then (payee_named later)) is ∙ sym (ap (option_and_then (payee_named rows)) is))
            (want_none e (ap (λ o. wanted_by (is_some (payee_of rows e)) (ruled rows account e) o) is ∙ nothing_wanted (is_some (payee_of rows e) || is_some (ruled rows account e).description)))
        by (Some name) is = named name is (payee_named rows name) refl
