-- What running the rules on transactions leaves.
use Rattle.std.proofs.Common.{◌≡◌, ℕ, zero, suc, ◌<◌, Bool, true, false, cond, List, [], ◌∷◌, ◌++◌, filter, length, get_or, Option, Some, None, Ok, Err, inl, inr, refl, sym, ap, ◌∙◌, subst, arith, codes}
use Rattle.std.specs.Prelude.{◌≢◌, ◌⊎◌, ◌&&◌, ◌||◌, not, flat_map, option_map, unwrap_or}
use Rattle.std.specs.List.{AllByRecursion, Contains, fold}
use Rattle.std.proofs.lemmas.List.Elements.{Contains-append_cases}
use Rattle.std.specs.FinMap.{get}
use Rattle.field_values.specs.declared.value.Value.{Value}
use Rattle.finite_sums.specs.Maps.{Text, text_cmp, is_among, AreDistinct}
use Rattle.book_rows.specs.declared.rows.Rows.{Rows}
use Rattle.book_rows.specs.declared.rows.TxRow.{TxRow}
use Rattle.book_rows.specs.declared.write.RowName.TheVariants.{Given}
use Rattle.book_rows.specs.declared.write.WriteValue.TheVariants.{Plain}
use Rattle.book_rows.specs.declared.write.Write.{Write}
use Rattle.book_rows.specs.declared.fault.EditFault.TheVariants.{NoSuchTransaction}
use Rattle.book_rows.specs.Kinds.{text_of, flag_of}
use Rattle.book_rows.specs.Live.{is_live_tx, is_live_payee, is_live_category, is_alive}
use Rattle.book_edits.specs.Faults.{◌>>=◌, Check, must, each}
use Rattle.book_edits.specs.Checks.{same_id, distinct}
use Rattle.book_edits.specs.Writing.{flag, text_or_null}
use Rattle.book_edits.proofs.Valid.{inside, passed, was_so}
use Rattle.split_transfer.specs.Pairs.{live_row}
use Rattle.split_transfer.specs.After.{Ids, with_writes}
use Rattle.split_transfer.specs.Writing.{tx_write}
use Rattle.split_transfer.proofs.Basics.{bool_cases, or_left, or_right, either, true_false, some_is, none_some, same_refl, same_is, not_same, is_other, holds_some}
use Rattle.split_transfer.proofs.Columns.{TxColumn, with_column, blank, named, Description, Category, Notes, Schedule, Cleared}
use Rattle.split_transfer.proofs.After.{get-with_write, with_writes-append}
use Rattle.rule_engine.specs.declared.rule.Action.{Action}
use Rattle.rule_engine.specs.declared.rule.Action.TheVariants.{SetDescription, SetCategory, SetNotes, SetCleared, PrependNotes, AppendNotes, LinkSchedule}
use Rattle.rule_engine.specs.declared.rule.Rule.{Rule}
use Rattle.rule_engine.specs.Conditions.{same_flag}
use Rattle.rule_engine.specs.Running.{if_given, takes_none, acted, applied, fires, run, rules_of}
use Rattle.rule_engine.specs.Edits.{same_text, changed, changes_of, changes, rules_run}
use Rattle.rule_laws.specs.Making.{with_changed, changing, IsChange, IdsAreTakenOnce, RulesMakeRows}

-- ---- the columns that rules change

acted_keeps : (rows : Rows) (x : TxRow) (a : Action) → acted rows x a ≡ with_changed x (acted rows x a)
unfolding acted
acted_keeps rows x (SetDescription payee) = by (if_given (is_live_payee rows) payee)
  where
    by : (b : Bool) → cond b (record x { description = payee }) x ≡ with_changed x (cond b (record x { description = payee }) x)
    by true = refl
    by false = refl
acted_keeps rows x (SetCategory category) = by (not (takes_none rows x) && if_given (is_live_category rows) category)
  where
    by : (b : Bool) → cond b (record x { category = category }) x ≡ with_changed x (cond b (record x { category = category }) x)
    by true = refl
    by false = refl
acted_keeps rows x (SetNotes text) = refl
acted_keeps rows x (SetCleared set) = refl
acted_keeps rows x (PrependNotes text) = refl
acted_keeps rows x (AppendNotes text) = refl
acted_keeps rows x (LinkSchedule id) = refl

both_keep : (x m n : TxRow) → m ≡ with_changed x m → n ≡ with_changed m n → n ≡ with_changed x n
both_keep x m n p q = q ∙ ap (λ y. with_changed y n) p

fold_keeps : {A : Type 0} (f : TxRow → A → TxRow) → ((x : TxRow) (a : A) → f x a ≡ with_changed x (f x a)) → (xs : List A) (x : TxRow) → fold f x xs ≡ with_changed x (fold f x xs)
fold_keeps f h [] x = refl
fold_keeps f h (a ∷ xs) x = both_keep x (f x a) (fold f (f x a) xs) (h x a) (fold_keeps f h xs (f x a))

applied_keeps : (rows : Rows) (x : TxRow) (r : Rule) → applied rows x r ≡ with_changed x (applied rows x r)
unfolding applied
applied_keeps rows x r = by (fires rows r x)
  where
    by : (b : Bool) → cond b (fold (acted rows) x r.actions) x ≡ with_changed x (cond b (fold (acted rows) x r.actions) x)
    by true = fold_keeps (acted rows) (acted_keeps rows) r.actions x
    by false = refl

run_keeps : (rows : Rows) (rules : List Rule) (x : TxRow) → run rows rules x ≡ with_changed x (run rows rules x)
unfolding run
run_keeps rows rules x = fold_keeps (applied rows) (applied_keeps rows) rules x

-- ---- values that are written and read

text_back : (t : Option Text) → text_of (text_or_null t) ≡ t
text_back None = refl
text_back (Some t) = refl

flag_back : (b : Bool) → flag_of (flag b) ≡ b
flag_back true = refl
flag_back false = refl

same_text_is : (a b : Option Text) → same_text a b ≡ true → a ≡ b
unfolding same_text
same_text_is None None h = refl
same_text_is None (Some b) h = cc
same_text_is (Some a) None h = cc
same_text_is (Some a) (Some b) h = ap (λ (t : Text). Some t) (same_is a b h)

is_same_text : (a b : Option Text) → a ≡ b → same_text a b ≡ true
unfolding same_text
is_same_text None None h = refl
is_same_text None (Some b) h = none_some b h
is_same_text (Some a) None h = none_some a (sym h)
is_same_text (Some a) (Some b) h = subst (λ (t : Text). same_id a t ≡ true) (some_is a b h) (same_refl a)

same_flag_is : (a b : Bool) → same_flag a b ≡ true → a ≡ b
unfolding same_flag
same_flag_is true true h = refl
same_flag_is true false h = cc
same_flag_is false true h = cc
same_flag_is false false h = refl

is_same_flag : (a b : Bool) → a ≡ b → same_flag a b ≡ true
unfolding same_flag
is_same_flag true true h = refl
is_same_flag true false h = cc
is_same_flag false true h = cc
is_same_flag false false h = refl

-- ---- the rows after the writes of one transaction

module _ (ids : Ids) where
  -- a value is written into a column, unless it stands there
  abbrev piece : Text → TxColumn → Value → Bool → List Write
  piece id c v b = cond b [] (named id c v ∷ [])

  at_piece : (r : Rows) (id : Text) (c : TxColumn) (v : Value) (b : Bool) (y : TxRow) → get r.txs id ≡ Some y → (b ≡ true → with_column c v y ≡ y) → get (with_writes ids r (piece id c v b)).txs id ≡ Some (with_column c v y)
  at_piece r id c v true y h same = h ∙ ap Some (sym (same refl))
  at_piece r id c v false y h same =
      get-with_write ids r (record { row = Given id; column = c; value = Plain v }) id
      ∙ ap (λ t. cond t (Some (with_column c v (unwrap_or (get r.txs id) (blank id)))) (get r.txs id)) (same_refl id)
      ∙ ap (λ o. Some (with_column c v (unwrap_or o (blank id)))) h

  off_piece : (r : Rows) (id : Text) (c : TxColumn) (v : Value) (b : Bool) (q : Text) → same_id q id ≡ false → get (with_writes ids r (piece id c v b)).txs q ≡ get r.txs q
  off_piece r id c v true q h = refl
  off_piece r id c v false q h =
      get-with_write ids r (record { row = Given id; column = c; value = Plain v }) q
      ∙ ap (λ t. cond t (Some (with_column c v (unwrap_or (get r.txs q) (blank q)))) (get r.txs q)) h

  -- five pieces, one after the other
  five : (r : Rows) (a b c d e : List Write) → with_writes ids r (a ++ b ++ c ++ d ++ e) ≡ with_writes ids (with_writes ids (with_writes ids (with_writes ids (with_writes ids r a) b) c) d) e
  five r a b c d e = simp (with_writes-append ids)

  module _ (r : Rows) (id : Text) (old new : TxRow) where
    abbrev payee : List Write
    payee = piece id Description (text_or_null new.description) (same_text old.description new.description)

    abbrev category : List Write
    category = piece id Category (text_or_null new.category) (same_text old.category new.category)

    abbrev notes : List Write
    notes = piece id Notes (text_or_null new.notes) (same_text old.notes new.notes)

    abbrev schedule : List Write
    schedule = piece id Schedule (text_or_null new.schedule) (same_text old.schedule new.schedule)

    abbrev cleared : List Write
    cleared = piece id Cleared (flag new.cleared) (same_flag old.cleared new.cleared)

    abbrev r1 : Rows
    r1 = with_writes ids r payee

    abbrev r2 : Rows
    r2 = with_writes ids r1 category

    abbrev r3 : Rows
    r3 = with_writes ids r2 notes

    abbrev r4 : Rows
    r4 = with_writes ids r3 schedule

    off_changed : (q : Text) → same_id q id ≡ false → get (with_writes ids r (changed id old new)).txs q ≡ get r.txs q
    off_changed q h =
        ap (λ m. get m.txs q) (five r payee category notes schedule cleared)
        ∙ off_piece r4 id Cleared (flag new.cleared) (same_flag old.cleared new.cleared) q h
        ∙ off_piece r3 id Schedule (text_or_null new.schedule) (same_text old.schedule new.schedule) q h
        ∙ off_piece r2 id Notes (text_or_null new.notes) (same_text old.notes new.notes) q h
        ∙ off_piece r1 id Category (text_or_null new.category) (same_text old.category new.category) q h
        ∙ off_piece r id Description (text_or_null new.description) (same_text old.description new.description) q h

    at_changed : get r.txs id ≡ Some old → new ≡ with_changed old new → get (with_writes ids r (changed id old new)).txs id ≡ Some new
    at_changed h keeps =
        let y1 : TxRow = record old { description = text_of (text_or_null new.description) } in
        let y2 : TxRow = record y1 { category = text_of (text_or_null new.category) } in
        let y3 : TxRow = record y2 { notes = text_of (text_or_null new.notes) } in
        let y4 : TxRow = record y3 { schedule = text_of (text_or_null new.schedule) } in
        let h1 = at_piece r id Description (text_or_null new.description) (same_text old.description new.description) old h
        (λ t. ap (λ o. record old { description = o }) (text_back new.description ∙ sym (same_text_is old.description new.description t))) in
        let h2 = at_piece r1 id Category (text_or_null new.category) (same_text old.category new.category) y1 h1
        (λ t. ap (λ o. record y1 { category = o }) (text_back new.category ∙ sym (same_text_is old.category new.category t))) in
        let h3 = at_piece r2 id Notes (text_or_null new.notes) (same_text old.notes new.notes) y2 h2
        (λ t. ap (λ o. record y2 { notes = o }) (text_back new.notes ∙ sym (same_text_is old.notes new.notes t))) in
        let h4 = at_piece r3 id Schedule (text_or_null new.schedule) (same_text old.schedule new.schedule) y3 h3
        (λ t. ap (λ o. record y3 { schedule = o }) (text_back new.schedule ∙ sym (same_text_is old.schedule new.schedule t))) in
        let h5 = at_piece r4 id Cleared (flag new.cleared) (same_flag old.cleared new.cleared) y4 h4
        (λ t. ap (λ o. record y4 { cleared = o }) (flag_back new.cleared ∙ sym (same_flag_is old.cleared new.cleared t))) in
        ap (λ m. get m.txs id) (five r payee category notes schedule cleared) ∙ h5 ∙ ap Some (is_new ∙ sym keeps)
      where
        is_new : record old { description = text_of (text_or_null new.description); category = text_of (text_or_null new.category); notes = text_of (text_or_null new.notes); schedule = text_of (text_or_null new.schedule); cleared = flag_of (flag new.cleared) } ≡ with_changed old new
        is_new =
            ap (λ o. record old { description = o; category = text_of (text_or_null new.category); notes = text_of (text_or_null new.notes); schedule = text_of (text_or_null new.schedule); cleared = flag_of (flag new.cleared) }) (text_back new.description)
            ∙ ap (λ o. record old { description = new.description; category = o; notes = text_of (text_or_null new.notes); schedule = text_of (text_or_null new.schedule); cleared = flag_of (flag new.cleared) }) (text_back new.category)
            ∙ ap (λ o. record old { description = new.description; category = new.category; notes = o; schedule = text_of (text_or_null new.schedule); cleared = flag_of (flag new.cleared) }) (text_back new.notes)
            ∙ ap (λ o. record old { description = new.description; category = new.category; notes = new.notes; schedule = o; cleared = flag_of (flag new.cleared) }) (text_back new.schedule)
            ∙ ap (λ o. record old { description = new.description; category = new.category; notes = new.notes; schedule = new.schedule; cleared = o }) (flag_back new.cleared)

-- ---- ids of which each is taken once

both_false : (a : Bool) → (a && false) ≡ false
both_false true = refl
both_false false = refl

sym_false : (a b : Text) → same_id a b ≡ false → same_id b a ≡ false
sym_false a b h = not_same b a (λ e. is_other a b h (sym e))

others_among : (id q : Text) (ds : List Text) → is_among text_cmp (filter (λ o. not (same_id id o)) ds) q ≡ (is_among text_cmp ds q && not (same_id id q))
others_among id q [] = refl
others_among id q (d ∷ ds) =
    bool_cases (same_id id d)
    (λ t.
    let same = same_is id d t in
    ap (λ b. is_among text_cmp (cond (not b) (d ∷ filter (λ o. not (same_id id o)) ds) (filter (λ o. not (same_id id o)) ds)) q) t
    ∙ others_among id q ds
    ∙ bool_cases (same_id q d)
    (λ u. let gone : same_id id q ≡ true = subst (λ (x : Text). same_id x q ≡ true) (same_is q d u ∙ sym same) (same_refl q) in
    ap (λ b. is_among text_cmp ds q && not b) gone ∙ both_false (is_among text_cmp ds q) ∙ sym (ap (λ b. (same_id q d || is_among text_cmp ds q) && not b) gone ∙ both_false (same_id q d || is_among text_cmp ds q)))
    (λ f. ap (λ b. (b || is_among text_cmp ds q) && not (same_id id q)) (sym f)))
    (λ f.
    ap (λ b. is_among text_cmp (cond (not b) (d ∷ filter (λ o. not (same_id id o)) ds) (filter (λ o. not (same_id id o)) ds)) q) f
    ∙ ap (λ b. same_id q d || b) (others_among id q ds)
    ∙ bool_cases (same_id q d)
    (λ u. let stays : same_id id q ≡ false = subst (λ (x : Text). same_id id x ≡ false) (sym (same_is q d u)) f in
    ap (λ b. b || (is_among text_cmp ds q && not (same_id id q))) u ∙ sym (ap (λ b. (same_id q d || is_among text_cmp ds q) && not b) stays ∙ ap (λ b. (b || is_among text_cmp ds q) && true) u))
    (λ g. ap (λ b. b || (is_among text_cmp ds q && not (same_id id q))) g ∙ sym (ap (λ b. (b || is_among text_cmp ds q) && not (same_id id q)) g)))

among_distinct : (named : List Text) (q : Text) → is_among text_cmp (distinct named) q ≡ is_among text_cmp named q
among_distinct [] q = refl
among_distinct (n ∷ ns) q =
    ap (λ b. same_id q n || b) (others_among n q (distinct ns))
    ∙ bool_cases (same_id q n)
    (λ t. ap (λ b. b || (is_among text_cmp (distinct ns) q && not (same_id n q))) t ∙ sym (ap (λ b. b || is_among text_cmp ns q) t))
    (λ f. ap (λ b. b || (is_among text_cmp (distinct ns) q && not (same_id n q))) f
    ∙ ap (λ b. is_among text_cmp (distinct ns) q && not b) (sym_false q n f) ∙ and_true (is_among text_cmp (distinct ns) q) ∙ among_distinct ns q
    ∙ sym (ap (λ b. b || is_among text_cmp ns q) f))
  where
    and_true : (a : Bool) → (a && true) ≡ a
    and_true true = refl
    and_true false = refl

-- no id comes by leaving some out
still_out : (p : Text → Bool) (q : Text) (ds : List Text) → is_among text_cmp ds q ≡ false → is_among text_cmp (filter p ds) q ≡ false
still_out p q [] h = refl
still_out p q (d ∷ ds) h =
    bool_cases (same_id q d)
    (λ t. true_false (same_id q d || is_among text_cmp ds q) (or_left (same_id q d) (is_among text_cmp ds q) t) h)
    (λ f.
    let rest = still_out p q ds (sym (ap (λ b. b || is_among text_cmp ds q) f) ∙ h) in
    elim (p d) as (λ b. is_among text_cmp (cond b (d ∷ filter p ds) (filter p ds)) q ≡ false) [ true ↦ ap (λ b. b || is_among text_cmp (filter p ds) q) f ∙ rest | false ↦ rest ])

still_distinct : (p : Text → Bool) (ds : List Text) → AreDistinct text_cmp ds → AreDistinct text_cmp (filter p ds)
still_distinct p [] h = tt
still_distinct p (d ∷ ds) h =
    elim (p d) as (λ b. AreDistinct text_cmp (cond b (d ∷ filter p ds) (filter p ds))) [ true ↦ (still_out p d ds h.0, still_distinct p ds h.1) | false ↦ still_distinct p ds h.1 ]

are_distinct : (named : List Text) → AreDistinct text_cmp (distinct named)
are_distinct [] = tt
are_distinct (n ∷ ns) = (
  others_among n n (distinct ns) ∙ ap (λ b. is_among text_cmp (distinct ns) n && not b) (same_refl n) ∙ both_false (is_among text_cmp (distinct ns) n),
  still_distinct (λ o. not (same_id n o)) (distinct ns) (are_distinct ns),
)

filter_behind : (p : Text → Bool) (xs : List Text) (y : Text) → filter p (xs ++ y ∷ []) ≡ filter p xs ++ cond (p y) (y ∷ []) []
filter_behind p [] y = refl
filter_behind p (x ∷ xs) y = elim (p x) as (λ b. cond b (x ∷ filter p (xs ++ y ∷ [])) (filter p (xs ++ y ∷ [])) ≡ cond b (x ∷ filter p xs) (filter p xs) ++ cond (p y) (y ∷ []) []) [ true ↦ ap (λ ys. x ∷ ys) (filter_behind p xs y) | false ↦ filter_behind p xs y ]

taken_behind : (named : List Text) (id : Text) → distinct (named ++ id ∷ []) ≡ distinct named ++ cond (is_among text_cmp named id) [] (id ∷ [])
taken_behind [] id = refl
taken_behind (n ∷ ns) id =
    ap (λ ds. n ∷ filter (λ o. not (same_id n o)) ds) (taken_behind ns id)
    ∙ bool_cases (is_among text_cmp ns id)
    (λ t. ap (λ b. n ∷ filter (λ o. not (same_id n o)) (distinct ns ++ cond b [] (id ∷ []))) t ∙ ap (λ ds. n ∷ filter (λ o. not (same_id n o)) ds) (append_none (distinct ns))
    ∙ sym (ap (λ b. (n ∷ filter (λ o. not (same_id n o)) (distinct ns)) ++ cond b [] (id ∷ [])) (or_right (same_id id n) (is_among text_cmp ns id) t) ∙ append_none (n ∷ filter (λ o. not (same_id n o)) (distinct ns))))
    (λ f. ap (λ b. n ∷ filter (λ o. not (same_id n o)) (distinct ns ++ cond b [] (id ∷ []))) f
    ∙ ap (λ ds. n ∷ ds) (filter_behind (λ o. not (same_id n o)) (distinct ns) id)
    ∙ bool_cases (same_id id n)
    (λ t. let same : same_id n id ≡ true = subst (λ (x : Text). same_id x id ≡ true) (same_is id n t) (same_refl id) in
    ap (λ b. n ∷ (filter (λ o. not (same_id n o)) (distinct ns) ++ cond (not b) (id ∷ []) [])) same
    ∙ sym (ap (λ b. n ∷ (filter (λ o. not (same_id n o)) (distinct ns) ++ cond (b || is_among text_cmp ns id) [] (id ∷ []))) t))
    (λ g. ap (λ b. n ∷ (filter (λ o. not (same_id n o)) (distinct ns) ++ cond (not b) (id ∷ []) [])) (sym_false id n g)
    ∙ sym (ap (λ b. n ∷ (filter (λ o. not (same_id n o)) (distinct ns) ++ cond (b || is_among text_cmp ns id) [] (id ∷ []))) g ∙ ap (λ b. n ∷ (filter (λ o. not (same_id n o)) (distinct ns) ++ cond b [] (id ∷ []))) f)))
  where
    append_none : (xs : List Text) → xs ++ [] ≡ xs
    append_none [] = refl
    append_none (x ∷ xs) = ap (λ ys. x ∷ ys) (append_none xs)

append_none : (xs : List Text) → xs ++ [] ≡ xs
append_none [] = refl
append_none (x ∷ xs) = ap (λ ys. x ∷ ys) (append_none xs)

pub taken_once : IdsAreTakenOnce
taken_once = record {
  none = refl;
  again = λ named id h. taken_behind named id ∙ ap (λ b. distinct named ++ cond b [] (id ∷ [])) h ∙ append_none (distinct named);
  new = λ named id h. taken_behind named id ∙ ap (λ b. distinct named ++ cond b [] (id ∷ [])) h;
}

-- ---- which runs are accepted

abbrev alive_check : Rows → Text → Check
alive_check rows id = must (is_alive rows id) (NoSuchTransaction id)

all_pass : (rows : Rows) (named : List Text) → AllByRecursion (λ id. is_alive rows id ≡ true) named → each (alive_check rows) named ≡ Ok tt
all_pass rows [] h = refl
all_pass rows (n ∷ ns) h = ap (λ b. cond b (Ok tt) (Err (NoSuchTransaction n)) >>= (λ u. each (alive_check rows) ns)) h.0 ∙ all_pass rows ns h.1

first_fails : (rows : Rows) (before after : List Text) (id : Text) → AllByRecursion (λ q. is_alive rows q ≡ true) before → is_alive rows id ≡ false → each (alive_check rows) (before ++ id ∷ after) ≡ Err (NoSuchTransaction id)
first_fails rows [] after id h dead = ap (λ b. cond b (Ok tt) (Err (NoSuchTransaction id)) >>= (λ u. each (alive_check rows) after)) dead
first_fails rows (n ∷ ns) after id h dead = ap (λ b. cond b (Ok tt) (Err (NoSuchTransaction n)) >>= (λ u. each (alive_check rows) (ns ++ id ∷ after))) h.0 ∙ first_fails rows ns after id h.1 dead

passed_alive : (rows : Rows) (named : List Text) (u : Unit {0}) (q : Text) → each (alive_check rows) named ≡ Ok u → is_among text_cmp named q ≡ true → is_alive rows q ≡ true
passed_alive rows [] u q h t = cc
passed_alive rows (n ∷ ns) u q h t =
    let p = passed (alive_check rows n) (λ v. each (alive_check rows) ns) u h in
    either (same_id q n) (is_among text_cmp ns q) t
    (λ same. subst (λ (x : Text). is_alive rows x ≡ true) (sym (same_is q n same)) (was_so (is_alive rows n) (NoSuchTransaction n) p.0 p.1))
    (λ more. passed_alive rows ns u q p.2 more)

-- a transaction that is alive, and its row
record IsThere (rows : Rows) (id : Text) : Type 0 where
  tx : TxRow
  there : get rows.txs id ≡ Some tx
  live : live_row rows id ≡ Some tx

alive_there : (rows : Rows) (id : Text) → is_alive rows id ≡ true → IsThere rows id
alive_there rows id h =
    let found = holds_some (is_live_tx rows) (get rows.txs id) h in
    record { tx = found.0; there = found.1; live = ap (only (is_live_tx rows)) found.1 ∙ ap (λ b. cond b (Some found.0) None) found.2 }
  where
    only : (TxRow → Bool) → Option TxRow → Option TxRow
    only p None = None
    only p (Some x) = cond (p x) (Some x) None

-- ---- the rows after all writes

module _ (ids : Ids) (rows : Rows) (rules : List Rule) where
  after_each : (ds : List Text) (r : Rows) → AreDistinct text_cmp ds → ((d : Text) → is_among text_cmp ds d ≡ true → (there : IsThere rows d) × (get r.txs d ≡ Some there.tx)) → (q : Text)
      → get (with_writes ids r (flat_map (changes rows rules) ds)).txs q ≡ cond (is_among text_cmp ds q) (option_map (run rows rules) (get r.txs q)) (get r.txs q)
  after_each [] r distinct there q = refl
  after_each (d ∷ ds) r distinct there q =
      ap (λ m. get m.txs q) (with_writes-append ids r (changes rows rules d) (flat_map (changes rows rules) ds))
      ∙ ap (λ ws. get (with_writes ids (with_writes ids r ws) (flat_map (changes rows rules) ds)).txs q) one
      ∙ after_each ds s distinct.1 still q
      ∙ bool_cases (same_id q d) at off
    where
      own : (there : IsThere rows d) × (get r.txs d ≡ Some there.tx)
      own = there d (or_left (same_id d d) (is_among text_cmp ds d) (same_refl d))

      x : TxRow
      x = own.0.tx

      new : TxRow
      new = run rows rules x

      one : changes rows rules d ≡ changed d x new
      one = ap (changes_of rows rules d) own.0.live

      s : Rows
      s = with_writes ids r (changed d x new)

      here : get s.txs d ≡ Some new
      here = at_changed ids r d x new own.1 (run_keeps rows rules x)

      elsewhere : (e : Text) → same_id e d ≡ false → get s.txs e ≡ get r.txs e
      elsewhere e f = off_changed ids r d x new e f

      apart : (e : Text) → is_among text_cmp ds e ≡ true → same_id e d ≡ false
      apart e t = not_same e d (λ same. true_false (is_among text_cmp ds e) t (subst (λ (k : Text). is_among text_cmp ds k ≡ false) (sym same) distinct.0))

      still : (e : Text) → is_among text_cmp ds e ≡ true → (there : IsThere rows e) × (get s.txs e ≡ Some there.tx)
      still e t =
          let was = there e (or_right (same_id e d) (is_among text_cmp ds e) t) in
          (was.0, elsewhere e (apart e t) ∙ was.1)

      at : same_id q d ≡ true → cond (is_among text_cmp ds q) (option_map (run rows rules) (get s.txs q)) (get s.txs q) ≡ cond (same_id q d || is_among text_cmp ds q) (option_map (run rows rules) (get r.txs q)) (get r.txs q)
      at t =
          let same = same_is q d t in
          let out : is_among text_cmp ds q ≡ false = subst (λ (k : Text). is_among text_cmp ds k ≡ false) (sym same) distinct.0 in
          ap (λ b. cond b (option_map (run rows rules) (get s.txs q)) (get s.txs q)) out
          ∙ ap (get s.txs) same ∙ here ∙ ap (option_map (run rows rules)) (sym own.1) ∙ ap (λ (k : Text). option_map (run rows rules) (get r.txs k)) (sym same)
          ∙ ap (λ b. cond (b || is_among text_cmp ds q) (option_map (run rows rules) (get r.txs q)) (get r.txs q)) (sym t)

      off : same_id q d ≡ false → cond (is_among text_cmp ds q) (option_map (run rows rules) (get s.txs q)) (get s.txs q) ≡ cond (same_id q d || is_among text_cmp ds q) (option_map (run rows rules) (get r.txs q)) (get r.txs q)
      off f =
          ap (λ o. cond (is_among text_cmp ds q) (option_map (run rows rules) o) o) (elsewhere q f)
          ∙ ap (λ b. cond (b || is_among text_cmp ds q) (option_map (run rows rules) (get r.txs q)) (get r.txs q)) (sym f)

-- what an accepted run tells
record IsAccepted (rows : Rows) (named : List Text) (ws : List Write) : Type 0 where
  alive : (q : Text) → is_among text_cmp named q ≡ true → IsThere rows q
  writes : flat_map (changes rows (rules_of rows)) (distinct named) ≡ ws

is_accepted : (rows : Rows) (named : List Text) (ws : List Write) → rules_run rows named ≡ Ok ws → IsAccepted rows named ws
is_accepted rows named ws h =
    let p = passed (each (alive_check rows) named) _ _ h in
    record { alive = λ q t. alive_there rows q (passed_alive rows named p.0 q p.1 t); writes = inside _ _ p.2 }

stands : (ids : Ids) (rows : Rows) (named : List Text) (ws : List Write) (q : Text) → rules_run rows named ≡ Ok ws
    → get (with_writes ids rows ws).txs q ≡ cond (is_among text_cmp named q) (option_map (run rows (rules_of rows)) (get rows.txs q)) (get rows.txs q)
stands ids rows named ws q h =
    let a = is_accepted rows named ws h in
    ap (λ vs. get (with_writes ids rows vs).txs q) (sym a.writes)
    ∙ after_each ids rows (rules_of rows) (distinct named) rows (are_distinct named) (λ d t. let there = a.alive d (sym (among_distinct named d) ∙ t) in (there, there.there)) q
    ∙ ap (λ b. cond b (option_map (run rows (rules_of rows)) (get rows.txs q)) (get rows.txs q)) (among_distinct named q)

-- ---- what is written

first_or_rest : {X : Type 0} (x : X) (xs : List X) (q : X) → Contains (x ∷ xs) q → (x ≡ q) ⊎ Contains xs q
first_or_rest x xs q c = by_place c.0 c.1 c.2
  where
    by_place : (k : ℕ) → k < length (x ∷ xs) → get_or (x ∷ xs) k q ≡ q → (x ≡ q) ⊎ Contains xs q
    by_place zero h e = inl e
    by_place (suc k) h e = inr (k, omega arith, e)

nothing : {X P : Type 0} (q : X) → Contains [] q → P
nothing q c = absurd (omega (arith, c.1))

module _ {X : Type 0} (f : Text → List X) where
  of_some : (ds : List Text) (w : X) → Contains (flat_map f ds) w → (d : Text) × (is_among text_cmp ds d ≡ true) × Contains (f d) w
  of_some [] w c = nothing w c
  of_some (d ∷ ds) w c = elim (Contains-append_cases (f d) (flat_map f ds) w c) [
    | inl a ↦ (d, or_left (same_id d d) (is_among text_cmp ds d) (same_refl d), a)
    | inr b ↦ let more = of_some ds w b in (more.0, or_right (same_id more.0 d) (is_among text_cmp ds more.0) more.1, more.2)
  ]

-- the column that a write gives another value
record IsNew (id : Text) (old new : TxRow) (w : Write) : Type 0 where
  column : Text × Value
  made : Contains (changing new) column
  other : Contains (changing old) column → ⊥
  written : w ≡ tx_write (Given id) column.0 column.1

-- one of five
module _ (old : TxRow) (q : Text × Value) (P : Type 0) where
  abbrev Is : Text → Value → Type 0
  Is name v = ◌≡◌ {A = Text × Value} (name, v) q

  step : (x : Text × Value) (xs : List (Text × Value)) → Contains (x ∷ xs) q → (◌≡◌ {A = Text × Value} x q → P) → (Contains xs q → P) → P
  step x xs c f g = elim (first_or_rest x xs q c) [ inl e ↦ f e | inr r ↦ g r ]

  by_five : Contains (changing old) q → (Is (codes "description") (text_or_null old.description) → P) → (Is (codes "category") (text_or_null old.category) → P)
      → (Is (codes "notes") (text_or_null old.notes) → P) → (Is (codes "schedule") (text_or_null old.schedule) → P) → (Is (codes "cleared") (flag old.cleared) → P) → P
  by_five c d k n s f =
      step (codes "description", text_or_null old.description) ((codes "category", text_or_null old.category) ∷ (codes "notes", text_or_null old.notes) ∷ (codes "schedule", text_or_null old.schedule) ∷ (codes "cleared", flag old.cleared) ∷ []) c d
      (λ c1. step (codes "category", text_or_null old.category) ((codes "notes", text_or_null old.notes) ∷ (codes "schedule", text_or_null old.schedule) ∷ (codes "cleared", flag old.cleared) ∷ []) c1 k
      (λ c2. step (codes "notes", text_or_null old.notes) ((codes "schedule", text_or_null old.schedule) ∷ (codes "cleared", flag old.cleared) ∷ []) c2 n
      (λ c3. step (codes "schedule", text_or_null old.schedule) ((codes "cleared", flag old.cleared) ∷ []) c3 s
      (λ c4. step (codes "cleared", flag old.cleared) [] c4 f (λ c5. nothing q c5)))))

-- two columns of two names
apart : (a b : Text) (v w : Value) → same_id a b ≡ false → ◌≡◌ {A = Text × Value} (a, v) (b, w) → ⊥
apart a b v w f e = is_other a b f (ap (λ (c : Text × Value). c.0) e)

-- a text that differs is another value
other_text : (a : Text) (old new : Option Text) → same_text old new ≡ false → ◌≡◌ {A = Text × Value} (a, text_or_null old) (a, text_or_null new) → ⊥
other_text a old new f e =
    let same : old ≡ new = sym (text_back old) ∙ ap (λ (c : Text × Value). text_of c.1) e ∙ text_back new in
    true_false (same_text old new) (is_same_text old new same) f

other_flag : (a : Text) (old new : Bool) → same_flag old new ≡ false → ◌≡◌ {A = Text × Value} (a, flag old) (a, flag new) → ⊥
other_flag a old new f e =
    let same : old ≡ new = sym (flag_back old) ∙ ap (λ (c : Text × Value). flag_of c.1) e ∙ flag_back new in
    true_false (same_flag old new) (is_same_flag old new same) f

-- a write that is there is the one of a piece
one_write : (b : Bool) (v w : Write) → Contains (cond b [] (v ∷ [])) w → (b ≡ false) × (w ≡ v)
one_write true v w c = nothing w c
one_write false v w c = elim (first_or_rest v [] w c) [ inl e ↦ (refl, sym e) | inr r ↦ nothing w r ]

module _ (id : Text) (old new : TxRow) (w : Write) where
  new_payee : Contains (cond (same_text old.description new.description) [] (tx_write (Given id) (codes "description") (text_or_null new.description) ∷ [])) w → IsNew id old new w
  new_payee c =
      let one = one_write (same_text old.description new.description) (tx_write (Given id) (codes "description") (text_or_null new.description)) w c in
      record {
        column = (codes "description", text_or_null new.description);
        made = (0, omega arith, refl);
        other = λ k. by_five old (codes "description", text_or_null new.description) ⊥ k (other_text (codes "description") old.description new.description one.0) (apart (codes "category") (codes "description") (text_or_null old.category) (text_or_null new.description) refl) (apart (codes "notes") (codes "description") (text_or_null old.notes) (text_or_null new.description) refl) (apart (codes "schedule") (codes "description") (text_or_null old.schedule) (text_or_null new.description) refl) (apart (codes "cleared") (codes "description") (flag old.cleared) (text_or_null new.description) refl);
        written = one.1;
      }

  new_category : Contains (cond (same_text old.category new.category) [] (tx_write (Given id) (codes "category") (text_or_null new.category) ∷ [])) w → IsNew id old new w
  new_category c =
      let one = one_write (same_text old.category new.category) (tx_write (Given id) (codes "category") (text_or_null new.category)) w c in
      record {
        column = (codes "category", text_or_null new.category);
        made = (1, omega arith, refl);
        other = λ k. by_five old (codes "category", text_or_null new.category) ⊥ k (apart (codes "description") (codes "category") (text_or_null old.description) (text_or_null new.category) refl) (other_text (codes "category") old.category new.category one.0) (apart (codes "notes") (codes "category") (text_or_null old.notes) (text_or_null new.category) refl) (apart (codes "schedule") (codes "category") (text_or_null old.schedule) (text_or_null new.category) refl) (apart (codes "cleared") (codes "category") (flag old.cleared) (text_or_null new.category) refl);
        written = one.1;
      }

  new_notes : Contains (cond (same_text old.notes new.notes) [] (tx_write (Given id) (codes "notes") (text_or_null new.notes) ∷ [])) w → IsNew id old new w
  new_notes c =
      let one = one_write (same_text old.notes new.notes) (tx_write (Given id) (codes "notes") (text_or_null new.notes)) w c in
      record {
        column = (codes "notes", text_or_null new.notes);
        made = (2, omega arith, refl);
        other = λ k. by_five old (codes "notes", text_or_null new.notes) ⊥ k (apart (codes "description") (codes "notes") (text_or_null old.description) (text_or_null new.notes) refl) (apart (codes "category") (codes "notes") (text_or_null old.category) (text_or_null new.notes) refl) (other_text (codes "notes") old.notes new.notes one.0) (apart (codes "schedule") (codes "notes") (text_or_null old.schedule) (text_or_null new.notes) refl) (apart (codes "cleared") (codes "notes") (flag old.cleared) (text_or_null new.notes) refl);
        written = one.1;
      }

  new_schedule : Contains (cond (same_text old.schedule new.schedule) [] (tx_write (Given id) (codes "schedule") (text_or_null new.schedule) ∷ [])) w → IsNew id old new w
  new_schedule c =
      let one = one_write (same_text old.schedule new.schedule) (tx_write (Given id) (codes "schedule") (text_or_null new.schedule)) w c in
      record {
        column = (codes "schedule", text_or_null new.schedule);
        made = (3, omega arith, refl);
        other = λ k. by_five old (codes "schedule", text_or_null new.schedule) ⊥ k (apart (codes "description") (codes "schedule") (text_or_null old.description) (text_or_null new.schedule) refl) (apart (codes "category") (codes "schedule") (text_or_null old.category) (text_or_null new.schedule) refl) (apart (codes "notes") (codes "schedule") (text_or_null old.notes) (text_or_null new.schedule) refl) (other_text (codes "schedule") old.schedule new.schedule one.0) (apart (codes "cleared") (codes "schedule") (flag old.cleared) (text_or_null new.schedule) refl);
        written = one.1;
      }

  new_cleared : Contains (cond (same_flag old.cleared new.cleared) [] (tx_write (Given id) (codes "cleared") (flag new.cleared) ∷ [])) w → IsNew id old new w
  new_cleared c =
      let one = one_write (same_flag old.cleared new.cleared) (tx_write (Given id) (codes "cleared") (flag new.cleared)) w c in
      record {
        column = (codes "cleared", flag new.cleared);
        made = (4, omega arith, refl);
        other = λ k. by_five old (codes "cleared", flag new.cleared) ⊥ k (apart (codes "description") (codes "cleared") (text_or_null old.description) (flag new.cleared) refl) (apart (codes "category") (codes "cleared") (text_or_null old.category) (flag new.cleared) refl) (apart (codes "notes") (codes "cleared") (text_or_null old.notes) (flag new.cleared) refl) (apart (codes "schedule") (codes "cleared") (text_or_null old.schedule) (flag new.cleared) refl) (other_flag (codes "cleared") old.cleared new.cleared one.0);
        written = one.1;
      }

  is_new : Contains (changed id old new) w → IsNew id old new w
  is_new c = elim (Contains-append_cases _ _ w c) [
    | inr f ↦ new_cleared f
    | inl c1 ↦ elim (Contains-append_cases _ _ w c1) [
      | inr s ↦ new_schedule s
      | inl c2 ↦ elim (Contains-append_cases _ _ w c2) [
        | inr n ↦ new_notes n
        | inl c3 ↦ elim (Contains-append_cases _ _ w c3) [ inr k ↦ new_category k | inl d ↦ new_payee d ]
      ]
    ]
  ]

are_changes : (rows : Rows) (named : List Text) (ws : List Write) (w : Write) → rules_run rows named ≡ Ok ws → Contains ws w → IsChange rows named w
are_changes rows named ws w h c =
    let a = is_accepted rows named ws h in
    let found = of_some (changes rows (rules_of rows)) (distinct named) w (subst (λ (vs : List Write). Contains vs w) (sym a.writes) c) in
    let among : is_among text_cmp named found.0 ≡ true = sym (among_distinct named found.0) ∙ found.1 in
    let there = a.alive found.0 among in
    let new = is_new found.0 there.tx (run rows (rules_of rows) there.tx) w (subst (λ (o : Option TxRow). Contains (changes_of rows (rules_of rows) found.0 o) w) there.live found.2) in
    record { id = found.0; tx = there.tx; among = among; there = there.there; column = new.column; made = new.made; other = new.other; written = new.written }

-- ---- no column is written twice

-- writes into two fields
abbrev AreApart : Write → Write → Type 0
AreApart w v = v.row ≡ w.row → v.column ≢ w.column

-- no two writes are into one field
abbrev AllApart : List Write → Type 0
AllApart [] = Unit {0}
AllApart (w ∷ ws) = ((v : Write) → Contains ws v → AreApart w v) × AllApart ws

apart_append : (xs ys : List Write) → AllApart xs → AllApart ys → ((w v : Write) → Contains xs w → Contains ys v → AreApart w v) → AllApart (xs ++ ys)
apart_append [] ys a b f = b
apart_append (x ∷ xs) ys a b f = (
  λ v c. elim (Contains-append_cases xs ys v c) [ inl i ↦ a.0 v i | inr j ↦ f x v (0, omega arith, refl) j ],
  apart_append xs ys a.1 b (λ w v i j. f w v (suc i.0, omega (arith, i.1), i.2) j),
)

apart_behind : (before after : List Write) (w v : Write) → AllApart (before ++ w ∷ after) → Contains after v → AreApart w v
apart_behind [] after w v a c = a.0 v c
apart_behind (b ∷ before) after w v a c = apart_behind before after w v a.1 c

one_apart : (b : Bool) (v : Write) → AllApart (cond b [] (v ∷ []))
one_apart true v = tt
one_apart false v = (λ w c. nothing w c, tt)

-- writes into these columns, each at most once
record IntoEach (names : List Text) (ws : List Write) : Type 0 where
  apart : AllApart ws
  among : (w : Write) → Contains ws w → is_among text_cmp names w.column ≡ true

into_one_more : (names : List Text) (ws : List Write) (id name : Text) (v : Value) (b : Bool) → is_among text_cmp names name ≡ false → IntoEach names ws
    → IntoEach (name ∷ names) (ws ++ cond b [] (tx_write (Given id) name v ∷ []))
into_one_more names ws id name v b new t = record {
  apart = apart_append ws (cond b [] (tx_write (Given id) name v ∷ [])) t.apart (one_apart b (tx_write (Given id) name v)) (λ w u c d row column.
      true_false (is_among text_cmp names name) (subst (λ (q : Text). is_among text_cmp names q ≡ true) (sym column ∙ is_name u d) (t.among w c)) new);
  among = λ w c. elim (Contains-append_cases ws (cond b [] (tx_write (Given id) name v ∷ [])) w c) [
    | inl a ↦ or_right (same_id w.column name) (is_among text_cmp names w.column) (t.among w a)
    | inr d ↦ or_left (same_id w.column name) (is_among text_cmp names w.column) (subst (λ (q : Text). same_id q name ≡ true) (sym (is_name w d)) (same_refl name))
  ];
}
  where
    is_name : (u : Write) → Contains (cond b [] (tx_write (Given id) name v ∷ [])) u → u.column ≡ name
    is_name u d = ap (λ (x : Write). x.column) (one_write b (tx_write (Given id) name v) u d).1

changed_apart : (id : Text) (old new : TxRow) → AllApart (changed id old new)
changed_apart id old new =
    let none : IntoEach [] [] = record { apart = tt; among = λ w c. nothing w c } in
    let d = into_one_more [] [] id (codes "description") (text_or_null new.description) (same_text old.description new.description) refl none in
    let k = into_one_more _ _ id (codes "category") (text_or_null new.category) (same_text old.category new.category) refl d in
    let n = into_one_more _ _ id (codes "notes") (text_or_null new.notes) (same_text old.notes new.notes) refl k in
    let s = into_one_more _ _ id (codes "schedule") (text_or_null new.schedule) (same_text old.schedule new.schedule) refl n in
    let f = into_one_more _ _ id (codes "cleared") (flag new.cleared) (same_flag old.cleared new.cleared) refl s in
    f.apart

module _ (rows : Rows) (rules : List Rule) where
  changes_apart : (id : Text) (o : Option TxRow) → AllApart (changes_of rows rules id o)
  changes_apart id None = tt
  changes_apart id (Some x) = changed_apart id x (run rows rules x)

  row_is : (id : Text) (o : Option TxRow) (w : Write) → Contains (changes_of rows rules id o) w → w.row ≡ Given id
  row_is id None w c = nothing w c
  row_is id (Some x) w c = ap (λ (v : Write). v.row) (is_new id x (run rows rules x) w c).written

  given_is : (a b : Text) → Given a ≡ Given b → a ≡ b
  given_is a b h = cc

  all_apart : (ds : List Text) → AreDistinct text_cmp ds → AllApart (flat_map (changes rows rules) ds)
  all_apart [] h = tt
  all_apart (d ∷ ds) h = apart_append (changes rows rules d) (flat_map (changes rows rules) ds) (changes_apart d (live_row rows d)) (all_apart ds h.1) (λ w v c e row column.
      let more = of_some (changes rows rules) ds v e in
      let same : more.0 ≡ d = given_is more.0 d (sym (row_is more.0 (live_row rows more.0) v more.2) ∙ row ∙ row_is d (live_row rows d) w c) in
      true_false (is_among text_cmp ds d) (subst (λ (q : Text). is_among text_cmp ds q ≡ true) same more.1) h.0)

written_once : (rows : Rows) (named : List Text) (before after : List Write) (w v : Write) → rules_run rows named ≡ Ok (before ++ w ∷ after) → Contains after v → v.row ≡ w.row → v.column ≢ w.column
written_once rows named before after w v h c =
    let a = is_accepted rows named (before ++ w ∷ after) h in
    apart_behind before after w v (subst AllApart a.writes (all_apart rows (rules_of rows) (distinct named) (are_distinct named))) c

pub make_rows : RulesMakeRows
make_rows = record {
  accepted = λ rows named h. (flat_map (changes rows (rules_of rows)) (distinct named), ap (λ u. u >>= (λ v. Ok (flat_map (changes rows (rules_of rows)) (distinct named)))) (all_pass rows named h));
  refused = λ rows before after id h dead. ap (λ u. u >>= (λ v. Ok (flat_map (changes rows (rules_of rows)) (distinct (before ++ id ∷ after))))) (first_fails rows before after id h dead);
  stands = stands;
  columns = run_keeps;
  changes = are_changes;
  once = written_once;
}
