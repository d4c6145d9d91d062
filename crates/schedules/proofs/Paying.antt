-- The transactions that name a schedule tell whether one pays for it.
use Rattle.std.proofs.Common.{◌≡◌, ℕ, Bool, true, false, List, [], ◌∷◌, Option, Some, None, refl, sym, ap, ◌∙◌}
use Rattle.std.specs.Prelude.{◌&&◌, ◌||◌, ◌+◌, nat_le, option_and_then}
use Rattle.std.specs.Ordering.{eq_by_cmp}
use Rattle.std.specs.List.{list_any}
use Rattle.std.specs.FinMap as map
use Rattle.finite_sums.specs.Maps.{Text, text_cmp, some_and, keys_where, is_among}
use Rattle.finite_sums.proofs.Texts.{text_total, text_same}
use Rattle.finite_sums.proofs.MapSums.{among-keys_where}
use Rattle.book_rows.specs.declared.rows.Rows.{Rows}
use Rattle.book_rows.specs.declared.rows.TxRow.{TxRow}
use Rattle.book_rows.specs.Live.{is_live_tx}
use Rattle.book_rows.specs.Parts.{is_text, is_of_schedule, schedule_txs}
use Rattle.book_rows.proofs.Pairs.{is_equal}
use Rattle.book_rows.proofs.Spans.{row_any, any_row}
use Rattle.schedules.specs.Months.{day_in}
use Rattle.schedules.specs.Status.{pays, is_payment, is_paid}

false_true : {P : Type 0} → false ≡ true → P
false_true h = absurd (cc)

-- two tests that are passed in the same cases
alike : (a b : Bool) → (a ≡ true → b ≡ true) → (b ≡ true → a ≡ true) → a ≡ b
alike true b f g = sym (f refl)
alike false true f g = g refl
alike false false f g = refl

or_second : (a b : Bool) → b ≡ true → (a || b) ≡ true
or_second true b h = refl
or_second false b h = h

-- one that is listed and passes
listed_any : (f : Text → Bool) (ks : List Text) (q : Text) → is_among text_cmp ks q ≡ true → f q ≡ true → list_any f ks ≡ true
listed_any f [] q h t = false_true h
listed_any f (k ∷ ks) q h t = by (eq_by_cmp text_cmp q k) refl h (λ r. listed_any f ks q r t)
  where
    by : (b : Bool) → eq_by_cmp text_cmp q k ≡ b → (b || is_among text_cmp ks q) ≡ true → (is_among text_cmp ks q ≡ true → list_any f ks ≡ true) → (f k || list_any f ks) ≡ true
    by true e r rest = ap (λ b. b || list_any f ks) (ap f (sym (text_same q k (is_equal _ e))) ∙ t)
    by false e r rest = or_second (f k) (list_any f ks) (rest r)

any_listed : (f : Text → Bool) (ks : List Text) → list_any f ks ≡ true → (q : Text) × (f q ≡ true)
any_listed f [] h = false_true h
any_listed f (k ∷ ks) h = by (f k) refl h (λ r. any_listed f ks r)
  where
    by : (b : Bool) → f k ≡ b → (b || list_any f ks) ≡ true → (list_any f ks ≡ true → (q : Text) × (f q ≡ true)) → (q : Text) × (f q ≡ true)
    by true e r rest = (k, e)
    by false e r rest = rest r

-- one that pays names the schedule
second_of : (a b c : Bool) → (a && (b && c)) ≡ true → b ≡ true
second_of true true c h = refl
second_of true false c h = false_true h
second_of false b c h = false_true h

names : (rows : Rows) (id : Text) (next : ℕ) (x : TxRow) → pays rows id next x ≡ true → is_of_schedule id x ≡ true
names rows id next x h = second_of (is_live_tx rows x) (is_text id x.schedule) (some_and (λ day. nat_le next (day + 2)) (option_and_then day_in x.date)) h

named : (rows : Rows) (id : Text) (next : ℕ) (o : Option TxRow) → some_and (pays rows id next) o ≡ true → some_and (is_of_schedule id) o ≡ true
named rows id next None h = false_true h
named rows id next (Some x) h = names rows id next x h

pub paid_by_named : (rows : Rows) (id : Text) (next : ℕ) → list_any (is_payment rows id next) (schedule_txs rows id) ≡ is_paid rows id next
paid_by_named rows id next = alike _ _
    (λ h. let found = any_listed (is_payment rows id next) (schedule_txs rows id) h in row_any (pays rows id next) rows.txs found.0 found.1)
    (λ h. let found = any_row (pays rows id next) rows.txs h in
    listed_any (is_payment rows id next) (schedule_txs rows id) found.0 (among-keys_where text_total text_same (is_of_schedule id) rows.txs found.0 ∙ named rows id next (map.get rows.txs found.0) found.1) found.1)
