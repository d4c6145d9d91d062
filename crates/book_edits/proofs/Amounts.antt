-- What edits of budgets make of amounts.
use Rattle.std.proofs.Common.{◌≡◌, ℕ, Bool, cond, filter, List, [], ◌∷◌, ◌++◌, Option, None, Some, Result, Ok, refl, sym, ap, ◌∙◌, arith, if◌then◌else◌}
use lib.IntN.{ℤ, pos}
use Rattle.std.specs.Prelude.{◌+ℤ◌, ◌-ℤ◌, ◌&&◌, not, is_some, codes, map as list_map, flat_map}
use Rattle.std.specs.Ordering.{int_eq}
use Rattle.std.specs.Option.{option_map}
use Rattle.std.specs.FinMap as map
use Rattle.std.proofs.lemmas.Int.{ints}
use Rattle.field_values.specs.declared.value.Value.{Value}
use Rattle.field_values.specs.declared.value.Value.TheVariants.{Number}
use Rattle.finite_sums.specs.Maps.{Text, Texts, value_or_zero}
use Rattle.book_rows.specs.declared.rows.Rows.{Rows}
use Rattle.book_rows.specs.declared.rows.BudgetRow.{BudgetRow}
use Rattle.book_rows.specs.declared.write.Write.{Write}
use Rattle.book_rows.specs.declared.fault.EditFault.{EditFault}
use Rattle.book_rows.specs.Ids.{budget_id}
use Rattle.book_rows.specs.Live.{is_income_category}
use Rattle.book_rows.specs.Months.{is_month}
use Rattle.book_edits.specs.declared.gains.Gain.{Gain}
use Rattle.book_edits.specs.Faults.{◌>>=◌, each}
use Rattle.book_edits.specs.Checks.{live_category, no_income, a_month, an_amount, a_name}
use Rattle.book_edits.specs.Writing.{flag}
use Rattle.book_edits.specs.Budgets.{amount_at, budgeted, column_writes, budget_writes, two_amounts, may_move, move}
use Rattle.book_edits.specs.Categories.{category_deletion}
use Rattle.book_edits.specs.Mappings.{calendar, is_given, given_months, month_gain, gains, gain_writes, categories_mapped, may_hand_on, category_delete_to}
use Rattle.book_edits.specs.Laws.{amount_in, IdsAloneChoose, MovesKeepMoney}
use Rattle.book_edits.proofs.Valid.{inside, passed}

value_of : (o : Option BudgetRow) → value_or_zero (λ b. b.amount) o ≡ value_or_zero (λ (z : ℤ). z) (option_map (λ (b : BudgetRow). b.amount) o)
value_of None = refl
value_of (Some b) = refl

there_of : (o : Option BudgetRow) → is_some o ≡ is_some (option_map (λ (b : BudgetRow). b.amount) o)
there_of None = refl
there_of (Some b) = refl

filter_same : (p q : ℕ → Bool) → ((m : ℕ) → p m ≡ q m) → (ms : List ℕ) → filter p ms ≡ filter q ms
filter_same p q h [] = refl
filter_same p q h (m ∷ ms) = ap (λ b. cond b (m ∷ filter p ms) (filter p ms)) (h m) ∙ ap (λ (xs : List ℕ). cond (q m) (m ∷ xs) xs) (filter_same p q h ms)

map_same : {X Y : Type 0} (f g : X → Y) → ((x : X) → f x ≡ g x) → (xs : List X) → list_map f xs ≡ list_map g xs
map_same f g h [] = refl
map_same {X} {Y} f g h (x ∷ xs) = ap (λ (y : Y). y ∷ list_map f xs) (h x) ∙ ap (λ (ys : List Y). g x ∷ ys) (map_same f g h xs)

abbrev month_of : ℕ → ℤ → Gain
month_of m z = record { month = m; amount = z }

module _ (rows : Rows) (budgets : Texts BudgetRow) (same : (id : Text) → amount_in rows.budgets id ≡ amount_in budgets id) where
  abbrev other : Rows
  other = record rows { budgets = budgets }

  amount_same : (id : Text) → amount_at rows id ≡ amount_at other id
  amount_same id = value_of (map.get rows.budgets id) ∙ ap (value_or_zero (λ (z : ℤ). z)) (same id) ∙ sym (value_of (map.get budgets id))

  there_same : (id : Text) → is_some (map.get rows.budgets id) ≡ is_some (map.get budgets id)
  there_same id = there_of (map.get rows.budgets id) ∙ ap is_some (same id) ∙ sym (there_of (map.get budgets id))

  writes_same : (category : Text) (month : ℕ) (column : Text) (value : Value) → budget_writes rows category month column value ≡ budget_writes other category month column value
  writes_same category month column value =
      ap (λ b. column_writes b (codes "zero_budgets") category month column value) (there_same (budget_id category month))

  amounts_same : (month : ℕ) (from : Text) (less : ℤ) (to : Text) (more : ℤ) → two_amounts rows month from less to more ≡ two_amounts other month from less to more
  amounts_same month from less to more =
      ap (λ l. l ++ budget_writes rows to month (codes "amount") (Number more)) (writes_same from month (codes "amount") (Number less))
      ∙ ap (λ l. budget_writes other from month (codes "amount") (Number less) ++ l) (writes_same to month (codes "amount") (Number more))

  -- the rest of a move, by what the two categories are given
  abbrev rest : Rows → ℕ → Text → Text → ℤ → ℤ → Result (List Write) EditFault
  rest r month from to less more = do
    _ ← an_amount less
    _ ← an_amount more
    _ ← a_name (budget_id from month)
    _ ← a_name (budget_id to month)
    Ok (two_amounts r month from less to more)

  rest_same : (month : ℕ) (from to : Text) (less more : ℤ) → rest rows month from to less more ≡ rest other month from to less more
  rest_same month from to less more = ap (λ (ws : List Write). (an_amount less >>= λ _. an_amount more >>= λ _. a_name (budget_id from month) >>= λ _. a_name (budget_id to month) >>= λ _. Ok ws)) (amounts_same month from less to more)

  move_same : (month : ℕ) (from to : Text) (amount : ℤ) → move rows month from to amount ≡ move other month from to amount
  move_same month from to amount =
      let checks = may_move rows month from to amount in
      ap (λ (r : Result (List Write) EditFault). checks >>= λ _. r)
      (rest_same month from to (budgeted rows from month -ℤ amount) (budgeted rows to month +ℤ amount)
      ∙ ap (λ z. rest other month from to (z -ℤ amount) (budgeted rows to month +ℤ amount)) (amount_same (budget_id from month))
      ∙ ap (λ z. rest other month from to (budgeted other from month -ℤ amount) (z +ℤ amount)) (amount_same (budget_id to month)))

  -- what is handed on
  gain_same : (id to : Text) (m : ℕ) → month_gain rows id to m ≡ month_gain other id to m
  gain_same id to m =
      ap (λ (z : ℤ). month_of m (z +ℤ budgeted rows id m)) (amount_same (budget_id to m))
      ∙ ap (λ (z : ℤ). month_of m (budgeted other to m +ℤ z)) (amount_same (budget_id id m))

  gains_same : (id to : Text) → gains rows id to ≡ gains other id to
  gains_same id to =
      ap (λ (gs : List Gain). if is_income_category rows id then [] else gs)
      (ap (list_map (month_gain rows id to)) (filter_same (is_given rows id) (is_given other id) (λ m. ap (λ (z : ℤ). is_month m && not (int_eq z (pos 0))) (amount_same (budget_id id m))) calendar)
      ∙ map_same (month_gain rows id to) (month_gain other id to) (gain_same id to) (given_months other id))

  gain_writes_same : (to : Text) (gs : List Gain) → flat_map (gain_writes rows to) gs ≡ flat_map (gain_writes other to) gs
  gain_writes_same to [] = refl
  gain_writes_same to (g ∷ gs) =
      ap (λ (ws : List Write). ws ++ flat_map (gain_writes rows to) gs) (writes_same to g.month (codes "amount") (Number g.amount))
      ∙ ap (λ (ws : List Write). gain_writes other to g ++ ws) (gain_writes_same to gs)

  handed_on_same : (id to : Text) → category_delete_to rows id to ≡ category_delete_to other id to
  handed_on_same id to =
      let result : List Gain → List Write → Result (List Write) EditFault = λ gs ws.
      may_hand_on rows id to >>= λ _. (each (λ (g : Gain). an_amount g.amount) gs >>= λ _. each (λ (g : Gain). a_name (budget_id to g.month)) gs) >>= λ _. Ok (categories_mapped rows id to ++ ws ++ category_deletion id ∷ []) in
      ap (λ (gs : List Gain). result gs (flat_map (gain_writes rows to) gs)) (gains_same id to)
      ∙ ap (result (gains other id to)) (gain_writes_same to (gains other id to))

  pub ids_alone_choose_lem : IdsAloneChoose rows budgets same
  ids_alone_choose_lem = record {
    budget = λ month category amount. ap (λ (ws : List Write). (a_month month >>= λ _. live_category rows category >>= λ _. no_income rows category >>= λ _. an_amount amount >>= λ _. a_name (budget_id category month) >>= λ _. Ok ws)) (writes_same category month (codes "amount") (Number amount));
    carryover = λ month category carries. ap (λ (ws : List Write). (a_month month >>= λ _. live_category rows category >>= λ _. no_income rows category >>= λ _. a_name (budget_id category month) >>= λ _. Ok ws)) (writes_same category month (codes "carryover") (flag carries));
    move = move_same;
    handed_on = handed_on_same;
  }

sums_to : (a b z : ℤ) → (a -ℤ z) +ℤ (b +ℤ z) ≡ a +ℤ b
sums_to a b z = omega (arith, ints)

pub moves_keep_money_lem : MovesKeepMoney
moves_keep_money_lem rows month from to amount ws h =
    let before = budgeted rows from month in
    let after = budgeted rows to month in
    let p = passed (may_move rows month from to amount) _ _ h in
    let l = passed (an_amount (before -ℤ amount)) _ _ p.2 in
    let g = passed (an_amount (after +ℤ amount)) _ _ l.2 in
    let f = passed (a_name (budget_id from month)) _ _ g.2 in
    let t = passed (a_name (budget_id to month)) _ _ f.2 in
    (before -ℤ amount, after +ℤ amount, sym (inside _ _ t.2), refl, sums_to before after amount)
