-- When the JSON of a rule's conditions and actions can be read.
use Rattle.std.specs.Prelude.{ℤ, pos, neg_ℤ, int_le, Bool, true, ◌&&◌, ◌||◌, not, if◌then◌else◌, Option, Some, None, is_some, option_and_then, codes}
use Rattle.std.specs.Str.{bytes_eq}
use Rattle.serde_json.specs.Data.{Data, Items, no_items, item}
use Rattle.serde_json.specs.Find.{get, as_number, as_i64, as_bool, as_null, as_str, as_array, as_object}
use Rattle.finite_sums.specs.Maps.{Text, some_and}
use Rattle.schedules.specs.Reading.{day_of_text}

-- the value is this text
abbrev pub says : Option Data → Text → Bool
says v word = some_and (λ (t : Text). bytes_eq t word) (option_and_then as_str v)

-- a text, and a text or null
abbrev pub is_words : Option Data → Bool
is_words v = is_some (option_and_then as_str v)

abbrev pub is_id : Option Data → Bool
is_id v = is_words v || is_some (option_and_then as_null v)

abbrev pub all_of : (Data → Bool) → Items → Bool
all_of test no_items = true
all_of test (item d ds) = test d && all_of test ds

-- a list of texts
abbrev pub are_words : Option Data → Bool
are_words v = some_and (all_of (λ d. is_words (Some d))) (option_and_then as_array v)

-- a number that is no further from 0 than an amount may be
abbrev pub exact : ℤ → Option ℤ
exact z = if int_le (neg_ℤ (pos 9_007_199_254_740_991)) z && int_le z (pos 9_007_199_254_740_991) then Some z else None

abbrev pub amount_at : Option Data → Option ℤ
amount_at v = option_and_then exact (option_and_then as_i64 (option_and_then as_number v))

-- the two ends of a range of amounts, in either order
abbrev pub is_between : Option Data → Bool
is_between v = is_some (amount_at (option_and_then (get (codes "num1")) v)) && is_some (amount_at (option_and_then (get (codes "num2")) v))

abbrev pub is_date : Option Data → Bool
is_date v = is_some (option_and_then day_of_text (option_and_then as_str v))

abbrev pub is_keyed : Option Data → Bool
is_keyed v = is_some (option_and_then as_object v)

abbrev pub is_flag : Option Data → Bool
is_flag v = is_some (option_and_then as_bool v)

-- ---- ops

abbrev pub is_same_op : Option Data → Bool
is_same_op op = says op (codes "is") || says op (codes "isNot")

abbrev pub is_list_op : Option Data → Bool
is_list_op op = says op (codes "oneOf") || says op (codes "notOneOf")

abbrev pub is_part_op : Option Data → Bool
is_part_op op = says op (codes "contains") || says op (codes "doesNotContain")

abbrev pub is_near_op : Option Data → Bool
is_near_op op = says op (codes "is") || says op (codes "isapprox")

abbrev pub is_order_op : Option Data → Bool
is_order_op op = (says op (codes "gt") || says op (codes "gte")) || (says op (codes "lt") || says op (codes "lte"))

-- ---- fields

abbrev pub is_account_field : Option Data → Bool
is_account_field f = says f (codes "acct") || says f (codes "account")

abbrev pub is_payee_field : Option Data → Bool
is_payee_field f = says f (codes "description") || says f (codes "payee")

abbrev pub is_id_field : Option Data → Bool
is_id_field f = is_account_field f || (is_payee_field f || says f (codes "category"))

abbrev pub is_words_field : Option Data → Bool
is_words_field f = says f (codes "imported_description") || (says f (codes "imported_payee") || says f (codes "notes"))

-- what each field is compared with, by the op
abbrev pub is_id_test : Option Data → Option Data → Bool
is_id_test op v = (is_same_op op && is_id v) || (is_list_op op && are_words v)

abbrev pub is_words_test : Option Data → Option Data → Bool
is_words_test op v = ((is_same_op op || is_part_op op) && is_words v) || (is_list_op op && are_words v)

abbrev pub is_amount_test : Option Data → Option Data → Bool
is_amount_test op v = ((is_near_op op || is_order_op op) && is_some (amount_at v)) || (says op (codes "isbetween") && is_between v)

abbrev pub is_date_test : Option Data → Option Data → Bool
is_date_test op v = ((is_near_op op || is_order_op op) && is_date v) || (is_near_op op && is_keyed v)

abbrev pub is_flag_test : Option Data → Option Data → Bool
is_flag_test op v = says op (codes "is") && is_flag v

unfoldable pub is_test : Option Data → Option Data → Option Data → Bool
is_test f op v =
    (is_id_field f && is_id_test op v)
    || ((is_words_field f && is_words_test op v)
    || ((says f (codes "amount") && is_amount_test op v)
    || ((says f (codes "date") && is_date_test op v)
    || (says f (codes "cleared") && is_flag_test op v))))

-- whether the value is true
abbrev pub is_set : Option Data → Bool
is_set v = some_and (λ (b : Bool). b) (option_and_then as_bool v)

-- options that ask for money coming in or going out alone
abbrev pub asks_way : Option Data → Bool
asks_way options = is_set (option_and_then (get (codes "inflow")) options) || is_set (option_and_then (get (codes "outflow")) options)

-- a condition
unfoldable pub is_condition : Data → Bool
is_condition d = not (asks_way (get (codes "options") d)) && is_test (get (codes "field") d) (get (codes "op") d) (get (codes "value") d)

-- ---- actions

-- no op is the op `set`
abbrev pub is_set_op : Option Data → Bool
is_set_op None = true
is_set_op (Some d) = says (Some d) (codes "set")

abbrev pub is_words_op : Option Data → Bool
is_words_op op = says op (codes "prepend-notes") || (says op (codes "append-notes") || says op (codes "link-schedule"))

abbrev pub is_setting : Option Data → Option Data → Bool
is_setting f v =
    ((says f (codes "category") || says f (codes "description")) && is_id v)
    || ((says f (codes "notes") && is_words v) || (says f (codes "cleared") && is_flag v))

-- an action
unfoldable pub is_action : Data → Bool
is_action d =
    (is_set_op (get (codes "op") d) && is_setting (get (codes "field") d) (get (codes "value") d))
    || (is_words_op (get (codes "op") d) && is_words (get (codes "value") d))
