-- The conditions of a new schedule as a JSON value, whose text they are.
use Rattle.std.proofs.Common.{◌≡◌, ◌≤◌, ℤ, pos, negsuc, [], ◌∷◌, ◌++◌, true, false, Option, None, Some, refl, sym, ap, ap₂, ◌∙◌, arith, append_assoc}
use Rattle.std.specs.Prelude.{◌||◌, codes, nat_le, unsigned_abs, if◌then◌else◌}
use Rattle.std.specs.Fmt.{signed_decimal}
use Rattle.std.proofs.lemmas.Bool.{leb-true}
use Rattle.json.specs.Print.{quoted, escape_byte}
use Rattle.serde_json.specs.Data.{Num, unsigned, negative, Data, number, string, array, object, Items, no_items, item, no_members, member, depth}
use Rattle.serde_json.specs.Find.{is_float}
use Rattle.serde_json.specs.Read.{read}
use Rattle.serde_json.specs.Written.{number_text, has_float, compact_text, items_text}
use Rattle.finite_sums.specs.Maps.{Text}
use Rattle.schedules.specs.Edits.{again, payee_text, amount_text, conditions_text}
use Rattle.rule_laws.proofs.JsonBack.{IsTidy, AreTidy, compact_back, text_tidy}

-- ---- the value

abbrev condition : Text → Text → Data → Data
condition field op value = object (member (codes "field") (string field) (member (codes "op") (string op) (member (codes "value") value no_members)))

abbrev pub whole_number : ℤ → Num
whole_number (pos n) = unsigned n
whole_number (negsuc n) = negative (negsuc n)

abbrev pub on_date : Data → Data
on_date d = condition (codes "date") (codes "isapprox") d

abbrev pub on_account : Text → Data
on_account account = condition (codes "acct") (codes "is") (string account)

abbrev pub on_payee : Text → Data
on_payee payee = condition (codes "description") (codes "is") (string payee)

abbrev pub on_amount : ℤ → Data
on_amount amount = condition (codes "amount") (codes "is") (number (whole_number amount))

abbrev pub later_ones : Option Text → ℤ → Items
later_ones None amount = item (on_amount amount) no_items
later_ones (Some payee) amount = item (on_payee payee) (item (on_amount amount) no_items)

abbrev pub new_conditions : Text → Option Text → ℤ → Data → Items
new_conditions account payee amount d = item (on_date d) (item (on_account account) (later_ones payee amount))

-- ---- its text

mid : (lit a rest : Text) → (lit ++ (a ++ 125 ∷ [])) ++ rest ≡ lit ++ (a ++ 125 ∷ rest)
mid lit a rest = append_assoc lit (a ++ 125 ∷ []) rest ∙ ap (λ s. lit ++ s) (append_assoc a (125 ∷ []) rest)

three : (x a y rest : Text) → (x ++ (a ++ y)) ++ rest ≡ x ++ (a ++ (y ++ rest))
three x a y rest = append_assoc x (a ++ y) rest ∙ ap (λ s. x ++ s) (append_assoc a y rest)

six : (a b c d e f : Text) → ((((a ++ b) ++ c) ++ d) ++ e) ++ f ≡ a ++ (b ++ (c ++ (d ++ (e ++ f))))
six a b c d e f = simp append_assoc

number_is : (amount : ℤ) → number_text (whole_number amount) ≡ signed_decimal amount
number_is (pos n) = refl
number_is (negsuc n) = refl

amount_is : (amount : ℤ) → items_text true (item (on_amount amount) no_items) ≡ 44 ∷ amount_text amount
unfolding escape_byte
amount_is amount =
    let lit = codes "{\"field\":\"amount\",\"op\":\"is\",\"value\":" in
    ap (λ s. 44 ∷ s) (mid lit (number_text (whole_number amount)) (93 ∷ []) ∙ ap (λ s. lit ++ (s ++ 125 ∷ 93 ∷ [])) (number_is amount))

later_is : (payee : Option Text) (amount : ℤ) → items_text true (later_ones payee amount) ≡ 44 ∷ (payee_text payee ++ amount_text amount)
unfolding escape_byte
later_is None amount = amount_is amount
later_is (Some payee) amount =
    let lit = codes "{\"field\":\"description\",\"op\":\"is\",\"value\":" in
    ap (λ s. 44 ∷ s) (mid lit (quoted payee) (items_text true (item (on_amount amount) no_items))
    ∙ ap (λ s. lit ++ (quoted payee ++ 125 ∷ s)) (amount_is amount)
    ∙ sym (three lit (quoted payee) (codes "},") (amount_text amount)))

account_is : (account : Text) (rest : Items) → items_text true (item (on_account account) rest) ≡ codes ",{\"field\":\"acct\",\"op\":\"is\",\"value\":" ++ (quoted account ++ 125 ∷ items_text true rest)
unfolding escape_byte
account_is account rest = ap (λ s. 44 ∷ s) (mid (codes "{\"field\":\"acct\",\"op\":\"is\",\"value\":") (quoted account) (items_text true rest))

date_is : (d : Data) (rest : Items) → compact_text (array (item (on_date d) rest)) ≡ codes "[{\"field\":\"date\",\"op\":\"isapprox\",\"value\":" ++ (compact_text d ++ 125 ∷ items_text true rest)
unfolding escape_byte
date_is d rest = ap (λ s. 91 ∷ s) (mid (codes "{\"field\":\"date\",\"op\":\"isapprox\",\"value\":") (compact_text d) (items_text true rest))

text_is : (account : Text) (payee : Option Text) (amount : ℤ) (recur : Text) (d : Data) → read recur ≡ Some d → has_float d ≡ false
    → conditions_text account payee amount recur ≡ compact_text (array (new_conditions account payee amount d))
text_is account payee amount recur d h f =
    let front = codes "[{\"field\":\"date\",\"op\":\"isapprox\",\"value\":" in
    let mids = codes "},{\"field\":\"acct\",\"op\":\"is\",\"value\":" in
    ap (λ s. front ++ (((((s ++ mids) ++ quoted account) ++ codes "},") ++ payee_text payee) ++ amount_text amount)) (ap (again recur) h ∙ ap (λ b. if b then recur else compact_text d) f)
    ∙ ap (λ s. front ++ s) (six (compact_text d) mids (quoted account) (codes "},") (payee_text payee) (amount_text amount))
    ∙ sym (date_is d (item (on_account account) (later_ones payee amount))
    ∙ ap (λ s. front ++ (compact_text d ++ 125 ∷ s)) (account_is account (later_ones payee amount)
    ∙ ap (λ s. codes ",{\"field\":\"acct\",\"op\":\"is\",\"value\":" ++ (quoted account ++ 125 ∷ s)) (later_is payee amount)))

-- ---- and it is read back

number_tidy : (amount : ℤ) → unsigned_abs amount ≤ 9_007_199_254_740_991 → IsTidy (number (whole_number amount))
number_tidy (pos n) h = omega (arith, h)
number_tidy (negsuc n) h = omega (arith, h)

number_whole : (amount : ℤ) → is_float (whole_number amount) ≡ false
number_whole (pos n) = refl
number_whole (negsuc n) = refl

condition_tidy : (field op : Text) (value : Data) → IsTidy value → IsTidy (condition field op value)
condition_tidy field op value t = ((refl, (refl, tt)), tt, ((refl, tt), tt, (tt, t, tt)))

amount_tidy : (amount : ℤ) → unsigned_abs amount ≤ 9_007_199_254_740_991 → AreTidy (item (on_amount amount) no_items)
amount_tidy amount h = (condition_tidy (codes "amount") (codes "is") (number (whole_number amount)) (number_tidy amount h), tt)

later_tidy : (payee : Option Text) (amount : ℤ) → unsigned_abs amount ≤ 9_007_199_254_740_991 → AreTidy (later_ones payee amount)
later_tidy None amount h = amount_tidy amount h
later_tidy (Some payee) amount h = (condition_tidy (codes "description") (codes "is") (string payee) tt, amount_tidy amount h)

later_whole : (payee : Option Text) (amount : ℤ) → has_float (array (later_ones payee amount)) ≡ false
later_whole None amount = ap (λ b. (b || false) || false) (number_whole amount)
later_whole (Some payee) amount = ap (λ b. (b || false) || false) (number_whole amount)

later_depth : (payee : Option Text) (amount : ℤ) → depth (array (later_ones payee amount)) ≤ 2
later_depth None amount = omega arith
later_depth (Some payee) amount = omega arith

pub conditions_back : (account : Text) (payee : Option Text) (amount : ℤ) (recur : Text) (d : Data) → nat_le (unsigned_abs amount) 9_007_199_254_740_991 ≡ true → read recur ≡ Some d → has_float d ≡ false → depth d ≤ 125
    → read (conditions_text account payee amount recur) ≡ Some (array (new_conditions account payee amount d))
conditions_back account payee amount recur d small h f shallow =
    let within = leb-true (unsigned_abs amount) 9_007_199_254_740_991 small in
    let deep = later_depth payee amount in
    ap (λ text. read text) (text_is account payee amount recur d h f)
    ∙ compact_back (array (new_conditions account payee amount d))
    (condition_tidy (codes "date") (codes "isapprox") d (text_tidy recur d h), (condition_tidy (codes "acct") (codes "is") (string account) tt, later_tidy payee amount within))
    (ap₂ (λ a b. (a || false) || b) f (later_whole payee amount))
    (omega (arith, shallow, deep))
