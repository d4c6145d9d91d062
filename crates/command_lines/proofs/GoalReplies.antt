-- The lines that tell of shares and of bad lines have no line feed.
use Rattle.std.proofs.Common.{ℕ, ◌+◌, ◌/◌, ◌%◌, Bool, true, false, cond, ◌==◌, List, [], ◌∷◌, ◌++◌, map, Result, Ok, Err, refl, sym, ◌∙◌, arith}
use Rattle.std.specs.Prelude.{codes, ℤ, unsigned_abs, nat_le}
use Rattle.std.specs.Fmt.{decimal, signed_decimal}
use Rattle.std.specs.List.{AllByRecursion}
use Rattle.std.proofs.lemmas.Bool.{ne_eqb}
use Rattle.finite_sums.specs.Maps.{Text}
use Rattle.book_rows.specs.declared.rows.Rows.{Rows}
use Rattle.book_rows.specs.Ids.{two_digits, four_digits, month_id}
use Rattle.book_rows.specs.Named.{HasNames}
use Rattle.envelope_cells.specs.Budget.{expense}
use Rattle.envelope_cells.specs.BudgetOf.{budget_of}
use Rattle.envelope_cells.specs.Ids.{month_number}
use Rattle.envelope_cells.specs.Laws.{LiveOnesAreListed}
use Rattle.envelope_cells.proofs.Listed.{live_ones_are_listed_lem}
use Rattle.goal_templates.specs.declared.share.Asked.{Asked}
use Rattle.goal_templates.specs.declared.share.BadLine.{BadLine}
use Rattle.goal_templates.specs.declared.share.Share.{Share}
use Rattle.goal_templates.specs.declared.template.Template.{Template}
use Rattle.goal_templates.specs.declared.template.TemplateBody.{TemplateBody}
use Rattle.goal_templates.specs.declared.template.TemplateBody.TheVariants.{Amount, UpTo, AmountUpTo, By, Average, CopyFrom}
use Rattle.goal_templates.specs.declared.template.TemplateFault.{TemplateFault}
use Rattle.goal_templates.specs.declared.template.TemplateFault.TheVariants.{Other, Bad, NoMemory}
use Rattle.goal_templates.specs.Allocation.{shared_money}
use Rattle.goal_templates.specs.Amounts.{cents_text, amount_text}
use Rattle.goal_templates.specs.Goals.{shares_in}
use Rattle.goal_templates.specs.Grammar.{body_text, priority_text, template_text}
use Rattle.goal_templates.specs.Notes.{note_lines, asked_by, asked_in, asked_for, templates, bad_by, bad_from, bad_for, bad_lines}
use Rattle.goal_templates.specs.Reading.{template_of}
use Rattle.goal_templates.specs.Sharing.{Wants, put, in_order, share_of, shared}
use Rattle.goal_templates.specs.Wanted.{want_of}
use Rattle.command_lines.specs.BookAnswers.{share_text, bad_text}
use Rattle.command_lines.specs.ReplyLines.{IsLine, AreLines}
use Rattle.command_lines.proofs.BookLineLemmas.{all_among}
use Rattle.command_lines.proofs.PlainTexts.{Plain, both, tested, is_line, plain_of, number_plain, signed_plain}
use Rattle.command_lines.proofs.RowIds.{name_line, there_named}

-- ---- the text of a template

two_plain : (n : ℕ) → Plain (two_digits n)
two_plain n = (ne_eqb (48 + n / 10 % 10) 10 (λ e. omega (arith, e)), (ne_eqb (48 + n % 10) 10 (λ e. omega (arith, e)), tt))

month_plain : (m : ℕ) → Plain (month_id m)
month_plain m =
    let year : ℕ = m / 100 in
    both (four_digits year) (45 ∷ two_digits m) (both (two_digits (year / 100)) (two_digits year) (two_plain (year / 100)) (two_plain year)) (refl, two_plain m)

cents_plain : (n : ℕ) → Plain (cents_text n)
cents_plain n = both (decimal (n / 100)) (cond (n % 100 == 0) [] (46 ∷ two_digits n)) (number_plain (n / 100)) (by (n % 100 == 0))
  where
    by : (b : Bool) → Plain (cond b [] (46 ∷ two_digits n))
    by true = tt
    by false = (refl, two_plain n)

amount_plain : (z : ℤ) → Plain (amount_text z)
amount_plain z = cents_plain (unsigned_abs z)

body_plain : (t : TemplateBody) → Plain (body_text t)
body_plain (Amount z) = amount_plain z
body_plain (UpTo z) = both (codes "up to ") (amount_text z) (tested (codes "up to ") refl) (amount_plain z)
body_plain (AmountUpTo z y) =
    both (amount_text z) (codes " up to " ++ amount_text y) (amount_plain z) (both (codes " up to ") (amount_text y) (tested (codes " up to ") refl) (amount_plain y))
body_plain (By z m) =
    both (amount_text z) (codes " by " ++ month_id m) (amount_plain z) (both (codes " by ") (month_id m) (tested (codes " by ") refl) (month_plain m))
body_plain (Average n) =
    both (codes "average " ++ decimal n) (codes " months") (both (codes "average ") (decimal n) (tested (codes "average ") refl) (number_plain n)) (tested (codes " months") refl)
body_plain (CopyFrom n) =
    both (codes "copy from " ++ decimal n) (codes " months ago") (both (codes "copy from ") (decimal n) (tested (codes "copy from ") refl) (number_plain n))
    (tested (codes " months ago") refl)

priority_plain : (n : ℕ) → Plain (priority_text n)
priority_plain n = by (n == 0)
  where
    by : (b : Bool) → Plain (cond b [] (45 ∷ decimal n))
    by true = tt
    by false = (refl, number_plain n)

template_plain : (t : Template) → Plain (template_text t)
template_plain t =
    both (codes "#template" ++ priority_text t.priority) (32 ∷ body_text t.body)
    (both (codes "#template") (priority_text t.priority) (tested (codes "#template") refl) (priority_plain t.priority))
    (refl, body_plain t.body)

-- ---- a line

share_line : (s : Share) → IsLine s.category → IsLine (share_text s)
share_line s h =
    let template : Text = s.category ++ 9 ∷ template_text s.template in
    let want : Text = template ++ 9 ∷ signed_decimal s.want in
    is_line (share_text s) (both want (9 ∷ signed_decimal s.given)
    (both template (9 ∷ signed_decimal s.want)
    (both s.category (9 ∷ template_text s.template) (plain_of s.category h) (refl, template_plain s.template))
    (refl, signed_plain s.want))
    (refl, signed_plain s.given))

bad_line : (x : BadLine) → IsLine x.category → IsLine (bad_text x)
bad_line x h =
    is_line (bad_text x) (both (codes "bad " ++ x.category) (32 ∷ decimal x.number)
    (both (codes "bad ") x.category (tested (codes "bad ") refl) (plain_of x.category h))
    (refl, number_plain x.number))

-- ---- the categories of templates, of shares and of bad lines

appended : {X : Type 0} (P : X → Type 0) (xs ys : List X) → AllByRecursion P xs → AllByRecursion P ys → AllByRecursion P (xs ++ ys)
appended P [] ys h k = k
appended P (x ∷ xs) ys h k = (h.0, appended P xs ys h.1 k)

abbrev AskedOfLine : Asked → Type 0
AskedOfLine x = IsLine x.category

abbrev ShareOfLine : Share → Type 0
ShareOfLine s = IsLine s.category

abbrev BadOfLine : BadLine → Type 0
BadOfLine x = IsLine x.category

by_read : (c : Text) (o : Result Template TemplateFault) → IsLine c → AllByRecursion AskedOfLine (asked_by c o)
by_read c (Ok t) h = (h, tt)
by_read c (Err fault) h = tt

asked_lines : (c : Text) (lines : List Text) → IsLine c → AllByRecursion AskedOfLine (asked_in c lines)
asked_lines c [] h = tt
asked_lines c (line ∷ lines) h =
    appended AskedOfLine (asked_by c (template_of line)) (asked_in c lines) (by_read c (template_of line) h) (asked_lines c lines h)

all_asked : (rows : Rows) (cs : List Text) → AreLines cs → AllByRecursion AskedOfLine (asked_for rows cs)
all_asked rows [] h = tt
all_asked rows (c ∷ cs) h =
    appended AskedOfLine (asked_in c (note_lines rows c)) (asked_for rows cs) (asked_lines c (note_lines rows c) h.0) (all_asked rows cs h.1)

put_lines : (x : Asked) (ys : List Asked) → AskedOfLine x → AllByRecursion AskedOfLine ys → AllByRecursion AskedOfLine (put x ys)
put_lines x [] h k = (h, tt)
put_lines x (y ∷ ys) h k = by (nat_le x.template.priority y.template.priority) (put_lines x ys h k.1)
  where
    by : (b : Bool) → AllByRecursion AskedOfLine (put x ys) → AllByRecursion AskedOfLine (cond b (x ∷ y ∷ ys) (y ∷ put x ys))
    by true g = (h, k)
    by false g = (k.0, g)

order_lines : (xs : List Asked) → AllByRecursion AskedOfLine xs → AllByRecursion AskedOfLine (in_order xs)
order_lines [] h = tt
order_lines (x ∷ xs) h = put_lines x (in_order xs) h.0 (order_lines xs h.1)

shared_lines : (wants : Wants) (money : ℤ) (xs : List Asked) (done : List Share) → AllByRecursion AskedOfLine xs → AllByRecursion ShareOfLine done
    → AllByRecursion ShareOfLine (shared wants money done xs)
shared_lines wants money [] done h k = k
shared_lines wants money (x ∷ xs) done h k =
    shared_lines wants money xs (done ++ share_of wants money done x ∷ []) h.1 (appended ShareOfLine done (share_of wants money done x ∷ []) k (h.0, tt))

share_texts : (ss : List Share) → AllByRecursion ShareOfLine ss → AreLines (map share_text ss)
share_texts [] h = tt
share_texts (s ∷ ss) h = (share_line s h.0, share_texts ss h.1)

bad_read : (c : Text) (n : ℕ) (o : Result Template TemplateFault) → IsLine c → AllByRecursion BadOfLine (bad_by c n o)
bad_read c n (Ok t) h = tt
bad_read c n (Err Other) h = tt
bad_read c n (Err Bad) h = (h, tt)
bad_read c n (Err NoMemory) h = tt

bad_of : (c : Text) (n : ℕ) (lines : List Text) → IsLine c → AllByRecursion BadOfLine (bad_from c n lines)
bad_of c n [] h = tt
bad_of c n (line ∷ lines) h =
    appended BadOfLine (bad_by c n (template_of line)) (bad_from c (n + 1) lines) (bad_read c n (template_of line) h) (bad_of c (n + 1) lines h)

all_bad : (rows : Rows) (cs : List Text) → AreLines cs → AllByRecursion BadOfLine (bad_for rows cs)
all_bad rows [] h = tt
all_bad rows (c ∷ cs) h =
    appended BadOfLine (bad_from c 1 (note_lines rows c)) (bad_for rows cs) (bad_of c 1 (note_lines rows c) h.0) (all_bad rows cs h.1)

bad_texts : (xs : List BadLine) → AllByRecursion BadOfLine xs → AreLines (map bad_text xs)
bad_texts [] h = tt
bad_texts (x ∷ xs) h = (bad_line x h.0, bad_texts xs h.1)

pub goals_are : (rows : Rows) (month : ℕ) → HasNames rows → AreLines (map share_text (shares_in rows month) ++ map bad_text (bad_lines rows))
goals_are rows month named =
    let listed : LiveOnesAreListed rows = live_ones_are_listed_lem rows in
    let cs : List Text = expense (budget_of rows) in
    let m : ℕ = month_number month in
    let ids : AreLines cs = all_among cs (λ q e. name_line q (there_named rows.categories _ q named.categories (sym (listed.expense q) ∙ e))) in
    let asked : AllByRecursion AskedOfLine (in_order (templates rows)) = order_lines (templates rows) (all_asked rows cs ids) in
    appended IsLine (map share_text (shares_in rows month)) (map bad_text (bad_lines rows))
    (share_texts (shares_in rows month) (shared_lines (want_of (budget_of rows) m) (shared_money (budget_of rows) m (templates rows)) (in_order (templates rows)) [] asked tt))
    (bad_texts (bad_lines rows) (all_bad rows cs ids))
