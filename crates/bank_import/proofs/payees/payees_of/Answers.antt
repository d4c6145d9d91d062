use Rattle.std.proofs.Common.{◌≡◌, List, ◌∷◌, Some, sym, ap, cond, ◌∙◌, subst, true, false, rules}
use Rattle.std.specs.Prelude.{string_bytes}
use Rattle.std.specs.Option.{option_or, is_none}
use Rattle.std.specs.BTreeMap as tree
use Rattle.std.specs.BTreeMap.{is_at}
use Rattle.std.specs.FinMap.{entries}
use Rattle.finite_sums.specs.Maps.{Text, text_cmp}
use Rattle.book_rows.specs.declared.rows.PayeeRow.{PayeeRow}
use Rattle.book_edits.specs.Checks.{least_where}
use Rattle.bank_import.specs.Drafts.{is_called}
use Rattle.bank_import.proofs.Found.{found_new, found_old}
use Rattle.bank_import.proofs.Copied.{copied_none, copied_some}
use Rattle.bank_import.proofs.payees.payees_of.Goals as goal

pub loop-id-preserved-in_ok-insert-2 : goal.loop-id-preserved-in_ok-insert-2
loop-id-preserved-in_ok-insert-2 c =
    let e : Text × PayeeRow = (c.in-Some.id.now, c.in-Some.row.now) in
    let all = entries c.args.book.now.rows.payees in
    let step : c.loop-id.id-iterator ≡ e ∷ c.next.new.self = c.in-Some.ensures.steps in
    let inv = λ (q : Text). subst (λ (es : List (Text × PayeeRow)). option_or (tree.get text_cmp c.loop-id.found q) (least_where (is_called q) es) ≡ least_where (is_called q) all) step (c.loop-id.invariant q) in
    let none : is_none c.get.result ≡ true = search rules in
    found_new c.loop-id.found c.in-Some-2.key e (sym c.in_ok-key.ensures ∙ c.in-Some-2.is) c.next.new.self all inv c.insert.new.self
    (sym c.get.ensures.value ∙ copied_none c.get.result none) (λ q. c.in_ok-insert.ensures.updates.0 q ∙ ap (λ (v : Text). cond (is_at (text_cmp (string_bytes c.key.inside.text)) q) (Some v) (tree.get text_cmp c.loop-id.found q)) c.in_ok-copy.ensures
    ∙ ap (λ (k : Text). cond (is_at (text_cmp k) q) (Some c.in-Some.id.now) (tree.get text_cmp c.loop-id.found q)) c.key.view_is)

pub loop-id-preserved-else-is_none : goal.loop-id-preserved-else-is_none
loop-id-preserved-else-is_none c =
    let e : Text × PayeeRow = (c.in-Some.id.now, c.in-Some.row.now) in
    let all = entries c.args.book.now.rows.payees in
    let step : c.loop-id.id-iterator ≡ e ∷ c.next.new.self = c.in-Some.ensures.steps in
    let inv = λ (q : Text). subst (λ (es : List (Text × PayeeRow)). option_or (tree.get text_cmp c.loop-id.found q) (least_where (is_called q) es) ≡ least_where (is_called q) all) step (c.loop-id.invariant q) in
    let there : is_none c.get.result ≡ false = search rules in
    let some = copied_some c.get.result there in
    found_old c.loop-id.found c.in-Some-2.key e (sym c.in_ok-key.ensures ∙ c.in-Some-2.is) c.next.new.self all inv some.0 (sym c.get.ensures.value ∙ some.1)
