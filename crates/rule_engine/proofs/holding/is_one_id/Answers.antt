use Rattle.std.proofs.Common.{rules, tests, ◌≡◌, ◌∙◌, sym}
use Rattle.std.specs.List.{list_any}
use Rattle.std.specs.Str.{bytes_eq}
use Rattle.std.proofs.lemmas.Iterator.{YieldsList-from_slice}
use Rattle.std.proofs.lemmas.Iterator.Search.{any_from_yields_List}
use Rattle.rule_engine.specs.Conditions.{mapped_by}
use Rattle.rule_engine.proofs.Resolved.{any_over}
use Rattle.rule_engine.proofs.holding.is_one_id.Goals as goal

pub returns-in-Texts-Some : goal.returns-in-Texts-Some
returns-in-Texts-Some c =
    let id = c.in-Texts-Some.id.now in
    let items = c.in-Texts-Some.texts in
    let other = mapped_by c.args.book.now.rows c.args.field in
    let is : c.any.result ≡ list_any (λ t. bytes_eq id (other t)) items = any_from_yields_List (λ t. bytes_eq id (other t)) _ _ c.any.result c.any.ensures.ran (YieldsList-from_slice items cc) (λ x b q k. search (rules, tests)) in
    rw (c.in-Texts-Some.is-0, c.in-Texts-Some.is-1) (is ∙ sym (any_over (bytes_eq id) other items))
