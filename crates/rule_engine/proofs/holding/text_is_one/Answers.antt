use Rattle.std.proofs.Common.{rules, tests, ◌≡◌}
use Rattle.std.specs.List.{list_any}
use Rattle.std.proofs.lemmas.Iterator.{YieldsList-from_slice}
use Rattle.std.proofs.lemmas.Iterator.Search.{any_from_yields_List}
use Rattle.rule_engine.specs.Conditions.{is_same_text}
use Rattle.rule_engine.proofs.holding.text_is_one.Goals as goal

pub returns-in-Texts : goal.returns-in-Texts
returns-in-Texts c =
    let text = c.args.text.now in
    let items = c.in-Texts.texts in
    let is : c.any.result ≡ list_any (is_same_text text) items = any_from_yields_List (is_same_text text) _ _ c.any.result c.any.ensures.ran (YieldsList-from_slice items cc) (λ x b q k. search (rules, tests)) in
    rw c.in-Texts.is is
