use Rattle.std.proofs.Common.{◌≡◌, ◌∙◌, Some, None, sym, rules}
use Rattle.std.specs.BTreeMap as tree
use Rattle.budget_ports.specs.Contents.{text_cmp}
use Rattle.budget_ports.proofs.Groups.{after_flattened, no_bodies, if_ok}
use Rattle.budget_ports.proofs.records.Records.after.Goals as goal

pub returns-in-Some : goal.returns-in-Some
returns-in-Some c =
    let groups = c.self.inside.groups in
    let there : tree.get text_cmp groups c.args.group.now ≡ Some c.in-Some.records.now = search rules in
    if_ok c.after.result (λ rs is. is ∙ sym (after_flattened groups.entries c.args.self.now c.args.group.now c.args.after.now (Some c.in-Some.records.now) c.self.view_is there)) c.after.ensures

pub returns-in-None : goal.returns-in-None
returns-in-None c =
    let groups = c.self.inside.groups in
    let none : tree.get text_cmp groups c.args.group.now ≡ None = search rules in
    c.new-in-None.ensures ∙ c.new.ensures.items ∙ sym (after_flattened groups.entries c.args.self.now c.args.group.now c.args.after.now None c.self.view_is none ∙ no_bodies c.args.after.now)
