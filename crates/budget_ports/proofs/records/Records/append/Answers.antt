use Rattle.std.proofs.Common.{◌≡◌, ◌∙◌, [], Some, None, IsSome, cond, refl, ap, sym, subst, rules}
use Rattle.std.specs.BTreeMap as tree
use Rattle.std.specs.BTreeMap.{is_at}
use Rattle.budget_ports.specs.Contents.{text_cmp}
use Rattle.budget_ports.specs.Groups.{with_bodies}
use Rattle.budget_ports.proofs.Groups.{grown, on_ok, on_err}
use Rattle.budget_ports.proofs.records.Records.append.Goals as goal

pub returns-in-Some-clause-ok : goal.returns-in-Some-clause-ok
returns-in-Some-clause-ok c =
    let groups = c.self.inside.groups in
    let there : tree.get text_cmp groups c.args.group.now ≡ Some c.in-Some.records.now = search rules in
    let updates = (c.get_mut.follows.holds c.append.new.self).3 (subst IsSome (sym there) refl) in
    on_ok c.append.result (λ more. grown groups.entries (c.get_mut.follows.lender c.append.new.self).entries c.args.self.now c.args.group.now (Some c.in-Some.records.now) c.append.new.self c.args.batch.now
    c.self.view_is there updates.0 more) c.append.ensures.ok

pub returns-in-Some-clause-err : goal.returns-in-Some-clause-err
returns-in-Some-clause-err c =
    let groups = c.self.inside.groups in
    let there : tree.get text_cmp groups c.args.group.now ≡ Some c.in-Some.records.now = search rules in
    let updates = (c.get_mut.follows.holds c.append.new.self).3 (subst IsSome (sym there) refl) in
    on_err c.append.result (λ same. grown groups.entries (c.get_mut.follows.lender c.append.new.self).entries c.args.self.now c.args.group.now (Some c.in-Some.records.now) c.append.new.self []
    c.self.view_is there updates.0 same) c.append.ensures.err

pub returns-clause-ok : goal.returns-clause-ok
returns-clause-ok c =
    let groups = c.self.inside.groups in
    let same = c.get_mut.follows.holds-at-none in
    let none : tree.get text_cmp groups c.args.group.now ≡ None = search rules in
    grown groups.entries c.insert.new.self.entries c.args.self.now c.args.group.now None c.append-2.new.self c.args.batch.now
    c.self.view_is none
    (λ q. c.in_ok-insert.ensures.updates.0 q ∙ ap (λ k. cond (is_at (text_cmp k) q) (Some c.append-2.new.self) (tree.get text_cmp c.get_mut.follows.lender-at-none q)) c.in_ok-copy.ensures
    ∙ ap (λ m. cond (is_at (text_cmp c.args.group.now) q) (Some c.append-2.new.self) (tree.get text_cmp m q)) same)
    (c.in_ok-append.ensures.ok ∙ ap (λ m. with_bodies m c.args.batch.now) c.new-records.ensures)
