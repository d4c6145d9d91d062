use Rattle.std.proofs.Common.{◌≡◌, ◌∙◌, ap, sym, rules}
use Rattle.std.specs.Ordering.{is_eq}
use Rattle.std.specs.Cmp.Rules.{comparing}
use Rattle.field_values.specs.Names.{FieldNames, names_eq, names_cmp}
use Rattle.field_values.proofs.key.FieldKeyPartialEq.eq.Goals as goal

ties : (a b : FieldNames) → names_eq a b ≡ is_eq (names_cmp a b)
ties = Prim.search (comparing, rules)

pub returns : goal.returns
returns c = c.is_eq.ensures ∙ ap is_eq c.cmp.ensures ∙ sym (ties c.args.self.now c.args.other.now)
