use Rattle.std.proofs.Common.{◌≡◌, ◌++◌, ◌∷◌, [], sym, ap, ◌∙◌, true, length, rules}
use Rattle.std.specs.Option.{is_none}
use Rattle.std.specs.BTreeMap as tree
use Rattle.finite_sums.specs.Maps.{text_cmp}
use Rattle.bank_import.specs.Drafts.{place_of}
use Rattle.bank_import.proofs.Found.{name_more}
use Rattle.bank_import.proofs.Copied.{copied_none}
use Rattle.bank_import.proofs.names.Names.add.Goals as goal
use Rattle.bank_import.proofs.names.Names.add.Goals.{then-is_none+in-Ok+in_ok-insert+in_ok-copy+in_ok-push, else-is_none}

pub invariant_of-result : goal.invariant_of-result
invariant_of-result c = λ q.
    elim c.if-is_none.branch [
      | then-is_none+in-Ok+in_ok-insert+in_ok-copy+in_ok-push w ↦
          let none : is_none c.get.result ≡ true = search rules in
          let at : w.in-Ok.at ≡ length c.self.inside.list.items = search rules in
          name_more c.self.inside.places c.if-is_none.places c.self.inside.list.items c.if-is_none.list.items c.in_ok-key.key c.args.name.now w.in-Ok.at
          c.in_ok-key.ensures at (sym c.get.ensures.value ∙ copied_none c.get.result none)
          (λ k. ap (λ m. tree.get text_cmp m k) w.places-is ∙ w.in_ok-insert.ensures.updates.0 k)
          (ap (λ v. v.items) w.list-is ∙ w.in_ok-push.ensures.items ∙ ap (λ t. c.self.inside.list.items ++ t ∷ []) w.in_ok-copy.ensures)
          c.self.invariant q
      | else-is_none w ↦ ap (λ m. tree.get text_cmp m q) w.places-is ∙ c.self.invariant q ∙ sym (ap (λ v. place_of v.items q) w.list-is)
    ]
