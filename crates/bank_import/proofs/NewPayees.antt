-- The payees that an import makes.
use Rattle.std.proofs.Common.{ap, sym, ◌∙◌}
use Rattle.rule_engine.specs.Conditions.{folded}
use Rattle.bank_import.specs.Drafts.{is_called, place_of, new_names}
use Rattle.bank_import.specs.NewPayees.{LawOfNames}
use Rattle.bank_import.proofs.Least.{none_passes}
use Rattle.bank_import.proofs.Outs.{is_not}
use Rattle.bank_import.proofs.NewNames.{some_is, place_name, names_once, names_found, names_first, names_order}
use Rattle.bank_import.proofs.Settled.{wanted_at}

pub law_of_names : LawOfNames
law_of_names = record {
  first = names_first;
  each = λ ds i d name a w.
      let f = names_found ds i d name a w in
      let n = place_name (new_names ds) (folded name) f.0 f.1 in
      (f.0, n.0, n.1, n.2);
  once = λ ds k l name other a b same. some_is k l (sym (names_once ds k name a) ∙ ap (place_of (new_names ds)) same ∙ names_once ds l other b);
  order = names_order;
  new = λ rows account es k name id p a there. is_not (is_called (folded name) p) (λ h. none_passes (is_called (folded name)) rows.payees (wanted_at rows account es k name a) id p there h);
}
