-- What an edit is answered, by the writes of its kind.
use Rattle.std.proofs.Common.{◌≡◌, ℕ, List, [], ◌∷◌, Result, Ok, Err, refl, sym, ap, ◌∙◌}
use Rattle.book_rows.specs.declared.fault.EditFault.{EditFault}
use Rattle.book_rows.specs.declared.write.Write.{Write}
use Rattle.edit_history.specs.declared.history.Turn.TheVariants.{New}
use Rattle.device_core.specs.declared.edit.Edit.{Edit}
use Rattle.device_core.specs.declared.edit.Edit.TheVariants.{Book, Pair, Rule, Schedule, Import, GoalsApply}
use Rattle.device_core.specs.Device.{State, writing, edited}
use Rattle.device_core.specs.Several.{WritesAreJoined}
use Rattle.sync_laws.specs.Devices.{IsAnsweredBy, EditsAreOfTheirKind}

module _ (law : WritesAreJoined) (s : State) (edit : Edit) (reading : ℕ) (meant : Result (List Write) EditFault) (is : edited s edit reading ≡ writing s New reading meant) where
  by : (o : Result (List Write) EditFault) → meant ≡ o → edited s edit reading ≡ writing s New reading o
  by o e = is ∙ ap (λ (m : Result (List Write) EditFault). writing s New reading m) e

  answered_by : IsAnsweredBy s edit reading meant
  answered_by = record {
    refused = λ fault e. by (Err fault) e;
    none = λ e. by (Ok []) e ∙ law.none s New reading;
    accepted = λ w ws clock e few drawn. (let a = law.accepted s New reading w ws clock few drawn in (a.0, (by (Ok (w ∷ ws)) e ∙ a.1.0, a.1.1)));
    no_stamp = λ w ws fault e few none. by (Ok (w ∷ ws)) e ∙ law.no_stamp s New reading w ws fault few none;
    made = λ w ws after ahead e accepted. law.joined s New reading w ws after ahead (sym (by (Ok (w ∷ ws)) e) ∙ accepted);
  }

pub of_their_kind : WritesAreJoined → EditsAreOfTheirKind
of_their_kind law = record {
  books = λ s edit reading. answered_by law s (Book edit) reading _ refl;
  pairs = λ s edit reading. answered_by law s (Pair edit) reading _ refl;
  rules = λ s edit reading. answered_by law s (Rule edit) reading _ refl;
  schedules = λ s edit reading. answered_by law s (Schedule edit) reading _ refl;
  imports = λ s edit reading. answered_by law s (Import edit) reading _ refl;
  goals = λ s month reading. answered_by law s (GoalsApply month) reading _ refl;
}
