use Rattle.std.proofs.Common.{◌≡◌, Bool, Option, sym, ap, ◌∙◌, subst}
use Rattle.std.specs.Prelude.{IfOk}
use Rattle.std.specs.BTreeSet as set
use Rattle.std.specs.Option.{option_copied}
use Rattle.bank_import.specs.declared.facts.Pass.TheVariants.{ById, ByPayee, ByAmount}
use Rattle.finite_sums.specs.Maps.{Text, text_cmp}
use Rattle.bank_import.specs.Matching.{turn, id_of}
use Rattle.bank_import.specs.Groups.{items_of}
use Rattle.bank_import.proofs.Grouped.{turn_none_id, turn_with_id, turn_of_payee, turn_of_amount}
use Rattle.bank_import.proofs.index.Index.claim.Goals as goal

pub returns-in-None-clause-found : goal.returns-in-None-clause-found
returns-in-None-clause-found c =
    sym (ap (λ p. id_of (turn p c.args.facts.now (λ q. set.contains text_cmp c.args.taken.now q) c.args.self.now)) c.in-ById.is
    ∙ turn_none_id c.args.facts.now (λ q. set.contains text_cmp c.args.taken.now q) c.args.self.now c.in-None.is)

pub returns-in-Some-clause-found : goal.returns-in-Some-clause-found
returns-in-Some-clause-found c =
    let tk : Text → Bool = λ q. set.contains text_cmp c.args.taken.now q in
    let r = c.args.facts.now in
    let all = c.self.inside.all.items in
    let to = items_of (option_copied c.get.result) in
    let e : id_of (turn c.args.pass r tk to) ≡ id_of (turn c.args.pass r tk c.args.self.now) =
    ap (λ p. id_of (turn p r tk to)) c.in-ById.is
    ∙ ap (λ g. id_of (turn ById r tk g)) (ap items_of c.get.ensures.value ∙ c.self.invariant.by_id c.in-Some.id)
    ∙ ap id_of (turn_with_id r tk all c.in-Some.id c.in-Some.is)
    ∙ ap (λ x. id_of (turn ById r tk x)) c.self.view_is
    ∙ sym (ap (λ p. id_of (turn p r tk c.args.self.now)) c.in-ById.is) in
    subst (λ (x : Option Text). IfOk c.claim_in.result (λ o. o ≡ x)) e c.claim_in.ensures.found

pub returns-in-ByPayee-clause-found : goal.returns-in-ByPayee-clause-found
returns-in-ByPayee-clause-found c =
    let tk : Text → Bool = λ q. set.contains text_cmp c.args.taken.now q in
    let r = c.args.facts.now in
    let all = c.args.self.now in
    let to = items_of (option_copied c.near.result) in
    let e : id_of (turn c.args.pass r tk to) ≡ id_of (turn c.args.pass r tk all) =
    ap (λ p. id_of (turn p r tk to)) c.in-ByPayee.is
    ∙ ap (λ g. id_of (turn ByPayee r tk g)) c.near.ensures
    ∙ ap id_of (turn_of_payee r tk all)
    ∙ sym (ap (λ p. id_of (turn p r tk all)) c.in-ByPayee.is) in
    subst (λ (x : Option Text). IfOk c.claim_in-in-ByPayee.result (λ o. o ≡ x)) e c.claim_in-in-ByPayee.ensures.found

pub returns-in-ByAmount-clause-found : goal.returns-in-ByAmount-clause-found
returns-in-ByAmount-clause-found c =
    let tk : Text → Bool = λ q. set.contains text_cmp c.args.taken.now q in
    let r = c.args.facts.now in
    let all = c.args.self.now in
    let to = items_of (option_copied c.near-in-ByAmount.result) in
    let e : id_of (turn c.args.pass r tk to) ≡ id_of (turn c.args.pass r tk all) =
    ap (λ p. id_of (turn p r tk to)) c.in-ByAmount.is
    ∙ ap (λ g. id_of (turn ByAmount r tk g)) c.near-in-ByAmount.ensures
    ∙ ap id_of (turn_of_amount r tk all)
    ∙ sym (ap (λ p. id_of (turn p r tk all)) c.in-ByAmount.is) in
    subst (λ (x : Option Text). IfOk c.claim_in-in-ByAmount.result (λ o. o ≡ x)) e c.claim_in-in-ByAmount.ensures.found
