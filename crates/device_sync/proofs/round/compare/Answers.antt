use Rattle.std.proofs.Common.{FitsSigned, rules, sym, ◌∙◌, w32}
use Rattle.std.proofs.lemmas.Int.{to_z-of_z}
use Rattle.minute_trie.specs.Trie.{held}
use Rattle.device_sync.proofs.Turns.{compared_none, compared_some, root_is, small_moment}
use Rattle.device_sync.proofs.round.compare.Goals as goal

pub returns-in-None-clause-compared : goal.returns-in-None-clause-compared
returns-in-None-clause-compared c = compared_none c.args.device.now.state.messages c.trie-own.result.now (held c.args.trie.now) c.trie-own.ensures.trie c.in-None.ensures

pub returns-in-Some-clause-compared : goal.returns-in-Some-clause-compared
returns-in-Some-clause-compared c =
    let fits : FitsSigned w32 c.root.result = search rules in
    let others : FitsSigned w32 c.root-in-Some.result = search rules in (
      compared_some c.args.device.now.state.messages c.trie-own.result.now (held c.args.trie.now) c.in-Some.moment c.trie-own.ensures.trie c.in-Some.ensures,
      (
        root_is c.args.device.now.state.messages c.trie-own.result.now _ _ c.trie-own.ensures.trie (to_z-of_z w32 c.root.result fits) c.root.ensures,
        to_z-of_z w32 c.root-in-Some.result others ∙ c.root-in-Some.ensures,
      ),
    )

pub returns-in-Some-clause-moment : goal.returns-in-Some-clause-moment
returns-in-Some-clause-moment c = small_moment (held c.trie-own.result.now) (held c.args.trie.now) c.in-Some.moment (sym c.in-Some.ensures)
