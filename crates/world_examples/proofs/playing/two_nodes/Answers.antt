use Rattle.std.proofs.Common.{◌≡◌, ◌≢◌, ℕ, List, [], ◌∷◌, ◌++◌, Result, Ok, Err, refl, sym, ap, ◌∙◌, subst, arith, get_or}
use Rattle.std.specs.Prelude.{codes}
use Rattle.hybrid_clock.specs.declared.node.NodeFault.{NodeFault}
use Rattle.hybrid_clock.specs.Node.{node_of}
use Rattle.sync_world.specs.Right.{AreDifferent}
use Rattle.world_examples.proofs.Steps.{two_differ}
use Rattle.world_examples.proofs.playing.two_nodes.Goals as goal

first : node_of (codes "1") ≡ Ok (codes "0000000000000001")
unfolding node_of
first = refl

second : node_of (codes "2") ≡ Ok (codes "0000000000000002")
unfolding node_of
second = refl

abbrev ok_of : Result (List ℕ) NodeFault → List ℕ
ok_of (Ok xs) = xs
ok_of (Err fault) = []

apart : (a b : List ℕ) → node_of (codes "1") ≡ Ok a → node_of (codes "2") ≡ Ok b → a ≢ b
apart a b is also same =
    let path : codes "0000000000000001" ≡ codes "0000000000000002" = ap ok_of (sym first ∙ is) ∙ same ∙ sym (ap ok_of (sym second ∙ also)) in
    let last : 49 ≡ 50 = ap (λ (xs : List ℕ). get_or xs 15 0) path in
    omega (arith, last)

pub returns : goal.returns
returns c =
    subst AreDifferent (sym (c.in_ok-push-2.ensures.items ∙ ap (λ (ns : List (List ℕ)). ns ++ c.in_ok-make-2.field-0 ∷ []) (c.in_ok-push.ensures.items ∙ ap (λ (ns : List (List ℕ)). ns ++ c.in_ok-make.field-0 ∷ []) c.new-nodes.ensures.items)))
    (two_differ c.in_ok-make.field-0 c.in_ok-make-2.field-0 (apart c.in_ok-make.field-0 c.in_ok-make-2.field-0 (sym c.make.ensures.is ∙ c.in_ok-make.was) (sym c.make-2.ensures.is ∙ c.in_ok-make-2.was)))
