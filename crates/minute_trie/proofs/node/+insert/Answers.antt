use Rattle.std.proofs.Common.{◌≡◌, ◌&&◌, is_some, List, [], ◌∷◌, Ok, Err, Some, OnOk, refl, sym, ◌∙◌, ap, ap₂}
use Rattle.std.proofs.Math.Path.{fun_ext}
use Rattle.minute_trie.specs.declared.key.Digit.{Digit}
use Rattle.minute_trie.specs.declared.key.Digit.TheVariants.{Zero, One, Two}
use Rattle.minute_trie.specs.Held.{at_node, at_below, after}
use Rattle.minute_trie.specs.Adding.{added, instead, with_two_greatest, xored}
use Rattle.minute_trie.proofs.Inserting.{insert_here, none_stays, laid_zero, laid_one, laid_two, thinned, child_there, child_new, none_left}
use Rattle.minute_trie.proofs.Nodes.{rolled_zero, rolled_one, rolled_two, rolled_hash}
use Rattle.std.specs.Box.{with_value}
use Rattle.minute_trie.proofs.node.+insert.Goals as goal
use Rattle.minute_trie.proofs.node.+insert.Goals.{Node::insert-in-Zero+else-not-is_full, Node::insert-in-Zero+then-not-is_full+in_ok-insert_below-in-Zero, Node::insert-in-One+in_ok-insert_below-in-One, Node::insert-in-Two+in_ok-insert_below-in-Two}

pub Node::insert-returns-after-digit : goal.Node::insert-returns-after-digit
Node::insert-returns-after-digit t c p =
    let old = at_node c.args.self.now in
    let rest = c.in-Some.rest.now in
    let hash = c.args.hash in
    elim c.match-digit.branch [
      | Node::insert-in-Zero+else-not-is_full w ↦
          let key : c.args.key.now ≡ Zero ∷ c.in-Some.rest.now = c.in-Some.ensures.cases.0 ∙ ap (λ d. d ∷ c.in-Some.rest.now) w.in-Zero.is in
          let laid = insert_here c.args.self.now hash in
          let full = sym (ap₂ (λ a b. is_some a && is_some b) (laid (One ∷ [])) (laid (Two ∷ []))) ∙ sym w.is_full.ensures ∙ w.if-not-is_full.false in
          c.prune.ensures p ∙ ap (λ n. with_two_greatest (at_node n) p) w.self-is ∙ ap (λ h. with_two_greatest h p) (fun_ext laid)
          ∙ none_stays (xored hash old) (added rest hash (after Zero old)) full p ∙ sym (ap (λ k. added k hash old p) key)
      | Node::insert-in-Zero+then-not-is_full+in_ok-insert_below-in-Zero w ↦
          let key : c.args.key.now ≡ Zero ∷ c.in-Some.rest.now = c.in-Some.ensures.cases.0 ∙ ap (λ d. d ∷ c.in-Some.rest.now) w.in-Zero.is in
          let laid = laid_zero c.args.self.now rest hash w.insert_below.new.child (rw rolled_zero at w.in_ok-insert_below-in-Zero.ensures) in
          let there = simp (rolled_hash, rolled_zero, rolled_one, rolled_two) at w.self-is in
          thinned _ _ (instead Zero (added rest hash (after Zero old)) (xored hash old)) _ c.prune.ensures (rw there laid) (ap (λ k. added k hash old) key) p
      | Node::insert-in-One+in_ok-insert_below-in-One w ↦
          let key : c.args.key.now ≡ One ∷ c.in-Some.rest.now = c.in-Some.ensures.cases.0 ∙ ap (λ d. d ∷ c.in-Some.rest.now) w.in-One.is in
          let laid = laid_one c.args.self.now rest hash w.insert_below-in-One.new.child (rw rolled_one at w.in_ok-insert_below-in-One.ensures) in
          let there = simp (rolled_hash, rolled_zero, rolled_one, rolled_two) at w.self-is in
          thinned _ _ (instead One (added rest hash (after One old)) (xored hash old)) _ c.prune.ensures (rw there laid) (ap (λ k. added k hash old) key) p
      | Node::insert-in-Two+in_ok-insert_below-in-Two w ↦
          let key : c.args.key.now ≡ Two ∷ c.in-Some.rest.now = c.in-Some.ensures.cases.0 ∙ ap (λ d. d ∷ c.in-Some.rest.now) w.in-Two.is in
          let laid = laid_two c.args.self.now rest hash w.insert_below-in-Two.new.child (rw rolled_two at w.in_ok-insert_below-in-Two.ensures) in
          let there = simp (rolled_hash, rolled_zero, rolled_one, rolled_two) at w.self-is in
          thinned _ _ (instead Two (added rest hash (after Two old)) (xored hash old)) _ c.prune.ensures (rw there laid) (ap (λ k. added k hash old) key) p
    ]

pub Node::insert-returns-in_default : goal.Node::insert-returns-in_default
Node::insert-returns-in_default t c p = rw (none_left c.args.key.now c.in_default.ensures.cases) (insert_here c.args.self.now c.args.hash p)

pub insert_below-returns-in-Some : goal.insert_below-returns-in-Some
insert_below-returns-in-Some t c =
    elim c.insert.result as (λ r. OnOk r ((p : List Digit) → at_node c.insert.new.self p ≡ added c.args.key.now c.args.hash (at_node c.deref_mut.result.now) p) →
    OnOk r ((p : List Digit) → at_below (Some (with_value c.in-Some.node c.insert.new.self)) p ≡ added c.args.key.now c.args.hash (at_below c.args.child.now) p)) [
      | Ok u ↦ λ put. child_there c.args.key.now c.args.hash c.args.child.now c.deref_mut.result.now c.insert.new.self c.in-Some.node (with_value c.in-Some.node c.insert.new.self) c.in-Some.is c.deref_mut.ensures.value refl put
      | Err e ↦ λ put. put
    ] c.insert.ensures

pub insert_below-returns-in_ok-new-in-None : goal.insert_below-returns-in_ok-new-in-None
insert_below-returns-in_ok-new-in-None t c =
    child_new c.args.key.now c.args.hash c.args.child.now c.new-node.result c.insert-in-None.new.self c.in_ok-new-in-None.field-0 c.in-None.is c.new-node.ensures c.in_ok-new-in-None.ensures.ok c.in_ok-insert-in-None.ensures
