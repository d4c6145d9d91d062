use Rattle.std.proofs.Common.{◌≡◌, Bool, true, false, cond, [], ◌∷◌, ◌++◌, Some, None, IsSome, refl, ap, sym, ◌∙◌, rules, subst}
use Rattle.std.specs.BTreeMap as tree
use Rattle.std.specs.BTreeMap.{BTreeMap, is_at}
use Rattle.std.specs.Global.{Vec}
use Rattle.finite_sums.specs.Maps.{Text, text_cmp}
use Rattle.envelope_cells.specs.Places.{items_of, members_of}
use Rattle.envelope_cells.proofs.Among.{same_texts}
use Rattle.envelope_cells.proofs.groups.enter.Goals as goal

entered : (m n : BTreeMap Text (Vec Text)) (group id : Text) (v : Vec Text) → ((k : Text) → tree.get text_cmp n k ≡ cond (is_at (text_cmp group) k) (Some v) (tree.get text_cmp m k))
    → v.items ≡ members_of m group ++ id ∷ [] → (g : Text) → members_of n g ≡ cond (is_at (text_cmp group) g) (members_of m g ++ id ∷ []) (members_of m g)
entered m n group id v at items g = ap items_of (at g) ∙ by (is_at (text_cmp group) g) refl
  where
    by : (b : Bool) → is_at (text_cmp group) g ≡ b → items_of (cond b (Some v) (tree.get text_cmp m g)) ≡ cond b (members_of m g ++ id ∷ []) (members_of m g)
    by true e = items ∙ ap (λ q. members_of m q ++ id ∷ []) (same_texts group g e)
    by false e = refl

pub returns-in-Some : goal.returns-in-Some
returns-in-Some c =
    let members = c.args.members.now in
    let there : tree.get text_cmp members c.args.group ≡ Some c.in-Some.ids.now = search rules in
    let updates = (c.get_mut.follows.holds c.push.new.self).3 (subst IsSome (sym there) refl) in
    entered members (c.get_mut.follows.lender c.push.new.self) c.args.group c.args.id c.push.new.self updates.0
    (c.in_ok-push.ensures.items ∙ ap (λ xs. xs ++ c.args.id ∷ []) (sym (ap items_of there)))

pub returns : goal.returns
returns c =
    let members = c.args.members.now in
    let none : tree.get text_cmp members c.args.group ≡ None = search rules in
    let same = c.get_mut.follows.holds-at-none in
    let first : c.push-2.new.self.items ≡ [] ++ c.args.id ∷ [] = c.in_ok-push-2.ensures.items ∙ ap (λ xs. xs ++ c.args.id ∷ []) c.new-ids.ensures.items in
    entered members c.insert.new.self c.args.group c.args.id c.push-2.new.self
    (λ k. c.in_ok-insert.ensures.updates.0 k ∙ ap (λ m. cond (is_at (text_cmp c.args.group) k) (Some c.push-2.new.self) (tree.get text_cmp m k)) same)
    (first ∙ ap (λ xs. xs ++ c.args.id ∷ []) (sym (ap items_of none)))
