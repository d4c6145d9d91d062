use Rattle.std.proofs.Common.{◌≡◌, ℕ, ◌+◌, List, ◌∷◌, drop, sym, ap, ◌∙◌, rules}
use Rattle.std.proofs.lemmas.List.{drop-drop}
use Rattle.field_merge.specs.Lines.{parts}
use Rattle.world_lines.proofs.Weights.{last_word}
use Rattle.world_lines.proofs.words.text_behind.Goals as goal

behind_one : (k : ℕ) (xs ws : List (List ℕ)) (w : List ℕ) → w ∷ ws ≡ drop k xs → ws ≡ drop (k + 1) xs
behind_one k xs ws w e = ap (drop 1) e ∙ drop-drop 1 k xs

pub loop-at-preserved : goal.loop-at-preserved
loop-at-preserved c = (
  search rules,
  behind_one c.loop-at._at (parts c.args.line.now) (parts c.in-Some.next.now) _ (sym c.in-Some.ensures ∙ c.loop-at.invariant.1),
)

pub returns-in-None-clause-none : goal.returns-in-None-clause-none
returns-in-None-clause-none c = last_word c.args.line.now c.loop-at.rest.now c.loop-at._at c.args.count c.in-None.ensures c.loop-at.invariant.1 c.loop-at-test.true
