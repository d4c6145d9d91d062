-- How much the conditions of a rule count.
use Rattle.std.proofs.Common.{◌≡◌, ◌*◌, Bool, true, false, List, [], ◌∷◌, inl, inr, refl, ap, ◌∙◌, arith}
use Rattle.std.specs.Prelude.{◌&&◌, if◌then◌else◌}
use Rattle.std.specs.List.{Contains, list_all}
use Rattle.std.proofs.lemmas.Bool.{and_from}
use Rattle.rule_engine.specs.declared.rule.CondOp.{CondOp}
use Rattle.rule_engine.specs.declared.rule.CondOp.TheVariants.{Is, IsNot, OneOf, NotOneOf, Contains as HasPart, DoesNotContain, IsApprox, IsBetween, Gt, Gte, Lt, Lte}
use Rattle.rule_engine.specs.declared.rule.Condition.{Condition}
use Rattle.rule_engine.specs.declared.rule.Rule.{Rule}
use Rattle.rule_engine.specs.Scores.{op_score, is_exact, score}
use Rattle.rule_laws.specs.Scoring.{exact_tests, counted, ScoresAreTold}
use Rattle.rule_laws.proofs.Choices.{is_false, here, there, first_or_rest, nothing_in, each_of}

exact_so : (op : CondOp) → is_exact op ≡ true → Contains exact_tests op
exact_so Is h = (0, omega arith, refl)
exact_so IsNot h = (1, omega arith, refl)
exact_so IsApprox h = (2, omega arith, refl)
exact_so OneOf h = (3, omega arith, refl)
exact_so NotOneOf h = (4, omega arith, refl)
exact_so other h = cc

so_exact : (op : CondOp) → Contains exact_tests op → is_exact op ≡ true
so_exact op c = each_of (λ o. is_exact o ≡ true) exact_tests op (refl, (refl, (refl, (refl, (refl, tt))))) c

all_exact : (cs : List Condition) → ((c : Condition) → Contains cs c → Contains exact_tests c.op) → list_all (λ (c : Condition). is_exact c.op) cs ≡ true
all_exact [] h = refl
all_exact (c ∷ cs) h = and_from (is_exact c.op) (list_all (λ (d : Condition). is_exact d.op) cs) (so_exact c.op (h c (here c cs))) (all_exact cs (λ d m. h d (there c cs d m)))

one_other : (cs : List Condition) (c : Condition) → Contains cs c → is_exact c.op ≡ false → list_all (λ (d : Condition). is_exact d.op) cs ≡ false
one_other [] c m h = absurd (nothing_in c m)
one_other (x ∷ xs) c m h = elim (first_or_rest x xs c m) [
  | inl e ↦ ap (λ b. b && list_all (λ (d : Condition). is_exact d.op) xs) (ap (λ (d : Condition). is_exact d.op) e ∙ h)
  | inr r ↦ no_more (is_exact x.op) (list_all (λ (d : Condition). is_exact d.op) xs) (one_other xs c r h)
]
  where
    no_more : (a b : Bool) → b ≡ false → (a && b) ≡ false
    no_more true b h = h
    no_more false b h = refl

twice : (r : Rule) → ((c : Condition) → Contains r.conditions c → Contains exact_tests c.op) → score r ≡ 2 * counted r.conditions
unfolding score
twice r h = ap (λ b. if b then 2 * counted r.conditions else counted r.conditions) (all_exact r.conditions h)

once : (r : Rule) (c : Condition) → Contains r.conditions c → (Contains exact_tests c.op → ⊥) → score r ≡ counted r.conditions
unfolding score
once r c m never = ap (λ b. if b then 2 * counted r.conditions else counted r.conditions) (one_other r.conditions c m (is_false (is_exact c.op) (λ h. never (exact_so c.op h))))

pub scores_told : ScoresAreTold
scores_told = record {
  same = λ op c. each_of (λ o. op_score o ≡ 10) (Is ∷ IsNot ∷ []) op (refl, (refl, tt)) c;
  listed = λ op c. each_of (λ o. op_score o ≡ 9) (OneOf ∷ NotOneOf ∷ []) op (refl, (refl, tt)) c;
  near = λ op c. each_of (λ o. op_score o ≡ 5) (IsApprox ∷ IsBetween ∷ []) op (refl, (refl, tt)) c;
  ordered = λ op c. each_of (λ o. op_score o ≡ 1) (Gt ∷ Gte ∷ Lt ∷ Lte ∷ []) op (refl, (refl, (refl, (refl, tt)))) c;
  part = λ op c. each_of (λ o. op_score o ≡ 0) (HasPart ∷ DoesNotContain ∷ []) op (refl, (refl, tt)) c;
  twice = twice;
  once = once;
}
