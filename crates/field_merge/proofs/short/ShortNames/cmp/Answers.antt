use Rattle.std.proofs.Common.{◌≡◌, ◌≢◌, ◌∙◌, ℕ, sym}
use Rattle.std.specs.Ordering.{nat_cmp}
use Rattle.field_merge.proofs.ShortLemmas.{by_dataset, by_row, by_second, by_third, by_column, by_none, of_equal}
use Rattle.field_merge.proofs.short.ShortNames.cmp.Goals as goal

pub returns-then-own-others : goal.returns-then-own-others
returns-then-own-others c = rw (← c.self.view_is, ← c.other.view_is)
    (by_dataset c.self.invariant c.other.invariant (rw (← c.self.view_is) at c.requires.own) (rw (← c.other.view_is) at c.requires.other)
    (of_equal (λ (a b : ℕ). a ≢ b) c.get-own.ensures c.get-others.ensures c.if-own-others.true)
    (of_equal (λ (a b : ℕ). c.cmp.result ≡ nat_cmp a b) c.get-own.ensures c.get-others.ensures c.cmp.ensures))

pub returns-then-own-others-2 : goal.returns-then-own-others-2
returns-then-own-others-2 c = rw (← c.self.view_is, ← c.other.view_is)
    (by_row c.self.invariant c.other.invariant (rw (← c.self.view_is) at c.requires.own) (rw (← c.other.view_is) at c.requires.other)
    (sym c.get-own.ensures ∙ c.if-own-others.false ∙ c.get-others.ensures) (of_equal (λ (a b : ℕ). a ≢ b) c.get-own-2.ensures c.get-others-2.ensures c.if-own-others-2.true)
    (of_equal (λ (a b : ℕ). c.cmp-then-own-others-2.result ≡ nat_cmp a b) c.get-own-2.ensures c.get-others-2.ensures c.cmp-then-own-others-2.ensures))

pub returns-then-own-others-3 : goal.returns-then-own-others-3
returns-then-own-others-3 c = rw (← c.self.view_is, ← c.other.view_is)
    (by_second c.self.invariant c.other.invariant (rw (← c.self.view_is) at c.requires.own) (rw (← c.other.view_is) at c.requires.other)
    (sym c.get-own.ensures ∙ c.if-own-others.false ∙ c.get-others.ensures) (sym c.get-own-2.ensures ∙ c.if-own-others-2.false ∙ c.get-others-2.ensures) (of_equal (λ (a b : ℕ). a ≢ b) c.get-own-3.ensures c.get-others-3.ensures c.if-own-others-3.true)
    (of_equal (λ (a b : ℕ). c.cmp-then-own-others-3.result ≡ nat_cmp a b) c.get-own-3.ensures c.get-others-3.ensures c.cmp-then-own-others-3.ensures))

pub returns-then-own-others-4 : goal.returns-then-own-others-4
returns-then-own-others-4 c = rw (← c.self.view_is, ← c.other.view_is)
    (by_third c.self.invariant c.other.invariant (rw (← c.self.view_is) at c.requires.own) (rw (← c.other.view_is) at c.requires.other)
    (sym c.get-own.ensures ∙ c.if-own-others.false ∙ c.get-others.ensures) (sym c.get-own-2.ensures ∙ c.if-own-others-2.false ∙ c.get-others-2.ensures) (sym c.get-own-3.ensures ∙ c.if-own-others-3.false ∙ c.get-others-3.ensures) (of_equal (λ (a b : ℕ). a ≢ b) c.get-own-4.ensures c.get-others-4.ensures c.if-own-others-4.true)
    (of_equal (λ (a b : ℕ). c.cmp-then-own-others-4.result ≡ nat_cmp a b) c.get-own-4.ensures c.get-others-4.ensures c.cmp-then-own-others-4.ensures))

pub returns-then-own-others-5 : goal.returns-then-own-others-5
returns-then-own-others-5 c = rw (← c.self.view_is, ← c.other.view_is)
    (by_column c.self.invariant c.other.invariant (rw (← c.self.view_is) at c.requires.own) (rw (← c.other.view_is) at c.requires.other)
    (sym c.get-own.ensures ∙ c.if-own-others.false ∙ c.get-others.ensures) (sym c.get-own-2.ensures ∙ c.if-own-others-2.false ∙ c.get-others-2.ensures) (sym c.get-own-3.ensures ∙ c.if-own-others-3.false ∙ c.get-others-3.ensures) (sym c.get-own-4.ensures ∙ c.if-own-others-4.false ∙ c.get-others-4.ensures) (of_equal (λ (a b : ℕ). a ≢ b) c.get-own-5.ensures c.get-others-5.ensures c.if-own-others-5.true)
    (of_equal (λ (a b : ℕ). c.cmp-then-own-others-5.result ≡ nat_cmp a b) c.get-own-5.ensures c.get-others-5.ensures c.cmp-then-own-others-5.ensures))

pub returns : goal.returns
returns c = rw (← c.self.view_is, ← c.other.view_is)
    (by_none c.self.invariant c.other.invariant (rw (← c.self.view_is) at c.requires.own) (rw (← c.other.view_is) at c.requires.other)
    (sym c.get-own.ensures ∙ c.if-own-others.false ∙ c.get-others.ensures) (sym c.get-own-2.ensures ∙ c.if-own-others-2.false ∙ c.get-others-2.ensures) (sym c.get-own-3.ensures ∙ c.if-own-others-3.false ∙ c.get-others-3.ensures) (sym c.get-own-4.ensures ∙ c.if-own-others-4.false ∙ c.get-others-4.ensures) (sym c.get-own-5.ensures ∙ c.if-own-others-5.false ∙ c.get-others-5.ensures))
