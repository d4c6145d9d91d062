-- What each template is given in its turn.
use Rattle.std.proofs.Common.{◌≡◌, ◌≢◌, ℕ, ◌+◌, Bool, true, false, cond, List, [], ◌∷◌, ◌++◌, length, length-append, refl, sym, ap, ◌∙◌, arith, append_assoc, append-nil}
use lib.IntN.{ℤ, pos, ◌-ℤ◌}
use Rattle.std.specs.Prelude.{◌==◌}
use Rattle.std.specs.Int.{int_max, int_min}
use Rattle.std.proofs.lemmas.Bool.{eqb-true}
use Rattle.std.proofs.lemmas.List.Sorted.{length_permutation}
use Rattle.goal_templates.specs.declared.share.Share.{Share}
use Rattle.goal_templates.specs.declared.share.Asked.{Asked}
use Rattle.envelope_cells.specs.BudgetOf.{budget_of}
use Rattle.envelope_cells.specs.Ids.{month_number}
use Rattle.goal_templates.specs.Wanted.{want_of}
use Rattle.goal_templates.specs.Notes.{templates}
use Rattle.goal_templates.specs.Allocation.{shared_money}
use Rattle.goal_templates.specs.Sharing.{Wants, in_order, got, all_given, given_to, share_of, shared, shares}
use Rattle.budget_laws.specs.Giving.{IsShareOf, AreInTurn, SharesAreInTurn}
use Rattle.budget_laws.proofs.Noting.{same_ones}

module _ (wants : Wants) (money : ℤ) where
  abbrev one : List Share → Asked → Share
  one done x = share_of wants money done x

  shared_cut : (done : List Share) (xs ys : List Asked) → shared wants money done (xs ++ ys) ≡ shared wants money (shared wants money done xs) ys
  shared_cut done [] ys = refl
  shared_cut done (x ∷ xs) ys = shared_cut (done ++ one done x ∷ []) xs ys

  shared_long : (done : List Share) (xs : List Asked) → length (shared wants money done xs) ≡ length done + length xs
  shared_long done [] = omega arith
  shared_long done (x ∷ xs) =
      let all = shared_long (done ++ one done x ∷ []) xs in
      let long = length-append done (one done x ∷ []) in
      omega (arith, all, long)

  -- what comes behind the shares so far
  behind : (done : List Share) (xs : List Asked) → (after : List Share) × (shared wants money done xs ≡ done ++ after)
  behind done [] = ([], sym (append-nil done))
  behind done (x ∷ xs) =
      let more = behind (done ++ one done x ∷ []) xs in
      (one done x ∷ more.0, more.1 ∙ append_assoc done (one done x ∷ []) more.0)

  given_first : (priority : ℕ) (want left : ℤ) → priority ≡ 0 → given_to priority want left ≡ want
  given_first priority want left e = ap (λ (p : ℕ). given_to p want left) e

  given_later : (priority : ℕ) (want left : ℤ) → priority ≢ 0 → given_to priority want left ≡ int_min want (int_max (pos 0) left)
  given_later priority want left never = by (priority == 0) refl
    where
      by : (t : Bool) → (priority == 0) ≡ t → cond t want (int_min want (int_max (pos 0) left)) ≡ int_min want (int_max (pos 0) left)
      by true e = absurd (never (eqb-true priority 0 e))
      by false e = refl

  is_share : (before : List Share) (x : Asked) → IsShareOf wants money before x (one before x)
  is_share before x = record {
    category = refl;
    template = refl;
    want = refl;
    first = λ e. given_first x.template.priority (wants x.category x.template (got x.category before)) (money -ℤ all_given before) e;
    later = λ never. given_later x.template.priority (wants x.category x.template (got x.category before)) (money -ℤ all_given before) never;
  }

  in_turn : (xs : List Asked) → AreInTurn wants money xs (shares wants money xs)
  in_turn xs = record {
    long = (let all = shared_long [] (in_order xs) in let same = length_permutation xs (in_order xs) (same_ones xs) in omega (arith, all, same));
    each = λ front back x e.
        let before : List Share = shared wants money [] front in
        let more = behind (before ++ one before x ∷ []) back in (
          before,
          more.0,
          one before x,
          ap (shared wants money []) e ∙ shared_cut [] front (x ∷ back) ∙ more.1 ∙ append_assoc before (one before x ∷ []) more.0,
          (let all = shared_long [] front in omega (arith, all)),
          is_share before x,
        );
  }

pub shares_in_turn : SharesAreInTurn
shares_in_turn rows month = in_turn (want_of (budget_of rows) (month_number month)) (shared_money (budget_of rows) (month_number month) (templates rows)) (templates rows)
