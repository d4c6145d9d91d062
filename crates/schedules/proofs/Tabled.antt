-- The table of the days of a month that are meant.
use Rattle.std.proofs.Common.{◌≡◌, ℕ, ◌+◌, ◌<◌, ◌≤◌, Bool, true, false, List, length, length-set, get_or, set, take, replicate, refl, sym, ap, ◌∙◌, subst, arith}
use Rattle.std.specs.Prelude.{◌||◌, ◌&&◌, ◌==◌}
use Rattle.std.proofs.lemmas.List.{get_or-set_same, get_or-set_other, get_or-replicate, length-replicate}
use Rattle.std.proofs.lemmas.List.Folds.{list_any_more}
use Rattle.std.specs.List.{list_any}
use Rattle.std.proofs.lemmas.Bool.{eq-eqb, eqb-true, false_from_ne_true}
use Rattle.schedules.specs.declared.month.MonthDay.{MonthDay}
use Rattle.schedules.specs.declared.recurrence.Pattern.{Pattern}
use Rattle.schedules.specs.declared.recurrence.Pattern.TheVariants.{Place, Last}
use Rattle.schedules.specs.Months.{month_length}
use Rattle.schedules.specs.Days.{is_at}
use Rattle.schedules.specs.Meant.{means_by}

turned : (a b : Bool) → (a || b) ≡ (b || a)
turned true true = refl
turned true false = refl
turned false true = refl
turned false false = refl

or_false : (a : Bool) → (a || false) ≡ a
or_false true = refl
or_false false = refl

or_both : (a b c : Bool) → (a || (b || c)) ≡ ((a || b) || c)
or_both true b c = refl
or_both false b c = refl

by_bool : {P : Type 0} (b : Bool) → (b ≡ true → P) → (b ≡ false → P) → P
by_bool true f g = f refl
by_bool false f g = g refl

-- one more place
set_told : (named : List Bool) (at i : ℕ) → at < length named → get_or (set named at true) i false ≡ ((i == at) || get_or named i false)
set_told named at i within =
    by_bool (i == at)
    (λ e. ap (λ k. get_or (set named at true) k false) (eqb-true i at e) ∙ get_or-set_same named at true false within ∙ sym (ap (λ b. b || get_or named i false) e))
    (λ e. get_or-set_other named at i true false (λ same. let t = eq-eqb i at same in let bad : true ≡ false = sym t ∙ e in cc) ∙ sym (ap (λ b. b || get_or named i false) e))

none_named : (i : ℕ) → i ≤ 31 → get_or (replicate 32 false) i false ≡ false
none_named i h = get_or-replicate 32 i false false (omega arith)

pub only_told : (place : ℕ) (m : MonthDay) → place ≤ 31 → m.place ≤ 31 → means_by (set (replicate 32 false) place true) false m ≡ (m.place == place)
only_told place m within h =
    let size = length-replicate {A = Bool} 32 false in
    or_false _ ∙ set_told (replicate 32 false) place m.place (omega (arith, size)) ∙ ap (λ b. (m.place == place) || b) (none_named m.place h) ∙ or_false _

-- what the table has so far
pub record HasSoFar (named : List Bool) (last : Bool) (test : MonthDay → Bool) : Type 0 where
  pub size : length named ≡ 32
  pub told : (m : MonthDay) → m.place ≤ 31 → means_by named last m ≡ test m

pub as_told : {named more : List Bool} {last now : Bool} {test : MonthDay → Bool} → more ≡ named → now ≡ last → HasSoFar named last test → HasSoFar more now test
as_told {named} {more} {last} {now} {test} n l h = subst (λ xs. HasSoFar xs now test) (sym n) (subst (λ b. HasSoFar named b test) (sym l) h)

pub has_none : HasSoFar (replicate 32 false) false (λ m. false)
has_none = record { size = length-replicate {A = Bool} 32 false; told = λ m h. or_false _ ∙ none_named m.place h }

step : (ps : List Pattern) (i : ℕ) (d p : Pattern) (m : MonthDay) → i < length ps → get_or ps i d ≡ p → list_any (is_at m) (take (i + 1) ps) ≡ (list_any (is_at m) (take i ps) || is_at m p)
step ps i d p m h e = list_any_more (is_at m) ps i d h ∙ ap (λ x. list_any (is_at m) (take i ps) || is_at m x) e

pub has_place : (named : List Bool) (last : Bool) (ps : List Pattern) (i : ℕ) (d : Pattern) (at : ℕ) → i < length ps → get_or ps i d ≡ Place at → at < 32
    → HasSoFar named last (λ m. list_any (is_at m) (take i ps)) → HasSoFar (set named at true) last (λ m. list_any (is_at m) (take (i + 1) ps))
has_place named last ps i d at h is within inv =
    let size = inv.size in
    record {
      size = length-set named at true ∙ inv.size;
      told = λ m k.
          ap (λ b. b || (last && m.place == month_length m.month)) (set_told named at m.place (omega arith))
          ∙ sym (or_both (m.place == at) (get_or named m.place false) (last && m.place == month_length m.month))
          ∙ ap (λ b. (m.place == at) || b) (inv.told m k)
          ∙ turned (m.place == at) (list_any (is_at m) (take i ps))
          ∙ sym (step ps i d (Place at) m h is);
    }

pub has_far : (named : List Bool) (last : Bool) (ps : List Pattern) (i : ℕ) (d : Pattern) (at : ℕ) → i < length ps → get_or ps i d ≡ Place at → 32 ≤ at
    → HasSoFar named last (λ m. list_any (is_at m) (take i ps)) → HasSoFar named last (λ m. list_any (is_at m) (take (i + 1) ps))
has_far named last ps i d at h is far inv = record {
  size = inv.size;
  told = λ m k.
      inv.told m k ∙ sym (or_false _) ∙ ap (λ b. list_any (is_at m) (take i ps) || b) (sym (apart m.place at (omega arith)))
      ∙ sym (step ps i d (Place at) m h is);
}
  where
    apart : (a b : ℕ) → a < b → (a == b) ≡ false
    apart a b less = false_from_ne_true (a == b) (λ t. let same = eqb-true a b t in omega (arith, same))

pub has_last : (named : List Bool) (last : Bool) (ps : List Pattern) (i : ℕ) (d : Pattern) → i < length ps → get_or ps i d ≡ Last
    → HasSoFar named last (λ m. list_any (is_at m) (take i ps)) → HasSoFar named true (λ m. list_any (is_at m) (take (i + 1) ps))
has_last named last ps i d h is inv = record {
  size = inv.size;
  told = λ m k.
      with_last (get_or named m.place false) last (m.place == month_length m.month)
      ∙ ap (λ b. b || m.place == month_length m.month) (inv.told m k)
      ∙ sym (step ps i d Last m h is);
}
  where
    with_last : (a last b : Bool) → (a || (true && b)) ≡ ((a || (last && b)) || b)
    with_last true last b = refl
    with_last false true true = refl
    with_last false true false = refl
    with_last false false b = refl
