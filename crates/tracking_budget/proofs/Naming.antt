-- What texts name.
use Rattle.std.proofs.Common.{◌≡◌, ℕ, Bool, true, false, cond, List, [], ◌∷◌, ◌++◌, drop, length, Option, None, Some, refl, ap, sym, subst, ◌∙◌}
use Rattle.std.specs.Prelude.{nat_eq, ◌&&◌, not}
use Rattle.std.specs.List.{starts_with}
use Rattle.finite_sums.specs.Maps.{Text}
use Rattle.tracking_budget.specs.declared.name.TrackName.{TrackName}
use Rattle.tracking_budget.specs.declared.name.TrackKind.{TrackKind}
use Rattle.tracking_budget.specs.declared.name.TrackKind.TheVariants.{TotalIncome, TotalBudgetIncome, TotalBudgeted, TotalSpent, TotalLeftover, TotalSaved, RealSaved, Sum, Budget, Carryover, Leftover}
use Rattle.tracking_budget.specs.Names.{kind_text, is_of_month, is_empty, all_kinds, id_behind, this_or, named_by, track_named}
use Rattle.tracking_budget.specs.Laws.{TrackNamesAreRead}
use Rattle.tracking_budget.proofs.Prefixes.{starts_written}

-- the name of a cell names it
named_back : (month : ℕ) (kind : TrackKind) (id : Text) → (is_of_month kind ≡ true → id ≡ []) → track_named month (kind_text kind ++ id) ≡ Some (record { month = month; kind = kind; id = id })
named_back month TotalIncome [] h = refl
named_back month TotalIncome (b ∷ bs) h = absurd (let none : b ∷ bs ≡ [] = h refl in cc)
named_back month TotalBudgetIncome [] h = refl
named_back month TotalBudgetIncome (b ∷ bs) h = absurd (let none : b ∷ bs ≡ [] = h refl in cc)
named_back month TotalBudgeted [] h = refl
named_back month TotalBudgeted (b ∷ bs) h = absurd (let none : b ∷ bs ≡ [] = h refl in cc)
named_back month TotalSpent [] h = refl
named_back month TotalSpent (b ∷ bs) h = absurd (let none : b ∷ bs ≡ [] = h refl in cc)
named_back month TotalLeftover [] h = refl
named_back month TotalLeftover (b ∷ bs) h = absurd (let none : b ∷ bs ≡ [] = h refl in cc)
named_back month TotalSaved [] h = refl
named_back month TotalSaved (b ∷ bs) h = absurd (let none : b ∷ bs ≡ [] = h refl in cc)
named_back month RealSaved [] h = refl
named_back month RealSaved (b ∷ bs) h = absurd (let none : b ∷ bs ≡ [] = h refl in cc)
named_back month Sum id h = refl
named_back month Budget id h = refl
named_back month Carryover id h = refl
named_back month Leftover id h = refl

-- what a text names has the text as its name
record IsNameOf (name : TrackName) (text : Text) : Type 0 where
  id : is_of_month name.kind ≡ true → name.id ≡ []
  same : kind_text name.kind ++ name.id ≡ text

empty_is : (id : Text) → is_empty id ≡ true → id ≡ []
empty_is [] h = refl
empty_is (b ∷ bs) h = absurd (cc)

behind_written : (month : ℕ) (kind : TrackKind) (text id : Text) → id_behind kind text ≡ Some id → IsNameOf (record { month = month; kind = kind; id = id }) text
behind_written month kind text id e = by (starts_with nat_eq text (kind_text kind)) refl e
  where
    rest : Text
    rest = drop (length (kind_text kind)) text

    either : (whole empty : Bool) → is_of_month kind ≡ whole → is_empty rest ≡ empty → starts_with nat_eq text (kind_text kind) ≡ true → cond (whole && not empty) None (Some rest) ≡ Some id
        → IsNameOf (record { month = month; kind = kind; id = id }) text
    either true false p q s found = absurd (cc)
    either true true p q s found =
        let same : rest ≡ id = cc in
        record { id = λ _. sym same ∙ empty_is rest q; same = ap (λ t. kind_text kind ++ t) (sym same) ∙ starts_written (kind_text kind) text s }
    either false empty p q s found =
        let same : rest ≡ id = cc in
        record { id = λ is. absurd (let clash : true ≡ false = sym is ∙ p in cc); same = ap (λ t. kind_text kind ++ t) (sym same) ∙ starts_written (kind_text kind) text s }

    by : (b : Bool) → starts_with nat_eq text (kind_text kind) ≡ b → cond b (cond (is_of_month kind && not (is_empty rest)) None (Some rest)) None ≡ Some id
        → IsNameOf (record { month = month; kind = kind; id = id }) text
    by true s found = either (is_of_month kind) (is_empty rest) refl refl s found
    by false s found = absurd (cc)

named_written : (kinds : List TrackKind) (month : ℕ) (text : Text) (name : TrackName) → named_by kinds month text ≡ Some name → (name.month ≡ month) × IsNameOf name text
named_written [] month text name e = absurd (cc)
named_written (kind ∷ kinds) month text name e = by (id_behind kind text) refl (named_written kinds month text name) e
  where
    by : (o : Option Text) → id_behind kind text ≡ o → (named_by kinds month text ≡ Some name → (name.month ≡ month) × IsNameOf name text) → this_or month kind o (named_by kinds month text) ≡ Some name → (name.month ≡ month) × IsNameOf name text
    by None p rest found = rest found
    by (Some id) p rest found =
        let same : record { month = month; kind = kind; id = id } ≡ name = cc in
        subst (λ (n : TrackName). (n.month ≡ month) × IsNameOf n text) same (refl, behind_written month kind text id p)

pub track_names_are_read_lem : TrackNamesAreRead
track_names_are_read_lem = record {
  read = named_back;
  told = λ month text name e. let is = named_written all_kinds month text name e in (is.0, is.1.same, is.1.id);
}
