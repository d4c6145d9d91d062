-- A record of a statement after another.
use Rattle.std.proofs.Common.{◌≡◌, ℕ, zero, suc, ◌+◌, ◌<◌, List, [], ◌∷◌, ◌++◌, append_assoc, length, get_or, drop, map, Result, Ok, Err, refl, sym, ap, ◌∙◌, subst, add-one, drop-cons}
use Rattle.std.specs.List.{AllByRecursion}
use Rattle.finite_sums.specs.Maps.{Text}
use Rattle.book_rows.specs.declared.fault.EditFault.{EditFault}
use Rattle.book_edits.specs.Faults.{◌>>=◌, IsEditFault}
use Rattle.bank_import.specs.Statement.{read_record, read_records}
use Rattle.bank_import.specs.declared.entry.Entry.{Entry}
use Rattle.bank_import.specs.declared.entry.Columns.{Columns}

pub rows_at : {X Y : Type 0} (f : X → Y) (xs : List X) (i : ℕ) (x : X) → i < length xs → x ≡ get_or xs i x → map f (drop i xs) ≡ f x ∷ map f (drop (i + 1) xs)
rows_at f xs i x h e = rw add-one (ap (map f) (drop-cons xs i x h ∙ ap (λ y. y ∷ drop (suc i) xs) (sym e)))

all_drop : {X Y : Type 0} (P : Y → Type 0) (f : X → Y) (xs : List X) (i : ℕ) → AllByRecursion P (map f xs) → AllByRecursion P (map f (drop i xs))
all_drop P f xs zero h = h
all_drop P f [] (suc i) h = h
all_drop P f (x ∷ xs) (suc i) h = all_drop P f xs i h.1

-- what holds of all holds of the one at a place
pub all_at : {X Y : Type 0} (P : Y → Type 0) (f : X → Y) (xs : List X) (i : ℕ) (x : X) → i < length xs → x ≡ get_or xs i x → AllByRecursion P (map f xs) → P (f x)
all_at P f xs i x h e all = (subst (AllByRecursion P) (rows_at f xs i x h e) (all_drop P f xs i all)).0

-- entries in front of those that are read
abbrev pub prepend : List Entry → Result (List Entry) EditFault → Result (List Entry) EditFault
prepend xs r = r >>= (λ ys. Ok (xs ++ ys))

twice : (found : List Entry) (x : Entry) (r : Result (List Entry) EditFault) → prepend (found ++ x ∷ []) r ≡ prepend found (r >>= (λ ys. Ok (x ∷ ys)))
twice found x (Ok ys) = ap Ok (append_assoc found (x ∷ []) ys)
twice found x (Err e) = refl

pub good : (c : Columns) (width row : ℕ) (fs : List Text) (rows : List (List Text)) (found : List Entry) (x : Entry) (whole : Result (List Entry) EditFault)
    → read_record c width row fs ≡ Ok x → prepend found (read_records c width row (fs ∷ rows)) ≡ whole
    → prepend (found ++ x ∷ []) (read_records c width (row + 1) rows) ≡ whole
good c width row fs rows found x whole e h =
    twice found x (read_records c width (row + 1) rows)
    ∙ ap (λ r. prepend found (r >>= (λ e. read_records c width (row + 1) rows >>= (λ es. Ok (e ∷ es))))) (sym e) ∙ h

pub bad : (c : Columns) (width row : ℕ) (fs : List Text) (rows : List (List Text)) (found : List Entry) (whole : Result (List Entry) EditFault) (fault : EditFault)
    → IsEditFault (read_record c width row fs) fault → prepend found (read_records c width row (fs ∷ rows)) ≡ whole → IsEditFault whole fault
bad c width row fs rows found whole fault e h some =
    sym h ∙ ap (λ r. prepend found (r >>= (λ e. read_records c width (row + 1) rows >>= (λ es. Ok (e ∷ es))))) (e some)

pub at_last : (found : List Entry) (r : Result (List Entry) EditFault) → prepend found (Ok []) ≡ r → r ≡ Ok found
at_last found r h = sym h ∙ ap Ok (append_nil found)
  where
    append_nil : (xs : List Entry) → xs ++ [] ≡ xs
    append_nil [] = refl
    append_nil (x ∷ xs) = ap (λ ys. x ∷ ys) (append_nil xs)

pub one_more : {X : Type 0} (P : X → Type 0) (xs : List X) (x : X) → AllByRecursion P xs → P x → AllByRecursion P (xs ++ x ∷ [])
one_more P [] x h p = (p, tt)
one_more P (y ∷ xs) x h p = (h.0, one_more P xs x h.1 p)
