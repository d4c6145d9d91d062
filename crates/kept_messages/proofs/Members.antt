-- What holds of messages that join, and which of them are new.
use Rattle.std.proofs.Common.{slice_index_or, drop, suc, ◌+◌, add-one, drop-cons, ◌≡◌, ℕ, zero, ◌<◌, List, [], ◌∷◌, ◌++◌, Bool, true, false, not, cond, map, length, is_none, refl, sym, ap, subst, ◌∙◌, append_assoc, arith}
use Rattle.std.specs.Ordering.{is_lt}
use Rattle.std.specs.List.{find, list_any, Contains, AllByRecursion}
use Rattle.std.proofs.lemmas.List.{map-append}
use Rattle.field_merge.specs.declared.message.Message.{Message}
use Rattle.field_merge.specs.Log.{has_stamp, by_stamp, placed, join_one, join, at_stamp}
use Rattle.field_merge.proofs.Members.{here, there}
use Rattle.field_merge.proofs.Placing.{all_placed}
use Rattle.budget_ports.specs.declared.keeper.Record.{Record}
use Rattle.kept_messages.specs.Records.{record_of}
use Rattle.kept_messages.specs.News.{new_in}

module _ (P : Message → Type 0) where
  pub all_one : (ms : List Message) (n : Message) → P n → AllByRecursion P ms → AllByRecursion P (join_one ms n)
  all_one ms n p all = elim (list_any (has_stamp n.stamp) ms) as (λ b. AllByRecursion P (cond b ms (placed by_stamp ms n))) [
    | true ↦ all
    | false ↦ all_placed by_stamp P ms n p all
  ]

  pub all_join : (ms ns : List Message) → AllByRecursion P ms → AllByRecursion P ns → AllByRecursion P (join ms ns)
  all_join ms [] all new = all
  all_join ms (n ∷ ns) all new = all_join (join_one ms n) ns (all_one ms n new.0 all) new.1

  pub all_new : (ms ns : List Message) → AllByRecursion P ns → AllByRecursion P (new_in ms ns)
  all_new ms [] new = tt
  all_new ms (n ∷ ns) new = elim (list_any (has_stamp n.stamp) ms) as (λ b. AllByRecursion P (cond b (new_in ms ns) (n ∷ new_in (join_one ms n) ns))) [
    | true ↦ all_new ms ns new.1
    | false ↦ (new.0, all_new (join_one ms n) ns new.1)
  ]

-- a placed message is a member, and each member stays one
pub placed_is_there : (ms : List Message) (n : Message) → Contains (placed by_stamp ms n) n
placed_is_there [] n = here n []
placed_is_there (m ∷ ms) n =
    elim (is_lt (by_stamp n m)) as (λ b. Contains (cond b (n ∷ m ∷ ms) (m ∷ placed by_stamp ms n)) n) [
      | true ↦ here n (m ∷ ms)
      | false ↦ there m (placed by_stamp ms n) n (placed_is_there ms n)
    ]

behind_too : (x m : Message) (ms ns : List Message) → (Contains ms m → Contains ns m) → Contains (x ∷ ms) m → Contains (x ∷ ns) m
behind_too x m ms ns f (zero, within, is) = subst (Contains (x ∷ ns)) is (here x ns)
behind_too x m ms ns f (suc k, within, is) = there x ns m (f (k, omega (arith, within), is))

pub still_there : (ms : List Message) (n m : Message) → Contains ms m → Contains (placed by_stamp ms n) m
still_there [] n m (k, within, is) = absurd (omega (arith, within))
still_there (x ∷ ms) n m c =
    elim (is_lt (by_stamp n x)) as (λ b. Contains (cond b (n ∷ x ∷ ms) (x ∷ placed by_stamp ms n)) m) [
      | true ↦ there n (x ∷ ms) m c
      | false ↦ behind_too x m ms (placed by_stamp ms n) (still_there ms n m) c
    ]

-- the first of some messages, and then the others
pub new_on : (ms : List Message) (n : Message) (ns : List Message) → new_in ms (n ∷ ns) ≡ new_in ms (n ∷ []) ++ new_in (join_one ms n) ns
new_on ms n ns = go (list_any (has_stamp n.stamp) ms) refl
  where
    go : (b : Bool) → list_any (has_stamp n.stamp) ms ≡ b → new_in ms (n ∷ ns) ≡ new_in ms (n ∷ []) ++ new_in (join_one ms n) ns
    go true is = rw is refl
    go false is = rw is refl

-- the records of the new ones, taken on from a batch
pub batch_on : (before batch : List Record) (ms : List Message) (n : Message) (ns : List Message) (all : List Record) → batch ≡ before ++ map record_of (new_in ms (n ∷ []))
    → before ++ map record_of (new_in ms (n ∷ ns)) ≡ all → batch ++ map record_of (new_in (join_one ms n) ns) ≡ all
batch_on before batch ms n ns all is rest =
    ap (λ b. b ++ map record_of (new_in (join_one ms n) ns)) is
    ∙ append_assoc before (map record_of (new_in ms (n ∷ []))) (map record_of (new_in (join_one ms n) ns))
    ∙ ap (λ l. before ++ l) (sym (map-append record_of (new_in ms (n ∷ [])) (new_in (join_one ms n) ns)) ∙ ap (map record_of) (sym (new_on ms n ns)))
    ∙ rest

pub found_any : (p : Message → Bool) (ms : List Message) → is_none (find p ms) ≡ not (list_any p ms)
found_any p [] = refl
found_any p (m ∷ ms) = go (p m) refl (found_any p ms)
  where
    go : (b : Bool) → p m ≡ b → is_none (find p ms) ≡ not (list_any p ms) → is_none (find p (m ∷ ms)) ≡ not (list_any p (m ∷ ms))
    go true h rest = rw h refl
    go false h rest = rw h rest

-- one message's record is in the batch where its timestamp is new
pub one_new : (ms : List Message) (n : Message) (is_new : Bool) (kept : Record) → is_new ≡ is_none (at_stamp ms n.stamp) → kept ≡ record_of n → cond is_new (kept ∷ []) [] ≡ map record_of (new_in ms (n ∷ []))
one_new ms n is_new kept fresh is = go (list_any (has_stamp n.stamp) ms) refl
  where
    go : (b : Bool) → list_any (has_stamp n.stamp) ms ≡ b → cond is_new (kept ∷ []) [] ≡ map record_of (new_in ms (n ∷ []))
    go true h = let old : is_new ≡ false = fresh ∙ found_any (has_stamp n.stamp) ms ∙ ap not h in rw (old, h) refl
    go false h = let new : is_new ≡ true = fresh ∙ found_any (has_stamp n.stamp) ms ∙ ap not h in rw (new, h) (ap (λ r. r ∷ []) is)

-- the list from a place on
pub from_place : {X : Type 0} (xs : List X) (i : ℕ) (x : X) → i < length xs → x ≡ slice_index_or xs i x → drop i xs ≡ x ∷ drop (i + 1) xs
from_place xs i x within is = rw (add-one, drop-cons xs i x within) (ap (λ y. y ∷ drop (suc i) xs) (sym is))
