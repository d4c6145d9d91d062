-- Exchanges, one behind the other.
use Rattle.std.proofs.Common.{◌≡◌, ◌≤◌, ℕ, List, [], ◌∷◌, ◌++◌, length, Bool, Option, None, Some, refl, ap, ◌∙◌, subst, append-nil}
use Rattle.std.specs.Option.{is_some}
use Rattle.std.specs.List.{AllByRecursion}
use Rattle.std.proofs.lemmas.List.Elements.{filter-append}
use Rattle.budget_ports.specs.Exchanges.{Exchange, begun, ended}
use Rattle.budget_ports.specs.Script.{open_one}
use Rattle.field_merge.specs.declared.message.Message.{Message}
use Rattle.device_sync.specs.Honest.{Honest, AreWithin}
use Rattle.device_sync.specs.Replies.{most_bytes}
use Rattle.peer_link.specs.Peer.{answered}

abbrev comes_back : Exchange → Bool
comes_back x = is_some x.got

pub answered_both : (xs ys : List Exchange) → answered (xs ++ ys) ≡ answered xs ++ answered ys
answered_both xs ys = filter-append comes_back xs ys

-- one for which nothing has come back is none of them
pub answered_begun : (xs : List Exchange) (sent : List ℕ) → answered (xs ++ begun sent ∷ []) ≡ answered xs
answered_begun xs sent = answered_both xs (begun sent ∷ []) ∙ append-nil (answered xs)

pub answered_open : (xs : List Exchange) (asked : Option (List ℕ)) → answered (xs ++ open_one asked) ≡ answered xs
answered_open xs None = ap answered (append-nil xs)
answered_open xs (Some sent) = answered_begun xs sent

pub answered_ended : (xs : List Exchange) (sent got : List ℕ) → answered (xs ++ ended sent got ∷ []) ≡ answered xs ++ ended sent got ∷ []
answered_ended xs sent got = answered_both xs (ended sent got ∷ [])

module _ {X : Type 0} (P : X → Type 0) where
  pub all_both : (xs ys : List X) → AllByRecursion P xs → AllByRecursion P ys → AllByRecursion P (xs ++ ys)
  all_both [] ys one other = other
  all_both (x ∷ xs) ys one other = (one.0, all_both xs ys one.1 other)

  pub all_parts : (xs ys : List X) → AllByRecursion P (xs ++ ys) → AllByRecursion P xs × AllByRecursion P ys
  all_parts [] ys all = (tt, all)
  all_parts (x ∷ xs) ys all = let rest = all_parts xs ys all.1 in ((all.0, rest.0), rest.1)

module _ (token : List ℕ) where
  -- one behind the other
  pub honest_both : (r s u : List Message) (xs ys : List Exchange) → Honest token r xs s → Honest token s ys u → Honest token r (xs ++ ys) u
  honest_both r s u [] ys one other = subst (λ (z : List Message). Honest token z ys u) one other
  honest_both r s u (x ∷ xs) ys one other = (one.0, one.1, honest_both one.0 s u xs ys one.2 other)

  pub honest_parts : (r u : List Message) (xs ys : List Exchange) → Honest token r (xs ++ ys) u → (s : List Message) × (Honest token r xs s × Honest token s ys u)
  honest_parts r u [] ys all = (r, (refl, all))
  honest_parts r u (x ∷ xs) ys all = let rest = honest_parts all.0 u xs ys all.2 in (rest.0, ((all.0, all.1, rest.1.0), rest.1.1))

-- the bytes that came back have a bound, and so have those of the exchange
pub within_ended : (sent got : List ℕ) → length got ≤ most_bytes → AreWithin (ended sent got ∷ [])
within_ended sent got few = ((λ came e. let same : got ≡ came = cc in subst (λ (z : List ℕ). length z ≤ most_bytes) same few), tt)

-- ---- whether the last one is ended

abbrev pub last_from : Bool → List Exchange → Bool
last_from b [] = b
last_from b (x ∷ xs) = last_from (is_some x.got) xs

pub last_both : (b : Bool) (xs ys : List Exchange) → last_from b (xs ++ ys) ≡ last_from (last_from b xs) ys
last_both b [] ys = refl
last_both b (x ∷ xs) ys = last_both (is_some x.got) xs ys
