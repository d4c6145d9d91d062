-- What a request decides, by the first row that holds.
use Rattle.std.proofs.Common.{◌≡◌, ◌≢◌, ◌∙◌, ◌==◌, ℕ, List, [], ◌∷◌, length, true, false, cond, Option, Some, None, Result, Ok, Err, refl, sym, ap, subst, arith}
use Rattle.std.specs.Str.{bytes_eq}
use Rattle.budget_ports.specs.Contents.{Text}
use Rattle.field_merge.specs.declared.message.Message.{Message}
use Rattle.sync_wire.specs.declared.request.SyncRequest.{SyncRequest}
use Rattle.sync_server.specs.declared.refusal.Refusal.TheVariants.{EncryptedMessage, SinceRequired, FileHasReset}
use Rattle.sync_server.specs.Laws.{IsFair, IsDecided, encrypted, no_since, no_file, other_group, bad_record, accepted}
use Rattle.sync_server.specs.Serving.{Found, Verdict, Refuses, judge_set, judge_found, judge_request}
use Rattle.sync_server.proofs.Judged.{same_bytes, other_bytes, no_bytes}
use Rattle.sync_server.proofs.Requests.{by_set}

not_zero : (x : ℕ) (xs : List ℕ) → (length (x ∷ xs) == 0) ≡ false
not_zero x xs = grind arith

module _ (q : SyncRequest) (found : Found) where
  by_record : IsFair q → found.group ≡ Some q.group → (set : Result (List Message) ℕ) → found.set ≡ set → IsDecided q found (judge_set q set)
  by_record fair g (Ok ms) e = accepted ms fair g e refl
  by_record fair g (Err index) e = bad_record index fair g e refl

  by_group : IsFair q → (group : Option Text) → found.group ≡ group → IsDecided q found (judge_found q group found.set)
  by_group fair None g = no_file fair g refl
  by_group fair (Some group) g = elim (bytes_eq group q.group) as (λ b. bytes_eq group q.group ≡ b → IsDecided q found (cond b (judge_set q found.set) (Refuses FileHasReset))) [
    | true ↦ λ e. by_record fair (g ∙ ap Some (same_bytes group q.group e)) found.set refl
    | false ↦ λ e. other_group group fair g (other_bytes group q.group e) refl
  ] refl

  by_since : q.encrypted ≡ false → (since : List ℕ) → q.since ≡ since → IsDecided q found (cond (length since == 0) (Refuses SinceRequired) (judge_found q found.group found.set))
  by_since plain [] e = no_since plain e refl
  by_since plain (x ∷ xs) e = rw (not_zero x xs) (by_group (plain, λ none. some x xs (sym e ∙ none)) found.group refl)
    where
      some : (x : ℕ) (xs : List ℕ) → x ∷ xs ≡ [] → ⊥
      some x xs e = cc

  decides_it : IsDecided q found (judge_request q found)
  decides_it = elim q.encrypted as (λ b. q.encrypted ≡ b → IsDecided q found (cond b (Refuses EncryptedMessage) (cond (length q.since == 0) (Refuses SinceRequired) (judge_found q found.group found.set)))) [
    | true ↦ λ e. encrypted e refl
    | false ↦ λ e. by_since e q.since refl
  ] refl

  pub decides : (v : Verdict) → judge_request q found ≡ v → IsDecided q found v
  decides v e = subst (IsDecided q found) e decides_it

  not_none : (since : List ℕ) → since ≢ [] → (length since == 0) ≡ false
  not_none [] n = absurd (n refl)
  not_none (x ∷ xs) n = not_zero x xs

  of_fair : IsFair q → judge_request q found ≡ judge_found q found.group found.set
  of_fair fair = rw (fair.0, not_none q.since fair.1) refl

  of_group : IsFair q → found.group ≡ Some q.group → judge_request q found ≡ judge_set q found.set
  of_group fair g = of_fair fair ∙ ap (λ (o : Option Text). judge_found q o found.set) g ∙ by_set q found.set

  pub is_decided : (v : Verdict) → IsDecided q found v → judge_request q found ≡ v
  is_decided v (encrypted e is) = rw e (sym is)
  is_decided v (no_since plain e is) = rw (plain, e) (sym is)
  is_decided v (no_file fair g is) = of_fair fair ∙ ap (λ (o : Option Text). judge_found q o found.set) g ∙ sym is
  is_decided v (other_group group fair g n is) = of_fair fair ∙ ap (λ (o : Option Text). judge_found q o found.set) g ∙ rw (no_bytes group q.group n) (sym is)
  is_decided v (bad_record index fair g e is) = of_group fair g ∙ ap (judge_set q) e ∙ sym is
  is_decided v (accepted ms fair g e is) = of_group fair g ∙ ap (judge_set q) e ∙ sym is
