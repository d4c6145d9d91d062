-- What the state keeps of groups.
use Rattle.std.proofs.Common.{◌≡◌, ◌≢◌, ◌⊎◌, ◌∙◌, ℕ, List, [], true, false, Option, None, Some, Result, inl, inr, refl, sym, ap, subst, Less, Equal, Greater}
use Rattle.std.specs.BTreeMap.{BTreeMap, Updates, is_at}
use Rattle.std.specs.Ordering.{is_eq}
use Rattle.std.specs.Cmp.{tied_itself}
use Rattle.budget_ports.specs.Contents.{Contents, Text, text_cmp, records_after}
use Rattle.budget_ports.proofs.Places.{text_total, text_same}
use Rattle.field_merge.specs.declared.message.Message.{Message}
use Rattle.kept_messages.specs.Records.{kept_set}
use Rattle.std.specs.declared.cmp.Ordering.{Ordering}
use Rattle.sync_server.specs.declared.state.ServerState.{ServerState}
use Rattle.sync_server.specs.State.{read_of, Agrees}
use Rattle.sync_server.specs.Keeping.{Puts, Learns, Stands}

none_is : {A : Type 0} (x : A) → None ≡ Some x → ⊥
none_is x e = cc

equal_is : (o : Ordering) → is_eq o ≡ true → o ≡ Equal
equal_is Less h = cc
equal_is Equal h = refl
equal_is Greater h = cc

itself : (k : Text) → is_eq (text_cmp k k) ≡ true
itself k = ap is_eq (tied_itself text_total k)

pub same_or : (k q : Text) → (q ≡ k) ⊎ (q ≢ k)
same_or k q = elim (is_eq (text_cmp k q)) as (λ b. is_eq (text_cmp k q) ≡ b → (q ≡ k) ⊎ (q ≢ k)) [
  | true ↦ λ e. inl (sym (text_same k q (equal_is _ e)))
  | false ↦ λ e. inr (λ s. true_is (sym (itself k) ∙ ap (λ (x : Text). is_eq (text_cmp k x)) (sym s) ∙ e))
] refl
  where
    true_is : true ≡ false → ⊥
    true_is e = cc

pub not_at : (k q : Text) → q ≢ k → is_at (text_cmp k) q ≡ false
not_at k q n = elim (is_eq (text_cmp k q)) as (λ b. is_eq (text_cmp k q) ≡ b → is_eq (text_cmp k q) ≡ false) [
  | true ↦ λ e. absurd (n (sym (text_same k q (equal_is _ e))))
  | false ↦ λ e. e
] refl

pub by_group : (old new : ServerState) (group : Text) (set : Option (Result (List Message) ℕ)) → Puts old new group set → (q : Text) (r : Result (List Message) ℕ)
    → read_of new q ≡ Some r → ((q ≡ group) × (set ≡ Some r)) ⊎ (read_of old q ≡ Some r)
by_group old new group set p q r e = by (same_or group q)
  where
    by : (q ≡ group) ⊎ (q ≢ group) → ((q ≡ group) × (set ≡ Some r)) ⊎ (read_of old q ≡ Some r)
    by (inl s) = inl (s, sym p.here ∙ ap (read_of new) (sym s) ∙ e)
    by (inr n) = inr (sym (p.others q n) ∙ e)

-- what was taken out is known no more
pub taken_out : (old new : ServerState) (group : Text) (set : Result (List Message) ℕ) → Puts old new group None → Learns old new group set
taken_out old new group set p = (p.token, λ q r e. by q r (by_group old new group None p q r e))
  where
    by : (q : Text) (r : Result (List Message) ℕ) → ((q ≡ group) × (None ≡ Some r)) ⊎ (read_of old q ≡ Some r) → (read_of old q ≡ Some r) ⊎ ((q ≡ group) × (r ≡ set))
    by q r (inl h) = absurd (none_is r h.1)
    by q r (inr h) = inl h

pub still_out : (old mid new : ServerState) (group : Text) (set : Result (List Message) ℕ) → Puts old mid group None → Stands mid new → Learns old new group set
still_out old mid new group set p s = let t = taken_out old mid group set p in (s.0 ∙ t.0, λ q r e. t.1 q r (sym (s.1 q) ∙ e))

pub put_back : (old mid new : ServerState) (group : Text) (set : Result (List Message) ℕ) → Puts old mid group None → Puts mid new group (Some set) → Puts old new group (Some set)
put_back old mid new group set p r = record {
  token = r.token ∙ p.token;
  here = r.here;
  others = λ q n. r.others q n ∙ p.others q n;
}

-- what was put is known
pub learned : (old mid new : ServerState) (group : Text) (set : Result (List Message) ℕ) → Puts old mid group None → Puts mid new group (Some set) → Learns old new group set
learned old mid new group set p r = let both = put_back old mid new group set p r in
    (both.token, λ q k e. by q k (by_group old new group (Some set) both q k e))
  where
    by : (q : Text) (k : Result (List Message) ℕ) → ((q ≡ group) × (Some set ≡ Some k)) ⊎ (read_of old q ≡ Some k) → (read_of old q ≡ Some k) ⊎ ((q ≡ group) × (k ≡ set))
    by q k (inl h) = inr (h.0, some_is h.1)
      where
        some_is : Some set ≡ Some k → k ≡ set
        some_is f = cc
    by q k (inr h) = inl h

-- a state that knows what is so of the group, and else no more, still agrees
pub agrees_still : (old new : ServerState) (k : Contents) (group : Text) (set : Result (List Message) ℕ) → Learns old new group set → set ≡ kept_set (records_after k group []) → Agrees old k → Agrees new k
agrees_still old new k group set l is a g r e = by (l.1 g r e)
  where
    by : (read_of old g ≡ Some r) ⊎ ((g ≡ group) × (r ≡ set)) → kept_set (records_after k g []) ≡ r
    by (inl h) = a g r h
    by (inr h) = ap (λ (t : Text). kept_set (records_after k t [])) h.0 ∙ sym is ∙ sym h.1

pub puts_at : (old : ServerState) (new : BTreeMap Text (Result (List Message) ℕ)) (group key : Text) (kept value : Result (List Message) ℕ) → key ≡ group → value ≡ kept → Updates text_cmp old.groups new key (Some value)
    → Puts old (record { routes = old.routes; token = old.token; groups = new }) group (Some kept)
puts_at old new group key kept value ek ev u =
    subst (λ (g : Text). Puts old (record { routes = old.routes; token = old.token; groups = new }) g (Some kept)) ek
    (record { token = refl; here = u.1 ∙ ap Some ev; others = λ q n. u.2 q (not_at key q n) })
