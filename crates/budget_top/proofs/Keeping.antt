-- What a keeper holds after a device's new messages.
use Rattle.std.proofs.Common.{◌≡◌, ◌≢◌, inl, inr, List, [], ◌∷◌, Bool, true, false, cond, length, map, refl, sym, ap, ◌∙◌, subst, arith}
use Rattle.std.specs.Prelude.{◌==◌}
use Rattle.std.proofs.lemmas.Bool.{eqb-true}
use Rattle.std.specs.List.{list_any, AllByRecursion}
use Rattle.std.specs.Ordering.{is_lt}
use Rattle.std.specs.declared.cmp.Ordering.{Ordering}
use Rattle.budget_ports.specs.declared.keeper.Record.{Record}
use Rattle.budget_ports.specs.Contents.{Contents, Text, appended}
use Rattle.budget_ports.specs.Keeper.{Commits, IsAlone}
use Rattle.field_merge.specs.declared.message.Message.{Message}
use Rattle.field_merge.specs.Messages.{IsMessage, AreMessages}
use Rattle.field_merge.specs.Log.{has_stamp, by_stamp, placed, join_one, join}
use Rattle.kept_messages.specs.Records.{record_of}
use Rattle.device_core.specs.Device.{DeviceState}
use Rattle.kept_messages.specs.Holding.{BatchesAreKept}
use Rattle.kept_messages.specs.News.{new_in, NewOnesAreAdded}
use Rattle.budget_top.specs.Seen.{HoldsSet, device_group}
use Rattle.device_core.specs.Accepting.{Brings}
use Rattle.budget_top.specs.Handling.{Carries, CarriesEither}

-- ---- the new ones of some messages

-- what holds of all joined messages holds of those that were there, and of the new ones
module _ (P : Message → Type 0) where
  placed_parts : (cmp : Message → Message → Ordering) (ms : List Message) (n : Message) → AllByRecursion P (placed cmp ms n) → P n × AllByRecursion P ms
  placed_parts cmp [] n all = (all.0, tt)
  placed_parts cmp (m ∷ ms) n all = by (placed_parts cmp ms n) (is_lt (cmp n m)) all
    where
      by : (AllByRecursion P (placed cmp ms n) → P n × AllByRecursion P ms) → (b : Bool) → AllByRecursion P (cond b (n ∷ m ∷ ms) (m ∷ placed cmp ms n)) → P n × AllByRecursion P (m ∷ ms)
      by on true all = (all.0, all.1)
      by on false all = let rest = on all.1 in (rest.0, (all.0, rest.1))

  one_before : (ms : List Message) (n : Message) → AllByRecursion P (join_one ms n) → AllByRecursion P ms
  one_before ms n all = by (list_any (has_stamp n.stamp) ms) all
    where
      by : (b : Bool) → AllByRecursion P (cond b ms (placed by_stamp ms n)) → AllByRecursion P ms
      by true all = all
      by false all = (placed_parts by_stamp ms n all).1

  all_before : (ms ns : List Message) → AllByRecursion P (join ms ns) → AllByRecursion P ms
  all_before ms [] all = all
  all_before ms (n ∷ ns) all = one_before ms n (all_before (join_one ms n) ns all)

  all_new : (ms ns : List Message) → AllByRecursion P (join ms ns) → AllByRecursion P (new_in ms ns)
  all_new ms [] all = tt
  all_new ms (n ∷ ns) all = by (λ ks. all_new ks ns) (list_any (has_stamp n.stamp) ms) all
    where
      by : ((ks : List Message) → AllByRecursion P (join ks ns) → AllByRecursion P (new_in ks ns)) → (b : Bool)
          → AllByRecursion P (join (cond b ms (placed by_stamp ms n)) ns) → AllByRecursion P (cond b (new_in ms ns) (n ∷ new_in (cond b ms (placed by_stamp ms n)) ns))
      by on true all = on ms all
      by on false all = ((placed_parts by_stamp ms n (all_before (placed by_stamp ms n) ns all)).0, on (placed by_stamp ms n) all)

-- the new ones join as all do
join_new : (ms ns : List Message) → join ms (new_in ms ns) ≡ join ms ns
join_new ms [] = refl
join_new ms (n ∷ ns) = by (λ ks. join_new ks ns) (list_any (has_stamp n.stamp) ms) refl
  where
    by : ((ks : List Message) → join ks (new_in ks ns) ≡ join ks ns) → (b : Bool) → list_any (has_stamp n.stamp) ms ≡ b → join ms (new_in ms (n ∷ ns)) ≡ join ms (n ∷ ns)
    by on true is = rw is (on ms)
    by on false is =
        let one : join_one ms n ≡ placed by_stamp ms n = rw is refl in
        rw is (ap (λ (ks : List Message). join ks (new_in (placed by_stamp ms n) ns)) one ∙ on (placed by_stamp ms n))

-- all of the new ones are new
new_new : (ms ns : List Message) → new_in ms (new_in ms ns) ≡ new_in ms ns
new_new ms [] = refl
new_new ms (n ∷ ns) = by (λ ks. new_new ks ns) (list_any (has_stamp n.stamp) ms) refl
  where
    by : ((ks : List Message) → new_in ks (new_in ks ns) ≡ new_in ks ns) → (b : Bool) → list_any (has_stamp n.stamp) ms ≡ b → new_in ms (new_in ms (n ∷ ns)) ≡ new_in ms (n ∷ ns)
    by on true is = rw is (on ms)
    by on false is = rw (is, is) (ap (λ ks. n ∷ ks) (on (placed by_stamp ms n)))

-- ---- the keeper

-- the records of a device's new messages are kept
kept_all : BatchesAreKept → (old : List Message) (device : DeviceState) (before : Contents) → AreMessages device.state.messages → Brings old device
    → Carries old device.state.messages before (appended before device_group device.batch)
kept_all law old device before valid b = λ entry h.
    let ns : List Message = new_in old b.news in
    let new : AreMessages ns = all_new IsMessage old b.news (subst AreMessages b.messages valid) in
    let records : map record_of (new_in old ns) ≡ device.batch = ap (map record_of) (new_new old b.news) ∙ sym b.batch in
    let messages : join old ns ≡ device.state.messages = join_new old b.news ∙ sym b.messages in
    subst (λ (ms : List Message). HoldsSet entry (appended before device_group device.batch) ms) messages
    (subst (λ (rs : List Record). HoldsSet entry (appended before device_group rs) (join old ns)) records (law device_group entry before old ns new h))

-- the same of what was appended
pub carries : BatchesAreKept → (old : List Message) (device : DeviceState) (group : Text) (batch : List Record) (before now : Contents)
    → AreMessages device.state.messages → group ≡ device_group → batch ≡ device.batch → now ≡ appended before group batch → Brings old device → Carries old device.state.messages before now
carries law old device group batch before now valid named all is b =
    let appends : appended before device_group device.batch ≡ now = ap (λ (g : Text). appended before g device.batch) (sym named) ∙ ap (λ (rs : List Record). appended before group rs) (sym all) ∙ sym is in
    subst (λ (k : Contents). Carries old device.state.messages before k) appends (kept_all law old device before valid b)

pub none_of : (batch rs : List Record) (is_empty : Bool) → rs ≡ batch → is_empty ≡ (length rs == 0) → is_empty ≡ true → batch ≡ []
none_of batch rs is_empty same tells is = sym same ∙ by rs (sym tells ∙ is)
  where
    by : (rs : List Record) → (length rs == 0) ≡ true → rs ≡ []
    by [] h = refl
    by (r ∷ rs) h = let none : length (r ∷ rs) ≡ 0 = eqb-true _ _ h in absurd (omega arith)

-- nothing was to be kept
pub carries_none : BatchesAreKept → (old : List Message) (device : DeviceState) (before : Contents) → AreMessages device.state.messages → device.batch ≡ [] → Brings old device → Carries old device.state.messages before before
carries_none law old device before valid none b = carries law old device device_group [] before before valid refl (sym none) refl b

-- nothing was kept
pub either_old : (old new : List Message) (before now : Contents) → now ≡ before → CarriesEither old new before now
either_old old new before now same = λ entry h. record { messages = old; holds = subst (λ (k : Contents). HoldsSet entry k old) (sym same) h; which = inl refl }

-- all was kept
pub either_new : (old new : List Message) (before now : Contents) → Carries old new before now → CarriesEither old new before now
either_new old new before now c = λ entry h. record { messages = new; holds = c entry h; which = inr refl }

-- what a stop may leave
pub stops_kept : BatchesAreKept → (old : List Message) (device : DeviceState) (group : Text) (batch : List Record) (told : Type 0) (before c : Contents) (left new_left : Contents → Type 0)
    → AreMessages device.state.messages → group ≡ device_group → batch ≡ device.batch → IsAlone told before left → Commits told left new_left (appended before group batch) → new_left c
    → Brings old device → told × CarriesEither old device.state.messages before c
stops_kept law old device group batch told before c left new_left valid named all only commits h b = elim (commits c h) [
  | inl there ↦ let is = only c there in (is.0, either_old old device.state.messages before c is.1)
  | inr done ↦ (done.0, either_new old device.state.messages before c (carries law old device group batch before c valid named all done.1 b))
]

-- what is to be kept is new
pub brings_new : NewOnesAreAdded → (old : List Message) (device : DeviceState) → Brings old device → device.batch ≢ [] → device.state.messages ≢ old
brings_new law old device b some same = by (new_in old b.news) refl
  where
    by : (new : List Message) → new_in old b.news ≡ new → ⊥
    by [] none = some (b.batch ∙ ap (map record_of) none)
    by (n ∷ ns) more =
        let number = (law old b.news).number in
        let all : length (join old b.news) ≡ length old = ap length (sym b.messages ∙ same) in
        let news : length (new_in old b.news) ≡ length (n ∷ ns) = ap length more in
        omega arith

-- by the messages that are meant
pub carries_along : (old new meant : List Message) (before now : Contents) → new ≡ meant → Carries old new before now → Carries old meant before now
carries_along old new meant before now same h = subst (λ (ms : List Message). Carries old ms before now) same h

pub either_along : (old new meant : List Message) (before now : Contents) → new ≡ meant → CarriesEither old new before now → CarriesEither old meant before now
either_along old new meant before now same h = subst (λ (ms : List Message). CarriesEither old ms before now) same h
