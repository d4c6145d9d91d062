-- The maps of a log, as lists of messages and of latest timestamps.
use Rattle.std.proofs.Common.{◌≡◌, ◌≢◌, ◌+◌, IsTrue, arith, length, List, [], ◌∷◌, Bool, true, false, not, ◌&&◌, ◌||◌, ◌↔◌, cond, Option, None, Some, map, refl, sym, ap, ◌∙◌, subst}
use Rattle.std.specs.Ordering.{is_eq, is_lt, ordering_reverse, match_ordering}
use Rattle.std.specs.Option.{is_none, is_some}
use Rattle.std.specs.Cmp.{tied_itself}
use Rattle.std.specs.List.{list_any, AllByRecursion, Contains, IsDistinct}
use Rattle.std.specs.List.Sorted.{IsStrictlySortedBy}
use Rattle.std.specs.Map.{keys_of, lookup, values_of}
use Rattle.std.specs.BTreeMap.{insert_entry, is_at}
use Rattle.std.specs.BTreeSet.{BTreeSet, IsOrdered, contains}
use Rattle.std.proofs.lemmas.Map.Keys.{IsDistinct-from_sorted}
use Rattle.std.proofs.lemmas.Map.Views.{btree_set_contains_iff}
use Rattle.std.specs.declared.cmp.Ordering.{Ordering}
use Rattle.std.specs.declared.cmp.Ordering.TheVariants.{Less, Equal, Greater}
use Rattle.field_values.specs.Names.{FieldNames, names_cmp, names_eq}
use Rattle.hybrid_clock.specs.declared.stamp.Stamp.{Stamp}
use Rattle.hybrid_clock.specs.Order.{stamp_cmp}
use Rattle.field_merge.specs.declared.message.Message.{Message}
use Rattle.field_merge.specs.Messages.{AreMessages, IsMessage}
use Rattle.field_merge.specs.Log.{IsRising, at_stamp, by_stamp, has_field, has_stamp, join_one, latest, placed}
use Rattle.field_merge.specs.Joining.{AreChanged}
use Rattle.field_merge.specs.Stored.{AreEntries, IsIndex, MarksChanged, Notes, is_newer}
use Rattle.field_merge.proofs.Orders.{stamps_total, names_alike, names_exact, names_total}
use Rattle.field_merge.proofs.Hashing.{same_place}
use Rattle.field_merge.proofs.Joining.{stamp_of}
use Rattle.field_merge.proofs.Latest.{latest_there}
use Rattle.field_merge.proofs.Members.{is_some-find, missed, some_passes}
use Rattle.field_merge.proofs.Ordered.{equal}
use Rattle.field_merge.proofs.Placing.{all_placed, find-placed, in_order, length-placed}
use Rattle.field_merge.proofs.Entering.{latest-placed, wins}

abbrev pub AreOwn : List (Stamp × Message) → Type 0
AreOwn es = AllByRecursion (λ e. e.0 ≡ e.1.stamp) es

-- ---- the map of messages
pub lookup-own : (es : List (Stamp × Message)) → AreOwn es → (s : Stamp) → lookup (is_at (stamp_cmp s)) es ≡ at_stamp (values_of es) s
lookup-own [] u s = refl
lookup-own (e ∷ es) u s =
    ap (λ (t : Stamp). cond (is_eq (stamp_cmp s t)) (Some e.1) (lookup (is_at (stamp_cmp s)) es)) u.0
    ∙ ap (cond (has_stamp s e.1) (Some e.1)) (lookup-own es u.1 s)

same_keys : (es : List (Stamp × Message)) → AreOwn es → keys_of es ≡ map (λ (m : Message). m.stamp) (values_of es)
same_keys [] u = refl
same_keys (e ∷ es) u = λ i. u.0 i ∷ same_keys es u.1 i

pub rising_from : (es : List (Stamp × Message)) → AreOwn es → IsStrictlySortedBy stamp_cmp (keys_of es) → IsRising (values_of es)
rising_from es u h = subst (λ (ss : List Stamp). IsStrictlySortedBy stamp_cmp ss) (same_keys es u) h

placed_by : (o : Ordering) (n : Message) (e : Stamp × Message) (es rest : List (Stamp × Message)) (ms : List Message) → is_eq o ≡ false → values_of rest ≡ ms → values_of (match_ordering o ((n.stamp, n) ∷ e ∷ es) ((e.0, n) ∷ es) (e ∷ rest)) ≡ cond (is_lt o) (n ∷ e.1 ∷ values_of es) (e.1 ∷ ms)
placed_by Less n e es rest ms h ih = refl
placed_by Equal n e es rest ms h ih = cc
placed_by Greater n e es rest ms h ih = ap (λ xs. e.1 ∷ xs) ih

-- a new entry goes to the place of its timestamp
pub values-insert : (n : Message) (es : List (Stamp × Message)) → AreOwn es → lookup (is_at (stamp_cmp n.stamp)) es ≡ None → values_of (insert_entry stamp_cmp es n.stamp n) ≡ placed by_stamp (values_of es) n
values-insert n [] u h = refl
values-insert n (e ∷ es) u h =
    let new = missed (is_eq (stamp_cmp n.stamp e.0)) e.1 (lookup (is_at (stamp_cmp n.stamp)) es) h in
    placed_by (stamp_cmp n.stamp e.0) n e es (insert_entry stamp_cmp es n.stamp n) (placed by_stamp (values_of es) n) new.0 (values-insert n es u.1 new.1)
    ∙ ap (λ (t : Stamp). cond (is_lt (stamp_cmp n.stamp t)) (n ∷ e.1 ∷ values_of es) (e.1 ∷ placed by_stamp (values_of es) n)) u.0

own_by : (o : Ordering) (n : Message) (e : Stamp × Message) (es rest : List (Stamp × Message)) → is_eq o ≡ false → AreOwn (e ∷ es) → AreOwn rest → AreOwn (match_ordering o ((n.stamp, n) ∷ e ∷ es) ((e.0, n) ∷ es) (e ∷ rest))
own_by Less n e es rest h u r = (refl, u)
own_by Equal n e es rest h u r = cc
own_by Greater n e es rest h u r = (u.0, r)

own-insert : (n : Message) (es : List (Stamp × Message)) → AreOwn es → lookup (is_at (stamp_cmp n.stamp)) es ≡ None → AreOwn (insert_entry stamp_cmp es n.stamp n)
own-insert n [] u h = (refl, tt)
own-insert n (e ∷ es) u h =
    let new = missed (is_eq (stamp_cmp n.stamp e.0)) e.1 (lookup (is_at (stamp_cmp n.stamp)) es) h in
    own_by (stamp_cmp n.stamp e.0) n e es (insert_entry stamp_cmp es n.stamp n) new.0 u (own-insert n es u.1 new.1)

-- the keys of messages that stand under their own timestamps rise where the timestamps do
rising_back : (es : List (Stamp × Message)) → AreOwn es → IsRising (values_of es) → IsStrictlySortedBy stamp_cmp (keys_of es)
rising_back es u h = subst (λ (ss : List Stamp). IsStrictlySortedBy stamp_cmp ss) (sym (same_keys es u)) h

pub fresh_stamp : (es : List (Stamp × Message)) (n : Message) → AreOwn es → lookup (is_at (stamp_cmp n.stamp)) es ≡ None → at_stamp (values_of es) n.stamp ≡ None
fresh_stamp es n u new = sym (lookup-own es u n.stamp) ∙ new

-- the entries stand after an insert at a new timestamp
pub entries-insert : (n : Message) (es fs : List (Stamp × Message)) → AreEntries es → IsMessage n → lookup (is_at (stamp_cmp n.stamp)) es ≡ None → fs ≡ insert_entry stamp_cmp es n.stamp n → AreEntries fs
entries-insert n es fs h v new is =
    let own : AreOwn fs = subst (λ (es : List (Stamp × Message)). AreOwn es) (sym is) (own-insert n es h.own new) in
    let values : values_of fs ≡ placed by_stamp (values_of es) n = ap values_of is ∙ values-insert n es h.own new in
    let rises : IsRising (placed by_stamp (values_of es) n) = in_order stamp_of stamp_cmp stamps_total (values_of es) n (fresh_stamp es n h.own new) (rising_from es h.own h.rising) in
    record {
      rising = rising_back fs own (subst (λ (ms : List Message). IsRising ms) (sym values) rises);
      own = own;
      valid = subst (λ (ms : List Message). AreMessages ms) (sym values) (all_placed by_stamp IsMessage (values_of es) n v h.valid);
    }

-- whether the map has a timestamp
pub any-own : (es : List (Stamp × Message)) → AreOwn es → (s : Stamp) → list_any (has_stamp s) (values_of es) ≡ is_some (lookup (is_at (stamp_cmp s)) es)
any-own es u s = sym (is_some-find (has_stamp s) (values_of es)) ∙ ap is_some (sym (lookup-own es u s))

pub join-there : (ms : List Message) (n : Message) → list_any (has_stamp n.stamp) ms ≡ true → ms ≡ join_one ms n
join-there ms n h = sym (ap (λ b. cond b ms (placed by_stamp ms n)) h)

pub join-fresh : (ms : List Message) (n : Message) → list_any (has_stamp n.stamp) ms ≡ false → placed by_stamp ms n ≡ join_one ms n
join-fresh ms n h = sym (ap (λ b. cond b ms (placed by_stamp ms n)) h)

-- ---- the index
pub flips : (r : Ordering) → is_eq (ordering_reverse r) ≡ is_eq r
flips Less = refl
flips Equal = refl
flips Greater = refl

pub names_flip : (f g : FieldNames) → is_eq (names_cmp f g) ≡ is_eq (names_cmp g f)
names_flip f g = ap is_eq (names_total.antisymm f g) ∙ flips (names_cmp g f)

-- what is noted of a message, against the messages
pub wins_by_index : (ms : List Message) (n : Message) (index new_index : List (FieldNames × Message)) (w : Bool) → IsIndex ms index → Notes index new_index n w → w ≡ wins ms n
wins_by_index ms n index new_index w right note = note.is_later ∙ ap (λ o. is_newer o n.stamp) (right n.field)

pub index-placed : (ms : List Message) (n : Message) (index new_index : List (FieldNames × Message)) (w : Bool) → IsRising ms → at_stamp ms n.stamp ≡ None → IsIndex ms index → Notes index new_index n w → IsIndex (placed by_stamp ms n) new_index
index-placed ms n index new_index w s new right note f =
    note.now f
    ∙ (λ i. cond (wins_by_index ms n index new_index w right note i && (same_place n.field f ∙ names_flip n.field f) i) (Some n) (right f i))
    ∙ sym (latest-placed ms n s new f)

-- ---- what enters
pub entered_right : (n : Message) (es fs : List (Stamp × Message)) (index new_index : List (FieldNames × Message)) (w : Bool) → AreEntries es → lookup (is_at (stamp_cmp n.stamp)) es ≡ None → fs ≡ insert_entry stamp_cmp es n.stamp n → IsIndex (values_of es) index → Notes index new_index n w → IsIndex (values_of fs) new_index
entered_right n es fs index new_index w stand new is right note =
    subst (λ (ms : List Message). IsIndex ms new_index) (sym (ap values_of is ∙ values-insert n es stand.own new))
    (index-placed (values_of es) n index new_index w (rising_from es stand.own stand.rising) (fresh_stamp es n stand.own new) right note)

pub entered_wins : (n : Message) (es fs : List (Stamp × Message)) (index new_index : List (FieldNames × Message)) (w : Bool) → AreEntries es → lookup (is_at (stamp_cmp n.stamp)) es ≡ None → fs ≡ insert_entry stamp_cmp es n.stamp n → IsIndex (values_of es) index → Notes index new_index n w → (f : FieldNames) → latest (values_of fs) f ≡ cond (w && has_field f n) (Some n) (latest (values_of es) f)
entered_wins n es fs index new_index w stand new is right note f =
    ap (λ (ms : List Message). latest ms f) (ap values_of is ∙ values-insert n es stand.own new)
    ∙ latest-placed (values_of es) n (rising_from es stand.own stand.rising) (fresh_stamp es n stand.own new) f
    ∙ ap (λ b. cond (b && has_field f n) (Some n) (latest (values_of es) f)) (sym (wins_by_index (values_of es) n index new_index w right note))

-- ---- what is marked
some_or : (b : Bool) (n : Message) (o : Option Message) → is_some o ≡ true → is_some (cond b (Some n) o) ≡ true
some_or true n o h = refl
some_or false n o h = h

not_latest_before : (before ms : List Message) (n : Message) (f : FieldNames) → ((s : Stamp) → is_some (at_stamp before s) ≡ true → is_some (at_stamp ms s) ≡ true) → at_stamp ms n.stamp ≡ None → latest before f ≢ Some n
not_latest_before before ms n f grown new is =
    let there : Contains before n = (latest_there before f n is).0 in
    let kept : is_some (at_stamp before n.stamp) ≡ true =
    elim (at_stamp before n.stamp) as (λ o. at_stamp before n.stamp ≡ o → is_some o ≡ true) [
      | None ↦ λ e. absurd (some_passes (has_stamp n.stamp) before n there (ap is_eq (tied_itself stamps_total n.stamp)) e)
      | Some m ↦ λ e. refl
    ] refl in
    let now : is_some (at_stamp ms n.stamp) ≡ true = grown n.stamp kept in
    let lacks : is_some (at_stamp ms n.stamp) ≡ false = ap is_some new in
    cc

marked_by : (b m : Bool) (o p : Option Message) (n : Message) → o ≢ Some n → (IsTrue m ↔ (o ≢ p)) → IsTrue (b || m) ↔ (o ≢ cond b (Some n) p)
marked_by true m o p n differs h = (λ _. differs, λ _. refl)
marked_by false m o p n differs h = h

-- whether a new message is now the latest of its field is whether the field has another latest message
pub changed-where_wins : (ms new : List Message) (n : Message) (w : Bool) → at_stamp ms n.stamp ≡ None → latest new n.field ≡ cond (w && has_field n.field n) (Some n) (latest ms n.field) → (w ≡ true) ↔ (latest ms n.field ≢ latest new n.field)
changed-where_wins ms new n true fresh now =
    let own : has_field n.field n ≡ true = ap is_eq (tied_itself names_total n.field) in
    let is : latest new n.field ≡ Some n = now ∙ ap (λ b. cond b (Some n) (latest ms n.field)) own in
    (λ _ same. not_latest_before ms ms n n.field (λ s there. there) fresh (same ∙ is), λ _. refl)
changed-where_wins ms new n false fresh now = (λ no. absurd (cc), λ differs. absurd (differs (sym now)))

pub marks-placed : (before ms new : List Message) (marked new_marked : BTreeSet FieldNames) (n : Message) (w : Bool) → at_stamp ms n.stamp ≡ None → new ≡ placed by_stamp ms n → ((f : FieldNames) → latest new f ≡ cond (w && has_field f n) (Some n) (latest ms f)) → ((f : FieldNames) → contains names_cmp new_marked f ≡ ((w && has_field f n) || contains names_cmp marked f)) → MarksChanged before ms marked → MarksChanged before new new_marked
marks-placed before ms new marked new_marked n w fresh is now marks h = record {
  grown = λ s there. ap (λ (ms : List Message). is_some (at_stamp ms s)) is
      ∙ ap is_some (find-placed stamp_of stamp_cmp stamps_total ms n fresh s)
      ∙ some_or (has_stamp s n) n (at_stamp ms s) (h.grown s there);
  exactly = λ f.
      let both = marked_by (w && has_field f n) (contains names_cmp marked f) (latest before f) (latest ms f) n (not_latest_before before ms n f h.grown fresh) (h.exactly f) in
      (λ t is. both.0 (sym (marks f) ∙ t) (is ∙ now f), λ differs. marks f ∙ both.1 (λ is. differs (is ∙ sym (now f))));
}

-- a field that is marked already
pub marked-already : (marked : BTreeSet FieldNames) (g : FieldNames) → contains names_cmp marked g ≡ true → (f : FieldNames) → contains names_cmp marked f ≡ (is_at (names_cmp g) f || contains names_cmp marked f)
marked-already marked g there f =
    elim (is_at (names_cmp g) f) as (λ b. is_at (names_cmp g) f ≡ b → contains names_cmp marked f ≡ (b || contains names_cmp marked f)) [
      | true ↦ λ t. subst (λ (h : FieldNames). contains names_cmp marked h ≡ true) (names_exact g f (equal _ t)) there
      | false ↦ λ t. refl
    ] refl

pub marked-more : (b m : Bool) → cond b true m ≡ (b || m)
marked-more true m = refl
marked-more false m = refl

pub flag-none : (o : Option Message) (b : Bool) → is_some o ≡ b → not b ≡ is_none o
flag-none None b h = ap not (sym h)
flag-none (Some m) b h = ap not (sym h)

-- the marked fields, as a list
same_test : (λ (f g : FieldNames). is_eq (names_cmp f g)) ≡ names_eq
same_test = λ i f g. names_alike f g i

pub are-changed : (before ms : List Message) (marked : BTreeSet FieldNames) (changed : List FieldNames) → changed ≡ marked.keys → IsOrdered names_cmp marked → MarksChanged before ms marked → AreChanged before ms changed
are-changed before ms marked changed is s h =
    let distinct : IsDistinct names_eq marked.keys = subst (λ (e : FieldNames → FieldNames → Bool). IsDistinct e marked.keys) same_test (IsDistinct-from_sorted names_cmp marked.keys s) in
    let has = btree_set_contains_iff names_total names_exact marked in
    record {
      once = subst (λ (fs : List FieldNames). IsDistinct names_eq fs) (sym is) distinct;
      exactly = λ f. (
        λ c. (h.exactly f).0 ((has f).1 (subst (λ (fs : List FieldNames). Contains fs f) is c)),
        λ differs. subst (λ (fs : List FieldNames). Contains fs f) (sym is) ((has f).0 ((h.exactly f).1 differs)),
      );
    }

pub length-join_one : (ms : List Message) (n : Message) (fresh : Bool) → fresh ≡ not (list_any (has_stamp n.stamp) ms) → length (join_one ms n) ≡ length ms + cond fresh 1 0
length-join_one ms n fresh h =
    elim (list_any (has_stamp n.stamp) ms) as (λ b. fresh ≡ not b → length (cond b ms (placed by_stamp ms n)) ≡ length ms + cond fresh 1 0) [
      | true ↦ λ no. rw no (omega arith)
      | false ↦ λ yes. rw yes (length-placed by_stamp ms n ∙ omega arith)
    ] h
