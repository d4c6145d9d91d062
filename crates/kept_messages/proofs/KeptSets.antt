-- A group that keeps a message set, with the records of more messages.
use Rattle.std.proofs.Common.{◌≡◌, ℕ, ◌+◌, Bool, true, false, ◌||◌, cond, List, [], ◌∷◌, ◌++◌, map, Option, None, Some, is_none, Result, Ok, Err, refl, sym, ap, ap₂, subst, ◌∙◌, true≢false, Ordering, Less, Equal, Greater}
use Rattle.std.specs.Prelude.{is_ok, if◌then◌else◌}
use Rattle.std.specs.Result.{result_ok}
use Rattle.std.specs.Option.{option_or}
use Rattle.std.specs.List.{Contains, AllByRecursion, list_any, filter_map, position_from, cons_option}
use Rattle.std.specs.Ordering.{is_eq, is_lt}
use Rattle.std.specs.FinMap.{get}
use Rattle.std.specs.FinMap.Entries.{by_order}
use Rattle.hybrid_clock.specs.declared.stamp.Stamp.{Stamp}
use Rattle.hybrid_clock.specs.declared.stamp.StampFault.{StampFault}
use Rattle.hybrid_clock.specs.Stamp.{IsStamp, stamp_text}
use Rattle.hybrid_clock.specs.Reading.{read_stamp}
use Rattle.hybrid_clock.specs.Order.{stamp_cmp}
use Rattle.hybrid_clock.proofs.Texts.{read_valid, read_text}
use Rattle.hybrid_clock.proofs.TextOrder.{text_order}
use Rattle.field_values.specs.declared.name.NameFault.{NameFault}
use Rattle.field_values.specs.Names.{FieldNames, field_of, names_fault}
use Rattle.budget_ports.specs.declared.keeper.Record.{Record}
use Rattle.budget_ports.specs.Contents.{Text, Contents, Place, text_cmp, place_cmp, records_after, with_record, appended}
use Rattle.budget_ports.specs.Keeper.{Rise}
use Rattle.budget_ports.proofs.Places.{place_same}
use Rattle.budget_ports.proofs.Rising.{records_rise}
use Rattle.field_merge.specs.declared.message.Message.{Message}
use Rattle.field_merge.specs.declared.line.LineFault.{LineFault}
use Rattle.field_merge.specs.Escapes.{escaped, unescaped, bad_escape}
use Rattle.field_merge.specs.Lines.{parts, with_names, with_stamp, of_parts, reading}
use Rattle.field_merge.specs.Messages.{IsMessage, message_body}
use Rattle.field_merge.specs.Log.{IsRising, has_stamp, by_stamp, placed, join}
use Rattle.field_merge.proofs.EscapeLemmas.{Lacks, escaped-no_tab, unescaped-escaped}
use Rattle.field_merge.proofs.LineLemmas.{parts-at}
use Rattle.field_merge.proofs.StampLemmas.{stamp_text_escaped}
use Rattle.field_merge.proofs.Orders.{stamps_total}
use Rattle.field_merge.proofs.Ordered.{IsBelow, cons, equal, in_order_nil, same}
use Rattle.field_merge.proofs.Joining.{stamp_of, rising, found}
use Rattle.kept_messages.specs.Records.{record_of, message_in, unless_bad, kept_set}
use Rattle.kept_messages.specs.News.{new_in}
use Rattle.kept_messages.specs.Holding.{Holds, BatchesAreKept}
use Rattle.kept_messages.proofs.Keeping.{reads_back, have_keys}
use Rattle.kept_messages.proofs.OneRecord.{add_record, get_with, group_with, others_with}
use Rattle.kept_messages.proofs.Members.{placed_is_there, still_there}

-- ---- the key of a record is the text of its message's timestamp

names_stamp : (bad : Option NameFault) (s : Stamp) (names : FieldNames) (value : List ℕ) (m : Message) → with_names bad s names value ≡ Ok m → m.stamp ≡ s
names_stamp (Some fault) s names value m h = absurd (cc)
names_stamp None s names value m h =
    let P : Result Message LineFault → Type 0 = λ x. elim x as (λ _. Type 0) [ Ok n ↦ n.stamp ≡ s | Err fault ↦ Unit {0} ] in
    subst P h refl

read_names : (stamp : Result Stamp StampFault) (s : Stamp) (names : FieldNames) (value : List ℕ) (m : Message) → stamp ≡ Ok s → with_stamp stamp names value ≡ Ok m → m.stamp ≡ s
read_names stamp s names value m is h =
    names_stamp (names_fault names) s names value m (sym (ap (λ x. with_stamp x names value) is) ∙ h)

parts_stamp : (key : List ℕ) (ps : List (List ℕ)) (bad : Option ℕ) (s : Stamp) (m : Message) → read_stamp (unescaped key) ≡ Ok s → of_parts (key ∷ ps) bad ≡ Ok m → m.stamp ≡ s
parts_stamp key [] bad s m is h = absurd (cc)
parts_stamp key (b ∷ []) bad s m is h = absurd (cc)
parts_stamp key (b ∷ c ∷ []) bad s m is h = absurd (cc)
parts_stamp key (b ∷ c ∷ d ∷ []) bad s m is h = absurd (cc)
parts_stamp key (b ∷ c ∷ d ∷ e ∷ []) (Some at) s m is h = absurd (cc)
parts_stamp key (b ∷ c ∷ d ∷ e ∷ []) None s m is h =
    read_names (read_stamp (unescaped key)) s (field_of (unescaped b) (unescaped c) (unescaped d)) (unescaped e) m is h
parts_stamp key (b ∷ c ∷ d ∷ e ∷ f ∷ ps) bad s m is h = absurd (cc)

pub ok_of : (read : Result Message LineFault) (m : Message) → result_ok read ≡ Some m → read ≡ Ok m
ok_of (Ok n) m h = let same : n ≡ m = cc in ap (λ x. Ok x) same
ok_of (Err fault) m h = absurd (cc)

pub record IsKeyOf (key : List ℕ) (s : Stamp) : Type 0 where
  pub valid : IsStamp s
  pub text : stamp_text s ≡ key

pub key_is : (r : Record) (m : Message) → message_in r ≡ Some m → IsKeyOf r.key m.stamp
key_is r m h = by (read_stamp r.key) refl h
  where
    by : (stamp : Result Stamp StampFault) → read_stamp r.key ≡ stamp → (if is_ok stamp then result_ok (reading (r.key ++ 9 ∷ r.body)) else None) ≡ Some m → IsKeyOf r.key m.stamp
    by (Err fault) is line = absurd (cc)
    by (Ok s) is line =
        let valid = read_valid r.key s is in
        let text = read_text r.key s is in
        let plain : escaped r.key ≡ r.key = ap escaped (sym text) ∙ stamp_text_escaped s valid ∙ text in
        let no_tab : Lacks 9 r.key = subst (Lacks 9) plain (escaped-no_tab r.key) in
        let itself : unescaped r.key ≡ r.key = ap unescaped (sym plain) ∙ unescaped-escaped r.key in
        let bad : Option ℕ = bad_escape (r.key ++ 9 ∷ r.body) in
        let read : of_parts (r.key ∷ parts r.body) bad ≡ Ok m = sym (ap (λ ps. of_parts ps bad) (parts-at r.key r.body no_tab)) ∙ ok_of (reading (r.key ++ 9 ∷ r.body)) m line in
        let stamp : m.stamp ≡ s = parts_stamp r.key (parts r.body) bad s m (ap read_stamp itself ∙ is) read in
        subst (IsKeyOf r.key) (sym stamp) (record { valid = valid; text = text })

-- records are ordered by key as their messages are by timestamp
same_order : (r s : Record) (m n : Message) → message_in r ≡ Some m → message_in s ≡ Some n → text_cmp r.key s.key ≡ stamp_cmp m.stamp n.stamp
same_order r s m n h k =
    let a = key_is r m h in
    let b = key_is s n k in
    ap₂ text_cmp (sym a.text) (sym b.text) ∙ text_order m.stamp n.stamp a.valid b.valid

-- ---- the messages of records

-- each record keeps the message at its place
abbrev pub Reads : List Record → List Message → Type 0
Reads [] [] = Unit {0}
Reads [] (m ∷ ms) = ⊥
Reads (r ∷ rs) [] = ⊥
Reads (r ∷ rs) (m ∷ ms) = (message_in r ≡ Some m) × Reads rs ms

below : (r : Record) (m : Message) (rs : List Record) (ms : List Message) → message_in r ≡ Some m → AllByRecursion (λ s. text_cmp r.key s.key ≡ Less) rs → Reads rs ms → IsBelow stamp_of stamp_cmp m.stamp ms
below r m [] [] is low reads = tt
below r m [] (n ∷ ms) is low reads = absurd reads
below r m (s ∷ rs) [] is low reads = absurd reads
below r m (s ∷ rs) (n ∷ ms) is low reads = (sym (same_order r s m n is reads.0) ∙ low.0, below r m rs ms is low.1 reads.1)

-- messages of records with rising keys rise
pub rise_too : (rs : List Record) (ms : List Message) → Rise rs → Reads rs ms → IsRising ms
rise_too [] [] up reads = in_order_nil stamp_of stamp_cmp
rise_too [] (m ∷ ms) up reads = absurd reads
rise_too (r ∷ rs) [] up reads = absurd reads
rise_too (r ∷ rs) (m ∷ ms) up reads = cons stamp_of stamp_cmp m ms (below r m rs ms reads.0 up.1 reads.1) (rise_too rs ms up.2 reads.1)

-- rising messages are what they join to
join_itself : (ms : List Message) → IsRising ms → join [] ms ≡ ms
join_itself ms up = same stamp_of stamp_cmp stamps_total (join [] ms) ms (rising [] ms (in_order_nil stamp_of stamp_cmp)) up (λ s. found [] ms s)

abbrev pub keeps_none : Record → Bool
keeps_none r = is_none (message_in r)

all_read : (rs : List Record) (index : ℕ) → position_from keeps_none index rs ≡ None → Reads rs (filter_map message_in rs)
all_read [] index h = tt
all_read (r ∷ rs) index h = by (message_in r) refl h (all_read rs (index + 1))
  where
    by : (o : Option Message) → message_in r ≡ o → cond (is_none o) (Some index) (position_from keeps_none (index + 1) rs) ≡ None
        → (position_from keeps_none (index + 1) rs ≡ None → Reads rs (filter_map message_in rs)) → Reads (r ∷ rs) (cons_option o (filter_map message_in rs))
    by None is k rest = absurd (cc)
    by (Some m) is k rest = (is, rest k)

none_bad : (rs : List Record) (ms : List Message) (index : ℕ) → Reads rs ms → position_from keeps_none index rs ≡ None
none_bad [] [] index reads = refl
none_bad [] (m ∷ ms) index reads = absurd reads
none_bad (r ∷ rs) [] index reads = absurd reads
none_bad (r ∷ rs) (m ∷ ms) index reads = ap (λ o. cond (is_none o) (Some index) (position_from keeps_none (index + 1) rs)) reads.0 ∙ none_bad rs ms (index + 1) reads.1

all_are : (rs : List Record) (ms : List Message) → Reads rs ms → filter_map message_in rs ≡ ms
all_are [] [] reads = refl
all_are [] (m ∷ ms) reads = absurd reads
all_are (r ∷ rs) [] reads = absurd reads
all_are (r ∷ rs) (m ∷ ms) reads = ap₂ (λ (o : Option Message) (xs : List Message). cons_option o xs) reads.0 (all_are rs ms reads.1)

-- records with rising keys keep a message set just where they read as its messages
pub kept_reads : (rs : List Record) (ms : List Message) → Rise rs → kept_set rs ≡ Ok ms → Reads rs ms
kept_reads rs ms up h = by (position_from keeps_none 0 rs) refl h
  where
    by : (o : Option ℕ) → position_from keeps_none 0 rs ≡ o → unless_bad o (join [] (filter_map message_in rs)) ≡ Ok ms → Reads rs ms
    by None is k =
        let reads = all_read rs 0 is in
        let joined : join [] (filter_map message_in rs) ≡ ms = cc in
        subst (Reads rs) (sym (join_itself (filter_map message_in rs) (rise_too rs (filter_map message_in rs) up reads)) ∙ joined) reads
    by (Some index) is k = absurd (cc)

reads_kept : (rs : List Record) (ms : List Message) → Rise rs → Reads rs ms → kept_set rs ≡ Ok ms
reads_kept rs ms up reads =
    ap₂ (λ (o : Option ℕ) (read : List Message). unless_bad o (join [] read)) (none_bad rs ms 0 reads) (all_are rs ms reads)
    ∙ ap (λ x. Ok x) (join_itself ms (rise_too rs ms up reads))

-- ---- one message more

reads_added : (rs : List Record) (ms : List Message) (n : Message) → IsMessage n → list_any (has_stamp n.stamp) ms ≡ false → Reads rs ms → Reads (add_record rs (record_of n)) (placed by_stamp ms n)
reads_added [] [] n valid new reads = (reads_back n valid, tt)
reads_added [] (m ∷ ms) n valid new reads = absurd reads
reads_added (r ∷ rs) [] n valid new reads = absurd reads
reads_added (r ∷ rs) (m ∷ ms) n valid new reads =
    let order : text_cmp (stamp_text n.stamp) r.key ≡ stamp_cmp n.stamp m.stamp = same_order (record_of n) r n m (reads_back n valid) reads.0 in
    let q : Record = record_of n in
    let P : Ordering → Type 0 = λ o. Reads (by_order o (q ∷ r ∷ rs) (r ∷ rs) (r ∷ add_record rs q)) (cond (is_lt (stamp_cmp n.stamp m.stamp)) (n ∷ m ∷ ms) (m ∷ placed by_stamp ms n)) in
    subst P (sym order) (elim (stamp_cmp n.stamp m.stamp) as (λ o. (is_eq o || list_any (has_stamp n.stamp) ms) ≡ false
    → Reads (by_order o (q ∷ r ∷ rs) (r ∷ rs) (r ∷ add_record rs q)) (cond (is_lt o) (n ∷ m ∷ ms) (m ∷ placed by_stamp ms n))) [
      | Less ↦ λ h. (reads_back n valid, reads)
      | Equal ↦ λ h. absurd (true≢false h)
      | Greater ↦ λ h. (reads.0, reads_added rs ms n valid h reads.1)
    ] new)

-- under a key that the group lacked at entry there is the new message's record, or that of a message that was there
written_one : (group : Text) (entry now : Contents) (ms : List Message) (n : Message) → Holds group entry now ms → (key body : Text)
    → get entry.records (group, key) ≡ None → get (with_record group now.records (record_of n)) (group, key) ≡ Some body
    → (m : Message) × Contains (placed by_stamp ms n) m × (record_of m ≡ record { key = key; body = body })
written_one group entry now ms n h key body lacked has =
    by (get now.records place) refl (is_eq (place_cmp place own)) refl (sym (get_with now.records group (record_of n) place) ∙ has)
  where
    place : Place
    place = (group, key)

    own : Place
    own = (group, stamp_text n.stamp)

    by : (o : Option Text) → get now.records place ≡ o → (tied : Bool) → is_eq (place_cmp place own) ≡ tied
        → option_or o (cond tied (Some (message_body n)) None) ≡ Some body → (m : Message) × Contains (placed by_stamp ms n) m × (record_of m ≡ record { key = key; body = body })
    by (Some old) is tied at k =
        let w = h.written key body lacked (is ∙ k) in
        (w.0, still_there ms n w.0 w.1, w.2)
    by None is true at k =
        let here : key ≡ stamp_text n.stamp = ap (λ (p : Place). p.1) (place_same place own (equal _ at)) in
        let same : message_body n ≡ body = cc in
        (n, placed_is_there ms n, ap₂ (λ (k b : Text). record { key = k; body = b }) (sym here) same)
    by None is false at k = absurd (cc)

holds_one : (group : Text) (entry now : Contents) (ms : List Message) (n : Message) → IsMessage n → list_any (has_stamp n.stamp) ms ≡ false → Holds group entry now ms
    → Holds group entry (appended now group (record_of n ∷ [])) (placed by_stamp ms n)
holds_one group entry now ms n valid new h =
    let after : Contents = appended now group (record_of n ∷ []) in
    let old = records_after now group [] in
    let grown : records_after after group [] ≡ add_record old (record_of n) = group_with now.records group (record_of n) (have_keys (n ∷ []) (valid, tt)).0 in
    let reads = reads_added old ms n valid new (kept_reads old ms (records_rise now.records group []) h.messages) in
    record {
      messages = reads_kept (records_after after group []) (placed by_stamp ms n) (records_rise after.records group [])
          (let P : List Record → Type 0 = λ rs. Reads rs (placed by_stamp ms n) in subst P (sym grown) reads);
      kept = λ key body had. get_with now.records group (record_of n) (group, key)
          ∙ ap (λ o. option_or o (cond (is_eq (place_cmp (group, key) (group, stamp_text n.stamp))) (Some (message_body n)) None)) (h.kept key body had);
      written = written_one group entry now ms n h;
      others = record {
        records = λ p other. others_with now.records group (record_of n) p other ∙ h.others.records p other;
        texts = h.others.texts;
      };
    }

pub batches_kept : BatchesAreKept
batches_kept group entry now ms [] valid h = h
batches_kept group entry now ms (n ∷ ns) valid h =
    elim (list_any (has_stamp n.stamp) ms) as (λ b. list_any (has_stamp n.stamp) ms ≡ b
    → Holds group entry (appended now group (map record_of (cond b (new_in ms ns) (n ∷ new_in (cond b ms (placed by_stamp ms n)) ns)))) (join (cond b ms (placed by_stamp ms n)) ns)) [
      | true ↦ λ there. batches_kept group entry now ms ns valid.1 h
      | false ↦ λ new. batches_kept group entry (appended now group (record_of n ∷ [])) (placed by_stamp ms n) ns valid.1 (holds_one group entry now ms n valid.0 new h)
    ] refl
