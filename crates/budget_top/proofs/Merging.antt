-- What a merge writes of the messages of its lines.
use Rattle.std.specs.Prelude.{◌↔◌}
use Rattle.std.proofs.Common.{◌≡◌, ◌≢◌, ℕ, zero, suc, ◌+◌, Bool, true, false, cond, List, [], ◌∷◌, ◌++◌, Option, None, Some, ◌⊎◌, inl, inr, Ok, Err, refl, ap, ap₂, sym, subst, ◌∙◌, arith}
use Rattle.std.specs.List.{Contains}
use Rattle.std.specs.Ordering.{is_eq}
use Rattle.std.specs.Cmp.{tied_itself}
use Rattle.hybrid_clock.specs.declared.stamp.Stamp.{Stamp}
use Rattle.hybrid_clock.specs.Order.{stamp_cmp}
use Rattle.field_merge.specs.declared.message.Message.{Message}
use Rattle.field_merge.specs.Joining.{HasOneEach, HaveSame, IsLatest, IsLatestOrNone}
use Rattle.field_merge.specs.Laws.{LatestIsLatest}
use Rattle.field_merge.specs.Log.{IsRising, has_stamp, at_stamp, join, latest, fields, field_text}
use Rattle.field_merge.proofs.Fields.{lists_latest}
use Rattle.field_merge.proofs.Joining.{found, in_any_order, rising, stamp_of}
use Rattle.field_merge.proofs.Members.{here, there, found_in}
use Rattle.field_merge.proofs.Ordered.{equal, found_by_key, in_order_nil}
use Rattle.field_merge.proofs.Orders.{stamps_exact, stamps_total}
use Rattle.command_lines.proofs.AnswerLemmas.{only_latest}
use Rattle.budget_top.specs.declared.verdict.Word.{Word}
use Rattle.budget_top.specs.Lines.{all_lines}
use Rattle.budget_top.specs.Verdicts.{Verdict, judged, bad_line, bad_lines_from, bad_lines, message_in, messages_of}
use Rattle.budget_top.specs.Merging.{IsLineOf, HasLineOf, Counts, IsLatestIn, ListsLatestIn, HaveOneEach, AreGood, MergesAgree}
use Rattle.budget_top.proofs.Judged.{lines_judged}

-- ---- a line and its message

of_verdict : (line : List ℕ) (m : Message) → IsLineOf m line → judged line ≡ Ok m
of_verdict line m is = (lines_judged.good line m).1 is

is_of : (line : List ℕ) (m : Message) → judged line ≡ Ok m → IsLineOf m line
is_of line m e = (lines_judged.good line m).0 e

one_message : (line : List ℕ) (m n : Message) → IsLineOf m line → judged line ≡ Ok n → n ≡ m
one_message line m n is e = let both : ◌≡◌ {A = Verdict} (Ok n) (Ok m) = sym e ∙ of_verdict line m is in cc

no_message : (line : List ℕ) (m : Message) (word : Word) → judged line ≡ Err word → IsLineOf m line → ⊥
no_message line m word e is = let both : ◌≡◌ {A = Verdict} (Err word) (Ok m) = sym e ∙ of_verdict line m is in cc

-- ---- the first message of a timestamp

has_same : (m : Message) → has_stamp m.stamp m ≡ true
has_same m = ap is_eq (tied_itself stamps_total m.stamp)

same_stamp : (s : Stamp) (m : Message) → has_stamp s m ≡ true → m.stamp ≡ s
same_stamp s m h = sym (stamps_exact s m.stamp (equal _ h))

other_stamp : (s : Stamp) (m : Message) → m.stamp ≢ s → has_stamp s m ≡ false
other_stamp s m h = by (has_stamp s m) refl
  where
    by : (t : Bool) → has_stamp s m ≡ t → t ≡ false
    by true e = absurd (h (same_stamp s m e))
    by false e = refl

-- a message that counts is found by its timestamp
counted : (front : List (List ℕ)) (line : List ℕ) (rest : List (List ℕ)) (m : Message) → IsLineOf m line → ((n : Message) → HasLineOf front n → n.stamp ≢ m.stamp)
    → at_stamp (messages_of (front ++ line ∷ rest)) m.stamp ≡ Some m
counted [] line rest m is first =
    ap (λ (v : Verdict). at_stamp (message_in v ++ messages_of rest) m.stamp) (of_verdict line m is)
    ∙ ap (λ t. cond t (Some m) (at_stamp (messages_of rest) m.stamp)) (has_same m)
counted (next ∷ front) line rest m is first = by (judged next) refl (counted front line rest m is (λ n h. first n (inr h)))
  where
    by : (v : Verdict) → judged next ≡ v → at_stamp (messages_of (front ++ line ∷ rest)) m.stamp ≡ Some m → at_stamp (message_in (judged next) ++ messages_of (front ++ line ∷ rest)) m.stamp ≡ Some m
    by (Err word) e more = ap (λ (v : Verdict). at_stamp (message_in v ++ messages_of (front ++ line ∷ rest)) m.stamp) e ∙ more
    by (Ok n) e more =
        ap (λ (v : Verdict). at_stamp (message_in v ++ messages_of (front ++ line ∷ rest)) m.stamp) e
        ∙ ap (λ t. cond t (Some n) (at_stamp (messages_of (front ++ line ∷ rest)) m.stamp)) (other_stamp m.stamp n (first n (inl (is_of next n e))))
        ∙ more

-- one line more in front, which is none of a message with this timestamp
behind_line : (next : List ℕ) (lines : List (List ℕ)) (m : Message) → ((n : Message) → IsLineOf n next → n.stamp ≢ m.stamp) → Counts lines m → Counts (next ∷ lines) m
behind_line next lines m other c = record {
  front = next ∷ c.front;
  line = c.line;
  rest = c.rest;
  cut = ap (λ ls. next ∷ ls) c.cut;
  is_line = c.is_line;
  first = λ n h. elim h [
    | inl of_next ↦ other n of_next
    | inr of_front ↦ c.first n of_front
  ];
}

-- and a message that is found by a timestamp counts
find_counts : (lines : List (List ℕ)) (s : Stamp) (m : Message) → at_stamp (messages_of lines) s ≡ Some m → Counts lines m × (m.stamp ≡ s)
find_counts [] s m e = absurd (cc)
find_counts (line ∷ lines) s m e = by (judged line) refl (find_counts lines s m) e
  where
    on_stamp : (n : Message) (t : Bool) → judged line ≡ Ok n → has_stamp s n ≡ t → (at_stamp (messages_of lines) s ≡ Some m → Counts lines m × (m.stamp ≡ s))
        → cond t (Some n) (at_stamp (messages_of lines) s) ≡ Some m → Counts (line ∷ lines) m × (m.stamp ≡ s)
    on_stamp n true v h on e =
        let same : n ≡ m = cc in
        subst (λ (x : Message). Counts (line ∷ lines) x × (x.stamp ≡ s)) same (
          record { front = []; line = line; rest = lines; cut = refl; is_line = is_of line n v; first = λ k none. absurd none },
          same_stamp s n h,
        )
    on_stamp n false v h on e =
        let rest = on e in (
          behind_line line lines m (λ k of_line both. let same : n ≡ k = one_message line k n of_line v in
              let yes : has_stamp s n ≡ true = subst (λ (x : Message). has_stamp s x ≡ true) (sym same) (subst (λ (t : Stamp). has_stamp t k ≡ true) (both ∙ rest.1) (has_same k)) in
              let clash : true ≡ false = sym yes ∙ h in cc) rest.0,
          rest.1,
        )

    by : (v : Verdict) → judged line ≡ v → (at_stamp (messages_of lines) s ≡ Some m → Counts lines m × (m.stamp ≡ s))
        → at_stamp (message_in (judged line) ++ messages_of lines) s ≡ Some m → Counts (line ∷ lines) m × (m.stamp ≡ s)
    by (Err word) v on e =
        let rest = on (ap (λ (x : Verdict). at_stamp (message_in x ++ messages_of lines) s) (sym v) ∙ e) in
        (behind_line line lines m (λ k of_line. absurd (no_message line k word v of_line)) rest.0, rest.1)
    by (Ok n) v on e = on_stamp n (has_stamp s n) v refl on (ap (λ (x : Verdict). at_stamp (message_in x ++ messages_of lines) s) (sym v) ∙ e)

-- ---- the messages that are joined

abbrev joined : List (List ℕ) → List Message
joined lines = join [] (messages_of lines)

joined_rising : (lines : List (List ℕ)) → IsRising (joined lines)
joined_rising lines = rising [] (messages_of lines) (in_order_nil stamp_of stamp_cmp)

joined_counts : (lines : List (List ℕ)) (m : Message) → Contains (joined lines) m → Counts lines m
joined_counts lines m c =
    (find_counts lines m.stamp m (sym (found [] (messages_of lines) m.stamp) ∙ found_by_key stamp_of stamp_cmp stamps_total (joined lines) (joined_rising lines) m c)).0

counts_joined : (lines : List (List ℕ)) (m : Message) → Counts lines m → Contains (joined lines) m
counts_joined lines m c =
    (found_in (has_stamp m.stamp) (joined lines) m (found [] (messages_of lines) m.stamp
    ∙ ap (λ ls. at_stamp (messages_of ls) m.stamp) c.cut ∙ counted c.front c.line c.rest m c.is_line c.first)).0

latest_counts : (lines : List (List ℕ)) (m : Message) → IsLatest (joined lines) m.field m → IsLatestIn lines m
latest_counts lines m is = record {
  counts = joined_counts lines m is.there;
  greatest = λ n c same. is.greatest n (counts_joined lines n c) same;
}

counts_latest : (lines : List (List ℕ)) (m : Message) → IsLatestIn lines m → IsLatest (joined lines) m.field m
counts_latest lines m is = record {
  there = counts_joined lines m is.counts;
  of_field = refl;
  greatest = λ n c same. is.greatest n (joined_counts lines n c) same;
}

found_latest : LatestIsLatest → (lines : List (List ℕ)) (m : Message) → latest (joined lines) m.field ≡ Some m → IsLatest (joined lines) m.field m
found_latest law lines m e = by (latest (joined lines) m.field) e (law (joined lines) m.field (joined_rising lines))
  where
    by : (o : Option Message) → o ≡ Some m → IsLatestOrNone (joined lines) m.field o → IsLatest (joined lines) m.field m
    by None is h = absurd (cc)
    by (Some n) is h = let same : n ≡ m = cc in subst (λ (x : Message). IsLatest (joined lines) m.field x) same h

lists : LatestIsLatest → (lines : List (List ℕ)) → ListsLatestIn lines (fields (joined lines))
lists law lines =
    let all = lists_latest (joined lines) in
    record {
      in_order = all.in_order;
      exactly = λ m. (
        λ c. latest_counts lines m (found_latest law lines m ((all.exactly m).0 c)),
        λ is. (all.exactly m).1 (only_latest law (joined lines) m.field m (joined_rising lines) (counts_latest lines m is)),
      );
    }

-- ---- the same messages

first_or_rest : (x y : Message) (xs : List Message) → Contains (x ∷ xs) y → (x ≡ y) ⊎ Contains xs y
first_or_rest x y xs (zero, below, is) = inl is
first_or_rest x y xs (suc k, below, is) = inr (k, omega (arith, below), is)

has_line : (lines : List (List ℕ)) (m : Message) → Contains (messages_of lines) m → HasLineOf lines m
has_line [] m (k, below, is) = absurd (omega (arith, below))
has_line (line ∷ lines) m c = by (judged line) refl (has_line lines m) c
  where
    by : (v : Verdict) → judged line ≡ v → (Contains (messages_of lines) m → HasLineOf lines m) → Contains (message_in (judged line) ++ messages_of lines) m → HasLineOf (line ∷ lines) m
    by (Err word) v on c = inr (on (subst (λ (x : Verdict). Contains (message_in x ++ messages_of lines) m) v c))
    by (Ok n) v on c =
        elim (first_or_rest n m (messages_of lines) (subst (λ (x : Verdict). Contains (message_in x ++ messages_of lines) m) v c)) [
          | inl same ↦ inl (subst (λ (x : Message). IsLineOf x line) same (is_of line n v))
          | inr more ↦ inr (on more)
        ]

line_had : (lines : List (List ℕ)) (m : Message) → HasLineOf lines m → Contains (messages_of lines) m
line_had [] m h = absurd h
line_had (line ∷ lines) m (inl is) =
    subst (λ (x : Verdict). Contains (message_in x ++ messages_of lines) m) (sym (of_verdict line m is)) (here m (messages_of lines))
line_had (line ∷ lines) m (inr h) = by (judged line) (line_had lines m h)
  where
    by : (v : Verdict) → Contains (messages_of lines) m → Contains (message_in v ++ messages_of lines) m
    by (Err word) c = c
    by (Ok n) c = there n (messages_of lines) m c

none_bad : (number : ℕ) (lines : List (List ℕ)) → AreGood lines → bad_lines_from number lines ≡ []
none_bad number [] good = refl
none_bad number (line ∷ lines) good =
    ap (λ (v : Verdict). bad_line number v ++ bad_lines_from (number + 1) lines) (of_verdict line good.0.0 good.0.1) ∙ none_bad (number + 1) lines good.1

agree : (a b : List (List ℕ)) → AreGood a → AreGood b → HaveOneEach a → ((m : Message) → HasLineOf a m ↔ HasLineOf b m)
    → bad_lines a ++ field_text (joined a) ≡ bad_lines b ++ field_text (joined b)
agree a b good_a good_b one same =
    let each : HasOneEach (messages_of a) = λ m n at_m at_n e. one m n (has_line a m at_m) (has_line a n at_n) e in
    let have : HaveSame (messages_of a) (messages_of b) = λ m. (λ c. line_had b m ((same m).0 (has_line a m c)), λ c. line_had a m ((same m).1 (has_line b m c))) in
    let all : joined a ≡ joined b = in_any_order [] (messages_of a) (messages_of b) (in_order_nil stamp_of stamp_cmp) each have in
    ap₂ (λ bad ms. bad ++ field_text ms) (none_bad 1 a good_a ∙ sym (none_bad 1 b good_b)) all

pub merges_agree_by : LatestIsLatest → MergesAgree
merges_agree_by law = record {
  judged = lines_judged;
  writes = λ bytes. (fields (joined (all_lines bytes)), lists law (all_lines bytes), refl);
  agree = λ a b good_a good_b one same. agree (all_lines a) (all_lines b) good_a good_b one same;
}
