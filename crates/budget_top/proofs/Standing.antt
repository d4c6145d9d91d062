-- Where merging stands after one more step.
use Rattle.std.proofs.Common.{◌≡◌, ℕ, ◌+◌, List, [], ◌∷◌, ◌++◌, refl, ap, sym, ◌∙◌, subst, Bool, true, false, ◌||◌, cond, Ok, Err, Result, Option, None, Some, length, length-append, arith, append_assoc, append-nil, nat_lt}
use Rattle.std.proofs.lemmas.Bool.{ltb-true, lt-ltb, cond-true}
use Rattle.std.proofs.KnownBytes.{Appends-trans, Appends-nil}
use Rattle.std.specs.Io.KnownBytes.{Appends}
use Rattle.std.specs.Result.{is_err}
use Rattle.field_merge.specs.declared.message.Message.{Message}
use Rattle.field_merge.specs.Latest.{CameFrom, LatestState}
use Rattle.budget_top.specs.declared.merge.Merge.{Merge}
use Rattle.budget_top.specs.Lines.{IsWithinLine, whole_lines, last_piece}
use Rattle.command_lines.specs.Commands.{longest_line}
use Rattle.budget_top.specs.declared.verdict.Word.{Word}
use Rattle.budget_top.specs.Verdicts.{Takes, Verdict, judged, judged_short, bad_line, bad_lines, bad_lines_from, messages_of, message_in, some_bad}
use Rattle.budget_top.specs.KeptLine.{kept_line, kept_line_with, judged_kept_line}
use Rattle.budget_top.specs.Fronts.{IsFront, AppendsFront}
use Rattle.budget_top.specs.Steps.{Settles, Stands}
use Rattle.budget_top.proofs.Cutting.{whole_lines-within, last_piece-within, whole_lines-end, last_piece-end, whole_lines-append}
use Rattle.budget_top.proofs.Counting.{bad_lines-append, bad_lines-push, messages-push, some_bad-push, length-push}

-- fronts of texts

part_more : (front x y : List ℕ) → IsFront front x → IsFront front (x ++ y)
part_more front x y h = (h.0 ++ y, sym (append_assoc front h.0 y) ∙ ap (λ t. t ++ y) h.1)

part_as : (front x y : List ℕ) → x ≡ y → IsFront front x → IsFront front y
part_as front x y e h = (h.0, h.1 ∙ e)

pub front_all : (a b : Option (List ℕ)) (x y : List ℕ) → Appends a b x → AppendsFront a b (x ++ y)
front_all a b x y h = record { front = x; of = (y, refl); written = h }

pub front_none : (a : Option (List ℕ)) (x : List ℕ) → AppendsFront a a x
front_none a x = record { front = []; of = (x, refl); written = Appends-nil a }

pub front_then : (a b c : Option (List ℕ)) (x y : List ℕ) → Appends a b x → AppendsFront b c y → AppendsFront a c (x ++ y)
front_then a b c x y h k = record {
  front = x ++ k.front;
  of = (k.of.0, append_assoc x k.front k.of.0 ∙ ap (λ t. x ++ t) k.of.1);
  written = Appends-trans a b c x k.front h k.written;
}

pub front_more : (a b : Option (List ℕ)) (x y : List ℕ) → AppendsFront a b x → AppendsFront a b (x ++ y)
front_more a b x y h = record { front = h.front; of = part_more h.front x y h.of; written = h.written }

pub front_as : (a b : Option (List ℕ)) (x y : List ℕ) → x ≡ y → AppendsFront a b x → AppendsFront a b y
front_as a b x y e h = record { front = h.front; of = part_as h.front x y e h.of; written = h.written }

pub appends_as : (a b : Option (List ℕ)) (x y : List ℕ) → x ≡ y → Appends a b x → Appends a b y
appends_as a b x y e h = let P : List ℕ → Type 0 = λ t. Appends a b t in subst P e h

-- a front of what is due for some bytes is one for more of them
pub part_of_more : (front xs ys : List ℕ) → IsFront front (bad_lines (whole_lines xs)) → IsFront front (bad_lines (whole_lines (xs ++ ys)))
part_of_more front xs ys h =
    let more = whole_lines-append xs ys in
    part_as front _ _
    (sym (ap bad_lines more.1 ∙ bad_lines-append (whole_lines xs) more.0))
    (part_more front (bad_lines (whole_lines xs)) (bad_lines_from (1 + length (whole_lines xs)) more.0) h)

pub front_of_more : (a b : Option (List ℕ)) (xs ys : List ℕ) → AppendsFront a b (bad_lines (whole_lines xs)) → AppendsFront a b (bad_lines (whole_lines (xs ++ ys)))
front_of_more a b xs ys h = record { front = h.front; of = part_of_more h.front xs ys h.of; written = h.written }

-- what is kept of a line

wider : (most a b : ℕ) → nat_lt most a ≡ true → nat_lt most (a + b) ≡ true
wider most a b h = let more = ltb-true most a h in lt-ltb most (a + b) (omega arith)

long_more : (line more : List ℕ) → nat_lt longest_line (length line) ≡ true → nat_lt longest_line (length (line ++ more)) ≡ true
long_more line more h =
    let P : ℕ → Type 0 = λ k. nat_lt longest_line k ≡ true in
    subst P (sym (length-append line more)) (wider longest_line (length line) (length more) h)

pub kept_line-append : (line more : List ℕ) → kept_line_with (kept_line line) more ≡ kept_line (line ++ more)
kept_line-append line more =
    elim (nat_lt longest_line (length line)) as (λ t. nat_lt longest_line (length line) ≡ t → kept_line_with (cond t None (Some line)) more ≡ kept_line (line ++ more)) [
      | true ↦ λ e. sym (cond-true _ _ _ (long_more line more e))
      | false ↦ λ e. refl
    ] refl

pub judged-kept_line : (line : List ℕ) → judged_kept_line (kept_line line) ≡ judged line
judged-kept_line line = elim (nat_lt longest_line (length line)) as (λ t. judged_kept_line (cond t None (Some line)) ≡ cond t (judged_kept_line None) (judged_short line)) [ true ↦ refl | false ↦ refl ]

-- the steps

or_false : (b : Bool) → b ≡ (b || false)
or_false true = refl
or_false false = refl

or_true : (b : Bool) → true ≡ (b || true)
or_true true = refl
or_true false = refl

verdict_told : (word other : Word) (told : Result Unit Word) → told ≡ Err word → told ≡ Err other → (v : Verdict) → v ≡ Err word → v ≡ Err other
verdict_told word other told h k v is = cc

-- a word was told of a line
pub settles_bad : (old new : Merge) (latest : LatestState) (a b : Option (List ℕ)) (verdict : Verdict) (word : Word) → Takes verdict (Err word) old.latest latest → new.latest ≡ latest → old.latest.spent ≡ false
    → new.number ≡ old.number → new.has_bad ≡ true → Appends a b (bad_line (old.number + 1) (Err word)) → Settles old new a b verdict
settles_bad old new latest a b (Ok m) word taken same live number bad written = absurd (cc)
settles_bad old new latest a b (Err other) word taken same live number bad written =
    let stays : new.latest ≡ old.latest = same ∙ taken.1 in
    record {
      live = ap (λ (l : LatestState). l.spent) stays ∙ live;
      messages = λ ms came. subst (λ (ns : List Message). CameFrom ns new.latest) (sym (append-nil ms)) (subst (λ (l : LatestState). CameFrom ms l) (sym stays) came);
      number = number;
      bad = bad ∙ or_true old.has_bad;
      written = subst (λ (v : Verdict). Appends a b (bad_line (old.number + 1) v)) (verdict_told word other (Err word) refl taken.0 (Err word) refl) written;
    }

pub stands_within : (entry now : Option (List ℕ)) (read bytes : List ℕ) (old new : Merge) → IsWithinLine bytes
    → new.latest ≡ old.latest → new.line ≡ kept_line_with old.line bytes → new.number ≡ old.number → new.has_bad ≡ old.has_bad
    → Stands entry now read old → Stands entry now (read ++ bytes) new
stands_within entry now read bytes old new within latest line number bad h =
    let same = sym (whole_lines-within read bytes within) in
    record {
      live = ap (λ (l : LatestState). l.spent) latest ∙ h.live;
      messages =
          subst (λ (ls : List (List ℕ)). CameFrom (messages_of ls) new.latest) same
          (subst (λ (l : LatestState). CameFrom (messages_of (whole_lines read)) l) (sym latest) h.messages);
      line =
          line ∙ ap (λ k. kept_line_with k bytes) h.line ∙ kept_line-append (last_piece read) bytes
          ∙ ap kept_line (sym (last_piece-within read bytes within));
      number = number ∙ h.number ∙ ap length same;
      bad = bad ∙ h.bad ∙ ap some_bad same;
      written = appends_as entry now _ _ (ap bad_lines same) h.written;
    }

-- the line that has begun, as the next one
due : (read : List ℕ) → bad_lines (whole_lines (read ++ 10 ∷ [])) ≡ bad_lines (whole_lines read) ++ bad_line (length (whole_lines read) + 1) (judged (last_piece read))
due read = ap bad_lines (whole_lines-end read) ∙ bad_lines-push (whole_lines read) (last_piece read)

stands_end : (entry now then : Option (List ℕ)) (read : List ℕ) (old mid new : Merge) (verdict : Verdict) → verdict ≡ judged_kept_line old.line → Settles old mid now then verdict
    → new.latest ≡ mid.latest → new.line ≡ Some [] → new.number ≡ mid.number + 1 → new.has_bad ≡ mid.has_bad
    → Stands entry now read old → Stands entry then (read ++ 10 ∷ []) new
stands_end entry now then read old mid new verdict judges s latest line number bad h =
    let is : verdict ≡ judged (last_piece read) = judges ∙ ap judged_kept_line h.line ∙ judged-kept_line (last_piece read) in
    let lines = sym (whole_lines-end read) in
    record {
      live = ap (λ (l : LatestState). l.spent) latest ∙ s.live;
      messages =
          subst (λ (ms : List Message). CameFrom ms new.latest)
          (ap (λ v. messages_of (whole_lines read) ++ message_in v) is ∙ sym (messages-push (whole_lines read) (last_piece read)) ∙ ap messages_of lines)
          (subst (λ (l : LatestState). CameFrom (messages_of (whole_lines read) ++ message_in verdict) l) (sym latest) (s.messages (messages_of (whole_lines read)) h.messages));
      line = line ∙ ap kept_line (sym (last_piece-end read));
      number = omega (arith, number, s.number, h.number, ap length lines, length-push (whole_lines read) (last_piece read));
      bad =
          bad ∙ s.bad ∙ ap (λ b. b || is_err verdict) h.bad ∙ ap (λ v. some_bad (whole_lines read) || is_err v) is
          ∙ sym (some_bad-push (whole_lines read) (last_piece read)) ∙ ap some_bad lines;
      written =
          appends_as entry then _ _
          (ap (λ n. bad_lines (whole_lines read) ++ bad_line (n + 1) verdict) h.number ∙ ap (λ v. bad_lines (whole_lines read) ++ bad_line (length (whole_lines read) + 1) v) is ∙ sym (due read))
          (Appends-trans entry now then (bad_lines (whole_lines read)) (bad_line (old.number + 1) verdict) h.written s.written);
    }

-- the same of a line that ends with some bytes
abbrev with_bytes : Merge → List ℕ → Merge
with_bytes m bytes = record { latest = m.latest; line = kept_line_with m.line bytes; number = m.number; has_bad = m.has_bad }

begun_with : (entry now : Option (List ℕ)) (read bytes : List ℕ) (m : Merge) → IsWithinLine bytes → Stands entry now read m → Stands entry now (read ++ bytes) (with_bytes m bytes)
begun_with entry now read bytes m within h = stands_within entry now read bytes m (with_bytes m bytes) within refl refl refl refl h

pub stands_end_with : (entry now then : Option (List ℕ)) (read bytes : List ℕ) (old mid new : Merge) → IsWithinLine bytes → Settles old mid now then (judged_kept_line (kept_line_with old.line bytes))
    → new.latest ≡ mid.latest → new.line ≡ Some [] → new.number ≡ mid.number + 1 → new.has_bad ≡ mid.has_bad
    → Stands entry now read old → Stands entry then (read ++ bytes ++ 10 ∷ []) new
stands_end_with entry now then read bytes old mid new within s latest line number bad h =
    stands_end entry now then (read ++ bytes) (with_bytes old bytes) mid new _ refl
    (record { live = s.live; messages = s.messages; number = s.number; bad = s.bad; written = s.written })
    latest line number bad (begun_with entry now read bytes old within h)

-- the line that has begun was not written whole
breaks_end : (entry now then : Option (List ℕ)) (read : List ℕ) (old : Merge) (verdict : Verdict) → verdict ≡ judged_kept_line old.line → AppendsFront now then (bad_line (old.number + 1) verdict)
    → Stands entry now read old → AppendsFront entry then (bad_lines (whole_lines (read ++ 10 ∷ [])))
breaks_end entry now then read old verdict judges f h =
    let is : verdict ≡ judged (last_piece read) = judges ∙ ap judged_kept_line h.line ∙ judged-kept_line (last_piece read) in
    front_as entry then _ _
    (ap (λ n. bad_lines (whole_lines read) ++ bad_line (n + 1) verdict) h.number ∙ ap (λ v. bad_lines (whole_lines read) ++ bad_line (length (whole_lines read) + 1) v) is ∙ sym (due read))
    (front_then entry now then (bad_lines (whole_lines read)) (bad_line (old.number + 1) verdict) h.written f)

pub breaks_end_with : (entry now then : Option (List ℕ)) (read bytes : List ℕ) (old : Merge) → IsWithinLine bytes → AppendsFront now then (bad_line (old.number + 1) (judged_kept_line (kept_line_with old.line bytes)))
    → Stands entry now read old → AppendsFront entry then (bad_lines (whole_lines (read ++ bytes ++ 10 ∷ [])))
breaks_end_with entry now then read bytes old within f h =
    breaks_end entry now then (read ++ bytes) (with_bytes old bytes) _ refl f (begun_with entry now read bytes old within h)

-- nothing more was written
pub breaks_now : (entry now : Option (List ℕ)) (read more : List ℕ) (m : Merge) → Stands entry now read m → AppendsFront entry now (bad_lines (whole_lines (read ++ more)))
breaks_now entry now read more m h =
    front_of_more entry now read more
    (front_as entry now _ _ (append-nil (bad_lines (whole_lines read))) (front_all entry now (bad_lines (whole_lines read)) [] h.written))
