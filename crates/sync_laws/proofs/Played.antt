-- The replies to a world's lines, and a line that is refused.
use Rattle.std.proofs.Common.{◌≡◌, ◌⊎◌, inl, inr, ◌<◌, ◌≤◌, ℕ, suc, List, [], ◌∷◌, ◌++◌, length, Bool, true, false, cond, ◌||◌, nat_lt, Option, None, Some, slice_get, refl, sym, ap, ◌∙◌, true≢false, arith}
use Rattle.std.specs.Prelude.{IsUtf8}
use Rattle.std.specs.List.{list_any}
use Rattle.std.specs.Str.{is_utf8}
use Rattle.std.proofs.lemmas.Bool.{false_from_ne_true}
use Rattle.std.proofs.lemmas.Str.{IsUtf8-from_is_utf8, is_utf8-from_IsUtf8}
use Rattle.command_lines.specs.declared.reply.Reply.{Reply}
use Rattle.command_lines.specs.declared.reply.Reply.TheVariants.{Done, Refused}
use Rattle.command_lines.specs.Commands.{longest_line, is_too_long}
use Rattle.command_lines.specs.Replies.{faulty}
use Rattle.sync_world.specs.World.{WorldState}
use Rattle.world_lines.specs.Session.{answered}
use Rattle.budget_top.specs.Lines.{all_lines}
use Rattle.budget_top.specs.Session.{is_refused}
use Rattle.budget_top.specs.Playing.{played_short, played, world_after, world_replies, reply_after, some_line_refused}
use Rattle.budget_top.specs.WorldRun.{WorldRun}
use Rattle.sync_laws.specs.Played.{with_line, IsPlayedBehind, AreReplies, WritesReplies, RepliesFollowLines, IsRefusal, HaveRefused, OneRefusalIsTold}

-- ---- a line behind others

behind : (w : Option WorldState) (before : List (List ℕ)) (line : List ℕ) → world_after w (before ++ line ∷ []) ≡ (played (world_after w before) line).0
behind w [] line = refl
behind w (l ∷ before) line = behind (played w l).0 before line

pair : (before : List (List ℕ)) (line : List ℕ) → with_line before line ≡ played (world_after None before) line
pair before line = ap (λ (w : Option WorldState). (w, reply_after before line)) (behind None before line)

is_long : (m n : ℕ) → m < n → nat_lt m n ≡ true
is_long m n h = grind arith

is_short : (m n : ℕ) → n ≤ m → nat_lt m n ≡ false
is_short m n h = grind arith

long_refused : (w : Option WorldState) (line : List ℕ) → longest_line < length line → played w line ≡ (w, faulty 0)
long_refused w line h = ap (λ b. cond b (w, faulty 0) (played_short w line)) (is_long longest_line (length line) h)

broken : (w : Option WorldState) (line : List ℕ) → (IsUtf8 line → ⊥) → played_short w line ≡ (w, faulty 0)
unfolding played_short
broken w line h = ap (λ b. cond b (answered w line) (w, faulty 0)) (false_from_ne_true (is_utf8 line) (λ e. h (IsUtf8-from_is_utf8 line e)))

either : (b : Bool) (w : Option WorldState) (p q : Option WorldState × Reply) → p ≡ q → cond b q p ≡ q
either true w p q h = refl
either false w p q h = h

not_text_refused : (w : Option WorldState) (line : List ℕ) → (IsUtf8 line → ⊥) → played w line ≡ (w, faulty 0)
not_text_refused w line h = either (is_too_long line) w (played_short w line) (w, faulty 0) (broken w line h)

whole_answered : (w : Option WorldState) (line : List ℕ) → length line ≤ longest_line → IsUtf8 line → played w line ≡ answered w line
unfolding played_short
whole_answered w line fits h =
    ap (λ b. cond b (w, faulty 0) (played_short w line)) (is_short longest_line (length line) fits)
    ∙ ap (λ b. cond b (answered w line) (w, faulty 0)) (is_utf8-from_IsUtf8 line h)

played_behind : (before : List (List ℕ)) (line : List ℕ) → IsPlayedBehind before line
played_behind before line = record { refused = refuses; answered = λ fits h. pair before line ∙ whole_answered (world_after None before) line fits h }
  where
    refuses : (longest_line < length line) ⊎ (IsUtf8 line → ⊥) → with_line before line ≡ (world_after None before, faulty 0)
    refuses (inl h) = pair before line ∙ long_refused (world_after None before) line h
    refuses (inr h) = pair before line ∙ not_text_refused (world_after None before) line h

-- ---- the replies to lines

as_many : (w : Option WorldState) (lines : List (List ℕ)) → length (world_replies w lines) ≡ length lines
as_many w [] = refl
as_many w (l ∷ lines) = ap suc (as_many (played w l).0 lines)

at_place : (w : Option WorldState) (before after : List (List ℕ)) (line : List ℕ) → slice_get (world_replies w (before ++ line ∷ after)) (length before) ≡ Some (played (world_after w before) line).1
at_place w [] after line = refl
at_place w (l ∷ before) after line = at_place (played w l).0 before after line

are_replies : (lines : List (List ℕ)) → AreReplies lines (world_replies None lines)
are_replies lines = record {
  one_each = as_many None lines;
  in_order = λ before after line is. ap (λ ls. slice_get (world_replies None ls) (length before)) is ∙ at_place None before after line;
}

-- ---- a line that is refused

refusal : (reply : Reply) → is_refused reply ≡ true → IsRefusal reply
refusal (Done lines) h = absurd (true≢false (sym h))
refusal (Refused number code detail) h = (number, code, detail, refl)

-- a line among others whose reply is a refusal, from a world on
record Finds (w : Option WorldState) (lines : List (List ℕ)) : Type 0 where
  before : List (List ℕ)
  line : List ℕ
  after : List (List ℕ)
  among : lines ≡ before ++ line ∷ after
  refused : IsRefusal (played (world_after w before) line).1

found : (w : Option WorldState) (lines : List (List ℕ)) → list_any is_refused (world_replies w lines) ≡ true → Finds w lines
found w [] h = absurd (true≢false (sym h))
found w (l ∷ lines) h = by (found (played w l).0 lines) (is_refused (played w l).1) refl
  where
    by : (list_any is_refused (world_replies (played w l).0 lines) ≡ true → Finds (played w l).0 lines) → (b : Bool) → is_refused (played w l).1 ≡ b → Finds w (l ∷ lines)
    by later true is = record { before = []; line = l; after = lines; among = refl; refused = refusal (played w l).1 is }
    by later false is =
        let f = later (ap (λ b. b || list_any is_refused (world_replies (played w l).0 lines)) (sym is) ∙ h) in
        record { before = l ∷ f.before; line = f.line; after = f.after; among = ap (λ (ls : List (List ℕ)). l ∷ ls) f.among; refused = f.refused }

or_true : (b : Bool) → (b || true) ≡ true
or_true true = refl
or_true false = refl

tells : (w : Option WorldState) (before after : List (List ℕ)) (line : List ℕ) → IsRefusal (played (world_after w before) line).1 → list_any is_refused (world_replies w (before ++ line ∷ after)) ≡ true
tells w [] after line h = ap (λ r. is_refused r || list_any is_refused (world_replies (played w line).0 after)) h.3
tells w (l ∷ before) after line h = ap (λ b. is_refused (played w l).1 || b) (tells (played w l).0 before after line h) ∙ or_true (is_refused (played w l).1)

have : (lines : List (List ℕ)) → some_line_refused lines ≡ true → HaveRefused lines
have lines h = let f = found None lines h in record { before = f.before; line = f.line; after = f.after; among = f.among; refused = f.refused }

has_told : (lines : List (List ℕ)) → HaveRefused lines → some_line_refused lines ≡ true
has_told lines h = ap some_line_refused h.among ∙ tells None h.before h.after h.line h.refused

-- ---- the laws

replied : (status : ℕ) (left new_left taken new_taken : Option (List ℕ)) (run : WorldRun status left new_left taken new_taken) → (status ≡ 0) ⊎ (status ≡ 1) → WritesReplies run.read taken new_taken
replied status left new_left taken new_taken run (inl is) = record { replies = world_replies None (all_lines run.read); are = are_replies (all_lines run.read); written = (run.all_good is).written }
replied status left new_left taken new_taken run (inr is) = record { replies = world_replies None (all_lines run.read); are = are_replies (all_lines run.read); written = (run.some_refused is).written }

pub replies_follow : RepliesFollowLines
replies_follow = record {
  begun = refl;
  played = played_behind;
  texts = λ lines. (world_replies None lines, are_replies lines, refl);
  runs = replied;
}

pub one_told : OneRefusalIsTold
one_told = record {
  exactly = λ lines. (have lines, has_told lines);
  none = λ left new_left taken new_taken run h. absurd (true≢false (sym (has_told (all_lines run.read) h) ∙ (run.all_good refl).bad));
  some = λ left new_left taken new_taken run. have (all_lines run.read) (run.some_refused refl).bad;
}
