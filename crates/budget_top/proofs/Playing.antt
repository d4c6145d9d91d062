-- Where a world's run stands after one more line, and how it breaks off.
use Rattle.std.proofs.Common.{◌≡◌, ℕ, ◌+◌, ◌-◌, take, drop, List, [], ◌∷◌, ◌++◌, refl, ap, ap₂, ◌∙◌, sym, subst, append-nil, Bool, true, false, ◌||◌, cond, Option, None, Some, Result, Ok, Err, IfOk, length}
use Rattle.std.proofs.KnownBytes.{Appends-trans, Appends-nil}
use Rattle.std.proofs.lemmas.List.Concat.{flat_map-append}
use Rattle.std.proofs.lemmas.List.Folds.{list_any-append}
use Rattle.std.specs.Prelude.{IsUtf8}
use Rattle.std.specs.List.{flat_map, list_any}
use Rattle.std.specs.Str.{is_utf8}
use Rattle.std.proofs.lemmas.Bool.{false_from_ne_true}
use Rattle.std.proofs.lemmas.Str.{IsUtf8-from_is_utf8, is_utf8-from_IsUtf8}
use Rattle.std.specs.Io.KnownBytes.{Appends, Consumes}
use Rattle.command_lines.specs.declared.reply.Reply.{Reply}
use Rattle.command_lines.specs.Commands.{is_too_long}
use Rattle.command_lines.specs.Replies.{faulty, reply_text_of}
use Rattle.sync_world.specs.World.{WorldState}
use Rattle.world_lines.specs.Session.{SessionState, answered}
use Rattle.budget_top.specs.declared.play.Play.{Play}
use Rattle.budget_top.specs.declared.stop.Stop.{Stop}
use Rattle.budget_top.specs.declared.stop.Stop.TheVariants.{Memory, Sink}
use Rattle.budget_top.specs.Lines.{IsWithinLine, whole_lines, last_piece, all_lines, line_if_some}
use Rattle.budget_top.specs.KeptLine.{kept_line, kept_line_with}
use Rattle.budget_top.specs.Fronts.{AppendsFront}
use Rattle.budget_top.specs.Session.{is_refused}
use Rattle.budget_top.specs.Standing.{AreFirst}
use Rattle.budget_top.specs.Playing.{played_short, played, world_after, world_replies, replies_text, reply_after, some_line_refused, RepliesToFirst, CutsReply}
use Rattle.budget_top.specs.WorldSteps.{played_kept, IsPlayed, Stands, Ended, BreaksAs}
use Rattle.budget_top.proofs.Cutting.{FirstEnd, whole_lines-within, last_piece-within, whole_lines-end, last_piece-end}
use Rattle.budget_top.proofs.Standing.{appends_as, kept_line-append}
use Rattle.budget_top.proofs.Ending.{one_begun}
use Rattle.budget_top.proofs.Feeding.{all_taken, taken_line}
use Rattle.budget_top.proofs.Writing.{whole_rest}
use Rattle.budget_top.proofs.Serving.{first_more, no_bytes}

-- ---- one line more

world-last : (w : Option WorldState) (ls : List (List ℕ)) (l : List ℕ) → world_after w (ls ++ l ∷ []) ≡ (played (world_after w ls) l).0
world-last w [] l = refl
world-last w (k ∷ ls) l = world-last (played w k).0 ls l

replies-last : (w : Option WorldState) (ls : List (List ℕ)) (l : List ℕ) → world_replies w (ls ++ l ∷ []) ≡ world_replies w ls ++ (played (world_after w ls) l).1 ∷ []
replies-last w [] l = refl
replies-last w (k ∷ ls) l = ap (λ (rs : List Reply). (played w k).1 ∷ rs) (replies-last (played w k).0 ls l)

text-last : (ls : List (List ℕ)) (l : List ℕ) → replies_text (ls ++ l ∷ []) ≡ replies_text ls ++ reply_text_of (reply_after ls l)
text-last ls l =
    ap (flat_map reply_text_of) (replies-last None ls l)
    ∙ flat_map-append reply_text_of (world_replies None ls) (reply_after ls l ∷ [])
    ∙ ap (λ t. replies_text ls ++ t) (append-nil (reply_text_of (reply_after ls l)))

or_false : (a : Bool) → (a || false) ≡ a
or_false true = refl
or_false false = refl

refused-last : (ls : List (List ℕ)) (l : List ℕ) → some_line_refused (ls ++ l ∷ []) ≡ (some_line_refused ls || is_refused (reply_after ls l))
refused-last ls l =
    ap (list_any is_refused) (replies-last None ls l)
    ∙ list_any-append is_refused (world_replies None ls) (reply_after ls l ∷ [])
    ∙ ap (λ b. some_line_refused ls || b) (or_false (is_refused (reply_after ls l)))

kept-played : (w : Option WorldState) (line : List ℕ) → played_kept w (kept_line line) ≡ played w line
kept-played w line = by (is_too_long line)
  where
    by : (t : Bool) → played_kept w (cond t None (Some line)) ≡ cond t (w, faulty 0) (played_short w line)
    by true = refl
    by false = refl

-- ---- what is read of a line

is_played : (w : Option WorldState) (kept : Option (List ℕ)) (line text : List ℕ) → kept ≡ Some line → text ≡ line → IsUtf8 line → played_kept w kept ≡ answered w text
unfolding played_short
is_played w kept line text is same utf8 =
    let yes : is_utf8 line ≡ true = is_utf8-from_IsUtf8 line utf8 in
    ap (played_kept w) is ∙ ap (λ b. cond b (answered w line) (w, faulty 0)) yes ∙ ap (answered w) (sym same)

not_played : (w : Option WorldState) (kept : Option (List ℕ)) (line : List ℕ) → kept ≡ Some line → (IsUtf8 line → ⊥) → played_kept w kept ≡ (w, faulty 0)
unfolding played_short
not_played w kept line is h =
    let no : is_utf8 line ≡ false = false_from_ne_true (is_utf8 line) (λ e. h (IsUtf8-from_is_utf8 line e)) in
    ap (played_kept w) is ∙ ap (λ b. cond b (answered w line) (w, faulty 0)) no

pub answers_text : {E : Type 0} (w v : Option WorldState) (kept : Option (List ℕ)) (line text : List ℕ) (result : Result Reply E) → kept ≡ Some line → text ≡ line → IsUtf8 line
    → IfOk result (λ reply. answered w text ≡ (v, reply)) → IfOk result (λ reply. played_kept w kept ≡ (v, reply))
answers_text w v kept line text result is same utf8 h =
    let P : Option WorldState × Reply → Type 0 = λ p. IfOk result (λ reply. p ≡ (v, reply)) in
    subst P (sym (is_played w kept line text is same utf8)) h

pub refuses_text : {E : Type 0} (w : Option WorldState) (kept : Option (List ℕ)) (line : List ℕ) (result : Result Reply E) → kept ≡ Some line → (IsUtf8 line → ⊥)
    → IfOk result (λ reply. reply ≡ faulty 0) → IfOk result (λ reply. played_kept w kept ≡ (w, reply))
refuses_text w kept line (Ok reply) is h e = not_played w kept line is h ∙ ap (λ (r : Reply). (w, r)) (sym e)
refuses_text w kept line (Err fault) is h e = tt

module _ (entry before now : Option (List ℕ)) (read : List ℕ) (old : Play) (s : Stands entry before read old) where
  abbrev had : List (List ℕ)
  had = whole_lines read

  due_is : played_kept old.session.world old.line ≡ played (world_after None had) (last_piece read)
  due_is = ap₂ played_kept s.world s.line ∙ kept-played (world_after None had) (last_piece read)

  played_here : (world : Option WorldState) (text : List ℕ) (refused : Bool) → IsPlayed (played_kept old.session.world old.line) world text refused
      → IsPlayed (played (world_after None had) (last_piece read)) world text refused
  played_here world text refused p = let P : Option WorldState × Reply → Type 0 = λ due. IsPlayed due world text refused in subst P due_is p

  -- the line has its reply
  pub stands_end : (new : Play) (text : List ℕ) (refused : Bool) → IsPlayed (played_kept old.session.world old.line) new.session.world text refused
      → new.line ≡ Some [] → new.bad ≡ (old.bad || refused) → Appends before now text → Stands entry now (read ++ 10 ∷ []) new
  stands_end new text refused p line bad written =
      let here = played_here new.session.world text refused p in
      let lines = sym (whole_lines-end read) in
      record {
        world = here.world ∙ sym (world-last None had (last_piece read)) ∙ ap (world_after None) lines;
        line = line ∙ ap kept_line (sym (last_piece-end read));
        bad =
            bad ∙ ap (λ b. b || refused) s.bad ∙ ap (λ b. some_line_refused had || b) here.is_bad
            ∙ sym (refused-last had (last_piece read)) ∙ ap some_line_refused lines;
        written =
            appends_as entry now _ _ (ap (λ t. replies_text had ++ t) here.is_text ∙ sym (text-last had (last_piece read)) ∙ ap replies_text lines)
            (Appends-trans entry before now (replies_text had) text s.written written);
      }

  -- memory ran out before its reply
  pub halts_end : RepliesToFirst (whole_lines (read ++ 10 ∷ [])) entry before
  halts_end = record { handled = had; first = (last_piece read ∷ [], sym (whole_lines-end read)); written = s.written }

  -- the sink failed at its reply
  pub cuts_end : (world : Option WorldState) (text : List ℕ) (refused : Bool) → IsPlayed (played_kept old.session.world old.line) world text refused
      → AppendsFront before now text → CutsReply (whole_lines (read ++ 10 ∷ [])) entry now
  cuts_end world text refused p f = record {
    handled = had;
    last = last_piece read;
    part = f.front;
    of = (f.of.0, f.of.1 ∙ (played_here world text refused p).is_text);
    first = ([], append-nil _ ∙ sym (whole_lines-end read));
    written = Appends-trans entry before now (replies_text had) f.front s.written f.written;
  }

-- ---- bytes that come next

pub stands_along : (entry now : Option (List ℕ)) (xs ys : List ℕ) (p : Play) → xs ≡ ys → Stands entry now xs p → Stands entry now ys p
stands_along entry now xs ys p same s = let P : List ℕ → Type 0 = λ bs. Stands entry now bs p in subst P same s

-- bytes within a line
pub stands_within : (entry now : Option (List ℕ)) (read bytes : List ℕ) (old new : Play) → IsWithinLine bytes → new.session ≡ old.session → new.bad ≡ old.bad
    → new.line ≡ kept_line_with old.line bytes → Stands entry now read old → Stands entry now (read ++ bytes) new
stands_within entry now read bytes old new within session bad line s =
    let lines = sym (whole_lines-within read bytes within) in
    record {
      world = ap (λ (x : SessionState). x.world) session ∙ s.world ∙ ap (world_after None) lines;
      line = line ∙ ap (λ k. kept_line_with k bytes) s.line ∙ kept_line-append (last_piece read) bytes ∙ ap kept_line (sym (last_piece-within read bytes within));
      bad = bad ∙ s.bad ∙ ap some_line_refused lines;
      written = appends_as entry now _ _ (ap replies_text lines) s.written;
    }

-- it broke off between two lines
pub halts_between : (entry now : Option (List ℕ)) (read : List ℕ) (p : Play) → Stands entry now read p → RepliesToFirst (whole_lines read) entry now
halts_between entry now read p s = record { handled = whole_lines read; first = ([], append-nil _); written = s.written }

pub stands_line : (entry now : Option (List ℕ)) (read bytes : List ℕ) (at n : ℕ) (p : Play) → FirstEnd (drop at bytes) n
    → Stands entry now (read ++ take at bytes ++ take (at + n - at) (drop at bytes) ++ 10 ∷ []) p → Stands entry now (read ++ take (at + (n + 1)) bytes) p
stands_line entry now read bytes at n p ends s = stands_along entry now _ _ p (taken_line read bytes at n ends) s

pub stands_rest : (entry now : Option (List ℕ)) (read bytes : List ℕ) (at : ℕ) (p : Play)
    → Stands entry now (read ++ take at bytes ++ take (length bytes - at) (drop at bytes)) p → Stands entry now (read ++ bytes) p
stands_rest entry now read bytes at p s = stands_along entry now _ _ p (ap (λ xs. read ++ take at bytes ++ xs) (whole_rest bytes at) ∙ all_taken read bytes at) s

-- what was due goes on
pub breaks_more : (stop : Stop) (entry now : Option (List ℕ)) (due more : List (List ℕ)) → AreFirst due more → BreaksAs stop entry now due → BreaksAs stop entry now more
breaks_more Memory entry now due more first h = record { handled = h.handled; first = first_more _ due more h.first first; written = h.written }
breaks_more Sink entry now due more first h = record { handled = h.handled; last = h.last; part = h.part; of = h.of; first = first_more _ due more h.first first; written = h.written }

-- so many bytes were read and dealt with
pub record ReadSoFar (left new_left entry now : Option (List ℕ)) (count : ℕ) (p : Play) : Type 0 where
  pub read : List ℕ
  pub reads : Consumes left new_left read
  pub many : length read ≡ count
  pub stands : Stands entry now read p

-- ---- the end of the input

pub ended_now : (entry now : Option (List ℕ)) (read : List ℕ) (p : Play) → p.line ≡ Some [] → Stands entry now read p → Ended entry now read p
ended_now entry now read p none s =
    let all : whole_lines read ≡ all_lines read = sym (append-nil (whole_lines read)) ∙ ap (λ l. whole_lines read ++ line_if_some l) (sym (no_bytes (last_piece read) (sym s.line ∙ none))) in
    record { bad = s.bad ∙ ap some_line_refused all; written = appends_as entry now _ _ (ap replies_text all) s.written }

pub ended_last : (entry before now : Option (List ℕ)) (read : List ℕ) (old new : Play) → (old.line ≡ Some [] → ⊥) → Stands entry before read old
    → Stands entry now (read ++ 10 ∷ []) new → Ended entry now read new
ended_last entry before now read old new some s t =
    let lines = sym (one_begun read old.line s.line some) in
    record { bad = t.bad ∙ ap some_line_refused lines; written = appends_as entry now _ _ (ap replies_text lines) t.written }

pub breaks_last : (stop : Stop) (entry before now : Option (List ℕ)) (read : List ℕ) (old : Play) → (old.line ≡ Some [] → ⊥) → Stands entry before read old
    → BreaksAs stop entry now (whole_lines (read ++ 10 ∷ [])) → BreaksAs stop entry now (all_lines read)
breaks_last stop entry before now read old some s h = breaks_more stop entry now _ _ ([], append-nil _ ∙ sym (one_begun read old.line s.line some)) h

-- nothing was read yet
pub stands_fresh : (entry : Option (List ℕ)) (p : Play) → p.session.world ≡ None → p.line ≡ Some [] → p.bad ≡ false → Stands entry entry [] p
stands_fresh entry p world line bad = record { world = world; line = line; bad = bad; written = Appends-nil entry }
