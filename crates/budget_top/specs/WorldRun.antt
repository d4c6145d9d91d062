-- What a run of the mode `world` has done, by its status.
use Rattle.std.specs.Prelude.{◌≡◌, ℕ, ◌<◌, ◌≤◌, Bool, true, false, ◌==◌, List, [], ◌∷◌, length, take, Option, IsTrue}
use Rattle.std.specs.List.{list_any}
use Rattle.std.specs.Io.KnownBytes.{Appends, IsAtEnd}
use Rattle.budget_top.specs.Lines.{whole_lines, all_lines}
use Rattle.budget_top.specs.Limits.{most_input, HasRead, AreDue}
use Rattle.budget_top.specs.Playing.{replies_text, some_line_refused, RepliesToFirst, CutsReply}

-- the statuses of such a run
abbrev pub world_statuses : List ℕ
world_statuses = 0 ∷ 1 ∷ 4 ∷ 5 ∷ 7 ∷ 9 ∷ []

-- all was read, each line has its reply, and one was refused or none
pub record PlaysAll (has_bad : Bool) (new_left : Option (List ℕ)) (read : List ℕ) (taken new_taken : Option (List ℕ)) : Type 0 where
  pub within : length read ≤ most_input
  pub at_end : IsAtEnd new_left
  pub bad : some_line_refused (all_lines read) ≡ has_bad
  pub written : Appends taken new_taken (replies_text (all_lines read))

-- the source failed: the whole lines have their replies
pub record PlaysTaken (read : List ℕ) (taken new_taken : Option (List ℕ)) : Type 0 where
  pub within : length read ≤ most_input
  pub written : Appends taken new_taken (replies_text (whole_lines read))

-- a byte past the limit came: the whole lines before that place have their replies
pub record PlaysLimit (read : List ℕ) (taken new_taken : Option (List ℕ)) : Type 0 where
  pub past : most_input < length read
  pub written : Appends taken new_taken (replies_text (whole_lines (take most_input read)))

-- what was read and written, as far as source and sink tell, and how the status follows from it
pub record WorldRun (status : ℕ) (left new_left taken new_taken : Option (List ℕ)) : Type 0 where
  pub read : List ℕ
  pub has_read : HasRead left new_left read
  pub known : IsTrue (list_any (λ s. status == s) world_statuses)
  pub all_good : status ≡ 0 → PlaysAll false new_left read taken new_taken
  pub some_refused : status ≡ 1 → PlaysAll true new_left read taken new_taken
  pub source_failed : status ≡ 4 → PlaysTaken read taken new_taken
  pub due : List (List ℕ)
  pub are_due : AreDue new_left read due
  pub sink_failed : status ≡ 5 → CutsReply due taken new_taken
  pub no_memory : status ≡ 7 → RepliesToFirst due taken new_taken
  pub too_much : status ≡ 9 → PlaysLimit read taken new_taken
