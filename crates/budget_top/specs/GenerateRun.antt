-- What a run of the mode `generate` has done, by its status.
use Rattle.std.specs.Prelude.{◌≡◌, ℕ, ◌==◌, List, [], ◌∷◌, ◌++◌, codes, Option, IsTrue}
use Rattle.std.specs.List.{list_any}
use Rattle.std.specs.Fmt.{decimal, signed_decimal}
use Rattle.std.specs.Io.KnownBytes.{Appends}
use Rattle.generated_books.specs.declared.summary.Summary.{Summary}
use Rattle.generated_books.specs.Summary.{summary_of}
use Rattle.generated_books.specs.Generated.{generated}
use Rattle.budget_top.specs.Fronts.{AppendsFront}

-- a line that tells a number under a name, and what stands behind it
abbrev pub told : List ℕ → List ℕ → List ℕ → List ℕ
told name number rest = name ++ 32 ∷ (number ++ 10 ∷ rest)

-- how many messages there are, the hash at the root of their trie, and what is left to budget in December
abbrev pub summary_text : Summary → List ℕ
summary_text s = told (codes "messages") (decimal s.messages) (told (codes "root") (signed_decimal s.root) (told (codes "to-budget") (signed_decimal s.to_budget) []))

-- what is written of a book of so many transactions
abbrev pub book_text : ℕ → List ℕ
book_text count = summary_text (summary_of (generated count))

-- the statuses of such a run
abbrev pub generate_statuses : List ℕ
generate_statuses = 0 ∷ 5 ∷ 7 ∷ []

-- what was written, as far as the sink tells, and how the status follows from it: all of it, a front of it where the sink failed, and nothing where
-- memory ran out
pub record GenerateRun (count status : ℕ) (taken new_taken : Option (List ℕ)) : Type 0 where
  pub known : IsTrue (list_any (λ s. status == s) generate_statuses)
  pub all_written : status ≡ 0 → Appends taken new_taken (book_text count)
  pub sink_failed : status ≡ 5 → AppendsFront taken new_taken (book_text count)
  pub no_memory : status ≡ 7 → new_taken ≡ taken
