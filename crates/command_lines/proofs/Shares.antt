-- The shares of a line, one after the other.
use Rattle.std.proofs.Common.{◌≡◌, ◌≢◌, ℕ, List, [], ◌∷◌, ◌++◌, map, Option, Ok, refl, ap, ℤ}
use Rattle.split_transfer.specs.declared.edit.SplitPart.{SplitPart}
use Rattle.command_lines.specs.declared.command.Command.{Command}
use Rattle.command_lines.specs.Forms.{Share, Wanted, some_shares, amount_word, id_word, id_of, command_of}
use Rattle.command_lines.specs.Commands.{share_of}

-- where shares are wanted, the next two words are those of one; behind others there may be none
abbrev pub next_share : List Share → (List Share → Command) → ℤ → Option (List ℕ) → Wanted
next_share shares made n id = some_shares (shares ++ (n, id) ∷ []) made

pub share_next : (shares : List Share) (made : List Share → Command) (last : ℕ) (words : List (List ℕ)) → (shares ≢ [] → words ≢ [])
    → command_of (some_shares shares made) last words ≡ command_of (amount_word (λ n. id_word (next_share shares made n))) last words
unfolding id_of
share_next [] made last [] some = refl
share_next (share ∷ shares) made last [] some = absurd (some (λ e. cc) refl)
share_next shares made last (w ∷ ws) some = refl

pub one_more : (ps : List SplitPart) (p : SplitPart) → map share_of ps ++ share_of p ∷ [] ≡ map share_of (ps ++ p ∷ [])
one_more [] p = refl
one_more (q ∷ qs) p = ap (λ (l : List Share). share_of q ∷ l) (one_more qs p)

pub none_left : (ps : List SplitPart) (made : List Share → Command) (last : ℕ) → ps ≢ [] → command_of (some_shares (map share_of ps) made) last [] ≡ Ok (made (map share_of ps))
none_left [] made last some = absurd (some refl)
none_left (p ∷ ps) made last some = refl

pub shares_some : (ps : List SplitPart) → map share_of ps ≢ [] → ps ≢ []
shares_some [] some = λ none. some refl
shares_some (p ∷ ps) some = λ none. cc

pub is_some : (ps : List SplitPart) (p : SplitPart) → ps ++ p ∷ [] ≢ []
is_some [] p = λ none. cc
is_some (q ∷ qs) p = λ none. cc
