-- What words that repeat, or that may be left out, are read as.
use Rattle.std.specs.Prelude.{◌≡◌, ◌≢◌, ◌↔◌, ◌⊎◌, ℕ, List, [], ◌∷◌, map, true, codes, Option, None, Some, Ok}
use Rattle.std.specs.Fmt.{signed_decimal}
use Rattle.std.specs.List.{flat_map, AllByRecursion}
use Rattle.field_merge.specs.Escapes.{unescaped, bad_escape}
use Rattle.command_lines.specs.declared.command.Command.{Command}
use Rattle.command_lines.specs.Forms.{Share, Wanted, word, may_end, some_texts, some_shares, is_amount, command_of}

-- no word has a bad escape, and these are their texts
pub record AreWordsOf (texts ws : List (List ℕ)) : Type 0 where
  pub good : AllByRecursion (λ w. bad_escape w ≡ None) ws
  pub same : map unescaped ws ≡ texts

-- an id, or a hyphen for none
abbrev pub id_text : Option (List ℕ) → List ℕ
id_text None = codes "-"
id_text (Some id) = id

-- the two texts of a share: its amount, and its id or a hyphen
abbrev pub share_texts : Share → List (List ℕ)
share_texts share = signed_decimal share.0 ∷ id_text share.1 ∷ []

-- the amount has 64 bits, and the id is no hyphen
pub record IsShare (share : Share) : Type 0 where
  pub amount : is_amount share.0 ≡ true
  pub id : share.1 ≢ Some (codes "-")

-- texts, one or more, of which the command is made
pub record MakesOfTexts (made : List (List ℕ) → Command) (ws texts : List (List ℕ)) (c : Command) : Type 0 where
  pub some : texts ≢ []
  pub words : AreWordsOf texts ws
  pub command : c ≡ made texts

-- shares, one or more, of which the command is made
pub record MakesOfShares (made : List Share → Command) (ws : List (List ℕ)) (shares : List Share) (c : Command) : Type 0 where
  pub some : shares ≢ []
  pub valid : AllByRecursion IsShare shares
  pub words : AreWordsOf (flat_map share_texts shares) ws
  pub command : c ≡ made shares

-- Where texts are wanted, the words are read as a command exactly where they are those of one text or more, and then as the
-- command of these. Where shares are wanted, the same of shares: an amount and an id or a hyphen, one after the other.
-- Where the words may end, no words are read as the command, and any words as where a word is wanted.
pub record FormsAreRead : Type 0 where
  pub texts : (made : List (List ℕ) → Command) (last : ℕ) (ws : List (List ℕ)) (c : Command)
      → (command_of (some_texts [] made) last ws ≡ Ok c) ↔ ((texts : List (List ℕ)) × MakesOfTexts made ws texts c)
  pub shares : (made : List Share → Command) (last : ℕ) (ws : List (List ℕ)) (c : Command)
      → (command_of (some_shares [] made) last ws ≡ Ok c) ↔ ((shares : List Share) × MakesOfShares made ws shares c)
  pub may_end : (end c : Command) (next : List ℕ → Wanted) (last : ℕ) (ws : List (List ℕ))
      → (command_of (may_end end next) last ws ≡ Ok c) ↔ (((ws ≡ []) × (c ≡ end)) ⊎ (command_of (word next) last ws ≡ Ok c))
