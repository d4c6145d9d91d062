-- The lines of messages, cut out of a text again.
use Rattle.std.proofs.Common.{◌≡◌, ◌≢◌, ℕ, List, [], ◌∷◌, ◌++◌, length, map, refl, ap, ◌∙◌, arith, length-append, append_assoc}
use Rattle.std.specs.Prelude.{All}
use Rattle.std.specs.List.{flat_map}
use Rattle.field_merge.specs.declared.message.Message.{Message}
use Rattle.field_merge.specs.Messages.{message_line}
use Rattle.field_merge.specs.Log.{ended_line}
use Rattle.command_lines.proofs.Cutting.{pieces, pieces-at}

-- no message's line has a LF
abbrev pub OnOneLine : Type 0
OnOneLine = (m : Message) → All (λ b. b ≢ 10) (message_line m)

-- the pieces of ended lines are the lines, and nothing behind the last end
pub pieces-lines : (ms : List Message) → OnOneLine → pieces 10 (flat_map ended_line ms) ≡ map message_line ms ++ [] ∷ []
pieces-lines [] law = refl
pieces-lines (m ∷ ms) law =
    ap (pieces 10) (append_assoc (message_line m) (10 ∷ []) (flat_map ended_line ms))
    ∙ pieces-at 10 (message_line m) (flat_map ended_line ms) (λ i l. law m i 0 l)
    ∙ ap (λ ps. message_line m ∷ ps) (pieces-lines ms law)

-- lists that end with one more element each are equal only where they are equal before it
pub same_before : (xs ys : List (List ℕ)) (x y : List ℕ) → xs ++ x ∷ [] ≡ ys ++ y ∷ [] → xs ≡ ys
same_before [] [] x y e = refl
same_before [] (w ∷ ws) x y e = absurd (omega (arith, simp length-append at (ap length e)))
same_before (v ∷ vs) [] x y e = absurd (omega (arith, simp length-append at (ap length e)))
same_before (v ∷ vs) (w ∷ ws) x y e =
    let head : v ≡ w = cc in
    let tail : vs ++ x ∷ [] ≡ ws ++ y ∷ [] = cc in
    let rest : vs ≡ ws = same_before vs ws x y tail in cc
