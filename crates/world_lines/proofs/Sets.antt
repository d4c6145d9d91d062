-- Messages and their lines.
use Rattle.std.proofs.Common.{◌≡◌, ℕ, List, [], ◌∷◌, Ok, map, refl, sym, ap, ◌∙◌}
use Rattle.std.specs.Prelude.{Decides, ◌==◌}
use Rattle.std.specs.Cmp.Lexicographic.{pointwise}
use Rattle.std.proofs.lemmas.Slice.Eq.{slice_eq-Decides, compares_Decides}
use Rattle.field_merge.specs.declared.message.Message.{Message}
use Rattle.field_merge.specs.Lines.{reading}
use Rattle.field_merge.specs.Messages.{AreMessages, message_line}
use Rattle.field_merge.specs.Laws.{MessagesReadBack}
use Rattle.world_lines.specs.Session.{lines_of, have_same_lines}
use Rattle.world_lines.specs.Laws.{SameLinesAreSameMessages}

texts_decide : (a b : List ℕ) → Decides (pointwise ◌==◌ a b) (a ≡ b)
texts_decide = compares_Decides (pointwise ◌==◌) (record { empty = refl; shorter = λ y ys. refl; longer = λ x xs. refl; heads = λ x y xs ys. refl })

pub lines_decide : (ms ns : List Message) → Decides (have_same_lines ms ns) (lines_of ms ≡ lines_of ns)
lines_decide ms ns = slice_eq-Decides texts_decide (lines_of ms) (lines_of ns) (have_same_lines ms ns) refl

apart : MessagesReadBack → (ms ns : List Message) → AreMessages ms → AreMessages ns → map message_line ms ≡ map message_line ns → ms ≡ ns
apart back [] [] a b e = refl
apart back [] (n ∷ ns) a b e = absurd (cc)
apart back (m ∷ ms) [] a b e = absurd (cc)
apart back (m ∷ ms) (n ∷ ns) a b e =
    let first : message_line m ≡ message_line n = cc in
    let rest : map message_line ms ≡ map message_line ns = cc in
    let read : Ok m ≡ Ok n = sym (back m a.0) ∙ ap reading first ∙ back n b.0 in
    let same : m ≡ n = cc in
    let others : ms ≡ ns = apart back ms ns a.1 b.1 rest in
    cc

pub same_lines : MessagesReadBack → SameLinesAreSameMessages
same_lines back ms ns a b = (λ e. apart back ms ns a b ((lines_decide ms ns).0 e), λ e. (lines_decide ms ns).1 (ap lines_of e))
