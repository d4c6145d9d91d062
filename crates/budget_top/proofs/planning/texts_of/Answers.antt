use Rattle.std.proofs.Common.{◌≡◌, ℕ, ◌+◌, ◌<◌, List, [], ◌∷◌, ◌++◌, map, take, length, get_or, sym, ap, ◌∙◌, Bor, IsUtf8, add-one, subst}
use Rattle.std.specs.List.{All}
use Rattle.std.proofs.Math.Seq.{take-suc}
use Rattle.std.proofs.lemmas.List.{map_push}
use Rattle.std.proofs.lemmas.List.Elements.{All-push}
use Rattle.budget_top.proofs.planning.texts_of.Goals as goal

one_more : (words : List (List ℕ)) (i : ℕ) (word : List ℕ) → i < length words → word ≡ get_or words i word → take i words ++ word ∷ [] ≡ take (i + 1) words
one_more words i word within is = rw add-one (ap (λ w. take i words ++ w ∷ []) is ∙ sym (take-suc words i word within))

pushed : (texts : List (Bor (List ℕ))) (text : Bor (List ℕ)) (words : List (List ℕ)) (i : ℕ) (word : List ℕ) → map (λ t. t.now) texts ≡ take i words → text.now ≡ word → i < length words → word ≡ get_or words i word
    → map (λ t. t.now) (texts ++ text ∷ []) ≡ take (i + 1) words
pushed texts text words i word same now within is =
    map_push (λ t. t.now) texts text ∙ ap (λ ws. ws ++ text.now ∷ []) same ∙ ap (λ w. take i words ++ w ∷ []) now ∙ one_more words i word within is

pub loop-word-preserved : goal.loop-word-preserved
loop-word-preserved c = (
  ap (map (λ t. t.now)) c.in_ok-push.ensures.items ∙ pushed c.loop-word.texts.items c.as_str.result c.args.words.now c.loop-word.word-index c.word-item.result c.loop-word.invariant.0 c.as_str.ensures c.loop-word-test.true c.word-item.is,
  subst (All (λ t. IsUtf8 t.now)) (sym c.in_ok-push.ensures.items) (All-push (λ t. IsUtf8 t.now) c.loop-word.texts.items c.as_str.result c.loop-word.invariant.1 c.as_str.utf8),
)
