-- The lines of a text of which each has its end.
use Rattle.std.proofs.Common.{◌≡◌, ℕ, zero, suc, ◌-◌, Bool, true, false, cond, List, [], ◌∷◌, ◌++◌, append_assoc, append-nil, length, take, ◌⊎◌, inl, inr, refl, ap, sym, subst, ◌∙◌, arith}
use Rattle.std.specs.Prelude.{◌==◌, ◌&&◌, not, is_some, pos, ◌-ℤ◌, codes}
use Rattle.std.specs.Fmt.{signed_decimal}
use Rattle.std.specs.Ordering.{int_eq}
use Rattle.std.specs.FinMap as map
use Rattle.std.specs.List.{AllByRecursion, flat_map, onto_first}
use Rattle.std.proofs.lemmas.Bool.{eqb-true}
use Rattle.std.proofs.lemmas.List.{length-append}
use Rattle.field_merge.specs.Lines.{ended}
use Rattle.finite_sums.specs.Maps.{Text}
use Rattle.book_rows.specs.declared.rows.Rows.{Rows}
use Rattle.book_rows.specs.declared.rows.TxRow.{TxRow}
use Rattle.book_rows.specs.Live.{is_live_tx}
use Rattle.split_transfer.specs.Pairs.{parts_sum}
use Rattle.split_transfer.specs.Broken.{is_paired, transfer_line, split_line, told_transfer, told_split, told_of, broken}
use Rattle.command_lines.specs.BookAnswers.{pieces, lines_of}
use Rattle.command_lines.specs.ReplyLines.{AreLines}
use Rattle.command_lines.proofs.PlainTexts.{Plain, is_line}

-- ---- the pieces of a text

-- a first piece and others
record IsCons (ps : List (List ℕ)) : Type 0 where
  first : List ℕ
  rest : List (List ℕ)
  are : ps ≡ first ∷ rest

onto_cons : (x : ℕ) (ps : List (List ℕ)) (c : IsCons ps) → onto_first x ps ≡ (x ∷ c.first) ∷ c.rest
onto_cons x ps c = ap (onto_first x) c.are

some_pieces : (text : List ℕ) → IsCons (pieces text)
some_pieces [] = record { first = []; rest = []; are = refl }
some_pieces (x ∷ xs) = by (x == 10) (some_pieces xs)
  where
    by : (b : Bool) → IsCons (pieces xs) → IsCons (cond b ([] ∷ pieces xs) (onto_first x (pieces xs)))
    by true c = record { first = []; rest = pieces xs; are = refl }
    by false c = record { first = x ∷ c.first; rest = c.rest; are = onto_cons x (pieces xs) c }

onto_more : (x : ℕ) (ps qs : List (List ℕ)) → IsCons ps → onto_first x (ps ++ qs) ≡ onto_first x ps ++ qs
onto_more x ps qs c = ap (λ (l : List (List ℕ)). onto_first x (l ++ qs)) c.are ∙ sym (ap (λ (l : List (List ℕ)). l ++ qs) (onto_cons x ps c))

-- behind the last line feed stands nothing
pieces_end : (text : List ℕ) → pieces (text ++ 10 ∷ []) ≡ pieces text ++ [] ∷ []
pieces_end [] = refl
pieces_end (x ∷ xs) = by (x == 10) (pieces_end xs)
  where
    by : (b : Bool) → pieces (xs ++ 10 ∷ []) ≡ pieces xs ++ [] ∷ [] → cond b ([] ∷ pieces (xs ++ 10 ∷ [])) (onto_first x (pieces (xs ++ 10 ∷ []))) ≡ cond b ([] ∷ pieces xs) (onto_first x (pieces xs)) ++ [] ∷ []
    by true h = ap (λ (l : List (List ℕ)). [] ∷ l) h
    by false h = ap (onto_first x) h ∙ onto_more x (pieces xs) ([] ∷ []) (some_pieces xs)

-- the pieces, each with its end, are the text with an end
joined : (text : List ℕ) → flat_map ended (pieces text) ≡ text ++ 10 ∷ []
joined [] = refl
joined (x ∷ xs) = by (x == 10) refl (joined xs)
  where
    by : (b : Bool) → (x == 10) ≡ b → flat_map ended (pieces xs) ≡ xs ++ 10 ∷ [] → flat_map ended (cond b ([] ∷ pieces xs) (onto_first x (pieces xs))) ≡ x ∷ (xs ++ 10 ∷ [])
    by true e h = ap (λ (l : List ℕ). 10 ∷ l) h ∙ ap (λ (y : ℕ). y ∷ (xs ++ 10 ∷ [])) (sym (eqb-true x 10 e))
    by false e h =
        let c = some_pieces xs in
        ap (flat_map ended) (onto_cons x (pieces xs) c)
        ∙ ap (λ (l : List ℕ). x ∷ l) (sym (ap (flat_map ended) c.are) ∙ h)

-- no piece has a line feed
pieces_plain : (text : List ℕ) → AllByRecursion Plain (pieces text)
pieces_plain [] = (tt, tt)
pieces_plain (x ∷ xs) = by (x == 10) refl (pieces_plain xs)
  where
    by : (b : Bool) → (x == 10) ≡ b → AllByRecursion Plain (pieces xs) → AllByRecursion Plain (cond b ([] ∷ pieces xs) (onto_first x (pieces xs)))
    by true e h = (tt, h)
    by false e h =
        let c = some_pieces xs in
        let all : AllByRecursion Plain (c.first ∷ c.rest) = subst (AllByRecursion Plain) c.are h in
        subst (AllByRecursion Plain) (sym (onto_cons x (pieces xs) c)) ((e, all.0), all.1)

plain_lines : (n : ℕ) (texts : List (List ℕ)) → AllByRecursion Plain texts → AreLines (take n texts)
plain_lines zero [] all = tt
plain_lines (suc n) [] all = tt
plain_lines zero (t ∷ ts) all = tt
plain_lines (suc n) (t ∷ ts) all = (is_line t all.0, plain_lines n ts all.1)

pub lines_are_lines : (text : List ℕ) → AreLines (lines_of text)
lines_are_lines text = plain_lines (length (pieces text) - 1) (pieces text) (pieces_plain text)

-- ---- a text of which each line has its end

abbrev IsEnded : List ℕ → Type 0
IsEnded text = (text ≡ []) ⊎ ((front : List ℕ) × (text ≡ front ++ 10 ∷ []))

take_front : {X : Type 0} (xs : List X) (y : X) → take (length (xs ++ y ∷ []) - 1) (xs ++ y ∷ []) ≡ xs
take_front {X = X} xs y =
    let long = length-append xs (y ∷ []) in
    let short : length (xs ++ y ∷ []) - 1 ≡ length xs = omega (arith, long) in
    ap (λ (n : ℕ). take n (xs ++ y ∷ [])) short ∙ go xs
  where
    go : (xs : List X) → take (length xs) (xs ++ y ∷ []) ≡ xs
    go [] = refl
    go (x ∷ xs) = ap (λ l. x ∷ l) (go xs)

written_back : (text : List ℕ) → IsEnded text → flat_map ended (lines_of text) ≡ text
written_back text (inl none) = subst (λ (t : List ℕ). flat_map ended (lines_of t) ≡ t) (sym none) refl
written_back text (inr (front, is)) =
    subst (λ (t : List ℕ). flat_map ended (lines_of t) ≡ t) (sym is)
    (ap (λ (ps : List (List ℕ)). flat_map ended (take (length ps - 1) ps)) (pieces_end front)
    ∙ ap (flat_map ended) (take_front (pieces front) [])
    ∙ joined front)

both_ended : (a b : List ℕ) → IsEnded a → IsEnded b → IsEnded (a ++ b)
both_ended a b first (inl none) = subst IsEnded (sym (append-nil a) ∙ ap (λ (t : List ℕ). a ++ t) (sym none)) first
both_ended a b first (inr (front, is)) = inr (a ++ front, ap (λ (t : List ℕ). a ++ t) is ∙ sym (append_assoc a front (10 ∷ [])))

-- ---- what is broken

if_ended : (b : Bool) (text : List ℕ) → IsEnded text → IsEnded (cond b text [])
if_ended true text h = h
if_ended false text h = inl refl

module _ (rows : Rows) where
  transfer_ended : (id : Text) (x : TxRow) → IsEnded (told_transfer rows id x)
  transfer_ended id x =
      if_ended (is_some x.transferred_id && not (is_paired rows id x)) (transfer_line id) (inr (codes "transfer " ++ id, refl))

  split_ended : (id : Text) (x : TxRow) → IsEnded (told_split rows id x)
  split_ended id x =
      if_ended (x.is_parent && not (int_eq (x.amount -ℤ parts_sum rows id) (pos 0))) (split_line rows id x)
      (inr (codes "split " ++ id ++ (32 ∷ []) ++ signed_decimal (x.amount -ℤ parts_sum rows id), refl))

  told_ended : (e : Text × TxRow) → IsEnded (told_of rows e)
  told_ended e = if_ended (is_live_tx rows e.1) (told_transfer rows e.0 e.1 ++ told_split rows e.0 e.1)
      (both_ended (told_transfer rows e.0 e.1) (told_split rows e.0 e.1) (transfer_ended e.0 e.1) (split_ended e.0 e.1))

  all_ended : (es : List (Text × TxRow)) → IsEnded (flat_map (told_of rows) es)
  all_ended [] = inl refl
  all_ended (e ∷ es) = both_ended (told_of rows e) (flat_map (told_of rows) es) (told_ended e) (all_ended es)

  pub broken_lines : flat_map ended (lines_of (broken rows)) ≡ broken rows
  broken_lines = written_back (broken rows) (all_ended (map.entries rows.txs))

-- the lines, where the pieces are these
pub lines_from : (text : List ℕ) (lines : List (List ℕ)) (last : List ℕ) → pieces text ≡ lines ++ last ∷ [] → lines ≡ lines_of text
lines_from text lines last h = sym (ap (λ (ps : List (List ℕ)). take (length ps - 1) ps) h ∙ take_front lines last)
