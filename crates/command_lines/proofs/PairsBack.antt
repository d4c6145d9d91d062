-- The line of an edit of a transaction and of those that hang together with it is read as the edit.
use Rattle.std.proofs.Common.{◌≡◌, ◌≢◌, ℕ, List, [], ◌∷◌, ◌++◌, map, Ok, refl, ap, subst}
use Rattle.std.specs.Prelude.{codes}
use Rattle.std.specs.Fmt.{signed_decimal}
use Rattle.std.specs.List.{AllByRecursion, flat_map}
use Rattle.field_merge.specs.Lines.{parts}
use Rattle.split_transfer.specs.declared.edit.PairEdit.{PairEdit}
use Rattle.split_transfer.specs.declared.edit.PairEdit.TheVariants.{TxSet, TxDelete, Split, Transfer}
use Rattle.split_transfer.specs.declared.edit.TxChange.{TxChange}
use Rattle.split_transfer.specs.declared.edit.TxChange.TheVariants.{Date, Amount, Account, Payee, Category, Notes, Cleared, Schedule}
use Rattle.split_transfer.specs.declared.edit.SplitPart.{SplitPart}
use Rattle.command_lines.specs.declared.command.Command.{Command}
use Rattle.command_lines.specs.Forms.{Share, word, no_more, some_shares, amount_of, flag_of, date_of, id_of, amount_word}
use Rattle.command_lines.specs.FormLaws.{id_text, share_texts, IsShare}
use Rattle.command_lines.specs.Commands.{pair, part_of, share_of, change, change_words, words_of_row_lines, words_of_state_lines, words_of_add_lines, words_of_month_lines, words_of_book_lines, words_of_pair_lines, of_words}
use Rattle.command_lines.specs.Written.{flag_text, date_text, part_texts, CanWriteChange, CanWritePart, CanWritePair, change_texts, command_line}
use Rattle.command_lines.proofs.Amounts.{amount_back, id_of_back}
use Rattle.command_lines.proofs.FormTexts.{flag_back, date_back}
use Rattle.command_lines.proofs.FormLemmas.{Makes}
use Rattle.command_lines.proofs.LineBack.{makes_form, line_back}
use Rattle.command_lines.proofs.RepeatLemmas.{shares_make}

-- ---- what a change gets

change_makes : (id : List ℕ) (c : TxChange) → CanWriteChange c → Makes (word (change_words id)) (change_texts c) (pair (TxSet id c))
unfolding change_words
change_makes id (Date date) can = makes_form date_of (λ date. change (Date date) id) date (date_text date) [] (pair (TxSet id (Date date))) (date_back date can) refl
change_makes id (Amount amount) can = makes_form amount_of (λ amount. change (Amount amount) id) amount (signed_decimal amount) [] (pair (TxSet id (Amount amount))) (amount_back amount can) refl
change_makes id (Account account) can = refl
change_makes id (Payee payee) can = makes_form id_of (λ payee. change (Payee payee) id) payee (id_text payee) [] (pair (TxSet id (Payee payee))) (id_of_back payee can) refl
change_makes id (Category category) can = makes_form id_of (λ category. change (Category category) id) category (id_text category) [] (pair (TxSet id (Category category))) (id_of_back category can) refl
change_makes id (Notes notes) can = refl
change_makes id (Cleared cleared) can = makes_form flag_of (λ cleared. change (Cleared cleared) id) cleared (flag_text cleared) [] (pair (TxSet id (Cleared cleared))) (flag_back cleared) refl
change_makes id (Schedule schedule) can = makes_form id_of (λ schedule. change (Schedule schedule) id) schedule (id_text schedule) [] (pair (TxSet id (Schedule schedule))) (id_of_back schedule can) refl

-- ---- the parts of a split

pub parts_back : (ps : List SplitPart) → map part_of (map share_of ps) ≡ ps
parts_back [] = refl
parts_back (p ∷ ps) = ap (λ (l : List SplitPart). p ∷ l) (parts_back ps)

texts_back : (ps : List SplitPart) → flat_map share_texts (map share_of ps) ≡ flat_map part_texts ps
texts_back [] = refl
texts_back (p ∷ ps) = ap (λ (ts : List (List ℕ)). part_texts p ++ ts) (texts_back ps)

shares_can : (ps : List SplitPart) → AllByRecursion CanWritePart ps → AllByRecursion IsShare (map share_of ps)
shares_can [] all = tt
shares_can (p ∷ ps) all = (record { amount = all.0.0; id = all.0.1 }, shares_can ps all.1)

shares_some : (ps : List SplitPart) → ps ≢ [] → map share_of ps ≢ []
shares_some [] some = absurd (some refl)
shares_some (p ∷ ps) some = λ none. cc

abbrev split_of : List ℕ → List Share → Command
split_of id shares = pair (Split id (map part_of shares))

split_makes : (id : List ℕ) (ps : List SplitPart) → ps ≢ [] → AllByRecursion CanWritePart ps → Makes (some_shares [] (split_of id)) (flat_map part_texts ps) (pair (Split id ps))
split_makes id ps some can =
    let made : Makes (some_shares [] (split_of id)) (flat_map share_texts (map share_of ps)) (split_of id (map share_of ps)) =
    shares_make (map share_of ps) [] (split_of id) (shares_can ps can) (shares_some ps some) in
    subst (λ (l : List SplitPart). Makes (some_shares [] (split_of id)) (flat_map part_texts ps) (pair (Split id l))) (parts_back ps)
    (subst (λ (ts : List (List ℕ)). Makes (some_shares [] (split_of id)) ts (split_of id (map share_of ps))) (texts_back ps) made)

-- ---- the lines

pub pairs_back : (edit : PairEdit) → CanWritePair edit → of_words (parts (command_line (pair edit))) ≡ Ok (pair edit)
unfolding words_of_row_lines words_of_state_lines words_of_add_lines words_of_month_lines words_of_book_lines words_of_pair_lines
pairs_back (TxSet id c) can = line_back (codes "tx-set") (id ∷ change_texts c) (pair (TxSet id c)) refl (change_makes id c can)
pairs_back (TxDelete id) can = line_back (codes "tx-delete") (id ∷ []) (pair (TxDelete id)) refl refl
pairs_back (Split id ps) can = line_back (codes "split") (id ∷ flat_map part_texts ps) (pair (Split id ps)) refl (split_makes id ps can.0 can.1)
pairs_back (Transfer from to date amount notes) can =
    line_back (codes "transfer") (from ∷ to ∷ date_text date ∷ signed_decimal amount ∷ notes ∷ []) (pair (Transfer from to date amount notes)) refl
    (makes_form date_of (λ date. amount_word (λ amount. word (λ notes. no_more (pair (Transfer from to date amount notes))))) date (date_text date) (signed_decimal amount ∷ notes ∷ []) (pair (Transfer from to date amount notes)) (date_back date can.0)
    (makes_form amount_of (λ amount. word (λ notes. no_more (pair (Transfer from to date amount notes)))) amount (signed_decimal amount) (notes ∷ []) (pair (Transfer from to date amount notes)) (amount_back amount can.1) refl))
