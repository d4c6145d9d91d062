-- Of each line that edits a transaction and those that hang together with it: its words can be given, and its command is told by them.
use Rattle.std.proofs.Common.{◌≡◌, ◌≢◌, ℕ, Bool, true, false, cond, List, [], ◌∷◌, ◌++◌, map, ◌⊎◌, refl, ap, sym, subst}
use Rattle.std.specs.Prelude.{codes}
use Rattle.std.specs.List.{AllByRecursion, flat_map}
use Rattle.std.specs.Str.{bytes_eq}
use Rattle.std.proofs.lemmas.Slice.Eq.{bytes_eq-Decides}
use Rattle.split_transfer.specs.declared.edit.PairEdit.TheVariants.{TxSet, Split, Transfer}
use Rattle.split_transfer.specs.declared.edit.TxChange.TheVariants.{Date, Amount, Payee, Category, Notes, Cleared, Schedule}
use Rattle.command_lines.specs.Forms.{Share, misfit, no_more, word, some_shares, amount_of, flag_of, date_of, id_of, amount_word}
use Rattle.command_lines.specs.FormLaws.{IsShare, share_texts}
use Rattle.command_lines.specs.Written.{part_texts, CanWritePart}
use Rattle.command_lines.specs.Commands.{LineForm, words_in, pair, part_of, change, change_forms, change_words, tx_set_words, tx_delete_words, split_words, transfer_words, pair_lines, words_of_pair_lines, words_of_rule_lines}
use Rattle.command_lines.proofs.Amounts.{amount_written, id_told}
use Rattle.command_lines.proofs.FormTexts.{flag_written, date_written}
use Rattle.command_lines.proofs.Opening.{CanEnd, GoesOn, Opens, can_end, open_end, open_word, open_id, open_amount, open_flag, open_date}
use Rattle.command_lines.proofs.Telling.{Tells, tells_form}
use Rattle.command_lines.proofs.Known.{IsKnown, AreKnown, known_in}
use Rattle.command_lines.proofs.RuleLines.{rule_lines_known}

-- ---- what a transaction's change wants

goes_in : (lines : List LineForm) (name : List ℕ) → AllByRecursion (λ line. GoesOn line.1) lines → GoesOn (words_in lines name misfit)
goes_in [] name all = tt
goes_in (line ∷ lines) name all = by (bytes_eq name line.0) (goes_in lines name all.1)
  where
    by : (b : Bool) → GoesOn (words_in lines name misfit) → GoesOn (cond b line.1 (words_in lines name misfit))
    by true h = all.0
    by false h = h

tells_in : (front : List (List ℕ)) (lines : List LineForm) (name : List ℕ) → AllByRecursion (λ line. Tells (front ++ line.0 ∷ []) line.1) lines → Tells (front ++ name ∷ []) (words_in lines name misfit)
tells_in front [] name all = tt
tells_in front (line ∷ lines) name all = by (bytes_eq name line.0) refl (tells_in front lines name all.1)
  where
    by : (b : Bool) → bytes_eq name line.0 ≡ b → Tells (front ++ name ∷ []) (words_in lines name misfit) → Tells (front ++ name ∷ []) (cond b line.1 (words_in lines name misfit))
    by true e h = subst (λ (n : List ℕ). Tells (front ++ n ∷ []) line.1) (sym ((bytes_eq-Decides name line.0).0 e)) all.0
    by false e h = h

changes_go : (id : List ℕ) → AllByRecursion (λ line. GoesOn line.1) (change_forms id)
changes_go id = (
  (open_date _ (λ date. open_end _)).1,
  (
    (open_amount _ (λ amount. open_end _)).1,
    (
      (open_word _ (λ account. open_end _)).1,
      (
        (open_id _ (λ payee. open_end _)).1,
        (
          (open_id _ (λ category. open_end _)).1,
          ((open_word _ (λ notes. open_end _)).1, ((open_flag _ (λ cleared. open_end _)).1, ((open_id _ (λ schedule. open_end _)).1, tt))),
        ),
      ),
    ),
  ),
)

changes_tell : (id : List ℕ) → AllByRecursion (λ line. Tells ((codes "tx-set" ∷ id ∷ []) ++ line.0 ∷ []) line.1) (change_forms id)
changes_tell id = (
  λ t. tells_form (date_of t) (codes "tx-set" ∷ id ∷ codes "date" ∷ t ∷ []) t date_of (λ date. change (Date date) id) refl (λ date read.
      record { same = λ i. codes "tx-set" ∷ id ∷ codes "date" ∷ (date_written t date read).0 i ∷ []; valid = tt; can = (date_written t date read).1 }),
  (
    λ t. tells_form (amount_of t) (codes "tx-set" ∷ id ∷ codes "amount" ∷ t ∷ []) t amount_of (λ amount. change (Amount amount) id) refl (λ amount read.
        record { same = λ i. codes "tx-set" ∷ id ∷ codes "amount" ∷ (amount_written t amount read).1 i ∷ []; valid = tt; can = (amount_written t amount read).0 }),
    (
      λ t. record { same = refl; valid = tt; can = tt },
      (
        λ t. tells_form (id_of t) (codes "tx-set" ∷ id ∷ codes "payee" ∷ t ∷ []) t id_of (λ payee. change (Payee payee) id) refl (λ payee read.
            record { same = λ i. codes "tx-set" ∷ id ∷ codes "payee" ∷ (id_told t payee read).1 i ∷ []; valid = tt; can = (id_told t payee read).0 }),
        (
          λ t. tells_form (id_of t) (codes "tx-set" ∷ id ∷ codes "category" ∷ t ∷ []) t id_of (λ category. change (Category category) id) refl (λ category read.
              record { same = λ i. codes "tx-set" ∷ id ∷ codes "category" ∷ (id_told t category read).1 i ∷ []; valid = tt; can = (id_told t category read).0 }),
          (
            λ t. record { same = refl; valid = tt; can = tt },
            (
              λ t. tells_form (flag_of t) (codes "tx-set" ∷ id ∷ codes "cleared" ∷ t ∷ []) t flag_of (λ cleared. change (Cleared cleared) id) refl (λ cleared read.
                  record { same = λ i. codes "tx-set" ∷ id ∷ codes "cleared" ∷ (flag_written t cleared read) i ∷ []; valid = tt; can = tt }),
              (
                λ t. tells_form (id_of t) (codes "tx-set" ∷ id ∷ codes "schedule" ∷ t ∷ []) t id_of (λ schedule. change (Schedule schedule) id) refl (λ schedule read.
                    record { same = λ i. codes "tx-set" ∷ id ∷ codes "schedule" ∷ (id_told t schedule read).1 i ∷ []; valid = tt; can = (id_told t schedule read).0 }),
                tt,
              ),
            ),
          ),
        ),
      ),
    ),
  ),
)

change_goes : (id column : List ℕ) → GoesOn (change_words id column)
unfolding change_words
change_goes id column = goes_in (change_forms id) column (changes_go id)

change_tells : (id column : List ℕ) → Tells (codes "tx-set" ∷ id ∷ column ∷ []) (change_words id column)
unfolding change_words
change_tells id column = tells_in (codes "tx-set" ∷ id ∷ []) (change_forms id) column (changes_tell id)

-- `notes` and any text
change_ends : (id : List ℕ) → CanEnd (word (change_words id))
unfolding change_words
change_ends id = (codes "notes" ∷ [] ∷ [], pair (TxSet id (Notes [])), refl)

tx_set_goes : GoesOn tx_set_words
tx_set_goes =
    let end = change_ends [] in
    (([] ∷ end.0, end.1, end.2), λ id. (change_ends id, λ column. change_goes id column))

tx_set_tells : Tells (codes "tx-set" ∷ []) tx_set_words
tx_set_tells = λ id column. change_tells id column

-- ---- the other lines

tx_delete_opens : Opens tx_delete_words
tx_delete_opens = open_word _ (λ id. open_end _)

tx_delete_tells : Tells (codes "tx-delete" ∷ []) tx_delete_words
tx_delete_tells = λ id. record { same = refl; valid = tt; can = tt }

split_opens : Opens split_words
split_opens = open_word _ (λ id. (can_end (some_shares [] (λ shares. pair (Split id (map part_of shares)))) tt tt, tt))

parts_told : (shares : List Share) → flat_map part_texts (map part_of shares) ≡ flat_map share_texts shares
parts_told [] = refl
parts_told (share ∷ shares) = ap (λ (ts : List (List ℕ)). share_texts share ++ ts) (parts_told shares)

parts_can : (shares : List Share) → AllByRecursion IsShare shares → AllByRecursion CanWritePart (map part_of shares)
parts_can [] all = tt
parts_can (share ∷ shares) all = ((all.0.amount, all.0.id), parts_can shares all.1)

parts_some : (shares : List Share) → shares ≢ [] → map part_of shares ≢ []
parts_some [] some = absurd (some refl)
parts_some (share ∷ shares) some = λ none. cc

split_tells : Tells (codes "split" ∷ []) split_words
split_tells = λ id shares valid some. record {
  same = ap (λ (ts : List (List ℕ)). codes "split" ∷ id ∷ ts) (parts_told shares);
  valid = tt;
  can = (parts_some shares some, parts_can shares valid);
}

transfer_opens : Opens transfer_words
transfer_opens = open_word _ (λ from. open_word _ (λ to. open_date _ (λ date. open_amount _ (λ amount. open_word _ (λ notes. open_end _)))))

transfer_tells : Tells (codes "transfer" ∷ []) transfer_words
transfer_tells = λ from to date_t.
    tells_form (date_of date_t) (codes "transfer" ∷ from ∷ to ∷ date_t ∷ []) date_t date_of (λ date. amount_word (λ amount. word (λ notes. no_more (pair (Transfer from to date amount notes))))) refl (λ date date_read. λ amount_t.
    tells_form (amount_of amount_t) (codes "transfer" ∷ from ∷ to ∷ date_t ∷ amount_t ∷ []) amount_t amount_of (λ amount. word (λ notes. no_more (pair (Transfer from to date amount notes)))) refl (λ amount amount_read. λ notes.
    record {
      same = λ i. codes "transfer" ∷ from ∷ to ∷ (date_written date_t date date_read).0 i ∷ (amount_written amount_t amount amount_read).1 i ∷ notes ∷ [];
      valid = tt;
      can = ((date_written date_t date date_read).1, (amount_written amount_t amount amount_read).0);
    }))

pair_lines_are : AreKnown pair_lines
pair_lines_are = (
  record { good = refl; plain = refl; form = tt; goes = tx_set_goes; tells = tx_set_tells },
  (
    record { good = refl; plain = refl; form = tt; goes = tx_delete_opens.1; tells = tx_delete_tells },
    (
      record { good = refl; plain = refl; form = tt; goes = split_opens.1; tells = split_tells },
      (record { good = refl; plain = refl; form = tt; goes = transfer_opens.1; tells = transfer_tells }, tt),
    ),
  ),
)

pub pair_lines_known : (name : List ℕ) → (words_of_pair_lines name ≡ misfit) ⊎ IsKnown name (words_of_pair_lines name)
unfolding words_of_pair_lines
pair_lines_known name = known_in pair_lines name (words_of_rule_lines name) pair_lines_are (rule_lines_known name)
