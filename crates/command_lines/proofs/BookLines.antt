-- Of each line that budgets a month or asks of the books: its words can be given, and its command is told by them.
use Rattle.std.proofs.Common.{◌≡◌, ℕ, List, [], ◌∷◌, ◌⊎◌, refl}
use Rattle.std.specs.Prelude.{codes}
use Rattle.device_core.specs.declared.edit.Edit.TheVariants.{Book}
use Rattle.book_edits.specs.declared.edit.BookEdit.TheVariants.{Budget, Carryover, Hold, Move, Track, TrackCarryover}
use Rattle.command_lines.specs.declared.command.Command.TheVariants.{Cell, Sheet, Edit}
use Rattle.command_lines.specs.Forms.{misfit, no_more, word, amount_of, flag_of, month_of, amount_word, flag_word}
use Rattle.command_lines.specs.Commands.{balance_words, register_words, cell_words, sheet_words, book_lines, words_of_book_lines, words_of_pair_lines, budget_words, carryover_words, hold_words, move_amount_words, track_words, track_carryover_words, month_lines, words_of_month_lines}
use Rattle.command_lines.proofs.Amounts.{amount_written}
use Rattle.command_lines.proofs.FormTexts.{flag_written, month_written}
use Rattle.command_lines.proofs.Opening.{Opens, open_end, open_word, open_amount, open_flag, open_month}
use Rattle.command_lines.proofs.Telling.{Tells, tells_form}
use Rattle.command_lines.proofs.Known.{IsKnown, AreKnown, known_in}
use Rattle.command_lines.proofs.PairLines.{pair_lines_known}

-- ---- the lines that ask of the books

balance_opens : Opens balance_words
balance_opens = open_word _ (λ account. open_end _)

balance_tells : Tells (codes "balance" ∷ []) balance_words
balance_tells = λ account. record { same = refl; valid = tt; can = tt }

register_opens : Opens register_words
register_opens = open_word _ (λ account. open_end _)

register_tells : Tells (codes "register" ∷ []) register_words
register_tells = λ account. record { same = refl; valid = tt; can = tt }

cell_opens : Opens cell_words
cell_opens = open_month _ (λ month. open_word _ (λ name. open_end _))

cell_tells : Tells (codes "cell" ∷ []) cell_words
cell_tells = λ month_t.
    tells_form (month_of month_t) (codes "cell" ∷ month_t ∷ []) month_t month_of (λ month. word (λ name. no_more (Cell month name))) refl (λ month month_read. λ name. record { same = λ i. codes "cell" ∷ (month_written month_t month month_read).0 i ∷ name ∷ []; valid = tt; can = (month_written month_t month month_read).1 })

sheet_opens : Opens sheet_words
sheet_opens = open_month _ (λ month. open_end _)

sheet_tells : Tells (codes "sheet" ∷ []) sheet_words
sheet_tells = λ month_t.
    tells_form (month_of month_t) (codes "sheet" ∷ month_t ∷ []) month_t month_of (λ month. no_more (Sheet month)) refl (λ month month_read. record { same = λ i. codes "sheet" ∷ (month_written month_t month month_read).0 i ∷ []; valid = tt; can = (month_written month_t month month_read).1 })

book_lines_are : AreKnown book_lines
book_lines_are = (record { good = refl; plain = refl; form = tt; goes = balance_opens.1; tells = balance_tells }, (record { good = refl; plain = refl; form = tt; goes = register_opens.1; tells = register_tells }, (record { good = refl; plain = refl; form = tt; goes = cell_opens.1; tells = cell_tells }, (record { good = refl; plain = refl; form = tt; goes = sheet_opens.1; tells = sheet_tells }, (record { good = refl; plain = refl; form = tt; goes = tt; tells = record { same = refl; valid = tt; can = tt } }, tt)))))

pub book_lines_known : (name : List ℕ) → (words_of_book_lines name ≡ misfit) ⊎ IsKnown name (words_of_book_lines name)
unfolding words_of_book_lines
book_lines_known name = known_in book_lines name (words_of_pair_lines name) book_lines_are (pair_lines_known name)

-- ---- the lines that budget a month

budget_opens : Opens budget_words
budget_opens = open_month _ (λ month. open_word _ (λ category. open_amount _ (λ amount. open_end _)))

budget_tells : Tells (codes "budget" ∷ []) budget_words
budget_tells = λ month_t.
    tells_form (month_of month_t) (codes "budget" ∷ month_t ∷ []) month_t month_of (λ month. word (λ category. amount_word (λ amount. no_more (Edit (Book (Budget month category amount)))))) refl (λ month month_read. λ category. λ amount_t.
    tells_form (amount_of amount_t) (codes "budget" ∷ month_t ∷ category ∷ amount_t ∷ []) amount_t amount_of (λ amount. no_more (Edit (Book (Budget month category amount)))) refl (λ amount amount_read. record { same = λ i. codes "budget" ∷ (month_written month_t month month_read).0 i ∷ category ∷ (amount_written amount_t amount amount_read).1 i ∷ []; valid = tt; can = ((month_written month_t month month_read).1, (amount_written amount_t amount amount_read).0) }))

carryover_opens : Opens carryover_words
carryover_opens = open_month _ (λ month. open_word _ (λ category. open_flag _ (λ carries. open_end _)))

carryover_tells : Tells (codes "carryover" ∷ []) carryover_words
carryover_tells = λ month_t.
    tells_form (month_of month_t) (codes "carryover" ∷ month_t ∷ []) month_t month_of (λ month. word (λ category. flag_word (λ carries. no_more (Edit (Book (Carryover month category carries)))))) refl (λ month month_read. λ category. λ carries_t.
    tells_form (flag_of carries_t) (codes "carryover" ∷ month_t ∷ category ∷ carries_t ∷ []) carries_t flag_of (λ carries. no_more (Edit (Book (Carryover month category carries)))) refl (λ carries carries_read. record { same = λ i. codes "carryover" ∷ (month_written month_t month month_read).0 i ∷ category ∷ (flag_written carries_t carries carries_read) i ∷ []; valid = tt; can = (month_written month_t month month_read).1 }))

hold_opens : Opens hold_words
hold_opens = open_month _ (λ month. open_amount _ (λ amount. open_end _))

hold_tells : Tells (codes "hold" ∷ []) hold_words
hold_tells = λ month_t.
    tells_form (month_of month_t) (codes "hold" ∷ month_t ∷ []) month_t month_of (λ month. amount_word (λ amount. no_more (Edit (Book (Hold month amount))))) refl (λ month month_read. λ amount_t.
    tells_form (amount_of amount_t) (codes "hold" ∷ month_t ∷ amount_t ∷ []) amount_t amount_of (λ amount. no_more (Edit (Book (Hold month amount)))) refl (λ amount amount_read. record { same = λ i. codes "hold" ∷ (month_written month_t month month_read).0 i ∷ (amount_written amount_t amount amount_read).1 i ∷ []; valid = tt; can = ((month_written month_t month month_read).1, (amount_written amount_t amount amount_read).0) }))

move_amount_opens : Opens move_amount_words
move_amount_opens = open_month _ (λ month. open_word _ (λ from. open_word _ (λ to. open_amount _ (λ amount. open_end _))))

move_amount_tells : Tells (codes "move" ∷ []) move_amount_words
move_amount_tells = λ month_t.
    tells_form (month_of month_t) (codes "move" ∷ month_t ∷ []) month_t month_of (λ month. word (λ from. word (λ to. amount_word (λ amount. no_more (Edit (Book (Move month from to amount))))))) refl (λ month month_read. λ from. λ to. λ amount_t.
    tells_form (amount_of amount_t) (codes "move" ∷ month_t ∷ from ∷ to ∷ amount_t ∷ []) amount_t amount_of (λ amount. no_more (Edit (Book (Move month from to amount)))) refl (λ amount amount_read. record { same = λ i. codes "move" ∷ (month_written month_t month month_read).0 i ∷ from ∷ to ∷ (amount_written amount_t amount amount_read).1 i ∷ []; valid = tt; can = ((month_written month_t month month_read).1, (amount_written amount_t amount amount_read).0) }))

track_opens : Opens track_words
track_opens = open_month _ (λ month. open_word _ (λ category. open_amount _ (λ amount. open_end _)))

track_tells : Tells (codes "track" ∷ []) track_words
track_tells = λ month_t.
    tells_form (month_of month_t) (codes "track" ∷ month_t ∷ []) month_t month_of (λ month. word (λ category. amount_word (λ amount. no_more (Edit (Book (Track month category amount)))))) refl (λ month month_read. λ category. λ amount_t.
    tells_form (amount_of amount_t) (codes "track" ∷ month_t ∷ category ∷ amount_t ∷ []) amount_t amount_of (λ amount. no_more (Edit (Book (Track month category amount)))) refl (λ amount amount_read. record { same = λ i. codes "track" ∷ (month_written month_t month month_read).0 i ∷ category ∷ (amount_written amount_t amount amount_read).1 i ∷ []; valid = tt; can = ((month_written month_t month month_read).1, (amount_written amount_t amount amount_read).0) }))

track_carryover_opens : Opens track_carryover_words
track_carryover_opens = open_month _ (λ month. open_word _ (λ category. open_flag _ (λ carries. open_end _)))

track_carryover_tells : Tells (codes "track-carryover" ∷ []) track_carryover_words
track_carryover_tells = λ month_t.
    tells_form (month_of month_t) (codes "track-carryover" ∷ month_t ∷ []) month_t month_of (λ month. word (λ category. flag_word (λ carries. no_more (Edit (Book (TrackCarryover month category carries)))))) refl (λ month month_read. λ category. λ carries_t.
    tells_form (flag_of carries_t) (codes "track-carryover" ∷ month_t ∷ category ∷ carries_t ∷ []) carries_t flag_of (λ carries. no_more (Edit (Book (TrackCarryover month category carries)))) refl (λ carries carries_read. record { same = λ i. codes "track-carryover" ∷ (month_written month_t month month_read).0 i ∷ category ∷ (flag_written carries_t carries carries_read) i ∷ []; valid = tt; can = (month_written month_t month month_read).1 }))

month_lines_are : AreKnown month_lines
month_lines_are = (record { good = refl; plain = refl; form = tt; goes = budget_opens.1; tells = budget_tells }, (record { good = refl; plain = refl; form = tt; goes = carryover_opens.1; tells = carryover_tells }, (record { good = refl; plain = refl; form = tt; goes = hold_opens.1; tells = hold_tells }, (record { good = refl; plain = refl; form = tt; goes = move_amount_opens.1; tells = move_amount_tells }, (record { good = refl; plain = refl; form = tt; goes = track_opens.1; tells = track_tells }, (record { good = refl; plain = refl; form = tt; goes = track_carryover_opens.1; tells = track_carryover_tells }, tt))))))

pub month_lines_known : (name : List ℕ) → (words_of_month_lines name ≡ misfit) ⊎ IsKnown name (words_of_month_lines name)
unfolding words_of_month_lines
month_lines_known name = known_in month_lines name (words_of_book_lines name) month_lines_are (book_lines_known name)
