-- Of each line about schedules: its words can be given, and its command is told by them.
use Rattle.std.proofs.Common.{◌≡◌, ℕ, List, [], ◌∷◌, ◌⊎◌, refl}
use Rattle.std.specs.Prelude.{codes}
use Rattle.schedules.specs.declared.edit.ScheduleEdit.TheVariants.{Add}
use Rattle.command_lines.specs.declared.command.Command.TheVariants.{ScheduleStatus}
use Rattle.command_lines.specs.Forms.{misfit, no_more, word, amount_of, date_of, id_of, amount_word, id_word}
use Rattle.command_lines.specs.Commands.{scheduling, schedule_add_words, schedule_post_words, schedule_skip_words, schedule_delete_words, schedule_status_words, schedule_lines, words_of_schedule_lines, words_of_statement_lines}
use Rattle.command_lines.proofs.Amounts.{amount_written, id_told}
use Rattle.command_lines.proofs.FormTexts.{date_written}
use Rattle.command_lines.proofs.Opening.{Opens, open_end, open_word, open_id, open_amount, open_date}
use Rattle.command_lines.proofs.Telling.{Tells, tells_form}
use Rattle.command_lines.proofs.Known.{IsKnown, AreKnown, known_in}
use Rattle.command_lines.proofs.StatementLines.{statement_lines_known}

schedule_add_opens : Opens schedule_add_words
schedule_add_opens = open_id _ (λ id. open_word _ (λ name. open_word _ (λ account. open_id _ (λ payee. open_amount _ (λ amount. open_word _ (λ recur. open_end _))))))

schedule_add_tells : Tells (codes "schedule-add" ∷ []) schedule_add_words
schedule_add_tells = λ id_t.
    tells_form (id_of id_t) (codes "schedule-add" ∷ id_t ∷ []) id_t id_of (λ id. word (λ name. word (λ account. id_word (λ payee. amount_word (λ amount. word (λ recur. no_more (scheduling (Add id name account payee amount recur)))))))) refl (λ id id_read. λ name account payee_t.
    tells_form (id_of payee_t) (codes "schedule-add" ∷ id_t ∷ name ∷ account ∷ payee_t ∷ []) payee_t id_of (λ payee. amount_word (λ amount. word (λ recur. no_more (scheduling (Add id name account payee amount recur))))) refl (λ payee payee_read. λ amount_t.
    tells_form (amount_of amount_t) (codes "schedule-add" ∷ id_t ∷ name ∷ account ∷ payee_t ∷ amount_t ∷ []) amount_t amount_of (λ amount. word (λ recur. no_more (scheduling (Add id name account payee amount recur)))) refl (λ amount amount_read. λ recur.
    record {
      same = λ i. codes "schedule-add" ∷ (id_told id_t id id_read).1 i ∷ name ∷ account ∷ (id_told payee_t payee payee_read).1 i ∷ (amount_written amount_t amount amount_read).1 i ∷ recur ∷ [];
      valid = tt;
      can = ((id_told id_t id id_read).0, (id_told payee_t payee payee_read).0, (amount_written amount_t amount amount_read).0);
    })))

schedule_post_opens : Opens schedule_post_words
schedule_post_opens = open_word _ (λ id. open_end _)

schedule_skip_opens : Opens schedule_skip_words
schedule_skip_opens = open_word _ (λ id. open_end _)

schedule_delete_opens : Opens schedule_delete_words
schedule_delete_opens = open_word _ (λ id. open_end _)

schedule_status_opens : Opens schedule_status_words
schedule_status_opens = open_word _ (λ id. open_date _ (λ day. open_end _))

schedule_status_tells : Tells (codes "schedule-status" ∷ []) schedule_status_words
schedule_status_tells = λ id day_t.
    tells_form (date_of day_t) (codes "schedule-status" ∷ id ∷ day_t ∷ []) day_t date_of (λ day. no_more (ScheduleStatus id day)) refl (λ day day_read.
    record { same = λ i. codes "schedule-status" ∷ id ∷ (date_written day_t day day_read).0 i ∷ []; valid = tt; can = (date_written day_t day day_read).1 })

schedule_lines_are : AreKnown schedule_lines
schedule_lines_are = (
  record { good = refl; plain = refl; form = tt; goes = schedule_add_opens.1; tells = schedule_add_tells },
  (
    record { good = refl; plain = refl; form = tt; goes = schedule_post_opens.1; tells = λ id. record { same = refl; valid = tt; can = tt } },
    (
      record { good = refl; plain = refl; form = tt; goes = schedule_skip_opens.1; tells = λ id. record { same = refl; valid = tt; can = tt } },
      (
        record { good = refl; plain = refl; form = tt; goes = schedule_delete_opens.1; tells = λ id. record { same = refl; valid = tt; can = tt } },
        (record { good = refl; plain = refl; form = tt; goes = schedule_status_opens.1; tells = schedule_status_tells }, tt),
      ),
    ),
  ),
)

pub schedule_lines_known : (name : List ℕ) → (words_of_schedule_lines name ≡ misfit) ⊎ IsKnown name (words_of_schedule_lines name)
unfolding words_of_schedule_lines
schedule_lines_known name = known_in schedule_lines name (words_of_statement_lines name) schedule_lines_are (statement_lines_known name)
