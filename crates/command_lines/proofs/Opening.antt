-- What is wanted of the words of a line can be given.
use Rattle.std.proofs.Common.{◌≡◌, ◌≢◌, ℕ, Bool, true, false, List, [], ◌∷◌, ◌++◌, Option, None, Some, Result, Ok, Err, refl, subst, sym, arith, pos, ℤ}
use Rattle.std.specs.Prelude.{codes, if◌then◌else◌}
use Rattle.hybrid_clock.specs.declared.stamp.Stamp.{Stamp}
use Rattle.hybrid_clock.specs.declared.stamp.StampFault.{StampFault}
use Rattle.hybrid_clock.specs.Stamp.{IsStamp, stamp_text}
use Rattle.hybrid_clock.specs.Reading.{read_stamp}
use Rattle.hybrid_clock.proofs.Writing.{text_reads}
use Rattle.command_lines.specs.declared.command.Command.{Command}
use Rattle.std.specs.Fmt.{signed_decimal}
use Rattle.command_lines.specs.Forms.{Share, Wanted, no_more, word, may_end, some_texts, some_shares, misfit, is_name, of_stamp, stamp_word, name_word, if_read, amount_of, id_or_none, behind, id_of, flag_of, date_of, month_of, stage_of, op_of, form_word, amount_word, flag_word, date_word, month_word, id_word, stage_word, op_word}
use Rattle.rule_engine.specs.declared.rule.Stage.{Stage}
use Rattle.rule_engine.specs.declared.rule.Stage.TheVariants.{Pre}
use Rattle.rule_engine.specs.declared.rule.RuleOp.{RuleOp}
use Rattle.rule_engine.specs.declared.rule.RuleOp.TheVariants.{And}
use Rattle.rule_engine.specs.Edits.{op_text}
use Rattle.command_lines.specs.Written.{flag_text, date_text, month_text, stage_text}
use Rattle.command_lines.proofs.Amounts.{amount_back, id_of_back}
use Rattle.command_lines.proofs.FormTexts.{flag_back, date_back, month_back, stage_back, op_back}
use Rattle.command_lines.specs.FormLaws.{id_text, share_texts}
use Rattle.command_lines.proofs.FormLemmas.{IsForm, Makes}
use Rattle.command_lines.proofs.RepeatLemmas.{some_made, texts_make, shares_make}

-- some texts make a command
abbrev pub CanEnd : Wanted → Type 0
CanEnd wanted = (texts : List (List ℕ)) × (c : Command) × Makes wanted texts c

-- wherever a word is wanted, some texts make a command
abbrev pub GoesOn : Wanted → Type 0
GoesOn (word next) = CanEnd (word next) × ((text : List ℕ) → GoesOn (next text))
GoesOn (may_end c next) = (text : List ℕ) → GoesOn (next text)
GoesOn wanted = Unit {0}

some_more : {A : Type 0} (xs : List A) (x : A) → xs ++ x ∷ [] ≢ []
some_more [] x = λ e. cc
some_more (y ∷ ys) x = λ e. cc

-- what is wanted can be given
pub can_end : (wanted : Wanted) → IsForm wanted → GoesOn wanted → CanEnd wanted
can_end misfit form on = absurd form
can_end (no_more c) form on = ([], c, refl)
can_end (word next) form on = on.0
can_end (may_end c next) form on = ([], c, refl)
can_end (some_texts texts made) form on = ([] ∷ [], made (texts ++ [] ∷ []), texts_make ([] ∷ []) texts made (some_more texts []))
can_end (some_shares shares made) form on =
    let share : Share = (pos 0, None) in
    (share_texts share, made (shares ++ share ∷ []), shares_make (share ∷ []) shares made (record { amount = refl; id = λ e. cc }, tt) (some_more shares share))

-- and so behind each word
pub goes_behind : (wanted : Wanted) (text : List ℕ) → GoesOn wanted → GoesOn (behind wanted text)
goes_behind misfit text on = tt
goes_behind (no_more c) text on = tt
goes_behind (word next) text on = on.1 text
goes_behind (may_end c next) text on = on text
goes_behind (some_texts texts made) text on = tt
goes_behind (some_shares shares made) text on = by (amount_of text)
  where
    by : (o : Option ℤ) → GoesOn (if_read (λ n. word (λ id. some_shares (shares ++ (n, id_or_none id) ∷ []) made)) o)
    by None = tt
    by (Some n) =
        let more : List Share = shares ++ (n, id_or_none []) ∷ [] in
        (([] ∷ [], made more, some_made made more (some_more shares (n, id_or_none []))), λ id. tt)

-- ---- of each form

-- what is wanted can be given, here and behind each word
abbrev pub Opens : Wanted → Type 0
Opens wanted = CanEnd wanted × GoesOn wanted

pub open_end : (c : Command) → Opens (no_more c)
open_end c = (([], c, refl), tt)

pub open_word : (next : List ℕ → Wanted) → ((text : List ℕ) → Opens (next text)) → Opens (word next)
open_word next h =
    let first = (h []).0 in
    let end : CanEnd (word next) = ([] ∷ first.0, first.1, first.2) in (end, (end, λ text. (h text).1))

pub open_more : (c : Command) (next : List ℕ → Wanted) → ((text : List ℕ) → Opens (next text)) → Opens (may_end c next)
open_more c next h = (([], c, refl), λ text. (h text).1)

on_if : (t : Bool) (wanted : Wanted) → GoesOn wanted → GoesOn (if t then wanted else misfit)
on_if true wanted h = h
on_if false wanted h = tt

pub open_name : (next : List ℕ → Wanted) → ((text : List ℕ) → Opens (next text)) → Opens (name_word next)
open_name next h =
    let first = (h (codes "a")).0 in
    let end : CanEnd (name_word next) = (codes "a" ∷ first.0, first.1, first.2) in
    (end, (end, λ text. on_if (is_name text) (next text) (h text).1))

on_stamp : (next : Stamp → Wanted) (read : Result Stamp StampFault) → ((s : Stamp) → GoesOn (next s)) → GoesOn (of_stamp next read)
on_stamp next (Ok s) h = h s
on_stamp next (Err fault) h = tt

-- a timestamp
abbrev first_stamp : Stamp
first_stamp = record { millis = 0; counter = 0; node = codes "0000000000000001" }

first_stamp_is : IsStamp first_stamp
first_stamp_is = record {
  within = omega arith;
  counter = omega arith;
  node = record { sixteen = refl; characters = refl; nonzero = refl };
}

pub open_stamp : (next : Stamp → Wanted) → ((s : Stamp) → Opens (next s)) → Opens (stamp_word next)
open_stamp next h =
    let first = (h first_stamp).0 in
    let end : CanEnd (stamp_word next) =
    (stamp_text first_stamp ∷ first.0, first.1, subst (λ read. Makes (of_stamp next read) first.0 first.1) (sym (text_reads first_stamp first_stamp_is)) first.2) in
    (end, (end, λ text. on_stamp next (read_stamp text) (λ s. (h s).1)))

on_form : {A : Type 0} (next : A → Wanted) (read : Option A) → ((a : A) → GoesOn (next a)) → GoesOn (if_read next read)
on_form next None h = tt
on_form next (Some a) h = h a

-- a form, of which some text is
open_form : {A : Type 0} (read : List ℕ → Option A) (next : A → Wanted) (text : List ℕ) (a : A) → read text ≡ Some a → ((b : A) → Opens (next b)) → Opens (form_word read next)
open_form {A} read next text a e h =
    let first = (h a).0 in
    let end : CanEnd (form_word read next) = (text ∷ first.0, first.1, subst (λ (o : Option A). Makes (if_read next o) first.0 first.1) (sym e) first.2) in
    (end, (end, λ other. on_form next (read other) (λ b. (h b).1)))

pub open_id : (next : Option (List ℕ) → Wanted) → ((id : Option (List ℕ)) → Opens (next id)) → Opens (id_word next)
open_id next h = open_form id_of next (id_text None) None (id_of_back None (λ e. cc)) h

pub open_amount : (next : ℤ → Wanted) → ((n : ℤ) → Opens (next n)) → Opens (amount_word next)
open_amount next h = open_form amount_of next (signed_decimal (pos 0)) (pos 0) (amount_back (pos 0) refl) h

pub open_flag : (next : Bool → Wanted) → ((b : Bool) → Opens (next b)) → Opens (flag_word next)
open_flag next h = open_form flag_of next (flag_text true) true (flag_back true) h

pub open_date : (next : ℕ → Wanted) → ((n : ℕ) → Opens (next n)) → Opens (date_word next)
open_date next h = open_form date_of next (date_text 0) 0 (date_back 0 (omega arith)) h

pub open_month : (next : ℕ → Wanted) → ((n : ℕ) → Opens (next n)) → Opens (month_word next)
open_month next h = open_form month_of next (month_text 0) 0 (month_back 0 (omega arith)) h

pub open_stage : (next : Stage → Wanted) → ((stage : Stage) → Opens (next stage)) → Opens (stage_word next)
open_stage next h = open_form stage_of next (stage_text Pre) Pre (stage_back Pre) h

pub open_op : (next : RuleOp → Wanted) → ((op : RuleOp) → Opens (next op)) → Opens (op_word next)
open_op next h = open_form op_of next (op_text And) And (op_back And) h
