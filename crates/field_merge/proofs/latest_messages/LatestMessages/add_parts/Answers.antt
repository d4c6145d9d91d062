use Rattle.std.proofs.Common.{◌∙◌, ap, sym}
use Rattle.std.specs.Result.{is_ok}
use Rattle.hybrid_clock.specs.Reading.{read_stamp}
use Rattle.field_values.proofs.NameLemmas.{names_fault-none}
use Rattle.field_merge.specs.Messages.{message_of}
use Rattle.field_merge.proofs.LineLemmas.{bad_name_read, bad_stamp_read, each_fault, texts_read}
use Rattle.field_merge.proofs.latest_messages.LatestMessages.add_parts.Goals as goal

pub returns-in-Err-clause-err : goal.returns-in-Err-clause-err
returns-in-Err-clause-err c =
    bad_stamp_read _ _ _ c.in-Err.fault (ap read_stamp (sym c.as_bytes.ensures.value) ∙ sym c.parse.ensures.is ∙ c.in-Err.is)

pub returns-in-Err-place_of-clause-err : goal.returns-in-Err-place_of-clause-err
returns-in-Err-place_of-clause-err c =
    bad_name_read _ _ _ c.in-Ok.stamp c.in-Err-place_of.fault (ap read_stamp (sym c.as_bytes.ensures.value) ∙ sym c.parse.ensures.is ∙ c.in-Ok.is) c.in-Err-place_of.ensures.bad

pub returns-clause-ok : goal.returns-clause-ok
returns-clause-ok c =
    let read = texts_read c.args.parts.now.stamp.now c.args.parts.now.value.now c.args.names c.in-Ok.stamp (ap read_stamp (sym c.as_bytes.ensures.value) ∙ sym c.parse.ensures.is ∙ c.in-Ok.is)
    (names_fault-none c.args.names c.in-Ok-place_of.ensures.good) in (
      message_of c.in-Ok.stamp c.args.names c.args.parts.now.value.now,
      read,
      λ ms came.
          let gathered = c.in_ok-gather_draft.ensures.came ms came in
          (c.in_ok-tidy_when_many.ensures.came _ gathered, c.in_ok-tidy_when_many.ensures.few _ gathered),
    )

pub returns-in_err-gather_draft-clause-memory : goal.returns-in_err-gather_draft-clause-memory
returns-in_err-gather_draft-clause-memory c =
    each_fault c.from_residual.result _ (λ fault is.
    ap is_ok (texts_read c.args.parts.now.stamp.now c.args.parts.now.value.now c.args.names c.in-Ok.stamp (ap read_stamp (sym c.as_bytes.ensures.value) ∙ sym c.parse.ensures.is ∙ c.in-Ok.is)
    (names_fault-none c.args.names c.in-Ok-place_of.ensures.good)))

pub returns-in_err-tidy_when_many-clause-memory : goal.returns-in_err-tidy_when_many-clause-memory
returns-in_err-tidy_when_many-clause-memory c =
    each_fault c.from_residual-in_err-tidy_when_many.result _ (λ fault is.
    ap is_ok (texts_read c.args.parts.now.stamp.now c.args.parts.now.value.now c.args.names c.in-Ok.stamp (ap read_stamp (sym c.as_bytes.ensures.value) ∙ sym c.parse.ensures.is ∙ c.in-Ok.is)
    (names_fault-none c.args.names c.in-Ok-place_of.ensures.good)))
