use Rattle.std.proofs.Common.{refl}
use Rattle.std.proofs.lemmas.Result.{err_from_is_err_and}
use Rattle.sync_wire.specs.declared.layout.Layout.TheVariants as layouts
use Rattle.sync_wire.specs.Fields.{tagged_of}
use Rattle.sync_wire.specs.Envelope.{texts_seen, content_check, content_at}
use Rattle.sync_wire.specs.Gather.{with_text}
use Rattle.sync_wire.proofs.Gather.{some_left, none_left, goes_on, field_fails, check_fails, is_over}
use Rattle.sync_wire.proofs.Totals.{content_begin}
use Rattle.sync_wire.proofs.content.content_at.Goals as goal

pub returns-in_err-field-clause-value : goal.returns-in_err-field-clause-value
returns-in_err-field-clause-value c =
    let p = err_from_is_err_and c.from_residual.result c.from_residual.ensures.1 in
    rw (p.1, p.2) (field_fails content_check with_text layouts.Content c.args.end (texts_seen c.fields.texts) c.fields.rest.now (content_at c.args.end c.args.bytes.now) c.in_err-field.field-0.0
    c.fields.invariant.on (some_left _ c.fields-test.ensures) c.in_err-field.ensures.value)

pub returns-in_err-texts-clause-value : goal.returns-in_err-texts-clause-value
returns-in_err-texts-clause-value c =
    let p = err_from_is_err_and c.from_residual-in_err-texts.result c.from_residual-in_err-texts.ensures.1 in
    rw (p.1, p.2) (check_fails content_check with_text layouts.Content c.args.end (texts_seen c.fields.texts) c.fields.rest.now (content_at c.args.end c.args.bytes.now)
    (tagged_of c.in_ok-field.field) c.in_ok-field.after.now c.in_err-texts.field-0.0
    c.fields.invariant.on (some_left _ c.fields-test.ensures) c.in_ok-field.ensures.value c.in_err-texts.ensures.value)

pub fields-preserved : goal.fields-preserved
fields-preserved c = record {
  on = goes_on content_check with_text layouts.Content c.args.end (texts_seen c.fields.texts) c.fields.rest.now (content_at c.args.end c.args.bytes.now)
      (tagged_of c.in_ok-field.field) c.in_ok-field.after.now (texts_seen c.in_ok-texts.texts)
      c.fields.invariant.on (some_left _ c.fields-test.ensures) c.in_ok-field.ensures.value c.in_ok-field.ensures.shorter c.in_ok-texts.ensures.value;
}

pub returns-clause-value : goal.returns-clause-value
returns-clause-value c = is_over content_check with_text layouts.Content c.args.end (texts_seen c.fields.texts) c.fields.rest.now (content_at c.args.end c.args.bytes.now)
    c.fields.invariant.on (none_left _ c.fields-test.ensures)

pub fields-init : goal.fields-init
fields-init c = record {
  on = content_begin c.args.end c.args.bytes.now _ c.requires refl;
}
