use Rattle.std.proofs.Common.{arith, refl}
use Rattle.std.proofs.lemmas.Result.{err_from_is_err_and}
use Rattle.sync_wire.specs.declared.layout.Layout.TheVariants as layouts
use Rattle.sync_wire.specs.Fields.{tagged_of}
use Rattle.sync_wire.specs.Envelope.{outline_seen, envelope_check, outline_at}
use Rattle.sync_wire.specs.Gather.{with_part}
use Rattle.sync_wire.proofs.Gather.{some_left, none_left, goes_on, field_fails, check_fails, is_over}
use Rattle.sync_wire.proofs.Totals.{outline_begin}
use Rattle.sync_wire.proofs.envelope.outline_at.Goals as goal

pub returns-in_err-field-clause-value : goal.returns-in_err-field-clause-value
returns-in_err-field-clause-value c =
    let p = err_from_is_err_and c.from_residual.result c.from_residual.ensures.1 in
    rw (p.1, p.2) (field_fails envelope_check with_part layouts.Envelope c.args.end (outline_seen c.fields.outline) c.fields.rest.now (outline_at c.args.end c.args.bytes.now) c.in_err-field.field-0.0
    c.fields.invariant.on (some_left _ c.fields-test.ensures) c.in_err-field.ensures.value)

pub returns-in_err-outline-clause-value : goal.returns-in_err-outline-clause-value
returns-in_err-outline-clause-value c =
    let p = err_from_is_err_and c.from_residual-in_err-outline.result c.from_residual-in_err-outline.ensures.1 in
    rw (p.1, p.2) (check_fails envelope_check with_part layouts.Envelope c.args.end (outline_seen c.fields.outline) c.fields.rest.now (outline_at c.args.end c.args.bytes.now)
    (tagged_of c.in_ok-field.field) c.in_ok-field.after.now c.in_err-outline.field-0.0
    c.fields.invariant.on (some_left _ c.fields-test.ensures) c.in_ok-field.ensures.value c.in_err-outline.ensures.value)

pub fields-preserved : goal.fields-preserved
fields-preserved c = record {
  on = goes_on envelope_check with_part layouts.Envelope c.args.end (outline_seen c.fields.outline) c.fields.rest.now (outline_at c.args.end c.args.bytes.now)
      (tagged_of c.in_ok-field.field) c.in_ok-field.after.now (outline_seen c.in_ok-outline.outline)
      c.fields.invariant.on (some_left _ c.fields-test.ensures) c.in_ok-field.ensures.value c.in_ok-field.ensures.shorter c.in_ok-outline.ensures.value;
  placed = c.in_ok-outline.ensures.placed;
}

pub returns-clause-value : goal.returns-clause-value
returns-clause-value c = is_over envelope_check with_part layouts.Envelope c.args.end (outline_seen c.fields.outline) c.fields.rest.now (outline_at c.args.end c.args.bytes.now)
    c.fields.invariant.on (none_left _ c.fields-test.ensures)

pub fields-init : goal.fields-init
fields-init c = record {
  on = outline_begin c.args.end c.args.bytes.now _ c.requires refl;
  placed = omega arith;
}
