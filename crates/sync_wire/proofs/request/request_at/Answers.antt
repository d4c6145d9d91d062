use Rattle.std.proofs.lemmas.Result.{err_from_is_err_and}
use Rattle.sync_wire.specs.declared.layout.Layout.TheVariants as layouts
use Rattle.sync_wire.specs.Fields.{tagged_of}
use Rattle.sync_wire.specs.Wire.{request_check, request_kept, request_at}
use Rattle.sync_wire.specs.Gather.{with_request_field}
use Rattle.sync_wire.proofs.Gather.{some_left, none_left, goes_on, field_fails, check_fails, is_over}
use Rattle.sync_wire.proofs.Kept.{kept_here, kept_later, no_fault_told}
use Rattle.sync_wire.proofs.Totals.{request_begin, none_valid}
use Rattle.sync_wire.proofs.request.request_at.Goals as goal

pub returns-in_err-field-clause-value : goal.returns-in_err-field-clause-value
returns-in_err-field-clause-value c =
    let p = err_from_is_err_and c.from_residual.result c.from_residual.ensures.1 in
    rw (p.1, p.2) (field_fails request_check with_request_field layouts.Request c.args.end c.fields.request c.fields.rest.now (request_at c.args.end c.args.bytes.now) c.in_err-field.field-0.0
    c.fields.invariant.on (some_left _ c.fields-test.ensures) c.in_err-field.ensures.value)

pub returns-in_err-request-clause-value : goal.returns-in_err-request-clause-value
returns-in_err-request-clause-value c =
    let p = err_from_is_err_and c.from_residual-in_err-request.result c.from_residual-in_err-request.ensures.1 in
    rw (p.1, p.2) (check_fails request_check with_request_field layouts.Request c.args.end c.fields.request c.fields.rest.now (request_at c.args.end c.args.bytes.now)
    (tagged_of c.in_ok-field.field) c.in_ok-field.after.now c.in_err-request.field-0.0
    c.fields.invariant.on (some_left _ c.fields-test.ensures) c.in_ok-field.ensures.value c.in_err-request.ensures.value)

pub returns-in_err-request-clause-memory : goal.returns-in_err-request-clause-memory
returns-in_err-request-clause-memory c =
    let p = err_from_is_err_and c.from_residual-in_err-request.result c.from_residual-in_err-request.ensures.1 in
    rw (p.1, p.2) (λ e. c.fields.invariant.kept (kept_here request_check request_kept layouts.Request c.args.end c.fields.rest.now c.in_ok-field.after.now (tagged_of c.in_ok-field.field)
    c.in_ok-field.ensures.value (c.in_err-request.ensures.memory e) (c.in_err-request.ensures.kept e)))

pub fields-preserved : goal.fields-preserved
fields-preserved c = record {
  on = goes_on request_check with_request_field layouts.Request c.args.end c.fields.request c.fields.rest.now (request_at c.args.end c.args.bytes.now)
      (tagged_of c.in_ok-field.field) c.in_ok-field.after.now c.in_ok-request.request
      c.fields.invariant.on (some_left _ c.fields-test.ensures) c.in_ok-field.ensures.value c.in_ok-field.ensures.shorter c.in_ok-request.ensures.value;
  valid = c.in_ok-request.ensures.valid;
  kept = λ h. c.fields.invariant.kept (kept_later request_check request_kept layouts.Request c.args.end c.fields.rest.now c.in_ok-field.after.now (tagged_of c.in_ok-field.field)
      c.in_ok-field.ensures.value (no_fault_told (request_check (tagged_of c.in_ok-field.field)) _ _ c.in_ok-request.ensures.value) h);
}

pub returns-clause-value : goal.returns-clause-value
returns-clause-value c = is_over request_check with_request_field layouts.Request c.args.end c.fields.request c.fields.rest.now (request_at c.args.end c.args.bytes.now)
    c.fields.invariant.on (none_left _ c.fields-test.ensures)

pub fields-init : goal.fields-init
fields-init c = record {
  on = request_begin c.args.end c.args.bytes.now c.no_text.result c.no_text-2.result c.no_text-3.result c.no_messages.result c.requires c.no_messages.ensures c.no_text.ensures c.no_text-2.ensures c.no_text-3.ensures;
  valid = none_valid c.no_messages.result c.no_messages.ensures;
  kept = λ h. h;
}
