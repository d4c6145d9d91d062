use Rattle.std.proofs.lemmas.Result.{err_from_is_err_and}
use Rattle.sync_wire.specs.declared.layout.Layout.TheVariants as layouts
use Rattle.sync_wire.specs.Fields.{tagged_of}
use Rattle.sync_wire.specs.Wire.{response_check, response_kept, response_at}
use Rattle.sync_wire.specs.Gather.{with_response_field}
use Rattle.sync_wire.proofs.Gather.{some_left, none_left, goes_on, field_fails, check_fails, is_over}
use Rattle.sync_wire.proofs.Kept.{kept_here, kept_later, no_fault_told}
use Rattle.sync_wire.proofs.Totals.{response_begin, none_valid}
use Rattle.sync_wire.proofs.response.response_at.Goals as goal

pub returns-in_err-field-clause-value : goal.returns-in_err-field-clause-value
returns-in_err-field-clause-value c =
    let p = err_from_is_err_and c.from_residual.result c.from_residual.ensures.1 in
    rw (p.1, p.2) (field_fails response_check with_response_field layouts.Response c.args.end c.fields.response c.fields.rest.now (response_at c.args.end c.args.bytes.now) c.in_err-field.field-0.0
    c.fields.invariant.on (some_left _ c.fields-test.ensures) c.in_err-field.ensures.value)

pub returns-in_err-response-clause-value : goal.returns-in_err-response-clause-value
returns-in_err-response-clause-value c =
    let p = err_from_is_err_and c.from_residual-in_err-response.result c.from_residual-in_err-response.ensures.1 in
    rw (p.1, p.2) (check_fails response_check with_response_field layouts.Response c.args.end c.fields.response c.fields.rest.now (response_at c.args.end c.args.bytes.now)
    (tagged_of c.in_ok-field.field) c.in_ok-field.after.now c.in_err-response.field-0.0
    c.fields.invariant.on (some_left _ c.fields-test.ensures) c.in_ok-field.ensures.value c.in_err-response.ensures.value)

pub returns-in_err-response-clause-memory : goal.returns-in_err-response-clause-memory
returns-in_err-response-clause-memory c =
    let p = err_from_is_err_and c.from_residual-in_err-response.result c.from_residual-in_err-response.ensures.1 in
    rw (p.1, p.2) (λ e. c.fields.invariant.kept (kept_here response_check response_kept layouts.Response c.args.end c.fields.rest.now c.in_ok-field.after.now (tagged_of c.in_ok-field.field)
    c.in_ok-field.ensures.value (c.in_err-response.ensures.memory e) (c.in_err-response.ensures.kept e)))

pub fields-preserved : goal.fields-preserved
fields-preserved c = record {
  on = goes_on response_check with_response_field layouts.Response c.args.end c.fields.response c.fields.rest.now (response_at c.args.end c.args.bytes.now)
      (tagged_of c.in_ok-field.field) c.in_ok-field.after.now c.in_ok-response.response
      c.fields.invariant.on (some_left _ c.fields-test.ensures) c.in_ok-field.ensures.value c.in_ok-field.ensures.shorter c.in_ok-response.ensures.value;
  valid = c.in_ok-response.ensures.valid;
  kept = λ h. c.fields.invariant.kept (kept_later response_check response_kept layouts.Response c.args.end c.fields.rest.now c.in_ok-field.after.now (tagged_of c.in_ok-field.field)
      c.in_ok-field.ensures.value (no_fault_told (response_check (tagged_of c.in_ok-field.field)) _ _ c.in_ok-response.ensures.value) h);
}

pub returns-clause-value : goal.returns-clause-value
returns-clause-value c = is_over response_check with_response_field layouts.Response c.args.end c.fields.response c.fields.rest.now (response_at c.args.end c.args.bytes.now)
    c.fields.invariant.on (none_left _ c.fields-test.ensures)

pub fields-init : goal.fields-init
fields-init c = record {
  on = response_begin c.args.end c.args.bytes.now c.no_text.result c.no_messages.result c.requires c.no_messages.ensures c.no_text.ensures;
  valid = none_valid c.no_messages.result c.no_messages.ensures;
  kept = λ h. h;
}
