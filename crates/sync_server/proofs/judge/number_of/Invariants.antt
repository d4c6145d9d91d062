use Rattle.std.proofs.Common.{◌≡◌, ◌<◌, ◌^◌, drop}
use Rattle.std.specs.Str.Parse.{digits_value_after, digits_value}
use Rattle.sync_server.proofs.judge.number_of.Given as goal

abbrev pub invariant-loop-digit : goal.invariant-loop-digit
invariant-loop-digit l = record {
  same : digits_value_after 10 l.number (drop l.digit-index l.text) ≡ digits_value 10 l.text;
  below : l.number < 10 ^ l.digit-index;
}
