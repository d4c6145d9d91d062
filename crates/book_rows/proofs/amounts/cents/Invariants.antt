use Rattle.std.proofs.Common.{◌≡◌, ◌<◌, ◌≤◌, ◌^◌, drop}
use Rattle.book_rows.specs.Amounts.{cents_from}
use Rattle.book_rows.proofs.amounts.cents.Given as goal

abbrev pub invariant-loop-i : goal.invariant-loop-i
invariant-loop-i l = record {
  rest : cents_from l.whole l.i (drop l.i l.text) ≡ cents_from 0 0 l.text;
  few : l.i ≤ 13;
  small : l.whole < 10 ^ l.i;
}
