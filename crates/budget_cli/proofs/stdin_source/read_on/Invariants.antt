use Rattle.std.proofs.Common.{◌≡◌, length}
use Rattle.std.specs.Io.KnownBytes.{Keeps}
use Rattle.budget_cli.proofs.stdin_source.read_on.Given as goal

-- what is left to read stays as it was
abbrev pub invariant-tries : goal.invariant-tries
invariant-tries g l = (length l.buffer ≡ length l.fn.buffer) × Keeps (g.R.Read.remaining l.fn.reader) (g.R.Read.remaining l.reader)
