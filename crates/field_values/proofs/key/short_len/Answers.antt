use Rattle.std.proofs.Common.{◌<◌, arith, refl}
use Rattle.field_values.specs.Heads.{IsShortLength}
use Rattle.field_values.proofs.key.short_len.Goals as goal

pub returns-then-bytes : goal.returns-then-bytes
unfolding IsShortLength
returns-then-bytes c = (λ few. refl, λ e. omega (arith, c, e))

pub returns-else-bytes : goal.returns-else-bytes
unfolding IsShortLength
returns-else-bytes c = (λ (few : 255 < 255). absurd (omega arith), λ e. omega (arith, c))
