use Rattle.std.proofs.Common.{◌≡◌, take}
use Rattle.field_values.proofs.items.Items.copy.Given as goal

-- the elements so far have been copied
abbrev pub invariant-loop-element : goal.invariant-loop-element
invariant-loop-element g l = l.elements.items ≡ take l.element-index l.element-items
