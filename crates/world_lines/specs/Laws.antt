-- When two sets of messages have the same lines.
use Rattle.std.specs.Prelude.{◌≡◌, ◌↔◌, List, true}
use Rattle.field_merge.specs.declared.message.Message.{Message}
use Rattle.field_merge.specs.Messages.{AreMessages}
use Rattle.world_lines.specs.Session.{have_same_lines}

-- exactly where they are the same messages
abbrev pub SameLinesAreSameMessages : Type 0
SameLinesAreSameMessages = (ms ns : List Message) → AreMessages ms → AreMessages ns → (have_same_lines ms ns ≡ true) ↔ (ms ≡ ns)
