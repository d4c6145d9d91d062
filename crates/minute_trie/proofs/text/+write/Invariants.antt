use Rattle.std.proofs.Common.{◌+◌, ◌*◌}
use Rattle.minute_trie.proofs.text.+write.Given as goal

abbrev pub decreases-write_node : goal.decreases-write_node
decreases-write_node l = 3 * l.digits + 1

abbrev pub decreases-write_members : goal.decreases-write_members
decreases-write_members l = 3 * l.digits

abbrev pub decreases-write_child : goal.decreases-write_child
decreases-write_child l = 3 * l.digits + 2
