use Rattle.std.proofs.Common.{sym, ap, string_bytes}
use Rattle.std.proofs.lemmas.List.{append-nil}
use Rattle.minute_trie.specs.Json.{key_text, members_text}
use Rattle.minute_trie.proofs.Texts.{members, child_written}
use Rattle.minute_trie.proofs.text.+write.Goals as goal

pub write_members-returns-then-digits-eq0 : goal.write_members-returns-then-digits-eq0
unfolding members_text
write_members-returns-then-digits-eq0 t c = rw c.if-digits-eq0.true (sym (append-nil (string_bytes c.args.out.now)))

pub write_members-returns : goal.write_members-returns
write_members-returns t c =
    members c.args.digits c.args.node.now (string_bytes c.args.out.now) (string_bytes c.write_child.new.out) (string_bytes c.write_child-2.new.out) (string_bytes c.write_child-3.new.out)
    c.if-digits-eq0.false c.in_ok-write_child.ensures c.in_ok-write_child-2.ensures c.in_ok-write_child-3.ensures

pub write_child-returns-in_ok-push_str-in-Some : goal.write_child-returns-in_ok-push_str-in-Some
write_child-returns-in_ok-push_str-in-Some t c =
    child_written c.args.digits c.args.digit c.args.child.now c.in-Some.node c.deref.result.now (key_text c.name.result.now) (string_bytes c.args.out.now) (string_bytes c.write_key.new.out) (string_bytes c.write_node.new.out) (string_bytes c.push_str.new.self)
    c.in-Some.is c.deref.ensures (ap key_text c.name.ensures) c.in_ok-write_key-in-Some.ensures c.in_ok-write_node-in-Some.ensures c.in_ok-push_str-in-Some.ensures.bytes
