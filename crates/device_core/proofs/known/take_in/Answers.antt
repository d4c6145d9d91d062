use Rattle.std.proofs.Common.{◌∙◌, cond, ap₂, sym, subst}
use Rattle.field_values.specs.declared.value.Value.{Value}
use Rattle.field_values.specs.Names.{FieldNames}
use Rattle.field_merge.specs.declared.message.Message.{Message}
use Rattle.field_merge.specs.Messages.{IsMessage, AreMessages}
use Rattle.book_rows.specs.Rows.{with_field}
use Rattle.kept_messages.proofs.Members.{all_one}
use Rattle.device_core.proofs.Books.{one_more}
use Rattle.device_core.proofs.known.take_in.Goals as goal

pub returns-clause-known : goal.returns-clause-known
returns-clause-known c =
    let old = c.args.known.now in
    let ms = old.log.messages in
    let m : Message = c.args.message in
    let entered = c.in_ok-entered in record {
      live = entered.ensures.live;
      valid = subst AreMessages (sym entered.ensures.joined) (all_one IsMessage ms m c.requires.valid c.requires.known.valid);
      trie_live = entered.ensures.trie_live;
      trie_right = entered.ensures.right;
      book_live = c.in_ok-set_if.ensures.live;
      book_right = one_more ms c.enter.new.log.messages m entered.entered.latest old.book.rows c.set_if.new.book.rows entered.ensures.latest c.requires.known.book_right
          (c.in_ok-set_if.ensures.rows ∙ ap₂ (λ (f : FieldNames) (v : Value). cond entered.entered.latest (with_field old.book.rows f v) old.book.rows) c.in_ok-field.ensures c.in_ok-value.ensures.value);
    }
