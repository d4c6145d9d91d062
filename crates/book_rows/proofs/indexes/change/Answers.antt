use Rattle.std.proofs.Common.{ap, sym, ◌∙◌}
use Rattle.book_rows.specs.Parts.{is_text}
use Rattle.book_rows.specs.Book.{holds}
use Rattle.book_rows.proofs.Pairs.{stays, none_left, moved, on_ok, same_option}
use Rattle.book_rows.proofs.indexes.change.Goals as goal

pub returns-then-eq : goal.returns-then-eq
returns-then-eq c =
    let same = same_option c.args.before.now c.args.after.now (sym c.eq.ensures ∙ c.if-eq.true) in
    stays c.args.id.now (holds c.args.index.now) (λ k. is_text k c.args.after.now) (λ k. c.requires k ∙ ap (is_text k) same)

pub put_in-requires : goal.put_in-requires
put_in-requires c = none_left c.args.id.now (holds c.args.index.now) (holds c.take_out.new.index) c.take_out.ensures

pub returns : goal.returns
returns c = on_ok c.put_in.result (λ e. moved c.args.id.now (holds c.args.index.now) (holds c.take_out.new.index) (holds c.put_in.new.index) (λ k. is_text k c.args.after.now) c.take_out.ensures e) c.put_in.ensures
