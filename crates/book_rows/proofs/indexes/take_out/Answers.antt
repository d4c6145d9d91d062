use Rattle.std.proofs.Common.{false, ap, ◌∙◌}
use Rattle.std.specs.Ordering.{eq_by_cmp}
use Rattle.finite_sums.specs.Maps.{text_cmp}
use Rattle.book_rows.specs.Parts.{is_text}
use Rattle.book_rows.specs.Book.{holds}
use Rattle.book_rows.proofs.Pairs.{taken_out, stays}
use Rattle.book_rows.proofs.indexes.take_out.Goals as goal

pub returns-in-Some : goal.returns-in-Some
returns-in-Some c = taken_out c.args.id.now (holds c.args.index.now) (holds c.remove.new.index) (λ k. eq_by_cmp text_cmp c.in-Some.key k) (λ k. c.requires k ∙ ap (is_text k) c.in-Some.is) c.remove.ensures

pub returns-in_default : goal.returns-in_default
returns-in_default c = stays c.args.id.now (holds c.args.index.now) (λ k. false) (λ k. c.requires k ∙ ap (is_text k) c.in_default.is)
