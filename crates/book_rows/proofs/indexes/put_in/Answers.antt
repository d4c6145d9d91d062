use Rattle.std.proofs.Common.{ap, sym, ◌∙◌, if◌then◌else◌}
use Rattle.std.specs.Ordering.{eq_by_cmp}
use Rattle.finite_sums.specs.Maps.{text_cmp}
use Rattle.book_rows.specs.Parts.{is_text}
use Rattle.book_rows.specs.Book.{holds}
use Rattle.book_rows.proofs.Pairs.{put_in, stays, on_ok}
use Rattle.book_rows.proofs.indexes.put_in.Goals as goal

pub returns-in-None : goal.returns-in-None
returns-in-None c = stays c.args.id.now (holds c.args.index.now) (λ k. is_text k c.args.key.now) (λ k. c.requires k ∙ sym (ap (is_text k) c.in-None.is))

pub returns-in-Some : goal.returns-in-Some
returns-in-Some c = on_ok c.add.result (λ e k q.
    put_in c.args.id.now (holds c.args.index.now) (holds c.add.new.index) (λ k. eq_by_cmp text_cmp c.in-Some.key k) c.requires e k q
    ∙ ap (λ o. if eq_by_cmp text_cmp q c.args.id.now then is_text k o else holds c.args.index.now k q) (sym c.in-Some.is)) c.add.ensures
