use Rattle.store_tables.proofs.WithinLemmas.{first_shown, if_ok}
use Rattle.store_tables.proofs.copying.first_id.Goals as goal

pub returns-in-len1-up : goal.returns-in-len1-up
returns-in-len1-up c = if_ok c.get.result (λ id read groups name shown. first_shown c.args.rows.now c.row-item.result id groups name c.in-len1-up.len_at_least c.row-item.is read.1 shown) c.get.ensures.ok
