use Rattle.std.proofs.Common.{◌≡◌, ◌+◌, List, drop, map, ◌∙◌, subst}
use Rattle.csv.specs.Records.{AllText, fields_of}
use Rattle.finite_sums.specs.Maps.{Text}
use Rattle.book_edits.specs.Faults.{IsEditFault}
use Rattle.bank_import.specs.Statement.{read_record, read_records}
use Rattle.bank_import.proofs.Records.{rows_at, all_at, prepend, bad}
use Rattle.bank_import.proofs.reading.read_records.Goals as goal

pub fields-requires : goal.fields-requires
fields-requires c = all_at AllText fields_of c.args.rows.now c.loop-i.i c.index-rows-i.result c.loop-i-test.true c.index-rows-i.is c.requires

pub returns-in-Err-clause-err : goal.returns-in-Err-clause-err
returns-in-Err-clause-err c =
    let rows = map fields_of (drop (c.loop-i.i + 1) c.args.rows.now) in
    let found = c.loop-i.found.items in
    let whole = read_records c.args.columns.now c.args.width 1 (map fields_of c.args.rows.now) in
    let fs = fields_of c.index-rows-i.result in
    let same : c.as_slice.result.now ≡ fs = c.as_slice.ensures.value ∙ c.in_ok-fields.ensures in
    let inv = subst (λ (x : List (List Text)). prepend found (read_records c.args.columns.now c.args.width (c.loop-i.i + 1) x) ≡ whole)
    (rows_at fields_of c.args.rows.now c.loop-i.i c.index-rows-i.result c.loop-i-test.true c.index-rows-i.is) c.loop-i.invariant.rest in
    bad c.args.columns.now c.args.width (c.loop-i.i + 1) fs rows found whole c.in-Err.fault
    (subst (λ (x : List Text). IsEditFault (read_record c.args.columns.now c.args.width (c.loop-i.i + 1) x) c.in-Err.fault) same c.in-Err.ensures.err) inv
