use Rattle.std.proofs.Common.{rules, ◌≡◌, [], ◌∷◌, map, subst, ◌∙◌, w64, to_z, of_z}
use Rattle.std.proofs.lemmas.Int.{to_z-of_z}
use Rattle.sqlite.specs.Held.{state}
use Rattle.sqlite.specs.State.{Shown}
use Rattle.sqlite_value.specs.declared.value.Value.TheVariants.{Int, Text}
use Rattle.budget_ports.specs.Contents.{records_after}
use Rattle.budget_ports.specs.Keeper.{Rise}
use Rattle.store_tables.specs.Texts.{since_text}
use Rattle.store_tables.specs.Since.{FindsGroup}
use Rattle.store_tables.proofs.WithinLemmas.{first_shown}
use Rattle.sqlite_keeper.specs.Contents.{Sound, contents_now}
use Rattle.sqlite_keeper.specs.Queries.{record_in}
use Rattle.sqlite_keeper.proofs.GetLemmas.{same_if_ok, if_text}
use Rattle.sqlite_keeper.proofs.Lists.{none_of}
use Rattle.sqlite_keeper.proofs.ReadLemmas.{may_since, stands_after, left_same, nobody_told, since_shown, since_told}
use Rattle.sqlite_keeper.proofs.reading.since_of.Goals as goal

pub returns-in_err-rows-in-len1-up-clause-sound : goal.returns-in_err-rows-in-len1-up-clause-sound
returns-in_err-rows-in-len1-up-clause-sound g c sound clean is_open =
    (stands_after g.S.Store c.args.conn.now c.ask.new.conn sound c.ask.ensures.clean (c.ask.ensures.told clean) (c.ask.ensures.rests clean (may_since g.S.Store c.args.conn.now sound)) clean is_open).0

pub returns-in_err-rows-in-len1-up-clause-same : goal.returns-in_err-rows-in-len1-up-clause-same
returns-in_err-rows-in-len1-up-clause-same g c clean sound is_open =
    (stands_after g.S.Store c.args.conn.now c.ask.new.conn sound c.ask.ensures.clean (c.ask.ensures.told clean) (c.ask.ensures.rests clean (may_since g.S.Store c.args.conn.now sound)) clean is_open).1

pub returns-in_err-rows-in-len1-up-clause-left : goal.returns-in_err-rows-in-len1-up-clause-left
returns-in_err-rows-in-len1-up-clause-left g c clean sound k left = left_same g.S.Store c.args.conn.now c.ask.new.conn k (c.ask.ensures.left clean (may_since g.S.Store c.args.conn.now sound)) left

pub returns-in_ok-rows-in-len1-up-clause-sound : goal.returns-in_ok-rows-in-len1-up-clause-sound
returns-in_ok-rows-in-len1-up-clause-sound g c sound clean is_open =
    (stands_after g.S.Store c.args.conn.now c.ask.new.conn sound c.ask.ensures.clean (c.ask.ensures.told clean) (c.ask.ensures.rests clean (may_since g.S.Store c.args.conn.now sound)) clean is_open).0

pub returns-in_ok-rows-in-len1-up-clause-same : goal.returns-in_ok-rows-in-len1-up-clause-same
returns-in_ok-rows-in-len1-up-clause-same g c clean sound is_open =
    (stands_after g.S.Store c.args.conn.now c.ask.new.conn sound c.ask.ensures.clean (c.ask.ensures.told clean) (c.ask.ensures.rests clean (may_since g.S.Store c.args.conn.now sound)) clean is_open).1

pub returns-in_ok-rows-in-len1-up-clause-left : goal.returns-in_ok-rows-in-len1-up-clause-left
returns-in_ok-rows-in-len1-up-clause-left g c clean sound k left = left_same g.S.Store c.args.conn.now c.ask.new.conn k (c.ask.ensures.left clean (may_since g.S.Store c.args.conn.now sound)) left

pub returns-in_ok-rows-in-len1-up-clause-known : goal.returns-in_ok-rows-in-len1-up-clause-known
returns-in_ok-rows-in-len1-up-clause-known g c clean stands =
    let sound : Sound g.S.Store c.args.conn.now = λ early is_open. stands in
    if_text c.records_in.result (c.in_ok-rows-in-len1-up.ensures.known clean (may_since g.S.Store c.args.conn.now sound))

pub returns-in-empty-clause-records : goal.returns-in-empty-clause-records
returns-in-empty-clause-records g c clean t group finds =
    let d = (state g.S.Store c.args.conn.now).now in
    let found = subst (FindsGroup (d.trees t.grps_tree) group) (none_of c.args.found.now c.in-empty.len_below) finds.found in
    c.new-in-empty.ensures ∙ c.new.ensures.items ∙ nobody_told t d finds.kept group c.args.after.now found

pub returns-in_ok-rows-in-len1-up-clause-records : goal.returns-in_ok-rows-in-len1-up-clause-records
returns-in_ok-rows-in-len1-up-clause-records g c clean t group finds =
    let old = state g.S.Store c.args.conn.now in
    let new = state g.S.Store c.ask.new.conn in
    let id = c.in_ok-id-in-len1-up.id in
    let of = first_shown c.args.found.now c.row-item.result id (old.now.trees t.grps_tree) group c.in-len1-up.len_at_least c.row-item.is c.in_ok-id-in-len1-up.ensures.ok.1 finds.found.sound in
    let sound : Sound g.S.Store c.args.conn.now = λ early is_open. record { rests = finds.rests; kept = (t, finds.kept) } in
    let h = c.in_ok-rows-in-len1-up.ensures.shown clean (may_since g.S.Store c.args.conn.now sound) in
    let rows = c.deref.result.now in
    let same : to_z w64 (of_z w64 id) ≡ id = to_z-of_z w64 id (search rules) in
    let shown : Shown since_text (Int (to_z w64 (of_z w64 id)) ∷ Text c.args.after.now ∷ []) old new rows = rw (c.deref.ensures.value) (rw (c.params-to_sql.ensures, c.params-to_sql-in-len1-up.ensures, c.as_str.ensures) at h.1) in
    same_if_ok c.records_in.result Rise (map record_in rows) (records_after (contents_now g.S.Store c.args.conn.now) group c.args.after.now) c.records_in.ensures.records c.records_in.ensures.rise
    (since_told t old.now finds.kept group c.args.after.now rows (since_shown t old new finds.kept id group c.args.after.now rows of (subst (λ n. Shown since_text (Int n ∷ Text c.args.after.now ∷ []) old new rows) same shown)))
