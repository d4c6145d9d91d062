use Rattle.std.proofs.Common.{[], ◌∷◌, Ok, Err, inl, inr, ap, sym, ◌∙◌}
use Rattle.sqlite.specs.State.{Executes, Survives, CommitsBy}
use Rattle.sqlite.specs.Held.{state}
use Rattle.sqlite.specs.Effect.{Database}
use Rattle.sqlite_value.specs.declared.value.Value.TheVariants.{Text}
use Rattle.store_tables.specs.Named.{put_text}
use Rattle.store_tables.specs.Known.{named_in}
use Rattle.store_tables.proofs.KnownTables.{known}
use Rattle.sqlite_keeper.specs.Contents.{contents_of}
use Rattle.sqlite_keeper.proofs.Calls.{put_done, put_left, execute_err, stands_still, on_err}
use Rattle.sqlite_keeper.proofs.Kept.{turned_kept}
use Rattle.sqlite_keeper.proofs.writing.put.Goals as goal

pub returns-clause-done : goal.returns-clause-done
returns-clause-done g c clean was =
    let old = state g.S.Store c.args.conn.now in
    let new = state g.S.Store c.execute.new.self in
    let t = was.kept.0 in
    let kept = was.kept.1 in
    let k = known t kept.second in
    let ran : Executes put_text (Text c.args.name.now ∷ Text c.args.text.now ∷ []) old new (Ok c.in_ok-execute.field-0) = rw (c.params-to_sql.ensures, c.params-to_sql-2.ensures) at (c.in_ok-execute.ensures.runs clean) in
    let it = put_done (named_in t) k.named k.named_texts old new c.args.name.now c.args.text.now kept.schema kept.sound kept.named c.in_ok-execute.field-0 ran in
    let after = turned_kept t old.now new.now c.args.name.now c.args.text.now kept it.schema it.sound it.turned in
    (record { rests = record { clean = clean; is_open = it.is_open; autocommit = it.mode ∙ was.rests.autocommit; settled = sym (it.settled was.rests.autocommit) }; kept = (t, after.0) }, after.1)

pub returns-clause-left : goal.returns-clause-left
returns-clause-left g c clean was k left =
    let old = state g.S.Store c.args.conn.now in
    let new = state g.S.Store c.execute.new.self in
    let t = was.kept.0 in
    let kept = was.kept.1 in
    let all = known t kept.second in
    let survives : Survives old new (CommitsBy put_text (Text c.args.name.now ∷ Text c.args.text.now ∷ []) old) = rw (c.params-to_sql.ensures, c.params-to_sql-2.ensures) at c.execute.ensures.survives in
    elim (put_left (named_in t) all.named all.named_texts old new c.args.name.now c.args.text.now kept.schema kept.sound kept.named survives clean left.0 left.1) [
      | inl was ↦ inl (left.0, was, left.2)
      | inr it ↦ inr (left.2 ∙ ap contents_of it.4 ∙ (turned_kept t old.now it.0 c.args.name.now c.args.text.now kept it.1 it.2 it.3).1)
    ]

pub returns-in_err-execute-clause-left : goal.returns-in_err-execute-clause-left
returns-in_err-execute-clause-left g c clean was k left =
    let old = state g.S.Store c.args.conn.now in
    let new = state g.S.Store c.execute.new.self in
    let t = was.kept.0 in
    let kept = was.kept.1 in
    let all = known t kept.second in
    let survives : Survives old new (CommitsBy put_text (Text c.args.name.now ∷ Text c.args.text.now ∷ []) old) = rw (c.params-to_sql.ensures, c.params-to_sql-2.ensures) at c.execute.ensures.survives in
    elim (put_left (named_in t) all.named all.named_texts old new c.args.name.now c.args.text.now kept.schema kept.sound kept.named survives clean left.0 left.1) [
      | inl was ↦ inl (left.0, was, left.2)
      | inr it ↦ inr (left.2 ∙ ap contents_of it.4 ∙ (turned_kept t old.now it.0 c.args.name.now c.args.text.now kept it.1 it.2 it.3).1)
    ]

pub returns-clause-alone : goal.returns-clause-alone
returns-clause-alone g c clean was =
    let old = state g.S.Store c.args.conn.now in
    let new = state g.S.Store c.execute.new.self in
    let t = was.kept.0 in
    let kept = was.kept.1 in
    let all = known t kept.second in
    let ran : Executes put_text (Text c.args.name.now ∷ Text c.args.text.now ∷ []) old new (Ok c.in_ok-execute.field-0) = rw (c.params-to_sql.ensures, c.params-to_sql-2.ensures) at (c.in_ok-execute.ensures.runs clean) in
    let it = put_done (named_in t) all.named all.named_texts old new c.args.name.now c.args.text.now kept.schema kept.sound kept.named c.in_ok-execute.field-0 ran in
    record { only = λ k left. left.2 ∙ ap contents_of (g.met.S.Store.settled c.execute.new.self.store left.0 it.is_open left.1 ∙ ap (λ (d : Database). d.trees) (it.settled was.rests.autocommit)) }

pub returns-in_err-execute-clause-failed : goal.returns-in_err-execute-clause-failed
returns-in_err-execute-clause-failed g c clean was is_open =
    let old = state g.S.Store c.args.conn.now in
    let new = state g.S.Store c.execute.new.self in
    let ran : Executes put_text (Text c.args.name.now ∷ Text c.args.text.now ∷ []) old new (Err c.in_err-execute.field-0.0) = rw (c.params-to_sql.ensures, c.params-to_sql-2.ensures) at (c.in_err-execute.ensures.runs clean) in
    on_err _ _ (stands_still g.S.Store c.args.conn.now c.execute.new.self was clean is_open (execute_err put_text _ old new c.in_err-execute.field-0.0 ran))
