use Rattle.std.proofs.Common.{rules, ◌≡◌, refl, inl, inr, sym, subst, ◌∙◌, true≢false}
use Rattle.sqlite_keeper.specs.Tables.{IsOurs}
use Rattle.sqlite_keeper.specs.Adopting.{version_one, version_two}
use Rattle.sqlite_keeper.proofs.Results.{if_ok, if_err, if_and, if_and_err}
use Rattle.sqlite_keeper.proofs.AdoptLemmas.{words, read_stands, may_move, may_make, version_found, two_taken, shut_taken, read_back, moved_taken, made_taken, moved_back, made_back}
use Rattle.sqlite_keeper.proofs.keeper.SqliteKeeper.adopt.Goals as goal

pub over-requires : goal.over-requires
over-requires g c known clean is_open =
    let mine = subst IsOurs c.schema.ensures.value (c.is_ours-has_tables.ensures.same known) in
    let told = c.try_version.ensures.told clean is_open in
    read_stands g.S.Store c.args.connection c.requires.idle (λ is_open. c.is_autocommit-settled.ensures.settled (search rules) is_open) c.schema.ensures.live c.requires.ordered c.try_version.new.conn c.try_version.ensures.clean mine clean told (c.try_version.ensures.rests clean (words g.S.Store c.args.connection c.requires.idle (λ is_open. c.is_autocommit-settled.ensures.settled (search rules) is_open) c.schema.ensures.live c.requires.ordered (inl mine)) is_open)

pub returns-then-eq-clause-taken : goal.returns-then-eq-clause-taken
returns-then-eq-clause-taken g c =
    let is : c.in-Ok.found ≡ version_two = search (rules, c.if-eq.ensures) in
    rw c.over.ensures (two_taken g.S.Store c.args.connection c.try_version.new.conn c.requires.idle (λ is_open. c.is_autocommit-settled.ensures.settled (search rules) is_open) c.schema.ensures.live c.requires.ordered c.try_version.ensures.clean c.try_version.ensures.rests c.try_version.ensures.left (λ clean none. (c.try_version.ensures.blank clean none).0) _ (λ is. subst IsOurs c.schema.ensures.value (c.is_ours-has_tables.ensures.same is)) (λ mine. c.is_ours-has_tables.ensures.whole (subst IsOurs (sym c.schema.ensures.value) mine)) (λ version clean. version_found _ _ (c.in-Ok.ensures.version clean (words g.S.Store c.args.connection c.requires.idle (λ is_open. c.is_autocommit-settled.ensures.settled (search rules) is_open) c.schema.ensures.live c.requires.ordered version)) version_two is (λ e. let never = e in cc))
    (λ none clean. (c.in-Ok.ensures.blank clean none).1) c.try_version.ensures.told (λ version clean. c.in-Ok.ensures.known clean (words g.S.Store c.args.connection c.requires.idle (λ is_open. c.is_autocommit-settled.ensures.settled (search rules) is_open) c.schema.ensures.live c.requires.ordered version)) (λ db is_open there. g.met.S.Store.settled c.try_version.new.conn.store db is_open there))

pub returns-then-ne-clause-back : goal.returns-then-ne-clause-back
returns-then-ne-clause-back g c =
    let not_two : c.in-Ok.found ≡ version_two → ⊥ = λ e. true≢false (sym (rw (c.as_str.ensures, e) at c.if-eq.ensures)) in
    let not_one : c.in-Ok.found ≡ version_one → ⊥ = λ e. true≢false (rw (c.as_str-in-Ok.ensures, e) at c.if-ne.ensures) in
    read_back g.S.Store c.args.connection c.try_version.new.conn c.requires.idle (λ is_open. c.is_autocommit-settled.ensures.settled (search rules) is_open) c.schema.ensures.live c.requires.ordered c.try_version.ensures.clean c.try_version.ensures.rests c.try_version.ensures.left (λ clean none. (c.try_version.ensures.blank clean none).0) _ (c.try_version.ensures.idle c.requires.idle)
    (λ version clean. let v = c.in-Ok.ensures.version clean (words g.S.Store c.args.connection c.requires.idle (λ is_open. c.is_autocommit-settled.ensures.settled (search rules) is_open) c.schema.ensures.live c.requires.ordered version) in (v.not_one not_one, v.not_two not_two, v.is))
    (λ none clean. absurd (c.in-Ok.ensures.blank clean none).1) (λ other version clean. c.try_version.ensures.told clean (c.in-Ok.ensures.known clean (words g.S.Store c.args.connection c.requires.idle (λ is_open. c.is_autocommit-settled.ensures.settled (search rules) is_open) c.schema.ensures.live c.requires.ordered version))) (λ e is. let never = is in cc)

pub returns-then-has_tables-clause-taken : goal.returns-then-has_tables-clause-taken
returns-then-has_tables-clause-taken g c =
    let is : c.in-Ok.found ≡ version_one = search (rules, c.if-ne.ensures) in
    rw c.shut.ensures (shut_taken g.S.Store c.args.connection c.try_version.new.conn c.requires.idle (λ is_open. c.is_autocommit-settled.ensures.settled (search rules) is_open) c.schema.ensures.live c.requires.ordered c.try_version.ensures.clean c.try_version.ensures.rests c.try_version.ensures.left (λ clean none. (c.try_version.ensures.blank clean none).0) (inl (inl (subst IsOurs c.schema.ensures.value (c.if-has_tables.ensures.same refl)))) (λ keep is_open clean. elim keep [
      | inl version ↦ absurd (version.1 (version_found _ _ (c.in-Ok.ensures.version clean (words g.S.Store c.args.connection c.requires.idle (λ is_open. c.is_autocommit-settled.ensures.settled (search rules) is_open) c.schema.ensures.live c.requires.ordered version.0)) version_one is (λ e. let never = e in cc)))
      | inr none ↦ absurd (c.in-Ok.ensures.blank clean none).1
    ]))

pub begin-requires-clause-known : goal.begin-requires-clause-known
begin-requires-clause-known g c known =
    let first = sym c.schema-2.ensures.value ∙ c.is_first-is_before.ensures.same known in
    (_, may_move g.S.Store c.args.connection c.requires.idle (λ is_open. c.is_autocommit-settled.ensures.settled (search rules) is_open) c.schema.ensures.live c.requires.ordered c.try_version.new.conn c.try_version.ensures.clean first c.try_version.ensures.told (λ clean. c.try_version.ensures.rests clean (words g.S.Store c.args.connection c.requires.idle (λ is_open. c.is_autocommit-settled.ensures.settled (search rules) is_open) c.schema.ensures.live c.requires.ordered (inr first))))

pub returns-else-has_tables-clause-taken : goal.returns-else-has_tables-clause-taken
returns-else-has_tables-clause-taken g c =
    let is : c.in-Ok.found ≡ version_one = search (rules, c.if-ne.ensures) in
    let b = c.begin.ensures in
    if_ok c.begin.result (λ k p. moved_taken g.S.Store c.args.connection c.try_version.new.conn c.requires.idle (λ is_open. c.is_autocommit-settled.ensures.settled (search rules) is_open) c.schema.ensures.live c.requires.ordered c.try_version.ensures.clean c.try_version.ensures.rests c.try_version.ensures.left (λ clean none. (c.try_version.ensures.blank clean none).0) k c.try_version.ensures.told (λ version clean. version_found _ _ (c.in-Ok.ensures.version clean (words g.S.Store c.args.connection c.requires.idle (λ is_open. c.is_autocommit-settled.ensures.settled (search rules) is_open) c.schema.ensures.live c.requires.ordered version)) version_one is (λ e. let never = e in cc)) (λ mine. absurd (let t = c.if-has_tables.ensures.whole (subst IsOurs (sym c.schema.ensures.value) mine) in cc))
    (λ none clean. (c.in-Ok.ensures.blank clean none).1) _ (λ first. c.is_first-is_before.ensures.whole (c.schema-2.ensures.value ∙ first)) (λ is. sym c.schema-2.ensures.value ∙ c.is_first-is_before.ensures.same is) p.0 p.1.0 p.1.1.0 p.1.1.1.0 p.1.1.1.1.0 p.1.1.1.1.1.0 p.1.1.1.1.1.1.0 p.1.1.1.1.1.1.1.0 p.1.1.1.1.1.1.1.1.0 p.1.1.1.1.1.1.1.1.1.0 (p.1.1.1.1.1.1.1.1.1.1 refl))
    (if_and _ _ _ b.count (if_and _ _ _ b.made (if_and _ _ _ b.alone (if_and _ _ _ b.ours (if_and _ _ _ b.shut_ours (if_and _ _ _ b.known (if_and _ _ _ b.shut (if_and _ _ _ b.opened (if_and _ _ _ b.left (if_and _ _ _ b.ok_clean b.emptied))))))))))

pub returns-else-has_tables-clause-back : goal.returns-else-has_tables-clause-back
returns-else-has_tables-clause-back g c =
    let b = c.begin.ensures in
    if_err c.begin.result (λ u p. moved_back g.S.Store c.args.connection c.try_version.new.conn c.requires.idle (λ is_open. c.is_autocommit-settled.ensures.settled (search rules) is_open) c.schema.ensures.live c.requires.ordered c.try_version.ensures.clean c.try_version.ensures.rests c.try_version.ensures.left (λ clean none. (c.try_version.ensures.blank clean none).0) u.fault u.connection _ p.0 p.1.0 p.1.1.0 (λ first. c.is_first-is_before.ensures.whole (c.schema-2.ensures.value ∙ first)) c.try_version.ensures.told (λ mine. absurd (let t = c.if-has_tables.ensures.whole (subst IsOurs (sym c.schema.ensures.value) mine) in cc)) (λ none clean. (c.in-Ok.ensures.blank clean none).1) p.1.1.1.0 p.1.1.1.1.0 p.1.1.1.1.1)
    (if_and_err _ _ _ b.fault (if_and_err _ _ _ b.idle (if_and_err _ _ _ b.clean (if_and_err _ _ _ b.left_back (if_and_err _ _ _ b.same b.told)))))

pub returns-then-is_memory-clause-back : goal.returns-then-is_memory-clause-back
returns-then-is_memory-clause-back g c =
    read_back g.S.Store c.args.connection c.try_version.new.conn c.requires.idle (λ is_open. c.is_autocommit-settled.ensures.settled (search rules) is_open) c.schema.ensures.live c.requires.ordered c.try_version.ensures.clean c.try_version.ensures.rests c.try_version.ensures.left (λ clean none. (c.try_version.ensures.blank clean none).0) _ (c.try_version.ensures.idle c.requires.idle) (λ version clean. tt) (λ none clean. refl) (λ other. absurd (other refl)) (λ e is. let never = is in cc)

pub returns-then-has_tables-2-clause-taken : goal.returns-then-has_tables-2-clause-taken
returns-then-has_tables-2-clause-taken g c =
    let mine = subst IsOurs c.schema.ensures.value (c.if-has_tables-2.ensures.same refl) in
    rw c.shut-then-has_tables-2.ensures (shut_taken g.S.Store c.args.connection c.try_version.new.conn c.requires.idle (λ is_open. c.is_autocommit-settled.ensures.settled (search rules) is_open) c.schema.ensures.live c.requires.ordered c.try_version.ensures.clean c.try_version.ensures.rests c.try_version.ensures.left (λ clean none. (c.try_version.ensures.blank clean none).0) (inl (inl mine)) (λ keep is_open clean. elim (c.in-Err.ensures.reason clean (words g.S.Store c.args.connection c.requires.idle (λ is_open. c.is_autocommit-settled.ensures.settled (search rules) is_open) c.schema.ensures.live c.requires.ordered (inl mine)) is_open) [
      | inl memory ↦ absurd (true≢false (sym (c.if-is_memory.ensures.1 memory)))
      | inr has ↦ has
    ]))

pub returns-then-is_before-clause-taken : goal.returns-then-is_before-clause-taken
returns-then-is_before-clause-taken g c =
    let first = sym c.schema-2.ensures.value ∙ c.if-is_before.ensures.same refl in
    rw c.shut-then-is_before.ensures (shut_taken g.S.Store c.args.connection c.try_version.new.conn c.requires.idle (λ is_open. c.is_autocommit-settled.ensures.settled (search rules) is_open) c.schema.ensures.live c.requires.ordered c.try_version.ensures.clean c.try_version.ensures.rests c.try_version.ensures.left (λ clean none. (c.try_version.ensures.blank clean none).0) (inl (inr first)) (λ keep is_open clean. elim (c.in-Err.ensures.reason clean (words g.S.Store c.args.connection c.requires.idle (λ is_open. c.is_autocommit-settled.ensures.settled (search rules) is_open) c.schema.ensures.live c.requires.ordered (inr first)) is_open) [
      | inl memory ↦ absurd (true≢false (sym (c.if-is_memory.ensures.1 memory)))
      | inr has ↦ has
    ]))

pub begin-requires-in-Err-clause-known : goal.begin-requires-in-Err-clause-known
begin-requires-in-Err-clause-known g c known =
    let none = sym c.schema-3.ensures.value ∙ c.is_blank-is_new.ensures.same known in
    (_, may_make g.S.Store c.args.connection c.requires.idle (λ is_open. c.is_autocommit-settled.ensures.settled (search rules) is_open) c.schema.ensures.live c.requires.ordered c.try_version.new.conn c.try_version.ensures.clean none (λ clean. (c.try_version.ensures.blank clean none).0))

pub returns-else-is_before-clause-taken : goal.returns-else-is_before-clause-taken
returns-else-is_before-clause-taken g c =
    let b = c.begin-in-Err.ensures in
    if_ok c.begin-in-Err.result (λ k p. made_taken g.S.Store c.args.connection c.try_version.new.conn c.requires.idle (λ is_open. c.is_autocommit-settled.ensures.settled (search rules) is_open) c.schema.ensures.live c.requires.ordered c.try_version.ensures.clean c.try_version.ensures.rests c.try_version.ensures.left (λ clean none. (c.try_version.ensures.blank clean none).0) k (λ version. elim version [ inl mine ↦ absurd (let t = c.if-has_tables-2.ensures.whole (subst IsOurs (sym c.schema.ensures.value) mine) in cc) | inr first ↦ absurd (let t = c.if-is_before.ensures.whole (c.schema-2.ensures.value ∙ first) in cc) ]) _ (λ none. c.is_blank-is_new.ensures.whole (c.schema-3.ensures.value ∙ none)) (λ is. sym c.schema-3.ensures.value ∙ c.is_blank-is_new.ensures.same is) p.0 p.1.0 p.1.1.0 p.1.1.1.0 p.1.1.1.1.0 p.1.1.1.1.1.0 p.1.1.1.1.1.1.0 (λ shut. p.1.1.1.1.1.1.1.0 shut refl) p.1.1.1.1.1.1.1.1.0 p.1.1.1.1.1.1.1.1.1.0 p.1.1.1.1.1.1.1.1.1.1.0 p.1.1.1.1.1.1.1.1.1.1.1)
    (if_and _ _ _ b.count (if_and _ _ _ b.made (if_and _ _ _ b.alone (if_and _ _ _ b.ours (if_and _ _ _ b.shut_ours (if_and _ _ _ b.known (if_and _ _ _ b.shut (if_and _ _ _ b.reason (if_and _ _ _ b.opened (if_and _ _ _ b.counts (if_and _ _ _ b.left b.ok_clean)))))))))))

pub returns-else-is_before-clause-back : goal.returns-else-is_before-clause-back
returns-else-is_before-clause-back g c =
    let b = c.begin-in-Err.ensures in
    if_err c.begin-in-Err.result (λ u p. made_back g.S.Store c.args.connection c.try_version.new.conn c.requires.idle (λ is_open. c.is_autocommit-settled.ensures.settled (search rules) is_open) c.schema.ensures.live c.requires.ordered c.try_version.ensures.clean c.try_version.ensures.rests c.try_version.ensures.left (λ clean none. (c.try_version.ensures.blank clean none).0) u.fault u.connection _ p.0 p.1.0 p.1.1.0 (λ none. c.is_blank-is_new.ensures.whole (c.schema-3.ensures.value ∙ none)) (λ version. elim version [ inl mine ↦ absurd (let t = c.if-has_tables-2.ensures.whole (subst IsOurs (sym c.schema.ensures.value) mine) in cc) | inr first ↦ absurd (let t = c.if-is_before.ensures.whole (c.schema-2.ensures.value ∙ first) in cc) ]) p.1.1.1.0 p.1.1.1.1.0 p.1.1.1.1.1)
    (if_and_err _ _ _ b.fault (if_and_err _ _ _ b.idle (if_and_err _ _ _ b.clean (if_and_err _ _ _ b.left_back (if_and_err _ _ _ b.same b.told)))))
