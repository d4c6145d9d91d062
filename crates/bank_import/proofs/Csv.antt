-- The records of a text are those that its reader gives.
use Rattle.std.proofs.Common.{◌≡◌, ℕ, zero, suc, ◌+◌, ◌-◌, ◌<◌, ◌≤◌, Bool, true, false, cond, List, [], ◌∷◌, ◌++◌, length, Option, Some, None, refl, sym, ap, ◌∙◌, arith}
use Rattle.std.specs.Prelude.{unwrap_or}
use Rattle.csv.specs.declared.parser.Config.{Config}
use Rattle.csv.specs.declared.parser.State.{State}
use Rattle.csv.specs.declared.parser.State.TheVariants as st
use Rattle.csv.specs.Machine.{Read, step, next_record, is_end, ends_at_end, fields_after, field_after}
use Rattle.csv.specs.Reading.{Reached, AreRecords, records_next, records_from, records}

some_is : {A : Type 0} (x y : A) → Some x ≡ Some y → x ≡ y
some_is x y e = ap (λ o. unwrap_or o x) e

-- at the end of a text nothing is left
end_is : (b : Bool) (fs : List (List ℕ)) (f : List ℕ) (p : Read) → cond b (Some (fs ++ f ∷ [], st.StartRecord, [])) None ≡ Some p → (p.1 ≡ st.StartRecord) × (p.2 ≡ [])
end_is true fs f p h =
    let e : (fs ++ f ∷ [], st.StartRecord, []) ≡ p = some_is (fs ++ f ∷ [], st.StartRecord, []) p h in
    (sym (ap (λ (q : Read). q.1) e), sym (ap (λ (q : Read). q.2) e))
end_is false fs f p h = absurd (let bad : None ≡ Some p = h in cc)

at_end : (cfg : Config) (s : State) (fs : List (List ℕ)) (f : List ℕ) (p : Read) → next_record cfg s fs f [] ≡ Some p → (p.1 ≡ st.StartRecord) × (p.2 ≡ [])
unfolding next_record
at_end cfg s fs f p h = end_is (ends_at_end s) fs f p h

after_byte : (rest : List ℕ) (p q : Read) (more : Option Read) (b : Bool) → q.2 ≡ rest → (more ≡ Some p → length p.2 ≤ length rest - 1) → cond b (Some q) more ≡ Some p → length p.2 ≤ suc (length rest) - 1
after_byte rest p q more true is later e =
    let n = ap length (sym is ∙ ap (λ (r : Read). r.2) (some_is q p e)) in
    omega (arith, n)
after_byte rest p q more false is later e = let l = later e in omega (arith, l)

-- a record takes a byte at least
shorter : (cfg : Config) (xs : List ℕ) (s : State) (fs : List (List ℕ)) (f : List ℕ) (p : Read) → next_record cfg s fs f xs ≡ Some p → length p.2 ≤ length xs - 1
unfolding next_record
shorter cfg [] s fs f p h = let e = ap length (at_end cfg s fs f p h).1 in omega (arith, e)
shorter cfg (c ∷ rest) s fs f p h =
    after_byte rest p (fields_after (step cfg s c).1 fs f, (step cfg s c).0, rest)
    (next_record cfg (step cfg s c).0 (fields_after (step cfg s c).1 fs f) (field_after (step cfg s c).1 c f) rest) (is_end (step cfg s c).1) refl
    (shorter cfg rest (step cfg s c).0 (fields_after (step cfg s c).1 fs f) (field_after (step cfg s c).1 c f) p) h

-- behind the end of a text there is no record
none_behind : (cfg : Config) (s : State) (xs : List ℕ) (rows : List (List (List ℕ))) (s2 : State) (ys : List ℕ) → s ≡ st.StartRecord → xs ≡ [] → Reached cfg s xs rows s2 ys → rows ≡ []
unfolding Reached next_record
none_behind cfg s xs [] s2 ys e f h = refl
none_behind cfg s xs (r ∷ rows) s2 ys e f (p, read, is, more) =
    absurd (let bad : None ≡ Some p = sym (ap (λ t. next_record cfg t [] [] xs) e ∙ ap (next_record cfg st.StartRecord [] []) f) ∙ read in cc)

rest_all : (cfg : Config) (s : State) (p : Read) (rows : List (List (List ℕ))) (s2 : State) (ys : List ℕ) → Reached cfg p.1 p.2 rows s2 ys
    → ((m : ℕ) → length p.2 < m → records_from cfg m p.1 p.2 ≡ rows) → (xs : List ℕ) (n : ℕ) → length xs < suc n → next_record cfg s [] [] xs ≡ Some p → records_from cfg n p.1 p.2 ≡ rows
unfolding records_from
rest_all cfg s p rows s2 ys more later [] zero k e = sym (none_behind cfg p.1 p.2 rows s2 ys (at_end cfg s [] [] p e).0 (at_end cfg s [] [] p e).1 more)
rest_all cfg s p rows s2 ys more later [] (suc n) k e = let z = ap length (at_end cfg s [] [] p e).1 in later (suc n) (omega (arith, z))
rest_all cfg s p rows s2 ys more later (c ∷ xs) n k e = let z = shorter cfg (c ∷ xs) s [] [] p e in later n (omega (arith, z, k))

-- as many records as there are bytes, and one more, are all
all : (cfg : Config) (n : ℕ) (rows : List (List (List ℕ))) (s : State) (xs : List ℕ) (s2 : State) (ys : List ℕ) → length xs < n → Reached cfg s xs rows s2 ys → next_record cfg s2 [] [] ys ≡ None
    → records_from cfg n s xs ≡ rows
unfolding Reached records_from
all cfg zero rows s xs s2 ys l h none = absurd (omega (arith, l))
all cfg (suc n) [] s xs s2 ys l h none =
    ap (records_next (records_from cfg n)) (ap (λ t. next_record cfg t [] [] xs) h.0 ∙ ap (next_record cfg s2 [] []) h.1 ∙ none)
all cfg (suc n) (r ∷ rows) s xs s2 ys l (p, read, is, more) none =
    ap (records_next (records_from cfg n)) read ∙ ap (λ a. a ∷ records_from cfg n p.1 p.2) (sym is)
    ∙ ap (λ rest. r ∷ rest) (rest_all cfg s p rows s2 ys more (λ m k. all cfg m rows p.1 p.2 s2 ys k more none) xs n l read)

pub records_are : (cfg : Config) (xs : List ℕ) (rows : List (List (List ℕ))) → AreRecords cfg st.StartRecord xs rows → rows ≡ records cfg xs
records_are cfg xs rows h = sym (all cfg (length xs + 1) rows st.StartRecord xs h.0 h.1 (omega arith) h.2 h.3)
