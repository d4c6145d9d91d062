-- Which payee of the book the record of a statement means.
use Rattle.std.proofs.Common.{◌≡◌, Bool, true, false, cond, Option, Some, None, Ok, Err, refl, sym, ap, ◌∙◌}
use Rattle.std.specs.Prelude.{◌↔◌, ◌||◌, is_some}
use Rattle.std.specs.Option.{option_map, option_and_then}
use Rattle.std.specs.FinMap.{get}
use Rattle.finite_sums.specs.Maps.{Text}
use Rattle.book_rows.specs.declared.rows.Rows.{Rows}
use Rattle.book_rows.specs.declared.rows.PayeeRow.{PayeeRow}
use Rattle.book_rows.specs.declared.fault.EditFault.TheVariants.{NameTaken}
use Rattle.book_rows.specs.Parts.{is_text}
use Rattle.book_edits.specs.Checks.{nobody}
use Rattle.book_edits.specs.Laws.{IsLeast}
use Rattle.book_edits.proofs.Told.{free_is, taken_is}
use Rattle.rule_engine.specs.Conditions.{folded}
use Rattle.bank_import.specs.declared.entry.Entry.{Entry}
use Rattle.bank_import.specs.Drafts.{is_called, payee_named, payee_of}
use Rattle.bank_import.proofs.Nearest.{id_same, id_itself}
use Rattle.kept_pairs.specs.Meant.{IsNamed, PayeesAreFound}

-- ---- a payee by its fields

record IsSo (dead : Bool) (account name : Option Text) (key : Text) : Type 0 where
  kept : dead ≡ false
  none : account ≡ None
  own : Text
  named : name ≡ Some own
  same : folded own ≡ key

is_so : (dead : Bool) (account name : Option Text) (key : Text) → is_text key (cond (dead || is_some account) None (option_map folded name)) ≡ true → IsSo dead account name key
is_so true account name key h = absurd (clash h)
  where
    clash : false ≡ true → ⊥
    clash h = cc
is_so false (Some a) name key h = absurd (clash h)
  where
    clash : false ≡ true → ⊥
    clash h = cc
is_so false None None key h = absurd (clash h)
  where
    clash : false ≡ true → ⊥
    clash h = cc
is_so false None (Some own) key h = record { kept = refl; none = refl; own = own; named = refl; same = id_same (folded own) key h }

so_is : (dead : Bool) (account name : Option Text) (key own : Text) → dead ≡ false → account ≡ None → name ≡ Some own → folded own ≡ key
    → is_text key (cond (dead || is_some account) None (option_map folded name)) ≡ true
so_is dead account name key own d a n s =
    ap (λ b. is_text key (cond (b || is_some account) None (option_map folded name))) d
    ∙ ap (λ (o : Option Text). is_text key (cond (is_some o) None (option_map folded name))) a
    ∙ ap (λ o. is_text key (option_map folded o)) n
    ∙ ap (λ t. is_text key (Some t)) s
    ∙ id_itself key

-- ---- what is told by what is free and taken

some_is : (x y : Text) → Some x ≡ Some y → x ≡ y
some_is x y h = cc

none_free : (o : Option Text) → (o ≡ None) ↔ (nobody o ≡ Ok tt)
none_free None = (λ h. refl, λ h. refl)
none_free (Some id) = (λ h. cc, λ h. cc)

some_taken : (o : Option Text) (id : Text) → (o ≡ Some id) ↔ (nobody o ≡ Err (NameTaken id))
some_taken None id = (λ h. cc, λ h. cc)
some_taken (Some k) id = (λ h. ap (λ t. Err (NameTaken t)) (some_is k id h), λ h. let same : k ≡ id = cc in ap Some same)

module _ (rows : Rows) where
  to : (name q : Text) → IsNamed rows name q → (p : PayeeRow) × (get rows.payees q ≡ Some p) × (is_called (folded name) p ≡ true)
  to name q n = (n.payee, n.there, so_is n.payee.tombstone n.payee.transfer_acct n.payee.name (folded name) n.own n.kept n.alone n.named n.same)

  from : (name q : Text) (p : PayeeRow) → get rows.payees q ≡ Some p → is_called (folded name) p ≡ true → IsNamed rows name q
  from name q p there h = let w = is_so p.tombstone p.transfer_acct p.name (folded name) h in record { payee = p; own = w.own; there = there; kept = w.kept; alone = w.none; named = w.named; same = w.same }

  named_found : (name id : Text) → (payee_named rows name ≡ Some id) ↔ IsLeast (IsNamed rows name) id
  named_found name id =
      let t = taken_is (is_called (folded name)) rows.payees (IsNamed rows name) (to name) (from name) id in
      (λ h. t.0 ((some_taken (payee_named rows name) id).0 h), λ l. (some_taken (payee_named rows name) id).1 (t.1 l))

  named_none : (name : Text) → (payee_named rows name ≡ None) ↔ ((id : Text) → IsNamed rows name id → ⊥)
  named_none name =
      let f = free_is (is_called (folded name)) rows.payees (IsNamed rows name) (to name) (from name) in
      (λ h. f.0 ((none_free (payee_named rows name)).0 h), λ n. (none_free (payee_named rows name)).1 (f.1 n))

  of_name : (e : Entry) (name : Text) → e.payee ≡ Some name → payee_of rows e ≡ payee_named rows name
  of_name e name h = ap (option_and_then (payee_named rows)) h

pub payees_are_found : (rows : Rows) (e : Entry) → PayeesAreFound rows e
payees_are_found rows e = record {
  found = λ name id h. (λ g. (named_found rows name id).0 (sym (of_name rows e name h) ∙ g), λ l. of_name rows e name h ∙ (named_found rows name id).1 l);
  none = λ name h. (λ g. (named_none rows name).0 (sym (of_name rows e name h) ∙ g), λ n. of_name rows e name h ∙ (named_none rows name).1 n);
  unnamed = λ h. ap (option_and_then (payee_named rows)) h;
}
