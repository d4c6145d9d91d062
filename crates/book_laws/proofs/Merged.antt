-- Payees that become another one.
use Rattle.std.proofs.Common.{◌≡◌, Bool, true, false, cond, List, [], ◌∷◌, Option, Some, Ok, refl, ap, sym, subst, ◌∙◌}
use Rattle.std.specs.Prelude.{◌≢◌, ◌||◌, not, unwrap_or, map as list_map, flat_map}
use Rattle.std.specs.List.{AllByRecursion}
use Rattle.std.specs.Option.{option_map}
use Rattle.std.specs.FinMap.{get, insert}
use Rattle.field_values.specs.declared.value.Value.TheVariants.{Text as IsText}
use Rattle.finite_sums.specs.Maps.{Text, Texts, text_cmp, some_and, is_among}
use Rattle.book_rows.specs.declared.column.Dataset.TheVariants.{Payees, PayeeMapping}
use Rattle.book_rows.specs.declared.column.Column.TheVariants as of
use Rattle.book_rows.specs.declared.rows.Rows.{Rows}
use Rattle.book_rows.specs.declared.rows.PayeeRow.{PayeeRow}
use Rattle.book_rows.specs.declared.rows.PayeeMappingRow.{PayeeMappingRow}
use Rattle.book_rows.specs.declared.rows.TxRow.{TxRow}
use Rattle.book_rows.specs.declared.write.RowName.TheVariants.{Given}
use Rattle.book_rows.specs.declared.write.WriteValue.TheVariants.{Plain}
use Rattle.book_rows.specs.declared.write.Write.{Write}
use Rattle.book_rows.specs.declared.fault.EditFault.TheVariants.{NoSuchPayee, SameAccount}
use Rattle.book_rows.specs.Live.{is_live_payee, mapped, payee_of}
use Rattle.book_rows.specs.Rules.{payee_table, payee_mapping_table}
use Rattle.book_rows.specs.Tables.{blank_row}
use Rattle.book_edits.specs.Faults.{each}
use Rattle.book_edits.specs.Checks.{same_id, distinct, two_ids, live_payee, no_transfer}
use Rattle.book_edits.specs.Writing.{flag}
use Rattle.book_edits.specs.Accounts.{payee_deletion}
use Rattle.book_edits.specs.Mappings.{mapped_to, payee_mapped, payees_mapped, payee_merged}
use Rattle.book_edits.proofs.Valid.{inside, passed, was_so, each_was}
use Rattle.edit_history.proofs.Listing.{map_plus}
use Rattle.split_transfer.specs.After.{Ids, with_writes}
use Rattle.split_transfer.proofs.After.{with_writes-append}
use Rattle.split_transfer.proofs.Basics.{bool_cases, true_false, not_true}
use Rattle.book_laws.specs.Merging.{AreMerged, PayeesAreMerged}
use Rattle.book_laws.proofs.Done.{cell}
use Rattle.book_laws.proofs.Each.{each_changed, each-append, get-each, among-distinct, in_flat, of_flat}
use Rattle.book_laws.proofs.Handed.{those_of, itself_in, mapped_in, in_which, column_aimed, column_as_before, aimed, as_before, resolved}

abbrev target : PayeeMappingRow → Option Text
target m = m.target_id

abbrev blank : Text → PayeeMappingRow
blank id = blank_row payee_mapping_table id

abbrev aim : Text → PayeeMappingRow → PayeeMappingRow
aim to m = record m { target_id = Some to }

abbrev none_there : Text → PayeeRow
none_there id = blank_row payee_table id

abbrev dead : PayeeRow → PayeeRow
dead p = record p { tombstone = true }

-- ---- the rows after the writes

module _ (ids : Ids) where
  targets_set : (to : Text) (ks : List Text) (s : Rows) → with_writes ids s (list_map (payee_mapped to) ks) ≡ record s { payee_mappings = each_changed blank (aim to) ks s.payee_mappings }
  targets_set to [] s = refl
  targets_set to (k ∷ ks) s =
      let t : Rows = record s { payee_mappings = insert s.payee_mappings k (aim to (unwrap_or (get s.payee_mappings k) (blank k))) } in
      ap (λ (x : Rows). with_writes ids x (list_map (payee_mapped to) ks)) (cell ids s PayeeMapping (Given k) of.TargetId (Plain (IsText to))) ∙ targets_set to ks t

  module _ (rows : Rows) (to : Text) where
    abbrev those : Text → List Text
    those id = those_of target rows.payee_mappings id

    one_merged : (id : Text) (s : Rows) → with_writes ids s (payee_merged rows to id)
        ≡ record s { payee_mappings = each_changed blank (aim to) (those id) s.payee_mappings; payees = each_changed none_there dead (id ∷ []) s.payees }
    one_merged id s =
        let ks = mapped_to target rows.payee_mappings id in
        let t : Rows = record s { payee_mappings = each_changed blank (aim to) (those id) s.payee_mappings } in
        with_writes-append ids s (payees_mapped rows to id) (payee_deletion id ∷ [])
        ∙ ap (λ (ws : List Write). with_writes ids (with_writes ids s ws) (payee_deletion id ∷ [])) (sym (map_plus (payee_mapped to) ks (id ∷ [])))
        ∙ ap (λ (x : Rows). with_writes ids x (payee_deletion id ∷ [])) (targets_set to (those id) s)
        ∙ cell ids t Payees (Given id) of.Tombstone (Plain (flag true))

    all_merged : (ds : List Text) (s : Rows) → with_writes ids s (flat_map (payee_merged rows to) ds)
        ≡ record s { payee_mappings = each_changed blank (aim to) (flat_map those ds) s.payee_mappings; payees = each_changed none_there dead ds s.payees }
    all_merged [] s = refl
    all_merged (d ∷ ds) s =
        let t : Rows = record s { payee_mappings = each_changed blank (aim to) (those d) s.payee_mappings; payees = each_changed none_there dead (d ∷ []) s.payees } in
        with_writes-append ids s (payee_merged rows to d) (flat_map (payee_merged rows to) ds)
        ∙ ap (λ (x : Rows). with_writes ids x (flat_map (payee_merged rows to) ds)) (one_merged d s)
        ∙ all_merged ds t
        ∙ ap (λ (m : Texts PayeeMappingRow). record s { payee_mappings = m; payees = each_changed none_there dead (d ∷ ds) s.payees }) (sym (each-append blank (aim to) (those d) (flat_map those ds) s.payee_mappings))

-- ---- what they say

not_listed : (to : Text) (ks : List Text) → AllByRecursion (λ k. two_ids to k ≡ Ok tt) ks → is_among text_cmp ks to ≡ false
not_listed to [] h = refl
not_listed to (k ∷ ks) h = ap (λ b. b || is_among text_cmp ks to) (not_true (same_id to k) (was_so (not (same_id to k)) (SameAccount to) tt h.0)) ∙ not_listed to ks h.1

module _ (rows : Rows) (to : Text) (these : List Text) (apart : is_among text_cmp these to ≡ false) (live : is_live_payee rows to ≡ true) where
  abbrev ks : List Text
  ks = flat_map (those_of target rows.payee_mappings) (distinct these)

  abbrev after : Rows
  after = record rows { payee_mappings = each_changed blank (aim to) ks rows.payee_mappings; payees = each_changed none_there dead (distinct these) rows.payees }

  listed : (p q : Text) → is_among text_cmp these p ≡ true → is_among text_cmp (those_of target rows.payee_mappings p) q ≡ true → is_among text_cmp ks q ≡ true
  listed p q a h = in_flat (those_of target rows.payee_mappings) (distinct these) p q (among-distinct these p ∙ a) h

  merged_so : (x : TxRow) (p : Text) → is_among text_cmp these p ≡ true → payee_of rows x ≡ Some p → payee_of after x ≡ Some to
  merged_so x p a h =
      let q = resolved target rows.payee_mappings x.description p h in
      column_aimed target rows.payee_mappings blank (aim to) (λ m. refl) to (λ m. refl) ks x.description q.0 q.1 (listed p q.0 a (mapped_in target rows.payee_mappings p q.0 q.2))

  named_so : (x : TxRow) (p : Text) → is_among text_cmp these p ≡ true → x.description ≡ Some p → payee_of after x ≡ Some to
  named_so x p a e = column_aimed target rows.payee_mappings blank (aim to) (λ m. refl) to (λ m. refl) ks x.description p e (listed p p a (itself_in target rows.payee_mappings p))

  others_so : (x : TxRow) → ((p : Text) → is_among text_cmp these p ≡ true → payee_of rows x ≢ Some p) → ((p : Text) → is_among text_cmp these p ≡ true → x.description ≢ Some p) → payee_of after x ≡ payee_of rows x
  others_so x not_of not_named = column_as_before target rows.payee_mappings blank (aim to) (λ m. refl) to (λ m. refl) ks x.description (λ q e.
      bool_cases (is_among text_cmp ks q)
      (λ t.
      let d = of_flat (those_of target rows.payee_mappings) (distinct these) q t in
      let a = sym (among-distinct these d.0) ∙ d.1 in
      in_which target rows.payee_mappings d.0 q d.2
      (λ same. absurd (not_named d.0 a (e ∙ ap (λ (t : Text). Some t) same)))
      (λ stands. absurd (not_of d.0 a (ap (option_map (mapped target rows.payee_mappings)) e ∙ ap (λ (t : Text). Some t) stands))))
      (λ f. f))

  none_so : (x : TxRow) (p : Text) → is_among text_cmp these p ≡ true → payee_of after x ≢ Some p
  none_so x p a h =
      let m = rows.payee_mappings in
      let q = resolved target (each_changed blank (aim to) ks m) x.description p h in
      bool_cases (is_among text_cmp ks q.0)
      (λ t.
      let same : to ≡ p = sym (aimed target m blank (aim to) (λ m. refl) to (λ m. refl) ks q.0 t) ∙ q.2 in
      true_false (is_among text_cmp these p) a (ap (is_among text_cmp these) (sym same) ∙ apart))
      (λ f.
      let was : mapped target m q.0 ≡ p = sym (as_before target m blank (aim to) (λ m. refl) to (λ m. refl) ks q.0 f) ∙ q.2 in
      true_false (is_among text_cmp ks q.0) (listed p q.0 a (mapped_in target m p q.0 was)) f)

  payee_then : (p : Text) → get after.payees p ≡ cond (is_among text_cmp these p) (Some (dead (unwrap_or (get rows.payees p) (none_there p)))) (get rows.payees p)
  payee_then p =
      get-each none_there dead (λ x. refl) (distinct these) rows.payees p
      ∙ ap (λ b. cond b (Some (dead (unwrap_or (get rows.payees p) (none_there p)))) (get rows.payees p)) (among-distinct these p)

  abbrev lives : Option PayeeRow → Bool
  lives o = some_and (λ p. not p.tombstone) o

  are_merged : AreMerged rows after to these
  are_merged = record {
    merged = merged_so;
    named = named_so;
    others = others_so;
    none = none_so;
    gone = λ p a. ap lives (payee_then p) ∙ ap (λ b. lives (cond b (Some (dead (unwrap_or (get rows.payees p) (none_there p)))) (get rows.payees p))) a;
    kept = λ p f. payee_then p ∙ ap (λ b. cond b (Some (dead (unwrap_or (get rows.payees p) (none_there p)))) (get rows.payees p)) f;
    stays = ap lives (payee_then to) ∙ ap (λ b. lives (cond b (Some (dead (unwrap_or (get rows.payees to) (none_there to)))) (get rows.payees to))) apart ∙ live;
    elsewhere = refl;
  }

pub merged : PayeesAreMerged
merged ids rows to these ws h =
    let p = passed (live_payee rows to) _ _ h in
    let q = passed (each (live_payee rows) these) _ _ p.2 in
    let r = passed (each (two_ids to) these) _ _ q.2 in
    let s = passed (no_transfer rows to) _ _ r.2 in
    let t = passed (each (no_transfer rows) these) _ _ s.2 in
    let is : with_writes ids rows ws ≡ after rows to these (not_listed to these (each_was (two_ids to) these r.0 r.1)) (was_so (is_live_payee rows to) (NoSuchPayee to) p.0 p.1) =
    ap (with_writes ids rows) (sym (inside _ _ t.2)) ∙ all_merged ids rows to (distinct these) rows in
    subst (λ (x : Rows). AreMerged rows x to these) (sym is)
    (are_merged rows to these (not_listed to these (each_was (two_ids to) these r.0 r.1)) (was_so (is_live_payee rows to) (NoSuchPayee to) p.0 p.1))
