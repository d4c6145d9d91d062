-- A list of objects is that of one schema.
use Rattle.std.proofs.Common.{map, true, false, true≢false, ◌≡◌, ℕ, zero, suc, ◌+◌, pos, List, [], ◌∷◌, filter, slice_get, Some, inl, inr, refl, sym, ap, subst, ◌∙◌, arith}
use Rattle.std.specs.Char.{to_ascii_lowercase}
use Rattle.std.specs.Ordering.{is_eq}
use Rattle.std.proofs.lemmas.Cmp.{tied_itself}
use Rattle.budget_ports.proofs.Places.{text_total}
use Rattle.sqlite_trees.specs.Tree.{IsAscending}
use Rattle.sqlite_schema.specs.Names.{same_name}
use Rattle.sqlite_rules.proofs.ListLemmas.{all_has}
use Rattle.std.specs.List.{AllZip}
use Rattle.sqlite_value.specs.declared.value.Value.{Value}
use Rattle.sqlite_value.specs.declared.value.Value.TheVariants.{Null, Int, Real, Text, Blob}
use Rattle.sqlite_value.specs.Order.{Row, column}
use Rattle.sqlite_trees.specs.Tree.{rowid}
use Rattle.sqlite_rules.specs.Lists.{Has}
use Rattle.sqlite.specs.Table.{Table}
use Rattle.sqlite_schema.specs.declared.schema.Index.{Index}
use Rattle.sqlite.specs.Schema.{Schema}
use Rattle.sqlite_catalog.specs.Listing.{AreListed, IsTableRow, IsIndexRow, IsViewRow, IsDefined, automatic, is_index_row, is_view_row}
use Rattle.sqlite_keeper.specs.Tables.{AreSingle, IsSingle, IsSimple, no_schema}

zip_same : {X Y : Type 0} (P : X → Y → Type 0) → ((x : X) (y z : Y) → P x y → P x z → y ≡ z) → (xs : List X) (ys zs : List Y) → AllZip P xs ys → AllZip P xs zs → ys ≡ zs
zip_same P same [] [] [] p q = refl
zip_same P same [] [] (z ∷ zs) p q = absurd q
zip_same P same [] (y ∷ ys) zs p q = absurd p
zip_same P same (x ∷ xs) [] zs p q = absurd p
zip_same P same (x ∷ xs) (y ∷ ys) [] p q = absurd q
zip_same P same (x ∷ xs) (y ∷ ys) (z ∷ zs) p q = λ i. same x y z p.0 q.0 i ∷ zip_same P same xs ys zs p.1 q.1 i

zip_none : {X Y : Type 0} (P Q : X → Y → Type 0) (xs : List X) (ys : List Y) → AllZip P xs [] → AllZip Q xs ys → ys ≡ []
zip_none P Q [] [] p q = refl
zip_none P Q [] (y ∷ ys) p q = absurd q
zip_none P Q (x ∷ xs) ys p q = absurd p

same_tree : (v : Value) (s t : ℕ) → v ≡ Int (pos (s + 1)) → v ≡ Int (pos (t + 1)) → s ≡ t
same_tree v s t p q =
    let e : Int (pos (s + 1)) ≡ Int (pos (t + 1)) = sym p ∙ q in
    let n : s + 1 ≡ t + 1 = cc in
    omega arith

same_words : (v : Value) (a b : List ℕ) → v ≡ Text a → v ≡ Text b → a ≡ b
same_words v a b p q = let e : Text a ≡ Text b = sym p ∙ q in cc

one_table : (r : Row) (t u : Table) → IsTableRow r t → IsTableRow r u → t ≡ u
one_table r t u p q =
    let sql = same_words (column r 4) p.sql q.sql p.sql_is q.sql_is in
    let made : ◌≡◌ {A = Table} p.defined.0 q.defined.0 = (let e = sym p.defined.1 ∙ ap Rattle.sqlite_resolve.specs.Compile.table_defined_by sql ∙ q.defined.1 in cc) in
    let tree = same_tree (rowid r) t.tree u.tree p.described.id q.described.id in
    p.defined.2 ∙ (λ i. record (made i) { tree = tree i }) ∙ sym q.defined.2

same_self : (name : List ℕ) → same_name name name ≡ true
unfolding same_name
same_self name = ap is_eq (tied_itself text_total (map to_ascii_lowercase name))

unlike : (s t : Table) → same_name s.name t.name ≡ false → s.name ≡ t.name → ⊥
unlike s t apart same = true≢false (sym (same_self s.name) ∙ ap (same_name s.name) same ∙ apart)

-- two tables of one name are one
same_named : (ts : List Table) → IsAscending (λ s t. same_name s.name t.name ≡ false) ts → (t u : Table) → Has ts t → Has ts u → t.name ≡ u.name → t ≡ u
same_named [] apart t u p q same = absurd p
same_named (x ∷ ts) apart t u (inl a) (inl b) same = a ∙ sym b
same_named (x ∷ ts) apart t u (inl a) (inr q) same = absurd (unlike x u (all_has (λ y. same_name x.name y.name ≡ false) ts u apart.0 q) (sym (ap (λ (t : Table). t.name) a) ∙ same))
same_named (x ∷ ts) apart t u (inr p) (inl b) same = absurd (unlike x t (all_has (λ y. same_name x.name y.name ≡ false) ts t apart.0 p) (sym (same ∙ ap (λ (t : Table). t.name) b)))
same_named (x ∷ ts) apart t u (inr p) (inr q) same = same_named ts apart.1 t u p q same

first_alone : (keys : List (List ℕ)) → IsSingle keys → (at bt : ℕ) (k l : List ℕ) → slice_get keys at ≡ Some k → slice_get keys bt ≡ Some l → (at ≡ bt) × (k ≡ l)
first_alone [] single at bt k l p q = absurd cc
first_alone (x ∷ []) single zero zero k l p q = (refl, cc)
first_alone (x ∷ []) single zero (suc bt) k l p q = absurd cc
first_alone (x ∷ []) single (suc at) bt k l p q = absurd cc
first_alone (x ∷ y ∷ more) single at bt k l p q = absurd single

one_defined : (t : Table) (i j : Index) (sql : Value) → IsSingle t.uniques → i.tree ≡ j.tree → IsDefined t i sql → IsDefined t j sql → i ≡ j
one_defined t i j Null single tree p q =
    let a = first_alone t.uniques single p.0 q.0 p.1 q.1 p.2 q.2 in
    p.3 ∙ (λ k. automatic t (a.0 k) (a.1 k) (tree k)) ∙ sym q.3
one_defined t i j (Int n) single tree p q = absurd p
one_defined t i j (Real x) single tree p q = absurd p
one_defined t i j (Text sql) single tree p q =
    let made : ◌≡◌ {A = Index} p.0 q.0 = (let e = sym p.1 ∙ q.1 in cc) in
    p.2 ∙ (λ k. record (made k) { tree = tree k; table = t.tree }) ∙ sym q.2
one_defined t i j (Blob b) single tree p q = absurd p

one_index : (ts : List Table) → AreSingle ts → IsAscending (λ s t. same_name s.name t.name ≡ false) ts → (r : Row) (i j : Index) → IsIndexRow ts r i → IsIndexRow ts r j → i ≡ j
one_index ts singles apart r i j p q =
    let table : p.table ≡ q.table = same_named ts apart p.table q.table p.listed q.listed (same_words (column r 3) p.table.name q.table.name p.described.owner_is q.described.owner_is) in
    let tree = same_tree (rowid r) i.tree j.tree p.described.id q.described.id in
    one_defined p.table i j (column r 4) (all_has (λ t. IsSingle t.uniques) ts p.table singles p.listed) tree p.defined (subst (λ (t : Table). IsDefined t j (column r 4)) (sym table) q.defined)

pub relisted : (objects : List Row) (listed schema : Schema) → IsSimple listed → AreListed objects listed → AreListed objects schema → schema ≡ listed
relisted objects listed schema simple ours are =
    let tables : schema.tables ≡ listed.tables = zip_same IsTableRow one_table _ schema.tables listed.tables are.tables ours.tables in
    let indexes : schema.indexes ≡ listed.indexes = zip_same (IsIndexRow listed.tables) (one_index listed.tables simple.tables ours.named) _ schema.indexes listed.indexes (subst (λ ts. AllZip (IsIndexRow ts) (filter is_index_row objects) schema.indexes) tables are.indexes) ours.indexes in
    let views : schema.views ≡ [] = zip_none IsViewRow IsViewRow _ schema.views (subst (λ vs. AllZip IsViewRow (filter is_view_row objects) vs) simple.views ours.views) are.views in
    λ k. record { tables = tables k; indexes = indexes k; views = (views ∙ sym simple.views) k }

-- and where nothing is listed, no schema that it lists has anything
pub unlisted : (objects : List Row) (schema : Schema) → AreListed objects no_schema → AreListed objects schema → schema ≡ no_schema
unlisted objects schema none are =
    let tables : schema.tables ≡ [] = zip_none IsTableRow IsTableRow _ schema.tables none.tables are.tables in
    let indexes : schema.indexes ≡ [] = zip_none (IsIndexRow []) (IsIndexRow schema.tables) _ schema.indexes none.indexes are.indexes in
    let views : schema.views ≡ [] = zip_none IsViewRow IsViewRow _ schema.views none.views are.views in
    λ k. record { tables = tables k; indexes = indexes k; views = views k }
