-- Lists of writes.
use Rattle.std.proofs.Common.{◌≡◌, ◌+◌, List, [], ◌∷◌, ◌++◌, length, true, refl, ap, ◌∙◌, arith, append_assoc, codes}
use Rattle.field_values.specs.declared.value.Value.{Value}
use Rattle.field_values.specs.declared.value.Value.TheVariants.{Null}
use Rattle.finite_sums.specs.Maps.{Text}
use Rattle.book_rows.specs.declared.rows.Rows.{Rows}
use Rattle.book_rows.specs.declared.rows.TxRow.{TxRow}
use Rattle.book_rows.specs.declared.write.RowName.TheVariants.{Given}
use Rattle.book_rows.specs.declared.write.Write.{Write}
use Rattle.book_edits.specs.Writing.{flag}
use Rattle.split_transfer.specs.declared.edit.SplitPart.{SplitPart}
use Rattle.split_transfer.specs.Pairs.{parts_of}
use Rattle.split_transfer.specs.Writing.{tx_write, on_each}
use Rattle.split_transfer.specs.Splits.{parts_writes, split_writes}

pub on_each_append : (c : Text) (v : Value) (a b : List Text) → on_each c v (a ++ b) ≡ on_each c v a ++ on_each c v b
on_each_append c v [] b = refl
on_each_append c v (x ∷ a) b = ap (λ ws. tx_write (Given x) c v ∷ ws) (on_each_append c v a b)

pub length-on_each : (c : Text) (v : Value) (a : List Text) → length (on_each c v a) ≡ length a
length-on_each c v [] = refl
length-on_each c v (x ∷ a) = let e = length-on_each c v a in omega (arith, e)

pub length-plus : (a b : List Write) → length (a ++ b) ≡ length a + length b
length-plus [] b = omega arith
length-plus (x ∷ a) b = let e = length-plus a b in omega (arith, e)

-- what is put behind a list, one after the other
pub four_more : {X : Type 0} (xs a d y z v w : List X) (b c : X) → y ≡ xs ++ a → z ≡ y ++ b ∷ [] → v ≡ z ++ c ∷ [] → w ≡ v ++ d → w ≡ xs ++ (a ++ b ∷ c ∷ d)
four_more xs a d y z v w b c e f g h =
    h ∙ ap (λ l. l ++ d) (g ∙ ap (λ l. l ++ c ∷ []) (f ∙ ap (λ l. l ++ b ∷ []) e))
    ∙ append_assoc ((xs ++ a) ++ b ∷ []) (c ∷ []) d ∙ append_assoc (xs ++ a) (b ∷ []) (c ∷ d) ∙ append_assoc xs a (b ∷ c ∷ d)

-- the list of a split, as the code makes it
pub split_list : (r : Rows) (id : Text) (x : TxRow) (ps : List SplitPart) (a b c d : List Write)
    → a ≡ [] ++ on_each (codes "tombstone") (flag true) (parts_of r id) → b ≡ a ++ tx_write (Given id) (codes "isParent") (flag true) ∷ [] → c ≡ b ++ tx_write (Given id) (codes "category") Null ∷ []
    → d ≡ c ++ parts_writes (length c) id x ps → d ≡ split_writes r id x ps
split_list r id x ps a b c d e f g h =
    let old = on_each (codes "tombstone") (flag true) (parts_of r id) in
    let one = tx_write (Given id) (codes "isParent") (flag true) in
    let other = tx_write (Given id) (codes "category") Null in
    let two = one ∷ other ∷ [] in
    let is : c ≡ old ++ two = g ∙ ap (λ t. t ++ other ∷ []) (f ∙ ap (λ t. t ++ one ∷ []) e) ∙ append_assoc old (one ∷ []) (other ∷ []) in
    let len : length c ≡ length (parts_of r id) + 2 = (let p = ap length is in let q = length-plus old two in let s = length-on_each (codes "tombstone") (flag true) (parts_of r id) in omega (arith, p, q, s)) in
    h ∙ ap (λ t. t ++ parts_writes (length c) id x ps) is ∙ ap (λ n. (old ++ two) ++ parts_writes n id x ps) len ∙ append_assoc old two (parts_writes (length (parts_of r id) + 2) id x ps)
