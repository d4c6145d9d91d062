-- The line that begins a world.
use Rattle.std.proofs.Common.{◌≡◌, ℕ, zero, suc, ◌+◌, ◌^◌, ◌<◌, ◌≤◌, Bool, true, false, ◌&&◌, nat_le, List, [], ◌∷◌, ◌++◌, length, map, slice_get, codes, None, Some, Ok, Err, refl, sym, ap, ◌∙◌, subst, add-one, one-add, le-leb, arith}
use Rattle.std.specs.Prelude.{if◌then◌else◌}
use Rattle.std.specs.Fmt.{decimal, digits}
use Rattle.std.specs.List.{range_with_len}
use Rattle.std.proofs.lemmas.Bool.Decides.{nat_tests}
use Rattle.std.proofs.lemmas.Fmt.{length-decimal-le}
use Rattle.std.proofs.lemmas.List.FromFn.{map-range_with_len_more, length-map-range_with_len}
use Rattle.hybrid_clock.specs.Node.{node_of}
use Rattle.field_merge.specs.Escapes.{escaped}
use Rattle.field_merge.specs.Lines.{parts}
use Rattle.command_lines.specs.declared.command.CommandFault.TheVariants.{BadCommand}
use Rattle.command_lines.specs.declared.reply.Reply.TheVariants.{Refused}
use Rattle.command_lines.specs.Replies.{faulty}
use Rattle.world_lines.specs.Words.{number_at}
use Rattle.world_lines.specs.Lines.{only, count_line}
use Rattle.world_lines.specs.Session.{first_nodes, node_numbered, begun_by, opened, answered}
use Rattle.world_lines.proofs.Naming.{named}
use Rattle.world_laws.specs.Said.{devices_line, AreNumbered, WorldsAreBegun}
use Rattle.world_laws.proofs.Rows.{within, in_row}
use Rattle.world_laws.proofs.Texts.{not_long, parts_written, digits_stay, next_of, number_is}

-- ---- nodes

in_numbers : (n : ℕ) → first_nodes n ≡ map node_numbered (range_with_len 1 n)
in_numbers zero = refl
in_numbers (suc n) =
    ap (λ (nodes : List (List ℕ)). nodes ++ node_numbered (suc n) ∷ []) (in_numbers n)
    ∙ sym (map-range_with_len_more node_numbered 1 n (suc n) (omega arith))
    ∙ ap (λ (k : ℕ). map node_numbered (range_with_len 1 k)) (add-one n)

node_is : (n i : ℕ) (node : List ℕ) → n ≤ 16 → slice_get (first_nodes n) i ≡ Some node → node_of (decimal (i + 1)) ≡ Ok node
node_is n i node few is =
    let there : slice_get (map node_numbered (range_with_len 1 n)) i ≡ Some node = ap (λ (nodes : List (List ℕ)). slice_get nodes i) (sym (in_numbers n)) ∙ is in
    let low : i < n = within node_numbered 1 n i node there in
    let same : node ≡ node_numbered (1 + i) = in_row node_numbered 1 n i node there in
    ap (λ (k : ℕ). node_of (decimal k)) (add-one i)
    ∙ named i (omega (arith, low, few))
    ∙ ap (λ (k : ℕ). Ok (node_numbered k)) (sym (one-add i))
    ∙ ap (λ (t : List ℕ). Ok t) (sym same)

numbered : (n : ℕ) → n ≤ 16 → AreNumbered n (first_nodes n)
numbered n few = record { count = ap length (in_numbers n) ∙ length-map-range_with_len node_numbered 1 n; named = λ i node is. node_is n i node few is }

-- ---- the line

abbrev words : ℕ → List (List ℕ)
words n = map escaped (codes "devices" ∷ decimal n ∷ [])

short : (n : ℕ) → n < 2 ^ 32 → length (devices_line n) ≤ 1_048_576
short n h =
    let digits : length (decimal n) ≤ 10 = length-decimal-le 10 n (omega arith) (omega (arith, h)) (omega (arith, h)) in
    let text : length (escaped (decimal n)) ≤ 10 = subst (λ (t : List ℕ). length t ≤ 10) (sym (digits_stay n (omega (arith, h)))) digits in
    let whole : length (devices_line n) ≡ suc (suc (suc (suc (suc (suc (suc (suc (length (escaped (decimal n)))))))))) = refl in
    omega (arith, whole, text)

answered_by : (n : ℕ) → n < 2 ^ 32 → answered None (devices_line n) ≡ begun_by (count_line (words n))
answered_by n h =
    ap (λ (b : Bool). if b then (None, faulty 0) else opened (parts (devices_line n))) (not_long (devices_line n) (short n h))
    ∙ ap opened (parts_written (codes "devices") (decimal n ∷ []))

counted : (n : ℕ) → n < 2 ^ 32 → count_line (words n) ≡ (if nat_le 1 n && nat_le n 16 then Ok n else Err (BadCommand 1))
counted n h = next_of (number_at (words n) 1) n (λ count. if nat_le 1 count && nat_le count 16 then only 2 (words n) count else Err (BadCommand 1)) (number_is (words n) 1 n refl h)

taken : (n : ℕ) (b : Bool) → n < 2 ^ 32 → (nat_le 1 n && nat_le n 16) ≡ b → answered None (devices_line n) ≡ begun_by (if b then Ok n else Err (BadCommand 1))
taken n b h is = answered_by n h ∙ ap begun_by (counted n h) ∙ ap (λ (x : Bool). begun_by (if x then Ok n else Err (BadCommand 1))) is

begins_one : (n : ℕ) → 1 ≤ n → n ≤ 16 → (nat_le 1 n && nat_le n 16) ≡ true
begins_one n some few = ap (λ (b : Bool). b && nat_le n 16) (le-leb 1 n some) ∙ le-leb n 16 few

begins_none : (n : ℕ) → 16 < n → (nat_le 1 n && nat_le n 16) ≡ false
begins_none n many =
    let far : nat_le n 16 ≡ false = grind (arith, nat_tests) in
    ap (λ (b : Bool). b && nat_le n 16) (le-leb 1 n (omega (arith, many))) ∙ far

refused : begun_by (Err (BadCommand 1)) ≡ (None, Refused 30 (codes "bad-command") (codes "1"))
unfolding digits
refused = refl

pub worlds_begun : WorldsAreBegun
worlds_begun = record {
  begun = λ n some few. (first_nodes n, numbered n few, taken n true (omega (arith, few)) (begins_one n some few));
  none = taken 0 false (omega arith) refl ∙ refused;
  more = λ n many wide. taken n false wide (begins_none n many) ∙ refused;
}
