-- The bodies of one group: a record is added, and taken out again.
use Rattle.std.proofs.Common.{◌≡◌, ℕ, zero, suc, ◌+◌, add-one, drop, Bool, true, false, true≢false, not, if◌then◌else◌, List, [], ◌∷◌, ◌++◌, Option, None, Some, is_some, refl, sym, ap, ◌∙◌}
use Rattle.std.specs.List.{slice_get}
use Rattle.std.specs.BTreeMap.{is_at}
use Rattle.std.specs.Map.{lookup}
use Rattle.std.specs.FinMap.{get, insert, remove, contains_key, from_entries}
use Rattle.budget_ports.specs.declared.keeper.Record.{Record}
use Rattle.budget_ports.specs.Contents.{Text, text_cmp}
use Rattle.budget_ports.specs.Groups.{Bodies, with_body}
use Rattle.budget_ports.specs.Undoing.{without, taken_out}
use Rattle.budget_ports.proofs.Maps.{get_is, in_and_out}
use Rattle.budget_ports.proofs.Places.{text_total, text_same}

-- an entry of one group as a record
abbrev pub of_pair : Text × Text → Record
of_pair e = record { key = e.0; body = e.1 }

abbrev pub at_key : List (Text × Text) → Text → Option Text
at_key es k = lookup (is_at (text_cmp k)) es

pub has : (es : List (Text × Text)) (m : Bodies) (k : Text) → from_entries es ≡ m → contains_key m k ≡ is_some (at_key es k)
has es m k is = ap is_some (ap (λ n. get n k) (sym is) ∙ get_is text_total text_same es k)

pub there_already : (m : Bodies) (r : Record) → contains_key m r.key ≡ true → m ≡ with_body m r
there_already m r there = rw there refl

pub one_added : (m n : Bodies) (r : Record) → contains_key m r.key ≡ false → n ≡ insert m r.key r.body → n ≡ with_body m r
one_added m n r new put = put ∙ sym (rw new refl)

-- the last place is taken out first
pub taken_out_push : (batch : List Record) (m : Bodies) (places : List ℕ) (i : ℕ) → taken_out batch m (places ++ i ∷ []) ≡ taken_out batch (without m (slice_get batch i)) places
taken_out_push batch m [] i = refl
taken_out_push batch m (x ∷ places) i = ap (λ n. without n (slice_get batch x)) (taken_out_push batch m places i)

-- what was added last is taken out first
last_out : (batch : List Record) (m n : Bodies) (places pushed : List ℕ) (i : ℕ) (r : Record) → slice_get batch i ≡ Some r → pushed ≡ places ++ i ∷ [] → contains_key m r.key ≡ false
    → n ≡ insert m r.key r.body → taken_out batch n pushed ≡ taken_out batch m places
last_out batch m n places pushed i r here push new put =
    ap (taken_out batch n) push ∙ taken_out_push batch n places i
    ∙ ap (λ x. taken_out batch x places) (ap (without n) here ∙ ap (λ x. remove x r.key) put ∙ in_and_out text_total text_same m r.key r.body new)

-- what was added with its place is taken out first
pub added_out : (batch : List Record) (m n : Bodies) (places pushed : List ℕ) (i : ℕ) (r : Record) (there : Bool) → slice_get batch i ≡ Some r → pushed ≡ places ++ i ∷ [] → contains_key m r.key ≡ there → not there ≡ true
    → n ≡ with_body m r → taken_out batch n pushed ≡ taken_out batch m places
added_out batch m n places pushed i r true here push is new with = absurd (true≢false (sym new))
added_out batch m n places pushed i r false here push is new with =
    last_out batch m n places pushed i r here push is (with ∙ ap (λ b. if b then m else insert m r.key r.body) is)

at_front : (batch : List Record) (i : ℕ) (r : Record) → slice_get batch i ≡ Some r → drop i batch ≡ r ∷ drop (suc i) batch
at_front [] i r here = absurd (cc)
at_front (x ∷ batch) zero r here = ap (λ y. y ∷ batch) (same x r here)
  where
    same : (x y : Record) → Some x ≡ Some y → x ≡ y
    same x y h = cc
at_front (x ∷ batch) (suc i) r here = at_front batch i r here

-- the record at a place and those behind it
pub one_read : (batch : List Record) (i : ℕ) (r : Record) → slice_get batch i ≡ Some r → drop i batch ≡ r ∷ drop (i + 1) batch
one_read batch i r here = rw add-one (at_front batch i r here)

-- the last place is taken from the list, and its record out
pub one_popped : (batch : List Record) (m n : Bodies) (places popped : List ℕ) (i : ℕ) (r : Record) → places ≡ popped ++ i ∷ [] → slice_get batch i ≡ Some r → n ≡ remove m r.key → taken_out batch n popped ≡ taken_out batch m places
one_popped batch m n places popped i r pop here out =
    ap (λ x. taken_out batch x popped) (out ∙ sym (ap (without m) here)) ∙ sym (ap (taken_out batch m) pop ∙ taken_out_push batch m popped i)

pub none_popped : (batch : List Record) (m : Bodies) (places popped : List ℕ) (i : ℕ) → places ≡ popped ++ i ∷ [] → slice_get batch i ≡ None → taken_out batch m popped ≡ taken_out batch m places
none_popped batch m places popped i pop none =
    ap (λ n. taken_out batch n popped) (sym (ap (without m) none)) ∙ sym (ap (taken_out batch m) pop ∙ taken_out_push batch m popped i)
