-- What stands at a place of a keeper when records are added, and under a name when a text is put.
use Rattle.std.proofs.Common.{◌≡◌, ◌≢◌, Bool, true, false, cond, List, [], ◌∷◌, ◌++◌, Option, None, Some, is_some, refl, sym, ap, ap₂, ◌∙◌, true≢false, inl, inr, Ordering, Less, Equal, Greater}
use Rattle.std.specs.Option.{option_or}
use Rattle.std.specs.Ordering.{is_eq}
use Rattle.std.specs.Cmp.{tied_itself}
use Rattle.std.proofs.lemmas.Bool.{cases_Bool}
use Rattle.std.specs.FinMap.{FinMap, IsAntisymmetric, get, get-insert, contains_key, insert}
use Rattle.budget_ports.specs.declared.keeper.Record.{Record}
use Rattle.budget_ports.specs.Contents.{Contents, Text, Place, place_cmp, with_record, with_records, appended, with_text}
use Rattle.sync_laws.specs.Contents.{LackKey, HasGot, HasText}
use Rattle.budget_ports.proofs.Places.{text_total, text_same, place_total, place_same}

equal_is : (o : Ordering) → is_eq o ≡ true → o ≡ Equal
equal_is Less h = absurd (true≢false (sym h))
equal_is Equal h = refl
equal_is Greater h = absurd (true≢false (sym h))

-- keys that differ aren't tied
untied : {K : Type 0} {R : K → K → Ordering} → IsAntisymmetric R → (a b : K) → a ≢ b → is_eq (R a b) ≡ false
untied {R = R} same a b apart = elim (cases_Bool (is_eq (R a b))) [
  | inl tied ↦ absurd (apart (same a b (equal_is _ tied)))
  | inr out ↦ out
]

-- ---- one record more

-- what stands at a place with one record more: what stood there, or else the record, where the place is its own
pub get_with : (m : FinMap place_cmp Text) (g : Text) (r : Record) (p : Place) → get (with_record g m r) p ≡ option_or (get m p) (cond (is_eq (place_cmp p (g, r.key))) (Some r.body) None)
get_with m g r p = by (contains_key m (g, r.key)) refl
  where
    own : is_eq (place_cmp p (g, r.key)) ≡ true → contains_key m p ≡ contains_key m (g, r.key)
    own tied = ap (contains_key m) (place_same p (g, r.key) (equal_is _ tied))

    stays : (o : Option Text) (b : Bool) → (b ≡ true → is_some o ≡ true) → o ≡ option_or o (cond b (Some r.body) None)
    stays None true h = absurd (true≢false (sym (h refl)))
    stays None false h = refl
    stays (Some body) b h = refl

    enters : (o : Option Text) (b : Bool) → (b ≡ true → is_some o ≡ false) → cond b (Some r.body) o ≡ option_or o (cond b (Some r.body) None)
    enters None b h = refl
    enters (Some body) true h = absurd (true≢false (h refl))
    enters (Some body) false h = refl

    by : (b : Bool) → contains_key m (g, r.key) ≡ b → get (cond b m (insert m (g, r.key) r.body)) p ≡ option_or (get m p) (cond (is_eq (place_cmp p (g, r.key))) (Some r.body) None)
    by true there = stays (get m p) (is_eq (place_cmp p (g, r.key))) (λ tied. own tied ∙ there)
    by false new = get-insert place_total m (g, r.key) r.body p ∙ enters (get m p) (is_eq (place_cmp p (g, r.key))) (λ tied. own tied ∙ new)

or_none : {X : Type 0} (o : Option X) → option_or o None ≡ o
or_none None = refl
or_none (Some x) = refl

apart_with : (m : FinMap place_cmp Text) (g : Text) (r : Record) (p : Place) → p ≢ (g, r.key) → get (with_record g m r) p ≡ get m p
apart_with m g r p apart =
    get_with m g r p ∙ ap (λ b. option_or (get m p) (cond b (Some r.body) None)) (untied place_same p (g, r.key) apart) ∙ or_none (get m p)

pub others_with : (m : FinMap place_cmp Text) (g : Text) (r : Record) (p : Place) → p.0 ≢ g → get (with_record g m r) p ≡ get m p
others_with m g r p other = apart_with m g r p (λ same. other (ap (λ (q : Place). q.0) same))

-- ---- several

stays_all : (g : Text) (m : FinMap place_cmp Text) (rs : List Record) (p : Place) (body : Text) → get m p ≡ Some body → get (with_records g m rs) p ≡ Some body
stays_all g m [] p body h = h
stays_all g m (r ∷ rs) p body h =
    stays_all g (with_record g m r) rs p body (get_with m g r p ∙ ap (λ o. option_or o (cond (is_eq (place_cmp p (g, r.key))) (Some r.body) None)) h)

others_all : (g : Text) (m : FinMap place_cmp Text) (rs : List Record) (p : Place) → p.0 ≢ g → get (with_records g m rs) p ≡ get m p
others_all g m [] p other = refl
others_all g m (r ∷ rs) p other = others_all g (with_record g m r) rs p other ∙ others_with m g r p other

lacking : (g : Text) (m : FinMap place_cmp Text) (rs : List Record) (key : Text) → LackKey key rs → get (with_records g m rs) (g, key) ≡ get m (g, key)
lacking g m [] key lack = refl
lacking g m (r ∷ rs) key lack =
    lacking g (with_record g m r) rs key lack.1 ∙ apart_with m g r (g, key) (λ same. lack.0 (sym (ap (λ (q : Place). q.1) same)))

first_all : (g : Text) (m : FinMap place_cmp Text) (front rest : List Record) (r : Record) → LackKey r.key front → get m (g, r.key) ≡ None → get (with_records g m (front ++ r ∷ rest)) (g, r.key) ≡ Some r.body
first_all g m [] rest r lack none =
    let tied : is_eq (place_cmp (g, r.key) (g, r.key)) ≡ true = ap is_eq (tied_itself place_total (g, r.key)) in
    stays_all g (with_record g m r) rest (g, r.key) r.body
    (get_with m g r (g, r.key) ∙ ap₂ (λ (o : Option Text) (b : Bool). option_or o (cond b (Some r.body) None)) none tied)
first_all g m (s ∷ front) rest r lack none =
    first_all g (with_record g m s) front rest r lack.1
    (apart_with m g s (g, r.key) (λ same. lack.0 (sym (ap (λ (q : Place). q.1) same))) ∙ none)

pub has_got : (k : Contents) (g : Text) (batch : List Record) → HasGot g batch k (appended k g batch)
has_got k g batch = record {
  stays = λ p body h. stays_all g k.records batch p body h;
  first = λ front rest r is lack none. ap (λ rs. get (with_records g k.records rs) (g, r.key)) is ∙ first_all g k.records front rest r lack none;
  no_other = λ key lack. lacking g k.records batch key lack;
  groups = λ p other. others_all g k.records batch p other;
  texts = refl;
}

-- ---- a text

pub has_text : (k : Contents) (name text : Text) → HasText name text k (with_text k name text)
has_text k name text = record {
  here = get-insert text_total k.texts name text name ∙ ap (λ b. cond b (Some text) (get k.texts name)) (ap is_eq (tied_itself text_total name));
  others = λ other apart. get-insert text_total k.texts name text other ∙ ap (λ b. cond b (Some text) (get k.texts other)) (untied text_same other name apart);
  records = refl;
}
