-- What the envelopes of a request and of a reply make of it.
use Rattle.std.proofs.Common.{◌≡◌, ◌≢◌, ◌-◌, ◌∙◌, ◌||◌, ℕ, List, [], ◌∷◌, ◌++◌, length, Bool, true, false, cond, Option, None, Some, Ok, refl, sym, ap}
use Rattle.std.specs.List.{filter_map, cons_option, list_any}
use Rattle.std.proofs.lemmas.Bool.{ne_eqb}
use Rattle.hybrid_clock.specs.declared.stamp.Stamp.{Stamp}
use Rattle.hybrid_clock.specs.Reading.{read_stamp}
use Rattle.field_merge.specs.declared.message.Message.{Message}
use Rattle.sync_wire.specs.Fields.{Tagged}
use Rattle.sync_wire.specs.Meaning.{bytes_of, bytes_in}
use Rattle.sync_wire.specs.Envelope.{Written, Outline, content_at, outline_at, message_from, message_in, envelope_at}
use Rattle.sync_wire.specs.Wire.{opened_message, is_closed, message_in_field, is_closed_field}
use Rattle.sync_laws.specs.Counting.{envelope_of, CountsEnvelopes, EnvelopesCount}

-- ---- one envelope

by_outline : (end : ℕ) (bytes : List ℕ) (o : Outline) → outline_at end bytes ≡ Ok o → envelope_at end bytes ≡ message_in (end - length bytes) o
unfolding envelope_at
by_outline end bytes o e = rw e refl

sealed_in : (start : ℕ) (o : Outline) (s : Stamp) → o.encrypted ≡ true → read_stamp o.stamp ≡ Ok s → message_in start o ≡ Ok None
unfolding message_in
sealed_in start o s e h = rw (e, h) refl

opened_in : (start : ℕ) (o : Outline) (w : Written) (s : Stamp) (m : Message) → o.encrypted ≡ false → content_at o.content.0 o.content.1 ≡ Ok w → read_stamp o.stamp ≡ Ok s
    → message_from start s w ≡ Ok m → message_in start o ≡ Ok (Some m)
unfolding message_in
opened_in start o w s m e c h is = rw (e, c, h, is) refl

-- ---- among fields

filter_both : {A B : Type 0} (f : A → Option B) (xs ys : List A) → filter_map f (xs ++ ys) ≡ filter_map f xs ++ filter_map f ys
filter_both f [] ys = refl
filter_both {B = B} f (x ∷ xs) ys = by (f x) (filter_both f xs ys)
  where
    by : (o : Option B) → filter_map f (xs ++ ys) ≡ filter_map f xs ++ filter_map f ys → cons_option o (filter_map f (xs ++ ys)) ≡ cons_option o (filter_map f xs) ++ filter_map f ys
    by None e = e
    by (Some b) e = ap (λ bs. b ∷ bs) e

found_at : {A B : Type 0} (f : A → Option B) (before after : List A) (x : A) (b : B) → f x ≡ Some b → filter_map f (before ++ x ∷ after) ≡ filter_map f before ++ b ∷ filter_map f after
found_at f before after x b e = filter_both f before (x ∷ after) ∙ ap (λ o. filter_map f before ++ cons_option o (filter_map f after)) e

none_at : {A B : Type 0} (f : A → Option B) (before after : List A) (x : A) → f x ≡ None → filter_map f (before ++ x ∷ after) ≡ filter_map f (before ++ after)
none_at f before after x e =
    filter_both f before (x ∷ after) ∙ ap (λ o. filter_map f before ++ cons_option o (filter_map f after)) e ∙ sym (filter_both f before after)

passes_at : {A : Type 0} (p : A → Bool) (before after : List A) (x : A) → p x ≡ true → list_any p (before ++ x ∷ after) ≡ true
passes_at p [] after x e = ap (λ b. b || list_any p after) e
passes_at p (y ∷ before) after x e = ap (λ b. p y || b) (passes_at p before after x e) ∙ any_true (p y)
  where
    any_true : (b : Bool) → (b || true) ≡ true
    any_true true = refl
    any_true false = refl

fails_at : {A : Type 0} (p : A → Bool) (before after : List A) (x : A) → p x ≡ false → list_any p (before ++ x ∷ after) ≡ list_any p (before ++ after)
fails_at p [] after x e = ap (λ b. b || list_any p after) e
fails_at p (y ∷ before) after x e = ap (λ b. p y || b) (fails_at p before after x e)

other_bytes : (t : Tagged) → t.number ≢ 1 → bytes_in 1 t ≡ None
other_bytes t other = ap (λ b. cond b (bytes_of t.payload) None) (ne_eqb t.number 1 other)

other_message : (t : Tagged) → t.number ≢ 1 → message_in_field t ≡ None
other_message t other = let e = other_bytes t other in rw (e, message_in_field) refl

other_closed : (t : Tagged) → t.number ≢ 1 → is_closed_field t ≡ false
other_closed t other = let e = other_bytes t other in rw (e, is_closed_field) refl

counts : CountsEnvelopes (filter_map message_in_field) (list_any is_closed_field)
counts = record {
  no_messages = refl;
  plain = refl;
  has_message = λ before after end bytes m e. (
    found_at message_in_field before after (envelope_of end bytes) m (ap opened_message e),
    fails_at is_closed_field before after (envelope_of end bytes) (ap is_closed e),
  );
  is_sealed = λ before after end bytes e. (
    none_at message_in_field before after (envelope_of end bytes) (ap opened_message e),
    passes_at is_closed_field before after (envelope_of end bytes) (ap is_closed e),
  );
  others = λ before after t other. (
    none_at message_in_field before after t (other_message t other),
    fails_at is_closed_field before after t (other_closed t other),
  );
}

pub envelopes_counted : EnvelopesCount
envelopes_counted = record {
  sealed = λ end bytes o s e is h. by_outline end bytes o e ∙ sealed_in (end - length bytes) o s is h;
  opened = λ end bytes o w s m e is c h at. by_outline end bytes o e ∙ opened_in (end - length bytes) o w s m is c h at;
  requests = counts;
  replies = counts;
}
