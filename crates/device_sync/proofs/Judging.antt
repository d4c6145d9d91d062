-- A reply is judged as one thing.
use Rattle.std.proofs.Common.{◌≡◌, ◌≢◌, ℕ, ◌+◌, ◌-◌, ◌≤◌, List, length, Bool, true, false, cond, Option, None, Some, Result, Ok, Err, sym, ap, ◌∙◌, subst, arith}
use Rattle.std.specs.Prelude.{IfOk}
use Rattle.field_values.specs.declared.memory.NoMemory.{NoMemory}
use Rattle.httparse.specs.Grammar.{status_code}
use Rattle.httparse.proofs.GrammarLemmas.{response_unique}
use Rattle.sync_wire.specs.declared.fault.WireFault.{WireFault}
use Rattle.sync_wire.specs.declared.fault.WireFault.TheVariants.{NoMemory as OutOfMemory}
use Rattle.sync_wire.specs.declared.response.SyncResponse.{SyncResponse}
use Rattle.field_merge.specs.Messages.{AreMessages}
use Rattle.minute_trie.specs.declared.read.TrieFault.{TrieFault}
use Rattle.minute_trie.specs.Faults.{fault_of_text}
use Rattle.sync_wire.specs.Laws.{IsEither, MeaningsAreValid}
use Rattle.sync_wire.specs.Wire.{IsResponse, IsResponseFault}
use Rattle.sync_wire.proofs.Readings.{is_either, response_reads}
use Rattle.device_sync.specs.Replies.{IsReply, Got, refusal, bad, messages_of, place_of, with_trie, meant, most_bytes, IsJudged, too_long, no_reply, refuses, faulty, says}
use Rattle.device_sync.specs.declared.reply.Judged.{Judged}
use Rattle.device_sync.specs.Judged.{got_of}
use Rattle.device_sync.specs.Laws.{RepliesHaveOneMeaning}

-- bytes are one reply
pub one_reply : (bytes : List ℕ) (s t : ℕ) (a b : List ℕ) → IsReply bytes s a → IsReply bytes t b → (s ≡ t) × (a ≡ b)
one_reply bytes s t a b x y =
    let both = response_unique bytes x.head y.head a b x.reads y.reads in
    (x.status_is ∙ ap status_code both.0 ∙ sym y.status_is, both.1)

either : (body : List ℕ) → IsEither (IsResponse body) (IsResponseFault body)
either body = is_either (IsResponse body) (IsResponseFault body) _ (response_reads body)

abbrev bad_body : List ℕ → List ℕ → ℕ → Got
bad_body bytes body place = bad (length bytes - length body + place)

some_same : (p q : ℕ) → Some p ≡ Some q → p ≡ q
some_same p q e = cc

-- two faults of one body
one_fault : (bytes a b : List ℕ) (f g : WireFault) (p q : ℕ) → a ≡ b → IsResponseFault a f → IsResponseFault b g → place_of f ≡ Some p → place_of g ≡ Some q → bad_body bytes a p ≡ bad_body bytes b q
one_fault bytes a b f g p q same x y at there =
    let other : IsResponseFault b f = subst (λ (z : List ℕ). IsResponseFault z f) same x in
    let one : f ≡ g = (either b).one_fault f g other y in
    ap (λ (z : List ℕ). bad_body bytes z p) same ∙ ap (bad_body bytes b) (some_same p q (sym at ∙ ap place_of one ∙ there))

not_both : {X : Type 0} (a b : List ℕ) (f : WireFault) (x : SyncResponse) → a ≡ b → IsResponseFault a f → IsResponse b x → X
not_both a b f x same fault said = absurd ((either b).not_both x f said (subst (λ (z : List ℕ). IsResponseFault z f) same fault))

one_meaning : (a b : List ℕ) (x y : SyncResponse) → a ≡ b → IsResponse a x → IsResponse b y → x ≡ y
one_meaning a b x y same p q = (either b).one_meaning x y (subst (λ (z : List ℕ). IsResponse z x) same p) q

pub one_judgment : RepliesHaveOneMeaning
one_judgment bytes one other (too_long l e) (too_long k f) = e ∙ sym f
one_judgment bytes one other (too_long l e) (no_reply k none f) = absurd (omega arith)
one_judgment bytes one other (too_long l e) (refuses k s b x ne f) = absurd (omega arith)
one_judgment bytes one other (too_long l e) (faulty k b x w is p at f) = absurd (omega arith)
one_judgment bytes one other (too_long l e) (says k b x a is f) = absurd (omega arith)
one_judgment bytes one other (no_reply l none e) (too_long k f) = absurd (omega arith)
one_judgment bytes one other (no_reply l none e) (no_reply k nor f) = e ∙ sym f
one_judgment bytes one other (no_reply l none e) (refuses k s b x ne f) = absurd (none s b x)
one_judgment bytes one other (no_reply l none e) (faulty k b x w is p at f) = absurd (none 200 b x)
one_judgment bytes one other (no_reply l none e) (says k b x a is f) = absurd (none 200 b x)
one_judgment bytes one other (refuses l s b x ne e) (too_long k f) = absurd (omega arith)
one_judgment bytes one other (refuses l s b x ne e) (no_reply k none f) = absurd (none s b x)
one_judgment bytes one other (refuses l s b x ne e) (refuses k t c y nd f) = e ∙ ap refusal (one_reply bytes s t b c x y).0 ∙ sym f
one_judgment bytes one other (refuses l s b x ne e) (faulty k c y w is p at f) = absurd (ne (one_reply bytes s 200 b c x y).0)
one_judgment bytes one other (refuses l s b x ne e) (says k c y a is f) = absurd (ne (one_reply bytes s 200 b c x y).0)
one_judgment bytes one other (faulty l b x w is p at e) (too_long k f) = absurd (omega arith)
one_judgment bytes one other (faulty l b x w is p at e) (no_reply k none f) = absurd (none 200 b x)
one_judgment bytes one other (faulty l b x w is p at e) (refuses k t c y nd f) = absurd (nd (one_reply bytes t 200 c b y x).0)
one_judgment bytes one other (faulty l b x w is p at e) (faulty k c y v are q there f) = e ∙ one_fault bytes b c w v p q (one_reply bytes 200 200 b c x y).1 is are at there ∙ sym f
one_judgment bytes one other (faulty l b x w is p at e) (says k c y a said f) = not_both b c w a (one_reply bytes 200 200 b c x y).1 is said
one_judgment bytes one other (says l b x a said e) (too_long k f) = absurd (omega arith)
one_judgment bytes one other (says l b x a said e) (no_reply k none f) = absurd (none 200 b x)
one_judgment bytes one other (says l b x a said e) (refuses k t c y nd f) = absurd (nd (one_reply bytes t 200 c b y x).0)
one_judgment bytes one other (says l b x a said e) (faulty k c y w is p at f) = not_both c b w a (one_reply bytes 200 200 c b y x).1 is said
one_judgment bytes one other (says l b x a said e) (says k c y a' told f) = e ∙ ap (meant (length bytes)) (one_meaning b c a a' (one_reply bytes 200 200 b c x y).1 said told) ∙ sym f

-- ---- what was judged has valid messages

meant_valid : (whole : ℕ) (a : SyncResponse) → AreMessages a.messages → AreMessages (messages_of (meant whole a))
meant_valid whole a valid = by a.encrypted (fault_of_text a.merkle)
  where
    by : (b : Bool) (fault : Option TrieFault) → AreMessages (messages_of (cond b (bad whole) (with_trie whole a fault)))
    by true fault = tt
    by false None = valid
    by false (Some fault) = tt

pub judged_valid : MeaningsAreValid → (bytes : List ℕ) (got : Got) → IsJudged bytes got → AreMessages (messages_of got)
judged_valid law bytes got (too_long l e) = let P : Got → Type 0 = λ g. AreMessages (messages_of g) in subst P (sym e) tt
judged_valid law bytes got (no_reply l none e) = let P : Got → Type 0 = λ g. AreMessages (messages_of g) in subst P (sym e) tt
judged_valid law bytes got (refuses l s b x ne e) = let P : Got → Type 0 = λ g. AreMessages (messages_of g) in subst P (sym e) tt
judged_valid law bytes got (faulty l b x w is p at e) = let P : Got → Type 0 = λ g. AreMessages (messages_of g) in subst P (sym e) tt
judged_valid law bytes got (says l b x a said e) =
    let P : Got → Type 0 = λ g. AreMessages (messages_of g) in
    subst P (sym e) (meant_valid (length bytes) a (law.replies b a said))

-- an answer that was made of a body
pub answered_with : (bytes body : List ℕ) (a : SyncResponse) (r : Result Judged NoMemory) → length bytes ≤ most_bytes → IsReply bytes 200 body → IsResponse body a
    → IfOk r (λ judged. got_of judged ≡ meant (length bytes) a) → IfOk r (λ judged. IsJudged bytes (got_of judged))
answered_with bytes body a (Ok judged) short reply said is = says short body reply a said is
answered_with bytes body a (Err fault) short reply said is = tt

-- a fault that a body has
pub bad_of : (bytes body : List ℕ) (fault : WireFault) (start : ℕ) (r : Result Judged NoMemory) → length bytes ≤ most_bytes → IsReply bytes 200 body → (fault ≢ OutOfMemory → IsResponseFault body fault)
    → start ≡ length bytes - length body → IfOk r (λ judged. (place : ℕ) × ((place_of fault ≡ Some place) × (got_of judged ≡ bad (start + place)))) → IfOk r (λ judged. IsJudged bytes (got_of judged))
bad_of bytes body fault start (Ok judged) short reply found begins (place, (at, is)) =
    faulty short body reply fault (found (λ e. let none : None ≡ Some place = sym (ap place_of e) ∙ at in absurd (cc))) place at (is ∙ ap (λ (z : ℕ). bad (z + place)) begins)
bad_of bytes body fault start (Err e) short reply found begins is = tt
