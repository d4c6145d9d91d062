-- The bytes that were taken, beside all bytes of the connection.
use Rattle.std.proofs.Common.{◌≡◌, ℕ, zero, suc, ◌-◌, ◌<◌, ◌≤◌, List, [], ◌∷◌, ◌++◌, length, take, drop, Option, Some, None, refl, sym, ap, subst, ◌∙◌, append_assoc, length-append, length-take, length-drop, arith, min, inl, inr, ◌+◌, ◌⊎◌, ap₂, slice_range}
use Rattle.std.proofs.lemmas.List.{append-nil, take_at, length-map, take-append-le, drop-append-le}
use Rattle.std.specs.Io.KnownBytes.{Consumes, IsAtEnd}
use Rattle.httparse.specs.Grammar.{RequestHead, ReadsRequest, HasNoRequest, Field}
use Rattle.httparse.specs.Spans.{AreFieldsAt, header_bytes, name_and_value}
use Rattle.httparse.specs.declared.spans.HeaderSpan.{HeaderSpan}
use Rattle.httparse.proofs.GrammarLemmas.{ReadsRequest-append}
use Rattle.budget_ports.specs.Contents.{Contents}
use Rattle.sync_wire.specs.declared.request.SyncRequest.{SyncRequest}
use Rattle.sync_wire.specs.Wire.{IsRequest}
use Rattle.sync_server.specs.declared.refusal.Refusal.{Refusal}
use Rattle.sync_server.specs.declared.refusal.Refusal.TheVariants.{NoMemory}
use Rattle.sync_server.specs.declared.head.HeadEnd.TheVariants as ends
use Rattle.sync_server.specs.Heads.{HasHead, NeverHasHead, judge_head, IsUndecided, in_body}
use Rattle.sync_server.specs.Taking.{Takes, IsHeadEnd}
use Rattle.sync_server.specs.Asking.{RefusesBody, out_of_memory, no_meaning, encrypted, without_since, IsPlain}
use Rattle.sync_server.specs.Serving.{Verdict, Ends, Refuses, Decides, DecidesRest, DecidesBody, AsksKeeper, judge_request, found_in, by_head, too_large, no_head, bytes_end, refused, short, whole, no_request, request}
use Rattle.sync_server.specs.Outside.{HasFound, IsAll}

pub few_fields : (bytes : List ℕ) (headers : List HeaderSpan) (count : ℕ) (fields : List Field) → AreFieldsAt bytes headers count fields → length headers ≤ 64 → length fields ≤ 64
few_fields bytes headers count fields same room =
    let long : length fields ≡ min count (length headers) =
    sym (length-map fields name_and_value) ∙ sym (ap length same) ∙ length-map (take count headers) (header_bytes bytes) ∙ length-take count headers in
    omega (arith, long)

take_past : (n : ℕ) (taken rest : List ℕ) → length taken ≤ n → take n (taken ++ rest) ≡ taken ++ take (n - length taken) rest
take_past n [] rest p = let e : n ≡ n - length {A = ℕ} [] = omega arith in ap (λ (k : ℕ). take k rest) e
take_past zero (x ∷ xs) rest p = absurd (omega arith)
take_past (suc n) (x ∷ xs) rest p =
    let e : n - length xs ≡ suc n - length (x ∷ xs) = omega arith in
    ap (λ (ys : List ℕ). x ∷ ys) (take_past n xs rest (omega arith) ∙ ap (λ (k : ℕ). xs ++ take k rest) e)

-- more bytes come behind a head
pub head_grows : (bytes : List ℕ) (head : RequestHead) (rest more : List ℕ) → HasHead bytes head rest → HasHead (bytes ++ more) head (rest ++ more)
head_grows bytes head rest more h = record { reads = ReadsRequest-append bytes head rest more h.reads; few = h.few }

pub front_is : (taken back : List ℕ) → length taken ≤ 65536 → take 65536 (taken ++ back) ≡ taken ++ take (65536 - length taken) back
front_is taken back p = take_past 65536 taken back p

pub in_front : (taken back : List ℕ) (head : RequestHead) (rest : List ℕ) → length taken ≤ 65536 → HasHead taken head rest → HasHead (take 65536 (taken ++ back)) head (rest ++ take (65536 - length taken) back)
in_front taken back head rest p h =
    subst (λ (x : List ℕ). HasHead x head (rest ++ take (65536 - length taken) back)) (sym (front_is taken back p)) (head_grows taken head rest (take (65536 - length taken) back) h)

pub never : (taken x : List ℕ) → NeverHasHead taken → NeverHasHead (taken ++ x)
never taken x o more h rest r = o (x ++ more) h rest (subst (λ (b : List ℕ). ReadsRequest b h rest) (append_assoc taken x more) r)

-- all bytes of a connection, of which some were taken
pub record Comes (old left : Option (List ℕ)) (taken : List ℕ) : Type 0 where
  pub came : List ℕ
  pub back : List ℕ
  pub all : IsAll old came
  pub split : came ≡ taken ++ back
  pub over : IsAtEnd left → back ≡ []

pub comes : (old left : Option (List ℕ)) (taken : List ℕ) → Consumes old left taken → Comes old left taken
comes None left taken c = record { came = taken; back = []; all = tt; split = sym (append-nil taken); over = λ _. refl }
comes (Some b) None taken c = absurd c
comes (Some b) (Some rest) taken c = record { came = b; back = rest; all = refl; split = c; over = λ e. e }

-- whatever is known of the bytes that were left, some bytes are all of them
pub any : (old : Option (List ℕ)) → (came : List ℕ) × IsAll old came
any None = ([], tt)
any (Some b) = (b, refl)

module _ (token : List ℕ) where
  -- a head that was taken decides
  by_taken : (k : Contents) (v : Verdict) (taken back : List ℕ) (head : RequestHead) (rest : List ℕ) → length taken ≤ 65536 → HasHead taken head rest
      → DecidesRest (HasFound k) (rest ++ back) (judge_head token head) v → Decides token (HasFound k) (taken ++ back) v
  by_taken k v taken back head rest p h d = by_head head (rest ++ take (65536 - length taken) back) (rest ++ back) (in_front taken back head rest p h) (head_grows taken head rest back h) d

  pub refused_at : (k : Contents) (taken back : List ℕ) (left : Option (List ℕ)) (r : Refusal) → length taken ≤ 65536 → IsHeadEnd token taken left (ends.Refused r)
      → Decides token (HasFound k) (taken ++ back) (Refuses r)
  refused_at k taken back left r p (inl (inl h)) = by_taken k (Refuses r) taken back h.0 h.1 p h.2 (refused r h.3 refl)
  refused_at k taken back left r p (inl (inr h)) =
      no_head (subst NeverHasHead (sym (front_is taken back p)) (never taken (take (65536 - length taken) back) h.0)) (ap Refuses h.1)
  refused_at k taken back left r p (inr h) =
      let e : take 65536 (taken ++ back) ≡ taken = take_at taken back 65536 h.1 in
      too_large (subst HasNoRequest (sym e) h.0) (let full = h.1 in omega (arith, length-append taken back)) (ap Refuses h.2)

  pub ended_at : (k : Contents) (taken back : List ℕ) → HasNoRequest taken → length taken < 65536 → back ≡ [] → Decides token (HasFound k) (taken ++ back) Ends
  ended_at k taken back none few over =
      let e : taken ++ back ≡ taken = ap (λ (x : List ℕ). taken ++ x) over ∙ append-nil taken in
      bytes_end (subst HasNoRequest (sym e) none) (rw e few) refl

  -- a head was taken, and some of its body
  module _ (taken more : List ℕ) (start count : ℕ) (few : length taken ≤ 65536) (takes : Takes token taken start count) where
    abbrev rest : List ℕ
    rest = drop start taken ++ more

    is_rest : drop start (taken ++ more) ≡ rest
    is_rest = drop-append-le start taken more takes.2

    long : length (taken ++ more) ≡ start + length rest
    long =
        let within : start ≤ length taken = takes.2 in
        let both : length (taken ++ more) ≡ length taken + length more = length-append taken more in
        let mine : length rest ≡ length (drop start taken) + length more = length-append (drop start taken) more in
        let left : length (drop start taken) ≡ length taken - start = length-drop start taken in
        omega (arith, within, both, mine, left)

    decides : (k : Contents) (v : Verdict) (back : List ℕ) → DecidesRest (HasFound k) (rest ++ back) (judge_head token takes.0) v → Decides token (HasFound k) ((taken ++ more) ++ back) v
    decides k v back d =
        let e : taken ++ (more ++ back) ≡ (taken ++ more) ++ back = sym (append_assoc taken more back) in
        let f : rest ++ back ≡ drop start taken ++ (more ++ back) = append_assoc (drop start taken) more back in
        subst (λ (x : List ℕ). Decides token (HasFound k) x v) e
        (by_taken k v taken (more ++ back) takes.0 (drop start taken) few takes.1 (subst (λ (x : List ℕ). DecidesRest (HasFound k) x (judge_head token takes.0) v) f d))

    pub short_at : (k : Contents) (back : List ℕ) → length (taken ++ more) < start + count → back ≡ [] → Decides token (HasFound k) ((taken ++ more) ++ back) Ends
    short_at k back less over =
        let e : rest ++ back ≡ rest = ap (λ (x : List ℕ). rest ++ x) over ∙ append-nil rest in
        decides k Ends back (short count takes.3 (rw e (omega (arith, long, less))) refl)

    pub undecided_at : length (taken ++ more) < start + count → IsUndecided token (taken ++ more)
    undecided_at less = in_body takes.0 rest count (head_grows taken takes.0 (drop start taken) more takes.1) takes.3 (omega (arith, long, less))

    body_is : (back body : List ℕ) → start + count ≤ length (taken ++ more) → body ≡ take count (drop start (taken ++ more)) → take count (rest ++ back) ≡ body
    body_is back body enough e =
        let fits : count ≤ length rest = omega (arith, long, enough) in
        take-append-le count rest back fits ∙ ap (take count) (sym is_rest) ∙ sym e

    whole_body : (k : Contents) (v : Verdict) (back body : List ℕ) → start + count ≤ length (taken ++ more) → body ≡ take count (drop start (taken ++ more)) → DecidesBody (HasFound k) body v
        → Decides token (HasFound k) ((taken ++ more) ++ back) v
    whole_body k v back body enough e d =
        let fits : count ≤ length (rest ++ back) = omega (arith, long, enough, length-append rest back) in
        decides k v back (whole count takes.3 fits (subst (λ (x : List ℕ). DecidesBody (HasFound k) x v) (sym (body_is back body enough e)) d))

    by_request : (k : Contents) (r : Refusal) (back body : List ℕ) (q : SyncRequest) → start + count ≤ length (taken ++ more) → body ≡ take count (drop start (taken ++ more)) → IsRequest body q
        → Refuses r ≡ judge_request q (found_in k q) → Decides token (HasFound k) ((taken ++ more) ++ back) (Refuses r)
    by_request k r back body q enough e b j = whole_body k (Refuses r) back body enough e (request q (found_in k q) b refl j)

    pub body_refused : (back body : List ℕ) (r : Refusal) → start + count ≤ length (taken ++ more) → body ≡ take count (drop start (taken ++ more)) → RefusesBody body r
        → ((k : Contents) → Decides token (HasFound k) ((taken ++ more) ++ back) (Refuses r)) ⊎ (r ≡ NoMemory)
    body_refused back body r enough e (out_of_memory n) = inr n
    body_refused back body r enough e (no_meaning f b n) = inl (λ k. whole_body k (Refuses r) back body enough e (no_request f b (ap Refuses n)))
    body_refused back body r enough e (encrypted q b t n) = inl (λ k. by_request k r back body q enough e b (ap Refuses n ∙ rw t refl))
    body_refused back body r enough e (without_since q b t z n) = inl (λ k. by_request k r back body q enough e b (ap Refuses n ∙ rw (t, z) refl))

    pub asks_at : (back body : List ℕ) (q : SyncRequest) → start + count ≤ length (taken ++ more) → body ≡ take count (drop start (taken ++ more)) → IsRequest body q → IsPlain q
        → (asks : AsksKeeper token ((taken ++ more) ++ back)) × (asks.request ≡ q)
    asks_at back body q enough e b p =
        let same : taken ++ (more ++ back) ≡ (taken ++ more) ++ back = sym (append_assoc taken more back) in (
          record {
            head = takes.0;
            more = drop start taken ++ take (65536 - length taken) (more ++ back);
            rest = rest ++ back;
            in_front = subst (λ (x : List ℕ). HasHead (take 65536 x) takes.0 (drop start taken ++ take (65536 - length taken) (more ++ back))) same (in_front taken (more ++ back) takes.0 (drop start taken) few takes.1);
            has = head_grows (taken ++ more) takes.0 rest back (head_grows taken takes.0 (drop start taken) more takes.1);
            n = count;
            takes = takes.3;
            whole = omega (arith, long, enough, length-append rest back);
            request = q;
            means = subst (λ (x : List ℕ). IsRequest x q) (sym (body_is back body enough e)) b;
            plain = p.plain;
            since = p.since;
          },
          refl,
        )

pub body_range : (xs ys : List ℕ) (start count : ℕ) → xs ≡ ys → slice_range xs start (start + count) ≡ take count (drop start ys)
body_range xs ys start count e =
    let n : start + count - start ≡ count = omega arith in
    ap₂ (λ (m : ℕ) (zs : List ℕ). take m (drop start zs)) n e
