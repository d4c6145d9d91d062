-- The heads of requests and of replies, as they are written, are read back.
use Rattle.std.proofs.Common.{◌≡◌, ◌∙◌, ℕ, ◌+◌, ◌-◌, ◌*◌, ◌^◌, ◌<◌, ◌≤◌, List, [], ◌∷◌, ◌++◌, length, map, reverse, Bool, true, false, cond, ◌&&◌, ◌==◌, nat_lt, Some, None, Result, Ok, Err, refl, sym, ap, subst, arith, append_assoc, codes, length-append}
use Rattle.std.specs.Prelude.{unwrap_or}
use Rattle.std.specs.Fmt.{digits, decimal}
use Rattle.std.specs.List.{list_all}
use Rattle.std.specs.Char.{is_ascii_digit, digit_value}
use Rattle.std.specs.Str.{bytes_eq}
use Rattle.std.specs.Str.Parse.{AllDigits, digits_value, digits_value_after}
use Rattle.std.proofs.lemmas.Bool.{and_parts, lt-ltb}
use Rattle.std.proofs.lemmas.Bool.Decides.{nat_tests}
use Rattle.std.proofs.lemmas.List.{reverse-append}
use Rattle.std.proofs.lemmas.Fmt.{decimal_is_IsNumeral, length-decimal-le}
use Rattle.std.proofs.lemmas.Str.Parse.{digit_from_value}
use Rattle.std.proofs.lemmas.Slice.Eq.{bytes_eq-Decides}
use Rattle.httparse.specs.Grammar.{is_token_byte, is_value_byte, RequestHead, ReadsRequest, ReadsResponse}
use Rattle.httparse.specs.Spans.{name_and_value}
use Rattle.http.specs.StatusCode.{reason_phrase}
use Rattle.http1.specs.Fields.{Header}
use Rattle.http1.specs.Head.{starts_visible, is_header, are_headers, head_refusal, is_status_line, is_request_line, print_headers, section_text, status_digits, request_head, response_head, request_text, response_text}
use Rattle.http1.proofs.HeadRoundTrip.{request_reads_back, response_reads_back}
use Rattle.http1.proofs.HeadLemmas.{request_text_is, response_text_is}
use Rattle.sync_server.specs.declared.refusal.Refusal.{Refusal}
use Rattle.sync_server.specs.declared.refusal.Refusal.TheVariants.{TooLarge}
use Rattle.sync_server.specs.Heads.{with_token, length_in, tells, judged, judge_head}
use Rattle.sync_server.specs.Replies.{reply_bytes}
use Rattle.device_sync.specs.Replies.{fits_length, IsReply}
use Rattle.device_sync.specs.Requests.{head_text}
use Rattle.device_sync.specs.Served.{begins_plain, FitsHead}

-- ---- numbers

is_digit : (c : ℕ) → digit_value c < 10 → is_ascii_digit c ≡ true
is_digit c h = let is = digit_from_value c h in grind (arith, nat_tests)

are_digits : (ds : List ℕ) → AllDigits 10 ds → list_all is_ascii_digit ds ≡ true
are_digits [] h = refl
are_digits (c ∷ cs) h = rw (is_digit c h.0) (are_digits cs h.1)

record SpellsNumber (n : ℕ) (ds : List ℕ) : Type 0 where
  some : 0 < length ds
  few : length ds ≤ 18
  digits : AllDigits 10 ds
  value : digits_value 10 ds ≡ n

spells : (n : ℕ) → n < 10 ^ 18 → SpellsNumber n (decimal n)
spells n small =
    let is = decimal_is_IsNumeral n (omega arith) in
    record { some = is.0.0; few = length-decimal-le 18 n (omega arith) small (omega arith); digits = is.0.1; value = is.1 }

-- ---- the value of a field

first_visible : (ds : List ℕ) → list_all is_ascii_digit ds ≡ true → starts_visible ds ≡ true
first_visible [] h = refl
first_visible (c ∷ cs) h = let is = (and_parts (is_ascii_digit c) (list_all is_ascii_digit cs) h).0 in grind (arith, nat_tests)

list_all-append : (p : ℕ → Bool) (xs ys : List ℕ) → list_all p xs ≡ true → list_all p ys ≡ true → list_all p (xs ++ ys) ≡ true
list_all-append p [] ys h k = k
list_all-append p (x ∷ xs) ys h k = let both = and_parts (p x) (list_all p xs) h in rw both.0 (list_all-append p xs ys both.1 k)

list_all-reverse : (p : ℕ → Bool) (xs : List ℕ) → list_all p xs ≡ true → list_all p (reverse xs) ≡ true
list_all-reverse p [] h = refl
list_all-reverse p (x ∷ xs) h = let both = and_parts (p x) (list_all p xs) h in
    subst (λ (l : List ℕ). list_all p l ≡ true) (sym (reverse-append (x ∷ []) xs)) (list_all-append p (reverse xs) (x ∷ []) (list_all-reverse p xs both.1) (rw both.0 refl))

digits_fit : (ds : List ℕ) → list_all is_ascii_digit ds ≡ true → list_all is_value_byte ds ≡ true
digits_fit [] h = refl
digits_fit (c ∷ cs) h =
    let both = and_parts (is_ascii_digit c) (list_all is_ascii_digit cs) h in
    let one : is_value_byte c ≡ true = let is = both.0 in grind (arith, nat_tests) in
    rw one (digits_fit cs both.1)

number_header : (name ds : List ℕ) → list_all is_ascii_digit ds ≡ true → is_header (name, ds) ≡ is_header (name, [])
number_header name ds h = rw (first_visible ds h, first_visible (reverse ds) (list_all-reverse is_ascii_digit ds h), digits_fit ds h) refl

-- ---- a reply

abbrev reply_headers : List ℕ → List ℕ → List Header
reply_headers kind body = (codes "Content-Type", kind) ∷ (codes "Content-Length", decimal (length body)) ∷ (codes "Connection", codes "close") ∷ []

pieces : (e c d f r k n body : List ℕ) → ((r ++ e) ++ ((c ++ (k ++ e)) ++ ((d ++ (n ++ e)) ++ f))) ++ body ≡ r ++ ((e ++ c) ++ (k ++ ((e ++ d) ++ (n ++ ((e ++ f) ++ body)))))
pieces e c d f r k n body = simp (append_assoc)

reply_pieces : (reason kind length_text body : List ℕ) → reason ++ (codes "\r\nContent-Type: " ++ (kind ++ (codes "\r\nContent-Length: " ++ (length_text ++ (codes "\r\nConnection: close\r\n\r\n" ++ body)))))
    ≡ ((reason ++ (13 ∷ 10 ∷ [])) ++ ((codes "Content-Type: " ++ (kind ++ (13 ∷ 10 ∷ []))) ++ ((codes "Content-Length: " ++ (length_text ++ (13 ∷ 10 ∷ []))) ++ codes "Connection: close\r\n\r\n"))) ++ body
reply_pieces reason kind length_text body = sym (pieces (13 ∷ 10 ∷ []) (codes "Content-Type: ") (codes "Content-Length: ") (codes "Connection: close\r\n\r\n") reason kind length_text body)

two_fields : (e c d f g k n : List ℕ) → ((c ++ (k ++ e)) ++ ((d ++ (n ++ e)) ++ f)) ++ g ≡ (c ++ (k ++ e)) ++ ((d ++ (n ++ e)) ++ (f ++ g))
two_fields e c d f g k n = simp (append_assoc)

headers_spelled : (line kind length_text : List ℕ) → line ++ ((codes "Content-Type: " ++ (kind ++ (13 ∷ 10 ∷ []))) ++ ((codes "Content-Length: " ++ (length_text ++ (13 ∷ 10 ∷ []))) ++ codes "Connection: close\r\n\r\n"))
    ≡ section_text line ((codes "Content-Type", kind) ∷ (codes "Content-Length", length_text) ∷ (codes "Connection", codes "close") ∷ [])
headers_spelled line kind length_text = ap (λ (l : List ℕ). line ++ l) (sym (two_fields (13 ∷ 10 ∷ []) (codes "Content-Type: ") (codes "Content-Length: ") (codes "Connection: close\r\n") (13 ∷ 10 ∷ []) kind length_text))

reply_spelled : (status : ℕ) (reason kind body : List ℕ) → decimal status ≡ status_digits status → unwrap_or (reason_phrase status) [] ≡ reason
    → reply_bytes status kind body ≡ response_text 1 status reason (reply_headers kind body) ++ body
reply_spelled status reason kind body same is =
    rw (same, is) (ap (λ (l : List ℕ). codes "HTTP/1.1 " ++ (status_digits status ++ (32 ∷ l))) (reply_pieces reason kind (decimal (length body)) body)
    ∙ ap (λ (l : List ℕ). l ++ body) (headers_spelled (codes "HTTP/1." ++ (49 ∷ 32 ∷ (status_digits status ++ (32 ∷ (reason ++ (13 ∷ 10 ∷ [])))))) kind (decimal (length body))
    ∙ response_text_is 1 status reason (reply_headers kind body)))

same_itself : (n : ℕ) → (n == n) ≡ true
same_itself n = grind (arith, nat_tests)

told_length : (n : ℕ) → n < 10 ^ 18 → length_in (decimal n) ≡ Some n
told_length n small =
    let it = spells n small in
    rw (lt-ltb 0 (length (decimal n)) it.some, lt-ltb (length (decimal n)) 19 (omega (arith, it.few)), are_digits (decimal n) it.digits) (ap Some it.value)

tells_itself : (n : ℕ) → n < 10 ^ 18 → tells n (decimal n) ≡ true
tells_itself n small = rw (told_length n small) (same_itself n)

fits_value : (kind body : List ℕ) → length body < 10 ^ 18 → list_all (fits_length (length body)) (reply_headers kind body) ≡ true
fits_value kind body small = rw (tells_itself (length body) small) refl

reply_fits : (status : ℕ) (reason kind body : List ℕ) → is_status_line 1 status reason ≡ true → is_header (codes "Content-Type", kind) ≡ true → length body < 10 ^ 18
    → head_refusal (is_status_line 1 status reason) (reply_headers kind body) ≡ None
unfolding are_headers is_token_byte
reply_fits status reason kind body line first small =
    let it = spells (length body) small in
    rw (line, first, number_header (codes "Content-Length") (decimal (length body)) (are_digits (decimal (length body)) it.digits)) refl

pub reply_reads : (status : ℕ) (reason kind body : List ℕ) → decimal status ≡ status_digits status → unwrap_or (reason_phrase status) [] ≡ reason → is_status_line 1 status reason ≡ true
    → is_header (codes "Content-Type", kind) ≡ true → length body < 10 ^ 18 → IsReply (reply_bytes status kind body) status body
reply_reads status reason kind body same is line first small =
    let back = response_reads_back 1 status reason (reply_headers kind body) body (reply_fits status reason kind body line first small) in record {
      head = response_head 1 status reason (reply_headers kind body);
      reads = subst (λ (z : List ℕ). ReadsResponse z (response_head 1 status reason (reply_headers kind body)) body) (sym (reply_spelled status reason kind body same is)) back.reads;
      few = omega arith;
      sized = subst (λ (hs : List Header). list_all (fits_length (length body)) hs ≡ true) (sym back.fields) (fits_value kind body small);
      status_is = sym back.code;
    }

-- ---- the replies of an honest server

pub answer_reads : (body : List ℕ) → length body < 10 ^ 18 → IsReply (reply_bytes 200 (codes "application/actual-sync") body) 200 body
unfolding digits is_token_byte
answer_reads body small = reply_reads 200 (codes "OK") (codes "application/actual-sync") body refl refl refl refl small

pub answer_length : (body : List ℕ) → length body ≤ length (reply_bytes 200 (codes "application/actual-sync") body)
unfolding digits
answer_length body = omega (arith, ap length (reply_spelled 200 (codes "OK") (codes "application/actual-sync") body refl refl), length-append (response_text 1 200 (codes "OK") (reply_headers (codes "application/actual-sync") body)) body)

pub too_large_reads : IsReply (reply_bytes 413 (codes "text/plain") (codes "too-large")) 413 (codes "too-large")
unfolding digits is_token_byte
too_large_reads = reply_reads 413 (codes "Payload Too Large") (codes "text/plain") (codes "too-large") refl refl refl refl (omega arith)

pub keeper_fault_reads : IsReply (reply_bytes 503 (codes "text/plain") (codes "keeper-fault")) 503 (codes "keeper-fault")
unfolding digits is_token_byte
keeper_fault_reads = reply_reads 503 (codes "Service Unavailable") (codes "text/plain") (codes "keeper-fault") refl refl refl refl (omega arith)

pub no_memory_reads : IsReply (reply_bytes 507 (codes "text/plain") (codes "no-memory")) 507 (codes "no-memory")
unfolding digits is_token_byte
no_memory_reads = reply_reads 507 (codes "Insufficient Storage") (codes "text/plain") (codes "no-memory") refl refl refl refl (omega arith)

-- ---- a request

abbrev pub request_fields : List ℕ → List ℕ → List Header
request_fields token length_text = (codes "Host", codes "localhost") ∷ (codes "Content-Type", codes "application/actual-sync") ∷ (codes "X-ACTUAL-TOKEN", token) ∷ (codes "Content-Length", length_text) ∷ (codes "Connection", codes "close") ∷ []

abbrev pub head_of : List ℕ → List ℕ → RequestHead
head_of token length_text = request_head (codes "POST") (codes "/sync/sync") 1 (request_fields token length_text)

request_pieces : (e c d f r n : List ℕ) → (c ++ (r ++ e)) ++ ((d ++ (n ++ e)) ++ f) ≡ c ++ (r ++ ((e ++ d) ++ (n ++ (e ++ f))))
request_pieces e c d f r n = simp (append_assoc)

request_spelled : (token : List ℕ) (size : ℕ) → head_text token size ≡ request_text (codes "POST") (codes "/sync/sync") 1 (request_fields token (decimal size))
unfolding head_text
request_spelled token size =
    ap (λ (l : List ℕ). codes "POST /sync/sync HTTP/1.1\r\nHost: localhost\r\nContent-Type: application/actual-sync\r\n" ++ l)
    (sym (request_pieces (13 ∷ 10 ∷ []) (codes "X-ACTUAL-TOKEN: ") (codes "Content-Length: ") (codes "Connection: close\r\n\r\n") token (decimal size)) ∙ rest)
    ∙ request_text_is (codes "POST") (codes "/sync/sync") 1 (request_fields token (decimal size))
  where
    rest : (codes "X-ACTUAL-TOKEN: " ++ (token ++ (13 ∷ 10 ∷ []))) ++ ((codes "Content-Length: " ++ (decimal size ++ (13 ∷ 10 ∷ []))) ++ codes "Connection: close\r\n\r\n")
        ≡ print_headers ((codes "X-ACTUAL-TOKEN", token) ∷ (codes "Content-Length", decimal size) ∷ (codes "Connection", codes "close") ∷ []) ++ (13 ∷ 10 ∷ [])
    rest = sym (two_fields (13 ∷ 10 ∷ []) (codes "X-ACTUAL-TOKEN: ") (codes "Content-Length: ") (codes "Connection: close\r\n") (13 ∷ 10 ∷ []) token (decimal size))

visible : (bs : List ℕ) → starts_visible bs ≡ begins_plain bs
visible [] = refl
visible (b ∷ bs) = refl

token_header : (token : List ℕ) → FitsHead token → is_header (codes "X-ACTUAL-TOKEN", token) ≡ true
unfolding is_token_byte
token_header token fits = rw (visible token ∙ fits.first, visible (reverse token) ∙ fits.last, fits.plain) refl

request_fits : (token : List ℕ) (size : ℕ) → FitsHead token → size < 10 ^ 18 → head_refusal (is_request_line (codes "POST") (codes "/sync/sync") 1) (request_fields token (decimal size)) ≡ None
unfolding are_headers is_token_byte
request_fits token size fits small =
    let it = spells size small in
    rw (token_header token fits, number_header (codes "Content-Length") (decimal size) (are_digits (decimal size) it.digits)) refl

pub record ReadsBack (token : List ℕ) (size : ℕ) (body : List ℕ) : Type 0 where
  pub reads : ReadsRequest (head_text token size ++ body) (head_of token (decimal size)) body
  pub fields : map name_and_value (head_of token (decimal size)).fields ≡ request_fields token (decimal size)

pub request_reads : (token : List ℕ) (size : ℕ) (body : List ℕ) → FitsHead token → size < 10 ^ 18 → ReadsBack token size body
request_reads token size body fits small =
    let back = request_reads_back (codes "POST") (codes "/sync/sync") 1 (request_fields token (decimal size)) body (request_fits token size fits small) in record {
      reads = subst (λ (z : List ℕ). ReadsRequest (z ++ body) (head_of token (decimal size)) body) (sym (request_spelled token size)) back.reads;
      fields = back.fields;
    }

itself : (b : List ℕ) → bytes_eq b b ≡ true
itself b = (bytes_eq-Decides b b).1 refl

-- a body of this length is taken, or it is too large
unfoldable pub taken_or_not : ℕ → Result ℕ Refusal
taken_or_not size = cond (nat_lt 67108864 size) (Err TooLarge) (Ok size)

with_right : (b : Bool) (n : ℕ) → with_token true (cond b (Err TooLarge) (Ok n)) ≡ cond b (Err TooLarge) (Ok n)
with_right true n = refl
with_right false n = refl

judges : (token : List ℕ) (size : ℕ) → size < 10 ^ 18 → judged token (codes "/sync/sync") (codes "POST") (request_fields token (decimal size)) ≡ taken_or_not size
unfolding taken_or_not
judges token size small =
    rw (itself token, told_length size small) (with_right (nat_lt 67108864 size) size)

-- so the head of a request is judged
pub head_judged : (token : List ℕ) (size : ℕ) (body : List ℕ) → size < 10 ^ 18 → ReadsBack token size body → judge_head token (head_of token (decimal size)) ≡ taken_or_not size
head_judged token size body small back =
    subst (λ (fs : List Header). judged token (codes "/sync/sync") (codes "POST") fs ≡ taken_or_not size) (sym back.fields) (judges token size small)
