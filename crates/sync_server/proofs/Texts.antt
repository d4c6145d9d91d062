-- The replies to what is refused.
use Rattle.std.proofs.Common.{◌≡◌, ◌∙◌, ◌++◌, ℕ, List, length, codes, refl, ap, append_assoc}
use Rattle.std.specs.Fmt.{digits, decimal}
use Rattle.sync_server.specs.declared.refusal.Refusal.{Refusal}
use Rattle.sync_server.specs.declared.refusal.Refusal.TheVariants.{TooLarge, BadRequest, NotFound, MethodNotAllowed, LengthRequired, TokenNotFound, BadMessage, EncryptedMessage, SinceRequired, FileNotFound, FileHasReset, BadRecord, KeeperFault, NoMemory}
use Rattle.sync_server.specs.Replies.{refusal_bytes, accepted_bytes}
use Rattle.sync_server.specs.Texts.{text_of}

pub text_is : (refusal : Refusal) → text_of refusal ≡ refusal_bytes refusal
unfolding digits
text_is TooLarge = refl
text_is BadRequest = refl
text_is NotFound = refl
text_is MethodNotAllowed = refl
text_is LengthRequired = refl
text_is TokenNotFound = refl
text_is BadMessage = refl
text_is EncryptedMessage = refl
text_is SinceRequired = refl
text_is FileNotFound = refl
text_is FileHasReset = refl
text_is BadRecord = refl
text_is KeeperFault = refl
text_is NoMemory = refl

-- the head of a reply with a body of this length
abbrev pub head_of : ℕ → List ℕ
head_of n = codes "HTTP/1.1 " ++ (decimal 200 ++ (codes " OK\r\nContent-Type: application/actual-sync\r\nContent-Length: " ++ (decimal n ++ codes "\r\nConnection: close\r\n\r\n")))

pub head_then : (head body : List ℕ) (n : ℕ) → head ≡ head_of n → n ≡ length body → head ++ body ≡ accepted_bytes body
head_then head body n e long =
    ap (λ (x : List ℕ). x ++ body) (e ∙ ap head_of long)
    ∙ ap (λ (x : List ℕ). codes "HTTP/1.1 " ++ x)
    (append_assoc (decimal 200) (codes " OK\r\nContent-Type: application/actual-sync\r\nContent-Length: " ++ (decimal (length body) ++ codes "\r\nConnection: close\r\n\r\n")) body
    ∙ ap (λ (x : List ℕ). decimal 200 ++ (codes " OK\r\nContent-Type: application/actual-sync\r\nContent-Length: " ++ x)) (append_assoc (decimal (length body)) (codes "\r\nConnection: close\r\n\r\n") body))
