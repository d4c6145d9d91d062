-- The bytes of replies.
use Rattle.std.specs.Prelude.{ℕ, List, [], ◌∷◌, ◌++◌, length, codes, decimal, unwrap_or}
use Rattle.http.specs.StatusCode.{reason_phrase}
use Rattle.budget_ports.specs.declared.keeper.PortFault.{PortFault}
use Rattle.budget_ports.specs.declared.keeper.PortFault.TheVariants as faults
use Rattle.sync_server.specs.declared.refusal.Refusal.{Refusal}
use Rattle.sync_server.specs.declared.refusal.Refusal.TheVariants.{TooLarge, BadRequest, NotFound, MethodNotAllowed, LengthRequired, TokenNotFound, BadMessage, EncryptedMessage, SinceRequired, FileNotFound, FileHasReset, BadRecord, KeeperFault, NoMemory}

-- the status of a refusal
abbrev pub status_of : Refusal → ℕ
status_of TooLarge = 413
status_of BadRequest = 400
status_of NotFound = 404
status_of MethodNotAllowed = 405
status_of LengthRequired = 411
status_of TokenNotFound = 401
status_of BadMessage = 400
status_of EncryptedMessage = 400
status_of SinceRequired = 422
status_of FileNotFound = 400
status_of FileHasReset = 400
status_of BadRecord = 500
status_of KeeperFault = 503
status_of NoMemory = 507

-- its word
abbrev pub word_of : Refusal → List ℕ
word_of TooLarge = codes "too-large"
word_of BadRequest = codes "bad-request"
word_of NotFound = codes "not-found"
word_of MethodNotAllowed = codes "method-not-allowed"
word_of LengthRequired = codes "length-required"
word_of TokenNotFound = codes "token-not-found"
word_of BadMessage = codes "bad-message"
word_of EncryptedMessage = codes "encrypted-message"
word_of SinceRequired = codes "since-required"
word_of FileNotFound = codes "file-not-found"
word_of FileHasReset = codes "file-has-reset"
word_of BadRecord = codes "bad-record"
word_of KeeperFault = codes "keeper-fault"
word_of NoMemory = codes "no-memory"

-- the refusal for a fault of the keeper
abbrev pub refusal_of : PortFault → Refusal
refusal_of faults.Failed = KeeperFault
refusal_of faults.NoMemory = NoMemory

-- a reply: its head, which says of which kind its body is and how long, and the body
abbrev pub reply_bytes : ℕ → List ℕ → List ℕ → List ℕ
reply_bytes status kind body =
    codes "HTTP/1.1 " ++ (decimal status ++ (32 ∷ (unwrap_or (reason_phrase status) [] ++ (codes "\r\nContent-Type: " ++ (kind ++ (codes "\r\nContent-Length: " ++ (decimal (length body) ++ (codes "\r\nConnection: close\r\n\r\n" ++ body))))))))

-- the reply to a request that is refused
abbrev pub refusal_bytes : Refusal → List ℕ
refusal_bytes refusal = reply_bytes (status_of refusal) (codes "text/plain") (word_of refusal)

-- the reply to one that is not, with these bytes as its body
abbrev pub accepted_bytes : List ℕ → List ℕ
accepted_bytes body = reply_bytes 200 (codes "application/actual-sync") body
