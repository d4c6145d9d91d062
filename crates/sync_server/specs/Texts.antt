-- The replies to what is refused, as they are written.
use Rattle.std.specs.Prelude.{ℕ, List, codes}
use Rattle.sync_server.specs.declared.refusal.Refusal.{Refusal}
use Rattle.sync_server.specs.declared.refusal.Refusal.TheVariants.{TooLarge, BadRequest, NotFound, MethodNotAllowed, LengthRequired, TokenNotFound, BadMessage, EncryptedMessage, SinceRequired, FileNotFound, FileHasReset, BadRecord, KeeperFault, NoMemory}

abbrev pub text_of : Refusal → List ℕ
text_of TooLarge = codes "HTTP/1.1 413 Payload Too Large\r\nContent-Type: text/plain\r\nContent-Length: 9\r\nConnection: close\r\n\r\ntoo-large"
text_of BadRequest = codes "HTTP/1.1 400 Bad Request\r\nContent-Type: text/plain\r\nContent-Length: 11\r\nConnection: close\r\n\r\nbad-request"
text_of NotFound = codes "HTTP/1.1 404 Not Found\r\nContent-Type: text/plain\r\nContent-Length: 9\r\nConnection: close\r\n\r\nnot-found"
text_of MethodNotAllowed = codes "HTTP/1.1 405 Method Not Allowed\r\nContent-Type: text/plain\r\nContent-Length: 18\r\nConnection: close\r\n\r\nmethod-not-allowed"
text_of LengthRequired = codes "HTTP/1.1 411 Length Required\r\nContent-Type: text/plain\r\nContent-Length: 15\r\nConnection: close\r\n\r\nlength-required"
text_of TokenNotFound = codes "HTTP/1.1 401 Unauthorized\r\nContent-Type: text/plain\r\nContent-Length: 15\r\nConnection: close\r\n\r\ntoken-not-found"
text_of BadMessage = codes "HTTP/1.1 400 Bad Request\r\nContent-Type: text/plain\r\nContent-Length: 11\r\nConnection: close\r\n\r\nbad-message"
text_of EncryptedMessage = codes "HTTP/1.1 400 Bad Request\r\nContent-Type: text/plain\r\nContent-Length: 17\r\nConnection: close\r\n\r\nencrypted-message"
text_of SinceRequired = codes "HTTP/1.1 422 Unprocessable Entity\r\nContent-Type: text/plain\r\nContent-Length: 14\r\nConnection: close\r\n\r\nsince-required"
text_of FileNotFound = codes "HTTP/1.1 400 Bad Request\r\nContent-Type: text/plain\r\nContent-Length: 14\r\nConnection: close\r\n\r\nfile-not-found"
text_of FileHasReset = codes "HTTP/1.1 400 Bad Request\r\nContent-Type: text/plain\r\nContent-Length: 14\r\nConnection: close\r\n\r\nfile-has-reset"
text_of BadRecord = codes "HTTP/1.1 500 Internal Server Error\r\nContent-Type: text/plain\r\nContent-Length: 10\r\nConnection: close\r\n\r\nbad-record"
text_of KeeperFault = codes "HTTP/1.1 503 Service Unavailable\r\nContent-Type: text/plain\r\nContent-Length: 12\r\nConnection: close\r\n\r\nkeeper-fault"
text_of NoMemory = codes "HTTP/1.1 507 Insufficient Storage\r\nContent-Type: text/plain\r\nContent-Length: 9\r\nConnection: close\r\n\r\nno-memory"
