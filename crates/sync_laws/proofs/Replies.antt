-- The status of a reply stands in it.
use Rattle.std.proofs.Common.{◌≡◌, ◌∙◌, ℕ, List, ◌∷◌, ◌++◌, codes, decimal, refl, sym, ap}
use Rattle.sync_wire.specs.Canon.{response_bytes}
use Rattle.sync_server.specs.Answer.{answer_of}
use Rattle.sync_server.specs.Replies.{word_of, reply_bytes}
use Rattle.sync_server.specs.Serving.{Verdict, Ends, Refuses, Accepts, HasStatus, reply_of, answered}
use Rattle.sync_laws.specs.Server.{StatusesAreWritten}

begins : (status : ℕ) (kind body : List ℕ) → (rest : List ℕ) × (reply_bytes status kind body ≡ codes "HTTP/1.1 " ++ (decimal status ++ 32 ∷ rest))
begins status kind body = (_, refl)

pub statuses : StatusesAreWritten
statuses token k visit status (answered told means has wrote door) = by visit.verdict refl has
  where
    by : (v : Verdict) → visit.verdict ≡ v → HasStatus v status → (rest : List ℕ) × (visit.wrote ≡ codes "HTTP/1.1 " ++ (decimal status ++ 32 ∷ rest))
    by Ends is h = absurd h
    by (Refuses refusal) is h =
        let b = begins status (codes "text/plain") (word_of refusal) in
        (b.0, wrote ∙ ap reply_of is ∙ ap (λ (n : ℕ). reply_bytes n (codes "text/plain") (word_of refusal)) (sym h) ∙ b.1)
    by (Accepts ms q) is h =
        let b = begins status (codes "application/actual-sync") (response_bytes (answer_of ms q)) in
        (b.0, wrote ∙ ap reply_of is ∙ ap (λ (n : ℕ). reply_bytes n (codes "application/actual-sync") (response_bytes (answer_of ms q))) (sym h) ∙ b.1)
