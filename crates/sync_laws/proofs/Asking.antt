-- What a device asks, and the names of the texts of last syncs.
use Rattle.std.proofs.Common.{◌≡◌, ◌≢◌, ℕ, List, [], ◌∷◌, ◌++◌, refl, sym}
use Rattle.std.specs.List.{AllByRecursion}
use Rattle.sync_server.specs.Laws.{AnswersTell}
use Rattle.device_sync.specs.Requests.{request_of}
use Rattle.sync_laws.specs.Asking.{RequestsAsk, LastSyncsAreApart}

-- what is later than a text is told of what a server answers
pub requests_so : AnswersTell → RequestsAsk
requests_so law target since ms = record {
  exactly = λ m. law.exactly ms (request_of target since ms) m;
  in_order = law.in_order ms (request_of target since ms);
  from = refl;
  file = refl;
  group = refl;
  plain = refl;
}

-- a text without a slash, and what stands behind the first one
parted : (file other group rest : List ℕ) → AllByRecursion (λ b. b ≢ 47) file → AllByRecursion (λ b. b ≢ 47) other → file ++ 47 ∷ group ≡ other ++ 47 ∷ rest → (file ≡ other) × (group ≡ rest)
parted [] [] group rest plain bare e = (refl, cc)
parted [] (b ∷ other) group rest plain bare e = let same : 47 ≡ b = cc in absurd (bare.0 (sym same))
parted (a ∷ file) [] group rest plain bare e = let same : a ≡ 47 = cc in absurd (plain.0 same)
parted (a ∷ file) (b ∷ other) group rest plain bare e =
    let head : a ≡ b = cc in
    let tail : file ++ 47 ∷ group ≡ other ++ 47 ∷ rest = cc in
    let both = parted file other group rest plain.1 bare.1 tail in
    let rest_is = both.0 in
    (cc, both.1)

pub last_syncs_apart : LastSyncsAreApart
last_syncs_apart target other plain bare e =
    let same : target.file ++ 47 ∷ target.group ≡ other.file ++ 47 ∷ other.group = cc in
    parted target.file other.file target.group other.group plain bare same
