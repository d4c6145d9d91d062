-- A keeper in memory.
use Rattle.std.specs.Prelude.{◌≡◌, ℕ, List, if◌then◌else◌, refl}
use Rattle.std.specs.Coded.{Coded, code_by, coded×, coded_list, coded_ℕ}
use Rattle.std.specs.FinMap.{FinMap}
use Rattle.std.specs.FinMap as map
use Rattle.budget_ports.specs.Calls.{CallState, is_listed, answered, failed}
use Rattle.budget_ports.specs.Contents.{Contents, Text, text_cmp, place_cmp}

-- what it holds, and its calls
pub record KeeperState : Type 0 where
  pub contents : Contents
  pub calls : CallState

-- a call was counted: it failed where it is listed
abbrev pub counted : CallState → CallState
counted calls = if is_listed calls then failed calls else answered calls

-- a stop leaves what it holds
abbrev pub holds : KeeperState → Contents → Type 0
holds state k = k ≡ state.contents

-- how a text is stored: as the list of its bytes
abbrev pub text_code : Coded Text
text_code = coded_list coded_ℕ

-- how records are stored: as a map from pairs of texts to texts
abbrev pub records_code : Coded (FinMap place_cmp Text)
records_code = map.code (coded× text_code text_code) text_code

-- how texts are stored: as a map from texts to texts
abbrev pub texts_code : Coded (FinMap text_cmp Text)
texts_code = map.code text_code text_code

-- how contents are stored: as the pair of both maps
abbrev pub contents_code : Coded Contents
contents_code =
    code_by (FinMap place_cmp Text × FinMap text_cmp Text) (coded× records_code texts_code)
    (λ k. (k.records, k.texts)) (λ p. record { records = p.0; texts = p.1 }) (λ _. refl)

-- how calls are stored: as the list of those that fail and both counts
abbrev pub calls_code : Coded CallState
calls_code =
    code_by (List ℕ × (ℕ × ℕ)) (coded× (coded_list coded_ℕ) (coded× coded_ℕ coded_ℕ))
    (λ c. (c.listed, (c.made, c.faults))) (λ p. record { listed = p.0; made = p.1.0; faults = p.1.1 }) (λ _. refl)

-- how a keeper in memory is stored: as the pair of its contents and its calls
abbrev pub state_code : Coded KeeperState
state_code =
    code_by (Contents × CallState) (coded× contents_code calls_code)
    (λ s. (s.contents, s.calls)) (λ p. record { contents = p.0; calls = p.1 }) (λ _. refl)
