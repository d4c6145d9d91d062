-- Connections that a server has served, one after the other, and what is written of them.
use Rattle.std.specs.Prelude.{◌≡◌, ℕ, ◌+◌, List, [], ◌∷◌, ◌++◌, map, drop, codes, Option, None, Some, ⊤}
use Rattle.std.specs.Fmt.{decimal}
use Rattle.budget_ports.specs.Connections.{next_bytes}
use Rattle.budget_ports.specs.Contents.{Contents, Text}
use Rattle.budget_ports.specs.Faults.{count_after}
use Rattle.sync_server.specs.declared.served.Served.{Served}
use Rattle.sync_server.specs.declared.served.Served.TheVariants.{Answered, Cut}
use Rattle.sync_server.specs.Serving.{Visit, IsServed, kept_after}
use Rattle.sync_server.specs.Outside.{HasFound}

-- a connection, and how it ended
pub record Turn : Type 0 where
  pub visit : Visit
  pub end : Served

-- they were served, the first over these contents and each later one over what the one before it left, as far as the keeper tells
abbrev pub AreServed : Type 0 → Text → Contents → List Turn → Type 0
AreServed tells token k [] = Unit {0}
AreServed tells token k (t ∷ ts) = IsServed token (λ q found. tells → HasFound k q found) t.visit t.end × AreServed tells token (kept_after t.visit.verdict k) ts

-- what is kept after them
abbrev pub kept_by : Contents → List Turn → Contents
kept_by k [] = k
kept_by k (t ∷ ts) = kept_by (kept_after t.visit.verdict k) ts

-- how often the keeper has failed after them, where it had failed so often before
abbrev pub keeper_faults_by : ℕ → List Turn → ℕ
keeper_faults_by faults [] = faults
keeper_faults_by faults (t ∷ ts) = keeper_faults_by (count_after t.visit.keeper_failed faults) ts

-- the same of the door: a connection fails at a read or a write, or when it is closed
abbrev pub door_faults_by : ℕ → List Turn → ℕ
door_faults_by faults [] = faults
door_faults_by faults (t ∷ ts) = door_faults_by (count_after t.visit.close_failed (count_after t.visit.door_failed faults)) ts

-- each of them was the next that waited, and these wait still. Past the last one that waited, one without bytes comes
abbrev pub AreNext : List (List ℕ) → List Turn → List (List ℕ) → Type 0
AreNext waited [] waiting = waiting ≡ waited
AreNext waited (t ∷ ts) waiting = (t.visit.came ≡ next_bytes waited) × AreNext (drop 1 waited) ts waiting

-- these came in through the door, in their order, as far as it is known who waited
abbrev pub ComeIn : Option (List (List ℕ)) → Option (List (List ℕ)) → List Turn → Type 0
ComeIn None new ts = ⊤
ComeIn (Some old) None ts = ⊥
ComeIn (Some old) (Some new) ts = AreNext old ts new

-- what was written to each went out, and nothing else, as far as it is known what was written
abbrev pub GoOut : Option (List (List ℕ)) → Option (List (List ℕ)) → List Turn → Type 0
GoOut None new ts = ⊤
GoOut (Some old) None ts = ⊥
GoOut (Some old) (Some new) ts = new ≡ old ++ map (λ t. t.visit.wrote) ts

-- ---- what is written of them

-- the word for how a connection ended: the status of its answer, or `cut`
abbrev pub end_text : Served → List ℕ
end_text (Answered status) = decimal status
end_text Cut = codes "cut"

-- the line of the connection with this number
abbrev pub end_line : ℕ → Served → List ℕ
end_line number end = decimal number ++ 32 ∷ (end_text end ++ 10 ∷ [])

-- the lines of connections, the first of which has this number
abbrev pub end_lines_from : ℕ → List Turn → List ℕ
end_lines_from number [] = []
end_lines_from number (t ∷ ts) = end_line number t.end ++ end_lines_from (number + 1) ts

-- the lines of connections, which are numbered from 1
abbrev pub end_lines : List Turn → List ℕ
end_lines ts = end_lines_from 1 ts
