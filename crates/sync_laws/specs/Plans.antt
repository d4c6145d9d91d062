-- How a device and a server find each other by their command lines.
use Rattle.std.specs.Prelude.{◌≡◌, List, ℕ, Some}
use Rattle.budget_ports.specs.Contents.{Contents}
use Rattle.field_merge.specs.declared.message.Message.{Message}
use Rattle.sync_server.specs.Serving.{found_in}
use Rattle.device_sync.specs.Requests.{request_of}
use Rattle.budget_top.specs.declared.words.Plan.{Plan}
use Rattle.budget_top.specs.DeviceRun.{target_of}
use Rattle.budget_top.specs.ServeRun.{with_file}

-- a device of one plan says the plan's own token, file and group
pub record IsOwnTarget (plan : Plan) : Type 0 where
  pub token : (target_of plan).token ≡ plan.token
  pub file : (target_of plan).file ≡ plan.file
  pub group : (target_of plan).group ≡ plan.group

pub record PlansMeet : Type 0 where
  pub own : (plan : Plan) → IsOwnTarget plan
  -- over what is kept when its first connection comes, the server of a plan has the group for which the device of a plan with the same file and
  -- group asks, whatever was kept before
  pub met : (plan other : Plan) (k : Contents) (since : List ℕ) (ms : List Message) → plan.file ≡ other.file → plan.group ≡ other.group
      → (found_in (with_file other k) (request_of (target_of plan) since ms)).group ≡ Some (request_of (target_of plan) since ms).group
