-- How a world begins.
use Rattle.std.specs.Prelude.{◌≡◌, ℕ, ◌+◌, List, [], length, Some}
use Rattle.std.specs.List.{slice_get}
use Rattle.device_core.specs.Device.{State}
use Rattle.sync_world.specs.World.{WorldState, device_of}

-- a device of this node, without messages, with nothing to undo or redo, and with its clock at the start of 1970
pub record IsNew (own : List ℕ) (s : State) : Type 0 where
  pub messages : s.messages ≡ []
  pub undo : s.history.undo ≡ []
  pub redo : s.history.redo ≡ []
  pub node : s.clock.node ≡ own
  pub millis : s.clock.millis ≡ 0
  pub counter : s.clock.counter ≡ 0

-- a world of a new device of each of these nodes, in which nothing has happened
pub record HasBegun (nodes : List (List ℕ)) (w : WorldState) : Type 0 where
  -- as many devices as nodes, in their order; devices are counted from 1
  pub count : length w.devices ≡ length nodes
  pub devices : (i : ℕ) (node : List ℕ) → slice_get nodes i ≡ Some node → (s : State) × (device_of w.devices (i + 1) ≡ Some s) × IsNew node s
  -- the server has no messages
  pub server : w.server ≡ []
  -- nothing was made, and nothing acknowledged, by a device or by the server
  pub made : w.made ≡ []
  pub acknowledged : w.acknowledged ≡ []
  pub kept : w.kept ≡ []
  -- nothing was sent
  pub requests : w.requests ≡ []
  pub replies : w.replies ≡ []
