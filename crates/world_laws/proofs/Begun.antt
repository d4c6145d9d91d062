-- How a world begins.
use Rattle.std.proofs.Common.{◌≡◌, ℕ, ◌+◌, List, [], map, Some, slice_get, option_map, refl, ap, ◌∙◌, add-one}
use Rattle.std.proofs.lemmas.List.{length-map}
use Rattle.std.proofs.lemmas.Option.{slice_get-map}
use Rattle.device_core.specs.Device.{State, begun}
use Rattle.sync_world.specs.World.{start, device_of}
use Rattle.world_laws.specs.Begun.{IsNew, HasBegun}

new : (node : List ℕ) → IsNew node (begun node [])
new node = record { messages = refl; undo = refl; redo = refl; node = refl; millis = refl; counter = refl }

there : (nodes : List (List ℕ)) (i : ℕ) (node : List ℕ) → slice_get nodes i ≡ Some node → device_of (start nodes).devices (i + 1) ≡ Some (begun node [])
there nodes i node is =
    let f : List ℕ → State = λ n. begun n [] in
    ap (device_of (map f nodes)) (add-one i) ∙ slice_get-map f nodes i ∙ ap (option_map f) is

pub world_begun : (nodes : List (List ℕ)) → HasBegun nodes (start nodes)
world_begun nodes = record {
  count = length-map nodes (λ node. begun node []);
  devices = λ i node is. (begun node [], there nodes i node is, new node);
  server = refl;
  made = refl;
  acknowledged = refl;
  kept = refl;
  requests = refl;
  replies = refl;
}
