-- The verticles that passes hold: each was handed out with a task, and is given back as that is finished.
use Rattle.std.specs.Prelude.{◌≡◌, ℕ, nat_eq, ℤ, List, Option, is_some}
use Rattle.std.specs.Map.{lookup}
use Rattle.std.specs.Option.{option_map}
use Rattle.vx_data.specs.declared.ids.PassNo.{PassNo}
use Rattle.vx_call.specs.declared.history.Traced.{Traced}
use Rattle.vx_hub.specs.Stands.{StandsFor}
use Rattle.vx_hub.specs.Stores.{HubStore}
use Rattle.vx_instances.specs.Instances.{gave}
use Rattle.vx_kinds.specs.declared.host.HostVerticle.{HostVerticle}
use Rattle.vx_kinds.specs.Hosts.{state_in}
use Rattle.vx_script.specs.Playing.{state_held}

-- the verticles by their passes' numbers, and how many more can be held without taking memory
pub record HeldStore : Type 0 where
  pub verticles : List (ℕ × HostVerticle)
  pub room : ℕ

-- the verticle that a pass holds
abbrev pub verticle_of : PassNo → List (ℕ × HostVerticle) → Option HostVerticle
verticle_of pass verticles = lookup (nat_eq pass.0) verticles

-- its state
abbrev pub kept_state : PassNo → List (ℕ × HostVerticle) → Option (List ℤ)
kept_state pass verticles = option_map state_in (verticle_of pass verticles)

-- Each pass holds the verticle that was handed out to it, with the state that the history says.
pub record AreHeld (verticles : List (ℕ × HostVerticle)) (history : List Traced) : Type 0 where
  pub each : (pass : PassNo) → kept_state pass verticles ≡ state_held history pass
  pub given : (pass : PassNo) → is_some (state_held history pass) ≡ gave history pass

-- The hub stands for a history, and what passes hold is what that history says.
pub record Plays (hub : HubStore) (verticles : List (ℕ × HostVerticle)) (history : List Traced) : Type 0 where
  pub stands : StandsFor hub history
  pub held : AreHeld verticles history
