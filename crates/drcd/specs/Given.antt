-- Between functions: a job in range, and what is known of the tasks placed so far.
use Rattle.std.specs.Prelude.{◌≡◌, List, ℕ, ◌-◌, get_or, Option, Some, None, is_some}
use Rattle.rules.specs.declared.Row.{Row}
use Rattle.rules.specs.declared.Job.{Job}
use Rattle.rules.specs.declared.Setup.{Setup}
use Rattle.rules.specs.Words.{most_tasks}
use Rattle.rules.specs.Placing.{placed, task_row, machine_for}
use Rattle.rules.specs.Bounds.{Between}
use Rattle.rules.specs.Demands.{InRange}
use Rattle.drcd.specs.declared.order.Spot.{Spot}

pub record SomeJob (j : Job) : Type 0 where
  pub setup : Setup
  pub range : InRange setup j

-- the spot of a task, by its number
abbrev pub spot_of : List (Option Spot) → ℕ → Option Spot
spot_of spots t = get_or spots (t - 1) None

-- what the spots say of the rows booked so far
pub record StandsFor (new : List Row) (spots : List (Option Spot)) : Type 0 where
  pub placed_is : (t : ℕ) → Between 1 most_tasks t → placed new t ≡ is_some (spot_of spots t)
  pub machine_is : (t : ℕ) (spot : Spot) → Between 1 most_tasks t → spot_of spots t ≡ Some spot → machine_for new t ≡ spot.machine
  pub finish_is : (t : ℕ) (spot : Spot) → Between 1 most_tasks t → spot_of spots t ≡ Some spot → (task_row new t).finish ≡ spot.finish
