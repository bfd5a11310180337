-- Between functions: which tasks wait, and which is next.
use Rattle.std.specs.Prelude.{◌≡◌, Bool, false, not, List, ℕ, ◌<◌, ◌+◌, get_or, Option, Some, None}
use Rattle.std.proofs.Math.Option.{none, some}
use Rattle.std.proofs.Math.Option as Rules
use Rattle.rules.specs.declared.Row.{Row}
use Rattle.rules.specs.declared.Job.{Job}
use Rattle.rules.specs.Sequences.{all_of}
use Rattle.rules.specs.Placing.{placed, into, next_task}
use Rattle.drcd.specs.declared.order.Spot.{Spot}
use Rattle.drcd.specs.Given.{StandsFor}

-- for each task, by its index, whether some message into it has a sender that is not placed
abbrev pub WaitsIs : Job → List (Option Spot) → List Bool → Type 0
WaitsIs j spots waits =
    (new : List Row) → StandsFor new spots → (t : ℕ) → t < j.taskcount →
    get_or waits t false ≡ not (all_of (λ msg. placed new msg.sender) (into j (t + 1)))

-- the task at an index, by its number
abbrev pub task_named : Option ℕ → Rules.Option ℕ
task_named None = none
task_named (Some t) = some (t + 1)

abbrev pub NextReadyIs : Job → List (Option Spot) → Option ℕ → Type 0
NextReadyIs j spots r = (new : List Row) → StandsFor new spots → task_named r ≡ next_task j new
