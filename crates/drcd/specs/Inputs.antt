-- Between functions: the messages into the task of a turn.
use Rattle.std.specs.Prelude.{◌≡◌, ℕ, ◌+◌, ◌<◌, Option, IsSome}
use mathlib.Core.List.{List, map, Memᴰ}
use Rattle.rules.specs.declared.Row.{Row}
use Rattle.rules.specs.declared.Message.{Message}
use Rattle.rules.specs.declared.Job.{Job}
use Rattle.rules.specs.Placing.{task_row, machine_for, into}
use Rattle.drcd.specs.declared.inputs.Input.{Input}
use Rattle.drcd.specs.declared.order.Spot.{Spot}
use Rattle.drcd.specs.Given.{SomeJob, StandsFor, spot_of}

-- what is known of a message beside the rows booked so far
abbrev pub input_of : List Row → Message → Input
input_of new msg = record {
  sender = msg.sender;
  source = machine_for new msg.sender;
  done = (task_row new msg.sender).finish;
  volume = msg.volume;
}

-- the inputs are those of the messages into a task, in their order
abbrev pub InputsOf : Job → (new : List Row) → (t : ℕ) → List Input → Type 0
InputsOf j new t inputs = inputs ≡ map (input_of new) (into j t)

pub record AskGather (j : Job) (t : ℕ) (spots : List (Option Spot)) : Type 0 where
  pub job : SomeJob j
  pub listed : t < j.taskcount

-- the sender of each of these messages has a spot
abbrev pub SendersPlaced : List (Option Spot) → List Message → Type 0
SendersPlaced spots msgs = (msg : Message) → Memᴰ msg msgs → IsSome (spot_of spots msg.sender)

abbrev pub GatheredIs : Job → (t : ℕ) → List (Option Spot) → List Input → Type 0
GatheredIs j t spots inputs = (new : List Row) → StandsFor new spots → SendersPlaced spots (into j (t + 1)) → InputsOf j new (t + 1) inputs
