-- Between functions: what the choice among the machines asks and gives.
use Rattle.std.specs.Prelude.{◌≡◌, List, ℕ, ◌+◌, Option, Some, None}
use Rattle.std.proofs.Math.Option.{none, some}
use Rattle.rules.specs.declared.Row.{Row}
use Rattle.rules.specs.declared.Job.{Job}
use Rattle.rules.specs.declared.Setup.{Setup}
use Rattle.rules.specs.Placing.{Ground, try, choice}
use Rattle.timeline.specs.Spans.{Spans}
use Rattle.drcd.specs.declared.TaskTurn.{TaskTurn}
use Rattle.drcd.specs.declared.choice.Kept.{Kept}
use Rattle.drcd.specs.declared.inputs.Input.{Input}
use Rattle.drcd.specs.Trials.{Scene, IsTrial, AttemptBounds}

pub record AskChoose (s : Setup) (j : Job) (inputs : List Input) (line : Spans) (turn : TaskTurn) : Type 0 where
  pub ground : Ground
  pub new : List Row
  pub scene : Scene s j ground new inputs line turn

-- what is kept is the rules' choice: none, or the trial of that machine, with the starts of its messages
pub record IsKeptOf (s : Setup) (j : Job) (g : Ground) (new : List Row) (t : ℕ) (r : Option Kept) (starts : List (Option ℕ)) : Type 0 where
  pub none_found : r ≡ None → choice s g j new t ≡ none
  pub one_found :
      (kept : Kept) → r ≡ Some kept →
      (choice s g j new t ≡ some (try s g j new t kept.machine)) × IsTrial s j g new t kept.machine kept.best starts

pub record ChoiceIs (s : Setup) (j : Job) (inputs : List Input) (line : Spans) (turn : TaskTurn) (r : Option Kept) (starts : List (Option ℕ)) :
    Type 0 where
  pub bounds : (kept : Kept) → r ≡ Some kept → AttemptBounds kept.best
  pub is : (g : Ground) (new : List Row) → Scene s j g new inputs line turn → IsKeptOf s j g new (turn.t + 1) r starts
