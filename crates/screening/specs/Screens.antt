-- Between functions: what the tests of a submission that read no row ask and answer, for every setup with so many machines.
use Rattle.std.specs.Prelude.{◌≡◌, Bool, false, ℕ, ◌≤◌, ◌<◌, get_or, Option, Result, Ok, Err}
use Rattle.rules.specs.declared.Job.{Job}
use Rattle.rules.specs.declared.Message.{Message}
use Rattle.rules.specs.declared.Setup.{Setup}
use Rattle.rules.specs.declared.Task.{Task}
use Rattle.rules.specs.declared.answers.Refusal.{Refusal}
use Rattle.rules.specs.Words.{horizon, largest_time, most_machines, most_tasks, task_of, View}
use Rattle.rules.specs.Answers.{refused, option_of}
use Rattle.rules.specs.Refusals.{task_out_of_range, out_of_range, message_out_of_range, infeasible, first_infeasible, submit_answer}
use Rattle.rules.specs.Demands.{InRange}

-- Ranges.

-- whichever task of whichever job it is
abbrev pub TaskOutsideIs : (machines : ℕ) → Task → Bool → Type 0
TaskOutsideIs machines task r =
    (s : Setup) (j : Job) (t : ℕ) → s.table.machines ≡ machines → task_of j t ≡ task → r ≡ task_out_of_range s j t

pub record AskFigures (machines : ℕ) (j : Job) : Type 0 where
  pub machines_at_most : machines ≤ most_machines
  pub tasks_at_most : j.taskcount ≤ most_tasks

abbrev pub OutOfRangeIs : (machines : ℕ) → Job → Bool → Type 0
OutOfRangeIs machines j r = (s : Setup) → s.table.machines ≡ machines → r ≡ out_of_range s j

abbrev pub MessageOutsideIs : (tasks : ℕ) → Message → Bool → Type 0
MessageOutsideIs tasks msg r = (j : Job) → j.taskcount ≡ tasks → r ≡ message_out_of_range j msg

-- the first of refusals 1 to 4 is the answer, whatever the clock and the rows
pub record Screens (s : Setup) (j : Job) (r : Result Unit Refusal) : Type 0 where
  pub answer_is : (why : Refusal) → r ≡ Err why → (v : View) → submit_answer s v j ≡ refused why
  pub in_range : r ≡ Ok tt → InRange s j

abbrev pub ScreenedIs : (machines : ℕ) → Job → Result Unit Refusal → Type 0
ScreenedIs machines j r = (s : Setup) → s.table.machines ≡ machines → Screens s j r

-- Feasibility, of tasks whose figures are in range.

pub record AskInfeasible (task : Task) (machines clock : ℕ) : Type 0 where
  pub machines_at_most : machines ≤ most_machines
  pub runs_at_most : (m : ℕ) → m < machines → get_or task.runs m 0 ≤ largest_time
  pub clock_at_most : clock ≤ horizon

abbrev pub InfeasibleIs : Task → (machines clock : ℕ) → Bool → Type 0
InfeasibleIs task machines clock r =
    (s : Setup) (j : Job) (t : ℕ) → s.table.machines ≡ machines → task_of j t ≡ task → r ≡ infeasible s clock j t

pub record AskInfeasibles (j : Job) (machines clock : ℕ) : Type 0 where
  pub setup : Setup
  pub machines_are : setup.table.machines ≡ machines
  pub machines_at_most : machines ≤ most_machines
  pub few : j.taskcount ≤ most_tasks
  pub figures : out_of_range setup j ≡ false
  pub clock_at_most : clock ≤ horizon

abbrev pub FirstIs : Job → (machines clock : ℕ) → Option ℕ → Type 0
FirstIs j machines clock r = (s : Setup) → s.table.machines ≡ machines → option_of r ≡ first_infeasible s clock j
