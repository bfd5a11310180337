use mathlib.Core.Path.{◌≡◌}
use Prim.Native.Nat.{ℕ, ◌<◌}
use lib.ListN.{length, get_or}
use Rattle.rules.specs.Words.{most_machines, no_task}
use Rattle.texts.specs.JobText.{head_size, task_size, task_figures}
use Rattle.texts.proofs.Laid.{Laid}
use Rattle.texts.proofs.job.job_figures.Given as goal

abbrev pub invariant-loop-task : goal.invariant-loop-task
invariant-loop-task l = record {
  laid : Laid (task_figures l.machines) (task_size l.machines) l.initial.row head_size l.task-items l.row l.at l.task-index;
  runs_long : (i : ℕ) → i < l.task-index → length (get_or l.task-items i no_task).runs ≡ most_machines;
}
