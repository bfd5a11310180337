-- `after` of a job's line meets its contract: each arm is an equation of forms.
use mathlib.Core.Path.{◌≡◌, refl, ap}
use Prim.Native.Nat.{suc, ◌-◌, ◌≤◌}
use native.Mathlib.Omega.{arith}
use Rattle.rules.specs.Words.{most_tasks}
use Rattle.lines.specs.Figures.{bytes}
use Rattle.texts.specs.JobText.{run_lines, tasks_lines, messages_lines}
use Rattle.texts.specs.Stages.{job_at}
use Rattle.texts.proofs.Staged.{goes_on}
use Rattle.texts.proofs.JobForm.{taken_between}
use Rattle.texts.proofs.job_lines.JobLineFormLine.after.Goals as goal
use Rattle.texts.proofs.job_lines.JobLineFormLine.after.Goals.{In-Tasks}

-- there is a task
some_task : (c : In-Tasks) → 1 ≤ c.args.figure
some_task c =
    (taken_between (bytes "tasks=") 1 most_tasks c.args.figure (c.requires.taken _ _ (ap (job_at c.args.machines) c.in-Tasks.is))).0

pub overflow_sub-result : goal.overflow_sub-result
overflow_sub-result c = some_task (goal.at.overflow_sub-result c).In-Tasks

pub returns-in-Tasks : goal.returns-in-Tasks
returns-in-Tasks c =
    let some = some_task (goal.at.returns-in-Tasks c).In-Tasks in
    let n : suc (c.args.figure - 1) ≡ c.args.figure = omega arith in
    goes_on (ap (job_at c.args.machines) c.in-Tasks.is) (rw n refl)

pub returns-in-Deadline : goal.returns-in-Deadline
unfolding tasks_lines
returns-in-Deadline c = goes_on (ap (job_at _) c.in-Deadline.is) refl

pub returns-in-Run : goal.returns-in-Run
unfolding run_lines
returns-in-Run c = goes_on (ap (job_at _) c.in-Run.is) (c.after_run.ensures _)

pub returns-in-Messages : goal.returns-in-Messages
returns-in-Messages c = goes_on (ap (job_at _) c.in-Messages.is) (c.with_messages.ensures _)

pub returns-in-From : goal.returns-in-From
unfolding messages_lines
returns-in-From c = goes_on (ap (job_at _) c.in-From.is) refl

pub returns-in-Volume : goal.returns-in-Volume
returns-in-Volume c = goes_on (ap (job_at _) c.in-Volume.is) (c.with_messages-in-Volume.ensures _)
