-- `due` of a job's line meets its contract: the line is the one that the form asks.
use mathlib.Core.Path.{ap}
use Rattle.texts.specs.JobText.{run_lines, tasks_lines, messages_lines}
use Rattle.texts.specs.Stages.{job_at}
use Rattle.texts.proofs.JobForm.{due_is}
use Rattle.texts.proofs.job_lines.JobLineFormLine.due.Goals as goal

pub returns-in-Deadline : goal.returns-in-Deadline
unfolding tasks_lines
returns-in-Deadline c machines = due_is (ap (job_at machines) c.in-Deadline.is) c.any_figure-in-Deadline.ensures

pub returns-in-Run : goal.returns-in-Run
unfolding run_lines
returns-in-Run c machines = due_is (ap (job_at machines) c.in-Run.is) c.any_figure-in-Run.ensures

pub returns-in-From : goal.returns-in-From
unfolding messages_lines
returns-in-From c machines = due_is (ap (job_at machines) c.in-From.is) c.any_figure-in-From.ensures
