-- `texts::job::task_at` meets its contract: the run times are copied from behind the task's two figures.
use native.Mathlib.Omega.{arith}
use Rattle.texts.proofs.Figured.{tasks_within, task_there}
use Rattle.texts.proofs.job.task_at.Goals as goal

pub returns : goal.returns
returns c =
    let few = c.requires.machines_at_most in
    task_there c.args.row.now _ c.args.machines few (omega (arith, tasks_within few c.requires.listed)) c.copy_from_slice.ensures.after
