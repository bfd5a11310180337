-- `texts::job_lines::after_run` meets its contract: each way out is an equation of forms.
use mathlib.Core.Path.{◌≡◌, refl}
use Prim.Native.Nat.{suc, ◌-◌}
use native.Mathlib.Omega.{arith}
use Rattle.texts.specs.JobText.{run_lines, tasks_lines}
use Rattle.texts.proofs.job_lines.after_run.Goals as goal

pub returns-then-tasks-ne0 : goal.returns-then-tasks-ne0
unfolding run_lines
returns-then-tasks-ne0 c machines =
    let n : suc (c.args.tasks - 1) ≡ c.args.tasks = omega arith in
    rw (c.if-runs-ne0.false, n) refl

pub returns : goal.returns
unfolding run_lines tasks_lines
returns c machines = rw (c.if-runs-ne0.false, c.if-tasks-ne0.false) refl
