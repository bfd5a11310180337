-- `script::acts::submit_act` meets its contract: the default table has as many machines as the code says, and a job that was read ends within the text.
use mathlib.Core.Path.{ap}
use lib.ListN.{drop}
use Rattle.std.proofs.Common.{arith}
use Rattle.std.proofs.lemmas.List.{take_rest}
use Rattle.std.proofs.lemmas.Result.{err_from_is_err_and}
use Rattle.rules.specs.Words.{setup_by_default}
use Rattle.rules.specs.Refusals.{submits}
use Rattle.texts.specs.Reader.{default_machines, Reads, with_job}
use Rattle.script.specs.Acts.{as_act}
use Rattle.script.proofs.Acted.{job_within}
use Rattle.script.proofs.acts.submit_act.Goals as goal
use Rattle.script.proofs.acts.submit_act.Goals.{After-read_job_into}

-- what was read is the text's job
read : (c : After-read_job_into) → Reads default_machines (drop c.args.from c.args.input.now) (with_job c.read_job_into.new.job c.read_job_into.result)
unfolding setup_by_default
read c = simp take_rest at c.read_job_into.ensures.reads

pub overflow_add-result : goal.overflow_add-result
overflow_add-result c =
    let p = (goal.at.overflow_add-result c).After-read_job_into in
    omega (arith, job_within c.args.input.now c.args.from (rw c.in_ok-next.was at (read p)) c.requires, c.well_formed)

pub returns-in_err-next : goal.returns-in_err-next
returns-in_err-next c =
    let p = (goal.at.returns-in_err-next c).After-read_job_into in
    let stop = err_from_is_err_and c.from_residual.result c.from_residual.ensures.1 in
    rw (stop.1, stop.2) (ap (as_act submits c.args.from) (rw c.in_err-next.was at (read p)))

pub returns : goal.returns
returns c =
    let p = (goal.at.returns c).After-read_job_into in
    ap (as_act submits c.args.from) (rw c.in_ok-next.was at (read p))
