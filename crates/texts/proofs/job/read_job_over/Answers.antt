-- `texts::job::read_job_over` meets its contract: the job is the one that stands in the lent place.
use Rattle.std.specs.Prelude.{Ok}
use Rattle.std.proofs.lemmas.Result.{err_from_is_err_and}
use Rattle.texts.proofs.JobLaws.{reads_counted}
use Rattle.texts.proofs.job.read_job_over.Goals as goal

pub returns-in_err-next-clause-count : goal.returns-in_err-next-clause-count
returns-in_err-next-clause-count c =
    let refusal = err_from_is_err_and c.from_residual.result c.from_residual.ensures.1 in
    reads_counted
    c.args.machines
    c.args.text.now
    c.from_residual.result
    (rw (refusal.1, refusal.2) (rw c.in_err-next.was at c.read_job_into.ensures.reads))

pub returns-clause-count : goal.returns-clause-count
returns-clause-count c =
    reads_counted
    c.args.machines
    c.args.text.now
    (Ok (record { value = c.read_job_into.new.job; next = c.in_ok-next.next }))
    (rw c.in_ok-next.was at c.read_job_into.ensures.reads)
