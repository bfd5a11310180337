-- `texts::job::read_job` meets its contract: the default table has as many machines as the code says.
use Rattle.rules.specs.Words.{setup_by_default}
use Rattle.texts.proofs.job.read_job.Goals as goal

pub returns-clause-job : goal.returns-clause-job
unfolding setup_by_default
returns-clause-job c = c.read_job_over.ensures.job

pub returns-clause-count : goal.returns-clause-count
unfolding setup_by_default
returns-clause-count c = c.read_job_over.ensures.count
