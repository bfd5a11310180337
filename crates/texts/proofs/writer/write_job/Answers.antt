-- `texts::writer::write_job` meets its contract: the default table has as many machines as the code says.
use Rattle.rules.specs.Words.{setup_by_default}
use Rattle.texts.proofs.writer.write_job.Goals as goal

pub returns : goal.returns
unfolding setup_by_default
returns c = c.write_job_over.ensures
