-- `exports::register_write_job` meets its contract: the default table has as many machines as the code says.
use Rattle.rules.specs.Words.{setup_by_default}
use Rattle.exports.proofs.register_write_job.Goals as goal

pub returns-in-Ok : goal.returns-in-Ok
unfolding setup_by_default
returns-in-Ok c = c.in-Ok.ensures

pub returns-in-Err : goal.returns-in-Err
unfolding setup_by_default
returns-in-Err c = rw c.number.ensures c.in-Err.ensures
