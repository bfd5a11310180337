-- `reservation::changes::with_rows` meets its contract: after i rows the slots hold the rows held and the first i of the job.
use Rattle.reservation.proofs.Joined.{joined_more, joined_all}
use Rattle.reservation.proofs.changes.with_rows.Goals as goal

pub loop-i-preserved : goal.loop-i-preserved
loop-i-preserved c = joined_more c.loop-i.invariant c.loop-i-test.true c.row.ensures

pub returns : goal.returns
returns c = joined_all c.loop-i.invariant c.loop-i-test.false
