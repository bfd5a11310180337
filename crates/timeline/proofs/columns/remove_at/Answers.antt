-- `timeline::columns::remove_at` meets its contract: from the index up to i each has gone one place back.
use native.Mathlib.Omega.{arith}
use Rattle.timeline.proofs.Closed.{closed_none, closed_more, closed_all}
use Rattle.timeline.proofs.columns.remove_at.Goals as goal

pub loop-i-init : goal.loop-i-init
loop-i-init g c = closed_none c.requires

pub loop-i-preserved : goal.loop-i-preserved
loop-i-preserved g c = closed_more c.requires c.loop-i.invariant (omega arith) c.loop-i-test.true c.index-values-i.result c.index-values-i.is

pub returns : goal.returns
returns g c = closed_all c.requires c.loop-i.invariant c.args.blank (omega arith)
