-- `timeline::columns::insert_at` meets its contract: from i on all stand one place further.
use Rattle.timeline.proofs.Inserted.{shifted_none, shifted_more, shifted_put}
use Rattle.timeline.proofs.columns.insert_at.Goals as goal

pub loop-i-init : goal.loop-i-init
loop-i-init g c = shifted_none c.requires

pub loop-i-preserved : goal.loop-i-preserved
loop-i-preserved g c = shifted_more c.requires c.loop-i.invariant c.loop-i-test.true c.index-values-i.result c.index-values-i.is

pub returns : goal.returns
returns g c = shifted_put c.requires c.loop-i.invariant c.args.value c.loop-i-test.false
