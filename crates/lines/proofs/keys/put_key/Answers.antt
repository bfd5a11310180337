-- `lines::keys::put_key` meets its contract: i bytes are copied.
use Rattle.lines.proofs.Put.{copied_none, copied_more, copied_all}
use Rattle.lines.proofs.keys.put_key.Goals as goal

pub loop-i-init : goal.loop-i-init
loop-i-init c = copied_none c.args.output.now c.args.at c.part_of_row-text.result.now

pub loop-i-preserved : goal.loop-i-preserved
loop-i-preserved c = copied_more c.loop-i.invariant (rw c.part_of_row-text.ensures c.requires) c.loop-i-test.true

pub returns : goal.returns
returns c = rw c.part_of_row-text.ensures (rw c.part_of_row-text.ensures at (copied_all c.loop-i.invariant c.loop-i-test.false))
