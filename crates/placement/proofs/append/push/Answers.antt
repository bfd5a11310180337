-- `placement::append::push` meets its contract: the span goes to the timeline, and the entry behind those of the rows before it.
use Rattle.std.proofs.Common.{arith}
use Rattle.placement.proofs.Pushing.{push_span, pushed_row}
use Rattle.placement.proofs.append.push.Goals as goal

pub insert-at-requires : goal.insert-at-requires
insert-at-requires c = (omega arith, push_span c.requires.pushable)

pub returns : goal.returns
returns c = pushed_row c.insert-at.ensures c.push.ensures.items
