use Rattle.std.proofs.Common.{arith, rules}
use Rattle.register.proofs.Streams.{consumed_next}
use Rattle.register.proofs.read_all.Goals as goal

pub loop-at-preserved : goal.loop-at-preserved
loop-at-preserved g c =
    let next = c.in_ok-next.ensures in
    (omega arith, search rules, consumed_next _ _ _ c.loop-at.at c.in_ok-next.next _ _ next.place.0 next.kept c.loop-at.invariant.2 next.bytes.0)
