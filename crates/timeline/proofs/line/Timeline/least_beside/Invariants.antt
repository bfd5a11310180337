use Prim.Native.Nat.{◌-◌}
use Rattle.timeline.specs.Timeline.{tick_limit}
use Rattle.timeline.proofs.Agreeing.{Turned}
use Rattle.timeline.proofs.line.Timeline.least_beside.Given as goal

abbrev pub invariant-loop-found : goal.invariant-loop-found
invariant-loop-found g l =
    Turned l.self l.other l.sought.resource l.sought.len l.initial.found l.found l.again

abbrev pub decreases-loop-found : goal.decreases-loop-found
decreases-loop-found g l = tick_limit - l.found
