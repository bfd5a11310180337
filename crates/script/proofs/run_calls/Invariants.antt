use Prim.Native.Nat.{◌-◌}
use lib.ListN.{length}
use Rattle.script.proofs.Running.{Running}
use Rattle.script.proofs.run_calls.Given as goal

abbrev pub invariant-loop-at : goal.invariant-loop-at
invariant-loop-at l = Running l.input l.initial.output l.timetable l.at l.output l.end

abbrev pub decreases-loop-at : goal.decreases-loop-at
decreases-loop-at l = length l.input - l.at
