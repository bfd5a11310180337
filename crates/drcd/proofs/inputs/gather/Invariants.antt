use Prim.Native.Nat.{◌+◌}
use lib.ListN.{take}
use Rattle.drcd.proofs.Gathered.{Gathered}
use Rattle.drcd.proofs.inputs.gather.Given as goal

abbrev pub invariant-loop-message : goal.invariant-loop-message
invariant-loop-message l = Gathered (l.t + 1) l.spots (take l.message-index l.message-items) l.inputs.items
