use lib.ListN.{take}
use Rattle.drcd.proofs.Waiting.{Waited}
use Rattle.drcd.proofs.order.waiting.Given as goal

abbrev pub invariant-loop-message : goal.invariant-loop-message
invariant-loop-message l = Waited l.spots (take l.message-index l.message-items) l.waits
