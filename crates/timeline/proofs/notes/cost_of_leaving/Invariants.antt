use Prim.Native.Nat.{◌-◌}
use lib.ListN.{length, take, drop}
use Rattle.timeline.proofs.Costed.{Costed}
use Rattle.timeline.proofs.notes.cost_of_leaving.Given as goal

abbrev pub invariant-loop-note : goal.invariant-loop-note
invariant-loop-note l =
    Costed
    (take (l.leaving.count - l.leaving.from) (drop l.leaving.from l.notes))
    (take (l.leaving.count - l.leaving.from) (drop l.leaving.from l.leaving.marks))
    (length l.yielded)
    l.cost
