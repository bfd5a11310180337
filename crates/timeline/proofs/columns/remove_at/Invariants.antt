use Rattle.timeline.proofs.Closed.{Closed}
use Rattle.timeline.proofs.columns.remove_at.Given as goal

abbrev pub invariant-loop-i : goal.invariant-loop-i
invariant-loop-i g l = Closed l.initial.values l.at l.values l.i
