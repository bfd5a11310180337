use Rattle.timeline.proofs.Inserted.{Shifted}
use Rattle.timeline.proofs.columns.insert_at.Given as goal

abbrev pub invariant-loop-i : goal.invariant-loop-i
invariant-loop-i g l = Shifted l.initial.values l.count l.at l.values l.i
