use Rattle.placement.proofs.Appending.{Appending}
use Rattle.placement.proofs.append.append.Given as goal

abbrev pub invariant-loop-i : goal.invariant-loop-i
invariant-loop-i l = Appending l.setup l.kept l.starts l.inputs.items l.fn.turn l.initial.line l.initial.own.items l.line l.own.items l.i
