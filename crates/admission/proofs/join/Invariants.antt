use Rattle.admission.proofs.Joining.{Joining}
use Rattle.admission.proofs.join.Given as goal

abbrev pub invariant-loop-i : goal.invariant-loop-i
invariant-loop-i l = Joining l.initial.timetable l.own.items l.held l.job l.last l.timetable l.i
