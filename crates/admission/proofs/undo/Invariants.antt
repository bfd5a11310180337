use lib.ListN.{length}
use Rattle.admission.proofs.Undoing.{Undoing}
use Rattle.admission.proofs.undo.Given as goal

abbrev pub invariant-loop-entry : goal.invariant-loop-entry
invariant-loop-entry l = Undoing l.initial.line l.own.items l.line (length l.yielded)
