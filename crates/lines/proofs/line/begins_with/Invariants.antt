use Rattle.lines.proofs.Begun.{Compared}
use Rattle.lines.proofs.line.begins_with.Given as goal

abbrev pub invariant-loop-i : goal.invariant-loop-i
invariant-loop-i l = Compared l.key l.text l.i
