use Rattle.lines.proofs.Put.{Digits}
use Rattle.lines.proofs.figures.put_figure.Given as goal

abbrev pub invariant-loop-place : goal.invariant-loop-place
invariant-loop-place l = Digits l.initial.output l.at l.n l.output l.place l.rest
