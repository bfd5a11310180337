use Rattle.texts.proofs.Writing.{Measured}
use Rattle.texts.proofs.forms.measured.Given as goal

abbrev pub invariant-loop-figure : goal.invariant-loop-figure
invariant-loop-figure g l = Measured (g.L.FormLine.form l.machines) l.fn.first l.figures l.place l.figure-index l.length
