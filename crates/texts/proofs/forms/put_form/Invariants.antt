use Rattle.texts.proofs.Writing.{Wrote}
use Rattle.texts.proofs.forms.put_form.Given as goal

abbrev pub invariant-loop-figure : goal.invariant-loop-figure
invariant-loop-figure g l = Wrote (g.L.FormLine.form l.machines) l.fn.first l.figures l.place l.figure-index l.initial.output l.output l.at
