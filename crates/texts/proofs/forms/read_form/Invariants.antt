use Prim.Native.Nat.{◌-◌}
use lib.ListN.{length}
use Rattle.texts.proofs.Reading.{ReadTo}
use Rattle.texts.proofs.forms.read_form.Given as goal

abbrev pub invariant-loop-place : goal.invariant-loop-place
invariant-loop-place g l = ReadTo (g.L.FormLine.form l.machines) l.fn.first l.text l.initial.row l.place l.row l.at l.count

abbrev pub decreases-loop-place : goal.decreases-loop-place
decreases-loop-place g l = length l.text - l.at
