use Rattle.timeline.specs.Packing.{PackedIs}
use Rattle.timeline.proofs.columns.pack.Given as goal

abbrev pub invariant-loop-i : goal.invariant-loop-i
invariant-loop-i g l = PackedIs l.initial.values l.leaving.marks l.i l.values l.kept
