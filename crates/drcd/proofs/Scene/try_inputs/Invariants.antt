use Rattle.drcd.proofs.TriedRows.{TriedSo}
use Rattle.drcd.proofs.Scene.try_inputs.Given as goal

abbrev pub invariant-loop-i : goal.invariant-loop-i
invariant-loop-i l = TriedSo l.self.setup.now l.self.inputs.now.items l.self.line.now l.self.turn l.machine l.tried l.starts l.arrived l.cost l.i
