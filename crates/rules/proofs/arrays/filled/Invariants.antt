use Rattle.rules.specs.Arrays.{MadeBy}
use Rattle.rules.proofs.arrays.filled.Given as goal

abbrev pub invariant-loop-i : goal.invariant-loop-i
invariant-loop-i g l = MadeBy (goal.F-post g l.item) g.T.Default.is_default g.row.N l.i l.items
