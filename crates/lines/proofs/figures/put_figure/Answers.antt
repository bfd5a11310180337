-- `lines::figures::put_figure` meets its contract: from `place` on the last digits stand, and those of `rest` are still to come.
use native.Mathlib.Omega.{arith}
use Rattle.lines.proofs.Put.{digits_more}
use Rattle.lines.proofs.figures.put_figure.Goals as goal

pub loop-place-preserved : goal.loop-place-preserved
loop-place-preserved c = rw c.digit.ensures (digits_more c.loop-place.invariant (omega arith) c.loop-place-test.true)
