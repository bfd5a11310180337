-- `timeline::columns::pack` meets its contract: of the first i entries those that stay stand at the front, and from i on all are as before.
use native.Mathlib.Omega.{arith}
use Rattle.timeline.proofs.Packed.{packed_none, packed_goes, packed_stays}
use Rattle.timeline.proofs.columns.pack.Goals as goal
use Rattle.timeline.proofs.columns.pack.Goals.{then-not-leaving-i, else-not-leaving-i}

pub loop-i-init : goal.loop-i-init
loop-i-init g c =
    let leaving = c.args.leaving.now in
    let most = leaving.first.at_most in
    packed_none _ _ (omega (arith, leaving.long, leaving.few)) leaving.first.none_before

pub loop-i-preserved : goal.loop-i-preserved
loop-i-preserved g c =
    let so_far = c.loop-i.invariant in
    let leaving = c.args.leaving.now in
    elim c.if-not-leaving-i.branch [
      | then-not-leaving-i w ↦
          rw
          (w.values-is, w.kept-is)
          (packed_stays so_far (omega (arith, leaving.long, leaving.few)) (omega arith) w.if-not-leaving-i.true w.index-values-i.result w.index-values-i.is)
      | else-not-leaving-i w ↦
          rw (w.values-is, w.kept-is) (packed_goes so_far (omega (arith, leaving.long, leaving.few)) (omega arith) w.if-not-leaving-i.false)
    ]
