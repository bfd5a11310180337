-- `timeline::columns::keep_staying` meets its contract: behind those that stay blanks are written.
use Rattle.timeline.proofs.Packed.{kept_is}
use Rattle.timeline.proofs.columns.keep_staying.Goals as goal

pub returns : goal.returns
returns g c =
    kept_is c.args.leaving.now.few c.requires c.pack-kept.ensures _ c.loop-value.auto.value-items c.loop-value.invariant c.loop-value-test.false
