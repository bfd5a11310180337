-- `script::run_calls` meets its contract: in a turn an act is read, called and answered.
use mathlib.Core.Path.{sym}
use Rattle.script.proofs.Running.{running_none, running_ends, running_stops, running_less, running_called}
use Rattle.script.proofs.run_calls.Goals as goal

pub loop-at-init : goal.loop-at-init
loop-at-init c = running_none c.requires c.new-timetable.ensures

pub returns-in-Err : goal.returns-in-Err
returns-in-Err c = running_stops c.loop-at.invariant c.loop-at-test.true c.in-Err.stop (sym c.in-Err.ensures) c.put_refusal.ensures

pub loop-at-smaller : goal.loop-at-smaller
loop-at-smaller c = running_less c.loop-at.invariant c.loop-at-test.true c.in-Ok.act.value _ _ (sym c.in-Ok.ensures)

pub loop-at-preserved : goal.loop-at-preserved
loop-at-preserved c =
    running_called c.loop-at.invariant c.loop-at-test.true c.in-Ok.act.value _ _ (sym c.in-Ok.ensures)
    ((rw c.default_setup-setup.ensures at c.called-answer.ensures) _ c.loop-at.invariant.timetable)
    c.from.ensures
    c.put_reply-end.ensures

pub returns : goal.returns
returns c = running_ends c.loop-at.invariant c.loop-at-test.false c.put_listing.ensures
