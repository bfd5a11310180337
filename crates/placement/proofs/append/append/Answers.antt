-- `placement::append::append` meets its contract: after i turns the rows of the first i messages follow those of the job, and at the end the task's own.
use Rattle.std.proofs.Common.{arith, add-one}
use Rattle.placement.proofs.Appending.{appending_none, appending_same, appending_more, appended_all}
use Rattle.placement.proofs.Appending.{task_at_most, message_asked, message_push_asked, own_lasts, own_asked, own_push_asked}
use Rattle.placement.proofs.append.append.Goals as goal

pub overflow_add-task : goal.overflow_add-task
overflow_add-task c = omega (arith, task_at_most c.requires)

pub loop-i-init : goal.loop-i-init
loop-i-init c = appending_none c.requires

pub message_booking-requires : goal.message_booking-requires
message_booking-requires c = message_asked c.requires c.loop-i.invariant c.as_slice-input-items.ensures.value c.loop-i-test.true c.in-Some.is

pub push-requires : goal.push-requires
push-requires c = message_push_asked c.requires c.loop-i.invariant c.as_slice-input-items.ensures.value c.loop-i-test.true c.in-Some.is

pub loop-i-preserved : goal.loop-i-preserved
loop-i-preserved c =
    let ask = c.requires in
    let so_far = c.loop-i.invariant in
    let lent = c.as_slice-input-items.ensures.value in
    let below = c.loop-i-test.true in
    elim c.match-starts-i.branch [
      | goal.in-Some w ↦
          rw (w.line-is, w.own-is, add-one c.loop-i.i) (appending_more ask so_far lent below w.in-Some.is w.message_booking.ensures w.push.ensures)
      | goal.in_default w ↦ rw (w.line-is, w.own-is, add-one c.loop-i.i) (appending_same ask so_far lent below w.in_default.is)
    ]

pub overflow_sub-run : goal.overflow_sub-run
overflow_sub-run c = own_lasts c.requires

pub task_booking-requires : goal.task_booking-requires
task_booking-requires c = own_asked c.requires

pub push-requires-2 : goal.push-requires-2
push-requires-2 c = own_push_asked c.requires c.loop-i.invariant c.as_slice-input-items.ensures.value c.loop-i.auto.i-end c.loop-i-test.false

pub returns : goal.returns
returns c =
    appended_all
    c.requires
    c.loop-i.invariant
    c.as_slice-input-items.ensures.value
    c.loop-i.auto.i-end
    c.loop-i-test.false
    c.task_booking.ensures
    c.push-2.ensures
