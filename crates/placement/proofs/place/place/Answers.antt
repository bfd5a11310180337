-- `placement::place::place` meets its contract: before each turn, what is left of the rules' placing starts from the rows booked so far.
use Rattle.std.proofs.Common.{◌<◌, arith, add-one}
use Rattle.rules.specs.Words.{most_tasks}
use Rattle.placement.proofs.Turning.{turning_none, turning_all, turning_over, index_few, release_room, gather_asked, choose_asked, turning_late, append_asked}
use Rattle.placement.proofs.Turning.{cost_room, turning_more}
use Rattle.placement.proofs.place.place.Goals as goal
use Rattle.placement.proofs.place.place.Goals.{In-Some, else-loop-test, then-loop-test+in_default}

pub loop-init : goal.loop-init
loop-init c = turning_none c.requires c.clear.ensures

-- the next task's index
few : (c : In-Some) → c.in-Some.t < most_tasks
few c = index_few c.requires c.loop.invariant c.loop-test.true c.in-Some.t c.in-Some.ensures

pub offset_bounds-job-t : goal.offset_bounds-job-t
offset_bounds-job-t c = omega (arith, few c)

pub bounds-job-t : goal.bounds-job-t
bounds-job-t c = few (goal.at.bounds-job-t c).In-Some

pub overflow_add-release : goal.overflow_add-release
overflow_add-release c = omega (arith, release_room c.requires c.loop.invariant c.loop-test.true c.in-Some.t c.in-Some.ensures)

pub gather-requires : goal.gather-requires
gather-requires c = gather_asked c.requires c.loop.invariant c.loop-test.true c.in-Some.t c.in-Some.ensures

pub choose-requires : goal.choose-requires
choose-requires c = choose_asked c.requires c.loop.invariant c.loop-test.true c.in-Some.t c.in-Some.ensures c.gather.ensures

pub overflow_add-result : goal.overflow_add-result
overflow_add-result c = omega (arith, few (goal.at.overflow_add-result c).In-Some)

pub returns-in_default-choose : goal.returns-in_default-choose
returns-in_default-choose c =
    turning_late
    c.requires
    c.loop.invariant
    c.loop-test.true
    c.in-Some.t
    c.in-Some.ensures
    c.gather.ensures
    c.choose.ensures
    c.in_default-choose.is
    c.len-rows.ensures.value

pub append-requires : goal.append-requires
append-requires c =
    append_asked c.requires c.loop.invariant c.loop-test.true c.in-Some.t c.in-Some.ensures c.gather.ensures c.choose.ensures c.in-Some-choose.is

pub offset_bounds-spots-t : goal.offset_bounds-spots-t
offset_bounds-spots-t c = omega (arith, few (goal.at.offset_bounds-spots-t c).In-Some)

pub bounds-spots-t : goal.bounds-spots-t
bounds-spots-t c = few (goal.at.bounds-spots-t c).In-Some

pub overflow_add-cost : goal.overflow_add-cost
overflow_add-cost c =
    omega (arith, cost_room c.requires c.loop.invariant c.loop-test.true c.in-Some.t c.in-Some.ensures c.gather.ensures c.choose.ensures c.in-Some-choose.is)

pub loop-preserved : goal.loop-preserved
loop-preserved c =
    rw
    (add-one c.loop.counter)
    (turning_more c.requires c.loop.invariant c.loop-test.true c.in-Some.t c.in-Some.ensures c.gather.ensures c.choose.ensures c.in-Some-choose.is
    c.append.ensures)

pub returns : goal.returns
returns c =
    elim c.loop-test.branch [
      | else-loop-test w ↦ turning_all c.requires c.loop.invariant w.loop-test.false c.len.ensures.value
      | then-loop-test+in_default w ↦ turning_over c.requires c.loop.invariant w.loop-test.true w.in_default.ensures c.len.ensures.value
    ]
