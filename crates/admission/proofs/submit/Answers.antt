-- `admission::submit` meets its contract: refused by the tests or after placing, or the new rows have joined the timetable.
use native.Mathlib.Omega.{arith}
use Rattle.std.proofs.lemmas.Result.{err_from_is_err_and}
use Rattle.admission.proofs.Submitting.{early_refused, late_refused, total_room, accepted_submit}
use Rattle.admission.proofs.submit.Goals as goal

pub returns-in_err-tested : goal.returns-in_err-tested
returns-in_err-tested c =
    let p = err_from_is_err_and c.from_residual.result c.from_residual.ensures.1 in
    rw (p.1, p.2) (early_refused c.in_err-tested.ensures _)

pub returns-in_err-admission : goal.returns-in_err-admission
returns-in_err-admission c =
    let p = err_from_is_err_and c.from_residual-in_err-admission.result c.from_residual-in_err-admission.ensures.1 in
    rw (p.1, p.2) (late_refused c.in_ok-tested.ensures c.in_err-admission.ensures)

pub overflow_add-timetable : goal.overflow_add-timetable
overflow_add-timetable c =
    omega (
      arith,
      total_room
          c.in_ok-tested.ensures
          c.in_ok-admission.ensures
          c.count-held.ensures.is
          (rw c.as_slice.ensures.value at c.last_of-last.ensures)
          c.join.ensures
          c.requires,
    )

pub returns : goal.returns
returns c =
    accepted_submit
    c.in_ok-tested.ensures
    c.in_ok-admission.ensures
    c.count-held.ensures.is
    (rw c.as_slice.ensures.value at c.last_of-last.ensures)
    c.join.ensures
    c.min-timetable.ensures
