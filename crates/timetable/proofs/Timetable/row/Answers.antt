-- `timetable::Timetable::row` meets its contract: the figures of the row on the line are those of its columns.
use mathlib.Core.Path.{sym}
use native.Mathlib.Omega.{arith}
use Rattle.timetable.proofs.Standing.{count_is, jobs_are, row_there, booking_at}
use Rattle.timetable.proofs.Carried.{job_at}
use Rattle.timetable.proofs.Timetable.row.Goals as goal

pub returns : goal.returns
returns c s st is =
    let at = c.args.at in
    c.row.ensures
    s
    _
    is.sound
    (is.bounded.rows _ (row_there is at c.requires))
    (rw c.span-begin.ensures.is (booking_at is at c.requires))
    (sym (job_at _ (jobs_are is) at (omega (arith, count_is is))))
