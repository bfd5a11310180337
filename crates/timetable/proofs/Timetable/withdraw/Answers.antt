-- `timetable::Timetable::withdraw` meets its contract: a refused withdrawal, or the job's rows taken out.
use mathlib.Core.Path.{refl}
use native.Mathlib.Omega.{arith}
use Rattle.std.proofs.lemmas.Result.{err_from_is_err_and}
use Rattle.timetable.proofs.Fresh.{nothing}
use Rattle.timetable.proofs.Standing.{refused_goes}
use Rattle.timetable.proofs.Left.{stands, withdraw_asked, withdraw_goes}
use Rattle.timetable.proofs.Timetable.withdraw.Goals as goal

pub returns-in_err-job : goal.returns-in_err-job
returns-in_err-job c s st is =
    let p = err_from_is_err_and c.from_residual.result c.from_residual.ensures.1 in
    rw (p.1, p.2) (refused_goes is _ (c.in_err-job.ensures.refuses _ refl s st is))

pub offset_bounds-self-from : goal.offset_bounds-self-from
offset_bounds-self-from c = let below = stands c.requires.is c.in_ok-job.ensures in omega arith

pub bounds-self-from : goal.bounds-self-from
bounds-self-from c = let below = stands c.requires.is c.in_ok-job.ensures in omega arith

pub take_out-requires : goal.take_out-requires
take_out-requires c = withdraw_asked c.requires.is c.in_ok-job.ensures c.rows_of-leaving.ensures.rows c.rows_of-leaving.ensures.count

pub returns : goal.returns
returns c s st is =
    rw (nothing c.default.ensures) (withdraw_goes is c.in_ok-job.ensures c.rows_of-leaving.ensures.rows c.take_out.ensures c.soonest_left-self.ensures)

pub rows_of-leaving-requires-clause-within : goal.rows_of-leaving-requires-clause-within
rows_of-leaving-requires-clause-within c =
    let below = (c.in_ok-job.ensures.place _ _ refl).below _ refl in omega arith

pub rows_of-leaving-requires-clause-before : goal.rows_of-leaving-requires-clause-before
rows_of-leaving-requires-clause-before c =
    rw (c.in_ok-job.ensures.job_is _ _ refl) ((c.in_ok-job.ensures.place _ _ refl).none_before _ refl)
