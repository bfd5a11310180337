-- `timetable::Timetable::withdrawal` meets its contract: each way out is the first test that refuses, or the job is held and has not begun.
use native.Mathlib.Omega.{arith}
use Rattle.timetable.proofs.Judging.{judged_past, judged_absent, judged_begun, judged_free}
use Rattle.timetable.proofs.Timetable.withdrawal.Goals as goal

pub returns-in_default : goal.returns-in_default
returns-in_default c = judged_past _ _ (let over = c.in_default.ensures in omega arith)

pub returns-in_default-place_of : goal.returns-in_default-place_of
returns-in_default-place_of c = rw (c.in-Ok.ensures.1) at (judged_absent c.args.self.now _ c.in_default-place_of.ensures)

pub returns-then-has_begun : goal.returns-then-has_begun
returns-then-has_begun c = rw (c.in-Ok.ensures.1) at (judged_begun c.args.self.now c.in-Ok.job c.in-Some.ensures c.if-has_begun.ensures)

pub returns : goal.returns
returns c = rw (← c.in-Ok.ensures.1) (judged_free c.args.self.now c.in-Ok.job c.in-Some.ensures c.if-has_begun.ensures)
