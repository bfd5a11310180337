-- `Register::advance` meets its contract: the timetable is lent, and what is left is left after its call.
use Rattle.rules.specs.Refusals.{advances}
use Rattle.reservation.proofs.Values.{timetable_kept}
use Rattle.reservation.proofs.Leaving.{clock_move_leaves}
use Rattle.reservation.proofs.Register.advance.Goals as goal

pub left_after-requires : goal.left_after-requires
left_after-requires c =
    let goes = c.advance-answer.ensures _ _ (timetable_kept c.self.invariant c.self.view_is) in
    record { call = advances _; goes = goes; leaves = clock_move_leaves _ _ _ }

pub returns : goal.returns
returns c =
    let goes = c.advance-answer.ensures _ _ (timetable_kept c.self.invariant c.self.view_is) in
    c.left_after.ensures (advances _) goes (clock_move_leaves _ _ _)
