-- `Register::withdraw` meets its contract: the timetable is lent, and what is left is left after its call.
use Rattle.rules.specs.Refusals.{withdraws}
use Rattle.reservation.proofs.Values.{timetable_kept}
use Rattle.reservation.proofs.Leaving.{withdrawal_leaves}
use Rattle.reservation.proofs.Register.withdraw.Goals as goal

pub left_after-requires : goal.left_after-requires
left_after-requires c =
    let goes = c.withdraw-answer.ensures _ _ (timetable_kept c.self.invariant c.self.view_is) in
    record { call = withdraws _; goes = goes; leaves = withdrawal_leaves _ _ _ }

pub returns : goal.returns
returns c =
    let goes = c.withdraw-answer.ensures _ _ (timetable_kept c.self.invariant c.self.view_is) in
    c.left_after.ensures (withdraws _) goes (withdrawal_leaves _ _ _)
