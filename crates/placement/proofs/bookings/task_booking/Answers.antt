-- `placement::bookings::task_booking` meets its contract: with the machine's rate and the run time the row is the rules' one.
use Rattle.std.proofs.Common.{refl, add_assoc}
use Rattle.rules.specs.Words.{held_by}
use Rattle.placement.proofs.bookings.task_booking.Goals as goal

pub returns : goal.returns
unfolding held_by
returns c j runs = rw (add_assoc, c.rate.ensures, runs) refl
