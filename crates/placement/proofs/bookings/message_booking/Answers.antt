-- `placement::bookings::message_booking` meets its contract: with the link's time and rate the row is the rules' one.
use Rattle.std.proofs.Common.{refl, add_assoc}
use Rattle.rules.specs.Words.{held_by}
use Rattle.placement.proofs.bookings.message_booking.Goals as goal

pub returns : goal.returns
unfolding held_by
returns c j new msg receiver is = rw (add_assoc, c.link_number.ensures, c.link_time.ensures, c.link_rate.ensures, receiver, is) refl
