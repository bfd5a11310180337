-- Between functions: a row but for its job.
use Rattle.std.specs.Prelude.{◌≡◌, ℕ}
use Rattle.rules.specs.declared.Row.{Row}
use Rattle.rules.specs.declared.Setup.{Setup}
use Rattle.rules.specs.Bounds.{Sound, RowInRange}
use Rattle.timeline.specs.declared.bookings.Booking.{Booking}
use Rattle.timeline.specs.RowLine.{row_begin, row_end}

-- its begin and end on the timeline, what holds it, and its cost
abbrev pub booking_of : Row → Booking
booking_of row = record { begin = row_begin row; end = row_end row; holder = row.holder; cost = row.cost }

-- whichever row in range has the figures and the number
abbrev pub RowIs : Booking → (job : ℕ) → Row → Type 0
RowIs booking job r = (s : Setup) (row : Row) → Sound s → RowInRange s row → booking ≡ booking_of row → row.job ≡ job → r ≡ row
