-- Between functions: what the two functions that make a booking ask and give.
use Rattle.std.specs.Prelude.{◌≡◌, List, ℕ, ◌≤◌}
use Rattle.rules.specs.declared.Row.{Row}
use Rattle.rules.specs.declared.Message.{Message}
use Rattle.rules.specs.declared.Job.{Job}
use Rattle.rules.specs.declared.Setup.{Setup}
use Rattle.rules.specs.Words.{largest_time, largest_volume, most_tasks, run_time}
use Rattle.rules.specs.Placing.{task_booking, message_booking, machine_for}
use Rattle.rules.specs.Bounds.{Sound, Between}
use Rattle.timeline.specs.Timeline.{tick_limit}
use Rattle.timeline.specs.declared.bookings.Booking.{Booking}
use Rattle.timeline.specs.Bookings.{booking_of}
use Rattle.drcd.specs.declared.inputs.Input.{Input}
use Rattle.drcd.specs.Inputs.{input_of}

pub record AskTaskBooking (s : Setup) (task m start run : ℕ) : Type 0 where
  pub task_at_most : task ≤ most_tasks
  pub sound : Sound s
  pub there : Between 1 s.table.machines m
  pub start_at_most : start ≤ tick_limit
  pub run_at_most : run ≤ largest_time

-- for every job with the run time
abbrev pub TaskBookingIs : Setup → (task m start run : ℕ) → Booking → Type 0
TaskBookingIs s task m start run r = (j : Job) → run_time j task m ≡ run → r ≡ booking_of (task_booking s j task m start)

pub record AskMessageBooking (s : Setup) (receiver m : ℕ) (input : Input) (start : ℕ) : Type 0 where
  pub receiver_at_most : receiver ≤ most_tasks
  pub sender_at_most : input.sender ≤ most_tasks
  pub sound : Sound s
  pub source : Between 1 s.table.machines input.source
  pub there : Between 1 s.table.machines m
  pub volume : input.volume ≤ largest_volume
  pub start_at_most : start ≤ tick_limit

abbrev pub MessageBookingIs : Setup → (receiver m : ℕ) → Input → (start : ℕ) → Booking → Type 0
MessageBookingIs s receiver m input start r =
    (j : Job) (new : List Row) (msg : Message) → msg.receiver ≡ receiver → input ≡ input_of new msg →
    r ≡ booking_of (message_booking s j msg (machine_for new msg.sender) m start)
